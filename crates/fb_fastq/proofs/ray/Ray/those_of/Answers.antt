use Rattle.fb_fastq.proofs.Keys.{is_from, from_is, is_before, before_is}
use Rattle.fb_fastq.proofs.ray.Ray.those_of.Goals as goal

pub returns-in-Above-clause-those : goal.returns-in-Above-clause-those
returns-in-Above-clause-those c = rw c.in-Above.is (record {
  test = _;
  is = c.range.ensures.between tt;
  sound = λ w. is_from c.args.self.now.start w.0.0 w.0.1;
  whole = λ w. from_is c.args.self.now.start w.0.0 w.0.1;
})

pub returns-in-Below-clause-those : goal.returns-in-Below-clause-those
returns-in-Below-clause-those c = rw c.in-Below.is (record {
  test = _;
  is = c.range-in-Below.ensures.between tt;
  sound = λ w. is_before c.args.self.now.start w.0.0 w.0.1;
  whole = λ w. before_is c.args.self.now.start w.0.0 w.0.1;
})
