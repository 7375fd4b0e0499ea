use Rattle.fb_units.proofs.Lists.{none_of_any}
use Rattle.fb_puts.proofs.Words.{sym, ◌∙◌, arith, share}
use Rattle.fb_puts.specs.Reader.{terms_of}
use Rattle.fb_puts.proofs.reader.judged_reserve.Goals as goal

pub returns-clause-next : goal.returns-clause-next
returns-clause-next c = record {
  first = c.requires.within.first;
  on_disk = c.in_ok-some_on_disk.ensures.on_disk;
  few = omega arith;
  untouched = none_of_any (share c.args.range) (terms_of c.args.terms.now).asked (sym c.is_touched.ensures ∙ c.if-is_touched.false);
}
