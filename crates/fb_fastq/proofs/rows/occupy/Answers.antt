use Rattle.fb_fastq.proofs.Words.{◌<◌, length, arith, nat_tests}
use Rattle.fb_fastq.proofs.OneMore.{row_there}
use Rattle.fb_fastq.proofs.rows.occupy.Goals as goal

pub returns-else-is_empty-clause-has : goal.returns-else-is_empty-clause-has
returns-else-is_empty-clause-has c =
    let rows = c.args.rows.now in
    let row = c.index-rows-number.result in
    let there = row_there rows c.args.number row c.requires.there c.index-rows-number.is in
    let some : 0 < length row.items = grind (arith, nat_tests) in c.requires.occupied c.args.number row there some
