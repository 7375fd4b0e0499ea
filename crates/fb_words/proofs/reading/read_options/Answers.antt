use Rattle.std.proofs.Common.{◌+◌, map, arith, subst}
use Rattle.std.specs.String.{string_bytes}
use Rattle.std.proofs.lemmas.Result.{err_from_is_err_and}
use Rattle.fb_words.specs.Given.{options}
use Rattle.fb_words.specs.Options.{no_options}
use Rattle.fb_words.specs.Progress.{progress}
use Rattle.fb_words.specs.Reading.{ready, options_from}
use Rattle.fb_words.specs.Verdict.{Agrees}
use Rattle.fb_words.proofs.WordsRead.{read_more, read_fault, read_end}
use Rattle.fb_words.proofs.reading.read_options.Goals as goal

pub returns-in_err-so_far : goal.returns-in_err-so_far
returns-in_err-so_far c =
    let l = c.loop-index in
    let p = err_from_is_err_and c.from_residual.result c.from_residual.ensures.1 in
    rw (p.1, p.2) (read_fault string_bytes c.args.verb (l.index + 2)
    (progress l.so_far) c.args.words.now l.index c.index-words-index.result c.as_str.result.now
    (options_from c.args.verb 2 (ready no_options) (map string_bytes c.args.words.now)) c.in_err-so_far.field-0.0 c.loop-index-test.true
    c.index-words-index.is c.as_str.ensures.value c.in_err-so_far.ensures l.invariant)

pub loop-index-preserved : goal.loop-index-preserved
loop-index-preserved c =
    let l = c.loop-index in
    read_more string_bytes c.args.verb (l.index + 2) (l.index + 1 + 2) (progress l.so_far)
    (progress c.in_ok-so_far.so_far) c.args.words.now l.index c.index-words-index.result c.as_str.result.now
    (options_from c.args.verb 2 (ready no_options) (map string_bytes c.args.words.now))
    (omega arith) c.loop-index-test.true c.index-words-index.is c.as_str.ensures.value c.in_ok-so_far.ensures l.invariant

pub returns : goal.returns
returns c =
    let l = c.loop-index in
    subst (Agrees options c.at_end.result) (read_end string_bytes c.args.verb (l.index + 2) (progress l.so_far) c.args.words.now l.index
    (options_from c.args.verb 2 (ready no_options) (map string_bytes c.args.words.now))
    (omega (arith, c.loop-index-test.false)) l.invariant) c.at_end.ensures
