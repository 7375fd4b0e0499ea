use Rattle.fb_puts.proofs.Words.{◌+◌, map, ap, arith, err_from_is_err_and, lines_of, lines_from, puts_of, range_of, progress}
use Rattle.fb_puts.specs.Reader.{terms_of}
use Rattle.fb_puts.proofs.LinesRead.{known_apart, read_more, read_error, read_end}
use Rattle.fb_puts.proofs.reader.read_lines.Goals as goal

pub returns-in_err-read_line-clause-known : goal.returns-in_err-read_line-clause-known
returns-in_err-read_line-clause-known c =
    let l = c.loop-line in
    let p = err_from_is_err_and c.from_residual.result c.from_residual.ensures.1 in
    let terms = terms_of c.args.terms.now in
    rw (p.1, p.2) (λ known.
    let still = l.invariant.known known in
    read_error terms (l.number + 1) (progress l.reader) (lines_of l.rest.now) (puts_of terms c.args.bytes.now)
    (progress c.read_line.new.self) c.in-Some.line.now (lines_of c.in-Some.others.now) c.in_err-read_line.field-0.0 c.in-Some.ensures.line
    (c.in_err-read_line.ensures.known still)
    (l.invariant.read (known_apart l.reader.taken (map range_of l.reader.puts.items) still l.invariant.reader.taken)))

pub loop-line-init : goal.loop-line-init
loop-line-init c = record {
  read = λ apart. ap (λ p. lines_from (terms_of c.args.terms.now) 1 p (lines_of c.args.bytes.now)) c.requires.start;
  known = λ known. known;
  number = omega arith;
  reader = c.requires.reader;
}

pub loop-line-preserved : goal.loop-line-preserved
loop-line-preserved c =
    let l = c.loop-line in
    let terms = terms_of c.args.terms.now in
    record {
      read = λ apart.
          let both = c.in_ok-read_line.ensures.apart apart in
          read_more terms (l.number + 1) (progress l.reader) (lines_of l.rest.now) (puts_of terms c.args.bytes.now)
          (progress c.read_line.new.self) c.in-Some.line.now (lines_of c.in-Some.others.now) c.in-Some.ensures.line both.1
          (l.invariant.read both.0);
      known = λ known. c.in_ok-read_line.ensures.still (l.invariant.known known);
      number = omega (arith, c.in-Some.ensures.shorter);
      reader = c.in_ok-read_line.ensures.sound;
    }

pub returns-clause-apart : goal.returns-clause-apart
returns-clause-apart c = λ apart.
    let l = c.loop-line in
    let terms = terms_of c.args.terms.now in
    read_end terms (l.number + 1) (progress l.reader) (lines_of l.rest.now) (puts_of terms c.args.bytes.now)
    c.in_default.ensures.line (l.invariant.read apart)

pub returns-clause-known : goal.returns-clause-known
returns-clause-known c = λ known.
    let l = c.loop-line in
    let terms = terms_of c.args.terms.now in
    read_end terms (l.number + 1) (progress l.reader) (lines_of l.rest.now) (puts_of terms c.args.bytes.now) c.in_default.ensures.line
    (l.invariant.read (known_apart l.reader.taken (map range_of l.reader.puts.items) (l.invariant.known known) l.invariant.reader.taken))

pub returns-clause-known_apart : goal.returns-clause-known_apart
returns-clause-known_apart c = λ known.
    let l = c.loop-line in
    known_apart l.reader.taken (map range_of l.reader.puts.items) (l.invariant.known known) l.invariant.reader.taken
