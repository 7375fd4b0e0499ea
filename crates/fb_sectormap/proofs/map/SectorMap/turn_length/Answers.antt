use Rattle.fb_sectormap.proofs.Words.{◌≡◌, ◌+◌, ◌-◌, ap, sym, ◌∙◌, arith, place_at, is_later}
use Rattle.fb_sectormap.proofs.Turns.{later-inside, later-through}
use Rattle.fb_sectormap.proofs.map.SectorMap.turn_length.Goals as goal

pub loop-length-init : goal.loop-length-init
loop-length-init c =
    let span = c.args.span.now in
    let is = c.requires.span in
    record {
      some = omega (arith, c.min-length.ensures, c.requires.before);
      bound = omega (arith, c.min-length.ensures);
      span = is;
      end = λ less. omega (arith, c.min-length.ensures, c.requires.from, c.requires.before);
      goes_on = λ i some less. later-inside c.args.self.now span.first span.stretch.place span.stretch.count is.slot is.next is.one_turn
          c.args.first c.requires.from i some (omega (arith, c.min-length.ensures));
    }

pub loop-length-preserved : goal.loop-length-preserved
loop-length-preserved c =
    let disk = c.args.self.now in
    let l = c.loop-length in
    let next = c.span.result in
    let is = c.span.ensures.span in
    let end = l.invariant.end c.loop-length-test.true in
    record {
      some = omega (arith, l.invariant.some);
      bound = omega (arith, c.min-length-in-loop-length.ensures, c.loop-length-test.true);
      span = is;
      end = λ less. omega (arith, c.min-length-in-loop-length.ensures, c.span.ensures.first);
      goes_on = later-through disk next.first next.stretch.place next.stretch.count is.slot is.next is.one_turn c.args.first l.length
          c.min-length-in-loop-length.result
          (sym c.span.ensures.first) (omega (arith, c.min-length-in-loop-length.ensures)) l.invariant.goes_on
          (ap (λ at. is_later disk (place_at disk at) (place_at disk next.first))
          (let last : next.first - 1 ≡ c.args.first + (l.length - 1) = omega (arith, c.span.ensures.first, l.invariant.some) in last)
          ∙ ap (λ p. is_later disk p (place_at disk next.first)) (sym c.place_near-before.ensures.value)
          ∙ ap (is_later disk c.place_near-before.result) (sym is.first)
          ∙ sym c.is_later.ensures ∙ c.if-not-is_later.false);
    }
