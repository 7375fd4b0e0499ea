use Rattle.fb_bgwrite.proofs.Words.{arith}
use Rattle.fb_bgwrite.proofs.Dividing.{narrower}
use Rattle.fb_bgwrite.proofs.search.+visit.Goals as goal

pub visit-best-requires : goal.visit-best-requires
visit-best-requires n c =
    let middle = c.split_at-middle in
    let own = c.narrowed-high in
    let inside = narrower c.args.search.now.gap.now middle.result c.args.part.end own.result.from own.result.end
    own.ensures.after own.ensures.within in
    (omega (arith, inside, middle.ensures.high, c.decreases), (c.requires.search, (own.ensures.part, c.requires.best)))

pub visit-requires : goal.visit-requires
visit-requires n c =
    let middle = c.split_at-middle in
    let own = c.narrowed-low in
    let inside = narrower c.args.search.now.gap.now c.args.part.from middle.result own.result.from own.result.end
    own.ensures.after own.ensures.within in
    (omega (arith, inside, middle.ensures.low, c.decreases), (c.requires.search, (own.ensures.part, c.visit-best.ensures.valued)))

pub visit-best-requires-2 : goal.visit-best-requires-2
visit-best-requires-2 n c =
    let middle = c.split_at-middle in
    let own = c.narrowed-low in
    let inside = narrower c.args.search.now.gap.now c.args.part.from middle.result own.result.from own.result.end
    own.ensures.after own.ensures.within in
    (omega (arith, inside, middle.ensures.low, c.decreases), (c.requires.search, (own.ensures.part, c.requires.best)))

pub visit-requires-2 : goal.visit-requires-2
visit-requires-2 n c =
    let middle = c.split_at-middle in
    let own = c.narrowed-high in
    let inside = narrower c.args.search.now.gap.now middle.result c.args.part.end own.result.from own.result.end
    own.ensures.after own.ensures.within in
    (omega (arith, inside, middle.ensures.high, c.decreases), (c.requires.search, (own.ensures.part, c.visit-best-2.ensures.valued)))
