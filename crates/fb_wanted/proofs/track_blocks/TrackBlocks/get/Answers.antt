use Rattle.fb_wanted.proofs.Words.{◌<◌, ◌∙◌, ap, sym, subst, length, slice_get, get_or, is_of_track}
use Rattle.fb_wanted.proofs.Standing.{index_within, index_there, index_read, read_at}
use Rattle.fb_wanted.proofs.track_blocks.TrackBlocks.get.Goals as goal

pub bounds-self-inside-i : goal.bounds-self-inside-i
bounds-self-inside-i c =
    let room = subst (λ es. c.args.i < length es) (sym c.self.view_is) c.requires in
    index_there (is_of_track c.self.inside.track) c.self.inside.entries.now c.self.inside.indexes.now c.args.i c.self.invariant.0 room

pub bounds-self-inside-self-inside : goal.bounds-self-inside-self-inside
bounds-self-inside-self-inside c =
    let test = is_of_track c.self.inside.track in
    let room = subst (λ es. c.args.i < length es) (sym c.self.view_is) c.requires in
    index_within test c.self.inside.entries.now c.args.i (get_or c.self.inside.indexes.now c.args.i 0)
    (index_read test c.self.inside.entries.now c.self.inside.indexes.now c.args.i c.self.invariant.0 room)

pub returns : goal.returns
returns c =
    let room = subst (λ es. c.args.i < length es) (sym c.self.view_is) c.requires in
    ap (λ es. slice_get es c.args.i) (sym c.self.view_is)
    ∙ read_at (is_of_track c.self.inside.track) c.self.inside.entries.now c.self.inside.indexes.now c.args.i _ c.self.invariant.0 room
