use Rattle.fb_wanted.specs.LookUp.{NoneIsBetween}
use Rattle.fb_wanted.proofs.tracks.Tracks.first_between.Given as goal

-- none of the cylinders seen has a block
abbrev pub invariant-loop-cylinder : goal.invariant-loop-cylinder
invariant-loop-cylinder l = NoneIsBetween l.self l.start l.cylinder
