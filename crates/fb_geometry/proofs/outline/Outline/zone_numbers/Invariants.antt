use Rattle.fb_geometry.proofs.Words.{AreFirstZoneNumbers}
use Rattle.fb_geometry.proofs.outline.Outline.zone_numbers.Given as goal

abbrev pub invariant-loop-cylinder : goal.invariant-loop-cylinder
invariant-loop-cylinder l = AreFirstZoneNumbers l.self.zones l.numbers.items l.cylinder
