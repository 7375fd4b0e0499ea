use Rattle.fb_detour.proofs.Words.{arith}
use Rattle.std.proofs.Math.Nat.{pow-le-pow_right}
use Rattle.fb_detour.proofs.search.width_of.Goals as goal

pub pow-requires : goal.pow-requires
pow-requires c = omega (arith, pow-le-pow_right {n = 8} (omega arith) {i = c.args.level} {j = 7} c.requires.shallow)
