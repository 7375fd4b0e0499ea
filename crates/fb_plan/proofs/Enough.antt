-- For each leave of a way there is one of the few that are tried which is no later and catches as much.
use Rattle.fb_plan.proofs.Words.{◌≡◌, ℕ, ◌≤◌, List, refl, Disk, Block, Gap, is_caught, value, Way, Source, Over, plan_by, early_track}
use Rattle.fb_plan.proofs.Words.{arrival}
use Rattle.fb_model.proofs.Leaves.{StandsFor, covered, enough as enough_leaves}

-- a plan's catches by its way
caught-by : (disk : Disk) (gap : Gap) (way : Way) (u : ℕ) (block : Block)
    → is_caught disk gap (plan_by way u) block ≡ covered disk gap (early_track gap way) (arrival disk gap way) u block
caught-by disk gap Source u block = refl
caught-by disk gap (Over track) u block = refl

-- of the leaves of a way, each has one that is tried, no later, and of no less value
pub enough : (disk : Disk) (gap : Gap) (way : Way) (wanted : List Block) (u : ℕ) → arrival disk gap way ≤ u
    → (v : ℕ) × StandsFor disk (early_track gap way) (arrival disk gap way) u wanted v
    × (value disk gap wanted (plan_by way u) ≤ value disk gap wanted (plan_by way v))
enough disk gap way wanted u le =
    enough_leaves disk gap (plan_by way) (early_track gap way) (arrival disk gap way) (caught-by disk gap way) wanted u le
