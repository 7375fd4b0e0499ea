-- What a sector holds before any write, which number a write leaves, and what a sector holds after one.
use Rattle.std.specs.Prelude.{ℕ, ◌+◌, List, Bool, ◌&&◌, ◌==◌, nat_le, nat_lt, if◌then◌else◌}
use Rattle.std.specs.List.{list_any}
use Rattle.fb_units.specs.declared.types.Name.{Name}
use Rattle.fb_units.specs.declared.types.Name.TheVariants.{Traced, Promoted}
use Rattle.fb_store.specs.declared.content.Content.{Content}
use Rattle.fb_store.specs.declared.content.Content.TheVariants.{Filled, Unreadable}

-- the content of a sector that no write has passed: unreadable if it is latent, else the fill of writer 0
abbrev pub unwritten : List ℕ → ℕ → Content
unwritten latent lbn = if list_any (λ bad. bad == lbn) latent then Unreadable else Filled 0

-- the sector is one of n from the first on
abbrev pub is_within : ℕ → ℕ → ℕ → Bool
is_within first n lbn = nat_le first lbn && nat_lt lbn (first + n)

-- the number of a request of the trace; a promoted read writes nothing, so its 0 is never left anywhere
abbrev pub writer_of : Name → ℕ
writer_of (Traced number) = number
writer_of (Promoted number) = 0

-- what a sector holds after a write of n sectors from the first on
abbrev pub after_write : ℕ → ℕ → ℕ → ℕ → Content → Content
after_write first n writer lbn before = if is_within first n lbn then Filled writer else before
