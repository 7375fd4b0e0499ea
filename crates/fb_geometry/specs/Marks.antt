-- Marked positions of cylinders, in ascending order.
use Rattle.std.specs.Prelude.{◌≡◌, ℕ, ◌+◌, ◌-◌, ◌*◌, false, List, Bool, true, ◌&&◌, ◌||◌, ◌==◌, nat_lt, map, filter}
use Rattle.std.specs.List.{AllByRecursion}
use Rattle.std.specs.List.Sorted.{IsPermutation}
use Rattle.fb_units.specs.declared.types.Place.{Place}
use Rattle.fb_geometry.specs.declared.marks.Mark.{Mark}
use Rattle.fb_geometry.specs.Shape.{Shape, slots_at, turn_position}
use Rattle.fb_geometry.specs.Faults.{is_outside, is_place_before}
use Rattle.fb_geometry.specs.Slips.{Pairwise, rank}

-- marks are ordered by cylinder, and then by position
abbrev pub is_mark_before : Mark → Mark → Bool
is_mark_before a b = nat_lt a.cylinder b.cylinder || ((a.cylinder == b.cylinder) && nat_lt a.position b.position)

-- each mark is before all that follow
abbrev pub AreInOrder : List Mark → Type 0
AreInOrder marks = Pairwise (λ mark later. is_mark_before mark later ≡ true) marks

-- the positions of marks
abbrev pub positions : List Mark → List ℕ
positions marks = map (λ mark. mark.position) marks

-- the marks of a cylinder
abbrev pub marks_on : ℕ → List Mark → List Mark
marks_on cylinder marks = filter (λ mark. mark.cylinder == cylinder) marks

abbrev pub same_mark : Mark → Mark → Bool
same_mark a b = (a.cylinder == b.cylinder) && (a.position == b.position)

-- the position of a place on its cylinder: head by head, and then in the order of the track's turn
abbrev pub mark_of : Shape → Place → Mark
mark_of disk place = record {
  cylinder = place.track.cylinder;
  position = place.track.head * slots_at disk.zones place.track.cylinder + turn_position disk place;
}

-- the places are on the disk, and these are their marks in ascending order, without repetition
pub record AreMarksOf (disk : Shape) (places : List Place) (marks : List Mark) : Type 0 where
  pub inside : AllByRecursion (λ place. is_outside disk place ≡ false) places
  pub same : IsPermutation (map (mark_of disk) places) marks
  pub ordered : AreInOrder marks

-- these are the places, none of them before one ahead of it
pub record AreSorted (places sorted : List Place) : Type 0 where
  pub same : IsPermutation places sorted
  pub rise : Pairwise (λ place later. is_place_before later place ≡ false) sorted

-- the same mark with its position counted among the positions that `marked` doesn't mark
abbrev pub among_unmarked : List Mark → Mark → Mark
among_unmarked marked mark = record {
  cylinder = mark.cylinder;
  position = mark.position - rank mark.position (positions (marks_on mark.cylinder marked));
}
