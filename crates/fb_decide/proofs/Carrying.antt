-- What a read carries, gathered extent by extent, is what it carries, and is due.
use Rattle.fb_decide.proofs.Words.{◌≡◌, List, [], ◌∷◌, ◌++◌, map, filter, Bool, true, false, ◌||◌, inl, inr, refl, sym, ap, ◌∙◌, arith}
use Rattle.fb_decide.proofs.Words.{subst, ℕ, ◌+◌, ◌-◌, ◌≤◌, ◌<◌, length, take, drop, get_or, ◌&&◌, Some, ◌^◌, fold, AllByRecursion}
use Rattle.fb_decide.proofs.Words.{cases_Bool, nat_tests, slice_get, nat_le, nat_lt, map-append, drop_more, drop_all, filter-append}
use Rattle.fb_decide.proofs.Words.{slice_get-get_or, all_get, all_weaker, take_at, Request, all_any, filter_same, Block, IsBlockOn}
use Rattle.fb_decide.proofs.Words.{same_block, Past, wanted, Catch, AreDistinct, AreDeliverable, held_now, Shape, track_at, IsUnbroken}
use Rattle.fb_decide.proofs.Words.{Extent, Passage, Entry, wanted_of, placed, lies_in, ride_of, carried_of, carried_rows, delivery_row}
use Rattle.fb_decide.proofs.Words.{added, begins_in, AreLaid, AreExtents, Disk, Holding, Served}
use Rattle.std.proofs.lemmas.List.{append_assoc}
use Rattle.fb_units.proofs.Tracks.{track_itself}
use Rattle.fb_units.specs.Tracks.{same_track}
use Rattle.fb_units.proofs.Filtered.{none_kept}
use Rattle.fb_plan.proofs.Sorted.{not_both}
use Rattle.fb_wanted.specs.States.{on_track}
use Rattle.fb_model.specs.Deliveries.{is_before}
use Rattle.fb_decide.specs.Carried.{begun_in}
use Rattle.fb_geometry.specs.Places.{places}
use Rattle.fb_rows.specs.declared.gap.How.TheVariants.{Ride as ByRide}
use Rattle.fb_decide.proofs.Placing.{due-filtered}

-- ---- catches that are placed one after another stand in the order of deliveries, whichever of them is placed first

after_all : (a b c : Catch) → is_before a b ≡ true → is_before b c ≡ true → is_before a c ≡ true
after_all a b c h k = grind (arith, nat_tests)

-- of two catches of different blocks one comes before the other
one_is_first : (a b : Catch) → same_block a.block b.block ≡ false → is_before a b ≡ false → is_before b a ≡ true
one_is_first a b apart h = grind (arith, nat_tests)

-- a catch that is to stand before a placed one
front : (os : List Catch) (a b : Catch) → is_before a b ≡ true → placed (placed os a) b ≡ placed (placed os b) a
front [] a b h = rw (not_both a b h, h) refl
front (o ∷ os) a b h = elim (cases_Bool (is_before b o)) [
  | inl holds ↦ let also = after_all a b o h holds in rw (also, not_both a b h, holds, h) refl
  | inr fails ↦ elim (cases_Bool (is_before a o)) [
    | inl first ↦ rw (first, not_both a b h, fails, first) refl
    | inr later ↦ rw (later, fails, later) (ap (λ xs. o ∷ xs) (front os a b h))
  ]
]

pub swapped : (os : List Catch) (a b : Catch) → same_block a.block b.block ≡ false → placed (placed os a) b ≡ placed (placed os b) a
swapped os a b apart = elim (cases_Bool (is_before a b)) [
  | inl holds ↦ front os a b holds
  | inr fails ↦ sym (front os b a (one_is_first a b apart fails))
]

-- each of these is of another block
abbrev pub IsApart : Catch → List Catch → Type 0
IsApart catch others = AllByRecursion (λ other. same_block catch.block other.block ≡ false) others

-- placed behind the others, it stands where it does when it is placed before them
pub moved : (os : List Catch) (catch : Catch) (others : List Catch) → IsApart catch others
    → fold placed (placed os catch) others ≡ placed (fold placed os others) catch
moved os catch [] apart = refl
moved os catch (other ∷ others) apart =
    ap (λ xs. fold placed xs others) (swapped os catch other apart.0) ∙ moved (placed os other) catch others apart.1

filtered_apart : (f : Block → Catch) → ((b : Block) → (f b).block ≡ b) → (p : Block → Bool) (block : Block) (blocks : List Block)
    → AllByRecursion (λ other. same_block block other ≡ false) blocks
    → IsApart (f block) (map f (filter p blocks))
filtered_apart f its p block [] apart = tt
filtered_apart f its p block (other ∷ blocks) apart = elim (cases_Bool (p other)) [
  | inl holds ↦ rw holds (
    subst (λ b. same_block b (f other).block ≡ false) (sym (its block)) (subst (λ b. same_block block b ≡ false) (sym (its other)) apart.0),
    filtered_apart f its p block blocks apart.1,
  )
  | inr fails ↦ rw fails (filtered_apart f its p block blocks apart.1)
]

fold_joined : (os xs ys : List Catch) → fold placed os (xs ++ ys) ≡ fold placed (fold placed os xs) ys
fold_joined os [] ys = refl
fold_joined os (x ∷ xs) ys = fold_joined (placed os x) xs ys

-- blocks of one kind and then those of another are the blocks of both kinds
pub both_kinds : (f : Block → Catch) → ((b : Block) → (f b).block ≡ b) → (p q : Block → Bool) → ((b : Block) → p b ≡ true → q b ≡ false)
    → (blocks : List Block) → AreDistinct blocks → (os : List Catch)
    → fold placed (fold placed os (map f (filter p blocks))) (map f (filter q blocks))
    ≡ fold placed os (map f (filter (λ b. p b || q b) blocks))
both_kinds f its p q never [] apart os = refl
both_kinds f its p q never (b ∷ blocks) apart os = elim (cases_Bool (p b)) [
  | inl is_p ↦ let not_q = never b is_p in rw (is_p, not_q) (both_kinds f its p q never blocks apart.1 (placed os (f b)))
  | inr not_p ↦ grind (
    arith,
    moved os (f b) (map f (filter p blocks)) (filtered_apart f its p b blocks apart.0),
    both_kinds f its p q never blocks apart.1 (placed os (f b)),
    both_kinds f its p q never blocks apart.1 os,
  )
]

-- ---- what a read carries, gathered extent by extent, is what it carries

-- a block more adds what it adds alone
pub added_more : (passages : List Passage) (extent : Extent) (request : Request) (start found found' : List Catch)
    (blocks : List Block) (i : ℕ) (block : Block) → slice_get blocks i ≡ Some block
    → found ≡ added passages extent request start (take i blocks) → found' ≡ added passages extent request found (block ∷ [])
    → found' ≡ added passages extent request start (take (i + 1) blocks)
added_more passages extent request start found found' blocks i block at so_far next =
    let chosen = λ (b : Block). begins_in extent b && lies_in request b in
    let rides = map (ride_of passages) in
    let before = filter chosen (take i blocks) in
    let one = filter chosen (block ∷ []) in
    next ∙ ap (λ f. f ++ rides one) so_far
    ∙ append_assoc start (rides before) (rides one)
    ∙ ap (λ l. start ++ l) (sym (map-append (ride_of passages) before one))
    ∙ ap (λ bs. start ++ rides bs) (sym (filter-append chosen (take i blocks) (block ∷ [])))
    ∙ ap (added passages extent request start) (sym (take_at blocks i block at))

-- the block's first sector is one of these
abbrev pub begins_among : ℕ → ℕ → Block → Bool
begins_among first count block = nat_le first block.lbn && nat_lt block.lbn (first + count)

-- what the extents add one after another
abbrev pub added_by_all : List Passage → List Extent → Request → List Catch → List Block → List Catch
added_by_all passages [] request found blocks = found
added_by_all passages (extent ∷ extents) request found blocks =
    added_by_all passages extents request (fold placed found (map (ride_of passages) (begun_in extent request blocks))) blocks

-- extents that are laid end to end add all that begins among their sectors
pub all_added : (passages : List Passage) (extents : List Extent) (request : Request) (first count : ℕ) → AreLaid first extents count
    → (blocks : List Block) → AreDistinct blocks → (found : List Catch)
    → added_by_all passages extents request found blocks
    ≡ fold placed found (map (ride_of passages) (filter (λ b. begins_among first count b && lies_in request b) blocks))
all_added passages [] request first count laid blocks apart found =
    sym
    (ap (λ bs. fold placed found (map (ride_of passages) bs)) (none_kept (λ b. begins_among first count b && lies_in request b) blocks
    (all_any _ (λ b. let none : begins_among first count b ≡ false = grind (arith, nat_tests) in rw none refl) blocks)))
all_added passages (extent ∷ extents) request first count laid blocks apart found =
    let rest = first + extent.count in
    let left = count - extent.count in
    let here = λ (b : Block). begins_in extent b && lies_in request b in
    let later = λ (b : Block). begins_among rest left b && lies_in request b in
    all_added passages extents request rest left laid.2 blocks apart
    (fold placed found (map (ride_of passages) (begun_in extent request blocks)))
    ∙ both_kinds (ride_of passages) (λ b. refl) here later
    (λ b is_here. not_later extent request first rest left laid.0 refl b is_here) blocks apart found
    ∙ ap (λ bs. fold placed found (map (ride_of passages) bs))
    (filter_same (λ b. here b || later b) (λ b. begins_among first count b && lies_in request b) blocks
    (all_any _ (λ b. either_way extent request first count laid.0 laid.1 b) blocks))
  where
    not_later : (extent : Extent) (request : Request) (first rest left : ℕ) → extent.first ≡ first → rest ≡ first + extent.count
        → (b : Block) → begins_in extent b && lies_in request b ≡ true
        → begins_among rest left b && lies_in request b ≡ false
    not_later extent request first rest left at e b h = grind (arith, nat_tests)

    either_way : (extent : Extent) (request : Request) (first count : ℕ) → extent.first ≡ first → extent.count ≤ count → (b : Block)
        → (begins_in extent b && lies_in request b) || (begins_among (first + extent.count) (count - extent.count) b && lies_in request b)
        ≡ begins_among first count b && lies_in request b
    either_way extent request first count at few b = grind (arith, nat_tests)

-- what begins in an extent lies on its track
own_track : (disk : Shape) (extent : Extent) (request : Request) → IsUnbroken disk extent → (entries : List Entry)
    → AllByRecursion (λ entry. entry.block.track ≡ track_at disk entry.block.lbn) entries
    → begun_in extent request (wanted_of (on_track extent.track entries)) ≡ begun_in extent request (wanted_of entries)
own_track disk extent request unbroken [] all = refl
own_track disk extent request unbroken (entry ∷ entries) all = elim (cases_Bool (same_track extent.track entry.block.track)) [
  | inl on ↦ grind (arith, own_track disk extent request unbroken entries all.1)
  | inr off ↦
      grind (arith, not_here disk extent request unbroken entry.block all.0 off, own_track disk extent request unbroken entries all.1)
]
  where
    not_here : (disk : Shape) (extent : Extent) (request : Request) → IsUnbroken disk extent → (block : Block)
        → block.track ≡ track_at disk block.lbn → same_track extent.track block.track ≡ false
        → begins_in extent block && lies_in request block ≡ false
    not_here disk extent request unbroken block at off = elim (cases_Bool (begins_in extent block)) [
      | inl begins ↦
          let from : extent.first ≤ block.lbn = grind (arith, nat_tests) in
          let to : block.lbn < extent.first + extent.count = grind (arith, nat_tests) in
          let place : extent.first + (block.lbn - extent.first) ≡ block.lbn = omega arith in
          let same : block.track ≡ extent.track = at ∙ ap (track_at disk) (sym place)
          ∙ unbroken.on_track (block.lbn - extent.first) (omega arith) in
          let is_same : same_track extent.track block.track ≡ true = ap (same_track extent.track) same ∙ track_itself extent.track in
          absurd (let wrong : true ≡ false = sym is_same ∙ off in cc)
      | inr other ↦ rw other refl
    ]

pub next_added : (disk : Shape) (passages : List Passage) (extents : List Extent) (i : ℕ) (d : Extent) (request : Request)
    (found found' : List Catch) (entries : List Entry) → i < length extents
    → IsUnbroken disk (get_or extents i d) → AllByRecursion (λ entry. entry.block.track ≡ track_at disk entry.block.lbn) entries
    → fold placed [] found'
    ≡ fold placed [] (added passages (get_or extents i d) request found (wanted_of (on_track (get_or extents i d).track entries)))
    → added_by_all passages (drop i extents) request (fold placed [] found) (wanted_of entries)
    ≡ added_by_all passages (drop (i + 1) extents) request (fold placed [] found') (wanted_of entries)
next_added disk passages extents i d request found found' entries within unbroken on_tracks next =
    let own = own_track disk (get_or extents i d) request unbroken entries on_tracks in
    ap (λ es. added_by_all passages es request (fold placed [] found) (wanted_of entries)) (drop_more extents i d within)
    ∙ ap (λ f. added_by_all passages (drop (i + 1) extents) request f (wanted_of entries))
    (ap (λ bs. fold placed (fold placed [] found) (map (ride_of passages) bs)) (sym own) ∙ sym (fold_joined [] found _) ∙ sym next)

pub none_added : (passages : List Passage) (extents : List Extent) (n : ℕ) (request : Request) (found : List Catch) (blocks : List Block)
    → length extents ≤ n → added_by_all passages (drop n extents) request found blocks ≡ found
none_added passages extents n request found blocks within =
    ap (λ es. added_by_all passages es request found blocks) (drop_all n extents within)

begins : (request : Request) (block : Block) → 0 < block.count
    → (begins_among request.lbn request.count block && lies_in request block) ≡ lies_in request block
begins request block some = grind (arith, nat_tests)

-- extents of a whole read add what it carries
pub carried_whole : (passages : List Passage) (extents : List Extent) (request : Request) (blocks : List Block)
    → AreLaid request.lbn extents request.count → AreDistinct blocks → AllByRecursion (λ block. 0 < block.count) blocks
    → added_by_all passages extents request [] blocks ≡ carried_of passages request blocks
unfolding carried_of
carried_whole passages extents request blocks laid apart some =
    all_added passages extents request request.lbn request.count laid blocks apart []
    ∙ ap (λ bs. fold placed [] (map (ride_of passages) bs))
    (filter_same _ (lies_in request) blocks (all_weaker _ _ (begins request) blocks some))

pub each_wanted : (P : Block → Type 0) (entries : List Entry) → AllByRecursion (λ entry. P entry.block) entries
    → AllByRecursion P (wanted_of entries)
each_wanted P [] all = tt
each_wanted P (entry ∷ entries) all = grind (arith, all.0, each_wanted P entries all.1)

pub extent_at : (P : Extent → Type 0) (extents : List Extent) → AllByRecursion P extents → (i : ℕ) (d : Extent) → i < length extents
    → P (get_or extents i d)
extent_at P extents all i d within = all_get P extents i (get_or extents i d) all (slice_get-get_or extents i d within)

-- ---- what a read carries is due: its blocks are wanted, and each is another than the others

-- the deliveries of what is carried
pub rows-carried : (holding : Holding) (served : Served) (blocks : List Block) → served.request.write ≡ false
    → map (delivery_row (held_now holding) ByRide) (carried_of served.passages served.request blocks)
    ≡ carried_rows (held_now holding) served blocks
rows-carried holding served blocks reads = rw reads refl

pub due-carried : (holding : Holding) (served : Served) (past : Past) → served.request.write ≡ false → AreDistinct (wanted past)
    → AreDeliverable past (carried_rows (held_now holding) served (wanted past))
unfolding carried_of
due-carried holding served past reads distinct =
    rw reads (due-filtered (held_now holding) ByRide past (lies_in served.request) (ride_of served.passages) (λ b. refl) distinct)

-- no block of a disk ends behind the last sector that a disk may have
pub ends_within : (disk : Disk) (block : Block) → IsBlockOn disk.map block → block.lbn + block.count ≤ 10 ^ 12
ends_within disk block fits = omega (arith, fits.on_disk, disk.few_blocks)

pub all-extents : (disk : Disk) (extents : List Extent)
    → AllByRecursion (λ extent. extent.first + extent.count ≤ length (places disk.map)) extents
    → AllByRecursion (IsUnbroken disk.map) extents
    → AllByRecursion (λ extent. extent.begin ≤ 10 ^ 19) extents → length (places disk.map) ≤ 10 ^ 12 → AreExtents disk.map extents
all-extents disk [] within unbroken early few = tt
all-extents disk (extent ∷ extents) within unbroken early few = (
  record { on_disk = within.0; within = omega (arith, within.0, few); early = early.0; unbroken = unbroken.0 },
  all-extents disk extents within.1 unbroken.1 early.1 few,
)
