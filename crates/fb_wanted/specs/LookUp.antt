-- What is kept beside the list of registered blocks.
use Rattle.std.specs.Prelude.{◌≡◌, ◌↔◌, ◌⊎◌, ℕ, zero, suc, ◌+◌, ◌-◌, ◌/◌, ◌≤◌, ◌<◌, ◌==◌, Bool, true, false, List, [], ◌∷◌, ◌++◌, Some}
use Rattle.std.specs.Prelude.{length, map, filter, get_or, slice_get, if◌then◌else◌}
use Rattle.std.specs.List.{swap_remove}
use Rattle.std.specs.Ordering.{nat_cmp, ordering_then}
use Rattle.std.specs.declared.cmp.Ordering.{Ordering}
use Rattle.std.specs.BTreeSet.{BTreeSet, contains}
use Rattle.fb_units.specs.declared.types.Track.{Track}
use Rattle.fb_units.specs.Tracks.{same_track}
use Rattle.fb_wanted.specs.declared.block.Block.{Block}
use Rattle.fb_wanted.specs.declared.block.Change.{Change}
use Rattle.fb_wanted.specs.declared.block.Counts.{Counts}
use Rattle.fb_wanted.specs.declared.block.Entry.{Entry}
use Rattle.fb_wanted.specs.declared.block.State.{State}
use Rattle.fb_wanted.specs.declared.tasks.OfTask.{OfTask}
use Rattle.fb_wanted.specs.declared.offer.Offer.{Offer}
use Rattle.fb_wanted.specs.declared.streaks.Streak.{Streak}
use Rattle.fb_wanted.specs.Counting.{counts_of, no_counts, recounted}
use Rattle.fb_wanted.specs.States.{shares, state_after, entry_after, is_wanted, on_track, wanted_of}
use Rattle.fb_wanted.specs.Offers.{AreSameBlocks, offer_of, offered_blocks}
use Rattle.fb_wanted.specs.Numbering.{AreInOrder, AreSmall, blocks_of}
use Rattle.fb_wanted.specs.Tracks.{wanted_weight, IsNotAfter}
use Rattle.fb_wanted.specs.declared.depths.Depth.{Depth}
use Rattle.fb_wanted.specs.Depth.{no_depth}

-- the indexes in the list of the entries that pass a test
abbrev pub indexes_of : (Entry → Bool) → List Entry → List ℕ
indexes_of test [] = []
indexes_of test (e ∷ es) = if test e then 0 ∷ map (λ n. suc n) (indexes_of test es) else map (λ n. suc n) (indexes_of test es)

abbrev pub is_of_task : ℕ → Entry → Bool
is_of_task task entry = entry.block.task == task

abbrev pub is_of_track : Track → Entry → Bool
is_of_track track entry = same_track track entry.block.track

-- a task with no block
abbrev pub no_blocks : OfTask
no_blocks = record { indexes = []; counts = no_counts }

-- a task with the index of one more block, uncounted
abbrev pub joined : ℕ → OfTask → OfTask
joined index blocks = record { indexes = blocks.indexes ++ index ∷ []; counts = blocks.counts }

-- a task whose counts are without `lost` and with `gained`
abbrev pub counted_anew : Counts → Counts → OfTask → OfTask
counted_anew lost gained blocks = record { indexes = blocks.indexes; counts = recounted lost gained blocks.counts }

-- a task with one more block
abbrev pub grown_task : ℕ → Entry → OfTask → OfTask
grown_task index entry blocks = counted_anew no_counts (counts_of entry.block.task (entry ∷ [])) (joined index blocks)

-- what is kept of a task has changed so, and of no other task
abbrev pub IsTaskChanged : List OfTask → List OfTask → ℕ → (OfTask → OfTask) → Type 0
IsTaskChanged old new task change = (k : ℕ)
    → get_or new k no_blocks ≡ (if task == k then change (get_or old k no_blocks) else get_or old k no_blocks)

-- what the look-up has for a task
abbrev pub kept_of_task : ℕ → List Entry → OfTask
kept_of_task task entries = record { indexes = indexes_of (is_of_task task) entries; counts = counts_of task entries }

-- what the look-up has for a track: the indexes of its blocks, the weight of the wanted ones, and what they offer
pub record OnTrack : Type 0 where
  pub indexes : List ℕ
  pub weight : ℕ
  pub offers : List Offer

-- a track with no block
abbrev pub no_block_on : OnTrack
no_block_on = record { indexes = []; weight = 0; offers = [] }

-- a track with one more block, which isn't wanted
abbrev pub grown : ℕ → OnTrack → OnTrack
grown index on = record { indexes = on.indexes ++ index ∷ []; weight = on.weight; offers = on.offers }

-- a track whose weight is without `lost` and with `gained`
abbrev pub reweighed : ℕ → ℕ → OnTrack → OnTrack
reweighed lost gained on = record { indexes = on.indexes; weight = on.weight - lost + gained; offers = on.offers }

-- a track with one more offer
abbrev pub with_offer : Offer → OnTrack → OnTrack
with_offer offer on = record { indexes = on.indexes; weight = on.weight; offers = on.offers ++ offer ∷ [] }

-- what a block with no sector offers
abbrev pub no_offer : Offer
no_offer = record { sweep = record { begin = 0; length = 0 }; worth = 0; index = 0 }

-- the last offer
abbrev pub last_of : List Offer → Offer
last_of offers = get_or offers (length offers - 1) no_offer

-- the offers without the one at an index, where the last one stands then
abbrev pub taken_out : ℕ → List Offer → List Offer
taken_out index offers = swap_remove offers index no_offer

-- a track without the offer at an index
abbrev pub without_offer : ℕ → OnTrack → OnTrack
without_offer index on = record { indexes = on.indexes; weight = on.weight; offers = taken_out index on.offers }

-- what stands for a track in lists by cylinder and by head
abbrev pub track_at : List (List OnTrack) → Track → OnTrack
track_at tracks track = get_or (get_or tracks track.cylinder []) track.head no_block_on

-- the least head not before `from` whose track has a block in the look-up
pub record IsNextHead (tracks : List OnTrack) (from head : ℕ) : Type 0 where
  pub some : 0 < length (get_or tracks head no_block_on).indexes
  pub since : from ≤ head
  pub least : (h : ℕ) → 0 < length (get_or tracks h no_block_on).indexes → from ≤ h → head ≤ h

-- there is no such head
abbrev pub NoHeadIsNext : List OnTrack → ℕ → Type 0
NoHeadIsNext tracks from = (h : ℕ) → 0 < length (get_or tracks h no_block_on).indexes → from ≤ h → ⊥

-- the least track not before `from` with a block in the look-up
pub record IsNextTrack (tracks : List (List OnTrack)) (from track : Track) : Type 0 where
  pub some : 0 < length (track_at tracks track).indexes
  pub since : IsNotAfter from track
  pub least : (t : Track) → 0 < length (track_at tracks t).indexes → IsNotAfter from t → IsNotAfter track t

-- there is no such track
abbrev pub NoTrackIsNext : List (List OnTrack) → Track → Type 0
NoTrackIsNext tracks from = (t : Track) → 0 < length (track_at tracks t).indexes → IsNotAfter from t → ⊥

-- the first track of a cylinder
abbrev pub first_track : ℕ → Track
first_track cylinder = record { cylinder = cylinder; head = 0 }

-- no track on the cylinders from `start` up to the end has a block in the look-up
abbrev pub NoneIsBetween : List (List OnTrack) → ℕ → ℕ → Type 0
NoneIsBetween tracks start end = (t : Track) → 0 < length (track_at tracks t).indexes → start ≤ t.cylinder → end ≤ t.cylinder

-- each band with a block in the look-up is marked
abbrev pub AreMarked : List (List OnTrack) → List Depth → Type 0
AreMarked tracks depths = (t : Track) → 0 < length (track_at tracks t).indexes
    → (get_or depths (t.cylinder / 64) no_depth).has_block ≡ true

-- the track of a head has changed so, and no other has changed
abbrev pub IsHeadChanged : List OnTrack → List OnTrack → ℕ → (OnTrack → OnTrack) → Type 0
IsHeadChanged old new head change = (h : ℕ)
    → get_or new h no_block_on ≡ (if head == h then change (get_or old h no_block_on) else get_or old h no_block_on)

-- the track has changed so, and no other has changed
abbrev pub IsChanged : List (List OnTrack) → List (List OnTrack) → Track → (OnTrack → OnTrack) → Type 0
IsChanged old new track change = (t : Track)
    → track_at new t ≡ (if same_track track t then change (track_at old t) else track_at old t)

-- the lists reach to the track
abbrev pub IsThere : List (List OnTrack) → Track → Type 0
IsThere tracks track = (track.cylinder < length tracks) × (track.head < length (get_or tracks track.cylinder []))

-- the look-up by task and by track has what the list has
pub record IsLookUp (entries : List Entry) (tasks : List OfTask) (tracks : List (List OnTrack)) : Type 0 where
  pub by_task : (task : ℕ) → get_or tasks task no_blocks ≡ kept_of_task task entries
  pub by_track : (track : Track) → (track_at tracks track).indexes ≡ indexes_of (is_of_track track) entries
  pub by_weight : (track : Track) → (track_at tracks track).weight ≡ wanted_weight track entries

-- the LBNs of a task's blocks, in order of registration
abbrev pub lbns : ℕ → List Entry → List ℕ
lbns task entries = map (λ entry. entry.block.lbn) (filter (is_of_task task) entries)

-- the region of an LBN; a region has 512 neighbouring LBNs
abbrev pub region_of : ℕ → ℕ
region_of lbn = lbn / 512

-- what is noted of a streak of a task: the task, the region, and the number of the first block
abbrev pub key_of : ℕ → Streak → ℕ × ℕ × ℕ
key_of task streak = (task, streak.region, streak.number)

-- streaks are ordered by task, by region, and then by number
abbrev pub streak_cmp : ℕ × ℕ × ℕ → ℕ × ℕ × ℕ → Ordering
streak_cmp a b = ordering_then (ordering_then (nat_cmp a.0 b.0) (nat_cmp a.1 b.1)) (nat_cmp a.2 b.2)

-- of two streaks of a task the first one doesn't come behind the other
abbrev pub IsUpTo : Streak → Streak → Type 0
IsUpTo a b = (a.region < b.region) ⊎ ((a.region ≡ b.region) × (a.number ≤ b.number))

-- from the streak's first block up to number i, each block of these LBNs begins in the streak's region
abbrev pub IsInStreak : List ℕ → Streak → ℕ → Type 0
IsInStreak lbns streak i = (streak.number ≤ i)
    × ((j lbn : ℕ) → streak.number ≤ j → j ≤ i → slice_get lbns j ≡ Some lbn → region_of lbn ≡ streak.region)

-- the streak begins with its first block: that one begins in the streak's region, and the block before it doesn't
pub record BeginsStreak (lbns : List ℕ) (streak : Streak) : Type 0 where
  pub lbn : ℕ
  pub at : slice_get lbns streak.number ≡ Some lbn
  pub region : region_of lbn ≡ streak.region
  pub anew : (i before : ℕ) → suc i ≡ streak.number → slice_get lbns i ≡ Some before → region_of before ≡ streak.region → ⊥

-- what is noted are the streaks of the tasks
abbrev pub AreNoted : List Entry → BTreeSet (ℕ × ℕ × ℕ) → Type 0
AreNoted entries streaks = (task : ℕ) (streak : Streak)
    → (contains streak_cmp streaks (key_of task streak) ≡ true) ↔ BeginsStreak (lbns task entries) streak

-- no block has more sectors than the longest
abbrev pub AreShort : ℕ → List Entry → Type 0
AreShort longest entries = (i : ℕ) (entry : Entry) → slice_get entries i ≡ Some entry → entry.block.count ≤ longest

-- the wanted weight that the look-up has for a track
abbrev pub weight_kept : List (List OnTrack) → Track → ℕ
weight_kept tracks track = (track_at tracks track).weight

-- the offers that the look-up has for a track
abbrev pub offers_at : List (List OnTrack) → Track → List Offer
offers_at tracks track = (track_at tracks track).offers

-- an offer is that of a wanted block of the track, and it stands at the index that is noted for this block
pub record IsItsOffer (entries : List Entry) (offer_indexes : List ℕ) (track : Track) (i : ℕ) (offer : Offer) : Type 0 where
  pub entry : Entry
  pub there : slice_get entries offer.index ≡ Some entry
  pub on : same_track entry.block.track track ≡ true
  pub wanted : is_wanted entry.state ≡ true
  pub index_is : slice_get offer_indexes offer.index ≡ Some i

-- the offers of each track are those of its wanted blocks, in some order, and each stands at the index that is noted for its block
pub record AreOffered (entries : List Entry) (offers : Track → List Offer) (offer_indexes : List ℕ) : Type 0 where
  pub sums : (track : Track) → AreSameBlocks (offered_blocks entries (offers track)) (wanted_of (on_track track entries))
  pub each : (track : Track) (i : ℕ) (offer : Offer) → slice_get (offers track) i ≡ Some offer
      → IsItsOffer entries offer_indexes track i offer
  pub all : (index : ℕ) (entry : Entry) → slice_get entries index ≡ Some entry → is_wanted entry.state ≡ true
      → (i : ℕ) × (slice_get offer_indexes index ≡ Some i) × (slice_get (offers entry.block.track) i ≡ Some (offer_of index entry.block))
  pub one_each : length offer_indexes ≡ length entries

-- no track has more wanted weight than the bound of its cylinder, and each cylinder in the look-up has a bound
pub record AreGreatest (tracks : List (List OnTrack)) (greatest : List ℕ) : Type 0 where
  pub weights : (t : Track) → weight_kept tracks t ≤ get_or greatest t.cylinder 0
  pub there : length tracks ≤ length greatest

-- the greatest of each 64 numbers that stand side by side
pub record ArePeaks (numbers peaks : List ℕ) : Type 0 where
  pub each : (i : ℕ) → get_or numbers i 0 ≤ get_or peaks (i / 64) 0
  pub least : (k most : ℕ) → ((i : ℕ) → i / 64 ≡ k → get_or numbers i 0 ≤ most) → get_or peaks k 0 ≤ most
  pub there : (i : ℕ) → i < length numbers → i / 64 < length peaks

-- the bounds of bands and the marks of those with a block stand in lists of numbers too
pub record AreRanked (depths : List Depth) (bounds marks : List ℕ) : Type 0 where
  pub bound : (k : ℕ) → get_or bounds k 0 ≡ (get_or depths k no_depth).most
  pub mark : (k : ℕ) → get_or marks k 0 ≡ 0 → (get_or depths k no_depth).has_block ≡ false
  pub bounds_there : length depths ≤ length bounds
  pub marks_there : length depths ≤ length marks

-- the change leaves each block as it is that shares no sector with the range
abbrev pub IsWithin : Change → ℕ → ℕ → Type 0
IsWithin change first count = (block : Block) (state : State) → shares first count block ≡ false → state_after change block state ≡ state

-- a second change of this kind changes nothing
abbrev pub IsStable : Change → Type 0
IsStable change = (block : Block) (state : State)
    → state_after change block (state_after change block state) ≡ state_after change block state

-- what holds of the registered blocks and their look-up
pub record IsKept (entries : List Entry) (tasks : List OfTask) (tracks : List (List OnTrack)) : Type 0 where
  pub in_order : AreInOrder (blocks_of entries)
  pub few : length entries ≤ 16000000
  pub small : AreSmall (blocks_of entries)
  pub look_up : IsLookUp entries tasks tracks

-- the list with the n-th entry, from 0, in another state
abbrev pub with_state : State → ℕ → List Entry → List Entry
with_state state n [] = []
with_state state zero (e ∷ es) = record { block = e.block; state = state } ∷ es
with_state state (suc n) (e ∷ es) = e ∷ with_state state n es

-- the list with a change of the k-th entry, from 0, that passes a test
abbrev pub change_nth : (Entry → Bool) → (Entry → Entry) → ℕ → List Entry → List Entry
change_nth test change k [] = []
change_nth test change zero (e ∷ es) = if test e then change e ∷ es else e ∷ change_nth test change zero es
change_nth test change (suc k) (e ∷ es) = e ∷ change_nth test change (if test e then k else suc k) es

-- all registered blocks after a change of those of a task whose numbers are chosen
abbrev pub changed_where : (ℕ → Bool) → ℕ → Change → List Entry → List Entry
changed_where chosen task change entries = map (λ entry. if chosen entry.block.index then entry_after task change entry else entry) entries

-- beside the chosen blocks of a task at least those from one number up to another are changed
pub record HasChanged (task : ℕ) (change : Change) (from end : ℕ) (entries : List Entry)
    (chosen : ℕ → Bool) (new : List Entry) : Type 0 where
  pub more : ℕ → Bool
  pub is : new ≡ changed_where more task change entries
  pub kept : (k : ℕ) → chosen k ≡ true → more k ≡ true
  pub own : (k : ℕ) → from ≤ k → k < end → more k ≡ true

-- the blocks of a task from one number up to another are changed beside those that were changed before, and perhaps further ones
abbrev pub AreChanged : ℕ → Change → ℕ → ℕ → List Entry → List Entry → Type 0
AreChanged task change from end old new = (entries : List Entry) (chosen : ℕ → Bool)
    → old ≡ changed_where chosen task change entries → HasChanged task change from end entries chosen new

-- the change leaves each block as it is that passes a test
abbrev pub LeavesAll : (Block → Bool) → Change → List Entry → Type 0
LeavesAll test change entries = (i : ℕ) (entry : Entry) → slice_get entries i ≡ Some entry → test entry.block ≡ true
    → state_after change entry.block entry.state ≡ entry.state
