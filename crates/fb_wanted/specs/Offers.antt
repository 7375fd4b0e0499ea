-- What wanted blocks offer to a plan.
use Rattle.std.specs.Prelude.{◌≡◌, ℕ, ◌*◌, List, Some, get_or, map, slice_get}
use Rattle.std.specs.List.{sum_by}
use Rattle.fb_units.specs.declared.types.Sweep.{Sweep}
use Rattle.fb_wanted.specs.declared.block.Block.{Block}
use Rattle.fb_wanted.specs.declared.block.Entry.{Entry}
use Rattle.fb_wanted.specs.declared.offer.Offer.{Offer}
use Rattle.fb_wanted.specs.Numbering.{blocks_of}
use Rattle.fb_wanted.specs.States.{wanted_of}

-- the offers are those of the wanted blocks, in some order:
-- any measure of how a block passes and what it is worth has the same sum over both
abbrev pub AreOffers : List Offer → List Entry → Type 0
AreOffers offers entries = (measure : Sweep → ℕ → ℕ)
    → sum_by (λ (o : Offer). measure o.sweep o.worth) offers
    ≡ sum_by (λ (b : Block). measure b.sweep (b.weight * b.count)) (wanted_of entries)

-- the same blocks, in some order: any measure of a block has the same sum over both
abbrev pub AreSameBlocks : List Block → List Block → Type 0
AreSameBlocks blocks others = (measure : Block → ℕ) → sum_by measure blocks ≡ sum_by measure others

-- what a block offers, with its index among all registered ones
abbrev pub offer_of : ℕ → Block → Offer
offer_of index block = record { sweep = block.sweep; worth = block.weight * block.count; index = index }

-- a block with no sector, which stands for none
abbrev pub no_block : Block
no_block = record {
  task = 0;
  index = 0;
  lbn = 0;
  count = 0;
  track = record { cylinder = 0; head = 0 };
  weight = 0;
  sweep = record { begin = 0; length = 0 };
}

-- the blocks of some offers, each found by its index among all registered ones
abbrev pub offered_blocks : List Entry → List Offer → List Block
offered_blocks entries offers = map (λ offer. get_or (blocks_of entries) offer.index no_block) offers

-- each offer is what the registered block at its index offers
abbrev pub AreFound : List Entry → List Offer → Type 0
AreFound entries offers = (i : ℕ) (offer : Offer) → slice_get offers i ≡ Some offer
    → (block : Block) × (slice_get (blocks_of entries) offer.index ≡ Some block) × (offer ≡ offer_of offer.index block)
