-- Changes that concern none of the blocks that pass a test.
use Rattle.fb_wanted.proofs.Words.{◌≡◌, ℕ, ◌+◌, inl, inr, List, [], ◌∷◌, true, false, Bool, length, filter, refl, arith, cases_Bool, Abort}
use Rattle.fb_wanted.proofs.Words.{Suspend, Resume, Block, Change, Entry, State, Wanted, Suspended, Delivered, Aborted, state_after}
use Rattle.fb_wanted.proofs.Words.{shares, is_open, is_delivered, is_aborted, counted, LeavesAll}
use Rattle.fb_wanted.specs.declared.block.Change.TheVariants.{Rewant}
use Rattle.fb_wanted.proofs.Counted.{counts_at, filtered-append}
use Rattle.fb_wanted.proofs.Sums.{sum_at}

-- a block is open, delivered or aborted, and no two of these
data Fate (s : State) : Type 0 where
  unread : is_open s ≡ true → is_delivered s ≡ false → is_aborted s ≡ false → Fate s
  read : is_open s ≡ false → is_delivered s ≡ true → is_aborted s ≡ false → Fate s
  given_up : is_open s ≡ false → is_delivered s ≡ false → is_aborted s ≡ true → Fate s

fate : (s : State) → Fate s
fate Wanted = unread refl refl refl
fate Suspended = unread refl refl refl
fate Delivered = read refl refl refl
fate Aborted = given_up refl refl refl

-- the change concerns open blocks alone
abbrev pub Concerns : Change → Type 0
Concerns change = (block : Block) (state : State) → is_open state ≡ false → state_after change block state ≡ state

pub open_aborted : (first count : ℕ) → Concerns (Abort first count)
open_aborted first count block state closed = elim (cases_Bool (shares first count block)) [
  | inl inside ↦ rw (inside, closed) refl
  | inr outside ↦ rw outside refl
]

pub open_suspended : Concerns Suspend
open_suspended block Wanted closed = grind arith
open_suspended block Suspended closed = refl
open_suspended block Delivered closed = refl
open_suspended block Aborted closed = refl

pub open_resumed : Concerns Resume
open_resumed block Wanted closed = refl
open_resumed block Suspended closed = grind arith
open_resumed block Delivered closed = refl
open_resumed block Aborted closed = refl

unread_stays : (first count : ℕ) (suspended : Bool) (block : Block) (state : State) → is_delivered state ≡ false
    → state_after (Rewant first count suspended) block state ≡ state
unread_stays first count suspended block state not_read = elim (cases_Bool (shares first count block)) [
  | inl inside ↦ rw (inside, not_read) refl
  | inr outside ↦ rw outside refl
]

-- how many of the blocks that pass a test are open
abbrev open_count : (Block → Bool) → List Entry → ℕ
open_count test es = length (filter (λ e. is_open e.state) (filter (λ e. test e.block) es))

module _ (test : Block → Bool) where
  open-cons : (e : Entry) (es : List Entry) → open_count test (e ∷ es) ≡ open_count test (e ∷ []) + open_count test es
  open-cons e es = filtered-append (λ x. is_open x.state) (λ x. test x.block) (e ∷ []) es

  -- each block is open, delivered or aborted
  fates : (es : List Entry) → (counted test es).registered ≡ (counted test es).delivered + (counted test es).aborted + open_count test es
  fates [] = refl
  fates (e ∷ es) =
      let rest = fates es in
      elim (cases_Bool (test e.block)) [
        | inl own ↦ elim (fate e.state) [
          | unread o d a ↦ rw (own, o, d, a) (omega (arith, rest))
          | read o d a ↦ rw (own, o, d, a) (omega (arith, rest))
          | given_up o d a ↦ rw (own, o, d, a) (omega (arith, rest))
        ]
        | inr other ↦ rw other rest
      ]

  -- what concerns open blocks alone changes none where all are delivered or aborted
  pub none_open : (change : Change) (es : List Entry) → Concerns change
      → (counted test es).delivered + (counted test es).aborted ≡ (counted test es).registered → LeavesAll test change es
  none_open change es of_open all i e at own = elim (cases_Bool (is_open e.state)) [
    | inl yes' ↦
        let one : open_count test (e ∷ []) ≡ 1 = rw (own, yes') refl in
        absurd (omega (arith, all, fates es, sum_at (open_count test) open-cons i e es at, one))
    | inr closed ↦ of_open e.block e.state closed
  ]

  -- a want again changes no block where none is delivered
  pub none_delivered : (first count : ℕ) (suspended : Bool) (es : List Entry) → (counted test es).delivered ≡ 0
      → LeavesAll test (Rewant first count suspended) es
  none_delivered first count suspended es none i e at own = elim (cases_Bool (is_delivered e.state)) [
    | inl was ↦
        let one : (counted test (e ∷ [])).delivered ≡ 1 = rw (own, was) refl in
        absurd (omega (arith, none, (counts_at test i e es at).1, one))
    | inr not_read ↦ unread_stays first count suspended e.block e.state not_read
  ]
