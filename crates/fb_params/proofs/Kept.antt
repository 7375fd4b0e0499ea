-- What follows from searches that found nothing.
use Rattle.fb_units.proofs.Lists.{all_get}
use Rattle.fb_units.proofs.Searches.{find-none}
use Rattle.fb_params.proofs.Words.{◌≡◌, ℕ, Bool, false, List, ◌++◌, Option, Some, None, option_map, Ok, slice_get, refl}
use Rattle.fb_params.proofs.Words.{find, option_or, Members, get_member, Layout, Rule, Known, Present, OfKind}
use Rattle.fb_params.proofs.Words.{InRange, Key, front_keys, back_keys, zone_keys, zones_of, breaks, first_in, first_some, unless_fault}
use Rattle.fb_params.proofs.Words.{keeps}
use Rattle.fb_params.specs.Rules.{first_in_zones}
use Rattle.fb_params.specs.declared.fault.ParamsFault.{ParamsFault}

none-find : {A : Type 0} (p : A → Bool) (xs : List A) → find p xs ≡ None → (i : ℕ) (x : A) → slice_get xs i ≡ Some x → p x ≡ false
none-find p xs none i x at = all_get (λ y. p y ≡ false) xs i x (find-none p xs none) at

none-option_map : {A B : Type 0} (f : A → B) (o : Option A) → option_map f o ≡ None → o ≡ None
none-option_map f None none = refl
none-option_map f (Some a) none = absurd (cc)

pub none-option_or : {A : Type 0} (a b : Option A) → option_or a b ≡ None → (a ≡ None) × (b ≡ None)
none-option_or None b none = (refl, none)
none-option_or (Some a) b none = absurd (cc)

none-unless_fault : {A B : Type 0} (a : A) (f : B → ParamsFault) (o : Option B) → unless_fault a (option_map f o) ≡ Ok a → o ≡ None
none-unless_fault a f None ok = refl
none-unless_fault a f (Some b) ok = absurd (cc)

-- if no key breaks the rule, the i-th obeys it
pub kept_at : (rule : Rule) (keys : List Key) (table : Members) → first_in rule keys table ≡ None → (i : ℕ) (key : Key)
    → slice_get keys i ≡ Some key → breaks rule key (get_member key.name table) ≡ false
kept_at Known keys table none i key at = refl
kept_at Present keys table none i key at = none-find _ keys (none-option_map _ _ none) i key at
kept_at OfKind keys table none i key at = none-find _ keys (none-option_map _ _ none) i key at
kept_at InRange keys table none i key at = none-find _ keys (none-option_map _ _ none) i key at

-- what holds of the tables of a file whose keys obey a rule
pub record IsKept (rule : Rule) (layout : Layout) (table : Members) : Type 0 where
  pub front : first_in rule front_keys table ≡ None
  pub zones : first_some (first_in rule (zone_keys layout)) (zones_of table) ≡ None
  pub back : first_in rule (back_keys layout) table ≡ None

pub present : (layout : Layout) (table : Members) → keeps Present layout table ≡ Ok tt
    → first_in Present (front_keys ++ back_keys layout) table ≡ None
unfolding keeps
present layout table ok = (none-option_or _ _ (none-unless_fault tt _ _ ok)).0

-- no key in front, in a zone or behind breaks the rule
kept : (rule : Rule) (layout : Layout) (table : Members)
    → option_or (first_in rule front_keys table)
    (option_or (first_in_zones rule layout table) (first_in rule (back_keys layout) table)) ≡ None
    → IsKept rule layout table
kept rule layout table none =
    let first = none-option_or _ _ none in
    let then_ = none-option_or _ _ first.1 in
    record { front = first.0; zones = none-option_map _ _ then_.0; back = then_.1 }

pub of_kind : (layout : Layout) (table : Members) → keeps OfKind layout table ≡ Ok tt → IsKept OfKind layout table
unfolding keeps
of_kind layout table ok = kept OfKind layout table (none-unless_fault tt _ _ ok)

pub in_range : (layout : Layout) (table : Members) → keeps InRange layout table ≡ Ok tt → IsKept InRange layout table
unfolding keeps
in_range layout table ok = kept InRange layout table (none-unless_fault tt _ _ ok)
