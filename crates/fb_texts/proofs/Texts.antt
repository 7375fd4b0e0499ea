-- Texts that are written one after another.
use Rattle.std.proofs.Common.{◌≢◌, ◌∙◌, ℕ, List, [], ◌∷◌, ◌++◌, Option, Some, None, Result, Ok, Err, refl, sym, ap, subst, append_assoc}
use Rattle.std.specs.List.{AllByRecursion}
use Rattle.fb_units.proofs.Lists.{all_append, all_left, all_right, all_weaker}
use Rattle.fb_desk.specs.Calls.{ChangesOutput, Rose}
use Rattle.fb_desk.specs.View.{DeskView, OutputView}
use Rattle.fb_desk.specs.declared.desk.Output.{Output}
use Rattle.fb_texts.specs.declared.error.TextsError.{TextsError}
use Rattle.fb_texts.specs.declared.error.TextsError.TheVariants as faults
use Rattle.fb_texts.specs.Written.{CutsAt, HoldsFront, HoldsTexts, HoldsWhole, KeepsButTexts, OutputFaultsRose, StopsTexts, Text}
use Rattle.fb_texts.specs.Written.{WritesAll}
use Rattle.fb_texts.specs.Written.{WritesTexts, given_text, one_text}
use Rattle.fb_streams.specs.Streams.{KeepsOutputs}

-- one text alone
module _ (which : Output) (name text : List ℕ) (old new : DeskView) (only : ChangesOutput which old new) where
  others_of_one : KeepsButTexts (one_text which name text) old new
  others_of_one = λ output not_it. only.outputs output not_it.0

  pub wrote_one : HoldsWhole (new.outputs which) name text → WritesAll (one_text which name text) old new
  wrote_one whole = record { others = others_of_one; whole = (whole, tt) }

  pub cut_one : HoldsFront (new.outputs which) name text → CutsAt which (one_text which name text) old new
  cut_one front = record {
    before = [];
    cut = record { output = which; name = name; text = text };
    behind = [];
    are = refl;
    here = refl;
    others = others_of_one;
    whole = tt;
    front = front;
  }

pub all_given : (P : Output → Type 0) (output : Output) (given : Option (List ℕ)) (text : List ℕ) → P output
    → AllByRecursion (λ text. P text.output) (given_text output given text)
all_given P output None text h = tt
all_given P output (Some name) text h = (h, tt)

-- what holds of the outputs of texts holds of that of the text which was cut off
pub cut_among : (P : Output → Type 0) (texts : List Text) (which : Output) {old new : DeskView}
    → AllByRecursion (λ text. P text.output) texts → CutsAt which texts old new → P which
cut_among P texts which all cut =
    subst P cut.here (all_right (λ text. P text.output) cut.before (cut.cut ∷ cut.behind)
    (subst (AllByRecursion (λ text. P text.output)) cut.are all)).0

-- the text that was cut off is one of the first
cut_sooner : (one other : List Text) (old new : DeskView) (which : Output) → CutsAt which one old new → CutsAt which (one ++ other) old new
cut_sooner one other old new which cut = record {
  before = cut.before;
  cut = cut.cut;
  behind = cut.behind ++ other;
  are = ap (λ (texts : List Text). texts ++ other) cut.are ∙ append_assoc cut.before (cut.cut ∷ cut.behind) other;
  here = cut.here;
  others = cut.others;
  whole = cut.whole;
  front = cut.front;
}

pub stopped_sooner : (one other : List Text) (old new : DeskView) (error : TextsError) → StopsTexts one old new error
    → StopsTexts (one ++ other) old new error
stopped_sooner one other old new (faults.WriteFault output) h = (h.0, cut_sooner one other old new output h.1)
stopped_sooner one other old new faults.NoMemory h = (h.0, cut_sooner one other old new h.0 h.1)

-- a text has an output of its own
abbrev pub IsApart : List Text → Text → Type 0
IsApart others text = AllByRecursion (λ other. text.output ≢ other.output) others

all_stand : (texts others : List Text) (old new : DeskView) → KeepsButTexts others old new → AllByRecursion (IsApart others) texts
    → HoldsTexts texts old → HoldsTexts texts new
all_stand [] others old new keeps apart whole = tt
all_stand (text ∷ texts) others old new keeps apart whole = (
  subst (λ (v : OutputView). HoldsWhole v text.name text.text) (sym (keeps text.output apart.0)) whole.0,
  all_stand texts others old new keeps apart.1 whole.1,
)

-- texts were written, and others behind them or a part of these
module _ (one other : List Text) {old mid : DeskView} (new : DeskView) (first : WritesAll one old mid)
    (apart : AllByRecursion (IsApart other) one) where
  others_more : (texts : List Text) → KeepsButTexts texts mid new → KeepsButTexts (one ++ texts) old new
  others_more texts keeps = λ output not_them.
      keeps output (all_right (λ text. output ≢ text.output) one texts not_them)
      ∙ first.others output (all_left (λ text. output ≢ text.output) one texts not_them)

  both_hold : (texts : List Text) → KeepsButTexts other mid new → HoldsTexts texts new → HoldsTexts (one ++ texts) new
  both_hold texts keeps whole =
      all_append (λ text. HoldsWhole (new.outputs text.output) text.name text.text) one texts
      (all_stand one other mid new keeps apart first.whole) whole

  wrote_more : WritesAll other mid new → WritesAll (one ++ other) old new
  wrote_more wrote = record { others = others_more other wrote.others; whole = both_hold other wrote.others wrote.whole }

  cut_later : (which : Output) → CutsAt which other mid new → CutsAt which (one ++ other) old new
  cut_later which cut =
      let up_to = cut.before ++ cut.cut ∷ [] in
      let are = cut.are ∙ sym (append_assoc cut.before (cut.cut ∷ []) cut.behind) in
      let keeps : KeepsButTexts other mid new = λ output not_them. cut.others output
      (all_left (λ text. output ≢ text.output) up_to cut.behind (subst (AllByRecursion (λ text. output ≢ text.output)) are not_them)) in
      record {
        before = one ++ cut.before;
        cut = cut.cut;
        behind = cut.behind;
        are = ap (λ (texts : List Text). one ++ texts) cut.are ∙ sym (append_assoc one cut.before (cut.cut ∷ cut.behind));
        here = cut.here;
        others = subst (λ (texts : List Text). KeepsButTexts texts old new) (sym (append_assoc one cut.before (cut.cut ∷ [])))
            (others_more up_to cut.others);
        whole = both_hold cut.before keeps cut.whole;
        front = cut.front;
      }

  rose_later : (which : Output) → CutsAt which other mid new → OutputFaultsRose mid new which → OutputFaultsRose old new which
  rose_later which cut rose =
      let not_first : AllByRecursion (λ text. which ≢ text.output) one =
      all_weaker (IsApart other) (λ text. which ≢ text.output) (λ text is_apart same.
      cut_among (λ output. text.output ≢ output) other which is_apart cut (sym same)) one apart in
      subst (λ (v : OutputView). Rose v.faults (new.outputs which).faults)
      (first.others which not_first) rose

  stopped_later : (error : TextsError) → StopsTexts other mid new error → StopsTexts (one ++ other) old new error
  stopped_later (faults.WriteFault output) h = (rose_later output h.1 h.0, cut_later output h.1)
  stopped_later faults.NoMemory h = (h.0, cut_later h.0 h.1)

  pub then_texts : {T : Type 0} (result : Result T TextsError) → WritesTexts other mid new result
      → WritesTexts (one ++ other) old new result
  then_texts (Ok x) h = wrote_more h
  then_texts (Err error) h = stopped_later error h

-- no output was touched before the texts were written
module _ (old mid new : DeskView) (first : KeepsOutputs old mid) (texts : List Text) where
  keeps_texts : (some : List Text) → KeepsButTexts some mid new → KeepsButTexts some old new
  keeps_texts some others = λ output not_them. others output not_them ∙ first output

  pub writes_all : WritesAll texts mid new → WritesAll texts old new
  writes_all wrote = record { others = keeps_texts texts wrote.others; whole = wrote.whole }

  cuts_at : (which : Output) → CutsAt which texts mid new → CutsAt which texts old new
  cuts_at which cut = record {
    before = cut.before;
    cut = cut.cut;
    behind = cut.behind;
    are = cut.are;
    here = cut.here;
    others = keeps_texts (cut.before ++ cut.cut ∷ []) cut.others;
    whole = cut.whole;
    front = cut.front;
  }

  pub stops_texts : (error : TextsError) → StopsTexts texts mid new error → StopsTexts texts old new error
  stops_texts (faults.WriteFault output) h =
      (subst (λ (v : OutputView). Rose v.faults (new.outputs output).faults) (first output) h.0, cuts_at output h.1)
  stops_texts faults.NoMemory h = (h.0, cuts_at h.0 h.1)
