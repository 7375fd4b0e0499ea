-- The end line is the only line that begins like it.
use Rattle.std.proofs.lemmas.Option.{same_Some}
use Rattle.fb_units.proofs.Lists.{all_push, all_weaker, all_get, get_left, get_right}
use Rattle.fb_report.proofs.Words.{and_parts, ◌≡◌, ℕ, ◌+◌, ◌≤◌, List, [], ◌∷◌, ◌++◌, ◌⊎◌, inl, inr, length, true, false, refl, sym, ap}
use Rattle.fb_report.proofs.Words.{◌∙◌, arith, lit≤, true≢false, subst, length-append, Ok, ◌==◌, ◌&&◌, codes, slice_get}
use Rattle.fb_report.proofs.Words.{AllByRecursion, onto_first, list_any, bytes_eq, cases_Bool, Decides-eqb, slice_split-cons_yes}
use Rattle.fb_report.proofs.Words.{slice_split-cons_no, Grammar, LineFields, Form, spelled, ended, fore_grammar, back_grammar, have_forms}
use Rattle.fb_report.proofs.Words.{is_line_of, is_word}
use Rattle.fb_report.proofs.Words.{report_fields, may_follow, may_end, lines_behind, BeginsLikeEnd, EndsOnce, ReportsEndOnce}
use Rattle.fb_report.proofs.{Behind.spelled_again, Rows.as_many, Whole.row_or_end}

-- ---- forms of a line

-- the first byte of a line is that of its first field
onto_begins : (byte : ℕ) (parts : List (List ℕ))
    → (bytes : List ℕ) × (others : List (List ℕ)) × (onto_first byte parts ≡ (byte ∷ bytes) ∷ others)
onto_begins byte [] = ([], [], refl)
onto_begins byte (part ∷ parts) = (part, parts, refl)

-- the first form refuses a field that begins with an e, and there are few forms
pub record IsPlain (forms : List Form) : Type 0 where
  pub first : Form
  pub others : List Form
  pub is : forms ≡ first ∷ others
  pub refuses : (bytes : List ℕ) → first (101 ∷ bytes) ≡ false
  pub few : length forms ≤ 16

-- a row or a first line
pub record IsPlainLine (line : LineFields) : Type 0 where
  pub unlike : BeginsLikeEnd (spelled line) → ⊥
  pub few : length line ≤ 16

unended : (line : List ℕ) → BeginsLikeEnd (ended line) → BeginsLikeEnd line
unended [] begins = absurd (let e = begins.1 in cc)
unended (byte ∷ bytes) begins = (bytes, (let e = begins.1 in cc))

refused : (forms : List Form) → IsPlain forms → (rest : List ℕ) → is_line_of forms (101 ∷ rest) ≡ true → ⊥
refused forms plain rest h =
    let begins = onto_begins 101 (report_fields rest) in
    let fields : report_fields (101 ∷ rest) ≡ (101 ∷ begins.0) ∷ begins.1 = slice_split-cons_no (λ byte. byte == 32) 101 rest refl
    ∙ begins.2 in
    let first : (plain.first (101 ∷ begins.0) && have_forms plain.others begins.1) ≡ true =
    sym (ap (λ forms. have_forms forms ((101 ∷ begins.0) ∷ begins.1)) plain.is) ∙ (sym (ap (have_forms forms) fields) ∙ h) in
    true≢false (sym (and_parts (plain.first (101 ∷ begins.0)) (have_forms plain.others begins.1) first).0 ∙ plain.refuses begins.0)

plain_line : (forms : List Form) → IsPlain forms → (line : List ℕ) → is_line_of forms line ≡ true → IsPlainLine (report_fields line)
plain_line forms plain line h = record {
  unlike = λ like. let begins = unended line (subst BeginsLikeEnd (spelled_again line) like) in
      refused forms plain begins.0 (subst (λ line. is_line_of forms line ≡ true) begins.1 h);
  few = omega (arith, as_many forms (report_fields line) h, plain.few);
}

-- one of the rows
row_line : (rows : List (List Form)) → AllByRecursion IsPlain rows → (line : List ℕ) → list_any (λ forms. is_line_of forms line) rows ≡ true
    → IsPlainLine (report_fields line)
row_line [] plain line h = absurd (cc)
row_line (row ∷ rows) plain line h = elim (cases_Bool (is_line_of row line)) [
  | inl is ↦ plain_line row plain.0 line is
  | inr other ↦ row_line rows plain.1 line (rw other at h)
]

-- ---- the end line

-- the only forms of an end line begin with the word
pub record IsEndForms (forms : List Form) : Type 0 where
  pub others : List Form
  pub is : forms ≡ is_word (codes "end") ∷ others
  pub few : length forms ≤ 16

pub record IsEndLine (line : LineFields) : Type 0 where
  pub begins : BeginsLikeEnd (spelled line)
  pub few : length line ≤ 16

word_begins : (field : List ℕ) → is_word (codes "end") field ≡ true → (bytes : List ℕ) × (field ≡ 101 ∷ bytes)
word_begins [] h = absurd (cc)
word_begins (byte ∷ bytes) h =
    (bytes, ap (λ first. first ∷ bytes) ((Decides-eqb byte 101).0 (and_parts (byte == 101) (bytes_eq bytes (codes "nd")) h).0))

-- a line begins as its first field does
onto_same : (first byte : ℕ) (bytes : List ℕ) (parts others : List (List ℕ)) → onto_first first parts ≡ (byte ∷ bytes) ∷ others
    → first ≡ byte
onto_same first byte bytes [] others h = cc
onto_same first byte bytes (part ∷ parts) others h = cc

line_begins : (line : List ℕ) (byte : ℕ) (bytes : List ℕ) (others : List (List ℕ)) → report_fields line ≡ (byte ∷ bytes) ∷ others
    → (rest : List ℕ) × (line ≡ byte ∷ rest)
line_begins [] byte bytes others h = absurd (cc)
line_begins (first ∷ rest) byte bytes others h = elim (cases_Bool (first == 32)) [
  | inl space ↦ let wrong : [] ∷ report_fields rest ≡ (byte ∷ bytes) ∷ others =
      sym (slice_split-cons_yes (λ byte. byte == 32) first rest space) ∙ h in absurd (cc)
  | inr other ↦ (
    rest,
    ap (λ byte. byte ∷ rest)
        (onto_same first byte bytes (report_fields rest) others (sym (slice_split-cons_no (λ byte. byte == 32) first rest other) ∙ h)),
  )
]

has_word : (others : List Form) (fields : List (List ℕ)) → have_forms (is_word (codes "end") ∷ others) fields ≡ true
    → (bytes : List ℕ) × (more : List (List ℕ)) × (fields ≡ (101 ∷ bytes) ∷ more)
has_word others [] h = absurd (cc)
has_word others (field ∷ more) h =
    let word = word_begins field (and_parts (is_word (codes "end") field) (have_forms others more) h).0 in
    (word.0, more, ap (λ field. field ∷ more) word.1)

end_line : (forms : List Form) → IsEndForms forms → (line : List ℕ) → is_line_of forms line ≡ true → IsEndLine (report_fields line)
end_line forms ends line h =
    let word = has_word ends.others (report_fields line) (sym (ap (λ forms. have_forms forms (report_fields line)) ends.is) ∙ h) in
    record {
      begins = let first = line_begins line 101 word.0 word.1 word.2 in
          subst BeginsLikeEnd (sym (spelled_again line)) (first.0 ++ 10 ∷ [], ap ended first.1);
      few = omega (arith, as_many forms (report_fields line) h, ends.few);
    }

-- ---- reports

-- the grammar's first lines and rows are plain, and its last line begins with the word
pub record EndsByWord (grammar : Grammar) : Type 0 where
  pub first : IsPlain grammar.first
  pub rows : AllByRecursion IsPlain grammar.rows
  pub last : IsEndForms grammar.last

-- plain lines and an end line behind them
pub record AreEnded (lines : List LineFields) : Type 0 where
  pub front : List LineFields
  pub last : LineFields
  pub is : lines ≡ front ++ last ∷ []
  pub plain : AllByRecursion IsPlainLine front
  pub end : IsEndLine last

module _ (grammar : Grammar) (by_word : EndsByWord grammar) where
  follower : (lines : List LineFields) (line : List ℕ) → may_follow grammar lines (report_fields line) ≡ true
      → IsPlainLine (report_fields line)
  follower [] line h = plain_line grammar.first by_word.first line h
  follower (first ∷ rows) line h = row_line grammar.rows by_word.rows line h

  ender : (lines : List LineFields) (line : List ℕ) → may_end grammar lines (report_fields line) ≡ true → IsEndLine (report_fields line)
  ender [] line h = absurd (cc)
  ender (first ∷ rows) line h = end_line grammar.last by_word.last line h

  are_ended : (lines : List LineFields) (parts : List (List ℕ)) (all : List LineFields)
      → AllByRecursion IsPlainLine lines → lines_behind grammar lines parts ≡ Ok all → AreEnded all
  unfolding lines_behind
  are_ended lines [] all plain h = absurd (cc)
  are_ended lines (rest ∷ []) all plain h = absurd (cc)
  are_ended lines (line ∷ next ∷ parts) all plain h = elim (row_or_end grammar lines line next parts all h) [
    | inl row ↦ are_ended (lines ++ report_fields line ∷ []) (next ∷ parts) all
        (all_push IsPlainLine lines (report_fields line) plain (follower lines line row.follows)) row.others
    | inr end ↦ record { front = lines; last = report_fields line; is = end.whole; plain = plain; end = ender lines line end.ends }
  ]

ends_once : (lines : List LineFields) → AreEnded lines → EndsOnce lines
ends_once lines are =
    let front = are.front in
    let last = are.last in
    let count : length lines ≡ length front + 1 = ap length are.is ∙ length-append front (last ∷ []) in
    record {
      some = omega arith;
      last = λ line index at found.
          let same : last ≡ line = same_Some last line
          (sym (ap (λ lines. slice_get lines index) are.is ∙ get_right front (last ∷ []) 0 index (omega arith)) ∙ found) in
          subst (λ line. BeginsLikeEnd (spelled line)) same are.end.begins;
      others = λ line index before found.
          (all_get IsPlainLine front index line are.plain
          (sym (ap (λ lines. slice_get lines index) are.is ∙ get_left front (last ∷ []) index (omega arith)) ∙ found)).unlike;
      few = let P : List LineFields → Type 0 = AllByRecursion (λ line. length line ≤ 16) in
          subst P (sym are.is)
          (all_push (λ line. length line ≤ 16) front last
          (all_weaker IsPlainLine (λ line. length line ≤ 16) (λ line plain. plain.few) front are.plain) are.end.few);
    }

-- ---- the two grammars

plain : (first : Form) (others : List Form) → ((bytes : List ℕ) → first (101 ∷ bytes) ≡ false) → length (first ∷ others) ≤ 16
    → IsPlain (first ∷ others)
plain first others refuses few = record { first = first; others = others; is = refl; refuses = refuses; few = few }

fore_by_word : EndsByWord fore_grammar
fore_by_word = record {
  first = plain _ _ (λ bytes. refl) (lit≤ tt);
  rows = (plain _ _ (λ bytes. refl) (lit≤ tt), (plain _ _ (λ bytes. refl) (lit≤ tt), tt));
  last = record { others = _; is = refl; few = lit≤ tt };
}

back_by_word : EndsByWord back_grammar
back_by_word = record {
  first = plain _ _ (λ bytes. refl) (lit≤ tt);
  rows = (
    plain _ _ (λ bytes. refl) (lit≤ tt),
    (
      plain _ _ (λ bytes. refl) (lit≤ tt),
      (
        plain _ _ (λ bytes. refl) (lit≤ tt),
        (
          plain _ _ (λ bytes. refl) (lit≤ tt),
          (
            plain _ _ (λ bytes. refl) (lit≤ tt),
            (
              plain _ _ (λ bytes. refl) (lit≤ tt),
              (plain _ _ (λ bytes. refl) (lit≤ tt), (plain _ _ (λ bytes. refl) (lit≤ tt), (plain _ _ (λ bytes. refl) (lit≤ tt), tt))),
            ),
          ),
        ),
      ),
    ),
  );
  last = record { others = _; is = refl; few = lit≤ tt };
}

by_word : (grammar : Grammar) → (grammar ≡ fore_grammar) ⊎ (grammar ≡ back_grammar) → EndsByWord grammar
by_word grammar known = elim known [
  | inl fore ↦ subst EndsByWord (sym fore) fore_by_word
  | inr back ↦ subst EndsByWord (sym back) back_by_word
]

pub reports_end_once : ReportsEndOnce
reports_end_once grammar lines known report = ends_once lines (are_ended grammar (by_word grammar known) [] _ lines tt report)
