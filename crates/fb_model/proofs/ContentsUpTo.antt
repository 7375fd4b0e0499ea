-- What a sector holds depends only on the services that have started by then, and so does the foreground.
use Rattle.fb_model.proofs.Words.{◌≡◌, ℕ, ◌<◌, ◌≤◌, List, [], ◌∷◌, ◌++◌, map, ap, ap₂, sym, ◌∙◌, arith, Bool, false, None, nat_le, filter}
use Rattle.fb_model.proofs.Words.{◌&&◌, ◌==◌, if◌then◌else◌, AllByRecursion, flat_map, last_or, range_with_len, filter-append, all_weaker}
use Rattle.fb_model.proofs.Words.{all_append, none_kept, all_map, after_is, by_is, same_map, Disk, Passage, Content, Filled, runs_of}
use Rattle.fb_model.proofs.Words.{bad_of, unwritten, ForeRow, Served, media, finish, Written, writes_of, Medium, content, content_by}
use Rattle.fb_model.proofs.Words.{contents_at, fore_row, HaveSameSectors, fore_known}
use Rattle.std.proofs.lemmas.Bool.{and_right}
use Rattle.fb_units.proofs.Alike.{same_map_where}
use Rattle.fb_store.specs.declared.content.Content.TheVariants.{Unreadable}
use Rattle.fb_model.proofs.Passages.{WritesLate, IsServiceOf, pass_by}
use Rattle.fb_model.proofs.ReplaysUpTo.{StartsBehind, AlikeBy, both, rest}

-- the sector's writes that have ended by then
abbrev pub is_of_by : ℕ → ℕ → Written → Bool
is_of_by lbn t write = (write.passage.lbn == lbn) && nat_le write.passage.end t

-- none of these has ended by then
pub none_by : (lbn t : ℕ) (writes : List Written) → AllByRecursion (λ (w : Written). t < w.passage.end) writes
    → filter (is_of_by lbn t) writes ≡ []
none_by lbn t writes all = none_kept (is_of_by lbn t) writes
    (all_weaker (λ (w : Written). t < w.passage.end) (λ w. is_of_by lbn t w ≡ false)
    (λ w h. and_right (w.passage.lbn == lbn) (nat_le w.passage.end t) (after_is w.passage.end t h)) writes all)

module _ (t done : ℕ) where
  written_behind : (u : ℕ) (replay : List Served) → u ≤ done → AllByRecursion (StartsBehind t done) replay
      → AllByRecursion WritesLate replay → AllByRecursion (λ (w : Written). u < w.passage.end) (flat_map writes_of replay)
  written_behind u [] h behind late = tt
  written_behind u (served ∷ later) h behind late =
      let starts = behind.0.1 in
      all_append (λ (w : Written). u < w.passage.end) (writes_of served) (flat_map writes_of later)
      (all_weaker (λ (w : Written). served.start < w.passage.end) (λ (w : Written). u < w.passage.end)
      (λ w after. omega (arith, after, starts, h)) (writes_of served) late.0)
      (written_behind u later h behind.1 late.1)

  same_writes : (lbn u : ℕ) {xs ys : List Served} → u ≤ done → AlikeBy t done xs ys → AllByRecursion WritesLate xs
      → AllByRecursion WritesLate ys
      → filter (is_of_by lbn u) (flat_map writes_of xs) ≡ filter (is_of_by lbn u) (flat_map writes_of ys)
  same_writes lbn u h (both {served = served} {xs = xs} {ys = ys} start ends alike) late_x late_y =
      filter-append (is_of_by lbn u) (writes_of served) (flat_map writes_of xs)
      ∙ (ap (λ ws. filter (is_of_by lbn u) (writes_of served) ++ ws) (same_writes lbn u h alike late_x.1 late_y.1)
      ∙ sym (filter-append (is_of_by lbn u) (writes_of served) (flat_map writes_of ys)))
  same_writes lbn u h (rest {xs = xs} {ys = ys} behind_x behind_y) late_x late_y =
      none_by lbn u (flat_map writes_of xs) (written_behind u xs h behind_x late_x)
      ∙ sym (none_by lbn u (flat_map writes_of ys) (written_behind u ys h behind_y late_y))

-- the disk, its latent sectors, and what these services write
abbrev pub medium_with : Disk → List ℕ → List Served → Medium
medium_with disk latent replay = record { disk = disk; latent = latent; writes = flat_map writes_of replay }

-- sectors hold the same until then
abbrev pub HoldSame : ℕ → Medium → Medium → Type 0
HoldSame done a b = (lbn u : ℕ) → u ≤ done → content a lbn u ≡ content b lbn u

-- of latent sectors it doesn't matter in which order they are listed
same_unwritten : (a b : List ℕ) → HaveSameSectors a b → (lbn : ℕ) → unwritten a lbn ≡ unwritten b lbn
same_unwritten a b same lbn = ap (λ bad. if bad then Unreadable else Filled 0) (same lbn)

pub hold_same : (disk : Disk) (latent_a latent_b : List ℕ) → HaveSameSectors latent_a latent_b → (t done : ℕ) (xs ys : List Served)
    → AlikeBy t done xs ys → AllByRecursion WritesLate xs → AllByRecursion WritesLate ys
    → HoldSame done (medium_with disk latent_a xs) (medium_with disk latent_b ys)
hold_same disk latent_a latent_b same t done xs ys alike late_x late_y = λ lbn u h.
    ap₂ (λ ws before. content_by (last_or None ws) before) (same_writes t done lbn u h alike late_x late_y)
    (same_unwritten latent_a latent_b same lbn)

pub same_contents : (done : ℕ) (a b : Medium) → HoldSame done a b → (lbn n u : ℕ) → u ≤ done → contents_at a lbn n u ≡ contents_at b lbn n u
same_contents done a b same lbn n u h = same_map (λ sector. (sector, content a sector u)) (λ sector. (sector, content b sector u))
    (λ sector. ap (λ c. (sector, c)) (same sector u h)) (range_with_len lbn n)

-- ---- the foreground

-- the row of a service that finds these sectors, if it reads
abbrev row_with : Served → List (ℕ × Content) → ForeRow
row_with served sectors =
    let runs = if served.request.write then [] else runs_of sectors in
    record {
      request = served.request;
      start = served.start;
      media = media served;
      finish = finish served;
      bad = bad_of runs;
      content = runs;
    }

same_row : (done : ℕ) (a b : Medium) → HoldSame done a b → (disk : Disk) (served : Served) → IsServiceOf disk served → finish served ≤ done
    → fore_row a served ≡ fore_row b served
same_row done a b same disk served is ends =
    ap (row_with served)
    (same_map_where (λ (p : Passage). (p.begin ≤ finish served) × (p.end ≤ finish served))
    (λ (p : Passage). (p.lbn, content a p.lbn p.begin)) (λ (p : Passage). (p.lbn, content b p.lbn p.begin))
    (λ p h. ap (λ c. (p.lbn, c)) (same p.lbn p.begin (omega (arith, h.0, ends)))) served.passages (pass_by disk served is))

pub same_found : (disk : Disk) (a b : List ℕ) (writes : List Written) → HaveSameSectors a b → (replay : List Served)
    → map (fore_row (record { disk = disk; latent = a; writes = writes })) replay
    ≡ map (fore_row (record { disk = disk; latent = b; writes = writes })) replay
same_found disk a b writes same = same_map (fore_row (record { disk = disk; latent = a; writes = writes }))
    (fore_row (record { disk = disk; latent = b; writes = writes }))
    (λ served. ap (row_with served)
    (same_map (λ (p : Passage). (p.lbn, content (record { disk = disk; latent = a; writes = writes }) p.lbn p.begin))
    (λ (p : Passage). (p.lbn, content (record { disk = disk; latent = b; writes = writes }) p.lbn p.begin))
    (λ p. ap (λ before. (p.lbn, content_by (last_or None (filter (is_of_by p.lbn p.begin) writes)) before))
    (same_unwritten a b same p.lbn)) served.passages))

rows_behind : (t done : ℕ) (medium : Medium) (replay : List Served) → AllByRecursion (StartsBehind t done) replay
    → fore_known t (map (fore_row medium) replay) ≡ []
rows_behind t done medium replay behind = none_kept (λ (row : ForeRow). nat_le row.start t) (map (fore_row medium) replay)
    (all_map (λ (row : ForeRow). nat_le row.start t ≡ false) (fore_row medium) replay
    (all_weaker (StartsBehind t done) (λ served. nat_le served.start t ≡ false) (λ served h. after_is served.start t h.0) replay behind))

pub same_fore : (t done : ℕ) (a b : Medium) → HoldSame done a b → (disk : Disk) {xs ys : List Served} → AlikeBy t done xs ys
    → AllByRecursion (IsServiceOf disk) xs
    → fore_known t (map (fore_row a) xs) ≡ fore_known t (map (fore_row b) ys)
same_fore t done a b same disk (both {served = served} {xs = xs} {ys = ys} start ends alike) is =
    let by = by_is served.start t start in
    let others = same_fore t done a b same disk alike is.1 in
    rw by (ap₂ (λ row rows. row ∷ rows) (same_row done a b same disk served is.0 ends) others)
same_fore t done a b same disk (rest {xs = xs} {ys = ys} behind_x behind_y) is =
    rows_behind t done a xs behind_x ∙ sym (rows_behind t done b ys behind_y)
