-- The list of touched sessions and the notes of those that writes look at, as sessions change.
use Rattle.fb_tasks.proofs.Words.{◌≡◌, ◌⊎◌, ◌<◌, ℕ, List, [], ◌∷◌, ◌++◌, length, true, false, Some, inl, inr, set, get_or}
use Rattle.fb_tasks.proofs.Words.{slice_get, length-append, ap, sym, ◌∙◌, arith, subst, BTreeSet, contains, nat_cmp, pair_cmp, true≢false}
use Rattle.fb_tasks.proofs.Words.{length-set, slice_get-get_or, Session, AreListed, IsAmong, each_set, each_push}

abbrev IsTouchedIn : BTreeSet ℕ → ℕ → Session → Type 0
IsTouchedIn list k session = session.touched ≡ true → contains nat_cmp list k ≡ true

abbrev IsNotedIn : BTreeSet (ℕ × ℕ) → ℕ → Session → Type 0
IsNotedIn near k session = (chunk : ℕ) → IsAmong session.chunks chunk → contains pair_cmp near (chunk, k) ≡ true

the_other : {P Q : Type 0} → P ⊎ Q → (P → ⊥) → Q
the_other either none = elim either [ inl p ↦ absurd (none p) | inr q ↦ q ]

module _ {sessions : List Session} {listed_touched : BTreeSet ℕ} {near : BTreeSet (ℕ × ℕ)} (h : AreListed sessions listed_touched near) where
  -- a session changes, and is listed and noted where it has to be
  listed_changed : (task : ℕ) (new : Session) → IsTouchedIn listed_touched task new → IsNotedIn near task new
      → AreListed (set sessions task new) listed_touched near
  listed_changed task new there noted_there = record {
    room = omega (arith, h.room, length-set sessions task new);
    listed = each_set (IsTouchedIn listed_touched) sessions task new there (λ k session differ at. h.listed k session at);
    within = λ k is. omega (arith, h.within k is, length-set sessions task new);
    noted = each_set (IsNotedIn near) sessions task new noted_there (λ k session differ at. h.noted k session at);
  }

  -- what has the chunks of a session is noted as it is
  noted_same : (task : ℕ) (old new : Session) → slice_get sessions task ≡ Some old → new.chunks ≡ old.chunks → IsNotedIn near task new
  noted_same task old new at same chunk among = h.noted task old at chunk (subst (λ chunks. IsAmong chunks chunk) same among)

  -- more is noted
  pub listed_near : (more : BTreeSet (ℕ × ℕ)) → ((k : ℕ × ℕ) → contains pair_cmp near k ≡ true → contains pair_cmp more k ≡ true)
      → AreListed sessions listed_touched more
  listed_near more stay = record {
    room = h.room;
    listed = h.listed;
    within = h.within;
    noted = λ k session at chunk among. stay (chunk, k) (h.noted k session at chunk among);
  }

module _ {sessions : List Session} {listed_touched : BTreeSet ℕ} {near : BTreeSet (ℕ × ℕ)} (h : AreListed sessions listed_touched near) where
  -- it is listed already
  pub listed_set : (task : ℕ) (old new : Session) → slice_get sessions task ≡ Some old → contains nat_cmp listed_touched task ≡ true
      → new.chunks ≡ old.chunks → AreListed (set sessions task new) listed_touched near
  listed_set task old new at there same = listed_changed h task new (λ _. there) (noted_same h task old new at same)

  -- or was touched
  pub listed_touched-set : (task : ℕ) (old new : Session) → task < length sessions → old ≡ get_or sessions task old → old.touched ≡ true
      → new.chunks ≡ old.chunks → AreListed (set sessions task new) listed_touched near
  listed_touched-set task old new within at touched same =
      let there = slice_get-get_or sessions task old within ∙ ap Some (sym at) in
      listed_set task old new there (h.listed task old there touched) same

  -- or stays as touched as it was
  pub listed_kept : (task : ℕ) (old new : Session) → task < length sessions → old ≡ get_or sessions task old
      → new.touched ≡ old.touched → new.chunks ≡ old.chunks → AreListed (set sessions task new) listed_touched near
  listed_kept task old new within at touched same =
      let there = slice_get-get_or sessions task old within ∙ ap Some (sym at) in
      listed_changed h task new (λ is. h.listed task old there (sym touched ∙ is)) (noted_same h task old new there same)

  -- which is a listed task's session
  pub listed_there : (task : ℕ) (session : Session) → contains nat_cmp listed_touched task ≡ true → session ≡ get_or sessions task session
      → slice_get sessions task ≡ Some session
  listed_there task session is at = slice_get-get_or sessions task session (h.within task is) ∙ ap Some (sym at)

  -- a task is listed
  module _ {task : ℕ} {more : BTreeSet ℕ} (less : task < length sessions)
      (stay : (k : ℕ) → contains nat_cmp listed_touched k ≡ true → contains nat_cmp more k ≡ true)
      (only : (k : ℕ) → contains nat_cmp more k ≡ true → (k ≡ task) ⊎ (contains nat_cmp listed_touched k ≡ true)) where
    pub listed_more : AreListed sessions more near
    listed_more = record {
      room = h.room;
      listed = λ k session at now. stay k (h.listed k session at now);
      within = λ k now. elim (only k now) [ inl it ↦ omega (arith, it, less) | inr before ↦ h.within k before ];
      noted = h.noted;
    }

    -- and its session changes
    pub listed_noted : contains nat_cmp more task ≡ true → (old new : Session) → old ≡ get_or sessions task old
        → new.chunks ≡ old.chunks → AreListed (set sessions task new) more near
    listed_noted noted old new at same = listed_changed listed_more task new (λ _. noted)
        (noted_same listed_more task old new (slice_get-get_or sessions task old less ∙ ap Some (sym at)) same)

    -- and its session changes, which is noted in all its chunks
    pub listed_anew : contains nat_cmp more task ≡ true → (new : Session)
        → ((chunk : ℕ) → IsAmong new.chunks chunk → contains pair_cmp near (chunk, task) ≡ true)
        → AreListed (set sessions task new) more near
    listed_anew noted new near_noted = listed_changed listed_more task new (λ _. noted) near_noted

  -- a session that isn't touched is opened, without chunks
  pub listed_push : (new : Session) → new.touched ≡ false → ((chunk : ℕ) → IsAmong new.chunks chunk → ⊥)
      → length sessions < 4294967295 → AreListed (sessions ++ new ∷ []) listed_touched near
  listed_push new untouched none more = record {
    room = omega (arith, more, length-append sessions (new ∷ []));
    listed = each_push (IsTouchedIn listed_touched) sessions new (λ is. absurd (true≢false (sym is ∙ untouched))) h.listed;
    within = λ k is. omega (arith, h.within k is, length-append sessions (new ∷ []));
    noted = each_push (IsNotedIn near) sessions new (λ chunk among. absurd (none chunk among)) h.noted;
  }

  -- a task was tested: it isn't touched any more, and what it lost of its chunks was taken out
  pub listed_less : (task : ℕ) (old new : Session) (less : BTreeSet ℕ) (fewer : BTreeSet (ℕ × ℕ)) (Lost : ℕ → Type 0)
      → slice_get sessions task ≡ Some old → new.touched ≡ false
      → ((k : ℕ) → contains nat_cmp listed_touched k ≡ true → (k ≡ task) ⊎ (contains nat_cmp less k ≡ true))
      → ((k : ℕ) → contains nat_cmp less k ≡ true → contains nat_cmp listed_touched k ≡ true)
      → ((k : ℕ × ℕ) → contains pair_cmp near k ≡ true → ((k.1 ≡ task) × Lost k.0) ⊎ (contains pair_cmp fewer k ≡ true))
      → ((chunk : ℕ) → IsAmong new.chunks chunk → IsAmong old.chunks chunk × (Lost chunk → ⊥))
      → AreListed (set sessions task new) less fewer
  listed_less task old new less fewer Lost at untouched others only near_others chunks = record {
    room = omega (arith, h.room, length-set sessions task new);
    listed = each_set (IsTouchedIn less) sessions task new (λ is. absurd (true≢false (sym is ∙ untouched)))
        (λ k session differ there is. the_other (others k (h.listed k session there is)) (λ it. differ (sym it)));
    within = λ k is. omega (arith, h.within k (only k is), length-set sessions task new);
    noted = each_set (IsNotedIn fewer) sessions task new
        (λ chunk among. let was = chunks chunk among in
        the_other (near_others (chunk, task) (h.noted task old at chunk was.0)) (λ gone. was.1 gone.1))
        (λ k session differ there chunk among. the_other (near_others (chunk, k) (h.noted k session there chunk among))
        (λ gone. differ (sym gone.0)));
  }
