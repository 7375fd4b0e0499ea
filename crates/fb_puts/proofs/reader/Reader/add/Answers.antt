use Rattle.fb_puts.proofs.Words.{◌≡◌, [], ◌∷◌, ◌++◌, false, map, refl, subst, sym, list_any, share, range_of, IsNextPut, MayFollow}
use Rattle.fb_puts.proofs.Words.{HasTaken}
use Rattle.fb_puts.proofs.LinesRead.{put_kept}
use Rattle.fb_puts.proofs.reader.Reader.add.Goals as goal

pub returns-in_ok-push-in-Put-clause-sound : goal.returns-in_ok-push-in-Put-clause-sound
returns-in_ok-push-in-Put-clause-sound c = λ terms reader follows.
    let old = c.args.self.now in
    let put = c.in-Put.put in
    let ranges = map range_of old.puts.items in
    let next : IsNextPut terms old put = subst (MayFollow terms old) c.in-Put.is follows in
    put_kept terms old (record { reserve = old.reserve; instant = put.instant; puts = c.push.new.self; taken = c.add.new.self }) put reader
    next refl refl c.in_ok-push-in-Put.ensures.items
    (subst (λ r. HasTaken c.add.new.self (ranges ++ r ∷ [])) c.range_of.ensures (c.in_ok-add-in-Put.ensures.taken
    ranges reader.taken (λ known.
    subst (λ r. list_any (share r) ranges ≡ false) (sym c.range_of.ensures) (next.apart known))))
