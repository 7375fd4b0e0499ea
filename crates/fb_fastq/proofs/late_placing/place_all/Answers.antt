use Rattle.std.proofs.lemmas.List.{take_more}
use Rattle.fb_fastq.proofs.Words.{◌++◌, ◌∷◌, [], ◌∙◌, ap, sym, take, get_or, append-nil, append_assoc}
use Rattle.fb_fastq.proofs.late_placing.place_all.Goals as goal

pub loop-i-init : goal.loop-i-init
loop-i-init g c = record { pending = sym (append-nil _); fits = c.requires.fits }

pub loop-i-preserved : goal.loop-i-preserved
loop-i-preserved g c =
    let arrived = c.args.arrived.now in
    let i = c.loop-i.i in
    let was = g.M.Placing.pending c.args.placed.now in
    let one = get_or arrived i _ in
    record {
      pending = c.in-Ok.ensures.ok ∙ (ap (λ rs. rs ++ one ∷ []) c.loop-i.invariant.pending ∙ (append_assoc was (take i arrived) (one ∷ [])
          ∙ ap (λ rs. was ++ rs) (sym (take_more arrived i _ c.loop-i-test.true))));
      fits = c.place.ensures.fits;
    }
