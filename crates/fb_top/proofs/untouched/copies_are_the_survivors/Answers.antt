use Rattle.fb_top.proofs.Words.{◌≡◌, ◌∙◌, Option, ap, sym, option_map, rebuild_calls, Rebuilt, RebuildTerms, replacement, sectors_of}
use Rattle.fb_top.proofs.Words.{survivor, device_inputs}
use Rattle.fb_top.proofs.Arrayed.{one_copy}
use Rattle.fb_top.proofs.OneSection.{calls_of_device}
use Rattle.fb_top.proofs.untouched.copies_are_the_survivors.Goals as goal

pub returns : goal.returns
returns c = λ old new terms rebuild runs run copy arrayed given at.
    let array = arrayed.are_runs.array in
    let mine = arrayed.are_runs.each rebuild.device run at in
    let inputs = device_inputs terms array rebuild.device mine.trace in
    let sound = arrayed.are_runs.sound in
    let made : copy ≡ replacement (sectors_of array) run = one_copy copy (replacement (sectors_of array) run)
    (arrayed.copied ∙ ap (option_map (replacement (sectors_of array))) (ap (λ (r : Option RebuildTerms). survivor r runs) given ∙ at)) in
    let calls : inputs.calls ≡ rebuild_calls array.disk.map =
    calls_of_device terms.rebuild rebuild array mine.trace given sound arrayed.are_runs.accepts.script in
    record {
      contents = ap (λ (one : Rebuilt). one.content) made;
      count = ap (λ (one : Rebuilt). one.covered) made;
      covered = λ lbn held. c.covered_sectors_are_the_survivors.ensures.at_end inputs run lbn held sound mine.accepted mine.full;
      covered_at_rest =
          λ t lbn held rests. c.covered_sectors_are_the_survivors.ensures.at_rest inputs run t lbn held sound mine.accepted mine.full rests;
      whole = λ instant sealed.
          let whole = c.sealed_rebuilds_are_whole.ensures.at_end inputs run instant sound mine.accepted mine.full calls
          (ap (λ (one : Rebuilt). one.sealed) (sym made) ∙ sealed) in
          (ap (λ (one : Rebuilt). one.covered) made ∙ whole.covered, ap (λ (one : Rebuilt). one.content) made ∙ whole.content);
      stays_whole = λ instant t lbn sealed from rests inside.
          c.sealed_rebuilds_are_whole.ensures.at_rest inputs run instant t sound mine.accepted mine.full calls
          (ap (λ (one : Rebuilt). one.sealed) (sym made) ∙ sealed) from rests lbn inside;
    }
