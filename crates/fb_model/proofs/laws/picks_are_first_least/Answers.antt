use Rattle.fb_model.proofs.Picks.{pick_of-first_least, ready_pick, one_least, one_pick}
use Rattle.fb_model.proofs.laws.picks_are_first_least.Goals as goal

pub returns : goal.returns
returns c = record {
  all = pick_of-first_least;
  ready = ready_pick;
  one = λ key requests pick others least. one_least key requests others pick least;
  one_ready = λ key now requests pick others least. one_pick key now requests others pick least;
}
