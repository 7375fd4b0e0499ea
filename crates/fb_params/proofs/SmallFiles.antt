-- The small files are read as they have to be, by computation.
use Rattle.fb_params.proofs.Words.{refl, is_utf8, chars, first_fault, document_of, keeps, params_of_table, params_of_document, params_of}
use Rattle.toml.proofs.OnLiterals.{toml_on_literals}
use Rattle.fb_geometry.specs.Places.{places}
use Rattle.fb_seek.specs.Faults.{fault_from}
use Rattle.fb_params.specs.SmallFiles.{Refusals, Acceptances}

pub refusals : Refusals
unfolding toml_on_literals is_utf8 chars places first_fault fault_from document_of keeps params_of_table params_of_document params_of
refusals = record {
  empty = refl;
  unknown_key = refl;
  text_for_a_number = refl;
  no_rotation = refl;
  key_twice = refl;
  all_spares = refl;
  zone_begins_late = refl;
  skewed_by_a_turn = refl;
  defect_outside = refl;
  defect_twice = refl;
  defect_without_spare = refl;
  no_points = refl;
  first_distance_two = refl;
  distance_again = refl;
  time_falls = refl;
  reach_too_short = refl;
  no_time = refl;
  latent_outside = refl;
  no_zone = refl;
  no_sectors = refl;
  cut_in_a_key = refl;
  grown_outside = refl;
  grown_twice = refl;
  grown_without_spare = refl;
  spares_of_version_one = refl;
  grown_in_version_one = refl;
}

pub acceptances : Acceptances
unfolding toml_on_literals is_utf8 chars places first_fault fault_from document_of keeps params_of_table params_of_document params_of
acceptances = record {
  one = refl;
  two = refl;
}
