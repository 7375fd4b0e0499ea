use Rattle.fb_params.proofs.Words.{ap, sym, arith, ◌∙◌, Ok, table_view, cylinders_of}
use Rattle.fb_params.proofs.Described.{described}
use Rattle.fb_params.specs.ParamsValue.{mechanics_of}
use Rattle.fb_params.specs.Reading.{possible_arm}
use Rattle.fb_params.proofs.parameters.params_of_table.Goals as goal

pub new-disk-requires-clause-same_cylinders : goal.new-disk-requires-clause-same_cylinders
new-disk-requires-clause-same_cylinders c =
    c.in_ok-mechanism.ensures.cylinders ∙ c.cylinders.ensures.value ∙ ap (λ map. cylinders_of map.zones) c.geometry-geometry.ensures

pub returns-clause-value : goal.returns-clause-value
returns-clause-value c =
    let table = table_view c.args.table.now in
    let map = c.in_ok-map.map in
    let cylinders = c.cylinders.ensures.value ∙ ap (λ map. cylinders_of map.zones) c.geometry-geometry.ensures in
    rw (c.new-disk.ensures.map, c.new-disk.ensures.mechanism, c.new-disk.ensures.sector_bytes ∙ c.small_number_at-sector_bytes.ensures)
    (described c.args.layout table map _ _
    (c.in_ok-geometry_of.ensures ∙ ap Ok (sym c.in_ok-map.ensures))
    (ap (λ n. possible_arm (mechanics_of n table)) (sym cylinders) ∙ c.in_ok-mechanism.ensures.value)
    (rw (c.count.ensures.value, c.elements_at.ensures) at c.in_ok-latent.ensures.value))

pub returns-clause-latent_rises : goal.returns-clause-latent_rises
returns-clause-latent_rises c = c.in_ok-latent.ensures.rises

pub returns-clause-latent_on_disk : goal.returns-clause-latent_on_disk
returns-clause-latent_on_disk c = rw c.new-disk.ensures.map (rw c.count.ensures.value at c.in_ok-latent.ensures.on_disk)
