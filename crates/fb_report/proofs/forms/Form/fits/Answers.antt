use Rattle.fb_units.proofs.Alike.{list_any-map}
use Rattle.fb_report.proofs.Words.{◌∙◌, sym, ap, bytes_eq, fits}
use Rattle.fb_report.proofs.forms.Form.fits.Goals as goal

pub returns-in-OneOf : goal.returns-in-OneOf
returns-in-OneOf c = c.is_one_of.ensures ∙ sym (list_any-map (bytes_eq c.args.field.now) (λ word. word.now) c.in-OneOf.words.now)
    ∙ ap (λ form. fits form c.args.field.now) (sym c.in-OneOf.is)
