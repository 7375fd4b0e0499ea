use Rattle.std.proofs.Common.{◌≡◌, sym, ap, ◌∙◌}
use Rattle.std.specs.Prelude.{option_and_then}
use Rattle.std.specs.Str.{bytes_eq}
use Rattle.fb_desk.specs.Holdings.{NamedBytes}
use Rattle.fb_desk.specs.Holdings.{bytes_at}
use Rattle.fb_desk.proofs.Entries.{last_here, last_before}
use Rattle.fb_desk.proofs.holdings.index_of.Goals as goal
use Rattle.fb_desk.proofs.holdings.index_of.Goals.{then-eq, else-eq}

pub loop-index-preserved : goal.loop-index-preserved
loop-index-preserved c =
    let entries = c.args.entries.now in
    let name = c.args.name.now in
    let entry = c.index-entries-index.result in
    let same : c.eq.result ≡ bytes_eq entry.name name =
    c.eq.ensures ∙ ap (λ text. bytes_eq text name) (c.as_str.ensures.value ∙ ap (λ (e : NamedBytes). e.name) c.entry.view_is) in
    elim c.if-eq.branch [
      | then-eq w ↦ record {
        value = ap (option_and_then (bytes_at entries)) w.found-is
            ∙ last_here entries name c.loop-index.index entry c.loop-index-test.true c.index-entries-index.is (sym same ∙ w.if-eq.true);
        within = rw w.found-is c.loop-index-test.true;
      }
      | else-eq w ↦ record {
        value = ap (option_and_then (bytes_at entries)) w.found-is
            ∙ last_before entries name c.loop-index.index entry c.loop-index.found c.loop-index-test.true c.index-entries-index.is
            (sym same ∙ w.if-eq.false) c.loop-index.invariant.value;
        within = rw w.found-is c.loop-index.invariant.within;
      }
    ]
