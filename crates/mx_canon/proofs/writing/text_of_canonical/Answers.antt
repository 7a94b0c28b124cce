use Rattle.std.proofs.Common.{◌≡◌, true, rules, sym, ◌∙◌}
use Rattle.serde_json.specs.View.{view}
use Rattle.mx_canon.specs.Canonical.{is_canonical, canonical_text}
use Rattle.mx_canon.proofs.FaultLemmas.{has_float-is_canonical}
use Rattle.mx_canon.proofs.TextLemmas.{canon_same}
use Rattle.mx_canon.proofs.writing.text_of_canonical.Goals as goal

pub returns-clause-ok : goal.returns-clause-ok
unfolding canonical_text
returns-clause-ok c =
    let d = view c.args.value.now in
    let canonical : is_canonical d ≡ true = search rules in
    c.in_ok-bytes.ensures.text (has_float-is_canonical d canonical) ∙ sym (canon_same d c.requires.keys)
