use Rattle.std.proofs.Common.{◌≡◌, rules, true}
use Rattle.serde_json.specs.View.{view}
use Rattle.mx_canon.specs.Canonical.{is_canonical}
use Rattle.mx_pdu.proofs.TextLemmas.{no-error}
use Rattle.mx_pdu.proofs.texts.canonical_text_of.Goals as goal

pub text_of_canonical-requires-clause-canonical : goal.text_of_canonical-requires-clause-canonical
text_of_canonical-requires-clause-canonical c =
    let canonical : is_canonical (view c.args.value.now) ≡ true = search rules in
    no-error (view c.args.value.now) canonical
