use Rattle.std.proofs.Common.{◌∙◌}
use Rattle.serde_json.specs.View.{view}
use Rattle.mx_pdu.proofs.CanonicalLemmas.{is_ok-canonical}
use Rattle.mx_pdu.proofs.checking.has_canonical_text.Goals as goal

pub returns-clause-answer : goal.returns-clause-answer
returns-clause-answer c = c.is_ok.ensures.value ∙ is_ok-canonical _ (view c.args.value.now) c.check.ensures.answer
