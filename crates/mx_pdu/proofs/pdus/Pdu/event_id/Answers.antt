use Rattle.std.proofs.Common.{◌≡◌, ◌∷◌, IfOk, ap, ◌∙◌, subst}
use Rattle.base64.specs.Engines.{url_safe_no_pad}
use Rattle.base64.specs.GeneralPurpose.{encode_of}
use Rattle.mx_redact.specs.Hashes.{event_id, reference_hash}
use Rattle.mx_pdu.specs.declared.pdus.Parts.{Parts}
use Rattle.mx_pdu.proofs.pdus.Pdu.event_id.Goals as goal

pub returns : goal.returns
unfolding event_id
returns c =
    let hash = ap (λ (p : Parts). p.reference) c.deref.ensures ∙ c.self.invariant.reference ∙ ap reference_hash c.self.view_is in
    subst (λ h. IfOk c.id_with_hash.result (λ id. id ≡ 36 ∷ encode_of url_safe_no_pad h)) hash c.id_with_hash.ensures
