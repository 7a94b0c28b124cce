-- What is signed of a canonical event is canonical.
use Rattle.std.proofs.Common.{◌≡◌, ℕ, List, true, not, Some, is_none, refl, sym, ap, ◌∙◌, true≢false}
use Rattle.serde_json.specs.Data.{null, boolean, number, string, array, object}
use Rattle.mx_canon.specs.Canonical.{canonical_error, is_canonical}
use Rattle.mx_canon.specs.declared.checking.NotCanonical.{NotCanonical}
use Rattle.mx_redact.specs.Fields.{Event, words}
use Rattle.mx_redact.specs.Hashes.{signed_part}
use Rattle.mx_redact.specs.Redaction.{is_among, redact, without}
use Rattle.mx_pdu.proofs.CanonicalLemmas.{is_none-canonical_error}
use Rattle.mx_pdu.proofs.RedactionLemmas.{canonical-redact}
use Rattle.mx_pdu.proofs.RiseLemmas.{exact-where}

canonical-without : (keys : List (List ℕ)) (e : Event) → is_canonical e ≡ true → is_canonical (without keys e) ≡ true
canonical-without keys null h = refl
canonical-without keys (boolean b) h = refl
canonical-without keys (number n) h = refl
canonical-without keys (string s) h = refl
canonical-without keys (array ds) h = refl
canonical-without keys (object ms) h = exact-where (λ k. not (is_among keys k)) ms h

pub signed-canonical : (e : Event) (cause : NotCanonical) → is_canonical e ≡ true → canonical_error (signed_part e) ≡ Some cause → ⊥
signed-canonical e cause h some =
    let signed = canonical-without (words "signatures unsigned") (redact e) (canonical-redact e h) in
    true≢false (sym signed ∙ sym (is_none-canonical_error (signed_part e)) ∙ ap is_none some)
