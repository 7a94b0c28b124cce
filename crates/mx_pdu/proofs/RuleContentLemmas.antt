-- What rules read of a content.
use Rattle.std.proofs.Common.{◌≡◌, ℕ, List, Bool, true, false, Some, refl, sym, ap, ◌∙◌, option_and_then}
use Rattle.std.specs.Prelude.{codes, if◌then◌else◌}
use Rattle.serde_json.specs.Data.{Data, null, boolean, number, string, array, object, Members, member}
use Rattle.serde_json.specs.Find.{as_object}
use Rattle.mx_redact.specs.Fields.{field}
use Rattle.mx_redact.specs.Redaction.{members_where}
use Rattle.mx_pdu.specs.Event.{content_of}
use Rattle.mx_pdu.specs.RuleContent.{is_rule_key, rule_content}
use Rattle.mx_pdu.proofs.FormatLemmas.{object-content}
use Rattle.mx_pdu.proofs.LookupLemmas.{get-where}

module _ (test : List ℕ → Bool) (k : List ℕ) (d : Data) (ms : Members) where
  at : Bool → Members
  at b = if b then member k d (members_where test ms) else members_where test ms

  pub where-in : test k ≡ true → members_where test (member k d ms) ≡ member k d (members_where test ms)
  unfolding at
  where-in e = ap at e

  pub where-out : test k ≡ false → members_where test (member k d ms) ≡ members_where test ms
  unfolding at
  where-out e = ap at e

-- what rules read is there as in the whole content
pub field-rule_content : (k : List ℕ) (d : Data) → is_rule_key k ≡ true → field k (rule_content d) ≡ field k d
field-rule_content k null read = refl
field-rule_content k (boolean b) read = refl
field-rule_content k (number n) read = refl
field-rule_content k (string s) read = refl
field-rule_content k (array ds) read = refl
field-rule_content k (object ms) read = get-where is_rule_key k ms read

-- the members kept are those of the event's content
pub rule_content-at : (d : Data) (ms kept : Members) → Some ms ≡ option_and_then as_object (field (codes "content") d) → kept ≡ members_where is_rule_key ms
    → object kept ≡ rule_content (content_of d)
rule_content-at d ms kept there is = ap object is ∙ ap rule_content (object-content (field (codes "content") d) ms (sym there))
