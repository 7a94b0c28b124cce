-- Objects of three texts, for private clauses.
use Rattle.std.specs.Prelude.{◌≡◌, ℕ, true, List, codes, Some}
use Rattle.serde_json.specs.Data.{Data, object, string, Members, no_members, put}
use Rattle.mx_redact.specs.Fields.{text_field}
use Rattle.mx_log.specs.declared.lines.members.TextMember.{TextMember}
use Rattle.mx_log.specs.declared.lines.members.ThreeMembers.{ThreeMembers}
use Rattle.mx_log.specs.declared.lines.texts.LineTexts.{LineTexts}
use Rattle.mx_log.specs.Lines.{has_only}
use Rattle.mx_requests.specs.Requests.{json_of}

-- the members, with one that is a text
abbrev pub with_text : TextMember → Members → Members
with_text m ms = put m.key.now (string m.text.now) ms

-- the object of three members, of which the last with a key stands
abbrev pub object_shown : ThreeMembers → Data
object_shown m = object (with_text m.third (with_text m.second (with_text m.first no_members)))

-- an object that names a transaction by these texts, and has no other key
pub record HasTexts (texts : LineTexts) (d : Data) : Type 0 where
  pub only : has_only "step origin txn" d ≡ true
  pub step : text_field (codes "step") d ≡ Some texts.step.now
  pub origin : text_field (codes "origin") d ≡ Some texts.origin.now
  pub txn : text_field (codes "txn") d ≡ Some texts.txn.now

-- a line that is such an object
abbrev pub IsTextLine : List ℕ → LineTexts → Type 0
IsTextLine line texts = (d : Data) × (json_of line ≡ Some d) × HasTexts texts d
