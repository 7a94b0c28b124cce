-- Objects in an event. Only the crate's private clauses cite it.
use Rattle.std.specs.Prelude.{◌≡◌, ℕ, false, List, [], ◌∷◌, ◌++◌, Option, Some, IsUtf8, if◌then◌else◌}
use Rattle.json.specs.Json.{read_key}
use Rattle.json.specs.Token.{Token, begin_object}
use Rattle.serde_json.specs.Data.{Data, Members, member, no_members, object, put, string}
use Rattle.mx_pdu.specs.RuleContent.{is_rule_key}
use Rattle.mx_event_reading.specs.InOrder.{IsAppended, key_text}
use Rattle.mx_event_reading.specs.declared.contents.OneSignature.{OneSignature}

-- the signatures that are this one
abbrev pub signed : OneSignature → Data
signed one = object (member one.server.now (object (member one.key.now (string one.text.now) no_members)) no_members)

-- ---- for private clauses alone

-- a member's value was read and put behind a text, and is known where rules read it
pub record AppendsMember (key : List ℕ) (found : Option (Data × List Token)) (rest : List Token) (before after : List ℕ)
    (known knows : Members) : Type 0 where
  pub value : Data
  pub appended : IsAppended value found rest before after
  pub knows_is : knows ≡ (if is_rule_key key then put key value known else known)

-- an object's opening bracket and its first key were read, and put behind a text
pub record IsFirstKey (key : List ℕ) (old new : List Token) (before after : List ℕ) : Type 0 where
  pub inside : List Token
  pub first : old ≡ begin_object ∷ inside
  pub named : read_key inside ≡ Some (Some key, new)
  pub utf8 : IsUtf8 key
  pub bytes_are : after ≡ (before ++ 123 ∷ []) ++ key_text false key
