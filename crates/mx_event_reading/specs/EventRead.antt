-- An event, as it is read member by member. Only the crate's private clauses cite it.
use Rattle.std.specs.Prelude.{◌≡◌, ℕ, ◌<◌, ◌≤◌, ℤ, pos, int_le, true, IsTrue, List, codes, length, Option, None, Some, IfSome, option_map}
use Rattle.std.specs.List.{list_all}
use Rattle.json.specs.Token.{Token}
use Rattle.json.specs.Json.{value}
use Rattle.serde_json.specs.Data.{Data, Members, array, member, no_members, number, object, string}
use Rattle.serde_json.specs.Find.{of_integer}
use Rattle.serde_json.specs.Read.{of_json, converted}
use Rattle.serde_json.specs.View.{members_view}
use Rattle.mx_canon.specs.Canonical.{canonical_text}
use Rattle.mx_ident.specs.Identifier.{is_event_id}
use Rattle.mx_pdu.specs.RuleContent.{is_rule_key}
use Rattle.mx_redact.specs.Places.{places_from}
use Rattle.mx_redact.specs.Redaction.{members_where}
use Rattle.mx_event_reading.specs.Contents.{signed}
use Rattle.mx_event_reading.specs.InOrder.{ReadsCanonical, strings}
use Rattle.mx_event_reading.specs.declared.events.FieldsRead.{FieldsRead}
use Rattle.mx_event_reading.specs.declared.open_texts.OpenText.{OpenText}

abbrev pub member_if : List ℕ → Option Data → Members → Members
member_if k None ms = ms
member_if k (Some d) ms = member k d ms

-- the members of an event that has no others
abbrev pub event_members : (auth prev : List (List ℕ)) → (depth time : ℤ) → (hash room sender kind : List ℕ) → (signatures : Data)
    → (state_key : Option (List ℕ)) → (content : Members) → (origin unsigned : Option Data) → Members
event_members auth prev depth time hash room sender kind signatures state_key content origin unsigned =
    member (codes "auth_events") (array (strings auth))
    (member (codes "content") (object content)
    (member (codes "depth") (number (of_integer depth))
    (member (codes "hashes") (object (member (codes "sha256") (string hash) no_members))
    (member_if (codes "origin") origin
    (member (codes "origin_server_ts") (number (of_integer time))
    (member (codes "prev_events") (array (strings prev))
    (member (codes "room_id") (string room)
    (member (codes "sender") (string sender)
    (member (codes "signatures") signatures
    (member_if (codes "state_key") (option_map string state_key)
    (member (codes "type") (string kind)
    (member_if (codes "unsigned") unsigned no_members))))))))))))

-- those of these fields, with its content and what may be there
abbrev pub members_of : FieldsRead → Members → Option Data → Option Data → Members
members_of f content origin unsigned =
    event_members f.auth_events.items f.prev_events.items f.depth f.origin_server_ts f.hash.now f.room_id.now f.sender.now
    f.kind.now (signed f.signature) (option_map (λ key. key.now) f.state_key) content origin unsigned

-- what was read is an event of these fields, and this is its text
pub record IsEventRead (f : FieldsRead) (text : OpenText) (old new : List Token) : Type 0 where
  pub content : Members
  pub origin : Option Data
  pub unsigned : Option Data
  pub known : members_where is_rule_key content ≡ members_view f.content.entries
  pub read : ReadsCanonical (object (members_of f content origin unsigned)) (converted of_json (value 125 old)) new
  pub text_is : text.bytes.items ≡ canonical_text (object (members_of f content origin unsigned))
  pub places_are : text.places.items ≡ places_from 1 (members_of f content origin unsigned)
  pub auth_are : IsTrue (list_all is_event_id f.auth_events.items)
  pub few_auth : length f.auth_events.items ≤ 10
  pub prev_are : IsTrue (list_all is_event_id f.prev_events.items)
  pub few_prev : length f.prev_events.items ≤ 20
  pub shorter : length new < length old

-- within the limits that its text, its type, its state key and its depth have
abbrev pub KeepsLimits : FieldsRead → OpenText → Type 0
KeepsLimits f text =
    (length text.bytes.items ≤ 65536) × (length f.kind.now ≤ 255) × IfSome f.state_key (λ key. length key.now ≤ 255)
    × (int_le (pos 0) f.depth ≡ true)
