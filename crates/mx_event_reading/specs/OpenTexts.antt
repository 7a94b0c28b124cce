-- The canonical text of an object so far, and what a member adds to it. Only the crate's private clauses cite it.
use Rattle.std.specs.Prelude.{◌≡◌, ℕ, ◌+◌, ◌<◌, Bool, true, false, if◌then◌else◌, List, [], ◌∷◌, ◌++◌, codes, length, IsUtf8, Option, None, Some, option_map}
use Rattle.json.specs.Json.{read_key, value}
use Rattle.json.specs.Token.{Token, begin_object}
use Rattle.serde_json.specs.Data.{Data}
use Rattle.serde_json.specs.Read.{of_json, converted}
use Rattle.mx_canon.specs.Canonical.{canonical_text}
use Rattle.mx_redact.specs.declared.event_keys.EventKey.{EventKey}
use Rattle.mx_redact.specs.declared.event_keys.EventKey.TheVariants.{AuthEvents, Content, Depth, EventId, Hashes, Membership, Origin, OriginServerTs, PrevEvents}
use Rattle.mx_redact.specs.declared.event_keys.EventKey.TheVariants.{PrevState, Redacts, RoomId, Sender, Signatures, StateKey, Kind, Unsigned, Other}
use Rattle.mx_redact.specs.declared.places.MemberPlace.{MemberPlace}
use Rattle.mx_event_reading.specs.InOrder.{ReadsCanonical, key_text}
use Rattle.mx_event_reading.specs.declared.open_texts.MemberStart.{MemberStart}
use Rattle.mx_event_reading.specs.declared.open_texts.OpenText.{OpenText}

-- the name that a key stands for
abbrev pub member_name : EventKey → List ℕ
member_name AuthEvents = codes "auth_events"
member_name Content = codes "content"
member_name Depth = codes "depth"
member_name EventId = codes "event_id"
member_name Hashes = codes "hashes"
member_name Membership = codes "membership"
member_name Origin = codes "origin"
member_name OriginServerTs = codes "origin_server_ts"
member_name PrevEvents = codes "prev_events"
member_name PrevState = codes "prev_state"
member_name Redacts = codes "redacts"
member_name RoomId = codes "room_id"
member_name Sender = codes "sender"
member_name Signatures = codes "signatures"
member_name StateKey = codes "state_key"
member_name Kind = codes "type"
member_name Unsigned = codes "unsigned"
member_name Other = []

abbrev pub next_of : OpenText → Option (List ℕ)
next_of text = option_map (λ key. key.now) text.next

abbrev pub has_some : List MemberPlace → Bool
has_some [] = false
has_some (p ∷ ps) = true

-- a comma stands before the next member
abbrev pub is_later : OpenText → Bool
is_later text = has_some text.places.items

abbrev pub start_of : OpenText → ℕ
start_of text = length text.bytes.items + (if is_later text then 1 else 0)

-- before the first member
pub record IsOpened (old new : List Token) (text : OpenText) : Type 0 where
  pub inside : List Token
  pub first : old ≡ begin_object ∷ inside
  pub next_is : read_key inside ≡ Some (next_of text, new)
  pub bytes_are : text.bytes.items ≡ 123 ∷ []
  pub no_places : text.places.items ≡ []

-- the key of a member was put behind the text
pub record IsBegun (name : List ℕ) (before after : OpenText) (begun : MemberStart) : Type 0 where
  pub named : next_of before ≡ Some name
  pub utf8 : IsUtf8 name
  pub start_is : begun.start ≡ start_of before
  pub value_is : begun.value ≡ length after.bytes.items
  pub bytes_are : after.bytes.items ≡ before.bytes.items ++ key_text (is_later before) name
  pub same_places : after.places.items ≡ before.places.items

-- a member's value was put there, and what comes next was read
pub record IsEnded (key : EventKey) (begun : MemberStart) (before after : OpenText) (old new : List Token) : Type 0 where
  pub next_is : read_key old ≡ Some (next_of after, new)
  pub same_bytes : after.bytes.items ≡ before.bytes.items
  pub places_are : after.places.items ≡ before.places.items
      ++ (record { key = key; start = begun.start; value = begun.value; end = length before.bytes.items }) ∷ []

-- a member of this name and value was read and put behind the text
pub record IsMember (key : EventKey) (name : List ℕ) (depth : ℕ) (d : Data) (before after : OpenText)
    (old new : List Token) : Type 0 where
  pub named : next_of before ≡ Some name
  pub utf8 : IsUtf8 name
  pub rest : List Token
  pub read : ReadsCanonical d (converted of_json (value depth old)) rest
  pub shorter : length rest < length old
  pub next_is : read_key rest ≡ Some (next_of after, new)
  pub bytes_are : after.bytes.items
      ≡ (before.bytes.items ++ key_text (is_later before) name) ++ canonical_text d
  pub places_are : after.places.items ≡ before.places.items
      ++ (record {
        key = key;
        start = start_of before;
        value = length (before.bytes.items ++ key_text (is_later before) name);
        end = length after.bytes.items;
      }) ∷ []

-- the next member was of this name, and so was read; or it was not, and nothing was
abbrev pub IsMemberIf : EventKey → List ℕ → ℕ → Option Data → OpenText → OpenText → List Token → List Token → Type 0
IsMemberIf key name depth None before after old new = (after ≡ before) × (new ≡ old)
IsMemberIf key name depth (Some d) before after old new = IsMember key name depth d before after old new
