-- What is read of an event beside its canonical text.
use Rattle.std.specs.Prelude.{◌≡◌, ℕ, List, IsTrue, Some, codes, option_map, string_bytes}
use Rattle.serde_json.specs.Data.{Data, Members, object}
use Rattle.serde_json.specs.Read.{read}
use Rattle.serde_json.specs.View.{members_view}
use Rattle.mx_canon.specs.Canonical.{canonical_text}
use Rattle.mx_canon.specs.KeyOrder.{KeysRise}
use Rattle.mx_redact.specs.Fields.{kind, text_field, value_at}
use Rattle.mx_redact.specs.Hashes.{content_hash, reference_hash}
use Rattle.mx_redact.specs.Places.{ArePlaces}
use Rattle.mx_redact.specs.declared.digests.Digests.{Digests}
use Rattle.mx_redact.specs.declared.places.MemberPlace.{MemberPlace}
use Rattle.mx_pdu.specs.Event.{room_of, sender_of, state_key_of, content_of, prev_ids, auth_ids, depth_of, timestamp_of, redacts_of}
use Rattle.mx_pdu.specs.Format.{is_well_formed}
use Rattle.mx_pdu.specs.RuleContent.{rule_content}
use Rattle.mx_pdu.specs.declared.assembling.EventParts.{EventParts}

-- the parts are those of an event
pub record ArePartsOf (p : EventParts) (e : Data) : Type 0 where
  pub kind_is : string_bytes p.kind ≡ kind e
  pub state_key_is : option_map string_bytes p.state_key ≡ state_key_of e
  pub room : p.room_id ≡ room_of e
  pub sender_is : p.sender ≡ sender_of e
  pub prev : p.prev_events.items ≡ prev_ids e
  pub auth : p.auth_events.items ≡ auth_ids e
  pub redacts_is : option_map string_bytes p.redacts ≡ redacts_of e
  pub depth_is : p.depth ≡ depth_of e
  pub timestamp : p.origin_server_ts ≡ timestamp_of e
  pub content_is : object (members_view p.content.entries) ≡ rule_content (content_of e)
  pub hash_is : option_map (λ text. text.now) p.hash ≡ text_field (codes "sha256") (value_at (codes "hashes") e)
  pub signatures_are : object (members_view p.signatures.entries) ≡ value_at (codes "signatures") e

-- a text is the canonical one of a well-formed event, whose members stand at these places, and whose parts are these
pub record IsReadAs (text : List ℕ) (places : List MemberPlace) (p : EventParts) (ms : Members) : Type 0 where
  pub placed : ArePlaces text places ms
  pub reads : read text ≡ Some (object ms)
  pub well_formed : IsTrue (is_well_formed (object ms))
  pub rise : KeysRise (object ms)
  pub parts : ArePartsOf p (object ms)

-- ---- for private clauses alone

-- with its hashes
pub record IsHashedAs (text : List ℕ) (p : EventParts) (digests : Digests) (e : Data) : Type 0 where
  pub reads : read text ≡ Some e
  pub text_is : text ≡ canonical_text e
  pub well_formed : IsTrue (is_well_formed e)
  pub rise : KeysRise e
  pub parts : ArePartsOf p e
  pub content : digests.content ≡ content_hash e
  pub reference : digests.reference ≡ reference_hash e
