-- For proofs and private clauses alone.
-- What the parts of a `Pdu` are.
use Rattle.std.specs.Prelude.{◌≡◌, ℕ, List, IsTrue, Some, option_map, string_bytes, unwrap_or}
use Rattle.serde_json.specs.Data.{Data, null, object}
use Rattle.serde_json.specs.Read.{read}
use Rattle.serde_json.specs.View.{members_view}
use Rattle.mx_canon.specs.Canonical.{canonical_text}
use Rattle.mx_canon.specs.KeyOrder.{KeysRise}
use Rattle.mx_redact.specs.Hashes.{hash_holds, reference_hash}
use Rattle.mx_redact.specs.Fields.{kind}
use Rattle.mx_pdu.specs.Event.{room_of, sender_of, state_key_of, content_of, prev_ids, auth_ids, depth_of, timestamp_of, redacts_of}
use Rattle.mx_pdu.specs.Format.{is_well_formed}
use Rattle.mx_pdu.specs.RuleContent.{rule_content}
use Rattle.mx_pdu.specs.declared.pdus.Parts.{Parts}

-- the value that a text is JSON for
unfoldable pub value_in : List ℕ → Data
value_in text = unwrap_or (read text) null

abbrev pub event_of : Parts → Data
event_of p = value_in (string_bytes p.text)

-- the parts are those of an event that is well formed
pub record AreOf (p : Parts) (e : Data) : Type 0 where
  pub reads : read (string_bytes p.text) ≡ Some e
  pub text : string_bytes p.text ≡ canonical_text e
  pub well_formed : IsTrue (is_well_formed e)
  pub rise : KeysRise e
  pub kind_is : string_bytes p.kind ≡ kind e
  pub state_key_is : option_map string_bytes p.state_key ≡ state_key_of e
  pub room : p.room_id ≡ room_of e
  pub sender : p.sender ≡ sender_of e
  pub prev : p.prev_events.items ≡ prev_ids e
  pub auth : p.auth_events.items ≡ auth_ids e
  pub redacts : option_map string_bytes p.redacts ≡ redacts_of e
  pub depth : p.depth ≡ depth_of e
  pub timestamp : p.origin_server_ts ≡ timestamp_of e
  pub content : object (members_view p.content.entries) ≡ rule_content (content_of e)
  pub reference : p.reference ≡ reference_hash e
  pub hash : p.hash_holds ≡ hash_holds e

-- the canonical text is that of a well-formed event, and what stands beside it is its own
abbrev pub IsSound : Parts → Type 0
IsSound p = AreOf p (event_of p)
