-- The members of an event, put one after another, are its members.
use Rattle.std.proofs.Common.{◌≡◌, List, ℕ, ℤ, Option, Some, None, refl}
use Rattle.std.specs.Prelude.{codes, option_map}
use Rattle.serde_json.specs.Data.{Data, Members, array, member, no_members, number, object, put, string}
use Rattle.serde_json.specs.Find.{of_integer}
use Rattle.mx_event_reading.specs.InOrder.{strings}
use Rattle.mx_event_reading.specs.EventRead.{event_members}
use Rattle.mx_event_reading.proofs.OpenTextLemmas.{put_if}

module _ (auth prev : List (List ℕ)) (depth time : ℤ) (hash room sender kind : List ℕ) (signatures : Data) (content : Members) where
  abbrev pub chain : Option (List ℕ) → Option Data → Option Data → Members
  chain state_key origin unsigned =
      put_if (codes "unsigned") unsigned
      (put (codes "type") (string kind)
      (put_if (codes "state_key") (option_map string state_key)
      (put (codes "signatures") signatures
      (put (codes "sender") (string sender)
      (put (codes "room_id") (string room)
      (put (codes "prev_events") (array (strings prev))
      (put (codes "origin_server_ts") (number (of_integer time))
      (put_if (codes "origin") origin
      (put (codes "hashes") (object (member (codes "sha256") (string hash) no_members))
      (put (codes "depth") (number (of_integer depth))
      (put (codes "content") (object content)
      (put (codes "auth_events") (array (strings auth)) no_members))))))))))))

  pub chain-is : (state_key : Option (List ℕ)) (origin unsigned : Option Data) → chain state_key origin unsigned
      ≡ event_members auth prev depth time hash room sender kind signatures state_key content origin unsigned
  chain-is None None None = refl
  chain-is None None (Some u) = refl
  chain-is None (Some o) None = refl
  chain-is None (Some o) (Some u) = refl
  chain-is (Some k) None None = refl
  chain-is (Some k) None (Some u) = refl
  chain-is (Some k) (Some o) None = refl
  chain-is (Some k) (Some o) (Some u) = refl
