-- Joins that users make of their own, before there is an event (Matrix specification, Room Version 6 and Room Version 7,
-- authorization rules, 4).
use Rattle.std.specs.Prelude.{◌≡◌, ℕ, Bool, not, ◌&&◌, List, [], ◌∷◌, codes, bytes_eq, Some}
use Rattle.mx_ident.specs.Identifier.{server_of}
use Rattle.mx_redact.specs.Fields.{Event, kind}
use Rattle.mx_pdu.specs.Event.{sender_of, state_key_of, membership_of}
use Rattle.mx_levels.specs.Level.{is_creator}
use Rattle.mx_auth.specs.StateView.{StateView, create_of, is_invited_or_joined, is_banned, join_rule_in}
use Rattle.mx_auth.specs.Rules.{Line, allow_if, reject_if, reject, is_unfederated, opens_to_invited}
use Rattle.mx_auth.specs.declared.versions.RoomVersion.{RoomVersion}
use Rattle.mx_auth.specs.declared.refusals.Rule.TheVariants.{JoinForAnother, JoinOfBanned, JoinNotAllowed}

-- the event is a join of the user, by the user
pub record IsOwnJoin (user : List ℕ) (e : Event) : Type 0 where
  pub kind : kind e ≡ codes "m.room.member"
  pub sender : sender_of e ≡ user
  pub state_key : state_key_of e ≡ Some user
  pub membership : membership_of e ≡ Some (codes "join")

-- ---- for private clauses

-- the lines on a join of a user by a sender, which follows the create event alone or does not
unfoldable pub join_lines_of : RoomVersion → List ℕ → List ℕ → Bool → StateView → List Line
join_lines_of v sender user follows_create_alone s =
    allow_if (follows_create_alone && is_creator (create_of s) user)
    ∷ reject_if JoinForAnother (not (bytes_eq sender user))
    ∷ reject_if JoinOfBanned (is_banned s user)
    ∷ allow_if (opens_to_invited v (join_rule_in s) && is_invited_or_joined s user)
    ∷ allow_if (bytes_eq (join_rule_in s) (codes "public"))
    ∷ reject JoinNotAllowed
    ∷ []

-- the create event is unfederated, and is not of this server
unfoldable pub keeps_out : Event → List ℕ → Bool
keeps_out create server = is_unfederated create && not (bytes_eq server (server_of (sender_of create)))
