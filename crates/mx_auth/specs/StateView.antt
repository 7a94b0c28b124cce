-- A room's state, as the authorization rules look at it.
use Rattle.std.specs.Prelude.{ℕ, ℤ, Bool, ◌||◌, List, [], codes, Option, unwrap_or, option_and_then}
use Rattle.mx_redact.specs.Fields.{Event, text_field, is_text}
use Rattle.mx_pdu.specs.Event.{content_of, membership_of}
use Rattle.mx_levels.specs.Level.{user_level}

-- the id of the create event, and the event at each type and state key
pub record StateView : Type 0 where
  pub create_id : Option (List ℕ)
  pub entry : List ℕ → List ℕ → Option Event

abbrev pub create_of : StateView → Option Event
create_of s = s.entry (codes "m.room.create") []

abbrev pub power_of : StateView → Option Event
power_of s = s.entry (codes "m.room.power_levels") []

-- Matrix specification, m.room.power_levels: a user's level
abbrev pub level_of : StateView → List ℕ → ℤ
level_of s user = user_level (create_of s) (power_of s) user

-- Matrix specification, m.room.member: a user's membership, where the state has a member event of that user
abbrev pub membership_in : StateView → List ℕ → Option (List ℕ)
membership_in s user = option_and_then membership_of (s.entry (codes "m.room.member") user)

unfoldable pub is_joined : StateView → List ℕ → Bool
is_joined s user = is_text (codes "join") (membership_in s user)

unfoldable pub is_invited_or_joined : StateView → List ℕ → Bool
is_invited_or_joined s user =
    is_text (codes "invite") (membership_in s user) || is_text (codes "join") (membership_in s user)

unfoldable pub is_knocking : StateView → List ℕ → Bool
is_knocking s user = is_text (codes "knock") (membership_in s user)

unfoldable pub is_banned : StateView → List ℕ → Bool
is_banned s user = is_text (codes "ban") (membership_in s user)

-- Matrix specification, m.room.join_rules
abbrev pub join_rule_of : Event → Option (List ℕ)
join_rule_of e = text_field (codes "join_rule") (content_of e)

-- a state with no readable rule has `invite`
unfoldable pub join_rule_in : StateView → List ℕ
join_rule_in s = unwrap_or (option_and_then join_rule_of (s.entry (codes "m.room.join_rules") [])) (codes "invite")
