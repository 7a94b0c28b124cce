-- Power levels (Matrix specification, m.room.power_levels; Room Version 6, authorization rules).
use Rattle.std.specs.Prelude.{ℕ, ◌==◌, nat_lt, nat_le, ℤ, pos, neg_ℤ, Bool, ◌&&◌, ◌||◌, if◌then◌else◌, List, [], ◌∷◌, length, reverse, codes, Option, Some, None, unwrap_or, option_map, option_and_then}
use Rattle.std.specs.List.{list_all}
use Rattle.std.specs.Char.{is_ascii_digit}
use Rattle.serde_json.specs.Data.{Data, null, boolean, number, string, array, object}
use Rattle.serde_json.specs.Find.{as_integer}
use Rattle.mx_canon.specs.Canonical.{in_range}
use Rattle.mx_ident.specs.Identifier.{decimal_value}
use Rattle.mx_redact.specs.Fields.{Event, field, value_at, is_some_and, is_text, text_field}
use Rattle.mx_pdu.specs.Event.{content_of}

-- ---- reading a level

-- an integer that canonical JSON has (Matrix specification, appendix Canonical JSON)
abbrev pub if_in_range : ℤ → Option ℤ
if_in_range z = if in_range z then Some z else None

-- ASCII white space: 9 to 13, and the space
abbrev pub is_space : ℕ → Bool
is_space c = (nat_le 9 c && nat_le c 13) || (c == 32)

abbrev pub skip_spaces : List ℕ → List ℕ
skip_spaces [] = []
skip_spaces (c ∷ cs) = if is_space c then skip_spaces cs else c ∷ cs

-- a text without the white space at its end
abbrev pub skip_last_spaces : List ℕ → List ℕ
skip_last_spaces s = reverse (skip_spaces (reverse s))

-- the text without the white space at its ends
abbrev pub trimmed : List ℕ → List ℕ
trimmed s = skip_last_spaces (skip_spaces s)

-- one or more digits
abbrev pub unsigned_value : List ℕ → Option ℕ
unsigned_value s = if list_all is_ascii_digit s && nat_lt 0 (length s) then Some (decimal_value s) else None

-- at most one `+` or `-`, and digits
abbrev pub signed_value : List ℕ → Option ℤ
signed_value [] = None
signed_value (c ∷ cs) =
    if c == 43 then option_map pos (unsigned_value cs)
    else (if c == 45 then option_map (λ n. neg_ℤ (pos n)) (unsigned_value cs)
    else option_map pos (unsigned_value (c ∷ cs)))

-- the level that a text holds
abbrev pub text_level : List ℕ → Option ℤ
text_level s = option_and_then if_in_range (signed_value (trimmed s))

-- Matrix specification, Room Version 6, event format: a level is an integer, or a string that holds one
unfoldable pub read_level : Data → Option ℤ
read_level null = None
read_level (boolean b) = None
read_level (number n) = option_and_then if_in_range (as_integer n)
read_level (string s) = text_level s
read_level (array ds) = None
read_level (object ms) = None

-- the level at a key of an object, where one reads
abbrev pub level_at : List ℕ → Data → Option ℤ
level_at key d = option_and_then read_level (field key d)

-- the level at a key of an object in a content, as of a user in `users`
abbrev pub entry_at : List ℕ → List ℕ → Data → Option ℤ
entry_at map key content = level_at key (value_at map content)

-- ---- Matrix specification, m.room.power_levels: the levels under a create event and a power levels event

-- the user is the `creator` that the create event names
abbrev pub is_creator : Option Event → List ℕ → Bool
is_creator create user = is_some_and (λ e. is_text user (text_field (codes "creator") (content_of e))) create

-- a level that the power levels event gives, its default there, and the level where there is no such event
abbrev pub given_level : List ℕ → ℤ → ℤ → Option Event → ℤ
given_level key default absent None = absent
given_level key default absent (Some power) = unwrap_or (level_at key (content_of power)) default

unfoldable pub ban_level : Option Event → ℤ
ban_level power = given_level (codes "ban") (pos 50) (pos 50) power

unfoldable pub kick_level : Option Event → ℤ
kick_level power = given_level (codes "kick") (pos 50) (pos 50) power

unfoldable pub redact_level : Option Event → ℤ
redact_level power = given_level (codes "redact") (pos 50) (pos 50) power

unfoldable pub invite_level : Option Event → ℤ
invite_level power = given_level (codes "invite") (pos 0) (pos 0) power

abbrev pub events_default : Option Event → ℤ
events_default power = given_level (codes "events_default") (pos 0) (pos 0) power

abbrev pub state_default : Option Event → ℤ
state_default power = given_level (codes "state_default") (pos 50) (pos 0) power

-- the level at a key of an object in the content of the power levels event
abbrev pub entry_level : List ℕ → List ℕ → Option Event → Option ℤ
entry_level map key None = None
entry_level map key (Some power) = entry_at map key (content_of power)

-- a user's level where `users` has no entry: without a power levels event the creator has 100
abbrev pub users_default : Option Event → Option Event → List ℕ → ℤ
users_default create None user = if is_creator create user then pos 100 else pos 0
users_default create (Some power) user = given_level (codes "users_default") (pos 0) (pos 0) (Some power)

unfoldable pub user_level : Option Event → Option Event → List ℕ → ℤ
user_level create power user = unwrap_or (entry_level (codes "users") user power) (users_default create power user)

-- the level that sending an event of a type asks for
unfoldable pub required_level : Option Event → List ℕ → Bool → ℤ
required_level power kind is_state =
    unwrap_or (entry_level (codes "events") kind power)
    (if is_state then state_default power else events_default power)
