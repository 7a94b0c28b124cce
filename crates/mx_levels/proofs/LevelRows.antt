-- Worked examples of levels.
use Rattle.std.specs.Prelude.{◌≡◌, ℕ, Float, ℤ, pos, negsuc, refl, List, ◌∷◌, ◌++◌, [], codes, replicate, true, false, Option, Some, None}
use Prim.Native.String.{String}
use Rattle.serde_json.specs.Data.{Data, string, number, unsigned, negative, float, boolean, array, object, no_items, Members, no_members, member}
use Rattle.mx_levels.specs.Level.{read_level, user_level, required_level, ban_level, kick_level, redact_level, invite_level}

abbrev text : String → Data
text s = string (codes s)

abbrev level : ℕ → Data
level n = number (unsigned n)

abbrev fields : List (List ℕ × Data) → Data
fields ms = object (members ms)
  where
    members : List (List ℕ × Data) → Members
    members [] = no_members
    members (m ∷ ms) = member m.0 m.1 (members ms)

-- an event with this content
abbrev event : List (List ℕ × Data) → Data
event content = fields ((codes "content", fields content) ∷ [])

-- ---- levels as read

level-spaced : read_level (text " +0100 ") ≡ Some (pos 100)
unfolding read_level
level-spaced = refl

level-negative : read_level (text "-7") ≡ Some (negsuc 6)
unfolding read_level
level-negative = refl

level-minus_zero : read_level (text "-0") ≡ Some (pos 0)
unfolding read_level
level-minus_zero = refl

level-two_words : read_level (text "1 0") ≡ None
unfolding read_level
level-two_words = refl

level-two_signs : read_level (text "+-1") ≡ None
unfolding read_level
level-two_signs = refl

level-spaces : read_level (text " ") ≡ None
unfolding read_level
level-spaces = refl

level-empty : read_level (text "") ≡ None
unfolding read_level
level-empty = refl

level-sign : read_level (text "+") ≡ None
unfolding read_level
level-sign = refl

level-sign_apart : read_level (text "- 1") ≡ None
unfolding read_level
level-sign_apart = refl

level-fraction : read_level (text "1.0") ≡ None
unfolding read_level
level-fraction = refl

-- the white space, and the characters next to it
level-white_space : read_level (string (9 ∷ 10 ∷ 11 ∷ 12 ∷ 13 ∷ 32 ∷ 53 ∷ 9 ∷ 13 ∷ 32 ∷ [])) ≡ Some (pos 5)
unfolding read_level
level-white_space = refl

level-below_white_space : read_level (string (8 ∷ 53 ∷ [])) ≡ None
unfolding read_level
level-below_white_space = refl

level-above_white_space : read_level (string (53 ∷ 14 ∷ [])) ≡ None
unfolding read_level
level-above_white_space = refl

level-largest : read_level (text "9007199254740991") ≡ Some (pos 9007199254740991)
unfolding read_level
level-largest = refl

level-too_large : read_level (text "9007199254740992") ≡ None
unfolding read_level
level-too_large = refl

level-lowest : read_level (text "-9007199254740991") ≡ Some (negsuc 9007199254740990)
unfolding read_level
level-lowest = refl

level-too_low : read_level (text "-9007199254740992") ≡ None
unfolding read_level
level-too_low = refl

-- 63 zeros and a nine
level-zeros : read_level (string (replicate 63 48 ++ 57 ∷ [])) ≡ Some (pos 9)
unfolding read_level
level-zeros = refl

level-number : read_level (level 9007199254740991) ≡ Some (pos 9007199254740991)
unfolding read_level
level-number = refl

level-number_too_large : read_level (level 9007199254740992) ≡ None
unfolding read_level
level-number_too_large = refl

level-number_too_low : read_level (number (negative (negsuc 9007199254740991))) ≡ None
unfolding read_level
level-number_too_low = refl

level-number_largest : read_level (level 18446744073709551615) ≡ None
unfolding read_level
level-number_largest = refl

level-float : (x : Float) → read_level (number (float x)) ≡ None
unfolding read_level
level-float x = refl

level-boolean : read_level (boolean true) ≡ None
unfolding read_level
level-boolean = refl

level-array : read_level (array no_items) ≡ None
unfolding read_level
level-array = refl

-- ---- levels under a create event and a power levels event

abbrev create : Data
create = event ((codes "creator", text "@a:a.example") ∷ [])

abbrev power : Data
power = event ((codes "users", fields ((codes "@a:a.example", level 100) ∷ (codes "@b:b.example", text " 50 ") ∷ (codes "@c:c.example", text "x") ∷ [])) ∷ [])

-- each level is set, and `users` and `events` are no objects
abbrev set : Data
set =
    event ((codes "ban", level 1) ∷ (codes "events", level 9) ∷ (codes "events_default", level 2) ∷ (codes "invite", level 3) ∷ (codes "kick", level 4)
    ∷ (codes "redact", level 5) ∷ (codes "state_default", level 6) ∷ (codes "users", level 9) ∷ (codes "users_default", level 7) ∷ [])

user-a : user_level (Some create) (Some power) (codes "@a:a.example") ≡ pos 100
unfolding user_level read_level
user-a = refl

user-text : user_level (Some create) (Some power) (codes "@b:b.example") ≡ pos 50
unfolding user_level read_level
user-text = refl

-- an entry that doesn't read, and no entry
user-unread : user_level (Some create) (Some power) (codes "@c:c.example") ≡ pos 0
unfolding user_level read_level
user-unread = refl

user-absent : user_level (Some create) (Some power) (codes "@d:d.example") ≡ pos 0
unfolding user_level read_level
user-absent = refl

-- the creator counts only without a power levels event
user-creator_set : user_level (Some create) (Some set) (codes "@a:a.example") ≡ pos 7
unfolding user_level read_level
user-creator_set = refl

user-creator : user_level (Some create) None (codes "@a:a.example") ≡ pos 100
unfolding user_level
user-creator = refl

user-other : user_level (Some create) None (codes "@b:b.example") ≡ pos 0
unfolding user_level
user-other = refl

user-no_create : user_level None None (codes "@a:a.example") ≡ pos 0
unfolding user_level
user-no_create = refl

required-state : required_level (Some power) (codes "m.room.topic") true ≡ pos 50
unfolding required_level
required-state = refl

required-message : required_level (Some power) (codes "m.room.message") false ≡ pos 0
unfolding required_level
required-message = refl

required-state_set : required_level (Some set) (codes "m.room.topic") true ≡ pos 6
unfolding required_level read_level
required-state_set = refl

required-message_set : required_level (Some set) (codes "m.room.message") false ≡ pos 2
unfolding required_level read_level
required-message_set = refl

required-entry : required_level (Some (event ((codes "events", fields ((codes "m.room.topic", text "8") ∷ [])) ∷ []))) (codes "m.room.topic") true ≡ pos 8
unfolding required_level read_level
required-entry = refl

required-state_none : required_level None (codes "m.room.topic") true ≡ pos 0
unfolding required_level
required-state_none = refl

ban-none : ban_level None ≡ pos 50
unfolding ban_level
ban-none = refl

kick-absent : kick_level (Some power) ≡ pos 50
unfolding kick_level
kick-absent = refl

redact-set : redact_level (Some set) ≡ pos 5
unfolding redact_level read_level
redact-set = refl

invite-set : invite_level (Some set) ≡ pos 3
unfolding invite_level read_level
invite-set = refl

invite-none : invite_level None ≡ pos 0
unfolding invite_level
invite-none = refl

-- ---- every level by its table

abbrev all_levels : Option Data → List ℤ
all_levels p =
    ban_level p ∷ kick_level p ∷ redact_level p ∷ invite_level p ∷ required_level p (codes "m") false ∷ required_level p (codes "m") true
    ∷ user_level (Some create) p (codes "@b:b.example") ∷ user_level (Some create) p (codes "@a:a.example") ∷ required_level p (codes "x") true ∷ []

abbrev all_given : Data
all_given =
    event ((codes "ban", level 1) ∷ (codes "events", fields ((codes "x", level 8) ∷ [])) ∷ (codes "events_default", level 5) ∷ (codes "invite", level 4)
    ∷ (codes "kick", level 2) ∷ (codes "redact", level 3) ∷ (codes "state_default", level 6) ∷ (codes "users_default", level 7) ∷ [])

levels-given : all_levels (Some all_given) ≡ pos 1 ∷ pos 2 ∷ pos 3 ∷ pos 4 ∷ pos 5 ∷ pos 6 ∷ pos 7 ∷ pos 7 ∷ pos 8 ∷ []
unfolding ban_level kick_level redact_level invite_level required_level user_level read_level
levels-given = refl

levels-not_given : all_levels (Some (event [])) ≡ pos 50 ∷ pos 50 ∷ pos 50 ∷ pos 0 ∷ pos 0 ∷ pos 50 ∷ pos 0 ∷ pos 0 ∷ pos 50 ∷ []
unfolding ban_level kick_level redact_level invite_level required_level user_level read_level
levels-not_given = refl

levels-no_event : all_levels None ≡ pos 50 ∷ pos 50 ∷ pos 50 ∷ pos 0 ∷ pos 0 ∷ pos 0 ∷ pos 0 ∷ pos 100 ∷ pos 0 ∷ []
unfolding ban_level kick_level redact_level invite_level required_level user_level read_level
levels-no_event = refl
