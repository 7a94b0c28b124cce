-- Worked examples of the authorization rules, over the room of `RoomBase`.
use Rattle.std.specs.Prelude.{◌≡◌, ℕ, refl, map, replicate, List, ◌∷◌, [], codes, true, false, Option, Some, None}
use Prim.Native.String.{String}
use Rattle.serde_json.specs.Data.{Data, null, boolean, array, no_items}
use Rattle.mx_redact.specs.Fields.{Event, words}
use Rattle.mx_auth.specs.StateView.{StateView}
use Rattle.mx_auth.specs.Rules.{Cited, rules, auth_rules, needed_keys, label_text}
use Rattle.mx_auth.specs.declared.refusals.Rule.{Rule}
use Rattle.mx_auth.specs.declared.refusals.Rule.TheVariants.{CreateHasPrevEvents, CreateOfAnotherServer, CreateVersionUnknown, CreateWithoutCreator, AuthEventsRepeat, AuthEventNotSelected, AuthEventRejected, AuthEventsWithoutCreate, StateWithoutCreate, RoomNotFederated, MemberIncomplete, JoinForAnother, JoinOfBanned, JoinNotAllowed, InviteByThirdParty, InviterNotJoined, InviteOfJoinedOrBanned, InviteLevelTooLow, LeaveNotInvitedOrJoined, KickerNotJoined, UnbanLevelTooLow, KickLevelTooLow, BannerNotJoined, BanLevelTooLow, KnockNotAllowed, KnockForAnother, KnockOfBannedOrInvitedOrJoined, MembershipUnknown, SenderNotJoined, ThirdPartyInviteLevelTooLow, SenderLevelTooLow, StateKeyOfAnotherUser, UsersMalformed, LevelChangedAboveSender, OldEntryAboveSender, NewEntryAboveSender, OldUserNotBelowSender, NewUserAboveSender}
use Rattle.mx_auth.specs.declared.versions.RoomVersion.TheVariants.{V6, V7}
use Rattle.mx_auth.proofs.RoomBase.{text, num, e1, e2, e3, e4, e5, e6, state, event, keyed, no_fields, membership, fields, users}
use Rattle.mx_auth.proofs.RulesOnExamples.{rules_on_examples}

-- the states after `$6`, after `$2`, and after `$2` with more
abbrev after6 : StateView
after6 = state (e1 ∷ e2 ∷ e3 ∷ e4 ∷ e5 ∷ e6 ∷ [])

abbrev without_power : List Event → StateView
without_power es = state (e1 ∷ e2 ∷ es)

-- ---- in the `users` of a power levels event
abbrev power : ℕ → Data → String → List (List ℕ) → Event
power n content sender auth = event n "m.room.power_levels" (keyed "") sender content (codes "$6" ∷ []) auth

abbrev a_levels : Data → Data
a_levels level = fields ((codes "users", fields ((codes "@a:a.example", num 100) ∷ (codes "@b:b.example", level) ∷ [])) ∷ [])

users-two_words : rules V6 (power 7 (a_levels (text "1 0")) "@a:a.example" []) after6 ≡ Some UsersMalformed
unfolding rules_on_examples
users-two_words = refl

users-too_large : rules V6 (power 7 (a_levels (text "9007199254740992")) "@a:a.example" []) after6 ≡ Some UsersMalformed
unfolding rules_on_examples
users-too_large = refl

users-spaced : rules V6 (power 7 (a_levels (text " +0100 ")) "@a:a.example" []) after6 ≡ None
unfolding rules_on_examples
users-spaced = refl

-- ---- the create event

abbrev create : List (List ℕ × Data) → List (List ℕ) → Event
create content prev = event 1 "m.room.create" (keyed "") "@a:a.example" (fields content) prev []

abbrev creator : List ℕ × Data
creator = (codes "creator", text "@a:a.example")

abbrev version : List ℕ × Data
version = (codes "room_version", text "6")

abbrev empty : StateView
empty = state []

create-sound : rules V6 e1 empty ≡ None
unfolding rules_on_examples
create-sound = refl

create-prev : rules V6 (create (creator ∷ version ∷ []) (codes "$0" ∷ [])) empty ≡ Some CreateHasPrevEvents
unfolding rules_on_examples
create-prev = refl

create-server : rules V6 (fields ((codes "type", text "m.room.create") ∷ (codes "room_id", text "!r:z.example") ∷ (codes "sender", text "@a:a.example") ∷ (codes "content", fields (creator ∷ version ∷ [])) ∷ [])) empty ≡ Some CreateOfAnotherServer
unfolding rules_on_examples
create-server = refl

create-version : rules V6 (create (creator ∷ []) []) empty ≡ Some CreateVersionUnknown
unfolding rules_on_examples
create-version = refl

create-creator : rules V6 (create (version ∷ []) []) empty ≡ Some CreateWithoutCreator
unfolding rules_on_examples
create-creator = refl

-- ---- members

abbrev member_event : ℕ → String → String → String → List (List ℕ) → List (List ℕ) → Event
member_event n target sender m prev auth = event n "m.room.member" (keyed target) sender (membership m) prev auth

-- B joins on `$1` and `$2` alone
abbrev early_join : Event
early_join = member_event 5 "@b:b.example" "@b:b.example" "join" (codes "$1" ∷ []) (codes "$1" ∷ [])

join-no_rule : rules V6 early_join (without_power []) ≡ Some JoinNotAllowed
unfolding rules_on_examples
join-no_rule = refl

join-creator : rules V6 e2 (state (e1 ∷ [])) ≡ None
unfolding rules_on_examples
join-creator = refl

-- the state key counts, and not the sender; the prev events are a set
join-creator_by_another : rules V6 (member_event 2 "@a:a.example" "@b:b.example" "join" (codes "$1" ∷ codes "$1" ∷ []) []) (state (e1 ∷ [])) ≡ None
unfolding rules_on_examples
join-creator_by_another = refl

join-another_by_creator : rules V6 (member_event 2 "@b:b.example" "@a:a.example" "join" (codes "$1" ∷ []) []) (state (e1 ∷ [])) ≡ Some JoinForAnother
unfolding rules_on_examples
join-another_by_creator = refl

join-creator_later : rules V6 (member_event 2 "@a:a.example" "@a:a.example" "join" (codes "$1" ∷ codes "$2" ∷ []) []) (state (e1 ∷ [])) ≡ Some JoinNotAllowed
unfolding rules_on_examples
join-creator_later = refl

join-creator_no_prev : rules V6 (member_event 2 "@a:a.example" "@a:a.example" "join" [] []) (state (e1 ∷ [])) ≡ Some JoinNotAllowed
unfolding rules_on_examples
join-creator_no_prev = refl

join-no_create_id : rules V6 e2 (record (state (e1 ∷ [])) { create_id = None }) ≡ Some JoinNotAllowed
unfolding rules_on_examples
join-no_create_id = refl

join-no_create : rules V6 e2 (state []) ≡ Some StateWithoutCreate
unfolding rules_on_examples
join-no_create = refl

join-public : rules V6 e5 (state (e1 ∷ e2 ∷ e3 ∷ e4 ∷ [])) ≡ None
unfolding rules_on_examples
join-public = refl

join-invited : rules V6 early_join (without_power (member_event 3 "@b:b.example" "@a:a.example" "invite" (codes "$2" ∷ []) [] ∷ [])) ≡ None
unfolding rules_on_examples
join-invited = refl

-- with B joined and no power levels event
abbrev topic : ℕ → String → List (List ℕ) → Event
topic n sender auth = event n "m.room.topic" (keyed "") sender (fields ((codes "topic", text "t") ∷ [])) (codes "$6" ∷ []) auth

topic-no_power : rules V6 (topic 6 "@b:b.example" []) (without_power (e5 ∷ [])) ≡ None
unfolding rules_on_examples
topic-no_power = refl

leave-other : rules V6 (member_event 6 "@a:a.example" "@b:b.example" "leave" [] []) (without_power (e5 ∷ [])) ≡ Some KickLevelTooLow
unfolding rules_on_examples
leave-other = refl

ban-equal : rules V6 (member_event 7 "@c:c.example" "@b:b.example" "ban" [] []) after6 ≡ Some BanLevelTooLow
unfolding rules_on_examples
ban-equal = refl

ban-below : rules V6 (member_event 7 "@c:c.example" "@a:a.example" "ban" [] []) after6 ≡ None
unfolding rules_on_examples
ban-below = refl

invite-third_party : rules V6 (event 7 "m.room.member" (keyed "@d:d.example") "@a:a.example" (fields ((codes "membership", text "invite") ∷ (codes "third_party_invite", no_fields) ∷ [])) [] []) after6 ≡ Some InviteByThirdParty
unfolding rules_on_examples
invite-third_party = refl

-- null is a value
invite-third_party_null : rules V6 (event 7 "m.room.member" (keyed "@d:d.example") "@a:a.example" (fields ((codes "membership", text "invite") ∷ (codes "third_party_invite", null) ∷ [])) [] []) after6 ≡ Some InviteByThirdParty
unfolding rules_on_examples
invite-third_party_null = refl

topic-not_joined : rules V6 (topic 7 "@d:d.example" []) after6 ≡ Some SenderNotJoined
unfolding rules_on_examples
topic-not_joined = refl

-- ---- each line on members

abbrev m_event : String → String → String → Event
m_event target sender m = member_event 9 target sender m (codes "$6" ∷ []) []

-- the state after `$6` with one more event in front
abbrev after : Event → StateView
after e = state (e ∷ e1 ∷ e2 ∷ e3 ∷ e4 ∷ e5 ∷ e6 ∷ [])

abbrev c_banned : Event
c_banned = m_event "@c:c.example" "@a:a.example" "ban"

abbrev d_invited : Event
d_invited = m_event "@d:d.example" "@a:a.example" "invite"

abbrev invite_only : Event
invite_only = event 7 "m.room.join_rules" (keyed "") "@a:a.example" (fields ((codes "join_rule", text "invite") ∷ [])) [] []

-- B has 50, and inviting asks for 60, kicking for 40, banning for 60
abbrev strict : Event
strict = event 7 "m.room.power_levels" (keyed "") "@a:a.example" (fields ((codes "users", users 50 0) ∷ (codes "invite", num 60) ∷ (codes "kick", num 40) ∷ (codes "ban", num 60) ∷ [])) [] []

member-no_state_key : rules V6 (event 9 "m.room.member" [] "@b:b.example" (membership "join") [] []) after6 ≡ Some MemberIncomplete
unfolding rules_on_examples
member-no_state_key = refl

member-no_membership : rules V6 (event 9 "m.room.member" (keyed "@b:b.example") "@b:b.example" no_fields [] []) after6 ≡ Some MemberIncomplete
unfolding rules_on_examples
member-no_membership = refl

join-for_another : rules V6 (m_event "@d:d.example" "@b:b.example" "join") after6 ≡ Some JoinForAnother
unfolding rules_on_examples
join-for_another = refl

join-banned : rules V6 (m_event "@c:c.example" "@c:c.example" "join") (after c_banned) ≡ Some JoinOfBanned
unfolding rules_on_examples
join-banned = refl

join-again : rules V6 (m_event "@b:b.example" "@b:b.example" "join") (after invite_only) ≡ None
unfolding rules_on_examples
join-again = refl

join-not_invited : rules V6 (m_event "@d:d.example" "@d:d.example" "join") (after invite_only) ≡ Some JoinNotAllowed
unfolding rules_on_examples
join-not_invited = refl

invite-not_joined : rules V6 (m_event "@e:e.example" "@d:d.example" "invite") after6 ≡ Some InviterNotJoined
unfolding rules_on_examples
invite-not_joined = refl

invite-joined : rules V6 (m_event "@c:c.example" "@b:b.example" "invite") after6 ≡ Some InviteOfJoinedOrBanned
unfolding rules_on_examples
invite-joined = refl

invite-banned : rules V6 (m_event "@c:c.example" "@a:a.example" "invite") (after c_banned) ≡ Some InviteOfJoinedOrBanned
unfolding rules_on_examples
invite-banned = refl

invite-allowed : rules V6 (m_event "@d:d.example" "@c:c.example" "invite") after6 ≡ None
unfolding rules_on_examples
invite-allowed = refl

invite-below : rules V6 (m_event "@d:d.example" "@b:b.example" "invite") (after strict) ≡ Some InviteLevelTooLow
unfolding rules_on_examples
invite-below = refl

leave-own : rules V6 (m_event "@b:b.example" "@b:b.example" "leave") after6 ≡ None
unfolding rules_on_examples
leave-own = refl

leave-invited : rules V6 (m_event "@d:d.example" "@d:d.example" "leave") (after d_invited) ≡ None
unfolding rules_on_examples
leave-invited = refl

leave-not_in : rules V6 (m_event "@d:d.example" "@d:d.example" "leave") after6 ≡ Some LeaveNotInvitedOrJoined
unfolding rules_on_examples
leave-not_in = refl

leave-banned : rules V6 (m_event "@c:c.example" "@c:c.example" "leave") (after c_banned) ≡ Some LeaveNotInvitedOrJoined
unfolding rules_on_examples
leave-banned = refl

kick-not_joined : rules V6 (m_event "@b:b.example" "@d:d.example" "leave") after6 ≡ Some KickerNotJoined
unfolding rules_on_examples
kick-not_joined = refl

kick-allowed : rules V6 (m_event "@c:c.example" "@b:b.example" "leave") (after strict) ≡ None
unfolding rules_on_examples
kick-allowed = refl

kick-equal : rules V6 (m_event "@c:c.example" "@b:b.example" "leave") after6 ≡ Some KickLevelTooLow
unfolding rules_on_examples
kick-equal = refl

abbrev kick_60 : Event
kick_60 = event 7 "m.room.power_levels" (keyed "") "@a:a.example" (fields ((codes "users", users 50 0) ∷ (codes "kick", num 60) ∷ [])) [] []

kick-below : rules V6 (m_event "@c:c.example" "@b:b.example" "leave") (after kick_60) ≡ Some KickLevelTooLow
unfolding rules_on_examples
kick-below = refl

unban-below : rules V6 (m_event "@c:c.example" "@b:b.example" "leave") (state (strict ∷ c_banned ∷ e1 ∷ e2 ∷ e4 ∷ e5 ∷ [])) ≡ Some UnbanLevelTooLow
unfolding rules_on_examples
unban-below = refl

ban-not_joined : rules V6 (m_event "@b:b.example" "@d:d.example" "ban") after6 ≡ Some BannerNotJoined
unfolding rules_on_examples
ban-not_joined = refl

ban-below_level : rules V6 (m_event "@c:c.example" "@b:b.example" "ban") (after strict) ≡ Some BanLevelTooLow
unfolding rules_on_examples
ban-below_level = refl

knock : rules V6 (m_event "@d:d.example" "@d:d.example" "knock") after6 ≡ Some MembershipUnknown
unfolding rules_on_examples
knock = refl

-- ---- the lines on every event

abbrev unfederated : Event
unfederated = create (creator ∷ version ∷ (codes "m.federate", boolean false) ∷ []) []

federate-other : rules V6 e5 (state (unfederated ∷ e2 ∷ e3 ∷ e4 ∷ [])) ≡ Some RoomNotFederated
unfolding rules_on_examples
federate-other = refl

federate-own : rules V6 (topic 9 "@a:a.example" []) (state (unfederated ∷ e2 ∷ e3 ∷ [])) ≡ None
unfolding rules_on_examples
federate-own = refl

abbrev invite_event : String → Event
invite_event sender = event 9 "m.room.third_party_invite" (keyed "t") sender no_fields [] []

third_party-allowed : rules V6 (invite_event "@a:a.example") (after strict) ≡ None
unfolding rules_on_examples
third_party-allowed = refl

third_party-below : rules V6 (invite_event "@b:b.example") (after strict) ≡ Some ThirdPartyInviteLevelTooLow
unfolding rules_on_examples
third_party-below = refl

user_key-own : rules V6 (event 9 "x" (keyed "@b:b.example") "@b:b.example" no_fields [] []) after6 ≡ None
unfolding rules_on_examples
user_key-own = refl

user_key-other : rules V6 (event 9 "x" (keyed "@c:c.example") "@b:b.example" no_fields [] []) after6 ≡ Some StateKeyOfAnotherUser
unfolding rules_on_examples
user_key-other = refl

-- ---- power levels

lower-c : rules V6 (power 7 (fields ((codes "users", users 50 40) ∷ [])) "@b:b.example" []) after6 ≡ Some OldUserNotBelowSender
unfolding rules_on_examples
lower-c = refl

lower-b : rules V6 (power 7 (fields ((codes "users", users 40 50) ∷ [])) "@b:b.example" []) after6 ≡ None
unfolding rules_on_examples
lower-b = refl

raise-b : rules V6 (power 7 (fields ((codes "users", users 51 50) ∷ [])) "@b:b.example" []) after6 ≡ Some NewUserAboveSender
unfolding rules_on_examples
raise-b = refl

abbrev with_notifications : ℕ → Data
with_notifications level = fields ((codes "users", users 50 50) ∷ (codes "notifications", fields ((codes "room", num level) ∷ [])) ∷ [])

notifications-above : rules V6 (power 7 (with_notifications 60) "@b:b.example" []) after6 ≡ Some NewEntryAboveSender
unfolding rules_on_examples
notifications-above = refl

notifications-at : rules V6 (power 7 (with_notifications 50) "@b:b.example" []) after6 ≡ None
unfolding rules_on_examples
notifications-at = refl

-- after power levels with B at 0
abbrev e8 : Event
e8 = event 8 "m.room.power_levels" (keyed "") "@a:a.example" (fields ((codes "users", users 0 50) ∷ [])) (codes "$7" ∷ []) []

power-a : rules V6 e8 after6 ≡ None
unfolding rules_on_examples
power-a = refl

topic-below : rules V6 (topic 9 "@b:b.example" []) (state (e8 ∷ e1 ∷ e2 ∷ e4 ∷ e5 ∷ e6 ∷ [])) ≡ Some SenderLevelTooLow
unfolding rules_on_examples
topic-below = refl

-- ---- a level that is just enough

-- B has 50, C has 0, and inviting, kicking and banning ask for 50
abbrev at_50 : Event
at_50 = event 7 "m.room.power_levels" (keyed "") "@a:a.example" (fields ((codes "users", users 50 0) ∷ (codes "invite", num 50) ∷ [])) [] []

invite-at : rules V6 (m_event "@d:d.example" "@b:b.example" "invite") (after at_50) ≡ None
unfolding rules_on_examples
invite-at = refl

third_party-at : rules V6 (invite_event "@b:b.example") (after at_50) ≡ None
unfolding rules_on_examples
third_party-at = refl

kick-at : rules V6 (m_event "@c:c.example" "@b:b.example" "leave") (after at_50) ≡ None
unfolding rules_on_examples
kick-at = refl

unban-at : rules V6 (m_event "@c:c.example" "@b:b.example" "leave") (state (at_50 ∷ c_banned ∷ e1 ∷ e2 ∷ e4 ∷ e5 ∷ [])) ≡ None
unfolding rules_on_examples
unban-at = refl

ban-at : rules V6 (m_event "@c:c.example" "@b:b.example" "ban") (after at_50) ≡ None
unfolding rules_on_examples
ban-at = refl

topic-at : rules V6 (topic 7 "@b:b.example" []) after6 ≡ None
unfolding rules_on_examples
topic-at = refl

-- ---- each line on power levels

power-first : rules V6 (power 9 (fields ((codes "users", fields ((codes "@a:a.example", num 500) ∷ [])) ∷ [])) "@a:a.example" []) (without_power []) ≡ None
unfolding rules_on_examples
power-first = refl

users-no_id : rules V6 (power 9 (fields ((codes "users", fields ((codes "a", num 1) ∷ [])) ∷ [])) "@a:a.example" []) (without_power []) ≡ Some UsersMalformed
unfolding rules_on_examples
users-no_id = refl

users-no_object : rules V6 (power 9 (fields ((codes "users", array no_items) ∷ [])) "@a:a.example" []) (without_power []) ≡ Some UsersMalformed
unfolding rules_on_examples
users-no_object = refl

users-null : rules V6 (power 9 (fields ((codes "users", null) ∷ [])) "@a:a.example" []) (without_power []) ≡ Some UsersMalformed
unfolding rules_on_examples
users-null = refl

-- B and C have 50, the sender is B
abbrev with : List (List ℕ × Data) → Data
with more = fields ((codes "users", users 50 50) ∷ more)

abbrev level_events : String → Data → List ℕ × Data
level_events type level = (codes "events", fields ((codes type, level) ∷ []))

-- from one content to another
abbrev change : List (List ℕ × Data) → List (List ℕ × Data) → Option Rule
change old new = rules V6 (power 9 (with new) "@b:b.example" []) (after (power 7 (with old) "@a:a.example" []))

change-none : change [] [] ≡ None
unfolding rules_on_examples
change-none = refl

change-add_above : change [] ((codes "kick", num 51) ∷ []) ≡ Some LevelChangedAboveSender
unfolding rules_on_examples
change-add_above = refl

change-add_at : change [] ((codes "kick", num 50) ∷ []) ≡ None
unfolding rules_on_examples
change-add_at = refl

change-lower : change ((codes "invite", num 51) ∷ []) ((codes "invite", num 0) ∷ []) ≡ Some LevelChangedAboveSender
unfolding rules_on_examples
change-lower = refl

change-remove : change ((codes "redact", num 51) ∷ []) [] ≡ Some LevelChangedAboveSender
unfolding rules_on_examples
change-remove = refl

-- as a number and as a text it is the same level
change-spelling : change ((codes "redact", num 51) ∷ []) ((codes "redact", text "51") ∷ []) ≡ None
unfolding rules_on_examples
change-spelling = refl

change-events_lower : change (level_events "x" (num 51) ∷ []) (level_events "x" (num 50) ∷ []) ≡ Some OldEntryAboveSender
unfolding rules_on_examples
change-events_lower = refl

change-events_remove : change (level_events "x" (num 51) ∷ []) [] ≡ Some OldEntryAboveSender
unfolding rules_on_examples
change-events_remove = refl

change-events_add : change [] (level_events "x" (num 51) ∷ []) ≡ Some NewEntryAboveSender
unfolding rules_on_examples
change-events_add = refl

change-events_keep : change (level_events "x" (num 51) ∷ []) (level_events "x" (num 51) ∷ []) ≡ None
unfolding rules_on_examples
change-events_keep = refl

change-notifications_remove : change ((codes "notifications", fields ((codes "room", num 51) ∷ [])) ∷ []) [] ≡ Some OldEntryAboveSender
unfolding rules_on_examples
change-notifications_remove = refl

-- an entry at the sender's own level may be altered, but another user's may not
change-events_at : change (level_events "x" (num 50) ∷ []) (level_events "x" (num 40) ∷ []) ≡ None
unfolding rules_on_examples
change-events_at = refl

abbrev with_d : ℕ → Data
with_d level = fields ((codes "users", fields ((codes "@a:a.example", num 100) ∷ (codes "@b:b.example", num 50) ∷ (codes "@c:c.example", num 50) ∷ (codes "@d:d.example", num level) ∷ [])) ∷ [])

users-add_at : rules V6 (power 7 (with_d 50) "@b:b.example" []) after6 ≡ None
unfolding rules_on_examples
users-add_at = refl

users-add_above : rules V6 (power 7 (with_d 51) "@b:b.example" []) after6 ≡ Some NewUserAboveSender
unfolding rules_on_examples
users-add_above = refl

users-remove_at : rules V6 (power 9 (with []) "@b:b.example" []) (after (power 7 (with_d 50) "@a:a.example" [])) ≡ Some OldUserNotBelowSender
unfolding rules_on_examples
users-remove_at = refl

users-remove_below : rules V6 (power 9 (with []) "@b:b.example" []) (after (power 7 (with_d 49) "@a:a.example" [])) ≡ None
unfolding rules_on_examples
users-remove_below = refl

-- each of the seven levels
change-each : map (λ key. change [] ((key, num 51) ∷ [])) (words "users_default events_default state_default ban redact kick invite") ≡ replicate 7 (Some LevelChangedAboveSender)
unfolding rules_on_examples
change-each = refl

power-no_users : rules V6 (power 9 no_fields "@a:a.example" []) (without_power []) ≡ None
unfolding rules_on_examples
power-no_users = refl

-- what doesn't read counts as absent
change-users_unread : rules V6 (power 9 (fields ((codes "users", fields ((codes "@b:b.example", num 50) ∷ (codes "@c:c.example", num 50) ∷ [])) ∷ [])) "@b:b.example" []) (after (power 7 (fields ((codes "users", fields ((codes "@b:b.example", num 50) ∷ (codes "@c:c.example", text "x") ∷ [])) ∷ [])) "@a:a.example" [])) ≡ None
unfolding rules_on_examples
change-users_unread = refl

change-events_unread : change [] (level_events "x" no_fields ∷ []) ≡ None
unfolding rules_on_examples
change-events_unread = refl

-- ---- auth events

abbrev message : List (List ℕ) → Event
message auth = event 7 "m.room.message" [] "@a:a.example" (fields ((codes "body", text "m") ∷ [])) (codes "$6" ∷ []) auth

abbrev cited : Event → Cited
cited e = record { event = e; rejected = false }

auth-sound : auth_rules V6 (message (codes "$1" ∷ codes "$2" ∷ codes "$3" ∷ [])) (cited e1 ∷ cited e2 ∷ cited e3 ∷ []) ≡ None
unfolding rules_on_examples
auth-sound = refl

auth-twice : auth_rules V6 (message (codes "$1" ∷ codes "$2" ∷ codes "$3" ∷ codes "$3" ∷ [])) (cited e1 ∷ cited e2 ∷ cited e3 ∷ cited e3 ∷ []) ≡ Some AuthEventsRepeat
unfolding rules_on_examples
auth-twice = refl

auth-not_selected : auth_rules V6 (message (codes "$1" ∷ codes "$2" ∷ codes "$3" ∷ codes "$4" ∷ [])) (cited e1 ∷ cited e2 ∷ cited e3 ∷ cited e4 ∷ []) ≡ Some AuthEventNotSelected
unfolding rules_on_examples
auth-not_selected = refl

auth-rejected : auth_rules V6 (message (codes "$1" ∷ codes "$2" ∷ codes "$3" ∷ [])) (cited e1 ∷ cited e2 ∷ record { event = e3; rejected = true } ∷ []) ≡ Some AuthEventRejected
unfolding rules_on_examples
auth-rejected = refl

auth-no_create : auth_rules V6 (message (codes "$2" ∷ codes "$3" ∷ [])) (cited e2 ∷ cited e3 ∷ []) ≡ Some AuthEventsWithoutCreate
unfolding rules_on_examples
auth-no_create = refl

needed-message : needed_keys V6 (message []) ≡ (codes "m.room.create", []) ∷ (codes "m.room.power_levels", []) ∷ (codes "m.room.member", codes "@a:a.example") ∷ []
needed-message = refl

needed-join : needed_keys V6 e5 ≡ (codes "m.room.create", []) ∷ (codes "m.room.power_levels", []) ∷ (codes "m.room.member", codes "@b:b.example") ∷ (codes "m.room.join_rules", []) ∷ []
needed-join = refl

label-printed : label_text JoinNotAllowed ≡ codes "A4.2.6"
label-printed = refl

-- no log has a state without a create event
label-state_without_create : label_text StateWithoutCreate ≡ codes "A0"
label-state_without_create = refl

-- an event that is no state event, cited twice
auth-message_twice : auth_rules V6 (message (codes "$1" ∷ codes "$9" ∷ codes "$9" ∷ [])) (cited e1 ∷ cited (message []) ∷ cited (message []) ∷ []) ≡ Some AuthEventsRepeat
unfolding rules_on_examples
auth-message_twice = refl

-- two events with one key
auth-two_keys : auth_rules V6 (message (codes "$1" ∷ codes "$3" ∷ codes "$8" ∷ [])) (cited e1 ∷ cited e3 ∷ cited e8 ∷ []) ≡ Some AuthEventsRepeat
unfolding rules_on_examples
auth-two_keys = refl

auth-message : auth_rules V6 (message (codes "$1" ∷ codes "$9" ∷ [])) (cited e1 ∷ cited (message []) ∷ []) ≡ Some AuthEventNotSelected
unfolding rules_on_examples
auth-message = refl

needed-invite : needed_keys V6 (m_event "@d:d.example" "@a:a.example" "invite") ≡ (codes "m.room.create", []) ∷ (codes "m.room.power_levels", []) ∷ (codes "m.room.member", codes "@a:a.example") ∷ (codes "m.room.member", codes "@d:d.example") ∷ (codes "m.room.join_rules", []) ∷ []
needed-invite = refl

needed-kick : needed_keys V6 (m_event "@d:d.example" "@a:a.example" "leave") ≡ (codes "m.room.create", []) ∷ (codes "m.room.power_levels", []) ∷ (codes "m.room.member", codes "@a:a.example") ∷ (codes "m.room.member", codes "@d:d.example") ∷ []
needed-kick = refl

needed-create : needed_keys V6 e1 ≡ []
needed-create = refl

-- a create event is decided by its own lines
auth-create : auth_rules V6 e1 [] ≡ None
unfolding rules_on_examples
auth-create = refl

-- ---- knocks, which Room Version 7 has
abbrev knocking : Event
knocking = event 4 "m.room.join_rules" (keyed "") "@a:a.example" (fields ((codes "join_rule", text "knock") ∷ [])) [] []

abbrev d_knocks : Event
d_knocks = m_event "@d:d.example" "@d:d.example" "knock"

abbrev d_joins : Event
d_joins = m_event "@d:d.example" "@d:d.example" "join"

abbrev create_7 : Event
create_7 = create (creator ∷ (codes "room_version", text "7") ∷ []) []

create-7 : rules V7 create_7 empty ≡ None
unfolding rules_on_examples
create-7 = refl

create-7_in_6 : rules V6 create_7 empty ≡ None
unfolding rules_on_examples
create-7_in_6 = refl

knock-allowed : rules V7 d_knocks (after knocking) ≡ None
unfolding rules_on_examples
knock-allowed = refl

knock-6 : rules V6 d_knocks (after knocking) ≡ Some MembershipUnknown
unfolding rules_on_examples
knock-6 = refl

knock-public : rules V7 d_knocks after6 ≡ Some KnockNotAllowed
unfolding rules_on_examples
knock-public = refl

knock-for_another : rules V7 (m_event "@d:d.example" "@a:a.example" "knock") (after knocking) ≡ Some KnockForAnother
unfolding rules_on_examples
knock-for_another = refl

knock-joined : rules V7 (m_event "@b:b.example" "@b:b.example" "knock") (after knocking) ≡ Some KnockOfBannedOrInvitedOrJoined
unfolding rules_on_examples
knock-joined = refl

knock-banned : rules V7 (m_event "@c:c.example" "@c:c.example" "knock") (state (knocking ∷ c_banned ∷ e1 ∷ e2 ∷ e3 ∷ e5 ∷ [])) ≡ Some KnockOfBannedOrInvitedOrJoined
unfolding rules_on_examples
knock-banned = refl

knock-again : rules V7 d_knocks (state (d_knocks ∷ knocking ∷ e1 ∷ e2 ∷ e3 ∷ [])) ≡ None
unfolding rules_on_examples
knock-again = refl

leave-knocking : rules V7 (m_event "@d:d.example" "@d:d.example" "leave") (state (d_knocks ∷ knocking ∷ e1 ∷ e2 ∷ e3 ∷ [])) ≡ None
unfolding rules_on_examples
leave-knocking = refl

leave-knocking_6 : rules V6 (m_event "@d:d.example" "@d:d.example" "leave") (state (d_knocks ∷ knocking ∷ e1 ∷ e2 ∷ e3 ∷ [])) ≡ Some LeaveNotInvitedOrJoined
unfolding rules_on_examples
leave-knocking_6 = refl

join-invited_by_knock : rules V7 d_joins (state (d_invited ∷ knocking ∷ e1 ∷ e2 ∷ e3 ∷ [])) ≡ None
unfolding rules_on_examples
join-invited_by_knock = refl

join-invited_by_knock_6 : rules V6 d_joins (state (d_invited ∷ knocking ∷ e1 ∷ e2 ∷ e3 ∷ [])) ≡ Some JoinNotAllowed
unfolding rules_on_examples
join-invited_by_knock_6 = refl

join-knocking : rules V7 d_joins (state (d_knocks ∷ knocking ∷ e1 ∷ e2 ∷ e3 ∷ [])) ≡ Some JoinNotAllowed
unfolding rules_on_examples
join-knocking = refl

needed-knock : needed_keys V7 d_knocks ≡ (codes "m.room.create", []) ∷ (codes "m.room.power_levels", []) ∷ (codes "m.room.member", codes "@d:d.example") ∷ (codes "m.room.join_rules", []) ∷ []
needed-knock = refl

needed-knock_6 : needed_keys V6 d_knocks ≡ (codes "m.room.create", []) ∷ (codes "m.room.power_levels", []) ∷ (codes "m.room.member", codes "@d:d.example") ∷ []
needed-knock_6 = refl
