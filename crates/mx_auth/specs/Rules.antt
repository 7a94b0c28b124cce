-- The authorization rules (Matrix specification, Room Version 6 and Room Version 7, authorization rules). Where the two
-- versions differ, a line asks whether the version has knocks.
use Rattle.std.specs.Prelude.{◌≡◌, ℕ, nat_lt, ℤ, int_lt, int_le, Bool, true, false, not, ◌&&◌, ◌||◌, if◌then◌else◌, List, [], ◌∷◌, ◌++◌, length, codes, bytes_eq, filter_map, Option, Some, None, unwrap_or, option_map, option_and_then, is_some, is_none}
use Rattle.std.specs.Ordering.{int_eq}
use Rattle.std.specs.List.{list_any, list_all}
use Rattle.serde_json.specs.Data.{Data, null}
use Rattle.serde_json.specs.Find.{as_bool}
use Rattle.mx_ident.specs.Identifier.{begins_with, server_of, is_user_id}
use Rattle.mx_redact.specs.Fields.{Event, field, text_field, value_at, is_object, object_keys, is_some_and, is_none_or, words, kind}
use Rattle.mx_pdu.specs.Event.{has_kind, room_of, sender_of, state_key_of, is_state, content_of, prev_ids, auth_ids, membership_of, has_membership}
use Rattle.mx_pdu.specs.StateKeys.{Key}
use Rattle.mx_levels.specs.Level.{level_at, is_creator, required_level, ban_level, kick_level, invite_level}
use Rattle.mx_auth.specs.StateView.{StateView, create_of, power_of, level_of, is_joined, is_invited_or_joined, is_knocking, is_banned, join_rule_in}
use Rattle.mx_auth.specs.Versions.{version_of, has_knocks}
use Rattle.mx_auth.specs.declared.versions.RoomVersion.{RoomVersion}
use Rattle.mx_auth.specs.declared.refusals.Rule.{Rule}
use Rattle.mx_auth.specs.declared.refusals.Rule.TheVariants.{CreateHasPrevEvents, CreateOfAnotherServer, CreateVersionUnknown, CreateWithoutCreator, AuthEventsRepeat, AuthEventNotSelected, AuthEventRejected, AuthEventsWithoutCreate, StateWithoutCreate, RoomNotFederated, MemberIncomplete, JoinForAnother, JoinOfBanned, JoinNotAllowed, InviteByThirdParty, InviterNotJoined, InviteOfJoinedOrBanned, InviteLevelTooLow, LeaveNotInvitedOrJoined, KickerNotJoined, UnbanLevelTooLow, KickLevelTooLow, BannerNotJoined, BanLevelTooLow, KnockNotAllowed, KnockForAnother, KnockOfBannedOrInvitedOrJoined, MembershipUnknown, SenderNotJoined, ThirdPartyInviteLevelTooLow, SenderLevelTooLow, StateKeyOfAnotherUser, UsersMalformed, LevelChangedAboveSender, OldEntryAboveSender, NewEntryAboveSender, OldUserNotBelowSender, NewUserAboveSender}

-- ---- the lines of the rules

-- the label of the line that rejects an event, as a refusal prints it
abbrev pub label_text : Rule → List ℕ
label_text CreateHasPrevEvents = codes "A1.1"
label_text CreateOfAnotherServer = codes "A1.2"
label_text CreateVersionUnknown = codes "A1.3"
label_text CreateWithoutCreator = codes "A1.4"
label_text AuthEventsRepeat = codes "A2.1"
label_text AuthEventNotSelected = codes "A2.2"
label_text AuthEventRejected = codes "A2.3"
label_text AuthEventsWithoutCreate = codes "A2.4"
label_text StateWithoutCreate = codes "A0"
label_text RoomNotFederated = codes "A3"
label_text MemberIncomplete = codes "A4.1"
label_text JoinForAnother = codes "A4.2.2"
label_text JoinOfBanned = codes "A4.2.3"
label_text JoinNotAllowed = codes "A4.2.6"
label_text InviteByThirdParty = codes "A4.T"
label_text InviterNotJoined = codes "A4.3.2"
label_text InviteOfJoinedOrBanned = codes "A4.3.3"
label_text InviteLevelTooLow = codes "A4.3.5"
label_text LeaveNotInvitedOrJoined = codes "A4.4.1"
label_text KickerNotJoined = codes "A4.4.2"
label_text UnbanLevelTooLow = codes "A4.4.3"
label_text KickLevelTooLow = codes "A4.4.5"
label_text BannerNotJoined = codes "A4.5.1"
label_text BanLevelTooLow = codes "A4.5.3"
label_text KnockNotAllowed = codes "A4.7.1"
label_text KnockForAnother = codes "A4.7.2"
label_text KnockOfBannedOrInvitedOrJoined = codes "A4.7.4"
label_text MembershipUnknown = codes "A4.6"
label_text SenderNotJoined = codes "A5"
label_text ThirdPartyInviteLevelTooLow = codes "A6"
label_text SenderLevelTooLow = codes "A7"
label_text StateKeyOfAnotherUser = codes "A8"
label_text UsersMalformed = codes "A9.1"
label_text LevelChangedAboveSender = codes "A9.3"
label_text OldEntryAboveSender = codes "A9.4"
label_text NewEntryAboveSender = codes "A9.5"
label_text OldUserNotBelowSender = codes "A9.6"
label_text NewUserAboveSender = codes "A9.7"

-- what a line says of an event
pub data Line : Type 0 where
  allow : Line
  reject : Rule → Line
  pass : Line

abbrev pub allow_if : Bool → Line
allow_if b = if b then allow else pass

abbrev pub reject_if : Rule → Bool → Line
reject_if rule b = if b then reject rule else pass

-- a part of a list that stands there where a test holds
abbrev pub where_so : {A : Type 0} → Bool → List A → List A
where_so b xs = if b then xs else []

-- the first line that decides, decides; where none does, the event is allowed
abbrev pub first_line : List Line → Option Rule
first_line [] = None
first_line (allow ∷ lines) = None
first_line (reject rule ∷ lines) = Some rule
first_line (pass ∷ lines) = first_line lines

-- ---- words of the lines

abbrev pub same_server : List ℕ → List ℕ → Bool
same_server a b = bytes_eq (server_of a) (server_of b)

-- `m.federate` is false in the create event
abbrev pub is_unfederated : Event → Bool
is_unfederated create =
    not (unwrap_or (option_and_then as_bool (field (codes "m.federate") (content_of create))) true)

-- the create event is unfederated, and is of another server than the event
unfoldable pub is_kept_out : Event → Event → Bool
is_kept_out e create = is_unfederated create && not (same_server (sender_of e) (sender_of create))

-- there are ids, and all are this one
abbrev pub all_are : Option (List ℕ) → List (List ℕ) → Bool
all_are o ids = nat_lt 0 (length ids) && is_some_and (λ id. list_all (λ x. bytes_eq x id) ids) o

-- the user whose membership a member event is about
abbrev pub target_of : Event → List ℕ
target_of e = unwrap_or (state_key_of e) []

abbrev pub is_own : Event → Bool
is_own e = bytes_eq (sender_of e) (target_of e)

abbrev pub sender_level : StateView → Event → ℤ
sender_level s e = level_of s (sender_of e)

-- the sender has this level
abbrev pub reaches : StateView → Event → ℤ → Bool
reaches s e level = int_le level (sender_level s e)

-- the target's level is below the sender's
abbrev pub outranks : StateView → Event → Bool
outranks s e = int_lt (level_of s (target_of e)) (sender_level s e)

-- ---- Room Version 6 and 7, authorization rules, 1: m.room.create

unfoldable pub create_lines : Event → List Line
create_lines e =
    reject_if CreateHasPrevEvents (nat_lt 0 (length (prev_ids e)))
    ∷ reject_if CreateOfAnotherServer (not (same_server (room_of e) (sender_of e)))
    ∷ reject_if CreateVersionUnknown (is_none (version_of e))
    ∷ reject_if CreateWithoutCreator (is_none (text_field (codes "creator") (content_of e)))
    ∷ allow
    ∷ []

-- ---- Room Version 6 and 7, authorization rules, 4: m.room.member

-- who is invited or joined may join by the rule `invite`, and in Room Version 7 by the rule `knock` too
abbrev pub opens_to_invited : RoomVersion → List ℕ → Bool
opens_to_invited v rule = bytes_eq rule (codes "invite") || (has_knocks v && bytes_eq rule (codes "knock"))

-- who is invited or joined may leave, and in Room Version 7 who knocks too
abbrev pub may_leave : RoomVersion → StateView → List ℕ → Bool
may_leave v s user = is_invited_or_joined s user || (has_knocks v && is_knocking s user)

unfoldable pub join_lines : RoomVersion → Event → StateView → List Line
join_lines v e s =
    allow_if (all_are s.create_id (prev_ids e) && is_creator (create_of s) (target_of e))
    ∷ reject_if JoinForAnother (not (is_own e))
    ∷ reject_if JoinOfBanned (is_banned s (target_of e))
    ∷ allow_if (opens_to_invited v (join_rule_in s) && is_invited_or_joined s (target_of e))
    ∷ allow_if (bytes_eq (join_rule_in s) (codes "public"))
    ∷ reject JoinNotAllowed
    ∷ []

unfoldable pub invite_lines : Event → StateView → List Line
invite_lines e s =
    reject_if InviteByThirdParty (is_some (field (codes "third_party_invite") (content_of e)))
    ∷ reject_if InviterNotJoined (not (is_joined s (sender_of e)))
    ∷ reject_if InviteOfJoinedOrBanned (is_joined s (target_of e) || is_banned s (target_of e))
    ∷ allow_if (reaches s e (invite_level (power_of s)))
    ∷ reject InviteLevelTooLow
    ∷ []

unfoldable pub leave_lines : RoomVersion → Event → StateView → List Line
leave_lines v e s =
    allow_if (is_own e && may_leave v s (target_of e))
    ∷ reject_if LeaveNotInvitedOrJoined (is_own e)
    ∷ reject_if KickerNotJoined (not (is_joined s (sender_of e)))
    ∷ reject_if UnbanLevelTooLow (is_banned s (target_of e) && not (reaches s e (ban_level (power_of s))))
    ∷ allow_if (reaches s e (kick_level (power_of s)) && outranks s e)
    ∷ reject KickLevelTooLow
    ∷ []

unfoldable pub ban_lines : Event → StateView → List Line
ban_lines e s =
    reject_if BannerNotJoined (not (is_joined s (sender_of e)))
    ∷ allow_if (reaches s e (ban_level (power_of s)) && outranks s e)
    ∷ reject BanLevelTooLow
    ∷ []

-- of Room Version 7 alone
abbrev pub is_knock : RoomVersion → Event → Bool
is_knock v e = has_membership (codes "knock") e && has_knocks v

unfoldable pub knock_lines : Event → StateView → List Line
knock_lines e s =
    reject_if KnockNotAllowed (not (bytes_eq (join_rule_in s) (codes "knock")))
    ∷ reject_if KnockForAnother (not (is_own e))
    ∷ allow_if (not (is_banned s (target_of e) || is_invited_or_joined s (target_of e)))
    ∷ reject KnockOfBannedOrInvitedOrJoined
    ∷ []

unfoldable pub member_lines : RoomVersion → Event → StateView → List Line
member_lines v e s =
    reject_if MemberIncomplete (is_none (state_key_of e) || is_none (membership_of e))
    ∷ where_so (has_membership (codes "join") e) (join_lines v e s)
    ++ where_so (has_membership (codes "invite") e) (invite_lines e s)
    ++ where_so (has_membership (codes "leave") e) (leave_lines v e s)
    ++ where_so (has_membership (codes "ban") e) (ban_lines e s)
    ++ where_so (is_knock v e) (knock_lines e s)
    ++ reject MembershipUnknown ∷ []

-- ---- Room Version 6 and 7, authorization rules, 6: m.room.third_party_invite

unfoldable pub third_party_invite_lines : Event → StateView → List Line
third_party_invite_lines e s =
    allow_if (reaches s e (invite_level (power_of s)))
    ∷ reject ThirdPartyInviteLevelTooLow
    ∷ []

-- ---- Room Version 6 and 7, authorization rules, 9: m.room.power_levels

-- an object from user ids to levels
unfoldable pub is_user_levels : Data → Bool
is_user_levels d = is_object d && list_all (λ user. is_user_id user && is_some (level_at user d)) (object_keys d)

-- `users`, where it is there, is one
unfoldable pub has_sound_users : Data → Bool
has_sound_users content = is_none_or is_user_levels (field (codes "users") content)

abbrev pub same_level : Option ℤ → Option ℤ → Bool
same_level None None = true
same_level None (Some y) = false
same_level (Some x) None = false
same_level (Some x) (Some y) = int_eq x y

-- there is a level, and it is above another; at or above it
abbrev pub is_above : ℤ → Option ℤ → Bool
is_above z level = is_some_and (int_lt z) level

abbrev pub is_at_or_above : ℤ → Option ℤ → Bool
is_at_or_above z level = is_some_and (int_le z) level

-- the levels at a key of two objects differ; an absent level differs from each that is there
abbrev pub differs : List ℕ → Data → Data → Bool
differs key old new = not (same_level (level_at key old) (level_at key new))

-- a level is added, changed or removed, and is above z before or after
unfoldable pub alters_above : ℤ → Data → Data → List ℕ → Bool
alters_above z old new key = differs key old new && (is_above z (level_at key old) || is_above z (level_at key new))

-- some entry of a map in one content has another level in the other content, or none there, and is refused
abbrev pub some_entry : (List ℕ → Option ℤ → Bool) → List ℕ → Data → Data → Bool
some_entry refused map one other =
    list_any
    (λ key. differs key (value_at map one) (value_at map other) && refused key (level_at key (value_at map one)))
    (object_keys (value_at map one))

-- the same, refused above z
unfoldable pub some_above : ℤ → List ℕ → Data → Data → Bool
some_above z map one other = some_entry (λ key level. is_above z level) map one other

-- the same of `users`, but for the sender's own entry, refused at or above z
unfoldable pub some_other_user : List ℕ → ℤ → Data → Data → Bool
some_other_user sender z one other =
    some_entry (λ user level. not (bytes_eq user sender) && is_at_or_above z level) (codes "users") one other

abbrev pub checked_levels : List (List ℕ)
checked_levels = words "users_default events_default state_default ban redact kick invite"

-- the content of the state's power levels event
abbrev pub power_content : StateView → Data
power_content s = unwrap_or (option_map content_of (power_of s)) null

-- the lines on a change of content by a sender of level z
unfoldable pub change_lines : List ℕ → ℤ → Data → Data → List Line
change_lines sender z old new =
    reject_if LevelChangedAboveSender (list_any (alters_above z old new) checked_levels)
    ∷ reject_if OldEntryAboveSender (some_above z (codes "events") old new || some_above z (codes "notifications") old new)
    ∷ reject_if NewEntryAboveSender (some_above z (codes "events") new old || some_above z (codes "notifications") new old)
    ∷ reject_if OldUserNotBelowSender (some_other_user sender z old new)
    ∷ reject_if NewUserAboveSender (some_above z (codes "users") new old)
    ∷ []

unfoldable pub power_lines : Event → StateView → List Line
power_lines e s =
    reject_if UsersMalformed (not (has_sound_users (content_of e)))
    ∷ allow_if (is_none (power_of s))
    ∷ change_lines (sender_of e) (sender_level s e) (power_content s) (content_of e)

-- ---- Room Version 6 and 7, authorization rules, 5 to 9: every event but a create event or a member event

unfoldable pub other_lines : Event → StateView → List Line
other_lines e s =
    reject_if SenderNotJoined (not (is_joined s (sender_of e)))
    ∷ where_so (has_kind (codes "m.room.third_party_invite") e) (third_party_invite_lines e s)
    ++ (reject_if SenderLevelTooLow (not (reaches s e (required_level (power_of s) (kind e) (is_state e))))
    ∷ reject_if StateKeyOfAnotherUser (begins_with 64 (target_of e) && not (is_own e))
    ∷ where_so (has_kind (codes "m.room.power_levels") e) (power_lines e s))

-- ---- Room Version 6 and 7, authorization rules: all but the check of the auth events, in order

abbrev pub rule_lines : RoomVersion → Event → StateView → List Line
rule_lines v e s =
    where_so (has_kind (codes "m.room.create") e) (create_lines e)
    ++ (reject_if StateWithoutCreate (is_none (create_of s))
    ∷ reject_if RoomNotFederated (is_some_and (is_kept_out e) (create_of s))
    ∷ where_so (has_kind (codes "m.room.member") e) (member_lines v e s)
    ++ other_lines e s)

-- why the event is rejected in this state of a room of this version; None where it is allowed
unfoldable pub rules : RoomVersion → Event → StateView → Option Rule
rules v e s = first_line (rule_lines v e s)

-- ---- Server-Server API, auth events selection; Room Version 6 and 7, authorization rules, 2

abbrev pub same_key : Key → Key → Bool
same_key a b = bytes_eq a.0 b.0 && bytes_eq a.1 b.1

abbrev pub key_of : Event → Option Key
key_of e = option_map (λ state_key. (kind e, state_key)) (state_key_of e)

-- a member event that the join rules are selected for: a join, an invite, and in Room Version 7 a knock
abbrev pub needs_join_rules : RoomVersion → Event → Bool
needs_join_rules v e =
    has_membership (codes "join") e || has_membership (codes "invite") e || is_knock v e

-- the keys that a member event needs beside its sender's: its target's, and the join rules
abbrev pub member_keys : RoomVersion → Event → List Key
member_keys v e =
    where_so (is_state e && not (is_own e)) ((codes "m.room.member", target_of e) ∷ [])
    ++ where_so (needs_join_rules v e) ((codes "m.room.join_rules", []) ∷ [])

-- the keys of the state that an event's auth events are selected from
abbrev pub needed_keys : RoomVersion → Event → List Key
needed_keys v e =
    where_so (not (has_kind (codes "m.room.create") e))
    ((codes "m.room.create", []) ∷ (codes "m.room.power_levels", []) ∷ (codes "m.room.member", sender_of e)
    ∷ where_so (has_kind (codes "m.room.member") e) (member_keys v e))

-- two states have the same event at each of these keys
abbrev pub AgreeAt : List Key → StateView → StateView → Type 0
AgreeAt [] s t = Unit {0}
AgreeAt (k ∷ ks) s t = (s.entry k.0 k.1 ≡ t.entry k.0 k.1) × AgreeAt ks s t

-- an event that another one cites, and whether it was rejected
pub record Cited : Type 0 where
  pub event : Event
  pub rejected : Bool

-- some element is tied with a later one
abbrev pub has_repeat : {A : Type 0} → (A → A → Bool) → List A → Bool
has_repeat same [] = false
has_repeat same (x ∷ xs) = list_any (same x) xs || has_repeat same xs

unfoldable pub is_selected : RoomVersion → Event → Event → Bool
is_selected v e cited = is_some_and (λ key. list_any (same_key key) (needed_keys v e)) (key_of cited)

abbrev pub cited_keys : List Cited → List Key
cited_keys entries = filter_map (λ c. key_of c.event) entries

-- the lines on the events that e cites, in the order of its `auth_events`
unfoldable pub auth_lines : RoomVersion → Event → List Cited → List Line
auth_lines v e entries =
    reject_if AuthEventsRepeat (has_repeat bytes_eq (auth_ids e) || has_repeat same_key (cited_keys entries))
    ∷ reject_if AuthEventNotSelected (list_any (λ c. not (is_selected v e c.event)) entries)
    ∷ reject_if AuthEventRejected (list_any (λ c. c.rejected) entries)
    ∷ reject_if AuthEventsWithoutCreate (not (list_any (λ c. has_kind (codes "m.room.create") c.event) entries))
    ∷ []

-- why the event is rejected by its auth events; the lines on a create event come first and decide it
unfoldable pub auth_rules : RoomVersion → Event → List Cited → Option Rule
auth_rules v e entries = if has_kind (codes "m.room.create") e then None else first_line (auth_lines v e entries)
