-- Why the rules do not allow an event, with the levels that they compare (docs/AUDIT.md).
use Rattle.std.specs.Prelude.{ℕ, ℤ, Bool, if◌then◌else◌, List, [], ◌∷◌, ◌++◌, codes, Option, None, Some, is_some}
use Rattle.serde_json.specs.Data.{number}
use Rattle.serde_json.specs.Find.{of_integer}
use Rattle.mx_canon.specs.Canonical.{canonical_text}
use Rattle.mx_redact.specs.Fields.{Event, kind}
use Rattle.mx_pdu.specs.Event.{content_of, is_state, sender_of}
use Rattle.mx_levels.specs.Level.{ban_level, entry_at, invite_level, kick_level, required_level, user_level}
use Rattle.mx_levels.specs.Sources.{Sources}
use Rattle.mx_auth.specs.Rules.{target_of}
use Rattle.mx_auth.specs.declared.refusals.Rule.{Rule}
use Rattle.mx_auth.specs.declared.refusals.Rule.TheVariants as rule
use Rattle.mx_reasons.specs.Reasons.{reason_text}
use Rattle.mx_reasons.specs.declared.comparing.Comparison.{Comparison}
use Rattle.mx_reasons.specs.declared.comparing.Comparison.TheVariants.{Nothing, Invite, Ban, Kick, BanOfTarget, TypeOfEvent, Entries}

-- which levels a line compares with the sender's
abbrev pub compared_by : Rule → Comparison
compared_by rule.CreateHasPrevEvents = Nothing
compared_by rule.CreateOfAnotherServer = Nothing
compared_by rule.CreateVersionUnknown = Nothing
compared_by rule.CreateWithoutCreator = Nothing
compared_by rule.AuthEventsRepeat = Nothing
compared_by rule.AuthEventNotSelected = Nothing
compared_by rule.AuthEventRejected = Nothing
compared_by rule.AuthEventsWithoutCreate = Nothing
compared_by rule.StateWithoutCreate = Nothing
compared_by rule.RoomNotFederated = Nothing
compared_by rule.MemberIncomplete = Nothing
compared_by rule.JoinForAnother = Nothing
compared_by rule.JoinOfBanned = Nothing
compared_by rule.JoinNotAllowed = Nothing
compared_by rule.InviteByThirdParty = Nothing
compared_by rule.InviterNotJoined = Nothing
compared_by rule.InviteOfJoinedOrBanned = Nothing
compared_by rule.InviteLevelTooLow = Invite
compared_by rule.LeaveNotInvitedOrJoined = Nothing
compared_by rule.KickerNotJoined = Nothing
compared_by rule.UnbanLevelTooLow = Ban
compared_by rule.KickLevelTooLow = Kick
compared_by rule.BannerNotJoined = Nothing
compared_by rule.BanLevelTooLow = BanOfTarget
compared_by rule.KnockNotAllowed = Nothing
compared_by rule.KnockForAnother = Nothing
compared_by rule.KnockOfBannedOrInvitedOrJoined = Nothing
compared_by rule.MembershipUnknown = Nothing
compared_by rule.SenderNotJoined = Nothing
compared_by rule.ThirdPartyInviteLevelTooLow = Invite
compared_by rule.SenderLevelTooLow = TypeOfEvent
compared_by rule.StateKeyOfAnotherUser = Nothing
compared_by rule.UsersMalformed = Nothing
compared_by rule.LevelChangedAboveSender = Entries
compared_by rule.OldEntryAboveSender = Entries
compared_by rule.NewEntryAboveSender = Entries
compared_by rule.OldUserNotBelowSender = Entries
compared_by rule.NewUserAboveSender = Entries

abbrev pub level_text : ℤ → List ℕ
level_text z = canonical_text (number (of_integer z))

-- `@a:a.example has level 50`, by the create event and the power levels of the state
abbrev pub has_level : Sources → List ℕ → List ℕ
has_level s user = user ++ (codes " has level " ++ level_text (user_level s.create s.power user))

unfoldable pub asking : List ℕ → List ℕ
asking what = codes "; " ++ (what ++ codes " asks for ")

-- `; kick asks for 50`
abbrev pub asks_for : List ℕ → ℤ → List ℕ
asks_for what level = asking what ++ level_text level

abbrev pub default_source_of : Bool → List ℕ
default_source_of is_state = if is_state then codes "state_default" else codes "events_default"

-- the key of the power levels that gives the level which an event's type asks for
abbrev pub source_of : Option Event → List ℕ → Bool → List ℕ
source_of None kind is_state = codes "no power levels"
source_of (Some power) kind is_state =
    if is_some (entry_at (codes "events") kind (content_of power)) then codes "events"
    else default_source_of is_state

-- `; m.room.topic asks for 50 (state_default)`
abbrev pub type_asks_for : Sources → Event → List ℕ
type_asks_for s e =
    asks_for (kind e) (required_level s.power (kind e) (is_state e))
    ++ (codes " (" ++ (source_of s.power (kind e) (is_state e) ++ codes ")"))

-- the sender's level, and what it is compared with
abbrev pub compared_text : Comparison → List ℕ → Sources → Event → List ℕ
compared_text Nothing sentence s e = sentence
compared_text Invite sentence s e = has_level s (sender_of e) ++ asks_for (codes "invite") (invite_level s.power)
compared_text Ban sentence s e = has_level s (sender_of e) ++ asks_for (codes "ban") (ban_level s.power)
compared_text Kick sentence s e =
    has_level s (sender_of e) ++ (asks_for (codes "kick") (kick_level s.power) ++ (codes "; " ++ has_level s (target_of e)))
compared_text BanOfTarget sentence s e =
    has_level s (sender_of e) ++ (asks_for (codes "ban") (ban_level s.power) ++ (codes "; " ++ has_level s (target_of e)))
compared_text TypeOfEvent sentence s e = has_level s (sender_of e) ++ type_asks_for s e
compared_text Entries sentence s e = has_level s (sender_of e) ++ (codes "; " ++ sentence)

-- why a line does not allow an event, under the create event and the power levels of the state that it was judged on
unfoldable pub because_text : Rule → Sources → Event → List ℕ
because_text rule s e = compared_text (compared_by rule) (reason_text rule) s e
