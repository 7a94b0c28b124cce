-- For proofs and private clauses alone.
-- Codes for the rule that rejects an event, by its label, and for the version of a room, by its text.
use Rattle.std.specs.Prelude.{◌≡◌, ℕ, List, [], ◌∷◌, bytes_eq, find, unwrap_or, Some, refl}
use Rattle.std.specs.Coded.{Coded, code_by, coded_ℕ, coded_list}
use Rattle.mx_auth.specs.Rules.{label_text}
use Rattle.mx_auth.specs.Versions.{version_text, version_named}
use Rattle.mx_auth.specs.declared.versions.RoomVersion.{RoomVersion}
use Rattle.mx_auth.specs.declared.versions.RoomVersion.TheVariants.{V6, V7}
use Rattle.mx_auth.specs.declared.refusals.Rule.{Rule}
use Rattle.mx_auth.specs.declared.refusals.Rule.TheVariants as rule

abbrev pub all_rules : List Rule
all_rules =
    rule.CreateHasPrevEvents ∷ rule.CreateOfAnotherServer ∷ rule.CreateVersionUnknown ∷ rule.CreateWithoutCreator
    ∷ rule.AuthEventsRepeat ∷ rule.AuthEventNotSelected ∷ rule.AuthEventRejected ∷ rule.AuthEventsWithoutCreate
    ∷ rule.StateWithoutCreate ∷ rule.RoomNotFederated ∷ rule.MemberIncomplete ∷ rule.JoinForAnother
    ∷ rule.JoinOfBanned ∷ rule.JoinNotAllowed ∷ rule.InviteByThirdParty ∷ rule.InviterNotJoined
    ∷ rule.InviteOfJoinedOrBanned ∷ rule.InviteLevelTooLow ∷ rule.LeaveNotInvitedOrJoined ∷ rule.KickerNotJoined
    ∷ rule.UnbanLevelTooLow ∷ rule.KickLevelTooLow ∷ rule.BannerNotJoined ∷ rule.BanLevelTooLow
    ∷ rule.KnockNotAllowed ∷ rule.KnockForAnother ∷ rule.KnockOfBannedOrInvitedOrJoined
    ∷ rule.MembershipUnknown ∷ rule.SenderNotJoined ∷ rule.ThirdPartyInviteLevelTooLow ∷ rule.SenderLevelTooLow
    ∷ rule.StateKeyOfAnotherUser ∷ rule.UsersMalformed ∷ rule.LevelChangedAboveSender ∷ rule.OldEntryAboveSender
    ∷ rule.NewEntryAboveSender ∷ rule.OldUserNotBelowSender ∷ rule.NewUserAboveSender ∷ []

-- the rule with a label
abbrev pub rule_labelled : List ℕ → Rule
rule_labelled s = unwrap_or (find (λ r. bytes_eq (label_text r) s) all_rules) rule.StateWithoutCreate

pub rule_labelled-text : (r : Rule) → rule_labelled (label_text r) ≡ r
rule_labelled-text rule.CreateHasPrevEvents = refl
rule_labelled-text rule.CreateOfAnotherServer = refl
rule_labelled-text rule.CreateVersionUnknown = refl
rule_labelled-text rule.CreateWithoutCreator = refl
rule_labelled-text rule.AuthEventsRepeat = refl
rule_labelled-text rule.AuthEventNotSelected = refl
rule_labelled-text rule.AuthEventRejected = refl
rule_labelled-text rule.AuthEventsWithoutCreate = refl
rule_labelled-text rule.StateWithoutCreate = refl
rule_labelled-text rule.RoomNotFederated = refl
rule_labelled-text rule.MemberIncomplete = refl
rule_labelled-text rule.JoinForAnother = refl
rule_labelled-text rule.JoinOfBanned = refl
rule_labelled-text rule.JoinNotAllowed = refl
rule_labelled-text rule.InviteByThirdParty = refl
rule_labelled-text rule.InviterNotJoined = refl
rule_labelled-text rule.InviteOfJoinedOrBanned = refl
rule_labelled-text rule.InviteLevelTooLow = refl
rule_labelled-text rule.LeaveNotInvitedOrJoined = refl
rule_labelled-text rule.KickerNotJoined = refl
rule_labelled-text rule.UnbanLevelTooLow = refl
rule_labelled-text rule.KickLevelTooLow = refl
rule_labelled-text rule.BannerNotJoined = refl
rule_labelled-text rule.BanLevelTooLow = refl
rule_labelled-text rule.KnockNotAllowed = refl
rule_labelled-text rule.KnockForAnother = refl
rule_labelled-text rule.KnockOfBannedOrInvitedOrJoined = refl
rule_labelled-text rule.MembershipUnknown = refl
rule_labelled-text rule.SenderNotJoined = refl
rule_labelled-text rule.ThirdPartyInviteLevelTooLow = refl
rule_labelled-text rule.SenderLevelTooLow = refl
rule_labelled-text rule.StateKeyOfAnotherUser = refl
rule_labelled-text rule.UsersMalformed = refl
rule_labelled-text rule.LevelChangedAboveSender = refl
rule_labelled-text rule.OldEntryAboveSender = refl
rule_labelled-text rule.NewEntryAboveSender = refl
rule_labelled-text rule.OldUserNotBelowSender = refl
rule_labelled-text rule.NewUserAboveSender = refl

abbrev pub rule_code : Coded Rule
rule_code = code_by (List ℕ) (coded_list coded_ℕ) label_text rule_labelled rule_labelled-text

-- the version with a text
abbrev pub version_written : List ℕ → RoomVersion
version_written s = unwrap_or (version_named (Some s)) V6

pub version_written-text : (v : RoomVersion) → version_written (version_text v) ≡ v
version_written-text V6 = refl
version_written-text V7 = refl

abbrev pub version_code : Coded RoomVersion
version_code = code_by (List ℕ) (coded_list coded_ℕ) version_text version_written version_written-text
