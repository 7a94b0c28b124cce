-- What the rules read of the events that stand in a state, beside their ids (docs/AUDIT.md).
use Rattle.std.specs.Prelude.{ℕ, ℤ, Bool, ◌||◌, if◌then◌else◌, List, [], ◌∷◌, bytes_eq, codes, Option, None, Some, option_and_then, option_map}
use Rattle.serde_json.specs.Data.{Data, number, string}
use Rattle.serde_json.specs.Find.{of_integer}
use Rattle.mx_redact.specs.Fields.{Event, kind}
use Rattle.mx_pdu.specs.Event.{has_kind, has_membership, is_state, membership_of, sender_of}
use Rattle.mx_levels.specs.Level.{ban_level, invite_level, kick_level, required_level, user_level}
use Rattle.mx_auth.specs.Rules.{is_own}
use Rattle.mx_auth.specs.StateView.{join_rule_of}
use Rattle.mx_reasons.specs.JudgedView.{Judged}

-- a fact that is told at entries of one type
abbrev pub if_type : {A : Type 0} → List ℕ → List ℕ → Option A → Option A
if_type wanted type fact = if bytes_eq type wanted then fact else None

-- the level that a membership asks of who gives it to another
abbrev pub membership_level : Judged → Option ℤ
membership_level j =
    if has_membership (codes "invite") j.event then Some (invite_level j.sources.power)
    else (if has_membership (codes "ban") j.event then Some (ban_level j.sources.power)
    else (if has_membership (codes "leave") j.event then (if is_own j.event then None else Some (kick_level j.sources.power)) else None))

-- the level that sending the event asks for, where one is asked for
unfoldable pub level_needed : Judged → Option ℤ
level_needed j =
    if has_kind (codes "m.room.member") j.event then membership_level j
    else (if has_kind (codes "m.room.third_party_invite") j.event then Some (invite_level j.sources.power)
    else Some (required_level j.sources.power (kind j.event) (is_state j.event)))

-- the level of its sender
unfoldable pub level_had : Judged → ℤ
level_had j = user_level j.sources.create j.sources.power (sender_of j.event)

-- what is told beside the id of the event that stands at a type
abbrev pub fact_members : Judged → List ℕ → Option Event → List (List ℕ × Option Data)
fact_members j type standing =
    (codes "join_rule", option_map string (if_type (codes "m.room.join_rules") type (option_and_then join_rule_of standing)))
    ∷ (codes "level", option_map (λ z. number (of_integer z)) (if_type (codes "m.room.power_levels") type (Some (level_had j))))
    ∷ (codes "level_needed", option_map (λ z. number (of_integer z)) (if_type (codes "m.room.power_levels") type (level_needed j)))
    ∷ (codes "membership", option_map string (if_type (codes "m.room.member") type (option_and_then membership_of standing))) ∷ []
