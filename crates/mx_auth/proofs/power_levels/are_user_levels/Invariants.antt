use Rattle.std.proofs.Common.{◌≡◌}
use Rattle.std.specs.List.{list_all}
use Rattle.serde_json.specs.View.{members_view}
use Rattle.mx_redact.specs.Fields.{keys_of}
use Rattle.mx_auth.specs.Entries.{is_user_level}
use Rattle.mx_auth.proofs.power_levels.are_user_levels.Given as goal

-- each was sound, so those that are left decide
abbrev pub invariant-loop-key : goal.invariant-loop-key
invariant-loop-key l =
    list_all (is_user_level (members_view l.entries.entries)) (keys_of (members_view l.key-iterator))
    ≡ list_all (is_user_level (members_view l.entries.entries)) (keys_of (members_view l.entries.entries))
