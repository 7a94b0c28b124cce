use Rattle.std.proofs.Common.{◌≡◌}
use Rattle.std.specs.Prelude.{option_map}
use Rattle.std.specs.List.{list_any}
use Rattle.serde_json.specs.View.{members_view}
use Rattle.mx_redact.specs.Fields.{keys_of}
use Rattle.mx_auth.specs.Entries.{is_altered_above}
use Rattle.mx_auth.proofs.power_levels.alters_entry_above.Given as goal

-- none was found, so those that are left decide
abbrev pub invariant-loop-key : goal.invariant-loop-key
invariant-loop-key l =
    list_any (is_altered_above l.bound (members_view l.entries.entries) (option_map (λ others. members_view others.now.entries) l.others)) (keys_of (members_view l.key-iterator))
    ≡ list_any (is_altered_above l.bound (members_view l.entries.entries) (option_map (λ others. members_view others.now.entries) l.others)) (keys_of (members_view l.entries.entries))
