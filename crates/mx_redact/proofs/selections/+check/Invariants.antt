use Rattle.std.proofs.Common.{◌≡◌}
use Rattle.serde_json.specs.View.{members_view}
use Rattle.mx_canon.specs.Canonical.{member_numbers}
use Rattle.mx_canon.specs.Faults.{fault_of, graver}
use Rattle.mx_redact.specs.Selected.{selected}
use Rattle.mx_redact.proofs.selections.+check.Given as goal

-- what was found, and what is left
abbrev pub invariant-fault_in-loop-key : goal.invariant-fault_in-loop-key
invariant-fault_in-loop-key l =
    graver l.found (fault_of (member_numbers (selected l.selection (members_view l.key-iterator)))) ≡ fault_of (member_numbers (selected l.selection (members_view l.members.entries)))
