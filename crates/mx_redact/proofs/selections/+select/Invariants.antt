use Rattle.std.proofs.Common.{◌≡◌}
use Rattle.std.specs.List.Sorted.{IsStrictlySortedBy}
use Rattle.std.specs.Map.{keys_of}
use Rattle.std.specs.String.{string_cmp}
use Rattle.serde_json.specs.View.{members_view}
use Rattle.mx_redact.specs.Selected.{selected}
use Rattle.mx_redact.proofs.AppendLemmas.{appended, AllAbove}
use Rattle.mx_redact.proofs.selections.+select.Given as goal

-- what was copied, with what is left
abbrev pub invariant-copy_of-loop-key : goal.invariant-copy_of-loop-key
invariant-copy_of-loop-key l =
    IsStrictlySortedBy string_cmp (keys_of l.key-iterator)
    × AllAbove (members_view l.copy.entries) l.key-iterator
    × (appended (members_view l.copy.entries) (selected l.selection (members_view l.key-iterator)) ≡ selected l.selection (members_view l.members.entries))
