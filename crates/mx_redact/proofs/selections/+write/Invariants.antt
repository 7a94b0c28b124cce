use Rattle.std.proofs.Common.{◌≡◌, ◌++◌, List, ℕ, map}
use Rattle.std.specs.List.{join_with_byte}
use Rattle.std.specs.List.Sorted.{IsStrictlySortedBy}
use Rattle.std.specs.Map.{keys_of}
use Rattle.std.specs.String.{string_cmp}
use Rattle.serde_json.specs.View.{members_view}
use Rattle.mx_canon.specs.Canonical.{member_text, sorted_members}
use Rattle.mx_canon.proofs.PieceLemmas.{left}
use Rattle.mx_redact.specs.Selected.{selected}
use Rattle.mx_redact.proofs.selections.+write.Given as goal

-- what was written, and what is left
abbrev pub invariant-write_selected-loop-key : goal.invariant-write_selected-loop-key
invariant-write_selected-loop-key g l =
    IsStrictlySortedBy string_cmp (keys_of l.key-iterator)
    × ((taken : List ℕ) → g.S.TextSink.has_taken l.initial.sink taken
    → (out : List ℕ) × g.S.TextSink.has_taken l.sink out
    × (out ++ left l.later (map member_text (sorted_members (selected l.selection (members_view l.key-iterator)))) ≡ taken ++ join_with_byte 44 (map member_text (sorted_members (selected l.selection (members_view l.members.entries))))))
