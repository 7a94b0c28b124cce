use Rattle.std.proofs.Common.{◌≡◌, ◌++◌, List, ℕ, drop}
use Rattle.std.specs.List.{join_with_byte}
use Rattle.mx_canon.specs.Canonical.{item_texts}
use Rattle.mx_canon.proofs.PieceLemmas.{left}
use Rattle.mx_page.specs.EntryTexts.{changes_items}
use Rattle.mx_page.proofs.change_texts.write_changes.Given as goal

-- what was written, with the texts of those that are left, is the whole
abbrev pub invariant-loop-change : goal.invariant-loop-change
invariant-loop-change g l =
    (taken : List ℕ) → g.S.TextSink.has_taken l.initial.sink taken
    → (out : List ℕ) × g.S.TextSink.has_taken l.sink out
    × (out ++ left l.later (item_texts (changes_items (drop l.change-index l.changes))) ≡ taken ++ join_with_byte 44 (item_texts (changes_items l.changes)))
