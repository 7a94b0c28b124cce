use Rattle.std.proofs.Common.{◌≡◌, ◌++◌, List, ℕ, drop, map}
use Rattle.std.specs.List.{join_with_byte}
use Rattle.std.specs.List.Sorted.{IsStrictlySortedBy}
use Rattle.std.specs.Map.{keys_of}
use Rattle.std.specs.String.{string_cmp}
use Rattle.serde_json.specs.View.{items_view, members_view}
use Rattle.mx_canon.specs.Canonical.{item_texts, member_text, sorted_members}
use Rattle.mx_canon.proofs.PieceLemmas.{left}
use Rattle.mx_canon.proofs.streaming.+write.Given as goal

abbrev pub invariant-write_items-loop-item : goal.invariant-write_items-loop-item
invariant-write_items-loop-item g l =
    (taken : List ℕ) → g.S.TextSink.has_taken l.initial.sink taken
    → (out : List ℕ) × g.S.TextSink.has_taken l.sink out
    × (out ++ left l.later (item_texts (items_view (drop l.item-index l.item-items))) ≡ taken ++ join_with_byte 44 (item_texts (items_view l.item-items)))

abbrev pub invariant-write_members-loop-key : goal.invariant-write_members-loop-key
invariant-write_members-loop-key g l =
    IsStrictlySortedBy string_cmp (keys_of l.key-iterator)
    × ((taken : List ℕ) → g.S.TextSink.has_taken l.initial.sink taken
    → (out : List ℕ) × g.S.TextSink.has_taken l.sink out
    × (out ++ left l.later (map member_text (sorted_members (members_view l.key-iterator))) ≡ taken ++ join_with_byte 44 (map member_text (sorted_members (members_view l.members.entries)))))
