use Rattle.std.proofs.Common.{◌≡◌, drop}
use Rattle.serde_json.specs.View.{items_view, members_view}
use Rattle.mx_canon.specs.Canonical.{item_numbers, member_numbers}
use Rattle.mx_canon.specs.KeyOrder.{KeysRiseInItems, KeysRiseInMembers}
use Rattle.mx_canon.specs.Faults.{fault_of, graver}
use Rattle.mx_canon.proofs.checking.+fault.Given as goal

-- what was found, and what is left
abbrev pub invariant-fault_of_items-loop-item : goal.invariant-fault_of_items-loop-item
invariant-fault_of_items-loop-item l =
    (graver l.found (fault_of (item_numbers (items_view (drop l.item-index l.item-items)))) ≡ fault_of (item_numbers (items_view l.item-items)))
    × (KeysRiseInItems (items_view (drop l.item-index l.item-items)) → KeysRiseInItems (items_view l.item-items))

abbrev pub invariant-fault_of_members-loop-member : goal.invariant-fault_of_members-loop-member
invariant-fault_of_members-loop-member l =
    (graver l.found (fault_of (member_numbers (members_view l.member-iterator))) ≡ fault_of (member_numbers (members_view l.members.entries)))
    × (KeysRiseInMembers (members_view l.member-iterator) → KeysRiseInMembers (members_view l.members.entries))
