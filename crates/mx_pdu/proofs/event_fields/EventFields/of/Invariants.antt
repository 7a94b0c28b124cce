use Rattle.std.proofs.Common.{◌≡◌, None, get_or, length}
use Rattle.std.specs.Prelude.{option_map}
use Rattle.std.specs.List.Sorted.{IsStrictlySortedBy}
use Rattle.std.specs.Map.{keys_of}
use Rattle.std.specs.String.{string_cmp}
use Rattle.serde_json.specs.Data.{object}
use Rattle.serde_json.specs.View.{view, members_view}
use Rattle.mx_redact.specs.declared.event_keys.EventKey.{EventKey}
use Rattle.mx_pdu.specs.EventFields.{field_at, index_of}
use Rattle.mx_pdu.proofs.EventFieldLemmas.{IsFound}
use Rattle.mx_pdu.proofs.event_fields.EventFields.of.Given as goal

-- each value was found, or is left to find
abbrev pub invariant-loop-key : goal.invariant-loop-key
invariant-loop-key l =
    IsStrictlySortedBy string_cmp (keys_of l.key-iterator)
    × (length l.values ≡ 18)
    × ((key : EventKey) → IsFound (option_map (λ value. view value.now) (get_or l.values (index_of key) None))
    (field_at key (object (members_view l.key-iterator))) (field_at key (object (members_view l.members.entries))))
