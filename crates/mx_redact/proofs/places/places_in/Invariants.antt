use Rattle.std.proofs.Common.{◌≡◌, ◌+◌, ◌++◌, Bool, drop}
use Rattle.std.specs.List.Sorted.{IsStrictlySortedBy}
use Rattle.std.specs.Map.{keys_of}
use Rattle.std.specs.String.{string_cmp}
use Rattle.serde_json.specs.View.{members_view}
use Rattle.mx_redact.specs.Places.{places_from}
use Rattle.mx_redact.proofs.TextPieceLemmas.{opened, pieces}
use Rattle.mx_redact.proofs.places.places_in.Given as goal

-- the places noted with those that are left, and what of the event's text is left
abbrev pub invariant-loop-key : goal.invariant-loop-key
invariant-loop-key l =
    IsStrictlySortedBy string_cmp (keys_of l.key-iterator)
    × (l.places.items ++ places_from (l.end + 1) (members_view l.key-iterator) ≡ places_from 1 (members_view l.event.entries))
    × ((later : Bool) × (drop l.end l.text ≡ opened later (pieces (members_view l.key-iterator))))
