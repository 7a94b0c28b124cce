use Rattle.std.proofs.Common.{◌≤◌, IsTrue, length}
use Rattle.std.specs.List.{list_all}
use Rattle.mx_ident.specs.Identifier.{is_event_id}
use Rattle.mx_event_reading.proofs.ArrayLemmas.{StringsRead}
use Rattle.mx_event_reading.proofs.in_order.typed.append_ids.Given as goal

-- the ids so far, and their text
abbrev pub invariant-items : goal.invariant-items
invariant-items l =
    StringsRead l.initial.reader l.reader l.ids.items l.later l.initial.out.items l.out.items
    × IsTrue (list_all is_event_id l.ids.items) × (length l.ids.items ≤ l.most)

abbrev pub decreases-items : goal.decreases-items
decreases-items l = length l.reader
