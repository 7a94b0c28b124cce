use Rattle.std.proofs.Common.{◌≡◌, ◌++◌, drop}
use Rattle.std.specs.List.{flat_map}
use Rattle.std.specs.Prelude.{codes}
use Rattle.mx_export.specs.RoomLogs.{open_text, step_text}
use Rattle.mx_redact.specs.Fields.{Event}
use Rattle.mx_export.proofs.writing.write_transaction.Given as goal

abbrev pub invariant-loop : goal.invariant-loop
invariant-loop l =
    l.out.items ++ flat_map (λ (e : Event). step_text (codes "next") l.name.origin.items l.name.number.items) (drop l.index l.events)
    ≡ (l.fn.out.items ++ open_text l.name.origin.items l.name.number.items l.events) ++ flat_map (λ (e : Event). step_text (codes "next") l.name.origin.items l.name.number.items) l.events
