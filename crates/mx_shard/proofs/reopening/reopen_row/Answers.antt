use Rattle.std.proofs.Common.{sym, ◌∙◌, ap}
use Rattle.std.specs.Prelude.{bytes_eq}
use Rattle.mx_shard.proofs.ReopenLemmas.{other-room, not-true}
use Rattle.mx_shard.proofs.reopening.reopen_row.Goals as goal

pub returns-then-ne-clause-storage : goal.returns-then-ne-clause-storage
returns-then-ne-clause-storage c = λ _ can.
    other-room c.args.rooms.now.items c.args.numbers.now c.args.holders.now c.args.journal.now.items c.args.row c.requires
    (ap (λ id. bytes_eq id c.args.row.room) (sym c.room_id.ensures) ∙ not-true (bytes_eq c.room_id.result.now c.args.row.room) (sym c.ne.ensures ∙ c.if-ne.true)) can.0
