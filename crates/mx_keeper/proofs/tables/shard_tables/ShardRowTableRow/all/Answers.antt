use Rattle.std.proofs.Common.{sym, ap, ◌∙◌}
use Rattle.sqlite.specs.Effect.{Database}
use Rattle.mx_keeper.proofs.StayLemmas.{clean_if_open, idle_after}
use Rattle.mx_keeper.proofs.tables.shard_tables.ShardRowTableRow.all.Goals as goal

pub all_rows-requires-clause-idle : goal.all_rows-requires-clause-idle
all_rows-requires-clause-idle g c live = idle_after _ _ (c.check_layout.ensures.stays (clean_if_open _ _ (g.met.S.Store.shut_if_dirty c.check_layout.new.connection.store) live) live)

pub all_rows-requires-clause-known : goal.all_rows-requires-clause-known
all_rows-requires-clause-known g c live =
    let s = c.check_layout.ensures.stays (clean_if_open _ _ (g.met.S.Store.shut_if_dirty c.check_layout.new.connection.store) live) live in
    ap (λ (d : Database). d.schema) (s.now ∙ sym (c.requires.idle s.was_open).settled) ∙ c.requires.known s.was_open
