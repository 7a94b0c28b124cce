use Rattle.std.proofs.Common.{sym, ap, ◌∙◌}
use Rattle.sqlite.specs.Effect.{Database}
use Rattle.mx_keeper.proofs.StayLemmas.{clean_if_open, idle_after}
use Rattle.mx_keeper.proofs.tables.shard_tables.check_layout.Goals as goal

pub all_rows-requires-2-clause-idle : goal.all_rows-requires-2-clause-idle
all_rows-requires-2-clause-idle g c live = idle_after _ _ (c.all_rows.ensures.stays (clean_if_open _ _ (g.met.S.Store.shut_if_dirty c.all_rows.new.connection.store) live) live)

pub all_rows-requires-2-clause-known : goal.all_rows-requires-2-clause-known
all_rows-requires-2-clause-known g c live =
    let s = c.all_rows.ensures.stays (clean_if_open _ _ (g.met.S.Store.shut_if_dirty c.all_rows.new.connection.store) live) live in
    ap (λ (d : Database). d.schema) (s.now ∙ sym (c.requires.idle s.was_open).settled) ∙ c.requires.known s.was_open
