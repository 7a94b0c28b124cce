use Rattle.std.proofs.Common.{get_or, ◌∙◌}
use Rattle.mx_shard.specs.Journal.{stored as stored_events}
use Rattle.mx_book.specs.Journal.{stored as stored_replies}
use Rattle.mx_world.specs.Crashes.{rows_called, rows_ended, step_call, step_entry}
use Rattle.mx_world.proofs.StopLemmas.{leaves-rows}
use Rattle.mx_world.proofs.stops.stops_leave_the_journals.Goals as goal

pub returns-clause-shards : goal.returns-clause-shards
returns-clause-shards g c = λ status refused new leaves n d l taken.
    let old = get_or c.args.world.now.shards n d in
    let later = get_or new.shards n d in
    leaves-rows (λ shard. shard.keeper) (λ shard. stored_events shard.journal) g.K.Keeper.is_honest g.K.Keeper.may_leave old later
    (rows_called (step_call status refused) later) (leaves.shards.each n d)
    (λ honest left may. let sound = (c.soundness.ensures.shards n d l).rows taken honest in g.met.K.Keeper.settled old.keeper left honest sound.0 may ∙ sound.1)

pub returns-clause-books : goal.returns-clause-books
returns-clause-books g c = λ status refused new leaves n d l taken.
    let old = get_or c.args.world.now.books n d in
    let later = get_or new.books n d in
    leaves-rows (λ book. book.keeper) (λ book. stored_replies book.journal) g.L.Keeper.is_honest g.L.Keeper.may_leave old later
    (rows_ended (step_entry status refused) later) (leaves.books.each n d)
    (λ honest left may. let sound = (c.soundness.ensures.books n d l).rows taken honest in g.met.L.Keeper.settled old.keeper left honest sound.0 may ∙ sound.1)
