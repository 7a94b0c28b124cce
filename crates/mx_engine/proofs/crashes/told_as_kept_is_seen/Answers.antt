use Rattle.mx_engine.proofs.KeptLemmas.{answered-kept, events-kept, closed-kept, replayed-kept}
use Rattle.mx_engine.proofs.crashes.told_as_kept_is_seen.Goals as goal

pub returns-clause-answers : goal.returns-clause-answers
returns-clause-answers c = answered-kept

pub returns-clause-events : goal.returns-clause-events
returns-clause-events c = events-kept

pub returns-clause-closed : goal.returns-clause-closed
returns-clause-closed c =
    λ caller key events shards shards_then books books_then body some replied. closed-kept caller key body books books_then
    some replied.3

pub returns-clause-replayed : goal.returns-clause-replayed
returns-clause-replayed c = λ caller key events shards shards_then books books_then body some replied.
    replayed-kept key body books books_then replied.0 some replied.2 replied.3
