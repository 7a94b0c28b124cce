use Rattle.std.proofs.lemmas.Result.{on_ok_weaker}
use Rattle.mx_keeper.proofs.MoveLemmas.{adds, stops_number}
use Rattle.mx_keeper.proofs.ShardTableLemmas.{inserted_number}
use Rattle.mx_keeper.proofs.tables.second_layout.add_number.Goals as goal

pub returns-clause-ok : goal.returns-clause-ok
returns-clause-ok g c clean = on_ok_weaker c.run.result (λ run. (adds inserted_number _ _ c.requires.inside run).1) (c.run.ensures.ok clean)

pub returns-clause-sound : goal.returns-clause-sound
returns-clause-sound g c clean = on_ok_weaker c.run.result (λ run. (adds inserted_number _ _ c.requires.inside run).0) (c.run.ensures.ok clean)

pub returns-clause-refused : goal.returns-clause-refused
returns-clause-refused g c clean is = stops_number _ _ c.requires.inside (c.run.ensures.refused clean is)
