use Rattle.mx_world.proofs.Alike.{alike, same_records}
use Rattle.mx_world.proofs.runs.agreeing_runs_answer_alike.Goals as goal

pub returns : goal.returns
returns c = record { alike = alike; records = same_records }
