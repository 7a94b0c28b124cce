use Rattle.std.proofs.Common.{◌≡◌, ap, ◌∙◌, Some}
use Rattle.std.specs.Prelude.{Err}
use Rattle.serde_json.specs.View.{view}
use Rattle.mx_ident.specs.Identifier.{event_id_error}
use Rattle.mx_world.specs.Worlds.{shard_journals}
use Rattle.mx_world.proofs.LossLemmas.{no_id}
use Rattle.mx_world.proofs.losses.add_if_lost.Goals as goal

pub returns-in-Err-NotAnId : goal.returns-in-Err-NotAnId
returns-in-Err-NotAnId g c =
    let refused : event_id_error c.args.id.now ≡ Some c.in-Err-NotAnId.field-0-0 =
    (c.parse.ensures.refused c.in-Err-NotAnId.field-0-0).0 (c.in-Err-NotAnId.is ∙ ap (λ e. Err e) c.in-Err-NotAnId.field-0-is) in
    no_id (shard_journals c.args.shards.now) c.args.id.now (view c.args.answer.now) c.args.lost.now.items c.in-Err-NotAnId.field-0-0 refused
