use Rattle.std.specs.Prelude.{length, map, string_bytes}
use Rattle.std.proofs.Common.{◌∙◌, ap}
use Rattle.mx_server.specs.Losses.{lost_count}
use Rattle.mx_server.proofs.LossLemmas.{lines_more}
use Rattle.mx_server.proofs.losses.loss_lines.Goals as goal

pub loop-number-preserved : goal.loop-number-preserved
loop-number-preserved g c =
    lines_more c.args.directory.now (lost_count c.args.server.now) c.loop-number.number c.len.result
    (map string_bytes c.loop-number.lines.items) _ c.loop-number.invariant c.in_ok-push_loss.ensures
    (c.len.ensures ∙ c.in_ok-lost.lost.ok.0 ∙ ap length c.in_ok-lost.ensures)
