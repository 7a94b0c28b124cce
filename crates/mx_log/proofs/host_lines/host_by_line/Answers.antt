use Rattle.std.proofs.Common.{◌∙◌, inl, sym}
use Rattle.mx_world.proofs.RefusalLemmas.{on_err}
use Rattle.mx_pdu.specs.Offers.{offer_by}
use Rattle.mx_log.proofs.HostLineLemmas.{hosts_none}
use Rattle.mx_log.proofs.host_lines.host_by_line.Goals as goal

pub returns-in_err-_told-in-Ok-clause-err : goal.returns-in_err-_told-in-Ok-clause-err
returns-in_err-_told-in-Ok-clause-err g c = on_err c.from_residual.result
    (inl (hosts_none (offer_by (g.V.Verifier.judges c.args.verifier.now)) c.args.line.now c.in-Ok.answer c.args.world.now c.hosting_answer.new.world
    (sym c.is_hosted.ensures ∙ c.if-is_hosted.false) c.in-Ok.ensures.ok))
