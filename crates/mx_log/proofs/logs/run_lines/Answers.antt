use Rattle.std.proofs.Common.{◌≡◌, List, ℕ, subst, rules}
use Rattle.std.specs.Prelude.{IfSome}
use Rattle.mx_log.specs.LineRuns.{AreAnswered}
use Rattle.mx_log.specs.LineSteps.{nothing_yet}
use Rattle.mx_log.specs.Lines.{lines_of}
use Rattle.mx_pdu.specs.Offers.{offer_by}
use Rattle.mx_log.proofs.LogLemmas.{log_answered}
use Rattle.mx_log.proofs.logs.run_lines.Goals as goal

pub returns : goal.returns
returns g c =
    let judges = g.V.Verifier.judges c.args.verifier.now in
    let read = g.R.Read.remaining c.args.input.now in
    let before = g.W.Write.contents c.args.out.now in
    let after = g.W.Write.contents c.answer_log.new.out in
    let named : c.in_ok-server.server.name ≡ c.args.name.now = search rules in
    let P : List ℕ → Type 0 = λ name. IfSome read (λ read. AreAnswered (offer_by judges) name nothing_yet (lines_of read) before after c.answer_log.new.desk.rooms.world) in
    log_answered judges c.args.name.now read before after c.answer_log.new.desk.rooms.world
    (subst P named (c.in_ok-answer_log.ensures nothing_yet c.in_ok-desk.ensures))
