use Rattle.std.proofs.Common.{◌≡◌, List, ℕ, subst, rules}
use Rattle.std.specs.Prelude.{IfSome, option_map}
use Rattle.mx_log.specs.LineSteps.{nothing_yet}
use Rattle.mx_log.specs.Lines.{lines_of}
use Rattle.mx_log.specs.StrictLogs.{bad_shown}
use Rattle.mx_log.specs.StrictRuns.{AreAnsweredToBad}
use Rattle.mx_pdu.specs.Offers.{offer_by}
use Rattle.mx_log.proofs.StrictLemmas.{strictly_answered}
use Rattle.mx_log.proofs.strict_logs.run_lines_to_bad.Goals as goal

pub returns : goal.returns
returns g c =
    let judges = g.V.Verifier.judges c.args.verifier.now in
    let read = g.R.Read.remaining c.args.input.now in
    let before = g.W.Write.contents c.args.out.now in
    let after = g.W.Write.contents c.answer_to_bad.new.out in
    let bad = option_map bad_shown c.in_ok-bad.bad in
    let named : c.in_ok-server.server.name ≡ c.args.name.now = search rules in
    let P : List ℕ → Type 0 = λ name. IfSome read (λ read. AreAnsweredToBad (offer_by judges) name nothing_yet (lines_of read) before after bad) in
    strictly_answered judges c.args.name.now read before after bad
    (subst P named (c.in_ok-bad.ensures nothing_yet c.in_ok-desk.ensures))
