use Rattle.std.proofs.Common.{◌≡◌, List, ℕ, subst, rules}
use Rattle.std.specs.Prelude.{IfSome}
use Rattle.mx_log.specs.LineRuns.{AreRunSoFar}
use Rattle.mx_log.specs.LineSteps.{nothing_yet}
use Rattle.mx_log.specs.Lines.{lines_of}
use Rattle.mx_pdu.specs.Offers.{offer_by}
use Rattle.mx_log.proofs.LogServerLemmas.{server_after}
use Rattle.mx_log.proofs.log_servers.server_after_log.Goals as goal

pub returns : goal.returns
returns g c =
    let judges = g.V.Verifier.judges c.args.verifier.now in
    let read = g.R.Read.remaining c.args.input.now in
    let named : c.in_ok-server.server.name ≡ c.args.name.now = search rules in
    let P : List ℕ → Type 0 = λ name.
    IfSome read (λ read. (output : List ℕ) × AreRunSoFar (offer_by judges) name nothing_yet (lines_of read) output c.take_log.new.desk.rooms.world) in
    server_after judges c.args.name.now read c.take_log.new.desk.rooms.world (subst P named (c.in_ok-take_log.ensures nothing_yet c.in_ok-desk.ensures))
