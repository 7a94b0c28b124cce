use Rattle.std.proofs.Common.{List, ℕ, [], ◌∷◌, ◌++◌, Option, Ok, ap}
use Rattle.mx_log.specs.LineReading.{held, left}
use Rattle.mx_log.specs.LineRuns.{AreRunSoFar}
use Rattle.mx_pdu.specs.Offers.{offer_by}
use Rattle.mx_log.proofs.LineReadingLemmas.{of_all, taken_all, taken_more, taken_none}
use Rattle.mx_log.proofs.LineRunLemmas.{none_so_far}
use Rattle.mx_log.proofs.LogServerLemmas.{line_done}
use Rattle.mx_log.proofs.log_servers.take_log.Goals as goal

pub loop-line-init : goal.loop-line-init
loop-line-init g c = (
  [],
  taken_none (g.R.Read.remaining c.args.input.now) (held c.in_ok-lines.lines) c.in_ok-lines.ensures,
  λ start now. ([], none_so_far (offer_by (g.V.Verifier.judges c.args.verifier.now)) c.args.server.now.name start c.args.desk.now.rooms.world now),
)

pub loop-line-preserved : goal.loop-line-preserved
loop-line-preserved g c =
    let lines : List (List ℕ) = c.loop-line.invariant.0 in
    let line : List ℕ = c.next_line.new.line.items in (
      lines ++ line ∷ [],
      taken_more (g.R.Read.remaining c.args.input.now) (left c.loop-line.lines (g.R.Read.remaining c.loop-line.input))
          (left c.next_line.new.self (g.R.Read.remaining c.next_line.new.input)) lines line
          c.loop-line.invariant.1 (c.in_ok-next_line.ensures.line (ap Ok c.if-branch.true)),
      λ start now.
          line_done (offer_by (g.V.Verifier.judges c.args.verifier.now)) c.args.server.now.name start lines line c.loop-line.desk.rooms.world c.take_text.new.desk.rooms.world
          (c.loop-line.invariant.2 start now) (rw c.deref.ensures.value at c.in_ok-take_text.ensures),
    )

pub returns : goal.returns
returns g c = λ start now.
    let lines : List (List ℕ) = c.loop-line.invariant.0 in
    let read : Option (List ℕ) = g.R.Read.remaining c.args.input.now in
    of_all
    (λ ls. (output : List ℕ) × AreRunSoFar (offer_by (g.V.Verifier.judges c.args.verifier.now)) c.args.server.now.name start ls output c.loop-line.desk.rooms.world)
    read lines
    (taken_all read (left c.loop-line.lines (g.R.Read.remaining c.loop-line.input)) lines c.loop-line.invariant.1 (c.in_ok-next_line.ensures.none (ap Ok c.if-branch.false)))
    (c.loop-line.invariant.2 start now)
