-- The server after the lines so far, after one line more, and after a whole log.
use Rattle.std.proofs.Common.{ℕ, List, [], ◌∷◌, ◌++◌, Option, Some, None}
use Rattle.std.specs.Prelude.{IfSome, flat_map}
use Rattle.mx_redact.specs.Fields.{Event}
use Rattle.mx_world.specs.Calls.{Start}
use Rattle.mx_world.specs.View.{WorldView}
use Rattle.mx_world.specs.Worlds.{IsAfter}
use Rattle.mx_world.specs.declared.steps.Step.{Step}
use Rattle.mx_log.specs.LineRuns.{AreRunSoFar, IsDone}
use Rattle.mx_log.specs.LineSteps.{IsServerAfter, nothing_yet}
use Rattle.mx_log.specs.Lines.{lines_of, read_line}
use Rattle.mx_pdu.specs.Offers.{Judge, offer_by}
use Rattle.mx_pdu.specs.declared.offering.Offered.{Offered}
use Rattle.mx_log.proofs.LineRunLemmas.{one_more}

pub line_done : {K L : Type 0} (offer : Event → Offered) (server : List ℕ) (start : Start) (lines : List (List ℕ)) (line : List ℕ) (w w' : WorldView K L)
    → (written : List ℕ) × AreRunSoFar offer server start lines written w
    → (output : List ℕ) × ((start : Start) (earlier : List Step) → IsAfter start earlier w → IsDone offer server (read_line offer line) output start earlier w')
    → (written : List ℕ) × AreRunSoFar offer server start (lines ++ line ∷ []) written w'
line_done offer server start lines line w w' so_far done = (
  so_far.0 ++ (done.0 ++ 10 ∷ []),
  one_more offer server start lines so_far.0 line done.0 w w' so_far.1 (done.1 start (flat_map (λ x. x.steps) so_far.1.exchanges) so_far.1.after),
)

-- a whole log, where it is known
pub server_after : {K L : Type 0} (judges : Judge) (server : List ℕ) (remaining : Option (List ℕ)) (w : WorldView K L)
    → IfSome remaining (λ read. (output : List ℕ) × AreRunSoFar (offer_by judges) server nothing_yet (lines_of read) output w)
    → IfSome remaining (λ read. IsServerAfter judges server read w)
server_after judges server None w done = tt
server_after judges server (Some read) w done = (done.0, done.1.exchanges, done.1.run, done.1.after)
