-- What is done for a line.
use Rattle.std.proofs.Common.{◌≡◌, ℕ, List, [], ◌∷◌, None, refl, sym, ◌∙◌, ap}
use Rattle.std.specs.Prelude.{Ok, Err}
use Rattle.mx_redact.specs.Fields.{Event}
use Rattle.mx_world.specs.Calls.{Start}
use Rattle.mx_world.specs.View.{WorldView}
use Rattle.mx_world.specs.Worlds.{IsAfter}
use Rattle.mx_world.specs.declared.steps.Step.{Step}
use Rattle.mx_world.specs.declared.steps.StepReply.{StepReply}
use Rattle.mx_requests.specs.Calls.{Call, Request, call_under}
use Rattle.mx_log.specs.LineOutputs.{response_output, step_output}
use Rattle.mx_log.specs.LineRuns.{IsCalled, IsDone, IsTaken}
use Rattle.mx_log.specs.Lines.{Line, step_line, call_line}
use Rattle.mx_step_replies.specs.Steps.{step_shown}
use Rattle.mx_log.specs.LineSteps.{call_reply, call_steps, first_of, line_output, line_steps}
use Rattle.mx_pdu.specs.declared.offering.Offered.{Offered}
use Rattle.mx_requests.specs.ReplyBodies.{Response, failure}
use Rattle.mx_requests.specs.declared.faults.Fault.{Fault}
use Rattle.mx_log.proofs.CallStepLemmas.{none_done, one_done}

-- a line with no steps
pub nothing_done : {K L : Type 0} (offer : Event → Offered) (server : List ℕ) (line : Line) (output : List ℕ) (s : Start) (earlier : List Step) (w : WorldView K L)
    → [] ≡ line_steps offer server line None → output ≡ line_output offer server line [] → IsAfter s earlier w → IsDone offer server line output s earlier w
nothing_done offer server line output s earlier w none is now = record {
  steps = [];
  replies = [];
  shown = none;
  done = none_done s earlier w now;
  is_output = is;
}

-- a line of one step
pub step_done : {K L : Type 0} (offer : Event → Offered) (server : List ℕ) (x : Step) (r : StepReply) (s : Start) (earlier : List Step) (w : WorldView K L)
    → IsTaken s earlier x r w → IsDone offer server (step_line (step_shown x)) (step_output r) s earlier w
step_done offer server x r s earlier w taken = record {
  steps = x ∷ [];
  replies = r ∷ [];
  shown = refl;
  done = one_done s earlier x r w taken;
  is_output = refl;
}

-- a request with a fault
pub fault_done : {K L : Type 0} (offer : Event → Offered) (server : List ℕ) (now : ℕ) (r : Request) (f : Fault) (response : Response) (s : Start) (earlier : List Step)
    (w : WorldView K L) → call_under offer server r ≡ Err f → response ≡ failure f → IsAfter s earlier w
    → IsDone offer server (call_line now r) (response_output response) s earlier w
fault_done offer server now r f response s earlier w e is after =
    nothing_done offer server (call_line now r) (response_output response) s earlier w (ap (λ c. call_steps now c None) (sym e))
    (ap response_output (is ∙ ap (λ c. call_reply server now c []) (sym e))) after

-- a request that makes a call
pub called_done : {K L : Type 0} (offer : Event → Offered) (server : List ℕ) (now : ℕ) (r : Request) (call : Call) (response : Response) (s : Start)
    (earlier : List Step) (w : WorldView K L) → call_under offer server r ≡ Ok call → IsCalled server now call response s earlier w
    → IsDone offer server (call_line now r) (response_output response) s earlier w
called_done offer server now r call response s earlier w e called = record {
  steps = called.steps;
  replies = called.replies;
  shown = called.shown ∙ ap (λ c. call_steps now c (first_of called.replies)) (sym e);
  done = called.done;
  is_output = ap response_output (called.is_response ∙ ap (λ c. call_reply server now c called.replies) (sym e));
}
