-- For proofs and private clauses alone.
-- What is done for a line, and for the lines so far.
use Rattle.std.specs.Prelude.{ℕ, zero, suc, ◌≡◌, ◌⊎◌, Bool, true, false, List, [], ◌∷◌, ◌++◌, flat_map, length, map, Option}
use Rattle.std.specs.Io.KnownBytes.{Appends}
use Rattle.mx_redact.specs.Fields.{Event}
use Rattle.mx_book.specs.declared.transaction_keys.TransactionKey.{TransactionKey}
use Rattle.mx_world.specs.Calls.{Start, record_after}
use Rattle.mx_world.specs.Replies.{AreReplies, IsReply, Status, unopened, waiting, ended, status_after}
use Rattle.mx_world.specs.View.{WorldView}
use Rattle.mx_world.specs.Worlds.{IsAfter, status_in}
use Rattle.mx_world.specs.declared.steps.Step.{Step}
use Rattle.mx_world.specs.declared.steps.Step.TheVariants.{Open}
use Rattle.mx_world.specs.declared.steps.StepReply.{StepReply}
use Rattle.mx_requests.specs.Calls.{Call}
use Rattle.mx_log.specs.LineOutputs.{has_refusal}
use Rattle.mx_step_replies.specs.Steps.{StepView, next_step, close_step, first_step, reply_to, step_shown}
use Rattle.mx_log.specs.Lines.{Line, read_line}
use Rattle.mx_pdu.specs.declared.offering.Offered.{Offered}
use Rattle.mx_log.specs.LineSteps.{AreRun, Exchange, first_of, last_of, line_output, line_steps, steps_from}
use Rattle.mx_log.specs.LinesShown.{refusal_output}
use Rattle.mx_log.specs.StrictLogs.{is_bad}
use Rattle.mx_requests.specs.ReplyBodies.{Response}
use Rattle.mx_log.specs.declared.answers.LineRefusal.{LineRefusal}

-- a step was taken after others, with its reply, and this is what is kept
pub record IsTaken {K L : Type 0} (start : Start) (earlier : List Step) (step : Step) (reply : StepReply) (w : WorldView K L) : Type 0 where
  pub is_reply : IsReply (record_after start earlier) (status_after start earlier) step reply
  pub after : IsAfter start (earlier ++ step ∷ []) w

-- after these steps a server has taken more, has answered each, and this is what it keeps
pub record AreDone {K L : Type 0} (earlier steps : List Step) (replies : List StepReply) (start : Start) (w : WorldView K L) : Type 0 where
  pub count : length replies ≡ length steps
  pub replied : AreReplies start earlier steps replies
  pub after : IsAfter start (earlier ++ steps) w

-- so many turns of a transaction's events
abbrev pub nexts : TransactionKey → ℕ → List StepView
nexts key zero = []
nexts key (suc n) = next_step key ∷ nexts key n

-- so for some turns
pub record AreTaken {K L : Type 0} (key : TransactionKey) (count : ℕ) (start : Start) (earlier : List Step) (w : WorldView K L) : Type 0 where
  pub steps : List Step
  pub replies : List StepReply
  pub shown : map step_shown steps ≡ nexts key count
  pub done : AreDone earlier steps replies start w

-- so for the turns of so many events and the close, of which this is the reply
pub record AreTurned {K L : Type 0} (key : TransactionKey) (count : ℕ) (last : StepReply) (start : Start) (earlier : List Step) (w : WorldView K L) : Type 0 where
  pub steps : List Step
  pub replies : List StepReply
  pub shown : map step_shown steps ≡ nexts key count ++ close_step key ∷ []
  pub done : AreDone earlier steps replies start w
  pub is_last : last ≡ last_of replies

-- so for the steps that begin with one that is seen as this, with the last reply
pub record AreTakenFrom {K L : Type 0} (first : StepView) (last : StepReply) (start : Start) (earlier : List Step) (w : WorldView K L) : Type 0 where
  pub steps : List Step
  pub replies : List StepReply
  pub shown : map step_shown steps ≡ steps_from first (first_of replies)
  pub done : AreDone earlier steps replies start w
  pub is_last : last ≡ last_of replies

-- so for a call at a moment, with this response
pub record IsCalled {K L : Type 0} (server : List ℕ) (now : ℕ) (call : Call) (response : Response) (start : Start) (earlier : List Step) (w : WorldView K L) : Type 0 where
  pub steps : List Step
  pub replies : List StepReply
  pub shown : map step_shown steps ≡ steps_from (first_step now call) (first_of replies)
  pub done : AreDone earlier steps replies start w
  pub is_response : response ≡ reply_to server (first_step now call) (last_of replies)

-- so for a line, with this output
pub record IsDone {K L : Type 0} (offer : Event → Offered) (server : List ℕ) (line : Line) (output : List ℕ)
    (start : Start) (earlier : List Step) (w : WorldView K L) : Type 0 where
  pub steps : List Step
  pub replies : List StepReply
  pub shown : map step_shown steps ≡ line_steps offer server line (first_of replies)
  pub done : AreDone earlier steps replies start w
  pub is_output : output ≡ line_output offer server line replies

-- a transaction is open
abbrev pub is_waiting : Status → Bool
is_waiting unopened = false
is_waiting (waiting rest told) = true
is_waiting (ended body) = false

-- a transaction that a step opens is open only where it was before
abbrev pub IsGivenUp : {K L : Type 0} → Step → (old new : WorldView K L) → Type 0
IsGivenUp (Open key events) old new = is_waiting (status_in new key) ≡ true → is_waiting (status_in old key) ≡ true
IsGivenUp _ old new = Unit {0}

-- ---- lines as they are written

-- empty, or its last byte is a newline
abbrev pub IsEnded : List ℕ → Type 0
IsEnded written = (written ≡ []) ⊎ ((front : List ℕ) × (written ≡ front ++ 10 ∷ []))

-- a line is answered, and the answer with its newline appended; or so is a refusal; and whether the line is bad is told where it is answered
pub data IsTold {K L : Type 0} (offer : Event → Offered) (server text : List ℕ) (old new : WorldView K L)
    (before after : Option (List ℕ)) (told : Bool) : Type 0 where
  answered : (output : List ℕ) → Appends before after (output ++ 10 ∷ [])
      → ((start : Start) (earlier : List Step) → IsAfter start earlier old → IsDone offer server (read_line offer text) output start earlier new)
      → told ≡ is_bad (read_line offer text)
      → IsTold offer server text old new before after told
  not_answered : (refusal : LineRefusal) → Appends before after (refusal_output refusal ++ 10 ∷ []) → IsTold offer server text old new before after told

-- lines that were all answered, from a start
pub record AreRunSoFar {K L : Type 0} (offer : Event → Offered) (server : List ℕ) (start : Start) (lines : List (List ℕ)) (output : List ℕ) (w : WorldView K L) : Type 0 where
  pub exchanges : List Exchange
  pub run : AreRun start offer server lines output exchanges
  pub after : IsAfter start (flat_map (λ x. x.steps) exchanges) w

-- what was written so far: it ends with a newline, and where none of it is a refusal all lines were answered
pub record AreAnswered {K L : Type 0} (offer : Event → Offered) (server : List ℕ) (start : Start) (lines : List (List ℕ))
    (before after : Option (List ℕ)) (w : WorldView K L) : Type 0 where
  pub written : List ℕ
  pub appends : Appends before after written
  pub ended : IsEnded written
  pub run : has_refusal written ≡ false → AreRunSoFar offer server start lines written w
