-- The steps of each line, and its output by the replies to them (our own).
use Rattle.std.specs.Prelude.{ℕ, ◌≡◌, List, [], ◌∷◌, ◌++◌, codes, flat_map, length, map, Option, None, Some, Ok, Err}
use Rattle.mx_redact.specs.Fields.{Event}
use Rattle.mx_book.specs.declared.transaction_keys.TransactionKey.{TransactionKey}
use Rattle.mx_world.specs.Calls.{Start}
use Rattle.mx_world.specs.Replies.{AreReplies}
use Rattle.mx_world.specs.View.{WorldView}
use Rattle.mx_world.specs.Worlds.{IsAfter}
use Rattle.mx_world.specs.declared.steps.Step.{Step}
use Rattle.mx_world.specs.declared.steps.StepReply.{StepReply}
use Rattle.mx_world.specs.declared.steps.StepReply.TheVariants.{Opened, NotOpen}
use Rattle.mx_requests.specs.Calls.{Call, call_under}
use Rattle.mx_log.specs.LineOutputs.{bad_output, refused_output, response_output, step_output}
use Rattle.mx_step_replies.specs.Steps.{StepView, open_step, next_step, close_step, step_shown, first_step, reply_to}
use Rattle.mx_log.specs.Lines.{Line, bad_line, malformed_host, step_line, call_line, lines_of, read_line}
use Rattle.mx_pdu.specs.Offers.{Judge, offer_by}
use Rattle.mx_pdu.specs.declared.offering.Offered.{Offered}
use Rattle.mx_requests.specs.ReplyBodies.{Response, failure}
use Rattle.mx_requests.specs.Requests.{Read}

-- ---- the steps of a request

-- each event's turn, and the close
abbrev pub turns : TransactionKey → List Offered → List StepView
turns key [] = close_step key ∷ []
turns key (o ∷ os) = next_step key ∷ turns key os

-- the steps after the first, where it opens a transaction
abbrev pub following : StepView → List StepView
following (open_step key events) = turns key events
following _ = []

abbrev pub once_open : Option StepReply → List StepView → List StepView
once_open (Some (Opened n)) steps = steps
once_open _ steps = []

-- the steps that begin with this one, where it has this reply
abbrev pub steps_from : StepView → Option StepReply → List StepView
steps_from first reply = first ∷ once_open reply (following first)

-- the steps of a request at a moment, where its first one has this reply
abbrev pub call_steps : ℕ → Read Call → Option StepReply → List StepView
call_steps now (Err f) reply = []
call_steps now (Ok call) reply = steps_from (first_step now call) reply

-- ---- the reply to a request

abbrev pub last_of : List StepReply → StepReply
last_of [] = NotOpen
last_of (r ∷ []) = r
last_of (r ∷ q ∷ rs) = last_of (q ∷ rs)

abbrev pub first_of : List StepReply → Option StepReply
first_of [] = None
first_of (r ∷ rs) = Some r

abbrev pub call_reply : List ℕ → ℕ → Read Call → List StepReply → Response
call_reply server now (Err f) replies = failure f
call_reply server now (Ok call) replies = reply_to server (first_step now call) (last_of replies)

-- ---- lines

abbrev pub line_steps : (Event → Offered) → List ℕ → Line → Option StepReply → List StepView
line_steps offer server bad_line reply = []
line_steps offer server malformed_host reply = []
line_steps offer server (step_line step) reply = step ∷ []
line_steps offer server (call_line now r) reply = call_steps now (call_under offer server r) reply

abbrev pub line_output : (Event → Offered) → List ℕ → Line → List StepReply → List ℕ
line_output offer server bad_line replies = bad_output
line_output offer server malformed_host replies = refused_output (codes "malformed")
line_output offer server (step_line step) replies = step_output (last_of replies)
line_output offer server (call_line now r) replies = response_output (call_reply server now (call_under offer server r) replies)

-- a line with its steps and the reply to each
pub record Exchange : Type 0 where
  pub line : Line
  pub steps : List Step
  pub replies : List StepReply

-- the steps are those of the line, each with a reply
pub record IsExchange (offer : Event → Offered) (server : List ℕ) (x : Exchange) : Type 0 where
  pub steps : map step_shown x.steps ≡ line_steps offer server x.line (first_of x.replies)
  pub replies : length x.replies ≡ length x.steps

abbrev pub AreExchanges : (Event → Offered) → List ℕ → List Exchange → Type 0
AreExchanges offer server [] = Unit {0}
AreExchanges offer server (x ∷ xs) = IsExchange offer server x × AreExchanges offer server xs

-- from this start each reply is by the steps before its own
abbrev pub AreReplied : Start → List Exchange → Type 0
AreReplied start xs = AreReplies start [] (flat_map (λ x. x.steps) xs) (flat_map (λ x. x.replies) xs)

-- each line's output, with a newline
abbrev pub outputs : (Event → Offered) → List ℕ → List Exchange → List ℕ
outputs offer server xs = flat_map (λ x. line_output offer server x.line x.replies ++ 10 ∷ []) xs

-- the steps of these lines from a start, with their replies, and what is written for them
pub record AreRun (start : Start) (offer : Event → Offered) (server : List ℕ) (lines : List (List ℕ)) (output : List ℕ) (xs : List Exchange) : Type 0 where
  pub are_lines : map (λ x. x.line) xs ≡ map (read_line offer) lines
  pub steps : AreExchanges offer server xs
  pub replied : AreReplied start xs
  pub is_output : output ≡ outputs offer server xs

-- no room is hosted, and no reply kept
abbrev pub nothing_yet : Start
nothing_yet = record { record_at = λ room. []; kept_at = λ key. None }

-- what a new server under its name writes for an input
abbrev pub IsAnswered : Judge → List ℕ → List ℕ → List ℕ → Type 0
IsAnswered judges server input output =
    (xs : List Exchange) × AreRun nothing_yet (offer_by judges) server (lines_of input) output xs

-- what a new server under its name keeps after an input, all lines of which are answered
abbrev pub IsServerAfter : {K L : Type 0} → Judge → List ℕ → List ℕ → WorldView K L → Type 0
IsServerAfter judges server input w =
    (output : List ℕ) × (xs : List Exchange) × AreRun nothing_yet (offer_by judges) server (lines_of input) output xs
    × IsAfter nothing_yet (flat_map (λ x. x.steps) xs) w
