-- Lines of the program, and its answers to them, as the definitions'.
use Rattle.std.specs.Prelude.{ℕ, List, codes}
use Rattle.mx_log.specs.declared.lines.call_forms.CallLine.{CallLine}
use Rattle.mx_log.specs.declared.lines.Line as program
use Rattle.mx_log.specs.declared.lines.Line.TheVariants as line
use Rattle.mx_log.specs.declared.answers.LineAnswer.{LineAnswer}
use Rattle.mx_log.specs.declared.answers.LineAnswer.TheVariants as answer
use Rattle.mx_keeper.specs.declared.refusals.CallError.{CallError}
use Rattle.mx_keeper.specs.declared.refusals.CallError.TheVariants as call
use Rattle.mx_log.specs.declared.answers.LineRefusal.{LineRefusal}
use Rattle.mx_log.specs.declared.answers.LineRefusal.TheVariants as refusal
use Rattle.mx_requests.specs.declared.faults.Fault.TheVariants as fault
use Rattle.mx_requests.specs.CallsShown.{request_shown}
use Rattle.mx_log.specs.LineOutputs.{bad_output, error_output, fault_output, refused_output, response_output, step_output}
use Rattle.mx_log.specs.Lines.{Line, bad_line, malformed_host, step_line, call_line}
use Rattle.mx_step_replies.specs.Steps.{step_shown}
use Rattle.mx_requests.specs.RepliesShown.{reply_shown}

abbrev pub call_line_shown : CallLine → Line
call_line_shown call = call_line call.now (request_shown call.request)

abbrev pub line_shown : program.Line → Line
line_shown line.Bad = bad_line
line_shown line.MalformedHost = malformed_host
line_shown (line.Step step) = step_line (step_shown step)
line_shown (line.Call call) = call_line_shown call

-- what is written for an answer
abbrev pub answer_output : LineAnswer → List ℕ
answer_output answer.Bad = bad_output
answer_output answer.MalformedHost = refused_output (codes "malformed")
answer_output (answer.Step reply) = step_output reply
answer_output (answer.Response reply) = response_output (reply_shown reply)

-- what is written in place of an answer
abbrev pub refusal_output : LineRefusal → List ℕ
refusal_output refusal.Step = error_output (codes "memory")
refusal_output refusal.Request = fault_output fault.Memory

-- why a step was refused
abbrev pub call_error_output : CallError → List ℕ
call_error_output call.Memory = error_output (codes "memory")
call_error_output call.Storage = error_output (codes "storage")
