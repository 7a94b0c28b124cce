use Rattle.mx_requests.specs.CallsShown.{call_shown}
use Rattle.mx_step_replies.specs.Steps.{step_shown}
use Rattle.mx_requests.specs.RepliesShown.{reply_shown}
use Rattle.mx_log.proofs.CallStepLemmas.{taken_called}
use Rattle.mx_log.proofs.steps.answer_call.Goals as goal

pub returns : goal.returns
returns g c = λ start earlier now.
    taken_called c.args.name.now c.args.now (call_shown c.args.call) (step_shown c.first_step_of-first.result) c.in_ok-last.last (reply_shown c.in_ok-reply.reply)
    start earlier c.last_reply.new.desk.rooms.world c.first_step_of-first.ensures (c.in_ok-last.ensures.ok start earlier now) c.in_ok-reply.ensures
