use Rattle.std.proofs.Common.{ℕ, [], ◌∷◌, ◌++◌, ap, ◌∙◌, subst}
use Rattle.mx_world.proofs.RefusalLemmas.{on_err}
use Rattle.mx_world.specs.declared.steps.StepReply.{StepReply}
use Rattle.mx_log.specs.LineRuns.{AreTurned, IsTaken}
use Rattle.mx_step_replies.specs.Steps.{step_shown}
use Rattle.mx_log.proofs.CallStepLemmas.{closed_taken, opening_taken, other_taken}
use Rattle.mx_log.proofs.GivenUpLemmas.{given_up, stayed}
use Rattle.mx_log.proofs.steps.sequences.last_reply.Goals as goal

pub returns-in_err-reply-clause-given_up : goal.returns-in_err-reply-clause-given_up
returns-in_err-reply-clause-given_up g c =
    on_err c.from_residual.result (stayed c.args.first.now c.args.desk.now.rooms.world c.take.new.self.rooms.world c.in_err-reply.ensures.err)

pub returns-in_err-last-in-Opened-clause-given_up : goal.returns-in_err-last-in-Opened-clause-given_up
returns-in_err-last-in-Opened-clause-given_up g c =
    on_err c.from_residual-in_err-last-in-Opened.result
    (given_up c.args.first.now c.in-Open.key c.in-Open.events c.args.desk.now.rooms.world c.finished.new.desk.rooms.world c.in-Open.is c.in_err-last-in-Opened.ensures.given_up)

pub returns-in_ok-last-in-Opened-clause-ok : goal.returns-in_ok-last-in-Opened-clause-ok
returns-in_ok-last-in-Opened-clause-ok g c = λ start earlier now.
    let taken = c.in_ok-reply.ensures.ok start earlier now in
    let P : StepReply → Type 0 = λ r. IsTaken start earlier c.args.first.now r c.take.new.self.rooms.world in
    let Q : ℕ → Type 0 = λ n.
    AreTurned c.in-Open.key n c.in_ok-last-in-Opened.last start (earlier ++ c.args.first.now ∷ []) c.finished.new.desk.rooms.world in
    opening_taken c.args.first.now c.in-Opened.field-0 c.in-Open.key c.in-Open.events.items c.in_ok-last-in-Opened.last
    start earlier c.take.new.self.rooms.world c.finished.new.desk.rooms.world
    (ap step_shown c.in-Open.is) (subst P c.in-Opened.is taken)
    (subst Q (c.len.ensures ∙ c.in-Open.events.ok.0) (c.in_ok-last-in-Opened.ensures.ok start (earlier ++ c.args.first.now ∷ []) taken.after))

pub returns-in_default-reply : goal.returns-in_default-reply
returns-in_default-reply g c = record {
  ok = λ start earlier now.
      closed_taken c.args.first.now c.in_ok-reply.reply start earlier c.take.new.self.rooms.world c.in_default-reply.not-Opened (c.in_ok-reply.ensures.ok start earlier now);
  given_up = tt;
}

pub returns-in_default : goal.returns-in_default
returns-in_default g c = record {
  ok = λ start earlier now.
      other_taken c.args.first.now c.in_ok-reply.reply start earlier c.take.new.self.rooms.world c.in_default.not-Open (c.in_ok-reply.ensures.ok start earlier now);
  given_up = tt;
}
