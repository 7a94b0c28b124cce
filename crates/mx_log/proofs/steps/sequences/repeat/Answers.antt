use Rattle.std.proofs.Common.{ℕ, ◌++◌, add-one, sym, subst, arith}
use Rattle.mx_world.specs.declared.steps.Step.{Step}
use Rattle.mx_log.specs.LineRuns.{AreTaken, IsTaken}
use Rattle.mx_log.proofs.CallStepLemmas.{none_taken, taken_more}
use Rattle.mx_log.proofs.steps.sequences.repeat.Goals as goal

pub loop-turn-init : goal.loop-turn-init
loop-turn-init g c = (λ key is start earlier now. none_taken key start earlier c.args.desk.now.rooms.world now, omega arith)

pub loop-turn-preserved : goal.loop-turn-preserved
loop-turn-preserved g c = (
  λ key is start earlier now.
      let before = c.loop-turn.invariant.0 key is start earlier now in
      let P : Step → Type 0 = λ x. IsTaken start (earlier ++ before.steps) x c.in_ok-_reply._reply c.take.new.self.rooms.world in
      let taken = subst P is (c.in_ok-_reply.ensures.ok start (earlier ++ before.steps) before.done.after) in
      let Q : ℕ → Type 0 = λ n. AreTaken key n start earlier c.take.new.self.rooms.world in
      subst Q (sym (add-one c.loop-turn._turn))
      (taken_more key c.loop-turn._turn start earlier c.in_ok-_reply._reply c.loop-turn.desk.rooms.world c.take.new.self.rooms.world before taken),
  omega arith,
)
