use Rattle.std.proofs.Common.{ap, sym, ◌∙◌, Err}
use Rattle.std.proofs.lemmas.Bool.{true≢false}
use Rattle.mx_world.specs.Worlds.{status_in}
use Rattle.mx_log.proofs.MemoryWorldLemmas.{none_refused}
use Rattle.mx_log.proofs.memory_worlds.MemoryWorld.step.Goals as goal

pub invariant_of-self : goal.invariant_of-self
invariant_of-self c = record {
  none_refused = none_refused (status_in c.args.self.now.world) c.args.self.now.world c.step.new.self c.args.step.now c.step.ensures.own c.args.self.now.none_refused;
}

pub unreachable-requires : goal.unreachable-requires
unreachable-requires c =
    let arm = c.in-Err-Storage in
    let none = none_refused (status_in c.args.self.now.world) c.args.self.now.world c.step.new.self c.args.step.now c.step.ensures.own c.args.self.now.none_refused in
    true≢false (sym (arm.ensures.refused (ap Err arm.field-0-is)) ∙ none)
