use Rattle.std.proofs.Common.{◌<◌, ◌++◌, length, get_or, sym, ap, subst, rules}
use Rattle.mx_engine.specs.Jobs.{IsReady, IsRun}
use Rattle.mx_engine.proofs.RowLemmas.{replaced-both, all-first, all-second}
use Rattle.mx_engine.proofs.offering.Offering.run_jobs.Goals as goal

pub run_in_threads-requires-after_bounds : goal.run_in_threads-requires-after_bounds
run_in_threads-requires-after_bounds g c κs within =
    let cut = c.split_at_mut-first in
    all-first (IsReady c.args.self.now.turns.docks.now c.args.self.now.turns.caller c.args.events.now) c.args.jobs.now cut.result.0.now
    cut.result.1.now cut.ensures.value c.requires.ready

pub run_in_turn-requires : goal.run_in_turn-requires
run_in_turn-requires g c =
    let cut = c.split_at_mut-first in
    all-second (IsReady c.args.self.now.turns.docks.now c.args.self.now.turns.caller c.args.events.now) c.args.jobs.now cut.result.0.now
    cut.result.1.now cut.ensures.value c.requires.ready

pub returns : goal.returns
returns g c =
    let cut = c.split_at_mut-first in
    record {
      count = search rules;
      each = λ n d l.
          subst (λ (xs : _). IsRun c.args.self.now.turns.docks.now c.args.self.now.turns.caller c.args.self.now.origin.now
          c.args.events.now (get_or xs n d) (get_or (c.run_in_threads.new.jobs ++ c.run_in_turn.new.jobs) n d))
          (sym cut.ensures.value)
          (replaced-both (IsRun c.args.self.now.turns.docks.now c.args.self.now.turns.caller c.args.self.now.origin.now
          c.args.events.now) cut.result.0.now c.run_in_threads.new.jobs cut.result.1.now c.run_in_turn.new.jobs
          c.run_in_threads.ensures.count c.run_in_threads.ensures.each c.run_in_turn.ensures.each
          n d (subst (λ m. n < m) (ap length cut.ensures.value) l));
    }
