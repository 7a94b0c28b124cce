use Rattle.std.proofs.Common.{◌-◌, arith, subst, sym}
use Rattle.std.specs.List.{All}
use Rattle.mx_graph.proofs.Members.{In}
use Rattle.mx_states.specs.Numbered.{state_at}
use Rattle.mx_states.proofs.KeyLemmas.{Sorted}
use Rattle.mx_state_res.proofs.KeptResolutionLemmas.{in-place}
use Rattle.mx_state_res.proofs.kept_resolutions.added_events.added_event.Goals as goal

pub event_beside-requires-clause-sorted : goal.event_beside-requires-clause-sorted
event_beside-requires-clause-sorted c = subst (All (λ n. Sorted (state_at c.args.states.now n))) c.deref.ensures.value c.all_are_sorted.ensures

pub event_beside-requires-clause-among : goal.event_beside-requires-clause-among
event_beside-requires-clause-among c = subst (λ n. In n c.args.kept.now.numbers.items) (sym c.index.ensures) (in-place c.args.kept.now.numbers.items (c.loop-left.left - 1) c.index.result.now (omega arith))
