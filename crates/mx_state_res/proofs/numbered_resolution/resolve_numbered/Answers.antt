use Rattle.std.proofs.Common.{◌≡◌, ◌<◌, length, map, ap, ◌∙◌}
use Rattle.std.proofs.lemmas.Result.{IfOk-weaker}
use Rattle.mx_graph.specs.Record.{is_in}
use Rattle.mx_states.specs.Numbered.{state_at}
use Rattle.mx_state_res.specs.Resolution.{resolve}
use Rattle.mx_state_res.proofs.SameMembersLemmas.{all-within, resolve-each}
use Rattle.mx_state_res.proofs.numbered_resolution.resolve_numbered.Goals as goal

pub resolve_each-requires-2-clause-numbers : goal.resolve_each-requires-2-clause-numbers
resolve_each-requires-2-clause-numbers c =
    all-within (λ n. n < length c.args.states.now) c.deref.result.now c.args.numbers.now (λ n. ap (λ xs. is_in xs n) c.deref.ensures.value ∙ c.in_ok-each.ensures n) c.requires.numbers

pub returns-clause-resolved : goal.returns-clause-resolved
returns-clause-resolved c =
    let rows = c.args.graph.now in
    let at = state_at c.args.states.now in
    IfOk-weaker c.resolve_each-2.result (λ number. state_at c.resolve_each-2.new.states number ≡ resolve c.args.version rows (map at c.deref.result.now)) (λ number. state_at c.resolve_each-2.new.states number ≡ resolve c.args.version rows (map at c.args.numbers.now))
    (λ number is.
    is ∙ resolve-each c.args.version rows (state_at c.args.states.now) c.deref.result.now c.args.numbers.now (λ n. ap (λ xs. is_in xs n) c.deref.ensures.value ∙ c.in_ok-each.ensures n) c.all_are_sorted.ensures)
    c.resolve_each-2.ensures.resolved
