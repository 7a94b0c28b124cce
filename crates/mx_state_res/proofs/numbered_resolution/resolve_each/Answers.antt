use Rattle.std.proofs.Common.{length, map, sym, ap, ◌∙◌, eqb-true}
use Rattle.std.proofs.lemmas.List.{nil_from_length}
use Rattle.mx_states.specs.Numbered.{state_at}
use Rattle.mx_state_res.specs.Resolution.{resolve}
use Rattle.mx_state_res.proofs.NumberedLemmas.{empty-added}
use Rattle.mx_state_res.proofs.ResolvingLemmas.{nothing-at, resolve-none}
use Rattle.mx_state_res.proofs.numbered_resolution.resolve_each.Goals as goal

pub returns-in_default-clause-resolved : goal.returns-in_default-clause-resolved
returns-in_default-clause-resolved c =
    empty-added c.args.states.now c.add_empty.new.self c.in_ok-number.number c.in_ok-number.ensures.added c.in_ok-number.ensures.number
    ∙ sym (resolve-none c.args.version c.args.graph.now) ∙ ap (λ ns. resolve c.args.version c.args.graph.now (map (state_at c.args.states.now) ns)) (sym (nil_from_length c.args.numbers.now c.in_default.ensures.cases))

pub returns-then-is_empty-clause-resolved : goal.returns-then-is_empty-clause-resolved
returns-then-is_empty-clause-resolved c =
    nothing-at (state_at c.args.states.now) c.in_ok-differing.differing c.in-Some.first.now c.in-Some.field-0-1.now c.args.numbers.now c.in-Some.ensures.cases.0
    c.entries.ensures.sorted c.all_are_sorted.ensures c.in_ok-differing.ensures
    c.args.version c.args.graph.now (sym c.entries.ensures.entries ∙ nil_from_length c.entries.result.now (eqb-true (length c.entries.result.now) 0 (sym (c.if-is_empty.ensures))))
