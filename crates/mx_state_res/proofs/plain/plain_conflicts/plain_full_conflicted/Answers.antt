use Rattle.std.proofs.Common.{◌≡◌, ◌++◌, ap, ap₂, ◌∙◌, flat_map, ℕ, Vec, rules}
use Rattle.std.specs.declared.alloc.Global.{Global}
use Rattle.mx_state_res.proofs.ConflictLemmas.{gathered, full-is}
use Rattle.mx_state_res.proofs.SharedLemmas.{gathered-joined}
use Rattle.mx_state_res.proofs.plain.plain_conflicts.plain_full_conflicted.Goals as goal

pub returns-clause-set : goal.returns-clause-set
returns-clause-set c =
    let joined : c.extend_from_slice.new.self.items ≡ c.in_ok-found.found.items ++ c.in_ok-difference.difference.items = search rules in
    let others : c.in_ok-found.found.items ≡ gathered c.args.agreed.now c.args.states.now =
    c.in_ok-found.ensures ∙ ap (flat_map (λ (v : Vec ℕ Global). v.items)) c.deref.ensures.value ∙ gathered-joined c.args.agreed.now c.args.states.now c.in_ok-apart.apart.items c.in_ok-apart.ensures in
    full-is c.args.graph.now c.args.agreed.now c.args.states.now c.deref-3.result.now c.in_ok-events.events.items c.requires.known c.requires.agreed
    (c.deref-3.ensures.value ∙ joined ∙ ap₂ (λ xs ys. xs ++ ys) others c.in_ok-difference.ensures)
    c.in_ok-events.ensures.rises c.in_ok-events.ensures.same
