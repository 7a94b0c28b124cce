use Rattle.std.proofs.Common.{◌≡◌, ◌<◌, ◌++◌, length, sym, ap, ap₂, subst, ◌∙◌, flat_map, map, ℕ, Vec, rules}
use Rattle.std.specs.List.{All}
use Rattle.std.specs.declared.alloc.Global.{Global}
use Rattle.mx_state_res.specs.ChainDifference.{chain_difference}
use Rattle.mx_state_res.specs.Resolution.{auth_difference}
use Rattle.mx_state_res.proofs.SetLemmas.{shown}
use Rattle.mx_state_res.proofs.ConflictLemmas.{gathered, full-is, full-known}
use Rattle.mx_state_res.proofs.SharedLemmas.{gathered-joined, difference-agreed, apart-events-known, shared-events-known}
use Rattle.mx_state_res.proofs.conflicts.full_conflicted.Goals as goal

pub chain_difference-requires-clause-shared : goal.chain_difference-requires-clause-shared
chain_difference-requires-clause-shared c =
    subst (All (λ p. p < length c.args.graph.now)) (sym (c.deref.ensures.value ∙ c.in_ok-shared.ensures)) (shared-events-known (length c.args.graph.now) c.args.agreed.now c.args.states.now c.requires.unconflicted c.requires.known)

pub chain_difference-requires-clause-apart : goal.chain_difference-requires-clause-apart
chain_difference-requires-clause-apart c =
    apart-events-known (length c.args.graph.now) c.args.agreed.now c.args.states.now c.requires.known c.deref-2.result.now (ap (map (λ (v : Vec ℕ Global). v.items)) c.deref-2.ensures.value ∙ c.in_ok-apart.ensures)

pub returns-clause-set : goal.returns-clause-set
returns-clause-set c =
    let rows = c.args.graph.now in
    let joined : c.extend_from_slice.new.self.items ≡ c.in_ok-found.found.items ++ c.in_ok-difference.difference.items = search rules in
    let others : c.in_ok-found.found.items ≡ gathered c.args.agreed.now c.args.states.now =
    c.in_ok-found.ensures ∙ ap (flat_map (λ (v : Vec ℕ Global). v.items)) c.deref-3.ensures.value ∙ gathered-joined c.args.agreed.now c.args.states.now c.in_ok-apart.apart.items c.in_ok-apart.ensures in
    let difference : c.in_ok-difference.difference.items ≡ auth_difference rows (shown c.args.states.now) =
    c.in_ok-difference.ensures
    ∙ ap₂ (chain_difference rows) (c.deref.ensures.value ∙ c.in_ok-shared.ensures) (ap (map (λ (v : Vec ℕ Global). v.items)) c.deref-2.ensures.value ∙ c.in_ok-apart.ensures)
    ∙ difference-agreed rows c.graph_is_sound.ensures c.args.agreed.now c.args.states.now c.requires.unconflicted in
    full-is rows c.args.agreed.now c.args.states.now c.deref-5.result.now c.in_ok-events.events.items c.requires.known c.requires.agreed
    (c.deref-5.ensures.value ∙ joined ∙ ap₂ (λ xs ys. xs ++ ys) others difference)
    c.in_ok-events.ensures.rises c.in_ok-events.ensures.same

pub returns-clause-known : goal.returns-clause-known
returns-clause-known c = subst (All (λ p. p < length c.args.graph.now)) (sym (returns-clause-set c)) (full-known c.args.graph.now (shown c.args.states.now))
