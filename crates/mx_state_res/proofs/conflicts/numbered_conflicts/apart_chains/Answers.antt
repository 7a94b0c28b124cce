use Rattle.std.proofs.Common.{◌<◌, ◌∙◌, Vec, ℕ, length, map, ap}
use Rattle.std.specs.declared.alloc.Global.{Global}
use Rattle.mx_graph.specs.Record.{is_in}
use Rattle.mx_graph.specs.StateMap.{events_of}
use Rattle.mx_states.specs.Numbered.{state_at, without}
use Rattle.mx_state_res.specs.ChainDifference.{chain_difference}
use Rattle.mx_state_res.proofs.NumberedLemmas.{known-at}
use Rattle.mx_state_res.proofs.NumberedConflictLemmas.{apart-known, shared-known, known-one}
use Rattle.mx_state_res.proofs.SameMembersLemmas.{all-within}
use Rattle.mx_state_res.proofs.SameChainLemmas.{difference-same}
use Rattle.mx_state_res.proofs.conflicts.numbered_conflicts.apart_chains.Goals as goal

pub chain_difference-requires-clause-shared : goal.chain_difference-requires-clause-shared
chain_difference-requires-clause-shared c =
    let rows = c.args.graph.now in
    let shared = events_of (without c.args.keys.now (state_at c.args.states.now c.args.base)) in
    all-within (λ p. p < length rows) c.deref.result.now shared (λ p. ap (λ xs. is_in xs p) c.deref.ensures.value ∙ c.in_ok-shared.ensures p)
    (shared-known rows c.args.keys.now (state_at c.args.states.now c.args.base) (known-one rows c.args.states.now c.args.base c.requires.known c.requires.base))

pub chain_difference-requires-clause-apart : goal.chain_difference-requires-clause-apart
chain_difference-requires-clause-apart c =
    apart-known c.args.graph.now (state_at c.args.states.now) c.args.keys.now c.args.numbers.now (known-at _ _ _ c.requires.known c.requires.numbers) c.deref-2.result.now
    (ap (map (λ (v : Vec ℕ Global). v.items)) c.deref-2.ensures.value ∙ c.in_ok-apart.ensures)

pub returns : goal.returns
returns c =
    let rows = c.args.graph.now in
    let shared = events_of (without c.args.keys.now (state_at c.args.states.now c.args.base)) in
    c.in_ok-found.ensures
    ∙ difference-same rows c.graph_is_sound.ensures c.deref.result.now shared
    (λ p. ap (λ xs. is_in xs p) c.deref.ensures.value ∙ c.in_ok-shared.ensures p)
    (map (λ (others : Vec ℕ Global). others.items) c.deref-2.result.now)
    ∙ ap (chain_difference rows shared) (ap (map (λ (v : Vec ℕ Global). v.items)) c.deref-2.ensures.value ∙ c.in_ok-apart.ensures)
