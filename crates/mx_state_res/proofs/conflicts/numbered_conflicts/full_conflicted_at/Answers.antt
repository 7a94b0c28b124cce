use Rattle.std.proofs.Common.{◌≡◌, ◌<◌, ◌++◌, ℕ, Vec, length, map, sym, ap, subst, subst₂, ◌∙◌, rules}
use Rattle.std.specs.List.{All}
use Rattle.std.specs.declared.alloc.Global.{Global}
use Rattle.mx_graph.specs.Record.{is_in}
use Rattle.mx_states.specs.Numbered.{state_at}
use Rattle.mx_state_res.specs.ChainDifference.{CiteWithin}
use Rattle.mx_state_res.proofs.ConflictLemmas.{full-known}
use Rattle.mx_state_res.proofs.NumberedLemmas.{known-at}
use Rattle.mx_state_res.proofs.PartLemmas.{found-known, full-joined, full-told, parts-joined}
use Rattle.mx_state_res.proofs.SameMembersLemmas.{all-within}
use Rattle.mx_state_res.proofs.conflicts.numbered_conflicts.full_conflicted_at.Goals as goal

pub cite_within-requires-clause-known : goal.cite_within-requires-clause-known
cite_within-requires-clause-known c =
    let rows = c.args.graph.now in
    let at = state_at c.args.states.now in
    let keys = c.args.differing.now in
    let qs = map (λ (v : Vec ℕ Global). v.items) c.in_ok-parts.parts.items in
    all-within (λ p. p < length rows) c.deref-4.result.now c.in_ok-found.found.items
    (λ p. ap (λ xs. is_in xs p) c.deref-4.ensures.value ∙ c.in_ok-events.ensures.same p ∙ ap (λ xs. is_in xs p) c.deref-2.ensures.value)
    (found-known rows c.graph_is_sound.ensures at keys c.entries.ensures.sorted c.args.base c.requires.base.0
    c.args.numbers.now c.requires.base.1 c.all_are_sorted.ensures c.requires.differing
    (known-at _ _ _ c.requires.known c.requires.numbers) qs c.in_ok-parts.ensures.own c.in_ok-parts.ensures.all
    c.in_ok-found.found.items (parts-joined c.in_ok-parts.parts.items c.deref.result.now c.in_ok-found.found.items
    c.in_ok-found.ensures c.deref.ensures.value))

pub returns-then-is_told-clause-set : goal.returns-then-is_told-clause-set
returns-then-is_told-clause-set c =
    let rows = c.args.graph.now in
    let at = state_at c.args.states.now in
    let keys = c.args.differing.now in
    let qs = map (λ (v : Vec ℕ Global). v.items) c.in_ok-parts.parts.items in
    full-told rows c.graph_is_sound.ensures at keys c.entries.ensures.sorted c.args.base c.requires.base.0
    c.args.numbers.now c.requires.base.1 c.all_are_sorted.ensures c.requires.differing
    (known-at _ _ _ c.requires.known c.requires.numbers) qs c.in_ok-parts.ensures.own c.in_ok-parts.ensures.all
    c.in_ok-found.found.items (parts-joined c.in_ok-parts.parts.items c.deref.result.now c.in_ok-found.found.items
    c.in_ok-found.ensures c.deref.ensures.value)
    c.in_ok-events.events.items c.in_ok-events.ensures.rises (λ p. c.in_ok-events.ensures.same p ∙ ap (λ xs. is_in xs p) c.deref-2.ensures.value)
    (subst₂ (λ vs events. CiteWithin rows
    (map (λ (v : Vec ℕ Global). v.items) vs) events) c.deref-3.ensures.value c.deref-4.ensures.value
    (c.in_ok-is_told.ensures c.if-is_told.true))

pub returns-then-is_told-clause-known : goal.returns-then-is_told-clause-known
returns-then-is_told-clause-known c =
    subst (All (λ p. p < length c.args.graph.now)) (sym (returns-then-is_told-clause-set c)) (full-known c.args.graph.now (map (state_at c.args.states.now) c.args.numbers.now))

pub returns-clause-set : goal.returns-clause-set
returns-clause-set c =
    let rows = c.args.graph.now in
    let at = state_at c.args.states.now in
    let keys = c.args.differing.now in
    let qs = map (λ (v : Vec ℕ Global). v.items) c.in_ok-parts.parts.items in
    let longer : c.extend_from_slice.new.self.items ≡ c.in_ok-found.found.items ++ c.in_ok-difference.difference.items = search rules in
    full-joined rows c.graph_is_sound.ensures at keys c.entries.ensures.sorted c.args.base c.requires.base.0
    c.args.numbers.now c.requires.base.1 c.all_are_sorted.ensures c.requires.differing
    (known-at _ _ _ c.requires.known c.requires.numbers) qs c.in_ok-parts.ensures.own c.in_ok-parts.ensures.all
    c.in_ok-found.found.items (parts-joined c.in_ok-parts.parts.items c.deref.result.now c.in_ok-found.found.items
    c.in_ok-found.ensures c.deref.ensures.value)
    c.in_ok-difference.difference.items c.in_ok-full.full.items c.in_ok-difference.ensures c.in_ok-full.ensures.rises
    (λ p. c.in_ok-full.ensures.same p ∙ ap (λ xs. is_in xs p) (c.deref-6.ensures.value ∙ longer))

pub returns-clause-known : goal.returns-clause-known
returns-clause-known c = subst (All (λ p. p < length c.args.graph.now)) (sym (returns-clause-set c)) (full-known c.args.graph.now (map (state_at c.args.states.now) c.args.numbers.now))
