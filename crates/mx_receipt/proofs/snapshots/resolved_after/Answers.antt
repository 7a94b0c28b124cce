use Rattle.std.proofs.Common.{◌≡◌, ◌<◌, [], ◌∷◌, length, ap, map, subst, ◌∙◌, arith}
use Rattle.std.specs.Prelude.{slice_index_or}
use Rattle.std.specs.List.{All}
use Rattle.mx_states.specs.Numbered.{state_at}
use Rattle.mx_receipt.specs.Receipt.{resolve_in, version_in}
use Rattle.mx_state_res.proofs.SameMembersLemmas.{all-within, resolve-each}
use Rattle.mx_receipt.proofs.HeldLemmas.{after-numbers, numbered}
use Rattle.mx_receipt.proofs.SortedStateLemmas.{number-is, numbers-sorted, one-after, only-one}
use Rattle.mx_receipt.proofs.snapshots.resolved_after.Goals as goal

pub resolve_cached-requires-clause-numbers : goal.resolve_cached-requires-clause-numbers
resolve_cached-requires-clause-numbers c =
    all-within (λ n. n < length c.args.states.now) c.each_once-each.result.items c.in_ok-numbers.numbers.items c.each_once-each.ensures
    (after-numbers c.args.states.now c.args.judgements.now c.args.events.now c.in_ok-numbers.numbers.items c.requires.below c.requires.events c.in_ok-numbers.ensures)

pub returns-clause-resolved : goal.returns-clause-resolved
returns-clause-resolved c =
    c.in_ok-state.ensures.resolved
    ∙ resolve-each (version_in c.args.graph.now) c.args.graph.now (state_at c.args.states.now) c.each_once-each.result.items c.in_ok-numbers.numbers.items c.each_once-each.ensures
    (numbers-sorted c.args.states.now c.args.judgements.now c.args.events.now c.in_ok-numbers.numbers.items c.requires.sorted c.requires.events c.in_ok-numbers.ensures)
    ∙ ap (resolve_in c.args.graph.now) (ap (map (state_at c.args.states.now)) c.in_ok-numbers.ensures ∙ numbered c.args.states.now c.args.judgements.now c.args.events.now c.requires.events)

pub returns-in-len1-clause-resolved : goal.returns-in-len1-clause-resolved
returns-in-len1-clause-resolved c =
    let js = c.args.judgements.now in
    let event = c.event-item.result in
    let is : c.args.events.now ≡ event ∷ [] = only-one c.args.events.now event (omega arith) (omega arith) c.event-item.is in
    let below : event < length js = subst (All (λ p. p < length c.args.judgements.now)) is c.requires.events 0 0 (omega arith) in
    ap (λ k. state_at c.args.states.now (slice_index_or c.args.judgements.now k c.index-judgements-index.result).after) c.index.ensures.index
    ∙ ap (state_at c.args.states.now) (number-is js event c.index-judgements-index.result below)
    ∙ one-after (version_in c.args.graph.now) c.args.graph.now c.args.states.now js c.args.events.now event is c.requires.sorted c.requires.events
