use Rattle.std.proofs.Common.{◌≡◌, ◌++◌, sym, ap, ◌∙◌, append-nil, arith}
use Rattle.std.proofs.lemmas.List.{drop_all}
use Rattle.mx_graph.specs.Record.{is_in}
use Rattle.mx_states.specs.Numbered.{events_at, state_at}
use Rattle.mx_state_res.proofs.PartLemmas.{own-at}
use Rattle.mx_state_res.proofs.conflicts.state_parts.own_events.Goals as goal

pub returns : goal.returns
returns c =
    let at = state_at c.args.states.now in
    let items = c.entries-entry-items.result.now in
    let events = c.loop-entry.events.items in
    let all : c.loop-entry.events.items ≡ events_at c.in_ok-differing.differing (at c.args.number) =
    sym (append-nil events) ∙ ap (λ s. events ++ events_at s (at c.args.number)) (sym (drop_all c.loop-entry.entry-index items (omega arith)))
    ∙ c.loop-entry.invariant ∙ ap (λ s. events_at s (at c.args.number)) c.entries-entry-items.ensures.entries in
    λ p.
    ap (λ xs. is_in xs p) all
    ∙ own-at c.in_ok-differing.differing (at c.args.other)
    (at c.args.number) c.entries-entry-items.ensures.sorted c.state_is_sorted.ensures c.state_is_sorted-2.ensures c.in_ok-differing.ensures p
