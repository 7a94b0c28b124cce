use Rattle.std.proofs.Common.{◌≡◌, ◌+◌, ◌++◌, ◌||◌, ◌∷◌, Bool, true, false, not, drop, filter, refl, sym, ap, ◌∙◌, arith, rules}
use Rattle.std.proofs.lemmas.List.{drop_all, drop_more}
use Rattle.mx_graph.specs.Record.{is_in}
use Rattle.mx_state_res.specs.ChainDifference.{cites}
use Rattle.mx_state_res.proofs.NextCitedLemmas.{found-next, is_found, next-had}
use Rattle.mx_state_res.proofs.conflicts.cited_events.all_cited.Goals as goal

pub loop-event-init : goal.loop-event-init
loop-event-init c = record {
  all = λ p. ap (λ xs. is_found (cites c.args.graph.now) xs c.args.events.now p) c.new-cited.ensures.items;
  had = λ p e. absurd (cc e);
}

pub loop-event-preserved : goal.loop-event-preserved
loop-event-preserved c =
    let i = c.loop-event.event-index in
    let event = c.event-item.result in
    let more : c.push_others.new.found.items ≡ c.loop-event.cited.items ++ filter (λ p. not (is_in c.loop-event.last.now p)) c.auth_events-next.result.now = search rules in
    let left : drop c.loop-event.event-index c.args.events.now ≡ c.event-item.result ∷ drop (c.loop-event.event-index + 1) c.args.events.now =
    drop_more c.args.events.now i event (omega arith) ∙ ap (λ y. y ∷ drop (c.loop-event.event-index + 1) c.args.events.now) (sym c.event-item.is) in
    record {
      all = λ p. found-next c.loop-event.cited.items c.loop-event.last.now c.auth_events-next.result.now
          c.loop-event.invariant.had (cites c.args.graph.now) event _ _ _ more c.auth_events-next.ensures.cited left p
          ∙ c.loop-event.invariant.all p;
      had = next-had c.loop-event.cited.items c.loop-event.last.now c.auth_events-next.result.now c.loop-event.invariant.had _ more;
    }

pub returns : goal.returns
returns c =
    λ p.
    sym (nothing (is_in c.loop-event.cited.items p))
    ∙ ap (λ xs. is_found (cites c.args.graph.now) c.loop-event.cited.items xs p)
    (sym (drop_all c.loop-event.event-index c.args.events.now (omega arith))) ∙ c.loop-event.invariant.all p
  where
    nothing : (b : Bool) → (b || false) ≡ b
    nothing true = refl
    nothing false = refl
