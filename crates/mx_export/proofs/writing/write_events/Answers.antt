use Rattle.std.proofs.Common.{◌≡◌, ◌++◌, ◌∷◌, true, drop, ◌+◌, map, refl, sym, ap, ◌∙◌}
use Rattle.std.proofs.lemmas.List.{drop_more}
use Rattle.mx_canon.specs.Canonical.{canonical_text}
use Rattle.mx_canon.specs.Pieces.{comma_if}
use Rattle.mx_canon.proofs.PieceLemmas.{left, left-step}
use Rattle.mx_export.proofs.writing.write_events.Goals as goal

pub loop-event-preserved : goal.loop-event-preserved
loop-event-preserved c =
    let l = c.loop-event in
    let xs = c.args.events.now in
    let x = c.event-item.result in
    let here : drop l.event-index xs ≡ x ∷ drop (l.event-index + 1) xs = drop_more xs l.event-index x c.loop-event-test.true ∙ ap (λ y. y ∷ drop (l.event-index + 1) xs) (sym c.event-item.is) in
    left-step l.out.items (l.out.items ++ comma_if l.later) c.write_event.new.out.items (canonical_text x) l.later (map canonical_text (drop (l.event-index + 1) xs)) refl c.in_ok-write_event.ensures
    ∙ ap (λ ys. l.out.items ++ left l.later (map canonical_text ys)) (sym here)
    ∙ l.invariant
