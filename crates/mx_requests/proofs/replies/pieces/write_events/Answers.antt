use Rattle.std.proofs.Common.{◌≡◌, ◌+◌, ◌++◌, ◌∷◌, [], drop, refl, sym, ap, ◌∙◌, arith, subst}
use Rattle.std.proofs.lemmas.List.{drop_more, drop_all}
use Rattle.std.specs.List.{join_with_byte}
use Rattle.mx_canon.specs.Pieces.{comma_if}
use Rattle.mx_canon.specs.Canonical.{canonical_text, value_text, item_texts}
use Rattle.mx_canon.proofs.PieceLemmas.{left, left-step, ended}
use Rattle.mx_requests.specs.ReplyBodies.{event_items}
use Rattle.mx_requests.proofs.replies.pieces.write_events.Goals as goal

pub loop-event-preserved : goal.loop-event-preserved
unfolding canonical_text
loop-event-preserved g c = λ taken had.
    let l = c.loop-event in
    let xs = c.args.events.now in
    let x = c.event-item.result in
    let here : drop l.event-index xs ≡ x ∷ drop (l.event-index + 1) xs = drop_more xs l.event-index x (omega arith) ∙ ap (λ y. y ∷ drop (l.event-index + 1) xs) (sym c.event-item.is) in
    let (out, has, is) = l.invariant taken had in (
      (out ++ comma_if l.later) ++ value_text x,
      c.write_event.ensures _ (c.put_comma.ensures _ has),
      left-step out _ _ (value_text x) l.later _ refl refl ∙ ap (λ ys. out ++ left l.later (item_texts (event_items ys))) (sym here) ∙ is,
    )

pub returns : goal.returns
unfolding canonical_text
returns g c = λ taken had.
    let l = c.loop-event in
    let xs = c.args.events.now in
    let all = join_with_byte 44 (item_texts (event_items xs)) in
    let (out, has, is) = l.invariant (taken ++ 91 ∷ []) (c.put.ensures taken had) in
    let done = subst (λ ys. out ++ left l.later (item_texts (event_items ys)) ≡ (taken ++ 91 ∷ []) ++ all) (drop_all l.event-index xs (omega arith)) is in
    subst (g.S.TextSink.has_taken c.put-2.new.self) (ended out taken all l.later 91 93 done) (c.put-2.ensures out has)
