use Rattle.std.proofs.Common.{◌<◌, inl, inr, length, sym, ap, subst, ◌∙◌, arith}
use Rattle.std.specs.List.{All}
use Rattle.std.proofs.lemmas.List.{length-map}
use Rattle.mx_graph.specs.Record.{is_in}
use Rattle.mx_graph.proofs.Closure.{all-in, in-all}
use Rattle.mx_receipt.specs.Receipt.{rows_of}
use Rattle.mx_room.proofs.HistoryFoundLemmas.{found-deepest}
use Rattle.mx_room.proofs.queries.history_walks.deep_answers.Goals as goal
use Rattle.mx_room.proofs.queries.history_walks.deep_answers.Goals.{else-depth-sought-via-then-depth-sought+else-len-most, else-depth-sought-via-else-depth-sought}

pub sought_of-requires : goal.sought_of-requires
sought_of-requires c =
    all-in (λ p. p < length c.args.timeline.now.kept) c.deref.result.now
    (λ p e. subst (λ n. p < n) (length-map c.args.timeline.now.kept _) (c.requires.done p (ap (λ l. is_in l p) (sym c.deref.ensures.value) ∙ e)))

pub returns-clause-deepest : goal.returns-clause-deepest
returns-clause-deepest c starts known walk =
    found-deepest (rows_of c.args.timeline.now.kept) c.timeline_depths_hold.ensures.sound c.timeline_depths_hold.ensures.bounds starts known c.args.walk.now c.args.sought.now c.requires walk
    c.in-Some.depth c.in-Some.ensures c.deref.result.now c.in_ok-found.found.items c.in_ok-events.events.items c.deref.ensures.value c.in_ok-found.ensures.events
    c.in_ok-events.ensures.rises (λ p. c.in_ok-events.ensures.same p ∙ ap (λ l. is_in l p) c.deref-2.ensures.value) c.args.most
    (elim c.else-depth-sought.branch [ else-depth-sought-via-then-depth-sought+else-len-most w ↦ inl (omega arith) | else-depth-sought-via-else-depth-sought w ↦ inr (omega arith) ])

pub returns-clause-below : goal.returns-clause-below
returns-clause-below c =
    all-in (λ p. p < length c.args.timeline.now.kept) c.in_ok-events.events.items
    (λ p e. in-all (λ q. q < length c.args.timeline.now.kept) c.deref-2.result.now p
    (subst (All (λ q. q < length c.args.timeline.now.kept)) (sym c.deref-2.ensures.value) c.in_ok-found.ensures.below) (sym (c.in_ok-events.ensures.same p) ∙ e))
