use Rattle.std.proofs.Common.{◌≡◌, ◌++◌, ◌<◌, ℕ, List, Some, drop, length, sym, ap, subst, ◌∙◌, option_map}
use Rattle.std.specs.Prelude.{Vec}
use Rattle.std.specs.declared.alloc.Global.{Global}
use Rattle.mx_redact.specs.Fields.{Event}
use Rattle.mx_export.specs.Arranging.{cites_place}
use Rattle.mx_export.specs.Collecting.{AreCitedPlaces, event_at}
use Rattle.mx_export.specs.RoomEvents.{cites, in_order, room_events}
use Rattle.mx_export.specs.RoomLogs.{host_text, log_text, origin_of, transactions_text}
use Rattle.mx_export.proofs.logging.log_of_room.Goals as goal

pub in_order-requires-clause-len : goal.in_order-requires-clause-len
in_order-requires-clause-len c = ap length c.deref-2.ensures.value ∙ c.in_ok-cited.ensures.len ∙ sym (ap length c.deref.ensures.value)

pub in_order-requires-clause-cited : goal.in_order-requires-clause-cited
in_order-requires-clause-cited c =
    let listed = c.in_ok-cited.cited.items in
    subst (λ (xs : List (Vec ℕ Global)). (p q : ℕ) → p < length c.deref.result.now → q < length c.deref.result.now → cites_place xs p q ≡ cites (event_at c.deref.result.now p) (event_at c.deref.result.now q))
    (sym c.deref-2.ensures.value)
    (subst (λ (es : List Event). (p q : ℕ) → p < length es → q < length es → cites_place listed p q ≡ cites (event_at es p) (event_at es q)) (sym c.deref.ensures.value) c.in_ok-cited.ensures.cited)

pub missing_events-requires-clause-len : goal.missing_events-requires-clause-len
missing_events-requires-clause-len c = ap length c.deref-4.ensures.value ∙ c.in_ok-cited.ensures.len

pub missing_events-requires-clause-cited : goal.missing_events-requires-clause-cited
missing_events-requires-clause-cited c =
    subst (λ (xs : List (Vec ℕ Global)). AreCitedPlaces c.in_ok-collected.collected xs) (sym c.deref-4.ensures.value) c.in_ok-cited.ensures.found

pub returns-clause-text : goal.returns-clause-text
unfolding log_text
returns-clause-text c =
    let create = c.in-Some.create.now in
    let room = c.args.room.now in
    let es = c.args.events.now in
    let ordered : c.deref-3.result.now ≡ in_order (room_events room create es) =
    c.deref-3.ensures.value ∙ c.in_ok-ordered.ensures ∙ ap in_order (c.deref.ensures.value ∙ c.in_ok-collected.ensures.events) in
    ap Some (c.in_ok-text.ensures ∙ ap (λ ys. host_text create ++ transactions_text (origin_of (option_map (λ name. name.now) c.args.origin) create) room (drop 1 ys)) ordered)
    ∙ ap (option_map (λ first. log_text (origin_of (option_map (λ name. name.now) c.args.origin) first) room first es)) c.in-Some.ensures
