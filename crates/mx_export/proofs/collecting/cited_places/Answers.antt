use Rattle.std.proofs.Common.{◌<◌, ap, ◌∙◌, arith}
use Rattle.std.specs.BTreeMap.{get}
use Rattle.std.specs.Cmp.Lexicographic.{slice_cmp}
use Rattle.std.specs.Ordering.{nat_cmp}
use Rattle.mx_export.specs.Arranging.{is_in}
use Rattle.mx_export.specs.Collecting.{event_at}
use Rattle.mx_export.specs.RoomEvents.{cited_ids}
use Rattle.mx_export.proofs.CollectingLemmas.{named-places}
use Rattle.mx_export.proofs.collecting.cited_places.Goals as goal

pub returns-clause-cited : goal.returns-clause-cited
returns-clause-cited c p q l m =
    let es = c.args.collected.now.events.items in
    let passed : p < c.loop-event.event-index = omega arith in
    ap (λ xs. is_in xs q) (c.loop-event.invariant.so_far p passed) ∙ named-places es (get (slice_cmp nat_cmp) c.args.collected.now.places) c.requires (cited_ids (event_at es p)) q m

pub returns-clause-found : goal.returns-clause-found
returns-clause-found c p l =
    let passed : p < c.loop-event.event-index = omega arith in
    c.loop-event.invariant.so_far p passed
