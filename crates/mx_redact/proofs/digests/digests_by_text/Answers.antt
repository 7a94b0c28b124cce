use Rattle.std.proofs.Common.{sym, subst}
use Rattle.std.specs.Prelude.{option_map}
use Rattle.serde_json.specs.View.{members_view}
use Rattle.mx_redact.specs.Places.{ArePlaces}
use Rattle.mx_redact.proofs.PartTextLemmas.{placed-whole}
use Rattle.mx_redact.proofs.digests.digests_by_text.Goals as goal

pub digests_by_places-requires : goal.digests_by_places-requires
digests_by_places-requires c =
    let ms = members_view c.args.event.now.entries in
    let known = option_map (λ members. members_view members.now.entries) c.content_members-known.result in
    let are = subst (λ places. ArePlaces c.args.text.now places ms) (sym c.deref.ensures.value) c.in_ok-places.ensures in
    let event = placed-whole c.args.text.now c.deref.result.now c.kind_in.result.now known ms are c.kind_in.ensures c.content_members-known.ensures in
    (ms, event)

pub returns-clause-content : goal.returns-clause-content
returns-clause-content c =
    let ms = members_view c.args.event.now.entries in
    let known = option_map (λ members. members_view members.now.entries) c.content_members-known.result in
    let are = subst (λ places. ArePlaces c.args.text.now places ms) (sym c.deref.ensures.value) c.in_ok-places.ensures in
    let event = placed-whole c.args.text.now c.deref.result.now c.kind_in.result.now known ms are c.kind_in.ensures c.content_members-known.ensures in
    c.in_ok-digests.ensures.content ms event

pub returns-clause-reference : goal.returns-clause-reference
returns-clause-reference c =
    let ms = members_view c.args.event.now.entries in
    let known = option_map (λ members. members_view members.now.entries) c.content_members-known.result in
    let are = subst (λ places. ArePlaces c.args.text.now places ms) (sym c.deref.ensures.value) c.in_ok-places.ensures in
    let event = placed-whole c.args.text.now c.deref.result.now c.kind_in.result.now known ms are c.kind_in.ensures c.content_members-known.ensures in
    c.in_ok-digests.ensures.reference ms event

pub returns-clause-text : goal.returns-clause-text
returns-clause-text c =
    let ms = members_view c.args.event.now.entries in
    let known = option_map (λ members. members_view members.now.entries) c.content_members-known.result in
    let are = subst (λ places. ArePlaces c.args.text.now places ms) (sym c.deref.ensures.value) c.in_ok-places.ensures in
    let event = placed-whole c.args.text.now c.deref.result.now c.kind_in.result.now known ms are c.kind_in.ensures c.content_members-known.ensures in
    c.in_ok-digests.ensures.text ms event
