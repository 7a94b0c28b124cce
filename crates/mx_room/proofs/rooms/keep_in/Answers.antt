use Rattle.std.proofs.Common.{◌≡◌, Some, sym, ap, ◌∙◌}
use Rattle.mx_receipt.specs.Receipt.{rows_of, verdict, judged, offer_error}
use Rattle.mx_room.specs.Offer.{as_kept, allowed_outcome, row_by}
use Rattle.mx_room.specs.declared.outcomes.Outcome.TheVariants as outcome
use Rattle.mx_room.proofs.RoomLemmas.{kept-outcome, kept-error}
use Rattle.mx_room.proofs.rooms.keep_in.Goals as goal

pub prepare_checked-requires : goal.prepare_checked-requires
prepare_checked-requires c =
    let kept = c.args.timeline.now.kept in
    let o = c.args.offered.now in
    let event : c.in_ok-event.event ≡ as_kept o = c.in_ok-event.ensures in
    let id : c.in_ok-id.id ≡ o.id = c.in_ok-id.ensures.cases in
    (λ i. offer_error (rows_of kept) (id i) (event i)) ∙ kept-error kept o c.requires.new c.requires.free

pub returns-clause-outcome : goal.returns-clause-outcome
returns-clause-outcome c =
    let kept = c.args.timeline.now.kept in
    let o = c.args.offered.now in
    let event : c.in_ok-event.event ≡ as_kept o = c.in_ok-event.ensures in
    ap outcome.Kept (c.in_ok-verdict.ensures.verdict ∙ ap (verdict kept) event) ∙ sym (kept-outcome kept o c.requires.new c.requires.free)

pub returns-clause-prepared : goal.returns-clause-prepared
returns-clause-prepared c =
    let kept = c.args.timeline.now.kept in
    let o = c.args.offered.now in
    let event : c.in_ok-event.event ≡ as_kept o = c.in_ok-event.ensures in
    let id : c.in_ok-id.id ≡ o.id = c.in_ok-id.ensures.cases in
    let is : allowed_outcome kept o ≡ outcome.Kept (verdict kept (as_kept o)) = kept-outcome kept o c.requires.new c.requires.free in
    c.in_ok-verdict.ensures.prepared ∙ (λ i. record { kept = kept; prepared = Some (judged kept (id i) (event i)) }) ∙ λ i. record { kept = kept; prepared = row_by o (sym is i) }
