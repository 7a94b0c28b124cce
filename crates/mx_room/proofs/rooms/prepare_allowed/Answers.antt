use Rattle.std.proofs.Common.{◌≡◌, None, Some, sym, ◌∙◌}
use Rattle.mx_graph.specs.Record.{place_of}
use Rattle.mx_receipt.specs.Receipt.{rows_of}
use Rattle.mx_room.specs.Offer.{refusal_error, row_by}
use Rattle.mx_room.proofs.RoomLemmas.{kept-told, refused-outcome, at-error, stays}
use Rattle.mx_room.proofs.rooms.prepare_allowed.Goals as goal

pub returns-in-Some-refusal_in-clause-outcome : goal.returns-in-Some-refusal_in-clause-outcome
returns-in-Some-refusal_in-clause-outcome c =
    let o = c.args.offered.now in
    let new : place_of (rows_of c.args.timeline.now.kept) o.id ≡ None = sym c.find.ensures.place ∙ c.in_default.is in
    let told : refusal_error c.args.timeline.now.kept o ≡ Some c.in-Some-refusal_in.refusal = sym c.refusal_in.ensures ∙ c.in-Some-refusal_in.is in
    sym (refused-outcome c.args.timeline.now.kept o new c.in-Some-refusal_in.refusal told)

pub returns-in-Some-refusal_in-clause-prepared : goal.returns-in-Some-refusal_in-clause-prepared
returns-in-Some-refusal_in-clause-prepared c =
    let o = c.args.offered.now in
    let kept = c.args.timeline.now.kept in
    let new : place_of (rows_of kept) o.id ≡ None = sym c.find.ensures.place ∙ c.in_default.is in
    let told : refusal_error kept o ≡ Some c.in-Some-refusal_in.refusal = sym c.refusal_in.ensures ∙ c.in-Some-refusal_in.is in
    stays c.args.timeline.now c.requires ∙ λ i. record { kept = kept; prepared = row_by o (sym (refused-outcome kept o new c.in-Some-refusal_in.refusal told) i) }

pub returns-clause-memory : goal.returns-clause-memory
returns-clause-memory c =
    let o = c.args.offered.now in
    let kept = c.args.timeline.now.kept in
    let new : place_of (rows_of kept) o.id ≡ None = sym c.find.ensures.place ∙ c.in_default.is in
    at-error c.keep_in.result (kept-told kept o new (sym c.refusal_in.ensures ∙ c.in_default-refusal_in.is))
