use Rattle.std.proofs.Common.{◌≤◌, ◌<◌, sym, ap, ◌∙◌, length, filter, map, arith}
use Rattle.std.specs.Prelude.{option_map, Some}
use Rattle.std.proofs.lemmas.Bool.{le-leb}
use Rattle.serde_json.specs.View.{view}
use Rattle.serde_json.proofs.Views.{view-Array}
use Rattle.mx_pdu.specs.Format.{is_well_formed}
use Rattle.mx_pdu.specs.Offers.{offer_by}
use Rattle.mx_requests.specs.Requests.{entries_up_to}
use Rattle.mx_requests.proofs.EntryLemmas.{short, long, not_below}
use Rattle.mx_requests.proofs.bodies.transactions.events_in.Goals as goal

pub returns-then-len-gt-MOST_EVENTS : goal.returns-then-len-gt-MOST_EVENTS
returns-then-len-gt-MOST_EVENTS g c =
    let counted = c.len.ensures ∙ c.in-Array.entries.ok.0 in
    let many = c.if-len-gt-MOST_EVENTS.true in
    let over : 50 < length c.in-Array.entries.items = omega (arith, counted, many) in
    let entries = ap (λ v. entries_up_to 50 (view v)) c.in-Array.is ∙ ap (λ d. entries_up_to 50 d) (view-Array c.in-Array.entries) ∙ long 50 c.in-Array.entries.items (not_below _ _ over) in
    sym (ap (λ ds. option_map (map (offer_by (g.V.Verifier.judges c.args.verifier.now))) (option_map (filter is_well_formed) ds)) entries)

pub returns : goal.returns
returns g c =
    let counted = c.len.ensures ∙ c.in-Array.entries.ok.0 in
    let few = c.if-len-gt-MOST_EVENTS.false in
    let within : length c.in-Array.entries.items ≤ 50 = omega (arith, counted, few) in
    let entries = ap (λ v. entries_up_to 50 (view v)) c.in-Array.is ∙ ap (λ d. entries_up_to 50 d) (view-Array c.in-Array.entries) ∙ short 50 c.in-Array.entries.items (le-leb _ _ within) in
    ap Some c.in_ok-events.ensures
    ∙ sym (ap (λ ds. option_map (map (offer_by (g.V.Verifier.judges c.args.verifier.now))) (option_map (filter is_well_formed) ds)) entries)
