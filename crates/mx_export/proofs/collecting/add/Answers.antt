use Rattle.std.proofs.Common.{◌≡◌, ◌++◌, ◌∷◌, [], true, false, cond, Some, sym, ap, subst, ◌∙◌}
use Rattle.std.specs.BTreeMap.{get}
use Rattle.std.specs.Cmp.Lexicographic.{slice_cmp}
use Rattle.std.specs.Ordering.{nat_cmp, is_eq}
use Rattle.mx_redact.specs.Hashes.{event_id}
use Rattle.mx_export.specs.Collecting.{IsIndex}
use Rattle.mx_export.specs.RoomEvents.{has_id}
use Rattle.mx_export.proofs.CollectingLemmas.{found-has, index-push}
use Rattle.mx_export.proofs.collecting.add.Goals as goal

pub returns-then-contains_key-clause-events : goal.returns-then-contains_key-clause-events
returns-then-contains_key-clause-events c =
    let es = c.args.collected.now.events.items in
    let there : has_id es (event_id c.args.event.now) ≡ true =
    ap (has_id es) (sym c.event_id-name.ensures) ∙ sym (found-has es (get (slice_cmp nat_cmp) c.args.collected.now.places) c.requires c.event_id-name.result.now) ∙ sym c.contains_key.ensures ∙ c.if-contains_key.true in
    sym (ap (λ b. cond b es (es ++ c.args.event.now ∷ [])) there)

pub returns-clause-events : goal.returns-clause-events
returns-clause-events c =
    let es = c.args.collected.now.events.items in
    let fresh : has_id es (event_id c.args.event.now) ≡ false =
    ap (has_id es) (sym c.event_id-name.ensures) ∙ sym (found-has es (get (slice_cmp nat_cmp) c.args.collected.now.places) c.requires c.event_id-name.result.now) ∙ sym c.contains_key.ensures ∙ c.if-contains_key.false in
    c.in_ok-push.ensures.items ∙ ap (λ e. es ++ e ∷ []) c.in_ok-event.ensures.cases ∙ sym (ap (λ b. cond b es (es ++ c.args.event.now ∷ [])) fresh)

pub returns-clause-indexed : goal.returns-clause-indexed
returns-clause-indexed c =
    let es = c.args.collected.now.events.items in
    let found = get (slice_cmp nat_cmp) c.args.collected.now.places in
    let more = get (slice_cmp nat_cmp) c.insert.new.self in
    let fresh : has_id es c.in_ok-id.id ≡ false = ap (has_id es) c.in_ok-id.ensures.cases ∙ sym (found-has es found c.requires c.event_id-name.result.now) ∙ sym c.contains_key.ensures ∙ c.if-contains_key.false in
    subst (λ xs. IsIndex xs more) (sym c.in_ok-push.ensures.items)
    (index-push es found c.requires c.in_ok-event.event c.in_ok-id.id more fresh (ap event_id c.in_ok-event.ensures.cases ∙ sym (c.in_ok-id.ensures.cases ∙ c.event_id-name.ensures))
    (λ q. c.in_ok-insert.ensures.updates.0 q ∙ ap (λ n. cond (is_eq (slice_cmp nat_cmp c.in_ok-id.id q)) (Some n) (found q)) (c.len.ensures ∙ c.args.collected.now.events.ok.0)))
