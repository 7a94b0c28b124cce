use Rattle.std.proofs.Common.{◌≡◌, ◌<◌, ◌&&◌, ◌||◌, ℕ, List, false, filter_map, length, not, sym, ap, ◌∙◌, arith, eqb-true}
use Rattle.std.proofs.lemmas.List.{get_or_default}
use Rattle.std.proofs.lemmas.List.Folds.{list_any-append}
use Rattle.std.specs.BTreeMap.{get}
use Rattle.std.specs.BTreeSet.{contains}
use Rattle.std.specs.Cmp.Lexicographic.{slice_cmp}
use Rattle.std.specs.List.{list_any}
use Rattle.std.specs.Ordering.{nat_cmp}
use Rattle.serde_json.specs.Data.{null}
use Rattle.mx_redact.specs.Fields.{Event}
use Rattle.mx_redact.specs.Redaction.{is_among}
use Rattle.mx_pdu.specs.Event.{auth_ids, prev_ids}
use Rattle.mx_export.specs.Collecting.{event_at}
use Rattle.mx_export.specs.RoomEvents.{cited_ids, has_id, lacks_one}
use Rattle.mx_export.proofs.CollectingLemmas.{found-has}
use Rattle.mx_export.proofs.LeftLemmas.{listed-at}
use Rattle.mx_export.proofs.MissingLemmas.{none-adds, none-missing, two-adds}
use Rattle.mx_export.proofs.missing.add_cited.Goals as goal

pub returns-then-has_as_many-clause-lacks : goal.returns-then-has_as_many-clause-lacks
returns-then-has_as_many-clause-lacks c =
    let es = c.args.collected.now.events.items in
    let place = c.args.place in
    let found = get (slice_cmp nat_cmp) c.args.collected.now.places in
    let within : place < length c.args.cited.now = let l = c.requires.len in let k = c.requires.below in omega (arith, l, k) in
    let listed = listed-at c.args.cited.now place c.index-cited-place.result within c.index-cited-place.is in
    let is : c.index-event.result.now ≡ event_at es place = c.index-event.ensures ∙ get_or_default es place c.index-event.result.now null c.requires.below in
    let many : length (filter_map found (cited_ids (event_at es place))) ≡ length (cited_ids (event_at es place)) =
    ap length (sym (c.requires.cited place c.requires.below) ∙ listed ∙ sym c.deref.ensures.value)
    ∙ eqb-true _ _ (sym c.has_as_many.ensures ∙ c.if-has_as_many.true)
    ∙ ap (λ (e : Event). length (cited_ids e)) is in
    sym (none-missing (has_id es) found (found-has es found c.requires.indexed) (cited_ids (event_at es place)) many)

pub returns-then-has_as_many-clause-ids : goal.returns-then-has_as_many-clause-ids
returns-then-has_as_many-clause-ids c =
    let es = c.args.collected.now.events.items in
    let ids = cited_ids (event_at es c.args.place) in
    let none : list_any (λ id. not (has_id es id)) ids ≡ false = sym (returns-then-has_as_many-clause-lacks c) in
    none-adds (has_id es) ids none (contains (slice_cmp nat_cmp) c.args.ids.now)

pub returns-clause-lacks : goal.returns-clause-lacks
returns-clause-lacks c =
    let es = c.args.collected.now.events.items in
    let e = c.index-event.result.now in
    let f = λ (id : List ℕ). not (has_id es id) in
    let is : e ≡ event_at es c.args.place = c.index-event.ensures ∙ get_or_default es c.args.place e null c.requires.below in
    c.either-lacks.ensures
    ∙ ap (λ b. b || c.in_ok-auth.auth) (c.in_ok-prev.ensures.lacks ∙ ap (list_any f) c.prev_events.ensures)
    ∙ ap (λ b. list_any f (prev_ids e) || b) (c.in_ok-auth.ensures.lacks ∙ ap (list_any f) c.auth_events.ensures)
    ∙ sym (list_any-append f (prev_ids e) (auth_ids e))
    ∙ ap (λ (d : Event). lacks_one es d) is

pub returns-clause-ids : goal.returns-clause-ids
returns-clause-ids c =
    let es = c.args.collected.now.events.items in
    let e = c.index-event.result.now in
    let has = has_id es in
    let old = contains (slice_cmp nat_cmp) c.args.ids.now in
    let mid = contains (slice_cmp nat_cmp) c.add_missing.new.ids in
    let is : e ≡ event_at es c.args.place = c.index-event.ensures ∙ get_or_default es c.args.place e null c.requires.below in
    λ id. two-adds old mid (contains (slice_cmp nat_cmp) c.add_missing-2.new.ids) has (prev_ids e) (auth_ids e)
    (λ q. c.in_ok-prev.ensures.ids q ∙ ap (λ xs. old q || (is_among xs q && not (has q))) c.prev_events.ensures)
    (λ q. c.in_ok-auth.ensures.ids q ∙ ap (λ xs. mid q || (is_among xs q && not (has q))) c.auth_events.ensures) id
    ∙ ap (λ (d : Event). old id || (is_among (cited_ids d) id && not (has id))) is
