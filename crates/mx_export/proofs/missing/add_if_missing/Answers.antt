use Rattle.std.proofs.Common.{◌≡◌, true, false, cond, not, sym, ap, ◌∙◌}
use Rattle.std.specs.BTreeMap.{get}
use Rattle.std.specs.BTreeSet.{contains}
use Rattle.std.specs.Cmp.Lexicographic.{slice_cmp}
use Rattle.std.specs.Ordering.{nat_cmp, is_eq}
use Rattle.mx_export.specs.RoomEvents.{has_id}
use Rattle.mx_export.proofs.CollectingLemmas.{found-has}
use Rattle.mx_export.proofs.MissingLemmas.{missing-adds, there-adds}
use Rattle.mx_export.proofs.missing.add_if_missing.Goals as goal

pub returns-then-contains_key-clause-lacks : goal.returns-then-contains_key-clause-lacks
returns-then-contains_key-clause-lacks c =
    let es = c.args.collected.now.events.items in
    let there : has_id es c.args.id.now ≡ true = sym (found-has es (get (slice_cmp nat_cmp) c.args.collected.now.places) c.requires c.args.id.now) ∙ sym c.contains_key.ensures ∙ c.if-contains_key.true in
    sym (ap not there)

pub returns-then-contains_key-clause-ids : goal.returns-then-contains_key-clause-ids
returns-then-contains_key-clause-ids c =
    let es = c.args.collected.now.events.items in
    let there : has_id es c.args.id.now ≡ true = sym (found-has es (get (slice_cmp nat_cmp) c.args.collected.now.places) c.requires c.args.id.now) ∙ sym c.contains_key.ensures ∙ c.if-contains_key.true in
    there-adds (has_id es) c.args.id.now (contains (slice_cmp nat_cmp) c.args.ids.now) there

pub returns-clause-lacks : goal.returns-clause-lacks
returns-clause-lacks c =
    let es = c.args.collected.now.events.items in
    let fresh : has_id es c.args.id.now ≡ false = sym (found-has es (get (slice_cmp nat_cmp) c.args.collected.now.places) c.requires c.args.id.now) ∙ sym c.contains_key.ensures ∙ c.if-contains_key.false in
    sym (ap not fresh)

pub returns-clause-ids : goal.returns-clause-ids
returns-clause-ids c =
    let es = c.args.collected.now.events.items in
    let fresh : has_id es c.args.id.now ≡ false = sym (found-has es (get (slice_cmp nat_cmp) c.args.collected.now.places) c.requires c.args.id.now) ∙ sym c.contains_key.ensures ∙ c.if-contains_key.false in
    missing-adds (has_id es) c.args.id.now (contains (slice_cmp nat_cmp) c.args.ids.now) (contains (slice_cmp nat_cmp) c.insert.new.self) fresh
    (λ q. c.in_ok-insert.ensures.updates.0 q ∙ ap (λ id. cond (is_eq (slice_cmp nat_cmp id q)) true (contains (slice_cmp nat_cmp) c.args.ids.now q)) c.in_ok-copy.ensures.cases)
