use Rattle.std.proofs.Common.{◌≡◌, ◌||◌, ℕ, List, not, take, sym, ap, ◌∙◌}
use Rattle.std.proofs.lemmas.List.Folds.{list_any_more}
use Rattle.std.specs.BTreeSet.{contains}
use Rattle.std.specs.Cmp.Lexicographic.{slice_cmp}
use Rattle.std.specs.List.{list_any}
use Rattle.std.specs.Ordering.{nat_cmp}
use Rattle.mx_export.specs.RoomEvents.{has_id}
use Rattle.mx_export.proofs.MissingLemmas.{one-adds}
use Rattle.mx_export.proofs.missing.add_missing.Goals as goal

pub loop-id-preserved : goal.loop-id-preserved
loop-id-preserved c =
    let l = c.loop-id in
    let xs = c.args.cited.now in
    let i = l.id-index in
    let x = c.id-item.result in
    let has = has_id c.args.collected.now.events.items in
    let f = λ (id : List ℕ). not (has id) in
    record {
      lacks =
          c.either-lacks.ensures ∙ ap (λ b. b || c.in_ok-one.one) l.invariant.lacks ∙ ap (λ b. list_any f (take i xs) || b) (c.in_ok-one.ensures.lacks ∙ ap f c.id-item.is)
          ∙ sym (list_any_more f xs i x c.loop-id-test.true);
      ids = one-adds (contains (slice_cmp nat_cmp) c.args.ids.now) (contains (slice_cmp nat_cmp) l.ids) (contains (slice_cmp nat_cmp) c.add_if_missing.new.ids) has xs i x c.loop-id-test.true c.id-item.is l.invariant.ids c.in_ok-one.ensures.ids;
    }
