use Rattle.std.proofs.Common.{◌≡◌, ◌+◌, ◌<◌, ◌≤◌, ◌||◌, get_or, ℕ, suc, Bool, true, false, cond, List, length, not, take, sym, ap, ◌∙◌, arith}
use Rattle.std.proofs.lemmas.List.{get_or_default}
use Rattle.std.specs.BTreeSet.{contains}
use Rattle.std.specs.Cmp.Lexicographic.{slice_cmp}
use Rattle.std.specs.Ordering.{nat_cmp}
use Rattle.std.specs.Prelude.{filter}
use Rattle.serde_json.specs.Data.{null}
use Rattle.mx_redact.specs.Redaction.{is_among}
use Rattle.mx_export.specs.Collecting.{event_at}
use Rattle.mx_export.specs.RoomEvents.{cited_ids, has_id, lacks_one}
use Rattle.mx_export.proofs.MissingLemmas.{any-adds, count-more}
use Rattle.mx_export.proofs.missing.missing_events.Goals as goal

pub loop-place-preserved : goal.loop-place-preserved
loop-place-preserved c =
    let l = c.loop-place in
    let xs = c.args.collected.now.events.items in
    let i = l.place in
    let x = event_at xs i in
    let below : i < length xs = omega arith in
    let is : x ≡ get_or xs i x = get_or_default xs i null x below in
    record {
      few = few c.in_ok-lacks.lacks c.one_more_if-citing.ensures;
      citing =
          c.one_more_if-citing.ensures ∙ ap (λ b. cond b (suc l.citing) l.citing) c.in_ok-lacks.ensures.lacks ∙ ap (λ n. cond (lacks_one xs x) (suc n) n) l.invariant.citing
          ∙ sym (count-more (lacks_one xs) xs i x below is);
      ids = λ id.
          any-adds (λ e. is_among (cited_ids e) id) (not (has_id xs id)) (contains (slice_cmp nat_cmp) l.ids id) (contains (slice_cmp nat_cmp) c.add_cited.new.ids id) xs i x below is (l.invariant.ids id) (c.in_ok-lacks.ensures.ids id);
    }
  where
    few : {n : ℕ} (b : Bool) → n ≡ cond b (suc c.loop-place.citing) c.loop-place.citing → n ≤ c.loop-place.place + 1
    few true e = let h = c.loop-place.invariant.few in omega (arith, e, h)
    few false e = let h = c.loop-place.invariant.few in omega (arith, e, h)
