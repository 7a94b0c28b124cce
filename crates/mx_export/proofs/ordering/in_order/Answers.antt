use Rattle.std.proofs.Common.{◌≡◌, ◌+◌, ◌<◌, ◌≤◌, ℕ, length, map, refl, sym, ap, subst, ◌∙◌, arith}
use Rattle.std.specs.List.{range_with_len}
use Rattle.serde_json.specs.Data.{null}
use Rattle.mx_export.specs.Arrangement.{arranged}
use Rattle.mx_export.specs.Arranging.{cites_place}
use Rattle.mx_export.specs.Collecting.{Each, event_at}
use Rattle.mx_export.specs.RoomEvents.{cites}
use Rattle.mx_export.proofs.ArrangedLaws.{arranged-all, arranged-map, at-all-places, places-below}
use Rattle.mx_export.proofs.ordering.in_order.Goals as goal

pub events_at-requires : goal.events_at-requires
events_at-requires c =
    let n = length c.args.events.now in
    let cited = c.args.cited.now in
    subst (Each (λ (p : ℕ). p < n)) (sym (c.deref.ensures.value ∙ c.in_ok-order.ensures))
    (arranged-all (λ (p : ℕ). p) (λ (p : ℕ). p < n) (cites_place cited) (length cited) (range_with_len 0 (length cited)) (places-below n 0 (length cited) (all c.requires.len)))
  where
    all : {m n : ℕ} → m ≡ n → 0 + m ≤ n
    all e = omega (arith, e)

pub returns : goal.returns
returns c =
    let es = c.args.events.now in
    let n = length es in
    let listed = c.args.cited.now in
    c.in_ok-ordered.ensures
    ∙ ap (map (event_at es)) (c.deref.ensures.value ∙ c.in_ok-order.ensures)
    ∙ ap (λ (k : ℕ). map (event_at es) (arranged (cites_place listed) k (range_with_len 0 k))) c.requires.len
    ∙ arranged-map (event_at es) (λ (p : ℕ). p < n) (cites_place listed) cites (λ p q l m. c.requires.cited p q l m) n (range_with_len 0 n) (places-below n 0 n (all refl))
    ∙ ap (arranged cites n) (at-all-places null es)
  where
    all : {m n : ℕ} → m ≡ n → 0 + m ≤ n
    all e = omega (arith, e)
