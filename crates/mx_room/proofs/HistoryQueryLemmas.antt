-- What the queries for events and those before them answer, by what a walk finds.
use Rattle.std.proofs.Common.{◌≡◌, ℕ, nat_le, Bool, true, false, ◌&&◌, ◌||◌, ◌⊎◌, inl, inr, not, List, [], flat_map, refl, sym, ap, ◌∙◌, arith}
use Rattle.std.specs.Prelude.{min, take}
use Rattle.std.specs.BTreeSet.{contains}
use Rattle.std.specs.List.{list_any}
use Rattle.std.specs.Ordering.{is_eq, nat_cmp}
use Rattle.std.proofs.lemmas.Bool.{le-leb}
use Rattle.mx_pdu.specs.Event.{depth_of}
use Rattle.mx_graph.specs.Edges.{IsAllFrom}
use Rattle.mx_graph.specs.Graph.{IsLeastClosed, IsSound, ancestors}
use Rattle.mx_graph.specs.Record.{Row, event, events_where, is_in, places, prev_events, row}
use Rattle.mx_graph.proofs.Members.{in_flat_map, in_flat_map-from}
use Rattle.mx_graph.proofs.Closure.{is_in-from, is_in-to, one_answer, or_cases, or_left, or_right, same_tests}
use Rattle.mx_graph.proofs.ReachedLemmas.{closures-least}
use Rattle.mx_orders.specs.Mainline.{sorted}
use Rattle.mx_room.specs.HistoryWalks.{is_behind, is_sought, sought_between}
use Rattle.mx_room.specs.Queries.{backfill, depth_falling, depth_rising, held, missing_events}
use Rattle.mx_room.specs.declared.queries.history_walks.Sought.{Sought}
use Rattle.mx_room.proofs.HistoryFoundLemmas.{behind-all}

back-test : (b n c m r : Bool) → n ≡ false → c ≡ false → m ≡ true → ((b && not n) && (not c && (m && r))) ≡ (b && r)
back-test b n c m r e f g = (λ i. (b && not (e i)) && (not (f i) && (g i && r))) ∙ by b
  where
    by : (b : Bool) → ((b && true) && (true && (true && r))) ≡ (b && r)
    by true = refl
    by false = refl

missing-test : (a k l e m r : Bool) → ((a && not (k || l)) && (not e && (m && r))) ≡ (a && not (e || k || l) && m && r)
missing-test false k l e m r = refl
missing-test true true l true m r = refl
missing-test true true l false m r = refl
missing-test true false true true m r = refl
missing-test true false true false m r = refl
missing-test true false false true m r = refl
missing-test true false false false true r = refl
missing-test true false false false false r = refl

module _ (rows : List Row) (sound : IsSound rows) where
  abbrev cites : ℕ → List ℕ
  cites p = prev_events rows (event rows p)

  -- ---- backfill

  none-behind : (p : ℕ) → is_behind rows [] p ≡ false
  none-behind p = by (is_in (ancestors rows []) p) refl
    where
      by : (b : Bool) → is_in (ancestors rows []) p ≡ b → b ≡ false
      by true e = sym ((closures-least rows [] sound).0.1 (λ q. false) (λ x y h k. h) p e)
      by false e = refl

  pub backfill-walked : (from : List (List ℕ)) (limit most : ℕ) (starts known found : List ℕ) (sought : Sought) → starts ≡ held rows from → known ≡ [] → most ≡ min limit 100
      → sought.skipped.keys ≡ [] → sought.min_depth ≡ 0
      → take most (sorted (depth_falling rows) found) ≡ take most (sorted (depth_falling rows) (sought_between rows starts known sought))
      → take most (sorted (depth_falling rows) found) ≡ backfill rows from limit
  unfolding backfill
  backfill-walked from limit most starts known found sought is none many no_skipped no_depth walked =
      walked
      ∙ ap (λ xs. take most (sorted (depth_falling rows) xs))
      ((λ i. sought_between rows starts (none i) sought)
      ∙ same_tests (λ p. (is_behind rows starts p && not (is_behind rows [] p)) && is_sought rows sought p) (λ p. (is_in starts p || is_in (ancestors rows starts) p) && not (row rows p).rejected) (places rows)
      (λ p m. back-test (is_behind rows starts p) (is_behind rows [] p) (contains nat_cmp sought.skipped p) (nat_le sought.min_depth (depth_of (event rows p))) (not (row rows p).rejected)
      (none-behind p) (ap (list_any (λ k. is_eq (nat_cmp p k))) no_skipped) (le-leb sought.min_depth (depth_of (event rows p)) (omega (arith, no_depth)))))
      ∙ (λ i. take (many i) (sorted (depth_falling rows) (events_where rows (λ p. (is_in (is i) p || is_in (ancestors rows (is i)) p) && not (row rows p).rejected))))

  -- ---- missing events

  -- what the events follow, and what lies behind it, lies behind the events
  behind-followed : (ends : List ℕ) (p : ℕ) → is_behind rows (flat_map cites ends) p ≡ is_in (ancestors rows ends) p
  behind-followed ends p =
      one_answer (is_behind rows (flat_map cites ends) p) (is_in (ancestors rows ends) p)
      (all.least (is_in (ancestors rows ends)) first (λ x y h k. least.0 x y (or_right (is_in ends x) _ h) k) p)
      (least.1 (is_behind rows (flat_map cites ends)) (λ x y h k. closed x y (or_cases (is_in ends x) _ h) k) p)
    where
      all : IsAllFrom cites (is_in (flat_map cites ends)) (is_behind rows (flat_map cites ends))
      all = behind-all rows sound (flat_map cites ends)

      least : IsLeastClosed cites ends (is_in (ancestors rows ends))
      least = (closures-least rows ends sound).0

      first : (q : ℕ) → is_in (flat_map cites ends) q ≡ true → is_in (ancestors rows ends) q ≡ true
      first q e = let f = in_flat_map-from cites q ends (is_in-to q (flat_map cites ends) e) in least.0 f.0 q (or_left (is_in ends f.0) _ (is_in-from f.0 ends f.1)) (is_in-from q (cites f.0) f.2)

      closed : (x y : ℕ) → (is_in ends x ≡ true) ⊎ (is_behind rows (flat_map cites ends) x ≡ true) → is_in (cites x) y ≡ true → is_behind rows (flat_map cites ends) y ≡ true
      closed x y (inl e) k = or_left (is_in (flat_map cites ends) y) _ (is_in-from y (flat_map cites ends) (in_flat_map cites x y ends (is_in-to x ends e) (is_in-to y (cites x) k)))
      closed x y (inr e) k = all.closed x y e k

  abbrev missing_by : ℕ → List ℕ → List ℕ → ℕ → List ℕ
  missing_by most ends known min_depth =
      take most
      (sorted (depth_falling rows)
      (events_where rows
      (λ p. is_in (ancestors rows ends) p && not (is_in ends p || is_in known p || is_in (ancestors rows known) p) && nat_le min_depth (depth_of (event rows p)) && not (row rows p).rejected)))

  pub missing-walked : (earliest latest : List (List ℕ)) (limit min_depth most : ℕ) (ends known starts found : List ℕ) (sought : Sought) → ends ≡ held rows latest → known ≡ held rows earliest
      → starts ≡ flat_map cites ends → most ≡ min limit 20 → ((p : ℕ) → contains nat_cmp sought.skipped p ≡ is_in ends p) → sought.min_depth ≡ min_depth
      → take most (sorted (depth_falling rows) found) ≡ take most (sorted (depth_falling rows) (sought_between rows starts known sought))
      → sorted (depth_rising rows) (take most (sorted (depth_falling rows) found)) ≡ missing_events rows earliest latest limit min_depth
  unfolding missing_events
  missing-walked earliest latest limit min_depth most ends known starts found sought is_ends is_known follow many skips deep walked =
      ap (sorted (depth_rising rows))
      (walked
      ∙ ap (λ xs. take most (sorted (depth_falling rows) xs))
      ((λ i. sought_between rows (follow i) known sought)
      ∙ same_tests (λ p. (is_behind rows (flat_map cites ends) p && not (is_behind rows known p)) && is_sought rows sought p)
      (λ p. is_in (ancestors rows ends) p && not (is_in ends p || is_in known p || is_in (ancestors rows known) p) && nat_le min_depth (depth_of (event rows p)) && not (row rows p).rejected) (places rows)
      (λ p m. (λ i. (behind-followed ends p i && not (is_behind rows known p)) && (not (skips p i) && (nat_le (deep i) (depth_of (event rows p)) && not (row rows p).rejected)))
      ∙ missing-test (is_in (ancestors rows ends) p) (is_in known p) (is_in (ancestors rows known) p) (is_in ends p) (nat_le min_depth (depth_of (event rows p))) (not (row rows p).rejected)))
      ∙ (λ i. missing_by (many i) (is_ends i) (is_known i) min_depth))
