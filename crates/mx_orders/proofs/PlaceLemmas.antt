-- Places in order are events in the mainline order.
use Rattle.std.proofs.Common.{◌≡◌, ℕ, ◌<◌, false, inl, inr, List, [], ◌∷◌, map, length, slice_index_or, refl, sym, ap, subst, ◌∙◌}
use Rattle.std.specs.Prelude.{Option, Some, None}
use Rattle.std.specs.Ordering.{is_gt, is_lt, ordering_then, flip_args, nat_cmp, int_cmp}
use Rattle.std.specs.Option.{option_cmp}
use Rattle.std.specs.Cmp.{IsTotalOrder, on_total, then_total, back_total, nat_cmp_total, int_cmp_total}
use Rattle.std.specs.Cmp.Lexicographic.{slice_cmp, options_total, lists_total}
use Rattle.std.specs.FinMap.{slice_cmp-IsAntisymmetric, nat_cmp-IsAntisymmetric}
use Rattle.std.specs.List.{All}
use Rattle.std.specs.List.Sorted.{IsPermutation, IsSortedBy}
use Rattle.std.proofs.lemmas.List.{get_or-map, length-map}
use Rattle.std.proofs.lemmas.List.Elements.{All-map}
use Rattle.std.proofs.lemmas.List.Sorted.{IsPermutation-map, All-permutation}
use Rattle.mx_pdu.specs.Event.{timestamp_of}
use Rattle.mx_graph.specs.Record.{Row, row, event}
use Rattle.mx_graph.specs.Graph.{IsSound}
use Rattle.mx_orders.specs.Mainline.{position_cmp, mainline_position, mainline_cmp, mainline_order}
use Rattle.mx_orders.specs.Places.{IsPositioned, IsRead, CompareAlike, event_position, place_cmp, place_position}
use Rattle.mx_orders.specs.declared.mainline_ordering.Place.{Place}
use Rattle.mx_orders.specs.declared.mainline_ordering.Positioned.{Positioned}
use Rattle.mx_orders.proofs.Members.{In}
use Rattle.mx_orders.proofs.LeastOrder.{TellsApart}
use Rattle.mx_orders.proofs.SortedLaws.{Below, Rising}
use Rattle.mx_orders.proofs.CountLemmas.{all-at, rising-sorted, sorted-is}
use Rattle.mx_orders.proofs.PowerOrderLaws.{then_equal}

position_cmp-is : (a b : Option ℕ) → option_cmp (flip_args nat_cmp) a b ≡ position_cmp a b
position_cmp-is None None = refl
position_cmp-is None (Some n) = refl
position_cmp-is (Some m) None = refl
position_cmp-is (Some m) (Some n) = refl

position_cmp-total : IsTotalOrder position_cmp
position_cmp-total = subst IsTotalOrder (λ i a b. position_cmp-is a b i) (options_total (back_total nat_cmp_total))

pub place_cmp-total : IsTotalOrder place_cmp
place_cmp-total = then_total (on_total (λ (p : Place). p.position) position_cmp-total) (then_total (on_total (λ (p : Place). p.timestamp) int_cmp_total) (on_total (λ (p : Place). p.id.now) (lists_total nat_cmp_total)))

-- what holds of all the values of a function
all-before : {X Y : Type 0} (P : Y → Type 0) (f : X → Y) (xs : List X) → All P (map f xs) → All (λ x. P (f x)) xs
all-before P f xs h k d l = subst P (get_or-map f xs k d (f d) l) (h k (f d) (subst (λ n. k < n) (sym (length-map xs f)) l))

-- events that have these numbers are events of the record
pub numbers-known : (rows : List Row) (positions : List Positioned) (xs : List ℕ) → map (λ (p : Positioned). p.number) positions ≡ xs → All (λ x. x < length rows) xs → All (λ (p : Positioned). p.number < length rows) positions
numbers-known rows positions xs e h = all-before (λ x. x < length rows) (λ (p : Positioned). p.number) positions (subst (All (λ x. x < length rows)) (sym e) h)

module _ (rows : List Row) (line : List ℕ) where
  abbrev Alike : (ℕ × Option ℕ) → (ℕ × Option ℕ) → Type 0
  Alike x y = position_cmp x.1 y.1 ≡ position_cmp (mainline_position rows line x.0) (mainline_position rows line y.0)

  -- what is read of events whose positions compare alike has positions that do
  places-alike : (positions : List Positioned) (places : List Place) → map place_position places ≡ map event_position positions
      → CompareAlike rows line (map event_position positions) → All (λ p. All (λ q. Alike (place_position p) (place_position q)) places) places
  places-alike positions places same h =
      let all : CompareAlike rows line (map place_position places) = subst (CompareAlike rows line) (sym same) h in
      let first = all-before (λ x. All (λ y. Alike x y) (map place_position places)) place_position places all in
      λ k d l. all-before (λ y. Alike (place_position (slice_index_or places k d)) y) place_position places (first k d l)

  -- exact positions compare alike
  pub positioned-alike : (positions : List Positioned) → All (IsPositioned rows line) positions → CompareAlike rows line (map event_position positions)
  positioned-alike positions h =
      let all : All (λ x. x.1 ≡ mainline_position rows line x.0) (map event_position positions) = All-map (λ x. x.1 ≡ mainline_position rows line x.0) event_position positions (λ k d l. (h k d l).position) in
      λ k d l j e m i. position_cmp (all k d l i) (all j e m i)

  pub mainline_cmp-total : IsTotalOrder (mainline_cmp rows line)
  mainline_cmp-total = then_total (on_total (mainline_position rows line) position_cmp-total) (then_total (on_total (λ p. timestamp_of (event rows p)) int_cmp_total) (on_total (λ p. (row rows p).id) (lists_total nat_cmp_total)))

  same_cmp : (p q : Place) → IsRead rows p → IsRead rows q → Alike (place_position p) (place_position q) → place_cmp p q ≡ mainline_cmp rows line p.number q.number
  same_cmp p q a b h = λ i. ordering_then (h i) (ordering_then (int_cmp (a.timestamp i) (b.timestamp i)) (slice_cmp nat_cmp (a.id i) (b.id i)))

  abbrev number : Place → ℕ
  number p = p.number

  abbrev Same : Place → Place → Type 0
  Same p q = place_cmp p q ≡ mainline_cmp rows line p.number q.number

  below-numbers : (p : Place) (ps : List Place) → ((q : Place) → In q ps → Same p q) → Below place_cmp place_cmp-total p ps → Below (mainline_cmp rows line) mainline_cmp-total p.number (map number ps)
  below-numbers p [] k b y m = absurd m
  below-numbers p (q ∷ qs) k b y (inl e) = subst (λ w. is_gt (mainline_cmp rows line p.number w) ≡ false) (sym e) (ap is_gt (sym (k q (inl refl))) ∙ b q (inl refl))
  below-numbers p (q ∷ qs) k b y (inr m) = below-numbers p qs (λ r l. k r (inr l)) (λ r l. b r (inr l)) y m

  rising-numbers : (ps : List Place) → ((p q : Place) → In p ps → In q ps → Same p q) → Rising place_cmp place_cmp-total ps → Rising (mainline_cmp rows line) mainline_cmp-total (map number ps)
  rising-numbers [] k r = tt
  rising-numbers (p ∷ ps) k r = (below-numbers p ps (λ q l. k p q (inl refl) (inr l)) r.0, rising-numbers ps (λ p q l m. k p q (inr l) (inr m)) r.1)

  pub mainline_cmp-tells : IsSound rows → (xs : List ℕ) → ((x : ℕ) → In x xs → x < length rows) → TellsApart (mainline_cmp rows line) xs
  mainline_cmp-tells sound xs h x y k l e =
      sound.ids x y (h x k) (h y l) (slice_cmp-IsAntisymmetric nat_cmp-IsAntisymmetric (row rows x).id (row rows y).id
      (then_equal _ _ (then_equal _ _ e)))

  -- places of any order of which each is read of its event, and whose positions compare alike
  same-places : (old new : List Place) → IsPermutation old new → All (IsRead rows) old → All (λ p. All (λ q. Alike (place_position p) (place_position q)) old) old
      → (p q : Place) → In p new → In q new → Same p q
  same-places old new permutes read alike p q k l =
      let reads : All (IsRead rows) new = All-permutation (IsRead rows) old new permutes read in
      let first = All-permutation (λ x. All (λ y. Alike (place_position x) (place_position y)) old) old new permutes alike in
      let here : All (λ y. Alike (place_position p) (place_position y)) old = all-at (λ x. All (λ y. Alike (place_position x) (place_position y)) old) new first p k in
      let second = All-permutation (λ y. Alike (place_position p) (place_position y)) old new permutes here in
      same_cmp p q (all-at (IsRead rows) new reads p k) (all-at (IsRead rows) new reads q l) (all-at (λ y. Alike (place_position p) (place_position y)) new second q l)

  pub order-is : IsSound rows → (positions : List Positioned) (old new : List Place) → All (λ (p : Positioned). p.number < length rows) positions
      → map number old ≡ map (λ (p : Positioned). p.number) positions → map place_position old ≡ map event_position positions → All (IsRead rows) old
      → CompareAlike rows line (map event_position positions) → IsPermutation old new → IsSortedBy (λ p q. is_lt (place_cmp p q)) new
      → map number new ≡ mainline_order rows line (map (λ (p : Positioned). p.number) positions)
  unfolding mainline_order
  order-is sound positions old new known e same read alike permutes sorted =
      let xs : List ℕ = map (λ (p : Positioned). p.number) positions in
      let xs-known : All (λ x. x < length rows) xs = All-map (λ x. x < length rows) (λ (p : Positioned). p.number) positions known in
      sorted-is (mainline_cmp rows line) mainline_cmp-total xs (map number new)
      (mainline_cmp-tells sound xs (λ x m. all-at (λ x. x < length rows) xs xs-known x m))
      (subst (λ ys. IsPermutation ys (map number new)) e (IsPermutation-map number old new permutes))
      (rising-numbers new (same-places old new permutes read (places-alike positions old same alike)) (rising-sorted place_cmp place_cmp-total new sorted))
