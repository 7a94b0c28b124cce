-- Docks that are opened one after another.
use Rattle.std.proofs.Common.{◌≡◌, ℕ, ◌+◌, ◌<◌, ◌≤◌, List, [], ◌∷◌, ◌++◌, length, get_or, map, drop, refl, sym, ◌∙◌, ap, subst, arith}
use Rattle.std.proofs.lemmas.List.{get_or_append_left, get_or-map, length-append, length-map}
use Rattle.std.proofs.Math.Seq.{get_or-append_seam}
use Rattle.crossbeam_utils.specs.declared.cache_padded.CachePadded.{CachePadded}
use Rattle.crossbeam_utils.specs.Padded.{padded_value}
use Rattle.mx_dock.specs.Dock.{own}
use Rattle.mx_dock.specs.Rule.{no_berth}
use Rattle.mx_dock.specs.declared.docks.Dock.{Dock}
use Rattle.mx_dock.specs.declared.berths.Berth.{Berth}
use Rattle.mx_keeper.specs.Places.{PlaceView}
use Rattle.mx_world.specs.Parts.{ArePlaced}
use Rattle.mx_engine.specs.Places.{place_code}
use Rattle.mx_engine.specs.Views.{BerthView, view_at}
use Rattle.mx_engine.specs.Berths.{views_of}
use Rattle.mx_engine.specs.Closing.{AreFirst, IsDockOpened}
use Rattle.mx_engine.proofs.ClosedDockLemmas.{place_with}
use Rattle.mx_engine.proofs.RowLemmas.{next-within, next-is, next-rest, row-more, some-of}

module _ {T V E : Type 0} (place_of : V → PlaceView) (journal_of : V → List E) where
  -- the docks of the first so many values, with their first berths
  pub record AreOpened (values : List V) (docks : List (CachePadded (Dock T E))) (berths : List (Berth T E)) : Type 0 where
    pub long : length berths ≡ length docks
    pub each : (n : ℕ) (d : CachePadded (Dock T E)) → n < length docks → (b : Berth T E) (v : V) →
        IsDockOpened (journal_of (get_or values n v)) (place_of (get_or values n v)) (padded_value (get_or docks n d))
        (get_or berths n b)

  -- one more dock was opened
  pub open-step : (values left rest : List V) (v : V) (docks more_docks : List (CachePadded (Dock T E)))
      (d : CachePadded (Dock T E)) (berths more_berths : List (Berth T E)) (b : Berth T E) →
      left ≡ drop (length docks) values → left ≡ v ∷ rest → AreOpened values docks berths
      → IsDockOpened (journal_of v) (place_of v) (padded_value d) b →
      more_docks ≡ docks ++ d ∷ [] → more_berths ≡ berths ++ b ∷ [] →
      (rest ≡ drop (length more_docks) values) × AreOpened values more_docks more_berths
      × (length more_docks ≤ length values)
  open-step values left rest v docks more_docks d berths more_berths b left_is next o here docks_are berths_are =
      let is : v ∷ rest ≡ drop (length docks) values = sym next ∙ left_is in
      let within : length docks < length values = next-within values (length docks) v rest is in
      let count : length more_docks ≡ length docks + 1 = ap length docks_are ∙ length-append docks (d ∷ []) in
      let berths_count : length more_berths ≡ length berths + 1 = ap length berths_are ∙ length-append berths (b ∷ []) in
      let seam : (x : Berth T E)
      → get_or more_berths (length docks) x ≡ b = λ x. ap (λ row. get_or row (length docks) x) berths_are
      ∙ ap (λ k. get_or (berths ++ b ∷ []) k x) (sym o.long) ∙ get_or-append_seam berths b [] x in
      let at : ℕ → CachePadded (Dock T E) → Type 0 = λ n y. (x : Berth T E) (w : V)
      → IsDockOpened (journal_of (get_or values n w)) (place_of (get_or values n w)) (padded_value y)
      (get_or more_berths n x) in
      let each : (n : ℕ) (y : CachePadded (Dock T E)) → n < length docks + 1 → at n (get_or (docks ++ d ∷ []) n y) =
      row-more at (length docks) docks d refl
      (λ n y l x w. subst (λ c. IsDockOpened (journal_of (get_or values n w)) (place_of (get_or values n w))
      (padded_value (get_or docks n y)) c)
      (sym (ap (λ row. get_or row n x) berths_are ∙ get_or_append_left berths (b ∷ []) x n (omega (arith, l, o.long))))
      (o.each n y l x w))
      (λ x w. subst (λ u. IsDockOpened (journal_of u) (place_of u) (padded_value d) (get_or more_berths (length docks) x))
      (sym (next-is values (length docks) v rest is w))
      (subst (λ c. IsDockOpened (journal_of v) (place_of v) (padded_value d) c) (sym (seam x)) here)) in (
        next-rest values (length docks) v rest is ∙ ap (λ k. drop k values) (sym count),
        record {
          long = omega (arith, count, berths_count, o.long);
          each = λ n y l. subst (λ row. at n (get_or row n y)) (sym docks_are) (each n y (omega (arith, l, count)));
        },
        omega (arith, count, within),
      )

  -- once all are
  pub open-first : (values : List V) (docks : List (CachePadded (Dock T E))) (berths : List (Berth T E))
      → ArePlaced (map place_of values) → AreOpened values docks berths → length docks ≡ length values →
      AreFirst (map journal_of values) docks 1 berths
  open-first values docks berths placed o all =
      let places : length (map place_of values) ≡ length docks = length-map values place_of ∙ sym all in
      let journals : length (map journal_of values) ≡ length docks = length-map values journal_of ∙ sym all in
      let value : (n : ℕ) → n < length docks → V = λ n l. some-of values n (omega (arith, l, all)) in
      let berth : (n : ℕ) → n < length docks → Berth T E = λ n l. some-of berths n (omega (arith, l, o.long)) in
      let at : (n : ℕ) (l : n < length docks)
      → IsDockOpened (journal_of (get_or values n (value n l))) (place_of (get_or values n (value n l)))
      (padded_value (get_or docks n (some-of docks n l))) (get_or berths n (berth n l)) =
      λ n l. o.each n (some-of docks n l) l (berth n l) (value n l) in
      let known : (n : ℕ) (l : n < length docks)
      → view_at (views_of berths) n ≡ own (get_or berths n (berth n l)) =
      λ n l. get_or-map own berths n (berth n l) no_berth (omega (arith, l, o.long)) in
      let journal : (n : ℕ) (l : n < length docks)
      → journal_of (get_or values n (value n l)) ≡ get_or (map journal_of values) n [] =
      λ n l. sym (get_or-map journal_of values n (value n l) [] (omega (arith, l, all))) in
      let within : (n : ℕ) → n < length (map journal_of values) → n < length docks = λ n l. omega (arith, l, journals) in
      record {
        seated = record {
          some = omega (arith, places, placed.some);
          few = omega (arith, places, placed.few);
          same = o.long;
          each = λ n d b l.
              let here = o.each n d l b (value n l) in
              let place : PlaceView = place_of (get_or values n (value n l)) in
              let there : place ≡ place_with n (length docks) =
              sym (get_or-map place_of values n (value n l) place (omega (arith, l, all)))
              ∙ placed.each n place (omega (arith, l, places)) ∙ ap (place_with n) places in
              record {
                mine = here.mine;
                away = here.away;
                numbered = here.numbered;
                placed = here.placed ∙ ap place_code there;
              };
        };
        new = record {
          long = length-map berths own ∙ o.long ∙ sym journals;
          opened = λ n j. let l = within n j in ap (λ (v : BerthView E). v.opening) (known n l) ∙ (at n l).opened
              ∙ journal n l;
          seen = λ n j. let l = within n j in ap (λ (v : BerthView E). v.seen) (known n l) ∙ (at n l).seen ∙ journal n l;
          nothing = λ n j. let l = within n j in ap (λ (v : BerthView E). v.added) (known n l) ∙ (at n l).nothing;
        };
        counted = λ n l. ap (λ (v : BerthView E). v.made) (known n l) ∙ (at n l).counted;
      }
