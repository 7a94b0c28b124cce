-- The berths of a caller, where one of them changes.
use Rattle.std.proofs.Common.{◌≡◌, ℕ, ◌<◌, List, length, get_or, set, refl, sym, ◌∙◌, ap, subst}
use native.Mathlib.Decide.{ℕ_discrete}
use mathlib.Core.Logic.{dite}
use Rattle.std.proofs.lemmas.List.{get_or_default, get_or-set_same, get_or-set_other, length-set}
use Rattle.crossbeam_utils.specs.declared.cache_padded.CachePadded.{CachePadded}
use Rattle.crossbeam_utils.specs.Padded.{padded_value}
use Rattle.mx_dock.specs.declared.docks.Dock.{Dock}
use Rattle.mx_dock.specs.declared.berths.Berth.{Berth}
use Rattle.mx_keeper.specs.Places.{PlaceView}
use Rattle.mx_engine.specs.Views.{BerthView, AreSameViews}
use Rattle.mx_engine.specs.Berths.{IsBerthAt, AreBerthsAt, AreBerthsAfter, views_of}

-- ---- one change after another

module _ {E : Type 0} where
  pub same_refl : (views : List (BerthView E)) → AreSameViews views views
  same_refl views = record {
    long = refl;
    each = λ n. record { numbered = refl; opened = refl; counted = refl; placed = refl };
  }

  pub same_trans : (a b c : List (BerthView E)) → AreSameViews a b → AreSameViews b c → AreSameViews a c
  same_trans a b c s t = record {
    long = t.long ∙ s.long;
    each = λ n. let p = s.each n in let q =
        t.each n in record {
          numbered = q.numbered ∙ p.numbered;
          opened = q.opened ∙ p.opened;
          counted = q.counted ∙ p.counted;
          placed = q.placed ∙ p.placed;
        };
  }

module _ {T E : Type 0} where
  pub after_refl : (docks : List (CachePadded (Dock T E))) (caller : ℕ) (berths : List (Berth T E))
      → AreBerthsAt docks caller berths → AreBerthsAfter docks caller berths berths
  after_refl docks caller berths seated = record { seated = seated; same = same_refl (views_of berths) }

  pub after_trans : (docks : List (CachePadded (Dock T E))) (caller : ℕ) (a b c : List (Berth T E))
      → AreBerthsAfter docks caller a b → AreBerthsAfter docks caller b c → AreBerthsAfter docks caller a c
  after_trans docks caller a b c s t = record {
    seated = t.seated;
    same = same_trans (views_of a) (views_of b) (views_of c) s.same t.same;
  }

-- ---- one berth

module _ {T E : Type 0} where
  pub seated_set : (docks : List (CachePadded (Dock T E))) (caller : ℕ) (berths : List (Berth T E)) (n : ℕ) (at : PlaceView)
      (padded : CachePadded (Dock T E)) (dock : Dock T E) (new : Berth T E) →
      AreBerthsAt docks caller berths → n < length docks → at.number ≡ n → at.count ≡ length docks
      → get_or docks n padded ≡ padded → dock ≡ padded_value padded → IsBerthAt at dock caller new
      → AreBerthsAt docks caller (set berths n new)
  seated_set docks caller berths n at padded dock new seated l number count stands is now =
      record {
        some = seated.some;
        few = seated.few;
        same = length-set berths n new ∙ seated.same;
        each = λ m d b k. dite (ℕ_discrete m n)
            (λ same.
            let there : padded_value (get_or docks m d) ≡ dock = ap (λ j. padded_value (get_or docks j d)) same
            ∙ ap padded_value (get_or_default docks n d padded l ∙ stands) ∙ sym is in
            let berth : get_or (set berths n new) m b ≡ new = ap (λ j. get_or (set berths n new) j b) same
            ∙ get_or-set_same berths n new b (subst (λ j. n < j) (sym seated.same) l) in
            let place : at ≡ record { number = m; count = length docks } =
            λ i. record { number = (number ∙ sym same) i; count = count i } in
            subst (λ (x : Berth T E). IsBerthAt (record { number = m; count = length docks })
            (padded_value (get_or docks m d)) caller x) (sym berth)
            (subst (λ (x : Dock T E). IsBerthAt (record { number = m; count = length docks }) x caller new) (sym there)
            (subst (λ (p : PlaceView). IsBerthAt p dock caller new) place now)))
            (λ other. subst (λ (x : Berth T E). IsBerthAt (record { number = m; count = length docks })
            (padded_value (get_or docks m d)) caller x) (sym (get_or-set_other berths n m new b other)) (seated.each m d
            b k));
      }
