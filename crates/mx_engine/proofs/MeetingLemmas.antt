-- Two callers that meet at one dock.
use Rattle.std.proofs.Common.{◌≡◌, ℕ, ◌<◌, ◌≤◌, ◌+◌, false, List, [], ◌++◌, length, get_or, set, append-nil, refl, sym, ◌∙◌, ap, subst, arith}
use native.Mathlib.Decide.{ℕ_discrete}
use mathlib.Core.Logic.{dite}
use Rattle.std.proofs.lemmas.List.{get_or_past, length-map}
use Rattle.std.proofs.Math.Seq.{map-set_same}
use Rattle.crossbeam_utils.specs.declared.cache_padded.CachePadded.{CachePadded}
use Rattle.crossbeam_utils.specs.Padded.{padded_value}
use Rattle.mx_dock.specs.Journal.{IsPrefix}
use Rattle.mx_dock.specs.Rule.{no_berth}
use Rattle.mx_dock.specs.Dock.{IsBerthOf, IsSameBerth, holds, own, seen, added}
use Rattle.mx_dock.specs.declared.docks.Dock.{Dock}
use Rattle.mx_dock.specs.declared.berths.Berth.{Berth}
use Rattle.mx_engine.specs.Views.{BerthView, view_at, after_turn, AddsNothing}
use Rattle.mx_engine.specs.Berths.{AreBerthsAt, views_of}
use Rattle.mx_engine.proofs.TurnLemmas.{view-eq, view_at-here, views-set, view-set_same, view-set_other, told_nothing}
use Rattle.mx_engine.proofs.BerthLemmas.{seated_set}

module _ {T E : Type 0} where
  -- a berth stays at its dock
  pub met_seated : (docks : List (CachePadded (Dock T E))) (caller : ℕ) (berths : List (Berth T E)) (n : ℕ)
      (padded : CachePadded (Dock T E)) (dock : Dock T E) (old new : Berth T E) → AreBerthsAt docks caller berths
      → n < length docks →
      get_or docks n padded ≡ padded → dock ≡ padded_value padded → get_or berths n old ≡ old → IsBerthOf dock new
      → holds new ≡ false → IsSameBerth old new → AreBerthsAt docks caller (set berths n new)
  met_seated docks caller berths n padded dock old new seated l stands is stood mine away same =
      let was = seated.each n padded old l in
      seated_set docks caller berths n (record { number = n; count = length docks }) padded dock new seated l refl refl
      stands is
      (record {
        mine = mine;
        away = away;
        numbered = same.0 ∙ ap (λ (b : Berth T E). (own b).number) (sym stood) ∙ was.numbered;
        placed = same.2 ∙ ap (λ (b : Berth T E). (own b).place) (sym stood) ∙ was.placed;
      })

  -- the first caller has seen more, and has added nothing
  pub met_nothing : (berths : List (Berth T E)) (n : ℕ) (old new : Berth T E) → n < length berths → get_or berths n old ≡ old
      → IsSameBerth old new → IsPrefix (seen old) (seen new) → added new ≡ added old
      → AddsNothing (views_of berths) (views_of (set berths n new))
  met_nothing berths n old new l stood same later nothing =
      told_nothing berths n old new (seen new) l stood later
      (view-eq (own new) (after_turn (own old) (seen new) []) same.0 (sym (append-nil (seen new)))
      (nothing ∙ sym (append-nil (added old))) same.1 same.3 same.2)

  -- what the second one knows stays
  pub met_stays : (berths : List (Berth T E)) (n : ℕ) (old new : Berth T E) → get_or berths n old ≡ old → IsSameBerth old new
      → seen new ≡ seen old → added new ≡ added old → views_of (set berths n new) ≡ views_of berths
  met_stays berths n old new stood same saw nothing =
      map-set_same own berths n new old
      (view-eq (own new) (own old) same.0 saw nothing same.1 same.3 same.2 ∙ ap own (sym stood))

  -- at the docks so far, and at this one, the first caller has seen what the second one had
  pub met_told : (first second : List (Berth T E)) (known : List (BerthView E)) (n : ℕ) (new old : Berth T E)
      → n < length first → n < length second → views_of second ≡ known → get_or second n old ≡ old
      → IsPrefix (seen old) (seen new) →
      ((m : ℕ) → m < n → IsPrefix (view_at known m).seen (view_at (views_of first) m).seen) → (m : ℕ) → m < n + 1
      → IsPrefix (view_at known m).seen (view_at (views_of (set first n new)) m).seen
  met_told first second known n new old l k is stood told before = λ m below. dite (ℕ_discrete m n)
      (λ same.
      let theirs : view_at known m ≡ own old = ap (view_at known) same ∙ ap (λ vs. view_at vs n) (sym is)
      ∙ view_at-here second n old k ∙ ap own stood in
      let long : n < length (views_of first) = subst (λ j. n < j) (sym (length-map first own)) l in
      let ours : view_at (views_of (set first n new)) m ≡ own new = ap (view_at (views_of (set first n new))) same
      ∙ ap (λ vs. view_at vs n) (views-set first n new) ∙ view-set_same (views_of first) n (own new) long in
      subst (λ (v : BerthView E). IsPrefix v.seen (view_at (views_of (set first n new)) m).seen) (sym theirs)
      (subst (λ (v : BerthView E). IsPrefix (seen old) v.seen) (sym ours) told))
      (λ other.
      let ours : view_at (views_of (set first n new)) m ≡ view_at (views_of first) m =
      ap (λ vs. view_at vs m) (views-set first n new) ∙ view-set_other (views_of first) n m (own new) other in
      subst (λ (v : BerthView E). IsPrefix (view_at known m).seen v.seen) (sym ours)
      (before m (omega (arith, below, other))))

-- of what is no dock nothing is known
pub told_beyond : {E : Type 0} (known views : List (BerthView E)) (n : ℕ) → length known ≤ n
    → IsPrefix (view_at known n).seen (view_at views n).seen
told_beyond {E = E} known views n l =
    let none : (view_at known n).seen ≡ [] = ap (λ (v : BerthView E). v.seen) (get_or_past known n no_berth l) in
    ((view_at views n).seen, ap (λ s. s ++ (view_at views n).seen) (sym none))
