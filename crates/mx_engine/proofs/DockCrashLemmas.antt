-- What is in a dock begins with all that the owners of its berths have seen.
use Rattle.std.proofs.Common.{◌≡◌, ℕ, zero, suc, true, true≢false, List, [], ◌∷◌, sym, ap, ◌∙◌, subst, inl, inr}
use Rattle.std.proofs.lemmas.List.Elements.{All-weaker}
use mathlib.Core.Option.{some, some-ne-none, some-injective}
use lib.ListN.{get_elem?}
use Rattle.mx_dock.specs.Journal.{IsPrefix}
use Rattle.mx_dock.specs.Rule.{Docked, Agrees, FitsBerth, first_view}
use Rattle.mx_dock.specs.declared.views.PassView.{PassView}
use Rattle.mx_engine.specs.Crashes.{AllSeen, IsOutWith}

module _ {T E : Type 0} (journal : T → List E) (caller : E → ℕ) (place : T → ℕ) where
  agreed : (whole : List E) (at : ℕ) (passes : List (PassView E)) → Agrees caller whole at passes
      → AllSeen (λ seen. IsPrefix seen whole) passes
  agreed whole at passes agrees n pass here live =
      let fits = agrees.3 n pass here live in
      let past = agrees.0 in (
        subst (IsPrefix pass.own.seen) (sym agrees.1) fits.own.seen,
        All-weaker (FitsBerth caller past n) (λ berth. IsPrefix berth.seen whole)
            (λ berth fit. subst (IsPrefix berth.seen) (sym agrees.1) fit.seen) pass.joined fits.joined,
      )

  pub seen_in : (x : T) (passes : List (PassView E)) → Docked journal caller place (x ∷ []) passes
      → AllSeen (λ seen. IsPrefix seen (journal x)) passes
  seen_in x passes (inl h) = absurd (let e = h.0 in cc)
  seen_in x passes (inr (inr h)) = absurd (let e = h.0 in cc)
  seen_in x passes (inr (inl h)) =
      let same : h.0 ≡ x = (let e = h.1 in cc) in
      agreed (journal x) (place x) passes (subst (λ y. Agrees caller (journal y) (place y) passes) same h.2)

  pub seen_out : (whole : List E) (passes : List (PassView E)) → Docked journal caller place [] passes
      → IsOutWith whole passes → AllSeen (λ seen. IsPrefix seen whole) passes
  seen_out whole passes (inl h) out =
      let at : get_elem? (first_view ∷ []) out.0 ≡ some out.1 = subst (λ l. get_elem? l out.0 ≡ some out.1) h.1 out.2 in
      absurd (not_live out.0 out.1 at out.3)
    where
      not_live : (n : ℕ) (pass : PassView E) → get_elem? (first_view ∷ []) n ≡ some pass → pass.is_live ≡ true → ⊥
      not_live zero pass at live =
          true≢false (sym live ∙ ap (λ (v : PassView E). v.is_live) (sym (some-injective first_view pass at)))
      not_live (suc n) pass at live = some-ne-none pass (sym at)
  seen_out whole passes (inr (inl h)) out = absurd (let e = h.1 in cc)
  seen_out whole passes (inr (inr h)) out =
      let holder = h.1 in
      let w = h.2 in
      let is_holder : out.0 ≡ holder = h.7 out.0 out.1 out.2 out.4 in
      let same : w ≡ out.1 = some-injective w out.1 (sym h.3 ∙ ap (get_elem? passes) (sym is_holder) ∙ out.2) in
      let seen : w.own.seen ≡ whole = ap (λ (v : PassView E). v.own.seen) same ∙ out.5 in
      subst (λ l. AllSeen (λ seen. IsPrefix seen l) passes) seen (agreed w.own.seen w.own.place passes h.6)

-- what follows for each owner
pub each_seen : {E : Type 0} (Fact Other : List E → Type 0) (passes : List (PassView E))
    → ((seen : List E) → Fact seen → Other seen) → AllSeen Fact passes → AllSeen Other passes
each_seen Fact Other passes then all n pass here live =
    let seen = all n pass here live in (
      then pass.own.seen seen.0,
      All-weaker (λ berth. Fact berth.seen) (λ berth. Other berth.seen)
          (λ berth fact. then berth.seen fact) pass.joined seen.1,
    )
