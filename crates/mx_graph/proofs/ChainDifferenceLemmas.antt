-- Where auth chains differ, by the index of auth chains.
use Rattle.std.proofs.Common.{◌≡◌, ℕ, zero, suc, ◌+◌, ◌==◌, ◌≤◌, ◌<◌, nat_le, Bool, true, false, ◌||◌, ◌&&◌, ◌⊎◌, inl, inr, List, [], ◌∷◌, length, get_or, take, Option, Some, None, IfSome, is_some, refl, sym, ap, ap₂, subst, ◌∙◌, arith, eq-eqb, eqb-true, Vec}
use Rattle.std.proofs.lemmas.Bool.{cases_lt}
use Rattle.std.proofs.lemmas.List.Elements.{All-more}
use Rattle.std.proofs.lemmas.List.Folds.{list_any_more}
use Rattle.std.specs.List.{list_any}
use Rattle.std.specs.declared.alloc.Global.{Global}
use Rattle.mx_graph.specs.AuthChains.{any_has, differs, has_row, is_apart, is_partly_met, rows_of, some_has, AreEnds, AreKept, AreLinked, AreMetBySome, AreMetToo, IsNextBelow}
use Rattle.mx_graph.specs.Record.{is_in}
use Rattle.mx_graph.specs.declared.auth_chains.ChainPlace.{ChainPlace}
use Rattle.mx_graph.specs.declared.reached_rows.Reached.{Reached}
use Rattle.mx_graph.proofs.ChainLemmas.{kept-more}
use Rattle.mx_graph.proofs.ReachedRowLemmas.{or-shifted}

-- ---- the rows that some sets meet

-- one event more
pub met-more : (at : ℕ → ChainPlace) (kept : ℕ → Option (Vec Reached Global)) (events : List ℕ) (i event : ℕ) (others old mid new : List Reached) → i < length events → event ≡ get_or events i event → AreMetToo at kept (take i events) old mid
    → is_some (kept event) ≡ true → others ≡ rows_of (kept event) → ((chain p : ℕ) → has_row new chain p ≡ (has_row mid chain p || has_row others chain p)) → (AreEnds at mid → AreEnds at others → AreEnds at new)
    → AreMetToo at kept (take (i + 1) events) old new
met-more at kept events i event others old mid new l here so_far there are rows ends = record {
  kept_each = kept-more kept events i event l here so_far.kept_each there;
  rows = λ chain p.
      rows chain p ∙ ap (λ b. b || has_row others chain p) (so_far.rows chain p) ∙ sym (or-shifted (has_row old chain p) (some_has kept (take i events) chain p) (has_row others chain p))
      ∙ ap (λ b. has_row old chain p || b)
      (ap (λ es. some_has kept (take i events) chain p || has_row es chain p) are ∙ ap (λ x. some_has kept (take i events) chain p || has_row (rows_of (kept x)) chain p) here
      ∙ sym (list_any_more (λ s. has_row (rows_of (kept s)) chain p) events i event l));
  ends = λ all before. ends (so_far.ends all before) (subst (AreEnds at) (sym are) (all event));
}

-- one set more
pub sets-more : (at : ℕ → ChainPlace) (kept : ℕ → Option (Vec Reached Global)) (apart : List (Vec ℕ Global)) (i : ℕ) (others : Vec ℕ Global) (old new : List Reached) → i < length apart → others ≡ get_or apart i others
    → AreMetBySome at kept (take i apart) old → AreMetToo at kept others.items old new → AreMetBySome at kept (take (i + 1) apart) new
sets-more at kept apart i others old new l here so_far more = record {
  kept_each = All-more (λ (set : Vec ℕ Global). AreKept kept set.items) apart i others l so_far.kept_each (subst (λ (set : Vec ℕ Global). AreKept kept set.items) here more.kept_each);
  rows = λ chain p.
      more.rows chain p ∙ ap (λ b. b || some_has kept others.items chain p) (so_far.rows chain p)
      ∙ ap (λ (set : Vec ℕ Global). any_has kept (take i apart) chain p || some_has kept set.items chain p) here
      ∙ sym (list_any_more (λ (set : Vec ℕ Global). some_has kept set.items chain p) apart i others l);
  ends = λ all. more.ends all (so_far.ends all);
}

-- ---- those that not all sets meet

spread : (a b d : Bool) → ((a && d) || (b && d)) ≡ ((a || b) && d)
spread true b true = refl
spread true true false = refl
spread true false false = refl
spread false b d = refl

module _ (at : ℕ → ChainPlace) (test : ℕ → Bool) (chain p : ℕ) where
  tests-here : (e : Reached) → (at e.last).chain ≡ e.chain → ((chain == (at e.last).chain) && (nat_le p e.last && test e.chain)) ≡ (((e.chain == chain) && nat_le p e.last) && test chain)
  tests-here e same = ap (λ c. (chain == c) && (nat_le p e.last && test e.chain)) same ∙ by (chain == e.chain) (e.chain == chain) refl refl
    where
      by : (a b : Bool) → (chain == e.chain) ≡ a → (e.chain == chain) ≡ b → ((chain == e.chain) && (nat_le p e.last && test e.chain)) ≡ (((e.chain == chain) && nat_le p e.last) && test chain)
      by true true f g = ap (λ a. a && (nat_le p e.last && test e.chain)) f ∙ ap (λ c. nat_le p e.last && test c) (sym (eqb-true chain e.chain f)) ∙ ap (λ a. (a && nat_le p e.last) && test chain) (sym g)
      by true false f g = absurd (cc (sym (eq-eqb e.chain chain (sym (eqb-true chain e.chain f))) ∙ g))
      by false true f g = absurd (cc (sym (eq-eqb chain e.chain (sym (eqb-true e.chain chain g))) ∙ f))
      by false false f g = ap (λ a. a && (nat_le p e.last && test e.chain)) f ∙ ap (λ a. (a && nat_le p e.last) && test chain) (sym g)

  -- one of the chains is that of the row
  one-chain : (met : List Reached) → AreEnds at met → list_any (λ e. (chain == (at e.last).chain) && (nat_le p e.last && test e.chain)) met ≡ (has_row met chain p && test chain)
  one-chain [] ends = refl
  one-chain (e ∷ met) ends =
      ap₂ (λ a b. a || b) (tests-here e (ends zero e (omega arith))) (one-chain met (λ k d l. ends (suc k) d (omega arith)))
      ∙ spread ((e.chain == chain) && nat_le p e.last) (has_row met chain p) (test chain)

pub differs-found : (at : ℕ → ChainPlace) (kept : ℕ → Option (Vec Reached Global)) (shared : List ℕ) (apart : List (Vec ℕ Global)) (met : List Reached) → AreEnds at met → ((chain p : ℕ) → has_row met chain p ≡ any_has kept apart chain p)
    → (p : ℕ) → list_any (λ e. is_partly_met at kept shared apart e p) met ≡ differs at kept shared apart p
differs-found at kept shared apart met ends rows p =
    one-chain at (λ c. is_apart kept shared apart c p) (at p).chain p met ends ∙ ap (λ b. b && is_apart kept shared apart (at p).chain p) (rows (at p).chain p)

-- ---- a walk down a chain

module _ (at : ℕ → ChainPlace) (linked : AreLinked at) (row first : ℕ) where
  pub next-below : (b : ℕ) → (at row).below ≡ Some b → first ≤ b → IsNextBelow at row first (Some b)
  next-below b e l = (l, linked.lower row b e, linked.below row b e, linked.next row b e)

  pub none-below : (b : ℕ) → (at row).below ≡ Some b → b < first → IsNextBelow at row first None
  none-below b e l x s m = by (cases_lt b x)
    where
      by : (b < x) ⊎ (x ≤ b) → x < first
      by (inl k) = let h : row ≤ x = linked.next row b e x k s in absurd (omega arith)
      by (inr k) = omega arith

-- what is found, of what some sets meet
pub found-differs : (at : ℕ → ChainPlace) (kept : ℕ → Option (Vec Reached Global)) (shared : List ℕ) (apart : List (Vec ℕ Global)) (met looked : List Reached) (found : Option (Vec ℕ Global)) → looked ≡ met → AreMetBySome at kept apart met
    → IfSome found (λ events. (p : ℕ) → is_in events.items p ≡ list_any (λ e. is_partly_met at kept shared apart e p) looked)
    → IfSome found (λ events. ((r : ℕ) → AreEnds at (rows_of (kept r))) → (p : ℕ) → is_in events.items p ≡ differs at kept shared apart p)
found-differs at kept shared apart met looked None same sets h = tt
found-differs at kept shared apart met looked (Some events) same sets h = λ all p. h p ∙ ap (list_any (λ e. is_partly_met at kept shared apart e p)) same ∙ differs-found at kept shared apart met (sets.ends all) sets.rows p
