-- What one event after another cites, without what the one before cites too.
use Rattle.std.proofs.Common.{◌≡◌, ℕ, Bool, true, false, not, ◌&&◌, ◌||◌, List, ◌∷◌, ◌++◌, filter, flat_map, refl, sym, ap, ◌∙◌}
use Rattle.mx_graph.specs.Record.{is_in}
use Rattle.mx_graph.proofs.Closure.{or_right}
use Rattle.mx_state_res.proofs.SetLemmas.{is_in-append, is_in-filter}

-- whether an event is so far, or cited by what is left
abbrev pub is_found : (ℕ → List ℕ) → List ℕ → List ℕ → ℕ → Bool
is_found cites found left p = is_in found p || is_in (flat_map cites left) p

module _ (found last next : List ℕ) (had : (p : ℕ) → is_in last p ≡ true → is_in found p ≡ true) where
  joined : (p : ℕ) → is_in (found ++ filter (λ q. not (is_in last q)) next) p ≡ (is_in found p || is_in next p)
  joined p =
      is_in-append found (filter (λ q. not (is_in last q)) next) p
      ∙ ap (λ b. is_in found p || b) (is_in-filter (λ q. not (is_in last q)) next p) ∙ by (is_in last p) refl
    where
      itself : (b : Bool) → (b && true) ≡ b
      itself true = refl
      itself false = refl

      by : (b : Bool) → is_in last p ≡ b → (is_in found p || (is_in next p && not (is_in last p))) ≡ (is_in found p || is_in next p)
      by true e = ap (λ b. b || (is_in next p && not (is_in last p))) (had p e) ∙ sym (ap (λ b. b || is_in next p) (had p e))
      by false e = ap (λ b. is_in found p || (is_in next p && not b)) e ∙ ap (λ b. is_in found p || b) (itself (is_in next p))

  -- what the next one cites is among them then
  pub next-had : (more : List ℕ) → more ≡ found ++ filter (λ q. not (is_in last q)) next → (p : ℕ) → is_in next p ≡ true → is_in more p ≡ true
  next-had more e p h = ap (λ xs. is_in xs p) e ∙ joined p ∙ or_right (is_in found p) (is_in next p) h

  -- and it is no more left
  pub found-next : (cites : ℕ → List ℕ) (event : ℕ) (left rest more : List ℕ) → more ≡ found ++ filter (λ q. not (is_in last q)) next → next ≡ cites event → left ≡ event ∷ rest
      → (p : ℕ) → is_found cites more rest p ≡ is_found cites found left p
  found-next cites event left rest more e is d p =
      ap (λ xs. is_in xs p || is_in (flat_map cites rest) p) e ∙ ap (λ b. b || is_in (flat_map cites rest) p) (joined p)
      ∙ together (is_in found p) (is_in next p) (is_in (flat_map cites rest) p)
      ∙ ap (λ b. is_in found p || b) (ap (λ xs. is_in xs p || is_in (flat_map cites rest) p) is ∙ sym (is_in-append (cites event) (flat_map cites rest) p))
      ∙ ap (λ xs. is_in found p || is_in (flat_map cites xs) p) (sym d)
    where
      together : (a b c : Bool) → ((a || b) || c) ≡ (a || (b || c))
      together true b c = refl
      together false b c = refl
