-- Rows of chains, up to a last one of each.
use Rattle.std.proofs.Common.{◌≡◌, ℕ, zero, suc, ◌==◌, ◌≤◌, ◌<◌, nat_le, Bool, true, false, ◌||◌, ◌&&◌, List, [], ◌∷◌, length, get_or, set, refl, sym, ap, ◌∙◌, arith}
use Rattle.std.proofs.lemmas.Bool.Decides.{nat_tests}
use Rattle.mx_graph.specs.AuthChains.{has_row}
use Rattle.mx_graph.specs.declared.reached_rows.Reached.{Reached}

-- a row takes the place of one of the same chain that comes before it
absorbed : (x a s : Bool) → (x ≡ true → a ≡ true) → (a || s) ≡ ((x || s) || a)
absorbed true true s h = refl
absorbed true false s h = absurd (cc (h refl))
absorbed false true true h = refl
absorbed false true false h = refl
absorbed false false true h = refl
absorbed false false false h = refl

pub or-shifted : (h r n : Bool) → (h || (r || n)) ≡ ((h || r) || n)
or-shifted true r n = refl
or-shifted false r n = refl

and-wider : (a x y : Bool) → (x ≡ true → y ≡ true) → (a && x) ≡ true → (a && y) ≡ true
and-wider true x y h e = h e
and-wider false x y h e = absurd (cc e)

le-wider : (p a b : ℕ) → a ≤ b → nat_le p a ≡ true → nat_le p b ≡ true
le-wider p a b l e = grind (arith, nat_tests)

pub set-row : (es : List Reached) (i : ℕ) (new : Reached) → i < length es → ((d : Reached) → (get_or es i d).chain ≡ new.chain) → ((d : Reached) → (get_or es i d).last ≤ new.last)
    → (chain p : ℕ) → has_row (set es i new) chain p ≡ (has_row es chain p || ((new.chain == chain) && nat_le p new.last))
set-row [] i new l same low chain p = absurd (omega arith)
set-row (e ∷ es) zero new l same low chain p =
    absorbed ((e.chain == chain) && nat_le p e.last) ((new.chain == chain) && nat_le p new.last) (has_row es chain p)
    (λ h. and-wider (new.chain == chain) (nat_le p e.last) (nat_le p new.last) (le-wider p e.last new.last (low e)) (ap (λ c. (c == chain) && nat_le p e.last) (sym (same e)) ∙ h))
set-row (e ∷ es) (suc i) new l same low chain p =
    ap (λ b. ((e.chain == chain) && nat_le p e.last) || b) (set-row es i new (omega arith) same low chain p)
    ∙ or-shifted ((e.chain == chain) && nat_le p e.last) (has_row es chain p) ((new.chain == chain) && nat_le p new.last)
