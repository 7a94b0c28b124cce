use Rattle.std.proofs.Common.{◌≡◌, ◌<◌, ℕ, List, [], ◌∷◌, Some, sym, ap, subst, arith, ◌∙◌}
use Rattle.std.specs.Prelude.{option_copied, slice_get}
use Rattle.std.specs.List.{All}
use Rattle.mx_page.specs.Page.{first_of}
use Rattle.mx_page.proofs.page_entries.first_prev_event.Goals as goal

first-below : (p : ℕ) (xs : List ℕ) (n : ℕ) → All (λ q. q < p) xs → slice_get xs 0 ≡ Some n → n < p
first-below p [] n h e = absurd (cc e)
first-below p (x ∷ xs) n h e = let is : x ≡ n = cc e in let l : x < p = h 0 x (omega arith) in subst (λ q. q < p) is l

pub returns-in-Some-clause-first : goal.returns-in-Some-clause-first
returns-in-Some-clause-first c = sym (sym c.first.ensures.value ∙ ap option_copied c.in-Some.is) ∙ ap first_of c.prev_events.ensures.cited

pub returns-in-Some-clause-below : goal.returns-in-Some-clause-below
returns-in-Some-clause-below c =
    let low = first-below c.args.number c.prev_events.result.now _ c.prev_events.ensures.lower (sym c.first.ensures.value ∙ ap option_copied c.in-Some.is) in
    omega (arith, low)

pub returns-in-None-clause-first : goal.returns-in-None-clause-first
returns-in-None-clause-first c = sym (sym c.first.ensures.value ∙ ap option_copied c.in-None.is) ∙ ap first_of c.prev_events.ensures.cited
