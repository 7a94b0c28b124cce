-- States that are worked on: entries that are put over a state without some keys.
use Rattle.std.proofs.Common.{◌≡◌, ℕ, Bool, true, false, cond, [], is_none, Option, Some, None, refl, sym, ap, ap₂, ◌∙◌}
use Rattle.std.specs.Option.{option_or}
use Rattle.std.specs.Ordering.{is_eq}
use Rattle.std.specs.FinMap.Entries.{put, is_sorted-put}
use Rattle.mx_pdu.specs.StateKeys.{Key}
use Rattle.mx_graph.specs.StateMap.{State, key_cmp, entry}
use Rattle.mx_states.specs.Entries.{overwritten}
use Rattle.mx_states.specs.Numbered.{edited, without}
use Rattle.mx_states.proofs.EntryLemmas.{entry-edited, entry-put, same-states, sorted-edited}
use Rattle.mx_states.proofs.KeyLemmas.{Sorted, key_cmp-total}
use Rattle.mx_states.proofs.OverwrittenLemmas.{overwritten-empty}
use Rattle.mx_state_res.specs.Numbered.{Edit, shown_by}

pub put-edited : (taken s puts : State) (k : Key) (p : ℕ) → Sorted s → Sorted puts → edited taken s (put key_cmp k p puts) ≡ put key_cmp k p (edited taken s puts)
put-edited taken s puts k p g h =
    same-states (edited taken s (put key_cmp k p puts)) (put key_cmp k p (edited taken s puts))
    (sorted-edited taken s (put key_cmp k p puts) g) (is_sorted-put key_cmp key_cmp-total k p (edited taken s puts) (sorted-edited taken s puts g))
    (λ q.
    let rest = cond (is_none (entry taken q)) (entry s q) None in
    entry-edited taken s (put key_cmp k p puts) q (is_sorted-put key_cmp key_cmp-total k p puts h)
    ∙ ap (λ o. option_or o rest) (entry-put q k p puts) ∙ by (is_eq (key_cmp q k)) (entry puts q) rest
    ∙ ap (cond (is_eq (key_cmp q k)) (Some p)) (sym (entry-edited taken s puts q h)) ∙ sym (entry-put q k p (edited taken s puts)))
  where
    by : (b : Bool) (x y : Option ℕ) → option_or (cond b (Some p) x) y ≡ cond b (Some p) (option_or x y)
    by true x y = refl
    by false x y = refl

pub found-put : (taken s puts : State) (q : Key) (p : ℕ) → Sorted puts → Some p ≡ entry puts q → Some p ≡ entry (edited taken s puts) q
found-put taken s puts q p h e = ap (λ o. option_or o (cond (is_none (entry taken q)) (entry s q) None)) e ∙ sym (entry-edited taken s puts q h)

pub found-taken : (taken s puts : State) (q : Key) → Sorted puts → None ≡ entry puts q → is_none (entry taken q) ≡ false → None ≡ entry (edited taken s puts) q
found-taken taken s puts q h e t = ap (cond false (entry s q)) refl ∙ ap₂ (λ o b. option_or o (cond b (entry s q) None)) e (sym t) ∙ sym (entry-edited taken s puts q h)

pub found-base : (taken s puts : State) (q : Key) → Sorted puts → None ≡ entry puts q → is_none (entry taken q) ≡ true → entry s q ≡ entry (edited taken s puts) q
found-base taken s puts q h e t = ap₂ (λ o b. option_or o (cond b (entry s q) None)) e (sym t) ∙ sym (entry-edited taken s puts q h)

-- over no state, what was put is all
pub puts-alone : (v : Edit) → Sorted v.1.1 → v.0 ≡ [] → v.1.1 ≡ shown_by v
puts-alone v h e = sym (overwritten-empty v.1.1 h) ∙ ap (λ s. overwritten (without v.1.0 s) v.1.1) (sym e)
