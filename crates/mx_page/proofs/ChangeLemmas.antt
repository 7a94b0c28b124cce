-- What differs between two states, read as changes.
use Rattle.std.proofs.Common.{◌≡◌, ◌++◌, ◌||◌, ℕ, Bool, true, false, not, List, [], ◌∷◌, Option, None, Some, cond, is_none, refl, sym, ap, ◌∙◌, eqb-true}
use Rattle.std.specs.List.{flat_map}
use Rattle.std.specs.Ordering.{is_eq}
use Rattle.mx_pdu.specs.StateKeys.{Key}
use Rattle.mx_graph.specs.StateMap.{State, entry, key_cmp}
use Rattle.mx_states.proofs.EntryLemmas.{entry-put, entry-where, equal-keys, same-states}
use Rattle.mx_states.proofs.KeyLemmas.{Sorted, key_cmp-itself, sorted-filter}
use Rattle.mx_states.proofs.PlaceLemmas.{sorted-put}
use Rattle.mx_page.specs.Changes.{Change, change_at, changed, changes, gone_at, same_event, with_change}

-- ---- a state with changes

entry-with : (s : State) (c : Change) (q : Key) → entry (with_change s c) q ≡ cond (is_eq (key_cmp q c.0)) c.1 (entry s q)
entry-with s (key, Some p) q = entry-put q key p s
entry-with s (key, None) q = entry-where (λ k. not (is_eq (key_cmp k key))) q s ∙ by (is_eq (key_cmp q key))
  where
    by : (b : Bool) → cond (not b) (entry s q) None ≡ cond b None (entry s q)
    by true = refl
    by false = refl

sorted-with : (s : State) (c : Change) → Sorted s → Sorted (with_change s c)
sorted-with s (key, Some p) h = sorted-put key p s h
sorted-with s (key, None) h = sorted-filter (λ e. not (is_eq (key_cmp e.0 key))) s h

sorted-changed : (cs : List Change) (s : State) → Sorted s → Sorted (changed s cs)
sorted-changed [] s h = h
sorted-changed (c ∷ cs) s h = sorted-changed cs (with_change s c) (sorted-with s c h)

-- one of the changes is of the key
abbrev tells : List Change → Key → Bool
tells [] q = false
tells (c ∷ cs) q = is_eq (key_cmp q c.0) || tells cs q

-- each of them says what stands in a state
abbrev AreOf : State → List Change → Type 0
AreOf new [] = Unit {0}
AreOf new (c ∷ cs) = (c.1 ≡ entry new c.0) × AreOf new cs

entry-changed : (new : State) (cs : List Change) (s : State) (q : Key) → AreOf new cs → entry (changed s cs) q ≡ cond (tells cs q) (entry new q) (entry s q)
entry-changed new [] s q h = refl
entry-changed new (c ∷ cs) s q h =
    entry-changed new cs (with_change s c) q h.1 ∙ ap (cond (tells cs q) (entry new q)) (entry-with s c q) ∙ by (is_eq (key_cmp q c.0)) (tells cs q) refl
  where
    by : (b t : Bool) → is_eq (key_cmp q c.0) ≡ b → cond t (entry new q) (cond b c.1 (entry s q)) ≡ cond (b || t) (entry new q) (entry s q)
    by true true e = refl
    by true false e = h.0 ∙ ap (entry new) (sym (equal-keys q c.0 e))
    by false t e = refl

-- ---- the changes between two states

is-same : (a b : Option ℕ) → same_event a b ≡ true → a ≡ b
is-same None None e = refl
is-same None (Some q) e = absurd (cc e)
is-same (Some p) None e = absurd (cc e)
is-same (Some p) (Some q) e = ap Some (eqb-true p q e)

tells-append : (cs ds : List Change) (q : Key) → tells (cs ++ ds) q ≡ (tells cs q || tells ds q)
tells-append [] ds q = refl
tells-append (c ∷ cs) ds q = ap (λ b. is_eq (key_cmp q c.0) || b) (tells-append cs ds q) ∙ by (is_eq (key_cmp q c.0))
  where
    by : (b : Bool) → (b || (tells cs q || tells ds q)) ≡ ((b || tells cs q) || tells ds q)
    by true = refl
    by false = refl

first-none : (a b : Bool) → (a || b) ≡ false → a ≡ false
first-none true b e = absurd (cc e)
first-none false b e = refl

second-none : (a b : Bool) → (a || b) ≡ false → b ≡ false
second-none true b e = absurd (cc e)
second-none false b e = e

-- a key that would be told of and is not is not there
none-step : (f : Key → List Change) (q : Key) (e : Key × ℕ) (rest : List Change) (es : State) → tells (f q) q ≡ true → (tells (f e.0) q || tells rest q) ≡ false → entry es q ≡ None
    → (b : Bool) → is_eq (key_cmp q e.0) ≡ b → cond b (Some e.1) (entry es q) ≡ None
none-step f q e rest es would apart later true c =
    let both : true ≡ false = sym would ∙ ap (λ k. tells (f k) q) (equal-keys q e.0 c) ∙ first-none (tells (f e.0) q) (tells rest q) apart in absurd (cc both)
none-step f q e rest es would apart later false c = later

none-told : (f : Key → List Change) (q : Key) → tells (f q) q ≡ true → (es : State) → tells (flat_map (λ e. f e.0) es) q ≡ false → entry es q ≡ None
none-told f q would [] h = refl
none-told f q would (e ∷ es) h =
    let rest : List Change = flat_map (λ e. f e.0) es in
    let apart : (tells (f e.0) q || tells rest q) ≡ false = sym (tells-append (f e.0) rest q) ∙ h in
    none-step f q e rest es would apart (none-told f q would es (second-none (tells (f e.0) q) (tells rest q) apart)) (is_eq (key_cmp q e.0)) refl

told-itself : (old new : State) (q : Key) → same_event (entry old q) (entry new q) ≡ false → tells (change_at old new q) q ≡ true
told-itself old new q differs =
    ap (λ b. tells (cond b [] ((q, entry new q) ∷ [])) q) differs ∙ ap (λ r. is_eq r || false) (key_cmp-itself q)

told-gone : (old new : State) (q : Key) → same_event (entry old q) (entry new q) ≡ false → entry new q ≡ None → tells (gone_at old new q) q ≡ true
told-gone old new q differs none =
    ap (λ b. tells (cond b (change_at old new q) []) q) (ap is_none none) ∙ told-itself old new q differs

-- at a key that is not told of the states are alike
untold : (old new : State) (q : Key) → tells (changes old new) q ≡ false → entry old q ≡ entry new q
unfolding changes
untold old new q h = by (same_event (entry old q) (entry new q)) refl
  where
    apart : (tells (flat_map (λ e. gone_at old new e.0) old) q || tells (flat_map (λ e. change_at old new e.0) new) q) ≡ false
    apart = sym (tells-append (flat_map (λ e. gone_at old new e.0) old) (flat_map (λ e. change_at old new e.0) new) q) ∙ h

    by : (b : Bool) → same_event (entry old q) (entry new q) ≡ b → entry old q ≡ entry new q
    by true same = is-same (entry old q) (entry new q) same
    by false differs =
        let none : entry new q ≡ None = none-told (change_at old new) q (told-itself old new q differs) new (second-none (tells (flat_map (λ e. gone_at old new e.0) old) q) (tells (flat_map (λ e. change_at old new e.0) new) q) apart) in
        none-told (gone_at old new) q (told-gone old new q differs none) old (first-none (tells (flat_map (λ e. gone_at old new e.0) old) q) (tells (flat_map (λ e. change_at old new e.0) new) q) apart) ∙ sym none

are-append : (new : State) (cs ds : List Change) → AreOf new cs → AreOf new ds → AreOf new (cs ++ ds)
are-append new [] ds h k = k
are-append new (c ∷ cs) ds h k = (h.0, are-append new cs ds h.1 k)

are-flat : (new : State) (f : Key → List Change) → ((k : Key) → AreOf new (f k)) → (es : State) → AreOf new (flat_map (λ e. f e.0) es)
are-flat new f h [] = tt
are-flat new f h (e ∷ es) = are-append new (f e.0) (flat_map (λ e. f e.0) es) (h e.0) (are-flat new f h es)

change-are : (old new : State) (k : Key) → AreOf new (change_at old new k)
change-are old new k = by (same_event (entry old k) (entry new k))
  where
    by : (b : Bool) → AreOf new (cond b [] ((k, entry new k) ∷ []))
    by true = tt
    by false = (refl, tt)

gone-are : (old new : State) (k : Key) → AreOf new (gone_at old new k)
gone-are old new k = by (is_none (entry new k))
  where
    by : (b : Bool) → AreOf new (cond b (change_at old new k) [])
    by true = change-are old new k
    by false = tt

changes-are : (old new : State) → AreOf new (changes old new)
unfolding changes
changes-are old new =
    are-append new (flat_map (λ e. gone_at old new e.0) old) (flat_map (λ e. change_at old new e.0) new)
    (are-flat new (gone_at old new) (gone-are old new) old) (are-flat new (change_at old new) (change-are old new) new)

-- read as changes of the old state they make the new one
pub changes-make : (old new : State) → Sorted old → Sorted new → changed old (changes old new) ≡ new
changes-make old new h k =
    same-states (changed old (changes old new)) new (sorted-changed (changes old new) old h) k
    (λ q. entry-changed new (changes old new) old q (changes-are old new) ∙ by q (tells (changes old new) q) refl)
  where
    by : (q : Key) (b : Bool) → tells (changes old new) q ≡ b → cond b (entry new q) (entry old q) ≡ entry new q
    by q true e = refl
    by q false e = untold old new q e
