-- States by the numbers of their keys.
use Rattle.std.proofs.Common.{◌≡◌, ℕ, zero, suc, ◌+◌, ◌<◌, ◌≤◌, Bool, true, false, cond, not, T, length, get_or, map, ◌++◌, List, [], ◌∷◌, Some, None, Result, Ok, Err, take, refl, sym, ap, subst, ◌∙◌, arith}
use Rattle.std.specs.Prelude.{Option, ◌||◌, All, OnOk, OnErr, is_some, option_map, unwrap_or}
use Rattle.std.specs.declared.cmp.Ordering.{Ordering}
use Rattle.std.specs.declared.cmp.Ordering.TheVariants.{Less, Equal, Greater}
use Rattle.std.specs.Option.{option_and_then, option_or}
use Rattle.std.specs.Ordering.{nat_cmp, is_eq, eq_by_cmp}
use Rattle.std.specs.Cmp.{nat_cmp_total, tied_itself}
use Rattle.std.specs.FinMap.{nat_cmp-IsAntisymmetric}
use Rattle.std.specs.FinMap.Entries.{find, put, where_key, below_all, by_order, is_sorted, find-put, is_sorted-put, same_entries}
use Rattle.std.proofs.lemmas.List.{take_more}
use Rattle.mx_pdu.specs.StateKeys.{Key}
use Rattle.mx_graph.specs.StateMap.{State, key_cmp}
use Rattle.mx_states.specs.KeyNumbers.{key_at, number_of, with_key, AreDistinct, shown, AllBelow, MapsBelow, AreGrown, AreShown, AreInOrder, in_order, has_number_in}
use Rattle.mx_states.specs.Numbered.{state_at}
use Rattle.mx_states.specs.SnapshotEntries.{change, changed, snapshot}
use Rattle.mx_states.proofs.KeyLemmas.{Sorted, both, first, second, less, key_cmp-total, key_cmp-same, key_cmp-itself, key_cmp-greater}
use Rattle.mx_states.proofs.PlaceLemmas.{put-greater, sorted-put}
use Rattle.mx_states.proofs.KeyNumberLemmas.{is_number, eq-same, with_key-distinct, with_key-grown, grown-none, grown-again}

abbrev Entries : Type 0
Entries = List (ℕ × ℕ)

-- ---- bounds

pub below-longer : {X : Type 0} (a b : ℕ) (es : List (ℕ × X)) → a ≤ b → AllBelow a es → AllBelow b es
below-longer a b [] l h = tt
below-longer a b (e ∷ es) l h = (omega (arith, h.0), below-longer a b es l h.1)

pub maps-longer : (a b : ℕ) (maps : List Entries) → a ≤ b → MapsBelow a maps → MapsBelow b maps
maps-longer a b [] l h = tt
maps-longer a b (m ∷ maps) l h = (below-longer a b m l h.0, maps-longer a b maps l h.1)

pub below-push : {X : Type 0} (n : ℕ) (es : List (ℕ × X)) (e : ℕ × X) → AllBelow n es → e.0 < n → AllBelow n (es ++ e ∷ [])
below-push n [] e h l = (l, tt)
below-push n (x ∷ es) e h l = (h.0, below-push n es e h.1 l)

pub maps-push : (n : ℕ) (maps : List Entries) (m : Entries) → MapsBelow n maps → AllBelow n m → MapsBelow n (maps ++ m ∷ [])
maps-push n [] m h k = (k, tt)
maps-push n (x ∷ maps) m h k = (h.0, maps-push n maps m h.1 k)

pub below-at : (n : ℕ) (maps : List Entries) (i : ℕ) → MapsBelow n maps → AllBelow n (snapshot maps i)
below-at n [] i h = tt
below-at n (m ∷ maps) zero h = h.0
below-at n (m ∷ maps) (suc i) h = below-at n maps i h.1

pub below-put : (n k v : ℕ) (es : Entries) → k < n → AllBelow n es → AllBelow n (put nat_cmp k v es)
below-put n k v [] l h = (l, tt)
below-put n k v (e ∷ es) l h = by (nat_cmp k e.0) (below-put n k v es l h.1)
  where
    by : (r : Ordering) → AllBelow n (put nat_cmp k v es) → AllBelow n (by_order r ((k, v) ∷ e ∷ es) ((e.0, v) ∷ es) (e ∷ put nat_cmp k v es))
    by Less rest = (l, h)
    by Equal rest = h
    by Greater rest = (h.0, rest)

below-where : (n : ℕ) (p : ℕ → Bool) (es : Entries) → AllBelow n es → AllBelow n (where_key nat_cmp p es)
below-where n p [] h = tt
below-where n p (e ∷ es) h = by (p e.0) (below-where n p es h.1)
  where
    by : (b : Bool) → AllBelow n (where_key nat_cmp p es) → AllBelow n (cond b (e ∷ where_key nat_cmp p es) (where_key nat_cmp p es))
    by true rest = (h.0, rest)
    by false rest = rest

pub below-changed : (n : ℕ) (cs : List (ℕ × Option ℕ)) (es : Entries) → AllBelow n cs → AllBelow n es → AllBelow n (changed cs es)
below-changed n [] es h k = k
below-changed n (c ∷ cs) es h k = by c.1 (below-changed n cs es h.1 k)
  where
    by : (v : Option ℕ) → AllBelow n (changed cs es) → AllBelow n (change c.0 v (changed cs es))
    by (Some v) rest = below-put n c.0 v (changed cs es) h.0 rest
    by None rest = below-where n (λ x. not (eq_by_cmp nat_cmp c.0 x)) (changed cs es) rest

-- ---- what stands at a key

pub bool_same : (a b : Bool) → (a ≡ true → b ≡ true) → (b ≡ true → a ≡ true) → a ≡ b
bool_same true b f g = sym (f refl)
bool_same false true f g = g refl
bool_same false false f g = refl

pub nat_same : (j k : ℕ) → eq_by_cmp nat_cmp j k ≡ true → j ≡ k
nat_same j k e = nat_cmp-IsAntisymmetric j k (by (nat_cmp j k) e)
  where
    by : (r : Ordering) → is_eq r ≡ true → r ≡ Equal
    by Less h = absurd (cc h)
    by Equal h = refl
    by Greater h = absurd (cc h)

nat_itself : (k : ℕ) → eq_by_cmp nat_cmp k k ≡ true
nat_itself k = ap is_eq (tied_itself nat_cmp_total k)

pub key-itself : (k : Key) → eq_by_cmp key_cmp k k ≡ true
key-itself k = ap is_eq (key_cmp-itself k)

same_some : {X : Type 0} (x y : X) → Some x ≡ Some y → x ≡ y
same_some x y e = ap (λ o. unwrap_or o x) e

-- keys are alike where their numbers are
pub same-number : (keys : List Key) (q : Key) (n x : ℕ) → AreDistinct keys → x < length keys → number_of keys q ≡ Some n → eq_by_cmp nat_cmp n x ≡ eq_by_cmp key_cmp q (key_at keys x)
same-number keys q n x h l e = bool_same _ _ there back
  where
    there : eq_by_cmp nat_cmp n x ≡ true → eq_by_cmp key_cmp q (key_at keys x) ≡ true
    there t =
        let same : n ≡ x = nat_same n x t in
        let k : q ≡ key_at keys x = sym (is_number keys q n e).has ∙ ap (key_at keys) same in
        subst (λ z. eq_by_cmp key_cmp q z ≡ true) k (key-itself q)

    back : eq_by_cmp key_cmp q (key_at keys x) ≡ true → eq_by_cmp nat_cmp n x ≡ true
    back t =
        let same : n ≡ x = same_some n x (sym e ∙ ap (number_of keys) (eq-same q (key_at keys x) t) ∙ h x l) in
        subst (λ z. eq_by_cmp nat_cmp n z ≡ true) same (nat_itself n)

-- what a function of numbers gives at the number of a key
abbrev pub at_number : {X : Type 0} → List Key → (ℕ → Option X) → Key → Option X
at_number keys f q = option_and_then f (number_of keys q)

pub at_number-put : {X : Type 0} (keys : List Key) (f : ℕ → Option X) (q : Key) (x : ℕ) (v : Option X) → AreDistinct keys → x < length keys
    → at_number keys (λ n. cond (eq_by_cmp nat_cmp n x) v (f n)) q ≡ cond (eq_by_cmp key_cmp q (key_at keys x)) v (at_number keys f q)
at_number-put {X} keys f q x v h l = by (number_of keys q) refl
  where
    none : number_of keys q ≡ None → (b : Bool) → eq_by_cmp key_cmp q (key_at keys x) ≡ b → None ≡ cond b v None
    none e true t = let wrong : None ≡ Some x = sym e ∙ ap (number_of keys) (eq-same q (key_at keys x) t) ∙ h x l in absurd (cc wrong)
    none e false t = refl

    by : (o : Option ℕ) → number_of keys q ≡ o → option_and_then (λ n. cond (eq_by_cmp nat_cmp n x) v (f n)) o ≡ cond (eq_by_cmp key_cmp q (key_at keys x)) v (option_and_then f o)
    by None e = none e (eq_by_cmp key_cmp q (key_at keys x)) refl
    by (Some n) e = ap (λ b. cond b v (f n)) (same-number keys q n x h l e)

nothing : {X : Type 0} (o : Option ℕ) → None ≡ option_and_then {U = X} (λ n. None) o
nothing None = refl
nothing (Some n) = refl

pub find-shown : (keys : List Key) (m : Entries) (q : Key) → AreDistinct keys → AllBelow (length keys) m → find key_cmp q (shown keys m) ≡ at_number keys (λ n. find nat_cmp n m) q
find-shown keys [] q h l = nothing (number_of keys q)
find-shown keys (e ∷ m) q h l =
    find-put key_cmp key_cmp-total q (key_at keys e.0) e.1 (shown keys m)
    ∙ ap (cond (eq_by_cmp key_cmp q (key_at keys e.0)) (Some e.1)) (find-shown keys m q h l.1)
    ∙ sym (at_number-put keys (λ n. find nat_cmp n m) q e.0 (Some e.1) h l.0)

pub sorted-shown : (keys : List Key) (m : Entries) → Sorted (shown keys m)
sorted-shown keys [] = tt
sorted-shown keys (e ∷ m) = sorted-put (key_at keys e.0) e.1 (shown keys m) (sorted-shown keys m)

pub same_states : (s t : State) → Sorted s → Sorted t → ((q : Key) → find key_cmp q s ≡ find key_cmp q t) → s ≡ t
same_states = same_entries key_cmp key_cmp-total key_cmp-same

pub at_same : {X : Type 0} (keys : List Key) (f g : ℕ → Option X) (q : Key) → ((n : ℕ) → f n ≡ g n) → at_number keys f q ≡ at_number keys g q
at_same {X} keys f g q h = by (number_of keys q)
  where
    by : (o : Option ℕ) → option_and_then f o ≡ option_and_then g o
    by None = refl
    by (Some n) = h n

pub shown-put : (keys : List Key) (n v : ℕ) (m : Entries) → AreDistinct keys → n < length keys → AllBelow (length keys) m
    → shown keys (put nat_cmp n v m) ≡ put key_cmp (key_at keys n) v (shown keys m)
shown-put keys n v m h l below =
    same_states _ _ (sorted-shown keys (put nat_cmp n v m)) (sorted-put (key_at keys n) v (shown keys m) (sorted-shown keys m))
    (λ q. find-shown keys (put nat_cmp n v m) q h (below-put (length keys) n v m l below)
    ∙ at_same keys (λ j. find nat_cmp j (put nat_cmp n v m)) (λ j. cond (eq_by_cmp nat_cmp j n) (Some v) (find nat_cmp j m)) q (λ j. find-put nat_cmp nat_cmp_total j n v m)
    ∙ at_number-put keys (λ j. find nat_cmp j m) q n (Some v) h l
    ∙ ap (cond (eq_by_cmp key_cmp q (key_at keys n)) (Some v)) (sym (find-shown keys m q h below))
    ∙ sym (find-put key_cmp key_cmp-total q (key_at keys n) v (shown keys m)))

-- ---- more keys

pub shown-grown : (old new : List Key) (m : Entries) → AreGrown old new → AllBelow (length old) m → shown new m ≡ shown old m
shown-grown old new [] g h = refl
shown-grown old new (e ∷ m) g h = ap (λ k. put key_cmp k e.1 (shown new m)) (g.kept e.0 h.0) ∙ ap (put key_cmp (key_at old e.0) e.1) (shown-grown old new m g h.1)

pub maps-grown : (old new : List Key) (maps : List Entries) → AreGrown old new → MapsBelow (length old) maps → map (shown new) maps ≡ map (shown old) maps
maps-grown old new [] g h = refl
maps-grown old new (m ∷ maps) g h = ap (λ s. s ∷ map (shown new) maps) (shown-grown old new m g h.0) ∙ ap (λ ss. shown old m ∷ ss) (maps-grown old new maps g h.1)

-- ---- states by their numbers

pub shown-at : (keys : List Key) (maps : List Entries) (i : ℕ) → state_at (map (shown keys) maps) i ≡ shown keys (snapshot maps i)
shown-at keys [] i = refl
shown-at keys (m ∷ maps) zero = refl
shown-at keys (m ∷ maps) (suc i) = shown-at keys maps i

pub map-push : {X Y : Type 0} (f : X → Y) (xs : List X) (x : X) → map f (xs ++ x ∷ []) ≡ map f xs ++ f x ∷ []
map-push f [] x = refl
map-push f (y ∷ xs) x = ap (λ ys. f y ∷ ys) (map-push f xs x)

-- the states with one more, whose entries are below the count of the keys
pub shown-push : (old new : List Key) (maps grown : List Entries) (m : Entries) (all : List State) → AreGrown old new → MapsBelow (length old) maps → grown ≡ maps ++ m ∷ []
    → map (shown old) maps ≡ all → map (shown new) grown ≡ all ++ shown new m ∷ []
shown-push old new maps grown m all g h e is =
    ap (map (shown new)) e ∙ map-push (shown new) maps m ∙ ap (λ ss. ss ++ shown new m ∷ []) (maps-grown old new maps g h ∙ is)

pub are_shown-push : (old new : List Key) (maps grown : List Entries) (m : Entries) → AreShown old maps → AreGrown old new → AreDistinct new → grown ≡ maps ++ m ∷ [] → AllBelow (length new) m → AreShown new grown
are_shown-push old new maps grown m h g d e k = record {
  distinct = d;
  below = subst (MapsBelow (length new)) (sym e) (maps-push (length new) maps m (maps-longer (length old) (length new) maps g.longer h.below) k);
}

pub are_shown-grown : (old new : List Key) (maps : List Entries) → AreShown old maps → AreGrown old new → AreDistinct new → AreShown new maps
are_shown-grown old new maps h g d = record { distinct = d; below = maps-longer (length old) (length new) maps g.longer h.below }

-- ---- what adding a snapshot answers

pub are_shown-step : {E : Type 0} (r : Result ℕ E) (old new : List Key) (maps grown : List Entries) (m : Entries) → AreShown old maps → AreGrown old new → AreDistinct new → AllBelow (length new) m
    → OnOk r (grown ≡ maps ++ m ∷ []) → OnErr r (grown ≡ maps) → AreShown new grown
are_shown-step (Ok n) old new maps grown m h g d k e f = are_shown-push old new maps grown m h g d e k
are_shown-step (Err x) old new maps grown m h g d k e f = subst (AreShown new) (sym f) (are_shown-grown old new maps h g d)

pub states-added : {E : Type 0} (r : Result ℕ E) (old new : List Key) (maps grown : List Entries) (m : Entries) (all : List State) (s : State) → AreShown old maps → AreGrown old new
    → OnOk r (grown ≡ maps ++ m ∷ []) → map (shown old) maps ≡ all → shown new m ≡ s → OnOk r (map (shown new) grown ≡ all ++ s ∷ [])
states-added (Ok n) old new maps grown m all s h g e is k = shown-push old new maps grown m all g h.below e is ∙ ap (λ t. all ++ t ∷ []) k
states-added (Err x) old new maps grown m all s h g e is k = tt

pub states-kept : {E : Type 0} (r : Result ℕ E) (old new : List Key) (maps grown : List Entries) (all : List State) → AreShown old maps → AreGrown old new
    → OnErr r (grown ≡ maps) → map (shown old) maps ≡ all → OnErr r (map (shown new) grown ≡ all)
states-kept (Ok n) old new maps grown all h g e is = tt
states-kept (Err x) old new maps grown all h g e is = ap (map (shown new)) e ∙ maps-grown old new maps g h.below ∙ is

-- ---- entries one by one

pub at-index : {X : Type 0} (n : ℕ) (es : List (ℕ × X)) (i : ℕ) (d : ℕ × X) → AllBelow n es → i < length es → (get_or es i d).0 < n
at-index n [] i d h l = absurd (omega arith)
at-index n (e ∷ es) zero d h l = h.0
at-index n (e ∷ es) (suc i) d h l = at-index n es i d h.1 (omega arith)

or_none : {X : Type 0} (o : Option X) → option_or o None ≡ o
or_none None = refl
or_none (Some x) = refl

-- a state with the entries at these numbers put over it, one after another
abbrev pub walked : List Key → Entries → List ℕ → State → State
walked keys m [] s = s
walked keys m (n ∷ numbers) s = walked keys m numbers (unwrap_or (option_map (λ v. put key_cmp (key_at keys n) v s) (find nat_cmp n m)) s)

-- one number more, with what stands at it
pub walked-step : (keys : List Key) (m : Entries) (numbers rest : List ℕ) (n : ℕ) (o : Option ℕ) (s after : State) → numbers ≡ n ∷ rest → find nat_cmp n m ≡ o
    → after ≡ unwrap_or (option_map (λ v. put key_cmp (key_at keys n) v s) o) s → walked keys m rest after ≡ walked keys m numbers s
walked-step keys m numbers rest n o s after d e is =
    ap (walked keys m rest) (is ∙ ap (λ (r : Option ℕ). unwrap_or (option_map (λ v. put key_cmp (key_at keys n) v s) r) s) (sym e)) ∙ ap (λ ns. walked keys m ns s) (sym d)

sorted-one : (k : Key) (o : Option ℕ) (s : State) → Sorted s → Sorted (unwrap_or (option_map (λ v. put key_cmp k v s) o) s)
sorted-one k None s h = h
sorted-one k (Some v) s h = sorted-put k v s h

sorted-walked : (keys : List Key) (m : Entries) (numbers : List ℕ) (s : State) → Sorted s → Sorted (walked keys m numbers s)
sorted-walked keys m [] s h = h
sorted-walked keys m (n ∷ numbers) s h =
    sorted-walked keys m numbers (unwrap_or (option_map (λ v. put key_cmp (key_at keys n) v s) (find nat_cmp n m)) s) (sorted-one (key_at keys n) (find nat_cmp n m) s h)

find-one : (q k : Key) (o : Option ℕ) (s : State) → find key_cmp q (unwrap_or (option_map (λ v. put key_cmp k v s) o) s) ≡ cond (eq_by_cmp key_cmp q k) (option_or o (find key_cmp q s)) (find key_cmp q s)
find-one q k (Some v) s = find-put key_cmp key_cmp-total q k v s
find-one q k None s = same (eq_by_cmp key_cmp q k) (find key_cmp q s)
  where
    same : (b : Bool) (o : Option ℕ) → o ≡ cond b o o
    same true o = refl
    same false o = refl

twice : (o r : Option ℕ) (b : Bool) → cond b (option_or o (option_or o r)) (option_or o r) ≡ option_or o r
twice None r true = refl
twice None r false = refl
twice (Some x) r true = refl
twice (Some x) r false = refl

find-walked : (keys : List Key) (m : Entries) (numbers : List ℕ) (s : State) (q : Key) → AreDistinct keys → All (λ n. n < length keys) numbers
    → find key_cmp q (walked keys m numbers s) ≡ cond (has_number_in keys numbers q) (option_or (at_number keys (λ n. find nat_cmp n m) q) (find key_cmp q s)) (find key_cmp q s)
find-walked keys m [] s q h b = refl
find-walked keys m (n ∷ numbers) s q h b =
    find-walked keys m numbers next q h (λ k d l. b (suc k) d (omega arith))
    ∙ ap (λ o. cond rest (option_or at o) o) (find-one q (key_at keys n) (find nat_cmp n m) s)
    ∙ by (eq_by_cmp key_cmp q (key_at keys n)) refl
  where
    next : State
    next = unwrap_or (option_map (λ v. put key_cmp (key_at keys n) v s) (find nat_cmp n m)) s

    rest : Bool
    rest = has_number_in keys numbers q

    at : Option ℕ
    at = at_number keys (λ j. find nat_cmp j m) q

    here : eq_by_cmp key_cmp q (key_at keys n) ≡ true → find nat_cmp n m ≡ at
    here t = sym (ap (option_and_then (λ j. find nat_cmp j m)) (ap (number_of keys) (eq-same q (key_at keys n) t) ∙ h n (b zero n (omega arith))))

    by : (c : Bool) → eq_by_cmp key_cmp q (key_at keys n) ≡ c
        → cond rest (option_or at (cond c (option_or (find nat_cmp n m) (find key_cmp q s)) (find key_cmp q s))) (cond c (option_or (find nat_cmp n m) (find key_cmp q s)) (find key_cmp q s))
        ≡ cond (c || rest) (option_or at (find key_cmp q s)) (find key_cmp q s)
    by true t = ap (λ o. cond rest (option_or at (option_or o (find key_cmp q s))) (option_or o (find key_cmp q s))) (here t) ∙ twice at (find key_cmp q s) rest
    by false t = refl

-- a key that has a number is among the keys in their order
in_order-has : (keys : List Key) (numbers : List ℕ) (q : Key) → is_some (find key_cmp q (in_order keys numbers)) ≡ has_number_in keys numbers q
in_order-has keys [] q = refl
in_order-has keys (n ∷ numbers) q = by (eq_by_cmp key_cmp q (key_at keys n)) (in_order-has keys numbers q)
  where
    by : (b : Bool) → is_some (find key_cmp q (in_order keys numbers)) ≡ has_number_in keys numbers q
        → is_some (cond b (Some n) (find key_cmp q (in_order keys numbers))) ≡ (b || has_number_in keys numbers q)
    by true h = refl
    by false h = h

pub walked-is : (keys : List Key) (m : Entries) (numbers : List ℕ) → AreDistinct keys → AllBelow (length keys) m → AreInOrder keys numbers → walked keys m numbers [] ≡ shown keys m
walked-is keys m numbers h b o =
    same_states _ _ (sorted-walked keys m numbers [] tt) (sorted-shown keys m)
    (λ q. find-walked keys m numbers [] q h o.below ∙ by q (number_of keys q) (sym (in_order-has keys numbers q) ∙ ap is_some (o.found q)) ∙ sym (find-shown keys m q h b))
  where
    by : (q : Key) (r : Option ℕ) → has_number_in keys numbers q ≡ is_some r
        → cond (has_number_in keys numbers q) (option_or (option_and_then (λ n. find nat_cmp n m) r) None) None ≡ option_and_then (λ n. find nat_cmp n m) r
    by q None e = ap (λ c. cond c (option_or (option_and_then (λ n. find nat_cmp n m) None) None) None) e
    by q (Some n) e = ap (λ c. cond c (option_or (find nat_cmp n m) None) None) e ∙ or_none (find nat_cmp n m)

-- ---- entries in their order

below-take : (k : Key) (s : State) (n : ℕ) → T (below_all key_cmp k s) → T (below_all key_cmp k (take n s))
below-take k [] zero h = tt
below-take k [] (suc n) h = tt
below-take k (e ∷ s) zero h = tt
below-take k (e ∷ s) (suc n) h = both _ _ (first _ _ h) (below-take k s n (second _ _ h))

sorted-take : (s : State) (n : ℕ) → Sorted s → Sorted (take n s)
sorted-take [] zero h = tt
sorted-take [] (suc n) h = tt
sorted-take (e ∷ s) zero h = tt
sorted-take (e ∷ s) (suc n) h = both _ _ (below-take e.0 s n (first _ _ h)) (sorted-take s n (second _ _ h))

below-last : (j k : Key) (v : ℕ) (s : State) → T (below_all key_cmp j (s ++ (k, v) ∷ [])) → key_cmp j k ≡ Less
below-last j k v [] h = less _ (first _ _ h)
below-last j k v (e ∷ s) h = below-last j k v s (second _ _ h)

put-last : (k : Key) (v : ℕ) (s : State) → Sorted (s ++ (k, v) ∷ []) → put key_cmp k v s ≡ s ++ (k, v) ∷ []
put-last k v [] h = refl
put-last k v (e ∷ s) h = put-greater k v e s (key_cmp-greater e.0 k (below-last e.0 k v s (first _ _ h))) ∙ ap (λ t. e ∷ t) (put-last k v s (second _ _ h))

-- what the entries gathered so far keep
pub record AreEntries (first keys : List Key) (entries : Entries) (s : State) : Type 0 where
  pub grown : AreGrown first keys
  pub distinct : AreDistinct keys
  pub below : AllBelow (length keys) entries
  pub sorted : T (is_sorted nat_cmp entries)
  pub so_far : shown keys entries ≡ s

pub entries-none : (keys : List Key) → AreDistinct keys → AreEntries keys keys [] []
entries-none keys h = record { grown = grown-none keys; distinct = h; below = tt; sorted = tt; so_far = refl }

pub entries-more : (first keys new : List Key) (entries after : Entries) (s : State) (i n : ℕ) (key : Key) (v : ℕ) (d : Key × ℕ) → AreEntries first keys entries (take i s) → new ≡ with_key keys key
    → number_of new key ≡ Some n → after ≡ put nat_cmp n v entries → Sorted s → i < length s → get_or s i d ≡ (key, v) → AreEntries first new after (take (i + 1) s)
entries-more start keys new entries after s i n key v d h e number is order l at = record {
  grown = grown-again start keys new h.grown g;
  distinct = distinct;
  below = subst (AllBelow (length new)) (sym is) (below-put (length new) n v entries bound below);
  sorted = subst (λ m. T (is_sorted nat_cmp m)) (sym is) (is_sorted-put nat_cmp nat_cmp_total n v entries h.sorted);
  so_far = ap (shown new) is ∙ shown-put new n v entries distinct bound below ∙ ap (λ k. put key_cmp k v (shown new entries)) (is_number new key n number).has
      ∙ ap (put key_cmp key v) (shown-grown keys new entries g h.below ∙ h.so_far) ∙ put-last key v (take i s) (subst Sorted next (sorted-take s (i + 1) order)) ∙ sym next;
}
  where
    g : AreGrown keys new
    g = subst (AreGrown keys) (sym e) (with_key-grown keys key)

    distinct : AreDistinct new
    distinct = subst AreDistinct (sym e) (with_key-distinct keys key h.distinct)

    below : AllBelow (length new) entries
    below = below-longer (length keys) (length new) entries g.longer h.below

    bound : n < length new
    bound = (is_number new key n number).below

    next : take (i + 1) s ≡ take i s ++ (key, v) ∷ []
    next = take_more s i d l ∙ ap (λ x. take i s ++ x ∷ []) at

pub entry_of : (e : Key × ℕ) (kind state_key : List ℕ) (event : ℕ) → kind ≡ e.0.0 → state_key ≡ e.0.1 → event ≡ e.1 → e ≡ ((kind, state_key), event)
entry_of e kind state_key event p q r = λ i. ((sym p i, sym q i), sym r i)

-- ---- the entries of numbered states

pub state-shown : (keys : List Key) (maps : List Entries) (all : List State) (i : ℕ) → map (shown keys) maps ≡ all → state_at all i ≡ shown keys (snapshot maps i)
state-shown keys maps all i is = sym (sym (shown-at keys maps i) ∙ ap (λ ss. state_at ss i) is)

pub entry-shown : (keys : List Key) (maps : List Entries) (all : List State) (i : ℕ) (q : Key) → AreShown keys maps → map (shown keys) maps ≡ all
    → find key_cmp q (state_at all i) ≡ at_number keys (λ n. find nat_cmp n (snapshot maps i)) q
entry-shown keys maps all i q h is = ap (find key_cmp q) (state-shown keys maps all i is) ∙ find-shown keys (snapshot maps i) q h.distinct (below-at (length keys) maps i h.below)

pub on_err : {A E : Type 0} (r : Result A E) (P : Type 0) → P → OnErr r P
on_err (Ok x) P p = tt
on_err (Err x) P p = p

-- ---- the first ones

pub map-take : {X Y : Type 0} (f : X → Y) (n : ℕ) (xs : List X) → map f (take n xs) ≡ take n (map f xs)
map-take f zero xs = refl
map-take f (suc n) [] = refl
map-take f (suc n) (x ∷ xs) = ap (λ ys. f x ∷ ys) (map-take f n xs)

maps-take : (bound n : ℕ) (maps : List Entries) → MapsBelow bound maps → MapsBelow bound (take n maps)
maps-take bound zero maps h = tt
maps-take bound (suc n) [] h = tt
maps-take bound (suc n) (m ∷ maps) h = (h.0, maps-take bound n maps h.1)

pub are_shown-take : (n : ℕ) (keys : List Key) (maps : List Entries) → AreShown keys maps → AreShown keys (take n maps)
are_shown-take n keys maps h = record { distinct = h.distinct; below = maps-take (length keys) n maps h.below }
