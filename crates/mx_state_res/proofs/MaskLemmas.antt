-- Masks, and the rows that wait with them.
use Rattle.std.proofs.Common.{◌≡◌, ℕ, zero, suc, ◌==◌, ◌≤◌, ◌<◌, Bool, true, false, not, cond, ◌&&◌, ◌||◌, inr, List, [], ◌∷◌, length, get_or, Option, Some, None, is_some, IsSome, Vec, refl, sym, ap, ap₂, ◌∙◌, arith, eq-eqb, eqb-true}
use Rattle.std.proofs.lemmas.Bool.Decides.{nat_tests}
use Rattle.std.proofs.lemmas.Map.Keys.{ge_from_not_lt}
use Rattle.std.proofs.lemmas.List.{get_or_past}
use Rattle.std.specs.List.{All, list_all, list_any}
use Rattle.std.specs.Ordering.{nat_cmp, is_eq, is_le, is_lt}
use Rattle.std.specs.BTreeMap.{get}
use Rattle.std.specs.Map.{lookup}
use Rattle.std.specs.BTreeSet.{BTreeSet, contains}
use Rattle.std.specs.declared.alloc.Global.{Global}
use Rattle.mx_graph.proofs.Closure.{or_left, is_in-to}
use Rattle.mx_state_res.proofs.SetLemmas.{all-at}
use Rattle.mx_state_res.specs.Masks.{Masks, has, mask_in, waits, is_there, lacks, AreKept, AreLow, IsTaken, AreSettled}
use Rattle.mx_state_res.specs.EventMasks.{AreWide}
use Rattle.mx_state_res.proofs.TestLemmas.{and-first, and-second, not-false, or-false}

pub tied : (p q : ℕ) → is_eq (nat_cmp p q) ≡ (p == q)
tied p q = grind (arith, nat_tests)

-- a full mask has each state
pub full-has : (bs : List Bool) (j : ℕ) → list_all (λ b. b) bs ≡ true → j < length bs → get_or bs j false ≡ true
full-has [] j e l = absurd (omega arith)
full-has (b ∷ bs) zero e l = and-first b _ e
full-has (b ∷ bs) (suc j) e l = full-has bs j (and-second b _ e) (omega arith)

pub has_none : (j : ℕ) → has [] j ≡ true → ⊥
has_none j e = cc (sym (get_or_past {X = Bool} [] j false (omega arith)) ∙ e)

-- where each row waits for all states, what waits for one waits for all
pub settled-common : (states : ℕ) (masks : Masks) (unsettled : BTreeSet ℕ) → AreKept states masks unsettled → AreSettled masks → (p i j : ℕ) → j < states → waits masks p i ≡ true → waits masks p j ≡ true
settled-common states masks unsettled kept settled p i j l w = by (get nat_cmp masks p) refl w
  where
    by : (o : Option (Vec Bool Global)) → get nat_cmp masks p ≡ o → has (mask_in o) i ≡ true → has (mask_in (get nat_cmp masks p)) j ≡ true
    by None is e = absurd (has_none i e)
    by (Some mask) is e =
        let wide : length mask.items ≡ states = kept.wide p mask is in
        ap (λ o. has (mask_in o) j) is ∙ full-has mask.items j (not-false _ (sym (ap lacks is) ∙ settled p)) (omega arith)

-- nothing is listed exactly where all are settled
pub none-listed : (states : ℕ) (masks : Masks) (unsettled : BTreeSet ℕ) → AreKept states masks unsettled → unsettled.keys ≡ [] → AreSettled masks
none-listed states masks unsettled kept empty p = sym (kept.listed p) ∙ ap (list_any (λ k. is_eq (nat_cmp p k))) empty

first-listed : (k : ℕ) (ks : List ℕ) → list_any (λ x. is_eq (nat_cmp k x)) (k ∷ ks) ≡ true
first-listed k ks = or_left (is_eq (nat_cmp k k)) _ (tied k k ∙ eq-eqb k k refl)

pub some-listed : (states : ℕ) (masks : Masks) (unsettled : BTreeSet ℕ) → AreKept states masks unsettled → (length unsettled.keys ≡ 0 → ⊥) → AreSettled masks → ⊥
some-listed states masks unsettled kept some settled = by unsettled.keys refl
  where
    by : (ks : List ℕ) → unsettled.keys ≡ ks → ⊥
    by [] e = some (ap length e)
    by (k ∷ ks) e = cc (sym (first-listed k ks) ∙ sym (ap (list_any (λ x. is_eq (nat_cmp k x))) e) ∙ kept.listed k ∙ settled k)

pub empty-keys : (xs : List ℕ) → length xs ≡ 0 → xs ≡ []
empty-keys [] e = refl
empty-keys (x ∷ xs) e = absurd (omega arith)

-- ---- a row is taken

module _ (states : ℕ) (old new : Masks) (before after : BTreeSet ℕ) (k : ℕ) (mask : Vec Bool Global) (kept : AreKept states old before)
    (had : get nat_cmp old k ≡ Some mask) (greatest : (q : ℕ) → IsSome (get nat_cmp old q) → is_lt (nat_cmp k q) ≡ false)
    (popped : (q : ℕ) → get nat_cmp new q ≡ cond (is_eq (nat_cmp k q)) None (get nat_cmp old q))
    (removed : (q : ℕ) → contains nat_cmp after q ≡ cond (is_eq (nat_cmp k q)) false (contains nat_cmp before q)) where
  pub taken-kept : AreKept states new after
  taken-kept = record { wide = λ q m e. wide q m e (is_eq (nat_cmp k q)) refl; listed = λ q. listed q (is_eq (nat_cmp k q)) refl }
    where
      wide : (q : ℕ) (m : Vec Bool Global) → get nat_cmp new q ≡ Some m → (b : Bool) → is_eq (nat_cmp k q) ≡ b → length m.items ≡ states
      wide q m e true f = absurd (cc (sym e ∙ popped q ∙ ap (λ b. cond b None (get nat_cmp old q)) f))
      wide q m e false f = kept.wide q m (sym (popped q ∙ ap (λ b. cond b None (get nat_cmp old q)) f) ∙ e)

      listed : (q : ℕ) (b : Bool) → is_eq (nat_cmp k q) ≡ b → contains nat_cmp after q ≡ lacks (get nat_cmp new q)
      listed q true f = removed q ∙ ap (λ b. cond b false (contains nat_cmp before q)) f ∙ sym (ap lacks (popped q ∙ ap (λ b. cond b None (get nat_cmp old q)) f))
      listed q false f =
          removed q ∙ ap (λ b. cond b false (contains nat_cmp before q)) f ∙ kept.listed q ∙ sym (ap lacks (popped q ∙ ap (λ b. cond b None (get nat_cmp old q)) f))

  some_from : (o : Option (Vec Bool Global)) → is_some o ≡ true → IsSome o
  some_from None e = absurd (cc e)
  some_from (Some m) e = search

  pub taken-is : IsTaken old new k mask.items
  taken-is =
      record {
        was_there = ap is_some had;
        had = ap mask_in had;
        greatest = λ q e. ge_from_not_lt k q (greatest q (some_from (get nat_cmp old q) e));
        others = λ q. popped q ∙ ap (λ b. cond b None (get nat_cmp old q)) (tied k q);
      }

-- ---- a row is marked

-- what is put into a map is put into one that is the same
pub put-first : (k : ℕ) (joined : Vec Bool Global) (first old new : Masks) → old ≡ first → ((q : ℕ) → get nat_cmp new q ≡ cond (is_eq (nat_cmp k q)) (Some joined) (get nat_cmp old q))
    → (q : ℕ) → get nat_cmp new q ≡ cond (is_eq (nat_cmp k q)) (Some joined) (get nat_cmp first q)
put-first k joined first old new same put q = put q ∙ ap (λ m. cond (is_eq (nat_cmp k q)) (Some joined) (get nat_cmp m q)) same

-- a mask is put at a row
module _ (old new : Masks) (k : ℕ) (joined : Vec Bool Global) (put : (q : ℕ) → get nat_cmp new q ≡ cond (is_eq (nat_cmp k q)) (Some joined) (get nat_cmp old q)) where
  put_at : (q : ℕ) (b : Bool) → is_eq (nat_cmp k q) ≡ b → get nat_cmp new q ≡ cond b (Some joined) (get nat_cmp old q)
  put_at q b f = put q ∙ ap (λ b. cond b (Some joined) (get nat_cmp old q)) f

  pub put-wide : (states : ℕ) → AreWide states old → length joined.items ≡ states → AreWide states new
  put-wide states wide long q m e = by (is_eq (nat_cmp k q)) refl
    where
      by : (b : Bool) → is_eq (nat_cmp k q) ≡ b → length m.items ≡ states
      by true f = ap (λ o. length (mask_in o)) (sym e ∙ put_at q true f) ∙ long
      by false f = wide q m (sym (put_at q false f) ∙ e)

  pub put-there : (p : ℕ) → is_there new p ≡ (is_there old p || (k == p))
  put-there p = ap is_some (put_at p (k == p) (tied k p)) ∙ by (k == p)
    where
      by : (b : Bool) → is_some (cond b (Some joined) (get nat_cmp old p)) ≡ (is_there old p || b)
      by true = sym (or-true (is_there old p))
        where
          or-true : (a : Bool) → (a || true) ≡ true
          or-true true = refl
          or-true false = refl
      by false = sym (or-false (is_there old p) false refl)

  pub put-waits : (mask : ℕ → Bool) → ((i : ℕ) → has joined.items i ≡ (waits old k i || mask i)) → (p i : ℕ) → waits new p i ≡ (waits old p i || ((k == p) && mask i))
  put-waits mask each p i = ap (λ o. has (mask_in o) i) (put_at p (k == p) (tied k p)) ∙ by (k == p) refl
    where
      by : (b : Bool) → (k == p) ≡ b → has (mask_in (cond b (Some joined) (get nat_cmp old p))) i ≡ (waits old p i || (b && mask i))
      by true e = each i ∙ ap (λ x. waits old x i || mask i) (eqb-true k p e)
      by false e = sym (or-false (waits old p i) false refl)

  module _ (states : ℕ) (before after : BTreeSet ℕ) (kept : AreKept states old before) (wide : length joined.items ≡ states) (full : Bool) (is_full : full ≡ list_all (λ b. b) joined.items)
      (moved : (q : ℕ) → contains nat_cmp after q ≡ cond (k == q) (not full) (contains nat_cmp before q)) where
    pub put-kept : AreKept states new after
    put-kept = record { wide = put-wide states kept.wide wide; listed = λ q. listed q (is_eq (nat_cmp k q)) refl }
      where
        moved_at : (q : ℕ) (b : Bool) → is_eq (nat_cmp k q) ≡ b → contains nat_cmp after q ≡ cond b (not full) (contains nat_cmp before q)
        moved_at q b f = moved q ∙ ap (λ b. cond b (not full) (contains nat_cmp before q)) (sym (tied k q) ∙ f)

        listed : (q : ℕ) (b : Bool) → is_eq (nat_cmp k q) ≡ b → contains nat_cmp after q ≡ lacks (get nat_cmp new q)
        listed q true f = moved_at q true f ∙ ap not is_full ∙ sym (ap lacks (put_at q true f))
        listed q false f = moved_at q false f ∙ kept.listed q ∙ sym (ap lacks (put_at q false f))

-- what is listed as unsettled
pub listed-by : (k q : ℕ) (common to old : Bool) → to ≡ not common → cond (is_eq (nat_cmp k q)) to old ≡ cond (k == q) (not common) old
listed-by k q common to old e = ap₂ (λ b t. cond b t old) (tied k q) e

-- what waits is there
pub waits-there : (masks : Masks) (p i : ℕ) → waits masks p i ≡ true → is_there masks p ≡ true
waits-there masks p i w = by (get nat_cmp masks p) w
  where
    by : (o : Option (Vec Bool Global)) → has (mask_in o) i ≡ true → is_some o ≡ true
    by None e = absurd (has_none i e)
    by (Some m) e = refl

-- ---- an empty map

get_in-empty : (masks : Masks) → masks.entries ≡ [] → (p : ℕ) → get nat_cmp masks p ≡ None
get_in-empty masks e p = ap (lookup (λ k. is_eq (nat_cmp p k))) e

pub empty-kept : (states : ℕ) (masks : Masks) (unsettled : BTreeSet ℕ) → masks.entries ≡ [] → unsettled.keys ≡ [] → AreKept states masks unsettled
empty-kept states masks unsettled e f =
    record {
      wide = λ p mask is. absurd (cc (sym (get_in-empty masks e p) ∙ is));
      listed = λ p. ap (list_any (λ k. is_eq (nat_cmp p k))) f ∙ sym (ap lacks (get_in-empty masks e p));
    }

no_entries : {A : Type 0} (xs : List A) → (0 < length xs → ⊥) → xs ≡ []
no_entries [] h = refl
no_entries (x ∷ xs) h = absurd (h (omega arith))

pub empty-settled : (masks : Masks) → (0 < length masks.entries → ⊥) → AreSettled masks
empty-settled masks h p = ap lacks (get_in-empty masks (no_entries masks.entries h) p)

-- ---- starts

lacks-there : (o : Option (Vec Bool Global)) → lacks o ≡ true → is_some o ≡ true
lacks-there None e = e
lacks-there (Some m) e = refl

-- the last of the starts is not after an event that is unsettled
pub low-from : (states : ℕ) (masks : Masks) (unsettled : BTreeSet ℕ) (starts : List ℕ) (last start : ℕ) → AreKept states masks unsettled → contains nat_cmp unsettled last ≡ true → All (λ q. is_lt (nat_cmp start q) ≡ false) starts → true ≡ is_le (nat_cmp start last) → AreLow masks starts
low-from states masks unsettled starts last start kept listed top e =
    let l : start ≤ last = grind (arith, nat_tests) in
    inr (λ s m.
    let k : s ≤ start = ge_from_not_lt start s (all-at (λ q. is_lt (nat_cmp start q) ≡ false) starts top s (is_in-to s starts m)) in
    (last, lacks-there (get nat_cmp masks last) (sym (kept.listed last) ∙ listed), omega arith))
