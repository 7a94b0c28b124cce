-- A cache of resolutions, as its room grows.
use Rattle.std.proofs.Common.{◌≡◌, ◌<◌, ◌==◌, ◌||◌, ◌++◌, ◌⊎◌, inl, inr, ℕ, suc, Bool, true, false, cond, nat_eq, List, [], ◌∷◌, map, length, refl, sym, ap, subst, ◌∙◌, arith, eqb-true, Contains, IfSome, Option, Some, None}
use Rattle.std.proofs.lemmas.List.Elements.{All-get_or, All-map}
use Rattle.std.proofs.lemmas.Bool.Decides.{Decides-eqb}
use Rattle.std.proofs.lemmas.Slice.Eq.{slice_eq-Decides}
use Rattle.std.specs.Prelude.{get_or, OnErr, OnOk, Result, Ok, Err}
use Rattle.std.specs.Cmp.Lexicographic.{pointwise}
use Rattle.std.specs.Map.{lookup}
use Rattle.std.specs.List.{All, dedup, dedup_from}
use Rattle.lru.specs.LruCache.{LruCache, lru_cache, put_entries}
use Rattle.lru.proofs.CallerLemmas.{Contains-lookup, Contains-put_entries}
use Rattle.lru.proofs.Splits.{Contains-nil}
use Rattle.mx_graph.specs.Graph.{IsSound}
use Rattle.mx_graph.specs.Record.{Row, is_in}
use Rattle.mx_graph.specs.StateMap.{State, entry}
use Rattle.mx_states.specs.Numbered.{AllAlike, state_at}
use Rattle.mx_state_res.specs.Numbered.{AreAdded, AreKnown}
use Rattle.mx_state_res.specs.Resolution.{resolve}
use Rattle.mx_state_res.proofs.ResolvingLemmas.{resolve-none}
use Rattle.mx_state_res.proofs.EqualStateLemmas.{resolve-same}
use Rattle.mx_states.proofs.KeyLemmas.{Sorted}
use Rattle.mx_state_res.proofs.LongerRecordLemmas.{resolve-longer}
use Rattle.mx_auth.specs.declared.versions.RoomVersion.{RoomVersion}
use Rattle.mx_auth.specs.declared.versions.RoomVersion.TheVariants.{V6}
use Rattle.mx_graph.proofs.LongerRecordLemmas.{longer-push}
use Rattle.mx_pdu.specs.StateKeys.{Key}
use Rattle.mx_state_res.specs.KeptResolutions.{IsKept, states_of}
use Rattle.mx_state_res.specs.declared.kept_resolutions.KeptResolution.{KeptResolution}
use Rattle.mx_state_res.proofs.KeptGrowthLemmas.{kept-longer, option-grown}
use Rattle.mx_receipt.specs.Receipt.{created_version, resolve_in, version_in}
use Rattle.mx_receipt.specs.Resolutions.{AreResolutions, AreRight, IsResolution}
use Rattle.mx_receipt.specs.declared.resolution_cache.ResolutionCache.{ResolutionCache}
use Rattle.mx_receipt.specs.declared.resolution_cache.StateList.{StateList}
use Rattle.mx_receipt.proofs.HeldLemmas.{grown-length, grown-state, known-longer, one-longer}

-- ---- resolutions

same-states : (old more new : List State) → new ≡ old ++ more → (ns : List ℕ) → All (λ n. n < length old) ns → map (state_at new) ns ≡ map (state_at old) ns
same-states old more new are [] h = refl
same-states old more new are (n ∷ ns) h = λ i.
    grown-state old more new n are (h 0 n (omega arith)) i ∷ same-states old more new are ns (λ k d l. h (suc k) d (omega arith)) i

module _ (rows : List Row) (old more new : List State) (are : new ≡ old ++ more) (ns : List ℕ) where
  below-grown : All (λ n. n < length old) ns → All (λ n. n < length new) ns
  below-grown h = λ k d l. grown-length old more new (get_or ns k d) are (h k d l)

  -- states that were added change none
  resolution-grown : (s : ℕ) → IsResolution rows old ns s → IsResolution rows new ns s
  resolution-grown s h = record {
    below = below-grown h.below;
    state_below = grown-length old more new s are h.state_below;
    known = subst (AreKnown rows) (sym (same-states old more new are ns h.below)) h.known;
    resolved = grown-state old more new s are h.state_below ∙ h.resolved ∙ ap (resolve_in rows) (sym (same-states old more new are ns h.below));
  }

  -- one that was found
  pub resolution-found : (s : ℕ) → AreKnown rows old → All (λ n. n < length old) ns → s < length new → state_at new s ≡ resolve_in rows (map (state_at old) ns) → IsResolution rows new ns s
  resolution-found s known below l is = record {
    below = below-grown below;
    state_below = l;
    known =
        subst (AreKnown rows) (sym (same-states old more new are ns below))
        (All-map (λ t. All (λ e. e.1 < length rows) t) (state_at old) ns (λ k d m. All-get_or (λ t. All (λ e. e.1 < length rows) t) old (get_or ns k d) [] (below k d m) known));
    resolved = is ∙ ap (resolve_in rows) (sym (same-states old more new are ns below));
  }

-- ---- the version of a record's room

no_events : (s : State) → All (λ e. e.1 < 0) s → s ≡ []
no_events [] h = refl
no_events (e ∷ s) h = absurd (let l : e.1 < 0 = h 0 e (omega arith) in omega arith)

-- in a record without events the version says nothing
resolve-versions : (v w : RoomVersion) (states : List State) → AreKnown [] states → resolve v [] states ≡ resolve w [] states
resolve-versions v w [] known = resolve-none v [] ∙ sym (resolve-none w [])
resolve-versions v w (s ∷ others) known = resolve-same v [] s sorted others same ∙ sym (resolve-same w [] s sorted others same)
  where
    first : s ≡ []
    first = no_events s (known 0 s (omega arith))

    sorted : Sorted s
    sorted = subst Sorted (sym first) tt

    same : All (λ t. t ≡ s) others
    same = λ k d l. no_events (get_or others k d) (known (suc k) d (omega arith)) ∙ sym first

resolve_in-longer : (rows : List Row) (r : Row) (states : List State) → IsSound rows → IsSound (rows ++ r ∷ []) → AreKnown rows states → resolve_in (rows ++ r ∷ []) states ≡ resolve_in rows states
resolve_in-longer [] r states sound after known =
    resolve-longer (created_version r.event) [] r states sound after known ∙ resolve-versions (created_version r.event) V6 states known
resolve_in-longer (q ∷ rows) r states sound after known = resolve-longer (created_version q.event) (q ∷ rows) r states sound after known

-- nor does a row
pub resolution-longer : (rows : List Row) (r : Row) (states : List State) (ns : List ℕ) (s : ℕ) → IsSound rows → IsSound (rows ++ r ∷ []) → IsResolution rows states ns s → IsResolution (rows ++ r ∷ []) states ns s
resolution-longer rows r states ns s sound after h = record {
  below = h.below;
  state_below = h.state_below;
  known = known-longer rows (rows ++ r ∷ []) (map (state_at states) ns) (one-longer rows r) h.known;
  resolved = h.resolved ∙ sym (resolve_in-longer rows r (map (state_at states) ns) sound after h.known);
}

-- ---- a cache of them

pub right-empty : (rows : List Row) (states : List State) (cache : ResolutionCache) → cache.resolutions.entries ≡ [] → cache.last ≡ None → AreRight rows states cache
right-empty rows states cache empty none =
    (λ e m. absurd (Contains-nil e (subst (λ es. Contains es e) empty m)), subst (λ o. IfSome o (IsKept (version_in rows) rows states)) (sym none) tt)

pub right-grown : (rows : List Row) (old more new : List State) (cache : ResolutionCache) → new ≡ old ++ more → AreRight rows old cache → AreRight rows new cache
right-grown rows old more new cache are h = (λ e m. resolution-grown rows old more new are e.0.numbers.items e.1 (h.0 e m), option-grown (version_in rows) rows old more new are cache.last h.1)

-- of a record without events nothing is kept
alike-empty : (k : Key) (ss : List State) → AreKnown [] ss → AllAlike k ss
alike-empty k [] known = tt
alike-empty k (s ∷ ss) known = λ i d l. (λ j. entry (no_events (get_or ss i d) (known (suc i) d (omega arith)) j) k) ∙ (λ j. entry (sym (no_events s (known 0 s (omega arith))) j) k)

last-longer : (rows : List Row) (r : Row) (states : List State) → IsSound rows → IsSound (rows ++ r ∷ []) → (o : Option KeptResolution) → IfSome o (IsKept (version_in rows) rows states) → IfSome o (IsKept (version_in (rows ++ r ∷ [])) (rows ++ r ∷ []) states)
last-longer rows r states sound after None h = tt
last-longer [] r states sound after (Some kept) h = absurd (h.at_keys.apart h.at_keys.key h.at_keys.there (alike-empty h.at_keys.key (states_of states kept) h.known))
last-longer (q ∷ rows) r states sound after (Some kept) h = kept-longer (created_version q.event) (q ∷ rows) (q ∷ rows ++ r ∷ []) (longer-push (q ∷ rows) r sound after) states kept h

pub right-longer : (rows : List Row) (r : Row) (states : List State) (cache : ResolutionCache) → IsSound rows → IsSound (rows ++ r ∷ []) → AreRight rows states cache → AreRight (rows ++ r ∷ []) states cache
right-longer rows r states cache sound after h = (λ e m. resolution-longer rows r states e.0.numbers.items e.1 sound after (h.0 e m), last-longer rows r states sound after cache.last h.1)

-- with the entries of another one, and one that was found
pub right-put : (rows : List Row) (old new : List State) (cache after : ResolutionCache) (ns : List ℕ) (s : ℕ) → AreAdded rows old new → AreKnown rows old → AreResolutions rows old cache
    → All (λ n. n < length old) ns → s < length new → state_at new s ≡ resolve_in rows (map (state_at old) ns)
    → ((e : StateList × ℕ) → Contains after.resolutions.entries e → Contains cache.resolutions.entries e ⊎ ((e.0.numbers.items ≡ ns) × (e.1 ≡ s)))
    → AreResolutions rows new after
right-put rows old new cache after ns s added known h below l is put = λ e m. by e (put e m)
  where
    by : (e : StateList × ℕ) → Contains cache.resolutions.entries e ⊎ ((e.0.numbers.items ≡ ns) × (e.1 ≡ s)) → IsResolution rows new e.0.numbers.items e.1
    by e (inl m) = resolution-grown rows old added.more new added.are e.0.numbers.items e.1 (h e m)
    by e (inr k) = subst (λ (p : List ℕ × ℕ). IsResolution rows new p.0 p.1) (λ i. (sym k.0 i, sym k.1 i)) (resolution-found rows old added.more new added.are ns s known below l is)

-- ---- keys

pub same-key : (xs ys : List ℕ) → pointwise nat_eq xs ys ≡ true → xs ≡ ys
same-key xs ys e = (slice_eq-Decides Decides-eqb xs ys true (sym e)).0 refl

twice : (a b : Bool) → (a || b) ≡ (a || (a || b))
twice true b = refl
twice false b = refl

dedup_from-members : (k : ℕ) (xs : List ℕ) (n : ℕ) → is_in (dedup_from nat_eq k xs) n ≡ is_in (k ∷ xs) n
dedup_from-members k [] n = refl
dedup_from-members k (x ∷ xs) n = by (nat_eq x k) refl (dedup_from-members k xs n) (dedup_from-members x xs n)
  where
    by : (b : Bool) → nat_eq x k ≡ b → is_in (dedup_from nat_eq k xs) n ≡ is_in (k ∷ xs) n → is_in (dedup_from nat_eq x xs) n ≡ is_in (x ∷ xs) n
        → is_in (cond (nat_eq x k) (dedup_from nat_eq k xs) (k ∷ dedup_from nat_eq x xs)) n ≡ is_in (k ∷ x ∷ xs) n
    by true e same other =
        ap (λ b. is_in (cond b (dedup_from nat_eq k xs) (k ∷ dedup_from nat_eq x xs)) n) e ∙ same ∙ twice (k == n) (is_in xs n)
        ∙ ap (λ y. is_in (k ∷ y ∷ xs) n) (sym (eqb-true x k e))
    by false e same other = ap (λ b. is_in (cond b (dedup_from nat_eq k xs) (k ∷ dedup_from nat_eq x xs)) n) e ∙ ap (λ b. (k == n) || b) other

pub dedup-members : (xs : List ℕ) (n : ℕ) → is_in (dedup nat_eq xs) n ≡ is_in xs n
dedup-members [] n = refl
dedup-members (x ∷ xs) n = dedup_from-members x xs n

-- ---- entries

abbrev same_numbers : StateList → StateList → Bool
same_numbers x y = pointwise nat_eq x.numbers.items y.numbers.items

is_put : (old : LruCache StateList ℕ) (k : StateList) (s : ℕ) (e : StateList × ℕ) → Contains (put_entries same_numbers old k s) e → Contains old.entries e ⊎ ((e.0.numbers.items ≡ k.numbers.items) × (e.1 ≡ s))
is_put old k s e m = elim (Contains-put_entries same_numbers old k s e m) [
  | inl n ↦ inl n
  | inr p ↦ elim p.1 [
    | inl same ↦ inr (ap (λ (v : StateList). v.numbers.items) same, p.0)
    | inr was ↦ inr (sym (same-key k.numbers.items e.0.numbers.items was.2), p.0)
  ]
]

pub put-entry : {X Y : Type 0} (r : Result X Y) (old new : LruCache StateList ℕ) (k : StateList) (ns : List ℕ) (s : ℕ) → k.numbers.items ≡ ns → OnOk r (new ≡ lru_cache (put_entries same_numbers old k s) old.cap) → OnErr r (new ≡ old)
    → (e : StateList × ℕ) → Contains new.entries e → Contains old.entries e ⊎ ((e.0.numbers.items ≡ ns) × (e.1 ≡ s))
put-entry (Ok x) old new k ns s are ok err e m =
    subst (λ ms. Contains old.entries e ⊎ ((e.0.numbers.items ≡ ms) × (e.1 ≡ s))) are (is_put old k s e (subst (λ (c : LruCache StateList ℕ). Contains c.entries e) ok m))
put-entry (Err y) old new k ns s are ok err e m = inl (subst (λ (c : LruCache StateList ℕ). Contains c.entries e) err m)

pub get-entry : (ns : List ℕ) (cache : LruCache StateList ℕ) (o : Option ℕ) → o ≡ lookup (λ k. pointwise nat_eq ns k.numbers.items) cache.entries
    → IfSome o (λ s. (key : StateList) × Contains cache.entries (key, s) × (key.numbers.items ≡ ns))
get-entry ns cache None is = tt
get-entry ns cache (Some s) is =
    let found = Contains-lookup (λ (k : StateList). pointwise nat_eq ns k.numbers.items) cache.entries s (sym is) in (found.0, found.1, sym (same-key ns found.0.numbers.items found.2))
