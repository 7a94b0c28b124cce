-- Something is kept for each event whose auth chain is short.
use Rattle.std.proofs.Common.{◌≡◌, ℕ, zero, suc, ◌==◌, ◌≤◌, ◌<◌, Bool, true, false, cond, ◌||◌, List, [], ◌∷◌, ◌++◌, length, flat_map, filter, Option, IsSome, is_some, refl, sym, ap, subst, ◌∙◌, arith, eq-eqb, Vec}
use Rattle.std.proofs.lemmas.List.Folds.{list_any-append}
use Rattle.std.specs.List.{All}
use Rattle.std.specs.declared.alloc.Global.{Global}
use Rattle.mx_graph.specs.AuthChains.{any_has, has_row, kept_at, place_at, rows_of, some_cited_has, some_has, AreEnds, AreFew, AreKept, AreMet}
use Rattle.mx_graph.specs.Graph.{CitesDown, HaveShortChains, HaveShortJointChain, IsSound, auth_chain, most_chains}
use Rattle.mx_graph.specs.Inside.{met_in, AreKeptFor}
use Rattle.mx_graph.specs.Record.{Row, auth_events, event, is_in, places}
use Rattle.mx_graph.specs.declared.auth_chains.AuthChains.{AuthChains}
use Rattle.mx_graph.specs.declared.reached_rows.Reached.{Reached}
use Rattle.mx_graph.proofs.ChainLemmas.{any-in}
use Rattle.mx_graph.proofs.Closure.{or_left, or_right, reached-members}
use Rattle.mx_graph.proofs.KeptChainLemmas.{chain-longer, each-chain, kept-tells, met-cited, met-longer, met-rows}
use Rattle.mx_graph.proofs.LongerRecordLemmas.{sound-before}

-- ---- an auth chain that another one has is no longer than that

filter-le : (f g : ℕ → Bool) → ((p : ℕ) → f p ≡ true → g p ≡ true) → (xs : List ℕ) → length (filter f xs) ≤ length (filter g xs)
filter-le f g h [] = omega arith
filter-le f g h (x ∷ xs) = by (f x) (g x) (h x) (filter-le f g h xs)
  where
    by : (a b : Bool) → (a ≡ true → b ≡ true) → length (filter f xs) ≤ length (filter g xs) → length (cond a (x ∷ filter f xs) (filter f xs)) ≤ length (cond b (x ∷ filter g xs) (filter g xs))
    by true true k later = omega arith
    by true false k later = absurd (cc (k refl))
    by false true k later = omega arith
    by false false k later = later

chain-members : (rows : List Row) (starts : List ℕ) → auth_chain rows starts ≡ filter (is_in (auth_chain rows starts)) (places rows)
unfolding auth_chain
chain-members rows starts = reached-members rows (λ p. auth_events rows (event rows p)) starts (length rows)

chain-le : (rows : List Row) (starts others : List ℕ) → ((p : ℕ) → is_in (auth_chain rows starts) p ≡ true → is_in (auth_chain rows others) p ≡ true) → length (auth_chain rows starts) ≤ length (auth_chain rows others)
chain-le rows starts others h =
    let a : length (auth_chain rows starts) ≡ length (filter (is_in (auth_chain rows starts)) (places rows)) = ap length (chain-members rows starts) in
    let b : length (auth_chain rows others) ≡ length (filter (is_in (auth_chain rows others)) (places rows)) = ap length (chain-members rows others) in
    let l : length (filter (is_in (auth_chain rows starts)) (places rows)) ≤ length (filter (is_in (auth_chain rows others)) (places rows)) = filter-le (is_in (auth_chain rows starts)) (is_in (auth_chain rows others)) h (places rows) in
    omega arith

-- ---- a row that is added

module _ (rows : List Row) (r : Row) (chains : AuthChains) (sound : IsSound (rows ++ r ∷ [])) (kept : AreKeptFor rows chains) (short : length (auth_chain (rows ++ r ∷ []) (length rows ∷ [])) ≤ most_chains) where
  abbrev longer : List Row
  longer = rows ++ r ∷ []

  abbrev n : ℕ
  n = length rows

  abbrev cites : ℕ → List ℕ
  cites p = auth_events longer (event longer p)

  met : AreMet cites (met_in longer)
  met = met-rows longer sound.auth

  cited-before : (q : ℕ) → is_in (cites n) q ≡ true → q < n
  cited-before q e = met.down n q (met.step n q ∙ any-in (λ x. (x == q) || met_in longer x q) (cites n) q e (or_left (q == q) (met_in longer q q) (eq-eqb q q refl)))

  cited-short : (q : ℕ) → is_in (cites n) q ≡ true → length (auth_chain rows (q ∷ [])) ≤ most_chains
  cited-short q e =
      let l : length (auth_chain longer (q ∷ [])) ≤ length (auth_chain longer (n ∷ [])) =
      chain-le longer (q ∷ []) (n ∷ []) (λ p m. met.step n p ∙ any-in (λ x. (x == p) || met_in longer x p) (cites n) q e (or_right (q == p) (met_in longer q p) m)) in
      let same : length (auth_chain longer (q ∷ [])) ≡ length (auth_chain rows (q ∷ [])) = ap length (chain-longer rows r (sound-before rows r sound) sound q (cited-before q e)) in
      let s : length (auth_chain longer (n ∷ [])) ≤ most_chains = short in
      omega arith

  cited-kept : AreKept (kept_at chains.reached.items) (cites n)
  cited-kept q e = kept.short q (cited-before q e) (cited-short q e)

  cited-few : AreFew (place_at chains.places.items) (some_cited_has (place_at chains.places.items) (kept_at chains.reached.items) (cites n))
  cited-few = record {
    members = auth_chain longer (n ∷ []);
    among = λ p h.
        met-cited (met_in rows) (met_in longer) cites met (place_at chains.places.items) (kept_at chains.reached.items) n kept.right
        (λ q x l. met-longer rows r (sound-before rows r sound) sound q x l) cited-kept p ∙ h;
    few = short;
  }

  pub short-new : (events : List ℕ) (found : Option (Vec Reached Global)) → cites n ≡ events
      → (((q : ℕ) → is_in events q ≡ true → q < length chains.places.items) → AreKept (kept_at chains.reached.items) events → ((q : ℕ) → AreEnds (place_at chains.places.items) (rows_of (kept_at chains.reached.items q)))
      → AreFew (place_at chains.places.items) (some_cited_has (place_at chains.places.items) (kept_at chains.reached.items) events) → IsSome found)
      → is_some found ≡ true
  short-new events found same told =
      told (subst (λ es. (q : ℕ) → is_in es q ≡ true → q < length chains.places.items) same (λ q e. let a : length chains.places.items ≡ length rows = kept.places_len in let l : q < length rows = cited-before q e in omega arith))
      (subst (AreKept (kept_at chains.reached.items)) same cited-kept) kept.right.ends
      (subst (λ es. AreFew (place_at chains.places.items) (some_cited_has (place_at chains.places.items) (kept_at chains.reached.items) es)) same cited-few)

-- ---- events that are asked for

pub short-kept : (rows : List Row) (chains : AuthChains) → AreKeptFor rows chains → (events : List ℕ) → HaveShortChains rows events → AreKept (kept_at chains.reached.items) events
short-kept rows chains kept events short q e = kept.short q (short q e).0 (short q e).1

-- sets of events, as one list
abbrev pub all_of : List (Vec ℕ Global) → List ℕ
all_of apart = flat_map (λ (others : Vec ℕ Global). others.items) apart

module _ (kept : ℕ → Option (Vec Reached Global)) where
  pub any-flat : (apart : List (Vec ℕ Global)) (chain p : ℕ) → any_has kept apart chain p ≡ some_has kept (all_of apart) chain p
  any-flat [] chain p = refl
  any-flat (v ∷ apart) chain p =
      ap (λ b. some_has kept v.items chain p || b) (any-flat apart chain p) ∙ sym (list_any-append (λ s. has_row (rows_of (kept s)) chain p) v.items (all_of apart))

  in-first : (xs ys : List ℕ) (q : ℕ) → is_in xs q ≡ true → is_in (xs ++ ys) q ≡ true
  in-first xs ys q e = list_any-append (λ x. x == q) xs ys ∙ or_left (is_in xs q) (is_in ys q) e

  in-second : (xs ys : List ℕ) (q : ℕ) → is_in ys q ≡ true → is_in (xs ++ ys) q ≡ true
  in-second xs ys q e = list_any-append (λ x. x == q) xs ys ∙ or_right (is_in xs q) (is_in ys q) e

  pub kept-flat : (apart : List (Vec ℕ Global)) → AreKept kept (all_of apart) → All (λ (others : Vec ℕ Global). AreKept kept others.items) apart
  kept-flat [] all k d l = absurd (omega arith)
  kept-flat (v ∷ apart) all zero d l = λ q e. all q (in-first v.items (all_of apart) q e)
  kept-flat (v ∷ apart) all (suc k) d l = kept-flat apart (λ q e. all q (in-second v.items (all_of apart) q e)) k d (omega arith)

module _ (rows : List Row) (down : CitesDown rows (λ p. auth_events rows (event rows p))) (chains : AuthChains) (kept : AreKeptFor rows chains) where
  pub joint-kept : (events : List ℕ) → HaveShortJointChain rows events → AreKept (kept_at chains.reached.items) events
  joint-kept events short q e =
      kept.short q (short.0 q e)
      (let l : length (auth_chain rows (q ∷ [])) ≤ length (auth_chain rows events) =
      chain-le rows (q ∷ []) events (λ p m. each-chain rows down (place_at chains.places.items) (kept_at chains.reached.items) kept.right events p ∙ any-in (λ s. met_in rows s p) events q e m) in
      let s : length (auth_chain rows events) ≤ most_chains = short.1 in
      omega arith)

  pub joint-few : (apart : List (Vec ℕ Global)) → HaveShortJointChain rows (all_of apart) → AreFew (place_at chains.places.items) (any_has (kept_at chains.reached.items) apart)
  joint-few apart short = record {
    members = auth_chain rows (all_of apart);
    among = λ p h.
        sym (kept-tells rows down (place_at chains.places.items) (kept_at chains.reached.items) kept.right (all_of apart) (joint-kept (all_of apart) short) p)
        ∙ sym (any-flat (kept_at chains.reached.items) apart (place_at chains.places.items p).chain p) ∙ h;
    few = short.1;
  }
