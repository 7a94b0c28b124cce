-- Berths that are given back.
use Rattle.std.proofs.Common.{◌≡◌, ℕ, ◌+◌, ◌<◌, ◌≤◌, false, List, [], ◌∷◌, ◌++◌, length, get_or, map, set, drop, sym, IsPermutation, ◌∙◌, ap, subst, arith}
use Rattle.crossbeam_utils.specs.declared.cache_padded.CachePadded.{CachePadded}
use Rattle.crossbeam_utils.specs.Padded.{padded_value}
use Rattle.mx_dock.specs.Dock.{IsFirstOf, given_back, holds, made, own}
use Rattle.mx_dock.specs.declared.docks.Dock.{Dock}
use Rattle.mx_dock.specs.declared.berths.Berth.{Berth}
use Rattle.std.proofs.lemmas.List.{get_or_default, get_or-map, length-map, map-append}
use Rattle.std.proofs.lemmas.List.Elements.{All-get_or}
use Rattle.std.proofs.lemmas.List.Sorted.{All-permutation, Contains-permutation, IsPermutation-map, IsPermutation-sym}
use Rattle.mx_dock.specs.Journal.{IsPrefix, since, entries_of}
use Rattle.std.specs.Prelude.{All, Any}
use Rattle.mx_dock.specs.Rule.{no_berth}
use Rattle.mx_engine.specs.Views.{BerthView, view_at}
use Rattle.mx_engine.specs.Berths.{AreBerthsAt, views_of}
use Rattle.mx_engine.specs.Closing.{AreAllBack, AreGathered, IsWhole, known_at}
use Rattle.mx_engine.proofs.RowLemmas.{AreReplaced, next-within, next-is, next-rest, replaced-more, some-of}

module _ {T E : Type 0} where
  -- a berth with one more given back to it
  pub record IsGiven (docks : List (CachePadded (Dock T E))) (berths : List (Berth T E)) (n : ℕ)
      (old new : Berth T E) : Type 0 where
    pub first : (d : CachePadded (Dock T E)) → IsFirstOf (padded_value (get_or docks n d)) new
    pub away : holds new ≡ false
    pub same : own new ≡ own old
    pub given : (b : Berth T E) → given_back new ≡ given_back old ++ own (get_or berths n b) ∷ []

  -- what was given back to each, once all were
  pub gathered-more : (docks : List (CachePadded (Dock T E))) (old new berths : List (Berth T E)) (caller count : ℕ)
      (known : List (List (BerthView E))) →
      AreBerthsAt docks caller berths → AreReplaced (IsGiven docks berths) count old new → length berths ≤ count
      → AreGathered docks old known → AreGathered docks new (known ++ views_of berths ∷ [])
  gathered-more docks old new berths caller count known seated r all past = record {
    same = r.long ∙ past.same;
    first = λ n d b l. (r.done n b (omega (arith, l, seated.same, all))).first d;
    away = λ n b l. (r.done n b (omega (arith, l, seated.same, all))).away;
    given = λ n b l.
        (r.done n b (omega (arith, l, seated.same, all))).given b
        ∙ ap (λ before. before ++ own (get_or berths n b) ∷ []) (past.given n b l)
        ∙ ap (λ v. known_at known n ++ v ∷ []) (sym (get_or-map own berths n b no_berth (omega (arith, l, seated.same))))
        ∙ sym (map-append (λ views. view_at views n) known (views_of berths ∷ []));
  }

  -- one more berth was given back
  pub given-one : (docks : List (CachePadded (Dock T E))) (berths old before : List (Berth T E)) (n count next_count : ℕ)
      (other first new : Berth T E) (d : CachePadded (Dock T E)) (dock : Dock T E) (left rest : List (Berth T E)) →
      left ≡ drop count berths → AreReplaced (IsGiven docks berths) count old before → left ≡ other ∷ rest → n ≡ count
      → next_count ≡ count + 1 →
      length old ≡ length docks → length berths ≡ length docks → d ≡ get_or docks n d → dock ≡ padded_value d
      → first ≡ get_or before n first →
      IsFirstOf dock new → holds new ≡ false → own new ≡ own first → given_back new ≡ given_back first ++ own other ∷ [] →
      (rest ≡ drop next_count berths) × AreReplaced (IsGiven docks berths) next_count old (set before n new)
  given-one docks berths old before n count next_count other first new d dock left rest left_is r more same one_more
      long_first long_berths d_is dock_is first_is mine away own_same given =
      let next : other ∷ rest ≡ drop count berths = sym more ∙ left_is in
      let within : count < length berths = next-within berths count other rest next in
      let here : (b : Berth T E)
      → get_or old count b ≡ first =
      λ b. sym (first_is ∙ ap (λ k. get_or before k first) same ∙ r.todo count first (omega arith)
      ∙ get_or_default old count first b (omega (arith, within, long_first, long_berths))) in
      let d_here : (x : CachePadded (Dock T E))
      → get_or docks count x ≡ d = λ x. get_or_default docks count x d (omega (arith, within, long_berths))
      ∙ sym (d_is ∙ ap (λ k. get_or docks k d) same) in
      subst (λ k. (rest ≡ drop k berths) × AreReplaced (IsGiven docks berths) k old (set before n new)) (sym one_more) (
        next-rest berths count other rest next,
        subst (λ k. AreReplaced (IsGiven docks berths) (count + 1) old (set before k new)) (sym same)
            (replaced-more (IsGiven docks berths) count old before new r (omega (arith, within, long_first, long_berths))
            (λ b. record {
              first = λ x. subst (λ y. IsFirstOf y new) (dock_is ∙ ap padded_value (sym (d_here x))) mine;
              away = away;
              same = own_same ∙ ap own (sym (here b));
              given = λ x. given ∙ ap (λ y. given_back y ++ own other ∷ []) (sym (here b))
                  ∙ ap (λ y. given_back (get_or old count b) ++ own y ∷ []) (sym (next-is berths count other rest next x));
            })),
      )

  -- before any berth was given back
  pub gathered-none : (docks : List (CachePadded (Dock T E))) (berths : List (Berth T E)) (caller : ℕ)
      → AreBerthsAt docks caller berths → AreGathered docks berths []
  gathered-none docks berths caller seated = record {
    same = seated.same;
    first = λ n d b l. let is = (seated.each n d b l).mine in (is.0, is.1, is.3);
    away = λ n b l. (seated.each n (some-of docks n l) b l).away;
    given = λ n b l. (seated.each n (some-of docks n l) b l).mine.2;
  }

-- the views of one more caller
pub gathered-views : {S T E : Type 0} (docks : List (CachePadded (Dock T E))) (berths : List (Berth T E))
    (views : S → List (BerthView E)) (done : List S) (seat : S)
    → AreGathered docks berths (map views done ++ views seat ∷ []) → AreGathered docks berths (map views (done ++ seat ∷ []))
gathered-views docks berths views done seat is =
    subst (AreGathered docks berths) (sym (map-append views done (seat ∷ []))) is

-- a caller of this number knows the dock
any-known : {S E : Type 0} (views : S → List (BerthView E)) (caller : S → ℕ) (seats : List S) (k n : ℕ)
    → ((i : ℕ) (s : S) → i < length seats → (view_at (views (get_or seats i s)) k).number ≡ caller (get_or seats i s)) →
    Any (λ s. caller s ≡ n) seats → Any (λ (v : BerthView E). v.number ≡ n) (known_at (map views seats) k)
any-known views caller seats k n numbered one =
    let i = one.0 in
    let s = one.1 in
    let within : i < length (map views seats) = omega (arith, one.2, length-map seats views) in
    let here : get_or (known_at (map views seats) k) i (view_at (views s) k) ≡ view_at (views s) k =
    get_or-map (λ vs. view_at vs k) (map views seats) i (views s) (view_at (views s) k) within
    ∙ ap (λ vs. view_at vs k) (get_or-map views seats i s (views s) one.2 ∙ ap views one.3) in (
      i,
      view_at (views s) k,
      omega (arith, within, length-map (map views seats) (λ vs. view_at vs k)),
      here,
      ap (λ t. (view_at (views t) k).number) (sym one.3) ∙ numbered i s one.2 ∙ ap caller one.3 ∙ one.4,
    )

-- the first caller's berths, once all others were given back
pub all-back : {S T E : Type 0} (berths_of : S → List (Berth T E)) (caller : S → ℕ) (docks : List (CachePadded (Dock T E)))
    (new : List (Berth T E)) (first : S) (others : List S) (count : ℕ) →
    All (λ s. AreBerthsAt docks (caller s) (berths_of s)) (first ∷ others) → caller first ≡ 1
    → views_of new ≡ views_of (berths_of first) →
    AreGathered docks new (map (λ s. views_of (berths_of s)) others)
    → ((k : ℕ) → k < length docks → (view_at (views_of (berths_of first)) k).made ≡ count) →
    ((n : ℕ) → 1 ≤ n → n ≤ count → Any (λ s. caller s ≡ n) (first ∷ others))
    → AreAllBack docks new (map (λ s. views_of (berths_of s)) others)
all-back {S = S} {T = T} {E = E} berths_of caller docks new first others count seated one same back counted all =
    let here : AreBerthsAt docks (caller first) (berths_of first) =
    All-get_or (λ s. AreBerthsAt docks (caller s) (berths_of s)) (first ∷ others) 0 first (omega arith) seated in
    let known : (k : ℕ) → k < length docks → (b : Berth T E)
    → own (get_or new k b) ≡ view_at (views_of (berths_of first)) k =
    λ k l b. sym (get_or-map own new k b no_berth (omega (arith, l, back.same))) ∙ ap (λ vs. view_at vs k) same in
    let before : (k : ℕ) → k < length docks → (b : Berth T E) → own (get_or new k b) ≡ own (get_or (berths_of first) k b) =
    λ k l b. known k l b ∙ get_or-map own (berths_of first) k b no_berth (omega (arith, l, here.same)) in
    let numbered : (k : ℕ) (l : k < length docks) (i : ℕ) (s : S) → i < length (first ∷ others)
    → (view_at (views_of (berths_of (get_or (first ∷ others) i s))) k).number ≡ caller (get_or (first ∷ others) i s) =
    λ k l i s within.
    let t = get_or (first ∷ others) i s in
    let there : AreBerthsAt docks (caller t) (berths_of t) =
    All-get_or (λ s. AreBerthsAt docks (caller s) (berths_of s)) (first ∷ others) i s within seated in
    let b = some-of (berths_of t) k (omega (arith, l, there.same)) in
    ap (λ (v : BerthView E). v.number) (get_or-map own (berths_of t) k b no_berth (omega (arith, l, there.same)))
    ∙ (there.each k (some-of docks k l) b l).numbered in
    record {
      some = here.some;
      few = here.few;
      same = back.same;
      given = back.given;
      back = λ k d b l. record {
        first = back.first k d b l;
        away = back.away k b l;
        numbered = ap (λ (v : BerthView E). v.number) (before k l b) ∙ (here.each k d b l).numbered ∙ one;
        placed = ap (λ (v : BerthView E). v.place) (before k l b) ∙ (here.each k d b l).placed;
        each = λ n from to.
            let made_here : made (get_or new k b) ≡ count = ap (λ (v : BerthView E). v.made) (known k l b) ∙ counted k l in
            subst (λ vs. Any (λ (v : BerthView E). v.number ≡ n) vs)
            (ap (λ v. v ∷ known_at (map (λ s. views_of (berths_of s)) others) k) (sym (known k l b))
            ∙ ap (λ vs. own (get_or new k b) ∷ vs) (sym (back.given k b l)))
            (any-known (λ s. views_of (berths_of s)) caller (first ∷ others) k n (numbered k l)
            (all n from (omega (arith, to, made_here))));
      };
    }

-- ---- seats in another order

pub Any-permutation : {A : Type 0} (P : A → Type 0) (xs ys : List A) → IsPermutation xs ys → Any P xs → Any P ys
Any-permutation P xs ys moved one = let there =
    Contains-permutation xs ys one.1 moved (one.0, one.2, one.3) in (there.0, one.1, there.1, there.2, one.4)

-- what is known by the same seats in another order
module _ {S E : Type 0} (caller : E → ℕ) (views : S → List (BerthView E)) (seats moved : List S) (n : ℕ) (journal : List E)
    (same : IsPermutation seats moved) (some : 0 < length seats) where
  known_back : IsPermutation (known_at (map views moved) n) (known_at (map views seats) n)
  known_back = IsPermutation-sym (known_at (map views seats) n) (known_at (map views moved) n)
      (IsPermutation-map (λ vs. view_at vs n) (map views seats) (map views moved) (IsPermutation-map views seats moved same))

  first_opening : (opening : List E) (all : List S) → 0 < length all
      → All (λ (v : BerthView E). v.opening ≡ opening) (known_at (map views all) n)
      → (view_at (get_or (map views all) 0 []) n).opening ≡ opening
  first_opening opening [] one is = absurd (let e : ⊥ = omega (arith, one) in e)
  first_opening opening (s ∷ ss) one is = is 0 (view_at (views s) n) (omega arith)

  pub whole_moved : (opening : List E) → IsWhole caller opening (known_at (map views moved) n) journal
      → IsWhole caller (view_at (get_or (map views seats) 0 []) n).opening (known_at (map views seats) n) journal
  whole_moved opening whole =
      let theirs = known_at (map views moved) n in
      let here = known_at (map views seats) n in
      let opened : All (λ (v : BerthView E). v.opening ≡ opening) here =
      All-permutation (λ (v : BerthView E). v.opening ≡ opening) theirs here known_back whole.same in
      subst (λ o. IsWhole caller o here journal) (sym (first_opening opening seats some opened))
      (record {
        opened = whole.opened;
        same = opened;
        numbered = λ k d l. Any-permutation (λ (v : BerthView E). v.number ≡ caller (get_or (since opening journal) k d))
            theirs here known_back (whole.numbered k d l);
        added = All-permutation (λ (v : BerthView E). entries_of caller v.number (since opening journal) ≡ v.added) theirs
            here known_back whole.added;
        seen = All-permutation (λ (v : BerthView E). IsPrefix v.seen journal) theirs here known_back whole.seen;
      })
