-- Docks that are closed one after another.
use Rattle.std.proofs.Common.{◌≡◌, ℕ, ◌+◌, ◌<◌, ◌≤◌, List, [], ◌∷◌, ◌++◌, length, get_or, map, drop, refl, sym, ◌∙◌, ap, subst, arith}
use Rattle.std.specs.Prelude.{All}
use Rattle.std.proofs.lemmas.List.{drop_more, get_or_default, get_or-map, length-append, length-map}
use Rattle.std.proofs.lemmas.List.Elements.{All-from_get_or}
use Rattle.crossbeam_utils.specs.declared.cache_padded.CachePadded.{CachePadded}
use Rattle.crossbeam_utils.specs.Padded.{padded_value}
use Rattle.mx_dock.specs.Dock.{given_back, opening, own, place}
use Rattle.mx_dock.specs.declared.docks.Dock.{Dock}
use Rattle.mx_dock.specs.declared.berths.Berth.{Berth}
use Rattle.mx_keeper.specs.Places.{PlaceView}
use Rattle.mx_world.specs.Parts.{ArePlaced}
use Rattle.mx_engine.specs.Places.{place_code}
use Rattle.mx_engine.specs.Views.{BerthView}
use Rattle.mx_engine.specs.Closing.{AreAllBack, IsAllBack, IsWhole, known_at}
use Rattle.mx_engine.proofs.RowLemmas.{next-within, next-is, next-rest, row-more, some-of}

abbrev pub place_with : ℕ → ℕ → PlaceView
place_with n k = record { number = n; count = k }

-- a code tells the place
place-eq : (p q : PlaceView) → p.number ≡ q.number → p.count ≡ q.count → p ≡ q
place-eq p q a b = λ i. record { number = a i; count = b i }

pub code-place : (p q : PlaceView) → p.number < p.count → p.count ≤ 64 → q.number < q.count → q.count ≤ 64
    → place_code p ≡ place_code q → p ≡ q
code-place p q pw pf qw qf same =
    let counts : p.count ≡ q.count = omega (arith, pw, pf, qw, qf, same) in
    place-eq p q (omega (arith, counts, same)) counts

module _ {A : Type 0} where
  -- the first of what is left, and the rest
  pub taken-first : (row left : List A) (i : ℕ) (x : A) → left ≡ drop i row → i < length row → x ≡ get_or left 0 x
      → x ≡ get_or row i x
  taken-first row left i x left_is within is = is ∙ ap (λ l. get_or l 0 x) (left_is ∙ drop_more row i x within)

  pub taken-rest : (row left rest : List A) (i : ℕ) (x : A) → left ≡ drop i row → i < length row → rest ≡ drop 1 left
      → rest ≡ drop (i + 1) row
  taken-rest row left rest i x left_is within taken = taken ∙ ap (drop 1) (left_is ∙ drop_more row i x within)

-- the berth of the next dock has all others
pub next-back : {T E : Type 0} (docks left rest : List (CachePadded (Dock T E))) (dock : CachePadded (Dock T E))
    (berths berths_left : List (Berth T E)) (berth : Berth T E) (known : List (List (BerthView E))) (i : ℕ) →
    AreAllBack docks berths known → left ≡ drop i docks → berths_left ≡ drop i berths → left ≡ dock ∷ rest
    → berth ≡ get_or berths_left 0 berth → IsAllBack (place_with i (length docks)) (padded_value dock) berth
next-back docks left rest dock berths berths_left berth known i back docks_left left_is next first =
    let is = sym next ∙ docks_left in
    let within : i < length docks = next-within docks i dock rest is in
    subst (λ d. IsAllBack (place_with i (length docks)) (padded_value d) berth) (next-is docks i dock rest is dock)
    (subst (λ b. IsAllBack (place_with i (length docks)) (padded_value (get_or docks i dock)) b)
    (sym (taken-first berths berths_left i berth left_is (omega (arith, within, back.same)) first))
    (back.back i dock berth within))

module _ {T V E : Type 0} (place_of : V → PlaceView) (journal_of : V → List E) (Legal : List E → Type 0)
    (caller : E → ℕ) where
  -- the value of a dock that was closed with this berth
  pub record IsClosed (berth : Berth T E) (value : V) : Type 0 where
    pub placed : place_code (place_of value) ≡ place berth
    pub within : (place_of value).number < (place_of value).count
    pub few : (place_of value).count ≤ 64
    pub legal : Legal (journal_of value)
    pub whole : IsWhole caller (opening berth) (own berth ∷ given_back berth) (journal_of value)

  -- so each of the first so many
  abbrev pub AreClosed : List (Berth T E) → List V → Type 0
  AreClosed berths values = (n : ℕ) (v : V) → n < length values → (b : Berth T E)
      → IsClosed (get_or berths n b) (get_or values n v)

  pub closed-one : (berths : List (Berth T E)) (values : List V) (berth : Berth T E) (v : V) → length values < length berths
      → berth ≡ get_or berths (length values) berth →
      AreClosed berths values → IsClosed berth v → AreClosed berths (values ++ v ∷ [])
  closed-one berths values berth v within is each more = λ n d l.
      row-more (λ k x. (b : Berth T E) → IsClosed (get_or berths k b) x) (length values) values v refl each
      (λ b. subst (λ y. IsClosed y v) (is ∙ get_or_default berths (length values) berth b within) more)
      n d (omega (arith, l, length-append values (v ∷ [])))

  -- one more dock was closed
  pub close-step : (docks left rest : List (CachePadded (Dock T E))) (dock : CachePadded (Dock T E))
      (berths berths_left berths_rest : List (Berth T E)) (berth : Berth T E) (values longer : List V) (v : V) →
      left ≡ drop (length values) docks → berths_left ≡ drop (length values) berths → AreClosed berths values
      → left ≡ dock ∷ rest → length berths ≡ length docks →
      berth ≡ get_or berths_left 0 berth → berths_rest ≡ drop 1 berths_left → IsClosed berth v → longer ≡ values ++ v ∷ [] →
      (rest ≡ drop (length longer) docks) × (berths_rest ≡ drop (length longer) berths) × AreClosed berths longer
      × (length longer ≤ length docks)
  close-step docks left rest dock berths berths_left berths_rest berth values longer v docks_left left_is closed next same
      first taken more longer_is =
      let is : dock ∷ rest ≡ drop (length values) docks = sym next ∙ docks_left in
      let within : length values < length docks = next-within docks (length values) dock rest is in
      let there : length values < length berths = omega (arith, within, same) in
      let count : length longer ≡ length values + 1 = ap length longer_is ∙ length-append values (v ∷ []) in (
        next-rest docks (length values) dock rest is ∙ ap (λ k. drop k docks) (sym count),
        taken-rest berths berths_left berths_rest (length values) berth left_is there taken
            ∙ ap (λ k. drop k berths) (sym count),
        subst (AreClosed berths) (sym longer_is)
            (closed-one berths values berth v there
            (taken-first berths berths_left (length values) berth left_is there first) closed more),
        omega (arith, count, within),
      )

  module _ (docks : List (CachePadded (Dock T E))) (berths : List (Berth T E)) (known : List (List (BerthView E)))
      (values : List V) (back : AreAllBack docks berths known) (all : length values ≡ length docks)
      (closed : AreClosed berths values) where
    berth_of : (n : ℕ) → n < length docks → Berth T E
    berth_of n l = some-of berths n (omega (arith, l, back.same))

    -- where each stands
    pub closed-placed : ArePlaced (map place_of values)
    closed-placed =
        let long : length (map place_of values) ≡ length docks = length-map values place_of ∙ all in
        record {
          some = omega (arith, long, back.some);
          few = omega (arith, long, back.few);
          each = λ n d l.
              let here : n < length docks = omega (arith, l, long) in
              let within : n < length values = omega (arith, here, all) in
              let v : V = some-of values n within in
              let b : Berth T E = berth_of n here in
              let is : IsClosed (get_or berths n b) (get_or values n v) = closed n v within b in
              get_or-map place_of values n v d within
              ∙ code-place (place_of (get_or values n v)) (place_with n (length docks)) is.within is.few here back.few
              (is.placed ∙ (back.back n (some-of docks n here) b here).placed)
              ∙ ap (place_with n) (sym long);
        }

    pub closed-legal : All (λ v. Legal (journal_of v)) values
    closed-legal =
        let some : 0 < length values = omega (arith, all, back.some) in
        All-from_get_or (λ v. Legal (journal_of v)) values (some-of values 0 some)
        (λ n l. (closed n (some-of values 0 some) l (berth_of n (omega (arith, l, all)))).legal)

    pub closed-whole : (n : ℕ) (b : Berth T E) → n < length docks
        → IsWhole caller (opening (get_or berths n b)) (own (get_or berths n b) ∷ known_at known n)
        (get_or (map journal_of values) n [])
    closed-whole n b l =
        let within : n < length values = omega (arith, l, all) in
        let v : V = some-of values n within in
        subst (λ journal. IsWhole caller (opening (get_or berths n b)) (own (get_or berths n b) ∷ known_at known n) journal)
        (sym (get_or-map journal_of values n v [] within))
        (subst (λ others. IsWhole caller (opening (get_or berths n b)) (own (get_or berths n b) ∷ others)
        (journal_of (get_or values n v))) (back.given n b l) (closed n v within b).whole)
