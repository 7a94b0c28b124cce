-- Seats of an engine.
use Rattle.std.proofs.Common.{◌≡◌, ℕ, ◌<◌, ◌≤◌, ◌+◌, ◌-◌, ⊎_elim, map, List, [], ◌∷◌, arith, length, get_or, refl, sym, ◌∙◌, ap, subst, IsPermutation}
use Rattle.std.specs.Prelude.{All, Any, remove, Result, Ok, Err, OnErr}
use Rattle.crossbeam_utils.specs.declared.cache_padded.CachePadded.{CachePadded}
use Rattle.mx_dock.specs.declared.docks.Dock.{Dock}
use Rattle.mx_dock.specs.declared.berths.Berth.{Berth}
use Rattle.std.proofs.lemmas.Bool.{cases_lt}
use Rattle.std.proofs.lemmas.List.{get_or-map, get_or_default, get_or_past, length-map}
use Rattle.std.proofs.lemmas.List.Elements.{All-nil, All-cons, All-head, All-tail}
use Rattle.std.proofs.lemmas.List.Sorted.{IsPermutation-remove}
use Rattle.mx_dock.specs.Rule.{no_berth}
use Rattle.mx_book.specs.Journal.{IsEnded, free, begun}
use Rattle.mx_book.specs.View.{BookView}
use Rattle.mx_world.specs.Worlds.{book_journals}
use Rattle.mx_engine.specs.Closing.{IsNew, known_at}
use Rattle.mx_engine.specs.Seats.{BeginsWithFirstSeat, HasFirstSeat, seat_number}
use Rattle.mx_engine.specs.declared.seats.Seat.{Seat}
use Rattle.mx_engine.proofs.RowLemmas.{some-of}
use Rattle.mx_book.specs.declared.entries.BookEntry.{BookEntry}
use Rattle.mx_engine.specs.Views.{BerthView, view_at, AddsNothing}
use Rattle.mx_engine.specs.Berths.{AreBerthsAt, caller_of}

pub when_err : {A F : Type 0} {P : Type 0} (result : Result A F) → P → OnErr result P
when_err (Ok a) p = tt
when_err (Err e) p = p

-- the number of a caller is that of its berth at the first dock
pub first_number : {T E : Type 0} (docks : List (CachePadded (Dock T E))) (caller : ℕ) (berths : List (Berth T E))
    → AreBerthsAt docks caller berths → caller_of berths ≡ caller
first_number [] caller berths seated = absurd (let l = seated.some in let e : ⊥ = omega (arith, l) in e)
first_number docks caller [] seated =
    absurd (let l = seated.some in let s = seated.same in let e : ⊥ = omega (arith, l, s) in e)
first_number (d ∷ ds) caller (b ∷ bs) seated = (seated.each 0 d b seated.some).numbered

-- berths by that number
pub by_number : {T E : Type 0} (docks : List (CachePadded (Dock T E))) (caller : ℕ) (berths : List (Berth T E))
    → AreBerthsAt docks caller berths → AreBerthsAt docks (caller_of berths) berths
by_number docks caller berths seated =
    subst (λ n. AreBerthsAt docks n berths) (sym (first_number docks caller berths seated)) seated

pub by_caller : {T E : Type 0} (docks : List (CachePadded (Dock T E))) (caller : ℕ) (old new : List (Berth T E))
    → AreBerthsAt docks caller old → AreBerthsAt docks (caller_of old) new → AreBerthsAt docks caller new
by_caller docks caller old new seated now = subst (λ n. AreBerthsAt docks n new) (first_number docks caller old seated) now

-- where nothing was added each transaction is as it was
pub ended_kept : (old new : List (BerthView BookEntry)) → AddsNothing old new → ((n : ℕ) → IsEnded (view_at old n).added)
    → (n : ℕ) → IsEnded (view_at new n).added
ended_kept old new nothing ended n =
    subst IsEnded (sym (ap (λ (v : BerthView BookEntry). v.added) (nothing.each n).2)) (ended n)

pub opened_kept : (old new : List (BerthView BookEntry)) → AddsNothing old new → ((n : ℕ) → IsEnded (view_at old n).opening)
    → (n : ℕ) → IsEnded (view_at new n).opening
opened_kept old new nothing opened n =
    subst IsEnded (sym (ap (λ (v : BerthView BookEntry). v.opening) (nothing.each n).2)) (opened n)

pub made_kept : {E : Type 0} (old new : List (BerthView E)) (count : ℕ) → AddsNothing old new → (n : ℕ)
    → (view_at old n).made ≡ count → (view_at new n).made ≡ count
made_kept {E = E} old new count nothing n is = ap (λ (v : BerthView E). v.made) (nothing.each n).2 ∙ is

-- ---- new seats

empty_ended : IsEnded []
empty_ended key caller = λ is. let e : free ≡ begun caller = is in cc

-- of what is no book nothing is known
beyond : (views : List (BerthView BookEntry)) (n : ℕ) → length views ≤ n → view_at views n ≡ no_berth
beyond views n l = get_or_past views n no_berth l

pub new_ended : (journals : List (List BookEntry)) (views : List (BerthView BookEntry)) → IsNew journals views → (n : ℕ)
    → IsEnded (view_at views n).added
new_ended journals views new n = ⊎_elim
    (λ (l : n < length journals). subst IsEnded (sym (new.nothing n l)) empty_ended)
    (λ (l : length journals ≤ n). subst IsEnded
    (sym (ap (λ (v : BerthView BookEntry). v.added) (beyond views n (subst (λ k. k ≤ n) (sym new.long) l)))) empty_ended)
    (cases_lt n (length journals))

pub new_opened : (journals : List (List BookEntry)) (views : List (BerthView BookEntry))
    → ((n : ℕ) → n < length journals → IsEnded (get_or journals n [])) → IsNew journals views → (n : ℕ)
    → IsEnded (view_at views n).opening
new_opened journals views ended new n = ⊎_elim
    (λ (l : n < length journals). subst IsEnded (sym (new.opened n l)) (ended n l))
    (λ (l : length journals ≤ n). subst IsEnded
    (sym (ap (λ (v : BerthView BookEntry). v.opening) (beyond views n (subst (λ k. k ≤ n) (sym new.long) l))))
    empty_ended)
    (cases_lt n (length journals))

-- the journals of books of which each has no transaction begun and not ended
pub all_ended : {L : Type 0} (books : List (BookView L)) → All (λ book. IsEnded book.journal) books → (n : ℕ)
    → n < length (book_journals books) → IsEnded (get_or (book_journals books) n [])
all_ended [] all n l = absurd (let e : ⊥ = omega (arith, l) in e)
all_ended (b ∷ bs) all n l =
    let k : n < length (b ∷ bs) = subst (λ m. n < m) (length-map (b ∷ bs) (λ book. book.journal)) l in
    subst IsEnded (sym (get_or-map (λ book. book.journal) (b ∷ bs) n b [] k)) (all n b k)

-- ---- all seats

module _ {K L : Type 0} where
  -- the first seat, and the others
  pub first_of : (seats looked : List (Seat K L)) (n : ℕ) (first : Seat K L) (others : List (Seat K L)) → looked ≡ seats
      → n < length looked → ((d : Seat K L) → (get_or looked n d).number ≡ 1) → first ≡ get_or seats n first
      → others ≡ remove seats n →
      IsPermutation seats (first ∷ others) × (seat_number first ≡ 1)
  first_of seats looked n first others same within one here rest = (
    subst (λ xs. IsPermutation seats (first ∷ xs)) (sym rest)
        (IsPermutation-remove seats n first (subst (λ xs. n < length xs) same within) here),
    ap seat_number here ∙ ap (λ xs. seat_number (get_or xs n first)) (sym same) ∙ one first,
  )

  -- where the first seat stands first it is among them
  pub has_first : (seats : List (Seat K L)) → BeginsWithFirstSeat seats → HasFirstSeat seats
  has_first [] one = absurd one
  has_first (s ∷ ss) one = (0, s, omega arith, refl, one)

  -- seats that are numbered from 1 begin with the first one, and have all numbers up to their count
  pub numbered_first : (seats : List (Seat K L)) (count : ℕ) → length seats ≡ count → 1 ≤ count
      → ((n : ℕ) (d : Seat K L) → n < count → (get_or seats n d).number ≡ n + 1) → BeginsWithFirstSeat seats
  numbered_first [] count long some numbers = let e : ⊥ = omega (arith, long, some) in e
  numbered_first (s ∷ ss) count long some numbers = numbers 0 s (omega (arith, some))

  pub numbered_all : (seats : List (Seat K L)) (count : ℕ) → length seats ≡ count
      → ((n : ℕ) (d : Seat K L) → n < count → (get_or seats n d).number ≡ n + 1) → (n : ℕ) → 1 ≤ n → n ≤ count
      → Any (λ (s : Seat K L). seat_number s ≡ n) seats
  numbered_all seats count long numbers n from to =
      let m : ℕ = n - 1 in
      let l : m < count = omega (arith, from, to) in
      let k : m < length seats = subst (λ j. m < j) (sym long) l in
      let d = some-of seats m k in (
        m,
        get_or seats m d,
        k,
        get_or_default seats m (get_or seats m d) d k,
        numbers m d l
            ∙ (let e : m + 1 ≡ n = omega (arith, from) in e),
      )

-- what holds of each seat at a dock holds of all that is known there
pub known_all : {S E : Type 0} (P : BerthView E → Type 0) (views : S → List (BerthView E)) (n : ℕ) (seats : List S)
    → All (λ s. P (view_at (views s) n)) seats → All P (known_at (map views seats) n)
known_all P views n [] all = All-nil P
known_all P views n (s ∷ ss) all =
    All-cons P (view_at (views s) n) (known_at (map views ss) n) (All-head (λ x. P (view_at (views x) n)) s ss all)
    (known_all P views n ss (All-tail (λ x. P (view_at (views x) n)) s ss all))
