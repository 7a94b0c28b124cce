-- All the seats of an engine, in the order of their numbers.
use Rattle.std.proofs.Common.{◌≡◌, ◌+◌, ◌++◌, ◌∙◌, ℕ, ◌<◌, ◌≤◌, zero, suc, List, [], ◌∷◌, append-nil, drop, length, get_or, map, sym, take, ap, subst, arith}
use Rattle.std.specs.Prelude.{All}
use Rattle.std.proofs.lemmas.List.{drop_all, length-map, get_or-map, take_all}
use Rattle.std.proofs.lemmas.List.Elements.{All-cons, All-nil}
use Rattle.mx_engine.specs.declared.engines.Engine.{Engine}
use Rattle.mx_engine.specs.declared.seats.Seat.{Seat}
use Rattle.mx_engine.specs.Seats.{IsSeatOf, seat_number, seats_made, AreAllSeats, BeginsWithFirstSeat}
use Rattle.mx_engine.proofs.SeatLemmas.{numbered_first, numbered_all}
use Rattle.mx_server_tests.specs.Callers.{AreTheSeats}

module _ {K L V G : Type 0} (engine : Engine K L V G) (seats : List (Seat K L)) (are : AreTheSeats engine seats) where
  pub the-first : BeginsWithFirstSeat seats
  the-first = numbered_first seats (length seats) (λ i. length seats) are.some are.numbers

  pub the-all : AreAllSeats engine seats
  the-all = λ n from to. numbered_all seats (length seats) (λ i. length seats) are.numbers n from (subst (λ k. n ≤ k) (sym are.whole) to)

-- where there is one seat
module _ {K L V G : Type 0} (engine : Engine K L V G) (seat : Seat K L) where
  only_number : seat_number seat ≡ 1 → (n : ℕ) (d : Seat K L) → n < 1 → seat_number (get_or (seat ∷ []) n d) ≡ n + 1
  only_number is zero d l = is
  only_number is (suc n) d l = absurd (omega (arith, l))

  pub the-only : IsSeatOf engine seat → seat_number seat ≡ 1 → seats_made engine ≡ 1 → AreTheSeats engine (seat ∷ [])
  the-only mine number count = record {
    mine = All-cons (IsSeatOf engine) seat [] mine (All-nil (IsSeatOf engine));
    numbers = only_number number;
    whole = sym count;
    some = omega arith;
  }

module _ {K L V G C : Type 0} (engine : Engine K L V G) (seat : C → Seat K L) where
  -- what is so of the seats is so of who has them
  pub each-seated : (callers : List C) → AreTheSeats engine (map seat callers) → All (λ c. IsSeatOf engine (seat c)) callers
  each-seated callers are = λ n d l.
      let k : n < length (map seat callers) = subst (λ m. n < m) (sym (length-map callers seat)) l in
      subst (IsSeatOf engine) (get_or-map seat callers n d (seat d) l) (are.mine n (seat d) k)

  each-number : (callers : List C) → AreTheSeats engine (map seat callers) → (n : ℕ) (d : C) → n < length callers → seat_number (seat (get_or callers n d)) ≡ n + 1
  each-number callers are n d l =
      let k : n < length (map seat callers) = subst (λ m. n < m) (sym (length-map callers seat)) l in
      ap seat_number (sym (get_or-map seat callers n d (seat d) l)) ∙ are.numbers n (seat d) k

  some-one : (callers : List C) (n : ℕ) → n < length callers → C
  some-one [] n l = absurd (let e : ⊥ = omega (arith, l) in e)
  some-one (c ∷ cs) n l = c

  -- and still is where no number has changed
  pub still-seated : (old new : List C) → AreTheSeats engine (map seat old) → length new ≡ length old → All (λ c. IsSeatOf engine (seat c)) new
      → ((n : ℕ) (d : C) → n < length old → seat_number (seat (get_or new n d)) ≡ seat_number (seat (get_or old n d))) → AreTheSeats engine (map seat new)
  still-seated old new are long mine same = record {
    mine = λ n d l.
        let k : n < length new = subst (λ m. n < m) (length-map new seat) l in
        let c = some-one new n k in
        subst (IsSeatOf engine) (sym (get_or-map seat new n c d k)) (mine n c k);
    numbers = λ n d l.
        let k : n < length new = subst (λ m. n < m) (length-map new seat) l in
        let c = some-one new n k in
        let o : n < length old = subst (λ m. n < m) long k in
        ap seat_number (get_or-map seat new n c d k) ∙ same n c o ∙ each-number old are n c o;
    whole = length-map new seat ∙ long ∙ sym (length-map old seat) ∙ are.whole;
    some = subst (λ m. 1 ≤ m) (length-map old seat ∙ sym long ∙ sym (length-map new seat)) are.some;
  }

-- what a slice of a `Vec` holds when it is given back
pub written_back : {C : Type 0} (len : ℕ) (items given : List C) → len ≡ length items → length given ≡ length items → take len (given ++ drop (length given) items) ≡ given
written_back len items given whole same =
    ap (λ rest. take len (given ++ rest)) (drop_all (length given) items (omega arith)) ∙ ap (take len) (append-nil given) ∙ take_all len given (omega arith)
