-- What stands at the place of a name.
use Rattle.std.proofs.Common.{◌≡◌, ◌≢◌, ◌⊎◌, ℕ, ◌<◌, true, false, cond, IsTrue, List, [], ◌∷◌, length, get_or, set, map, Some, refl, sym, ◌∙◌, ap, subst, arith, inl, inr}
use Rattle.std.specs.Prelude.{bytes_eq, if◌then◌else◌}
use Rattle.std.proofs.lemmas.Bool.{eq-eqb, cases_eq}
use Rattle.std.proofs.lemmas.Slice.Eq.{bytes_eq-Decides}
use Rattle.std.proofs.lemmas.List.{get_or-map, get_or-set_same, get_or-set_other, length-map, length-set, map-set, set-get_or}
use Rattle.mx_keeper.specs.Places.{PlaceView, place_number, is_at}
use Rattle.mx_shard.specs.LoneRoom.{Call, call_room, record_alone}
use Rattle.mx_shard.specs.Journal.{Entry, record_of, journal_after}
use Rattle.mx_shard.specs.View.{ShardView}
use Rattle.mx_shard.proofs.JournalLaws.{record-after, record-after-other}
use Rattle.mx_world.specs.Calls.{concerns, if_put_to}
use Rattle.mx_world.specs.Worlds.{journal_at, records_of, shard_journals}
use Rattle.mx_world.specs.Parts.{ArePlaced}

-- ---- journals

-- with another journal at one place, what is found at that place
pub journal_at-here : {A : Type 0} (journals : List (List A)) (n : ℕ) (journal : List A) (name : List ℕ) → n < length journals → place_number (length journals) name ≡ n → journal_at (set journals n journal) name ≡ journal
journal_at-here journals n journal name l is =
    ap (λ k. get_or (set journals n journal) (place_number k name) []) (length-set journals n journal)
    ∙ ap (λ k. get_or (set journals n journal) k []) is ∙ get_or-set_same journals n journal [] l

-- and at any other
pub journal_at-there : {A : Type 0} (journals : List (List A)) (n : ℕ) (journal : List A) (name : List ℕ) → place_number (length journals) name ≢ n → journal_at (set journals n journal) name ≡ journal_at journals name
journal_at-there journals n journal name other =
    ap (λ k. get_or (set journals n journal) (place_number k name) []) (length-set journals n journal)
    ∙ get_or-set_other journals n (place_number (length journals) name) journal [] other

-- ---- places

-- the view at a number stands at the place of that number
pub placed-get : {V : Type 0} (views : List V) (place : V → PlaceView) (n : ℕ) (d : V) → ArePlaced (map place views) → n < length views → place (get_or views n d) ≡ record { number = n; count = length views }
placed-get views place n d placed l =
    let long : length (map place views) ≡ length views = length-map views place in
    sym (get_or-map place views n d (place d) l) ∙ placed.each n (place d) (let k : n < length (map place views) = omega arith in k) ∙ ap (λ k. record { number = n; count = k }) long

pub placed-is_at : {V : Type 0} (views : List V) (place : V → PlaceView) (n : ℕ) (d : V) (name : List ℕ) → ArePlaced (map place views) → n ≡ place_number (length views) name → n < length views → IsTrue (is_at (place (get_or views n d)) name)
placed-is_at views place n d name placed is l =
    let P : PlaceView → Type 0 = λ p. IsTrue (is_at p name) in
    subst P (sym (placed-get views place n d placed l)) (eq-eqb (place_number (length views) name) n (sym is))

-- a view that takes a view's place leaves what the two have alike
pub parts-set : {V A : Type 0} (views : List V) (part : V → A) (n : ℕ) (d v : V) → n < length views → part v ≡ part (get_or views n d) → map part (set views n v) ≡ map part views
parts-set views part n d v l same =
    map-set part views n v ∙ ap (set (map part views) n) (same ∙ sym (get_or-map part views n d (part d) l)) ∙ set-get_or (map part views) n (part d)

-- so with the places
pub places-set : {V : Type 0} (views : List V) (place : V → PlaceView) (n : ℕ) (d v : V) → n < length views → place v ≡ place (get_or views n d) → map place (set views n v) ≡ map place views
places-set views place n d v l same = parts-set views place n d v l same

-- so with the same journal
pub journals-set : {V A : Type 0} (views : List V) (journal : V → List A) (n : ℕ) (d v : V) → n < length views → journal v ≡ journal (get_or views n d) → map journal (set views n v) ≡ map journal views
journals-set views journal n d v l same =
    map-set journal views n v ∙ ap (set (map journal views) n) (same ∙ sym (get_or-map journal views n d [] l)) ∙ set-get_or (map journal views) n []

-- ---- a call of a room at its shard

-- what the journal at the place of a name is
pub journal_at-get : {V A : Type 0} (views : List V) (journal : V → List A) (n : ℕ) (d : V) (name : List ℕ) → n ≡ place_number (length views) name → n < length views → journal_at (map journal views) name ≡ journal (get_or views n d)
journal_at-get views journal n d name is l =
    ap (λ k. get_or (map journal views) (place_number k name) []) (length-map views journal)
    ∙ ap (λ k. get_or (map journal views) k []) (sym is) ∙ get_or-map journal views n d [] l

-- the record of each room after a call of one room, at the journal of its place
pub records-called : (journals : List (List Entry)) (n : ℕ) (room : List ℕ) (call : Call) (other : List ℕ) → call_room call ≡ Some room → n ≡ place_number (length journals) room → n < length journals →
    records_of (set journals n (journal_after (journal_at journals room) 0 room call)) other ≡ record_alone (records_of journals other) (if_put_to other call)
records-called journals n room call other named is l =
    elim (bytes_eq room other) as (λ b. bytes_eq room other ≡ b → records_of (set journals n (journal_after (journal_at journals room) 0 room call)) other ≡ record_alone (records_of journals other) (cond b (call ∷ []) [])) [
      | true ↦ λ h.
          let P : List ℕ → Type 0 = λ r. records_of (set journals n (journal_after (journal_at journals room) 0 room call)) r ≡ record_alone (records_of journals r) (call ∷ []) in
          subst P ((bytes_eq-Decides room other).0 h)
          (ap (λ j. record_of j room) (journal_at-here journals n (journal_after (journal_at journals room) 0 room call) room l (sym is))
          ∙ record-after (journal_at journals room) 0 room call)
      | false ↦ λ h. elsewhere h (cases_eq (place_number (length journals) other) n)
    ] refl
    ∙ ap (λ o. record_alone (records_of journals other) (if concerns other o then call ∷ [] else [])) (sym named)
  where
    elsewhere : bytes_eq room other ≡ false → (place_number (length journals) other ≡ n) ⊎ (place_number (length journals) other ≢ n) → records_of (set journals n (journal_after (journal_at journals room) 0 room call)) other ≡ records_of journals other
    elsewhere h (inl here) =
        ap (λ j. record_of j other) (journal_at-here journals n (journal_after (journal_at journals room) 0 room call) other l here)
        ∙ record-after-other (journal_at journals room) 0 room other call h
        ∙ ap (λ k. record_of (get_or journals k []) other) (sym (here ∙ is))
    elsewhere h (inr there) = ap (λ j. record_of j other) (journal_at-there journals n (journal_after (journal_at journals room) 0 room call) other there)

-- the record of each room after a call of one room, at the shard of its place
pub room-called : {K : Type 0} (shards : List (ShardView K)) (n : ℕ) (d shard : ShardView K) (room : List ℕ) (call : Call) (other : List ℕ) → call_room call ≡ Some room → n ≡ place_number (length shards) room → n < length shards →
    shard.journal ≡ journal_after (get_or shards n d).journal 0 room call → records_of (shard_journals (set shards n shard)) other ≡ record_alone (records_of (shard_journals shards) other) (if_put_to other call)
room-called shards n d shard room call other named is l after =
    let long : length (shard_journals shards) ≡ length shards = length-map shards (λ s. s.journal) in
    ap (λ js. records_of js other)
    (map-set (λ s. s.journal) shards n shard
    ∙ ap (set (shard_journals shards) n) (after ∙ ap (λ j. journal_after j 0 room call) (sym (journal_at-get shards (λ s. s.journal) n d room is l))))
    ∙ records-called (shard_journals shards) n room call other named (is ∙ ap (λ k. place_number k room) (sym long)) (let k : n < length (shard_journals shards) = omega arith in k)
