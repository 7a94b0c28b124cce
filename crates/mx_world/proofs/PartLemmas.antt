-- A server is taken apart and put together.
use Rattle.std.proofs.Common.{◌≡◌, ℕ, ◌+◌, ◌<◌, ◌≤◌, IsTrue, Bool, false, List, [], ◌∷◌, length, take, get_or, Option, None, refl, sym, ◌∙◌, ap, subst, arith}
use Rattle.std.specs.Prelude.{All}
use Rattle.std.proofs.lemmas.Bool.{eqb-true, false≢true}
use Rattle.std.proofs.lemmas.List.{take_all, length-map, get_or_read}
use Rattle.std.proofs.lemmas.List.Elements.{All-more, All-get_or}
use Rattle.mx_keeper.specs.declared.rows.BookRow.{BookRow}
use Rattle.mx_keeper.specs.Places.{place_number, is_at}
use Rattle.mx_book.specs.Journal.{Hold, free, begun, kept, hold_of, IsEnded}
use Rattle.mx_book.specs.View.{BookView}
use Rattle.mx_book.specs.declared.transaction_keys.TransactionKey.{TransactionKey}
use Rattle.mx_book.proofs.JournalLemmas.{holds_of_begun}
use Rattle.mx_world.specs.Parts.{book_places, ArePlaced, IsSoundBook, FilledAt}
use Rattle.mx_world.specs.View.{Progress}
use Rattle.mx_world.specs.Worlds.{book_journals, holds_of, found}
use Rattle.mx_world.specs.Inside.{Agrees, AllAgree}
use Rattle.mx_world.proofs.PlaceLemmas.{placed-get, journal_at-get}

-- ---- what is found of each, one after the other

pub all-more : {V : Type 0} (P : V → Type 0) (views : List V) (n : ℕ) (v : V) → n < length views → v ≡ get_or views n v → All P (take n views) → P v → All P (take (n + 1) views)
all-more P views n v l is all here = All-more P views n v l all (subst P is here)

pub all-in : {V : Type 0} (P : V → Type 0) (views : List V) (n : ℕ) → length views ≤ n → All P (take n views) → All P views
all-in P views n all found = subst (All P) (take_all n views all) found

pub filled-here : {V : Type 0} (P : V → Type 0) (views : List V) (n : ℕ) (v : V) (none : Bool) → n < length views → v ≡ get_or views n v
    → (P v → IsTrue none) → none ≡ false → FilledAt P views n
filled-here P views n v none l is told filled = (l, λ d blank. false≢true (sym filled ∙ told (subst P (sym (get_or_read views n v l is d)) blank)))

-- ---- nothing is open

none_found : (going : List (TransactionKey × Progress)) → length going ≡ 0 → (p : TransactionKey) → found going p ≡ None
none_found [] none p = refl
none_found (entry ∷ going) none p = absurd (omega arith)

not_begun : (state : Hold) (caller : ℕ) → state ≡ begun caller → Agrees None state → ⊥
not_begun state caller is agrees = subst (Agrees None) is agrees

-- so that no book has a transaction that is begun and not ended
pub all-ended : {L : Type 0} (honest open_ : L → Type 0) (read : L → Option (List BookRow)) (books : List (BookView L)) (going : List (TransactionKey × Progress)) → ArePlaced (book_places books) → All (IsSoundBook honest open_ read) books → AllAgree going (book_journals books) →
    length going ≡ 0 → All (λ (book : BookView L). IsEnded book.journal) books
all-ended {L = L} honest open_ read books going placed sound agree none = λ n d l key caller is.
    let book : BookView L = get_or books n d in
    let here : IsTrue (is_at book.place key.origin) =
    holds_of_begun (λ p. IsTrue (is_at book.place p.origin)) book.journal key caller (All-get_or (IsSoundBook honest open_ read) books n d l sound).here is in
    let number : place_number (length books) key.origin ≡ n =
    eqb-true (place_number (length books) key.origin) n (ap (λ place. is_at place key.origin) (sym (placed-get books (λ b. b.place) n d placed l)) ∙ here) in
    let own : holds_of (book_journals books) key ≡ begun caller =
    ap (λ journal. hold_of journal key) (journal_at-get books (λ b. b.journal) n d key.origin (sym number) l) ∙ is in
    not_begun (holds_of (book_journals books) key) caller own (subst (λ progress. Agrees progress (holds_of (book_journals books) key)) (none_found going none key) (agree key))

-- where no book has one, nothing open agrees with the books
pub none-agrees : {L : Type 0} (books : List (BookView L)) (going : List (TransactionKey × Progress)) → ArePlaced (book_places books) → All (λ (book : BookView L). IsEnded book.journal) books → going ≡ [] → AllAgree going (book_journals books)
none-agrees {L = L} books going placed ended none = λ key.
    subst (λ progress. Agrees progress (holds_of (book_journals books) key)) (sym (none_found going (ap length none) key)) (by_hold key (holds_of (book_journals books) key) refl)
  where
    at_place : (bs : List (BookView L)) → 0 < length bs → All (λ (book : BookView L). IsEnded book.journal) bs → (key : TransactionKey) (caller : ℕ) → holds_of (book_journals bs) key ≡ begun caller → ⊥
    at_place [] some ended key caller is = absurd (omega arith)
    at_place (b ∷ bs) some ended key caller is =
        let n : ℕ = place_number (length (b ∷ bs)) key.origin in
        let within : n < length (b ∷ bs) = omega arith in
        ended n b within key caller (sym (ap (λ journal. hold_of journal key) (journal_at-get (b ∷ bs) (λ (v : BookView L). v.journal) n b key.origin refl within)) ∙ is)

    by_hold : (key : TransactionKey) (state : Hold) → holds_of (book_journals books) key ≡ state → Agrees None state
    by_hold key free is = tt
    by_hold key (begun caller) is =
        let long : length (book_places books) ≡ length books = length-map books (λ (b : BookView L). b.place) in
        let some : 0 < length (book_places books) = placed.some in
        at_place books (omega arith) ended key caller is
    by_hold key (kept reply) is = tt
