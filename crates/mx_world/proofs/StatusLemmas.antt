-- What a change at one key does to the statuses of all.
use Rattle.std.proofs.Common.{◌≡◌, ℕ, true, false, cond, List, [], ◌∷◌, ◌++◌, length, get_or, set, Option, Some, None, refl, sym, ◌∙◌, ap, subst, arith, inl, inr, ◌⊎◌, ◌≢◌, ◌<◌, append-nil}
use Rattle.std.specs.Prelude.{if◌then◌else◌, is_some, Result, Ok, Err, OnOk}
use Rattle.std.specs.Ordering.{is_eq}
use Rattle.std.specs.BTreeMap.{BTreeMap, Updates}
use Rattle.std.proofs.lemmas.Bool.{false≢true, cases_eq}
use Rattle.std.proofs.lemmas.List.{length-map, map-set, set-get_or}
use Rattle.mx_keeper.specs.Places.{place_number}
use Rattle.mx_receipt.specs.Receipt.{Kept}
use Rattle.mx_room.specs.Offer.{Offered}
use Rattle.mx_book.specs.Transactions.{same, transaction_cmp}
use Rattle.mx_book.specs.TransactionLaws.{transaction_ties}
use Rattle.mx_book.specs.Journal.{transaction_of, Hold, free, begun, kept, hold_after, hold_of, opening_of, begins}
use Rattle.mx_book.specs.View.{BookView}
use Rattle.mx_book.specs.declared.transaction_keys.TransactionKey.{TransactionKey}
use Rattle.mx_book.specs.declared.entries.BookEntry.{BookEntry}
use Rattle.mx_book.specs.declared.entries.BookEntry.TheVariants.{Begun}
use Rattle.mx_book.specs.declared.openings.Opening.TheVariants as opening
use Rattle.mx_book.proofs.JournalLemmas.{same-self, same-eq, hold_of-here, hold_of-there}
use Rattle.mx_world.specs.Replies.{Status, waiting, ended, body_of, open_reply, next_reply, close_reply}
use Rattle.mx_world.specs.Moves.{rest_of, after_abandon, after_open, after_next, after_close}
use Rattle.mx_world.specs.View.{Progress}
use Rattle.mx_world.specs.Worlds.{journal_at, book_journals, holds_of, found, status_found, statuses_of, AtTransaction}
use Rattle.mx_world.specs.Inside.{Agrees, AllAgree, opened, progress_after, advanced}
use Rattle.mx_world.specs.declared.answers.Told.{Told}
use Rattle.mx_world.specs.declared.steps.StepReply.TheVariants.{Replayed, Busy, NotOpen, MoreLeft, Closed}
use Rattle.mx_world.proofs.PlaceLemmas.{journal_at-here, journal_at-there, journal_at-get}

-- ---- a function that changes at one key

-- what holds of the changed value there, and of each other value, holds of all
pub at_each : {A B : Type 0} (P : A → B → Type 0) (a a' : TransactionKey → A) (b b' : TransactionKey → B) (q : TransactionKey) (c : A → A) (d : B → B) → AtTransaction a a' q c → AtTransaction b b' q d → ((p : TransactionKey) → P (a p) (b p)) → P (c (a q)) (d (b q)) → (p : TransactionKey) → P (a' p) (b' p)
at_each P a a' b b' q c d as' bs' all here p =
    subst (λ x. P x (b' p)) (sym (as' p)) (subst (λ y. P (if same p q then c (a p) else a p) y) (sym (bs' p))
    (elim (same p q) as (λ t. same p q ≡ t → P (cond t (c (a p)) (a p)) (cond t (d (b p)) (b p))) [
      | true ↦ λ h. subst (λ r. P (c (a r)) (d (b r))) (sym (same-eq p q h)) here
      | false ↦ λ h. all p
    ] refl))

-- nothing changes at any key
pub at_none : {A : Type 0} (a a' : TransactionKey → A) (q : TransactionKey) → ((p : TransactionKey) → a' p ≡ a p) → AtTransaction a a' q (λ x. x)
at_none a a' q h = λ p. h p ∙ elim (same p q) as (λ t. a p ≡ cond t (a p) (a p)) [ true ↦ refl | false ↦ refl ]

-- a change which leaves what is there changes nothing
pub at_same : {A : Type 0} (a : TransactionKey → A) (q : TransactionKey) (change : A → A) → change (a q) ≡ a q → AtTransaction a a q change
at_same a q change stays = λ p. elim (same p q) as (λ t. same p q ≡ t → a p ≡ cond t (change (a p)) (a p)) [
  | true ↦ λ h. subst (λ r. a r ≡ change (a r)) (sym (same-eq p q h)) (sym stays)
  | false ↦ λ h. refl
] refl

-- the statuses change as the progress and the state at that key do
pub statuses-at : (going going' : List (TransactionKey × Progress)) (journals journals' : List (List BookEntry)) (q : TransactionKey) (c : Option Progress → Option Progress) (d : Hold → Hold) (change : Status → Status) →
    AtTransaction (found going) (found going') q c → AtTransaction (holds_of journals) (holds_of journals') q d →
    status_found (c (found going q)) (d (holds_of journals q)) ≡ change (status_found (found going q) (holds_of journals q)) →
    AtTransaction (statuses_of going journals) (statuses_of going' journals') q change
statuses-at going going' journals journals' q c d change fs ss here = λ p.
    ap (λ f. status_found f (holds_of journals' p)) (fs p) ∙ ap (status_found (if same p q then c (found going p) else found going p)) (ss p)
    ∙ elim (same p q) as (λ t. same p q ≡ t → status_found (cond t (c (found going p)) (found going p)) (cond t (d (holds_of journals p)) (holds_of journals p)) ≡ cond t (change (statuses_of going journals p)) (statuses_of going journals p)) [
      | true ↦ λ h. subst (λ r. status_found (c (found going r)) (d (holds_of journals r)) ≡ change (statuses_of going journals r)) (sym (same-eq p q h)) here
      | false ↦ λ h. refl
    ] refl

-- ---- the book of a key

-- one book's journal with one entry more, of the key
pub states-entry : (journals : List (List BookEntry)) (n : ℕ) (entry : BookEntry) (q : TransactionKey) (change : Hold → Hold) → n ≡ place_number (length journals) q.origin → n < length journals → same q (transaction_of entry) ≡ true → transaction_of entry ≡ q →
    hold_after (Some entry) ≡ change (holds_of journals q) →
    AtTransaction (holds_of journals) (holds_of (set journals n (journal_at journals q.origin ++ entry ∷ []))) q change
states-entry journals n entry q change is l itself own here = λ p.
    elim (same p q) as (λ t. same p q ≡ t → holds_of (set journals n (journal_at journals q.origin ++ entry ∷ [])) p ≡ cond t (change (holds_of journals p)) (holds_of journals p)) [
      | true ↦ λ h.
          let P : TransactionKey → Type 0 = λ r. holds_of (set journals n (journal_at journals q.origin ++ entry ∷ [])) r ≡ change (holds_of journals r) in
          subst P (sym (same-eq p q h))
          (ap (λ j. hold_of j q) (journal_at-here journals n (journal_at journals q.origin ++ entry ∷ []) q.origin l (sym is)) ∙ hold_of-here (journal_at journals q.origin) entry q itself ∙ here)
      | false ↦ λ h. elsewhere p h (cases_eq (place_number (length journals) p.origin) n)
    ] refl
  where
    elsewhere : (p : TransactionKey) → same p q ≡ false → (place_number (length journals) p.origin ≡ n) ⊎ (place_number (length journals) p.origin ≢ n) → holds_of (set journals n (journal_at journals q.origin ++ entry ∷ [])) p ≡ holds_of journals p
    elsewhere p h (inl here) =
        ap (λ j. hold_of j p) (journal_at-here journals n (journal_at journals q.origin ++ entry ∷ []) p.origin l here)
        ∙ hold_of-there (journal_at journals q.origin) entry p (ap (same p) own ∙ h)
        ∙ ap (λ k. hold_of (get_or journals k []) p) (sym (here ∙ is))
    elsewhere p h (inr there) = ap (λ j. hold_of j p) (journal_at-there journals n (journal_at journals q.origin ++ entry ∷ []) p.origin there)

-- opening a transaction begins it, where it is free
pub states-begun : (journals : List (List BookEntry)) (n : ℕ) (q : TransactionKey) (state : Hold) → n ≡ place_number (length journals) q.origin → n < length journals → holds_of journals q ≡ state →
    AtTransaction (holds_of journals) (holds_of (set journals n (journal_at journals q.origin ++ begins q 0 state))) q opened
states-begun journals n q state is l at = by_state state at
  where
    nothing : (journal : List BookEntry) → journal ≡ journal_at journals q.origin → opened (holds_of journals q) ≡ holds_of journals q → AtTransaction (holds_of journals) (holds_of (set journals n journal)) q opened
    nothing journal same stays =
        subst (λ js. AtTransaction (holds_of journals) (holds_of js) q opened)
        (sym (ap (set journals n) (same ∙ ap (λ k. get_or journals k []) (sym is)) ∙ set-get_or journals n []))
        (at_same (holds_of journals) q opened stays)

    by_state : (st : Hold) → holds_of journals q ≡ st → AtTransaction (holds_of journals) (holds_of (set journals n (journal_at journals q.origin ++ begins q 0 st))) q opened
    by_state free h = states-entry journals n (Begun q 0) q opened is l (same-self q) refl (ap opened (sym h))
    by_state (begun caller) h = nothing (journal_at journals q.origin ++ []) (append-nil (journal_at journals q.origin)) (ap opened h ∙ sym h)
    by_state (kept reply) h = nothing (journal_at journals q.origin ++ []) (append-nil (journal_at journals q.origin)) (ap opened h ∙ sym h)

-- ---- a call of a book at its place

pub book-begun : {L : Type 0} (books : List (BookView L)) (n : ℕ) (d book : BookView L) (q : TransactionKey) → n ≡ place_number (length books) q.origin → n < length books →
    book.journal ≡ (get_or books n d).journal ++ begins q 0 (hold_of (get_or books n d).journal q) →
    AtTransaction (holds_of (book_journals books)) (holds_of (book_journals (set books n book))) q opened
book-begun books n d book q is l after =
    let long : length (book_journals books) ≡ length books = length-map books (λ b. b.journal) in
    let own : journal_at (book_journals books) q.origin ≡ (get_or books n d).journal = journal_at-get books (λ b. b.journal) n d q.origin is l in
    let same : book_journals (set books n book) ≡ set (book_journals books) n (journal_at (book_journals books) q.origin ++ begins q 0 (holds_of (book_journals books) q)) =
    map-set (λ b. b.journal) books n book ∙ ap (set (book_journals books) n) (after ∙ ap (λ j. j ++ begins q 0 (hold_of j q)) (sym own)) in
    subst (λ js. AtTransaction (holds_of (book_journals books)) (holds_of js) q opened) (sym same)
    (states-begun (book_journals books) n q (holds_of (book_journals books) q) (is ∙ ap (λ k. place_number k q.origin) (sym long)) (let k : n < length (book_journals books) = omega arith in k) refl)

pub book-entry : {L : Type 0} (books : List (BookView L)) (n : ℕ) (d book : BookView L) (q : TransactionKey) (entry : BookEntry) (change : Hold → Hold) → n ≡ place_number (length books) q.origin → n < length books → transaction_of entry ≡ q →
    book.journal ≡ (get_or books n d).journal ++ entry ∷ [] → hold_after (Some entry) ≡ change (holds_of (book_journals books) q) →
    AtTransaction (holds_of (book_journals books)) (holds_of (book_journals (set books n book))) q change
book-entry books n d book q entry change is l of_pair after here =
    let long : length (book_journals books) ≡ length books = length-map books (λ b. b.journal) in
    let own : journal_at (book_journals books) q.origin ≡ (get_or books n d).journal = journal_at-get books (λ b. b.journal) n d q.origin is l in
    let same_journals : book_journals (set books n book) ≡ set (book_journals books) n (journal_at (book_journals books) q.origin ++ entry ∷ []) =
    map-set (λ b. b.journal) books n book ∙ ap (set (book_journals books) n) (after ∙ ap (λ j. j ++ entry ∷ []) (sym own)) in
    subst (λ js. AtTransaction (holds_of (book_journals books)) (holds_of js) q change) (sym same_journals)
    (states-entry (book_journals books) n entry q change (is ∙ ap (λ k. place_number k q.origin) (sym long)) (let k : n < length (book_journals books) = omega arith in k) (ap (same q) of_pair ∙ same-self q) of_pair here)

-- the state at the place of a key is that in its book
pub state-get : {L : Type 0} (books : List (BookView L)) (n : ℕ) (d : BookView L) (q : TransactionKey) → n ≡ place_number (length books) q.origin → n < length books → holds_of (book_journals books) q ≡ hold_of (get_or books n d).journal q
state-get books n d q is l = ap (λ j. hold_of j q) (journal_at-get books (λ b. b.journal) n d q.origin is l)

-- ---- the map of what is open

-- what an update of the map finds
pub found-update : (old new : BTreeMap TransactionKey Progress) (key q : TransactionKey) (w : Option Progress) → key ≡ q → Updates transaction_cmp old new key w → AtTransaction (found old.entries) (found new.entries) q (λ _. w)
found-update old new key q w is updates = λ p.
    elim (same p q) as (λ t. same p q ≡ t → found new.entries p ≡ cond t w (found old.entries p)) [
      | true ↦ λ h. subst (λ r. found new.entries r ≡ w) (is ∙ sym (same-eq p q h)) updates.1
      | false ↦ λ h. updates.2 p (other p h)
    ] refl
  where
    other : (p : TransactionKey) → same p q ≡ false → is_eq (transaction_cmp key p) ≡ false
    other p h =
        elim (is_eq (transaction_cmp key p)) as (λ b. is_eq (transaction_cmp key p) ≡ b → b ≡ false) [
          | true ↦ λ k. absurd (false≢true (sym h ∙ ap (λ r. same r q) (sym (same-eq key p (transaction_ties key p ∙ k))) ∙ ap (λ r. same r q) is ∙ same-self q))
          | false ↦ λ k. refl
        ] refl

-- ---- openings

pub open-busy : (progress : Option Progress) (state : Hold) (events : List Offered) → is_some progress ≡ true → Busy ≡ open_reply events (status_found progress state)
open-busy None state events h = absurd (false≢true h)
open-busy (Some progress) state events h = refl

pub stays-busy : (progress : Option Progress) (state : Hold) (events : List Offered) → is_some progress ≡ true → after_open events (status_found progress state) ≡ status_found progress state
stays-busy None state events h = absurd (false≢true h)
stays-busy (Some progress) state events h = refl

pub none-found : (progress : Option Progress) → is_some progress ≡ false → progress ≡ None
none-found None h = refl
none-found (Some progress) h = absurd (false≢true (sym h))

-- the state by the answer of its book
pub state-kept : (state : Hold) (reply : List ℕ) → opening.Kept reply ≡ opening_of state → state ≡ kept reply
state-kept free reply h = absurd (cc h)
state-kept (begun caller) reply h = absurd (cc h)
state-kept (kept other) reply h = cc h

pub state-fresh : (state : Hold) → opening.Fresh ≡ opening_of state → state ≡ free
state-fresh free h = refl
state-fresh (begun caller) h = absurd (cc h)
state-fresh (kept other) h = absurd (cc h)

-- no book answers that a transaction is begun which is not open
pub never-busy : (progress : Option Progress) (state : Hold) → Agrees progress state → is_some progress ≡ false → opening.Busy ≡ opening_of state → ⊥
never-busy (Some progress) state agree h is = false≢true (sym h)
never-busy None free agree h is = cc is
never-busy None (begun caller) agree h is = agree
never-busy None (kept reply) agree h is = cc is

-- what was added and taken out again is as before
pub taken-back : {A : Type 0} (a a' a'' : TransactionKey → Option A) (q : TransactionKey) (x : A) → a q ≡ None → AtTransaction a a' q (λ _. Some x) → AtTransaction a' a'' q (λ _. None) → (p : TransactionKey) → a'' p ≡ a p
taken-back a a' a'' q x none there back = λ p.
    back p
    ∙ elim (same p q) as (λ t. same p q ≡ t → cond t None (a' p) ≡ a p) [
      | true ↦ λ h. subst (λ r. None ≡ a r) (sym (same-eq p q h)) (sym none)
      | false ↦ λ h. there p ∙ ap (λ b. if b then Some x else a p) h
    ] refl

-- what is kept is replayed, and stays
pub replayed : (going going' : List (TransactionKey × Progress)) (journals journals' : List (List BookEntry)) (q : TransactionKey) (events : List Offered) (reply : List ℕ) → found going q ≡ None → holds_of journals q ≡ kept reply →
    ((p : TransactionKey) → found going' p ≡ found going p) → AtTransaction (holds_of journals) (holds_of journals') q opened → AllAgree going journals →
    (Replayed reply ≡ open_reply events (statuses_of going journals q)) × AtTransaction (statuses_of going journals) (statuses_of going' journals') q (after_open events) × AllAgree going' journals'
replayed going going' journals journals' q events reply none is same_going ss agree =
    let same_found = at_none (found going) (found going') q same_going in (
      ap (λ s. open_reply events (status_found None s)) (sym is) ∙ ap (λ f. open_reply events (status_found f (holds_of journals q))) (sym none),
      statuses-at going going' journals journals' q (λ f. f) opened (after_open events) same_found ss
          (ap (λ f. status_found f (opened (holds_of journals q))) none ∙ ap (λ s. status_found None (opened s)) is ∙ ap (λ s. after_open events (status_found None s)) (sym is)
          ∙ ap (λ f. after_open events (status_found f (holds_of journals q))) (sym none)),
      at_each Agrees (found going) (found going') (holds_of journals) (holds_of journals') q (λ f. f) opened same_found ss agree
          (subst (λ f. Agrees f (opened (holds_of journals q))) (sym none) (subst (λ s. Agrees None (opened s)) (sym is) tt)),
    )

-- a transaction that its book has begun is open
pub opened-all : (going going' : List (TransactionKey × Progress)) (journals journals' : List (List BookEntry)) (q : TransactionKey) (events : List Offered) → found going q ≡ None → holds_of journals q ≡ free →
    AtTransaction (found going) (found going') q (λ _. Some (record { rest = events; told = [] })) → AtTransaction (holds_of journals) (holds_of journals') q opened → AllAgree going journals →
    AtTransaction (statuses_of going journals) (statuses_of going' journals') q (after_open events) × AllAgree going' journals'
opened-all going going' journals journals' q events none is fs ss agree = (
  statuses-at going going' journals journals' q (λ _. Some (record { rest = events; told = [] })) opened (after_open events) fs ss
      (ap (λ s. after_open events (status_found None s)) (sym is) ∙ ap (λ f. after_open events (status_found f (holds_of journals q))) (sym none)),
  at_each Agrees (found going) (found going') (holds_of journals) (holds_of journals') q (λ _. Some (record { rest = events; told = [] })) opened fs ss agree
      (subst (λ s. Agrees (Some (record { rest = events; told = [] })) (opened s)) (sym is) refl),
)

-- one that its book refuses leaves all as before
pub refused-all : (going going' : List (TransactionKey × Progress)) (journals journals' : List (List BookEntry)) → ((p : TransactionKey) → found going' p ≡ found going p) → journals' ≡ journals → AllAgree going journals →
    ((p : TransactionKey) → statuses_of going' journals' p ≡ statuses_of going journals p) × AllAgree going' journals'
refused-all going going' journals journals' same_going same_journals agree = (
  (λ p. ap (λ f. status_found f (holds_of journals' p)) (same_going p) ∙ ap (λ js. status_found (found going p) (holds_of js p)) same_journals),
  (λ p. subst (λ f. Agrees f (holds_of journals' p)) (sym (same_going p)) (subst (λ js. Agrees (found going p) (holds_of js p)) (sym same_journals) (agree p))),
)

-- ---- ends

-- what is open was begun
pub agrees-begun : (progress : Progress) (found_one : Option Progress) (state : Hold) → found_one ≡ Some progress → Agrees found_one state → state ≡ begun 0
agrees-begun progress None state is h = absurd (let e : None ≡ Some progress = is in cc)
agrees-begun progress (Some other) free is h = absurd h
agrees-begun progress (Some other) (begun caller) is h = ap begun h
agrees-begun progress (Some other) (kept reply) is h = absurd h

pub close-none : (state : Hold) → NotOpen ≡ close_reply (status_found None state)
close-none free = refl
close-none (begun caller) = refl
close-none (kept reply) = refl

pub after-close-none : (state : Hold) → after_close (status_found None state) ≡ status_found None state
after-close-none free = refl
after-close-none (begun caller) = refl
after-close-none (kept reply) = refl

pub close-more : (rest : List Offered) (told : List Told) (n : ℕ) → n ≡ length rest → 0 < n → MoreLeft n ≡ close_reply (waiting rest told)
close-more [] told n is some = absurd (omega arith)
close-more (o ∷ rest) told n is some = ap MoreLeft is

pub after-close-more : (rest : List Offered) (told : List Told) (n : ℕ) → n ≡ length rest → 0 < n → after_close (waiting rest told) ≡ waiting rest told
after-close-more [] told n is some = absurd (omega arith)
after-close-more (o ∷ rest) told n is some = refl

pub close-all : (rest : List Offered) (told : List Told) (n : ℕ) (reply : List ℕ) → n ≡ length rest → n ≡ 0 → reply ≡ body_of told → Closed reply ≡ close_reply (waiting rest told)
close-all [] told n reply is none same_body = ap Closed same_body
close-all (o ∷ rest) told n reply is none same_body = absurd (omega arith)

pub after-close-all : (rest : List Offered) (told : List Told) (n : ℕ) (reply : List ℕ) → n ≡ length rest → n ≡ 0 → reply ≡ body_of told → ended reply ≡ after_close (waiting rest told)
after-close-all [] told n reply is none same_body = ap ended same_body
after-close-all (o ∷ rest) told n reply is none same_body = absurd (omega arith)

-- a transaction whose reply is kept has ended
pub closed-all : (going going' : List (TransactionKey × Progress)) (journals journals' : List (List BookEntry)) (q : TransactionKey) (progress : Progress) (n : ℕ) (reply : List ℕ) → found going q ≡ Some progress → n ≡ length progress.rest → n ≡ 0 → reply ≡ body_of progress.told →
    AtTransaction (found going) (found going') q (λ _. None) → AtTransaction (holds_of journals) (holds_of journals') q (λ _. kept reply) → AllAgree going journals →
    AtTransaction (statuses_of going journals) (statuses_of going' journals') q after_close × AllAgree going' journals'
closed-all going going' journals journals' q progress n reply is count none body fs ss agree = (
  statuses-at going going' journals journals' q (λ _. None) (λ _. kept reply) after_close fs ss
      (after-close-all progress.rest progress.told n reply count none body ∙ ap (λ f. after_close (status_found f (holds_of journals q))) (sym is)),
  at_each Agrees (found going) (found going') (holds_of journals) (holds_of journals') q (λ _. None) (λ _. kept reply) fs ss agree tt,
)

-- ---- what is given up

pub begun-open : (progress : Option Progress) (state : Hold) → is_some progress ≡ true → Agrees progress state → state ≡ begun 0
begun-open None state h agree = absurd (false≢true h)
begun-open (Some progress) free h agree = absurd agree
begun-open (Some progress) (begun caller) h agree = ap begun agree
begun-open (Some progress) (kept reply) h agree = absurd agree

pub abandon-none : (progress : Option Progress) (state : Hold) → is_some progress ≡ false → after_abandon (status_found progress state) ≡ status_found progress state
abandon-none (Some progress) state h = absurd (false≢true (sym h))
abandon-none None free h = refl
abandon-none None (begun caller) h = refl
abandon-none None (kept reply) h = refl

pub abandon-open : (progress : Option Progress) (state : Hold) → is_some progress ≡ true → status_found None free ≡ after_abandon (status_found progress state)
abandon-open None state h = absurd (false≢true h)
abandon-open (Some progress) state h = refl

-- a transaction that was open is as one that was never opened
pub abandoned-all : (going going' : List (TransactionKey × Progress)) (journals journals' : List (List BookEntry)) (q : TransactionKey) → is_some (found going q) ≡ true →
    AtTransaction (found going) (found going') q (λ _. None) → AtTransaction (holds_of journals) (holds_of journals') q (λ _. free) → AllAgree going journals →
    AtTransaction (statuses_of going journals) (statuses_of going' journals') q after_abandon × AllAgree going' journals'
abandoned-all going going' journals journals' q is fs ss agree = (
  statuses-at going going' journals journals' q (λ _. None) (λ _. free) after_abandon fs ss (abandon-open (found going q) (holds_of journals q) is),
  at_each Agrees (found going) (found going') (holds_of journals) (holds_of journals') q (λ _. None) (λ _. free) fs ss agree tt,
)

-- ---- the next event

-- a change that gives the same there
pub at-change : {A : Type 0} (a a' : TransactionKey → A) (q : TransactionKey) (c d : A → A) → c (a q) ≡ d (a q) → AtTransaction a a' q c → AtTransaction a a' q d
at-change a a' q c d here as' = λ p.
    as' p
    ∙ elim (same p q) as (λ t. same p q ≡ t → cond t (c (a p)) (a p) ≡ cond t (d (a p)) (a p)) [
      | true ↦ λ h. subst (λ r. c (a r) ≡ d (a r)) (sym (same-eq p q h)) here
      | false ↦ λ h. refl
    ] refl

-- a transaction that has one answer more
pub found-advanced : {A E : Type 0} (r : Result A E) (old new : BTreeMap TransactionKey Progress) (q : TransactionKey) (rows : List ℕ → List Kept) (origin : List ℕ) (progress progress' : Progress) → Some progress ≡ found old.entries q → Updates transaction_cmp old new q (Some progress') →
    OnOk r (progress' ≡ progress_after rows origin progress.rest progress.told) → OnOk r (AtTransaction (found old.entries) (found new.entries) q (advanced rows origin))
found-advanced (Err e) old new q rows origin progress progress' is updates after = tt
found-advanced (Ok x) old new q rows origin progress progress' is updates after =
    at-change (found old.entries) (found new.entries) q (λ _. Some progress') (advanced rows origin) (ap Some after ∙ ap (advanced rows origin) is) (found-update old new q q (Some progress') refl updates)

pub next-found : (rows : List ℕ → List Kept) (origin : List ℕ) (progress : Option Progress) (state : Hold) → next_reply rows origin (status_found progress free) ≡ next_reply rows origin (status_found progress state)
next-found rows origin (Some progress) state = refl
next-found rows origin None free = refl
next-found rows origin None (begun caller) = refl
next-found rows origin None (kept reply) = refl

pub rest-found : (progress : Option Progress) (state : Hold) → rest_of (status_found progress free) ≡ rest_of (status_found progress state)
rest-found (Some progress) state = refl
rest-found None free = refl
rest-found None (begun caller) = refl
rest-found None (kept reply) = refl

pub advanced-status : (rows : List ℕ → List Kept) (origin : List ℕ) (progress : Option Progress) (state : Hold) → status_found (advanced rows origin progress) state ≡ after_next rows origin (status_found progress state)
advanced-status rows origin (Some progress) state = taken progress.rest
  where
    taken : (rest : List Offered) → waiting (progress_after rows origin rest progress.told).rest (progress_after rows origin rest progress.told).told ≡ after_next rows origin (waiting rest progress.told)
    taken [] = refl
    taken (o ∷ rest) = refl
advanced-status rows origin None free = refl
advanced-status rows origin None (begun caller) = refl
advanced-status rows origin None (kept reply) = refl

pub advanced-agrees : (rows : List ℕ → List Kept) (origin : List ℕ) (progress : Option Progress) (state : Hold) → Agrees progress state → Agrees (advanced rows origin progress) state
advanced-agrees rows origin None state h = h
advanced-agrees rows origin (Some progress) free h = h
advanced-agrees rows origin (Some progress) (begun caller) h = h
advanced-agrees rows origin (Some progress) (kept reply) h = h
