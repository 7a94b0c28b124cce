-- A transaction that a caller has begun, and what is added to its book meanwhile.
use Rattle.std.proofs.Common.{◌≡◌, ◌≢◌, ◌<◌, inr, ℕ, length, set, get_or, Bool, true, false, cond, IsTrue, List, [], ◌∷◌, ◌++◌, append-nil, append_assoc, refl, sym, ◌∙◌, ap, subst, eq-eqb}
use Rattle.std.specs.Prelude.{All, Option, None, Some, Result, Ok, Err, IfErr, IfOk, OnOk, OnErr, ◌==◌}
use Rattle.std.proofs.lemmas.Bool.{false≢true, and_parts, eqb-true}
use Rattle.std.proofs.lemmas.List.Elements.{All-nil, filter-append}
use Rattle.std.proofs.lemmas.List.{length-map, length-set, get_or-set_same}
use Rattle.mx_dock.specs.Journal.{IsPrefix, since, entries_of}
use Rattle.mx_dock.proofs.ViewLemmas.{since-append, prefix_trans, entries_of-own}
use Rattle.mx_keeper.specs.declared.refusals.CallError.{CallError}
use Rattle.mx_book.specs.Transactions.{same}
use Rattle.mx_book.specs.Journal.{transaction_of, last_of, hold_of, hold_after, Hold, free, begun, kept, begins, opening_of, follows, is_legal, is_legal_after, IsEnded}
use Rattle.mx_book.specs.declared.transaction_keys.TransactionKey.{TransactionKey}
use Rattle.mx_book.specs.declared.entries.BookEntry.{BookEntry}
use Rattle.mx_book.specs.declared.entries.BookEntry.TheVariants.{Begun, Kept, GivenUp}
use Rattle.mx_book.specs.declared.openings.Opening.{Opening}
use Rattle.mx_book.specs.declared.openings.Opening.TheVariants as opening
use Rattle.mx_book.proofs.JournalLemmas.{same-self, same-eq, hold_of-here, hold_of-there, all_one}
use Rattle.mx_engine.specs.Places.{book_caller}
use native.Mathlib.Decide.{ℕ_discrete}
use mathlib.Core.Logic.{dite}
use Rattle.mx_room.specs.Offer.{Offered}
use Rattle.mx_shard.specs.Journal.{Entry}
use Rattle.mx_world.specs.Replies.{body_of}
use Rattle.mx_world.specs.declared.answers.Told.{Told}
use Rattle.mx_engine.specs.declared.replies.TransactionReply.{TransactionReply}
use Rattle.mx_engine.specs.declared.replies.TransactionReply.TheVariants as closing
use Rattle.mx_dock.specs.Dock.{own}
use Rattle.mx_dock.specs.declared.berths.Berth.{Berth}
use Rattle.mx_keeper.specs.Places.{place_number}
use Rattle.mx_engine.specs.Views.{BerthView, view_at, after_turn, turned, AddsNothing, AreSameViews}
use Rattle.mx_engine.specs.Berths.{views_of}
use Rattle.mx_engine.specs.Transactions.{book_number, IsFound, AreOffered, IsAborted, IsRefused}
use Rattle.mx_engine.specs.BookTurns.{HasBegun, HasBegunIn, IsOpened, IsOpenedIn, IsEndedBy, IsEndedIn}
use Rattle.mx_engine.proofs.TurnLemmas.{after-put, views-turned, view_at-here, view-set_same, view-set_other, told_nothing, same-set}

-- ---- what others add

append-none : {A : Type 0} (first rest : List A) → first ++ rest ≡ first → rest ≡ []
append-none [] rest e = e
append-none (x ∷ xs) rest e = append-none xs rest (cons_tail e)
  where
    cons_tail : {A : Type 0} {x : A} {a b : List A} → x ∷ a ≡ x ∷ b → a ≡ b
    cons_tail e = cc

-- a later part of a legal journal may follow what is before it
legal_rest : (earlier first rest : List BookEntry) → IsTrue (is_legal_after earlier (first ++ rest))
    → IsTrue (is_legal_after (earlier ++ first) rest)
legal_rest earlier [] rest h = subst (λ js. IsTrue (is_legal_after js rest)) (sym (append-nil earlier)) h
legal_rest earlier (e ∷ es) rest h =
    subst (λ js. IsTrue (is_legal_after js rest)) (append_assoc earlier (e ∷ []) es)
    (legal_rest (earlier ++ e ∷ []) es rest
    (and_parts (follows (last_of (transaction_of e) earlier) e) (is_legal_after (earlier ++ e ∷ []) (es ++ rest)) h).1)

same_beginner : (m n : ℕ) → begun m ≡ begun n → m ≡ n
same_beginner m n e = cc

-- who may follow where this caller has begun the transaction is this caller
ends_own : (caller : ℕ) (last : Option BookEntry) (e : BookEntry) → hold_after last ≡ begun caller → follows last e ≡ true
    → book_caller e ≡ caller
ends_own caller None e is h = absurd (let k : free ≡ begun caller = is in cc)
ends_own caller (Some (Kept own beginner reply)) e is h = absurd (let k : kept reply ≡ begun caller = is in cc)
ends_own caller (Some (GivenUp own beginner)) e is h = absurd (let k : free ≡ begun caller = is in cc)
ends_own caller (Some (Begun own beginner)) (Begun key other) is h = absurd (false≢true h)
ends_own caller (Some (Begun own beginner)) (Kept key other reply) is h = sym (eqb-true beginner other h)
    ∙ same_beginner beginner caller is
ends_own caller (Some (Begun own beginner)) (GivenUp key other) is h = sym (eqb-true beginner other h)
    ∙ same_beginner beginner caller is

not_own : (caller : ℕ) (e : BookEntry) (es : List BookEntry) → entries_of book_caller caller (e ∷ es) ≡ []
    → book_caller e ≡ caller → ⊥
not_own caller e es none is =
    let h : e ∷ entries_of book_caller caller es ≡ [] =
    sym (ap (λ b. cond b (e ∷ entries_of book_caller caller es) (entries_of book_caller caller es))
    (eq-eqb (book_caller e) caller is)) ∙ none in
    absurd (let k : e ∷ entries_of book_caller caller es ≡ [] = h in cc)

later_none : (caller : ℕ) (e : BookEntry) (es : List BookEntry) → entries_of book_caller caller (e ∷ es) ≡ []
    → entries_of book_caller caller es ≡ []
later_none caller e es none = from (book_caller e == caller) none
  where
    from : (b : Bool) → cond b (e ∷ entries_of book_caller caller es) (entries_of book_caller caller es) ≡ []
        → entries_of book_caller caller es ≡ []
    from true h = absurd (let k : e ∷ entries_of book_caller caller es ≡ [] = h in cc)
    from false h = h

-- entries of others leave it begun
still : (caller : ℕ) (key : TransactionKey) (earlier rest : List BookEntry) → IsTrue (is_legal_after earlier rest)
    → entries_of book_caller caller rest ≡ [] →
    hold_of earlier key ≡ begun caller → hold_of (earlier ++ rest) key ≡ begun caller
still caller key earlier [] legal none h = ap (λ js. hold_of js key) (append-nil earlier) ∙ h
still caller key earlier (e ∷ es) legal none h =
    let parts = and_parts (follows (last_of (transaction_of e) earlier) e) (is_legal_after (earlier ++ e ∷ []) es) legal in
    let there : hold_of (earlier ++ e ∷ []) key ≡ begun caller =
    elim (same key (transaction_of e)) as
    (λ b. same key (transaction_of e) ≡ b → hold_of (earlier ++ e ∷ []) key ≡ begun caller) [
      | true ↦ λ is. absurd
          (not_own caller e es none
          (ends_own caller (last_of (transaction_of e) earlier) e
          (sym (ap (hold_of earlier) (same-eq key (transaction_of e) is)) ∙ h) parts.0))
      | false ↦ λ is. hold_of-there earlier e key is ∙ h
    ] refl in
    ap (λ js. hold_of js key) (sym (append_assoc earlier (e ∷ []) es))
    ∙ still caller key (earlier ++ e ∷ []) es parts.1 (later_none caller e es none) there

since_later : (opening seen rest journal : List BookEntry) (p : IsPrefix opening seen) → journal ≡ seen ++ rest
    → since opening journal ≡ since opening seen ++ rest
since_later opening seen rest journal p is =
    ap (since opening) (is ∙ ap (λ l. l ++ rest) p.1 ∙ append_assoc opening p.0 rest) ∙ since-append opening (p.0 ++ rest)
    ∙ ap (λ l. l ++ rest) (sym (ap (since opening) p.1 ∙ since-append opening p.0))

-- what this caller has begun is begun when the book is found again
still_begun : (caller : ℕ) (key : TransactionKey) (view : BerthView BookEntry) (journal : List BookEntry)
    → HasBegun caller key view →
    IsPrefix view.seen journal → entries_of book_caller caller (since view.opening journal) ≡ view.added
    → IsTrue (is_legal journal) → hold_of journal key ≡ begun caller
still_begun caller key view journal has later mine legal =
    let rest = later.0 in
    let split : entries_of book_caller caller (since view.opening view.seen) ++ entries_of book_caller caller
    rest ≡ entries_of book_caller caller (since view.opening view.seen) =
    sym (filter-append (λ e. book_caller e == caller) (since view.opening view.seen) rest)
    ∙ ap (entries_of book_caller caller) (sym (since_later view.opening view.seen rest journal has.begins later.1))
    ∙ mine ∙ sym has.mine in
    let none : entries_of book_caller caller rest ≡ [] =
    append-none (entries_of book_caller caller (since view.opening view.seen)) (entries_of book_caller caller rest)
    split in
    ap (λ js. hold_of js key) later.1
    ∙ still caller key view.seen rest (legal_rest [] view.seen rest (subst (λ js. IsTrue (is_legal js)) later.1 legal)) none
    has.is_begun

-- also where the caller is known as the number of its berth
pub held_begun : (caller number : ℕ) (key : TransactionKey) (view : BerthView BookEntry) (journal : List BookEntry)
    → number ≡ caller → HasBegun caller key view →
    IsPrefix view.seen journal → entries_of book_caller number (since view.opening journal) ≡ view.added
    → IsTrue (is_legal journal) → hold_of journal key ≡ begun caller
held_begun caller number key view journal is has later mine legal =
    still_begun caller key view journal has later
    (subst (λ n. entries_of book_caller n (since view.opening journal) ≡ view.added) is mine) legal

-- ---- what an opening adds

pub begins-own : (key : TransactionKey) (caller : ℕ) (hold : Hold)
    → All (λ e. book_caller e ≡ caller) (begins key caller hold)
begins-own key caller free = all_one (λ e. book_caller e ≡ caller) (Begun key caller) refl
begins-own key caller (begun other) = All-nil (λ e. book_caller e ≡ caller)
begins-own key caller (kept reply) = All-nil (λ e. book_caller e ≡ caller)

pub one-own : (caller : ℕ) (e : BookEntry) → book_caller e ≡ caller → All (λ e. book_caller e ≡ caller) (e ∷ [])
one-own caller e is = all_one (λ e. book_caller e ≡ caller) e is

-- the journal after an opening, whether or not it was refused, is longer by entries of its caller
pub record IsBookLonger (caller : ℕ) (old new : List BookEntry) : Type 0 where
  pub rest : List BookEntry
  pub is : new ≡ old ++ rest
  pub mine : All (λ e. book_caller e ≡ caller) rest

pub opened_longer : {A F : Type 0} (caller : ℕ) (key : TransactionKey) (journal journal' : List BookEntry)
    (result : Result A F) →
    OnOk result (journal' ≡ journal ++ begins key caller (hold_of journal key)) → OnErr result (journal' ≡ journal)
    → IsBookLonger caller journal journal'
opened_longer caller key journal journal' (Ok a) ok err =
    record { rest = begins key caller (hold_of journal key); is = ok; mine = begins-own key caller (hold_of journal key) }
opened_longer caller key journal journal' (Err e) ok err =
    record { rest = []; is = err ∙ sym (append-nil journal); mine = All-nil (λ e. book_caller e ≡ caller) }

pub opened : (caller number : ℕ) (key : TransactionKey) (old taken new : BerthView BookEntry)
    (journal journal' : List BookEntry) (result : Result Opening CallError) →
    number ≡ caller → taken ≡ after_turn old journal [] → IsTrue (is_legal journal) → IsPrefix old.seen journal
    → IsPrefix old.opening journal → entries_of book_caller number (since old.opening journal) ≡ old.added →
    (new.number ≡ taken.number) × (new.opening ≡ taken.opening) × (new.place ≡ taken.place) × (new.made ≡ taken.made) →
    new.seen ≡ journal' → new.added ≡ taken.added ++ since taken.seen journal' →
    IfOk result (λ o. o ≡ opening_of (hold_of journal key))
    → OnOk result (journal' ≡ journal ++ begins key caller (hold_of journal key)) → OnErr result (journal' ≡ journal) →
    IsOpened caller key old new result
opened caller number key old taken new journal journal' (Ok a) numbered is legal later opens mine same_there seen more reply
    ok err = record {
      journal = journal;
      legal = legal;
      later = later;
      opens = opens;
      mine = subst (λ n. entries_of book_caller n (since old.opening journal) ≡ old.added) numbered mine;
      reply = reply;
      ok = after-put old taken new journal journal' (begins key caller (hold_of journal key)) is same_there seen more ok;
      err = err;
    }
opened caller number key old taken new journal journal' (Err e) numbered is legal later opens mine same_there seen more reply
    ok err = record {
      journal = journal;
      legal = legal;
      later = later;
      opens = opens;
      mine = subst (λ n. entries_of book_caller n (since old.opening journal) ≡ old.added) numbered mine;
      reply = reply;
      ok = ok;
      err = after-put old taken new journal journal' [] is same_there seen more (err ∙ sym (append-nil journal));
    }

-- ---- what an end adds

pub ended : (caller : ℕ) (key : TransactionKey) (end_ : BookEntry) (old taken new : BerthView BookEntry)
    (journal journal' : List BookEntry) →
    taken ≡ after_turn old journal [] → IsTrue (is_legal journal) → IsPrefix old.seen journal
    → hold_of journal key ≡ begun caller →
    (new.number ≡ taken.number) × (new.opening ≡ taken.opening) × (new.place ≡ taken.place) × (new.made ≡ taken.made) →
    new.seen ≡ journal' → new.added ≡ taken.added ++ since taken.seen journal' → journal' ≡ journal ++ end_ ∷ [] →
    IsEndedBy caller key end_ old new
ended caller key end_ old taken new journal journal' is legal later is_begun same_there seen more longer = record {
  journal = journal;
  legal = legal;
  later = later;
  is_begun = is_begun;
  seen = after-put old taken new journal journal' (end_ ∷ []) is same_there seen more longer;
}

-- the entry that ends a transaction: with a reply that is kept, or given up where that is refused
abbrev pub end_with : {A F : Type 0} → ℕ → TransactionKey → List ℕ → Result A F → BookEntry
end_with caller key reply (Ok a) = Kept key caller reply
end_with caller key reply (Err e) = GivenUp key caller

pub end_with-own : {A F : Type 0} (caller : ℕ) (key : TransactionKey) (reply : List ℕ) (result : Result A F)
    → All (λ e. book_caller e ≡ caller) (end_with caller key reply result ∷ [])
end_with-own caller key reply (Ok a) = one-own caller (Kept key caller reply) refl
end_with-own caller key reply (Err e) = one-own caller (GivenUp key caller) refl

pub end_with-journal : {A F : Type 0} (caller : ℕ) (key : TransactionKey) (reply : List ℕ)
    (journal journal' : List BookEntry) (result : Result A F) →
    OnOk result (journal' ≡ journal ++ Kept key caller reply ∷ [])
    → OnErr result (journal' ≡ journal ++ GivenUp key caller ∷ [])
    → journal' ≡ journal ++ end_with caller key reply result ∷ []
end_with-journal caller key reply journal journal' (Ok a) ok err = ok
end_with-journal caller key reply journal journal' (Err e) ok err = err

pub end_with-kept : {A F : Type 0} (caller : ℕ) (key : TransactionKey) (reply : List ℕ) (old new : BerthView BookEntry)
    (result : Result A F) →
    IsEndedBy caller key (end_with caller key reply result) old new
    → OnOk result (IsEndedBy caller key (Kept key caller reply) old new)
end_with-kept caller key reply old new (Ok a) h = h
end_with-kept caller key reply old new (Err e) h = tt

pub end_with-given_up : {A F : Type 0} (caller : ℕ) (key : TransactionKey) (reply : List ℕ) (old new : BerthView BookEntry)
    (result : Result A F) →
    IsEndedBy caller key (end_with caller key reply result) old new
    → OnErr result (IsEndedBy caller key (GivenUp key caller) old new)
end_with-given_up caller key reply old new (Ok a) h = tt
end_with-given_up caller key reply old new (Err e) h = h

-- ---- what is free is begun by its opening

free_of_fresh : (hold : Hold) → opening.Fresh ≡ opening_of hold → hold ≡ free
free_of_fresh free h = refl
free_of_fresh (begun other) h = absurd (let e : opening.Fresh ≡ opening.Busy = h in cc)
free_of_fresh (kept reply) h = absurd (let e : opening.Fresh ≡ opening.Kept reply = h in cc)

busy_of : (hold : Hold) → opening.Busy ≡ opening_of hold → (other : ℕ) × (hold ≡ begun other)
busy_of free h = absurd (let e : opening.Busy ≡ opening.Fresh = h in cc)
busy_of (begun other) h = (other, refl)
busy_of (kept reply) h = absurd (let e : opening.Busy ≡ opening.Kept reply = h in cc)

-- what is busy is begun by another call, and stays as it was
pub busy_found : (caller : ℕ) (key : TransactionKey) (old new : List (BerthView BookEntry)) (how : Opening)
    → how ≡ opening.Busy → IsOpenedIn caller key old new (Ok how) →
    (journal : List BookEntry) × IsFound old key journal × ((other : ℕ) × (hold_of journal key ≡ begun other))
    × (new ≡ turned old (book_number old key) journal [])
busy_found caller key old new how is o =
    let held = busy_of (hold_of o.journal key) (sym is ∙ o.reply) in
    (o.journal, o.found, held, o.ok ∙ ap (λ h. turned old (book_number old key) o.journal (begins key caller h)) held.1)

pub opened_free : (caller : ℕ) (key : TransactionKey) (old new : BerthView BookEntry)
    (o : IsOpened caller key old new (Ok opening.Fresh)) → hold_of o.journal key ≡ free
opened_free caller key old new o = free_of_fresh (hold_of o.journal key) o.reply

pub opened_view : (caller : ℕ) (key : TransactionKey) (old new : BerthView BookEntry)
    (o : IsOpened caller key old new (Ok opening.Fresh)) → new ≡ after_turn old o.journal (Begun key caller ∷ [])
opened_view caller key old new o = o.ok
    ∙ ap (λ h. after_turn old o.journal (begins key caller h)) (opened_free caller key old new o)

pub begun-opened : (caller : ℕ) (key : TransactionKey) (old new : BerthView BookEntry)
    → IsOpened caller key old new (Ok opening.Fresh) → HasBegun caller key new
begun-opened caller key old new o =
    let entry : BookEntry = Begun key caller in
    subst (HasBegun caller key) (sym (opened_view caller key old new o)) (record {
      begins = prefix_trans old.opening o.journal (o.journal ++ entry ∷ []) o.opens (entry ∷ [], refl);
      mine = ap (entries_of book_caller caller)
          (since_later old.opening o.journal (entry ∷ []) (o.journal ++ entry ∷ []) o.opens refl)
          ∙ filter-append (λ e. book_caller e == caller) (since old.opening o.journal) (entry ∷ [])
          ∙ ap (λ l. l ++ entries_of book_caller caller (entry ∷ [])) o.mine
          ∙ ap (λ l. old.added ++ l) (entries_of-own book_caller caller (entry ∷ []) (one-own caller entry refl));
      is_begun = hold_of-here o.journal entry key (same-self key);
    })

-- ---- a turn of a transaction's book, told of all that its caller knows

module _ {T : Type 0} where
  -- the book's number by the views is that of its berth
  there : (key : TransactionKey) (berths : List (Berth T BookEntry)) (n : ℕ) → n ≡ place_number (length berths) key.origin
      → n ≡ book_number (views_of berths) key
  there key berths n place = place ∙ ap (λ k. place_number k key.origin) (sym (length-map berths own))

  -- what is known of that book
  known : (key : TransactionKey) (berths : List (Berth T BookEntry)) (n : ℕ) (old : Berth T BookEntry)
      → n ≡ place_number (length berths) key.origin → n < length berths → get_or berths n old ≡ old
      → view_at (views_of berths) (book_number (views_of berths) key) ≡ own old
  known key berths n old place l is = ap (view_at (views_of berths)) (sym (there key berths n place))
      ∙ view_at-here berths n old l ∙ ap own is

  within_there : (key : TransactionKey) (berths : List (Berth T BookEntry)) (n : ℕ)
      → n ≡ place_number (length berths) key.origin → n < length berths
      → book_number (views_of berths) key < length (views_of berths)
  within_there key berths n place l =
      subst (λ m. m < length (views_of berths)) (there key berths n place)
      (subst (λ m. n < m) (sym (length-map berths own)) l)

  found_there : (key : TransactionKey) (berths : List (Berth T BookEntry)) (n : ℕ) (old : Berth T BookEntry)
      (journal : List BookEntry) → n ≡ place_number (length berths) key.origin → n < length berths
      → get_or berths n old ≡ old →
      IsTrue (is_legal journal) → IsPrefix (own old).seen journal → IsFound (views_of berths) key journal
  found_there key berths n old journal place l is legal later = record {
    legal = legal;
    later = subst (λ v. IsPrefix v.seen journal) (sym (known key berths n old place l is)) later;
  }

  turned_same : (berths : List (Berth T BookEntry)) (n : ℕ) (old new : Berth T BookEntry) (journal entries : List BookEntry)
      → n < length berths → get_or berths n old ≡ old → own new ≡ after_turn (own old) journal entries
      → AreSameViews (views_of berths) (views_of (set berths n new))
  turned_same berths n old new journal entries l is turn_there =
      let k : n < length (views_of berths) = subst (λ m. n < m) (sym (length-map berths own)) l in
      subst (AreSameViews (views_of berths)) (sym (views-turned berths n new journal entries n old refl l is turn_there))
      (same-set (views_of berths) n journal entries k)

  pub opened_same : (caller : ℕ) (key : TransactionKey) (berths : List (Berth T BookEntry)) (n : ℕ)
      (old new : Berth T BookEntry) (result : Result Opening CallError) → n < length berths → get_or berths n old ≡ old
      → IsOpened caller key (own old) (own new) result → AreSameViews (views_of berths) (views_of (set berths n new))
  opened_same caller key berths n old new (Ok o) l is t =
      turned_same berths n old new t.journal (begins key caller (hold_of t.journal key)) l is t.ok
  opened_same caller key berths n old new (Err e) l is t = turned_same berths n old new t.journal [] l is t.err

  pub opened_in : (caller : ℕ) (key : TransactionKey) (berths : List (Berth T BookEntry)) (n : ℕ)
      (old new : Berth T BookEntry) (result : Result Opening CallError) → n ≡ place_number (length berths) key.origin
      → n < length berths → get_or berths n old ≡ old →
      IsOpened caller key (own old) (own new) result
      → IsOpenedIn caller key (views_of berths) (views_of (set berths n new)) result
  opened_in caller key berths n old new (Ok o) place l is t = record {
    journal = t.journal;
    within = within_there key berths n place l;
    found = found_there key berths n old t.journal place l is t.legal t.later;
    reply = t.reply;
    ok = views-turned berths n new t.journal (begins key caller (hold_of t.journal key)) (book_number (views_of berths) key)
        old (there key berths n place) l is t.ok;
    err = tt;
  }
  opened_in caller key berths n old new (Err e) place l is t = record {
    journal = t.journal;
    within = within_there key berths n place l;
    found = found_there key berths n old t.journal place l is t.legal t.later;
    reply = tt;
    ok = tt;
    err = told_nothing berths n old new t.journal l is t.later t.err;
  }

  -- what is known of the book afterwards
  known_after : (key : TransactionKey) (berths : List (Berth T BookEntry)) (n : ℕ) (new : Berth T BookEntry)
      → n ≡ place_number (length berths) key.origin → n < length berths
      → view_at (views_of (set berths n new)) (book_number (views_of (set berths n new)) key) ≡ own new
  known_after key berths n new place l =
      known key (set berths n new) n new (place ∙ ap (λ k. place_number k key.origin) (sym (length-set berths n new)))
      (subst (λ m. n < m) (sym (length-set berths n new)) l) (get_or-set_same berths n new new l)

  pub begun_in : (caller : ℕ) (key : TransactionKey) (berths : List (Berth T BookEntry)) (n : ℕ)
      (old new : Berth T BookEntry) (result : Result Opening CallError) → n ≡ place_number (length berths) key.origin
      → n < length berths →
      IsOpened caller key (own old) (own new) result
      → IfOk result (λ o. o ≡ opening.Fresh → HasBegunIn caller key (views_of (set berths n new)))
  begun_in caller key berths n old new (Ok o) place l t = λ fresh.
      subst (HasBegun caller key) (sym (known_after key berths n new place l))
      (begun-opened caller key (own old) (own new)
      (subst (λ (p : Opening). IsOpened caller key (own old) (own new) (Ok p)) fresh t))
  begun_in caller key berths n old new (Err e) place l t = tt

  pub begun_there : (caller : ℕ) (key : TransactionKey) (berths : List (Berth T BookEntry)) (n : ℕ) (old : Berth T BookEntry)
      → n ≡ place_number (length berths) key.origin → n < length berths → get_or berths n old ≡ old
      → HasBegunIn caller key (views_of berths) → HasBegun caller key (own old)
  begun_there caller key berths n old place l is has = subst (HasBegun caller key) (known key berths n old place l is) has

  pub ended_same : (caller : ℕ) (key : TransactionKey) (end_ : BookEntry) (berths : List (Berth T BookEntry)) (n : ℕ)
      (old new : Berth T BookEntry) → n < length berths → get_or berths n old ≡ old
      → IsEndedBy caller key end_ (own old) (own new) → AreSameViews (views_of berths) (views_of (set berths n new))
  ended_same caller key end_ berths n old new l is t = turned_same berths n old new t.journal (end_ ∷ []) l is t.seen

  pub ended_in : (caller : ℕ) (key : TransactionKey) (end_ : BookEntry) (berths : List (Berth T BookEntry)) (n : ℕ)
      (old new : Berth T BookEntry) → n ≡ place_number (length berths) key.origin → n < length berths
      → get_or berths n old ≡ old →
      IsEndedBy caller key end_ (own old) (own new)
      → IsEndedIn caller key end_ (views_of berths) (views_of (set berths n new))
  ended_in caller key end_ berths n old new place l is t = record {
    journal = t.journal;
    found = found_there key berths n old t.journal place l is t.legal t.later;
    is_begun = t.is_begun;
    seen = views-turned berths n new t.journal (end_ ∷ []) (book_number (views_of berths) key) old (there key berths n place)
        l is t.seen;
  }

  -- by the result of keeping a reply
  pub kept_same : {A F : Type 0} (caller : ℕ) (key : TransactionKey) (first second : BookEntry)
      (berths : List (Berth T BookEntry)) (n : ℕ) (old new : Berth T BookEntry) (result : Result A F) → n < length berths
      → get_or berths n old ≡ old →
      OnOk result (IsEndedBy caller key first (own old) (own new))
      → OnErr result (IsEndedBy caller key second (own old) (own new))
      → AreSameViews (views_of berths) (views_of (set berths n new))
  kept_same caller key first second berths n old new (Ok a) l is ok err =
      ended_same caller key first berths n old new l is ok
  kept_same caller key first second berths n old new (Err e) l is ok err =
      ended_same caller key second berths n old new l is err

  pub kept_in : {A F : Type 0} (caller : ℕ) (key : TransactionKey) (end_ : BookEntry) (berths : List (Berth T BookEntry))
      (n : ℕ) (old new : Berth T BookEntry) (result : Result A F) → n ≡ place_number (length berths) key.origin
      → n < length berths → get_or berths n old ≡ old →
      OnOk result (IsEndedBy caller key end_ (own old) (own new))
      → OnOk result (IsEndedIn caller key end_ (views_of berths) (views_of (set berths n new)))
  kept_in caller key end_ berths n old new (Ok a) place l is ok = ended_in caller key end_ berths n old new place l is ok
  kept_in caller key end_ berths n old new (Err e) place l is ok = tt

  pub refused_in : {A F : Type 0} (caller : ℕ) (key : TransactionKey) (end_ : BookEntry) (berths : List (Berth T BookEntry))
      (n : ℕ) (old new : Berth T BookEntry) (result : Result A F) → n ≡ place_number (length berths) key.origin
      → n < length berths → get_or berths n old ≡ old →
      OnErr result (IsEndedBy caller key end_ (own old) (own new))
      → OnErr result (IsEndedIn caller key end_ (views_of berths) (views_of (set berths n new)))
  refused_in caller key end_ berths n old new (Ok a) place l is err = tt
  refused_in caller key end_ berths n old new (Err e) place l is err =
      ended_in caller key end_ berths n old new place l is err

-- ---- no transaction is left begun

-- what is free or kept is no transaction that is begun
free_not_begun : (other : ℕ) → free ≢ begun other
free_not_begun other h = let e : free ≡ begun other = h in cc

kept_not_begun : (reply : List ℕ) (other : ℕ) → kept reply ≢ begun other
kept_not_begun reply other h = let e : kept reply ≡ begun other = h in cc

-- an entry that ends its transaction
pub record Ends (key : TransactionKey) (end_ : BookEntry) : Type 0 where
  pub its : transaction_of end_ ≡ key
  pub ends : (other : ℕ) → hold_after (Some end_) ≢ begun other

pub ends_kept : (key : TransactionKey) (caller : ℕ) (reply : List ℕ) → Ends key (Kept key caller reply)
ends_kept key caller reply = record { its = refl; ends = λ other. kept_not_begun reply other }

pub ends_given_up : (key : TransactionKey) (caller : ℕ) → Ends key (GivenUp key caller)
ends_given_up key caller = record { its = refl; ends = λ other. free_not_begun other }

-- what is begun and then ended leaves all ended
ended_both : (key : TransactionKey) (caller : ℕ) (end_ : BookEntry) (entries : List BookEntry) → Ends key end_
    → IsEnded entries → IsEnded (entries ++ Begun key caller ∷ [] ++ end_ ∷ [])
ended_both key caller end_ entries e all = λ other by h.
    elim (same other key) as (λ b. same other key ≡ b → ⊥) [
      | true ↦ λ is. e.ends by
          (sym (hold_of-here (entries ++ Begun key caller ∷ []) end_ other (ap (same other) e.its ∙ is)) ∙ h)
      | false ↦ λ is. all other by
          (sym (hold_of-there entries (Begun key caller) other is)
          ∙ sym (hold_of-there (entries ++ Begun key caller ∷ []) end_ other (ap (same other) e.its ∙ is)) ∙ h)
    ] refl

pub nothing_ended : (old new : List (BerthView BookEntry)) → AddsNothing old new → ((n : ℕ) → IsEnded (view_at old n).added)
    → (n : ℕ) → IsEnded (view_at new n).added
nothing_ended old new nothing all n =
    subst IsEnded (sym (ap (λ (v : BerthView BookEntry). v.added) (nothing.each n).2)) (all n)

-- the two turns of a transaction that was begun
pub turned_ended : (key : TransactionKey) (caller : ℕ) (end_ : BookEntry) (views : List (BerthView BookEntry)) (n : ℕ)
    (first second : List BookEntry) → Ends key end_ → n < length views →
    ((m : ℕ) → IsEnded (view_at views m).added) → (m : ℕ)
    → IsEnded (view_at (turned (turned views n first (Begun key caller ∷ [])) n second (end_ ∷ [])) m).added
turned_ended key caller end_ views n first second e l all m =
    let began : BerthView BookEntry = after_turn (view_at views n) first (Begun key caller ∷ []) in
    let between : List (BerthView BookEntry) = set views n began in
    let l' : n < length between = subst (λ k. n < k) (sym (length-set views n began)) l in
    dite (ℕ_discrete m n)
    (λ is. subst (λ k. IsEnded (view_at (set between n (after_turn (view_at between n) second (end_ ∷ []))) k).added)
    (sym is)
    (subst IsEnded (sym (ap (λ (v : BerthView BookEntry). v.added)
    (view-set_same between n (after_turn (view_at between n) second (end_ ∷ [])) l')
    ∙ ap (λ (v : BerthView BookEntry). v.added ++ end_ ∷ []) (view-set_same views n began l)))
    (ended_both key caller end_ (view_at views n).added e (all n))))
    (λ apart. subst IsEnded
    (sym (ap (λ (v : BerthView BookEntry). v.added)
    (view-set_other between n m (after_turn (view_at between n) second (end_ ∷ [])) apart
    ∙ view-set_other views n m began apart))) (all m))

-- the book's number stays
same_number : (key : TransactionKey) (views : List (BerthView BookEntry)) (n : ℕ) (journal entries : List BookEntry)
    → book_number (turned views n journal entries) key ≡ book_number views key
same_number key views n journal entries =
    ap (λ k. place_number k key.origin) (length-set views n (after_turn (view_at views n) journal entries))

-- the view of an opening, and that of the end
pub fresh_view : (caller : ℕ) (key : TransactionKey) (old new : List (BerthView BookEntry))
    (o : IsOpenedIn caller key old new (Ok opening.Fresh))
    → new ≡ turned old (book_number old key) o.journal (Begun key caller ∷ [])
fresh_view caller key old new o = o.ok
    ∙ ap (λ h. turned old (book_number old key) o.journal (begins key caller h))
    (free_of_fresh (hold_of o.journal key) o.reply)

pub end_view : (caller : ℕ) (key : TransactionKey) (end_ : BookEntry) (old between new : List (BerthView BookEntry))
    (o : IsOpenedIn caller key old between (Ok opening.Fresh)) (e : IsEndedIn caller key end_ between new) →
    new ≡ turned (turned old (book_number old key) o.journal (Begun key caller ∷ [])) (book_number old key) e.journal
    (end_ ∷ [])
end_view caller key end_ old between new o e =
    e.seen ∙ ap (λ vs. turned vs (book_number vs key) e.journal (end_ ∷ [])) (fresh_view caller key old between o)
    ∙ ap (λ k. turned (turned old (book_number old key) o.journal (Begun key caller ∷ [])) k e.journal (end_ ∷ []))
    (same_number key old (book_number old key) o.journal (Begun key caller ∷ []))

pub ended_all : (caller : ℕ) (key : TransactionKey) (end_ : BookEntry) (old between new : List (BerthView BookEntry))
    → Ends key end_ → IsOpenedIn caller key old between (Ok opening.Fresh) → IsEndedIn caller key end_ between new →
    ((n : ℕ) → IsEnded (view_at old n).added) → (n : ℕ) → IsEnded (view_at new n).added
ended_all caller key end_ old between new ends o e all n =
    subst (λ vs. IsEnded (view_at vs n).added) (sym (end_view caller key end_ old between new o e))
    (turned_ended key caller end_ old (book_number old key) o.journal e.journal ends o.within all n)

fresh_opened : (caller : ℕ) (key : TransactionKey) (old between : List (BerthView BookEntry)) (how : Opening)
    → how ≡ opening.Fresh → IsOpenedIn caller key old between (Ok how) → IsOpenedIn caller key old between (Ok opening.Fresh)
fresh_opened caller key old between how is o = subst (λ (p : Opening). IsOpenedIn caller key old between (Ok p)) is o

-- by the result of closing it
pub closed_all : (caller : ℕ) (key : TransactionKey) (events : List Offered) (shards shards' : List (BerthView Entry))
    (old between new : List (BerthView BookEntry)) (result : Result TransactionReply CallError) (how : Opening)
    → how ≡ opening.Fresh → IsOpenedIn caller key old between (Ok how) →
    IfOk result (λ r. (told : List Told) × AreOffered caller key.origin events shards shards' told
    × (r ≡ closing.Closed (body_of told)) × IsEndedIn caller key (Kept key caller (body_of told)) between new) →
    IfErr result (λ error. IsAborted caller key.origin events shards shards' error
    × IsEndedIn caller key (GivenUp key caller) between new) →
    ((n : ℕ) → IsEnded (view_at old n).added) → (n : ℕ) → IsEnded (view_at new n).added
closed_all caller key events shards shards' old between new (Ok r) how is o ok err all n =
    ended_all caller key (Kept key caller (body_of ok.0)) old between new (ends_kept key caller (body_of ok.0))
    (fresh_opened caller key old between how is o) ok.3 all n
closed_all caller key events shards shards' old between new (Err e) how is o ok err all n =
    ended_all caller key (GivenUp key caller) old between new (ends_given_up key caller)
    (fresh_opened caller key old between how is o) err.1 all n

-- what is refused once it was begun is given up
pub refused_begun : (caller : ℕ) (key : TransactionKey) (events : List Offered) (shards shards' : List (BerthView Entry))
    (old between new : List (BerthView BookEntry)) (result : Result TransactionReply CallError) (how : Opening)
    → how ≡ opening.Fresh → IsOpenedIn caller key old between (Ok how)
    → IfErr result (λ error. IsAborted caller key.origin events shards shards' error
    × IsEndedIn caller key (GivenUp key caller) between new)
    → IfErr result (IsRefused caller key events shards old shards' new)
refused_begun caller key events shards shards' old between new (Ok r) how is o err = tt
refused_begun caller key events shards shards' old between new (Err e) how is o err =
    let fresh = fresh_opened caller key old between how is o in
    inr (
      err.0,
      record {
        journal = fresh.journal;
        found = fresh.found;
        is_free = free_of_fresh (hold_of fresh.journal key) fresh.reply;
        last = err.1.journal;
        found_again = subst (λ vs. IsFound vs key err.1.journal) (fresh_view caller key old between fresh) err.1.found;
        is_begun = err.1.is_begun;
        seen = end_view caller key (GivenUp key caller) old between new fresh err.1;
      },
    )
