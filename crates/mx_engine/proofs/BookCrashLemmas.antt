-- What a crash leaves of a book that callers share, and what a book has that is opened again over it.
use Rattle.std.proofs.Common.{◌≡◌, ◌⊎◌, inl, inr, ℕ, Bool, true, false, IsTrue, List, [], ◌∷◌, ◌++◌, Option, Some, None, refl, sym, ap, ◌∙◌, subst, append_assoc, append-nil}
use Rattle.std.specs.Prelude.{◌≢◌}
use Rattle.std.proofs.lemmas.Bool.{false≢true, and_parts}
use Rattle.std.proofs.lemmas.List.{map-append}
use Rattle.mx_dock.specs.Journal.{IsPrefix}
use Rattle.mx_dock.specs.declared.views.PassView.{PassView}
use Rattle.mx_keeper.specs.declared.rows.BookRow.{BookRow}
use Rattle.mx_book.specs.Transactions.{same}
use Rattle.mx_book.specs.Journal.{transaction_of, last_of, free, begun, kept, hold_after, hold_of, follows, is_legal, is_legal_after, stored, entry_of, reopened, after_stop}
use Rattle.mx_book.specs.View.{BookView}
use Rattle.mx_book.specs.declared.transaction_keys.TransactionKey.{TransactionKey}
use Rattle.mx_book.specs.declared.entries.BookEntry.{BookEntry}
use Rattle.mx_book.specs.declared.entries.BookEntry.TheVariants.{Begun, Kept, GivenUp}
use Rattle.mx_book.proofs.JournalLemmas.{same-eq, hold_of-here, hold_of-there, stored-push}
use Rattle.mx_book.proofs.StoredLemmas.{stored-given_up}
use Rattle.mx_book.proofs.AgainLemmas.{known-again}
use Rattle.mx_world.specs.Parts.{IsSoundBook}
use Rattle.mx_engine.specs.Places.{place_code, book_caller}
use Rattle.mx_engine.specs.Crashes.{AllSeen, IsBookInDock, IsBookOut, LeavesOnly, LeavesBook, IsBookExit, AreExits, last_of as last_value, IsSharedBook, BookRemembers}
use Rattle.mx_engine.specs.declared.docked.DockedBook.{DockedBook}
use Rattle.mx_engine.proofs.DockCrashLemmas.{seen_in, seen_out, each_seen}

-- ---- a reply that is kept stays

-- nothing follows it
last-kept : (last : Option BookEntry) (entry : BookEntry) (reply : List ℕ) → hold_after last ≡ kept reply
    → follows last entry ≡ false
last-kept None entry reply h = absurd (let e : free ≡ kept reply = h in cc)
last-kept (Some (Begun own caller)) entry reply h = absurd (let e : begun caller ≡ kept reply = h in cc)
last-kept (Some (Kept own caller other)) (Begun key by) reply h = refl
last-kept (Some (Kept own caller other)) (Kept key by again) reply h = refl
last-kept (Some (Kept own caller other)) (GivenUp key by) reply h = refl
last-kept (Some (GivenUp own caller)) entry reply h = absurd (let e : free ≡ kept reply = h in cc)

module _ (key : TransactionKey) (reply : List ℕ) where
  kept-push : (earlier : List BookEntry) (entry : BookEntry) → hold_of earlier key ≡ kept reply
      → follows (last_of (transaction_of entry) earlier) entry ≡ true → hold_of (earlier ++ entry ∷ []) key ≡ kept reply
  kept-push earlier entry is next = by (same key (transaction_of entry)) refl
    where
      by : (b : Bool) → same key (transaction_of entry) ≡ b → hold_of (earlier ++ entry ∷ []) key ≡ kept reply
      by true h = absurd (false≢true
          (sym (last-kept (last_of key earlier) entry reply is)
          ∙ ap (λ p. follows (last_of p earlier) entry) (same-eq key (transaction_of entry) h) ∙ next))
      by false h = hold_of-there earlier entry key h ∙ is

  kept-stays : (earlier entries : List BookEntry) → hold_of earlier key ≡ kept reply → is_legal_after earlier entries ≡ true
      → hold_of (earlier ++ entries) key ≡ kept reply
  kept-stays earlier [] is legal = ap (λ js. hold_of js key) (append-nil earlier) ∙ is
  kept-stays earlier (entry ∷ entries) is legal =
      let parts = and_parts (follows (last_of (transaction_of entry) earlier) entry)
      (is_legal_after (earlier ++ entry ∷ []) entries) legal in
      ap (λ js. hold_of js key) (sym (append_assoc earlier (entry ∷ []) entries))
      ∙ kept-stays (earlier ++ entry ∷ []) entries (kept-push earlier entry is parts.0) parts.1

legal-later : (earlier xs ys : List BookEntry) → is_legal_after earlier (xs ++ ys) ≡ true
    → is_legal_after (earlier ++ xs) ys ≡ true
legal-later earlier [] ys legal = ap (λ js. is_legal_after js ys) (append-nil earlier) ∙ legal
legal-later earlier (x ∷ xs) ys legal =
    let parts = and_parts (follows (last_of (transaction_of x) earlier) x) (is_legal_after (earlier ++ x ∷ []) (xs ++ ys))
    legal in
    ap (λ js. is_legal_after js ys) (sym (append_assoc earlier (x ∷ []) xs)) ∙ legal-later (earlier ++ x ∷ []) xs ys parts.1

pub kept-later : (seen journal : List BookEntry) → IsPrefix seen journal → IsTrue (is_legal journal)
    → (key : TransactionKey) (reply : List ℕ) → hold_of seen key ≡ kept reply → hold_of journal key ≡ kept reply
kept-later seen journal later legal key reply is =
    ap (λ js. hold_of js key) later.1
    ∙ kept-stays key reply seen later.0 is (legal-later [] seen later.0 (subst (λ js. is_legal js ≡ true) later.1 legal))

-- ---- opened again

abbrev key_of : BookRow → TransactionKey
key_of row = record { origin = row.origin; txn = row.txn }

-- the transaction has no reply
abbrev pub HasNone : List BookEntry → TransactionKey → Type 0
HasNone journal key = (reply : List ℕ) → hold_of journal key ≢ kept reply

-- what is left are the rows of the journal, or these with one more of a transaction that had no reply
abbrev pub LeavesReplies : List BookEntry → Option (List BookRow) → Type 0
LeavesReplies journal left =
    (left ≡ Some (stored journal))
    ⊎ ((tried : BookRow) × HasNone journal (record { origin = tried.origin; txn = tried.txn })
    × (left ≡ Some (stored journal ++ tried ∷ [])))

some-is : {A : Type 0} (x y : A) → Some x ≡ Some y → x ≡ y
some-is x y e = cc

module _ (journal : List BookEntry) (legal : IsTrue (is_legal journal)) (key : TransactionKey) (reply : List ℕ)
    (is : hold_of journal key ≡ kept reply) where
  rows-hold : hold_of (reopened (stored journal)) key ≡ kept reply
  rows-hold = known-again journal legal key ∙ ap after_stop is

  more-hold : (tried : BookRow) → HasNone journal (key_of tried)
      → hold_of (reopened (stored journal ++ tried ∷ [])) key ≡ kept reply
  more-hold tried none = ap (λ es. hold_of es key) (map-append entry_of (stored journal) (tried ∷ []))
      ∙ by (same key (key_of tried)) refl
    where
      by : (b : Bool) → same key (key_of tried) ≡ b
          → hold_of (reopened (stored journal) ++ entry_of tried ∷ []) key ≡ kept reply
      by true h = absurd (none reply (ap (hold_of journal) (sym (same-eq key (key_of tried) h)) ∙ is))
      by false h = hold_of-there (reopened (stored journal)) (entry_of tried) key h ∙ rows-hold

  opened-holds : (left : Option (List BookRow)) (rows : List BookRow) → LeavesReplies journal left → left ≡ Some rows
      → hold_of (reopened rows) key ≡ kept reply
  opened-holds left rows (inl all) found =
      ap (λ rs. hold_of (reopened rs) key) (some-is rows (stored journal) (sym found ∙ all)) ∙ rows-hold
  opened-holds left rows (inr (tried, none, all)) found =
      ap (λ rs. hold_of (reopened rs) key) (some-is rows (stored journal ++ tried ∷ []) (sym found ∙ all))
      ∙ more-hold tried none

-- ---- what is left of a transaction that was given up

-- the rows stay, and a transaction without a reply has none
record IsAsKept (old new : List BookEntry) : Type 0 where
  rows : stored new ≡ stored old
  none : (key : TransactionKey) → HasNone old key → HasNone new key

given-up : (old new : List BookEntry)
    → (new ≡ old) ⊎ ((key : TransactionKey) × (caller : ℕ) × (hold_of old key ≡ begun caller)
    × (new ≡ old ++ GivenUp key caller ∷ [])) → IsAsKept old new
given-up old new (inl stays) =
    record { rows = ap stored stays; none = λ key was reply is. was reply (ap (λ js. hold_of js key) (sym stays) ∙ is) }
given-up old new (inr (key, caller, is_begun, longer)) = record {
  rows = stored-given_up old new key caller longer;
  none = λ other was reply is. by other (same other key) refl was reply (ap (λ js. hold_of js other) (sym longer) ∙ is);
}
  where
    by : (other : TransactionKey) (b : Bool) → same other key ≡ b → HasNone old other → (reply : List ℕ)
        → hold_of (old ++ GivenUp key caller ∷ []) other ≡ kept reply → ⊥
    by other true h was reply is = let e : free ≡ kept reply = sym (hold_of-here old (GivenUp key caller) other h) ∙ is in cc
    by other false h was reply is = was reply (sym (hold_of-there old (GivenUp key caller) other h) ∙ is)

-- a transaction that is begun has no reply
begun-none : (journal : List BookEntry) (key : TransactionKey) (caller : ℕ) → hold_of journal key ≡ begun caller
    → HasNone journal key
begun-none journal key caller is reply h = let e : begun caller ≡ kept reply = sym is ∙ h in cc

-- ---- what a crash leaves

module _ {L : Type 0} (is_ready is_honest is_open : L → Type 0) (read : L → Option (List BookRow))
    (may_leave : L → Option (List BookRow) → Type 0) where
  pub book-remembers : (journal : List BookEntry) → IsTrue (is_legal journal) → (left : Option (List BookRow))
      → LeavesReplies journal left → (seen : List BookEntry) → IsPrefix seen journal
      → BookRemembers is_ready is_honest read may_leave left seen
  book-remembers journal legal left leaves seen later = λ keeper opened found over honest key reply is.
      ap (λ es. hold_of es key) over.journal
      ∙ opened-holds journal legal key reply (kept-later seen journal later legal key reply is) left (stored opened.journal)
      leaves (sym found ∙ (over.rows honest).1)

  -- so of what each owner has seen
  pub all-remember : (journal : List BookEntry) → IsTrue (is_legal journal)
      → (left : Option (List BookRow)) (passes : List (PassView BookEntry)) → LeavesReplies journal left
      → AllSeen (λ seen. IsPrefix seen journal) passes
      → AllSeen (BookRemembers is_ready is_honest read may_leave left) passes
  all-remember journal legal left passes leaves begins =
      each_seen (λ seen. IsPrefix seen journal) (BookRemembers is_ready is_honest read may_leave left) passes
      (book-remembers journal legal left leaves) begins

  pub leaves-replies : (book : BookView L) → LeavesBook is_honest may_leave book → is_honest book.keeper
      → (left : Option (List BookRow)) → may_leave book.keeper left → LeavesReplies book.journal left
  leaves-replies book leaves honest left may = by (leaves honest left may)
    where
      by : (left ≡ Some (stored book.journal))
          ⊎ ((book.is_refused ≡ true) × (tried : BookRow) × HasNone book.journal (key_of tried)
          × (left ≡ Some (stored book.journal ++ tried ∷ []))) → LeavesReplies book.journal left
      by (inl is) = inl is
      by (inr (refused, tried, none, is)) = inr (tried, none, is)

  -- the row of a reply that was tried
  tried-leaves : (old : BookView L) (left : Option (List BookRow)) (key : TransactionKey) (caller : ℕ) (reply : List ℕ)
      → left ≡ Some (stored (old.journal ++ Kept key caller reply ∷ []))
      → left ≡ Some (stored old.journal ++ record { origin = key.origin; txn = key.txn; reply = reply } ∷ [])
  tried-leaves old left key caller reply is = is
      ∙ ap (λ (rs : List BookRow). Some rs) (stored-push old.journal (Kept key caller reply))

  -- within a call
  pub exit-replies : (old new : BookView L) → LeavesBook is_honest may_leave old → IsBookExit is_honest may_leave old new
      → is_honest new.keeper → (left : Option (List BookRow)) → may_leave new.keeper left → LeavesReplies old.journal left
  exit-replies old new leaves exit honest left may = by (exit.crash honest left may)
    where
      by : may_leave old.keeper left
          ⊎ ((key : TransactionKey) × (caller : ℕ) × (reply : List ℕ) × (hold_of old.journal key ≡ begun caller)
          × (left ≡ Some (stored (old.journal ++ Kept key caller reply ∷ [])))) → LeavesReplies old.journal left
      by (inl was) = leaves-replies old leaves (exit.honest honest) left was
      by (inr (key, caller, reply, is_begun, is)) =
          inr (
            record { origin = key.origin; txn = key.txn; reply = reply },
            begun-none old.journal key caller is_begun,
            tried-leaves old left key caller reply is,
          )

  module _ (settled : (keeper : L) (left : Option (List BookRow)) → is_honest keeper → is_open keeper → may_leave keeper left
      → left ≡ read keeper) where
    pub book-whole : (book : BookView L) → IsSoundBook is_honest is_open read book → book.is_refused ≡ false
        → LeavesOnly is_honest may_leave book.keeper (stored book.journal)
    book-whole book sound taken honest left may = let rows =
        sound.rows taken honest in settled book.keeper left honest rows.0 may ∙ rows.1

    refused-was : (old new : BookView L) (left : Option (List BookRow)) → new.is_refused ≡ true
        → IsAsKept old.journal new.journal
        → (left ≡ Some (stored old.journal))
        ⊎ ((old.is_refused ≡ true) × (tried : BookRow) × HasNone old.journal (key_of tried)
        × (left ≡ Some (stored old.journal ++ tried ∷ [])))
        → (left ≡ Some (stored new.journal))
        ⊎ ((new.is_refused ≡ true) × (tried : BookRow) × HasNone new.journal (key_of tried)
        × (left ≡ Some (stored new.journal ++ tried ∷ [])))
    refused-was old new left refused as_kept (inl is) = inl (is ∙ ap (λ (rs : List BookRow). Some rs) (sym as_kept.rows))
    refused-was old new left refused as_kept (inr (was, tried, none, is)) =
        inr (refused, tried, as_kept.none (key_of tried) none, is ∙ ap (λ rs. Some (rs ++ tried ∷ [])) (sym as_kept.rows))

    refused-tried : (old new : BookView L) (left : Option (List BookRow)) → new.is_refused ≡ true
        → IsAsKept old.journal new.journal → (tried : BookRow) → HasNone old.journal (key_of tried)
        → left ≡ Some (stored old.journal ++ tried ∷ [])
        → (left ≡ Some (stored new.journal))
        ⊎ ((new.is_refused ≡ true) × (tried : BookRow) × HasNone new.journal (key_of tried)
        × (left ≡ Some (stored new.journal ++ tried ∷ [])))
    refused-tried old new left refused as_kept tried none is =
        inr (refused, tried, as_kept.none (key_of tried) none, is ∙ ap (λ rs. Some (rs ++ tried ∷ [])) (sym as_kept.rows))

    -- one call more
    exit-keeps : (old new : BookView L) (is_refused : Bool) → new.is_refused ≡ is_refused
        → IsSoundBook is_honest is_open read new → IsBookExit is_honest may_leave old new
        → LeavesBook is_honest may_leave old → LeavesBook is_honest may_leave new
    exit-keeps old new false taken sound exit leaves honest left may = inl (book-whole new sound taken honest left may)
    exit-keeps old new true refused sound exit leaves honest left may = by (exit.crash honest left may)
      where
        as_kept : IsAsKept old.journal new.journal
        as_kept = given-up old.journal new.journal (exit.refused refused)

        by : may_leave old.keeper left
            ⊎ ((key : TransactionKey) × (caller : ℕ) × (reply : List ℕ) × (hold_of old.journal key ≡ begun caller)
            × (left ≡ Some (stored (old.journal ++ Kept key caller reply ∷ []))))
            → (left ≡ Some (stored new.journal))
            ⊎ ((new.is_refused ≡ true) × (tried : BookRow) × HasNone new.journal (key_of tried)
            × (left ≡ Some (stored new.journal ++ tried ∷ [])))
        by (inl was) = refused-was old new left refused as_kept (leaves (exit.honest honest) left was)
        by (inr (key, caller, reply, is_begun, is)) =
            refused-tried old new left refused as_kept (record { origin = key.origin; txn = key.txn; reply = reply })
            (begun-none old.journal key caller is_begun) (tried-leaves old left key caller reply is)

    exits-keep : (old : BookView L) (later : List (BookView L)) → LeavesBook is_honest may_leave old
        → AreExits (IsSoundBook is_honest is_open read) (IsBookExit is_honest may_leave) old later
        → LeavesBook is_honest may_leave (last_value old later)
    exits-keep old [] leaves exits = leaves
    exits-keep old (new ∷ later) leaves exits =
        exits-keep new later (exit-keeps old new new.is_refused refl exits.0 exits.1 leaves) exits.2

    pub shared-leaves : (book : BookView L) → IsSharedBook is_honest is_open read may_leave book
        → LeavesBook is_honest may_leave book
    shared-leaves book shared =
        subst (LeavesBook is_honest may_leave) shared.last
        (exits-keep shared.first shared.later
        (λ honest left may. inl (book-whole shared.first shared.sound shared.taken honest left may)) shared.calls)

-- ---- what the owners of berths have seen

module _ {L : Type 0} (book : BookView L) (passes : List (PassView BookEntry)) where
  pub in-seen : IsBookInDock book passes → AllSeen (λ seen. IsPrefix seen book.journal) passes
  in-seen lies =
      subst (λ (b : BookView L). AllSeen (λ seen. IsPrefix seen b.journal) passes) lies.is
      (seen_in (λ (d : DockedBook L). d.book.value.journal) book_caller (λ (d : DockedBook L). place_code d.book.value.place)
      lies.docked passes lies.dock)

  pub out-seen : IsBookOut book passes → AllSeen (λ seen. IsPrefix seen book.journal) passes
  out-seen out = seen_out (λ (d : DockedBook L). d.book.value.journal) book_caller
      (λ (d : DockedBook L). place_code d.book.value.place) book.journal passes out.dock out.out
