-- The rows that are stored of a journal with one entry more.
use Rattle.std.proofs.Common.{◌≡◌, ◌⊎◌, inl, inr, ℕ, List, [], ◌∷◌, ◌++◌, Option, Some, sym, ◌∙◌, ap, append-nil}
use Rattle.mx_keeper.specs.Keeping.{with_row}
use Rattle.mx_keeper.specs.declared.rows.BookRow.{BookRow}
use Rattle.mx_book.specs.Journal.{stored}
use Rattle.mx_book.specs.declared.transaction_keys.TransactionKey.{TransactionKey}
use Rattle.mx_book.specs.declared.entries.BookEntry.{BookEntry}
use Rattle.mx_book.specs.declared.entries.BookEntry.TheVariants.{Begun, Kept, GivenUp}
use Rattle.mx_book.proofs.JournalLemmas.{stored-push}

pub stored-begun : (journal journal' : List BookEntry) (p : TransactionKey) (caller : ℕ) → journal' ≡ journal ++ Begun p caller ∷ [] → stored journal' ≡ stored journal
stored-begun journal journal' p caller e = ap stored e ∙ stored-push journal (Begun p caller) ∙ append-nil (stored journal)

pub stored-given_up : (journal journal' : List BookEntry) (p : TransactionKey) (caller : ℕ) → journal' ≡ journal ++ GivenUp p caller ∷ [] → stored journal' ≡ stored journal
stored-given_up journal journal' p caller e = ap stored e ∙ stored-push journal (GivenUp p caller) ∙ append-nil (stored journal)

module _ (journal : List BookEntry) (p : TransactionKey) (caller : ℕ) (reply : List ℕ) (row : BookRow) (is : row ≡ record { origin = p.origin; txn = p.txn; reply = reply }) where
  pub with_row-kept : (rows : Option (List BookRow)) → rows ≡ Some (stored journal) → with_row rows row ≡ Some (stored (journal ++ Kept p caller reply ∷ []))
  with_row-kept rows e = ap (λ o. with_row o row) e ∙ ap (λ r. Some (stored journal ++ r ∷ [])) is ∙ ap (λ (rs : List BookRow). Some rs) (sym (stored-push journal (Kept p caller reply)))

  pub kept_reply : (journal' : List BookEntry) → journal' ≡ journal ++ Kept p caller row.reply ∷ [] → journal' ≡ journal ++ Kept p caller reply ∷ []
  kept_reply journal' e = e ∙ ap (λ (r : BookRow). journal ++ Kept p caller r.reply ∷ []) is

pub either_left : {P : Type 0} (left new given : Option (List BookRow)) → P ⊎ (left ≡ new) → new ≡ given → P ⊎ (left ≡ given)
either_left left new given (inl was) e = inl was
either_left left new given (inr h) e = inr (h ∙ e)
