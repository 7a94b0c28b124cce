use Rattle.std.proofs.Common.{◌≡◌, ◌++◌, ◌∷◌, [], List, ℕ, Some, false, length, sym, ◌∙◌, ap, subst}
use Rattle.std.specs.BTreeMap.{get}
use Rattle.mx_keeper.specs.Places.{is_at}
use Rattle.mx_book.specs.Transactions.{transaction_cmp}
use Rattle.mx_book.specs.Journal.{entry_of, follows, last_of}
use Rattle.mx_book.specs.Inside.{IsMoved}
use Rattle.mx_book.specs.declared.transaction_keys.TransactionKey.{TransactionKey}
use Rattle.mx_book.specs.declared.entries.BookEntry.{BookEntry}
use Rattle.mx_book.specs.declared.entries.BookEntry.TheVariants.{Kept}
use Rattle.mx_book.proofs.IndexLemmas.{moved_by_update}
use Rattle.mx_book.proofs.ReopenLemmas.{reopen-step, twice, repeated, none-of, some-of}
use Rattle.mx_book.proofs.reopening.reopen_row.Goals as goal

pub returns-then-contains_key-clause-storage : goal.returns-then-contains_key-clause-storage
returns-then-contains_key-clause-storage c = λ _ rows later made.
    let key : TransactionKey = record { origin = c.args.row.origin; txn = c.args.row.txn } in
    let found = some-of (get transaction_cmp c.args.places.now key) (sym c.contains_key.ensures ∙ c.if-contains_key.true) in
    repeated c.args.place.now rows later c.args.row
    (subst (λ (js : List BookEntry). follows (last_of key js) (entry_of c.args.row) ≡ false) made
    (twice c.args.place.now c.args.journal.now c.args.callers.now c.args.places.now c.args.replies.now.items key c.args.row.reply c.requires found.0 found.1))

pub returns-clause-made : goal.returns-clause-made
returns-clause-made c =
    let key : TransactionKey = record { origin = c.args.row.origin; txn = c.args.row.txn } in
    let journal = c.args.journal.now in
    let replies = c.args.replies.now.items in
    reopen-step c.args.place.now journal c.args.callers.now c.args.places.now replies key c.args.row.reply c.requires c.kept.result c.insert.new.self c.push_reserved.new.self.items
    (ap (is_at c.args.place.now) (sym c.as_str.ensures.text) ∙ sym c.has.ensures ∙ c.if-not-has.false) (none-of (get transaction_cmp c.args.places.now key) (sym c.contains_key.ensures ∙ c.if-contains_key.false))
    (c.kept.ensures ∙ ap (λ n. journal ++ Kept key n c.args.row.reply ∷ []) c.new.ensures.value)
    (c.push_reserved.ensures.items ∙ ap (λ (xs : List (List ℕ)). xs ++ c.args.row.reply ∷ []) c.reserve.ensures.items)
    (subst (λ (xs : List (List ℕ)). IsMoved c.args.places.now c.insert.new.self key (Some (length xs))) c.as_slice-number.ensures.value
    (moved_by_update c.args.places.now c.insert.new.self key (Some (length c.as_slice-number.result.now)) c.in_ok-insert.ensures.updates))
