-- The next event of a transaction, at a step.
use Rattle.std.proofs.Common.{◌≡◌, ℕ, true, false, cond, List, refl, sym, ◌∙◌, ap, subst}
use Rattle.std.specs.Prelude.{Result, Ok, Err, OnOk, OnErr, if◌then◌else◌}
use Rattle.mx_receipt.specs.Receipt.{Kept}
use Rattle.mx_shard.specs.View.{ShardView}
use Rattle.mx_book.specs.Transactions.{same}
use Rattle.mx_book.specs.Journal.{free}
use Rattle.mx_book.specs.View.{BookView}
use Rattle.mx_book.specs.declared.transaction_keys.TransactionKey.{TransactionKey}
use Rattle.mx_book.specs.declared.entries.BookEntry.{BookEntry}
use Rattle.mx_book.proofs.JournalLemmas.{same-eq}
use Rattle.mx_world.specs.Replies.{Status}
use Rattle.mx_world.specs.Moves.{rest_of, after_next, StatusesMove}
use Rattle.mx_world.specs.View.{Progress, WorldView}
use Rattle.mx_world.specs.Worlds.{book_journals, holds_of, found, status_found, statuses_of, AtTransaction}
use Rattle.mx_world.specs.Storage.{ChangesOwn, OnlyAt, ShardsLast, next_room}
use Rattle.mx_world.specs.Inside.{Agrees, AllAgree, advanced}
use Rattle.mx_world.specs.declared.steps.Step.{Step}
use Rattle.mx_world.specs.declared.steps.Step.TheVariants.{Next}
use Rattle.mx_world.proofs.StatusLemmas.{at_each, at_none, statuses-at, rest-found, advanced-status, advanced-agrees}
use Rattle.mx_world.proofs.StorageLemmas.{all-same}

origin_there : (rows : List ℕ → List Kept) (p q : TransactionKey) (st : Status) → (if same p q then after_next rows q.origin st else st) ≡ (if same p q then after_next rows p.origin st else st)
origin_there rows p q st =
    elim (same p q) as (λ t. same p q ≡ t → cond t (after_next rows q.origin st) st ≡ cond t (after_next rows p.origin st) st) [
      | true ↦ λ h. ap (λ (k : TransactionKey). after_next rows k.origin st) (sym (same-eq p q h))
      | false ↦ λ h. refl
    ] refl

module _ {A E : Type 0} (going going' : List (TransactionKey × Progress)) (journals : List (List BookEntry)) (rows : List ℕ → List Kept) (q : TransactionKey) where
  pub next-statuses : (r : Result A E) (step : Step) → step ≡ Next q → OnOk r (AtTransaction (found going) (found going') q (advanced rows q.origin)) → OnOk r (StatusesMove rows (statuses_of going journals) (statuses_of going' journals) step)
  next-statuses (Err e) step is at = tt
  next-statuses (Ok x) step is at =
      subst (StatusesMove rows (statuses_of going journals) (statuses_of going' journals)) (sym is)
      (λ p. statuses-at going going' journals journals q (advanced rows q.origin) (λ state. state) (after_next rows q.origin) at
      (at_none (holds_of journals) (holds_of journals) q (λ k. refl)) (advanced-status rows q.origin (found going q) (holds_of journals q)) p
      ∙ origin_there rows p q (statuses_of going journals p))

  pub next-agrees : (r : Result A E) → OnOk r (AtTransaction (found going) (found going') q (advanced rows q.origin)) → OnErr r (going' ≡ going) → AllAgree going journals → AllAgree going' journals
  next-agrees (Err e) at same agree = subst (λ g. AllAgree g journals) (sym same) agree
  next-agrees (Ok x) at same agree =
      at_each Agrees (found going) (found going') (holds_of journals) (holds_of journals) q (advanced rows q.origin) (λ state. state) at
      (at_none (holds_of journals) (holds_of journals) q (λ k. refl)) agree (advanced-agrees rows q.origin (found going q) (holds_of journals q) (agree q))

pub next-own : {K L : Type 0} (f : K → ℕ) (g : L → ℕ) (going going' : List (TransactionKey × Progress)) (shards shards' : List (ShardView K)) (books : List (BookView L)) (q : TransactionKey) (step : Step) → step ≡ Next q →
    OnlyAt (next_room (rest_of (status_found (found going q) free))) shards shards' → ShardsLast f shards shards' →
    ChangesOwn f g (statuses_of going (book_journals books)) (record { shards = shards; books = books; going = going }) (record { shards = shards'; books = books; going = going' }) step
next-own {K = K} {L = L} f g going going' shards shards' books q step is only last =
    let old : WorldView K L = record { shards = shards; books = books; going = going } in
    let new : WorldView K L = record { shards = shards'; books = books; going = going' } in
    subst (ChangesOwn f g (statuses_of going (book_journals books)) old new) (sym is)
    (record {
      shards = subst (λ rest. OnlyAt (next_room rest) shards shards') (rest-found (found going q) (holds_of (book_journals books) q)) only;
      books = refl;
      shards_last = last;
      books_last = all-same (λ book. book.is_refused) (λ book. g book.keeper) books;
    })
