-- For proofs and private clauses alone.
-- The order of transactions' keys is a total order, and its ties are equal keys.
use Rattle.std.specs.Prelude.{◌≡◌, ◌&&◌, bytes_eq, Some}
use Rattle.std.specs.Cmp.{IsEquivalence, IsTotalOrder, IsPartialOrder, then_total, po, tied_then}
use Rattle.std.specs.Cmp.Lexicographic.{slice_cmp, on_texts, on_texts_equal, texts_ties}
use Rattle.std.specs.Ordering.{nat_cmp, eq_by_cmp, is_eq}
use mathlib.Core.Path.{ap, ◌∙◌}
use Rattle.std.specs.Cmp.{and_equiv}
use Rattle.mx_book.specs.Transactions.{same, transaction_cmp}
use Rattle.mx_book.specs.declared.transaction_keys.TransactionKey.{TransactionKey}

pub same_equiv : IsEquivalence same
same_equiv = and_equiv (on_texts_equal (λ (p : TransactionKey). p.origin)) (on_texts_equal (λ (p : TransactionKey). p.txn))

pub transaction_total : IsTotalOrder transaction_cmp
transaction_total = then_total (on_texts (λ (p : TransactionKey). p.origin)) (on_texts (λ (p : TransactionKey). p.txn))

pub transaction_ties : (p q : TransactionKey) → same p q ≡ eq_by_cmp transaction_cmp p q
transaction_ties p q =
    ap (λ b. b && bytes_eq p.txn q.txn) (texts_ties p.origin q.origin)
    ∙ ap (λ b. is_eq (slice_cmp nat_cmp p.origin q.origin) && b) (texts_ties p.txn q.txn)
    ∙ tied_then (slice_cmp nat_cmp p.origin q.origin) (slice_cmp nat_cmp p.txn q.txn)

pub transaction_po : IsPartialOrder same (λ p q. Some (transaction_cmp p q))
transaction_po = po transaction_total transaction_ties
