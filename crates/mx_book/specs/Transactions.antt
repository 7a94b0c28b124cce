-- Transactions by their senders and numbers, with the order in which they are looked up (our own).
use Rattle.std.specs.Prelude.{Bool, ◌&&◌, bytes_eq}
use Rattle.std.specs.declared.cmp.Ordering.{Ordering}
use Rattle.std.specs.Cmp.Lexicographic.{slice_cmp}
use Rattle.std.specs.Ordering.{nat_cmp, then_cmp, on}
use Rattle.mx_book.specs.declared.transaction_keys.TransactionKey.{TransactionKey}

-- one transaction: the same server, and the same number there (Matrix specification, Server-Server API, transactions)
abbrev pub same : TransactionKey → TransactionKey → Bool
same p q = bytes_eq p.origin q.origin && bytes_eq p.txn q.txn

-- by the server, and then by the number
abbrev pub transaction_cmp : TransactionKey → TransactionKey → Ordering
transaction_cmp = then_cmp (on (λ p. p.origin) (slice_cmp nat_cmp)) (on (λ p. p.txn) (slice_cmp nat_cmp))
