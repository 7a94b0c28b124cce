-- What a server has that is opened again over what a crash left.
use Rattle.std.proofs.Common.{◌≡◌, ◌<◌, ◌==◌, ℕ, suc, true, IsTrue, List, [], ◌∷◌, length, get_or, map, None, sum, refl, sym, ap, ◌∙◌, subst, arith}
use Rattle.std.proofs.lemmas.Bool.Decides.{nat_tests}
use Rattle.std.proofs.lemmas.List.{get_or-map, length-map}
use Rattle.std.proofs.lemmas.Nat.{mod_below}
use Rattle.mx_receipt.specs.declared.verdicts.Verdict.{Verdict}
use Rattle.mx_keeper.specs.Places.{place_number}
use Rattle.mx_shard.specs.Journal.{Entry, record_of}
use Rattle.mx_shard.specs.View.{ShardView}
use Rattle.mx_book.specs.Journal.{hold_of, kept}
use Rattle.mx_book.specs.View.{BookView}
use Rattle.mx_book.specs.declared.entries.BookEntry.{BookEntry}
use Rattle.mx_book.specs.declared.transaction_keys.TransactionKey.{TransactionKey}
use Rattle.mx_world.specs.Replies.{ended}
use Rattle.mx_world.specs.View.{Progress}
use Rattle.mx_world.specs.Worlds.{shard_journals, book_journals, records_of, journal_at, holds_of, found, status_found, statuses_of}
use Rattle.mx_engine.specs.Views.{BerthView, view_at}
use Rattle.mx_engine.specs.Crashes.{IsKeptAs, seen_of_room, seen_of_book, ShardsRemember, BooksRemember}

-- of the journals of all places, the one at the place of a name
there : {V A : Type 0} (journal : V → List A) (views : List V) (name : List ℕ) (d : V) → 0 < length views
    → journal_at (map journal views) name ≡ journal (get_or views (place_number (length views) name) d)
there journal views name d some =
    ap (λ n. get_or (map journal views) (place_number n name) []) (length-map views journal)
    ∙ get_or-map journal views (place_number (length views) name) d [] (mod_below (sum name) (length views) some)

pub events-there : {K : Type 0} (seen : List (BerthView Entry)) (shards : List (ShardView K)) → ShardsRemember seen shards
    → (room id : List ℕ) (verdict : Verdict) → IsKeptAs (record_of (seen_of_room seen room) room) id verdict
    → IsKeptAs (records_of (shard_journals shards) room) id verdict
events-there seen [] remember room id verdict is = absurd (let none : ⊥ = omega (arith, remember.some) in none)
events-there {K = K} seen (shard ∷ shards) remember room id verdict is =
    let all : List (ShardView K) = shard ∷ shards in
    let n = place_number (length all) room in
    let here : IsKeptAs (record_of (view_at seen n).seen room) id verdict =
    subst (λ k. IsKeptAs (record_of (view_at seen (place_number k room)).seen room) id verdict) remember.same is in
    subst (λ js. IsKeptAs (record_of js room) id verdict)
    (sym (there (λ (s : ShardView K). s.journal) all room shard remember.some))
    ((remember.each n shard (mod_below (sum room) (length all) remember.some)).events room id verdict here)

none-going : (going : List (TransactionKey × Progress)) (key : TransactionKey) → IsTrue (length going == 0)
    → found going key ≡ None
none-going [] key idle = refl
none-going (g ∷ going) key idle = absurd (not_none (length going) idle)
  where
    not_none : (n : ℕ) → (suc n == 0) ≡ true → ⊥
    not_none n is = grind (arith, nat_tests)

pub replies-there : {L : Type 0} (seen : List (BerthView BookEntry)) (books : List (BookView L))
    (going : List (TransactionKey × Progress)) → BooksRemember seen books → IsTrue (length going == 0)
    → (key : TransactionKey) (reply : List ℕ) → hold_of (seen_of_book seen key) key ≡ kept reply
    → statuses_of going (book_journals books) key ≡ ended reply
replies-there seen [] going remember idle key reply is = absurd (let none : ⊥ = omega (arith, remember.some) in none)
replies-there {L = L} seen (book ∷ books) going remember idle key reply is =
    let all : List (BookView L) = book ∷ books in
    let n = place_number (length all) key.origin in
    let here : hold_of (view_at seen n).seen key ≡ kept reply =
    ap (λ k. hold_of (view_at seen (place_number k key.origin)).seen key) (sym remember.same) ∙ is in
    ap (λ progress. status_found progress (holds_of (book_journals all) key)) (none-going going key idle)
    ∙ ap (λ js. status_found None (hold_of js key)) (there (λ (b : BookView L). b.journal) all key.origin book remember.some)
    ∙ ap (λ hold. status_found None hold)
    (remember.each n book (mod_below (sum key.origin) (length all) remember.some) key reply here)
