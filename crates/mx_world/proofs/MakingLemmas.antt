-- Views that are made one after the other, each at the place of its number.
use Rattle.std.proofs.Common.{◌≡◌, ℕ, zero, suc, ◌+◌, ◌-◌, ◌<◌, ◌≤◌, List, [], ◌∷◌, ◌++◌, length, drop, get_or, map, refl, sym, ◌∙◌, ap, arith, inl, inr, length-drop}
use Rattle.std.proofs.lemmas.List.{length-map, drop-drop, get_or-drop, map_push, length_push, get_or_push, get_or_append_left}
use Rattle.std.proofs.Math.Nat.{eq-or-lt_of_le}
use Rattle.std.specs.Prelude.{All, None}
use Rattle.mx_keeper.specs.Places.{PlaceView, place_number}
use Rattle.mx_shard.specs.Journal.{record_of}
use Rattle.mx_shard.specs.View.{ShardView}
use Rattle.mx_book.specs.Journal.{hold_of}
use Rattle.mx_book.specs.View.{BookView}
use Rattle.mx_book.specs.declared.transaction_keys.TransactionKey.{TransactionKey}
use Rattle.mx_world.specs.Replies.{unopened}
use Rattle.mx_world.specs.View.{Progress}
use Rattle.mx_world.specs.Worlds.{journal_at, records_of, shard_journals, statuses_of, status_found, book_journals}
use Rattle.mx_world.specs.Parts.{ArePlaced}

-- each stands at its place among so many
abbrev pub AreNumbered : {V : Type 0} → List V → (V → PlaceView) → ℕ → Type 0
AreNumbered views place count = (n : ℕ) (d : PlaceView) → n < length views → get_or (map place views) n d ≡ record { number = n; count = count }

pub numbered-none : {V : Type 0} (views : List V) (place : V → PlaceView) (count : ℕ) → length views ≡ 0 → AreNumbered views place count
numbered-none views place count none = λ n d l. absurd (omega arith)

pub numbered-more : {V : Type 0} (views : List V) (place : V → PlaceView) (count : ℕ) (v : V) → AreNumbered views place count → place v ≡ record { number = length views; count = count } → AreNumbered (views ++ v ∷ []) place count
numbered-more views place count v each here = λ n d l.
    let long : length (map place views) ≡ length views = length-map views place in
    let more : length (views ++ v ∷ []) ≡ length views + 1 = length_push views v in
    ap (λ ps. get_or ps n d) (map_push place views v)
    ∙ elim (eq-or-lt_of_le (let le : n ≤ length views = omega arith in le)) [
      | inl same ↦ get_or_push (map place views) (place v) d n (long ∙ sym same) ∙ here ∙ ap (λ k. record { number = k; count = count }) (sym same)
      | inr lt ↦ (let within : n < length (map place views) = omega arith in get_or_append_left (map place views) (place v ∷ []) d n within ∙ each n d lt)
    ]

pub placed-all : {V : Type 0} (views : List V) (place : V → PlaceView) (count : ℕ) → length views ≡ count → 1 ≤ count → count ≤ 64 → AreNumbered views place count → ArePlaced (map place views)
placed-all views place count all some few each =
    let long : length (map place views) ≡ count = length-map views place ∙ all in
    record {
      some = omega arith;
      few = omega arith;
      each = λ n d l. each n d (omega arith) ∙ ap (λ k. record { number = n; count = k }) (sym long);
    }

-- where no journal has an entry, none has one at any place
blank_at : {V A : Type 0} (journal : V → List A) (views : List V) (k : ℕ) → All (λ view. journal view ≡ []) views → get_or (map journal views) k [] ≡ []
blank_at journal [] k blank = refl
blank_at journal (v ∷ views) zero blank = blank 0 v (let l : 0 < length (v ∷ views) = omega arith in l)
blank_at journal (v ∷ views) (suc k) blank = blank_at journal views k (λ n d l. blank (suc n) d (let m : suc n < length (v ∷ views) = omega (arith, l) in m))

pub blank_journal : {V A : Type 0} (journal : V → List A) (views : List V) (name : List ℕ) → All (λ view. journal view ≡ []) views → journal_at (map journal views) name ≡ []
blank_journal journal views name blank = blank_at journal views (place_number (length (map journal views)) name) blank

-- so no room has a record, and no transaction was opened
nothing_of : (room : List ℕ) → record_of [] room ≡ []
unfolding record_of
nothing_of room = refl

pub no-records : {K : Type 0} (shards : List (ShardView K)) (room : List ℕ) → All (λ (shard : ShardView K). shard.journal ≡ []) shards → records_of (shard_journals shards) room ≡ []
no-records {K = K} shards room blank = ap (λ j. record_of j room) (blank_journal (λ (shard : ShardView K). shard.journal) shards room blank) ∙ nothing_of room

pub no-statuses : {L : Type 0} (books : List (BookView L)) (going : List (TransactionKey × Progress)) (p : TransactionKey) → All (λ (book : BookView L). book.journal ≡ []) books → length going ≡ 0 → statuses_of going (book_journals books) p ≡ unopened
no-statuses {L = L} books [] p blank none = ap (λ j. status_found None (hold_of j p)) (blank_journal (λ (book : BookView L). book.journal) books p.origin blank)
no-statuses books (entry ∷ going) p blank none = absurd (let e : ⊥ = omega (arith, none) in e)

-- ---- the keepers that are taken one by one

pub taken_first : {A : Type 0} (xs ys : List A) (n : ℕ) (x : A) → drop n xs ≡ x ∷ ys → (n < length xs) × ((d : A) → get_or xs n d ≡ x)
taken_first xs ys n x h =
    let more : length (drop n xs) ≡ length (x ∷ ys) = ap length h in
    let left : length (drop n xs) ≡ length xs - n = length-drop n xs in (
      omega (arith, more, left),
      λ d. ap (λ k. get_or xs k d) (let same : n ≡ n + 0 = omega arith in same) ∙ sym (get_or-drop n xs 0 d) ∙ ap (λ zs. get_or zs 0 d) h,
    )

pub taken_more : {A : Type 0} (xs ys : List A) (n m : ℕ) (x : A) → m ≡ n + 1 → drop n xs ≡ x ∷ ys → ys ≡ drop m xs
taken_more xs ys n m x more h = sym (ap (drop 1) h) ∙ drop-drop 1 n xs ∙ ap (λ k. drop k xs) (sym more)
