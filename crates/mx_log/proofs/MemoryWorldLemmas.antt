-- Servers with their rows in memory: how they begin, and that none of their shards and books comes to be refused.
use Rattle.std.proofs.Common.{◌≡◌, ◌<◌, ◌||◌, ℕ, Bool, true, false, List, [], ◌∷◌, length, get_or, map, refl, sym, ◌∙◌, ap, subst, arith, inl, inr, ⊎_elim}
use Rattle.std.specs.Prelude.{All, Some, IsTrue, ⊤}
use Rattle.std.specs.List.{list_any}
use Rattle.std.proofs.lemmas.Bool.{cases_Bool, eqb-true, true≢false}
use Rattle.std.proofs.lemmas.List.Folds.{Any-from_list_any, list_any_at, list_any_none}
use Rattle.mx_keeper.specs.Keeping.{Rose}
use Rattle.mx_keeper.specs.Places.{PlaceView}
use Rattle.mx_keeper.specs.declared.rows.ShardRow.{ShardRow}
use Rattle.mx_keeper.specs.declared.rows.BookRow.{BookRow}
use Rattle.mx_shard.specs.Journal.{CanReopen, stored as stored_events, reopened as reopened_events}
use Rattle.mx_shard.specs.View.{ShardView}
use Rattle.mx_shard.proofs.LegalLaws.{legal-start}
use Rattle.mx_book.specs.Journal.{stored as stored_replies, reopened as reopened_replies}
use Rattle.mx_book.specs.View.{BookView}
use Rattle.mx_book.specs.declared.transaction_keys.TransactionKey.{TransactionKey}
use Rattle.mx_world.specs.Replies.{Status}
use Rattle.mx_world.specs.Reopening.{AreOver, CanReopenBook, CannotReopenAt, IsReopenedBook, IsReopenedShard}
use Rattle.mx_world.specs.Storage.{AllLast, ChangesOwn}
use Rattle.mx_world.specs.View.{WorldView}
use Rattle.mx_world.specs.Worlds.{IsAfter, is_refused, none_open}
use Rattle.mx_world.specs.declared.steps.Step.{Step}
use Rattle.mx_world.proofs.MakingLemmas.{no-records, no-statuses}
use Rattle.mx_log.specs.LineSteps.{nothing_yet}

-- ---- none is refused

or-false : (a b : Bool) → (a || b) ≡ false → (a ≡ false) × (b ≡ false)
or-false true b h = absurd (cc h)
or-false false b h = (refl, h)

-- a count that is always none does not rise
no-rise : Rose 0 0 → ⊥
no-rise rose = omega arith

none-later : {V : Type 0} (refused : V → Bool) (olds news : List V) → AllLast refused (λ _. 0) olds news → list_any refused olds ≡ false → list_any refused news ≡ false
none-later refused olds news last none = ⊎_elim (λ found. absurd (some found)) (λ is. is) (cases_Bool (list_any refused news))
  where
    some : list_any refused news ≡ true → ⊥
    some found =
        let (k, view, within, at, is) = Any-from_list_any refused news found in
        elim ((last.each k view).cause (ap refused at ∙ is)) [
          | inl was ↦ true≢false (sym (list_any_at refused olds k view (subst (λ n. k < n) last.long within) was) ∙ none)
          | inr rose ↦ no-rise rose
        ]

-- after a step
pub none_refused : {K L : Type 0} (status : TransactionKey → Status) (old new : WorldView K L) (step : Step)
    → ChangesOwn (λ _. 0) (λ _. 0) status old new step → is_refused old ≡ false → is_refused new ≡ false
none_refused status old new step own none =
    let (shards, books) = or-false (list_any (λ shard. shard.is_refused) old.shards) (list_any (λ book. book.is_refused) old.books) none in
    rw (none-later (λ shard. shard.is_refused) old.shards new.shards own.shards_last shards, none-later (λ book. book.is_refused) old.books new.books own.books_last books) refl

any-map : {V : Type 0} (test : V → Bool) (xs ys : List V) → map test ys ≡ map test xs → list_any test ys ≡ list_any test xs
any-map test xs ys same = sym (flat test ys) ∙ ap (list_any (λ b. b)) same ∙ flat test xs
  where
    flat : {V : Type 0} (test : V → Bool) (xs : List V) → list_any (λ b. b) (map test xs) ≡ list_any test xs
    flat test [] = refl
    flat test (x ∷ xs) = ap (λ b. test x || b) (flat test xs)

-- where the shards stay, and of the books which are refused
pub none_refused_still : {K L : Type 0} (old new : WorldView K L) → new.shards ≡ old.shards
    → map (λ book. book.is_refused) new.books ≡ map (λ book. book.is_refused) old.books → is_refused old ≡ false → is_refused new ≡ false
none_refused_still old new shards books none =
    ap (λ s. list_any (λ shard. shard.is_refused) s || list_any (λ book. book.is_refused) new.books) shards
    ∙ ap (λ b. list_any (λ shard. shard.is_refused) old.shards || b) (any-map (λ book. book.is_refused) old.books new.books books)
    ∙ none

-- ---- over keepers with no rows

abbrev pub AreBlank : {Row : Type 0} → List (List Row) → Type 0
AreBlank keepers = All (λ keeper. keeper ≡ []) keepers

abbrev IsOverShard : List ShardRow → ShardView (List ShardRow) → Type 0
IsOverShard = IsReopenedShard (λ _. ⊤) (λ _. ⊤) (λ keeper. Some keeper) (λ keeper left. left ≡ Some keeper)

abbrev IsOverBook : List BookRow → BookView (List BookRow) → Type 0
IsOverBook = IsReopenedBook (λ _. ⊤) (λ _. ⊤) (λ keeper. Some keeper) (λ keeper left. left ≡ Some keeper)

-- there is no reason to refuse them
blank_opens : {Row : Type 0} (keepers : List (List Row)) (can : PlaceView → List Row → Type 0) (n : ℕ) → AreBlank keepers
    → ((place : PlaceView) → can place []) → CannotReopenAt can (λ _. ⊤) (λ _. ⊤) (λ keeper. Some keeper) keepers n → ⊥
blank_opens keepers can n blank fine (within, why) = why [] tt tt [] (ap Some (blank n [] within)) (fine (record { number = n; count = length keepers }))

no_rows : (place : PlaceView) → CanReopen place []
no_rows place = record { here = λ k d l. absurd (omega arith); legal = legal-start; versions = refl }

pub no_shard_refused : (keepers : List (List ShardRow)) (n : ℕ) → AreBlank keepers
    → CannotReopenAt CanReopen (λ _. ⊤) (λ _. ⊤) (λ keeper. Some keeper) keepers n → ⊥
no_shard_refused keepers n blank = blank_opens keepers CanReopen n blank no_rows

pub no_book_refused : (keepers : List (List BookRow)) (n : ℕ) → AreBlank keepers
    → CannotReopenAt CanReopenBook (λ _. ⊤) (λ _. ⊤) (λ keeper. Some keeper) keepers n → ⊥
no_book_refused keepers n blank = blank_opens keepers CanReopenBook n blank (λ place. refl)

no_entries : {Row Entry : Type 0} (reopened : List Row → List Entry) (kept : List Row) (stored journal : _) → reopened [] ≡ []
    → journal ≡ reopened stored → Some kept ≡ Some stored → kept ≡ [] → journal ≡ []
no_entries reopened kept stored journal start is same none = let bare : stored ≡ [] = cc in is ∙ ap reopened bare ∙ start

module _ (keepers : List (List ShardRow)) (shards : List (ShardView (List ShardRow))) (long : length shards ≡ length keepers)
    (blank : AreBlank keepers) (over : AreOver IsOverShard keepers shards) where
  blank_shards : All (λ shard. shard.journal ≡ []) shards
  blank_shards = λ n d l.
      let within : n < length keepers = omega (arith, l, long) in
      let is : IsOverShard (get_or keepers n []) (get_or shards n d) = over n [] d within in
      no_entries reopened_events (get_or keepers n []) (stored_events (get_or shards n d).journal) (get_or shards n d).journal
      refl is.journal (is.rows tt).1 (blank n [] within)

  shards_taken : list_any (λ shard. shard.is_refused) shards ≡ false
  shards_taken = list_any_none (λ shard. shard.is_refused) shards (λ n d l. (over n [] d (omega (arith, l, long))).taken)

module _ (keepers : List (List BookRow)) (books : List (BookView (List BookRow))) (long : length books ≡ length keepers)
    (blank : AreBlank keepers) (over : AreOver IsOverBook keepers books) where
  blank_books : All (λ book. book.journal ≡ []) books
  blank_books = λ n d l.
      let within : n < length keepers = omega (arith, l, long) in
      let is : IsOverBook (get_or keepers n []) (get_or books n d) = over n [] d within in
      no_entries reopened_replies (get_or keepers n []) (stored_replies (get_or books n d).journal) (get_or books n d).journal
      refl is.journal (is.rows tt).1 (blank n [] within)

  books_taken : list_any (λ book. book.is_refused) books ≡ false
  books_taken = list_any_none (λ book. book.is_refused) books (λ n d l. (over n [] d (omega (arith, l, long))).taken)

-- what a server is that was opened over them
pub record IsOverBlank (keepers : List (List ShardRow)) (reply_keepers : List (List BookRow)) (w : WorldView (List ShardRow) (List BookRow)) : Type 0 where
  pub blank : AreBlank keepers
  pub blank_replies : AreBlank reply_keepers
  pub shards : length w.shards ≡ length keepers
  pub books : length w.books ≡ length reply_keepers
  pub over : AreOver IsOverShard keepers w.shards
  pub over_replies : AreOver IsOverBook reply_keepers w.books
  pub none_open : IsTrue (none_open w)

pub none_refused_first : (keepers : List (List ShardRow)) (reply_keepers : List (List BookRow)) (w : WorldView (List ShardRow) (List BookRow))
    → IsOverBlank keepers reply_keepers w → is_refused w ≡ false
none_refused_first keepers reply_keepers w made =
    rw (shards_taken keepers w.shards made.shards made.blank made.over, books_taken reply_keepers w.books made.books made.blank_replies made.over_replies) refl

pub nothing_first : (keepers : List (List ShardRow)) (reply_keepers : List (List BookRow)) (w : WorldView (List ShardRow) (List BookRow))
    → IsOverBlank keepers reply_keepers w → IsAfter nothing_yet [] w
nothing_first keepers reply_keepers w made = record {
  records = λ room. no-records w.shards room (blank_shards keepers w.shards made.shards made.blank made.over);
  statuses = λ p. no-statuses w.books w.going p (blank_books reply_keepers w.books made.books made.blank_replies made.over_replies) (eqb-true (length w.going) 0 made.none_open);
}
