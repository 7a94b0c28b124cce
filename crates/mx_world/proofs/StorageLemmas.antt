-- Refusals for want of storage, and what becomes of the shards and the books.
use Rattle.std.proofs.Common.{◌≡◌, ◌⊎◌, ℕ, zero, suc, ◌+◌, ◌<◌, ◌≤◌, Bool, true, false, ◌||◌, IsTrue, List, [], ◌∷◌, length, get_or, set, take, Option, Some, None, refl, sym, ◌∙◌, ap, subst, arith, inl, inr}
use Rattle.std.specs.Prelude.{Result, Err, IsErrOf, ◌↔◌, min}
use Rattle.std.specs.List.{list_any}
use mathlib.Core.Path.{fun_ext}
use Rattle.std.proofs.lemmas.Bool.{cases_eq}
use Rattle.std.proofs.lemmas.List.{get_or_default, get_or-set_same, get_or-set_other, length-set}
use Rattle.mx_keeper.specs.Keeping.{Rose}
use Rattle.mx_keeper.specs.Places.{place_number}
use Rattle.mx_keeper.specs.declared.refusals.CallError.{CallError}
use Rattle.mx_keeper.specs.declared.refusals.CallError.TheVariants.{Storage}
use Rattle.mx_room.specs.Offer.{Offered}
use Rattle.mx_room.specs.Queries.{room_named}
use Rattle.mx_shard.specs.LoneRoom.{Call, to_ask}
use Rattle.mx_shard.specs.View.{ShardView}
use Rattle.mx_book.specs.declared.transaction_keys.TransactionKey.{TransactionKey}
use Rattle.mx_pdu.specs.Event.{room_of}
use Rattle.mx_world.specs.Replies.{Status, status_after}
use Rattle.mx_world.specs.Moves.{rest_of}
use Rattle.mx_world.specs.View.{WorldView}
use Rattle.mx_world.specs.Worlds.{is_refused, status_in, start, IsAfter}
use Rattle.mx_world.specs.Storage.{Fails, Lasts, FailsAt, SomeFails, OnlyAt, AllLast, ShardsLast, BooksLast, ShardFails, BookFails, NextFails, AskFails, IsStorageFailure, ChangesOwn}
use Rattle.mx_world.specs.declared.steps.Step.{Step}
use Rattle.mx_world.specs.declared.steps.Step.TheVariants.{Host, Open, Next, Close, Join, Ask}

-- ---- one shard or book

-- what becomes of it by a call whose clauses say so
pub lasts-called : {V A : Type 0} {r : Result A CallError} (refused : V → Bool) (failed : V → ℕ) (old new : V) → (r ≡ Err Storage → (refused old ≡ true) ⊎ Rose (failed old) (failed new)) → (IsErrOf r Storage ↔ (refused new ≡ true)) → (refused old ≡ true → r ≡ Err Storage) →
    failed old ≤ failed new → Lasts refused failed old new
lasts-called refused failed old new storage is stays counted = record {
  stays = λ h. is.0 (stays h);
  cause = λ h. storage (is.1 h);
  counted = counted;
}

pub lasts-same : {V : Type 0} (refused : V → Bool) (failed : V → ℕ) (old new : V) → refused new ≡ refused old → failed new ≡ failed old → Lasts refused failed old new
lasts-same refused failed old new same count = record {
  stays = λ h. same ∙ h;
  cause = λ h. inl (sym same ∙ h);
  counted = omega (arith, count);
}

rose-later : (a b c m : ℕ) → min (a + 1) m ≤ b → b ≤ c → min (a + 1) m ≤ c
rose-later a b c m h k = omega arith

rose-since : (a b c m : ℕ) → a ≤ b → min (b + 1) m ≤ c → min (a + 1) m ≤ c
rose-since a b c m h k = omega arith

cause-since : {V : Type 0} (refused : V → Bool) (failed : V → ℕ) (a b c : V) → Lasts refused failed a b → failed b ≤ failed c → (refused b ≡ true) ⊎ Rose (failed b) (failed c) → (refused a ≡ true) ⊎ Rose (failed a) (failed c)
cause-since refused failed a b c h count (inr rose) = inr (rose-since (failed a) (failed b) (failed c) _ h.counted rose)
cause-since refused failed a b c h count (inl was) = elim (h.cause was) [
  | inl first ↦ inl first
  | inr rose ↦ inr (rose-later (failed a) (failed b) (failed c) _ rose count)
]

lasts-more : {V : Type 0} (refused : V → Bool) (failed : V → ℕ) (a b c : V) → Lasts refused failed a b → Lasts refused failed b c → Lasts refused failed a c
lasts-more refused failed a b c h k = record {
  stays = λ x. k.stays (h.stays x);
  cause = λ x. cause-since refused failed a b c h k.counted (k.cause x);
  counted = omega (arith, h.counted, k.counted);
}

fails-since : {V : Type 0} (refused : V → Bool) (failed : V → ℕ) (a b c : V) → Lasts refused failed a b → Lasts refused failed b c → Fails refused failed b c → Fails refused failed a c
fails-since refused failed a b c h k x = (x.0, cause-since refused failed a b c h k.counted x.1)

-- ---- all of them

pub all-same : {V : Type 0} (refused : V → Bool) (failed : V → ℕ) (views : List V) → AllLast refused failed views views
all-same refused failed views = record { long = refl; each = λ n d. lasts-same refused failed (get_or views n d) (get_or views n d) refl refl }

pub all-more : {V : Type 0} (refused : V → Bool) (failed : V → ℕ) (a b c : List V) → AllLast refused failed a b → AllLast refused failed b c → AllLast refused failed a c
all-more refused failed a b c h k = record {
  long = k.long ∙ h.long;
  each = λ n d. lasts-more refused failed (get_or a n d) (get_or b n d) (get_or c n d) (h.each n d) (k.each n d);
}

-- one of them is called
pub all-set : {V : Type 0} (refused : V → Bool) (failed : V → ℕ) (views : List V) (n : ℕ) (d v : V) → n < length views → Lasts refused failed (get_or views n d) v → AllLast refused failed views (set views n v)
all-set refused failed views n d v l h = record {
  long = length-set views n v;
  each = λ k e. elim (cases_eq k n) [
    | inl same ↦
        subst (λ i. Lasts refused failed (get_or views i e) (get_or (set views n v) i e)) (sym same)
        (subst (λ w. Lasts refused failed (get_or views n e) w) (sym (get_or-set_same views n v e l))
        (subst (λ w. Lasts refused failed w v) (get_or_default views n d e l) h))
    | inr other ↦
        subst (λ w. Lasts refused failed (get_or views k e) w) (sym (get_or-set_other views n k v e other))
        (lasts-same refused failed (get_or views k e) (get_or views k e) refl refl)
  ];
}

pub only-set : {V : Type 0} (views : List V) (n : ℕ) (v : V) (name : List ℕ) → n ≡ place_number (length views) name → OnlyAt (Some name) views (set views n v)
only-set views n v name is = λ k e other. get_or-set_other views n k v e (λ same. other (same ∙ is))

pub fails-set : {V : Type 0} (refused : V → Bool) (failed : V → ℕ) (views : List V) (n : ℕ) (d v : V) (name : List ℕ) → n ≡ place_number (length views) name → n < length views → refused v ≡ true → Lasts refused failed (get_or views n d) v → FailsAt refused failed views (set views n v) name
fails-set refused failed views n d v name is l h lasts = λ e.
    subst (λ i. Fails refused failed (get_or views i e) (get_or (set views n v) i e)) is
    (subst (λ w. Fails refused failed (get_or views n e) w) (sym (get_or-set_same views n v e l))
    (subst (λ w. Fails refused failed w v) (get_or_default views n d e l) (h, lasts.cause h)))

-- the one at the place of a name was refused
pub named-fails : {V : Type 0} (refused : V → Bool) (failed : V → ℕ) (views : List V) (n : ℕ) (v : V) (name : List ℕ) → n ≡ place_number (length views) name → n < length views → v ≡ get_or views n v → refused v ≡ true → FailsAt refused failed views views name
named-fails refused failed views n v name is l at h = λ e.
    subst (λ i. Fails refused failed (get_or views i e) (get_or views i e)) is
    (let here : refused (get_or views n e) ≡ true = ap refused (get_or_default views n e v l ∙ sym at) ∙ h in (here, inl here))

-- ---- since an earlier moment

at-since : {V : Type 0} (refused : V → Bool) (failed : V → ℕ) (a b c : List V) (name : List ℕ) → AllLast refused failed a b → AllLast refused failed b c → FailsAt refused failed b c name → FailsAt refused failed a c name
at-since refused failed a b c name h k x = λ d.
    subst (λ m. Fails refused failed (get_or a (place_number m name) d) (get_or c (place_number m name) d)) h.long
    (fails-since refused failed _ _ _ (h.each (place_number (length b) name) d) (k.each (place_number (length b) name) d) (x d))

some-since : {V : Type 0} (refused : V → Bool) (failed : V → ℕ) (a b c : List V) → AllLast refused failed a b → AllLast refused failed b c → SomeFails refused failed b c → SomeFails refused failed a c
some-since refused failed a b c h k (n, l, x) = (n, subst (λ m. n < m) h.long l, λ d. fails-since refused failed _ _ _ (h.each n d) (k.each n d) (x d))

next-since : {K : Type 0} (f : K → ℕ) (a b c : List (ShardView K)) (rest : List Offered) → ShardsLast f a b → ShardsLast f b c → NextFails f b c rest → NextFails f a c rest
next-since f a b c [] h k x = x
next-since f a b c (o ∷ rest) h k x = at-since (λ shard. shard.is_refused) (λ shard. f shard.keeper) a b c (room_of o.pdu) h k x

ask-since : {K : Type 0} (f : K → ℕ) (a b c : List (ShardView K)) (call : Call) (room : Option (List ℕ))
    → ShardsLast f a b → ShardsLast f b c → AskFails f b c call room → AskFails f a c call room
ask-since f a b c call None h k x = (some-since (λ shard. shard.is_refused) (λ shard. f shard.keeper) a b c h k x.0, x.1)
ask-since f a b c call (Some room) h k x = at-since (λ shard. shard.is_refused) (λ shard. f shard.keeper) a b c room h k x

pub failure-since : {K L : Type 0} (f : K → ℕ) (g : L → ℕ) (status : TransactionKey → Status) (a b c : WorldView K L) (step : Step) → ShardsLast f a.shards b.shards → BooksLast g a.books b.books → ShardsLast f b.shards c.shards → BooksLast g b.books c.books →
    IsStorageFailure f g status b c step → IsStorageFailure f g status a c step
failure-since f g status a b c (Host o) s t s' t' x = at-since (λ shard. shard.is_refused) (λ shard. f shard.keeper) a.shards b.shards c.shards (room_of o.pdu) s s' x
failure-since f g status a b c (Join origin o) s t s' t' x = at-since (λ shard. shard.is_refused) (λ shard. f shard.keeper) a.shards b.shards c.shards (room_of o.pdu) s s' x
failure-since f g status a b c (Open p events) s t s' t' x = at-since (λ book. book.is_refused) (λ book. g book.keeper) a.books b.books c.books p.origin t t' x
failure-since f g status a b c (Next p) s t s' t' x = next-since f a.shards b.shards c.shards (rest_of (status p)) s s' x
failure-since f g status a b c (Close p) s t s' t' x = at-since (λ book. book.is_refused) (λ book. g book.keeper) a.books b.books c.books p.origin t t' x
failure-since f g status a b c (Ask origin now q) s t s' t' x = ask-since f a.shards b.shards c.shards (to_ask origin now q) (room_named q) s s' x

-- the step that stops a run
pub run-failure : {K L : Type 0} (f : K → ℕ) (g : L → ℕ) (a b c : WorldView K L) (steps : List Step) (n m : ℕ) (x d : Step) → n ≡ m → m < length steps → x ≡ get_or steps m x → IsAfter (start a) (take m steps) b →
    ShardsLast f a.shards b.shards → BooksLast g a.books b.books → ChangesOwn f g (status_in b) b c x → IsStorageFailure f g (status_in b) b c x →
    IsStorageFailure f g (status_after (start a) (take n steps)) a c (get_or steps n d)
run-failure f g a b c steps n m x d same l is now s t own h =
    subst (λ k. IsStorageFailure f g (status_after (start a) (take k steps)) a c (get_or steps k d)) (sym same)
    (subst (λ y. IsStorageFailure f g (status_after (start a) (take m steps)) a c y) (is ∙ get_or_default steps m x d l)
    (subst (λ status. IsStorageFailure f g status a c x) (fun_ext now.statuses)
    (failure-since f g (status_in b) a b c x s t own.shards_last own.books_last h)))

-- ---- a server that is refused

any-at : {V : Type 0} (refused : V → Bool) (failed : V → ℕ) (olds news : List V) (n : ℕ) → length news ≡ length olds → n < length olds → ((d : V) → Fails refused failed (get_or olds n d) (get_or news n d)) → IsTrue (list_any refused news)
any-at refused failed olds [] n long l h = absurd (omega arith)
any-at {V = V} refused failed olds (v ∷ vs) n long l h = in_list (v ∷ vs) n (let k : n < length (v ∷ vs) = omega arith in k) (h v).0
  where
    later : (a b : Bool) → b ≡ true → (a || b) ≡ true
    later true b k = refl
    later false b k = k

    in_list : (views : List V) (k : ℕ) → k < length views → refused (get_or views k v) ≡ true → IsTrue (list_any refused views)
    in_list [] k l h = absurd (omega arith)
    in_list (w ∷ views) zero l h = ap (λ b. b || list_any refused views) h
    in_list (w ∷ views) (suc k) l h = later (refused w) (list_any refused views) (in_list views k (omega arith) h)

in_shards : (a b : Bool) → a ≡ true → (a || b) ≡ true
in_shards a b h = ap (λ x. x || b) h

in_books : (a b : Bool) → b ≡ true → (a || b) ≡ true
in_books true b h = refl
in_books false b h = h

within : (count : ℕ) (name : List ℕ) → 0 < count → place_number count name < count
within count name some = omega arith

shard_any : {K L : Type 0} (f : K → ℕ) (old new : WorldView K L) (name : List ℕ) → 0 < length old.shards → ShardsLast f old.shards new.shards → ShardFails f old.shards new.shards name → IsTrue (is_refused new)
shard_any f old new name some lasts h =
    in_shards (list_any (λ shard. shard.is_refused) new.shards) (list_any (λ book. book.is_refused) new.books)
    (any-at (λ shard. shard.is_refused) (λ shard. f shard.keeper) old.shards new.shards (place_number (length old.shards) name) lasts.long (within (length old.shards) name some) h)

book_any : {K L : Type 0} (g : L → ℕ) (old new : WorldView K L) (name : List ℕ) → 0 < length old.books → BooksLast g old.books new.books → BookFails g old.books new.books name → IsTrue (is_refused new)
book_any g old new name some lasts h =
    in_books (list_any (λ shard. shard.is_refused) new.shards) (list_any (λ book. book.is_refused) new.books)
    (any-at (λ book. book.is_refused) (λ book. g book.keeper) old.books new.books (place_number (length old.books) name) lasts.long (within (length old.books) name some) h)

next_any : {K L : Type 0} (f : K → ℕ) (old new : WorldView K L) (rest : List Offered) → 0 < length old.shards → ShardsLast f old.shards new.shards → NextFails f old.shards new.shards rest → IsTrue (is_refused new)
next_any f old new [] some lasts h = absurd h
next_any f old new (o ∷ rest) some lasts h = shard_any f old new (room_of o.pdu) some lasts h

ask_any : {K L : Type 0} (f : K → ℕ) (old new : WorldView K L) (call : Call) (room : Option (List ℕ))
    → 0 < length old.shards → ShardsLast f old.shards new.shards → AskFails f old.shards new.shards call room → IsTrue (is_refused new)
ask_any f old new call (Some room) some lasts h = shard_any f old new room some lasts h
ask_any f old new call None some lasts ((n, l, x), others) =
    in_shards (list_any (λ shard. shard.is_refused) new.shards) (list_any (λ book. book.is_refused) new.books)
    (any-at (λ shard. shard.is_refused) (λ shard. f shard.keeper) old.shards new.shards n lasts.long l x)

-- a step that is refused for want of storage leaves some shard or book refused
pub refused-any : {K L : Type 0} (f : K → ℕ) (g : L → ℕ) (status : TransactionKey → Status) (old new : WorldView K L) (step : Step) → 0 < length old.shards → 0 < length old.books → ChangesOwn f g status old new step → IsStorageFailure f g status old new step → IsTrue (is_refused new)
refused-any f g status old new (Host o) s b own h = shard_any f old new (room_of o.pdu) s own.shards_last h
refused-any f g status old new (Join origin o) s b own h = shard_any f old new (room_of o.pdu) s own.shards_last h
refused-any f g status old new (Open p events) s b own h = book_any g old new p.origin b own.books_last h
refused-any f g status old new (Next p) s b own h = next_any f old new (rest_of (status p)) s own.shards_last h
refused-any f g status old new (Close p) s b own h = book_any g old new p.origin b own.books_last h
refused-any f g status old new (Ask origin now q) s b own h = ask_any f old new (to_ask origin now q) (room_named q) s own.shards_last h

-- what holds of the parts holds of the server
pub of_parts : {W : Type 0} (P : W → W → Type 0) (w w' u u' : W) → u ≡ w → u' ≡ w' → P u u' → P w w'
of_parts P w w' u u' is is' h = subst (λ v. P v w') is (subst (λ v. P u v) is' h)
