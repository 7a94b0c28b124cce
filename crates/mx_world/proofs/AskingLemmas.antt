-- Queries by an id alone, which are put to each shard.
use Rattle.std.proofs.Common.{◌≡◌, ◌⊎◌, ℕ, ◌+◌, ◌<◌, ◌≤◌, Bool, true, false, ◌||◌, List, length, get_or, refl, sym, ◌∙◌, ap, subst, arith, inl, inr}
use Rattle.std.proofs.lemmas.Bool.{true≢false, false≢true}
use Rattle.std.proofs.lemmas.List.{get_or_default}
use Rattle.std.proofs.Math.Nat.{eq-or-lt_of_le}
use Rattle.mx_room.specs.declared.queries.Query.{Query}
use Rattle.mx_shard.specs.LoneRoom.{Call, to_ask}
use Rattle.mx_shard.specs.View.{ShardView}
use Rattle.mx_world.specs.Storage.{SomeShardFails, ShowsNothing, OthersShowNothing}
use Rattle.mx_world.proofs.RoomLemmas.{NoneShown}

-- of the first so many shards each was asked: whether some was refused, and that no other one shows it
pub record AreAsked {K : Type 0} (shards : List (ShardView K)) (call : Call) (n : ℕ) (some_refused : Bool) : Type 0 where
  pub some : some_refused ≡ true → (m : ℕ) × (m < length shards) × ((d : ShardView K) → (get_or shards m d).is_refused ≡ true)
  pub none : some_refused ≡ false → (m : ℕ) (d : ShardView K) → m < n → (get_or shards m d).is_refused ≡ false
  pub unshown : (m : ℕ) (d : ShardView K) → m < n → (get_or shards m d).is_refused ≡ false → ShowsNothing call (get_or shards m d)

pub asked-none : {K : Type 0} (shards : List (ShardView K)) (call : Call) → AreAsked shards call 0 false
asked-none shards call = record {
  some = λ is. absurd (false≢true is);
  none = λ is m d below. absurd (let e : ⊥ = omega (arith, below) in e);
  unshown = λ m d below. absurd (let e : ⊥ = omega (arith, below) in e);
}

or-either : (a b : Bool) → (a || b) ≡ true → (a ≡ true) ⊎ (b ≡ true)
or-either true b h = inl refl
or-either false b h = inr h

or-neither : (a b : Bool) → (a || b) ≡ false → (a ≡ false) × (b ≡ false)
or-neither true b h = absurd (true≢false h)
or-neither false b h = (refl, h)

-- one more, which shows nothing, or is refused
pub asked-more : {K : Type 0} (shards : List (ShardView K)) (call : Call) (n : ℕ) (shard : ShardView K) (before after : Bool)
    → n < length shards → shard ≡ get_or shards n shard → AreAsked shards call n before
    → (shard.is_refused ≡ false → ShowsNothing call shard) → after ≡ (shard.is_refused || before) → AreAsked shards call (n + 1) after
asked-more {K = K} shards call n shard before after l is asked hidden noted = record {
  some = λ h. elim (or-either shard.is_refused before (sym noted ∙ h)) [
    | inl refused ↦ (n, l, λ d. ap (λ (s : ShardView K). s.is_refused) (there d) ∙ refused)
    | inr refused ↦ asked.some refused
  ];
  none = λ h m d below. elim (eq-or-lt_of_le (let le : m ≤ n = omega (arith, below) in le)) [
    | inl same ↦ ap (λ i. (get_or shards i d).is_refused) same ∙ ap (λ (s : ShardView K). s.is_refused) (there d) ∙ (or-neither shard.is_refused before (sym noted ∙ h)).0
    | inr lt ↦ asked.none (or-neither shard.is_refused before (sym noted ∙ h)).1 m d lt
  ];
  unshown = λ m d below taken. elim (eq-or-lt_of_le (let le : m ≤ n = omega (arith, below) in le)) [
    | inl same ↦
        let here : get_or shards m d ≡ shard = ap (λ i. get_or shards i d) same ∙ there d in
        subst (λ (s : ShardView K). ShowsNothing call s) (sym here) (hidden (ap (λ (s : ShardView K). s.is_refused) (sym here) ∙ taken))
    | inr lt ↦ asked.unshown m d lt taken
  ];
}
  where
    there : (d : ShardView K) → get_or shards n d ≡ shard
    there d = get_or_default shards n d shard l ∙ sym is

-- once all were asked and none was refused, no room shows it
pub none-asked : {K : Type 0} (shards : List (ShardView K)) (n : ℕ) (origin : List ℕ) (now : ℕ) (query : Query) (some_refused : Bool)
    → AreAsked shards (to_ask origin now query) n some_refused → some_refused ≡ false → NoneShown shards n origin now query
none-asked shards n origin now query some_refused asked is = λ k d below room. asked.unshown k d below (asked.none is k d below) room

-- once all were asked and some was refused, that one failed, and no other one shows it
pub some-asked : {K : Type 0} (f : K → ℕ) (shards : List (ShardView K)) (call : Call) (n : ℕ) (some_refused : Bool) → length shards ≤ n
    → AreAsked shards call n some_refused → some_refused ≡ true → SomeShardFails f shards shards × OthersShowNothing call shards
some-asked f shards call n some_refused all asked is = let found = asked.some is in (
  (found.0, found.1, λ d. (found.2 d, inl (found.2 d))),
  λ m d l. asked.unshown m d (omega (arith, l, all)),
)
