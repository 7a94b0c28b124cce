-- The events that replies call kept and that no shard has.
use Rattle.std.proofs.Common.{◌≡◌, ℕ, Bool, true, false, cond, List, [], ◌∷◌, ◌++◌, refl, sym, ◌∙◌, ap, append_assoc, append-nil, drop, length, ◌<◌, ◌≤◌, ◌+◌, get_or, Some}
use Rattle.std.specs.Prelude.{not, ◌&&◌, ◌||◌, is_none}
use Rattle.std.specs.List.{list_any}
use Rattle.std.proofs.lemmas.List.{drop_more, drop_all}
use Rattle.std.proofs.lemmas.List.Elements.{filter-append}
use Rattle.serde_json.specs.Data.{Data, Members, no_members, member}
use Rattle.mx_ident.specs.Identifier.{is_event_id, event_id_error}
use Rattle.mx_ident.specs.declared.refusals.NotAnId.{NotAnId}
use Rattle.mx_shard.specs.View.{ShardView}
use Rattle.mx_shard.specs.Journal.{Entry, has_id}
use Rattle.mx_world.specs.Losses.{says_kept, kept_ids, ids_of, ids_among, not_held}
use Rattle.mx_world.specs.Worlds.{shard_journals}

-- a shard of these has an entry with the id
pub any-journals : {K : Type 0} (id : List ℕ) (shards : List (ShardView K)) → list_any (λ journal. has_id journal id) (shard_journals shards) ≡ list_any (λ shard. has_id shard.journal id) shards
any-journals id [] = refl
any-journals id (s ∷ shards) = ap (λ b. has_id s.journal id || b) (any-journals id shards)

module _ (journals : List (List Entry)) where
  nothing : (old : List (List ℕ)) (ids : List (List ℕ)) → ids ≡ [] → old ≡ old ++ not_held journals ids
  nothing old ids none = sym (append-nil old) ∙ ap (λ xs. old ++ not_held journals xs) (sym none)

  -- the ids of one more, and then of the rest
  pub one_more : (old new ids rest all : List (List ℕ)) → new ≡ old ++ not_held journals ids → old ++ not_held journals (ids ++ rest) ≡ all → new ++ not_held journals rest ≡ all
  one_more old new ids rest all is so_far =
      ap (λ l. l ++ not_held journals rest) is ∙ append_assoc old (not_held journals ids) (not_held journals rest)
      ∙ ap (λ l. old ++ l) (sym (filter-append (λ id. not (list_any (λ journal. has_id journal id) journals)) ids rest)) ∙ so_far

  pub reply_more : (replies : List (List ℕ)) (n : ℕ) (r : List ℕ) (old new all : List (List ℕ)) → n < length replies → r ≡ get_or replies n r → new ≡ old ++ not_held journals (ids_of r) →
      old ++ not_held journals (ids_among (drop n replies)) ≡ all → new ++ not_held journals (ids_among (drop (n + 1) replies)) ≡ all
  reply_more replies n r old new all lt is added so_far =
      one_more old new (ids_of r) (ids_among (drop (n + 1) replies)) all added
      (ap (λ rs. old ++ not_held journals (ids_among rs)) (ap (λ x. x ∷ drop (n + 1) replies) is ∙ sym (drop_more replies n r lt)) ∙ so_far)

  pub no_more_replies : (replies : List (List ℕ)) (n : ℕ) (found all : List (List ℕ)) → length replies ≤ n → found ++ not_held journals (ids_among (drop n replies)) ≡ all → found ≡ all
  no_more_replies replies n found all past so_far =
      sym (append-nil found) ∙ ap (λ rs. found ++ not_held journals (ids_among rs)) (sym (drop_all n replies past)) ∙ so_far

  kept-first : (b : Bool) (id : List ℕ) (rest : List (List ℕ)) → cond b (id ∷ rest) rest ≡ cond b (id ∷ []) [] ++ rest
  kept-first true id rest = refl
  kept-first false id rest = refl

  pub member_more : (id : List ℕ) (told : Data) (ms : Members) (old new all : List (List ℕ)) → new ≡ old ++ not_held journals (kept_ids (member id told no_members)) →
      old ++ not_held journals (kept_ids (member id told ms)) ≡ all → new ++ not_held journals (kept_ids ms) ≡ all
  member_more id told ms old new all added so_far =
      one_more old new (kept_ids (member id told no_members)) (kept_ids ms) all added
      (ap (λ l. old ++ not_held journals l) (sym (kept-first (says_kept told && is_event_id id) id (kept_ids ms))) ∙ so_far)

  not_kept : (id : List ℕ) (told : Data) (b : Bool) → says_kept told && is_event_id id ≡ b → kept_ids (member id told no_members) ≡ cond b (id ∷ []) []
  not_kept id told b h = ap (λ x. cond x (id ∷ []) []) h

  held_or : (id : List ℕ) (b : Bool) → list_any (λ journal. has_id journal id) journals ≡ b → not_held journals (id ∷ []) ≡ cond (not b) (id ∷ []) []
  held_or id b h = ap (λ x. cond (not x) (id ∷ []) []) h

  pub is_there : (id : List ℕ) (old : List (List ℕ)) → list_any (λ journal. has_id journal id) journals ≡ true → old ≡ old ++ not_held journals (id ∷ [])
  is_there id old h = sym (append-nil old) ∙ ap (λ l. old ++ l) (sym (held_or id true h))

  pub is_lost : (id : List ℕ) (old : List (List ℕ)) → list_any (λ journal. has_id journal id) journals ≡ false → old ++ id ∷ [] ≡ old ++ not_held journals (id ∷ [])
  is_lost id old h = ap (λ l. old ++ l) (sym (held_or id false h))

  pub says_nothing : (id : List ℕ) (told : Data) (old : List (List ℕ)) → says_kept told && is_event_id id ≡ false → old ≡ old ++ not_held journals (kept_ids (member id told no_members))
  says_nothing id told old h = nothing old (kept_ids (member id told no_members)) (not_kept id told false h)

  pub says_one : (id : List ℕ) (told : Data) (old new : List (List ℕ)) → says_kept told && is_event_id id ≡ true → new ≡ old ++ not_held journals (id ∷ []) → new ≡ old ++ not_held journals (kept_ids (member id told no_members))
  says_one id told old new h is = is ∙ ap (λ l. old ++ not_held journals l) (sym (not_kept id told true h))

  no_kept : (b : Bool) → (b && false) ≡ false
  no_kept true = refl
  no_kept false = refl

  -- of what is no event id nothing is told
  pub no_id : (id : List ℕ) (told : Data) (old : List (List ℕ)) (cause : NotAnId) → event_id_error id ≡ Some cause → old ≡ old ++ not_held journals (kept_ids (member id told no_members))
  no_id id told old cause h = says_nothing id told old (ap (λ e. says_kept told && is_none e) h ∙ no_kept (says_kept told))
