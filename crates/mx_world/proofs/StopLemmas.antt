-- What is left of a server that is stopped, and what is told of an event that is sent again.
use Rattle.std.proofs.Common.{◌≡◌, ◌<◌, ◌+◌, ◌⊎◌, inl, inr, ℕ, Bool, cond, List, [], ◌∷◌, ◌++◌, length, Option, Some, None, sym, ap, ◌∙◌, arith}
use Rattle.std.specs.Prelude.{nat_lt, bytes_eq, if◌then◌else◌}
use Rattle.std.specs.List.{position, position_or_len}
use Rattle.std.proofs.lemmas.Bool.{lt-ltb}
use Rattle.std.proofs.lemmas.List.{map-append, get_or_append_left, length-append, length-map}
use Rattle.std.proofs.lemmas.List.Sums.{position_or_len_is}
use Rattle.std.proofs.lemmas.List.Quantifiers.{position-Some}
use Rattle.mx_graph.specs.Record.{Row, no_row, place_of}
use Rattle.mx_receipt.specs.Receipt.{Kept, rows_of, kept_at, is_rejected}
use Rattle.mx_access.specs.Acl.{acl_allows}
use Rattle.mx_room.specs.Offer.{Offered, allowed_outcome, new_outcome, offer_outcome, as_kept}
use Rattle.mx_room.specs.declared.outcomes.Outcome.TheVariants as outcome
use Rattle.mx_room.specs.declared.outcomes.Refusal.TheVariants.{AccessList}
use Rattle.mx_world.specs.Crashes.{Leaves}
use Rattle.mx_world.specs.Stops.{LeavesRows, KnownEventsKeepTheirVerdicts}

-- ---- what is left

-- where an open keeper left its rows alone, a crash leaves later rows or those that were tried
pub leaves-rows : {V K R : Type 0} (keeper : V → K) (rows : V → List R) (is_honest : K → Type 0) (may_leave : K → Option (List R) → Type 0) (old new : V) (tried : List R)
    → Leaves keeper rows is_honest may_leave old new tried
    → (is_honest (keeper old) → (left : Option (List R)) → may_leave (keeper old) left → left ≡ Some (rows old))
    → LeavesRows keeper rows is_honest may_leave new tried
leaves-rows {R = R} keeper rows is_honest may_leave old new tried leaves settled = λ honest left may. by left honest (leaves.crash honest left may)
  where
    by : (left : Option (List R)) → is_honest (keeper new) → (left ≡ Some (rows new)) ⊎ (((rows new ≡ rows old) × may_leave (keeper old) left) ⊎ (left ≡ Some tried)) → (left ≡ Some (rows new)) ⊎ (left ≡ Some tried)
    by left honest (inl is) = inl is
    by left honest (inr (inl (same, was))) = inl (settled (leaves.honest honest) left was ∙ ap (λ (rs : List R). Some rs) (sym same))
    by left honest (inr (inr is)) = inr is

-- ---- an event that is known

-- the first place at which a test passes stays it in a longer list
position-longer : {X : Type 0} (t : X → Bool) (xs ys : List X) (d : X) (i : ℕ) → position t xs ≡ Some i → position t (xs ++ ys) ≡ Some i
position-longer t xs ys d i h =
    let at = position-Some t xs i d h in
    let long : length (xs ++ ys) ≡ length xs + length ys = length-append xs ys in
    let same : position_or_len t (xs ++ ys) ≡ i =
    position_or_len_is t (xs ++ ys) i d (omega (arith, at.0))
    (λ k l. ap t (get_or_append_left xs ys d k (omega (arith, at.0))) ∙ at.2 k l)
    (λ _. ap t (get_or_append_left xs ys d i at.0) ∙ at.1) in
    ap (λ n. cond (nat_lt n (length (xs ++ ys))) (Some n) None) same
    ∙ ap (λ b. cond b (Some i) None) (lt-ltb i (length (xs ++ ys)) (omega (arith, at.0)))

kept-longer : (kept later : List Kept) (p : ℕ) → p < length kept → kept_at (kept ++ later) p ≡ kept_at kept p
kept-longer kept later p l = get_or_append_left kept later _ p l

abbrev row_of : Kept → Row
row_of k = record { id = k.id; event = k.event; rejected = is_rejected k.verdict }

module _ (kept later : List Kept) (o : Offered) (p : ℕ) (found : place_of (rows_of kept) o.id ≡ Some p) where
  here : p < length kept
  here = (let at = position-Some (λ (r : Row). bytes_eq r.id o.id) (rows_of kept) p no_row found in omega (arith, at.0, length-map kept row_of))

  found-longer : place_of (rows_of (kept ++ later)) o.id ≡ Some p
  found-longer =
      ap (λ rows. place_of rows o.id) (map-append row_of kept later)
      ∙ position-longer (λ (r : Row). bytes_eq r.id o.id) (rows_of kept) (rows_of later) no_row p found

  allowed-known : allowed_outcome (kept ++ later) o ≡ outcome.Known (kept_at kept p).verdict
  unfolding allowed_outcome
  allowed-known =
      ap (λ found. elim found [ None ↦ new_outcome (kept ++ later) o.signed (as_kept o) | Some q ↦ outcome.Known (kept_at (kept ++ later) q).verdict ]) found-longer
      ∙ ap (λ (k : Kept). outcome.Known k.verdict) (kept-longer kept later p here)

pub known : KnownEventsKeepTheirVerdicts
unfolding offer_outcome
known [] later origin o p found = absurd (let none : None ≡ Some p = found in cc)
known (k ∷ ks) later origin o p found =
    ap (λ out. Some (if acl_allows (k ∷ ks ++ later) origin then out else outcome.Refused AccessList)) (allowed-known (k ∷ ks) later o p found)
