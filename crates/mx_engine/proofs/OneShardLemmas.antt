-- Events that are offered at several shards, and what that is at one of them.
use Rattle.std.proofs.Common.{◌≡◌, ◌≢◌, ◌<◌, ◌==◌, ℕ, length, get_or, set, take, drop, Bool, true, false, cond, List, [], ◌∷◌, ◌++◌, sum, refl, sym, ◌∙◌, ap, subst, eq-eqb, ext_get_or}
use Rattle.std.proofs.lemmas.Bool.{eqb-true}
use Rattle.std.proofs.lemmas.List.{length-set, get_or-set_same, get_or-set_other}
use Rattle.std.proofs.lemmas.Nat.{mod_below}
use native.Mathlib.Decide.{ℕ_discrete}
use mathlib.Core.Logic.{dite}
use Rattle.mx_dock.specs.Journal.{IsPrefix}
use Rattle.mx_dock.specs.Rule.{no_berth}
use Rattle.mx_keeper.specs.Places.{place_number, is_at}
use Rattle.mx_pdu.specs.Event.{room_of}
use Rattle.mx_room.specs.Offer.{Offered}
use Rattle.mx_shard.specs.LoneRoom.{to_offer}
use Rattle.mx_shard.specs.Journal.{Entry}
use Rattle.mx_world.specs.declared.answers.Told.{Told}
use Rattle.mx_engine.specs.Views.{BerthView, view_at, after_turn, turned}
use Rattle.mx_engine.specs.Calls.{entries_added}
use Rattle.mx_engine.specs.Transactions.{IsOffered, AreOffered, IsOfferedThere, AreOfferedThere, events_at}
use Rattle.mx_engine.specs.Jobs.{merged}
use Rattle.mx_engine.proofs.TurnLemmas.{view-set_same, view-set_other}

-- ---- events of one shard

pub here : (n count : ℕ) (o : Offered) → place_number count (room_of o.pdu) ≡ n
    → is_at (record { number = n; count = count }) (room_of o.pdu) ≡ true
here n count o is = eq-eqb (place_number count (room_of o.pdu)) n is

elsewhere : (n count : ℕ) (o : Offered) → n ≢ place_number count (room_of o.pdu)
    → is_at (record { number = n; count = count }) (room_of o.pdu) ≡ false
elsewhere n count o apart = by_test (place_number count (room_of o.pdu) == n) refl
  where
    by_test : (b : Bool) → place_number count (room_of o.pdu) == n ≡ b → b ≡ false
    by_test true is = absurd (apart (sym (eqb-true (place_number count (room_of o.pdu)) n is)))
    by_test false is = refl

pub events_at-here : (n count : ℕ) (o : Offered) (os : List Offered) → place_number count (room_of o.pdu) ≡ n
    → events_at (record { number = n; count = count }) (o ∷ os) ≡ o ∷ events_at (record { number = n; count = count }) os
events_at-here n count o os is =
    ap (λ b. cond b (o ∷ events_at (record { number = n; count = count }) os)
    (events_at (record { number = n; count = count }) os)) (here n count o is)

pub events_at-elsewhere : (n count : ℕ) (o : Offered) (os : List Offered) → n ≢ place_number count (room_of o.pdu)
    → events_at (record { number = n; count = count }) (o ∷ os) ≡ events_at (record { number = n; count = count }) os
events_at-elsewhere n count o os apart =
    ap (λ b. cond b (o ∷ events_at (record { number = n; count = count }) os)
    (events_at (record { number = n; count = count }) os)) (elsewhere n count o apart)

-- ---- what was offered in turn, at one shard

module _ (caller : ℕ) (origin : List ℕ) where
  offered_long : (o : Offered) (old new : List (BerthView Entry)) (t : Told) → IsOffered caller origin o old new t
      → length new ≡ length old
  offered_long o old new t a =
      let k = place_number (length old) (room_of o.pdu) in
      ap length a.seen ∙ length-set old k
      (after_turn (view_at old k) a.journal (entries_added a.journal caller (room_of o.pdu) (to_offer origin o)))

  pub all_long : (os : List Offered) (old new : List (BerthView Entry)) (ts : List Told)
      → AreOffered caller origin os old new ts → length new ≡ length old
  all_long [] old new [] are = ap length are
  all_long [] old new (t ∷ ts) are = absurd are
  all_long (o ∷ os) old new [] are = absurd are
  all_long (o ∷ os) old new (t ∷ ts) are = all_long os are.0 new ts are.2 ∙ offered_long o old are.0 t are.1

  offered_here : (n count : ℕ) (o : Offered) (old new : List (BerthView Entry)) (t : Told) → length old ≡ count → n < count
      → place_number count (room_of o.pdu) ≡ n → IsOffered caller origin o old new t →
      IsOfferedThere caller origin o (view_at old n) (view_at new n) t
  offered_here n count o old new t long l is a =
      let entries = entries_added a.journal caller (room_of o.pdu) (to_offer origin o) in
      let k = place_number (length old) (room_of o.pdu) in
      let there : k ≡ n = ap (λ c. place_number c (room_of o.pdu)) long ∙ is in
      record {
        journal = a.journal;
        legal = a.legal;
        later = subst (λ m. IsPrefix (view_at old m).seen a.journal) there a.later;
        outcome = a.outcome;
        seen = ap (λ vs. view_at vs n) (a.seen ∙ ap (λ m. turned old m a.journal entries) there)
            ∙ view-set_same old n (after_turn (view_at old n) a.journal entries) (subst (λ c. n < c) (sym long) l);
      }

  offered_elsewhere : (n count : ℕ) (o : Offered) (old new : List (BerthView Entry)) (t : Told) → length old ≡ count
      → n ≢ place_number count (room_of o.pdu) → IsOffered caller origin o old new t → view_at new n ≡ view_at old n
  offered_elsewhere n count o old new t long apart a =
      let k = place_number (length old) (room_of o.pdu) in
      ap (λ vs. view_at vs n) a.seen
      ∙ view-set_other old k n
      (after_turn (view_at old k) a.journal (entries_added a.journal caller (room_of o.pdu) (to_offer origin o)))
      (λ same. apart (same ∙ ap (λ c. place_number c (room_of o.pdu)) long))

  pub chain_there : (n count : ℕ) (os : List Offered) (old new : List (BerthView Entry)) (ts : List Told)
      → length old ≡ count → n < count → AreOffered caller origin os old new ts →
      (us : List Told) × AreOfferedThere caller origin (events_at (record { number = n; count = count }) os) (view_at old n)
      (view_at new n) us
  chain_there n count [] old new [] long l are = ([], ap (λ vs. view_at vs n) are)
  chain_there n count [] old new (t ∷ ts) long l are = absurd are
  chain_there n count (o ∷ os) old new [] long l are = absurd are
  chain_there n count (o ∷ os) old new (t ∷ ts) long l are =
      let rest = chain_there n count os are.0 new ts (offered_long o old are.0 t are.1 ∙ long) l are.2 in
      dite (ℕ_discrete n (place_number count (room_of o.pdu)))
      (λ same. (
        t ∷ rest.0,
        subst (λ es. AreOfferedThere caller origin es (view_at old n) (view_at new n) (t ∷ rest.0))
            (sym (events_at-here n count o os (sym same)))
            (view_at are.0 n, offered_here n count o old are.0 t long l (sym same) are.1, rest.1),
      ))
      (λ apart. (
        rest.0,
        subst (λ es. AreOfferedThere caller origin es (view_at old n) (view_at new n) rest.0)
            (sym (events_at-elsewhere n count o os apart))
            (subst (λ v. AreOfferedThere caller origin (events_at (record { number = n; count = count }) os) v
            (view_at new n) rest.0) (offered_elsewhere n count o old are.0 t long apart are.1) rest.1),
      ))

  -- ---- what was offered at each shard, in turn

  nil_same : (v w : BerthView Entry) (ts : List Told) → AreOfferedThere caller origin [] v w ts → w ≡ v
  nil_same v w [] are = are
  nil_same v w (t ∷ ts) are = absurd are

  record First (o : Offered) (os : List Offered) (v w : BerthView Entry) (q : List Told) : Type 0 where
    told : Told
    rest : List Told
    is : q ≡ told ∷ rest
    between : BerthView Entry
    one : IsOfferedThere caller origin o v between told
    others : AreOfferedThere caller origin os between w rest

  first_of : (o : Offered) (os : List Offered) (v w : BerthView Entry) (q : List Told)
      → AreOfferedThere caller origin (o ∷ os) v w q → First o os v w q
  first_of o os v w [] are = absurd are
  first_of o os v w (t ∷ ts) are = record { told = t; rest = ts; is = refl; between = are.0; one = are.1; others = are.2 }

  pub offered_merged : (count : ℕ) (os : List Offered) (old new : List (BerthView Entry)) (told : List (List Told))
      → 0 < count → length old ≡ count → length new ≡ count → length told ≡ count →
      ((n : ℕ) → n < count → AreOfferedThere caller origin (events_at (record { number = n; count = count }) os)
      (view_at old n) (view_at new n) (get_or told n [])) →
      AreOffered caller origin os old new (merged count os told)
  offered_merged count [] old new told some long long' wide each =
      ext_get_or no_berth new old (long' ∙ sym long)
      (λ n l. nil_same (view_at old n) (view_at new n) (get_or told n []) (each n (subst (λ c. n < c) long' l)))
  offered_merged count (o ∷ os) old new told some long long' wide each =
      let k = place_number count (room_of o.pdu) in
      let l : k < count = mod_below (sum (room_of o.pdu)) count some in
      let f = first_of o (events_at (record { number = k; count = count }) os) (view_at old k) (view_at new k)
      (get_or told k [])
      (subst (λ es. AreOfferedThere caller origin es (view_at old k) (view_at new k) (get_or told k []))
      (events_at-here k count o os refl) (each k l)) in
      let between = set old k f.between in
      let entries = entries_added f.one.journal caller (room_of o.pdu) (to_offer origin o) in
      let there : place_number (length old) (room_of o.pdu) ≡ k = ap (λ c. place_number c (room_of o.pdu)) long in
      let one : IsOffered caller origin o old between f.told = record {
        journal = f.one.journal;
        legal = f.one.legal;
        later = subst (λ m. IsPrefix (view_at old m).seen f.one.journal) (sym there) f.one.later;
        outcome = f.one.outcome;
        seen = ap (set old k) f.one.seen ∙ ap (λ m. turned old m f.one.journal entries) (sym there);
      } in
      let rest = offered_merged count os between new (set told k f.rest) some (length-set old k f.between ∙ long) long'
      (length-set told k f.rest ∙ wide)
      (λ n m. dite (ℕ_discrete n k)
      (λ same. subst (λ j. AreOfferedThere caller origin (events_at (record { number = j; count = count }) os)
      (view_at between j) (view_at new j) (get_or (set told k f.rest) j [])) (sym same)
      (subst (λ v. AreOfferedThere caller origin (events_at (record { number = k; count = count }) os) v (view_at new k)
      (get_or (set told k f.rest) k [])) (sym (view-set_same old k f.between (subst (λ c. k < c) (sym long) l)))
      (subst (λ ts. AreOfferedThere caller origin (events_at (record { number = k; count = count }) os) f.between
      (view_at new k) ts) (sym (get_or-set_same told k f.rest [] (subst (λ c. k < c) (sym wide) l))) f.others)))
      (λ apart. subst (λ v. AreOfferedThere caller origin (events_at (record { number = n; count = count }) os) v
      (view_at new n) (get_or (set told k f.rest) n [])) (sym (view-set_other old k n f.between apart))
      (subst (λ ts. AreOfferedThere caller origin (events_at (record { number = n; count = count }) os) (view_at old n)
      (view_at new n) ts) (sym (get_or-set_other told k n f.rest [] apart))
      (subst (λ es. AreOfferedThere caller origin es (view_at old n) (view_at new n) (get_or told n []))
      (events_at-elsewhere n count o os apart) (each n m))))) in
      subst (λ q. AreOffered caller origin (o ∷ os) old new (take 1 q ++ merged count os (set told k (drop 1 q)))) (sym f.is)
      (between, one, rest)

  -- ---- at one shard, one event after the other

  pub there-append : (os qs : List Offered) (old between new : BerthView Entry) (ts us : List Told)
      → AreOfferedThere caller origin os old between ts → AreOfferedThere caller origin qs between new us
      → AreOfferedThere caller origin (os ++ qs) old new (ts ++ us)
  there-append [] qs old between new [] us are later = subst (λ v. AreOfferedThere caller origin qs v new us) are later
  there-append [] qs old between new (t ∷ ts) us are later = absurd are
  there-append (o ∷ os) qs old between new [] us are later = absurd are
  there-append (o ∷ os) qs old between new (t ∷ ts) us are later =
      (are.0, are.1, there-append os qs are.0 between new ts us are.2 later)
