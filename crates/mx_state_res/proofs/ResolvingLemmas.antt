-- Resolutions that are made of states by changes.
use Rattle.std.proofs.Common.{◌≡◌, ℕ, ◌<◌, false, cond, ◌||◌, inl, inr, List, [], ◌∷◌, filter, map, Option, Some, None, is_some, is_none, refl, sym, ap, ap₂, subst, ◌∙◌, arith}
use Rattle.std.specs.List.{All}
use Rattle.std.specs.Option.{option_or}
use Rattle.mx_pdu.specs.StateKeys.{Key}
use Rattle.mx_auth.specs.declared.versions.RoomVersion.{RoomVersion}
use Rattle.mx_graph.specs.Record.{Row, is_in, events_where}
use Rattle.mx_graph.proofs.Members.{In, in_filter-parts}
use Rattle.mx_graph.specs.StateMap.{State, entry}
use Rattle.mx_orders.proofs.Members.{in_map}
use Rattle.mx_states.specs.Numbered.{IsDiffering, edited, restored, without}
use Rattle.mx_state_res.specs.Numbered.{checked}
use Rattle.mx_orders.specs.PowerOrder.{power_order}
use Rattle.mx_orders.specs.Mainline.{mainline_order}
use Rattle.mx_states.specs.Entries.{overwritten}
use Rattle.mx_state_res.specs.Resolution.{conflicted, auth_difference, full_conflicted, power_events, resolve, unconflicted}
use Rattle.mx_states.proofs.KeyLemmas.{Sorted, sorted-filter}
use Rattle.mx_state_res.proofs.SetLemmas.{all-at, all-of}
use Rattle.mx_states.proofs.EntryLemmas.{entry-edited, entry-overwritten, entry-where, entry-without, same-states, sorted-edited, sorted-overwritten, sorted-without}
use Rattle.mx_state_res.proofs.EqualStateLemmas.{no_events, resolve-same}
use Rattle.mx_state_res.proofs.OrderLemmas.{filter-all, overwritten-known, resolve-is}
use Rattle.mx_state_res.proofs.NumberedConflictLemmas.{alike, at-sorted, unconflicted-is}

filter-everything : (s : State) → filter (λ e. is_none (entry [] e.0)) s ≡ s
filter-everything [] = refl
filter-everything (e ∷ s) = ap (λ t. e ∷ t) (filter-everything s)

pub change-none : (keys s puts : State) → keys ≡ [] → puts ≡ [] → edited keys s puts ≡ s
change-none keys s puts k p = ap₂ (λ a b. edited a s b) k p ∙ filter-everything s

-- ---- the unconflicted state put over

restored-is : (d x o : Option ℕ) → option_or (cond (is_none d) x None) (option_or o (cond (is_none d) x None)) ≡ option_or (cond (is_some d || is_none x) o None) (cond (is_none d) x None)
restored-is None None o = refl
restored-is None (Some q) o = refl
restored-is (Some c) x o = refl

pub restored-edit : (keys s puts : State) → Sorted s → Sorted puts → overwritten (edited keys s puts) (without keys s) ≡ edited keys s (restored keys s puts)
restored-edit keys s puts g h =
    same-states (overwritten (edited keys s puts) (without keys s)) (edited keys s (restored keys s puts))
    (sorted-overwritten (without keys s) (edited keys s puts) (sorted-edited keys s puts g)) (sorted-edited keys s (restored keys s puts) g)
    (λ k.
    entry-overwritten (without keys s) (edited keys s puts) k (sorted-without keys s g)
    ∙ ap₂ option_or (entry-without keys s k) (entry-edited keys s puts k h)
    ∙ restored-is (entry keys k) (entry s k) (entry puts k)
    ∙ ap (λ o. option_or o (cond (is_none (entry keys k)) (entry s k) None)) (sym (entry-where (λ q. is_some (entry keys q) || is_none (entry s q)) k puts))
    ∙ sym (entry-edited keys s (restored keys s puts) k (sorted-filter (λ e. is_some (entry keys e.0) || is_none (entry s e.0)) puts h)))

module _ (keys s : State) (ss : List State) (ordered : Sorted keys) (sorted : (t : State) → In t (s ∷ ss) → Sorted t) (differing : IsDiffering keys (s ∷ ss)) where
  -- what is put over the first state, without the keys in conflict, makes the resolution
  pub resolved-by : (v : RoomVersion) (rows : List Row) (full : List ℕ) (puts : State) → Sorted puts → full ≡ full_conflicted rows (s ∷ ss) → edited keys s puts ≡ checked v rows (without keys s) full → edited keys s (restored keys s puts) ≡ resolve v rows (s ∷ ss)
  resolved-by v rows full puts h f c =
      sym (restored-edit keys s puts (sorted s (inl refl)) h)
      ∙ resolve-is v rows (s ∷ ss) (without keys s) full (edited keys s puts) (overwritten (edited keys s puts) (without keys s)) (unconflicted-is keys s ss ordered sorted differing) f c refl

  -- without those keys the states are alike
  pub alike-without : (t : State) → In t (s ∷ ss) → without keys t ≡ without keys s
  alike-without t m =
      same-states (without keys t) (without keys s) (sorted-without keys t (sorted t m)) (sorted-without keys s (sorted s (inl refl)))
      (λ k. entry-without keys t k ∙ by k (entry keys k) refl ∙ sym (entry-without keys s k))
    where
      by : (k : Key) (o : Option ℕ) → entry keys k ≡ o → cond (is_none (entry keys k)) (entry t k) None ≡ cond (is_none (entry keys k)) (entry s k) None
      by k None e = ap (λ o. cond (is_none (entry keys k)) o None) (alike keys s ss ordered sorted differing k e t m)
      by k (Some x) e = ap (λ o. cond (is_none o) (entry t k) None) e ∙ ap (λ o. cond (is_none o) (entry s k) None) (sym e)

  -- without such keys they are all the same
  pub nothing-differs : (v : RoomVersion) (rows : List Row) → keys ≡ [] → s ≡ resolve v rows (s ∷ ss)
  nothing-differs v rows e =
      sym (resolve-same v rows s (sorted s (inl refl)) ss
      (all-of (λ t. t ≡ s) ss
      (λ t m. same-states t s (sorted t (inr m)) (sorted s (inl refl)) (λ k. alike keys s ss ordered sorted differing k (ap (λ u. entry u k) e) t (inr m)))))

-- ---- by numbers

module _ (at : ℕ → State) (keys : State) (base : ℕ) (others numbers : List ℕ) (first_is : numbers ≡ base ∷ others) (ordered : Sorted keys) (sorted : All (λ n. Sorted (at n)) numbers) (differing : IsDiffering keys (map at numbers)) where
  sorted-all : (t : State) → In t (at base ∷ map at others) → Sorted t
  sorted-all = at-sorted at (base ∷ others) (subst (All (λ n. Sorted (at n))) first_is sorted)

  differing-all : IsDiffering keys (at base ∷ map at others)
  differing-all = subst (λ ns. IsDiffering keys (map at ns)) first_is differing

  pub resolved-at : (v : RoomVersion) (rows : List Row) (full : List ℕ) (puts : State) → Sorted puts → full ≡ full_conflicted rows (map at numbers) → edited keys (at base) puts ≡ checked v rows (without keys (at base)) full → edited keys (at base) (restored keys (at base) puts) ≡ resolve v rows (map at numbers)
  resolved-at v rows full puts h f c =
      resolved-by keys (at base) (map at others) ordered sorted-all differing-all v rows full puts h (f ∙ ap (λ ns. full_conflicted rows (map at ns)) first_is) c
      ∙ ap (λ ns. resolve v rows (map at ns)) (sym first_is)

  pub alike-at : All (λ n. without keys (at n) ≡ without keys (at base)) numbers
  alike-at =
      subst (All (λ n. without keys (at n) ≡ without keys (at base))) (sym first_is)
      (all-of (λ n. without keys (at n) ≡ without keys (at base)) (base ∷ others) (λ n m. alike-without keys (at base) (map at others) ordered sorted-all differing-all (at n) (in_map at n (base ∷ others) m)))

  pub nothing-at : (v : RoomVersion) (rows : List Row) → keys ≡ [] → at base ≡ resolve v rows (map at numbers)
  nothing-at v rows e = nothing-differs keys (at base) (map at others) ordered sorted-all differing-all v rows e ∙ ap (λ ns. resolve v rows (map at ns)) (sym first_is)

-- ---- events of the record

pub restored-known : (n : ℕ) (keys s puts : State) → Sorted s → Sorted puts → All (λ e. e.1 < n) s → All (λ e. e.1 < n) (edited keys s puts) → All (λ e. e.1 < n) (edited keys s (restored keys s puts))
restored-known n keys s puts g h k l =
    subst (All (λ e. e.1 < n)) (restored-edit keys s puts g h)
    (overwritten-known n (edited keys s puts) (without keys s) l (λ e m. all-at (λ e. e.1 < n) s k e (in_filter-parts (λ (e : Key × ℕ). is_none (entry keys e.0)) e s m).0))

pub without-known : (n : ℕ) (keys s : State) → All (λ e. e.1 < n) s → All (λ e. e.1 < n) (without keys s)
without-known n keys s h = filter-all (λ e. e.1 < n) (λ e. is_none (entry keys e.0)) s h

-- ---- of no state

full-none : (rows : List Row) → full_conflicted rows [] ≡ []
unfolding full_conflicted conflicted auth_difference
full-none rows =
    ap₂ (λ xs ys. events_where rows (λ p. is_in xs p || is_in ys p)) (no_events rows (is_in []) (λ p. refl)) (no_events rows (λ p. false) (λ p. refl))
    ∙ no_events rows (λ p. is_in [] p || is_in [] p) (λ p. refl)

pub resolve-none : (v : RoomVersion) (rows : List Row) → resolve v rows [] ≡ []
unfolding resolve power_events power_order mainline_order unconflicted
resolve-none v rows = ap (λ full. overwritten (checked v rows [] full) []) (full-none rows)
