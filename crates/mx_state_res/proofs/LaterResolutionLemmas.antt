-- The resolution with one state more, from the one before.
use Rattle.std.proofs.Common.{◌≡◌, ℕ, zero, suc, ◌==◌, ◌<◌, Bool, true, false, cond, not, ◌||◌, ◌⊎◌, inl, inr, List, [], ◌∷◌, ◌++◌, filter, flat_map, length, Option, Some, None, refl, sym, ap, ap₂, subst, ◌∙◌, eqb-true}
use Rattle.std.specs.Prelude.{IfSome, option_map, unwrap_or, if◌then◌else◌}
use Rattle.std.specs.Option.{option_or}
use Rattle.std.specs.Ordering.{is_eq}
use Rattle.std.specs.FinMap.Entries.{put}
use Rattle.std.proofs.lemmas.List.Sums.{fold-append}
use Rattle.mx_pdu.specs.StateKeys.{Key}
use Rattle.mx_auth.specs.Rules.{key_of}
use Rattle.mx_auth.specs.declared.versions.RoomVersion.{RoomVersion}
use Rattle.mx_graph.specs.Record.{Row, event, is_in, events_where}
use Rattle.mx_graph.specs.Graph.{IsSound, auth_chain, reached_within}
use Rattle.mx_graph.proofs.Members.{In, in_filter}
use Rattle.mx_graph.proofs.Closure.{or_cases, or_left, is_in-from, is_in-to}
use Rattle.mx_graph.specs.StateMap.{State, key_cmp, entry}
use Rattle.mx_orders.specs.StateMap.{with_event}
use Rattle.mx_orders.specs.PowerOrder.{power_order}
use Rattle.mx_orders.specs.Mainline.{power_key, mainline, mainline_cmp, mainline_order, put_in_order}
use Rattle.mx_state_res.specs.ChainDifference.{cites}
use Rattle.mx_state_res.specs.Numbered.{checked}
use Rattle.mx_state_res.specs.Resolution.{unconflicted, full_conflicted, is_power_event, power_events, after_check, iterative_auth_checks, resolve}
use Rattle.mx_states.specs.Entries.{overwritten}
use Rattle.mx_state_res.specs.LaterResolution.{agreed_line, checking_order, is_put, stays, resolution_with, IsOneMore, ResolvesFromTheOneBefore}
use Rattle.mx_states.proofs.KeyLemmas.{Sorted}
use Rattle.mx_state_res.proofs.SetLemmas.{all-at}
use Rattle.mx_states.proofs.EntryLemmas.{entry-put, entry-overwritten, equal-keys, same-states, sorted-overwritten}
use Rattle.mx_state_res.proofs.EqualStateLemmas.{no_events}
use Rattle.mx_state_res.proofs.ConflictLemmas.{full-known}
use Rattle.mx_state_res.proofs.SameMembersLemmas.{sorted-unconflicted}
use Rattle.mx_state_res.proofs.LaterStateLemmas.{sorted-put, unconflicted-later, unconflicted-none, full-later}
use Rattle.mx_state_res.proofs.LaterOrderLemmas.{distinct-full, order-later}
use Rattle.mx_state_res.proofs.LaterCheckLemmas.{IsEnd, ends, sorted-checks}

-- ---- where there are no power events

filter-true : (xs : List ℕ) → filter (λ p. true) xs ≡ xs
filter-true [] = refl
filter-true (x ∷ xs) = ap (λ ys. x ∷ ys) (filter-true xs)

filter-nothing : (test : ℕ → Bool) (xs : List ℕ) → ((p : ℕ) → In p xs → test p ≡ false) → filter test xs ≡ []
filter-nothing test [] h = refl
filter-nothing test (x ∷ xs) h = ap (λ b. cond b (x ∷ filter test xs) (filter test xs)) (h x (inl refl)) ∙ filter-nothing test xs (λ p m. h p (inr m))

reached-nothing : (rows : List Row) (n : ℕ) → reached_within rows (cites rows) [] n ≡ []
reached-nothing rows zero = refl
reached-nothing rows (suc n) = ap (λ xs. events_where rows (is_in (flat_map (cites rows) xs))) (reached-nothing rows n) ∙ no_events rows (is_in []) (λ p. refl)

no-chain : (rows : List Row) → auth_chain rows [] ≡ []
unfolding auth_chain
no-chain rows = reached-nothing rows (length rows)

-- none is left where none of the events is one
powers-none : (rows : List Row) (full : List ℕ) → ((p : ℕ) → In p full → is_power_event (event rows p) ≡ false) → power_events rows full ≡ []
unfolding power_events
powers-none rows full h =
    ap (λ power. filter (λ p. is_in power p || is_in (auth_chain rows power) p) full) (filter-nothing (λ p. is_power_event (event rows p)) full h)
    ∙ ap (λ chain. filter (λ p. is_in [] p || is_in chain p) full) (no-chain rows) ∙ filter-nothing (λ p. is_in [] p || is_in [] p) full (λ p m. refl)

no-power : (rows : List Row) (full : List ℕ) → power_events rows full ≡ [] → (p : ℕ) → In p full → is_power_event (event rows p) ≡ false
unfolding power_events
no-power rows full none p m = by (is_power_event (event rows p)) refl
  where
    power : List ℕ
    power = filter (λ p. is_power_event (event rows p)) full

    by : (b : Bool) → is_power_event (event rows p) ≡ b → is_power_event (event rows p) ≡ false
    by false e = e
    by true e =
        absurd (subst (λ ps. In p ps) none
        (in_filter (λ p. is_in power p || is_in (auth_chain rows power) p) p full m
        (or_left (is_in power p) _ (is_in-from p power (in_filter (λ p. is_power_event (event rows p)) p full m e)))))

no-order : (rows : List Row) → power_order rows [] ≡ []
unfolding power_order
no-order rows = refl

abbrev plainly : RoomVersion → List Row → List State → List ℕ → State
plainly v rows states full =
    overwritten (iterative_auth_checks v rows (unconflicted states) (mainline_order rows (agreed_line rows states) full)) (unconflicted states)

checked-plainly : (v : RoomVersion) (rows : List Row) (s : State) (full : List ℕ) → power_events rows full ≡ [] → checked v rows s full ≡ iterative_auth_checks v rows s (mainline_order rows (mainline rows (entry s power_key)) full)
checked-plainly v rows s full none =
    ap (λ power. by power (power_order rows power)) none
    ∙ ap (λ order. by [] order) (no-order rows)
    ∙ ap (λ others. iterative_auth_checks v rows s (mainline_order rows (mainline rows (entry s power_key)) others)) (filter-true full)
  where
    by : List ℕ → List ℕ → State
    by power order =
        let others = filter (λ p. not (is_in power p)) full in
        let partial = iterative_auth_checks v rows s order in
        iterative_auth_checks v rows partial (mainline_order rows (mainline rows (entry partial power_key)) others)

pub resolve-plainly : (v : RoomVersion) (rows : List Row) (states : List State) → power_events rows (full_conflicted rows states) ≡ [] → resolve v rows states ≡ plainly v rows states (full_conflicted rows states)
unfolding resolve
resolve-plainly v rows states none = ap (λ s. overwritten s (unconflicted states)) (checked-plainly v rows (unconflicted states) (full_conflicted rows states) none)

-- ---- put over

overwritten-put : (k : Key) (x : ℕ) (s u : State) → Sorted s → Sorted u → entry u k ≡ None → overwritten (put key_cmp k x s) u ≡ put key_cmp k x (overwritten s u)
overwritten-put k x s u g h none =
    same-states (overwritten (put key_cmp k x s) u) (put key_cmp k x (overwritten s u)) (sorted-overwritten u (put key_cmp k x s) (sorted-put k x s g))
    (sorted-put k x (overwritten s u) (sorted-overwritten u s g))
    (λ q. entry-overwritten u (put key_cmp k x s) q h ∙ ap (option_or (entry u q)) (entry-put q k x s) ∙ by q (is_eq (key_cmp q k)) refl
    ∙ ap (cond (is_eq (key_cmp q k)) (Some x)) (sym (entry-overwritten u s q h)) ∙ sym (entry-put q k x (overwritten s u)))
  where
    by : (q : Key) (b : Bool) → is_eq (key_cmp q k) ≡ b → option_or (entry u q) (cond b (Some x) (entry s q)) ≡ cond b (Some x) (option_or (entry u q) (entry s q))
    by q true c = ap (λ o. option_or o (Some x)) (ap (entry u) (equal-keys q k c) ∙ none)
    by q false c = refl

-- ---- the checks with the event among them

module _ (v : RoomVersion) (rows : List Row) (k : Key) (x : ℕ) (at_key : key_of (event rows x) ≡ Some k) where
  abbrev told : State → State → List ℕ → Bool → Option Bool
  told s resolved after b = if b then stays v rows k x s after else Some false

  put-here : (s : State) → with_event s (event rows x) x ≡ put key_cmp k x s
  put-here s = ap (λ o. unwrap_or (option_map (λ key. put key_cmp key x s) o) s) at_key

  checks-with : (agreed : State) (before after : List ℕ) → Sorted agreed
      → IsEnd k x (if is_put v rows (iterative_auth_checks v rows agreed before) x then stays v rows k x (iterative_auth_checks v rows agreed before) after else Some false)
      (iterative_auth_checks v rows agreed (before ++ (x ∷ after))) (iterative_auth_checks v rows agreed (before ++ after))
  unfolding after_check
  checks-with agreed before after h =
      subst (λ t. IsEnd k x (if is_put v rows s x then stays v rows k x s after else Some false) t (iterative_auth_checks v rows agreed (before ++ after))) (sym (fold-append (after_check v rows) agreed before (x ∷ after)))
      (subst (λ t. IsEnd k x (if is_put v rows s x then stays v rows k x s after else Some false) (iterative_auth_checks v rows s (x ∷ after)) t) (sym (fold-append (after_check v rows) agreed before after))
      (by (is_put v rows s x)))
    where
      s : State
      s = iterative_auth_checks v rows agreed before

      by : (b : Bool) → IsEnd k x (if b then stays v rows k x s after else Some false) (iterative_auth_checks v rows (if b then with_event s (event rows x) x else s) after) (iterative_auth_checks v rows s after)
      by true = subst (λ t. IsEnd k x (stays v rows k x s after) (iterative_auth_checks v rows t after) (iterative_auth_checks v rows s after)) (sym (put-here s)) (ends v rows k x after s (sorted-checks v rows before agreed h))
      by false = refl

-- ---- the law

module _ (rows : List Row) (sound : IsSound rows) (v : RoomVersion) (states : List State) (before_it later : State) (key : Key) (x : ℕ) (one : IsOneMore rows states before_it later key x) where
  abbrev more : List State
  more = later ∷ states

  agreed-same : unconflicted more ≡ unconflicted states
  agreed-same = unconflicted-later states one.sorted before_it one.member later one.sorted_later key x one.there one.open_at (full_conflicted rows states) one.elsewhere

  full-is : (p : ℕ) → is_in (full_conflicted rows more) p ≡ (is_in (full_conflicted rows states) p || (x == p))
  full-is p = full-later states one.sorted before_it one.member later one.sorted_later key x one.there one.open_at (full_conflicted rows states) one.elsewhere rows sound refl one.cited one.cited_before one.known p

  pub order-is : checking_order rows more ≡ put_in_order (mainline_cmp rows (agreed_line rows states)) x (checking_order rows states)
  order-is =
      ap (λ u. mainline_order rows (mainline rows (entry u power_key)) (full_conflicted rows more)) agreed-same
      ∙ order-later rows sound (agreed_line rows states) (full_conflicted rows states) (full_conflicted rows more) x
      (λ p m. all-at (λ p. p < length rows) (full_conflicted rows more) (full-known rows more) p m) (distinct-full rows states) (distinct-full rows more) one.new full-is

  pub no-powers : power_events rows (full_conflicted rows more) ≡ []
  no-powers = powers-none rows (full_conflicted rows more) (λ p m. by p (or_cases (is_in (full_conflicted rows states) p) (x == p) (sym (full-is p) ∙ is_in-from p (full_conflicted rows more) m)))
    where
      by : (p : ℕ) → (is_in (full_conflicted rows states) p ≡ true) ⊎ ((x == p) ≡ true) → is_power_event (event rows p) ≡ false
      by p (inl e) = no-power rows (full_conflicted rows states) one.no_powers p (is_in-to p (full_conflicted rows states) e)
      by p (inr e) = subst (λ q. is_power_event (event rows q) ≡ false) (eqb-true x p e) one.no_power

  module _ (before after : List ℕ) (order : checking_order rows states ≡ before ++ after) (placed : put_in_order (mainline_cmp rows (agreed_line rows states)) x (before ++ after) ≡ before ++ (x ∷ after)) where
    abbrev agreed : State
    agreed = unconflicted states

    sorted-agreed : Sorted agreed
    sorted-agreed = sorted-unconflicted states one.sorted

    resolved-later : resolve v rows more ≡ overwritten (iterative_auth_checks v rows agreed (before ++ (x ∷ after))) agreed
    resolved-later =
        resolve-plainly v rows more no-powers
        ∙ ap₂ (λ u ps. overwritten (iterative_auth_checks v rows u ps) u) agreed-same (order-is ∙ ap (put_in_order (mainline_cmp rows (agreed_line rows states)) x) order ∙ placed)

    resolved-before : resolve v rows states ≡ overwritten (iterative_auth_checks v rows agreed (before ++ after)) agreed
    resolved-before = resolve-plainly v rows states one.no_powers ∙ ap (λ ps. overwritten (iterative_auth_checks v rows agreed ps) agreed) order

    abbrev reached : State
    reached = iterative_auth_checks v rows agreed before

    from-end : (o : Option Bool) → IsEnd key x o (iterative_auth_checks v rows agreed (before ++ (x ∷ after))) (iterative_auth_checks v rows agreed (before ++ after))
        → IfSome (option_map (λ here. if here then put key_cmp key x (resolve v rows states) else resolve v rows states) o) (λ resolved. resolve v rows more ≡ resolved)
    from-end None e = tt
    from-end (Some true) e =
        resolved-later ∙ ap (λ s. overwritten s agreed) e
        ∙ overwritten-put key x (iterative_auth_checks v rows agreed (before ++ after)) agreed (sorted-checks v rows (before ++ after) agreed sorted-agreed) sorted-agreed
        (unconflicted-none states one.sorted before_it one.member later one.sorted_later key x one.there one.open_at (full_conflicted rows states) one.elsewhere)
        ∙ ap (put key_cmp key x) (sym resolved-before)
    from-end (Some false) e = resolved-later ∙ ap (λ s. overwritten s agreed) e ∙ sym resolved-before

    pub from-one-before : IfSome (resolution_with v rows states key x before after) (λ resolved. resolve v rows more ≡ resolved)
    from-one-before = by (is_put v rows reached x) (checks-with v rows key x one.at_key agreed before after sorted-agreed)
      where
        by : (b : Bool) → IsEnd key x (if b then stays v rows key x reached after else Some false) (iterative_auth_checks v rows agreed (before ++ (x ∷ after))) (iterative_auth_checks v rows agreed (before ++ after))
            → IfSome (if b then option_map (λ here. if here then put key_cmp key x (resolve v rows states) else resolve v rows states) (stays v rows key x reached after) else Some (resolve v rows states))
            (λ resolved. resolve v rows more ≡ resolved)
        by true e = from-end (stays v rows key x reached after) e
        by false e = from-end (Some false) e

pub resolves-from-the-one-before : (rows : List Row) → IsSound rows → ResolvesFromTheOneBefore rows
resolves-from-the-one-before rows sound v states before later key x one front back order placed = from-one-before rows sound v states before later key x one front back order placed
