-- What is kept of a resolution, as its room grows.
use Rattle.std.proofs.Common.{◌≡◌, ◌+◌, ◌<◌, ◌&&◌, ℕ, true, List, [], ◌∷◌, ◌++◌, map, length, take, drop, slice_index_or, refl, sym, ap, ap₂, subst, ◌∙◌, arith, ◌||◌}
use Rattle.std.specs.Prelude.{IfSome, None, Option, Some, get_or, is_none, is_some}
use Rattle.std.specs.List.{All}
use Rattle.std.specs.FinMap.Entries.{put}
use Rattle.std.proofs.lemmas.List.{get_or_append_left, length-append, map-append}
use Rattle.std.proofs.lemmas.List.Elements.{All-append, All-cons, All-get_or, All-map, All-nil, All-tail}
use Rattle.mx_redact.specs.Fields.{is_some_and}
use Rattle.mx_pdu.specs.Event.{is_state}
use Rattle.mx_pdu.specs.StateKeys.{Key}
use Rattle.mx_auth.specs.Rules.{key_of, rules}
use Rattle.mx_auth.specs.declared.versions.RoomVersion.{RoomVersion}
use Rattle.mx_graph.specs.Record.{Row, event}
use Rattle.mx_graph.specs.Graph.{IsSound}
use Rattle.mx_graph.proofs.LongerRecordLemmas.{IsLonger, event-longer}
use Rattle.mx_graph.specs.StateMap.{State, entry, key_cmp}
use Rattle.mx_orders.specs.Mainline.{mainline_cmp, mainline_order, power_key, put_in_order}
use Rattle.mx_orders.proofs.LongerRecordLemmas.{mainline-longer, mainline_order-longer}
use Rattle.mx_state_res.specs.Numbered.{AreKnown}
use Rattle.mx_states.specs.Numbered.{state_at}
use Rattle.mx_state_res.specs.Resolution.{after_check, full_conflicted, is_allowed, iterative_auth_checks, power_events, resolve, unconflicted}
use Rattle.mx_states.specs.Entries.{has_entry}
use Rattle.mx_state_res.specs.LaterResolution.{IsOneMore, agreed_line, checking_order, is_put}
use Rattle.mx_state_res.specs.KeptResolutions.{AreChecked, DifferAtKeys, IsKept, IsOutcome, events_checked, first_of, is_put_by, made_by, states_of}
use Rattle.mx_state_res.specs.declared.kept_resolutions.KeptResolution.{KeptResolution}
use Rattle.mx_state_res.specs.declared.kept_resolutions.checked_events.CheckedEvent.{CheckedEvent}
use Rattle.mx_state_res.specs.declared.kept_resolutions.outcomes.Outcome.{Outcome}
use Rattle.mx_states.proofs.KnownLemmas.{find-known}
use Rattle.mx_state_res.proofs.LongerRecordLemmas.{IsKnown, after_check-known, after_check-longer, full-events, full-longer, judged_in-longer, power_events-longer, resolve-in_longer, unconflicted-known}
use Rattle.mx_state_res.proofs.OneMoreLemmas.{checked-more, differ-more, resolved-more}
use Rattle.mx_state_res.proofs.TouchedLemmas.{keys-longer, keys-more}
use Rattle.mx_state_res.specs.TouchedKeys.{HasKeysOf}

-- ---- states that were added

pub grown-at : (old more new : List State) (n : ℕ) → new ≡ old ++ more → n < length old → state_at new n ≡ state_at old n
grown-at old more new n are l = ap (λ ss. state_at ss n) are ∙ get_or_append_left old more [] n l

grown-below : (old more new : List State) (n : ℕ) → new ≡ old ++ more → n < length old → n < length new
grown-below old more new n are l =
    let e : length new ≡ length (old ++ more) = ap length are in
    let f : length (old ++ more) ≡ length old + length more = length-append old more in omega arith

pub grown-states : (old more new : List State) → new ≡ old ++ more → (ns : List ℕ) → All (λ n. n < length old) ns → map (state_at new) ns ≡ map (state_at old) ns
grown-states old more new are [] h = refl
grown-states old more new are (n ∷ ns) h = λ i. grown-at old more new n are (h 0 n (omega arith)) i ∷ grown-states old more new are ns (All-tail (λ m. m < length old) n ns h) i

all-grown : (old more new : List State) → new ≡ old ++ more → (ns : List ℕ) → All (λ n. n < length old) ns → All (λ n. n < length new) ns
all-grown old more new are ns h = λ k d l. grown-below old more new (get_or ns k d) are (h k d l)

first-at : (old more new : List State) (kept : KeptResolution) → new ≡ old ++ more → All (λ n. n < length old) kept.numbers.items → 0 < length kept.numbers.items → first_of new kept ≡ first_of old kept
first-at old more new kept are h some = grown-at old more new (slice_index_or kept.numbers.items 0 0) are (h 0 0 some)

pub each-known : (rows : List Row) (states : List State) (ns : List ℕ) → AreKnown rows states → All (λ n. n < length states) ns → AreKnown rows (map (state_at states) ns)
each-known rows states ns known h =
    All-map (λ t. All (λ e. e.1 < length rows) t) (state_at states) ns (λ k d m. All-get_or (λ t. All (λ e. e.1 < length rows) t) states (get_or ns k d) [] (h k d m) known)

-- states that were added change nothing of it
pub kept-grown : (v : RoomVersion) (rows : List Row) (old more new : List State) (kept : KeptResolution) → new ≡ old ++ more → IsKept v rows old kept → IsKept v rows new kept
kept-grown v rows old more new kept are h =
    let ss : states_of old kept ≡ states_of new kept = sym (grown-states old more new are kept.numbers.items h.numbers) in
    let base : first_of old kept ≡ first_of new kept = sym (first-at old more new kept are h.numbers h.some) in
    record {
      numbers = all-grown old more new are kept.numbers.items h.numbers;
      some = h.some;
      known = subst (AreKnown rows) ss h.known;
      at_keys = subst (λ ts. DifferAtKeys rows ts (first_of new kept) kept) ss (subst (λ b. DifferAtKeys rows (states_of old kept) b kept) base h.at_keys);
      checked = subst (λ ts. AreChecked v rows (unconflicted ts) kept.order.items) ss h.checked;
      touched = h.touched;
      below = grown-below old more new kept.resolved are h.below;
      resolved = grown-at old more new kept.resolved are h.below ∙ h.resolved ∙ ap (resolve v rows) ss;
    }

pub option-grown : (v : RoomVersion) (rows : List Row) (old more new : List State) → new ≡ old ++ more → (o : Option KeptResolution) → IfSome o (IsKept v rows old) → IfSome o (IsKept v rows new)
option-grown v rows old more new are None h = tt
option-grown v rows old more new are (Some kept) h = kept-grown v rows old more new kept are h

-- ---- one state more

pub kept-one-more : (v : RoomVersion) (rows : List Row) → IsSound rows → (old more new : List State) (kept next : KeptResolution) (h : IsKept v rows old kept) (newest : ℕ) (key : Key) (x : ℕ) (s : State) → AreKnown rows old → newest < length old
    → IsOneMore rows (states_of old kept) s (state_at old newest) key x → (place : ℕ)
    → put_in_order (mainline_cmp rows (agreed_line rows (states_of old kept))) x (events_checked kept.order.items) ≡ take place (events_checked kept.order.items) ++ (x ∷ drop place (events_checked kept.order.items))
    → (o : Outcome) → IsOutcome v rows key x (iterative_auth_checks v rows (unconflicted (states_of old kept)) (take place (events_checked kept.order.items))) (drop place (events_checked kept.order.items)) o
    → (c : CheckedEvent) → c.event ≡ x → c.is_put ≡ is_put_by o → next.numbers.items ≡ kept.numbers.items ++ newest ∷ [] → next.differing ≡ put key_cmp key x kept.differing → next.are_settled ≡ kept.are_settled → next.order.items ≡ take place kept.order.items ++ c ∷ drop place kept.order.items
    → ((d : CheckedEvent) → HasKeysOf v rows kept.touched d → HasKeysOf v rows next.touched d) → HasKeysOf v rows next.touched c
    → new ≡ old ++ more → next.resolved < length new → state_at new next.resolved ≡ made_by o key x (state_at old kept.resolved)
    → IsKept v rows new next
kept-one-more v rows sound old more new kept next h newest key x s known below one place placed o outcome c event flag numbers same settled items stay keys are l resolved =
    record {
      numbers = subst (All (λ n. n < length new)) (sym numbers) (all-grown old more new are (kept.numbers.items ++ newest ∷ []) all_below);
      some = (let e : length next.numbers.items ≡ length (kept.numbers.items ++ newest ∷ []) = ap length numbers in let f : length (kept.numbers.items ++ newest ∷ []) ≡ length kept.numbers.items + 1 = length-append kept.numbers.items (newest ∷ []) in omega arith);
      known = subst (AreKnown rows) (sym together) (each-known rows old (kept.numbers.items ++ newest ∷ []) known all_below);
      at_keys = subst (λ ts. DifferAtKeys rows ts (first_of new next) next) (sym ss) (subst (λ b. DifferAtKeys rows (states_of old kept ++ state_at old newest ∷ []) b next) (sym base)
          (differ-more rows sound v (states_of old kept) (first_of old kept) kept h.at_keys h.checked s (state_at old newest) key x one place placed o outcome c event flag next same settled items));
      checked = subst (λ ts. AreChecked v rows (unconflicted ts) next.order.items) (sym ss) (subst (AreChecked v rows (unconflicted (states_of old kept ++ state_at old newest ∷ []))) (sym items)
          (checked-more rows sound v (states_of old kept) (first_of old kept) kept h.at_keys h.checked s (state_at old newest) key x one place placed o outcome c event flag));
      touched = subst (All (HasKeysOf v rows next.touched)) (sym items) (keys-more v rows kept.touched next.touched kept.order.items place c h.touched stay keys);
      below = l;
      resolved = resolved ∙ ap (made_by o key x) h.resolved
          ∙ sym (resolved-more rows sound v (states_of old kept) (first_of old kept) kept h.at_keys h.checked s (state_at old newest) key x one place placed o outcome) ∙ ap (resolve v rows) (sym ss);
    }
  where
    all_below : All (λ n. n < length old) (kept.numbers.items ++ newest ∷ [])
    all_below = All-append (λ n. n < length old) kept.numbers.items (newest ∷ []) h.numbers (All-cons (λ n. n < length old) newest [] below (All-nil (λ n. n < length old)))

    together : states_of new next ≡ map (state_at old) (kept.numbers.items ++ newest ∷ [])
    together = ap (map (state_at new)) numbers ∙ grown-states old more new are (kept.numbers.items ++ newest ∷ []) all_below

    ss : states_of new next ≡ states_of old kept ++ state_at old newest ∷ []
    ss =
        together
        ∙ map-append (state_at old) kept.numbers.items (newest ∷ [])

    base : first_of new next ≡ first_of old kept
    base =
        ap (λ ns. state_at new (slice_index_or ns 0 0)) numbers ∙ ap (state_at new) (get_or_append_left kept.numbers.items (newest ∷ []) 0 0 h.some)
        ∙ grown-at old more new (slice_index_or kept.numbers.items 0 0) are (h.numbers 0 0 h.some)

-- ---- a longer record

module _ (v : RoomVersion) (rows longer : List Row) (l : IsLonger rows longer) where
  is_put-longer : (s : State) (p : ℕ) → IsKnown rows s → p < length rows → is_put v longer s p ≡ is_put v rows s p
  unfolding is_allowed
  is_put-longer s p known h = λ i. is_state (event-longer rows longer l p h i) && is_none (rules v (event-longer rows longer l p h i) (judged_in-longer rows longer l v s p known h i))

  checked-longer : (cs : List CheckedEvent) (s : State) → IsKnown rows s → All (λ (c : CheckedEvent). c.event < length rows) cs → AreChecked v rows s cs → AreChecked v longer s cs
  checked-longer [] s known h f = tt
  checked-longer (c ∷ cs) s known h f =
      let here : c.event < length rows = h 0 c (omega arith) in (
        f.0 ∙ sym (is_put-longer s c.event known here),
        subst (λ t. AreChecked v longer t cs) (sym (after_check-longer rows longer l v s c.event known here))
            (checked-longer cs (after_check v rows s c.event) (after_check-known rows v s c.event known here) (All-tail (λ (d : CheckedEvent). d.event < length rows) c cs h) f.1),
      )

  order-longer : (ss : List State) → AreKnown rows ss → checking_order longer ss ≡ checking_order rows ss
  order-longer ss known =
      ap₂ (mainline_order longer) (mainline-longer rows longer l (entry (unconflicted ss) power_key) (find-known key_cmp (λ p. p < length rows) power_key (unconflicted ss) (unconflicted-known rows ss known))) (full-longer rows longer l ss known)
      ∙ mainline_order-longer rows longer l (agreed_line rows ss) (full_conflicted rows ss) (full-events rows ss)

  -- rows that were added change nothing of it
  pub kept-longer : (states : List State) (kept : KeptResolution) → IsKept v rows states kept → IsKept v longer states kept
  kept-longer states kept h =
      let ss = states_of states kept in
      let known = h.known in
      record {
        numbers = h.numbers;
        some = h.some;
        known = λ k d m i e n. (let a : (get_or (get_or ss k d) i e).1 < length rows = h.known k d m i e n in let b = l.more in omega arith);
        at_keys = record {
          key = h.at_keys.key;
          there = h.at_keys.there;
          apart = h.at_keys.apart;
          agreed = h.at_keys.agreed;
          order = h.at_keys.order ∙ sym (order-longer ss known);
          known = λ k d m. (let a : (get_or kept.order.items k d).event < length rows = h.at_keys.known k d m in let b = l.more in omega arith);
          settled = λ e k d m. ap (λ q. is_some_and (λ key. is_some (entry kept.differing key) || has_entry (key, (get_or kept.order.items k d).event) (first_of states kept)) (key_of q)) (event-longer rows longer l (get_or kept.order.items k d).event (h.at_keys.known k d m)) ∙ h.at_keys.settled e k d m;
          no_powers = ap (power_events longer) (full-longer rows longer l ss known) ∙ power_events-longer rows longer l (full_conflicted rows ss) (full-events rows ss) ∙ h.at_keys.no_powers;
        };
        touched = keys-longer v rows longer l kept.touched kept.order.items h.at_keys.known h.touched;
        checked = checked-longer kept.order.items (unconflicted ss) (unconflicted-known rows ss known) h.at_keys.known h.checked;
        below = h.below;
        resolved = h.resolved ∙ sym (resolve-in_longer rows longer l v ss known);
      }
