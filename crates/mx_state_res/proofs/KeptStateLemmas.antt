-- What was resolved is the state after all checks.
use Rattle.std.proofs.Common.{◌≡◌, ℕ, Bool, true, false, cond, List, [], ◌∷◌, Option, Some, None, refl, sym, ap, ◌∙◌, arith, ◌==◌, ◌||◌, eqb-true}
use Rattle.std.specs.Prelude.{if◌then◌else◌, is_none, is_some, option_map, unwrap_or}
use Rattle.std.specs.Option.{option_or}
use Rattle.std.specs.Ordering.{is_eq}
use Rattle.std.specs.FinMap.Entries.{put}
use Rattle.std.proofs.lemmas.List.Elements.{All-tail}
use Rattle.mx_redact.specs.Fields.{is_some_and}
use Rattle.mx_pdu.specs.StateKeys.{Key}
use Rattle.mx_auth.specs.Rules.{key_of}
use Rattle.mx_auth.specs.declared.versions.RoomVersion.{RoomVersion}
use Rattle.mx_graph.specs.Record.{Row, event}
use Rattle.mx_graph.specs.StateMap.{State, entry, key_cmp}
use Rattle.mx_state_res.specs.KeptResolutions.{AreSettled, DifferAtKeys, events_checked, is_settled}
use Rattle.mx_state_res.specs.LaterResolution.{is_put}
use Rattle.mx_states.specs.Numbered.{without}
use Rattle.mx_state_res.specs.Resolution.{after_check, iterative_auth_checks, resolve, unconflicted}
use Rattle.mx_states.specs.Entries.{has_entry, overwritten}
use Rattle.mx_state_res.specs.declared.kept_resolutions.KeptResolution.{KeptResolution}
use Rattle.mx_state_res.specs.declared.kept_resolutions.checked_events.CheckedEvent.{CheckedEvent}
use Rattle.mx_states.proofs.EntryLemmas.{entry-overwritten, entry-without, equal-keys, same-states, sorted-overwritten}
use Rattle.mx_states.proofs.KeyLemmas.{Sorted}
use Rattle.mx_state_res.proofs.LaterCheckLemmas.{sorted-checks}
use Rattle.mx_state_res.proofs.LaterResolutionLemmas.{resolve-plainly}
use Rattle.mx_state_res.proofs.LaterStateLemmas.{put-elsewhere, put-there}

the-entry : (p : ℕ) (o : Option ℕ) → is_some_and (λ q. q == p) o ≡ true → o ≡ Some p
the-entry p None h = absurd (cc h)
the-entry p (Some q) h = ap Some (eqb-true q p h)

not-some : (o : Option ℕ) → is_none o ≡ true → is_some o ≡ false
not-some None n = refl
not-some (Some p) n = absurd (cc n)

module _ (v : RoomVersion) (rows : List Row) (keys base : State) (q : Key) (none : is_none (entry keys q) ≡ true) where
  abbrev stands : ℕ → Key → Bool
  stands p key = is_some (entry keys key) || has_entry (key, p) base

  put-apart : (b : Bool) (o : Option Key) (p : ℕ) (s : State) → is_some_and (stands p) o ≡ true → entry s q ≡ entry (without keys base) q
      → entry (if b then unwrap_or (option_map (λ k. put key_cmp k p s) o) s else s) q ≡ entry (without keys base) q
  put-apart false o p s h so_far = so_far
  put-apart true None p s h so_far = so_far
  put-apart true (Some k) p s h so_far = by (is_eq (key_cmp q k)) refl
    where
      nothing : Option ℕ
      nothing = None

      by : (b : Bool) → is_eq (key_cmp q k) ≡ b → entry (put key_cmp k p s) q ≡ entry (without keys base) q
      by false e = put-elsewhere k p s q e ∙ so_far
      by true e =
          let same : q ≡ k = equal-keys q k e in
          let here : stands p q ≡ true = ap (stands p) same ∙ h in
          let in_base : entry base q ≡ Some p = the-entry p (entry base q) (sym (ap (λ b. b || has_entry (q, p) base) (not-some (entry keys q) none)) ∙ here) in
          ap (entry (put key_cmp k p s)) same ∙ put-there k p s ∙ sym (entry-without keys base q ∙ ap (λ b. cond b (entry base q) nothing) none ∙ in_base)

  -- elsewhere the checks change nothing
  checks-apart : (cs : List CheckedEvent) (s : State) → AreSettled rows keys base cs → entry s q ≡ entry (without keys base) q → entry (iterative_auth_checks v rows s (events_checked cs)) q ≡ entry (without keys base) q
  unfolding after_check
  checks-apart [] s at so_far = so_far
  checks-apart (c ∷ cs) s at so_far =
      checks-apart cs (after_check v rows s c.event) (All-tail (λ (d : CheckedEvent). is_settled rows keys base d.event ≡ true) c cs at)
      (put-apart (is_put v rows s c.event) (key_of (event rows c.event)) c.event s (at 0 c (omega arith)) so_far)

-- so the unconflicted state is in it already
overwritten-there : (keys base agreed checked : State) → agreed ≡ without keys base → Sorted agreed → Sorted checked → ((q : Key) → is_none (entry keys q) ≡ true → entry checked q ≡ entry agreed q) → overwritten checked agreed ≡ checked
overwritten-there keys base agreed checked is sorted h same =
    same-states (overwritten checked agreed) checked (sorted-overwritten agreed checked h) h (λ q. entry-overwritten agreed checked q sorted ∙ by q (is_none (entry keys q)) refl)
  where
    twice : (o : Option ℕ) → option_or o o ≡ o
    twice None = refl
    twice (Some p) = refl

    nothing : Option ℕ
    nothing = None

    by : (q : Key) (b : Bool) → is_none (entry keys q) ≡ b → option_or (entry agreed q) (entry checked q) ≡ entry checked q
    by q true e = ap (λ o. option_or o (entry checked q)) (sym (same q e)) ∙ twice (entry checked q)
    by q false e = ap (λ o. option_or o (entry checked q)) (ap (λ s. entry s q) is ∙ entry-without keys base q ∙ ap (λ b. cond b (entry base q) nothing) e)

pub resolved-is : (v : RoomVersion) (rows : List Row) (ss : List State) (base : State) (kept : KeptResolution) → DifferAtKeys rows ss base kept → kept.are_settled ≡ true → Sorted (unconflicted ss)
    → resolve v rows ss ≡ iterative_auth_checks v rows (unconflicted ss) (events_checked kept.order.items)
resolved-is v rows ss base kept at settled sorted =
    resolve-plainly v rows ss at.no_powers
    ∙ ap (λ ps. overwritten (iterative_auth_checks v rows (unconflicted ss) ps) (unconflicted ss)) (sym at.order)
    ∙ overwritten-there kept.differing base (unconflicted ss) (iterative_auth_checks v rows (unconflicted ss) (events_checked kept.order.items)) at.agreed sorted
    (sorted-checks v rows (events_checked kept.order.items) (unconflicted ss) sorted) (λ q none. checks-apart v rows kept.differing base q none kept.order.items (unconflicted ss) (at.settled settled) (ap (λ s. entry s q) at.agreed) ∙ ap (λ s. entry s q) (sym at.agreed))

-- a state from which no key is taken
pub all-left : (s : State) → without [] s ≡ s
all-left [] = refl
all-left (e ∷ s) = ap (λ t. e ∷ t) (all-left s)
