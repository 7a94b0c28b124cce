use Rattle.std.proofs.Common.{◌≡◌, ◌<◌, ◌∷◌, ◌⊎◌, [], ℕ, None, Some, length, ap, inl, inr, refl, subst, sym, ◌∙◌, true, arith}
use Rattle.std.specs.Prelude.{is_some}
use Rattle.std.specs.List.{All}
use Rattle.std.proofs.lemmas.List.Elements.{All-cons, All-nil}
use Rattle.mx_pdu.specs.StateKeys.{Key}
use Rattle.mx_graph.specs.Record.{is_in}
use Rattle.mx_graph.proofs.Members.{In}
use Rattle.mx_graph.specs.StateMap.{State, entry}
use Rattle.mx_orders.proofs.Members.{in_map}
use Rattle.mx_state_res.specs.KeptResolutions.{AllCiteReached, IsKeptAside, events_checked, states_of}
use Rattle.mx_state_res.specs.LaterResolution.{agreed_line}
use Rattle.mx_states.specs.Numbered.{AllAlike, state_at}
use Rattle.mx_state_res.specs.Resolution.{full_conflicted}
use Rattle.mx_state_res.proofs.BesideLemmas.{beside, cites-within}
use Rattle.mx_states.proofs.KeyLemmas.{Sorted}
use Rattle.mx_state_res.proofs.LaterOrderLemmas.{distinct-full, order-members}
use Rattle.mx_state_res.proofs.NumberedConflictLemmas.{at-sorted}
use Rattle.mx_state_res.proofs.SetLemmas.{all-at}
use Rattle.mx_state_res.proofs.kept_resolutions.added_events.event_beside.Goals as goal

pub differing-requires : goal.differing-requires
differing-requires c =
    let P : ℕ → Type 0 = λ n. n < length c.args.states.now in
    All-cons P c.args.number (c.args.newest ∷ []) (all-at P c.args.kept.now.numbers.items c.requires.numbers c.args.number c.requires.among) (All-cons P c.args.newest [] c.requires.newest (All-nil P))

pub state-before-requires : goal.state-before-requires
state-before-requires c = all-at (λ n. n < length c.args.states.now) c.args.kept.now.numbers.items c.requires.numbers c.args.number c.requires.among

pub returns : goal.returns
returns c =
    let rows = c.args.graph.now in
    let states = c.args.states.now in
    let kept = c.args.kept.now in
    let order = events_checked kept.order.items in
    let ss = states_of states kept in
    let full = full_conflicted rows ss in
    let at = c.requires.at_keys in
    let d = c.in_ok-differing.differing in
    let s = state_at states c.args.number in
    let t = state_at states c.args.newest in
    let e = c.in-Some.entry.now in
    let h = c.in-Some-new_event.ensures in
    let sorted : (u : State) → In u ss → Sorted u = at-sorted (state_at states) kept.numbers.items c.requires.sorted in
    let member : In s ss = in_map (state_at states) c.args.number kept.numbers.items c.requires.among in
    let same : (p : ℕ) → is_in order p ≡ is_in full p = λ p. ap (λ ps. is_in ps p) at.order ∙ order-members rows (agreed_line rows ss) full (distinct-full rows ss) p in
    let alike : (key : Key) → entry d key ≡ None → entry t key ≡ entry s key = λ key none. (c.in_ok-differing.ensures key).0 none 0 t (omega arith) in
    let entries = c.entries-entries.result.now in
    let one : AllCiteReached rows order s t d = subst (AllCiteReached rows order s t) c.entries-entries.ensures.entries
    (subst (λ u. AllCiteReached rows order u t entries) c.state-before.ensures (subst (λ u. AllCiteReached rows order c.state-before.result u entries) c.state-later.ensures
    (subst (λ cs. AllCiteReached rows (events_checked cs) c.state-before.result c.state-later.result entries) c.deref.ensures.value (c.reach_alike.ensures.one c.if-not-reach_alike.false)))) in
    let other : AllCiteReached rows order t s d = subst (AllCiteReached rows order t s) c.entries-entries.ensures.entries
    (subst (λ u. AllCiteReached rows order t u entries) c.state-before.ensures (subst (λ u. AllCiteReached rows order u c.state-before.result entries) c.state-later.ensures
    (subst (λ cs. AllCiteReached rows (events_checked cs) c.state-later.result c.state-before.result entries) c.deref.ensures.value (c.reach_alike.ensures.other c.if-not-reach_alike.false)))) in
    let aside : All (λ (f : Key × ℕ). (f.0 ≡ e.0) ⊎ IsKeptAside kept t f.0) d = subst (All (λ (f : Key × ℕ). (f.0 ≡ e.0) ⊎ IsKeptAside kept t f.0)) c.entries-entries.ensures.entries
    (subst (λ u. All (λ (f : Key × ℕ). (f.0 ≡ e.0) ⊎ IsKeptAside kept u f.0) entries) c.state-later.ensures (c.are_aside.ensures c.if-not-are_aside.false)) in
    let open_there : (entry s e.0 ≡ None) ⊎ (AllAlike e.0 ss → ⊥) = elim h.5 [
      | inl none ↦ inl (ap (λ u. entry u e.0) (sym c.state-before.ensures) ∙ none)
      | inr m ↦ inr (at.apart e.0 m)
    ] in
    record {
      key = e.0;
      before = s;
      one = record {
        sorted = sorted;
        sorted_later = c.state_is_sorted.ensures;
        member = member;
        there = ap (λ u. entry u e.0) (sym c.state-later.ensures) ∙ h.1;
        open_at = open_there;
        elsewhere = beside order full same d s t alike ss kept refl at.apart e.0 aside;
        cited = cites-within order full same d t s (λ key none. sym (alike key none)) rows c.graph_is_sound.ensures c.state_is_sorted.ensures other;
        cited_before = cites-within order full same d s t alike rows c.graph_is_sound.ensures (sorted s member) one;
        at_key = h.2;
        known = h.0;
        new = sym (same c.in-Some-new_event.event) ∙ h.3;
        no_power = h.4;
        no_powers = at.no_powers;
      };
      new = h.3;
      known = h.0;
    }
