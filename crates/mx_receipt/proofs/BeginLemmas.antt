-- The record that a create event begins.
use Rattle.std.proofs.Common.{◌≡◌, ◌++◌, ℕ, zero, suc, Bool, true, false, not, List, [], ◌∷◌, length, refl, sym, ap, subst, ◌∙◌, arith, None}
use Rattle.std.proofs.lemmas.Bool.{lt-ltb}
use Rattle.std.specs.Prelude.{filter_map, nat_lt, nat_le, codes, if◌then◌else◌}
use Rattle.std.specs.List.{list_all}
use Rattle.mx_ident.specs.Identifier.{refuse_if}
use Rattle.mx_redact.specs.Fields.{Event}
use Rattle.mx_pdu.specs.Event.{has_kind, prev_ids}
use Rattle.mx_auth.specs.Rules.{rules, create_lines, first_line, where_so, reject_if, Line}
use Rattle.mx_auth.specs.declared.versions.RoomVersion.{RoomVersion}
use Rattle.mx_auth.specs.StateView.{StateView}
use Rattle.mx_auth.specs.declared.refusals.Rule.TheVariants.{CreateHasPrevEvents}
use Rattle.mx_graph.specs.declared.refusals.NotAdded.TheVariants.{Known, MissingPrevEvent, MissingAuthEvent, Full}
use Rattle.mx_graph.specs.declared.refusals.NotAdded.{NotAdded}
use Rattle.mx_graph.specs.Adding.{add_error, is_known, most_rows}
use Rattle.mx_graph.specs.Record.{is_in, place_of}
use Rattle.mx_graph.specs.StateMap.{State}
use Rattle.mx_orders.specs.StateMap.{with_event, view}
use Rattle.mx_state_res.specs.Numbered.{AreKnown}
use Rattle.mx_orders.specs.PowerOrder.{power_order}
use Rattle.mx_orders.specs.Mainline.{mainline_order}
use Rattle.mx_state_res.specs.Resolution.{resolve, unconflicted, full_conflicted, power_events}
use Rattle.mx_receipt.specs.Receipt.{state_before_next, before_event, forward_extremities, current_state}
use Rattle.mx_receipt.specs.Judgements.{Judged, IsHeld, IsKept, IsJudged, AreAfter, AreNext, is_marked, leads_on, kept_row}
use Rattle.mx_receipt.specs.TimelineView.{IsSoundCreate}
use Rattle.mx_receipt.proofs.JudgedLemmas.{none-judged}
use Rattle.mx_receipt.proofs.PastLemmas.{none-past}
use Rattle.mx_receipt.specs.declared.verdicts.Verdict.TheVariants.{Accepted}

none_known : (ids : List (List ℕ)) → filter_map (place_of []) ids ≡ []
none_known [] = refl
none_known (id ∷ ids) = none_known ids

pub no_ids : (xs : List (List ℕ)) → nat_lt 0 (length xs) ≡ false → xs ≡ []
no_ids [] e = refl
no_ids (x ∷ xs) e = absurd (cc (sym (lt-ltb 0 (length (x ∷ xs)) (omega arith)) ∙ e))

first-passes : (b : Bool) (lines : List Line) → first_line (reject_if CreateHasPrevEvents b ∷ lines) ≡ None → b ≡ false
first-passes true lines e = absurd (cc e)
first-passes false lines e = refl

of_create : (b : Bool) (e : Event) (lines : List Line) → b ≡ true → first_line (where_so b (create_lines e) ++ lines) ≡ None → prev_ids e ≡ []
unfolding create_lines
of_create true e lines k h = no_ids (prev_ids e) (first-passes (nat_lt 0 (length (prev_ids e))) _ h)
of_create false e lines k h = absurd (cc k)

-- a create event that the rules allow has no prev events
pub create-first : (v : RoomVersion) (e : Event) (s : StateView) → has_kind (codes "m.room.create") e ≡ true → rules v e s ≡ None → prev_ids e ≡ []
unfolding rules
create-first v e s kind allowed = of_create (has_kind (codes "m.room.create") e) e _ kind allowed

pub sound-free : (e : Event) (id : List ℕ) → IsSoundCreate e → add_error [] (record { id = id; event = e; rejected = false }) ≡ None
unfolding add_error
sound-free e id sound = λ i.
    refuse_if {E = NotAdded} false Known (refuse_if {E = NotAdded} (not (list_all (is_known []) (create-first _ e (view [] []) sound.kind sound.allowed i))) MissingPrevEvent
    (refuse_if {E = NotAdded} (not (list_all (is_known []) (sound.auth_events i))) MissingAuthEvent (refuse_if {E = NotAdded} (nat_le most_rows 0) Full None)))

empty-current : current_state [] ≡ []
unfolding current_state resolve unconflicted forward_extremities mainline_order full_conflicted power_order power_events
empty-current = refl

-- nothing is kept beside a record without events
pub kept-empty : IsKept [] [] [] (current_state [])
unfolding forward_extremities
kept-empty = record {
  are_kept = refl;
  count = refl;
  befores = λ p l. absurd (omega arith);
  afters = refl;
  are_extremities = refl;
  is_current = refl;
  knows = λ k d l. absurd (omega arith);
  knows_before = λ k d l. absurd (omega arith);
  knows_current = subst (λ (s : State). Rattle.mx_receipt.specs.Judgements.Knows [] s) (sym empty-current) (λ k d l. absurd (omega arith));
  below = λ k d l. absurd (omega arith);
}

pub held-empty : (states : List State) → states ≡ [] ∷ [] → IsHeld [] states [] [] 0
held-empty states are = subst (λ (ss : List State). IsHeld [] ss [] [] 0) (sym are) only
  where
    none-known : AreKnown [] ([] ∷ [])
    none-known zero d l = λ k e m. absurd (omega arith)
    none-known (suc n) d l = absurd (omega arith)

    only : IsHeld [] ([] ∷ []) [] [] 0
    only = record {
      is_kept = subst (λ (s : State). IsKept [] [] [] s) empty-current kept-empty;
      below = λ k d l. absurd (omega arith);
      below_current = omega arith;
      known = none-known;
      past = none-past [] [] [] (is_marked []) (λ p. refl);
      judged = none-judged ([] ∷ []);
    }

empty-before : (e : Event) → state_before_next [] e ≡ []
unfolding state_before_next before_event resolve unconflicted mainline_order full_conflicted power_order power_events
empty-before e = refl

pub begin-judged : (id : List ℕ) (e : Event) (j : Judged) → j.verdict ≡ Accepted → j.before ≡ [] → j.after ≡ with_event j.before e 0
    → IsJudged [] [] [] (record { id = id; event = e; rejected = false }) j (0 ∷ [])
begin-judged id e j v b a = record {
  flag = ap Rattle.mx_receipt.specs.Receipt.is_rejected (sym v);
  before = b ∙ sym (empty-before e);
  after = a ∙ ap (λ w. if Rattle.mx_receipt.specs.Receipt.is_rejected w then j.before else with_event j.before e 0) (sym v);
  knows_before = subst (λ (s : State). Rattle.mx_receipt.specs.Judgements.Knows [] s) (sym b) (λ k d l. absurd (omega arith));
  are_next = record {
    stay = λ f. absurd (cc (ap Rattle.mx_receipt.specs.Receipt.is_accepted (sym v) ∙ f));
    replace = λ f. record {
      covered = λ p. false;
      is_covered = record {
        has_first = λ p k. absurd (cc (sym (ap (λ ps. is_in ps p) (none_known (prev_ids e))) ∙ k));
        closed = λ x y k m. absurd (cc k);
        least = λ other has closed p k. absurd (cc k);
      };
      are = refl;
    };
  };
}
