-- The events that an event leads to through events that were not accepted.
use Rattle.std.proofs.Common.{◌≡◌, ℕ, ◌==◌, Bool, true, false, ◌||◌, List, [], refl, sym, ◌∙◌, arith}
use Rattle.std.proofs.lemmas.Bool.Decides.{nat_tests}
use Rattle.std.specs.Prelude.{if◌then◌else◌, slice_index_or}
use Rattle.std.specs.Ordering.{nat_cmp, is_eq}
use Rattle.mx_graph.specs.Edges.{IsAllFrom, LeadDown}
use Rattle.mx_graph.specs.Graph.{IsSound}
use Rattle.mx_graph.specs.Record.{Row, event, is_in, prev_events}
use Rattle.mx_graph.proofs.WalkLemmas.{IsWalk}
use Rattle.mx_receipt.specs.Receipt.{is_accepted}
use Rattle.mx_receipt.specs.Judgements.{is_marked, leads_further, leads_on, verdicts_in}
use Rattle.mx_receipt.specs.declared.snapshots.Judgement.{Judgement}
use Rattle.mx_receipt.specs.declared.verdicts.Verdict.TheVariants.{Accepted}
pub use Rattle.mx_graph.proofs.Closure.{in-all}

pub walk-starts : (cites : ℕ → List ℕ) (first waiting : ℕ → Bool) → ((p : ℕ) → waiting p ≡ first p) → IsWalk cites first [] waiting
walk-starts cites first waiting same =
    record { has_first = λ p e. same p ∙ e; closed = λ x y e. absurd (cc e); least = λ other has closed p e. has p (sym (same p) ∙ e); rises = tt; below = λ p x e k. absurd (cc k) }

pub all_from-same : (cites : ℕ → List ℕ) (first f g : ℕ → Bool) → ((p : ℕ) → f p ≡ g p) → IsAllFrom cites first g → IsAllFrom cites first f
all_from-same cites first f g same h =
    record {
      has_first = λ p e. same p ∙ h.has_first p e;
      closed = λ x y e m. same y ∙ h.closed x y (sym (same x) ∙ e) m;
      least = λ other has closed p e. h.least other has closed p (sym (same p) ∙ e);
    }

pub is_eq-same : (k p : ℕ) → is_eq (nat_cmp k p) ≡ (k == p)
is_eq-same k p = grind (arith, nat_tests)

pub no_less : (b : Bool) (xs : List ℕ) (y : ℕ) → is_in (if b then [] else xs) y ≡ true → is_in xs y ≡ true
no_less true xs y e = absurd (cc e)
no_less false xs y e = e

pub leads_further-down : (rows : List Row) (judgements : List Judgement) → IsSound rows → LeadDown (leads_further rows judgements)
leads_further-down rows judgements sound x y e =
    (sound.prev x y
    (no_less (is_accepted (slice_index_or (verdicts_in judgements) x Accepted)) (prev_events rows (event rows x)) y
    (no_less (is_marked judgements x) (leads_on rows (verdicts_in judgements) x) y e))).1

pub or-swap : (a b : Bool) → (a || b) ≡ (b || a)
or-swap true true = refl
or-swap true false = refl
or-swap false true = refl
or-swap false false = refl
