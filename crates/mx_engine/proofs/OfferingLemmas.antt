-- Events that are offered in turn.
use Rattle.std.proofs.Common.{◌≡◌, ◌<◌, ◌≤◌, ◌+◌, ℕ, length, get_or, take, List, [], ◌∷◌, ◌++◌, append_assoc, append-nil, refl, sym, ◌∙◌, ap, subst}
use Rattle.mx_pdu.specs.Event.{room_of}
use Rattle.mx_room.specs.Offer.{Offered}
use Rattle.mx_room.specs.declared.outcomes.Outcome.{Outcome}
use Rattle.std.specs.Prelude.{Option, Some, Result, Ok, Err}
use Rattle.std.proofs.lemmas.List.{take_more, take_all}
use Rattle.mx_receipt.specs.Receipt.{Kept}
use Rattle.mx_dock.proofs.ViewLemmas.{prefix_refl}
use Rattle.mx_keeper.specs.declared.refusals.CallError.{CallError}
use Rattle.mx_shard.specs.LoneRoom.{Call, to_offer, answer}
use Rattle.mx_shard.specs.Journal.{Entry, record_of}
use Rattle.mx_shard.specs.declared.answers.Answer.{Answer}
use Rattle.mx_world.specs.Replies.{outcome_told, outcome_in}
use Rattle.mx_world.specs.declared.answers.Told.{Told}
use Rattle.mx_engine.specs.Views.{BerthView, IsSameView, AddsNothing, AddsNothingThere, after_turn}
use Rattle.mx_engine.specs.Calls.{IsAnswered}
use Rattle.mx_engine.specs.Calling.{IsTurn, entries_by}
use Rattle.mx_engine.specs.Transactions.{IsOffered, AreOffered, IsOfferedThere}
use Rattle.mx_engine.specs.Offering.{FirstOffered}

outcome_answered : (ks : List Kept) (origin : List ℕ) (o : Offered)
    → outcome_told (answer ks (to_offer origin o)) ≡ outcome_in ks origin o
outcome_answered [] origin o = refl
outcome_answered (k ∷ ks) origin o = refl

-- what is told of an event is what its room's answer tells
pub offered_by : (caller : ℕ) (origin : List ℕ) (o : Offered) (old new : List (BerthView Entry)) (told : Answer)
    (id : List ℕ) (outcome : Option Outcome) → id ≡ o.id → outcome ≡ outcome_told told →
    IsAnswered caller (to_offer origin o) (room_of o.pdu) old new told
    → IsOffered caller origin o old new (record { id = id; outcome = outcome })
offered_by caller origin o old new told id outcome same is a = record {
  journal = a.journal;
  legal = a.legal;
  later = a.later;
  outcome = λ i. record {
    id = same i;
    outcome = (is ∙ ap outcome_told a.reply ∙ outcome_answered (record_of a.journal (room_of o.pdu)) origin o) i;
  };
  seen = a.seen;
}

-- ---- several in turn

-- what was offered, and one event more
offered-snoc : (caller : ℕ) (origin : List ℕ) (os : List Offered) (o : Offered) (old between new : List (BerthView Entry))
    (ts : List Told) (t : Told) →
    AreOffered caller origin os old between ts → IsOffered caller origin o between new t
    → AreOffered caller origin (os ++ o ∷ []) old new (ts ++ t ∷ [])
offered-snoc caller origin [] o old between new [] t are one =
    (new, subst (λ vs. IsOffered caller origin o vs new t) are one, refl)
offered-snoc caller origin [] o old between new (t' ∷ ts) t are one = absurd are
offered-snoc caller origin (o' ∷ os) o old between new [] t are one = absurd are
offered-snoc caller origin (o' ∷ os) o old between new (t' ∷ ts) t are one =
    (are.0, are.1, offered-snoc caller origin os o are.0 between new ts t are.2 one)

-- ---- so far, with those that are left

pub record SoFar (caller : ℕ) (origin : List ℕ) (events : List Offered) (index : ℕ) (old new : List (BerthView Entry))
    (before after : List Told) : Type 0 where
  pub told : List Told
  pub offered : AreOffered caller origin (take index events) old new told
  pub are : after ≡ before ++ told

pub so_far_none : (caller : ℕ) (origin : List ℕ) (events : List Offered) (old : List (BerthView Entry)) (before : List Told)
    → SoFar caller origin events 0 old old before before
so_far_none caller origin events old before = record { told = []; offered = refl; are = sym (append-nil before) }

pub so_far_more : (caller : ℕ) (origin : List ℕ) (events : List Offered) (index : ℕ) (o : Offered)
    (old between new : List (BerthView Entry)) (before middle after : List Told) (t : Told) → index < length events
    → o ≡ get_or events index o →
    SoFar caller origin events index old between before middle → IsOffered caller origin o between new t
    → after ≡ middle ++ t ∷ [] → SoFar caller origin events (index + 1) old new before after
so_far_more caller origin events index o old between new before middle after t l is far one longer = record {
  told = far.told ++ t ∷ [];
  offered = subst (λ os. AreOffered caller origin os old new (far.told ++ t ∷ []))
      (sym (take_more events index o l ∙ ap (λ x. take index events ++ x ∷ []) (sym is)))
      (offered-snoc caller origin (take index events) o old between new far.told t far.offered one);
  are = longer ∙ ap (λ ts. ts ++ t ∷ []) far.are ∙ append_assoc before far.told (t ∷ []);
}

pub so_far_all : (caller : ℕ) (origin : List ℕ) (events : List Offered) (index : ℕ) (old new : List (BerthView Entry))
    (before after : List Told) → length events ≤ index → SoFar caller origin events index old new before after →
    (later : List Told) × AreOffered caller origin events old new later × (after ≡ before ++ later)
so_far_all caller origin events index old new before after l far =
    (far.told, subst (λ os. AreOffered caller origin os old new far.told) (take_all index events l) far.offered, far.are)

pub so_far_refused : (caller : ℕ) (origin : List ℕ) (events : List Offered) (index : ℕ)
    (old between new : List (BerthView Entry))
    (before middle : List Told) → index < length events → SoFar caller origin events index old between before middle
    → AddsNothing between new
    → FirstOffered caller origin events old new
so_far_refused caller origin events index old between new before middle l far nothing = record {
  place = index;
  within = l;
  between = between;
  told = far.told;
  offered = far.offered;
  nothing = nothing;
}

-- ---- by what is known of its shard alone

pub offered_there : (caller : ℕ) (origin : List ℕ) (o : Offered) (old new : BerthView Entry) (told : Answer) (id : List ℕ)
    (outcome : Option Outcome) → id ≡ o.id → outcome ≡ outcome_told told →
    IsTurn caller (to_offer origin o) (Some (room_of o.pdu)) old new (Ok told)
    → IsOfferedThere caller origin o old new (record { id = id; outcome = outcome })
offered_there caller origin o old new told id outcome same is t = record {
  journal = t.journal;
  legal = t.legal;
  later = t.later;
  outcome = λ i. record {
    id = same i;
    outcome = (is ∙ ap outcome_told t.reply ∙ outcome_answered (record_of t.journal (room_of o.pdu)) origin o) i;
  };
  seen = t.ok;
}

same_turn : (old new : BerthView Entry) (journal entries : List Entry) → new ≡ after_turn old journal entries
    → IsSameView old new
same_turn old new journal entries is = record {
  numbered = ap (λ (v : BerthView Entry). v.number) is;
  opened = ap (λ (v : BerthView Entry). v.opening) is;
  counted = ap (λ (v : BerthView Entry). v.made) is;
  placed = ap (λ (v : BerthView Entry). v.place) is;
}

pub turned_same_view : (caller : ℕ) (call : Call) (room : Option (List ℕ)) (old new : BerthView Entry)
    (result : Result Answer CallError) → IsTurn caller call room old new result → IsSameView old new
turned_same_view caller call room old new (Ok told) t =
    same_turn old new t.journal (entries_by t.journal caller call room) t.ok
turned_same_view caller call room old new (Err error) t = same_turn old new t.journal [] t.err

pub refused_there : (caller : ℕ) (call : Call) (room : Option (List ℕ)) (old new : BerthView Entry) (error : CallError)
    → IsTurn caller call room old new (Err error) → AddsNothingThere old new
refused_there caller call room old new error t = (
  t.journal,
  t.later,
  t.err
      ∙ (λ i. record {
        number = old.number;
        seen = append-nil t.journal i;
        added = append-nil old.added i;
        opening = old.opening;
        made = old.made;
        place = old.place;
      }),
)

pub nothing_there : (view : BerthView Entry) → AddsNothingThere view view
nothing_there view = (view.seen, prefix_refl view.seen, refl)
