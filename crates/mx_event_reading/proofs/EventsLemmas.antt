-- The events of an array and the members of an object, as they are read.
use Rattle.std.proofs.Common.{◌≡◌, ℕ, ◌<◌, List, [], ◌∷◌, ◌++◌, length, Option, Some, None, refl, sym, ap, ◌∙◌}
use Rattle.std.specs.List.{AllByRecursion}
use Rattle.std.specs.Prelude.{codes}
use Rattle.json.specs.Json.{parse_map, after_end_array, items, value}
use Rattle.json.specs.Token.{Token}
use Rattle.serde_json.specs.Data.{Data, Items, Members, array, item, no_items, put}
use Rattle.serde_json.specs.Read.{of_json, of_items, converted}
use Rattle.mx_pdu.specs.declared.offering.Offered.{Offered}
use Rattle.mx_body.proofs.ItemLemmas.{ItemsRead, items_begin, items_more, items_over_all}
use Rattle.mx_event_reading.specs.BodiesRead.{items_of, with_events}
use Rattle.mx_event_reading.specs.InOrder.{ReadsCanonical}
use Rattle.mx_event_reading.proofs.PutLemmas.{put-put}

abbrev events_before : List Offered → Items → Items
events_before [] rest = rest
events_before (o ∷ os) rest = item o.pdu (events_before os rest)

push-before : (os : List Offered) (o : Offered) (rest : Items)
    → events_before os (item o.pdu rest) ≡ events_before (os ++ o ∷ []) rest
push-before [] o rest = refl
push-before (x ∷ os) o rest = ap (item x.pdu) (push-before os o rest)

before-all : (os : List Offered) → events_before os no_items ≡ items_of os
before-all [] = refl
before-all (o ∷ os) = ap (item o.pdu) (before-all os)

-- the tokens from `first` to `now` are these events
pub record EventsSoFar (first now : List Token) (os : List Offered) : Type 0 where
  pub front : Items → Items
  pub read : ItemsRead (value 125) first now front
  pub events_are : (rest : Items) → front rest ≡ events_before os rest

pub events-begin : (ts : List Token) → EventsSoFar ts ts []
events-begin ts = record { front = λ rest. rest; read = items_begin (value 125) ts; events_are = λ rest. refl }

module _ (first now r : List Token) (os : List Offered) (h : EventsSoFar first now os) where
  pub events-more : (o : Offered) → after_end_array now ≡ None → ReadsCanonical o.pdu (converted of_json (value 125 now)) r
      → length r < length now → EventsSoFar first r (os ++ o ∷ [])
  events-more o going done less = record {
    front = λ rest. h.front (item o.pdu rest);
    read = items_more (value 125) first now r h.front o.pdu h.read going done.read done.readable less;
    events_are = λ rest. h.events_are (item o.pdu rest) ∙ push-before os o rest;
  }

  pub events-end : after_end_array now ≡ Some r
      → parse_map array (converted of_items (items (value 125) (length first) first)) ≡ Some (array (items_of os), r)
  events-end over = items_over_all (value 125) first now r h.front h.read over
      ∙ ap (λ ds. Some (array ds, r)) (h.events_are no_items ∙ before-all os)

pub all-push : {A : Type 0} (P : A → Type 0) (xs : List A) (x : A) → AllByRecursion P xs → P x → AllByRecursion P (xs ++ x ∷ [])
all-push P [] x h p = (p, tt)
all-push P (y ∷ ys) x h p = (h.0, all-push P ys x h.1 p)

-- another member beside the events
pub put-beside : (events : Option (List Offered)) (k : List ℕ) (d : Data) (ms : Members) → (k ≡ codes "pdus" → ⊥)
    → with_events events (put k d ms) ≡ put k d (with_events events ms)
put-beside None k d ms other = refl
put-beside (Some os) k d ms other = sym (put-put k (codes "pdus") d (array (items_of os)) other ms)
