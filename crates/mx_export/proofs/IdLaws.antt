-- Events that are added where their ids are not there have ids that differ.
use Rattle.std.proofs.Common.{◌≡◌, ℕ, Bool, true, false, cond, not, ◌&&◌, ◌||◌, List, [], ◌∷◌, ◌++◌, bytes_eq, refl, sym, ap, ◌∙◌, subst}
use Rattle.std.proofs.lemmas.Slice.Eq.{bytes_eq-Decides}
use Rattle.std.specs.Prelude.{filter}
use Rattle.std.specs.List.{fold}
use Rattle.mx_redact.specs.Fields.{Event}
use Rattle.mx_redact.specs.Hashes.{event_id}
use Rattle.mx_export.specs.RoomEvents.{has_id, ids_differ, is_in_room, room_events, with_event}

-- neither of two holds
pub neither-left : (a b : Bool) → (a || b) ≡ false → a ≡ false
neither-left true b k = absurd (cc k)
neither-left false b k = refl

pub neither-right : (a b : Bool) → (a || b) ≡ false → b ≡ false
neither-right true b k = absurd (cc k)
neither-right false b k = k

-- one more with another id
differ-push : (es : List Event) (e : Event) → has_id es (event_id e) ≡ false → ids_differ es ≡ true → ids_differ (es ++ e ∷ []) ≡ true
differ-push [] e fresh h = refl
differ-push (f ∷ fs) e fresh h =
    let apart : bytes_eq (event_id e) (event_id f) ≡ false = neither-left (bytes_eq (event_id e) (event_id f)) (has_id fs (event_id e)) fresh in
    let others : has_id fs (event_id e) ≡ false = neither-right (bytes_eq (event_id e) (event_id f)) (has_id fs (event_id e)) fresh in
    let own : has_id fs (event_id f) ≡ false = flipped (has_id fs (event_id f)) (both-left (not (has_id fs (event_id f))) (ids_differ fs) h) in
    ap (λ b. not b && ids_differ (fs ++ e ∷ [])) (has-push fs e (event_id f) own (other apart)) ∙ differ-push fs e others (both-right (not (has_id fs (event_id f))) (ids_differ fs) h)
  where
    flipped : (b : Bool) → not b ≡ true → b ≡ false
    flipped true k = absurd (cc k)
    flipped false k = refl

    both-left : (a b : Bool) → (a && b) ≡ true → a ≡ true
    both-left true b k = refl
    both-left false b k = absurd (cc k)

    both-right : (a b : Bool) → (a && b) ≡ true → b ≡ true
    both-right true b k = k
    both-right false b k = absurd (cc k)

    other : bytes_eq (event_id e) (event_id f) ≡ false → bytes_eq (event_id f) (event_id e) ≡ false
    other k = by (bytes_eq (event_id f) (event_id e)) refl
      where
        by : (b : Bool) → bytes_eq (event_id f) (event_id e) ≡ b → b ≡ false
        by true j = absurd (cc (sym ((bytes_eq-Decides (event_id e) (event_id f)).1 (sym ((bytes_eq-Decides (event_id f) (event_id e)).0 j))) ∙ k))
        by false j = refl

    has-push : (es : List Event) (e : Event) (id : List ℕ) → has_id es id ≡ false → bytes_eq id (event_id e) ≡ false → has_id (es ++ e ∷ []) id ≡ false
    has-push [] e id fresh k = ap (λ b. b || false) k
    has-push (g ∷ gs) e id fresh k =
        ap (λ b. b || has_id (gs ++ e ∷ []) id) (neither-left (bytes_eq id (event_id g)) (has_id gs id) fresh) ∙ has-push gs e id (neither-right (bytes_eq id (event_id g)) (has_id gs id) fresh) k

differ-with : (es : List Event) (e : Event) → ids_differ es ≡ true → ids_differ (with_event es e) ≡ true
differ-with es e h = by (has_id es (event_id e)) refl
  where
    by : (b : Bool) → has_id es (event_id e) ≡ b → ids_differ (cond (has_id es (event_id e)) es (es ++ e ∷ [])) ≡ true
    by true k = ap (λ b. ids_differ (cond b es (es ++ e ∷ []))) k ∙ h
    by false k = ap (λ b. ids_differ (cond b es (es ++ e ∷ []))) k ∙ differ-push es e k h

differ-all : (es more : List Event) → ids_differ es ≡ true → ids_differ (fold with_event es more) ≡ true
differ-all es [] h = h
differ-all es (e ∷ more) h = differ-all (with_event es e) more (differ-with es e h)

pub room-ids-differ : (room : List ℕ) (create : Event) (es : List Event) → ids_differ (room_events room create es) ≡ true
room-ids-differ room create es = differ-all (create ∷ []) (filter (is_in_room room) es) refl
