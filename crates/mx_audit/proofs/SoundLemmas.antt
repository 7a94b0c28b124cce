-- Which create events begin a room.
use Rattle.std.proofs.Common.{◌≡◌, ◌&&◌, ℕ, Bool, true, false, List, [], ◌∷◌, Option, None, Some, refl}
use Rattle.std.specs.Prelude.{codes, is_none}
use Rattle.mx_redact.specs.Fields.{Event, is_text}
use Rattle.mx_pdu.specs.Event.{has_kind, state_key_of, auth_ids}
use Rattle.mx_auth.specs.Rules.{rules}
use Rattle.mx_orders.specs.StateMap.{view}
use Rattle.mx_receipt.specs.Receipt.{created_version}
use Rattle.mx_receipt.specs.TimelineView.{IsSoundCreate}
use Rattle.mx_audit.specs.SoundTest.{sound_test, has_none}

pub and_left : (a b : Bool) → (a && b) ≡ true → a ≡ true
and_left true b e = refl
and_left false b e = e

pub and_right : (a b : Bool) → (a && b) ≡ true → b ≡ true
and_right true b e = e
and_right false b e = absurd (cc e)

no-ids : (ids : List (List ℕ)) → has_none ids ≡ true → ids ≡ []
no-ids [] e = refl
no-ids (id ∷ ids) e = absurd (cc e)

no-rule : {A : Type 0} (o : Option A) → is_none o ≡ true → o ≡ None
no-rule None e = refl
no-rule (Some x) e = absurd (cc e)

pub sound-test : (e : Event) → sound_test e ≡ true → IsSoundCreate e
unfolding sound_test
sound-test e h =
    let last = and_right (has_kind (codes "m.room.create") e && is_text [] (state_key_of e)) (has_none (auth_ids e) && is_none (rules (created_version e) e (view [] []))) h in
    let first = and_left (has_kind (codes "m.room.create") e && is_text [] (state_key_of e)) (has_none (auth_ids e) && is_none (rules (created_version e) e (view [] []))) h in
    record {
      kind = and_left (has_kind (codes "m.room.create") e) (is_text [] (state_key_of e)) first;
      state_key = and_right (has_kind (codes "m.room.create") e) (is_text [] (state_key_of e)) first;
      allowed = no-rule (rules (created_version e) e (view [] [])) (and_right (has_none (auth_ids e)) (is_none (rules (created_version e) e (view [] []))) last);
      auth_events = no-ids (auth_ids e) (and_left (has_none (auth_ids e)) (is_none (rules (created_version e) e (view [] []))) last);
    }
