-- The rules, by what the tests before their blocks say.
use Rattle.std.proofs.Common.{◌≡◌, refl, ap, ap₂, ◌∙◌, Bool, true, false, List, ◌∷◌, ◌++◌}
use Rattle.std.specs.Prelude.{codes, not, ◌&&◌, Option, Some, is_none}
use Rattle.mx_ident.specs.Identifier.{begins_with}
use Rattle.mx_redact.specs.Fields.{Event, is_some_and, kind}
use Rattle.mx_pdu.specs.Event.{has_kind, sender_of, is_state}
use Rattle.mx_levels.specs.Level.{required_level}
use Rattle.mx_auth.specs.StateView.{StateView, create_of, power_of, is_joined}
use Rattle.mx_auth.specs.Rules.{Line, reject_if, where_so, first_line, create_lines, member_lines, third_party_invite_lines, power_lines, other_lines, rules, is_kept_out, reaches, target_of, is_own}
use Rattle.mx_auth.specs.declared.versions.RoomVersion.{RoomVersion}
use Rattle.mx_auth.specs.declared.refusals.Rule.TheVariants.{StateWithoutCreate, RoomNotFederated, SenderNotJoined, SenderLevelTooLow, StateKeyOfAnotherUser}
use Rattle.mx_auth.proofs.LineLemmas.{create_lines-decide, member_lines-decide, third_party_invite_lines-decide}

-- ---- events that are neither create events nor member events

abbrev other_by : Bool → Bool → Bool → Bool → Bool → List Line → List Line → List Line
other_by joined third enough key power invite_lines levels_lines =
    reject_if SenderNotJoined (not joined)
    ∷ where_so third invite_lines
    ++ (reject_if SenderLevelTooLow (not enough) ∷ reject_if StateKeyOfAnotherUser key ∷ where_so power levels_lines)

pub other_lines-at : (e : Event) (s : StateView) (joined third enough key power : Bool) → is_joined s (sender_of e) ≡ joined → has_kind (codes "m.room.third_party_invite") e ≡ third
    → reaches s e (required_level (power_of s) (kind e) (is_state e)) ≡ enough → (begins_with 64 (target_of e) && not (is_own e)) ≡ key → has_kind (codes "m.room.power_levels") e ≡ power
    → first_line (other_lines e s) ≡ first_line (other_by joined third enough key power (third_party_invite_lines e s) (power_lines e s))
unfolding other_lines
other_lines-at e s joined third enough key power hj ht he hk hp =
    ap₂ (λ a b. first_line (other_by a b (reaches s e (required_level (power_of s) (kind e) (is_state e))) (begins_with 64 (target_of e) && not (is_own e)) (has_kind (codes "m.room.power_levels") e) (third_party_invite_lines e s) (power_lines e s))) hj ht
    ∙ ap₂ (λ a b. first_line (other_by joined third a b (has_kind (codes "m.room.power_levels") e) (third_party_invite_lines e s) (power_lines e s))) he hk
    ∙ ap (λ a. first_line (other_by joined third enough key a (third_party_invite_lines e s) (power_lines e s))) hp

pub other_lines-third : (e : Event) (s : StateView) → is_joined s (sender_of e) ≡ true → has_kind (codes "m.room.third_party_invite") e ≡ true → first_line (other_lines e s) ≡ first_line (third_party_invite_lines e s)
other_lines-third e s hj ht = other_lines-at e s _ _ _ _ _ hj ht refl refl refl ∙ third_party_invite_lines-decide e s _

-- ---- all events

abbrev rules_by : Bool → Option Event → Bool → Event → List Line → List Line → List Line → List Line
rules_by create found member e creates members others =
    where_so create creates
    ++ (reject_if StateWithoutCreate (is_none found)
    ∷ reject_if RoomNotFederated (is_some_and (is_kept_out e) found)
    ∷ where_so member members
    ++ others)

pub rules-at : (v : RoomVersion) (e : Event) (s : StateView) (create : Bool) (found : Option Event) (member : Bool) → has_kind (codes "m.room.create") e ≡ create → create_of s ≡ found → has_kind (codes "m.room.member") e ≡ member
    → rules v e s ≡ first_line (rules_by create found member e (create_lines e) (member_lines v e s) (other_lines e s))
unfolding rules
rules-at v e s create found member hc hf hm =
    ap₂ (λ a b. first_line (rules_by a b (has_kind (codes "m.room.member") e) e (create_lines e) (member_lines v e s) (other_lines e s))) hc hf
    ∙ ap (λ a. first_line (rules_by create found a e (create_lines e) (member_lines v e s) (other_lines e s))) hm

pub rules-create : (v : RoomVersion) (e : Event) (s : StateView) → has_kind (codes "m.room.create") e ≡ true → rules v e s ≡ first_line (create_lines e)
rules-create v e s h = rules-at v e s _ _ _ h refl refl ∙ create_lines-decide e _

-- in a state with a create event
pub rules-kept_out : (v : RoomVersion) (e : Event) (s : StateView) (create : Event) → has_kind (codes "m.room.create") e ≡ false → create_of s ≡ Some create → is_kept_out e create ≡ true → rules v e s ≡ Some RoomNotFederated
rules-kept_out v e s create h f k =
    rules-at v e s _ _ _ h f refl ∙ ap (λ b. first_line (reject_if RoomNotFederated b ∷ where_so (has_kind (codes "m.room.member") e) (member_lines v e s) ++ other_lines e s)) k

pub rules-member : (v : RoomVersion) (e : Event) (s : StateView) (create : Event) → has_kind (codes "m.room.create") e ≡ false → create_of s ≡ Some create → is_kept_out e create ≡ false → has_kind (codes "m.room.member") e ≡ true
    → rules v e s ≡ first_line (member_lines v e s)
rules-member v e s create h f k m =
    rules-at v e s _ _ _ h f m ∙ ap (λ b. first_line (reject_if RoomNotFederated b ∷ member_lines v e s ++ other_lines e s)) k ∙ member_lines-decide v e s _

pub rules-other : (v : RoomVersion) (e : Event) (s : StateView) (create : Event) → has_kind (codes "m.room.create") e ≡ false → create_of s ≡ Some create → is_kept_out e create ≡ false → has_kind (codes "m.room.member") e ≡ false
    → rules v e s ≡ first_line (other_lines e s)
rules-other v e s create h f k m =
    rules-at v e s _ _ _ h f m ∙ ap (λ b. first_line (reject_if RoomNotFederated b ∷ other_lines e s)) k
