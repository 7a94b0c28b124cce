-- The rules look at nothing of a state but its create event's id and its events at the needed keys.
use Rattle.std.proofs.Common.{◌≡◌, ℕ, refl, sym, ap, ◌∙◌, Bool, true, false, List, [], ◌∷◌, ◌++◌}
use Rattle.std.proofs.Math.Bool.{true≢false}
use Rattle.std.proofs.lemmas.Slice.Eq.{bytes_eq-Decides}
use Rattle.std.specs.Prelude.{codes, not, ◌&&◌, ◌||◌, Option, is_none, length, nat_lt}
use Rattle.mx_ident.specs.Identifier.{begins_with}
use Rattle.mx_redact.specs.Fields.{Event, is_some_and, kind}
use Rattle.mx_pdu.specs.Event.{has_kind, sender_of, is_state, prev_ids, membership_of, has_membership}
use Rattle.mx_levels.specs.Level.{required_level}
use Rattle.mx_auth.specs.StateView.{StateView, create_of, power_of, is_joined, is_invited_or_joined, is_knocking, is_banned, join_rule_in}
use Rattle.mx_auth.specs.Rules.{Line, allow, reject, pass, reject_if, where_so, first_line, is_kept_out, target_of, is_own, reaches, create_lines, join_lines, invite_lines, leave_lines, ban_lines, is_knock, knock_lines, member_lines, third_party_invite_lines, power_lines, other_lines, rules, needed_keys, AgreeAt}
use Rattle.mx_pdu.specs.StateKeys.{Key}
use Rattle.mx_auth.specs.declared.versions.RoomVersion.{RoomVersion}
use Rattle.mx_auth.specs.declared.refusals.Rule.{Rule}
use Rattle.mx_auth.specs.declared.refusals.Rule.TheVariants.{CreateHasPrevEvents, CreateOfAnotherServer, CreateVersionUnknown, CreateWithoutCreator, StateWithoutCreate, RoomNotFederated, MemberIncomplete, MembershipUnknown, SenderNotJoined, SenderLevelTooLow, StateKeyOfAnotherUser}

-- ---- the rules and the needed keys, over the answers of the tests that both make

abbrev member_by : Bool → Bool → Bool → RoomVersion → Event → StateView → List Line
member_by st join knock v e s =
    reject_if MemberIncomplete (not st || is_none (membership_of e))
    ∷ where_so join (join_lines v e s)
    ++ where_so (has_membership (codes "invite") e) (invite_lines e s)
    ++ where_so (has_membership (codes "leave") e) (leave_lines v e s)
    ++ where_so (has_membership (codes "ban") e) (ban_lines e s)
    ++ where_so knock (knock_lines e s)
    ++ reject MembershipUnknown ∷ []

-- all but those on create events
abbrev lines_after : Bool → Bool → Bool → Bool → RoomVersion → Event → StateView → List Line
lines_after member st join knock v e s =
    reject_if StateWithoutCreate (is_none (create_of s))
    ∷ reject_if RoomNotFederated (is_some_and (is_kept_out e) (create_of s))
    ∷ where_so member (member_by st join knock v e s)
    ++ (reject_if SenderNotJoined (not (is_joined s (sender_of e)))
    ∷ where_so (has_kind (codes "m.room.third_party_invite") e) (third_party_invite_lines e s)
    ++ (reject_if SenderLevelTooLow (not (reaches s e (required_level (power_of s) (kind e) (is_state e))))
    ∷ reject_if StateKeyOfAnotherUser (begins_with 64 (target_of e) && not (is_own e))
    ∷ where_so (has_kind (codes "m.room.power_levels") e) (power_lines e s)))

abbrev lines_by : Bool → Bool → Bool → Bool → Bool → RoomVersion → Event → StateView → List Line
lines_by create member st join knock v e s = where_so create (create_lines e) ++ lines_after member st join knock v e s

abbrev keys_by : Bool → Bool → Bool → Bool → Bool → Bool → Bool → Event → List Key
keys_by create member st own join invite knock e =
    where_so (not create)
    ((codes "m.room.create", []) ∷ (codes "m.room.power_levels", []) ∷ (codes "m.room.member", sender_of e)
    ∷ where_so member (where_so (st && not own) ((codes "m.room.member", target_of e) ∷ [])
    ++ where_so (join || invite || knock) ((codes "m.room.join_rules", []) ∷ [])))

same-rules : (v : RoomVersion) (e : Event) (s : StateView) → rules v e s ≡ first_line (lines_by (has_kind (codes "m.room.create") e) (has_kind (codes "m.room.member") e) (is_state e) (has_membership (codes "join") e) (is_knock v e) v e s)
unfolding rules member_lines other_lines
same-rules v e s = refl

same-keys : (v : RoomVersion) (e : Event) → needed_keys v e ≡ keys_by (has_kind (codes "m.room.create") e) (has_kind (codes "m.room.member") e) (is_state e) (is_own e) (has_membership (codes "join") e) (has_membership (codes "invite") e) (is_knock v e) e
same-keys v e = refl

-- ---- lines after one that decides change nothing

after-allow : (a b c d : Bool) (xs ys : List Line) → first_line (reject_if CreateHasPrevEvents a ∷ reject_if CreateOfAnotherServer b ∷ reject_if CreateVersionUnknown c ∷ reject_if CreateWithoutCreator d ∷ allow ∷ xs) ≡ first_line (reject_if CreateHasPrevEvents a ∷ reject_if CreateOfAnotherServer b ∷ reject_if CreateVersionUnknown c ∷ reject_if CreateWithoutCreator d ∷ allow ∷ ys)
after-allow true b c d xs ys = refl
after-allow false true c d xs ys = refl
after-allow false false true d xs ys = refl
after-allow false false false true xs ys = refl
after-allow false false false false xs ys = refl

after-reject : (k l : Line) (rule : Rule) (xs ys : List Line) → first_line (k ∷ l ∷ reject rule ∷ xs) ≡ first_line (k ∷ l ∷ reject rule ∷ ys)
after-reject allow l rule xs ys = refl
after-reject (reject a) l rule xs ys = refl
after-reject pass allow rule xs ys = refl
after-reject pass (reject a) rule xs ys = refl
after-reject pass pass rule xs ys = refl

-- ---- the law, by cases on the tests

abbrev member_entry : StateView → List ℕ → Option Event
member_entry s user = s.entry (codes "m.room.member") user

-- a member event; the create event's id counts for a join alone, the join rules for a join and a knock
member-agree : (join knock : Bool) (v : RoomVersion) (e : Event) (s t : StateView) → create_of s ≡ create_of t → power_of s ≡ power_of t
    → member_entry s (sender_of e) ≡ member_entry t (sender_of e) → member_entry s (target_of e) ≡ member_entry t (target_of e)
    → s.create_id ≡ t.create_id → ((join || knock) ≡ true → s.entry (codes "m.room.join_rules") [] ≡ t.entry (codes "m.room.join_rules") [])
    → first_line (lines_by false true true join knock v e s) ≡ first_line (lines_by false true true join knock v e t)
unfolding join_lines invite_lines leave_lines ban_lines knock_lines third_party_invite_lines power_lines is_joined is_invited_or_joined is_knocking is_banned join_rule_in
member-agree true knock v e s t c l m u p j = let r = j refl in rw (p, c, l, m, u, r)
member-agree false true v e s t c l m u p j = let r = j refl in rw (c, l, m, u, r)
member-agree false false v e s t c l m u p j = rw (c, l, m, u)

own-target : (e : Event) (s t : StateView) → sender_of e ≡ target_of e → member_entry s (sender_of e) ≡ member_entry t (sender_of e)
    → member_entry s (target_of e) ≡ member_entry t (target_of e)
own-target e s t h m = ap (member_entry s) (sym h) ∙ m ∙ ap (member_entry t) h

no_rules : {A : Type 0} → false ≡ true → A
no_rules x = absurd (true≢false (sym x))

agree : (create member st own join invite knock : Bool) (v : RoomVersion) (e : Event) (s t : StateView) → (own ≡ true → sender_of e ≡ target_of e) → s.create_id ≡ t.create_id
    → AgreeAt (keys_by create member st own join invite knock e) s t → first_line (lines_by create member st join knock v e s) ≡ first_line (lines_by create member st join knock v e t)
unfolding create_lines join_lines invite_lines leave_lines ban_lines knock_lines third_party_invite_lines power_lines is_joined is_invited_or_joined is_knocking is_banned join_rule_in
agree true member st own join invite knock v e s t h p k =
    after-allow (nat_lt 0 (length (prev_ids e))) _ _ _ (lines_after member st join knock v e s) (lines_after member st join knock v e t)
agree false false st own join invite knock v e s t h p k =
    let c = k.0 in let l = k.1.0 in let m = k.1.1.0 in rw (c, l, m)
agree false true false own join invite knock v e s t h p k =
    let c = k.0 in rw c (after-reject _ _ _ _ _)
agree false true true true true invite knock v e s t h p k =
    member-agree true knock v e s t k.0 k.1.0 k.1.1.0 (own-target e s t (h refl) k.1.1.0) p (λ _. k.1.1.1.0)
agree false true true true false true true v e s t h p k =
    member-agree false true v e s t k.0 k.1.0 k.1.1.0 (own-target e s t (h refl) k.1.1.0) p (λ _. k.1.1.1.0)
agree false true true true false false true v e s t h p k =
    member-agree false true v e s t k.0 k.1.0 k.1.1.0 (own-target e s t (h refl) k.1.1.0) p (λ _. k.1.1.1.0)
agree false true true true false invite false v e s t h p k =
    member-agree false false v e s t k.0 k.1.0 k.1.1.0 (own-target e s t (h refl) k.1.1.0) p no_rules
agree false true true false true invite knock v e s t h p k =
    member-agree true knock v e s t k.0 k.1.0 k.1.1.0 k.1.1.1.0 p (λ _. k.1.1.1.1.0)
agree false true true false false true true v e s t h p k =
    member-agree false true v e s t k.0 k.1.0 k.1.1.0 k.1.1.1.0 p (λ _. k.1.1.1.1.0)
agree false true true false false false true v e s t h p k =
    member-agree false true v e s t k.0 k.1.0 k.1.1.0 k.1.1.1.0 p (λ _. k.1.1.1.1.0)
agree false true true false false invite false v e s t h p k =
    member-agree false false v e s t k.0 k.1.0 k.1.1.0 k.1.1.1.0 p no_rules

-- two states that agree at the needed keys, and on the create event's id, judge alike
pub rules-needed_keys : (v : RoomVersion) (e : Event) (s t : StateView) → s.create_id ≡ t.create_id → AgreeAt (needed_keys v e) s t → rules v e s ≡ rules v e t
rules-needed_keys v e s t p k =
    same-rules v e s
    ∙ agree (has_kind (codes "m.room.create") e) (has_kind (codes "m.room.member") e) (is_state e) (is_own e)
    (has_membership (codes "join") e) (has_membership (codes "invite") e) (is_knock v e) v e s t ((bytes_eq-Decides (sender_of e) (target_of e)).0) p k ∙ sym (same-rules v e t)
