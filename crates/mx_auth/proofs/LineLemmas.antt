-- Lists of lines of the rules.
use Rattle.std.proofs.Common.{◌≡◌, ℕ, refl, sym, ap, ap₂, ◌∙◌, append_assoc, Bool, true, false, List, [], ◌∷◌, ◌++◌}
use Rattle.std.proofs.Math.Bool.{true≢false}
use Rattle.std.proofs.lemmas.List.{append-nil}
use Rattle.std.specs.Prelude.{codes, ◌&&◌, ◌||◌, Option, Some, is_none}
use Rattle.mx_redact.specs.Fields.{Event, is_text}
use Rattle.mx_pdu.specs.Event.{state_key_of, membership_of}
use Rattle.mx_auth.specs.StateView.{StateView}
use Rattle.mx_auth.specs.Rules.{Line, allow, reject, pass, reject_if, where_so, first_line, create_lines, member_lines, join_lines, invite_lines, leave_lines, ban_lines, knock_lines, third_party_invite_lines}
use Rattle.mx_auth.specs.Versions.{has_knocks}
use Rattle.mx_auth.specs.declared.versions.RoomVersion.{RoomVersion}
use Rattle.mx_auth.specs.declared.refusals.Rule.{Rule}
use Rattle.mx_auth.specs.declared.refusals.Rule.TheVariants.{MemberIncomplete, MembershipUnknown}

-- ---- what follows a line that decides changes nothing

abbrev decides : Line → Bool
decides allow = true
decides (reject r) = true
decides pass = false

-- there are lines, and the last decides; `line` stands before them
abbrev ends : Bool → List Line → Bool
ends before [] = before
ends before (line ∷ lines) = ends (decides line) lines

first_line-ends : (xs ys : List Line) → ends false xs ≡ true → first_line (xs ++ ys) ≡ first_line xs
first_line-ends [] ys h = absurd (true≢false (sym h))
first_line-ends (allow ∷ xs) ys h = refl
first_line-ends (reject r ∷ xs) ys h = refl
first_line-ends (pass ∷ xs) ys h = first_line-ends xs ys h

first_line-reject : (xs : List Line) (r : Rule) (ys : List Line) → first_line (xs ++ reject r ∷ ys) ≡ first_line (xs ++ reject r ∷ [])
first_line-reject [] r ys = refl
first_line-reject (allow ∷ xs) r ys = refl
first_line-reject (reject q ∷ xs) r ys = refl
first_line-reject (pass ∷ xs) r ys = first_line-reject xs r ys

-- ---- each block decides

pub create_lines-decide : (e : Event) (ys : List Line) → first_line (create_lines e ++ ys) ≡ first_line (create_lines e)
unfolding create_lines
create_lines-decide e ys = first_line-ends (create_lines e) ys refl

pub join_lines-decide : (v : RoomVersion) (e : Event) (s : StateView) (ys : List Line) → first_line (join_lines v e s ++ ys) ≡ first_line (join_lines v e s)
unfolding join_lines
join_lines-decide v e s ys = first_line-ends (join_lines v e s) ys refl

pub invite_lines-decide : (e : Event) (s : StateView) (ys : List Line) → first_line (invite_lines e s ++ ys) ≡ first_line (invite_lines e s)
unfolding invite_lines
invite_lines-decide e s ys = first_line-ends (invite_lines e s) ys refl

pub leave_lines-decide : (v : RoomVersion) (e : Event) (s : StateView) (ys : List Line) → first_line (leave_lines v e s ++ ys) ≡ first_line (leave_lines v e s)
unfolding leave_lines
leave_lines-decide v e s ys = first_line-ends (leave_lines v e s) ys refl

pub ban_lines-decide : (e : Event) (s : StateView) (ys : List Line) → first_line (ban_lines e s ++ ys) ≡ first_line (ban_lines e s)
unfolding ban_lines
ban_lines-decide e s ys = first_line-ends (ban_lines e s) ys refl

pub knock_lines-decide : (e : Event) (s : StateView) (ys : List Line) → first_line (knock_lines e s ++ ys) ≡ first_line (knock_lines e s)
unfolding knock_lines
knock_lines-decide e s ys = first_line-ends (knock_lines e s) ys refl

pub third_party_invite_lines-decide : (e : Event) (s : StateView) (ys : List Line) → first_line (third_party_invite_lines e s ++ ys) ≡ first_line (third_party_invite_lines e s)
unfolding third_party_invite_lines
third_party_invite_lines-decide e s ys = first_line-ends (third_party_invite_lines e s) ys refl

-- ---- the lines of member events, by the membership

-- all but the last
abbrev member_by : Bool → Bool → Option (List ℕ) → List Line → List Line → List Line → List Line → List Line → List Line
member_by knocks keyless m join invite leave ban knock =
    reject_if MemberIncomplete (keyless || is_none m)
    ∷ where_so (is_text (codes "join") m) join
    ++ where_so (is_text (codes "invite") m) invite
    ++ where_so (is_text (codes "leave") m) leave
    ++ where_so (is_text (codes "ban") m) ban
    ++ where_so (is_text (codes "knock") m && knocks) knock

member_lines-by : (v : RoomVersion) (e : Event) (s : StateView) → member_lines v e s ≡ member_by (has_knocks v) (is_none (state_key_of e)) (membership_of e) (join_lines v e s) (invite_lines e s) (leave_lines v e s) (ban_lines e s) (knock_lines e s) ++ reject MembershipUnknown ∷ []
unfolding member_lines
member_lines-by v e s = refl

pub member_lines-decide : (v : RoomVersion) (e : Event) (s : StateView) (ys : List Line) → first_line (member_lines v e s ++ ys) ≡ first_line (member_lines v e s)
member_lines-decide v e s ys =
    let front = member_by (has_knocks v) (is_none (state_key_of e)) (membership_of e) (join_lines v e s) (invite_lines e s) (leave_lines v e s) (ban_lines e s) (knock_lines e s) in
    ap (λ xs. first_line (xs ++ ys)) (member_lines-by v e s)
    ∙ ap first_line (append_assoc front (reject MembershipUnknown ∷ []) ys)
    ∙ first_line-reject front MembershipUnknown ys
    ∙ ap first_line (sym (member_lines-by v e s))

member_lines-at : (v : RoomVersion) (e : Event) (s : StateView) (keyless : Bool) (m : Option (List ℕ)) → is_none (state_key_of e) ≡ keyless → membership_of e ≡ m
    → first_line (member_lines v e s) ≡ first_line (member_by (has_knocks v) keyless m (join_lines v e s) (invite_lines e s) (leave_lines v e s) (ban_lines e s) (knock_lines e s) ++ reject MembershipUnknown ∷ [])
member_lines-at v e s keyless m h k =
    ap first_line (member_lines-by v e s)
    ∙ ap₂ (λ a b. first_line (member_by (has_knocks v) a b (join_lines v e s) (invite_lines e s) (leave_lines v e s) (ban_lines e s) (knock_lines e s) ++ reject MembershipUnknown ∷ [])) h k

one-nil : (xs : List Line) → first_line ((xs ++ []) ++ reject MembershipUnknown ∷ []) ≡ first_line (xs ++ reject MembershipUnknown ∷ [])
one-nil xs = ap (λ ys. first_line (ys ++ reject MembershipUnknown ∷ [])) (append-nil xs)

pub member_lines-join : (v : RoomVersion) (e : Event) (s : StateView) → is_none (state_key_of e) ≡ false → membership_of e ≡ Some (codes "join") → first_line (member_lines v e s) ≡ first_line (join_lines v e s)
member_lines-join v e s h k =
    let lines = join_lines v e s in
    member_lines-at v e s _ _ h k ∙ one-nil (((lines ++ []) ++ []) ++ []) ∙ one-nil ((lines ++ []) ++ []) ∙ one-nil (lines ++ []) ∙ one-nil lines ∙ join_lines-decide v e s _

pub member_lines-invite : (v : RoomVersion) (e : Event) (s : StateView) → is_none (state_key_of e) ≡ false → membership_of e ≡ Some (codes "invite") → first_line (member_lines v e s) ≡ first_line (invite_lines e s)
member_lines-invite v e s h k =
    let lines = invite_lines e s in
    member_lines-at v e s _ _ h k ∙ one-nil ((lines ++ []) ++ []) ∙ one-nil (lines ++ []) ∙ one-nil lines ∙ invite_lines-decide e s _

pub member_lines-leave : (v : RoomVersion) (e : Event) (s : StateView) → is_none (state_key_of e) ≡ false → membership_of e ≡ Some (codes "leave") → first_line (member_lines v e s) ≡ first_line (leave_lines v e s)
member_lines-leave v e s h k =
    let lines = leave_lines v e s in
    member_lines-at v e s _ _ h k ∙ one-nil (lines ++ []) ∙ one-nil lines ∙ leave_lines-decide v e s _

pub member_lines-ban : (v : RoomVersion) (e : Event) (s : StateView) → is_none (state_key_of e) ≡ false → membership_of e ≡ Some (codes "ban") → first_line (member_lines v e s) ≡ first_line (ban_lines e s)
member_lines-ban v e s h k = member_lines-at v e s _ _ h k ∙ one-nil (ban_lines e s) ∙ ban_lines-decide e s _

pub member_lines-knock : (v : RoomVersion) (e : Event) (s : StateView) → has_knocks v ≡ true → is_none (state_key_of e) ≡ false → membership_of e ≡ Some (codes "knock") → first_line (member_lines v e s) ≡ first_line (knock_lines e s)
member_lines-knock v e s n h k =
    member_lines-at v e s _ _ h k ∙ ap (λ b. first_line (where_so b (knock_lines e s) ++ reject MembershipUnknown ∷ [])) n ∙ knock_lines-decide e s _
