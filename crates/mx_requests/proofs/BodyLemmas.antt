-- The body of a fault, piece by piece.
use Rattle.std.proofs.Common.{◌≡◌, ℕ, List, ◌∷◌, ◌++◌, codes, refl, append_assoc, false, true}
use Rattle.serde_json.specs.Data.{object, string, Members, no_members, member}
use Rattle.std.specs.Str.{chars}
use Rattle.mx_canon.specs.Canonical.{canonical_text, string_text, member_text}
use Rattle.mx_canon.specs.Pieces.{comma_if}
use Rattle.mx_auth.specs.Versions.{version_text}
use Rattle.mx_auth.specs.declared.versions.RoomVersion.{RoomVersion}
use Rattle.mx_auth.specs.declared.versions.RoomVersion.TheVariants.{V6, V7}
use Rattle.mx_room.specs.declared.queries.Denied.TheVariants as denied
use Rattle.mx_requests.specs.declared.faults.Fault.{Fault}
use Rattle.mx_requests.specs.declared.faults.Fault.TheVariants.{NotJson, WrongForm, Missing, Invalid, NoOrigin, WrongDestination, Denied, Refused, UnknownPath, UnknownMethod, TooLarge, Memory, Storage, Busy}
use Rattle.mx_requests.specs.Faults.{fault_body, fault_code, fault_text}
use Rattle.mx_requests.specs.Bodies.{body_end}

-- what is written before the end
abbrev pub written : List ℕ → List ℕ → List ℕ → List ℕ
written taken code text =
    (((((taken ++ codes "{") ++ comma_if false) ++ (string_text (codes "errcode") ++ codes ":")) ++ string_text code)
    ++ comma_if true ++ (string_text (codes "error") ++ codes ":"))
    ++ string_text text

abbrev with_more : List ℕ → List ℕ → Members → List ℕ
with_more code text more =
    canonical_text (object (member (codes "errcode") (string code) (member (codes "error") (string text) more)))

-- the texts of two members
abbrev pair : List ℕ → List ℕ → List ℕ
pair code text = member_text (codes "errcode", string_text code) ++ 44 ∷ member_text (codes "error", string_text text)

two : (taken code text : List ℕ) → written taken code text ++ codes "}" ≡ taken ++ with_more code text no_members
unfolding canonical_text chars
two taken code text =
    let flat : with_more code text no_members ≡ codes "{" ++ (pair code text ++ codes "}") = refl in
    rw flat simp (append_assoc)

three : (taken code text : List ℕ) (v : RoomVersion) → written taken code text ++ body_end (Denied (denied.WrongVersion v)) ≡ taken ++ with_more code text (member (codes "room_version") (string (version_text v)) no_members)
unfolding canonical_text chars
three taken code text V6 =
    let flat : with_more code text (member (codes "room_version") (string (codes "6")) no_members) ≡ codes "{" ++ (member_text (codes "errcode", string_text code) ++ 44 ∷ (member_text (codes "error", string_text text) ++ 44 ∷ member_text (codes "room_version", string_text (codes "6"))) ++ codes "}") = refl in
    rw flat simp (append_assoc)
three taken code text V7 =
    let flat : with_more code text (member (codes "room_version") (string (codes "7")) no_members) ≡ codes "{" ++ (member_text (codes "errcode", string_text code) ++ 44 ∷ (member_text (codes "error", string_text text) ++ 44 ∷ member_text (codes "room_version", string_text (codes "7"))) ++ codes "}") = refl in
    rw flat simp (append_assoc)

pub whole : (taken : List ℕ) (f : Fault) → written taken (fault_code f) (fault_text f) ++ body_end f ≡ taken ++ fault_body f
whole taken NotJson = two taken _ _
whole taken WrongForm = two taken _ _
whole taken (Missing parameter) = two taken _ _
whole taken (Invalid part) = two taken _ _
whole taken NoOrigin = two taken _ _
whole taken WrongDestination = two taken _ _
whole taken (Denied denied.AccessList) = two taken _ _
whole taken (Denied denied.NotInRoom) = two taken _ _
whole taken (Denied denied.NotFound) = two taken _ _
whole taken (Denied denied.OtherServer) = two taken _ _
whole taken (Denied (denied.WrongVersion version)) = three taken _ _ version
whole taken (Denied (denied.Rule rule)) = two taken _ _
whole taken (Refused refusal) = two taken _ _
whole taken UnknownPath = two taken _ _
whole taken UnknownMethod = two taken _ _
whole taken TooLarge = two taken _ _
whole taken Memory = two taken _ _
whole taken Storage = two taken _ _
whole taken Busy = two taken _ _
