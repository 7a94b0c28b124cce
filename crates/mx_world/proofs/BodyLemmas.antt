-- The texts of a transaction's reply: they hold no number, so the body has a canonical text.
use Rattle.std.proofs.Common.{◌≡◌, ℕ, List, [], ◌∷◌, ◌++◌, refl, sym, ◌∙◌, ap, drop, length, ◌<◌, ◌+◌, get_or, Option, Some, None, Less, Equal, Greater, String, Global}
use Rattle.std.specs.Prelude.{fold, codes, if◌then◌else◌, string_bytes}
use Rattle.std.specs.List.{list_any, list_all}
use Rattle.std.specs.Cmp.Lexicographic.{slice_cmp}
use Rattle.std.specs.Ordering.{nat_cmp, match_ordering}
use Rattle.std.proofs.lemmas.List.{drop_more}
use Rattle.serde_json.specs.Data.{Num, Data, object, Members, no_members, member, put}
use Rattle.serde_json.specs.Find.{is_float}
use Rattle.std.specs.BTreeMap.{BTreeMap, insert_entry}
use Rattle.std.specs.String.{string_cmp}
use Rattle.serde_json.specs.View.{view, members_view}
use Rattle.serde_json.specs.declared.value.Value.{Value, Object}
use Rattle.serde_json.proofs.Views.{Entry, view-Object, members_view-insert_entry}
use Rattle.mx_canon.specs.Canonical.{numbers, member_numbers, is_exact, canonical_error}
use Rattle.mx_canon.specs.declared.checking.NotCanonical.TheVariants.{Float, Range}
use Rattle.mx_world.specs.Replies.{text_of, texts_of}
use Rattle.mx_receipt.specs.declared.verdicts.Verdict.TheVariants.{Accepted, SoftFailed, Rejected}
use Rattle.mx_room.specs.declared.outcomes.Outcome.{Outcome}
use Rattle.mx_room.specs.declared.outcomes.Outcome.TheVariants.{Kept, Known, Refused}
use Rattle.mx_room.specs.declared.outcomes.Refusal.TheVariants.{AccessList, SecondCreate, Signature, MissingEvents, RoomFull}
use Rattle.mx_world.specs.declared.answers.Told.{Told}

text_numbers : (o : Option Outcome) → numbers (text_of o) ≡ []
text_numbers None = refl
text_numbers (Some (Kept Accepted)) = refl
text_numbers (Some (Kept (SoftFailed rule))) = refl
text_numbers (Some (Kept (Rejected rule))) = refl
text_numbers (Some (Known Accepted)) = refl
text_numbers (Some (Known (SoftFailed rule))) = refl
text_numbers (Some (Known (Rejected rule))) = refl
text_numbers (Some (Refused AccessList)) = refl
text_numbers (Some (Refused SecondCreate)) = refl
text_numbers (Some (Refused Signature)) = refl
text_numbers (Some (Refused MissingEvents)) = refl
text_numbers (Some (Refused RoomFull)) = refl

none_left : (xs ys : List Num) → xs ++ ys ≡ [] → xs ≡ []
none_left [] ys h = refl
none_left (x ∷ xs) ys h = cc

none_right : (xs ys : List Num) → xs ++ ys ≡ [] → ys ≡ []
none_right [] ys h = h
none_right (x ∷ xs) ys h = cc

both_none : (xs ys : List Num) → xs ≡ [] → ys ≡ [] → xs ++ ys ≡ []
both_none xs ys h k = ap (λ zs. zs ++ ys) h ∙ k

put_numbers : (k : List ℕ) (d : Data) (ms : Members) → numbers d ≡ [] → member_numbers ms ≡ [] → member_numbers (put k d ms) ≡ []
put_numbers k d no_members h m = both_none (numbers d) [] h refl
put_numbers k d (member l e ms) h m =
    let rest : member_numbers ms ≡ [] = none_right (numbers e) (member_numbers ms) m in
    elim (slice_cmp nat_cmp k l) as (λ o. member_numbers (match_ordering o (member k d (member l e ms)) (member l d ms) (member l e (put k d ms))) ≡ []) [
      | Less ↦ both_none (numbers d) (numbers e ++ member_numbers ms) h m
      | Equal ↦ both_none (numbers d) (member_numbers ms) h rest
      | Greater ↦ both_none (numbers e) (member_numbers (put k d ms)) (none_left (numbers e) (member_numbers ms) m) (put_numbers k d ms h rest)
    ]

abbrev pub with_text : Members → Told → Members
with_text ms t = put t.id (text_of t.outcome) ms

texts_numbers : (told : List Told) (ms : Members) → member_numbers ms ≡ [] → member_numbers (fold with_text ms told) ≡ []
texts_numbers [] ms h = h
texts_numbers (t ∷ told) ms h = texts_numbers told (with_text ms t) (put_numbers t.id (text_of t.outcome) ms (text_numbers t.outcome) h)

canonical_without : (ns : List Num) → ns ≡ [] → (if list_any is_float ns then Some Float else (if list_all is_exact ns then None else Some Range)) ≡ None
canonical_without ns h = ap (λ (xs : List Num). if list_any is_float xs then Some Float else (if list_all is_exact xs then None else Some Range)) h

pub body_canonical : (told : List Told) (d : Data) → d ≡ object (member (codes "pdus") (texts_of told) no_members) → canonical_error d ≡ None
body_canonical told d is =
    canonical_without (numbers d) (ap numbers is ∙ both_none (member_numbers (fold with_text no_members told)) [] (texts_numbers told no_members refl) refl)

-- one more text
pub texts_more : (told : List Told) (ms : Members) (n : ℕ) (t : Told) → n < length told → t ≡ get_or told n t → fold with_text ms (drop n told) ≡ fold with_text no_members told →
    fold with_text (with_text ms t) (drop (n + 1) told) ≡ fold with_text no_members told
texts_more told ms n t l is so_far =
    ap (fold with_text ms) (ap (λ x. x ∷ drop (n + 1) told) is ∙ sym (drop_more told n t l)) ∙ so_far

pub body_value : (told : List Told) (m texts : BTreeMap (String Global) Value) (es : List Entry) (k : String Global) → es ≡ [] → m.entries ≡ insert_entry string_cmp es k (Object texts) →
    string_bytes k ≡ codes "pdus" → object (members_view texts.entries) ≡ texts_of told → view (Object m) ≡ object (member (codes "pdus") (texts_of told) no_members)
body_value told m texts es k empty e key t =
    view-Object m
    ∙ ap object
    (ap members_view e ∙ members_view-insert_entry es k (Object texts)
    ∙ ap (λ xs. put (string_bytes k) (view (Object texts)) (members_view xs)) empty
    ∙ ap (λ b. member b (view (Object texts)) no_members) key
    ∙ ap (λ (d : Data). member (codes "pdus") d no_members) (view-Object texts ∙ t))
