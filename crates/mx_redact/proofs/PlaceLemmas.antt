-- The members of an object at their places in its text.
use Rattle.std.proofs.Common.{◌≡◌, ℕ, ◌+◌, ◌^◌, ◌<◌, ◌≤◌, List, [], ◌∷◌, ◌++◌, All, length, drop, false, true, sym, ap, ◌∙◌, length-append, append_assoc, subst, string_bytes, arith, Bool}
use Rattle.std.specs.List.Sorted.{IsStrictlySortedBy}
use Rattle.std.proofs.Math.Nat.{min-eq_left}
use Rattle.std.proofs.lemmas.List.Elements.{All-nil, All-cons}
use Rattle.std.specs.Map.{keys_of}
use Rattle.std.specs.String.{string_cmp}
use Rattle.serde_json.specs.Data.{Members, no_members, member}
use Rattle.serde_json.specs.View.{view, members_view}
use Rattle.serde_json.proofs.Views.{Entry}
use Rattle.mx_canon.specs.Canonical.{canonical_text, string_text}
use Rattle.mx_canon.specs.KeyOrder.{keys, text_cmp}
use Rattle.mx_canon.specs.Sinks.{counted}
use Rattle.mx_canon.proofs.KeyLemmas.{keys-members_view}
use Rattle.mx_redact.specs.EventKeys.{key_of}
use Rattle.mx_redact.specs.PartTexts.{IsWithin}
use Rattle.mx_redact.specs.Places.{ArePlaces, place_of, places_from}
use Rattle.mx_redact.specs.declared.event_keys.EventKey.{EventKey}
use Rattle.mx_redact.specs.declared.places.MemberPlace.{MemberPlace}
use Rattle.mx_redact.proofs.TextPieceLemmas.{opened, pieces, piece, length-piece, piece-after, piece-fits}

-- before the first member
pub opened-first : (text : List ℕ) (places : List MemberPlace) (ms : Members) → ArePlaces text places ms
    → drop 0 text ≡ opened false (pieces ms)
unfolding canonical_text
opened-first text places ms are = are.text_is

within-from : (text : List ℕ) (at : ℕ) (later : Bool) (ms : Members) → IsStrictlySortedBy text_cmp (keys ms)
    → drop at text ≡ opened later (pieces ms) → All (IsWithin text) (places_from (at + 1) ms)
unfolding IsStrictlySortedBy
within-from text at later no_members rise here = All-nil (IsWithin text)
within-from text at later (member k d ms) rise here =
    let fits = piece-fits text at later k d ms rise here in
    let long = length-piece k d in
    All-cons (IsWithin text) _ _ (omega arith, omega arith, omega (arith, long), omega (arith, fits))
    (within-from text (at + 1 + length (piece k d)) true ms rise.1 (piece-after text at later k d ms rise here))

pub places-within : (text : List ℕ) (places : List MemberPlace) (ms : Members) → ArePlaces text places ms
    → All (IsWithin text) places
places-within text places ms are = subst (All (IsWithin text)) (sym are.places_are) (within-from text 0 false ms are.rise (opened-first text places ms are))

-- a place as a loop notes it
abbrev pub noted : EventKey → ℕ → ℕ → ℕ → MemberPlace
noted x start value end = record { key = x; start = start; value = value; end = end }

-- the next member, of so many bytes before its value and in it
module _ (text : List ℕ) (at m : ℕ) (later : Bool) (es : List Entry) (e : Entry) (more : List Entry) (step : es ≡ e ∷ more)
    (sorted : IsStrictlySortedBy string_cmp (keys_of es)) (opens : drop at text ≡ opened later (pieces (members_view es)))
    (key_long : m ≡ counted (length (string_text (string_bytes e.0) ++ 58 ∷ []))) (small : length text < 2 ^ 64) where
  both : IsStrictlySortedBy string_cmp (keys_of (e ∷ more))
  both = subst (λ fs. IsStrictlySortedBy string_cmp (keys_of fs)) step sorted

  rise : IsStrictlySortedBy text_cmp (keys (member (string_bytes e.0) (view e.1) (members_view more)))
  rise = keys-members_view (e ∷ more) both

  here : drop at text ≡ opened later (pieces (member (string_bytes e.0) (view e.1) (members_view more)))
  here = opens ∙ ap (λ fs. opened later (pieces (members_view fs))) step

  fits : at + 1 + length (piece (string_bytes e.0) (view e.1)) ≤ length text
  fits = piece-fits text at later (string_bytes e.0) (view e.1) (members_view more) rise here

  key-exact : m ≡ length (string_text (string_bytes e.0)) + 1
  key-exact =
      let l = length-piece (string_bytes e.0) (view e.1) in
      let a = length-append (string_text (string_bytes e.0)) (58 ∷ []) in
      key_long ∙ min-eq_left (omega (arith, fits, l, a, small)) ∙ a

  pub begin-fits : at + 1 + m ≤ length text
  begin-fits = omega (arith, fits, key-exact, length-piece (string_bytes e.0) (view e.1))

  pub next-sorted : IsStrictlySortedBy string_cmp (keys_of more)
  unfolding IsStrictlySortedBy
  next-sorted = both.1

  module _ (n : ℕ) (long : n ≡ counted (length (canonical_text (view e.1)))) where
    value-exact : n ≡ length (canonical_text (view e.1))
    value-exact =
        let l = length-piece (string_bytes e.0) (view e.1) in
        long ∙ min-eq_left (omega (arith, fits, l, small))

    end-exact : at + 1 + m + n ≡ at + 1 + length (piece (string_bytes e.0) (view e.1))
    end-exact = omega (arith, key-exact, value-exact, length-piece (string_bytes e.0) (view e.1))

    pub next-fits : at + 1 + m + n ≤ length text
    next-fits = omega (arith, fits, end-exact)

    pub next-after : drop (at + 1 + m + n) text ≡ opened true (pieces (members_view more))
    next-after = ap (λ i. drop i text) end-exact ∙ piece-after text at later (string_bytes e.0) (view e.1) (members_view more) rise here

    place-is : (x : EventKey) → x ≡ key_of (string_bytes e.0)
        → noted x (at + 1) (at + 1 + m) (at + 1 + m + n) ≡ place_of (at + 1) (string_bytes e.0) (view e.1)
    place-is x is =
        ap (λ y. noted y (at + 1) (at + 1 + m) (at + 1 + m + n)) is
        ∙ ap (λ i. noted (key_of (string_bytes e.0)) (at + 1) (at + 1 + m) i) end-exact
        ∙ ap (λ i. noted (key_of (string_bytes e.0)) (at + 1) (at + 1 + i) (at + 1 + length (piece (string_bytes e.0) (view e.1)))) key-exact

    pub next-place : (x : EventKey) (places all : List MemberPlace) → x ≡ key_of (string_bytes e.0)
        → places ++ places_from (at + 1) (members_view es) ≡ all
        → (places ++ noted x (at + 1) (at + 1 + m) (at + 1 + m + n) ∷ []) ++ places_from (at + 1 + m + n + 1) (members_view more) ≡ all
    next-place x places all is whole =
        append_assoc places (noted x (at + 1) (at + 1 + m) (at + 1 + m + n) ∷ []) (places_from (at + 1 + m + n + 1) (members_view more))
        ∙ ap (λ p. places ++ p ∷ places_from (at + 1 + m + n + 1) (members_view more)) (place-is x is)
        ∙ ap (λ i. places ++ place_of (at + 1) (string_bytes e.0) (view e.1) ∷ places_from (i + 1) (members_view more)) end-exact
        ∙ ap (λ fs. places ++ places_from (at + 1) (members_view fs)) (sym step)
        ∙ whole
