-- The text of an object, its places and its members so far.
use Rattle.std.proofs.Common.{◌≡◌, ℕ, suc, ◌+◌, ◌-◌, ◌<◌, Bool, true, false, List, [], ◌∷◌, ◌++◌, length, length-append}
use Rattle.std.proofs.Common.{Option, Some, None, refl, sym, ap, ap₂, ◌∙◌, arith, is_some}
use Rattle.std.specs.Prelude.{if◌then◌else◌}
use Rattle.json.specs.Json.{read_key, value}
use Rattle.json.proofs.Grammar.{read_key-shorter}
use Rattle.json.specs.Print.{quoted}
use Rattle.json.specs.Token.{Token}
use Rattle.serde_json.specs.Data.{Data, Members, no_members, member, object, put}
use Rattle.serde_json.specs.Read.{of_json, converted}
use Rattle.serde_json.specs.Written.{comma_if}
use Rattle.mx_canon.specs.Canonical.{canonical_text, member_text, string_text}
use Rattle.mx_canon.proofs.TextLemmas.{quotation_same}
use Rattle.mx_redact.specs.EventKeys.{key_of}
use Rattle.mx_redact.specs.Places.{place_of, places_from}
use Rattle.mx_redact.specs.declared.event_keys.EventKey.{EventKey}
use Rattle.mx_redact.specs.declared.places.MemberPlace.{MemberPlace}
use Rattle.mx_event_reading.specs.InOrder.{IsAbove, IsAppended, has_comma, key_text}
use Rattle.mx_event_reading.specs.OpenTexts.{IsBegun, IsEnded, IsMember, IsMemberIf, IsOpened, has_some, is_later, next_of, start_of}
use Rattle.mx_event_reading.specs.declared.open_texts.MemberStart.{MemberStart}
use Rattle.mx_event_reading.specs.declared.open_texts.OpenText.{OpenText}
use Rattle.mx_event_reading.proofs.InOrderLemmas.{AreBelow, MembersAppended, above, appended_begin, appended_end, appended_more, object_appended}

-- ---- one member

pub member-read : (key : EventKey) (name : List ℕ) (depth : ℕ) (d : Data) (before one two after : OpenText)
    (begun : MemberStart) (old mid new : List Token) → IsBegun name before one begun
    → IsAppended d (converted of_json (value depth old)) mid one.bytes.items two.bytes.items
    → two.places.items ≡ one.places.items → length mid < length old → IsEnded key begun two after mid new
    → IsMember key name depth d before after old new
member-read key name depth d before one two after begun old mid new b a same less e =
    let text = a.1 ∙ ap (λ x. x ++ canonical_text d) b.bytes_are in
    let valued = b.value_is ∙ ap length b.bytes_are in
    let ended = ap length (sym e.same_bytes) in
    let place : MemberPlace = record { key = key; start = begun.start; value = begun.value; end = length two.bytes.items } in
    record {
      named = b.named;
      utf8 = b.utf8;
      rest = mid;
      read = a.0;
      shorter = less;
      next_is = e.next_is;
      bytes_are = e.same_bytes ∙ text;
      places_are = e.places_are ∙ ap (λ ps. ps ++ place ∷ []) (same ∙ b.same_places)
          ∙ ap (λ p. before.places.items ++ p ∷ [])
          (λ i. record { key = key; start = b.start_is i; value = valued i; end = ended i });
    }

-- ---- the places

-- how many bytes the members take, each with one byte behind it
abbrev pub span : Members → ℕ
span no_members = 0
span (member k d ms) = (length (member_text (k, canonical_text d)) + 1) + span ms

abbrev at_place : ℕ → List ℕ → Data → List MemberPlace
at_place at k d = place_of at k d ∷ []

places-put : (at : ℕ) (k : List ℕ) (d : Data) (ms : Members) → AreBelow k ms
    → places_from at (put k d ms) ≡ places_from at ms ++ at_place (at + span ms) k d
places-put at k d no_members h = ap (λ n. at_place n k d) (omega arith)
places-put at k d (member l e ms) h =
    let wide = length (member_text (l, canonical_text e)) in
    let more : at + wide + 1 + span ms ≡ at + ((wide + 1) + span ms) = omega arith in
    rw (above k l h.0) (ap (λ ps. place_of at l e ∷ ps) (places-put (at + wide + 1) k d ms h.1
    ∙ ap (λ n. places_from (at + wide + 1) ms ++ at_place n k d) more))

span-put : (k : List ℕ) (d : Data) (ms : Members) → AreBelow k ms
    → span (put k d ms) ≡ span ms + (length (member_text (k, canonical_text d)) + 1)
span-put k d no_members h = omega arith
span-put k d (member l e ms) h =
    let more = span-put k d ms h.1 in
    rw (above k l h.0) (omega (arith, more))

comma-places : (at : ℕ) (ms : Members) → has_some (places_from at ms) ≡ has_comma false ms
comma-places at no_members = refl
comma-places at (member k d ms) = refl

has_some-more : (ps : List MemberPlace) (p : MemberPlace) → has_some (ps ++ p ∷ []) ≡ true
has_some-more [] p = refl
has_some-more (q ∷ ps) p = refl

comma-length : (b : Bool) → length (comma_if b) ≡ (if b then 1 else 0)
comma-length true = refl
comma-length false = refl

-- ---- what was read so far

pub record IsSoFar (depth : ℕ) (first tokens : List Token) (last : Option (List ℕ)) (old : Members) (text : OpenText) : Type 0 where
  pub now : List Token
  pub next_is : read_key now ≡ Some (next_of text, tokens)
  pub appended : MembersAppended (value depth) first now last old [] text.bytes.items
  pub places_are : text.places.items ≡ places_from 1 old
  pub begins : start_of text ≡ 1 + span old

pub so_far-begin : (depth : ℕ) (old new : List Token) (text : OpenText) (h : IsOpened old new text)
    → IsSoFar depth h.inside new None no_members text
so_far-begin depth old new text h = record {
  now = h.inside;
  next_is = h.next_is;
  appended = rw h.bytes_are (appended_begin (value depth) [] h.inside);
  places_are = h.no_places;
  begins = rw (h.bytes_are, h.no_places) refl;
}

module _ (depth : ℕ) (first tokens new : List Token) (last : Option (List ℕ)) (old : Members) (before after : OpenText)
    (key : EventKey) (k : List ℕ) (d : Data) where
  pub so_far-more : IsSoFar depth first tokens last old before → IsMember key k depth d before after tokens new
      → IsAbove k last → key ≡ key_of k → IsSoFar depth first new (Some k) (put k d old) after
  so_far-more h m higher is =
      let below = h.appended.order.below k higher in
      let later : is_later before ≡ is_some last =
      ap has_some h.places_are ∙ comma-places 1 old ∙ sym h.appended.order.comma in
      let named : read_key h.now ≡ Some (Some k, tokens) = h.next_is ∙ ap (λ o. Some (o, tokens)) m.named in
      let bytes = ap (λ b. (before.bytes.items ++ key_text b k) ++ canonical_text d) later in
      let wide = length (member_text (k, canonical_text d)) in
      let valued : length (before.bytes.items ++ key_text (is_later before) k)
      ≡ (1 + span old) + (length (string_text k) + 1) = (
      length-append before.bytes.items (key_text (is_later before) k)
      ∙ ap (λ n. length before.bytes.items + n) (length-append (comma_if (is_later before)) (quoted k ++ 58 ∷ [])
      ∙ ap₂ (λ a b. a + b) (comma-length (is_later before)) (length-append (quoted k) (58 ∷ [])
      ∙ ap (λ q. length q + 1) (sym (quotation_same k))))
      ∙ grouped (length before.bytes.items) (if is_later before then 1 else 0) (length (string_text k) + 1)
      ∙ ap (λ n. n + (length (string_text k) + 1)) h.begins) in
      let ended : length after.bytes.items ≡ (1 + span old) + wide = (
      ap length m.bytes_are
      ∙ length-append (before.bytes.items ++ key_text (is_later before) k) (canonical_text d)
      ∙ ap (λ n. n + length (canonical_text d)) valued
      ∙ sum (1 + span old) (length (string_text k)) (length (canonical_text d))
      ∙ ap (λ n. (1 + span old) + n) (sym (length-append (string_text k) (58 ∷ canonical_text d)))) in
      let placed : after.places.items ≡ places_from 1 (put k d old) = (
      m.places_are ∙ ap (λ ps. ps ++ (record {
        key = key;
        start = start_of before;
        value = length (before.bytes.items ++ key_text (is_later before) k);
        end = length after.bytes.items;
      }) ∷ [])
      h.places_are
      ∙ ap (λ p. places_from 1 old ++ p ∷ [])
      (λ i. record { key = is i; start = h.begins i; value = valued i; end = ended i })
      ∙ sym (places-put 1 k d old below)) in
      let some : is_later after ≡ true = ap has_some m.places_are ∙ has_some-more before.places.items _ in
      record {
        now = m.rest;
        next_is = m.next_is;
        appended = appended_more (value depth) [] first h.now last old before.bytes.items h.appended tokens m.rest k d
            after.bytes.items named higher m.utf8 (m.read, m.bytes_are ∙ bytes) m.shorter;
        places_are = placed;
        begins = ap₂ (λ n b. n + (if b then 1 else 0)) ended some
            ∙ over (span old) wide ∙ ap (λ n. 1 + n) (sym (span-put k d old below));
      }
    where
      grouped : (a b c : ℕ) → a + (b + c) ≡ (a + b) + c
      grouped a b c = omega arith

      sum : (a b c : ℕ) → (a + (b + 1)) + c ≡ a + (b + suc c)
      sum a b c = omega arith

      over : (a b : ℕ) → ((1 + a) + b) + 1 ≡ 1 + (a + (b + 1))
      over a b = omega arith

-- ---- a member that may be there

abbrev pub put_if : List ℕ → Option Data → Members → Members
put_if k None ms = ms
put_if k (Some d) ms = put k d ms

abbrev pub last_if : List ℕ → Option Data → Option (List ℕ) → Option (List ℕ)
last_if k None last = last
last_if k (Some d) last = Some k

pub above_if : (x k : List ℕ) (d : Option Data) (last : Option (List ℕ)) → IsAbove x last → IsAbove x (Some k)
    → IsAbove x (last_if k d last)
above_if x k None last h here = h
above_if x k (Some d) last h here = here

module _ (depth : ℕ) (first tokens new : List Token) (last : Option (List ℕ)) (old : Members) (before after : OpenText)
    (key : EventKey) (k : List ℕ) where
  pub so_far-if : (d : Option Data) → IsSoFar depth first tokens last old before
      → IsMemberIf key k depth d before after tokens new → IsAbove k last → key ≡ key_of k
      → IsSoFar depth first new (last_if k d last) (put_if k d old) after
  so_far-if None h m higher is = rw (m.0, m.1) h
  so_far-if (Some d) h m higher is = so_far-more depth first tokens new last old before after key k d h m higher is

-- ---- the end

pub so_far-end : (depth : ℕ) (before first tokens : List Token) (last : Option (List ℕ)) (old : Members) (text : OpenText)
    (bytes : List ℕ) → before ≡ Token.begin_object ∷ first → IsSoFar depth first tokens last old text
    → next_of text ≡ None → bytes ≡ text.bytes.items ++ 125 ∷ []
    → IsAppended (object old) (converted of_json (value (depth + 1) before)) tokens [] bytes
so_far-end depth before first tokens last old text bytes opened h over closed =
    let none : read_key h.now ≡ Some (None, tokens) = h.next_is ∙ ap (λ o. Some (o, tokens)) over in
    let all = appended_end (value depth) [] first h.now last old text.bytes.items h.appended tokens none in
    let same : depth + 1 - 1 ≡ depth = omega arith in
    rw opened (object_appended (depth + 1) first tokens old [] bytes (omega arith)
    (rw same (all.0, closed ∙ all.1)))

pub so_far-shorter : (depth : ℕ) (before first tokens : List Token) (last : Option (List ℕ)) (old : Members) (text : OpenText)
    → before ≡ Token.begin_object ∷ first → IsSoFar depth first tokens last old text → length tokens < length before
so_far-shorter depth before first tokens last old text opened h =
    let less = read_key-shorter h.now (next_of text) tokens h.next_is in
    let most = h.appended.order.read.shorter in
    rw opened (omega arith)
