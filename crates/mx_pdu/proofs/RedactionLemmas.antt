-- The redacted form of a well-formed event is well formed, and names the same ids.
use Rattle.std.proofs.Common.{◌≡◌, ℕ, ◌≤◌, List, length, Bool, true, false, not, ◌&&◌, refl, sym, ap, ◌∙◌, arith, true≢false, Option, Some, None, option_map, IsTrue, is_none, option_and_then, []}
use Rattle.std.specs.Prelude.{codes, bytes_eq, nat_lt, unwrap_or, filter_map}
use Rattle.std.specs.List.{list_all}
use Rattle.std.proofs.lemmas.Bool.Decides.{nat_tests}
use Rattle.serde_json.specs.Data.{Data, null, boolean, number, string, array, object, Members, no_items}
use Rattle.serde_json.specs.Find.{get_member, as_str, as_array}
use Rattle.mx_canon.specs.Canonical.{canonical_text, is_canonical, value_text}
use Rattle.mx_canon.specs.KeyOrder.{KeysRise}
use Rattle.mx_ident.specs.Identifier.{refuse_if, user_id_error, room_id_error}
use Rattle.mx_redact.specs.Fields.{Event, field, kind, is_object, item_list, is_some_and, is_none_or}
use Rattle.mx_redact.specs.Redaction.{is_among, kept_keys, members_where, redacted_content, with_redacted_content, redact}
use Rattle.mx_pdu.specs.Format.{is_well_formed, format_error, has_fields, is_within_limits, longest_text, is_string, is_integer, is_id, is_event_id_list, is_short, is_short_list, is_depth, limits, has_readable_nesting}
use Rattle.mx_pdu.specs.Event.{room_of, sender_of, prev_ids, auth_ids}
use Rattle.mx_pdu.proofs.FormatLemmas.{IsFormed, formed, and-left, and-right, and-both}
use Rattle.mx_pdu.proofs.NestingLemmas.{redact-nests}
use Rattle.mx_pdu.proofs.LookupLemmas.{get-where, get-with, get-content}
use Rattle.mx_pdu.proofs.RiseLemmas.{exact-where, exact-with, object-where, object-with}
use Rattle.mx_pdu.proofs.LengthLemmas.{where-shorter, with-shorter}

-- ---- fields

get-kept : (type k : List ℕ) (ms : Members) → is_among kept_keys k ≡ true → bytes_eq k (codes "content") ≡ false
    → get_member k (with_redacted_content type (members_where (is_among kept_keys) ms)) ≡ get_member k ms
get-kept type k ms kept other = get-with type k (members_where (is_among kept_keys) ms) other ∙ get-where (is_among kept_keys) k ms kept

pub kept-field : (k : List ℕ) (e : Event) → is_among kept_keys k ≡ true → bytes_eq k (codes "content") ≡ false → field k (redact e) ≡ field k e
unfolding redact
kept-field k null kept other = refl
kept-field k (boolean b) kept other = refl
kept-field k (number n) kept other = refl
kept-field k (string s) kept other = refl
kept-field k (array ds) kept other = refl
kept-field k (object ms) kept other = get-kept (kind (object ms)) k ms kept other

same_kind : (type : List ℕ) (d : Data) → is_object (redacted_content type d) ≡ is_object d
same_kind type null = refl
same_kind type (boolean b) = refl
same_kind type (number n) = refl
same_kind type (string s) = refl
same_kind type (array ds) = refl
same_kind type (object ms) = refl

same_kinds : (type : List ℕ) (o : Option Data) → is_some_and is_object (option_map (redacted_content type) o) ≡ is_some_and is_object o
same_kinds type None = refl
same_kinds type (Some d) = same_kind type d

content-kind : (e : Event) → is_some_and is_object (field (codes "content") (redact e)) ≡ is_some_and is_object (field (codes "content") e)
unfolding redact
content-kind null = refl
content-kind (boolean b) = refl
content-kind (number n) = refl
content-kind (string s) = refl
content-kind (array ds) = refl
content-kind (object ms) =
    let type = kind (object ms) in
    ap (is_some_and is_object) (get-content type (members_where (is_among kept_keys) ms))
    ∙ same_kinds type (get_member (codes "content") (members_where (is_among kept_keys) ms))
    ∙ ap (is_some_and is_object) (get-where (is_among kept_keys) (codes "content") ms refl)

fields-same : (e : Event) → has_fields (redact e) ≡ has_fields e
fields-same e =
    λ i.
    (is_some_and is_event_id_list (kept-field (codes "auth_events") e refl refl i)
    && (content-kind e i
    && (is_some_and is_integer (kept-field (codes "depth") e refl refl i)
    && (is_some_and is_object (kept-field (codes "hashes") e refl refl i)
    && (is_some_and is_integer (kept-field (codes "origin_server_ts") e refl refl i)
    && (is_some_and is_event_id_list (kept-field (codes "prev_events") e refl refl i)
    && (is_some_and (is_id room_id_error) (kept-field (codes "room_id") e refl refl i)
    && (is_some_and (is_id user_id_error) (kept-field (codes "sender") e refl refl i)
    && (is_some_and is_object (kept-field (codes "signatures") e refl refl i)
    && (is_some_and is_string (kept-field (codes "type") e refl refl i) && true))))))))))
    && is_none_or is_string (kept-field (codes "state_key") e refl refl i)

field-limits-same : (e : Event) → list_all (λ f. is_none_or f.1 (field f.0 (redact e))) limits ≡ list_all (λ f. is_none_or f.1 (field f.0 e)) limits
field-limits-same e =
    λ i.
    is_none_or (is_short_list 10) (kept-field (codes "auth_events") e refl refl i)
    && (is_none_or is_depth (kept-field (codes "depth") e refl refl i)
    && (is_none_or (is_short_list 20) (kept-field (codes "prev_events") e refl refl i)
    && (is_none_or is_short (kept-field (codes "room_id") e refl refl i)
    && (is_none_or is_short (kept-field (codes "sender") e refl refl i)
    && (is_none_or is_short (kept-field (codes "state_key") e refl refl i)
    && (is_none_or is_short (kept-field (codes "type") e refl refl i) && true))))))

nesting-kept : (e : Event) → is_object e ≡ true → has_readable_nesting e ≡ true → has_readable_nesting (redact e) ≡ true
nesting-kept null h k = absurd (true≢false (sym h))
nesting-kept (boolean b) h k = absurd (true≢false (sym h))
nesting-kept (number n) h k = absurd (true≢false (sym h))
nesting-kept (string s) h k = absurd (true≢false (sym h))
nesting-kept (array ds) h k = absurd (true≢false (sym h))
nesting-kept (object ms) h k = redact-nests ms k

limits-kept : (e : Event) → is_object e ≡ true → is_within_limits e ≡ true → is_within_limits (redact e) ≡ true
limits-kept e h k = and-both _ _ (field-limits-same e ∙ and-left _ _ k) (nesting-kept e h (and-right _ _ k))

-- ---- numbers, keys and text

pub canonical-redact : (e : Event) → is_canonical e ≡ true → is_canonical (redact e) ≡ true
unfolding redact
canonical-redact null h = refl
canonical-redact (boolean b) h = refl
canonical-redact (number n) h = refl
canonical-redact (string s) h = refl
canonical-redact (array ds) h = refl
canonical-redact (object ms) h = exact-with (kind (object ms)) (members_where (is_among kept_keys) ms) (exact-where (is_among kept_keys) ms h)

pub rise-redact : (e : Event) → is_object e ≡ true → KeysRise e → KeysRise (redact e)
unfolding redact
rise-redact null h rise = absurd (true≢false (sym h))
rise-redact (boolean b) h rise = absurd (true≢false (sym h))
rise-redact (number n) h rise = absurd (true≢false (sym h))
rise-redact (string s) h rise = absurd (true≢false (sym h))
rise-redact (array ds) h rise = absurd (true≢false (sym h))
rise-redact (object ms) h rise = object-with (kind (object ms)) (members_where (is_among kept_keys) ms) (object-where (is_among kept_keys) ms rise)

object-redact : (e : Event) → is_object (redact e) ≡ true
unfolding redact
object-redact e = refl

le-trans : (a b c : ℕ) → a ≤ b → b ≤ c → a ≤ c
le-trans a b c h k = omega arith

pub text-redact : (e : Event) → is_object e ≡ true → KeysRise e → length (canonical_text (redact e)) ≤ length (canonical_text e)
unfolding redact canonical_text
text-redact null h rise = absurd (true≢false (sym h))
text-redact (boolean b) h rise = absurd (true≢false (sym h))
text-redact (number n) h rise = absurd (true≢false (sym h))
text-redact (string s) h rise = absurd (true≢false (sym h))
text-redact (array ds) h rise = absurd (true≢false (sym h))
text-redact (object ms) h rise =
    let type = kind (object ms) in
    let kept = members_where (is_among kept_keys) ms in
    let risen = object-where (is_among kept_keys) ms rise in
    le-trans (length (value_text (object (with_redacted_content type kept)))) (length (value_text (object kept))) (length (value_text (object ms)))
    (with-shorter type kept risen (object-with type kept risen))
    (where-shorter (is_among kept_keys) ms rise)

within : (n a b : ℕ) → a ≤ b → nat_lt n b ≡ false → nat_lt n a ≡ false
within n a b h k = grind (arith, nat_tests)

-- ---- the format

passed : {E : Type 0} (b : Bool) (error : E) (rest : Option E) → b ≡ false → is_none rest ≡ true → is_none (refuse_if b error rest) ≡ true
passed true error rest h k = absurd (true≢false h)
passed false error rest h k = k

pub well_formed : (d : Data) → IsFormed d → IsTrue (is_well_formed d)
unfolding is_well_formed format_error
well_formed d f =
    passed (not (is_object d)) _ _ (ap not f.has_object)
    (passed (not (is_canonical d)) _ _ (ap not f.canonical)
    (passed (nat_lt longest_text (length (canonical_text d))) _ _ f.short
    (passed (not (has_fields d)) _ _ (ap not f.fields)
    (passed (not (is_within_limits d)) _ _ (ap not f.limits) refl))))

pub redact-well_formed : (e : Event) → IsTrue (is_well_formed e) → KeysRise e → IsTrue (is_well_formed (redact e))
redact-well_formed e h rise =
    let f = formed e h in
    well_formed (redact e) record {
      has_object = object-redact e;
      canonical = canonical-redact e f.canonical;
      short = within longest_text _ _ (text-redact e f.has_object rise) f.short;
      fields = fields-same e ∙ f.fields;
      limits = limits-kept e f.has_object f.limits;
    }

-- ---- the ids

pub room-redact : (e : Event) → room_of (redact e) ≡ room_of e
room-redact e = ap (λ o. unwrap_or (option_and_then as_str o) []) (kept-field (codes "room_id") e refl refl)

pub sender-redact : (e : Event) → sender_of (redact e) ≡ sender_of e
sender-redact e = ap (λ o. unwrap_or (option_and_then as_str o) []) (kept-field (codes "sender") e refl refl)

pub prev-redact : (e : Event) → prev_ids (redact e) ≡ prev_ids e
prev-redact e = ap (λ o. filter_map as_str (item_list (unwrap_or (option_and_then as_array o) no_items))) (kept-field (codes "prev_events") e refl refl)

pub auth-redact : (e : Event) → auth_ids (redact e) ≡ auth_ids e
auth-redact e = ap (λ o. filter_map as_str (item_list (unwrap_or (option_and_then as_array o) no_items))) (kept-field (codes "auth_events") e refl refl)
