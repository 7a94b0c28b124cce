-- Fields of an event.
use Rattle.std.proofs.Common.{◌≡◌, ℕ, suc, ◌==◌, ◌≤◌, List, [], ◌∷◌, length, true, false, not, ℤ, pos, negsuc, Option, Some, None, is_none, refl, sym, ap, true≢false, arith}
use Rattle.std.specs.Prelude.{filter_map, int_le, nat_abs, nat_le, nat_lt, unwrap_or}
use Rattle.std.proofs.lemmas.Bool.{le-leb, ltb-false}
use Rattle.std.proofs.lemmas.Bool.Decides.{nat_tests}
use Rattle.std.specs.List.{list_all}
use Rattle.serde_json.specs.Data.{Data, number}
use Rattle.serde_json.specs.Find.{as_integer, as_str, as_u64, of_integer}
use Rattle.mx_canon.specs.Canonical.{canonical_text, is_canonical}
use Rattle.mx_ident.specs.Identifier.{begins_with, common_error, event_id_error, has_colon, is_empty, is_event_id, length_error, refuse_if, server_of}
use Rattle.mx_ident.specs.declared.refusals.NotAnId.TheVariants.{EmptyServer, NoColon, NoSigil, NothingAfterSigil}
use Rattle.mx_ident.specs.declared.refusals.NotAnId.{NotAnId}
use Rattle.mx_pdu.specs.Format.{has_fields, is_depth, is_id, is_id_or_long, is_short, is_well_formed, format_error, is_within_limits, longest_text}
use Rattle.mx_pdu.proofs.FormatLemmas.{and-both, and-left, and-right, refuse_if-none}
use Rattle.mx_redact.specs.Fields.{is_object, item_list}
use Rattle.mx_event_reading.specs.InOrder.{strings}

-- ---- ids

none-of : (o : Option NotAnId) → is_none o ≡ true → o ≡ None
none-of None h = refl
none-of (Some e) h = absurd (true≢false (sym h))

short : (s : List ℕ) → is_none (length_error s) ≡ true → nat_le (length s) 255 ≡ true
short s h = le-leb (length s) 255 (ltb-false 255 (length s) (refuse_if-none (nat_lt 255 (length s)) _ _ h).0)

id_or_long : (o : Option NotAnId) → is_none o ≡ true → is_id_or_long o ≡ true
id_or_long o h = ap is_id_or_long (none-of o h)

pub common-id : (sigil : ℕ) (s : List ℕ) → is_none (common_error sigil s) ≡ true → is_id_or_long (common_error sigil s) ≡ true
common-id sigil s h = id_or_long (common_error sigil s) h

pub common-short : (sigil : ℕ) (s : List ℕ) → is_none (common_error sigil s) ≡ true → nat_le (length s) 255 ≡ true
common-short sigil s h =
    short s (refuse_if-none (is_empty (server_of s)) EmptyServer (length_error s)
    (refuse_if-none (not (has_colon s)) NoColon (refuse_if (is_empty (server_of s)) EmptyServer (length_error s))
    (refuse_if-none (not (begins_with sigil s)) NoSigil
    (refuse_if (not (has_colon s)) NoColon (refuse_if (is_empty (server_of s)) EmptyServer (length_error s))) h).1).1).1

event-short : (s : List ℕ) → is_event_id s ≡ true → nat_le (length s) 255 ≡ true
event-short s h =
    short s (refuse_if-none (length s == 1) NothingAfterSigil (length_error s)
    (refuse_if-none (not (begins_with 36 s)) NoSigil (refuse_if (length s == 1) NothingAfterSigil (length_error s)) h).1).1

-- ---- lists of event ids

pub ids-are : (ids : List (List ℕ)) → list_all is_event_id ids ≡ true
    → list_all (is_id event_id_error) (item_list (strings ids)) ≡ true
ids-are [] h = refl
ids-are (id ∷ ids) h = and-both _ _ (id_or_long (event_id_error id) (and-left _ _ h)) (ids-are ids (and-right _ _ h))

pub ids-short : (ids : List (List ℕ)) → list_all is_event_id ids ≡ true → list_all is_short (item_list (strings ids)) ≡ true
ids-short [] h = refl
ids-short (id ∷ ids) h = and-both _ _ (event-short id (and-left _ _ h)) (ids-short ids (and-right _ _ h))

pub ids-count : (ids : List (List ℕ)) → length (item_list (strings ids)) ≡ length ids
ids-count [] = refl
ids-count (id ∷ ids) = ap suc (ids-count ids)

pub ids-texts : (ids : List (List ℕ)) → filter_map as_str (item_list (strings ids)) ≡ ids
ids-texts [] = refl
ids-texts (id ∷ ids) = ap (λ ss. id ∷ ss) (ids-texts ids)

-- ---- integers

pub integer-is : (z : ℤ) → as_integer (of_integer z) ≡ Some z
integer-is (pos n) = refl
integer-is (negsuc n) = refl

pub depth-is : (z : ℤ) → int_le (pos 0) z ≡ true → is_canonical (number (of_integer z)) ≡ true
    → is_depth (number (of_integer z)) ≡ true
depth-is (pos n) low exact = and-both _ _ low (and-left _ _ exact)
depth-is (negsuc n) low exact = absurd (true≢false (sym low))

pub natural-is : (z : ℤ) → int_le (pos 0) z ≡ true → nat_abs z ≡ unwrap_or (as_u64 (of_integer z)) 0
natural-is (pos n) low = refl
natural-is (negsuc n) low = absurd (true≢false (sym low))

-- ---- the format

pub formed-back : (d : Data) → is_object d ≡ true → is_canonical d ≡ true → length (canonical_text d) ≤ longest_text
    → has_fields d ≡ true → is_within_limits d ≡ true → is_well_formed d ≡ true
unfolding is_well_formed format_error
formed-back d here canonical few fields limits =
    let fits : nat_lt longest_text (length (canonical_text d)) ≡ false = grind (arith, nat_tests) in
    rw (here, canonical, fits, fields, limits) refl
