-- What the body of a request says (Matrix specification, Server-Server API: "API standards", "Transactions").
use Rattle.std.specs.Prelude.{◌∷◌, [], ℕ, nat_le, Bool, ◌&&◌, if◌then◌else◌, List, codes, filter_map, length, map, Vec, Option, Some, None, option_map, option_and_then, is_some}
use Rattle.std.specs.declared.alloc.Global.{Global}
use Rattle.std.specs.List.{list_all}
use Rattle.std.specs.Str.{is_utf8}
use Rattle.serde_json.specs.Data.{Data}
use Rattle.serde_json.specs.Read.{read}
use Rattle.serde_json.specs.Find.{as_array, as_number, as_str, as_u64}
use Rattle.mx_canon.specs.Canonical.{is_canonical, canonical_text}
use Rattle.mx_ident.specs.Identifier.{is_event_id}
use Rattle.mx_redact.specs.Fields.{field, is_none_or, is_object, item_list}

-- JSON text is UTF-8
abbrev pub json_of : List ℕ → Option Data
json_of text = if is_utf8 text then read text else None

-- ---- canonical texts (appendix "Canonical JSON")

-- a value has a canonical text, of at most n bytes
abbrev pub has_text_within : ℕ → Data → Bool
has_text_within n d = is_canonical d && nat_le (length (canonical_text d)) n

-- the canonical text of a value, where it has one of at most n bytes
abbrev pub text_within : ℕ → Data → Option (List ℕ)
text_within n d = if has_text_within n d then Some (canonical_text d) else None

-- the canonical texts of those that have one of at most n bytes, in their order
abbrev pub texts_within : ℕ → List Data → List (List ℕ)
texts_within n ds = filter_map (text_within n) ds

-- ---- transactions

-- the entries of an array of at most n
abbrev pub entries_up_to : ℕ → Data → Option (List Data)
entries_up_to n d =
    option_and_then (λ ds. if nat_le (length (item_list ds)) n then Some (item_list ds) else None) (as_array d)

abbrev pub is_array_up_to : ℕ → Data → Bool
is_array_up_to n d = is_some (entries_up_to n d)

-- at most 50 PDUs, and at most 100 EDUs, which are not looked at
abbrev pub pdus_in : Data → Option (List Data)
pdus_in d =
    if is_none_or (is_array_up_to 100) (field (codes "edus") d)
    then option_and_then (entries_up_to 50) (field (codes "pdus") d)
    else None

-- ---- vectors of bytes, as clauses see them

abbrev pub bytes_of : Option (Vec ℕ Global) → Option (List ℕ)
bytes_of text = option_map (λ bytes. bytes.items) text

abbrev pub texts_of : List (Vec ℕ Global) → List (List ℕ)
texts_of texts = map (λ bytes. bytes.items) texts

-- ---- what asks for missing events (Server-Server API, get_missing_events)

-- an integer from 0 that 64 bits hold
abbrev pub natural_of : Data → Option ℕ
natural_of d = option_and_then as_u64 (as_number d)

-- the integer at a key, or what stands for an absent one
abbrev pub natural_or : ℕ → Option Data → Option ℕ
natural_or default None = Some default
natural_or default (Some d) = natural_of d

abbrev pub strings_of : List Data → Option (List (List ℕ))
strings_of [] = Some []
strings_of (d ∷ ds) = option_and_then (λ s. option_map (λ ss. s ∷ ss) (strings_of ds)) (as_str d)

abbrev pub all_event_ids : List (List ℕ) → Option (List (List ℕ))
all_event_ids ids = if list_all is_event_id ids then Some ids else None

-- a list of event ids at a key; an absent one is empty
abbrev pub ids_or_none : Option Data → Option (List (List ℕ))
ids_or_none None = Some []
ids_or_none (Some d) = option_and_then all_event_ids (option_and_then (λ ds. strings_of (item_list ds)) (as_array d))

pub record Question : Type 0 where
  pub earliest : List (List ℕ)
  pub latest : List (List ℕ)
  pub limit : ℕ
  pub min_depth : ℕ

-- what is asked; an absent `limit` is 10, an absent `min_depth` 0
abbrev pub question_of : Data → Option Question
question_of d =
    if is_object d
    then option_and_then (λ earliest. option_and_then (λ latest. option_and_then (λ limit. option_map (λ min_depth. record { earliest = earliest; latest = latest; limit = limit; min_depth = min_depth })
    (natural_or 0 (field (codes "min_depth") d)))
    (natural_or 10 (field (codes "limit") d)))
    (ids_or_none (field (codes "latest_events") d)))
    (ids_or_none (field (codes "earliest_events") d))
    else None
