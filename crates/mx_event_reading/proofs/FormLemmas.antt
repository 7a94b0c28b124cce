-- The format and the fields of an event.
use Rattle.std.proofs.Common.{◌≡◌, ℕ, ◌≤◌, List, length, true, ℤ, pos, Option, Some, None, IfSome, is_some, refl, sym, ap, ◌∙◌}
use Rattle.std.specs.Prelude.{codes, filter_map, int_le, nat_le, unwrap_or}
use Rattle.std.proofs.lemmas.Bool.{le-leb}
use Rattle.std.specs.List.{list_all}
use Rattle.serde_json.specs.Data.{Data, Members, number, object, depth as nesting}
use Rattle.serde_json.specs.Find.{as_integer, as_str, as_u64, of_integer}
use Rattle.serde_json.specs.Read.{max_depth}
use Rattle.mx_canon.specs.Canonical.{is_canonical}
use Rattle.mx_ident.specs.Identifier.{is_event_id, is_room_id, is_user_id, room_id_error, user_id_error, event_id_error}
use Rattle.mx_pdu.specs.Event.{room_of, sender_of, state_key_of, content_of, prev_ids, auth_ids, depth_of, timestamp_of, redacts_of}
use Rattle.mx_pdu.specs.Format.{has_fields, is_depth, is_id, is_id_or_long, is_short, is_within_limits}
use Rattle.mx_pdu.proofs.FormatLemmas.{get_member-canonical}
use Rattle.mx_redact.specs.Fields.{field, is_none_or, item_list, kind, text_field, value_at}
use Rattle.mx_event_reading.specs.InOrder.{strings}
use Rattle.mx_event_reading.specs.EventRead.{event_members}
use Rattle.mx_event_reading.proofs.FieldLemmas.{common-id, common-short, ids-are, ids-short, ids-count, integer-is, depth-is}

-- what is read of an event
pub record Fields : Type 0 where
  pub kind_of : List ℕ
  pub state_key : Option (List ℕ)
  pub room : List ℕ
  pub sender : List ℕ
  pub prev : List (List ℕ)
  pub auth : List (List ℕ)
  pub redacts : Option (List ℕ)
  pub depth : ℕ
  pub time : ℤ
  pub content : Data
  pub hash : Option (List ℕ)
  pub signatures : Data
  pub depth_there : Option Data

abbrev pub fields_in : Data → Fields
fields_in e = record {
  kind_of = kind e;
  state_key = state_key_of e;
  room = room_of e;
  sender = sender_of e;
  prev = prev_ids e;
  auth = auth_ids e;
  redacts = redacts_of e;
  depth = depth_of e;
  time = timestamp_of e;
  content = content_of e;
  hash = text_field (codes "sha256") (value_at (codes "hashes") e);
  signatures = value_at (codes "signatures") e;
  depth_there = field (codes "depth") e;
}

module _ (auth prev : List (List ℕ)) (depth time : ℤ) (hash room sender type : List ℕ) (sigs content : Members) where
  abbrev pub all : Option (List ℕ) → Option Data → Option Data → Data
  all key origin unsigned =
      object (event_members auth prev depth time hash room sender type (object sigs) key content origin unsigned)

  -- ---- the fields

  abbrev pub these : Option (List ℕ) → Fields
  these key = record {
    kind_of = type;
    state_key = key;
    room = room;
    sender = sender;
    prev = filter_map as_str (item_list (strings prev));
    auth = filter_map as_str (item_list (strings auth));
    redacts = None;
    depth = unwrap_or (as_u64 (of_integer depth)) 0;
    time = unwrap_or (as_integer (of_integer time)) (pos 0);
    content = object content;
    hash = Some hash;
    signatures = object sigs;
    depth_there = Some (number (of_integer depth));
  }

  pub fields-are : (key : Option (List ℕ)) (origin unsigned : Option Data) → fields_in (all key origin unsigned) ≡ these key
  fields-are None None None = refl
  fields-are None None (Some u) = refl
  fields-are None (Some o) None = refl
  fields-are None (Some o) (Some u) = refl
  fields-are (Some k) None None = refl
  fields-are (Some k) None (Some u) = refl
  fields-are (Some k) (Some o) None = refl
  fields-are (Some k) (Some o) (Some u) = refl

  -- ---- the format

  module _ (auth_are : list_all is_event_id auth ≡ true) (prev_are : list_all is_event_id prev ≡ true)
      (is_room : is_room_id room ≡ true) (is_user : is_user_id sender ≡ true) where
    a : list_all (is_id event_id_error) (item_list (strings auth)) ≡ true
    a = ids-are auth auth_are

    p : list_all (is_id event_id_error) (item_list (strings prev)) ≡ true
    p = ids-are prev prev_are

    d : is_some (as_integer (of_integer depth)) ≡ true
    d = ap is_some (integer-is depth)

    t : is_some (as_integer (of_integer time)) ≡ true
    t = ap is_some (integer-is time)

    r : is_id_or_long (room_id_error room) ≡ true
    r = common-id 33 room is_room

    s : is_id_or_long (user_id_error sender) ≡ true
    s = common-id 64 sender is_user

    pub has-fields : (key : Option (List ℕ)) (origin unsigned : Option Data) → has_fields (all key origin unsigned) ≡ true
    has-fields None None None = rw (a, d, t, p, r, s) refl
    has-fields None None (Some u) = rw (a, d, t, p, r, s) refl
    has-fields None (Some o) None = rw (a, d, t, p, r, s) refl
    has-fields None (Some o) (Some u) = rw (a, d, t, p, r, s) refl
    has-fields (Some k) None None = rw (a, d, t, p, r, s) refl
    has-fields (Some k) None (Some u) = rw (a, d, t, p, r, s) refl
    has-fields (Some k) (Some o) None = rw (a, d, t, p, r, s) refl
    has-fields (Some k) (Some o) (Some u) = rw (a, d, t, p, r, s) refl

    module _ (few_auth : length auth ≤ 10) (few_prev : length prev ≤ 20) (short_type : length type ≤ 255)
        (low : int_le (pos 0) depth ≡ true) where
      a-few : nat_le (length (item_list (strings auth))) 10 ≡ true
      a-few = ap (λ n. nat_le n 10) (ids-count auth) ∙ le-leb (length auth) 10 few_auth

      p-few : nat_le (length (item_list (strings prev))) 20 ≡ true
      p-few = ap (λ n. nat_le n 20) (ids-count prev) ∙ le-leb (length prev) 20 few_prev

      a-short : list_all is_short (item_list (strings auth)) ≡ true
      a-short = ids-short auth auth_are

      p-short : list_all is_short (item_list (strings prev)) ≡ true
      p-short = ids-short prev prev_are

      r-short : nat_le (length room) 255 ≡ true
      r-short = common-short 33 room is_room

      s-short : nat_le (length sender) 255 ≡ true
      s-short = common-short 64 sender is_user

      t-short : nat_le (length type) 255 ≡ true
      t-short = le-leb (length type) 255 short_type

      exact : (key : Option (List ℕ)) (origin unsigned : Option Data) → is_canonical (all key origin unsigned) ≡ true
          → is_canonical (number (of_integer depth)) ≡ true
      exact key origin unsigned canonical =
          let there = ap (λ f. f.depth_there) (fields-are key origin unsigned) in
          sym (ap (is_none_or is_canonical) there) ∙ get_member-canonical (codes "depth")
          (event_members auth prev depth time hash room sender type (object sigs) key content origin unsigned) canonical

      within-limits : (key : Option (List ℕ)) (origin unsigned : Option Data) → IfSome key (λ k. length k ≤ 255)
          → is_depth (number (of_integer depth)) ≡ true → nat_le (nesting (all key origin unsigned)) max_depth ≡ true
          → is_within_limits (all key origin unsigned) ≡ true
      within-limits None None None few z n = rw (a-few, a-short, z, p-few, p-short, r-short, s-short, t-short, n) refl
      within-limits None None (Some u) few z n = rw (a-few, a-short, z, p-few, p-short, r-short, s-short, t-short, n) refl
      within-limits None (Some o) None few z n = rw (a-few, a-short, z, p-few, p-short, r-short, s-short, t-short, n) refl
      within-limits None (Some o) (Some u) few z n = rw (a-few, a-short, z, p-few, p-short, r-short, s-short, t-short, n) refl
      within-limits (Some k) None None few z n =
          rw (a-few, a-short, z, p-few, p-short, r-short, s-short, le-leb (length k) 255 few, t-short, n) refl
      within-limits (Some k) None (Some u) few z n =
          rw (a-few, a-short, z, p-few, p-short, r-short, s-short, le-leb (length k) 255 few, t-short, n) refl
      within-limits (Some k) (Some o) None few z n =
          rw (a-few, a-short, z, p-few, p-short, r-short, s-short, le-leb (length k) 255 few, t-short, n) refl
      within-limits (Some k) (Some o) (Some u) few z n =
          rw (a-few, a-short, z, p-few, p-short, r-short, s-short, le-leb (length k) 255 few, t-short, n) refl

      pub within : (key : Option (List ℕ)) (origin unsigned : Option Data) → IfSome key (λ k. length k ≤ 255)
          → is_canonical (all key origin unsigned) ≡ true → nat_le (nesting (all key origin unsigned)) max_depth ≡ true
          → is_within_limits (all key origin unsigned) ≡ true
      within key origin unsigned few c n =
          within-limits key origin unsigned few (depth-is depth low (exact key origin unsigned c)) n
