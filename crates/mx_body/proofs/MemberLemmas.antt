-- The members of an object, as they are read.
use Rattle.std.proofs.Common.{◌≡◌, ℕ, ◌+◌, ◌-◌, ◌<◌, ◌≤◌, Bool, true, false, ◌&&◌, List, [], ◌∷◌, ◌++◌, length, Option, Some, None, Ordering, Less, Equal, Greater, String, Global, Vec, string_bytes, string_cmp, nat_cmp, refl, sym, ap, ◌∙◌, subst, arith, length-append, append_assoc, IsUtf8}
use Rattle.std.specs.List.{list_all}
use Rattle.std.specs.List.Sorted.{IsStrictlySortedBy}
use Rattle.std.specs.BTreeMap.{insert_entry}
use Rattle.std.specs.Ordering.{match_ordering}
use Rattle.std.specs.Cmp.Lexicographic.{slice_cmp}
use Rattle.std.proofs.lemmas.List.Folds.{list_all-append}
use Rattle.json.specs.Print.{quoted}
use Rattle.json.specs.Token.{Token}
use Rattle.json.specs.Json as json
use Rattle.json.specs.Json.{Parse, parse_map, read_key, members}
use Rattle.json.proofs.Grammar.{read_key-shorter}
use Rattle.serde_json.specs.Data.{Data, object, Members, no_members, member, put}
use Rattle.serde_json.specs.Read.{of_json, of_members, converted}
use Rattle.serde_json.specs.Written.{compact_text, members_text, comma_if}
use Rattle.mx_body.proofs.GrammarLemmas.{member_read, member_refused, key_refused, members_over}
use Rattle.mx_canon.specs.Canonical.{is_canonical, is_exact, numbers, member_numbers}
use Rattle.mx_body.specs.Bodies.{bytes_of}
use Rattle.mx_body.specs.Pieces.{IsPieceOf, ReadsPiece, Kept, ArePiecesOf, count}
use Rattle.mx_body.specs.Readable.{IsReadable}
use Rattle.mx_body.proofs.ReadableLemmas.{IsReadable-put}

-- the tokens from `first` to `now` are members that leave the object `old`
pub record MembersRead (p : Parse json.Json) (first now : List Token) (old : Members) : Type 0 where
  pub turns : ℕ
  pub enough : length now ≤ turns
  pub shorter : length now ≤ length first
  pub same : converted (λ ms. of_members ms no_members) (members p (length first) first) ≡ converted (λ ms. of_members ms old) (members p turns now)
  pub readable : IsReadable (object old)

module _ (p : Parse json.Json) where
  pub members_begin : (ts : List Token) → MembersRead p ts ts no_members
  unfolding IsStrictlySortedBy
  members_begin ts = record {
    turns = length ts;
    enough = omega arith;
    shorter = omega arith;
    same = refl;
    readable = (tt, tt);
  }

  module _ (first now : List Token) (old : Members) (h : MembersRead p first now old) where
    pub members_more : (s r : List Token) (k : List ℕ) (d : Data) → read_key now ≡ Some (Some k, s) → converted of_json (p s) ≡ Some (d, r) → IsUtf8 k → IsReadable d → length r < length s
        → MembersRead p first r (put k d old)
    members_more s r k d named e text readable less =
        let lesser = read_key-shorter now (Some k) s named in
        record {
          turns = h.turns - 1;
          enough = omega (arith, h.enough);
          shorter = omega (arith, h.shorter);
          same = h.same ∙ member_read p old h.turns k now s r d (omega (arith, h.enough)) named e;
          readable = IsReadable-put k d old text readable h.readable;
        }

    pub members_fail : (s : List Token) (k : List ℕ) → read_key now ≡ Some (Some k, s) → converted of_json (p s) ≡ None
        → parse_map object (converted (λ ms. of_members ms no_members) (members p (length first) first)) ≡ None
    members_fail s k named e = ap (parse_map object) (h.same ∙ member_refused p old h.turns k now s named e)

    pub members_no_key : read_key now ≡ None → parse_map object (converted (λ ms. of_members ms no_members) (members p (length first) first)) ≡ None
    members_no_key e = ap (parse_map object) (h.same ∙ key_refused p old h.turns now e)

    pub members_over_all : (r : List Token) → read_key now ≡ Some (None, r) → parse_map object (converted (λ ms. of_members ms no_members) (members p (length first) first)) ≡ Some (object old, r)
    members_over_all r e = ap (parse_map object) (h.same ∙ members_over p old h.turns now r h.enough e)

    pub members_end : (room : ℕ) (r : List Token) (piece : Option (List ℕ)) → read_key now ≡ Some (None, r) → IsPieceOf room (object old) piece
        → ReadsPiece room (parse_map object (converted (λ ms. of_members ms no_members) (members p (length first) first))) r piece
    members_end room r piece e text = record {
      value = object old;
      read = members_over_all r e;
      readable = h.readable;
      text = text;
    }

-- ---- texts by key

smaller : (small room : ℕ) (d : Data) (piece : Option (List ℕ)) → small ≤ room → IsPieceOf room d piece → IsPieceOf small d piece
smaller small room d None le h = λ c. let long = h c in omega arith
smaller small room d (Some text) le h = h

all_smaller : (small room : ℕ) (ms : Members) (es : List Kept) → small ≤ room → ArePiecesOf room ms es → ArePiecesOf small ms es
all_smaller small room no_members [] le h = tt
all_smaller small room no_members (e ∷ es) le h = h
all_smaller small room (member k d ms) [] le h = h
all_smaller small room (member k d ms) (e ∷ es) le h = (h.0, smaller small room d (bytes_of e.1) le h.1, all_smaller small room ms es le h.2)

counted : (room : ℕ) (ms : Members) (es : List Kept) → ArePiecesOf room ms es → count ms ≡ length es
counted room no_members [] h = refl
counted room no_members (e ∷ es) h = absurd h
counted room (member k d ms) [] h = absurd h
counted room (member k d ms) (e ∷ es) h = omega (arith, counted room ms es h.2)

count-at : (o : Ordering) (k l : List ℕ) (d e : Data) (ms : Members) → count ms ≤ count (put k d ms)
    → count (member l e ms) ≤ count (match_ordering o (member k d (member l e ms)) (member l d ms) (member l e (put k d ms)))
count-at Less k l d e ms h = omega arith
count-at Equal k l d e ms h = omega arith
count-at Greater k l d e ms h = omega arith

count-put : (k : List ℕ) (d : Data) (ms : Members) → count ms ≤ count (put k d ms)
count-put k d no_members = omega arith
count-put k d (member l e ms) = count-at (slice_cmp nat_cmp k l) k l d e ms (count-put k d ms)

module _ (room : ℕ) (key : String Global) (d : Data) (v : Option (Vec ℕ Global)) (piece : IsPieceOf room d (bytes_of v)) where
  pieces-at : (o : Ordering) (l : List ℕ) (e : Data) (ms : Members) (x : Kept) (es : List Kept) → ArePiecesOf room (member l e ms) (x ∷ es) → ArePiecesOf room (put (string_bytes key) d ms) (insert_entry string_cmp es key v)
      → ArePiecesOf room (match_ordering o (member (string_bytes key) d (member l e ms)) (member l d ms) (member l e (put (string_bytes key) d ms))) (match_ordering o ((key, v) ∷ x ∷ es) ((x.0, v) ∷ es) (x ∷ insert_entry string_cmp es key v))
  pieces-at Less l e ms x es h later = (refl, piece, h)
  pieces-at Equal l e ms x es h later = (h.0, piece, h.2)
  pieces-at Greater l e ms x es h later = (h.0, h.1, later)

  pieces-put : (ms : Members) (es : List Kept) → ArePiecesOf room ms es → ArePiecesOf room (put (string_bytes key) d ms) (insert_entry string_cmp es key v)
  pieces-put no_members [] h = (refl, piece, tt)
  pieces-put no_members (x ∷ es) h = absurd h
  pieces-put (member l e ms) [] h = absurd h
  pieces-put (member l e ms) (x ∷ es) h =
      let k = string_bytes key in
      let order = ap (slice_cmp nat_cmp k) h.0 in
      subst
      (λ o. ArePiecesOf room (match_ordering o (member k d (member l e ms)) (member l d ms) (member l e (put k d ms))) (match_ordering (string_cmp key x.0) ((key, v) ∷ x ∷ es) ((x.0, v) ∷ es) (x ∷ insert_entry string_cmp es key v)))
      order
      (pieces-at (string_cmp key x.0) l e ms x es h (pieces-put ms es h.2))

-- where they were too many, they are
pub kept_none : (room : ℕ) (k : List ℕ) (d : Data) (ms : Members) → room ≤ count ms → room ≤ count (put k d ms)
kept_none room k d ms h = omega (arith, count-put k d ms)

module _ (room : ℕ) (ms : Members) (es : List Kept) (key : String Global) (d : Data) (v : Option (Vec ℕ Global)) (h : ArePiecesOf (room - count ms) ms es) (piece : IsPieceOf (room - length es) d (bytes_of v)) where
  more : ArePiecesOf (room - count ms) (put (string_bytes key) d ms) (insert_entry string_cmp es key v)
  more = let same = counted (room - count ms) ms es h in pieces-put (room - count ms) key d v (subst (λ n. IsPieceOf (room - n) d (bytes_of v)) (sym same) piece) ms es h

  pub kept_more : (new : List Kept) → new ≡ insert_entry string_cmp es key v → ArePiecesOf (room - count (put (string_bytes key) d ms)) (put (string_bytes key) d ms) new
  kept_more new e =
      let all = all_smaller (room - count (put (string_bytes key) d ms)) (room - count ms) (put (string_bytes key) d ms) (insert_entry string_cmp es key v) (omega (arith, count-put (string_bytes key) d ms)) more in
      subst (λ xs. ArePiecesOf (room - count (put (string_bytes key) d ms)) (put (string_bytes key) d ms) xs) (sym e) all

  pub kept_many : (new : List Kept) → new ≡ insert_entry string_cmp es key v → room ≤ length new → room ≤ count (put (string_bytes key) d ms)
  kept_many new e le = let same = counted (room - count ms) (put (string_bytes key) d ms) (insert_entry string_cmp es key v) more in omega (arith, ap length e)

-- ---- the text of an object

length-members : (later : Bool) (ms : Members) → count ms ≤ length (members_text later ms)
length-members later no_members = omega arith
length-members later (member k d ms) =
    omega (arith, length-members true ms, length-append (comma_if later) (quoted k ++ 58 ∷ (compact_text d ++ members_text true ms)), length-append (quoted k) (58 ∷ (compact_text d ++ members_text true ms)), length-append (compact_text d) (members_text true ms))

pub object_over : (room : ℕ) (ms : Members) → room ≤ count ms → IsPieceOf room (object ms) None
object_over room ms h = λ _. omega (arith, length-members false ms)

-- what was written of the object ms, and the entries that are left
pub record MembersLeft (room : ℕ) (ms : Members) (es : List Kept) (later : Bool) (text : List ℕ) : Type 0 where
  pub rest : Members
  pub pieces : ArePiecesOf (room - count ms) rest es
  pub canonical : is_canonical (object ms) ≡ list_all is_exact (member_numbers rest)
  pub text_is : compact_text (object ms) ≡ text ++ members_text later rest
  pub counted : count ms ≤ length text + count rest

pub left_begin : (room : ℕ) (ms : Members) (es : List Kept) → ArePiecesOf (room - count ms) ms es → MembersLeft room ms es false (123 ∷ [])
left_begin room ms es h = record { rest = ms; pieces = h; canonical = refl; text_is = refl; counted = omega arith }

first_true : (a b : Bool) → (a && b) ≡ true → a ≡ true
first_true true b h = refl
first_true false b h = h

whole : (t c q v r : List ℕ) → t ++ (c ++ (q ++ 58 ∷ (v ++ r))) ≡ ((t ++ (c ++ (q ++ 58 ∷ []))) ++ v) ++ r
whole t c q v r = simp append_assoc

module _ (room : ℕ) (ms : Members) (es : List Kept) (later : Bool) (text : List ℕ) where
  none_at : (rest : Members) (e : Kept) → bytes_of e.1 ≡ None → ArePiecesOf (room - count ms) rest (e ∷ es) → is_canonical (object ms) ≡ list_all is_exact (member_numbers rest) → compact_text (object ms) ≡ text ++ members_text later rest
      → count ms ≤ length text + count rest → IsPieceOf room (object ms) None
  none_at no_members e none h canonical same n = absurd h
  none_at (member k d rest) e none h canonical same n = λ c.
      let all : list_all is_exact (numbers d ++ member_numbers rest) ≡ true = sym canonical ∙ c in
      let here : is_canonical d ≡ true = first_true _ (list_all is_exact (member_numbers rest)) (sym (list_all-append is_exact (numbers d) (member_numbers rest)) ∙ all) in
      let missing : IsPieceOf (room - count ms) d None = subst (IsPieceOf (room - count ms) d) none h.1 in
      let long : room - count ms < length (compact_text d) = missing here in
      omega (arith, ap length same, long, n, length-members true rest, length-append text (members_text later (member k d rest)), length-append (comma_if later) (quoted k ++ 58 ∷ (compact_text d ++ members_text true rest)), length-append (quoted k) (58 ∷ (compact_text d ++ members_text true rest)), length-append (compact_text d) (members_text true rest))

  more_at : (rest : Members) (e : Kept) (v : List ℕ) → bytes_of e.1 ≡ Some v → ArePiecesOf (room - count ms) rest (e ∷ es) → is_canonical (object ms) ≡ list_all is_exact (member_numbers rest) → compact_text (object ms) ≡ text ++ members_text later rest
      → count ms ≤ length text + count rest → MembersLeft room ms es true ((text ++ (comma_if later ++ (quoted (string_bytes e.0) ++ 58 ∷ []))) ++ v)
  more_at no_members e v some h canonical same n = absurd h
  more_at (member k d rest) e v some h canonical same n =
      let q = quoted (string_bytes e.0) in
      let piece : IsPieceOf (room - count ms) d (Some v) = subst (IsPieceOf (room - count ms) d) some h.1 in
      record {
        rest = rest;
        pieces = h.2;
        canonical = canonical ∙ list_all-append is_exact (numbers d) (member_numbers rest) ∙ ap (λ b. b && list_all is_exact (member_numbers rest)) piece.0;
        text_is = same ∙ ap (λ x. text ++ (comma_if later ++ (quoted x ++ 58 ∷ (compact_text d ++ members_text true rest)))) (sym h.0)
            ∙ ap (λ x. text ++ (comma_if later ++ (q ++ 58 ∷ (x ++ members_text true rest)))) (sym piece.1) ∙ whole text (comma_if later) q v (members_text true rest);
        counted = omega (arith, n, length-append (text ++ (comma_if later ++ (q ++ 58 ∷ []))) v, length-append text (comma_if later ++ (q ++ 58 ∷ [])), length-append (comma_if later) (q ++ 58 ∷ []), length-append q (58 ∷ []));
      }

  pub left_none : (e : Kept) → bytes_of e.1 ≡ None → MembersLeft room ms (e ∷ es) later text → IsPieceOf room (object ms) None
  left_none e none h = none_at h.rest e none h.pieces h.canonical h.text_is h.counted

  pub left_more : (e : Kept) (v : List ℕ) → bytes_of e.1 ≡ Some v → MembersLeft room ms (e ∷ es) later text → MembersLeft room ms es true ((text ++ (comma_if later ++ (quoted (string_bytes e.0) ++ 58 ∷ []))) ++ v)
  left_more e v some h = more_at h.rest e v some h.pieces h.canonical h.text_is h.counted

  pub left_long : MembersLeft room ms es later text → room < length text → IsPieceOf room (object ms) None
  left_long h long = λ _. omega (arith, ap length h.text_is, length-append text (members_text later h.rest))

  end_at : (rest : Members) → ArePiecesOf (room - count ms) rest [] → is_canonical (object ms) ≡ list_all is_exact (member_numbers rest) → compact_text (object ms) ≡ text ++ members_text later rest
      → IsPieceOf room (object ms) (Some (text ++ 125 ∷ []))
  end_at no_members h canonical same = (canonical, sym same)
  end_at (member k d rest) h canonical same = absurd h

pub left_end : (room : ℕ) (ms : Members) (later : Bool) (text : List ℕ) → MembersLeft room ms [] later text → IsPieceOf room (object ms) (Some (text ++ 125 ∷ []))
left_end room ms later text h = end_at room ms [] later text h.rest h.pieces h.canonical h.text_is
