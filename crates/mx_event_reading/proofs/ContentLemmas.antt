-- Objects of one member, and of contents the members that rules read.
use Rattle.std.proofs.Common.{◌≡◌, ℕ, ◌<◌, ◌-◌, Bool, true, false, List, [], ◌∷◌, ◌++◌, length, Some, None, refl, sym, ap, ◌∙◌, Less, nat_cmp}
use Rattle.std.specs.Cmp.Lexicographic.{slice_cmp}
use Rattle.std.specs.Prelude.{if◌then◌else◌}
use Rattle.json.specs.Json.{read_key, value}
use Rattle.json.specs.Token.{Token}
use Rattle.serde_json.specs.Data.{Data, object, Members, no_members, member, put}
use Rattle.serde_json.specs.Read.{of_json, converted}
use Rattle.mx_canon.specs.Canonical.{canonical_text}
use Rattle.mx_redact.specs.Redaction.{members_where}
use Rattle.mx_event_reading.specs.Contents.{IsFirstKey}
use Rattle.mx_event_reading.specs.InOrder.{IsAppended, key_text}
use Rattle.mx_event_reading.proofs.InOrderLemmas.{AreBelow, above, appended_begin, appended_more, appended_end, object_appended}

pub one_member : (depth : ℕ) (old s r rest : List Token) (k : List ℕ) (d : Data) (before one two after : List ℕ) → 0 < depth
    → IsFirstKey k old s before one → IsAppended d (converted of_json (value (depth - 1) s)) r one two → length r < length s
    → read_key r ≡ Some (None, rest) → after ≡ two ++ 125 ∷ []
    → IsAppended (object (member k d no_members)) (converted of_json (value depth old)) rest before after
one_member depth old s r rest k d before one two after some first done less over closed =
    let p = value (depth - 1) in
    let ts = first.inside in
    let here : IsAppended d (converted of_json (p s)) r ((before ++ 123 ∷ []) ++ key_text false k) two =
    (done.0, done.1 ∙ ap (λ x. x ++ canonical_text d) first.bytes_are) in
    let more = appended_more p before ts ts None no_members (before ++ 123 ∷ []) (appended_begin p before ts) s r k d two
    first.named tt first.utf8 here less in
    let all = appended_end p before ts r (Some k) (put k d no_members) two more rest over in
    rw first.first (object_appended depth ts rest (member k d no_members) before after some (all.0, closed ∙ all.1))

-- ---- the members that pass a test, and one more behind them

module _ (test : List ℕ → Bool) (k : List ℕ) (d : Data) where
  before-all : (l : List ℕ) (e : Data) (ms : Members) → slice_cmp nat_cmp l k ≡ Less
      → put k d (member l e ms) ≡ member l e (put k d ms)
  before-all l e ms h = rw (above k l h) refl

  where-last : (b : Bool) (ms : Members) → test k ≡ b → AreBelow k ms
      → members_where test (put k d ms) ≡ (if b then put k d (members_where test ms) else members_where test ms)
  where-last true no_members is h = rw is refl
  where-last false no_members is h = rw is refl
  where-last b (member l e ms) is h =
      ap (members_where test) (before-all l e ms h.0) ∙ at (test l) b (where-last b ms is h.1)
    where
      at : (x b : Bool) → members_where test (put k d ms) ≡ (if b then put k d (members_where test ms) else members_where test ms)
          → (if x then member l e (members_where test (put k d ms)) else members_where test (put k d ms))
          ≡ (if b then put k d (if x then member l e (members_where test ms) else members_where test ms)
          else (if x then member l e (members_where test ms) else members_where test ms))
      at true true more = ap (member l e) more ∙ sym (before-all l e (members_where test ms) h.0)
      at true false more = ap (member l e) more
      at false true more = more
      at false false more = more

  pub where-put : (ms : Members) → AreBelow k ms
      → members_where test (put k d ms) ≡ (if test k then put k d (members_where test ms) else members_where test ms)
  where-put ms h = where-last (test k) ms refl h
