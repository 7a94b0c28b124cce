use Rattle.std.proofs.Common.{◌≡◌, ◌-◌, ◌<◌, [], ◌∷◌, ◌++◌, ◌&&◌, true, length}
use Rattle.std.proofs.Common.{Some, None, option_map, refl, sym, ap, ◌∙◌, arith, subst, append-nil, append_assoc, w64, to_z, of_z, to_z-of_z}
use Rattle.std.proofs.lemmas.Result.{on_ok_weaker}
use Rattle.json.specs.Token.{Token}
use Rattle.json.specs.Json.{after_end_array, read_key, items, members, value}
use Rattle.json.specs.Reads.{token_of}
use Rattle.json.specs.Tree.{json_tokens, items_tokens, members_tokens}
use Rattle.json.proofs.Grammar.{value_is, value-begin_array, value-begin_object}
use Rattle.serde_json.specs.Data.{null, boolean, number, string, array, object, no_items, item, no_members, put}
use Rattle.serde_json.specs.Find.{of_integer}
use Rattle.serde_json.specs.Read.{of_json, converted}
use Rattle.serde_json.specs.Written.{outline, items_outline, members_outline}
use Rattle.mx_event_reading.specs.InOrder.{ReadsCanonical, WritesTokens}
use Rattle.mx_body.proofs.GrammarLemmas.{converted-array, converted-object}
use Rattle.mx_event_reading.proofs.ArrayLemmas.{AreItemTokens, array_begin, array_more, array_end, item_tokens_more}
use Rattle.mx_event_reading.proofs.InOrderLemmas.{order_begin, order_more, order_end, canonical-same, tokens_more, tokens_end}
use Rattle.mx_event_reading.proofs.NumberLemmas.{SFits-exact}
use Rattle.mx_event_reading.proofs.in_order.copying.+copy_value.Goals as goal

pub copy_value-returns-in_ok-copy_string-in-String-clause-ok : goal.copy_value-returns-in_ok-copy_string-in-String-clause-ok
copy_value-returns-in_ok-copy_string-in-String-clause-ok t c =
    let ts = c.next.new.self in
    let first : c.args.reader.now ≡ token_of c.in_ok-token.token ∷ ts = grind arith in
    let s = c.in-String.text.now in
    let here = ap (λ s. converted of_json (value c.args.depth s)) (first ∙ ap (λ k. token_of k ∷ ts) c.in-String.is)
    ∙ ap (converted of_json) (value_is c.args.depth (Token.string s ∷ ts)) in
    let wrote = c.in_ok-copy_string-in-String.ensures.tokens in
    (string s, record { read = here; readable = c.copy_string.ensures.utf8; canonical = refl }, wrote)

pub copy_value-returns-in_ok-copy_integer-in-Some-clause-ok : goal.copy_value-returns-in_ok-copy_integer-in-Some-clause-ok
copy_value-returns-in_ok-copy_integer-in-Some-clause-ok t c =
    let z = c.in-Some.integer in
    let found = c.in-Some.ensures in
    let ts = c.next.new.self in
    let first : c.args.reader.now ≡ token_of c.in_ok-token.token ∷ ts = grind arith in
    let here = ap (λ s. converted of_json (value c.args.depth s)) (first ∙ ap (λ k. token_of k ∷ ts) c.in-Number.is)
    ∙ ap (converted of_json) (value_is c.args.depth (Token.number c.in-Number.text.now ∷ ts))
    ∙ ap (λ o. option_map (λ b. (b, ts)) (option_map number o)) found.number in
    let same : to_z w64 (of_z w64 z) ≡ z = to_z-of_z (SFits-exact z found.exact) in (
      number (of_integer z),
      record { read = here; readable = found.range; canonical = ap (λ b. b && true) found.exact },
      subst (λ z. WritesTokens c.args.writer.now c.copy_integer.new.writer
          (json_tokens (outline (number (of_integer z))))) same c.in_ok-copy_integer-in-Some.ensures,
    )

pub copy_value-returns-in_ok-boolean-in-Bool-clause-ok : goal.copy_value-returns-in_ok-boolean-in-Bool-clause-ok
copy_value-returns-in_ok-boolean-in-Bool-clause-ok t c =
    let ts = c.next.new.self in
    let first : c.args.reader.now ≡ token_of c.in_ok-token.token ∷ ts = grind arith in
    let here = ap (λ s. converted of_json (value c.args.depth s)) (first ∙ ap (λ k. token_of k ∷ ts) c.in-Bool.is)
    ∙ ap (converted of_json) (value_is c.args.depth (Token.boolean c.in-Bool.is_true ∷ ts)) in
    let wrote = c.in_ok-boolean-in-Bool.ensures in
    (boolean c.in-Bool.is_true, record { read = here; readable = tt; canonical = refl }, (wrote.room.0, wrote.ok))

pub copy_value-returns-in_ok-null-in-Null-clause-ok : goal.copy_value-returns-in_ok-null-in-Null-clause-ok
copy_value-returns-in_ok-null-in-Null-clause-ok t c =
    let ts = c.next.new.self in
    let first : c.args.reader.now ≡ token_of c.in_ok-token.token ∷ ts = grind arith in
    let here = ap (λ s. converted of_json (value c.args.depth s)) (first ∙ ap (λ k. token_of k ∷ ts) c.in-Null.is)
    ∙ ap (converted of_json) (value_is c.args.depth (Token.null ∷ ts)) in
    let wrote = c.in_ok-null-in-Null.ensures in
    (null, record { read = here; readable = tt; canonical = refl }, (wrote.room.0, wrote.ok))

pub copy_value-returns-in_ok-begin_array-in-BeginArray-clause-ok : goal.copy_value-returns-in_ok-begin_array-in-BeginArray-clause-ok
copy_value-returns-in_ok-begin_array-in-BeginArray-clause-ok t c =
    let ts = c.next.new.self in
    let first : c.args.reader.now ≡ token_of c.in_ok-token.token ∷ ts = grind arith in
    let opened = ap (λ s. converted of_json (value c.args.depth s)) (first ∙ ap (λ k. token_of k ∷ ts) c.in-BeginArray.is)
    ∙ ap (converted of_json) (value-begin_array c.args.depth ts (omega arith))
    ∙ converted-array (items (value (c.args.depth - 1)) (length ts) ts) in
    let wrote = c.in_ok-begin_array-in-BeginArray.ensures in
    on_ok_weaker c.copy_items.result
    (λ done.
    let (ds, reads, given) = done in (
      array ds,
      canonical-same (array ds) _ _ c.copy_items.new.reader opened reads,
      (
        given.0 ∙ wrote.room.0,
        given.1 ∙ ap (λ x. x ++ items_tokens (items_outline ds)) wrote.ok
            ∙ append_assoc c.args.writer.now.tokens (Token.begin_array ∷ []) (items_tokens (items_outline ds)),
      ),
    ))
    c.copy_items.ensures.ok

pub copy_value-returns-in_ok-begin_object-in-BeginObject-clause-ok : goal.copy_value-returns-in_ok-begin_object-in-BeginObject-clause-ok
copy_value-returns-in_ok-begin_object-in-BeginObject-clause-ok t c =
    let ts = c.next.new.self in
    let first : c.args.reader.now ≡ token_of c.in_ok-token.token ∷ ts = grind arith in
    let opened = ap (λ s. converted of_json (value c.args.depth s)) (first ∙ ap (λ k. token_of k ∷ ts) c.in-BeginObject.is)
    ∙ ap (converted of_json) (value-begin_object c.args.depth ts (omega arith))
    ∙ converted-object (members (value (c.args.depth - 1)) (length ts) ts) in
    let wrote = c.in_ok-begin_object-in-BeginObject.ensures in
    on_ok_weaker c.copy_members.result
    (λ done.
    let (ms, reads, given) = done in (
      object ms,
      canonical-same (object ms) _ _ c.copy_members.new.reader opened reads,
      (
        given.0 ∙ wrote.room.0,
        given.1 ∙ ap (λ x. x ++ members_tokens (members_outline ms)) wrote.ok
            ∙ append_assoc c.args.writer.now.tokens (Token.begin_object ∷ []) (members_tokens (members_outline ms)),
      ),
    ))
    c.copy_members.ensures.ok

pub copy_items-items-init : goal.copy_items-items-init
copy_items-items-init t c = (λ rest. rest, array_begin (value c.args.depth) c.args.reader.now, refl, λ rest. refl)

pub copy_items-items-preserved : goal.copy_items-items-preserved
copy_items-items-preserved t c =
    let l = c.items in
    let (front, order, before, tokens) = l.invariant in
    let going : (after_end_array l.reader ≡ None) × (c.take_end_array.new.self ≡ l.reader) = grind arith in
    let done = c.in_ok-copy_value.ensures in
    let (d, reads, given) = done.ok in
    let r = c.copy_value.new.reader in
    let less : length r < length l.reader = rw (← going.1) done.shorter in
    let here = subst (λ s. ReadsCanonical d (converted of_json (value c.args.depth s)) r) going.1 reads in (
      λ rest. front (item d rest),
      array_more (value c.args.depth) c.args.reader.now l.reader r front d order going.0 here less,
      given.0 ∙ before,
      subst (AreItemTokens c.args.writer.now.tokens (λ rest. front (item d rest))) (sym given.1)
          (item_tokens_more c.args.writer.now.tokens l.writer.tokens front d tokens),
    )

pub copy_items-returns-clause-ok : goal.copy_items-returns-clause-ok
copy_items-returns-clause-ok t c =
    let l = c.items in
    let (front, order, before, tokens) = l.invariant in
    let r = c.take_end_array.new.self in
    let wrote = c.in_ok-end_array.ensures in (
      front no_items,
      array_end (value c.args.depth) c.args.reader.now l.reader r front order (grind arith),
      (wrote.room.0 ∙ before, wrote.ok ∙ sym (tokens no_items)),
    )

pub copy_members-members-init : goal.copy_members-members-init
copy_members-members-init t c = (
  no_members,
  order_begin (value c.args.depth) c.args.reader.now,
  refl,
  sym
      (append-nil c.args.writer.now.tokens),
)

pub copy_members-members-preserved : goal.copy_members-members-preserved
copy_members-members-preserved t c =
    let l = c.members in
    let (old, order, before, tokens) = l.invariant in
    let k = c.in-Some.key.now in
    let s = c.next_key.new.self in
    let named : read_key l.reader ≡ Some (Some k, s) = grind arith in
    let last = option_map (λ s. s.now) l.last in
    let higher = c.is_above.ensures.above (grind arith) in
    let utf8 = c.is_above.ensures.utf8 in
    let keyed = c.in_ok-key-2.ensures in
    let done = c.in_ok-copy_value.ensures in
    let (d, reads, given) = done.ok in
    let r = c.copy_value.new.reader in (
      put k d old,
      order_more (value c.args.depth) c.args.reader.now l.reader last old order s r k d named higher utf8 reads done.shorter,
      given.0 ∙ keyed.room.0 ∙ before,
      given.1 ∙ ap (λ ts. ts ++ json_tokens (outline d)) (keyed.ok ∙ ap (λ ts. ts ++ Token.key k ∷ []) tokens)
          ∙ tokens_more c.args.writer.now.tokens k d old (order.below k higher),
    )

pub copy_members-returns-clause-ok : goal.copy_members-returns-clause-ok
copy_members-returns-clause-ok t c =
    let l = c.members in
    let (old, order, before, tokens) = l.invariant in
    let wrote = c.in_ok-end_object.ensures in (
      old,
      order_end (value c.args.depth) c.args.reader.now l.reader
          (option_map (λ s. s.now) l.last) old order c.next_key.new.self (grind arith),
      (
        wrote.room.0 ∙ before,
        wrote.ok ∙ ap (λ ts. ts ++ Token.end_object ∷ []) tokens
            ∙ tokens_end c.args.writer.now.tokens old,
      ),
    )
