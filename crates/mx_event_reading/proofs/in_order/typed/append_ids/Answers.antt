use Rattle.std.proofs.Common.{◌≡◌, ℕ, ◌<◌, [], ◌∷◌, ◌++◌, ◌&&◌, true, length, length-append, None, Some, refl, sym, ap, ◌∙◌, arith, subst}
use Rattle.std.proofs.lemmas.List.Folds.{list_all-append}
use Rattle.std.specs.List.{list_all}
use Rattle.json.specs.Json.{after_end_array, value}
use Rattle.serde_json.specs.Data.{string}
use Rattle.serde_json.specs.Read.{of_json, converted}
use Rattle.serde_json.specs.Written.{comma_if}
use Rattle.mx_ident.specs.Identifier.{is_event_id}
use Rattle.mx_event_reading.specs.InOrder.{IsAppended}
use Rattle.mx_event_reading.proofs.ArrayLemmas.{StringsRead, strings_begin, strings_more, strings_end, strings_text}
use Rattle.mx_event_reading.proofs.in_order.typed.append_ids.Goals as goal

pub items-init : goal.items-init
items-init c = rw c.new-ids.ensures.items (strings_begin c.args.reader.now c.args.out.now.items, refl, omega arith)

pub items-preserved : goal.items-preserved
items-preserved c =
    let l = c.items in
    let (read, are, few) = l.invariant in
    let first = c.args.reader.now in
    let before = c.args.out.now.items in
    let going : (after_end_array l.reader ≡ None) × (c.take_end_array.new.self ≡ l.reader) = grind arith in
    let id = c.in_ok-id.id in
    let done = c.in_ok-id.ensures in
    let r = c.append_event_id.new.reader in
    let after = c.append_event_id.new.out.items in
    let less : length r < length l.reader = rw (← going.1) done.shorter in
    let there : (depth : ℕ)
    → IsAppended (string id) (converted of_json (value depth l.reader)) r c.append_comma.new.out.items after =
    λ depth. subst
    (λ s. IsAppended (string id) (converted of_json (value depth s)) r c.append_comma.new.out.items after) going.1
    (done.ok depth) in
    let here : (depth : ℕ)
    → IsAppended (string id) (converted of_json (value depth l.reader)) r (l.out.items ++ comma_if l.later) after =
    λ depth. subst
    (λ b. IsAppended (string id) (converted of_json (value depth l.reader)) r b after) c.in_ok-append_comma.ensures
    (there depth) in
    let pushed = c.in_ok-push.ensures.items in (
      subst (λ ss. StringsRead first r ss true before after) (sym pushed)
          (strings_more first l.reader l.ids.items l.later before l.out.items read r id after going.0 here less),
      ap (list_all is_event_id) pushed ∙ list_all-append is_event_id l.ids.items (id ∷ [])
          ∙ ap (λ b. b && (is_event_id id && true)) are ∙ ap (λ b. b && true) done.id,
      omega (arith, ap length pushed, length-append l.ids.items (id ∷ [])),
    )

pub returns-clause-ok : goal.returns-clause-ok
returns-clause-ok c =
    let l = c.items in
    let (read, are, few) = l.invariant in
    let first = c.args.reader.now in
    let before = c.args.out.now.items in
    let r = c.take_end_array.new.self in
    let over : after_end_array l.reader ≡ Some r = grind arith in
    rw c.shrink_to_fit.ensures.items (
      λ depth. strings_end first l.reader l.ids.items l.later before l.out.items read r depth over,
      c.in_ok-push-2.ensures.items ∙ strings_text first l.reader l.ids.items l.later before l.out.items read,
    )

pub returns-clause-shorter : goal.returns-clause-shorter
returns-clause-shorter c =
    let shorter = (c.items.invariant.0.order 0).read.shorter in
    grind arith
