use Rattle.std.proofs.Common.{◌≡◌, true, false, sym, ap, ◌∙◌, string_bytes, subst}
use Rattle.serde_json.specs.View.{view, members_view}
use Rattle.mx_canon.specs.Canonical.{numbers, member_numbers}
use Rattle.mx_canon.specs.Faults.{fault_of, graver}
use Rattle.mx_redact.specs.Selected.{selected, selected_value, is_in_part}
use Rattle.mx_redact.proofs.SelectedLemmas.{selected_value-Object, fault-in, fault-out}
use Rattle.mx_redact.proofs.selections.+check.Goals as goal

pub fault_in_value-returns-in-Some-Object : goal.fault_in_value-returns-in-Some-Object
fault_in_value-returns-in-Some-Object t c =
    c.fault_in.ensures
    ∙ ap (λ d. fault_of (numbers d)) (sym (selected_value-Object c.args.selection c.args.key.now c.inner.result c.in-Some-Object.kept c.args.value.now c.in-Some-Object.members c.in-Some-Object.is-0 c.inner.ensures c.in-Some-Object.is-1))

pub fault_in-loop-key-preserved-then-not-has : goal.fault_in-loop-key-preserved-then-not-has
fault_in-loop-key-preserved-then-not-has t c =
    let s = c.args.selection in
    let k = string_bytes c.in-Some.key.now in
    let whole = fault_of (member_numbers (selected s (members_view c.args.members.now.entries))) in
    let outside : is_in_part s k ≡ false = ap (is_in_part s) (sym c.deref.ensures) ∙ sym c.has.ensures ∙ c.if-not-has.true in
    fault-out s k (view c.in-Some.value.now) (members_view c.next.new.self) c.loop-key.found whole outside
    (subst (λ es. graver c.loop-key.found (fault_of (member_numbers (selected s (members_view es)))) ≡ whole) c.in-Some.ensures.steps c.loop-key.invariant)

pub fault_in-loop-key-preserved : goal.fault_in-loop-key-preserved
fault_in-loop-key-preserved t c =
    let s = c.args.selection in
    let k = string_bytes c.in-Some.key.now in
    let v = view c.in-Some.value.now in
    let whole = fault_of (member_numbers (selected s (members_view c.args.members.now.entries))) in
    let inside : is_in_part s k ≡ true = ap (is_in_part s) (sym c.deref.ensures) ∙ sym c.has.ensures ∙ c.if-not-has.false in
    let here : c.fault_in_value.result ≡ fault_of (numbers (selected_value s k v)) = c.fault_in_value.ensures ∙ ap (λ l. fault_of (numbers (selected_value s l v))) c.deref-in-loop-key.ensures in
    ap (λ o. graver o (fault_of (member_numbers (selected s (members_view c.next.new.self))))) c.gravest-found.ensures
    ∙ fault-in s k v (members_view c.next.new.self) c.loop-key.found whole c.fault_in_value.result inside here
    (subst (λ es. graver c.loop-key.found (fault_of (member_numbers (selected s (members_view es)))) ≡ whole) c.in-Some.ensures.steps c.loop-key.invariant)
