use Rattle.std.proofs.Common.{◌≡◌, ◌∷◌, [], true, false, refl, sym, ap, ap₂, ◌∙◌, subst, string_bytes, rules}
use Rattle.std.specs.List.Sorted.{IsStrictlySortedBy}
use Rattle.std.specs.Map.{keys_of}
use Rattle.std.specs.String.{string_cmp}
use Rattle.serde_json.specs.Data.{member, put, no_members}
use Rattle.serde_json.specs.View.{view, members_view}
use Rattle.serde_json.proofs.Views.{Entry, members_view-insert_entry}
use Rattle.mx_redact.specs.Selected.{selected, selected_value, is_in_part}
use Rattle.mx_redact.proofs.SelectedLemmas.{selected-in, selected-out}
use Rattle.mx_redact.proofs.AppendLemmas.{appended, AllAbove, put-above, appended-appended, appended-no_members, all_above_more, all_above_none}
use Rattle.mx_redact.proofs.selections.+select.Goals as goal

pub copy_member-returns : goal.copy_member-returns
copy_member-returns t c =
    let s = c.args.selection in
    let v = view c.args.value.now in
    let named : string_bytes c.in_ok-name.name ≡ string_bytes c.args.key.now = search rules in
    let value : view c.in_ok-selected.selected ≡ selected_value s (string_bytes c.args.key.now) v = c.in_ok-selected.ensures ∙ ap (λ k. selected_value s k v) c.deref.ensures in
    ap members_view c.in_ok-insert.ensures.entries
    ∙ members_view-insert_entry c.args.copy.now.entries c.in_ok-name.name c.in_ok-selected.selected
    ∙ ap₂ (λ k d. put k d (members_view c.args.copy.now.entries)) named value

pub copy_of-loop-key-init : goal.copy_of-loop-key-init
copy_of-loop-key-init t c =
    let empty : c.new-copy.result.entries ≡ [] = search rules in
    let rest : c.into_iter-key-iterator.result ≡ c.args.members.now.entries = search rules in
    let sorted : IsStrictlySortedBy string_cmp (keys_of c.into_iter-key-iterator.result) = search rules in
    (sorted, rw empty (all_above_none _), rw (empty, rest) refl)

pub copy_of-loop-key-preserved-then-not-has : goal.copy_of-loop-key-preserved-then-not-has
unfolding IsStrictlySortedBy
copy_of-loop-key-preserved-then-not-has t c =
    let l = c.loop-key in
    let s = c.args.selection in
    let k = string_bytes c.in-Some.key.now in
    let e : Entry = (c.in-Some.key.now, c.in-Some.value.now) in
    let more = c.next.new.self in
    let sorted : IsStrictlySortedBy string_cmp (keys_of (e ∷ more)) = subst (λ es. IsStrictlySortedBy string_cmp (keys_of es)) c.in-Some.ensures.steps l.invariant.0 in
    let above : AllAbove (members_view l.copy.entries) (e ∷ more) = subst (AllAbove (members_view l.copy.entries)) c.in-Some.ensures.steps l.invariant.1 in
    let outside : is_in_part s k ≡ false = ap (is_in_part s) (sym c.deref.ensures) ∙ sym c.has.ensures ∙ c.if-not-has.true in (
      sorted.1,
      above.1,
      ap (appended (members_view l.copy.entries)) (sym (selected-out s k (view e.1) (members_view more) outside))
          ∙ ap (λ es. appended (members_view l.copy.entries) (selected s (members_view es))) (sym c.in-Some.ensures.steps)
          ∙ l.invariant.2,
    )

pub copy_of-loop-key-preserved : goal.copy_of-loop-key-preserved
unfolding IsStrictlySortedBy
copy_of-loop-key-preserved t c =
    let l = c.loop-key in
    let s = c.args.selection in
    let k = string_bytes c.in-Some.key.now in
    let e : Entry = (c.in-Some.key.now, c.in-Some.value.now) in
    let more = c.next.new.self in
    let v = selected_value s k (view e.1) in
    let done = members_view l.copy.entries in
    let sorted : IsStrictlySortedBy string_cmp (keys_of (e ∷ more)) = subst (λ es. IsStrictlySortedBy string_cmp (keys_of es)) c.in-Some.ensures.steps l.invariant.0 in
    let above : AllAbove done (e ∷ more) = subst (AllAbove done) c.in-Some.ensures.steps l.invariant.1 in
    let inside : is_in_part s k ≡ true = ap (is_in_part s) (sym c.deref.ensures) ∙ sym c.has.ensures ∙ c.if-not-has.false in
    let now : members_view c.copy_member.new.copy.entries ≡ appended done (member k v no_members) = search (rules, put-above done k v above.0) in (
      sorted.1,
      rw now (all_above_more done e.0 v more sorted.0 above.1),
      rw now (appended-appended done k v (selected s (members_view more))
          ∙ ap (appended done) (sym (selected-in s k (view e.1) (members_view more) inside))
          ∙ ap (λ es. appended done (selected s (members_view es))) (sym c.in-Some.ensures.steps)
          ∙ l.invariant.2),
    )

pub copy_of-returns : goal.copy_of-returns
copy_of-returns t c =
    let l = c.loop-key in
    let s = c.args.selection in
    sym (appended-no_members (members_view l.copy.entries))
    ∙ ap (λ es. appended (members_view l.copy.entries) (selected s (members_view es))) (sym c.in-None.ensures.steps.0)
    ∙ l.invariant.2
