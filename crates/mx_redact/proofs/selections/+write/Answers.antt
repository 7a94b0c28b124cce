use Rattle.std.proofs.Common.{◌≡◌, ◌++◌, ◌∷◌, [], true, false, map, refl, sym, ap, ◌∙◌, subst, string_bytes}
use Rattle.std.specs.List.{join_with_byte}
use Rattle.std.specs.List.Sorted.{IsStrictlySortedBy}
use Rattle.std.specs.Map.{keys_of}
use Rattle.std.specs.String.{string_cmp}
use Rattle.serde_json.specs.View.{view, members_view}
use Rattle.serde_json.proofs.Views.{Entry}
use Rattle.mx_canon.specs.Canonical.{canonical_text, member_text, sorted_members}
use Rattle.mx_canon.specs.Pieces.{comma_if}
use Rattle.mx_canon.proofs.KeyLemmas.{keys-members_view}
use Rattle.mx_canon.proofs.PieceLemmas.{left, left-step, ended}
use Rattle.mx_redact.specs.Selected.{selected, selected_value, is_in_part}
use Rattle.mx_redact.proofs.SelectedLemmas.{selected_value-Object, selected-out, sorted_members-selected}
use Rattle.mx_redact.proofs.selections.+write.Goals as goal

pub write_selected_value-returns-in-Some-Object : goal.write_selected_value-returns-in-Some-Object
write_selected_value-returns-in-Some-Object g t c = λ taken had.
    subst (λ d. g.S.TextSink.has_taken c.write_selected.new.sink (taken ++ canonical_text d))
    (sym (selected_value-Object c.args.selection c.args.key.now c.inner.result c.in-Some-Object.kept c.args.value.now c.in-Some-Object.members c.in-Some-Object.is-0 c.inner.ensures c.in-Some-Object.is-1))
    (c.write_selected.ensures taken had)

pub write_selected-loop-key-preserved-then-not-has : goal.write_selected-loop-key-preserved-then-not-has
unfolding IsStrictlySortedBy
write_selected-loop-key-preserved-then-not-has g t c =
    let l = c.loop-key in
    let s = c.args.selection in
    let k = string_bytes c.in-Some.key.now in
    let e : Entry = (c.in-Some.key.now, c.in-Some.value.now) in
    let more = c.next.new.self in
    let sorted : IsStrictlySortedBy string_cmp (keys_of (e ∷ more)) = subst (λ es. IsStrictlySortedBy string_cmp (keys_of es)) c.in-Some.ensures.steps l.invariant.0 in
    let outside : is_in_part s k ≡ false = ap (is_in_part s) (sym c.deref.ensures) ∙ sym c.has.ensures ∙ c.if-not-has.true in (
      sorted.1,
      λ taken had.
          let (out, has, is) = l.invariant.1 taken had in (
            out,
            has,
            ap (λ ms. out ++ left l.later (map member_text (sorted_members ms))) (sym (selected-out s k (view e.1) (members_view more) outside))
                ∙ ap (λ es. out ++ left l.later (map member_text (sorted_members (selected s (members_view es))))) (sym c.in-Some.ensures.steps)
                ∙ is,
          ),
    )

pub write_selected-loop-key-preserved : goal.write_selected-loop-key-preserved
unfolding IsStrictlySortedBy canonical_text
write_selected-loop-key-preserved g t c =
    let l = c.loop-key in
    let s = c.args.selection in
    let k = string_bytes c.in-Some.key.now in
    let e : Entry = (c.in-Some.key.now, c.in-Some.value.now) in
    let more = c.next.new.self in
    let v = canonical_text (selected_value s k (view e.1)) in
    let sorted : IsStrictlySortedBy string_cmp (keys_of (e ∷ more)) = subst (λ es. IsStrictlySortedBy string_cmp (keys_of es)) c.in-Some.ensures.steps l.invariant.0 in
    let rise = keys-members_view (e ∷ more) sorted in
    let inside : is_in_part s k ≡ true = ap (is_in_part s) (sym c.deref.ensures) ∙ sym c.has.ensures ∙ c.if-not-has.false in
    let first = sorted_members-selected s k (view e.1) (members_view more) rise.0 rise.1 inside in (
      sorted.1,
      λ taken had.
          let (out, has, is) = l.invariant.1 taken had in (
            (out ++ comma_if l.later) ++ member_text (k, v),
            subst (λ name. g.S.TextSink.has_taken c.write_member.new.sink ((out ++ comma_if l.later) ++ member_text (name, canonical_text (selected_value s name (view e.1))))) c.deref-in-loop-key.ensures (c.write_member.ensures out has),
            left-step out _ _ (member_text (k, v)) l.later _ refl refl
                ∙ ap (λ es. out ++ left l.later (map member_text es)) (sym first)
                ∙ ap (λ es. out ++ left l.later (map member_text (sorted_members (selected s (members_view es))))) (sym c.in-Some.ensures.steps)
                ∙ is,
          ),
    )

pub write_selected-returns : goal.write_selected-returns
unfolding canonical_text
write_selected-returns g t c = λ taken had.
    let l = c.loop-key in
    let s = c.args.selection in
    let all = join_with_byte 44 (map member_text (sorted_members (selected s (members_view c.args.members.now.entries)))) in
    let (out, has, is) = l.invariant.1 (taken ++ 123 ∷ []) (c.put.ensures taken had) in
    let done = subst (λ es. out ++ left l.later (map member_text (sorted_members (selected s (members_view es)))) ≡ (taken ++ 123 ∷ []) ++ all) c.in-None.ensures.steps.0 is in
    subst (g.S.TextSink.has_taken c.put-2.new.self) (ended out taken all l.later 123 125 done) (c.put-2.ensures out has)
