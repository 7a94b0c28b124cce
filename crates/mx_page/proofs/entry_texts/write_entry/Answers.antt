use Rattle.std.proofs.Common.{◌++◌, codes, option_map, subst, ap, ◌∙◌}
use Rattle.std.specs.Str.{chars}
use Rattle.mx_canon.specs.Pieces.{comma_if}
use Rattle.mx_page.specs.EntryTexts.{base_text, changes_text, resolution_member, without_end}
use Rattle.mx_page.proofs.PieceLemmas.{ten}
use Rattle.mx_page.proofs.entry_texts.write_entry.Goals as goal

pub returns : goal.returns
unfolding chars
returns g c = λ taken had.
    let parts = c.args.parts.now in
    let all = c.put-5.ensures _ (c.write_resolution.ensures _ (c.put-4.ensures _ (c.put-3.ensures _ (c.write_changes-2.ensures _ (c.put-2.ensures _ (c.write_base.ensures _ (c.write_changes.ensures _ (c.put.ensures _ (c.put_comma.ensures taken had))))))))) in
    let after = c.deref.ensures.value in
    let before = c.deref-2.ensures.value in
    let line = c.without_end.ensures ∙ ap without_end c.deref-3.ensures.value in
    let resolution = resolution_member (option_map (λ t. t.items) parts.resolution) in
    subst (g.S.TextSink.has_taken c.put-5.new.self)
    ((λ i. (((((((((taken ++ comma_if c.args.later) ++ codes "{\"after\":") ++ changes_text (after i)) ++ base_text parts.base) ++ codes ",\"before\":") ++ changes_text (before i)) ++ codes ",\"line\":") ++ line i) ++ resolution) ++ codes "}\n")
    ∙ ten taken (comma_if c.args.later) (codes "{\"after\":") (changes_text parts.after.items) (base_text parts.base) (codes ",\"before\":") (changes_text parts.before.items) (codes ",\"line\":") (without_end parts.line.items) resolution (codes "}\n"))
    all
