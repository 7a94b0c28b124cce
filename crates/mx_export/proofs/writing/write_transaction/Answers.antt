use Rattle.std.proofs.Common.{◌≡◌, ◌++◌, [], ◌∷◌, List, ℕ, drop, length, ◌+◌, map, refl, sym, ap, ◌∙◌, append_assoc, append-nil, arith}
use Rattle.std.proofs.lemmas.List.{drop_all}
use Rattle.std.specs.List.{flat_map}
use Rattle.std.specs.Prelude.{codes}
use Rattle.serde_json.specs.Data.{null}
use Rattle.mx_redact.specs.Fields.{Event}
use Rattle.mx_export.specs.RoomLogs.{open_text, step_text}
use Rattle.mx_export.proofs.WritingLemmas.{texts-more, three}
use Rattle.mx_export.proofs.writing.write_transaction.Goals as goal

pub loop-init : goal.loop-init
loop-init c = ap (λ o. o ++ flat_map (λ (e : Event). step_text (codes "next") c.args.name.now.origin.items c.args.name.now.number.items) c.args.events.now) c.in_ok-write_open.ensures

pub loop-preserved : goal.loop-preserved
loop-preserved c =
    let next = λ (e : Event). step_text (codes "next") c.args.name.now.origin.items c.args.name.now.number.items in
    let n = c.loop.index in
    ap (λ o. o ++ flat_map next (drop (n + 1) c.args.events.now)) c.in_ok-extend_from_slice.ensures.items
    ∙ texts-more next c.args.events.now null n c.loop.out.items c.loop-test.true c.deref.result.now (c.deref.ensures.value ∙ c.in_ok-next.ensures)
    ∙ c.loop.invariant

pub returns : goal.returns
returns c =
    let name = c.args.name.now in
    let next = λ (e : Event). step_text (codes "next") name.origin.items name.number.items in
    let xs = c.args.events.now in
    let all : c.loop.out.items ≡ (c.args.out.now.items ++ open_text name.origin.items name.number.items xs) ++ flat_map next xs =
    sym (append-nil c.loop.out.items) ∙ ap (λ ys. c.loop.out.items ++ flat_map next ys) (sym (drop_all c.loop.index xs c.loop-test.false)) ∙ c.loop.invariant in
    three c.args.out.now.items (open_text name.origin.items name.number.items xs) (flat_map next xs) (step_text (codes "close") name.origin.items name.number.items)
    (c.args.out.now.items ++ open_text name.origin.items name.number.items xs) c.loop.out.items c.extend_from_slice-2.new.self.items
    refl all (c.in_ok-extend_from_slice-2.ensures.items ∙ ap (λ t. c.loop.out.items ++ t) (c.deref-2.ensures.value ∙ c.in_ok-close.ensures))
