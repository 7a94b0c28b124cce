use Rattle.std.proofs.Common.{◌≡◌, ◌++◌, ℕ, List, sym, ap, ◌∙◌, append_assoc, arith}
use Rattle.std.specs.List.{flat_map, range_with_len}
use Rattle.mx_canon.specs.Canonical.{string_text}
use Rattle.mx_export.specs.RoomLogs.{number_of, part, transaction_text}
use Rattle.mx_export.proofs.WritingLemmas.{places-more}
use Rattle.mx_export.proofs.writing.write_transactions.Goals as goal

pub loop-index-preserved : goal.loop-index-preserved
loop-index-preserved c =
    let f = λ (k : ℕ). transaction_text (string_text c.args.origin.now) (string_text (number_of c.args.room.now k)) (part k c.args.events.now) in
    let i = c.loop-index.index in
    let name = c.in_ok-name.ensures in
    c.in_ok-write_transaction.ensures
    ∙ ap (λ o. o ++ transaction_text c.in_ok-name.name.origin.items c.in_ok-name.name.number.items c.part_of.result.now) c.loop-index.invariant
    ∙ ap (λ t. (c.args.out.now.items ++ flat_map f (range_with_len 0 i)) ++ t)
    (ap (λ o. transaction_text o c.in_ok-name.name.number.items c.part_of.result.now) name.origin
    ∙ ap (λ n. transaction_text (string_text c.args.origin.now) n c.part_of.result.now) name.number
    ∙ ap (transaction_text (string_text c.args.origin.now) (string_text (number_of c.args.room.now i))) c.part_of.ensures)
    ∙ append_assoc c.args.out.now.items (flat_map f (range_with_len 0 i)) (f i)
    ∙ ap (λ t. c.args.out.now.items ++ t) (sym (places-more f i))
