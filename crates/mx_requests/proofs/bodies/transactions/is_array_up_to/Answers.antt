use Rattle.std.proofs.Common.{sym, ap, ◌∙◌, nat_le}
use Rattle.mx_requests.proofs.EntryLemmas.{array-length}
use Rattle.mx_requests.proofs.bodies.transactions.is_array_up_to.Goals as goal

pub returns-in-Some : goal.returns-in-Some
returns-in-Some c =
    ap (λ n. nat_le n c.args.most) (c.len.ensures ∙ c.in-Some.entries.now.ok.0)
    ∙ sym (array-length c.args.most _ c.in-Some.entries.now.items c.in-Some.ensures)
