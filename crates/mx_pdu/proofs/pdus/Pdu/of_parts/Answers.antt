use Rattle.std.proofs.Common.{sym, ap, ◌∙◌, subst, Some}
use Rattle.std.specs.Prelude.{string_bytes}
use Rattle.mx_pdu.specs.Inside.{AreOf, IsSound, value_in}
use Rattle.mx_pdu.proofs.TextLemmas.{value-read}
use Rattle.mx_pdu.proofs.pdus.Pdu.of_parts.Goals as goal

pub invariant_of-result : goal.invariant_of-result
invariant_of-result c =
    let (e, h) = c.requires in
    let are = c.of_read.ensures e h in
    subst IsSound (sym c.in_ok-parts.ensures.ok)
    (subst (AreOf c.of_read.result) (sym (value-read (string_bytes c.of_read.result.text) e are.reads)) are)

pub returns : goal.returns
returns c =
    let (e, h) = c.requires in
    let are = c.of_read.ensures e h in
    h.reads ∙ ap Some (sym (value-read (string_bytes c.of_read.result.text) e are.reads)) ∙ ap (λ p. Some (value_in (string_bytes p.text))) (sym c.in_ok-parts.ensures.ok)
