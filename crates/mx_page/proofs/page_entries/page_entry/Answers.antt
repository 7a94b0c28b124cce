use Rattle.std.proofs.Common.{◌≡◌, ◌<◌, true, Some, None, length, sym, subst, ap, ◌∙◌, arith}
use Rattle.std.specs.Prelude.{if◌then◌else◌, nat_lt}
use Rattle.std.proofs.lemmas.Bool.{lt-ltb}
use Rattle.mx_page.specs.Escaping.{escaped}
use Rattle.mx_page.specs.Page.{entry_text}
use Rattle.mx_page.proofs.PartLemmas.{entry-is}
use Rattle.mx_page.proofs.page_entries.page_entry.Goals as goal

pub returns : goal.returns
returns c =
    let kept = c.args.audit.now in
    let p = c.args.number in
    let low : p < length c.timeline.result.now.kept = omega arith in
    let below : nat_lt p (length kept) ≡ true = lt-ltb p (length kept) (subst (λ ks. p < length ks) c.timeline.ensures low) in
    ap Some (c.in_ok-bytes.ensures ∙ ap escaped (c.deref.ensures.value ∙ c.in_ok-entry.ensures ∙ entry-is kept p c.in_ok-parts.parts c.in_ok-parts.ensures))
    ∙ sym (ap (λ b. if b then Some (escaped (entry_text kept p)) else None) below)
