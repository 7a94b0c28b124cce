use Rattle.std.proofs.Common.{◌≡◌, ◌<◌, ◌≤◌, ◌⊎◌, inl, inr, List, Some, length, sym, ap, ◌∙◌, arith}
use Rattle.mx_receipt.specs.Receipt.{Kept, kept_at}
use Rattle.mx_audit.specs.Told.{Told, told}
use Rattle.mx_audit.proofs.ToldLemmas.{told-none, told-some}
use Rattle.mx_audit.proofs.room_audits.RoomAudit.explanation.Goals as goal

pub returns-then-place-eq0-clause-told : goal.returns-then-place-eq0-clause-told
returns-then-place-eq0-clause-told c =
    let first : c.args.number ≡ 0 = omega arith in
    told-none c.args.self.now c.args.number (inl first)

pub returns-then-place-len-clause-told : goal.returns-then-place-len-clause-told
returns-then-place-len-clause-told c =
    let kept = c.self.inside.timeline.kept in
    let past : length kept ≤ c.args.number = omega arith in
    told-none kept c.args.number (inr past) ∙ ap (λ (ks : List Kept). told ks c.args.number) c.self.view_is

pub returns-clause-told : goal.returns-clause-told
returns-clause-told c =
    let kept = c.self.inside.timeline.kept in
    let later : 0 < c.args.number = omega arith in
    let here : c.args.number < length kept = omega arith in
    ap (λ (t : Told). Some t) c.in_ok-explanation.ensures.told ∙ told-some kept c.args.number later here
    ∙ ap (λ (ks : List Kept). told ks c.args.number) c.self.view_is

pub returns-clause-verdict : goal.returns-clause-verdict
returns-clause-verdict c = ap (λ (ks : List Kept). (kept_at ks c.args.number).verdict) (sym c.self.view_is) ∙ c.in_ok-explanation.ensures.verdict
