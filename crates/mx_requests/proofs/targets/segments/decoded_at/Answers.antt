use Rattle.std.proofs.Common.{◌≡◌, inr, refl, sym, ap, ◌∙◌, subst, IsUtf8}
use Rattle.std.proofs.lemmas.Str.{is_utf8-from_IsUtf8}
use Rattle.percent_encoding.specs.Percent.{percent_decode}
use Rattle.percent_encoding.specs.declared.DecodeError.TheVariants.{Utf8, OutOfMemory}
use Rattle.mx_requests.proofs.SegmentLemmas.{not_utf8}
use Rattle.mx_requests.proofs.targets.segments.decoded_at.Goals as goal

pub returns-in_ok-text-in-Ok-clause-ok : goal.returns-in_ok-text-in-Ok-clause-ok
returns-in_ok-text-in-Ok-clause-ok c =
    c.in_ok-text-in-Ok.ensures.ok ∙ c.in-Ok.ensures.value ∙ c.percent_decode.ensures.bytes ∙ ap percent_decode (c.as_bytes.ensures.value ∙ c.segment_at-segment.ensures)

pub returns-in_ok-text-in-Ok-clause-utf8 : goal.returns-in_ok-text-in-Ok-clause-utf8
returns-in_ok-text-in-Ok-clause-utf8 c =
    let is = c.percent_decode.ensures.bytes ∙ ap percent_decode (c.as_bytes.ensures.value ∙ c.segment_at-segment.ensures) in
    is_utf8-from_IsUtf8 _ (subst IsUtf8 is c.in-Ok.ensures.ok_only_if_utf8)

pub returns-in-Err-Utf8-clause-err : goal.returns-in-Err-Utf8-clause-err
returns-in-Err-Utf8-clause-err c =
    let is = c.percent_decode.ensures.bytes ∙ ap percent_decode (c.as_bytes.ensures.value ∙ c.segment_at-segment.ensures) in
    inr (refl, not_utf8 _ (λ text. let differ : Utf8 c.in-Err-Utf8.field-0-0 ≡ OutOfMemory = sym c.in-Err-Utf8.field-0-is ∙ c.in-Err-Utf8.ensures.utf8 (subst IsUtf8 (sym is) text) in cc))
