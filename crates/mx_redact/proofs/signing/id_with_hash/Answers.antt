use Rattle.std.proofs.Common.{◌≡◌, ◌∷◌, sym, ap, ◌∙◌, subst, Err, None, Some}
use Rattle.std.specs.Str.{IsUtf8}
use Rattle.base64.specs.GeneralPurpose.{encode_of}
use Rattle.base64.specs.Engines.{url_safe_no_pad}
use Rattle.mx_ident.specs.Identifier.{event_id_error}
use Rattle.mx_redact.proofs.IdLemmas.{event_id_error-encode_of, utf8-encode_of}
use Rattle.mx_redact.proofs.signing.id_with_hash.Goals as goal

pub unreachable-requires : goal.unreachable-requires
unreachable-requires c = c.in_default.ensures.cases.0 (subst IsUtf8 (sym c.id_text-text.ensures) (utf8-encode_of c.args.hash.now))

pub unreachable-requires-in-Err-NotAnId : goal.unreachable-requires-in-Err-NotAnId
unreachable-requires-in-Err-NotAnId c =
    let text : c.in-Ok.text.now ≡ 36 ∷ encode_of url_safe_no_pad c.args.hash.now = c.in-Ok.ensures.cases.0 ∙ c.id_text-text.ensures in
    let refused : event_id_error c.in-Ok.text.now ≡ Some c.in-Err-NotAnId.field-0-0 = (c.in-Err-NotAnId.ensures.refused c.in-Err-NotAnId.field-0-0).0 (ap Err c.in-Err-NotAnId.field-0-is) in
    let none = event_id_error-encode_of c.args.hash.now c.told-hash in
    let both : None ≡ Some c.in-Err-NotAnId.field-0-0 = sym none ∙ ap event_id_error (sym text) ∙ refused in
    cc
