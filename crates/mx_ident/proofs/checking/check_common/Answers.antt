use Rattle.std.proofs.Common.{rules, ◌≡◌, ◌<◌, length, true, false, sym, ◌∙◌}
use Rattle.std.specs.List.{position_or_len}
use Rattle.mx_ident.specs.Identifier.{begins_with, is_colon, is_empty, server_of}
use Rattle.mx_ident.proofs.ColonLemmas.{begins_with-first, common_error-no_colon, common_error-empty, common_error-long}
use Rattle.mx_ident.proofs.checking.check_common.Goals as goal

pub returns-in_default : goal.returns-in_default
returns-in_default c =
    let sigil : begins_with c.args.sigil c.args.text.now ≡ true = begins_with-first c.args.sigil c.args.text.now true (search rules) (search rules) in
    let none : position_or_len is_colon c.args.text.now ≡ length c.args.text.now = search rules in
    sym (common_error-no_colon c.args.sigil c.args.text.now sigil none)

pub returns-then-is_empty : goal.returns-then-is_empty
returns-then-is_empty c =
    let sigil : begins_with c.args.sigil c.args.text.now ≡ true = begins_with-first c.args.sigil c.args.text.now true (search rules) (search rules) in
    let some : position_or_len is_colon c.args.text.now < length c.args.text.now = search rules in
    let empty : is_empty (server_of c.args.text.now) ≡ true = search rules in
    sym (common_error-empty c.args.sigil c.args.text.now sigil some empty)

pub returns : goal.returns
returns c =
    let sigil : begins_with c.args.sigil c.args.text.now ≡ true = begins_with-first c.args.sigil c.args.text.now true (search rules) (search rules) in
    let some : position_or_len is_colon c.args.text.now < length c.args.text.now = search rules in
    let full : is_empty (server_of c.args.text.now) ≡ false = search rules in
    c.check_length.ensures ∙ sym (common_error-long c.args.sigil c.args.text.now sigil some full)
