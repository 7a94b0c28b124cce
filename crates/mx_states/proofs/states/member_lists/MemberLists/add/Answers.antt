use Rattle.std.proofs.Common.{◌≡◌, ap, bytes_eq, option_map, arith}
use Rattle.std.proofs.lemmas.Map.Text.{text_keys}
use Rattle.mx_pdu.specs.StateKeys.{Key}
use Rattle.mx_states.specs.MemberKeys.{is_member_key}
use Rattle.mx_states.proofs.MemberLemmas.{member-named}
use Rattle.mx_states.proofs.states.member_lists.MemberLists.add.Goals as goal

pub returns-in_err-push-clause-err : goal.returns-in_err-push-clause-err
returns-in_err-push-clause-err c = grind (arith, text_keys)

pub returns-in_ok-push-clause-ok : goal.returns-in_ok-push-clause-ok
returns-in_ok-push-clause-ok c = λ server.
    let key : Key = (c.args.kind.now, c.args.state_key.now) in
    let named : is_member_key server key ≡ bytes_eq c.in-Some.server.now server = member-named key _ c.member_server.ensures c.in-Some.server.now (ap (option_map (λ t. t.now)) c.in-Some.is) server in
    grind (arith, text_keys, named)
