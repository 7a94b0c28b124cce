use Rattle.std.proofs.Common.{sym, ap, ◌∙◌}
use Rattle.mx_auth.specs.Joins.{keeps_out, join_lines_of}
use Rattle.mx_auth.specs.Rules.{first_line}
use Rattle.mx_auth.proofs.JoinLemmas.{own_join-no_create, own_join-kept_out, own_join-judged}
use Rattle.mx_auth.proofs.joining.judge_own_join.Goals as goal

pub returns-in_default : goal.returns-in_default
returns-in_default g c = λ event own follows.
    sym (own_join-no_create c.args.version c.args.user.now event _ own (sym c.in_default.ensures))

pub returns-then-keeps_out : goal.returns-then-keeps_out
returns-then-keeps_out g c = λ event own follows.
    sym (own_join-kept_out c.args.version c.args.user.now event _ own c.in-Some.create.now (sym c.in-Some.ensures)
    (ap (keeps_out c.in-Some.create.now) (sym c.server.ensures.server) ∙ sym c.if-keeps_out.ensures))

pub returns : goal.returns
returns g c = λ event own follows.
    c.judge_join_of.ensures
    ∙ (λ i. first_line (join_lines_of c.args.version (c.as_str.ensures.text i) (c.as_str-2.ensures.text i) c.args.follows_create_alone (g.S.RoomState.state c.args.state.now)))
    ∙ sym (own_join-judged c.args.version c.args.user.now event _ own c.in-Some.create.now c.args.follows_create_alone (sym c.in-Some.ensures)
    (ap (keeps_out c.in-Some.create.now) (sym c.server.ensures.server) ∙ sym c.if-keeps_out.ensures) follows)
