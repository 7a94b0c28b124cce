use Rattle.std.proofs.Common.{◌<◌, ◌&&◌, sym, subst, ap, ◌∙◌}
use Rattle.std.specs.List.{All, list_any}
use Rattle.mx_states.specs.MemberKeys.{is_member_key}
use Rattle.mx_states.proofs.ShownLemmas.{state-shown}
use Rattle.mx_states.proofs.states.States.has_member_where.Goals as goal

pub has_passing_member-requires-clause-known : goal.has_passing_member-requires-clause-known
has_passing_member-requires-clause-known g c =
    subst (All (λ e. e.1 < g.T.EventTest.event_count c.args.test.now))
    (state-shown c.self.inside.keys c.self.inside.snapshots c.args.self.now c.args.number c.self.view_is) c.requires.known

pub returns : goal.returns
returns g c =
    c.has_passing_member.ensures
    ∙ ap (list_any (λ e. is_member_key c.args.server.now e.0 && g.T.EventTest.event_test c.args.test.now e.1))
    (sym (state-shown c.self.inside.keys c.self.inside.snapshots c.args.self.now c.args.number c.self.view_is))
