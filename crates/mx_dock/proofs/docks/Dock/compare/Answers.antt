use Rattle.std.proofs.Common.{◌≡◌, ap, ◌∙◌}
use Rattle.crossbeam_queue.specs.Passes.{view}
use Rattle.mx_dock.specs.declared.views.PassView.{PassView}
use Rattle.mx_dock.specs.Rule.{both}
use Rattle.mx_dock.specs.Dock.{view_of}
use Rattle.mx_dock.proofs.MoveLemmas.{forks_spent, forks_parted, merges, meets, taken_in, one_joined}
use Rattle.mx_dock.proofs.docks.Dock.compare.Goals as goal

pub another-placeholder-requires-clause-rule : goal.another-placeholder-requires-clause-rule
another-placeholder-requires-clause-rule g c = forks_spent g.T.Journaled.journal g.T.Journaled.caller g.T.Journaled.place _ _ c.requires.first.3

pub absorb-requires-clause-rule : goal.absorb-requires-clause-rule
absorb-requires-clause-rule g c =
    let V = PassView g.row.T-Entry.Denot in
    let theirs : view {V = V} c.replace-other.result ≡ view_of c.args.second.now = ap (λ p. view {T = g.row.T.Denot} {V = V} p) c.replace-other.ensures.value in
    merges g.T.Journaled.journal g.T.Journaled.caller g.T.Journaled.place _ _ _ _ (ap (λ (v : V). v.is_live) c.another-placeholder.ensures.rule.0 ∙ c.requires.first.3)
    (ap (λ (v : V). v.is_live) theirs ∙ c.requires.second.3) (ap (λ (v : V). v.joined) theirs ∙ c.requires.second.2) (ap (λ (v : V). v.holds) theirs ∙ c.requires.second_idle)

pub learn_as-requires-clause-rule : goal.learn_as-requires-clause-rule
learn_as-requires-clause-rule g c =
    let V = PassView g.row.T-Entry.Denot in
    let theirs : view {V = V} c.replace-other.result ≡ view_of c.args.second.now = ap (λ p. view {T = g.row.T.Denot} {V = V} p) c.replace-other.ensures.value in
    let joint : view {V = V} c.absorb.new.pass ≡ both (view_of c.args.first.now) (view_of c.args.second.now) = taken_in c.another-placeholder.ensures.rule.0 theirs c.absorb.ensures.rule in
    meets g.T.Journaled.journal g.T.Journaled.caller g.T.Journaled.place _ _ (ap (λ (v : V). v.is_live) joint ∙ c.requires.first.3) (ap (λ (v : V). v.holds) joint ∙ c.requires.first_holds)

pub another-requires-clause-rule : goal.another-requires-clause-rule
another-requires-clause-rule g c =
    let V = PassView g.row.T-Entry.Denot in
    let theirs : view {V = V} c.replace-other.result ≡ view_of c.args.second.now = ap (λ p. view {T = g.row.T.Denot} {V = V} p) c.replace-other.ensures.value in
    let joint : view {V = V} c.learn_as.new.pass ≡ both (view_of c.args.first.now) (view_of c.args.second.now) = c.learn_as.ensures.queue.1 ∙ taken_in c.another-placeholder.ensures.rule.0 theirs c.absorb.ensures.rule in
    forks_parted g.T.Journaled.journal g.T.Journaled.caller g.T.Journaled.place _ _ (view_of c.args.second.now).own (ap (λ (v : V). v.is_live) joint ∙ c.requires.first.3) (one_joined (view_of c.args.first.now) (view_of c.args.second.now) _ joint c.requires.first.2)
