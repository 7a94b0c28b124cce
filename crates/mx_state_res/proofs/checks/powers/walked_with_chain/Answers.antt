use Rattle.std.proofs.Common.{◌≡◌, ◌≤◌, ◌&&◌, ◌||◌, ℕ, ap, ◌∙◌}
use Rattle.std.proofs.lemmas.Bool.{le-leb}
use Rattle.mx_graph.specs.Graph.{auth_chain}
use Rattle.mx_graph.specs.Record.{is_in}
use Rattle.mx_graph.proofs.Closure.{in-all, is_in-from, same_tests}
use Rattle.mx_graph.proofs.Members.{In}
use Rattle.mx_state_res.proofs.checks.powers.walked_with_chain.Goals as goal

pub returns : goal.returns
returns c =
    c.in_ok-kept.ensures
    ∙ same_tests (λ p. is_in c.args.power.now p || is_in c.deref.result.now p) (λ p. is_in c.args.power.now p || is_in (auth_chain c.args.graph.now c.args.power.now) p) c.args.events.now
    (λ p h. ap (λ b. is_in c.args.power.now p || b) (chained p h))
  where
    chained : (p : ℕ) → In p c.args.events.now → is_in c.deref.result.now p ≡ is_in (auth_chain c.args.graph.now c.args.power.now) p
    chained p h =
        ap (λ ys. is_in ys p) c.deref.ensures.value ∙ c.in_ok-chain.ensures.set p
        ∙ ap (λ b. b && is_in (auth_chain c.args.graph.now c.args.power.now) p) (le-leb c.least_of.result p (in-all (λ n. c.least_of.result ≤ n) c.args.events.now p c.least_of.ensures.least (is_in-from p c.args.events.now h)))
