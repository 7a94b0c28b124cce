use Rattle.std.proofs.Common.{◌≡◌, ◌∙◌, ◌<◌, ◌≤◌, sym, subst}
use Rattle.mx_server_tests.proofs.engines.opened.Goals as goal

pub returns-clause-seated : goal.returns-clause-seated
returns-clause-seated g c = record {
  mine = c.in_ok-made.ensures.mine;
  numbers = λ n d l. c.in_ok-made.ensures.numbers n d (subst (λ k. n < k) c.in_ok-made.ensures.length l);
  whole = c.in_ok-made.ensures.length ∙ sym c.in_ok-made.ensures.count;
  some = subst (λ k. 1 ≤ k) (sym c.in_ok-made.ensures.length) c.requires.some;
}
