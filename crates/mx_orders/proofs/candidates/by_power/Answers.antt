use Rattle.std.proofs.Common.{rules, ◌≡◌, ◌∙◌, ap, map}
use Rattle.std.specs.Ordering.{is_lt}
use Rattle.std.proofs.lemmas.Fn.{always_returns_same}
use Rattle.std.proofs.lemmas.List.Sorted.{ranks_by}
use Rattle.mx_orders.specs.Candidates.{candidate_cmp}
use Rattle.mx_orders.proofs.CandidateLemmas.{sorted-candidates, candidate_cmp-total}
use Rattle.mx_orders.proofs.candidates.by_power.Goals as goal

pub returns : goal.returns
returns c =
    c.in_ok-numbers.ensures ∙ ap (map (λ candidate. candidate.number)) c.deref.ensures.value
    ∙ sorted-candidates c.args.graph.now c.graph_is_sound.ensures c.args.events.now c.in_ok-candidates.candidates.items c.sort_by.new.self.items c.requires
    c.in_ok-candidates.ensures.numbers c.in_ok-candidates.ensures.read c.in_ok-sort_by.ensures.permutation
    (c.in_ok-sort_by.ensures.sorted (λ a b. is_lt (candidate_cmp a b)) (ranks_by candidate_cmp-total (λ p. p))
    (always_returns_same _ (λ a r. is_lt r ≡ is_lt (candidate_cmp a.0.now a.1.0.now)) _ (λ a r f k. search rules)))
