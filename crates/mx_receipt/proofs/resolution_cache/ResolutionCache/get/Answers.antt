use Rattle.std.proofs.Common.{nat_eq, subst, ◌∙◌}
use Rattle.std.specs.List.{Contains}
use Rattle.std.specs.Cmp.Lexicographic.{pointwise}
use Rattle.lru.proofs.CallerLemmas.{Contains-promoted}
use Rattle.mx_receipt.proofs.ResolutionLemmas.{get-entry}
use Rattle.mx_receipt.proofs.resolution_cache.ResolutionCache.get.Goals as goal

pub returns-clause-found : goal.returns-clause-found
returns-clause-found c = get-entry c.args.list.now.numbers.items c.args.self.now.resolutions c.copied.result (c.copied.ensures ∙ c.get.ensures.value)

pub returns-clause-stay : goal.returns-clause-stay
returns-clause-stay c = λ e m.
    Contains-promoted (λ k. pointwise nat_eq c.args.list.now.numbers.items k.numbers.items) c.args.self.now.resolutions.entries e
    (subst (λ cache. Contains cache.entries e) c.get.follows.holds-at-none m)
