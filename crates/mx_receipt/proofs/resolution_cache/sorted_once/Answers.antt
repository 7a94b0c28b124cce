use Rattle.std.proofs.Common.{◌==◌, nat_eq, ap, sym, ◌∙◌}
use Rattle.std.proofs.lemmas.List.Filters.{dedup_is}
use Rattle.std.proofs.lemmas.List.Sorted.{list_any-IsPermutation}
use Rattle.mx_graph.specs.Record.{is_in}
use Rattle.mx_receipt.proofs.ResolutionLemmas.{dedup-members}
use Rattle.mx_receipt.proofs.resolution_cache.sorted_once.Goals as goal

pub returns : goal.returns
returns c = λ n.
    ap (λ xs. is_in xs n) (dedup_is nat_eq c.sort_unstable.new.self.items c.dedup-2.new.self.items c.dedup-2.ensures.filtered) ∙ dedup-members c.sort_unstable.new.self.items n
    ∙ sym (list_any-IsPermutation (λ x. x == n) c.dedup.new.self.items c.sort_unstable.new.self.items c.sort_unstable.ensures.permutation)
    ∙ ap (λ xs. is_in xs n) (dedup_is nat_eq c.args.numbers.items c.dedup.new.self.items c.dedup.ensures.filtered) ∙ dedup-members c.args.numbers.items n
