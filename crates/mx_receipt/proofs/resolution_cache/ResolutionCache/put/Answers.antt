use Rattle.mx_receipt.proofs.ResolutionLemmas.{put-entry}
use Rattle.mx_receipt.proofs.resolution_cache.ResolutionCache.put.Goals as goal

pub returns-clause-entries : goal.returns-clause-entries
returns-clause-entries c = λ e m.
    put-entry c.put.result c.args.self.now.resolutions c.put.new.self (record { numbers = c.shrink_to_fit.new.self }) c.args.list.numbers.items c.args.state c.shrink_to_fit.ensures.items c.put.ensures.entries c.put.ensures.err e m
