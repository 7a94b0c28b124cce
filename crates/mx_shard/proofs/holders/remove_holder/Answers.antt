use Rattle.std.proofs.Common.{◌∙◌, None, Some, refl, sym, ap}
use Rattle.mx_shard.specs.declared.holders.Holder.{Holder}
use Rattle.mx_shard.specs.declared.holders.Holder.TheVariants.{Several}
use Rattle.mx_shard.proofs.HolderLemmas.{left_alone}
use Rattle.mx_shard.proofs.holders.remove_holder.Goals as goal

pub returns-in-Some-Several : goal.returns-in-Some-Several
returns-in-Some-Several c =
    left_alone c.args.holders.now c.args.id.now (Some Several) (ap (λ (h : Holder). Some h) (sym c.in-Some-Several.field-0-is) ∙ c.in-Some-Several.ensures.value) refl

pub returns-in-None : goal.returns-in-None
returns-in-None c = left_alone c.args.holders.now c.args.id.now None c.in-None.ensures.value refl
