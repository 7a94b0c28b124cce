use Rattle.std.proofs.Common.{refl}
use Rattle.mx_requests.specs.Targets.{table}
use Rattle.mx_requests.proofs.targets.routes.Routes.new.Goals as goal

pub invariant_of-result : goal.invariant_of-result
unfolding table
invariant_of-result c = record {
  is_table =
      rw (
        c.in_ok-add-9.ensures,
        c.in_ok-add-8.ensures,
        c.in_ok-add-7.ensures,
        c.in_ok-add-6.ensures,
        c.in_ok-add-5.ensures,
        c.in_ok-add-4.ensures,
        c.in_ok-add-3.ensures,
        c.in_ok-add-2.ensures,
        c.in_ok-add.ensures,
        c.new-router.ensures,
      )
      refl;
}
