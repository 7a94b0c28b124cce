use Rattle.std.proofs.Common.{◌<◌, IfSome, length, subst, sym, ap, ◌∙◌, arith}
use Rattle.std.specs.Option.{option_copied}
use Rattle.std.specs.BTreeMap.{get}
use Rattle.std.specs.Ordering.{nat_cmp}
use Rattle.mx_orders.proofs.FollowLemmas.{step-none, step-one}
use Rattle.mx_orders.proofs.following.follow.Goals as goal
use Rattle.mx_orders.proofs.following.follow.Goals.{in-Some+in_ok-push, in_default}

pub index_mut-requires : goal.index_mut-requires
index_mut-requires c =
    let h = subst (λ r. IfSome r (λ place. place < length c.args.followers.now.items)) (sym c.in-Some.ensures.value) (c.requires _) in
    let e = c.loop-event.invariant.so_far.len in
    let v = c.loop-event.followers.ok.0 in
    omega (arith, h, e, v)

pub loop-event-preserved : goal.loop-event-preserved
loop-event-preserved c =
    elim c.match-get.branch [
      | in-Some+in_ok-push w ↦
          let h = subst (λ r. IfSome r (λ place. place < length c.args.followers.now.items)) (sym w.in-Some.ensures.value) (c.requires _) in
          let e = c.loop-event.invariant.so_far.len in
          record {
            few = omega arith;
            so_far =
                step-one c.args.followers.now.items c.loop-event.followers.items c.match-get.followers.items (get nat_cmp c.args.places.now) c.args.rank c.loop-event.event-index c.event-item.result c.loop-event.found c.match-get.found c.args.cited_events.now
                c.loop-event-test.true c.event-item.is c.loop-event.invariant.so_far w.index_mut.result.now w.push.new.self w.in-Some.place.now (sym w.in-Some.ensures.value) (omega (arith, h, e)) (ap (λ v. v.items) w.followers-is) w.index_mut.ensures.value
                w.in_ok-push.ensures.items w.found-is;
          }
      | in_default w ↦ record {
        few = omega arith;
        so_far =
            step-none c.args.followers.now.items c.loop-event.followers.items c.match-get.followers.items (get nat_cmp c.args.places.now) c.args.rank c.loop-event.event-index c.event-item.result c.loop-event.found c.match-get.found c.args.cited_events.now c.loop-event-test.true
            c.event-item.is c.loop-event.invariant.so_far (sym c.get.ensures.value ∙ ap option_copied w.in_default.is) (ap (λ v. v.items) w.followers-is) w.found-is;
      }
    ]
