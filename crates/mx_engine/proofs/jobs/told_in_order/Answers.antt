use Rattle.std.proofs.Common.{◌≡◌, ◌<◌, ◌++◌, [], length, get_or, set, map, take, drop, refl, sym, ◌∙◌, ap, arith}
use Rattle.std.proofs.lemmas.List.{get_or-map, length-set, map-set}
use Rattle.mx_keeper.specs.Places.{place_number}
use Rattle.mx_engine.specs.Jobs.{merged}
use Rattle.mx_engine.proofs.ToldLemmas.{told_more, told_all}
use Rattle.mx_engine.proofs.jobs.told_in_order.Goals as goal

pub loop-offered-init : goal.loop-offered-init
loop-offered-init c = record {
  long = refl;
  so_far = ap (λ ts. ts ++ merged (length c.args.told_there.now.items) c.args.events.now
      (map (λ q. q.items) c.args.told_there.now.items)) c.new-told.ensures.items;
}

pub loop-offered-preserved : goal.loop-offered-preserved
loop-offered-preserved c =
    let i = c.loop-offered.invariant in
    let there = c.loop-offered.told_there.items in
    let n = c.number.result in
    let within : n < length there =
    omega (
      arith,
      c.number.ensures.within,
      c.of-place.ensures.count,
      i.long,
      c.len-count.ensures,
      c.args.told_there.now.ok.0,
    ) in
    let queue = c.index_mut.result.now in
    let is : get_or (map (λ q. q.items) there) n [] ≡ queue.items = get_or-map (λ q. q.items) there n queue [] within
    ∙ ap (λ q. q.items) (sym c.index_mut.ensures.value) in
    record {
      long = length-set there n c.tell_next.new.told_there ∙ i.long;
      so_far = told_more (length c.args.told_there.now.items) c.loop-offered.offered-index n c.args.events.now
          c.offered-item.result c.loop-offered.told.items c.tell_next.new.told.items
          (merged (length c.args.told_there.now.items) c.args.events.now (map (λ q. q.items) c.args.told_there.now.items))
          (map (λ q. q.items) there) (map (λ q. q.items) (set there n c.tell_next.new.told_there))
          c.loop-offered-test.true c.offered-item.is
          (c.number.ensures.number ∙ c.of-place.ensures.number
          ∙ ap (λ k. place_number k c.as_str.result.now) (c.len-count.ensures ∙ c.args.told_there.now.ok.0)
          ∙ ap (place_number (length c.args.told_there.now.items)) (c.as_str.ensures.text ∙ c.room_id.ensures))
          (c.in_ok-tell_next.ensures.told ∙ ap (λ ts. c.loop-offered.told.items ++ take 1 ts) (sym is))
          (map-set (λ q. q.items) there n c.tell_next.new.told_there
          ∙ ap (set (map (λ q. q.items) there) n) (c.in_ok-tell_next.ensures.left ∙ ap (drop 1) (sym is)))
          i.so_far;
    }

pub returns : goal.returns
returns c = told_all (length c.args.told_there.now.items) c.loop-offered.offered-index c.args.events.now
    c.loop-offered.told.items
    (merged (length c.args.told_there.now.items) c.args.events.now (map (λ q. q.items) c.args.told_there.now.items))
    (map (λ q. q.items) c.loop-offered.told_there.items)
    c.loop-offered-test.false c.loop-offered.invariant.so_far
