use Rattle.std.proofs.Common.{◌≡◌, ◌<◌, ◌≤◌, ◌+◌, true, drop, length, get_or, refl, sym, ◌∙◌, ap, subst, arith}
use Rattle.std.proofs.lemmas.List.{length-append}
use Rattle.mx_engine.specs.Jobs.{IsFresh}
use Rattle.mx_engine.specs.declared.jobs.Job.{Job}
use Rattle.mx_engine.proofs.RowLemmas.{next-within, next-is, next-rest, none-left, row-more}
use Rattle.mx_engine.proofs.jobs.jobs_of.Goals as goal

pub loop-berth-init : goal.loop-berth-init
loop-berth-init g c = record {
  left = c.into_iter-berth-iterator.ensures.into_iter_gives.0
      ∙ ap (λ ls. drop (length ls) c.args.berths.items) (sym c.requires.none);
  within = omega (arith, ap length c.requires.none);
  each = λ n d b l. absurd (omega (arith, l, ap length c.requires.none));
  room = refl;
}

pub new-requires-clause-within : goal.new-requires-clause-within
new-requires-clause-within g c =
    let l = next-within c.args.berths.items (length c.loop-berth.jobs.items) c.in-Some.berth c.next.new.self.rest.items
    (sym c.in-Some.ensures.steps.0 ∙ c.loop-berth.invariant.left) in
    omega (arith, l, c.len-number.ensures, c.len-count.ensures, c.loop-berth.jobs.ok.0, c.args.berths.ok.0)

pub is_busy_at-is_busy-requires : goal.is_busy_at-is_busy-requires
is_busy_at-is_busy-requires g c =
    let l = next-within c.args.berths.items (length c.loop-berth.jobs.items) c.in-Some.berth c.next.new.self.rest.items
    (sym c.in-Some.ensures.steps.0 ∙ c.loop-berth.invariant.left) in
    omega (arith, l, c.requires.few, c.len-number.ensures, c.loop-berth.jobs.ok.0)

pub new-requires-clause-few : goal.new-requires-clause-few
new-requires-clause-few g c = omega (arith, c.requires.few, c.len-count.ensures, c.args.berths.ok.0)

pub loop-berth-preserved : goal.loop-berth-preserved
loop-berth-preserved g c =
    let i = c.loop-berth.invariant in
    let at = length c.loop-berth.jobs.items in
    let rest = c.next.new.self.rest.items in
    let berth = c.in-Some.berth in
    let step = sym c.in-Some.ensures.steps.0 ∙ i.left in
    let items = c.push_reserved.ensures.items in
    let long : length c.push_reserved.new.self.items ≡ at + 1 = ap length items ∙ length-append c.loop-berth.jobs.items _ in
    record {
      left = next-rest c.args.berths.items at berth rest step ∙ ap (λ n. drop n c.args.berths.items) (sym long);
      within = let l = next-within c.args.berths.items at berth rest step in omega (arith, l, long);
      each = λ n d b l. subst
          (λ ls. IsFresh n (length c.args.berths.items) (get_or c.args.busy.now n true) (get_or c.args.berths.items n b)
          (get_or ls n d)) (sym items)
          (row-more (λ m (job : Job g.row.K.Denot). IsFresh m (length c.args.berths.items) (get_or c.args.busy.now m true)
          (get_or c.args.berths.items m b) job) at c.loop-berth.jobs.items _ refl (λ m e k. i.each m e b k)
          (record {
            placed = λ j. record {
              number = (c.new.ensures.number ∙ c.len-number.ensures ∙ c.loop-berth.jobs.ok.0) j;
              count = (c.new.ensures.count ∙ c.len-count.ensures ∙ c.args.berths.ok.0) j;
            };
            berth_is = sym (next-is c.args.berths.items at berth rest step b);
            busy = c.is_busy_at-is_busy.ensures
                ∙ ap (λ m. get_or c.args.busy.now m true) (c.len-number.ensures ∙ c.loop-berth.jobs.ok.0);
            untold = c.new-in-loop-berth.ensures.items;
            faultless = refl;
          }) n d (subst (λ m. n < m) long l));
      room = c.push_reserved.ensures.capacity ∙ i.room;
    }

pub returns : goal.returns
returns g c =
    let i = c.loop-berth.invariant in
    let all : length c.args.berths.items ≤ length c.loop-berth.jobs.items =
    none-left c.args.berths.items c.loop-berth.berth-iterator.rest.items (length c.loop-berth.jobs.items) i.left
    (omega (arith, c.loop-berth.berth-iterator.rest.ok.0, c.in-None.ensures.steps.0)) in
    record {
      count = omega (arith, all, i.within);
      each = λ n d b l. i.each n d b (omega (arith, all, l));
    }
