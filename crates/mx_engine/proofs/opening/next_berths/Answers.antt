use Rattle.std.proofs.Common.{◌+◌, ◌∙◌, set, sym, subst, arith}
use Rattle.mx_dock.specs.Dock.{IsBerthOf}
use Rattle.mx_engine.proofs.OpeningLemmas.{AreMade, made-one, first-counted, next-made}
use Rattle.mx_engine.proofs.opening.next_berths.Goals as goal

pub loop-number-preserved : goal.loop-number-preserved
loop-number-preserved g c =
    let b = c.berth-berth in
    let items = c.in_ok-push.ensures.items in
    subst (λ row. AreMade c.args.docks.now c.args.first.now.items
    (set c.loop-number.first.items c.loop-number.number b.new.first) (c.loop-number.number + 1) row) (sym items)
    (made-one c.args.docks.now c.args.first.now.items c.loop-number.first.items c.loop-number.berths.items
    c.loop-number.number c.index_mut.result.now b.new.first b.result c.index-docks-number.result
    c.loop-number.invariant c.loop-number-test.true (c.requires.2.seated.same) c.index-docks-number.is
    c.index_mut.ensures.value
    (record {
      mine = λ x. subst (λ y. IsBerthOf y b.new.first) c.deref.ensures b.ensures.mine;
      away = b.ensures.idle;
      numbered = b.ensures.number;
      counted = b.ensures.counted;
      opened = b.ensures.opening;
      placed = b.ensures.place;
      same = b.ensures.seen;
      nothing = b.ensures.added;
    })
    (record {
      mine = λ x. subst (λ y. IsBerthOf y b.result) c.deref.ensures b.ensures.new;
      away = b.ensures.new_idle;
      numbered = b.ensures.new_number ∙ b.ensures.counted;
      opened = b.ensures.new_opening ∙ b.ensures.opening;
      placed = b.ensures.new_place ∙ b.ensures.place;
      same = b.ensures.new_seen ∙ b.ensures.seen;
      nothing = b.ensures.new_added;
    }))

pub returns-clause-first : goal.returns-clause-first
returns-clause-first g c = λ journals made f.
    first-counted journals c.args.docks.now c.args.first.now.items c.loop-number.first.items c.loop-number.berths.items
    c.loop-number.number made c.loop-number.invariant c.loop-number-test.false f

pub returns-clause-next : goal.returns-clause-next
returns-clause-next g c = λ journals made f.
    next-made journals c.args.docks.now c.args.first.now.items c.loop-number.first.items c.loop-number.berths.items
    c.loop-number.number made c.loop-number.invariant
    (omega (arith, c.loop-number-test.false, c.loop-number.auto.number-end)) f
