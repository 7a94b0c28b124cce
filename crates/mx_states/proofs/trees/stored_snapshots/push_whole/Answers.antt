use Rattle.std.proofs.Common.{length, subst, refl}
use Rattle.mx_states.specs.StoredSnapshots.{IsSound}
use Rattle.mx_states.proofs.StoredLemmas.{none-more, on_err, one-more}
use Rattle.mx_states.proofs.trees.stored_snapshots.push_whole.Goals as goal

pub returns-in_err-next-clause-sound : goal.returns-in_err-next-clause-sound
returns-in_err-next-clause-sound c = (none-more c.args.trees.now.items c.with_entries.new.trees.items c.args.stored.now.items c.args.stored.now.items c.requires.sound c.with_entries.ensures.more c.with_entries.ensures.lower refl).sound

pub returns-in_err-next-clause-err : goal.returns-in_err-next-clause-err
returns-in_err-next-clause-err c = on_err c.from_residual.result (none-more c.args.trees.now.items c.with_entries.new.trees.items c.args.stored.now.items c.args.stored.now.items c.requires.sound c.with_entries.ensures.more c.with_entries.ensures.lower refl).same

pub returns-in_err-push-clause-sound : goal.returns-in_err-push-clause-sound
returns-in_err-push-clause-sound c = (none-more c.args.trees.now.items c.with_entries.new.trees.items c.args.stored.now.items c.push.new.self.items c.requires.sound c.with_entries.ensures.more c.with_entries.ensures.lower c.in_err-push.ensures.items).sound

pub returns-in_err-push-clause-err : goal.returns-in_err-push-clause-err
returns-in_err-push-clause-err c = on_err c.from_residual-in_err-push.result (none-more c.args.trees.now.items c.with_entries.new.trees.items c.args.stored.now.items c.push.new.self.items c.requires.sound c.with_entries.ensures.more c.with_entries.ensures.lower c.in_err-push.ensures.items).same

pub returns-clause-sound : goal.returns-clause-sound
returns-clause-sound c =
    let next = c.in_ok-next.next in
    let sound = subst (λ ss. IsSound c.with_entries.new.trees.items ss (length ss) next) c.deref.ensures.value c.in_ok-next.ensures.sound in
    (one-more c.args.trees.now.items c.with_entries.new.trees.items c.args.stored.now.items c.push.new.self.items next _ c.requires.sound c.with_entries.ensures.more c.with_entries.ensures.lower sound c.in_ok-next.ensures.meant c.in_ok-push.ensures.items).sound

pub returns-clause-added : goal.returns-clause-added
returns-clause-added c =
    let next = c.in_ok-next.next in
    let sound = subst (λ ss. IsSound c.with_entries.new.trees.items ss (length ss) next) c.deref.ensures.value c.in_ok-next.ensures.sound in
    (one-more c.args.trees.now.items c.with_entries.new.trees.items c.args.stored.now.items c.push.new.self.items next _ c.requires.sound c.with_entries.ensures.more c.with_entries.ensures.lower sound c.in_ok-next.ensures.meant c.in_ok-push.ensures.items).added
