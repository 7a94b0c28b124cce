use Rattle.std.proofs.Common.{rules, arith, sym, ap, ◌∙◌}
use Rattle.std.proofs.lemmas.List.{drop_all, take_rest}
use Rattle.mx_auth.specs.Keys.{repeats_key}
use Rattle.mx_auth.proofs.CitingLemmas.{repeats_key-here, repeats_key-later, repeats_key-none}
use Rattle.mx_auth.proofs.citing.repeats_key.Goals as goal

pub returns-then-is_cited_again : goal.returns-then-is_cited_again
returns-then-is_cited_again c = repeats_key-here c.args.entries.now c.loop-i.i c.index-entries-i.result _ (omega arith) c.index-entries-i.is (search (rules, take_rest)) c.loop-i.invariant

pub loop-i-preserved : goal.loop-i-preserved
loop-i-preserved c = repeats_key-later c.args.entries.now c.loop-i.i c.index-entries-i.result _ (omega arith) c.index-entries-i.is (search (rules, take_rest)) c.loop-i.invariant

pub returns : goal.returns
returns c = sym (ap repeats_key (drop_all c.loop-i.i c.args.entries.now (omega arith)) ∙ repeats_key-none) ∙ c.loop-i.invariant
