use Rattle.std.proofs.Common.{◌≡◌, ◌⊎◌, ℕ, ◌+◌, ◌∙◌, ◌++◌, ◌∷◌, [], length, drop, sym, ap, arith}
use Rattle.std.proofs.lemmas.List.{length_push}
use Rattle.mx_world.proofs.MakingLemmas.{numbered-none, numbered-more, placed-all, taken_first, taken_more}
use Rattle.mx_world.specs.Reopening.{CannotAt}
use Rattle.mx_world.specs.declared.open_errors.OpenError.{OpenError}
use Rattle.mx_world.specs.declared.open_errors.OpenError.TheVariants.{Memory}
use Rattle.mx_world.proofs.ReopeningLemmas.{over-none, over-more, over-all, refused-part}
use Rattle.mx_world.proofs.RefusalLemmas.{handed-on}
use Rattle.mx_world.proofs.reopening.reopened_parts.Goals as goal

pub loop-keeper-init : goal.loop-keeper-init
loop-keeper-init g c =
    let none : length c.new-parts.result.items ≡ 0 = ap length c.new-parts.ensures.items in
    record {
      each = numbered-none c.new-parts.result.items g.P.Part.place_of c.len-count.result none;
      over = over-none g.P.Part.is_over c.args.keepers.items c.new-parts.result.items none;
      long = omega (arith, c.into_iter-keeper-iterator.ensures.into_iter_gives.1, c.len-count.ensures);
      left = c.into_iter-keeper-iterator.ensures.into_iter_gives.0 ∙ ap (λ k. drop k c.args.keepers.items) (sym none);
      all = c.len-count.ensures ∙ c.args.keepers.ok.0;
    }

pub new-place-requires-clause-within : goal.new-place-requires-clause-within
new-place-requires-clause-within g c = omega (arith, c.in-Some.ensures.steps.1, c.loop-keeper.invariant.long, c.len.ensures, c.loop-keeper.parts.ok.0)

pub loop-keeper-preserved : goal.loop-keeper-preserved
loop-keeper-preserved g c =
    let more : c.push.new.self.items ≡ c.loop-keeper.parts.items ++ c.in_ok-part.part ∷ [] = c.in_ok-push.ensures.items in
    let number : c.len.result ≡ length c.loop-keeper.parts.items = c.len.ensures ∙ c.loop-keeper.parts.ok.0 in
    let longer : length c.push.new.self.items ≡ length c.loop-keeper.parts.items + 1 = ap length more ∙ length_push _ _ in
    let taken = taken_first c.args.keepers.items _ (length c.loop-keeper.parts.items) c.in-Some.keeper (sym c.loop-keeper.invariant.left ∙ c.in-Some.ensures.steps.0) in
    record {
      each = rw more (numbered-more c.loop-keeper.parts.items g.P.Part.place_of c.len-count.result c.in_ok-part.part c.loop-keeper.invariant.each
          (c.in_ok-part.ensures.place ∙ (λ i. record { number = (c.new-place.ensures.number ∙ number) i; count = c.new-place.ensures.count i })));
      over = rw more (over-more g.P.Part.is_over c.args.keepers.items c.loop-keeper.parts.items c.in-Some.keeper c.in_ok-part.part c.loop-keeper.invariant.over taken.1 c.in_ok-part.ensures.over);
      long = omega (arith, longer, c.in-Some.ensures.steps.1, c.loop-keeper.invariant.long);
      left = taken_more c.args.keepers.items _ (length c.loop-keeper.parts.items) (length c.push.new.self.items) c.in-Some.keeper longer (sym c.loop-keeper.invariant.left ∙ c.in-Some.ensures.steps.0);
      all = c.loop-keeper.invariant.all;
    }

pub returns-clause-count : goal.returns-clause-count
returns-clause-count g c = omega (arith, c.in-None.ensures.steps.0, c.loop-keeper.invariant.long, c.loop-keeper.invariant.all)

pub returns-clause-placed : goal.returns-clause-placed
returns-clause-placed g c =
    let all : length c.loop-keeper.parts.items ≡ c.len-count.result = omega (arith, c.in-None.ensures.steps.0, c.loop-keeper.invariant.long) in
    placed-all c.loop-keeper.parts.items g.P.Part.place_of c.len-count.result all (omega (arith, c.loop-keeper.invariant.all)) (omega (arith, c.loop-keeper.invariant.all)) c.loop-keeper.invariant.each

pub returns-clause-over : goal.returns-clause-over
returns-clause-over g c =
    let all : length c.loop-keeper.parts.items ≡ length c.args.keepers.items = omega (arith, c.in-None.ensures.steps.0, c.loop-keeper.invariant.long, c.loop-keeper.invariant.all) in
    over-all g.P.Part.is_over c.args.keepers.items c.loop-keeper.parts.items all c.loop-keeper.invariant.over

pub returns-in_err-part-clause-refused : goal.returns-in_err-part-clause-refused
returns-in_err-part-clause-refused g c =
    let taken = taken_first c.args.keepers.items _ (length c.loop-keeper.parts.items) c.in-Some.keeper (sym c.loop-keeper.invariant.left ∙ c.in-Some.ensures.steps.0) in
    let number : c.len.result ≡ length c.loop-keeper.parts.items = c.len.ensures ∙ c.loop-keeper.parts.ok.0 in
    let place : c.new-place.result ≡ record { number = length c.loop-keeper.parts.items; count = length c.args.keepers.items }
    = (λ i. record { number = (c.new-place.ensures.number ∙ number) i; count = (c.new-place.ensures.count ∙ c.loop-keeper.invariant.all) i }) in
    let Why : OpenError → Type 0 = λ error. (error ≡ Memory) ⊎ ((n : ℕ) × (error ≡ g.P.Part.refusal n) × CannotAt g.P.Part.cannot c.args.keepers.items n) in
    handed-on c.from_residual.result c.in_err-part.field-0.0 Why c.from_residual.ensures.1
    (refused-part g.P.Part.cannot g.P.Part.refusal c.args.keepers.items (length c.loop-keeper.parts.items) c.in-Some.keeper
    c.new-place.result c.in_err-part.field-0.0 taken.0 taken.1 place c.in_err-part.ensures.refused)
