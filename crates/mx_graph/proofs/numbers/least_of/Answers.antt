use Rattle.std.proofs.Common.{◌≡◌, ◌<◌, ◌≤◌, ◌==◌, ◌⊎◌, inl, inr, ℕ, true, List, [], ◌∷◌, length, Some, None, refl, ap, subst, sym, arith, eq-eqb, ◌∙◌}
use Rattle.std.proofs.lemmas.Bool.{cases_lt}
use Rattle.std.proofs.lemmas.List.Elements.{All-more}
use Rattle.std.proofs.lemmas.List.{take_all}
use Rattle.std.specs.List.{All}
use Rattle.std.specs.Prelude.{min, option_copied, slice_get}
use Rattle.mx_graph.specs.Record.{is_in}
use Rattle.mx_graph.proofs.Closure.{is_in-index, or_left}
use Rattle.mx_graph.proofs.numbers.least_of.Goals as goal
use Rattle.mx_graph.proofs.numbers.least_of.Goals.{in-Some, in-None}

first-in : (xs : List ℕ) (n : ℕ) → slice_get xs 0 ≡ Some n → is_in xs n ≡ true
first-in [] n e = absurd (cc e)
first-in (x ∷ xs) n e = or_left (x == n) (is_in xs n) (eq-eqb x n (cc e))

no-first : (xs : List ℕ) → slice_get xs 0 ≡ None → xs ≡ []
no-first [] e = refl
no-first (x ∷ xs) e = absurd (cc e)

lesser-in : (xs : List ℕ) (a b m : ℕ) → m ≡ min a b → is_in xs a ≡ true → is_in xs b ≡ true → is_in xs m ≡ true
lesser-in xs a b m e i k = by (cases_lt a b)
  where
    by : (a < b) ⊎ (b ≤ a) → is_in xs m ≡ true
    by (inl l) = let s : a ≡ m = omega arith in subst (λ n. is_in xs n ≡ true) s i
    by (inr l) = let s : b ≡ m = omega arith in subst (λ n. is_in xs n ≡ true) s k

not-none : (xs : List ℕ) (n : ℕ) → is_in xs n ≡ true → xs ≡ [] → n ≡ 0
not-none [] n i e = absurd (cc i)
not-none (x ∷ xs) n i e = absurd (cc e)

has-some : (xs : List ℕ) (n : ℕ) → is_in xs n ≡ true → 0 < length xs
has-some [] n e = absurd (cc e)
has-some (x ∷ xs) n e = omega arith

pub loop-number-init : goal.loop-number-init
loop-number-init c =
    elim c.match-first.branch [
      | in-Some w ↦
          let there : is_in c.args.numbers.now c.match-first.least ≡ true = first-in c.args.numbers.now c.match-first.least (sym c.first.ensures.value ∙ ap option_copied w.in-Some.is ∙ ap Some (sym w.least-is)) in
          record { least = λ k d l. absurd (omega arith); one = λ l. there; none = not-none c.args.numbers.now c.match-first.least there }
      | in-None w ↦ record {
        least = λ k d l. absurd (omega arith);
        one = λ l. (let z : length c.args.numbers.now ≡ 0 = ap length (no-first c.args.numbers.now (sym c.first.ensures.value ∙ ap option_copied w.in-None.is)) in absurd (omega arith));
        none = λ e. w.least-is ∙ w.at-least.ensures;
      }
    ]

pub loop-number-preserved : goal.loop-number-preserved
loop-number-preserved c =
    let less : c.lesser-least.result ≡ min c.loop-number.least c.number-item.result = c.lesser-least.ensures in
    let within : c.loop-number.number-index < length c.args.numbers.now = c.loop-number-test.true in
    record {
      least =
          All-more (λ n. c.lesser-least.result ≤ n) c.args.numbers.now c.loop-number.number-index c.number-item.result c.loop-number-test.true
          (λ k d l. let a = c.loop-number.invariant.least k d l in omega (arith, a, less))
          (subst (λ n. c.lesser-least.result ≤ n) c.number-item.is (omega (arith, less)));
      one = λ l.
          lesser-in c.args.numbers.now c.loop-number.least c.number-item.result c.lesser-least.result less (c.loop-number.invariant.one l)
          (subst (λ n. is_in c.args.numbers.now n ≡ true) (sym c.number-item.is) (is_in-index c.args.numbers.now c.loop-number.number-index c.number-item.result within));
      none = λ e. (let z : length c.args.numbers.now ≡ 0 = ap length e in absurd (omega arith));
    }

pub returns-clause-least : goal.returns-clause-least
returns-clause-least c = subst (All (λ n. c.loop-number.least ≤ n)) (take_all c.loop-number.number-index c.args.numbers.now c.loop-number-test.false) c.loop-number.invariant.least

pub returns-clause-one : goal.returns-clause-one
returns-clause-one c = (has-some c.args.numbers.now c.loop-number.least, c.loop-number.invariant.one)
