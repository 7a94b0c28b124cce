use Rattle.std.proofs.Common.{◌≡◌, ◌≤◌, ◌++◌, ◌∷◌, [], ℕ, List, refl, sym, subst, arith}
use Rattle.std.proofs.lemmas.List.Elements.{All-append, All-cons, All-contains, All-contains_itself, All-head, All-tail}
use Rattle.std.specs.List.{All, Contains}
use Rattle.mx_states.specs.ChangedKeys.{size_at}
use Rattle.mx_states.proofs.DifferingLemmas.{all-before, all-last, all-only}
use Rattle.mx_states.proofs.states.change_sizes.least_of.Goals as goal
use Rattle.mx_states.proofs.states.change_sizes.least_of.Goals.{then-size-edit+in_ok-least, else-size-edit+in_ok-least-2}

-- what is found among all but the last, or in place of these is the last
found-among : (base last n : ℕ) (between others : List ℕ) → others ≡ between ++ last ∷ [] → (x : ℕ) → Contains (base ∷ last ∷ []) x → Contains (x ∷ between) n → Contains (base ∷ others) n
found-among base last n between others e x m found =
    let P : ℕ → Type 0 = Contains (base ∷ others) in
    let all = All-contains_itself (base ∷ others) in
    let rest : All P (between ++ last ∷ []) = subst (All (Contains (base ∷ others))) e (All-tail P base others all) in
    let known : P x = All-contains P (base ∷ last ∷ []) x (All-cons P base (last ∷ []) (All-head P base others all) (all-only P last (all-last P between last rest))) m in
    All-contains P (x ∷ between) n (All-cons P x between known (all-before P between last rest)) found

least-among : (size : ℕ → ℕ) (base last m : ℕ) (between others : List ℕ) → others ≡ between ++ last ∷ [] → m ≤ size base → m ≤ size last → All (λ x. m ≤ size x) between → All (λ x. m ≤ size x) (base ∷ others)
least-among size base last m between others e b l all =
    All-cons (λ x. m ≤ size x) base others b (subst (All (λ x. m ≤ size x)) (sym e) (All-append (λ x. m ≤ size x) between (last ∷ []) all (all-only (λ x. m ≤ size x) last l)))

pub returns-clause-found : goal.returns-clause-found
returns-clause-found c =
    let base = c.args.edit.now.base in
    let last = c.in-Some.last.now in
    let among = found-among base last c.if-size-edit.least c.in-Some.between.now c.args.others.now c.in-Some.ensures.cases.0 in
    elim c.if-size-edit.branch [
      | then-size-edit+in_ok-least w ↦ among last (1, omega arith, refl) (subst (Contains (c.in-Some.last.now ∷ c.in-Some.between.now)) (sym w.least-is) w.in_ok-least.ensures.found)
      | else-size-edit+in_ok-least-2 w ↦ among base (0, omega arith, refl) (subst (Contains (c.args.edit.now.base ∷ c.in-Some.between.now)) (sym w.least-is) w.in_ok-least-2.ensures.found)
    ]

pub returns-clause-least : goal.returns-clause-least
returns-clause-least c =
    let edit = c.args.edit.now in
    let size : ℕ → ℕ = size_at edit.states.now edit.taken.now edit.puts.now in
    let base = edit.base in
    let last = c.in-Some.last.now in
    let between = c.in-Some.between.now in
    let counted : edit.size ≡ size base = edit.counted in
    let newest : c.in_ok-size.size ≡ size last = c.in_ok-size.ensures in
    elim c.if-size-edit.branch [
      | then-size-edit+in_ok-least w ↦
          let n = w.in_ok-least.least in
          let P : ℕ → Type 0 = λ x. size n ≤ size x in
          let here : size n ≤ size last = All-head P last between w.in_ok-least.ensures.least in
          let less = w.if-size-edit.true in
          subst (λ n. All (λ x. size n ≤ size x) (c.args.edit.now.base ∷ c.args.others.now)) (sym w.least-is)
          (least-among size base last (size n) between c.args.others.now c.in-Some.ensures.cases.0 (omega (arith, here, less, counted, newest)) here (All-tail P last between w.in_ok-least.ensures.least))
      | else-size-edit+in_ok-least-2 w ↦
          let n = w.in_ok-least-2.least in
          let P : ℕ → Type 0 = λ x. size n ≤ size x in
          let here : size n ≤ size base = All-head P base between w.in_ok-least-2.ensures.least in
          let less = w.if-size-edit.false in
          subst (λ n. All (λ x. size n ≤ size x) (c.args.edit.now.base ∷ c.args.others.now)) (sym w.least-is)
          (least-among size base last (size n) between c.args.others.now c.in-Some.ensures.cases.0 here (omega (arith, here, less, counted, newest)) (All-tail P base between w.in_ok-least-2.ensures.least))
    ]
