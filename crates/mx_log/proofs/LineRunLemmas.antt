-- Lines so far, and one line more.
use Rattle.std.proofs.Common.{◌≡◌, ◌≢◌, ℕ, zero, suc, ◌<◌, ◌≤◌, List, [], ◌∷◌, ◌++◌, Option, Some, None, length, take, drop, slice_index, map, refl, sym, ◌∙◌, ap, subst, arith, append-nil, append_assoc}
use Rattle.std.specs.Prelude.{flat_map}
use Rattle.std.specs.List.{onto_first}
use Rattle.std.specs.Io.KnownBytes.{Appends}
use Rattle.std.proofs.lemmas.Bool.{ne_eqb}
use Rattle.std.proofs.lemmas.Grind.{flat_map-append}
use Rattle.mx_redact.specs.Fields.{Event}
use Rattle.mx_world.specs.Calls.{Start}
use Rattle.mx_world.specs.Replies.{AreReplies}
use Rattle.mx_world.specs.View.{WorldView}
use Rattle.mx_world.specs.Worlds.{IsAfter}
use Rattle.mx_world.specs.declared.steps.Step.{Step}
use Rattle.mx_world.specs.declared.steps.StepReply.{StepReply}
use Rattle.mx_log.specs.Lines.{lines_of, read_line}
use Rattle.mx_log.specs.LineRuns.{IsDone, AreRunSoFar}
use Rattle.mx_log.specs.LineSteps.{AreExchanges, Exchange, IsExchange, line_output, outputs}
use Rattle.mx_pdu.specs.declared.offering.Offered.{Offered}

-- what is appended after something is appended
pub appends_more : (a b c : Option (List ℕ)) (xs ys : List ℕ) → Appends a b xs → Appends b c ys → Appends a c (xs ++ ys)
appends_more None b c xs ys first next = tt
appends_more (Some a) None c xs ys first next = absurd first
appends_more (Some a) (Some b) None xs ys first next = absurd next
appends_more (Some a) (Some b) (Some c) xs ys first next = next ∙ ap (λ l. l ++ ys) first ∙ append_assoc a xs ys

pub appends_none : (a : Option (List ℕ)) → Appends a a []
appends_none None = tt
appends_none (Some a) = sym (append-nil a)

-- replies to steps, and to those after them
pub replies_append : (s : Start) (earlier steps later : List Step) (replies more : List StepReply) → AreReplies s earlier steps replies
    → AreReplies s (earlier ++ steps) later more → AreReplies s earlier (steps ++ later) (replies ++ more)
replies_append s earlier [] later [] more first next =
    let P : List Step → Type 0 = λ e. AreReplies s e later more in subst P (append-nil earlier) next
replies_append s earlier [] later (r ∷ rs) more first next = absurd first
replies_append s earlier (x ∷ xs) later [] more first next = absurd first
replies_append s earlier (x ∷ xs) later (r ∷ rs) more first next =
    let P : List Step → Type 0 = λ e. AreReplies s e later more in
    (first.0, replies_append s (earlier ++ x ∷ []) xs later rs more first.1 (subst P (sym (append_assoc earlier (x ∷ []) xs)) next))

exchanges_more : (offer : Event → Offered) (server : List ℕ) (xs : List Exchange) (x : Exchange) → AreExchanges offer server xs
    → IsExchange offer server x → AreExchanges offer server (xs ++ x ∷ [])
exchanges_more offer server [] x all one = (one, tt)
exchanges_more offer server (y ∷ ys) x all one = (all.0, exchanges_more offer server ys x all.1 one)

flat_one : {A : Type 0} (f : Exchange → List A) (xs : List Exchange) (x : Exchange) → flat_map f (xs ++ x ∷ []) ≡ flat_map f xs ++ f x
flat_one f xs x = flat_map-append f xs (x ∷ []) ∙ ap (λ l. flat_map f xs ++ l) (append-nil (f x))

pub map_one : {A B : Type 0} (f : A → B) (xs : List A) (x : A) → map f (xs ++ x ∷ []) ≡ map f xs ++ f x ∷ []
map_one f [] x = refl
map_one f (y ∷ ys) x = ap (λ l. f y ∷ l) (map_one f ys x)

-- before the first line
pub none_so_far : {K L : Type 0} (offer : Event → Offered) (server : List ℕ) (start : Start) (w : WorldView K L) → IsAfter start [] w → AreRunSoFar offer server start [] [] w
none_so_far offer server start w now = record {
  exchanges = [];
  run = record { are_lines = refl; steps = tt; replied = tt; is_output = refl };
  after = now;
}

-- one line more
pub one_more : {K L : Type 0} (offer : Event → Offered) (server : List ℕ) (start : Start) (lines : List (List ℕ)) (written line output : List ℕ) (w w' : WorldView K L)
    (before : AreRunSoFar offer server start lines written w) → IsDone offer server (read_line offer line) output start (flat_map (λ x. x.steps) before.exchanges) w'
    → AreRunSoFar offer server start (lines ++ line ∷ []) (written ++ (output ++ 10 ∷ [])) w'
one_more offer server start lines written line output w w' before done =
    let x : Exchange = record { line = read_line offer line; steps = done.steps; replies = done.replies } in
    let xs : List Exchange = before.exchanges in
    let steps : flat_map (λ x. x.steps) (xs ++ x ∷ []) ≡ flat_map (λ x. x.steps) xs ++ done.steps = flat_one (λ x. x.steps) xs x in
    let replies : flat_map (λ x. x.replies) (xs ++ x ∷ []) ≡ flat_map (λ x. x.replies) xs ++ done.replies = flat_one (λ x. x.replies) xs x in
    record {
      exchanges = xs ++ x ∷ [];
      run = record {
        are_lines = map_one (λ x. x.line) xs x ∙ ap (λ l. l ++ read_line offer line ∷ []) before.run.are_lines ∙ sym (map_one (read_line offer) lines line);
        steps = exchanges_more offer server xs x before.run.steps (record { steps = done.shown; replies = done.done.count });
        replied = rw (steps, replies)
            (replies_append start [] (flat_map (λ x. x.steps) xs) done.steps (flat_map (λ x. x.replies) xs) done.replies before.run.replied done.done.replied);
        is_output = ap (λ l. l ++ (output ++ 10 ∷ [])) before.run.is_output
            ∙ ap (λ l. outputs offer server xs ++ (l ++ 10 ∷ [])) done.is_output
            ∙ sym (flat_one (λ x. line_output offer server x.line x.replies ++ 10 ∷ []) xs x);
      };
      after = rw steps done.done.after;
    }

-- the first line of a text
pub lines-first : (text : List ℕ) (n : ℕ) → 0 < length text → n ≤ length text → ((k : ℕ) → k < n → slice_index text k ≢ 10)
    → (n < length text → slice_index text n ≡ 10) → lines_of text ≡ take n text ∷ lines_of (drop 1 (drop n text))
unfolding lines_of
lines-first [] n some bound clean stops = absurd (omega (arith, some))
lines-first (c ∷ cs) zero some bound clean stops =
    let P : ℕ → Type 0 = λ x. lines_of (x ∷ cs) ≡ [] ∷ lines_of cs in subst P (sym (stops (omega arith))) refl
lines-first (c ∷ []) (suc zero) some bound clean stops = rw (ne_eqb c 10 (clean 0 (omega arith))) refl
lines-first (c ∷ []) (suc (suc n)) some bound clean stops = absurd (omega (arith, bound))
lines-first (c ∷ d ∷ cs) (suc n) some bound clean stops =
    let more : lines_of (d ∷ cs) ≡ take n (d ∷ cs) ∷ lines_of (drop 1 (drop n (d ∷ cs))) =
    lines-first (d ∷ cs) n (omega arith) (omega arith) (λ k less. clean (suc k) (omega arith)) (λ less. stops (omega arith)) in
    rw (ne_eqb c 10 (clean 0 (omega arith))) (ap (onto_first c) more)
