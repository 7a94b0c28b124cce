-- Judgements by the numbers of their states.
use Rattle.std.proofs.Common.{◌≡◌, ◌<◌, ◌+◌, ◌++◌, ℕ, zero, suc, List, [], ◌∷◌, map, length, refl, sym, ap, subst, ◌∙◌, arith}
use Rattle.std.proofs.lemmas.List.{append_assoc, append-nil, get_or_append_left, length-append, length-map, map-append}
use Rattle.std.proofs.lemmas.List.Elements.{All-append, All-get_or, All-map}
use Rattle.std.specs.Prelude.{get_or, slice_index_or}
use Rattle.std.specs.List.{All}
use Rattle.mx_graph.specs.StateMap.{State}
use Rattle.mx_graph.specs.Record.{Row, no_row}
use Rattle.mx_state_res.specs.Numbered.{AreAdded, AreKnown}
use Rattle.mx_states.specs.Numbered.{state_at}
use Rattle.mx_receipt.specs.Receipt.{states_at}
use Rattle.mx_receipt.specs.Judgements.{Judged, AreBelow, afters, judged_by, judged_in, numbers_after, verdicts_in, verdicts_of}
use Rattle.mx_receipt.specs.declared.snapshots.Judgement.{Judgement}

pub all-tail : {A : Type 0} (P : A → Type 0) (x : A) (xs : List A) → All P (x ∷ xs) → All P xs
all-tail P x xs h = λ k d l. h (suc k) d (omega arith)

abbrev judged-with : Judgement → State → State → Judged
judged-with j before after = record { verdict = j.verdict; before = before; after = after }

-- more states change none of those that are numbered
pub judged-grows : (states more : List State) (js : List Judgement) → AreBelow (length states) js → judged_in (states ++ more) js ≡ judged_in states js
judged-grows states more [] h = refl
judged-grows states more (j ∷ js) h =
    let first : (j.before < length states) × (j.after < length states) = h 0 j (omega arith) in
    λ i. judged-with j (get_or_append_left states more [] j.before first.0 i) (get_or_append_left states more [] j.after first.1 i)
    ∷ judged-grows states more js (all-tail (λ (k : Judgement). (k.before < length states) × (k.after < length states)) j js h) i

pub judged-push : (states : List State) (js : List Judgement) (j : Judgement) → judged_in states (js ++ j ∷ []) ≡ judged_in states js ++ judged_by states j ∷ []
judged-push states js j = map-append (judged_by states) js (j ∷ [])

pub judged-length : (states : List State) (js : List Judgement) → length (judged_in states js) ≡ length js
judged-length states js = length-map js (judged_by states)

pub same-verdicts : (states : List State) (js : List Judgement) → verdicts_of (judged_in states js) ≡ verdicts_in js
same-verdicts states [] = refl
same-verdicts states (j ∷ js) = ap (λ vs. j.verdict ∷ vs) (same-verdicts states js)

numbered-at : (states : List State) (js : List Judgement) (p : ℕ) → p < length js → state_at states (slice_index_or (numbers_after js) p 0) ≡ slice_index_or (afters (judged_in states js)) p []
numbered-at states [] p l = absurd (omega arith)
numbered-at states (j ∷ js) zero l = refl
numbered-at states (j ∷ js) (suc p) l = numbered-at states js p (omega arith)

-- the states of these numbers are those after the events
pub numbered : (states : List State) (js : List Judgement) (events : List ℕ) → All (λ p. p < length js) events
    → map (state_at states) (map (λ p. slice_index_or (numbers_after js) p 0) events) ≡ states_at (afters (judged_in states js)) events
numbered states js [] h = refl
numbered states js (p ∷ events) h = λ i.
    numbered-at states js p (h 0 p (omega arith)) i ∷ numbered states js events (all-tail (λ q. q < length js) p events h) i

-- what holds below a count holds below a greater one
-- numbers of states after events, below the count of the states
pub after-numbers : (states : List State) (js : List Judgement) (events numbers : List ℕ) → AreBelow (length states) js → All (λ p. p < length js) events
    → numbers ≡ map (λ p. slice_index_or (numbers_after js) p 0) events → All (λ n. n < length states) numbers
after-numbers states js events numbers below h are =
    subst (All (λ n. n < length states)) (sym are) (All-map (λ n. n < length states) (λ p. slice_index_or (numbers_after js) p 0) events
    (λ k d l. after-number states js (get_or events k d) below (h k d l)))
  where
    after-number : (states : List State) (js : List Judgement) (p : ℕ) → AreBelow (length states) js → p < length js → slice_index_or (numbers_after js) p 0 < length states
    after-number states [] p b l = absurd (omega arith)
    after-number states (j ∷ js) zero b l = (b 0 j (omega arith)).1
    after-number states (j ∷ js) (suc p) b l = after-number states js p (all-tail (λ (k : Judgement). (k.before < length states) × (k.after < length states)) j js b) (omega arith)

pub below-more : (n m : ℕ) (js : List Judgement) → AreBelow n js → AreBelow (n + m) js
below-more n m js h = λ k d l. let b : ((get_or js k d).before < n) × ((get_or js k d).after < n) = h k d l in ((omega arith), (omega arith))

-- ---- states that were added

pub none-added : (rows : List Row) (states : List State) → AreAdded rows states states
none-added rows states = record { more = []; are = sym (append-nil states); known = λ k d l. absurd (omega arith) }

pub one-added : (rows : List Row) (old new : List State) (s : State) → new ≡ old ++ s ∷ [] → All (λ e. e.1 < length rows) s → AreAdded rows old new
one-added rows old new s are known = record { more = s ∷ []; are = are; known = only }
  where
    only : AreKnown rows (s ∷ [])
    only zero d l = known
    only (suc k) d l = absurd (omega arith)

pub added-twice : (rows : List Row) (old mid new : List State) → AreAdded rows old mid → AreAdded rows mid new → AreAdded rows old new
added-twice rows old mid new a b = record {
  more = a.more ++ b.more;
  are = b.are ∙ ap (λ ss. ss ++ b.more) a.are ∙ append_assoc old a.more b.more;
  known = All-append (λ s. All (λ e. e.1 < length rows) s) a.more b.more a.known b.known;
}

-- all states are known afterwards
pub all-known : (rows : List Row) (old new : List State) → AreKnown rows old → AreAdded rows old new → AreKnown rows new
all-known rows old new known a = subst (AreKnown rows) (sym a.are) (All-append (λ s. All (λ e. e.1 < length rows) s) old a.more known a.known)

pub added-length : (rows : List Row) (old new : List State) (n : ℕ) → AreAdded rows old new → n < length old → n < length new
added-length rows old new n a l = let e : length new ≡ length old + length a.more = ap length a.are ∙ length-append old a.more in omega arith

pub added-state : (rows : List Row) (old new : List State) (n : ℕ) → AreAdded rows old new → n < length old → state_at new n ≡ state_at old n
added-state rows old new n a l = ap (λ ss. state_at ss n) a.are ∙ get_or_append_left old a.more [] n l

pub added-judged : (rows : List Row) (old new : List State) (js : List Judgement) → AreAdded rows old new → AreBelow (length old) js → judged_in new js ≡ judged_in old js
added-judged rows old new js a below = ap (λ ss. judged_in ss js) a.are ∙ judged-grows old a.more js below

pub added-below : (rows : List Row) (old new : List State) (js : List Judgement) → AreAdded rows old new → AreBelow (length old) js → AreBelow (length new) js
added-below rows old new js a below =
    subst (λ n. AreBelow n js) (sym (ap length a.are ∙ length-append old a.more)) (below-more (length old) (length a.more) js below)

-- rows that were added behind do no harm
pub known-longer : (rows longer : List Row) (states : List State) → length rows < length longer → AreKnown rows states → AreKnown longer states
known-longer rows longer states l known = λ k d m. λ i e n. let b : (get_or (get_or states k d) i e).1 < length rows = known k d m i e n in omega arith

pub added-longer : (rows longer : List Row) (old new : List State) → length rows < length longer → AreAdded rows old new → AreAdded longer old new
added-longer rows longer old new l a = record { more = a.more; are = a.are; known = known-longer rows longer a.more l a.known }

pub grown-state : (old more new : List State) (n : ℕ) → new ≡ old ++ more → n < length old → state_at new n ≡ state_at old n
grown-state old more new n are l = ap (λ ss. state_at ss n) are ∙ get_or_append_left old more [] n l

pub grown-length : (old more new : List State) (n : ℕ) → new ≡ old ++ more → n < length old → n < length new
grown-length old more new n are l = let e : length new ≡ length old + length more = ap length are ∙ length-append old more in omega arith

pub known-state : (rows : List Row) (old new : List State) (n : ℕ) → AreKnown rows old → AreAdded rows old new → n < length new → All (λ e. e.1 < length rows) (state_at new n)
known-state rows old new n known a l = All-get_or (λ s. All (λ e. e.1 < length rows) s) new n [] l (all-known rows old new known a)

-- first states whose events are rows, and then one with the event that comes next
pub event-added : (rows longer : List Row) (old mid new : List State) (number : ℕ) → length rows < length longer → AreKnown rows old → AreAdded rows old mid → number ≡ length rows
    → ((rs : List Row) → number < length rs → AreKnown rs mid → AreAdded rs mid new) → AreAdded longer old new
event-added rows longer old mid new number l known first is then =
    added-twice longer old mid new (added-longer rows longer old mid l first)
    (then longer (omega arith) (known-longer rows longer mid l (all-known rows old mid known first)))

-- states were added, whatever comes next
pub grown-by-event : (rows : List Row) (old new : List State) → ((longer : List Row) → length rows < length longer → AreAdded longer old new) → (more : List State) × (new ≡ old ++ more)
grown-by-event rows old new added =
    let longer : List Row = rows ++ no_row ∷ [] in
    let e : length (rows ++ no_row ∷ []) ≡ length rows + 1 = length-append rows (no_row ∷ []) in
    let a : AreAdded longer old new = added longer (omega arith) in
    (a.more, a.are)

pub one-longer : (rows : List Row) (r : Row) → length rows < length (rows ++ r ∷ [])
one-longer rows r = let e : length (rows ++ r ∷ []) ≡ length rows + 1 = length-append rows (r ∷ []) in omega arith
