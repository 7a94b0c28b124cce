-- What one more step does to the functions of the steps before a moment.
use Rattle.std.proofs.Common.{◌≡◌, ℕ, suc, ◌+◌, ◌-◌, ◌≤◌, Bool, true, false, cond, ◌&&◌, ◌||◌, eqb, List, [], ◌∷◌, ◌++◌, length, drop, Option, Some, None, refl, sym, ◌∙◌, ap, arith, append_assoc, append-nil, length-drop, inl, inr}
use Rattle.std.specs.Prelude.{if◌then◌else◌, is_some}
use Rattle.std.proofs.lemmas.List.{drop-drop, drop_all}
use Rattle.std.proofs.lemmas.Bool.{false≢true, eqb-true, ne_eqb, or_cases, and_parts}
use Rattle.mx_room.specs.Offer.{Offered}
use Rattle.mx_shard.specs.LoneRoom.{Call, record_alone, added}
use Rattle.mx_book.specs.Transactions.{same}
use Rattle.mx_world.specs.Calls.{Start, Opening, first_open, opening, turn, is_closed, left_of, left, call_of, calls_from, calls, record_after}
use Rattle.mx_world.specs.Replies.{first_told, told_by, told_from, told_after, body_of, Status, unopened, waiting, ended, status_by, status_after}
use Rattle.mx_world.specs.Moves.{rest_of, after_open, after_next, after_close, moved}
use Rattle.mx_receipt.specs.Receipt.{Kept}
use Rattle.mx_world.specs.declared.answers.Told.{Told}
use Rattle.mx_book.specs.declared.transaction_keys.TransactionKey.{TransactionKey}
use Rattle.mx_world.specs.declared.steps.Step.{Step}
use Rattle.mx_world.specs.declared.steps.Step.TheVariants.{Host, Open, Next, Close, Join, Ask}

-- ---- the calls and the record

pub record_alone-append : (kept : List Kept) (cs ds : List Call) → record_alone kept (cs ++ ds) ≡ record_alone (record_alone kept cs) ds
record_alone-append kept [] ds = refl
record_alone-append kept (c ∷ cs) ds = record_alone-append (kept ++ added kept c) cs ds

calls_from-push : (s : Start) (room : List ℕ) (earlier later : List Step) (x : Step) → calls_from s room earlier (later ++ x ∷ []) ≡ calls_from s room earlier later ++ call_of room (left s (earlier ++ later)) x
calls_from-push s room earlier [] x =
    append-nil (call_of room (left s earlier) x) ∙ ap (λ e. call_of room (left s e) x) (sym (append-nil earlier))
calls_from-push s room earlier (y ∷ later) x =
    ap (λ cs. call_of room (left s earlier) y ++ cs)
    (calls_from-push s room (earlier ++ y ∷ []) later x
    ∙ ap (λ e. calls_from s room (earlier ++ y ∷ []) later ++ call_of room (left s e) x) (append_assoc earlier (y ∷ []) later))
    ∙ sym (append_assoc (call_of room (left s earlier) y) (calls_from s room (earlier ++ y ∷ []) later) (call_of room (left s (earlier ++ y ∷ later)) x))

pub next_record : (s : Start) (earlier : List Step) (x : Step) (room : List ℕ) → record_after s (earlier ++ x ∷ []) room ≡ record_alone (record_after s earlier room) (call_of room (left s earlier) x)
next_record s earlier x room =
    ap (record_alone (s.record_at room)) (calls_from-push s room [] earlier x)
    ∙ record_alone-append (s.record_at room) (calls s room earlier) (call_of room (left s earlier) x)

-- ---- what is told of a key

told_from-push : (s : Start) (p : TransactionKey) (earlier later : List Step) (x : Step) → told_from s p earlier (later ++ x ∷ []) ≡ told_from s p earlier later ++ told_by p (record_after s (earlier ++ later)) (left s (earlier ++ later) p) x
told_from-push s p earlier [] x =
    append-nil (told_by p (record_after s earlier) (left s earlier p) x) ∙ ap (λ e. told_by p (record_after s e) (left s e p) x) (sym (append-nil earlier))
told_from-push s p earlier (y ∷ later) x =
    ap (λ ts. told_by p (record_after s earlier) (left s earlier p) y ++ ts)
    (told_from-push s p (earlier ++ y ∷ []) later x
    ∙ ap (λ e. told_from s p (earlier ++ y ∷ []) later ++ told_by p (record_after s e) (left s e p) x) (append_assoc earlier (y ∷ []) later))
    ∙ sym (append_assoc (told_by p (record_after s earlier) (left s earlier p) y) (told_from s p (earlier ++ y ∷ []) later) (told_by p (record_after s (earlier ++ y ∷ later)) (left s (earlier ++ y ∷ later) p) x))

-- a key that isn't opened has nothing told

first_open_before : (p : TransactionKey) (a b : List Step) → first_open p (a ++ b) ≡ None → first_open p a ≡ None
first_open_before p [] b h = refl
first_open_before p (Host o ∷ a) b h = first_open_before p a b h
first_open_before p (Join origin o ∷ a) b h = first_open_before p a b h
first_open_before p (Next q ∷ a) b h = first_open_before p a b h
first_open_before p (Close q ∷ a) b h = first_open_before p a b h
first_open_before p (Ask origin now k ∷ a) b h = first_open_before p a b h
first_open_before p (Open q events ∷ a) b h =
    let some : Option Opening → Option Opening → Bool → Option Opening = λ x y c. cond c x y in
    elim (same p q) as (λ c. cond c (Some (record { events = events.items; since = a ++ b })) (first_open p (a ++ b)) ≡ None → cond c (Some (record { events = events.items; since = a })) (first_open p a) ≡ None) [
      | true ↦ λ k. cc
      | false ↦ λ k. first_open_before p a b k
    ] h

no_told_by : (p : TransactionKey) (rows : List ℕ → List Kept) (x : Step) → told_by p rows [] x ≡ []
no_told_by p rows (Host o) = refl
no_told_by p rows (Join origin o) = refl
no_told_by p rows (Open q events) = refl
no_told_by p rows (Close q) = refl
no_told_by p rows (Ask origin now k) = refl
no_told_by p rows (Next q) = elim (same p q) as (λ c. cond {A = List Told} c [] [] ≡ []) [ true ↦ refl | false ↦ refl ]

none_told : (s : Start) (p : TransactionKey) (earlier later : List Step) → opening s p (earlier ++ later) ≡ None → told_from s p earlier later ≡ []
none_told s p earlier [] h = refl
none_told s p earlier (y ∷ later) h =
    let none : opening s p earlier ≡ None =
    elim (is_some (s.kept_at p)) as (λ c. cond c None (first_open p (earlier ++ y ∷ later)) ≡ None → cond c None (first_open p earlier) ≡ None) [ true ↦ λ k. refl | false ↦ λ k. first_open_before p earlier (y ∷ later) k ] h in
    let first : told_by p (record_after s earlier) (left s earlier p) y ≡ [] =
    ap (λ o. told_by p (record_after s earlier) (left_of p o) y) none ∙ no_told_by p (record_after s earlier) y in
    let rest : told_from s p (earlier ++ y ∷ []) later ≡ [] =
    none_told s p (earlier ++ y ∷ []) later (ap (opening s p) (append_assoc earlier (y ∷ []) later) ∙ h) in
    ap (λ ts. ts ++ told_from s p (earlier ++ y ∷ []) later) first ∙ rest

-- the opening, with one more step

abbrev grown : TransactionKey → Option Opening → Step → Option Opening
grown p None x = first_open p (x ∷ [])
grown p (Some o) x = Some (record { events = o.events; since = o.since ++ x ∷ [] })

first_open-push : (p : TransactionKey) (steps : List Step) (x : Step) → first_open p (steps ++ x ∷ []) ≡ grown p (first_open p steps) x
first_open-push p [] x = refl
first_open-push p (Host o ∷ steps) x = first_open-push p steps x
first_open-push p (Join origin o ∷ steps) x = first_open-push p steps x
first_open-push p (Next q ∷ steps) x = first_open-push p steps x
first_open-push p (Close q ∷ steps) x = first_open-push p steps x
first_open-push p (Ask origin now k ∷ steps) x = first_open-push p steps x
first_open-push p (Open q events ∷ steps) x =
    elim (same p q) as (λ c. cond c (Some (record { events = events.items; since = steps ++ x ∷ [] })) (first_open p (steps ++ x ∷ [])) ≡ grown p (cond c (Some (record { events = events.items; since = steps })) (first_open p steps)) x) [
      | true ↦ refl
      | false ↦ first_open-push p steps x
    ]

turn-push : (p : TransactionKey) (steps : List Step) (x : Step) → turn p (steps ++ x ∷ []) ≡ turn p steps + turn p (x ∷ [])
turn-push p [] x = omega arith
turn-push p (Host o ∷ steps) x = turn-push p steps x
turn-push p (Join origin o ∷ steps) x = turn-push p steps x
turn-push p (Open q events ∷ steps) x = turn-push p steps x
turn-push p (Ask origin now k ∷ steps) x = turn-push p steps x
turn-push p (Close q ∷ steps) x = turn-push p steps x
turn-push p (Next q ∷ steps) x =
    elim (same p q) as (λ c. cond c (1 + turn p (steps ++ x ∷ [])) (turn p (steps ++ x ∷ [])) ≡ cond c (1 + turn p steps) (turn p steps) + turn p (x ∷ [])) [
      | true ↦ omega (arith, turn-push p steps x)
      | false ↦ turn-push p steps x
    ]

or_assoc : (a b c : Bool) → (a || (b || c)) ≡ ((a || b) || c)
or_assoc true b c = refl
or_assoc false b c = refl

is_closed-push : (p : TransactionKey) (n : ℕ) (steps : List Step) (x : Step) → is_closed p n (steps ++ x ∷ []) ≡ (is_closed p n steps || is_closed p (n - turn p steps) (x ∷ []))
is_closed-push p n [] x = ap (λ m. is_closed p m (x ∷ [])) (let e : n ≡ n - 0 = omega arith in e)
is_closed-push p n (Host o ∷ steps) x = is_closed-push p n steps x
is_closed-push p n (Join origin o ∷ steps) x = is_closed-push p n steps x
is_closed-push p n (Open q events ∷ steps) x = is_closed-push p n steps x
is_closed-push p n (Ask origin now k ∷ steps) x = is_closed-push p n steps x
is_closed-push p n (Close q ∷ steps) x =
    ap (λ b. (same p q && eqb n 0) || b) (is_closed-push p n steps x)
    ∙ or_assoc (same p q && eqb n 0) (is_closed p n steps) (is_closed p (n - turn p steps) (x ∷ []))
is_closed-push p n (Next q ∷ steps) x =
    elim (same p q) as (λ c. is_closed p (cond c (n - 1) n) (steps ++ x ∷ []) ≡ (is_closed p (cond c (n - 1) n) steps || is_closed p (n - cond c (1 + turn p steps) (turn p steps)) (x ∷ []))) [
      | true ↦ is_closed-push p (n - 1) steps x ∙ ap (λ m. is_closed p (n - 1) steps || is_closed p m (x ∷ [])) (let e : n - 1 - turn p steps ≡ n - (1 + turn p steps) = omega arith in e)
      | false ↦ is_closed-push p n steps x
    ]

-- where a key is closed, it has taken all
closed_turn : (p : TransactionKey) (n : ℕ) (steps : List Step) → is_closed p n steps ≡ true → n ≤ turn p steps
closed_turn p n [] h = absurd (false≢true h)
closed_turn p n (Host o ∷ steps) h = closed_turn p n steps h
closed_turn p n (Join origin o ∷ steps) h = closed_turn p n steps h
closed_turn p n (Open q events ∷ steps) h = closed_turn p n steps h
closed_turn p n (Ask origin now k ∷ steps) h = closed_turn p n steps h
closed_turn p n (Close q ∷ steps) h =
    elim (or_cases (same p q && eqb n 0) (is_closed p n steps) h) [
      | inl both ↦ (let e : n ≡ 0 = eqb-true n 0 (and_parts (same p q) (eqb n 0) both).1 in omega arith)
      | inr k ↦ closed_turn p n steps k
    ]
closed_turn p n (Next q ∷ steps) h =
    elim (same p q) as (λ c. is_closed p (cond c (n - 1) n) steps ≡ true → n ≤ cond c (1 + turn p steps) (turn p steps)) [
      | true ↦ λ k. omega (arith, closed_turn p (n - 1) steps k)
      | false ↦ λ k. closed_turn p n steps k
    ] h

-- the status, with one more step

abbrev shape : Bool → ℕ → List Offered → List Told → Status
shape c t events told = if c then ended (body_of told) else waiting (drop t events) told

shape-same : (c : Bool) (t : ℕ) (events : List Offered) (told : List Told) → shape (c || false) (t + 0) events (told ++ []) ≡ shape c t events told
shape-same true t events told = ap (λ ts. ended (body_of ts)) (append-nil told)
shape-same false t events told = ap (λ m. waiting (drop m events) (told ++ [])) (let e : t + 0 ≡ t = omega arith in e) ∙ ap (waiting (drop t events)) (append-nil told)

shape-opened : (c : Bool) (t : ℕ) (events : List Offered) (told : List Told) (new : List Offered) → after_open new (shape c t events told) ≡ shape c t events told
shape-opened true t events told new = refl
shape-opened false t events told new = refl

one_taken : (p : TransactionKey) (rows : List ℕ → List Kept) (rest : List Offered) (told : List Told) → waiting (drop 1 rest) (told ++ first_told rows p.origin rest) ≡ after_next rows p.origin (waiting rest told)
one_taken p rows [] told = ap (waiting []) (append-nil told)
one_taken p rows (e ∷ rest) told = refl

shape-taken : (p : TransactionKey) (rows : List ℕ → List Kept) (c : Bool) (t : ℕ) (events : List Offered) (told : List Told) → (c ≡ true → length events ≤ t) → shape (c || false) (t + 1) events (told ++ first_told rows p.origin (drop t events)) ≡ after_next rows p.origin (shape c t events told)
shape-taken p rows true t events told h =
    ap (λ rest. ended (body_of (told ++ first_told rows p.origin rest))) (drop_all t events (h refl)) ∙ ap (λ ts. ended (body_of ts)) (append-nil told)
shape-taken p rows false t events told h =
    ap (λ rest. waiting rest (told ++ first_told rows p.origin (drop t events))) (sym (drop-drop 1 t events)) ∙ one_taken p rows (drop t events) told

none_left : (rest : List Offered) (told : List Told) → (if (eqb (length rest) 0 || false) then ended (body_of told) else waiting rest told) ≡ after_close (waiting rest told)
none_left [] told = refl
none_left (e ∷ rest) told =
    let some : eqb (suc (length rest)) 0 ≡ false = ne_eqb (suc (length rest)) 0 (λ (h : suc (length rest) ≡ 0). omega arith) in
    ap (λ b. if (b || false) then ended (body_of told) else waiting (e ∷ rest) told) some

shape-ended : (c : Bool) (t : ℕ) (events : List Offered) (told : List Told) → shape (c || ((true && eqb (length events - t) 0) || false)) (t + 0) events (told ++ []) ≡ after_close (shape c t events told)
shape-ended true t events told = ap (λ ts. ended (body_of ts)) (append-nil told)
shape-ended false t events told =
    ap (λ m. shape ((true && eqb m 0) || false) (t + 0) events (told ++ [])) (sym (length-drop t events))
    ∙ ap (λ m. shape (eqb (length (drop t events)) 0 || false) m events (told ++ [])) (let e : t + 0 ≡ t = omega arith in e)
    ∙ ap (shape (eqb (length (drop t events)) 0 || false) t events) (append-nil told)
    ∙ none_left (drop t events) told

next_shape : (p : TransactionKey) (rows : List ℕ → List Kept) (x : Step) (c : Bool) (t : ℕ) (events : List Offered) (told : List Told) → (c ≡ true → length events ≤ t) → shape (c || is_closed p (length events - t) (x ∷ [])) (t + turn p (x ∷ [])) events (told ++ told_by p rows (drop t events) x) ≡ moved rows x p (shape c t events told)
next_shape p rows (Host o) c t events told h = shape-same c t events told
next_shape p rows (Join origin o) c t events told h = shape-same c t events told
next_shape p rows (Ask origin now k) c t events told h = shape-same c t events told
next_shape p rows (Open q new) c t events told h =
    elim (same p q) as (λ b. shape (c || false) (t + 0) events (told ++ []) ≡ cond b (after_open new.items (shape c t events told)) (shape c t events told)) [
      | true ↦ shape-same c t events told ∙ sym (shape-opened c t events told new.items)
      | false ↦ shape-same c t events told
    ]
next_shape p rows (Next q) c t events told h =
    elim (same p q) as (λ b. shape (c || false) (t + cond b 1 0) events (told ++ cond b (first_told rows p.origin (drop t events)) []) ≡ cond b (after_next rows p.origin (shape c t events told)) (shape c t events told)) [
      | true ↦ shape-taken p rows c t events told h
      | false ↦ shape-same c t events told
    ]
next_shape p rows (Close q) c t events told h =
    elim (same p q) as (λ b. shape (c || ((b && eqb (length events - t) 0) || false)) (t + 0) events (told ++ []) ≡ cond b (after_close (shape c t events told)) (shape c t events told)) [
      | true ↦ shape-ended c t events told
      | false ↦ shape-same c t events told
    ]

-- a key that isn't opened, with one more step
next_unopened : (p : TransactionKey) (rows : List ℕ → List Kept) (x : Step) → status_by p None (first_open p (x ∷ [])) [] ≡ moved rows x p unopened
next_unopened p rows (Host o) = refl
next_unopened p rows (Join origin o) = refl
next_unopened p rows (Ask origin now k) = refl
next_unopened p rows (Open q events) =
    elim (same p q) as (λ b. status_by p None (cond b (Some (record { events = events.items; since = [] })) None) [] ≡ cond b (waiting events.items []) unopened) [ true ↦ refl | false ↦ refl ]
next_unopened p rows (Next q) = elim (same p q) as (λ b. unopened ≡ cond b unopened unopened) [ true ↦ refl | false ↦ refl ]
next_unopened p rows (Close q) = elim (same p q) as (λ b. unopened ≡ cond b unopened unopened) [ true ↦ refl | false ↦ refl ]

ended_stays : (p : TransactionKey) (rows : List ℕ → List Kept) (x : Step) (body : List ℕ) → ended body ≡ moved rows x p (ended body)
ended_stays p rows (Host o) body = refl
ended_stays p rows (Join origin o) body = refl
ended_stays p rows (Ask origin now k) body = refl
ended_stays p rows (Open q events) body = elim (same p q) as (λ b. ended body ≡ cond b (ended body) (ended body)) [ true ↦ refl | false ↦ refl ]
ended_stays p rows (Next q) body = elim (same p q) as (λ b. ended body ≡ cond b (ended body) (ended body)) [ true ↦ refl | false ↦ refl ]
ended_stays p rows (Close q) body = elim (same p q) as (λ b. ended body ≡ cond b (ended body) (ended body)) [ true ↦ refl | false ↦ refl ]

next_opened : (p : TransactionKey) (rows : List ℕ → List Kept) (x : Step) (o : Opening) (told : List Told) → status_by p None (Some (record { events = o.events; since = o.since ++ x ∷ [] })) (told ++ told_by p rows (left_of p (Some o)) x) ≡ moved rows x p (status_by p None (Some o) told)
next_opened p rows x o told =
    ap (λ c. shape c (turn p (o.since ++ x ∷ [])) o.events (told ++ told_by p rows (left_of p (Some o)) x)) (is_closed-push p (length o.events) o.since x)
    ∙ ap (λ t. shape (is_closed p (length o.events) o.since || is_closed p (length o.events - turn p o.since) (x ∷ [])) t o.events (told ++ told_by p rows (left_of p (Some o)) x)) (turn-push p o.since x)
    ∙ next_shape p rows x (is_closed p (length o.events) o.since) (turn p o.since) o.events told (closed_turn p (length o.events) o.since)

-- the status by whether the key was kept at the start, and by its opening
next_by : (p : TransactionKey) (rows : List ℕ → List Kept) (x : Step) (kept : Option (List ℕ)) (first first' : Option Opening) (told told' : List Told) →
    first' ≡ grown p first x →
    (kept ≡ None → first ≡ None → told ≡ []) →
    told' ≡ told ++ told_by p rows (left_of p (if is_some kept then None else first)) x →
    status_by p kept (if is_some kept then None else first') told' ≡ moved rows x p (status_by p kept (if is_some kept then None else first) told)
next_by p rows x (Some body) first first' told told' f none t = ended_stays p rows x body
next_by p rows x None None first' told told' f none t =
    let empty : told' ≡ [] = t ∙ ap (λ ts. ts ++ told_by p rows [] x) (none refl refl) ∙ no_told_by p rows x in
    ap (status_by p None first') empty ∙ ap (λ o. status_by p None o []) f ∙ next_unopened p rows x
next_by p rows x None (Some o) first' told told' f none t =
    ap (status_by p None first') t ∙ ap (λ k. status_by p None k (told ++ told_by p rows (left_of p (Some o)) x)) f ∙ next_opened p rows x o told

pub next_status : (s : Start) (earlier : List Step) (x : Step) (p : TransactionKey) → status_after s (earlier ++ x ∷ []) p ≡ moved (record_after s earlier) x p (status_after s earlier p)
next_status s earlier x p =
    next_by p (record_after s earlier) x (s.kept_at p) (first_open p earlier) (first_open p (earlier ++ x ∷ [])) (told_after s earlier p) (told_after s (earlier ++ x ∷ []) p)
    (first_open-push p earlier x)
    (λ k f. none_told s p [] earlier (ap (λ kept. if is_some kept then None else first_open p earlier) k ∙ f))
    (told_from-push s p [] earlier x)

-- what a key has left is told by its status
rest_by : (p : TransactionKey) (kept : Option (List ℕ)) (first : Option Opening) (told : List Told) → rest_of (status_by p kept (if is_some kept then None else first) told) ≡ left_of p (if is_some kept then None else first)
rest_by p (Some body) first told = refl
rest_by p None None told = refl
rest_by p None (Some o) told = rest_of-shape (is_closed p (length o.events) o.since) (turn p o.since) o.events told (closed_turn p (length o.events) o.since)
  where
    rest_of-shape : (c : Bool) (t : ℕ) (events : List Offered) (told : List Told) → (c ≡ true → length events ≤ t) → rest_of (shape c t events told) ≡ drop t events
    rest_of-shape true t events told h = sym (drop_all t events (h refl))
    rest_of-shape false t events told h = refl

pub rest_of-status : (s : Start) (earlier : List Step) (p : TransactionKey) → rest_of (status_after s earlier p) ≡ left s earlier p
rest_of-status s earlier p = rest_by p (s.kept_at p) (first_open p earlier) (told_after s earlier p)
