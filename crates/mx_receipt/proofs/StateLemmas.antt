-- States that events make.
use Rattle.std.proofs.Common.{◌≡◌, ◌<◌, ◌+◌, ◌++◌, ℕ, List, [], ◌∷◌, length, refl, sym, ap, subst, ◌∙◌, Some, None, arith}
use Rattle.std.proofs.lemmas.List.{get_or_append_left, length-append}
use Rattle.std.specs.Prelude.{get_or}
use Rattle.std.specs.Prelude.{Option, option_map, unwrap_or}
use Rattle.std.specs.FinMap.Entries.{put}
use Rattle.std.specs.List.{All}
use Rattle.mx_redact.specs.Fields.{Event}
use Rattle.mx_pdu.specs.StateKeys.{Key}
use Rattle.mx_auth.specs.Rules.{key_of}
use Rattle.mx_graph.specs.Record.{Row, event}
use Rattle.mx_graph.specs.StateMap.{State, key_cmp}
use Rattle.mx_orders.specs.StateMap.{state_of, with_event}
use Rattle.mx_states.proofs.KnownLemmas.{put-known}

-- the state with these events put in from the last to the first
abbrev pub put_back : List Row → State → List ℕ → State
put_back rows s [] = s
put_back rows s (p ∷ ps) = with_event (put_back rows s ps) (event rows p) p

pub put_back-none : (rows : List Row) (ps : List ℕ) → put_back rows [] ps ≡ state_of rows ps
put_back-none rows [] = refl
put_back-none rows (p ∷ ps) = ap (λ s. with_event s (event rows p) p) (put_back-none rows ps)

pub put_back-last : (rows : List Row) (s : State) (ps : List ℕ) (p : ℕ) → put_back rows s (ps ++ p ∷ []) ≡ put_back rows (with_event s (event rows p) p) ps
put_back-last rows s [] p = refl
put_back-last rows s (q ∷ ps) p = ap (λ t. with_event t (event rows q) q) (put_back-last rows s ps p)

by_key-known : (n p : ℕ) (s : State) (key : Option Key) → p < n → All (λ e. e.1 < n) s → All (λ e. e.1 < n) (unwrap_or (option_map (λ k. put key_cmp k p s) key) s)
by_key-known n p s None l h = h
by_key-known n p s (Some key) l h = put-known key_cmp (λ q. q < n) key p s l h

pub with_event-known : (n p : ℕ) (s : State) (e : Event) → p < n → All (λ e. e.1 < n) s → All (λ e. e.1 < n) (with_event s e p)
with_event-known n p s e l h = by_key-known n p s (key_of e) l h

pub all-left : (P : ℕ → Type 0) (xs ys zs : List ℕ) → All P zs → zs ≡ xs ++ ys → All P xs
all-left P xs ys zs h e = λ k d l.
    let longer : k < length zs = subst (λ ws. k < length ws) (sym e) (let s : length (xs ++ ys) ≡ length xs + length ys = length-append xs ys in omega arith) in
    subst P (ap (λ ws. get_or ws k d) e ∙ get_or_append_left xs ys d k l) (h k d longer)
