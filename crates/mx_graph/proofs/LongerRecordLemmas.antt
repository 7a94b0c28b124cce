-- What a longer record says of the events that a shorter one has.
use Rattle.std.proofs.Common.{◌≡◌, ◌<◌, ◌≤◌, ◌+◌, ◌++◌, ◌⊎◌, inl, inr, ℕ, zero, suc, Bool, true, false, cond, List, [], ◌∷◌, filter, length, refl, sym, ap, subst, ◌∙◌, append_assoc, arith}
use Rattle.std.proofs.Math.ListN.{get_or-eq_default}
use Rattle.std.proofs.lemmas.Bool.{cases_lt}
use Rattle.std.proofs.lemmas.List.{append-nil, length-append}
use Rattle.std.specs.List.{range_with_len}
use Rattle.mx_pdu.specs.Event.{prev_ids, auth_ids}
use Rattle.mx_graph.specs.Graph.{IsSound, IsClosed, IsLeastClosed, auth_chain, reached}
use Rattle.mx_graph.specs.Record.{Row, no_row, row, event, is_in, events_where, auth_events}
use Rattle.mx_graph.proofs.Closure.{or_cases, reached-by, reached-is_least, is_in-to, within-below}
use Rattle.mx_graph.proofs.Members.{In}
use Rattle.mx_graph.proofs.RemovalLemmas.{down-pop, lt-neq, places-before}
use Rattle.mx_graph.proofs.RowLemmas.{row-other}

-- a record, and one that has more rows behind it
pub record IsLonger (rows longer : List Row) : Type 0 where
  pub sound : IsSound rows
  pub sound_longer : IsSound longer
  pub more : length rows ≤ length longer
  pub same : (p : ℕ) → p < length rows → row longer p ≡ row rows p
  pub cited : (p : ℕ) → p < length rows → auth_events longer (event rows p) ≡ auth_events rows (event rows p)

-- they are events of the record
abbrev pub AreEvents : List Row → List ℕ → Type 0
AreEvents rows xs = (x : ℕ) → In x xs → x < length rows

-- one more row
pub longer-push : (rows : List Row) (r : Row) → IsSound rows → IsSound (rows ++ r ∷ []) → IsLonger rows (rows ++ r ∷ [])
longer-push rows r sound after = record {
  sound = sound;
  sound_longer = after;
  more = (let e : length (rows ++ r ∷ []) ≡ length rows + 1 = length-append rows (r ∷ []) in omega arith);
  same = same;
  cited = λ p l.
      places-before rows r (auth_ids (event rows p))
      (λ y e. let low : y < p = (after.auth p y (ap (λ (s : Row). is_in (auth_events (rows ++ r ∷ []) s.event) y) (same p l) ∙ e)).1 in omega arith);
}
  where
    same : (p : ℕ) → p < length rows → row (rows ++ r ∷ []) p ≡ row rows p
    same p l = row-other rows r p (lt-neq p (length rows) l)

-- ---- several rows more

-- a record without its last row is sound
pub sound-before : (rows : List Row) (r : Row) → IsSound (rows ++ r ∷ []) → IsSound rows
sound-before rows r after = record { ids = ids; prev = down-pop rows r prev_ids refl after.prev; auth = down-pop rows r auth_ids refl after.auth }
  where
    ids : (x y : ℕ) → x < length rows → y < length rows → (row rows x).id ≡ (row rows y).id → x ≡ y
    ids x y l m e =
        let n : length (rows ++ r ∷ []) ≡ length rows + 1 = length-append rows (r ∷ []) in
        after.ids x y (omega arith) (omega arith)
        (ap (λ (s : Row). s.id) (row-other rows r x (lt-neq x (length rows) l)) ∙ e ∙ ap (λ (s : Row). s.id) (sym (row-other rows r y (lt-neq y (length rows) m))))

longer-itself : (rows : List Row) → IsSound rows → IsLonger rows rows
longer-itself rows sound = record { sound = sound; sound_longer = sound; more = (omega arith); same = λ p l. refl; cited = λ p l. refl }

longer-on : (rows next longer : List Row) → IsLonger rows next → IsLonger next longer → IsLonger rows longer
longer-on rows next longer a b = record {
  sound = a.sound;
  sound_longer = b.sound_longer;
  more = (let l : length rows ≤ length next = a.more in let m : length next ≤ length longer = b.more in omega arith);
  same = λ p l. b.same p (reach p l) ∙ a.same p l;
  cited = λ p l.
      ap (λ (s : Row). auth_events longer s.event) (sym (a.same p l)) ∙ b.cited p (reach p l) ∙ ap (λ (s : Row). auth_events next s.event) (a.same p l) ∙ a.cited p l;
}
  where
    reach : (p : ℕ) → p < length rows → p < length next
    reach p l = let m : length rows ≤ length next = a.more in omega arith

pub longer-prefix : (rows more : List Row) → IsSound (rows ++ more) → IsLonger rows (rows ++ more)
longer-prefix rows [] sound = subst (IsLonger rows) (sym (append-nil rows)) (longer-itself rows (subst IsSound (append-nil rows) sound))
longer-prefix rows (r ∷ more) sound =
    let rest = longer-prefix (rows ++ r ∷ []) more (subst IsSound (sym (append_assoc rows (r ∷ []) more)) sound) in
    subst (IsLonger rows) (append_assoc rows (r ∷ []) more)
    (longer-on rows (rows ++ r ∷ []) ((rows ++ r ∷ []) ++ more) (longer-push rows r (sound-before rows r rest.sound) rest.sound) rest)

-- ---- numbers of a range

none-pass : (test : ℕ → Bool) (a n : ℕ) → ((p : ℕ) → test p ≡ true → p < a) → filter test (range_with_len a n) ≡ []
none-pass test a zero h = refl
none-pass test a (suc n) h = by (none-pass test (a + 1) n (λ p e. let l : p < a = h p e in omega arith)) (test a) refl
  where
    by : filter test (range_with_len (a + 1) n) ≡ [] → (b : Bool) → test a ≡ b → cond b (a ∷ filter test (range_with_len (a + 1) n)) (filter test (range_with_len (a + 1) n)) ≡ []
    by later true e = let l : a < a = h a e in absurd (omega arith)
    by later false e = later

-- where no number from the end on passes, a longer range has no more
longer-range : (test : ℕ → Bool) (a n m : ℕ) → m ≤ n → ((p : ℕ) → test p ≡ true → p < a + m) → filter test (range_with_len a n) ≡ filter test (range_with_len a m)
longer-range test a n zero l h = none-pass test a n (λ p e. let k : p < a + 0 = h p e in omega arith)
longer-range test a zero (suc m) l h = absurd (omega arith)
longer-range test a (suc n) (suc m) l h =
    ap (λ xs. cond (test a) (a ∷ xs) xs) (longer-range test (a + 1) n m (omega arith) (λ p e. let k : p < a + suc m = h p e in omega arith))

-- ---- events and sets of them

module _ (rows longer : List Row) (l : IsLonger rows longer) where
  pub event-longer : (p : ℕ) → p < length rows → event longer p ≡ event rows p
  event-longer p h = ap (λ (s : Row). s.event) (l.same p h)

  pub auth_events-longer : (p : ℕ) → p < length rows → auth_events longer (event longer p) ≡ auth_events rows (event rows p)
  auth_events-longer p h = ap (auth_events longer) (event-longer p h) ∙ l.cited p h

  pub where-longer : (test : ℕ → Bool) → ((p : ℕ) → test p ≡ true → p < length rows) → events_where longer test ≡ events_where rows test
  where-longer test h = longer-range test 0 (length longer) (length rows) l.more (λ p e. let k : p < length rows = h p e in omega arith)

  -- ---- auth chains

  abbrev cites : ℕ → List ℕ
  cites p = auth_events rows (event rows p)

  abbrev cites_longer : ℕ → List ℕ
  cites_longer p = auth_events longer (event longer p)

  cites-beyond : (x y : ℕ) → length rows ≤ x → is_in (cites x) y ≡ true → true ≡ false
  cites-beyond x y h e = sym e ∙ ap (λ (s : Row). is_in (auth_events rows s.event) y) (get_or-eq_default rows no_row {n = x} h)

  reached_known : (starts : List ℕ) (p : ℕ) → is_in (reached rows cites starts) p ≡ true → p < length rows
  reached_known starts p e = within-below rows cites starts (length rows) p (is_in-to p (reached rows cites starts) e)

  -- what is in an auth chain is an event of the record
  pub auth_chain-known : (starts : List ℕ) (p : ℕ) → is_in (auth_chain rows starts) p ≡ true → p < length rows
  unfolding auth_chain
  auth_chain-known starts p e = reached_known starts p e

  module _ (starts : List ℕ) (known : AreEvents rows starts) where
    member-known : (x : ℕ) → (is_in starts x ≡ true) ⊎ (is_in (reached rows cites starts) x ≡ true) → x < length rows
    member-known x (inl e) = known x (is_in-to x starts e)
    member-known x (inr e) = reached_known starts x e

    closed_longer : IsClosed cites_longer starts (is_in (reached rows cites starts))
    closed_longer x y h k =
        (reached-is_least rows cites starts l.sound.auth).0 x y h
        (ap (λ zs. is_in zs y) (sym (auth_events-longer x (member-known x (or_cases (is_in starts x) (is_in (reached rows cites starts) x) h)))) ∙ k)

    closed_shorter : (test : ℕ → Bool) → IsClosed cites_longer starts test → IsClosed cites starts test
    closed_shorter test closed x y h k = by (cases_lt x (length rows))
      where
        by : (x < length rows) ⊎ (length rows ≤ x) → test y ≡ true
        by (inl m) = closed x y h (ap (λ zs. is_in zs y) (auth_events-longer x m) ∙ k)
        by (inr m) = absurd (cc (cites-beyond x y m k))

    least_longer : IsLeastClosed cites_longer starts (is_in (reached rows cites starts))
    least_longer = (closed_longer, λ other closed. (reached-is_least rows cites starts l.sound.auth).1 other (closed_shorter other closed))

    -- it has the same auth chain for events that the record has
    pub auth_chain-longer : auth_chain longer starts ≡ auth_chain rows starts
    unfolding auth_chain
    auth_chain-longer =
        sym (reached-by longer cites_longer starts (is_in (reached rows cites starts)) l.sound_longer.auth least_longer)
        ∙ where-longer (is_in (reached rows cites starts)) (reached_known starts)
        ∙ reached-by rows cites starts (is_in (reached rows cites starts)) l.sound.auth (reached-is_least rows cites starts l.sound.auth)
