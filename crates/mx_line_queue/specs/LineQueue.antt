-- Lines that wait to be written, and those that were dropped.
use Rattle.std.specs.Prelude.{ℕ, ◌+◌, ◌-◌, ◌^◌, ◌==◌, min, nat_lt, Bool, ◌&&◌, if◌then◌else◌, List, [], ◌∷◌, ◌++◌, length, refl}
use Rattle.std.specs.Coded.{Coded, code_by, coded×, coded_ℕ, coded_list}

-- how many lines may wait, those that do, how many were dropped behind them, and how many in all
pub record WaitingLines (L : Type 0) : Type 0 where
  pub most : ℕ
  pub waiting : List L
  pub dropped : ℕ
  pub dropped_in_all : ℕ

-- one more, in a count of 64 bits
abbrev pub one_more : ℕ → ℕ
one_more count = min (count + 1) (2 ^ 64 - 1)

module _ {L : Type 0} where
  abbrev pub without_lines : ℕ → WaitingLines L
  without_lines most = record { most = most; waiting = []; dropped = 0; dropped_in_all = 0 }

  -- a line is taken where fewer wait than may, and it is told of all that were dropped
  abbrev pub has_room : WaitingLines L → Bool
  has_room q = (q.dropped == 0) && nat_lt (length q.waiting) q.most

  -- one more is dropped
  abbrev pub with_dropped : WaitingLines L → WaitingLines L
  with_dropped q = record { most = q.most; waiting = q.waiting; dropped = one_more q.dropped; dropped_in_all = one_more q.dropped_in_all }

  -- a line comes: it waits behind the others, or is dropped
  abbrev pub with_line : L → WaitingLines L → WaitingLines L
  with_line line q =
      if has_room q
      then record { most = q.most; waiting = q.waiting ++ line ∷ []; dropped = q.dropped; dropped_in_all = q.dropped_in_all }
      else with_dropped q

  abbrev pub is_none : List L → Bool
  is_none lines = length lines == 0

  -- how many were dropped, once no line waits
  abbrev pub told_dropped : WaitingLines L → ℕ
  told_dropped q = if is_none q.waiting then q.dropped else 0

  -- once it is told, a line that comes is taken again
  abbrev pub after_told : WaitingLines L → WaitingLines L
  after_told q =
      if is_none q.waiting
      then record { most = q.most; waiting = []; dropped = 0; dropped_in_all = q.dropped_in_all }
      else q

  -- nothing is left to be written
  abbrev pub has_none : WaitingLines L → Bool
  has_none q = is_none q.waiting && (q.dropped == 0)

abbrev pub lines_code : {L : Type 0} → Coded L → Coded (WaitingLines L)
lines_code {L = L} code =
    code_by (ℕ × (List L × (ℕ × ℕ))) (coded× coded_ℕ (coded× (coded_list code) (coded× coded_ℕ coded_ℕ)))
    (λ q. (q.most, (q.waiting, (q.dropped, q.dropped_in_all))))
    (λ p. record { most = p.0; waiting = p.1.0; dropped = p.1.1.0; dropped_in_all = p.1.1.1 }) (λ _. refl)
