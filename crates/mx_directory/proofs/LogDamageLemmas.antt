-- What each step of reading a log gives.
use Rattle.std.proofs.Common.{◌≡◌, ◌∙◌, ℕ, suc, ◌+◌, ◌-◌, ◌==◌, Bool, not, ◌&&◌, ◌||◌, List, take, drop, ap, ap₂, arith}
use Rattle.sqlite_wal.specs.Format.{part, be32, stored_sum, checksum, count_page}
use Rattle.mx_directory.specs.LogDamage.{same_sum, has_head, frame_at, frame_sum, sum_before, is_whole_at, is_whole, fails_within, begins_behind}

pub head_is : (log : List ℕ) (magic : ℕ) (sum stored : ℕ × ℕ) (same : Bool) → magic ≡ be32 log 0 → sum ≡ checksum (magic == 0x377f_0683) (0, 0) (take 24 log) → stored ≡ stored_sum log 24 → same ≡ same_sum sum stored → ((magic == 0x377f_0682 || magic == 0x377f_0683) && same) ≡ has_head log
unfolding part
head_is log magic sum stored same is_magic is_sum is_stored is_same =
    ap (λ it. (magic == 0x377f_0682 || magic == 0x377f_0683) && it) (is_same ∙ ap₂ same_sum is_sum is_stored)
    ∙ ap (λ m. (m == 0x377f_0682 || m == 0x377f_0683) && same_sum (checksum (m == 0x377f_0683) (0, 0) (take 24 log)) (stored_sum log 24)) is_magic

pub sum_is : (log : List ℕ) (at magic size : ℕ) (s front sum : ℕ × ℕ) → magic ≡ be32 log 0 → size ≡ be32 log 8 → front ≡ checksum (magic == 0x377f_0683) s (take (at + 8 - at) (drop at log)) → sum ≡ checksum (magic == 0x377f_0683) front (take (at + 24 + size - (at + 24)) (drop (at + 24) log)) → sum ≡ frame_sum log at s
unfolding part
sum_is log at magic size s front sum is_magic is_size is_front is_sum =
    let few : at + 8 - at ≡ 8 = omega arith in
    let many : at + 24 + size - (at + 24) ≡ be32 log 8 = omega arith in
    let front_is = is_front ∙ ap (λ n. checksum (magic == 0x377f_0683) s (take n (drop at log))) few in
    is_sum
    ∙ ap₂ (λ f n. checksum (magic == 0x377f_0683) f (take n (drop (at + 24) log))) front_is many
    ∙ ap (λ m. checksum (m == 0x377f_0683) (checksum (m == 0x377f_0683) s (take 8 (drop at log))) (take (be32 log 8) (drop (at + 24) log))) is_magic

-- what is known behind one more frame
pub whole_is : (log : List ℕ) (n at : ℕ) (before : ℕ × ℕ) (whole : Bool) → at ≡ frame_at log n → before ≡ sum_before log n → whole ≡ is_whole_at log at before → whole ≡ is_whole log n
whole_is log n at before whole is_at is_before is_told = is_told ∙ ap₂ (is_whole_at log) is_at is_before

pub fails_step : (log : List ℕ) (n : ℕ) (fails whole : Bool) → fails ≡ fails_within log n → whole ≡ is_whole log n → (fails || not whole) ≡ fails_within log (suc n)
unfolding fails_within
fails_step log n fails whole is_fails told = ap₂ (λ f w. f || not w) is_fails told

pub begins_step : (log : List ℕ) (n at number : ℕ) (fails begins whole : Bool) → at ≡ frame_at log n → fails ≡ fails_within log n → begins ≡ begins_behind log n → whole ≡ is_whole log n → number ≡ be32 log at → (begins || ((fails && whole) && (number == count_page))) ≡ begins_behind log (suc n)
unfolding begins_behind
begins_step log n at number fails begins whole is_at is_fails is_begins told is_number =
    let page = is_number ∙ ap (be32 log) is_at in
    ap₂ (λ b f. b || ((f && whole) && (number == count_page))) is_begins is_fails
    ∙ ap₂ (λ w m. begins_behind log n || ((fails_within log n && w) && (m == count_page))) told page
