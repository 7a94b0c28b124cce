-- SQLite's write-ahead log as bytes, and where it is damaged: https://www.sqlite.org/fileformat2.html#walformat
use Rattle.std.specs.Prelude.{ℕ, zero, suc, ◌+◌, ◌-◌, ◌*◌, ◌/◌, ◌==◌, nat_lt, Bool, false, not, ◌&&◌, ◌||◌, if◌then◌else◌, List, length, slice_index}
use Rattle.sqlite_wal.specs.Format.{part, be32, stored_sum, checksum, count_page}

-- the head's magic number says that checksums read words with the highest byte first
abbrev pub is_big : List ℕ → Bool
is_big log = be32 log 0 == 0x377f_0683

abbrev pub same_sum : ℕ × ℕ → ℕ × ℕ → Bool
same_sum a b = (a.0 == b.0) && (a.1 == b.1)

-- the head begins with a magic number and ends in its checksum
abbrev pub has_head : List ℕ → Bool
has_head log = (be32 log 0 == 0x377f_0682 || is_big log) && same_sum (checksum (is_big log) (0, 0) (part log 0 24)) (stored_sum log 24)

-- the bytes of a frame: its head and its page
abbrev pub frame_size : List ℕ → ℕ
frame_size log = 24 + be32 log 8

-- where frame n begins, from 0
abbrev pub frame_at : List ℕ → ℕ → ℕ
frame_at log n = 32 + n * frame_size log

-- how many whole frames are behind the head
abbrev pub frame_count : List ℕ → ℕ
frame_count log = (length log - 32) / frame_size log

-- the checksum that frame n goes on from: that of the frame before it, as it is stored there
abbrev pub sum_before : List ℕ → ℕ → ℕ × ℕ
sum_before log zero = stored_sum log 24
sum_before log (suc n) = stored_sum log (frame_at log n + 16)

-- the checksum of the frame at `at`, going on from s
abbrev pub frame_sum : List ℕ → ℕ → ℕ × ℕ → ℕ × ℕ
frame_sum log at s = checksum (is_big log) (checksum (is_big log) s (part log at 8)) (part log (at + 24) (be32 log 8))

-- the frame at `at` has the head's salts, and its checksum goes on from s
abbrev pub is_whole_at : List ℕ → ℕ → ℕ × ℕ → Bool
is_whole_at log at s =
    ((be32 log (at + 8) == be32 log 16) && (be32 log (at + 12) == be32 log 20)) && same_sum (frame_sum log at s) (stored_sum log (at + 16))

abbrev pub is_whole : List ℕ → ℕ → Bool
is_whole log n = is_whole_at log (frame_at log n) (sum_before log n)

-- one of the first n frames is not whole, so that SQLite passes over it and all behind it
unfoldable pub fails_within : List ℕ → ℕ → Bool
fails_within log zero = false
fails_within log (suc n) = fails_within log n || not (is_whole log n)

-- one of the first n frames is whole behind one that is not, and begins a transaction: it has the number of no page
unfoldable pub begins_behind : List ℕ → ℕ → Bool
begins_behind log zero = false
begins_behind log (suc n) = begins_behind log n || ((fails_within log n && is_whole log n) && (be32 log (frame_at log n) == count_page))

-- A transaction was begun on one that is lost; or the head was written whole, as its first byte says, and is not.
abbrev pub is_damaged : List ℕ → Bool
is_damaged log =
    if nat_lt (length log) 32 then false
    else if has_head log then begins_behind log (frame_count log)
    else not (slice_index log 0 == 0)
