use Rattle.std.proofs.Common.{◌≡◌, ◌≤◌, ◌*◌, length, take}
use Rattle.mx_redact.proofs.digests.shared_length.Given as goal

-- so far the texts are the same
abbrev pub invariant-loop : goal.invariant-loop
invariant-loop l =
    (l.shared ≡ 64 * l.counter) × (64 * l.end ≤ length l.a) × (64 * l.end ≤ length l.b) × (take l.shared l.a ≡ take l.shared l.b)
