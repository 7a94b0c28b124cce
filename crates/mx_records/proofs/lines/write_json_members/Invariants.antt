use Rattle.std.proofs.Common.{◌≡◌, ◌++◌, List, ℕ, drop, map}
use Rattle.std.specs.Prelude.{flat_map}
use Rattle.mx_records.specs.Members.{json_member, member_shown}
use Rattle.mx_records.proofs.lines.write_json_members.Given as goal

-- the members so far are written, and with those that are left they are all
abbrev pub invariant-loop-member : goal.invariant-loop-member
invariant-loop-member g l =
    (taken : List ℕ) → g.S.TextSink.has_taken l.initial.sink taken
    → (out : List ℕ) × g.S.TextSink.has_taken l.sink out
    × (out ++ flat_map json_member (map member_shown (drop l.member-index l.members)) ≡ taken ++ flat_map json_member (map member_shown l.members))
