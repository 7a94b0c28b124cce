use Rattle.std.proofs.Common.{◌+◌, ◌*◌, length}
use Rattle.serde_json.specs.Data.{Items, Members}
use Rattle.json.specs.Json.{value}
use Rattle.mx_body.specs.Bodies.{bytes_of}
use Rattle.mx_body.specs.Pieces.{AreKept, kept_of}
use Rattle.mx_body.proofs.ItemLemmas.{ItemsRead, AreTexts}
use Rattle.mx_body.proofs.MemberLemmas.{MembersRead}
use Rattle.mx_body.proofs.reading.+read.Given as goal

abbrev pub decreases-read : goal.decreases-read
decreases-read l = 3 * l.depth + 1

abbrev pub decreases-read_from : goal.decreases-read_from
decreases-read_from l = 3 * l.depth

abbrev pub decreases-read_items : goal.decreases-read_items
decreases-read_items l = 3 * l.depth + 2

abbrev pub decreases-read_members : goal.decreases-read_members
decreases-read_members l = 3 * l.depth + 2

-- the items so far, and their text
abbrev pub invariant-read_items-items : goal.invariant-read_items-items
invariant-read_items-items l =
    (front : Items → Items) × ItemsRead (value l.depth) l.initial.reader l.reader front × AreTexts l.room front l.later (bytes_of l.text)

abbrev pub decreases-read_items-items : goal.decreases-read_items-items
decreases-read_items-items l = length l.reader

-- the members so far, and their texts
abbrev pub invariant-read_members-members : goal.invariant-read_members-members
invariant-read_members-members l =
    (old : Members) × MembersRead (value l.depth) l.initial.reader l.reader old × AreKept l.room old (kept_of l.found)

abbrev pub decreases-read_members-members : goal.decreases-read_members-members
decreases-read_members-members l = length l.reader
