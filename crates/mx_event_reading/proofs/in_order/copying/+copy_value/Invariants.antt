use Rattle.std.proofs.Common.{◌≡◌, ◌+◌, ◌*◌, ◌++◌, length, option_map}
use Rattle.json.specs.Json.{value}
use Rattle.serde_json.specs.Data.{Items, Members}
use Rattle.mx_event_reading.specs.InOrder.{open_tokens}
use Rattle.mx_event_reading.proofs.ArrayLemmas.{AreItemTokens, ItemsInOrder}
use Rattle.mx_event_reading.proofs.InOrderLemmas.{MembersInOrder}
use Rattle.mx_event_reading.proofs.in_order.copying.+copy_value.Given as goal

abbrev pub decreases-copy_value : goal.decreases-copy_value
decreases-copy_value l = 2 * l.depth

abbrev pub decreases-copy_items : goal.decreases-copy_items
decreases-copy_items l = 2 * l.depth + 1

abbrev pub decreases-copy_members : goal.decreases-copy_members
decreases-copy_members l = 2 * l.depth + 1

-- the items so far, and their tokens
abbrev pub invariant-copy_items-items : goal.invariant-copy_items-items
invariant-copy_items-items l =
    (front : Items → Items) × ItemsInOrder (value l.depth) l.initial.reader l.reader front
    × (l.writer.before ≡ l.initial.writer.before) × AreItemTokens l.initial.writer.tokens front l.writer.tokens

abbrev pub decreases-copy_items-items : goal.decreases-copy_items-items
decreases-copy_items-items l = length l.reader

-- the members so far, and their tokens
abbrev pub invariant-copy_members-members : goal.invariant-copy_members-members
invariant-copy_members-members l =
    (old : Members) × MembersInOrder (value l.depth) l.initial.reader l.reader (option_map (λ s. s.now) l.last) old
    × (l.writer.before ≡ l.initial.writer.before) × (l.writer.tokens ≡ l.initial.writer.tokens ++ open_tokens old)

abbrev pub decreases-copy_members-members : goal.decreases-copy_members-members
decreases-copy_members-members l = length l.reader
