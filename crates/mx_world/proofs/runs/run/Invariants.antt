use Rattle.std.proofs.Common.{◌≡◌, ◌≤◌, [], None, take, length, vec_len, vec_capacity}
use Rattle.mx_world.specs.Replies.{AreReplies}
use Rattle.mx_world.specs.Worlds.{status_in, start, IsAfter}
use Rattle.mx_world.specs.Storage.{ShardsLast, BooksLast}
use Rattle.mx_world.specs.Crashes.{CrashLeaves}
use Rattle.mx_world.proofs.runs.run.Given as goal

-- the replies so far are those to the steps so far, and what is kept is what these leave
abbrev pub invariant-loop-step : goal.invariant-loop-step
invariant-loop-step g l = record {
  told : AreReplies (start l.fn.world) [] (take l.step-index l.steps) l.replies.items;
  now : IsAfter (start l.fn.world) (take l.step-index l.steps) l.world;
  shards_last : ShardsLast g.K.Keeper.failed l.fn.world.shards l.world.shards;
  books_last : BooksLast g.L.Keeper.failed l.fn.world.books l.world.books;
  leaves : CrashLeaves g.K.Keeper.is_honest g.K.Keeper.may_leave g.L.Keeper.is_honest g.L.Keeper.may_leave (status_in l.fn.world) None l.fn.world l.world;
  count : vec_len l.replies ≡ l.step-index;
  room : length l.steps ≤ vec_capacity l.replies;
}
