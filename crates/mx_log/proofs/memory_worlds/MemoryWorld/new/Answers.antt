use Rattle.mx_log.proofs.MemoryWorldLemmas.{no_book_refused, no_shard_refused, none_refused_first, nothing_first}
use Rattle.mx_log.proofs.memory_worlds.MemoryWorld.new.Goals as goal

pub invariant_of-result : goal.invariant_of-result
invariant_of-result c = record {
  none_refused = none_refused_first c.in_ok-shard_keepers.shard_keepers.items c.in_ok-book_keepers.book_keepers.items c.in-Ok.world (record {
    blank = c.in_ok-shard_keepers.ensures.blank;
    blank_replies = c.in_ok-book_keepers.ensures.blank;
    shards = c.in-Ok.ensures.shards;
    books = c.in-Ok.ensures.books;
    over = c.in-Ok.ensures.shard_rows;
    over_replies = c.in-Ok.ensures.book_rows;
    none_open = c.in-Ok.ensures.none_open;
  });
}

pub returns-in-Ok : goal.returns-in-Ok
returns-in-Ok c = nothing_first c.in_ok-shard_keepers.shard_keepers.items c.in_ok-book_keepers.book_keepers.items c.in-Ok.world (record {
  blank = c.in_ok-shard_keepers.ensures.blank;
  blank_replies = c.in_ok-book_keepers.ensures.blank;
  shards = c.in-Ok.ensures.shards;
  books = c.in-Ok.ensures.books;
  over = c.in-Ok.ensures.shard_rows;
  over_replies = c.in-Ok.ensures.book_rows;
  none_open = c.in-Ok.ensures.none_open;
})

pub unreachable-requires : goal.unreachable-requires
unreachable-requires c =
    let arm = c.in-Err-Shard in
    no_shard_refused c.in_ok-shard_keepers.shard_keepers.items arm.field-0-0 c.in_ok-shard_keepers.ensures.blank
    (rw arm.field-0-is at arm.ensures.refused)

pub unreachable-requires-in-Err-Book : goal.unreachable-requires-in-Err-Book
unreachable-requires-in-Err-Book c =
    let arm = c.in-Err-Book in
    no_book_refused c.in_ok-book_keepers.book_keepers.items arm.field-0-0 c.in_ok-book_keepers.ensures.blank
    (rw arm.field-0-is at arm.ensures.refused)
