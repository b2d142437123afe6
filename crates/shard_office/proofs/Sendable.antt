-- A pass may go to another thread: its seats have no bytes that a thread owns.
use denote.Param.Send.{IsSend, sendable, view_send, recorded_send, struct_send}
use denote.Struct.Declared.{shape}
use Rattle.std.proofs.Crossing.{Vec-send, frees}
use Rattle.std.proofs.alloc.Global.TheSendSync as heap
use Rattle.batch_core.proofs.entries.Entries.TheSendSync as entries
use Rattle.batch_core.specs.contracts.entry.Entry as entry
use Rattle.call_register.specs.contracts.mark.Mark as mark
use Rattle.number_tie.proofs.half.Half.TheSendSync as half
use Rattle.ranking_trie.proofs.arena.Arena.TheSendSync as arena
use Rattle.ranking_trie.proofs.fronts.Fronts.TheSendSync as fronts
use Rattle.ranking_trie.specs.contracts.trie.Trie as trie
use Rattle.ranking_trie.specs.contracts.trie.Trie.TheInside as trie_fields
use Rattle.shard_book.below.indexmap.proofs.map.IndexMap.TheSendSync as index_map
use Rattle.std.proofs.hash.BuildHasherDefault.TheSendSync as build
use Rattle.std.proofs.hash.FoldHasher.TheSendSync as fold
use Rattle.shard_book.proofs.row.Row.TheSendSync as row
use Rattle.shard_book.specs.contracts.book.ShardBook as book
use Rattle.shard_book.specs.contracts.book.ShardBook.TheInside as book_fields
use Rattle.turn_lock.proofs.seat.Seat.TheSendSync as seat
use Rattle.shard_office.proofs.register_value.RegisterValue.TheSendSync as register_value
use Rattle.shard_office.specs.contracts.register_value.RegisterValue as register_row
use Rattle.shard_office.specs.contracts.register_value.RegisterName as register_name
use Rattle.shard_office.specs.contracts.register_value.RegisterValueKept.TheImpl as register_kept
use Rattle.shard_office.specs.contracts.shard_value.ShardName as shard_name
use Rattle.shard_office.specs.contracts.shard_value.ShardValueKept.TheImpl as shard_kept
use Rattle.shard_office.specs.contracts.shard_value.ShardValue as shard_value
use Rattle.shard_office.specs.contracts.shard_value.ShardValue.TheInside as shard_fields
use Rattle.shard_office.specs.contracts.desk.Desk as desk
use Rattle.shard_office.specs.contracts.pass.Pass as pass
use Rattle.shard_office.specs.contracts.pass.Pass.TheInside as inside

pub trie_send : IsSend trie.the_row
trie_send =
    view_send trie_fields.the_row _ _ _ _ (recorded_send trie_fields.the_field.row _ _
    trie_fields.the_type.to_one (struct_send (shape trie_fields.the_type) (
      heap.the_field_send,
      (
        search sendable,
        (
          search sendable,
          (
            search sendable,
            (search sendable, (search sendable, (arena.the_field_send, (fronts.the_field_send, tt)))),
          ),
        ),
      ),
    )))

pub book_send : IsSend book.the_row
book_send =
    view_send book_fields.the_row _ _ _ _ (recorded_send book_fields.the_field.row _ _
    book_fields.the_type.to_one (struct_send (shape book_fields.the_type) (
      search sendable,
      (
        search sendable,
        (
          search sendable,
          (
            search (
              index_map.the_send,
              row.the_send,
              build.the_send,
              fold.the_send,
              heap.the_send,
              frees,
              sendable,
            ) depth 12,
            (entries.the_send, (trie_send, tt)),
          ),
        ),
      ),
    )))

pub value_send : IsSend shard_value.the_row
value_send =
    view_send shard_fields.the_row _ _ _ _ (recorded_send shard_fields.the_field.row _ _
    shard_fields.the_type.to_one
    (struct_send (shape shard_fields.the_type) (book_send, (half.the_send, tt))))

desk_send : IsSend desk.the_field.row
desk_send =
    struct_send (shape desk.the_type) (
      search sendable,
      (
        search sendable,
        (
          Vec-send _
              (seat.the_send shard_value.the_row entry.the_row shard_name.the_row shard_kept.ghosts value_send),
          (
            seat.the_send register_row.the_row mark.the_row register_name.the_row register_kept.ghosts
                register_value.the_send,
            tt,
          ),
        ),
      ),
    )

pub pass_send : IsSend pass.the_row
pass_send =
    view_send inside.the_row _ _ _ _ (recorded_send inside.the_field.row _ _ inside.the_type.to_one
    (struct_send (shape inside.the_type) (desk_send, tt)))
