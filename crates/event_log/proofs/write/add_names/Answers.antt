use Rattle.std.proofs.Common.{arith}
use Rattle.event_log.proofs.Pieces.{name_written, piece_len}
use Rattle.event_log.proofs.write.add_names.Goals as goal

pub push_reserved-requires : goal.push_reserved-requires
push_reserved-requires c =
    omega (arith, c.loop-at.invariant.room, piece_len c.args.names.now c.loop-at.at c.get-name.result.now c.get-name.ensures.same)

pub add-requires : goal.add-requires
add-requires c =
    omega (arith, c.loop-at.invariant.room, c.push_reserved.ensures.len, c.push_reserved.ensures.capacity, piece_len c.args.names.now c.loop-at.at c.get-name.result.now c.get-name.ensures.same)

pub loop-at-preserved : goal.loop-at-preserved
loop-at-preserved c =
    record {
      whole = name_written c.args.names.now c.loop-at.at c.get-name.result.now c.args.bytes.now.items c.loop-at.bytes.items c.push_reserved.new.self.items c.add.new.bytes.items
          c.get-name.ensures.same c.push_reserved.ensures.items c.add.ensures.items c.loop-at.invariant.whole;
      room = omega (
        arith,
        c.loop-at.invariant.room,
        c.push_reserved.ensures.len,
        c.push_reserved.ensures.capacity,
        c.add.ensures.len,
        c.add.ensures.room,
        piece_len c.args.names.now c.loop-at.at c.get-name.result.now c.get-name.ensures.same,
      );
    }
