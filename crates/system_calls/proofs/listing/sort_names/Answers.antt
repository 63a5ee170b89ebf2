use Rattle.std.proofs.Common.{arith}
use Rattle.system_calls.proofs.ListingLemmas.{room_for, sorts_never, sorts_none, sorts_short, sorts_some}
use Rattle.system_calls.proofs.listing.sort_names.Goals as goal

pub returns-then-room-text : goal.returns-then-room-text
returns-then-room-text c = sorts_short c.args.text.now c.args.room.now (omega (arith, c.if-room-text.true))

pub returns-in_default : goal.returns-in_default
returns-in_default c = sorts_never c.args.text.now c.args.room.now c.number.result (omega (arith, c.if-room-text.false)) c.number.ensures

pub returns-then-is_empty : goal.returns-then-is_empty
returns-then-is_empty c =
    sorts_none c.args.text.now c.args.room.now c.in-Ok.sorted.items c.as_slice-names.result.now c.is_empty.result (omega (arith, c.if-room-text.false))
    c.as_slice-names.ensures.value c.in-Ok.ensures c.is_empty.ensures c.if-is_empty.true

pub lay_names-length-requires : goal.lay_names-length-requires
lay_names-length-requires c =
    room_for c.args.text.now c.args.room.now c.in-Ok.sorted.items c.as_slice-names.result.now (omega (arith, c.if-room-text.false)) c.as_slice-names.ensures.value c.in-Ok.ensures

pub returns : goal.returns
returns c =
    sorts_some c.args.text.now c.args.room.now c.lay_names-length.new.room c.in-Ok.sorted.items c.as_slice-names.result.now c.is_empty.result c.lay_names-length.result
    (omega (arith, c.if-room-text.false)) c.as_slice-names.ensures.value c.in-Ok.ensures c.is_empty.ensures c.if-is_empty.false
    c.lay_names-length.ensures.count c.lay_names-length.ensures.bytes
