use Rattle.std.proofs.Common.{arith, refl}
use Rattle.list_directory.proofs.NameLemmas.{lays, nothing_behind}
use Rattle.list_directory.proofs.taking.take_read.Goals as goal

pub returns-then-taken : goal.returns-then-taken
returns-then-taken c =
    let t = c.take_names-taken in
    lays c.args.used c.args.records.now c.args.room.now _ t.new.room _ t.result _ t.ensures
    (grind arith) c.requires.used (nothing_behind c.args.used c.args.room.now) refl c.from.ensures
    (grind arith)

pub returns-else-taken : goal.returns-else-taken
returns-else-taken c =
    let t = c.take_names-taken in
    lays c.args.used c.args.records.now c.args.room.now _ t.new.room _ t.result _ t.ensures
    (grind arith) c.requires.used (nothing_behind c.args.used c.args.room.now) refl c.from.ensures
    (grind arith)
