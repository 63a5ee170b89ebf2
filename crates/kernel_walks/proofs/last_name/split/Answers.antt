use Rattle.std.proofs.Common.{sym, ◌∙◌}
use Rattle.kernel_walks.proofs.SplitLemmas.{empty_if, nothing_parted, last_fault, fault_parted, name_parted}
use Rattle.kernel_walks.proofs.last_name.split.Goals as goal

pub returns-then-is_empty : goal.returns-then-is_empty
returns-then-is_empty c =
    nothing_parted c.args.path.now c.before_slashes-ended.result.now c.args.takes_slash c.refused-then-is_empty.result
    (sym c.fault_of.ensures ∙ c.in_default.is) c.before_slashes-ended.ensures.pieces
    (empty_if c.before_slashes-ended.result.now c.is_empty.result c.is_empty.ensures c.if-is_empty.true) c.refused-then-is_empty.ensures

pub returns-in-Some-piece_fault : goal.returns-in-Some-piece_fault
returns-in-Some-piece_fault c =
    let ended = c.before_slashes-ended.result.now in
    let at = c.before_piece-name.result in
    let slash = c.ends_with_slash-slash.result in
    fault_parted c.args.path.now ended at c.args.takes_slash slash c.in-Some-piece_fault.fault c.refused-in-Some-piece_fault.result
    (record { beginning = c.before_slashes-ended.ensures.beginning; pieces_same = c.before_slashes-ended.ensures.pieces; cut = c.before_piece-name.ensures })
    (sym c.fault_of.ensures ∙ c.in_default.is) c.ends_with_slash-slash.ensures
    (last_fault ended at slash c.args.takes_slash c.refuses.result c.piece_fault.result c.refuses.ensures c.piece_fault.ensures ∙ c.in-Some-piece_fault.is)
    c.refused-in-Some-piece_fault.ensures

pub returns : goal.returns
returns c =
    let ended = c.before_slashes-ended.result.now in
    let at = c.before_piece-name.result in
    let slash = c.ends_with_slash-slash.result in
    name_parted c.args.path.now ended at c.args.takes_slash slash
    (record { beginning = c.before_slashes-ended.ensures.beginning; pieces_same = c.before_slashes-ended.ensures.pieces; cut = c.before_piece-name.ensures })
    (sym c.fault_of.ensures ∙ c.in_default.is) c.ends_with_slash-slash.ensures
    (last_fault ended at slash c.args.takes_slash c.refuses.result c.piece_fault.result c.refuses.ensures c.piece_fault.ensures ∙ c.in_default-piece_fault.is)
