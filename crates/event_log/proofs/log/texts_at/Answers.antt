use Rattle.std.proofs.Common.{◌≤◌, length, rules}
use Rattle.event_log.proofs.Placed.{lies_between, lies_own}
use Rattle.event_log.proofs.log.texts_at.Goals as goal

bounds : (c : goal.After-start_of-end) → (c.start_of-start.result ≤ c.start_of-end.result) × (c.start_of-end.result ≤ length c.args.bytes.now)
bounds c =
    lies_between c.args.bytes.now c.args.records.now c.args.at c.start_of-start.result c.start_of-end.result c.requires.log c.requires.within c.start_of-start.ensures c.start_of-end.ensures

pub slice_bounds-result-count : goal.slice_bounds-result-count
slice_bounds-result-count c = (bounds c).0

pub slice_bounds-result-start : goal.slice_bounds-result-start
slice_bounds-result-start c = let h = bounds c in search rules

pub slice_bounds-result-end : goal.slice_bounds-result-end
slice_bounds-result-end c = let h = bounds c in search rules

pub returns : goal.returns
returns c =
    lies_own c.args.bytes.now c.args.records.now c.args.at c.start_of-start.result c.start_of-end.result c.requires.log c.requires.within c.start_of-start.ensures c.start_of-end.ensures
