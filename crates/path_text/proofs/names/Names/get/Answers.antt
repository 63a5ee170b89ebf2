use Rattle.std.proofs.Common.{◌≡◌, ◌<◌, ◌≤◌, ◌-◌, length, take, drop, ◌∙◌, ap, arith, rules}
use Rattle.std.specs.Prelude.{None, Some, slice_get}
use Rattle.path_text.specs.Name.{name_fault}
use Rattle.path_text.specs.Names.{start_at, AreNames}
use Rattle.path_text.proofs.NameBuffers.{length_cut, start_le, name_at, all_at}
use Rattle.path_text.proofs.names.Names.get.Goals as goal

pub start_of-start-requires : goal.start_of-start-requires
start_of-start-requires c =
    omega (arith, c.requires, c.as_slice.ensures.len, ap length c.as_slice.ensures.value, length_cut 0 c.self.inside.ends.items c.self.inside.bytes.items, ap length c.self.view_is)

pub index-end-requires : goal.index-end-requires
index-end-requires c =
    omega (arith, c.requires, c.self.inside.ends.ok.0, length_cut 0 c.self.inside.ends.items c.self.inside.bytes.items, ap length c.self.view_is)

within : (c : goal.After-deref) → c.args.at < length c.self.inside.ends.items
within c = omega (arith, c.requires, length_cut 0 c.self.inside.ends.items c.self.inside.bytes.items, ap length c.self.view_is)

begins : (c : goal.After-deref) → c.start_of-start.result ≡ start_at 0 c.self.inside.ends.items c.args.at
begins c = c.start_of-start.ensures ∙ ap (λ ends. start_at 0 ends c.args.at) c.as_slice.ensures.value

bounds : (c : goal.After-deref) → (c.start_of-start.result ≤ c.index-end.result.now) × (c.index-end.result.now ≤ length c.self.inside.bytes.items)
bounds c =
    let h = start_le 0 c.self.inside.ends.items (length c.self.inside.bytes.items) c.args.at c.index-end.result.now c.self.invariant.rising (within c) in
    rw (begins c, c.index-end.ensures) h

pub slice_bounds-result-count : goal.slice_bounds-result-count
slice_bounds-result-count c = (bounds c).0

pub slice_bounds-result-start : goal.slice_bounds-result-start
slice_bounds-result-start c = let h = bounds c in search rules

pub slice_bounds-result-end : goal.slice_bounds-result-end
slice_bounds-result-end c = let h = bounds c in let all = c.deref.ensures.value in search rules

same : (c : goal.After-result-1) → slice_get c.args.self.now c.args.at ≡ Some (take (c.index-end.result.now - c.start_of-start.result) (drop c.start_of-start.result c.deref.result.now))
same c =
    let within : c.args.at < length c.self.inside.ends.items =
    omega (arith, c.requires, length_cut 0 c.self.inside.ends.items c.self.inside.bytes.items, ap length c.self.view_is) in
    rw (c.index-end.ensures, c.start_of-start.ensures, c.as_slice.ensures.value, c.deref.ensures.value, ← c.self.view_is)
    (name_at 0 c.self.inside.ends.items c.self.inside.bytes.items c.args.at c.index-end.result.now within)

pub returns-clause-same : goal.returns-clause-same
returns-clause-same c = same c

pub returns-clause-valid : goal.returns-clause-valid
returns-clause-valid c =
    let valid : AreNames c.args.self.now = rw (← c.self.view_is) c.self.invariant.valid in
    all_at (λ name. name_fault name ≡ None) c.args.self.now c.args.at _ valid (same c)
