use Rattle.std.proofs.Common.{◌≡◌, length, ap, arith}
use Rattle.std.specs.HashMap.{get}
use Rattle.std.specs.Prelude.{nat_eq}
use Rattle.std.proofs.lemmas.Option.{slice_get_within}
use Rattle.layered_search.proofs.Lists.Chains.{before_below}
use Rattle.layered_search.proofs.frontier.table.Table.before.Goals as goal

pub returns-in-Some-clause-below : goal.returns-in-Some-clause-below
returns-in-Some-clause-below c =
    let h = c.in-Some.ensures.lookup in
    before_below c.self.inside.prints.items c.self.inside.befores.items (get nat_eq c.self.inside.lasts) c.args.at
    c.deref.result.now c.in-Some.before.now
    c.self.invariant c.deref.ensures.value h.3.0 h.1

pub returns-in-None-clause-chain : goal.returns-in-None-clause-chain
returns-in-None-clause-chain c = λ print there k lt here.
    let within = slice_get_within c.args.self.now c.args.at print there in
    let same : length c.self.inside.prints.items ≡ length c.args.self.now = ap length c.self.view_is in
    let many = c.self.invariant.many in
    let past = c.in-None.ensures.lookup.3 in
    let read = ap length c.deref.ensures.value in
    absurd (omega (arith, within, same, many, past, read))
