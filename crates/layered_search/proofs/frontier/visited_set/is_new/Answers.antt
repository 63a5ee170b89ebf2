use Rattle.std.proofs.Common.{◌∙◌, ℕ, sym, subst}
use Rattle.std.specs.Prelude.{Option}
use Rattle.std.proofs.lemmas.Bool.{true≢false}
use Rattle.layered_search.specs.Marked.{IsOneAt}
use Rattle.layered_search.proofs.Layers.Markings.{none_one, one_same_at}
use Rattle.layered_search.proofs.Lists.Chains.{IsAlong, begins_along, goes_along, fewer_left}
use Rattle.layered_search.proofs.frontier.visited_set.is_new.Goals as goal

pub loop-place-init : goal.loop-place-init
loop-place-init g c =
    let k = g.S.TransitionSystem.keys c.args.system.now in
    begins_along c.args.table.now c.args.print (IsOneAt k c.args.key.now c.args.states.now) c.last-place.result
    c.last-place.ensures

pub loop-place-smaller : goal.loop-place-smaller
loop-place-smaller g c =
    fewer_left c.loop-place.place c.before-place.result c.in-Some.at c.in-Some.is c.before-place.ensures.below

pub loop-place-preserved : goal.loop-place-preserved
loop-place-preserved g c =
    let k = g.S.TransitionSystem.keys c.args.system.now in
    let IsIt = IsOneAt k c.args.key.now c.args.states.now in
    goes_along c.args.table.now c.args.print IsIt c.in-Some.at c.before-place.result
    (subst (λ (o : Option ℕ). IsAlong c.args.table.now c.args.print IsIt o) c.in-Some.is c.loop-place.invariant)
    (λ found. true≢false (sym (c.is_one_at.ensures.1 found) ∙ c.if-is_one_at.false))
    c.before-place.ensures.chain

pub returns-then-is_one_at : goal.returns-then-is_one_at
returns-then-is_one_at g c =
    let k = g.S.TransitionSystem.keys c.args.system.now in
    one_same_at k c.args.key.now c.args.states.now c.in-Some.at (c.is_one_at.ensures.0 c.if-is_one_at.true)

pub returns : goal.returns
returns g c =
    let v = c.args.system.now in
    let k = g.S.TransitionSystem.keys v in
    let IsIt = IsOneAt k c.args.key.now c.args.states.now in
    none_one (g.S.TransitionSystem.system v) k (g.S.TransitionSystem.are_keys v) c.args.key.now c.args.print
    c.args.states.now c.args.table.now c.requires.prints c.requires.own
    (subst (λ (o : Option ℕ). IsAlong c.args.table.now c.args.print IsIt o) c.in_default.is c.loop-place.invariant)
