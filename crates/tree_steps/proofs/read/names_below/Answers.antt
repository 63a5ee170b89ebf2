use Rattle.std.proofs.Common.{◌≡◌, ◌++◌, ◌∷◌, [], ◌∙◌, sym, length, Some, rules}
use Rattle.tree_model.specs.State.{place_at}
use Rattle.tree_steps.proofs.Nodes.{names_within_more}
use Rattle.tree_steps.proofs.read.names_below.Goals as goal

pub loop-preserved : goal.loop-preserved
loop-preserved c =
    let nodes = c.args.nodes.now in
    let at : place_at nodes c.loop.at ≡ Some c.in-Some.place.now = search rules in
    let longer : c.push_bytes.new.self ≡ c.loop.names ++ c.in-Some.place.now.name ∷ [] = search rules in
    rw longer (sym (names_within_more (length nodes) c.loop.counter nodes c.args.top c.loop.at c.in-Some.place.now c.loop.names c.loop-test.true (search rules) at) ∙ c.loop.invariant)
