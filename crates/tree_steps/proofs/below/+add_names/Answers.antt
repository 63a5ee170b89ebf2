use Rattle.std.proofs.Common.{rules, ◌≡◌, ◌<◌, ◌++◌, ◌∷◌, [], Some, arith}
use Rattle.std.proofs.lemmas.Bool.Decides.{nat_tests}
use Rattle.tree_model.specs.State.{place_at}
use Rattle.tree_steps.proofs.NamesDown.{told_below, told_apart}
use Rattle.tree_steps.proofs.below.+add_names.Goals as goal

pub returns-in_ok-push_bytes-in-Below : goal.returns-in_ok-push_bytes-in-Below
returns-in_ok-push_bytes-in-Below t c =
    let place = c.in-Some.place.now in
    let at : place_at c.args.nodes.now c.args.x ≡ Some place = search rules in
    let some : 0 < c.args.depth = grind (arith, nat_tests) in
    let longer : c.push_bytes.new.self ≡ c.add_names.new.names ++ place.name ∷ [] = search rules in
    rw longer (told_below c.args.depth c.args.nodes.now c.args.top c.args.x place c.args.names.now c.add_names.new.names some (search rules) at c.in_ok-found.found (search rules) c.in_ok-found.ensures)

pub returns-in-Apart : goal.returns-in-Apart
returns-in-Apart t c =
    let place = c.in-Some.place.now in
    let at : place_at c.args.nodes.now c.args.x ≡ Some place = search rules in
    let some : 0 < c.args.depth = grind (arith, nat_tests) in
    told_apart c.args.depth c.args.nodes.now c.args.top c.args.x place c.args.names.now c.add_names.new.names some (search rules) at c.in_ok-found.found (search rules) c.in_ok-found.ensures
