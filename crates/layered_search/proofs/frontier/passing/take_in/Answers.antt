use Rattle.std.proofs.Common.{List, sym, subst}
use Rattle.layered_search.specs.declared.frontier.layer.Configuration.{Configuration}
use Rattle.layered_search.specs.declared.frontier.transitions.Transition.{Transition}
use Rattle.layered_search.specs.Expanded.{AreTaken}
use Rattle.layered_search.specs.Found.{found_of}
use Rattle.layered_search.proofs.Layers.Going.{expanded_more}
use Rattle.layered_search.proofs.frontier.passing.take_in.Goals as goal

pub returns-clause-expanded : goal.returns-clause-expanded
returns-clause-expanded g c = λ e expanded is.
    let v = c.args.system.now in
    let s = g.S.TransitionSystem.system v in
    let k = g.S.TransitionSystem.keys v in
    let visited = c.args.visited.now in
    let memory = c.args.memory.now in
    let new = c.places_of.new.memory in
    let old = c.args.passed.now.known.states.items in
    let next = c.places_of.new.known.states.items in
    let row = c.in_ok-places.places in
    let taken : AreTaken s k e.layer.configurations.items visited is.those.items memory new old next row.items =
    subst (λ (cs : List Configuration). AreTaken s k cs visited is.those.items memory new old next row.items)
    (sym is.configurations_are)
    (subst (λ (ms : List Transition).
    AreTaken s k c.args.configurations.now visited ms memory new old next row.items) (sym is.transitions_are)
    c.in_ok-places.ensures.taken) in
    expanded_more s k (g.S.TransitionSystem.are_keys v) e memory new old next c.args.passed.now.end_classes.items
    c.push-2.new.self.items c.args.passed.now.places.items c.push.new.self.items (found_of c.args.found.now.items)
    (found_of c.end_class_of.new.found.items) visited is.those c.in_ok-end_class.end_class row expanded is.there
    is.listed c.in_ok-end_class.ensures.class taken c.in_ok-push-2.ensures.items c.in_ok-push.ensures.items
