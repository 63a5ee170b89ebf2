use Rattle.std.proofs.Common.{length, refl, rules, arith}
use Rattle.layered_search.specs.declared.frontier.layer.Layer.{Layer}
use Rattle.layered_search.specs.Asked.{WhyNot}
use Rattle.layered_search.specs.Found.{found_of}
use Rattle.layered_search.proofs.Layers.Kept.{lists_many}
use Rattle.layered_search.proofs.Layers.PassedOn.{ToPass, expansion, is_expansion, are_fit, are_apart, end_classes_on, is_passed, next_kept, next_counted}
use Rattle.layered_search.proofs.searching.pass.Given.{Over}
use Rattle.layered_search.proofs.searching.pass.Goals as goal
use Rattle.layered_search.proofs.searching.pass.Goals.{In_ok-transitions}

-- the layer and its transitions
abbrev start : (g : Over) (c : In_ok-transitions g)
    → ToPass (g.S.TransitionSystem.system c.args.system.now) (g.S.TransitionSystem.keys c.args.system.now)
start g c = record {
  n = length c.args.graph.now;
  bounds = c.args.bounds;
  memory = c.args.memory.now;
  layer = c.args.layer.now;
  found = found_of c.args.found.now.items;
  short = c.requires.few;
  kept = c.requires.kept;
  on = c.requires.on;
  transitions = c.in_ok-transitions.transitions.items;
  choices = c.in_ok-transitions.choices.items;
  listed = c.in_ok-transitions.ensures.transitions (length c.args.graph.now) c.requires.kept.keys;
  are = c.in_ok-transitions.ensures.choices (length c.args.graph.now) c.requires.kept.keys;
}

pub listed-requires-clause-known : goal.listed-requires-clause-known
listed-requires-clause-known g c = (length c.args.graph.now, c.requires.kept.keys)

pub listed-requires-clause-within : goal.listed-requires-clause-within
listed-requires-clause-within g c = λ t configuration there.
    let few = (c.requires.on t configuration there).few in
    record { cuts = omega (arith, few.cuts, c.requires.few); changes = omega (arith, few.changes, c.requires.few) }

pub listed-requires-clause-on : goal.listed-requires-clause-on
listed-requires-clause-on g c = λ t configuration there.
    let many = lists_many c.args.layer.now.states.items in
    omega (arith, (c.requires.on t configuration there).on, many)

pub go_on-requires-clause-expansion : goal.go_on-requires-clause-expansion
go_on-requires-clause-expansion g c =
    let v = c.args.system.now in
    let s = g.S.TransitionSystem.system v in
    let k = g.S.TransitionSystem.keys v in
    let p = start g (goal.at.go_on-requires-clause-expansion g c).In_ok-transitions in
    (expansion s k p, is_expansion s k p c.as_slice-transitions.result.now c.as_slice-transitions.ensures.value)

pub returns-in_err-passed-clause-err : goal.returns-in_err-passed-clause-err
returns-in_err-passed-clause-err g c = λ limits states bounds counted room.
    let v = c.args.system.now in
    let s = g.S.TransitionSystem.system v in
    let k = g.S.TransitionSystem.keys v in
    let p = start g (goal.at.returns-in_err-passed-clause-err g c).In_ok-transitions in
    let is = is_expansion s k p c.as_slice-transitions.result.now c.as_slice-transitions.ensures.value in
    let why : WhyNot s limits c.in_err-passed.field-0.0 =
    c.in_err-passed.ensures.err limits (expansion s k p) states is bounds counted room in
    search rules

pub spread-requires-clause-fit : goal.spread-requires-clause-fit
spread-requires-clause-fit g c =
    let v = c.args.system.now in
    let s = g.S.TransitionSystem.system v in
    let k = g.S.TransitionSystem.keys v in
    let p = start g (goal.at.spread-requires-clause-fit g c).In_ok-transitions in
    let is = is_expansion s k p c.as_slice-transitions.result.now c.as_slice-transitions.ensures.value in
    let came = c.in_ok-passed.ensures.expanded (expansion s k p) is in
    are_fit s k p (g.S.TransitionSystem.is_system v) (g.S.TransitionSystem.are_keys v) c.go_on.new.memory
    c.in_ok-passed.passed.known.states.items c.in_ok-passed.passed.end_classes.items
    c.in_ok-passed.passed.places.items (found_of c.go_on.new.found.items) came
    c.as_slice-those.result.now c.as_slice-choices.result.now c.as_slice-places.result.now
    c.as_slice-end_classes.result.now c.as_slice-those.ensures.value c.as_slice-choices.ensures.value
    c.as_slice-places.ensures.value c.as_slice-end_classes.ensures.value

pub spread-requires-clause-apart : goal.spread-requires-clause-apart
spread-requires-clause-apart g c =
    let v = c.args.system.now in
    let s = g.S.TransitionSystem.system v in
    let k = g.S.TransitionSystem.keys v in
    let p = start g (goal.at.spread-requires-clause-apart g c).In_ok-transitions in
    let is = is_expansion s k p c.as_slice-transitions.result.now c.as_slice-transitions.ensures.value in
    let came = c.in_ok-passed.ensures.expanded (expansion s k p) is in
    are_apart s k p (g.S.TransitionSystem.is_system v) (g.S.TransitionSystem.are_keys v) c.go_on.new.memory
    c.in_ok-passed.passed.known.states.items c.in_ok-passed.passed.end_classes.items
    c.in_ok-passed.passed.places.items (found_of c.go_on.new.found.items) came
    c.as_slice-those.result.now c.as_slice-choices.result.now c.as_slice-places.result.now
    c.as_slice-end_classes.result.now c.as_slice-those.ensures.value c.as_slice-choices.ensures.value
    c.as_slice-places.ensures.value c.as_slice-end_classes.ensures.value

pub spread-requires-clause-on : goal.spread-requires-clause-on
spread-requires-clause-on g c =
    let v = c.args.system.now in
    let s = g.S.TransitionSystem.system v in
    let k = g.S.TransitionSystem.keys v in
    let p = start g (goal.at.spread-requires-clause-on g c).In_ok-transitions in
    let is = is_expansion s k p c.as_slice-transitions.result.now c.as_slice-transitions.ensures.value in
    let came = c.in_ok-passed.ensures.expanded (expansion s k p) is in
    end_classes_on s k p (g.S.TransitionSystem.is_system v) (g.S.TransitionSystem.are_keys v) c.go_on.new.memory
    c.in_ok-passed.passed.known.states.items c.in_ok-passed.passed.end_classes.items
    c.in_ok-passed.passed.places.items (found_of c.go_on.new.found.items) came
    c.as_slice-those.result.now c.as_slice-choices.result.now c.as_slice-places.result.now
    c.as_slice-end_classes.result.now c.as_slice-those.ensures.value c.as_slice-choices.ensures.value
    c.as_slice-places.ensures.value c.as_slice-end_classes.ensures.value

pub returns-in_err-configurations-clause-err : goal.returns-in_err-configurations-clause-err
returns-in_err-configurations-clause-err g c = λ limits states bounds counted room. search rules

pub returns-clause-kept : goal.returns-clause-kept
returns-clause-kept g c =
    let v = c.args.system.now in
    let s = g.S.TransitionSystem.system v in
    let k = g.S.TransitionSystem.keys v in
    let p = start g (goal.at.returns-clause-kept g c).In_ok-transitions in
    let is = is_expansion s k p c.as_slice-transitions.result.now c.as_slice-transitions.ensures.value in
    let came = c.in_ok-passed.ensures.expanded (expansion s k p) is in
    let new : Layer g.row.S-Key.Denot =
    record { states = c.in_ok-passed.passed.known.states; configurations = c.in_ok-configurations.configurations } in
    let spread = c.in_ok-configurations.ensures in
    next_kept s k p (g.S.TransitionSystem.is_system v) (g.S.TransitionSystem.are_keys v) c.go_on.new.memory
    c.in_ok-passed.passed.known.states.items c.in_ok-passed.passed.end_classes.items
    c.in_ok-passed.passed.places.items (found_of c.go_on.new.found.items) came
    c.as_slice-those.result.now c.as_slice-choices.result.now c.as_slice-places.result.now
    c.as_slice-end_classes.result.now c.as_slice-those.ensures.value c.as_slice-choices.ensures.value
    c.as_slice-places.ensures.value c.as_slice-end_classes.ensures.value new refl spread.0 spread.1.1.1.0

pub returns-clause-passed : goal.returns-clause-passed
returns-clause-passed g c =
    let v = c.args.system.now in
    let s = g.S.TransitionSystem.system v in
    let k = g.S.TransitionSystem.keys v in
    let p = start g (goal.at.returns-clause-passed g c).In_ok-transitions in
    let is = is_expansion s k p c.as_slice-transitions.result.now c.as_slice-transitions.ensures.value in
    let came = c.in_ok-passed.ensures.expanded (expansion s k p) is in
    let new : Layer g.row.S-Key.Denot =
    record { states = c.in_ok-passed.passed.known.states; configurations = c.in_ok-configurations.configurations } in
    let spread = c.in_ok-configurations.ensures in
    let passed = is_passed s k p (g.S.TransitionSystem.is_system v) (g.S.TransitionSystem.are_keys v)
    c.go_on.new.memory c.in_ok-passed.passed.known.states.items c.in_ok-passed.passed.end_classes.items
    c.in_ok-passed.passed.places.items (found_of c.go_on.new.found.items) came
    c.as_slice-those.result.now c.as_slice-choices.result.now c.as_slice-places.result.now
    c.as_slice-end_classes.result.now c.as_slice-those.ensures.value c.as_slice-choices.ensures.value
    c.as_slice-places.ensures.value c.as_slice-end_classes.ensures.value new refl spread.0 spread.1.1.1.0
    spread.1.0.items spread.1.1.1.1 in
    (spread.1.0, (spread.1.1.0, passed))

pub returns-clause-counted : goal.returns-clause-counted
returns-clause-counted g c = λ scope states bounds counted.
    let v = c.args.system.now in
    let s = g.S.TransitionSystem.system v in
    let k = g.S.TransitionSystem.keys v in
    let p = start g (goal.at.returns-clause-counted g c).In_ok-transitions in
    let is = is_expansion s k p c.as_slice-transitions.result.now c.as_slice-transitions.ensures.value in
    let came = c.in_ok-passed.ensures.expanded (expansion s k p) is in
    let new : Layer g.row.S-Key.Denot =
    record { states = c.in_ok-passed.passed.known.states; configurations = c.in_ok-configurations.configurations } in
    let spread = c.in_ok-configurations.ensures in
    next_counted s k p (g.S.TransitionSystem.is_system v) (g.S.TransitionSystem.are_keys v) c.go_on.new.memory
    c.in_ok-passed.passed.known.states.items c.in_ok-passed.passed.end_classes.items
    c.in_ok-passed.passed.places.items (found_of c.go_on.new.found.items) came
    c.as_slice-those.result.now c.as_slice-choices.result.now c.as_slice-places.result.now
    c.as_slice-end_classes.result.now c.as_slice-those.ensures.value c.as_slice-choices.ensures.value
    c.as_slice-places.ensures.value c.as_slice-end_classes.ensures.value new refl spread.0 spread.1.1.1.0
    scope states c.in_ok-passed.passed.states bounds counted c.counts_states.ensures c.in_ok-passed.ensures.states
