use Rattle.std.proofs.Common.{◌≡◌, ◌∙◌, ◌<◌, ◌+◌, ◌++◌, ◌∷◌, [], ℕ, List, ap, refl, length, length-append, arith}
use Rattle.std.specs.Prelude.{slice_get, Some}
use Rattle.smallvec.specs.SmallVec.{SmallVec}
use Rattle.std.proofs.lemmas.Option.{slice_get_read}
use Rattle.layered_search.specs.declared.frontier.layer.Configuration.{Configuration}
use Rattle.layered_search.specs.declared.frontier.transitions.Transition.{Transition}
use Rattle.layered_search.specs.declared.frontier.transitions.Choice.{Choice}
use Rattle.layered_search.specs.System.{state_after}
use Rattle.layered_search.specs.Kept.{layer_of}
use Rattle.layered_search.specs.Distinct.{Keeps}
use Rattle.layered_search.proofs.Places.{length_set, mapped_to}
use Rattle.layered_search.proofs.Layers.Choosing.{transitions_grown, choices_grown}
use Rattle.layered_search.proofs.frontier.transitions.listed.Goals as goal

pub choices_at-requires-clause-known : goal.choices_at-requires-clause-known
choices_at-requires-clause-known g c =
    let s = g.S.TransitionSystem.system c.args.system.now in
    let configuration : Configuration = c.index-configuration.result.now in
    let visited = c.index.result.now in
    let configurations : List Configuration = c.args.layer.now.configurations.items in
    let states = c.args.layer.now.states.items in
    let lt : c.loop-at.at < length configurations =
    omega (
      arith,
      c.loop-at-test.true,
      c.loop-at.auto.at-end,
      c.len-at-end.ensures,
      c.args.layer.now.configurations.ok.0,
    ) in
    let here : slice_get configurations c.loop-at.at ≡ Some configuration =
    slice_get_read configurations (length configurations) c.loop-at.at configuration refl lt
    c.index-configuration.ensures in
    let on_lt : configuration.state < length states = c.requires.on c.loop-at.at configuration here in
    let on : slice_get states configuration.state ≡ Some visited =
    slice_get_read states (length states) configuration.state visited refl on_lt c.index.ensures in
    let known = c.requires.known in
    (known.0, (state_after s visited.turns.items, known.1.keys configuration.state visited on))

pub choices_at-requires-clause-within : goal.choices_at-requires-clause-within
choices_at-requires-clause-within g c =
    let configuration : Configuration = c.index-configuration.result.now in
    let configurations : List Configuration = c.args.layer.now.configurations.items in
    let lt : c.loop-at.at < length configurations =
    omega (
      arith,
      c.loop-at-test.true,
      c.loop-at.auto.at-end,
      c.len-at-end.ensures,
      c.args.layer.now.configurations.ok.0,
    ) in
    c.requires.within c.loop-at.at configuration
    (slice_get_read configurations (length configurations) c.loop-at.at configuration refl lt
    c.index-configuration.ensures)

pub loop-at-preserved : goal.loop-at-preserved
loop-at-preserved g c =
    let s = g.S.TransitionSystem.system c.args.system.now in
    let bounds = c.args.bounds in
    let at : ℕ = c.loop-at.at in
    let was = c.loop-at.invariant in
    let configuration : Configuration = c.index-configuration.result.now in
    let visited = c.index.result.now in
    let row : SmallVec Transition = c.index_mut.result.now in
    let grown : SmallVec Transition = c.choices_at.new.transitions in
    let choices : SmallVec Choice = c.in_ok-choices.choices in
    let transitions : List (SmallVec Transition) = c.loop-at.transitions.items in
    let all : List (SmallVec Choice) = c.loop-at.all.items in
    let configurations : List Configuration = c.args.layer.now.configurations.items in
    let states = c.args.layer.now.states.items in
    let layer = layer_of c.args.layer.now in
    let lt : at < length configurations =
    omega (
      arith,
      c.loop-at-test.true,
      c.loop-at.auto.at-end,
      c.len-at-end.ensures,
      c.args.layer.now.configurations.ok.0,
    ) in
    let here : slice_get configurations at ≡ Some configuration =
    slice_get_read configurations (length configurations) at configuration refl lt c.index-configuration.ensures in
    let on_lt : configuration.state < length states = c.requires.on at configuration here in
    let on : slice_get states configuration.state ≡ Some visited =
    slice_get_read states (length states) configuration.state visited refl on_lt c.index.ensures in
    let view : slice_get layer.lists configuration.state ≡ Some visited.turns.items =
    mapped_to (λ one. one.turns.items) states configuration.state visited on in
    let inside : configuration.state < length transitions = let a = was.rows in omega (arith, a, on_lt) in
    let before : slice_get transitions configuration.state ≡ Some row =
    slice_get_read transitions (length transitions) configuration.state row refl inside c.index_mut.ensures.value in
    let keeps : Keeps row.items grown.items = c.in_ok-choices.ensures.keeps in
    let pushed : c.push.new.self.items ≡ all ++ choices ∷ [] = c.in_ok-push.ensures.items in
    let longer : length (all ++ choices ∷ []) ≡ length all + 1 = length-append all (choices ∷ []) in
    record {
      many = ap length pushed ∙ (longer ∙ ap (λ (n : ℕ). n + 1) was.many);
      rows = length_set transitions configuration.state grown ∙ was.rows;
      transitions = λ n keys.
          transitions_grown s bounds layer transitions at configuration visited.turns.items row grown here view before
          keeps (c.in_ok-choices.ensures.new n visited.turns.items (keys.keys configuration.state visited on))
          (was.transitions n keys);
      choices = λ n keys.
          choices_grown s bounds layer transitions at configuration visited.turns.items row grown here view before
          keeps (c.in_ok-choices.ensures.new n visited.turns.items (keys.keys configuration.state visited on)) all
          c.push.new.self.items choices was.many pushed
          (c.in_ok-choices.ensures.choices n visited.turns.items (keys.keys configuration.state visited on))
          (was.choices n keys);
    }

pub returns-clause-choices : goal.returns-clause-choices
returns-clause-choices g c = λ n keys.
    let was = c.loop-at.invariant in
    let many = was.many in
    record {
      many = omega (
        arith,
        many,
        c.loop-at-test.false,
        c.loop-at.auto.at-end,
        c.len-at-end.ensures,
        c.args.layer.now.configurations.ok.0,
      );
      each = was.choices n keys;
    }
