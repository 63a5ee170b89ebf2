use Rattle.std.proofs.Common.{◌≡◌, ◌∙◌, ◌<◌, ◌+◌, ◌++◌, ◌∷◌, [], ℕ, List, ap, sym, subst, refl, length, length-append, arith}
use Rattle.std.specs.Prelude.{slice_get, Some}
use Rattle.smallvec.specs.SmallVec.{SmallVec}
use Rattle.std.proofs.lemmas.Option.{same_Some, slice_get_read, slice_get_within}
use Rattle.schedule_graph.specs.declared.graph.Edge.{Edge}
use Rattle.layered_search.specs.declared.frontier.layer.Configuration.{Configuration}
use Rattle.layered_search.specs.declared.frontier.transitions.Choice.{Choice}
use Rattle.layered_search.specs.Spreading.{AreConfigurationsBy, AreEdgesTo}
use Rattle.layered_search.proofs.Layers.EdgesFound.{first_more, from_more}
use Rattle.layered_search.proofs.frontier.edges.all_edges.Goals as goal

pub edges_from-requires : goal.edges_from-requires
edges_from-requires c =
    let s : ℕ = c.loop-at.at in
    let configurations : List Configuration = c.args.configurations.now in
    let choices : List (SmallVec Choice) = c.args.choices.now in
    let places : List (SmallVec ℕ) = c.args.places.now in
    let configuration : Configuration = c.index-configurations-at.result in
    let those : SmallVec Choice = c.index-choices-at.result in
    let row : SmallVec ℕ = c.index-places-configuration.result in
    let lt : s < length configurations = omega (arith, c.loop-at-test.true, c.loop-at.auto.at-end) in
    let here : slice_get configurations s ≡ Some configuration =
    slice_get_read configurations (length configurations) s configuration refl lt c.index-configurations-at.is in
    let in_choices : s < length choices = let many = c.requires.many in omega (arith, lt, many) in
    let chosen : slice_get choices s ≡ Some those = slice_get_read choices (length choices) s those refl in_choices
    c.index-choices-at.is in
    let fit = c.requires.fit s configuration those here chosen in
    let at : slice_get places configuration.state ≡ Some row =
    slice_get_read places (length places) configuration.state row refl
    (slice_get_within places configuration.state fit.0 fit.1.0) c.index-places-configuration.is in
    let same : fit.0 ≡ row = same_Some fit.0 row (sym fit.1.0 ∙ at) in
    let long : length fit.0.items ≡ length c.as_slice-places.result.now =
    ap (λ (v : SmallVec ℕ). length v.items) same ∙ ap length (sym c.as_slice-places.ensures) in
    record {
      at = λ k choice there. subst (λ n. choice.at < n) long
          (fit.1.1 k choice (ap (λ (xs : List Choice). slice_get xs k) (sym c.as_slice-those.ensures) ∙ there));
    }

pub loop-at-preserved : goal.loop-at-preserved
loop-at-preserved c =
    let s : ℕ = c.loop-at.at in
    let bounds = c.args.bounds in
    let configurations : List Configuration = c.args.configurations.now in
    let choices : List (SmallVec Choice) = c.args.choices.now in
    let places : List (SmallVec ℕ) = c.args.places.now in
    let configuration : Configuration = c.index-configurations-at.result in
    let those : SmallVec Choice = c.index-choices-at.result in
    let row : SmallVec ℕ = c.index-places-configuration.result in
    let was = c.loop-at.invariant in
    let old : List Configuration = c.loop-at.next.items in
    let new : List Configuration = c.edges_from.new.next.items in
    let edges : SmallVec Edge = c.in_ok-edges.edges in
    let all : List (SmallVec Edge) = c.loop-at.all.items in
    let lt : s < length configurations = omega (arith, c.loop-at-test.true, c.loop-at.auto.at-end) in
    let here : slice_get configurations s ≡ Some configuration =
    slice_get_read configurations (length configurations) s configuration refl lt c.index-configurations-at.is in
    let in_choices : s < length choices = let many = c.requires.many in omega (arith, lt, many) in
    let chosen : slice_get choices s ≡ Some those = slice_get_read choices (length choices) s those refl in_choices
    c.index-choices-at.is in
    let fit = c.requires.fit s configuration those here chosen in
    let at : slice_get places configuration.state ≡ Some row =
    slice_get_read places (length places) configuration.state row refl
    (slice_get_within places configuration.state fit.0 fit.1.0) c.index-places-configuration.is in
    let own : AreEdgesTo bounds configuration those.items row.items new edges.items =
    subst (λ (cs : List Choice). AreEdgesTo bounds configuration cs row.items new edges.items) c.as_slice-those.ensures
    (subst (λ (ps : List ℕ). AreEdgesTo bounds configuration c.as_slice-those.result.now ps new edges.items)
    c.as_slice-places.ensures c.in_ok-edges.ensures.edges) in
    let successor : AreConfigurationsBy configuration those.items row.items old new =
    subst (λ (cs : List Choice). AreConfigurationsBy configuration cs row.items old new) c.as_slice-those.ensures
    (subst (λ (ps : List ℕ). AreConfigurationsBy configuration c.as_slice-those.result.now ps old new)
    c.as_slice-places.ensures c.in_ok-edges.ensures.configurations) in
    let pushed : c.push.new.self.items ≡ all ++ edges ∷ [] = c.in_ok-push.ensures.items in
    let longer : length (all ++ edges ∷ []) ≡ length all + 1 = length-append all (edges ∷ []) in
    record {
      many = ap length pushed ∙ (longer ∙ ap (λ (k : ℕ). k + 1) was.many);
      edges = first_more bounds configurations choices places old new s configuration those row here chosen at all
          c.push.new.self.items edges c.in_ok-edges.ensures.keeps was.many own pushed was.edges;
      successor = from_more bounds configurations choices places old new s configuration those row here chosen at
          successor was.successor;
    }
