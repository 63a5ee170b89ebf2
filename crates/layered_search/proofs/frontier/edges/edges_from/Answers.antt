use Rattle.std.proofs.Common.{◌≡◌, ◌∙◌, ◌<◌, ◌+◌, ◌++◌, ◌∷◌, [], ℕ, List, ap, length, length-append, arith}
use Rattle.std.proofs.lemmas.Option.{slice_get-get_or}
use Rattle.schedule_graph.specs.declared.graph.Edge.{Edge}
use Rattle.layered_search.specs.declared.frontier.transitions.Choice.{Choice}
use Rattle.layered_search.proofs.Layers.EdgesFound.{each_on, each_more, configurations_more}
use Rattle.layered_search.proofs.frontier.edges.edges_from.Goals as goal

pub loop-at-preserved : goal.loop-at-preserved
loop-at-preserved c =
    let n : ℕ = c.loop-at.at in
    let was = c.loop-at.invariant in
    let choices : List Choice = c.args.choices.now in
    let places : List ℕ = c.args.places.now in
    let edge : Edge = c.in_ok-edge.edge in
    let edges : List Edge = c.loop-at.edges.items in
    let lt : n < length choices = omega (arith, c.loop-at-test.true, c.loop-at.auto.at-end) in
    let pushed : c.push.new.self.items ≡ edges ++ edge ∷ [] = c.in_ok-push.ensures.ok in
    let longer : length (edges ++ edge ∷ []) ≡ length edges + 1 = length-append edges (edge ∷ []) in
    record {
      many = ap length pushed ∙ (longer ∙ ap (λ (k : ℕ). k + 1) was.many);
      keeps = λ k x there. c.in_ok-edge.ensures.keeps k x (was.keeps k x there);
      configurations = configurations_more c.args.bounds c.args.configuration.now choices places c.args.next.now.items
          c.loop-at.next.items c.edge_to.new.next.items n _ _
          (slice_get-get_or choices n _ lt) (slice_get-get_or places _ _
          (c.requires.at n _ (slice_get-get_or choices n _ lt)))
          c.in_ok-edge.ensures.configurations was.configurations;
      each = each_more c.args.bounds c.args.configuration.now choices places c.edge_to.new.next.items edges
          c.push.new.self.items n _ _ edge was.many
          (slice_get-get_or choices n _ lt) (slice_get-get_or places _ _
          (c.requires.at n _ (slice_get-get_or choices n _ lt)))
          c.in_ok-edge.ensures.edge pushed
          (each_on c.args.bounds c.args.configuration.now choices places c.loop-at.next.items c.edge_to.new.next.items
          edges c.in_ok-edge.ensures.keeps was.each);
    }
