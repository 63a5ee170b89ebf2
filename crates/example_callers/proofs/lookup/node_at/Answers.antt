use Rattle.std.proofs.Common.{ℕ, true, sym, subst}
use Rattle.step_resolver.specs.Driver.{node_of, IsReady}
use Rattle.step_resolver.specs.Meaning.{resolution, resolved}
use Rattle.example_callers.specs.Lookup.{Gives}
use Rattle.example_callers.proofs.Rooted.{HasRoot, first_root, below_root}
use Rattle.example_callers.proofs.lookup.node_at.Goals as goal

pub look_up_text-requires : goal.look_up_text-requires
look_up_text-requires c =
    let root : HasRoot c.in-Ok.tree c.grant.new.self c.in_ok-handle.handle c.args.root.now =
    first_root c.steps_keep_trees.ensures.grants c.in-Ok.tree c.grant.new.self c.new.result c.in_ok-handle.handle c.args.root.now c.in-Ok.ensures.built.1
    c.new.ensures c.in-Ok.ensures.tree c.in_ok-handle.ensures in
    subst (λ (a : ℕ). IsReady c.grant.new.self a c.in_ok-handle.handle (node_of c.grant.new.self a c.in_ok-handle.handle)) (sym c.new.ensures) root.ready

pub returns : goal.returns
returns c =
    let t = c.grant.new.self in
    let h = c.in_ok-handle.handle in
    let root : HasRoot c.in-Ok.tree t h c.args.root.now =
    first_root c.steps_keep_trees.ensures.grants c.in-Ok.tree t c.new.result h c.args.root.now c.in-Ok.ensures.built.1
    c.new.ensures c.in-Ok.ensures.tree c.in_ok-handle.ensures in
    below_root c.args.entries.now c.in-Ok.tree t h c.args.root.now c.args.text.now c.args.flags c.look_up_text.result c.in-Ok.ensures.built.0 root
    (subst (λ (a : ℕ). Gives (resolution (resolved t.nodes (node_of t a h) c.args.text.now true c.args.flags)) c.look_up_text.result) c.new.ensures
    c.look_up_text.ensures)
