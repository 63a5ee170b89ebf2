use Rattle.std.proofs.Common.{◌≡◌, ◌∙◌, ◌+◌, ◌++◌, ◌∷◌, [], length, arith, sym, ap, subst}
use Rattle.tree_model.specs.declared.inode.Inode.{Inode}
use Rattle.node_numbering.specs.Exchanges.{after_all, before_all}
use Rattle.node_numbering.specs.Renumbered.{inode_on}
use Rattle.std.specs.Prelude.{slice_get}
use Rattle.node_numbering.proofs.Exchanging.{was_below}
use Rattle.node_numbering.proofs.Moved.{AreMoved, one_moved, all_moved}
use Rattle.node_numbering.proofs.copies.nodes_on.Goals as goal

pub node_at-requires : goal.node_at-requires
node_at-requires c =
    let was = was_below 0 (length c.args.nodes.now) c.args.exchanges.now c.loop-number.number c.requires c.loop-number-test.true in
    let old = c.number_before-old.ensures ∙ ap (before_all c.args.exchanges.now) c.new.ensures in
    omega (arith, was, old)

pub loop-number-preserved : goal.loop-number-preserved
loop-number-preserved c =
    let es = c.args.exchanges.now in
    let nodes = c.args.nodes.now in
    let others = c.loop-number.others.items in
    let old = c.number_before-old.ensures ∙ ap (before_all es) c.new.ensures in
    let there = ap (slice_get nodes) (sym old) ∙ c.node_at.ensures in
    let pushed : c.push.new.self.items ≡ others ++ c.in_ok-inode_on.field-0 ∷ [] = c.in_ok-push.ensures.items in
    let came : c.push.new.self.items ≡ others ++ inode_on (after_all es) c.node_at.result.now ∷ [] =
    pushed ∙ ap (λ (x : Inode). others ++ x ∷ []) c.in_ok-inode_on.ensures in
    subst (AreMoved es nodes (c.loop-number.number + 1)) (sym came)
    (one_moved es nodes c.loop-number.number others c.node_at.result.now there c.loop-number.invariant)

pub returns : goal.returns
returns c =
    let all : c.loop-number.number ≡ length c.args.nodes.now = omega (arith, c.loop-number-test.false) in
    all_moved 0 c.args.exchanges.now c.args.nodes.now c.loop-number.others.items c.requires
    (subst (λ n. AreMoved c.args.exchanges.now c.args.nodes.now n c.loop-number.others.items) all c.loop-number.invariant)
