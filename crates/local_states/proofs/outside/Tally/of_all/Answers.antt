use Rattle.std.proofs.Common.{◌∙◌, ap, arith}
use Rattle.race_core.specs.Book.{tree_now}
use Rattle.local_states.proofs.Counting.{roots_more, counts_more}
use Rattle.local_states.proofs.outside.Tally.of_all.Goals as goal

pub loop-at-preserved : goal.loop-at-preserved
loop-at-preserved g c = record {
  roots = roots_more c.args.world.now c.in_ok-tree.tree c.loop-at.at c.loop-at.roots.items c.push.new.self.items c.in_ok-root_of.field-0
      (c.in_ok-tree.ensures ∙ (c.tree.ensures ∙ ap tree_now c.book.ensures)) c.requires.fresh
      (omega (arith, c.loop-at-test.true, c.actors-at-end.ensures, c.loop-at.auto.at-end))
      c.in_ok-push.ensures.items c.in_ok-root_of.ensures c.loop-at.invariant.roots;
  counts = counts_more c.args.world.now.book c.loop-at.roots.items c.push.new.self.items c.in_ok-root_of.field-0 c.loop-at.counts.items c.push-in-loop-at.new.self.items
      c.requires.fresh c.in_ok-push.ensures.items c.in_ok-push-2.ensures.items c.loop-at.invariant.counts;
}
