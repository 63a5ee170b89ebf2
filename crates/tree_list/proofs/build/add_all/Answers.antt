use Rattle.std.proofs.Common.{◌∙◌, ◌-◌, ◌<◌, length, sym, subst, arith}
use Rattle.std.proofs.lemmas.Option.{slice_get-get_or}
use Rattle.tree_list.specs.Build.{StandsIn}
use Rattle.tree_list.proofs.Building.{adds_all_more, adds_all_take_more, entry_before}
use Rattle.tree_list.proofs.build.add_all.Goals as goal

pub add-requires : goal.add-requires
add-requires g c =
    let less : c.loop-at.at - 1 < length c.args.entries.now = let more = c.loop-at-test.true in omega arith in
    rw c.saturating_sub.ensures (c.loop-at.invariant.2 _ (slice_get-get_or c.args.entries.now (c.loop-at.at - 1) c.index-entries-saturating_sub.result less))

pub loop-at-preserved : goal.loop-at-preserved
loop-at-preserved g c = (
  sym (adds_all_more c.loop-at.at _ _ c.args.entries.now _ c.loop-at-test.true c.index-entries-at.is c.in-Ok.ensures.added) ∙ c.loop-at.invariant.0,
  adds_all_take_more 0 c.loop-at.at _ _ _ c.args.entries.now _ c.loop-at-test.true c.index-entries-at.is c.in-Ok.ensures.added c.loop-at.invariant.1,
  λ before is. subst (λ e. StandsIn (g.N.GrowingNodes.inodes c.add.new.nodes) e.at c.in-Ok.parent) (entry_before c.args.entries.now c.loop-at.at _ before c.loop-at-test.true c.index-entries-at.is is) c.in-Ok.ensures.parent,
)
