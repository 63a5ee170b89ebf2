use Rattle.std.proofs.Common.{rules, ◌≡◌, ◌≢◌, ◌-◌, length}
use Rattle.std.proofs.lemmas.Bool.{false≢true}
use Rattle.tree_list.proofs.Ways.{same_names_more, ways_part}
use Rattle.tree_list.proofs.build.are_together.Goals as goal

pub returns-then-ne : goal.returns-then-ne
returns-then-ne c =
    let apart : c.get.result.now ≢ c.get-in-loop-at.result.now = search rules in
    let same : length c.args.others.now - 1 ≡ c.saturating_sub-last.result = search rules in
    let last : length c.args.names.now - 1 ≡ c.saturating_sub-last.result = search rules in (
      λ no. absurd (false≢true no),
      λ ways. absurd (ways_part c.args.names.now c.args.others.now c.saturating_sub-last.result c.loop-at.at _ _ c.get.ensures.same c.get-in-loop-at.ensures.same c.loop-at-test.true apart (rw (last, same) at ways)),
    )

pub loop-at-preserved : goal.loop-at-preserved
loop-at-preserved c =
    let same : c.get.result.now ≡ c.get-in-loop-at.result.now = search rules in
    same_names_more c.args.names.now c.args.others.now c.loop-at.at _ _ c.get.ensures.same c.get-in-loop-at.ensures.same same c.loop-at.invariant
