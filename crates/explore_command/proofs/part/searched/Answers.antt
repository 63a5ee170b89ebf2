use Rattle.std.proofs.Common.{rules, subst, inr}
use Rattle.schedule_graph.specs.declared.fault.SearchFault.{SearchFault}
use Rattle.explore.specs.Explored.{WhyNot}
use Rattle.explore.specs.Opened.{opened_world}
use Rattle.explore_command.proofs.part.searched.Goals as goal

pub returns-in-Err-TooManyCuts : goal.returns-in-Err-TooManyCuts
returns-in-Err-TooManyCuts g c =
    let scene = c.args.scene.now in
    let w = opened_world scene.tree scene.plans.items scene.lines in
    let cut = subst (λ (fault : SearchFault). WhyNot w c.args.asked.now.limits c.args.asked.now.outside fault) c.in-Err-TooManyCuts.field-0-is c.in-Err-TooManyCuts.ensures.err in
    record {
      of_these = search rules;
      begin = c.in_ok-no_lists-in-Err-TooManyCuts.ensures.begin;
      told = inr ((c.in-Err-TooManyCuts.at, inr cut), c.in_ok-no_lists-in-Err-TooManyCuts.ensures.none);
      might = c.in_ok-no_lists-in-Err-TooManyCuts.ensures.might;
      far = c.in_ok-no_lists-in-Err-TooManyCuts.ensures.far;
    }
