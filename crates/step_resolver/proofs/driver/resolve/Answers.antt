use Rattle.std.proofs.Common.{◌≤◌, Ok, Err, length, subst}
use Rattle.path_text.specs.declared.path.TheConstants.{PARTS_MAX}
use Rattle.path_text.specs.Reading.{Reading}
use Rattle.step_resolver.specs.View.{way_from}
use Rattle.step_resolver.specs.Order.{Way}
use Rattle.step_resolver.specs.declared.driver.Resolved.TheVariants.{Found, Partial}
use Rattle.step_resolver.proofs.DrivenWalks.{Laws, few_steps, drives_begun, driven_on, ended_by}
use Rattle.step_resolver.proofs.driver.resolve.Goals as goal

pub loop-turn-init : goal.loop-turn-init
loop-turn-init g c =
    let way : Way = way_from c.args.root c.args.goal c.args.flags in
    record { driven = record { kept = c.start-turn.ensures.kept; driven = drives_begun way c.args.root.owner.actor _ c.args.path _ c.start-turn.ensures.turn } }

pub loop-turn-preserved : goal.loop-turn-preserved
loop-turn-preserved g c =
    let way : Way = way_from c.args.root c.args.goal c.args.flags in
    record {
      driven = driven_on c.legal_histories_join.ensures.joined c.args.root.owner way _ _ _ c.args.path _ _ c.in-More.walk c.in-More.is
          c.loop-turn.invariant.driven c.advance-turn.ensures.kept c.advance-turn.ensures.driven;
    }

pub returns-in-Found : goal.returns-in-Found
returns-in-Found g c =
    let way : Way = way_from c.args.root c.args.goal c.args.flags in
    let trees = c.histories_keep_trees.ensures in
    let laws : Laws = record { tell = c.walks_tell.ensures; quiet = c.quiet_walks_mean.ensures; trees = trees.trees; numbers = trees.numbers; others = trees.handles } in
    let few = few_steps way c.args.path (subst (λ (r : Reading). length r.parts ≤ PARTS_MAX) c.path.view_is c.path.invariant.few) in
    let end = ended_by laws c.args.root.owner way _ _ _ c.args.path c.requires few _ (Ok (Found c.in-Found.standing)) c.in-Found.is c.loop-turn.invariant.driven in
    record { means = end.means; owner = end.owned; nodes = end.nodes; handles = end.handles; room = end.room }

pub returns-in-Partial : goal.returns-in-Partial
returns-in-Partial g c =
    let way : Way = way_from c.args.root c.args.goal c.args.flags in
    let trees = c.histories_keep_trees.ensures in
    let laws : Laws = record { tell = c.walks_tell.ensures; quiet = c.quiet_walks_mean.ensures; trees = trees.trees; numbers = trees.numbers; others = trees.handles } in
    let few = few_steps way c.args.path (subst (λ (r : Reading). length r.parts ≤ PARTS_MAX) c.path.view_is c.path.invariant.few) in
    let end = ended_by laws c.args.root.owner way _ _ _ c.args.path c.requires few _ (Ok (Partial c.in-Partial.standing c.in-Partial.rest)) c.in-Partial.is c.loop-turn.invariant.driven in
    record { means = end.means; owner = end.owned; nodes = end.nodes; handles = end.handles; room = end.room }

pub returns-in-Failed : goal.returns-in-Failed
returns-in-Failed g c =
    let way : Way = way_from c.args.root c.args.goal c.args.flags in
    let trees = c.histories_keep_trees.ensures in
    let laws : Laws = record { tell = c.walks_tell.ensures; quiet = c.quiet_walks_mean.ensures; trees = trees.trees; numbers = trees.numbers; others = trees.handles } in
    let few = few_steps way c.args.path (subst (λ (r : Reading). length r.parts ≤ PARTS_MAX) c.path.view_is c.path.invariant.few) in
    let end = ended_by laws c.args.root.owner way _ _ _ c.args.path c.requires few _ (Err c.in-Failed.error) c.in-Failed.is c.loop-turn.invariant.driven in
    record { means = end.means; owner = end.owned; nodes = end.nodes; handles = end.handles; room = end.room }
