use Rattle.std.proofs.Common.{◌≡◌, ◌≤◌, ℕ, List, length, subst, arith, rules}
use Rattle.std.specs.Prelude.{Ok}
use Rattle.serde_json.specs.View.{view}
use Rattle.tree_model.specs.declared.inode.Inode.{Inode}
use Rattle.scripts.specs.declared.actors.TheConstants.{ACTORS_MAX}
use Rattle.scripts.specs.Fault.{IsFaultOf}
use Rattle.scripts.specs.Plans.{actors_of}
use Rattle.scripts.specs.Scenario.{scenario_of, schedule_for}
use Rattle.scripts.proofs.Playable.{playable, fit_for}
use Rattle.scripts.proofs.Scenarios.{plans_refused, schedule_refused, all_said, few_actors}
use Rattle.scripts.proofs.scenario.scenario_on.Goals as goal

pub returns-in_err-plans-clause-err : goal.returns-in_err-plans-clause-err
returns-in_err-plans-clause-err c =
    let d = view c.args.script.now in
    let same : c.nodes.result.now ≡ c.args.tree.nodes = c.nodes.ensures in
    let told : IsFaultOf (scenario_of c.args.purpose c.args.order.now d) c.in_err-plans.field-0.0 =
    plans_refused c.args.purpose c.args.order.now d c.args.header c.args.tree.nodes c.in_err-plans.field-0.0
    (record { head = c.requires.head; tree = c.requires.nodes })
    (subst (λ (nodes : List Inode). IsFaultOf (actors_of c.args.purpose nodes c.args.header.version d) c.in_err-plans.field-0.0) same c.in_err-plans.ensures.err) in
    search rules

pub schedule_for-requires : goal.schedule_for-requires
schedule_for-requires c =
    let few : length c.in_ok-plans.plans.items ≤ ACTORS_MAX =
    few_actors c.args.purpose c.nodes.result.now c.args.header.version (view c.args.script.now) c.in_ok-plans.plans.items c.in_ok-plans.ensures.ok in
    omega (arith, few, c.in_ok-plans.plans.ok.0, c.len.ensures)

pub returns-in_err-schedule-clause-err : goal.returns-in_err-schedule-clause-err
returns-in_err-schedule-clause-err c =
    let d = view c.args.script.now in
    let same : c.nodes.result.now ≡ c.args.tree.nodes = c.nodes.ensures in
    let counted : c.len.result ≡ length c.in_ok-plans.plans.items = omega (arith, c.in_ok-plans.plans.ok.0, c.len.ensures) in
    let told : IsFaultOf (scenario_of c.args.purpose c.args.order.now d) c.in_err-schedule.field-0.0 =
    schedule_refused c.args.purpose c.args.order.now d c.args.header c.args.tree.nodes c.in_ok-plans.plans.items c.in_err-schedule.field-0.0
    (record { head = c.requires.head; tree = c.requires.nodes })
    (subst (λ (nodes : List Inode). actors_of c.args.purpose nodes c.args.header.version d ≡ Ok c.in_ok-plans.plans.items) same c.in_ok-plans.ensures.ok)
    (subst (λ (n : ℕ). IsFaultOf (schedule_for c.args.order.now n d) c.in_err-schedule.field-0.0) counted c.in_err-schedule.ensures.err) in
    search rules

pub returns-clause-said : goal.returns-clause-said
returns-clause-said c =
    let d = view c.args.script.now in
    let same : c.nodes.result.now ≡ c.args.tree.nodes = c.nodes.ensures in
    let counted : c.len.result ≡ length c.in_ok-plans.plans.items = omega (arith, c.in_ok-plans.plans.ok.0, c.len.ensures) in
    all_said c.args.purpose c.args.order.now d c.args.header c.args.tree.nodes c.in_ok-plans.plans.items c.in_ok-schedule.schedule.items
    (record { head = c.requires.head; tree = c.requires.nodes })
    (subst (λ (nodes : List Inode). actors_of c.args.purpose nodes c.args.header.version d ≡ Ok c.in_ok-plans.plans.items) same c.in_ok-plans.ensures.ok)
    (subst (λ (n : ℕ). schedule_for c.args.order.now n d ≡ Ok c.in_ok-schedule.schedule.items) counted c.in_ok-schedule.ensures.ok)

pub returns-clause-playable : goal.returns-clause-playable
returns-clause-playable c =
    playable c.args.purpose c.args.order.now (view c.args.script.now)
    (record { nodes = c.args.tree.nodes; plans = c.in_ok-plans.plans.items; schedule = c.in_ok-schedule.schedule.items; lines = c.args.header.lines })
    (returns-clause-said c)

pub returns-clause-fit : goal.returns-clause-fit
returns-clause-fit c =
    fit_for c.args.purpose c.args.order.now (view c.args.script.now)
    (record { nodes = c.args.tree.nodes; plans = c.in_ok-plans.plans.items; schedule = c.in_ok-schedule.schedule.items; lines = c.args.header.lines })
    (returns-clause-said c)
