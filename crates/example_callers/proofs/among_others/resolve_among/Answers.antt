use Rattle.std.proofs.Common.{◌<◌, sym, subst, Ok, Err}
use Rattle.step_resolver.specs.declared.driver.Resolved.TheVariants.{Found, Partial}
use Rattle.step_resolver.specs.declared.walk.Turn.{Turn as Outcome}
use Rattle.step_resolver.specs.Order.{Way}
use Rattle.step_resolver.specs.TurnView.{steps_to_come}
use Rattle.step_resolver.specs.View.{way_from}
use Rattle.example_callers.proofs.Led.{begun_led, led_further, ended_by}
use Rattle.example_callers.proofs.among_others.resolve_among.Goals as goal

pub loop-turn-init : goal.loop-turn-init
loop-turn-init g c =
    let way : Way = way_from c.args.root c.args.goal c.args.flags in
    record { led = begun_led g.row.O.Denot (g.O.Others.acts c.args.root.owner.actor) way c.args.root.owner _ _ c.args.path c.start-turn.result c.start-turn.ensures.kept c.start-turn.ensures.turn }

pub loop-turn-smaller : goal.loop-turn-smaller
loop-turn-smaller g c =
    subst (λ (o : Outcome). steps_to_come c.take-turn.result < steps_to_come o) (sym c.in-More.is) c.take-turn.ensures.fewer

pub loop-turn-preserved : goal.loop-turn-preserved
loop-turn-preserved g c =
    let way : Way = way_from c.args.root c.args.goal c.args.flags in
    record {
      led = led_further c.legal_histories_join.ensures.joined g.row.O.Denot (g.O.Others.acts c.args.root.owner.actor) c.args.root.owner way _ _ _ _ _ _ _ c.args.path _ _ c.in-More.walk c.answer_to-answer.result
          c.in-More.is c.loop-turn.invariant.led c.act.ensures.others c.act.ensures.acted c.take-turn.ensures.kept _ c.due.ensures c.answer_to-answer.ensures c.take-turn.ensures.turn;
    }

pub returns-in-Found : goal.returns-in-Found
returns-in-Found g c =
    let way : Way = way_from c.args.root c.args.goal c.args.flags in
    let end = ended_by c.headline.ensures g.row.O.Denot (g.O.Others.acts c.args.root.owner.actor) c.args.root.owner way c.args.path _ _ _ _ _ _ (Ok (Found c.in-Found.standing)) c.in-Found.is
    c.requires.tree c.requires.root c.requires.directory c.loop-turn.invariant.led in
    record { tells = end.tells; owner = end.owned }

pub returns-in-Partial : goal.returns-in-Partial
returns-in-Partial g c =
    let way : Way = way_from c.args.root c.args.goal c.args.flags in
    let end = ended_by c.headline.ensures g.row.O.Denot (g.O.Others.acts c.args.root.owner.actor) c.args.root.owner way c.args.path _ _ _ _ _ _ (Ok (Partial c.in-Partial.standing c.in-Partial.rest)) c.in-Partial.is
    c.requires.tree c.requires.root c.requires.directory c.loop-turn.invariant.led in
    record { tells = end.tells; owner = end.owned }

pub returns-in-Failed-clause-tells : goal.returns-in-Failed-clause-tells
returns-in-Failed-clause-tells g c =
    let way : Way = way_from c.args.root c.args.goal c.args.flags in
    (ended_by c.headline.ensures g.row.O.Denot (g.O.Others.acts c.args.root.owner.actor) c.args.root.owner way c.args.path _ _ _ _ _ _ (Err c.in-Failed.error) c.in-Failed.is
    c.requires.tree c.requires.root c.requires.directory c.loop-turn.invariant.led).tells
