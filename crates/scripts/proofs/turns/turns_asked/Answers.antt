use Rattle.std.proofs.Common.{◌≡◌, nat_le, sym, ◌∙◌, rules, tests}
use Rattle.std.proofs.lemmas.Iterator.{YieldsList-from_slice}
use Rattle.std.proofs.lemmas.Iterator.Search.{position_from_yields_List}
use Rattle.scripts.proofs.Asked.{foreign_at, asked_are, asked_has}
use Rattle.scripts.proofs.turns.turns_asked.Goals as goal

pub returns-in-Some-clause-err : goal.returns-in-Some-clause-err
returns-in-Some-clause-err c =
    let found : c.position.result ≡ foreign_at c.args.actors c.in_ok-schedule.schedule.items =
    position_from_yields_List (λ actor. nat_le c.args.actors actor) _ _ c.position.result c.position.ensures.ran (YieldsList-from_slice c.in_ok-schedule.schedule.items cc) (λ x b q k. search (rules, tests)) in
    asked_has c.args.actors c.in-Some.at c.args.asked.now c.in_ok-schedule.schedule.items c.in_ok-schedule.ensures.ok (sym found ∙ c.in-Some.is)

pub returns-in-None-clause-ok : goal.returns-in-None-clause-ok
returns-in-None-clause-ok c =
    let found : c.position.result ≡ foreign_at c.args.actors c.in_ok-schedule.schedule.items =
    position_from_yields_List (λ actor. nat_le c.args.actors actor) _ _ c.position.result c.position.ensures.ran (YieldsList-from_slice c.in_ok-schedule.schedule.items cc) (λ x b q k. search (rules, tests)) in
    asked_are c.args.actors c.args.asked.now c.in_ok-schedule.schedule.items c.in_ok-schedule.ensures.ok (sym found ∙ c.in-None.is)
