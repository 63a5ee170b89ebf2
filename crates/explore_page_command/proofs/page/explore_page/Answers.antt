use Rattle.std.proofs.Common.{◌≡◌, sym, subst, rules}
use Rattle.std.specs.Prelude.{Bool, Result, Err}
use Rattle.explore_page_command.specs.declared.fault.ExplorePageFault.{ExplorePageFault}
use Rattle.explore_page_command.specs.ExplorePage.{IsExplorePage}
use Rattle.explore_page_command.proofs.Pages.{not_written}
use Rattle.scripts.specs.declared.turns.TurnOrder.TheVariants.{OfScript}
use Rattle.scripts.specs.Scenario.{said_by, said_for}
use Rattle.explore_page_command.proofs.page.explore_page.Goals as goal

pub returns-in_err-shown-clause-run : goal.returns-in_err-shown-clause-run
returns-in_err-shown-clause-run g c =
    let asked = c.args.asked.now in
    let made = said_for OfScript c.args.script.now in
    let old = g.W.Write.contents c.args.writer.now in
    let is : c.from_residual-in_err-shown.result ≡ Err c.in_err-shown.field-0.0 = search rules in
    subst (λ (result : Result Bool ExplorePageFault). IsExplorePage asked made old old result) (sym is)
    (not_written asked made old (said_by c.in_ok-scenario.scenario) c.in_err-shown.field-0.0 c.in_ok-scenario.ensures.said c.in_err-shown.ensures.page)
