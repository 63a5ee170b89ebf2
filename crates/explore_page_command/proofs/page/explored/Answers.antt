use Rattle.std.proofs.Common.{◌≡◌, ◌<◌, ◌≤◌, ◌++◌, ℕ, List, [], length, sym, ap, subst, ◌∙◌, arith}
use Rattle.std.specs.Prelude.{All}
use Rattle.std.proofs.lemmas.List.Elements.{All-nil}
use Rattle.tree_model.specs.State.{State}
use Rattle.explore_page_command.specs.Played.{AreTaken, ArePlayed, chosen}
use Rattle.explore_page_command.proofs.Pages.{survey_taken, is_page}
use Rattle.outcome_text.specs.declared.survey.Told.{Told}
use Rattle.outcome_text.specs.Framed.{text_of}
use Rattle.pages.specs.Page.{page_of}
use Rattle.scripts.specs.Scenario.{IsPlayable, said_by, said_on}
use Rattle.scripts.specs.Writing.{tree_of}
use Rattle.explore_page_command.proofs.page.explored.Goals as goal

pub runs_of-requires-clause-playable : goal.runs_of-requires-clause-playable
runs_of-requires-clause-playable g c =
    let s = c.args.scenario in
    let playable : IsPlayable (said_by s) = c.requires.playable in
    subst (λ (t : State). IsPlayable (said_on t s.plans.items [] s.lines)) (sym c.requires.same)
    (record {
      some = playable.some;
      few = playable.few;
      roots = playable.roots;
      turns = All-nil (λ (actor : ℕ). actor < length s.plans.items);
      bounded = playable.bounded;
    })

pub runs_of-requires-clause-taken : goal.runs_of-requires-clause-taken
runs_of-requires-clause-taken g c =
    let said = said_by c.args.scenario in
    let whole : c.args.tree ≡ tree_of said =
    c.requires.same ∙ (λ i. record { nodes = c.args.scenario.tree.nodes; handles = c.requires.none i }) in
    let enough : length said.plans ≤ said.lines = omega (arith, c.if-lines-len.false, c.len-2.ensures, c.args.scenario.plans.ok.0) in
    subst (All (AreTaken (length said.plans))) (sym c.deref.ensures.value)
    (survey_taken c.args.asked.now said c.args.tree c.in-Ok.survey whole c.in-Ok.ensures.survey c.requires.playable enough)

pub returns-clause-page : goal.returns-clause-page
returns-clause-page g c =
    let said = said_by c.args.scenario in
    let survey = c.in-Ok.survey in
    let runs = c.in_ok-runs.runs.items in
    let whole : c.args.tree ≡ tree_of said =
    c.requires.same ∙ (λ i. record { nodes = c.args.scenario.tree.nodes; handles = c.requires.none i }) in
    is_page c.args.asked.now said c.args.tree survey runs c.runs_page.new.out whole c.in-Ok.ensures.survey
    (subst (λ (os : List Told). ArePlayed (said_on c.args.tree said.plans [] said.lines) (chosen os) runs) c.deref.ensures.value c.in_ok-runs.ensures)
    (c.in_ok-runs_page.ensures ∙ ap (λ (old : List ℕ). old ++ page_of c.deref-2.result.now c.deref-3.result.now) c.new-page.ensures
    ∙ ap (λ (bs : List ℕ). page_of bs c.deref-3.result.now) (c.deref-2.ensures.value ∙ c.in_ok-text.ensures) ∙ ap (page_of (text_of survey)) c.deref-3.ensures.value)
