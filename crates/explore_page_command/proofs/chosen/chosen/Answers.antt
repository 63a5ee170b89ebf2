use Rattle.std.proofs.Common.{◌≡◌, ◌+◌, ◌++◌, ◌∷◌, [], map, take, sym, ap, ◌∙◌}
use Rattle.std.proofs.lemmas.List.{take_more}
use Rattle.outcome_text.specs.declared.survey.Told.{Told}
use Rattle.explore_page_command.specs.Played.{chosen}
use Rattle.explore_page_command.proofs.Choosing.{chosen_more}
use Rattle.explore_page_command.proofs.chosen.chosen.Goals as goal

pub loop-at-preserved : goal.loop-at-preserved
loop-at-preserved c =
    let at = c.loop-at.at in
    let xs = c.args.outcomes.now in
    let told = c.index-outcomes-at.result in
    let front : take (at + 1) xs ≡ take at xs ++ told ∷ [] =
    take_more xs at told c.loop-at-test.true ∙ ap (λ (x : Told). take at xs ++ x ∷ []) (sym c.index-outcomes-at.is) in
    c.in_ok-add_if_chosen.ensures ∙ chosen_more (map (λ one. one.now) c.loop-at.some.items) (take at xs) told c.loop-at.invariant
    ∙ ap chosen (sym front)
