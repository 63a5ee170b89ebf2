use Rattle.std.proofs.Common.{◌≡◌, ◌+◌, ◌++◌, ◌∷◌, [], List, length, map, take, sym, ap, subst, ◌∙◌}
use Rattle.std.specs.Borrow.{Bor}
use Rattle.std.proofs.lemmas.List.{take_more, map-append}
use Rattle.outcome_text.specs.declared.survey.Told.{Told}
use Rattle.pages.specs.declared.played.Played.{Played}
use Rattle.explore_page_command.specs.Played.{scene_said, ArePlayed}
use Rattle.explore_page_command.proofs.Plays.{one_played}
use Rattle.explore_page_command.proofs.Taken.{taken_at}
use Rattle.explore_page_command.proofs.runs.all_played.Goals as goal

pub played-requires-clause-taken : goal.played-requires-clause-taken
played-requires-clause-taken c =
    taken_at (length c.args.scene.now.plans.items) c.args.some.now c.loop-told.told-index c.told-item.result c.loop-told-test.true c.told-item.is c.requires.taken

pub loop-told-preserved : goal.loop-told-preserved
loop-told-preserved c =
    let said = scene_said c.args.scene.now in
    let some = c.args.some.now in
    let at = c.loop-told.told-index in
    let told = c.told-item.result in
    let now = λ (one : Bor Told). one.now in
    let front : take (at + 1) some ≡ take at some ++ told ∷ [] =
    take_more some at told c.loop-told-test.true ∙ ap (λ (x : Bor Told). take at some ++ x ∷ []) (sym c.told-item.is) in
    let mapped : map now (take (at + 1) some) ≡ map now (take at some) ++ told.now ∷ [] =
    ap (map now) front ∙ map-append now (take at some) (told ∷ []) in
    subst (λ (ts : List Told). ArePlayed said ts c.add.new.runs.items) (sym mapped)
    (subst (λ (rs : List Played). ArePlayed said (map now (take at some) ++ told.now ∷ []) rs) (sym c.in_ok-add.ensures)
    (one_played said (map now (take at some)) c.loop-told.runs.items told.now c.in_ok-run.run' c.loop-told.invariant c.in_ok-run.ensures))
