-- What a script says has a world with a seat for each of its actors.
use Rattle.std.specs.Prelude.{◌≡◌, ℕ, suc, List, [], ◌∷◌, length, Ok, refl}
use Rattle.std.proofs.Common.{◌∙◌, sym, ap}
use Rattle.explore.specs.Opened.{world_over}
use Rattle.race_core.specs.Ledgers.{LedgerView}
use Rattle.race_core.specs.Opening.{Grants, seats_of}
use Rattle.scripts.specs.declared.calls.Purpose.TheVariants.{Turns}
use Rattle.scripts.specs.declared.turns.TurnOrder.{TurnOrder}
use Rattle.scripts.specs.Input.{data_of}
use Rattle.scripts.specs.Scenario.{Said, IsPlayable, said_for, scenario_of}
use Rattle.scripts.specs.Writing.{tree_of}
use Rattle.scripts.proofs.Playable.{passed_then, playable}
use Rattle.run_command.proofs.Replays.{said_roots}
use Rattle.merge_laws.specs.Merged.{IsSeated, MergedPartsOfAScriptAreTheWhole}
use Rattle.merge_laws.proofs.Merged.{merged_parts_are_the_whole}

can_be_played : (order : TurnOrder) (input : List ℕ) (said : Said) → said_for order input ≡ Ok said → IsPlayable said
can_be_played order input said e =
    let read = passed_then (data_of input) (scenario_of Turns order) said e in
    playable Turns order read.x said read.went

as_many_seats : (ledgers : List LedgerView) → length ledgers ≡ length (seats_of ledgers)
as_many_seats [] = refl
as_many_seats (ledger ∷ ledgers) = ap suc (as_many_seats ledgers)

seated : (said : Said) → IsPlayable said → IsSeated (tree_of said) said.plans said.lines
seated said can =
    let all = said_roots said can in
    sym all.seated
    ∙ (as_many_seats all.roots.ledgers ∙ ap (λ (grants : Grants). length (world_over (tree_of said) said.lines grants).seats) (sym all.are))

pub merged_parts_of_a_script_are_the_whole : MergedPartsOfAScriptAreTheWhole
merged_parts_of_a_script_are_the_whole order input said asked parts holds answer whole text says each survey merged =
    merged_parts_are_the_whole asked (tree_of said) said.plans said.lines parts holds answer whole text
    (seated said (can_be_played order input said says)) each survey merged
