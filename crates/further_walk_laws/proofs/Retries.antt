-- Each walk in vain met a change of its own.
use Rattle.std.proofs.Common.{suc, ◌≤◌, List, [], ◌∷◌, ◌++◌, length, subst, arith}
use Rattle.step_resolver.specs.Asked.{follows}
use Rattle.step_resolver.specs.Changes.{changes_by_others}
use Rattle.step_resolver.specs.Meaning.{reading_means, reads_of}
use Rattle.step_resolver.specs.WalkHistory.{WalkInHistory}
use Rattle.step_resolver.specs.Footprint.{ground}
use Rattle.step_resolver.specs.FootprintLaws.{RacedTellsOfChange}
use Rattle.step_resolver.proofs.Changes.{added, some_change}
use Rattle.further_walk_laws.specs.Retries.{changes_in_windows, IsInVain, AreInVain, meanwhile, RetriesNeedChanges}

met : RacedTellsOfChange → (w : WalkInHistory) → IsInVain w → 1 ≤ changes_by_others w.actor w.window
met law w vain = some_change w vain.walked (reads_of (reading_means (ground w) w.path (follows w.way.goal))) (law w vain.walked vain.ends)

-- ---- one after another

in_windows : RacedTellsOfChange → (w : WalkInHistory) (ws : List WalkInHistory) → AreInVain w ws → suc (length ws) ≤ changes_in_windows w ws
in_windows law w [] vain = met law w vain
in_windows law w (v ∷ vs) vain = omega (arith, met law w vain.0, in_windows law v vs vain.2)

among_all : (w : WalkInHistory) (ws : List WalkInHistory) (vain : AreInVain w ws) → changes_in_windows w ws ≤ changes_by_others w.actor (meanwhile w ws vain)
among_all w [] vain = omega arith
among_all w (v ∷ vs) vain =
    let rest = meanwhile v vs vain.2 in
    let later : changes_in_windows v vs ≤ changes_by_others w.actor rest =
    subst (λ a. changes_in_windows v vs ≤ changes_by_others a rest) vain.1.actor (among_all v vs vain.2) in
    omega (arith, later, added w.actor w.window (vain.1.between ++ rest), added w.actor vain.1.between rest)

pub retries_need_changes : RacedTellsOfChange → RetriesNeedChanges
retries_need_changes law w ws vain = record { in_windows = in_windows law w ws vain; among_all = among_all w ws vain }
