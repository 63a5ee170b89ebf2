-- What all schedules of a world come to has one answer: a statement of a law.
use Rattle.std.specs.Prelude.{◌≡◌, ℕ, List, IsPermutation}
use Rattle.race_core.specs.Worlds.{WorldView}
use Rattle.explore.specs.Explored.{Scope, ClassView}
use Rattle.explore.specs.Promise.{IsMerged}

-- The two answers have as many lists, as many turns in the longest, and the same classes in some order: each
-- with the same least list, its cuts, its changes and its report, and with as many lists.
pub record AreOne (classes : List ClassView) (lists turns : ℕ) (others : List ClassView)
    (many long : ℕ) : Type 0 where
  pub counted : lists ≡ many
  pub longest : turns ≡ long
  pub told : IsPermutation classes others

-- Two answers to what a search is asked for are one. So however it is carried out, what it tells of the lists is the
-- same but for the order of the classes.
abbrev pub AnswersAreOne : Type 0
AnswersAreOne = (w : WorldView) (scope : Scope) (classes others : List ClassView) (lists turns many long : ℕ)
    → IsMerged w scope classes lists turns → IsMerged w scope others many long
    → AreOne classes lists turns others many long
