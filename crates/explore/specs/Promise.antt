-- What a search of all schedules tells, clause by clause.
--
-- Of all schedules of a world, or of those with at most so many cuts,
--     `IsAsked`: the full lists of turns (`Search.IsFull`) with no more cuts (`Explored.cuts`) than that. The report of
--     every schedule is that of a full list (`Search.ReportsAreOfFullLists`);
-- or of those whose turns begin with the ones that are asked for,
--     its `begins`;
-- it tells how many there are,
--     `IsMerged`, its `counted`: exactly below `schedule_graph`'s cap, and else the cap (`Counted.AreSoMany`);
-- and how many turns the longest has;
--     its `longest`;
-- the outcome of each is told,
--     its `told`: one of the classes has it (`HasClass`), and the two lists agree (`AgreeIn`) in what makes an outcome
--     (`TellAlike`);
-- and none is told twice;
--     its `apart`;
-- of each outcome it tells how many lists lead to it,
--     `IsMergedClass`, its `lists`;
-- the least of them,
--     its `least`: by cuts, then by changes of actor, then as lists (`Explored.rank`, `Explored.is_at_most`);
-- and what the run of that list comes to.
--     its `ending` (`IsEnding`): its tree and replies, its cuts and changes of actor, and, where that is told, how many
--     changes each actor made outside of its root.
-- It tells how many states there are, of lists under way that are as long and lead to worlds with the same parts one;
--     `Explored.AreStates`.
--
-- Where it tells nothing, `Explored.WhyNot` says what is known of the reason.
use Rattle.std.specs.Prelude.{◌≡◌, ℕ, List, true, slice_get, Some}
use Rattle.race_core.specs.Worlds.{WorldView}
use Rattle.schedule_graph.specs.Counted.{AreSoMany}
use Rattle.explore.specs.Explored.{Scope, IsAsked, AgreeIn, rank, is_at_most, ClassView, IsEnding, HasClass, IsLongest}

-- The list is the least of those that are asked for and lead to its outcome, and so many do.
pub record IsMergedClass (w : WorldView) (scope : Scope) (class : ClassView) : Type 0 where
  pub ending : IsEnding w scope class.least
  pub least : (is : List ℕ) → IsAsked w scope is → AgreeIn w scope is class.least.turns
      → is_at_most (rank w class.least.turns) (rank w is) ≡ true
  pub lists : AreSoMany (λ is. IsAsked w scope is × AgreeIn w scope is class.least.turns) class.lists

-- All lists that are asked for are counted; each has its outcome among the classes, and no two classes have the same
-- one.
pub record IsMerged (w : WorldView) (scope : Scope) (classes : List ClassView) (lists turns : ℕ) : Type 0 where
  pub counted : AreSoMany (IsAsked w scope) lists
  pub longest : IsLongest w scope turns
  pub told : (is : List ℕ) → IsAsked w scope is → HasClass w scope classes is
  pub apart : (k l : ℕ) (c d : ClassView) → slice_get classes k ≡ Some c → slice_get classes l ≡ Some d
      → AgreeIn w scope c.least.turns d.least.turns → k ≡ l
  pub each : (k : ℕ) (c : ClassView) → slice_get classes k ≡ Some c → IsMergedClass w scope c
