-- The answers for parts of all schedules of a world, and the answer for all of them: statements of laws.
use Rattle.std.specs.Prelude.{◌≡◌, ◌<◌, ◌⊎◌, ◌↔◌, ◌++◌, ℕ, min, max, List, [], ◌∷◌, true, length, map, flat_map, sum_by, slice_get, Some}
use Rattle.race_core.specs.Worlds.{WorldView}
use Rattle.schedule_graph.specs.declared.count.TheConstants.{COUNT_CAP}
use Rattle.schedule_graph.specs.Counted.{IsAmong, EachOnce, AreSoMany, IsLongest}
use Rattle.explore.specs.Explored.{Scope, cuts, rank, is_at_most, IsWithin, IsAsked, AreBusy, AgreeIn, ClassView, IsEnding, HasClass}
use Rattle.explore.specs.Search.{IsFull}
use Rattle.explore.specs.Promise.{IsMerged}

-- ---- a part of all lists: those that begin with some turns

abbrev pub Begins : List ℕ → List ℕ → Type 0
Begins begin is = (rest : List ℕ) × (is ≡ begin ++ rest)

-- it is asked for, and begins so
abbrev pub IsAskedFrom : WorldView → Scope → List ℕ → List ℕ → Type 0
IsAskedFrom w scope begin is = IsAsked w scope is × Begins begin is

-- The list is the least of the part that leads to its outcome, and so many of the part do.
pub record IsPartClass (w : WorldView) (scope : Scope) (begin : List ℕ) (class : ClassView) : Type 0 where
  pub ending : IsEnding w scope class.least
  pub begins : Begins begin class.least.turns
  pub least : (is : List ℕ) → IsAskedFrom w scope begin is → AgreeIn w scope is class.least.turns
      → is_at_most (rank w class.least.turns) (rank w is) ≡ true
  pub lists : AreSoMany (λ is. IsAskedFrom w scope begin is × AgreeIn w scope is class.least.turns) class.lists

-- a part as it was searched: the turns that its lists begin with, and what a search finds of them
pub record PartView : Type 0 where
  pub begin : List ℕ
  pub classes : List ClassView
  pub lists : ℕ
  pub turns : ℕ

abbrev pub part_with : List ℕ → List ClassView → ℕ → ℕ → PartView
part_with begin classes lists turns = record { begin = begin; classes = classes; lists = lists; turns = turns }

-- which lists are asked for where none is asked to begin with any turns
pub record IsWholeOf (part whole : Scope) : Type 0 where
  pub cuts : whole.cuts ≡ part.cuts
  pub outside : whole.outside ≡ part.outside
  pub begin : whole.begin ≡ []

-- All lists of the part are counted, with 0 turns in the longest where there are none; each has its outcome among the
-- classes, and no two classes have the same one.
pub record IsPart (w : WorldView) (scope : Scope) (part : PartView) : Type 0 where
  pub counted : AreSoMany (IsAskedFrom w scope part.begin) part.lists
  pub longest : IsLongest (IsAskedFrom w scope part.begin) part.turns
  pub told : (is : List ℕ) → IsAskedFrom w scope part.begin is → HasClass w scope part.classes is
  pub apart : (k l : ℕ) (c d : ClassView) → slice_get part.classes k ≡ Some c → slice_get part.classes l ≡ Some d
      → AgreeIn w scope c.least.turns d.least.turns → k ≡ l
  pub each : (k : ℕ) (c : ClassView) → slice_get part.classes k ≡ Some c → IsPartClass w scope part.begin c

-- ---- parts that are all

-- just one list of which P holds is a beginning of that one
pub record BeginsWithOne (P : List ℕ → Type 0) (is : List ℕ) : Type 0 where
  pub begin : List ℕ
  pub chosen : P begin
  pub begins : Begins begin is
  pub only : (other : List ℕ) → P other → Begins other is → other ≡ begin

-- Each list that is asked for begins with just one list of which P holds.
abbrev pub AreBeginnings : WorldView → Scope → (List ℕ → Type 0) → Type 0
AreBeginnings w scope P = (is : List ℕ) → IsAsked w scope is → BeginsWithOne P is

abbrev pub begins_of : List PartView → List (List ℕ)
begins_of parts = map (λ part. part.begin) parts

-- Each is an answer for its part. Each list that is asked for is in just one part, and no part is told twice.
pub record AreParts (w : WorldView) (scope : Scope) (parts : List PartView) : Type 0 where
  pub each : (part : PartView) → IsAmong part parts → IsPart w scope part
  pub cover : AreBeginnings w scope (λ begin. IsAmong begin (begins_of parts))
  pub once : EachOnce (begins_of parts)

-- ---- the answer that they make

abbrev pub classes_of : List PartView → List ClassView
classes_of parts = flat_map (λ part. part.classes) parts

-- the greatest of these numbers, and 0 of none
abbrev pub greatest_by : {A : Type 0} → (A → ℕ) → List A → ℕ
greatest_by f [] = 0
greatest_by f (x ∷ xs) = max (f x) (greatest_by f xs)

-- the parts' classes with the outcome of that list, each once
pub record AreAgreeing (w : WorldView) (scope : Scope) (parts : List PartView) (is : List ℕ)
    (agreeing : List ClassView) : Type 0 where
  pub each : (c : ClassView) → IsAmong c agreeing → IsAmong c (classes_of parts) × AgreeIn w scope c.least.turns is
  pub all : (c : ClassView) → IsAmong c (classes_of parts) → AgreeIn w scope c.least.turns is → IsAmong c agreeing
  pub once : EachOnce agreeing

-- The class has as many lists as all of the parts' classes with its outcome, up to the cap; and its least list, with
-- all that is told of it, is one of theirs, and the least of theirs.
pub record IsJoinedClass (w : WorldView) (scope : Scope) (parts : List PartView) (class : ClassView) : Type 0 where
  pub agreeing : List ClassView
  pub are_agreeing : AreAgreeing w scope parts class.least.turns agreeing
  pub lists : class.lists ≡ min (sum_by (λ c. c.lists) agreeing) COUNT_CAP
  pub own : (c : ClassView) × (IsAmong c agreeing × (c.least ≡ class.least))
  pub least : (c : ClassView) → IsAmong c agreeing → is_at_most (rank w class.least.turns) (rank w c.least.turns) ≡ true

-- just one of the classes has the outcome of that list
pub record HasOneClass (w : WorldView) (scope : Scope) (classes : List ClassView) (is : List ℕ) : Type 0 where
  pub at : ℕ
  pub class : ClassView
  pub there : slice_get classes at ≡ Some class
  pub agrees : AgreeIn w scope is class.least.turns
  pub only : (k : ℕ) (c : ClassView) → slice_get classes k ≡ Some c → AgreeIn w scope is c.least.turns → k ≡ at

-- There are as many lists as in all parts, up to the cap, and at least one; the longest is the longest of any part;
-- and the classes are the parts' classes, those with one outcome made one.
pub record IsJoined (w : WorldView) (scope : Scope) (parts : List PartView) (classes : List ClassView)
    (lists turns : ℕ) : Type 0 where
  pub some : 0 < lists
  pub counted : lists ≡ min (sum_by (λ part. part.lists) parts) COUNT_CAP
  pub longest : turns ≡ greatest_by (λ part. part.turns) parts
  pub told : (c : ClassView) → IsAmong c (classes_of parts) → HasOneClass w scope classes c.least.turns
  pub each : (c : ClassView) → IsAmong c classes → IsJoinedClass w scope parts c

-- ---- the laws

-- Where all lists are parted, the answer for all is what the answers for the parts make, and nothing else is.
abbrev pub PartsMakeTheWhole : Type 0
PartsMakeTheWhole = (w : WorldView) (scope : Scope) (parts : List PartView) (classes : List ClassView)
    (lists turns : ℕ) → AreParts w scope parts
    → (IsMerged w scope classes lists turns ↔ IsJoined w scope parts classes lists turns)

-- And the answer for all is that for the one part which begins with no turns.
abbrev pub WholeIsAPart : Type 0
WholeIsAPart = (w : WorldView) (scope : Scope) (classes : List ClassView) (lists turns : ℕ)
    → IsMerged w scope classes lists turns → AreParts w scope (part_with [] classes lists turns ∷ [])

-- What a search of the lists that begin with some turns tells is the answer for that part.
abbrev pub SearchesTellParts : Type 0
SearchesTellParts = (w : WorldView) (part whole : Scope) (classes : List ClassView) (lists turns : ℕ)
    → IsWholeOf part whole → IsMerged w part classes lists turns
    → IsPart w whole (part_with part.begin classes lists turns)

-- so many turns, or a full list of fewer: each turn is of an actor who has something left to do then, and there are
-- few cuts
pub record IsBeginning (w : WorldView) (scope : Scope) (turns : ℕ) (is : List ℕ) : Type 0 where
  pub busy : AreBusy w is
  pub few_cuts : IsWithin scope.cuts (cuts w is)
  pub long : (length is ≡ turns) ⊎ ((length is < turns) × IsFull w is)

-- All beginnings of one length part all lists.
abbrev pub AllBeginningsCover : Type 0
AllBeginningsCover = (w : WorldView) (scope : Scope) (turns : ℕ) → AreBeginnings w scope (IsBeginning w scope turns)
