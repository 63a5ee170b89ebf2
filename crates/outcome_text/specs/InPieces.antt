-- Outcomes that are told in pieces, and the same outcomes told whole: statements of laws.
use Rattle.std.specs.Prelude.{⊤, ◌≡◌, ◌<◌, ◌⊎◌, ℕ, List, [], ◌∷◌, ◌++◌, Bool, Option}
use Rattle.race_core.specs.declared.report.Outcome.{Outcome}
use Rattle.schedule_graph.specs.Counted.{IsAmong}
use Rattle.tree_model.specs.State.{State}
use Rattle.tree_model.specs.Steps.{held_count}
use Rattle.outcome_text.specs.declared.property.Property.{Property}
use Rattle.outcome_text.specs.declared.survey.Told.{Told}
use Rattle.outcome_text.specs.Survey.{block_of, lists_where}
use Rattle.outcome_text.specs.Conditions.{told_text, told_holds}
use Rattle.outcome_text.specs.Telling.{IsToldOf}

-- The two look the same, and have the same lines.
pub record AreAlike (told other : Told) : Type 0 where
  pub look : told.look ≡ other.look
  pub lines : told.lines ≡ other.lines

-- Their least lists, what is printed of them and all else is the same, but for the number of lists.
pub record AreOneBut (told other : Told) : Type 0 where
  pub cuts : told.cuts ≡ other.cuts
  pub schedule : told.schedule ≡ other.schedule
  pub block : block_of told ≡ block_of other
  pub alike : AreAlike told other

-- it answers by the look and the lines alone
abbrev pub IsByOutcome : (Told → Bool) → Type 0
IsByOutcome test = (told other : Told) → AreAlike told other → test told ≡ test other

-- one of the earlier ones is alike
abbrev pub IsAgain : List Told → Told → Type 0
IsAgain earlier told = (other : Told) × (IsAmong other earlier × AreAlike other told)

-- The first piece of each outcome, where `earlier` comes before all, is that outcome, in the same order; the other
-- pieces are alike to an earlier one.
abbrev pub AreFirst : List Told → List Told → List Told → Type 0
AreFirst earlier [] [] = ⊤
AreFirst earlier [] (other ∷ whole) = ⊥
AreFirst earlier (told ∷ pieces) [] = IsAgain earlier told × AreFirst (earlier ++ told ∷ []) pieces []
AreFirst earlier (told ∷ pieces) (other ∷ whole) =
    (AreOneBut told other × AreFirst (earlier ++ told ∷ []) pieces whole)
    ⊎ (IsAgain earlier told × AreFirst (earlier ++ told ∷ []) pieces (other ∷ whole))

-- and as many lists come to the pieces as to the whole, whichever outcomes are asked for
pub record ArePieces (pieces whole : List Told) : Type 0 where
  pub first : AreFirst [] pieces whole
  pub lists : (test : Told → Bool) → IsByOutcome test → lists_where test pieces ≡ lists_where test whole

-- Pieces are told as the whole is: by the same text, and with the same answer.
abbrev pub PiecesTellTheWhole : Type 0
PiecesTellTheWhole = (lists : ℕ) (states : Option ℕ) (longest : ℕ) (properties : List Property)
    (pieces whole : List Told) → ArePieces pieces whole
    → (told_text lists states longest pieces properties ≡ told_text lists states longest whole properties)
    × (told_holds pieces properties ≡ told_holds whole properties)

-- ---- which outcomes are told alike

-- each actor has as many handles open
abbrev pub HoldAsMany : ℕ → State → State → Type 0
HoldAsMany actors tree other = (a : ℕ) → a < actors → held_count tree a ≡ held_count other a

-- Reports with the same replies, nodes, counts of handles and steps outside are told alike, whatever lists lead there.
abbrev pub SameReportsAreToldAlike : Type 0
SameReportsAreToldAlike = (judged : Bool) (named : List ℕ) (opening tree other : State)
    (actors lists many cuts less changes fewer : ℕ) (turns list : List ℕ) (replies : List (List Outcome))
    (outside : List ℕ) (told like : Told)
    → IsToldOf judged named opening actors lists cuts changes turns replies tree outside told
    → IsToldOf judged named opening actors many less fewer list replies other outside like
    → tree.nodes ≡ other.nodes → HoldAsMany actors tree other → AreAlike told like

-- What is told of one least list is the same but for the number of lists.
abbrev pub OneListIsToldAsOne : Type 0
OneListIsToldAsOne = (judged : Bool) (named : List ℕ) (opening tree : State) (actors lists many cuts changes : ℕ)
    (turns : List ℕ) (replies : List (List Outcome)) (outside : List ℕ) (told like : Told)
    → IsToldOf judged named opening actors lists cuts changes turns replies tree outside told
    → IsToldOf judged named opening actors many cuts changes turns replies tree outside like → AreOneBut told like
