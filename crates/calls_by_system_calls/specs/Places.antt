-- NameBelow, for which Linux has no one system call. By a conversation of find_place, each answer of Linux says of
-- the place at its moment what the manual pages say. So its answer was so at one of these moments.
use Rattle.std.specs.Prelude.{◌≡◌, ◌⊎◌, ◌≤◌, ◌<◌, ℕ, suc, ◌+◌, List, [], Bool, true, false, length, Option, Some, reverse}
use Rattle.path_text.specs.Names.{same_names}
use Rattle.path_text.specs.Print.{names_read}
use Rattle.tree_model.specs.declared.answer.Answer.{Answer}
use Rattle.tree_model.specs.declared.answer.Answer.TheVariants.{Names}
use Rattle.tree_model.specs.State.{State, is_gone, names_below}
use Rattle.tree_model.specs.Steps.{shows}
use Rattle.find_place.specs.Moments.{AreAnswers, TextsTell, World}
use Rattle.find_place.specs.Questions.{Exchange, is_top}
use Rattle.find_place.specs.Witness.{Tells}
use Rattle.find_place.specs.declared.places.Facts.{Facts}
use Rattle.calls_by_system_calls.specs.Linux.{Linux, IsLinux, state_at}

-- The answer is what stood at one of the moments. This is a premise of an answer that is neither the root's own nor a
-- place in which a conversation ended.
pub record PlaceIsTold (x : Linux) (m calls top node : ℕ) (answer : Answer) : Type 0 where
  pub n : ℕ
  pub by : n ≤ calls
  pub stood : answer ≡ (shows (state_at x (m + n)) (names_below (state_at x (m + n)).nodes top node)).answer

-- a second descriptor of the root: the root is below itself at no names
abbrev pub IsTheRoot : ℕ → ℕ → Answer → Type 0
IsTheRoot top node answer = (node ≡ top) × (answer ≡ Names [])

-- the place is a text of the names, the innermost first, at which the object stands
abbrev pub are_names : Option (List (List ℕ)) → Option (List (List ℕ)) → Bool
are_names (Some names) (Some told) = same_names told (reverse names)
are_names names told = false

abbrev pub stands_at : State → ℕ → ℕ → List ℕ → Bool
stands_at s top node place = are_names (names_below s.nodes top node) (names_read place)

-- An object and a root as a conversation has them from moment m on, whose n-th answer, counted from 0, is of the moment
-- behind m + n. What the kernel's look-ups passed, and the paths of both, are what they are.
abbrev pub place_world : Linux → ℕ → ℕ → ℕ → (ℕ → List ℕ → Bool) → (ℕ → List ℕ) → (ℕ → List ℕ) → World
place_world x m top node passed root object = record {
  stands = λ n place. stands_at (state_at x (m + suc n)) top node place;
  gone = λ n. is_gone (state_at x (m + suc n)).nodes node;
  before = is_gone (state_at x m).nodes node;
  passed = passed;
  root = root;
  object = object;
}

-- A place was told, and its names are the answer. `places_stood` has an exception: it is supposed not to be met, so
-- what the kernel had seen below the root right before isn't removed.
pub record PlaceIsAsked (x : Linux) (m calls top node : ℕ) (answer : Answer) : Type 0 where
  pub facts : Facts
  pub exchanges : List Exchange
  pub place : List ℕ
  pub passed : ℕ → List ℕ → Bool
  pub root : ℕ → List ℕ
  pub object : ℕ → List ℕ
  pub is : Tells facts exchanges place
  pub all : length exchanges ≡ calls
  pub says : AreAnswers (place_world x m top node passed root object) facts 0 exchanges
  pub texts : is_top place ≡ false → TextsTell (place_world x m top node passed root object)
  pub seen : facts.seen ≡ true → (n : ℕ) → n < calls → is_gone (state_at x (m + suc n)).nodes node ≡ false
  pub names : List (List ℕ)
  pub reads : names_read place ≡ Some names
  pub tells : answer ≡ Names names

-- the answer to a NameBelow, in one of three ways
abbrev pub PlaceIsFound : Linux → ℕ → ℕ → ℕ → ℕ → Answer → Type 0
PlaceIsFound x m calls top node answer =
    IsTheRoot top node answer ⊎ (PlaceIsAsked x m calls top node answer ⊎ PlaceIsTold x m calls top node answer)

-- By a conversation it was so at one of the moments.
abbrev pub AskedPlacesStood : Type 0
AskedPlacesStood = (x : Linux) (m calls top node : ℕ) (answer : Answer) → IsLinux x 0
    → node < length (state_at x m).nodes
    → PlaceIsAsked x m calls top node answer → PlaceIsTold x m calls top node answer
