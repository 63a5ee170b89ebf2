-- Which properties name a line that a report on a script's run can have: one of an actor that is there, and of a
-- call of his, and with the words that a reply begins with.
use Rattle.std.specs.Prelude.{◌≡◌, ℕ, suc, List, [], ◌∷◌, ◌++◌, ◌||◌, ◌&&◌, Bool, true, false, not, map, codes, decimal, Option}
use Rattle.std.specs.List.{list_any, position_from}
use Rattle.path_text.specs.declared.errno.Errno.{Errno}
use Rattle.path_text.specs.declared.errno.Errno.TheVariants.{NotFound, BadHandle, Raced, NoMemory, Busy, Exists, CrossRoot, NotDir, IsDir, Invalid, TooMany, BookFull, TooLong, NotEmpty, Loop}
use Rattle.race_core.specs.declared.plan.ActorPlan.{ActorPlan}
use Rattle.race_core.specs.declared.plan.Planned.{Planned}
use Rattle.race_core.specs.declared.report.Outcome.{Outcome}
use Rattle.report_text.specs.Report.{reply_words}
use Rattle.event_log.specs.Output.{fault_words}
use Rattle.outcome_text.specs.declared.property.Property.{Property}
use Rattle.outcome_text.specs.Property.{tells}

-- one of the two is the other's beginning, by words
abbrev pub meets : List ℕ → List ℕ → Bool
meets text start = tells text start || tells start text

-- one of these passes by its number, where they are counted from k on
abbrev pub any_numbered : {A : Type 0} → (ℕ → A → Bool) → ℕ → List A → Bool
any_numbered test k [] = false
any_numbered test k (x ∷ xs) = test k x || any_numbered test (suc k) xs

abbrev pub errors : List Errno
errors =
    NotFound ∷ BadHandle ∷ Raced ∷ NoMemory ∷ Busy ∷ Exists ∷ CrossRoot ∷ NotDir ∷ IsDir ∷ Invalid ∷ TooMany
    ∷ BookFull ∷ TooLong ∷ NotEmpty ∷ Loop ∷ []

-- what a reply begins with: a word of these, or `fault` and an error's name
abbrev pub reply_heads : List (List ℕ)
reply_heads =
    codes "opened" ∷ codes "text" ∷ codes "done" ∷ codes "count" ∷ codes "stepped" ∷ map fault_words errors

-- each reply begins with one of these
abbrev pub RepliesHaveHeads : Type 0
RepliesHaveHeads = (outcome : Outcome) → list_any (λ head. tells head (reply_words outcome)) reply_heads ≡ true

-- reply I J, and what the reply begins with
unfoldable pub reply_start : ℕ → ℕ → List ℕ → List ℕ
reply_start actor call head =
    (codes "reply " ++ decimal actor) ++ ((codes " " ++ decimal call) ++ (codes " " ++ head))

-- it meets the line of a reply to a call
unfoldable pub meets_reply : List ℕ → ℕ → ℕ → Bool
meets_reply text actor call = list_any (λ head. meets text (reply_start actor call head)) reply_heads

-- no text is refused that is the line of a reply, or its beginning by words
abbrev pub RepliesPass : Type 0
RepliesPass = (text : List ℕ) (actor call : ℕ) (outcome : Outcome)
    → tells text (reply_start actor call (reply_words outcome)) ≡ true → meets_reply text actor call ≡ true

-- to a call of an actor, by the actor's number
abbrev pub is_reply_of : List ℕ → ℕ → List Planned → Bool
is_reply_of text actor calls = any_numbered (λ call planned. meets_reply text actor call) 0 calls

-- or of one of the actors
abbrev pub is_reply : List ℕ → List ActorPlan → Bool
is_reply text plans = any_numbered (λ actor plan. is_reply_of text actor plan.calls) 0 plans

-- it meets the line of an actor that begins with that word
abbrev pub is_of_actor : List ℕ → List ℕ → List ActorPlan → Bool
is_of_actor text word plans = any_numbered (λ actor plan. meets text (word ++ decimal actor)) 0 plans

-- `held I` is of an actor, and so is `outside I`, where steps outside are counted
abbrev pub is_count : Bool → List ActorPlan → List ℕ → Bool
is_count outside plans text =
    is_of_actor text (codes "held ") plans || (outside && is_of_actor text (codes "outside ") plans)

-- a line of an entry may have any words, and `reply I J` is of a call
abbrev pub can_be_told : Bool → List ActorPlan → List ℕ → Bool
can_be_told outside plans text = meets text (codes "row") || (is_count outside plans text || is_reply text plans)

-- the place of the first property that no report can have a line for
abbrev pub first_untold : Bool → List ActorPlan → List Property → Option ℕ
first_untold outside plans properties =
    position_from (λ property. not (can_be_told outside plans property.text)) 0 properties
