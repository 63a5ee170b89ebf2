-- The turns that pieces of a text say, read one after another.
use Rattle.std.proofs.Common.{◌≡◌, ℕ, ◌+◌, ◌<◌, ◌≤◌, Bool, Bor, inl, inr, true, false, cond, List, [], ◌∷◌, ◌++◌, length, map, drop, get_or, refl, ap, ◌∙◌, subst}
use Rattle.std.specs.Prelude.{◌≢◌, Option, Some, None, Result, Ok, Err, IfOk, MatchOption, codes, nat_lt}
use Rattle.std.proofs.lemmas.List.{append-nil, drop_more, drop_all}
use Rattle.scripts.specs.declared.turns.Turns.{Turns}
use Rattle.scripts.specs.declared.fault.ScriptFault.{ScriptFault}
use Rattle.scripts.specs.declared.fault.ScriptFault.TheVariants.{Turn}
use Rattle.scripts.specs.Checks.{then_with}
use Rattle.scripts.specs.Turns.{words_of, AreTurns, AllSay, SaysTurns, pieces_of, few_turns, first_foreign, own_turns, turns_asked}
use Rattle.tree_model.specs.Entries.{refuse_if}

-- what was read so far and what the pieces left say are what all say
pub record IsSaidSoFar (pieces left : List (List ℕ)) (all : List Turns) : Type 0 where
  pub onward : (rest : List Turns) → AllSay left rest → AllSay pieces (all ++ rest)
  pub back : (turns : List Turns) → AllSay pieces turns → (rest : List Turns) × AllSay left rest

-- where a piece says none, the whole says none
pub none_said : (pieces : List (List ℕ)) (piece : List ℕ) (left : List (List ℕ)) (all : List Turns) → ((turns : Turns) → AreTurns (words_of piece) turns → ⊥)
    → IsSaidSoFar pieces (piece ∷ left) all → (turns : List Turns) → AllSay pieces turns → ⊥
none_said pieces piece left all none so_far turns says = let r = so_far.back turns says in by r.0 r.1
  where
    by : (rest : List Turns) → AllSay (piece ∷ left) rest → ⊥
    by [] says = absurd says
    by (first ∷ more) says = none first says.0

pub all_said : (pieces : List (List ℕ)) (all : List Turns) → IsSaidSoFar pieces [] all → AllSay pieces all
all_said pieces all so_far = subst (λ (is : List Turns). AllSay pieces is) (append-nil all) (so_far.onward [] tt)

-- the same of a list of pieces, of which some were read
abbrev texts : List (Bor (List ℕ)) → List (List ℕ)
texts pieces = map (λ piece. piece.now) pieces

pub none_there : (pieces : List (Bor (List ℕ))) (i : ℕ) (d : Bor (List ℕ)) (all : List Turns) (said : Option Turns) → i < length pieces
    → MatchOption said ((turns : Turns) → AreTurns (words_of (get_or pieces i d).now) turns → ⊥) (AreTurns (words_of (get_or pieces i d).now)) → said ≡ None
    → IsSaidSoFar (texts pieces) (texts (drop i pieces)) all → (turns : List Turns) → AllSay (texts pieces) turns → ⊥
none_there pieces i d all None within none is so_far =
    none_said (texts pieces) (get_or pieces i d).now (texts (drop (i + 1) pieces)) all none
    (subst (λ (left : List (Bor (List ℕ))). IsSaidSoFar (texts pieces) (texts left) all) (drop_more pieces i d within) so_far)
none_there pieces i d all (Some one) within says is so_far = absurd (cc (is))

pub all_there : (pieces : List (Bor (List ℕ))) (i : ℕ) (all : List Turns) → length pieces ≤ i → IsSaidSoFar (texts pieces) (texts (drop i pieces)) all
    → AllSay (texts pieces) all
all_there pieces i all over so_far =
    all_said (texts pieces) all (subst (λ (left : List (Bor (List ℕ))). IsSaidSoFar (texts pieces) (texts left) all) (drop_all i pieces over) so_far)

-- ---- the turns of the actors

-- the place of the first turn that is no actor's, as a search tells it
abbrev pub foreign_at : ℕ → List ℕ → Option ℕ
foreign_at actors turns = cond (nat_lt (first_foreign actors turns) (length turns)) (Some (first_foreign actors turns)) None

all_own : (k : ℕ) (turns : List ℕ) (over : Bool) → cond over (Some k) None ≡ None → refuse_if over (Err (Turn k)) (Ok turns) ≡ Ok turns
all_own k turns true e = absurd (cc (e))
all_own k turns false e = refl

one_foreign : (k at : ℕ) (turns : List ℕ) (over : Bool) → cond over (Some k) None ≡ Some at
    → ◌≡◌ {A = Result (List ℕ) ScriptFault} (refuse_if over (Err (Turn k)) (Ok turns)) (Err (Turn at))
one_foreign k at turns true e = let same : k ≡ at = cc (e) in ap (λ (n : ℕ). Err (Turn n)) same
one_foreign k at turns false e = absurd (cc (e))

pub asked_are : (actors : ℕ) (asked : List Turns) (turns : List ℕ) → few_turns asked ≡ Ok turns → foreign_at actors turns ≡ None → turns_asked actors asked ≡ Ok turns
asked_are actors asked turns few none =
    ap (λ (r : Result (List ℕ) ScriptFault). then_with r (own_turns actors)) few
    ∙ all_own (first_foreign actors turns) turns (nat_lt (first_foreign actors turns) (length turns)) none

pub asked_has : (actors at : ℕ) (asked : List Turns) (turns : List ℕ) → few_turns asked ≡ Ok turns → foreign_at actors turns ≡ Some at
    → turns_asked actors asked ≡ Err (Turn at)
asked_has actors at asked turns few one =
    ap (λ (r : Result (List ℕ) ScriptFault). then_with r (own_turns actors)) few
    ∙ one_foreign (first_foreign actors turns) at turns (nat_lt (first_foreign actors turns) (length turns)) one

-- ---- the whole text

none_says : (text : List ℕ) → text ≢ codes "-" → ((turns : List Turns) → AllSay (pieces_of text) turns → ⊥) → (turns : List Turns) → SaysTurns text turns → ⊥
none_says text other none turns (inl dash) = other dash.0
none_says text other none turns (inr says) = none turns says

-- a text that isn't `-` says what its pieces say
pub says_by : {V E : Type 0} (items : V → List Turns) (text : List ℕ) (pieces : List (List ℕ)) (said : Result (Option V) E) → text ≢ codes "-" → pieces ≡ pieces_of text
    → IfOk said (λ o. MatchOption o ((turns : List Turns) → AllSay pieces turns → ⊥) (λ v. AllSay pieces (items v)))
    → IfOk said (λ o. MatchOption o ((turns : List Turns) → SaysTurns text turns → ⊥) (λ v. SaysTurns text (items v)))
says_by items text pieces (Err e) other are says = tt
says_by items text pieces (Ok (Some v)) other are says = inr (subst (λ (ps : List (List ℕ)). AllSay ps (items v)) are says)
says_by items text pieces (Ok None) other are says =
    none_says text other (subst (λ (ps : List (List ℕ)). (turns : List Turns) → AllSay ps turns → ⊥) are says)
