-- What the step table answers on the base tree, and what it makes of it: statements of laws.
use Rattle.std.specs.Prelude.{◌≡◌, ℕ, List, [], ◌∷◌, Some, None, codes}
use Rattle.path_text.specs.declared.errno.Errno.TheVariants.{NotFound, BadHandle, Exists, NotDir, IsDir, Invalid, NotEmpty}
use Rattle.tree_model.specs.declared.answer.Answer.{Answer}
use Rattle.tree_model.specs.declared.answer.Answer.TheVariants.{Opened, Text, Names, NotBelow, Listed, Done, Refused}
use Rattle.tree_model.specs.declared.step.Kind.TheVariants as kind
use Rattle.tree_model.specs.declared.step.Mode.TheVariants.{Plain, NoReplace, Exchange}
use Rattle.tree_model.specs.StepWith.{StepWith}
use Rattle.tree_model.specs.declared.step.StepOf.TheVariants.{Open, Dup, Parent, ReadLink, NameBelow, List as ListNames, Close, MakeDir, MakeLink, RemoveFile, RemoveDir, Rename}
use Rattle.tree_model.specs.State.{State, place_at}
use Rattle.tree_model.specs.Steps.{outcome}
use Rattle.tree_model.specs.Trees.{IsState}
use Rattle.tree_model.specs.BaseTree.{base_nodes, base_tree, base_opened}

-- the base tree in which actor 7 has /c, /c/a, /c/a/b, /c/a/b/f, /c/abs and the top open, as the handles 0 to 5
abbrev pub base : State
base = base_opened 7 (1 ∷ 2 ∷ 3 ∷ 4 ∷ 5 ∷ 0 ∷ [])

-- that tree after these steps of the actor
abbrev pub base_after : List (StepWith ℕ) → State
base_after [] = base
base_after (step ∷ earlier) = (outcome (base_after earlier) 7 step).after

abbrev pub base_answer : StepWith ℕ → Answer
base_answer step = (outcome base 7 step).answer

abbrev pub answer_after : List (StepWith ℕ) → StepWith ℕ → Answer
answer_after earlier step = (outcome (base_after earlier) 7 step).answer

abbrev pub BaseIsTree : Type 0
BaseIsTree = IsState base_tree × IsState base

-- a child is opened by its name alone: a link is opened itself, and nothing is found below one
abbrev pub BaseOpens : Type 0
BaseOpens =
    (base_answer (Open 0 (codes "a")) ≡ Opened 6 2 kind.Dir)
    × (base_answer (Open 0 (codes "abs")) ≡ Opened 6 5 kind.Link)
    × (base_answer (Open 4 (codes "b")) ≡ Refused NotDir)
    × (base_answer (Open 0 (codes "none")) ≡ Refused NotFound)
    × (base_answer (ReadLink 4) ≡ Text (codes "/a/b"))
    × (base_answer (ReadLink 1) ≡ Refused Invalid)
    × (base_answer (Dup 3) ≡ Opened 6 4 kind.File)
    × (base_answer (Dup 6) ≡ Refused BadHandle)
    × ((outcome base 8 (Dup 0)).answer ≡ Refused BadHandle)
    × (answer_after (Close 0 ∷ []) (Dup 0) ≡ Refused BadHandle)

-- the parent of the top is the top; NameBelow's names lead down; List's are by their bytes
abbrev pub BasePlaces : Type 0
BasePlaces =
    (base_answer (Parent 1) ≡ Opened 6 1 kind.Dir)
    × (base_answer (Parent 5) ≡ Opened 6 0 kind.Dir)
    × (base_answer (Parent 3) ≡ Refused NotDir)
    × (base_answer (NameBelow 0 3) ≡ Names (codes "a" ∷ codes "b" ∷ codes "f" ∷ []))
    × (base_answer (NameBelow 1 1) ≡ Names [])
    × (base_answer (NameBelow 1 4) ≡ NotBelow)
    × (base_answer (ListNames 0) ≡ Listed (codes "a" ∷ codes "abs" ∷ codes "dang" ∷ codes "loop" ∷ codes "up" ∷ []))
    × (base_answer (ListNames 3) ≡ Refused NotDir)

-- what removes and makes entries, and in which order that is refused
abbrev pub BaseEntries : Type 0
BaseEntries =
    (base_answer (RemoveFile 0 (codes "a")) ≡ Refused IsDir)
    × (base_answer (RemoveDir 0 (codes "a")) ≡ Refused NotEmpty)
    × (base_answer (RemoveDir 0 (codes "abs")) ≡ Refused NotDir)
    × (base_answer (RemoveFile 0 (codes "abs")) ≡ Done)
    × (base_answer (MakeDir 0 (codes "a")) ≡ Refused Exists)
    × (base_answer (MakeDir 3 (codes "x")) ≡ Refused NotDir)
    × (base_answer (MakeLink 3 (codes "x") []) ≡ Refused NotFound)
    × (answer_after (MakeDir 2 (codes "x") ∷ []) (Open 2 (codes "x")) ≡ Opened 6 11 kind.Dir)

-- a directory whose entry was removed: it stays readable, nothing is made in it, and it has no parent
abbrev pub BaseGone : Type 0
BaseGone =
    let gone = RemoveDir 1 (codes "b") ∷ RemoveFile 2 (codes "f") ∷ [] in
    (answer_after gone (ListNames 2) ≡ Listed [])
    × (answer_after gone (MakeDir 2 (codes "x")) ≡ Refused NotFound)
    × (answer_after gone (Rename 0 (codes "abs") 2 (codes "x") Plain) ≡ Refused NotFound)
    × (answer_after gone (Parent 2) ≡ Refused NotFound)
    × (answer_after gone (NameBelow 0 2) ≡ NotBelow)
    × (answer_after gone (Open 1 (codes "b")) ≡ Refused NotFound)

-- how a rename is refused: what is there, where nothing may be replaced, comes before a move into itself, and that
-- before the kinds
abbrev pub BaseRenames : Type 0
BaseRenames =
    (base_answer (Rename 0 (codes "a") 2 (codes "x") Plain) ≡ Refused Invalid)
    × (base_answer (Rename 0 (codes "a") 1 (codes "b") Exchange) ≡ Refused Invalid)
    × (base_answer (Rename 1 (codes "b") 0 (codes "a") Exchange) ≡ Refused Invalid)
    × (base_answer (Rename 0 (codes "a") 1 (codes "b") NoReplace) ≡ Refused Exists)
    × (base_answer (Rename 0 (codes "a") 2 (codes "f") Plain) ≡ Refused Invalid)
    × (base_answer (Rename 0 (codes "abs") 2 (codes "x") Exchange) ≡ Refused NotFound)
    × (base_answer (Rename 0 (codes "a") 0 (codes "abs") Plain) ≡ Refused NotDir)
    × (base_answer (Rename 0 (codes "abs") 1 (codes "b") Plain) ≡ Refused IsDir)
    × (base_answer (Rename 1 (codes "b") 0 (codes "a") Plain) ≡ Refused NotEmpty)
    × (base_answer (Rename 2 (codes "f") 2 (codes "f") NoReplace) ≡ Refused Exists)
    × (base_answer (Rename 0 (codes "none") 3 (codes "x") Plain) ≡ Refused NotDir)
    × (base_answer (Rename 3 (codes "none") 9 (codes "x") Plain) ≡ Refused BadHandle)

-- a rename onto itself changes nothing; one that replaces takes the other's entry; an exchange leaves both, each at
-- the other's entry
abbrev pub BaseRenamed : Type 0
BaseRenamed =
    let itself = Rename 2 (codes "f") 2 (codes "f") Plain in
    let replaced = Rename 0 (codes "abs") 2 (codes "f") Plain in
    let exchanged = Rename 0 (codes "abs") 2 (codes "f") Exchange in
    ((base_answer itself ≡ Done) × ((base_after (itself ∷ [])).nodes ≡ base_nodes))
    × ((base_answer replaced ≡ Done)
    × (place_at (base_after (replaced ∷ [])).nodes 5 ≡ Some (record { parent = 3; name = codes "f" }))
    × (place_at (base_after (replaced ∷ [])).nodes 4 ≡ None))
    × ((base_answer exchanged ≡ Done)
    × (place_at (base_after (exchanged ∷ [])).nodes 5 ≡ Some (record { parent = 3; name = codes "f" }))
    × (place_at (base_after (exchanged ∷ [])).nodes 4 ≡ Some (record { parent = 1; name = codes "abs" })))
