-- What a path means to MkdirAll in one tree that nobody else changes meanwhile: its end, and the nodes after it. It
-- knows no steps and no handles. mkdir(2), path_resolution(7).
use Rattle.std.specs.Prelude.{◌≡◌, ◌⊎◌, ℕ, suc, List, [], ◌∷◌, ◌++◌, true, if◌then◌else◌, length, Option, Some, None}
use Rattle.path_text.specs.declared.errno.Errno.{Errno}
use Rattle.path_text.specs.declared.errno.Errno.TheVariants.{Raced, NotDir}
use Rattle.tree_model.specs.declared.inode.Inode.{Inode}
use Rattle.tree_model.specs.declared.inode.Object.TheVariants.{Dir}
use Rattle.tree_model.specs.State.{Stands, is_dir, is_gone}
use Rattle.walk_plan.specs.declared.goal.Goal.TheVariants.{Deepest}
use Rattle.step_resolver.specs.WalkHistory.{WalkInHistory, IsWalkInHistory, begin_of, end_of}
use Rattle.step_resolver.specs.Footprint.{ground, is_want}
use Rattle.step_resolver.specs.FootprintLaws.{IsQuiet}
use Rattle.step_resolver.specs.Deepest.{Deep, whole, up_to, none, reading_deepest}
use Rattle.step_machine.specs.Machine.{HasEnded}
use Rattle.bulk_ops.specs.MakeAllOrder.{MakeTurn, made, failed, begins, rest_fault, rest_names, under_way, LeadsTo}

-- ---- what is made

-- directories of these names, the first in d and each other one in that before it; k is the number of the first
abbrev pub chain_of : ℕ → ℕ → List (List ℕ) → List Inode
chain_of k d [] = []
chain_of k d (n ∷ names) =
    record { object = Dir; place = Some (record { parent = d; name = n }) } ∷ chain_of (suc k) k names

-- the number of the last of them; with no names it is d
abbrev pub last_of : ℕ → ℕ → List (List ℕ) → ℕ
last_of k d [] = d
last_of k d (n ∷ names) = last_of (suc k) k names

-- ---- what a path means

-- an error, and nothing is made; or a directory, and the nodes then
pub data MakeMeant : Type 0 where
  refuses : Errno → MakeMeant
  gives : ℕ → List Inode → MakeMeant

-- d lacks the first of these names: the first fault of the rest; or d is gone; or all of the names are made
abbrev pub rest_means : List Inode → ℕ → Option Errno → List (List ℕ) → MakeMeant
rest_means nodes d (Some fault) names = refuses fault
rest_means nodes d None names =
    if is_gone nodes d then refuses Raced
    else gives (last_of (length nodes) d names) (nodes ++ chain_of (length nodes) d names)

-- the path leads to an object, which is the end if it is a directory; or to a directory that lacks a name; or nowhere
abbrev pub make_means : List Inode → Deep → MakeMeant
make_means nodes (whole x b reads) = if is_dir nodes x then gives x nodes else refuses NotDir
make_means nodes (up_to x b rest reads) = rest_means nodes x (rest_fault rest) (rest_names rest)
make_means nodes (none error reads) = refuses error

-- ---- the law

-- From these nodes to those, below r, a call's end is what is meant; the directory stands at the names that are told.
abbrev pub IsMeantEnd : List Inode → List Inode → ℕ → MakeMeant → MakeTurn → Type 0
IsMeantEnd before after r (gives x nodes) (made handle names) =
    (handle.node ≡ x) × ((after ≡ nodes) × Stands after r x names)
IsMeantEnd before after r (refuses error) (failed told) = (told ≡ error) × (after ≡ before)
IsMeantEnd before after r _ _ = ⊥

-- some of the new nodes are there, in order, and the others are left out
pub record IsPart (before after nodes : List Inode) : Type 0 where
  pub new : List Inode
  pub left_out : List Inode
  pub is_after : after ≡ before ++ new
  pub is_whole : nodes ≡ after ++ left_out

abbrev pub IsPartOf : List Inode → List Inode → MakeMeant → Type 0
IsPartOf before after (gives x nodes) = IsPart before after nodes
IsPartOf before after (refuses error) = after ≡ before

-- Memory, room in the book or handles ran short, which is the end, and what was made is a part of what is meant.
abbrev pub MakingRanShort : List Inode → List Inode → MakeMeant → MakeTurn → Type 0
MakingRanShort before after meant (failed error) = (is_want error ≡ true) × IsPartOf before after meant
MakingRanShort before after meant _ = ⊥

abbrev pub MakingComesTo : List Inode → List Inode → ℕ → MakeMeant → MakeTurn → Type 0
MakingComesTo before after r meant end = IsMeantEnd before after r meant end ⊎ MakingRanShort before after meant end

-- the call is over
abbrev pub IsOver : MakeTurn → Type 0
IsOver turn = HasEnded (under_way turn)

-- Where no other actor acts in the window, the end is what the path means in the tree as the window begins, and the
-- nodes after it are those that are meant; or something ran short.
abbrev pub QuietMakesMean : Type 0
QuietMakesMean = (w : WalkInHistory) (end : MakeTurn) → IsWalkInHistory w → w.way.goal ≡ Deepest
    → LeadsTo w.way (begins w.way w.path) w.lines end
    → IsOver end → IsQuiet w
    → MakingComesTo (begin_of w).nodes (end_of w).nodes w.root
    (make_means (begin_of w).nodes (reading_deepest (ground w) w.path)) end
