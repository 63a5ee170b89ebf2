-- The step table: the answer to a step, and the tree after it. A refused step leaves the tree.
-- openat(2) with O_PATH and O_NOFOLLOW, readlinkat(2), close(2), and the calls of Entries.
use Rattle.std.specs.Prelude.{ℕ, List, [], ◌∷◌, ◌++◌, ◌==◌, ◌||◌, Bool, true, false, not, nat_le, length, slice_get, slice_set, reverse, Option, Some, None, Result, Ok, Err, MatchResult, ◌≡◌}
use Rattle.std.specs.List.{count_by}
use Rattle.path_text.specs.declared.errno.Errno.{Errno}
use Rattle.path_text.specs.declared.errno.Errno.TheVariants.{NotFound, BadHandle, NoMemory, NotDir, Invalid, TooMany}
use Rattle.tree_model.specs.declared.answer.Answer.{Answer}
use Rattle.tree_model.specs.declared.answer.Answer.TheVariants.{Opened, Text, Names, NotBelow, Listed, Done, Refused}
use Rattle.tree_model.specs.declared.inode.Inode.{Inode}
use Rattle.tree_model.specs.declared.inode.Object.{Object}
use Rattle.tree_model.specs.declared.inode.Object.TheVariants as object
use Rattle.tree_model.specs.declared.inode.OpenHandle.{OpenHandle}
use Rattle.tree_model.specs.declared.step.Kind.{Kind}
use Rattle.tree_model.specs.declared.step.Kind.TheVariants as kind
use Rattle.tree_model.specs.StepWith.{StepWith}
use Rattle.tree_model.specs.declared.step.StepOf.TheVariants.{Open, Dup, Parent, ReadLink, NameBelow, List as ListNames, Close, MakeDir, MakeFile, MakeLink, RemoveFile, RemoveDir, Rename}
use Rattle.tree_model.specs.declared.tree.TheConstants.{HANDLES_MAX, NUMBERS_MAX}
use Rattle.tree_model.specs.State.{State, TOP, object_at, child, parent, is_dir, names_below, names_in, sorted_names}
use Rattle.tree_model.specs.Entries.{refuse_if, with_some, makes, makes_link, removes_file, removes_dir, renames}

-- what a step is answered, and the tree after it
pub record Outcome : Type 0 where
  pub answer : Answer
  pub after : State

abbrev pub refused : State → Errno → Outcome
refused s error = record { answer = Refused error; after = s }

-- an answer that leaves the tree
abbrev pub answered : State → Answer → Outcome
answered s answer = record { answer = answer; after = s }

abbrev pub kind_of : Object → Kind
kind_of object.Dir = kind.Dir
kind_of object.File = kind.File
kind_of (object.Link text) = kind.Link

-- the handle is open and the actor's
abbrev pub is_held_by : ℕ → Option OpenHandle → Bool
is_held_by a None = false
is_held_by a (Some open_handle) = open_handle.actor == a

-- the node of a handle that is open and the actor's
abbrev pub node_held : ℕ → Option (Option OpenHandle) → Option ℕ
node_held a None = None
node_held a (Some None) = None
node_held a (Some (Some open_handle)) = refuse_if (open_handle.actor == a) (Some open_handle.node) None

abbrev pub held : State → ℕ → ℕ → Option ℕ
held s a h = node_held a (slice_get s.handles h)

-- how many handles the actor has open
abbrev pub held_count : State → ℕ → ℕ
held_count s a = count_by (is_held_by a) s.handles

-- the actor can open no more, or the numbers are used up
abbrev pub is_full : State → ℕ → Bool
is_full s a = nat_le HANDLES_MAX (held_count s a) || nat_le NUMBERS_MAX (length s.handles)

-- one more handle, of the next number
abbrev pub with_handle : State → ℕ → ℕ → State
with_handle s a x = record { nodes = s.nodes; handles = s.handles ++ Some (record { actor = a; node = x }) ∷ [] }

-- a node is opened
abbrev pub opens : State → ℕ → ℕ → Outcome
opens s a x =
    refuse_if (is_full s a) (refused s TooMany)
    (with_some (object_at s.nodes x) (refused s NotFound) (λ what.
    record { answer = Opened (length s.handles) x (kind_of what); after = with_handle s a x }))

-- a node's text is read
abbrev pub reads : State → Option Object → Outcome
reads s (Some (object.Link text)) = answered s (Text text)
reads s _ = refused s Invalid

-- names from one node down to another
abbrev pub shows : State → Option (List (List ℕ)) → Outcome
shows s None = answered s NotBelow
shows s (Some names) = answered s (Names (reverse names))

-- a change of the entries
abbrev pub changes : State → Result (List Inode) Errno → Outcome
changes s (Err error) = refused s error
changes s (Ok nodes) = record { answer = Done; after = record { nodes = nodes; handles = s.handles } }

-- what goes on with the node of a handle, if it is open and the actor's
abbrev pub on_handle : State → ℕ → ℕ → (ℕ → Outcome) → Outcome
on_handle s a h otherwise = with_some (held s a h) (refused s BadHandle) otherwise

abbrev pub outcome : State → ℕ → StepWith ℕ → Outcome
outcome s a (Open h n) = on_handle s a h (λ d.
    refuse_if (not (is_dir s.nodes d)) (refused s NotDir)
    (with_some (child s.nodes d n) (refused s NotFound) (λ c. opens s a c)))
outcome s a (Dup h) = on_handle s a h (λ x. opens s a x)
outcome s a (Parent h) = on_handle s a h (λ x.
    refuse_if (not (is_dir s.nodes x)) (refused s NotDir)
    (with_some (parent s.nodes x) (refused s NotFound) (λ d. opens s a d)))
outcome s a (ReadLink h) = on_handle s a h (λ x. reads s (object_at s.nodes x))
outcome s a (NameBelow r h) = on_handle s a r (λ top. on_handle s a h (λ x. shows s (names_below s.nodes top x)))
outcome s a (ListNames h) = on_handle s a h (λ d.
    refuse_if (not (is_dir s.nodes d)) (refused s NotDir)
    (answered s (Listed (sorted_names (names_in s.nodes d)))))
outcome s a (Close h) = on_handle s a h (λ x.
    record { answer = Done; after = record { nodes = s.nodes; handles = slice_set s.handles h None } })
outcome s a (MakeDir h n) = on_handle s a h (λ d. changes s (makes s.nodes d n object.Dir))
outcome s a (MakeFile h n) = on_handle s a h (λ d. changes s (makes s.nodes d n object.File))
outcome s a (MakeLink h n text) = on_handle s a h (λ d. changes s (makes_link s.nodes d n text))
outcome s a (RemoveFile h n) = on_handle s a h (λ d. changes s (removes_file s.nodes d n))
outcome s a (RemoveDir h n) = on_handle s a h (λ d. changes s (removes_dir s.nodes d n))
outcome s a (Rename h n k m mode) =
    on_handle s a h (λ d. on_handle s a k (λ f. changes s (renames s.nodes d n f m mode)))

-- the steps that take no memory
abbrev pub takes_no_memory : StepWith ℕ → Bool
takes_no_memory (Close h) = true
takes_no_memory (RemoveFile h n) = true
takes_no_memory (RemoveDir h n) = true
takes_no_memory (Open h n) = false
takes_no_memory (Dup h) = false
takes_no_memory (Parent h) = false
takes_no_memory (ReadLink h) = false
takes_no_memory (NameBelow r h) = false
takes_no_memory (ListNames h) = false
takes_no_memory (MakeDir h n) = false
takes_no_memory (MakeFile h n) = false
takes_no_memory (MakeLink h n text) = false
takes_no_memory (Rename h n k m mode) = false

-- ---- handles granted before the first event

-- the directory at these names below x, no link followed: NotDir before NotFound at each
abbrev pub directory_at : List Inode → ℕ → List (List ℕ) → Result ℕ Errno
directory_at nodes x [] = refuse_if (not (is_dir nodes x)) (Err NotDir) (Ok x)
directory_at nodes x (n ∷ names) =
    refuse_if (not (is_dir nodes x)) (Err NotDir)
    (with_some (child nodes x n) (Err NotFound) (λ c. directory_at nodes c names))

-- a handle on a directory that was found, or the refusal
abbrev pub grants_at : State → ℕ → Result ℕ Errno → Result State Errno
grants_at s a (Err error) = Err error
grants_at s a (Ok x) = refuse_if (is_full s a) (Err TooMany) (Ok (with_handle s a x))

-- a handle on the directory at these names below the top
abbrev pub grants : State → ℕ → List (List ℕ) → Result State Errno
grants s a names = grants_at s a (directory_at s.nodes TOP names)

-- a grant ended so: the refusal, or the next handle on that directory, unless there was no memory; a grant that
-- failed left the tree
abbrev pub IsGrant : State → State → Result State Errno → Result ℕ Errno → Type 0
IsGrant old new (Err error) result = (result ≡ Err error) × (new ≡ old)
IsGrant old new (Ok granted) result =
    MatchResult result (λ h. (h ≡ length old.handles) × (new ≡ granted)) (λ error. (error ≡ NoMemory) × (new ≡ old))
