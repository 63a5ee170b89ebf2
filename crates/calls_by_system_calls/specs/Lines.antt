-- A line of a call as a program makes it by system calls: a conversation of linux_steps, each of whose answers says of
-- the tree what the manual pages say; or one of several names that one system call passes.
use Rattle.std.specs.Prelude.{◌≡◌, ◌≢◌, ◌⊎◌, ◌≤◌, ◌<◌, ℕ, suc, ◌+◌, ◌-◌, ◌==◌, List, [], ◌∷◌, Bool, true, false, if◌then◌else◌, Option, Some, None}
use Rattle.std.specs.List.{AllByRecursion}
use Rattle.path_text.specs.declared.errno.Errno.TheVariants.{NotFound}
use Rattle.path_text.specs.declared.errno.Errno.{Errno}
use Rattle.path_text.specs.Text.{text_fault}
use Rattle.tree_model.specs.declared.answer.Answer.{Answer}
use Rattle.tree_model.specs.declared.answer.Answer.TheVariants as answers
use Rattle.tree_model.specs.declared.inode.Object.{Object}
use Rattle.tree_model.specs.declared.inode.Object.TheVariants as object
use Rattle.tree_model.specs.declared.step.Kind.TheVariants as kind
use Rattle.tree_model.specs.declared.step.StepOf.TheVariants as steps
use Rattle.tree_model.specs.State.{child, is_dir, names_in, object_at, parent, sorted_names}
use Rattle.tree_model.specs.Steps.{kind_of}
use Rattle.tree_model.specs.StepWith.{StepWith}
use Rattle.dialogue.specs.Dialogue.{Dialogue, Exchange, Whole}
use Rattle.linux_steps.specs.Linux.{Linux as Moments, moment_behind, AreAnswers}
use Rattle.linux_steps.specs.Steps.{dup_step, open_step, parent_step, read_link_step, Entry}
use Rattle.linux_steps.specs.declared.ended.Ended.{Ended}
use Rattle.linux_steps.specs.declared.ended.Ended.TheVariants as ended
use Rattle.step_resolver.specs.Order.{Line, answered, no_room, not_made}
use Rattle.calls_by_system_calls.specs.Changes.{IsChange}
use Rattle.calls_by_system_calls.specs.Linux.{Linux, state_at, ChangeNothing}
use Rattle.calls_by_system_calls.specs.Places.{PlaceIsFound}

-- ---- descriptors

-- How many handles the program has open; and on which node each of the call's own is, by the program's number of it.
pub record Descriptors : Type 0 where
  pub count : ℕ
  pub on : ℕ → Option ℕ

-- openat(2): one more; close(2): one less
abbrev pub with_opened : Descriptors → ℕ → ℕ → Descriptors
with_opened table h node = record { count = suc table.count; on = λ k. if k == h then Some node else table.on k }

abbrev pub with_closed : Descriptors → ℕ → Descriptors
with_closed table h = record { count = table.count - 1; on = λ k. if k == h then None else table.on k }

-- getrlimit(2): the model's limit, which a program with fewer open doesn't meet
abbrev pub HasRoom : Descriptors → Type 0
HasRoom table = table.count < 1024

-- ---- one step's conversation

-- The tree from moment to moment as a step's conversation has it, with the node on which each descriptor is open.
abbrev pub seen : Linux → Bool → (ℕ → ℕ → Option ℕ) → (ℕ → Bool) → (ℕ → List ℕ) → Moments
seen x asks on layered text = record {
  nodes = λ n. (state_at x n).nodes;
  on = on;
  layered = layered;
  text = text;
  asks = asks;
}

-- The program tells what was opened by its own number for that node, with its kind; a text that was read; and a refusal
-- by its error. Where the step wasn't made, it has no answer.
abbrev pub Tells : (ℕ → ℕ) → (ℕ → Option ℕ) → List ℕ → Ended → Answer → Type 0
Tells nodes on text (ended.Opened fd kind) (answers.Opened h y k) = (k ≡ kind) × (on fd ≡ Some (nodes y))
Tells nodes on text (ended.Text length) (answers.Text bytes) = bytes ≡ text
Tells nodes on text (ended.Refused why) (answers.Refused error) = error ≡ why
Tells nodes on text end answer = ⊥

-- A step, by a descriptor that is open on the node: a whole conversation of so many system calls from moment m on. The
-- program answers by its end. Nothing is supposed but what each answer of Linux says of the tree.
pub record IsTalked (x : Linux) (nodes : ℕ → ℕ) (m calls node : ℕ) (asks : Bool) (step : ℕ → Dialogue Ended)
    (answer : Answer) : Type 0 where
  pub fd : ℕ
  pub on : ℕ → ℕ → Option ℕ
  pub layered : ℕ → Bool
  pub text : ℕ → List ℕ
  pub exchanges : List Exchange
  pub end : Ended
  pub is_on : on m fd ≡ Some node
  pub all : moment_behind m exchanges ≡ m + calls
  pub says : AreAnswers (seen x asks on layered text) m exchanges
  pub is : Whole (step fd) exchanges end
  pub tells : Tells nodes (on (m + calls)) (text (m + calls)) end answer

-- Open of a name by a look-up of several at once (openat2(2), RESOLVE_NO_SYMLINKS): path_resolution(7), the kernel
-- looks names up one after another, each in the directory that the one before gave. At one of the moments the object
-- was this name's; or the look-up failed by ENOENT, since there was none by this name. The moments are counted as for a
-- conversation, and lie within the system call.
abbrev pub NameIsPassed : Linux → (ℕ → ℕ) → ℕ → ℕ → ℕ → List ℕ → Answer → Type 0
NameIsPassed x nodes m calls dir name (answers.Opened h y k) =
    (n : ℕ) × (n ≤ calls) × (what : Object) × (is_dir (state_at x (m + n)).nodes dir ≡ true)
    × (child (state_at x (m + n)).nodes dir name ≡ Some (nodes y))
    × (object_at (state_at x (m + n)).nodes (nodes y) ≡ Some what) × (k ≡ kind_of what)
NameIsPassed x nodes m calls dir name (answers.Refused error) =
    (n : ℕ) × (n ≤ calls) × (is_dir (state_at x (m + n)).nodes dir ≡ true)
    × (child (state_at x (m + n)).nodes dir name ≡ None) × (error ≡ NotFound)
NameIsPassed x nodes m calls dir name answer = ⊥

-- the same of `..` at the end of such a look-up
abbrev pub UpIsPassed : Linux → (ℕ → ℕ) → ℕ → ℕ → ℕ → Answer → Type 0
UpIsPassed x nodes m calls dir (answers.Opened h y k) =
    (n : ℕ) × (n ≤ calls) × (is_dir (state_at x (m + n)).nodes dir ≡ true)
    × (parent (state_at x (m + n)).nodes dir ≡ Some (nodes y))
    × (object_at (state_at x (m + n)).nodes (nodes y) ≡ Some object.Dir) × (k ≡ kind.Dir)
UpIsPassed x nodes m calls dir answer = ⊥

-- ReadLink within such a look-up: the kernel reads the link that it found, and goes on along its text
abbrev pub TextIsPassed : Linux → ℕ → ℕ → ℕ → Answer → Type 0
TextIsPassed x m calls link (answers.Text text) =
    (n : ℕ) × (n ≤ calls) × (object_at (state_at x (m + n)).nodes link ≡ Some (object.Link text))
TextIsPassed x m calls link answer = ⊥

-- List, which the kernel answers in several calls: its answer was the whole directory at one of the moments (a
-- premise). A driver that reads a whole directory so meets it if nobody changes that one's entries meanwhile.
pub record NamesAreListed (x : Linux) (m calls dir : ℕ) (answer : Answer) : Type 0 where
  pub n : ℕ
  pub within : n ≤ calls
  pub directory : is_dir (state_at x (m + n)).nodes dir ≡ true
  pub stood : answer ≡ answers.Listed (sorted_names (names_in (state_at x (m + n)).nodes dir))

-- MakeLink of a text that is none of a path: symlink(2) refuses it for that, an empty one by ENOENT, and one that is
-- too long by ENAMETOOLONG.
pub record TextIsRefused (text : List ℕ) (answer : Answer) : Type 0 where
  pub fault : Errno
  pub why : text_fault text ≡ Some fault
  pub refused : answer ≡ answers.Refused fault

-- A step that changes no entry, by the descriptors that the program has.
abbrev pub LookIsMade : Linux → (ℕ → ℕ) → ℕ → Descriptors → ℕ → StepWith ℕ → Answer → Type 0
LookIsMade x nodes m table calls (steps.Open h name) answer =
    HasRoom table × (dir : ℕ) × (table.on h ≡ Some dir)
    × (((no_xdev : Bool) × IsTalked x nodes m calls dir false (λ fd. open_step fd name no_xdev) answer)
    ⊎ NameIsPassed x nodes m calls dir name answer)
LookIsMade x nodes m table calls (steps.Dup h) answer =
    HasRoom table × (dir : ℕ) × (table.on h ≡ Some dir)
    × (no_xdev : Bool) × IsTalked x nodes m calls dir false (λ fd. dup_step fd no_xdev) answer
-- `parents_stood` has an exception. Here it is supposed not to be met: whether the directory is there could be asked.
LookIsMade x nodes m table calls (steps.Parent h) answer =
    HasRoom table × (dir : ℕ) × (table.on h ≡ Some dir)
    × (((no_xdev : Bool) × IsTalked x nodes m calls dir true (λ fd. parent_step fd no_xdev) answer)
    ⊎ UpIsPassed x nodes m calls dir answer)
-- it is refused where the object is no link
LookIsMade x nodes m table calls (steps.ReadLink h) answer =
    (link : ℕ) × (table.on h ≡ Some link)
    × (((is_link : Bool) × (entry : Option Entry)
    × IsTalked x nodes m calls link false (λ fd. read_link_step fd is_link entry) answer
    × ((error : Errno) (n : ℕ) (text : List ℕ) → answer ≡ answers.Refused error
    → object_at (state_at x n).nodes link ≢ Some (object.Link text)))
    ⊎ TextIsPassed x m calls link answer)
LookIsMade x nodes m table calls (steps.NameBelow r h) answer =
    (top node : ℕ) × (table.on r ≡ Some top) × (table.on h ≡ Some node) × PlaceIsFound x m calls top node answer
LookIsMade x nodes m table calls (steps.List h) answer =
    (dir : ℕ) × (table.on h ≡ Some dir) × NamesAreListed x m calls dir answer
LookIsMade x nodes m table calls (steps.Close h) answer =
    (node : ℕ) × (table.on h ≡ Some node) × (answer ≡ answers.Done)
LookIsMade x nodes m table calls (steps.MakeLink h name text) answer =
    (dir : ℕ) × (table.on h ≡ Some dir) × TextIsRefused text answer
LookIsMade x nodes m table calls step answer = ⊥

-- The same of one that changes an entry.
abbrev pub ChangeIsMade : Linux → ℕ → Descriptors → ℕ → StepWith ℕ → Answer → Type 0
ChangeIsMade x m table calls (steps.MakeDir h name) answer =
    (dir : ℕ) × (table.on h ≡ Some dir) × IsChange x m calls dir dir (steps.MakeDir 0 name) answer
ChangeIsMade x m table calls (steps.MakeFile h name) answer =
    (dir : ℕ) × (table.on h ≡ Some dir) × IsChange x m calls dir dir (steps.MakeFile 0 name) answer
ChangeIsMade x m table calls (steps.MakeLink h name text) answer =
    (dir : ℕ) × (table.on h ≡ Some dir) × IsChange x m calls dir dir (steps.MakeLink 0 name text) answer
ChangeIsMade x m table calls (steps.RemoveFile h name) answer =
    (dir : ℕ) × (table.on h ≡ Some dir) × IsChange x m calls dir dir (steps.RemoveFile 0 name) answer
ChangeIsMade x m table calls (steps.RemoveDir h name) answer =
    (dir : ℕ) × (table.on h ≡ Some dir) × IsChange x m calls dir dir (steps.RemoveDir 0 name) answer
ChangeIsMade x m table calls (steps.Rename h name k new mode) answer =
    (dir second : ℕ) × (table.on h ≡ Some dir) × (table.on k ≡ Some second)
    × IsChange x m calls dir second (steps.Rename 0 name 1 new mode) answer
ChangeIsMade x m table calls step answer = ⊥

abbrev pub StepIsMade : Linux → (ℕ → ℕ) → ℕ → Descriptors → ℕ → StepWith ℕ → Answer → Type 0
StepIsMade x nodes m table calls step answer =
    (ChangeNothing x m calls × LookIsMade x nodes m table calls step answer)
    ⊎ ChangeIsMade x m table calls step answer

-- ---- line by line

-- a step that wasn't made is no event, whatever the system calls gave; it changed nothing
abbrev pub LineIsMade : Linux → (ℕ → ℕ) → ℕ → Descriptors → ℕ → Line → Type 0
LineIsMade x nodes m table calls (answered step answer) = StepIsMade x nodes m table calls step answer
LineIsMade x nodes m table calls (no_room step answer) = StepIsMade x nodes m table calls step answer
LineIsMade x nodes m table calls (not_made error) = ChangeNothing x m calls

abbrev pub after_step : (ℕ → ℕ) → Descriptors → StepWith ℕ → Answer → Descriptors
after_step nodes table step (answers.Opened h x k) = with_opened table h (nodes x)
after_step nodes table (steps.Close h) answer = with_closed table h
after_step nodes table step answer = table

abbrev pub after_line : (ℕ → ℕ) → Descriptors → Line → Descriptors
after_line nodes table (answered step answer) = after_step nodes table step answer
after_line nodes table (no_room step answer) = after_step nodes table step answer
after_line nodes table (not_made error) = table

-- The lines of a call, one after another from moment m on, and how many system calls each of them took.
abbrev pub AreMade : Linux → (ℕ → ℕ) → ℕ → Descriptors → List Line → List ℕ → Type 0
AreMade x nodes m table [] [] = Unit {0}
AreMade x nodes m table (line ∷ lines) (calls ∷ counts) =
    LineIsMade x nodes m table calls line
    × AreMade x nodes (m + calls) (after_line nodes table line) lines counts
AreMade x nodes m table lines counts = ⊥

-- ---- numbers

-- the numbers of the handles that are opened, in their order
abbrev pub number_opened : Answer → List ℕ → List ℕ
number_opened (answers.Opened h x k) hs = h ∷ hs
number_opened answer hs = hs

abbrev pub numbers_opened : List Line → List ℕ
numbers_opened [] = []
numbers_opened (answered step answer ∷ lines) = number_opened answer (numbers_opened lines)
numbers_opened (no_room step answer ∷ lines) = number_opened answer (numbers_opened lines)
numbers_opened (not_made error ∷ lines) = numbers_opened lines

abbrev pub IsNoneOf : ℕ → List ℕ → Type 0
IsNoneOf h hs = AllByRecursion (λ k. k ≢ h) hs

abbrev pub AllDiffer : List ℕ → Type 0
AllDiffer [] = Unit {0}
AllDiffer (h ∷ hs) = IsNoneOf h hs × AllDiffer hs
