-- How a step's end is the step table's, at a moment of the step's own system calls.
use Rattle.std.specs.Prelude.{◌≡◌, ◌≢◌, ◌⊎◌, ◌≤◌, ◌<◌, ℕ, List, [], ◌∷◌, Bool, false, Option, Some, None}
use Rattle.tree_model.specs.declared.answer.Answer.{Answer}
use Rattle.tree_model.specs.declared.answer.Answer.TheVariants as answers
use Rattle.tree_model.specs.declared.inode.Object.TheVariants as object
use Rattle.tree_model.specs.declared.step.Kind.{Kind}
use Rattle.tree_model.specs.declared.step.Kind.TheVariants as kinds
use Rattle.tree_model.specs.declared.step.StepOf.TheVariants.{Open, Dup, Parent, ReadLink}
use Rattle.tree_model.specs.State.{object_at}
use Rattle.tree_model.specs.Steps.{outcome}
use Rattle.tree_model.specs.StepWith.{StepWith}
use Rattle.dialogue.specs.Dialogue.{Exchange, Whole}
use Rattle.linux_steps.specs.Linux.{Linux, IsAbove, IsDirectory, IsGone, IsLinux, IsThere, AreAnswers, moment_behind}
use Rattle.linux_steps.specs.Steps.{Entry, close_step, dup_step, open_step, parent_step, read_link_step, there}
use Rattle.linux_steps.specs.declared.ended.Ended.{Ended}
use Rattle.linux_steps.specs.declared.ended.Ended.TheVariants.{Opened, Text, Done, Refused, Unmade}
use Rattle.linux_steps.specs.declared.ended.There.{There}
use Rattle.linux_steps.specs.declared.ended.There.TheVariants.{Yes, No, Unknown, Fails}

-- what the step table answers at that moment to a step whose handle, 0, is open on the node
abbrev pub answer_at : Linux → ℕ → ℕ → StepWith ℕ → Answer
answer_at x n node step =
    (outcome (record { nodes = x.nodes n; handles = Some (record { actor = 0; node = node }) ∷ [] }) 0 step).answer

-- it answered so at a moment of the step's system calls
abbrev pub Answered : Linux → ℕ → ℕ → ℕ → StepWith ℕ → Answer → Type 0
Answered x m now node step answer = (n : ℕ) × (m < n) × (n ≤ now) × (answer_at x n node step ≡ answer)

-- ---- descriptors

-- each is where it was
abbrev pub Unchanged : Linux → ℕ → ℕ → Type 0
Unchanged x m now = (fd : ℕ) → x.on now fd ≡ x.on m fd

-- one more is open, on this node, and the others are where they were
pub record OneMore (x : Linux) (m now fd node : ℕ) : Type 0 where
  pub free : x.on m fd ≡ None
  pub is_on : x.on now fd ≡ Some node
  pub others : (other : ℕ) → other ≢ fd → x.on now other ≡ x.on m other

-- ---- Open

-- What is opened, the step table opened at a moment of a call, and it is of that kind.
pub record IsFound (x : Linux) (m now d : ℕ) (step : StepWith ℕ) (fd : ℕ) (kind : Kind) : Type 0 where
  pub node : ℕ
  pub one : OneMore x m now fd node
  pub stood : Answered x m now d step (answers.Opened 1 node kind)

abbrev pub OpenStood : Linux → ℕ → ℕ → ℕ → List ℕ → Ended → Type 0
OpenStood x m now d name (Opened fd kind) = IsFound x m now d (Open 0 name) fd kind
OpenStood x m now d name (Refused error) =
    Unchanged x m now × Answered x m now d (Open 0 name) (answers.Refused error)
OpenStood x m now d name (Unmade error) = Unchanged x m now
OpenStood x m now d name (Text length) = ⊥
OpenStood x m now d name Done = ⊥

-- Where it is refused, the step table refused it so at a moment of a call. Whatever it comes to, no other descriptor
-- is left open, and none that was open is closed.
abbrev pub OpensStood : Type 0
OpensStood = (x : Linux) (m dir d : ℕ) (name : List ℕ) (no_xdev : Bool) (es : List Exchange) (end : Ended) → IsLinux x
    → x.on m dir ≡ Some d → AreAnswers x m es → Whole (open_step dir name no_xdev) es end
    → OpenStood x m (moment_behind m es) d name end

-- ---- whether a directory is there

-- it was so at a moment of the calls
pub record At (Is : Linux → ℕ → ℕ → Type 0) (x : Linux) (m now d : ℕ) : Type 0 where
  pub n : ℕ
  pub after : m < n
  pub by : n ≤ now
  pub is : Is x n d

abbrev pub ThereTold : Linux → ℕ → ℕ → ℕ → There → Type 0
ThereTold x m now d Yes = At IsThere x m now d
ThereTold x m now d No = IsGone x now d
ThereTold x m now d Unknown = x.asks ≡ false
ThereTold x m now d (Fails error) = Unit {0}

-- A directory that is said to be there was so at a moment of a call. One that is said to be gone is so by the last. No
-- descriptor is left open, and none that was open is closed.
abbrev pub ThereStood : Type 0
ThereStood = (x : Linux) (m dir d : ℕ) (es : List Exchange) (told : There) → IsLinux x → IsDirectory x m d
    → x.on m dir ≡ Some d → AreAnswers x m es → Whole (there dir) es told
    → Unchanged x m (moment_behind m es) × ThereTold x m (moment_behind m es) d told

-- ---- Parent

-- `..` was opened: the directory above, or of a removed directory the one that it last stood in
pub record WasAbove (x : Linux) (m now d fd : ℕ) : Type 0 where
  pub node : ℕ
  pub one : OneMore x m now fd node
  pub n : ℕ
  pub after : m < n
  pub by : n ≤ now
  pub above : IsAbove x n node d
  pub is : IsDirectory x n node

abbrev pub ParentStood : Linux → ℕ → ℕ → ℕ → Ended → Type 0
ParentStood x m now d (Opened fd kind) =
    IsFound x m now d (Parent 0) fd kind ⊎ ((x.asks ≡ false) × (kind ≡ kinds.Dir) × WasAbove x m now d fd)
ParentStood x m now d (Refused error) = Unchanged x m now × Answered x m now d (Parent 0) (answers.Refused error)
ParentStood x m now d (Unmade error) = Unchanged x m now
ParentStood x m now d (Text length) = ⊥
ParentStood x m now d Done = ⊥

-- What is opened, the step table opened at a moment of a call; or whether the directory was removed could not be asked:
-- its file system's type, or by reading it (overlayfs, cgroups, btrfs).
-- And where the step is refused, the step table refused it so at a moment of a call.
abbrev pub ParentsStood : Type 0
ParentsStood = (x : Linux) (m dir d : ℕ) (no_xdev : Bool) (es : List Exchange) (end : Ended) → IsLinux x
    → x.on m dir ≡ Some d → AreAnswers x m es → Whole (parent_step dir no_xdev) es end
    → ParentStood x m (moment_behind m es) d end

-- ---- Dup and Close

abbrev pub DupStood : Linux → ℕ → ℕ → ℕ → Ended → Type 0
DupStood x m now d (Opened fd kind) = IsFound x m now d (Dup 0) fd kind
DupStood x m now d (Unmade error) = Unchanged x m now
DupStood x m now d (Refused error) = ⊥
DupStood x m now d (Text length) = ⊥
DupStood x m now d Done = ⊥

-- The directory is opened once more.
abbrev pub DupsStood : Type 0
DupsStood = (x : Linux) (m dir d : ℕ) (no_xdev : Bool) (es : List Exchange) (end : Ended)
    → x.on m dir ≡ Some d → AreAnswers x m es → Whole (dup_step dir no_xdev) es end
    → DupStood x m (moment_behind m es) d end

-- one less is open
pub record OneLess (x : Linux) (m now fd : ℕ) : Type 0 where
  pub by : m ≤ now
  pub closed : x.on now fd ≡ None
  pub others : (other : ℕ) → other ≢ fd → x.on now other ≡ x.on m other

abbrev pub ClosesStood : Type 0
ClosesStood = (x : Linux) (m fd : ℕ) (es : List Exchange) (end : Ended) → AreAnswers x m es
    → Whole (close_step fd) es end → (end ≡ Done) × OneLess x m (moment_behind m es) fd

-- ---- ReadLink

-- the object is no link
abbrev pub IsNoLink : Linux → ℕ → Type 0
IsNoLink x y = (n : ℕ) (text : List ℕ) → object_at (x.nodes n) y ≢ Some (object.Link text)

abbrev pub LinkStood : Linux → ℕ → ℕ → ℕ → Ended → Type 0
LinkStood x m now y (Text length) =
    Unchanged x m now × Answered x m now y (ReadLink 0) (answers.Text (x.text now))
LinkStood x m now y (Refused error) =
    Unchanged x m now × (IsNoLink x y → Answered x m now y (ReadLink 0) (answers.Refused error))
LinkStood x m now y (Unmade error) = Unchanged x m now
LinkStood x m now y (Opened fd kind) = ⊥
LinkStood x m now y Done = ⊥

-- A text is the link's at the moment of a call. And where the step is refused, the step table refuses it so, if the
-- object is no link; of what is surely a link it isn't refused.
abbrev pub LinksWereRead : Type 0
LinksWereRead = (x : Linux) (m fd y : ℕ) (is_link : Bool) (entry : Option Entry) (es : List Exchange) (end : Ended)
    → x.on m fd ≡ Some y → AreAnswers x m es → Whole (read_link_step fd is_link entry) es end
    → LinkStood x m (moment_behind m es) y end
