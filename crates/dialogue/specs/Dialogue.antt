-- Dialogues: code asks for a system call, goes on with what that gave, and comes to its end. (Dialogue trees.)
use Rattle.std.specs.Prelude.{◌≡◌, ◌++◌, ◌==◌, ◌&&◌, bit_and, ℕ, List, [], ◌∷◌, Bool, true, false, if◌then◌else◌, Result, Ok, Err}
use Rattle.system_calls.specs.Errors.{EINTR}
use Rattle.dialogue.specs.declared.calls.Answer.{Answer}
use Rattle.dialogue.specs.declared.calls.How.{How}
use Rattle.dialogue.specs.declared.calls.Question.{Question}
use Rattle.dialogue.specs.declared.calls.Question.TheVariants.{OpenName, OpenSame, OpenAbove, LookUp, OpenPath, Open, OpenObject, Stat, StatName, FileSystem, Status, ReadEntries, ReadLink, ReadObjectLink, ReadThread, Close, IsOpen, CopyAbove, MakeDirectory, MakeNode, MakeLink, Link, Remove, Rename, ChangeMode, ChangeOwner, ChangeTimes, AttributeAt, Attribute, NoAttribute, NewProc, Configure, Mount, CopyProc, Wait, Claim, Keep, Release, Know, BySteps}

-- ---- system calls

-- the questions of the code, where a name, a path and a text are their bytes
pub data SystemCall : Type 0 where
  open_name : ℕ → List ℕ → How → SystemCall
  open_same : ℕ → How → SystemCall
  open_above : ℕ → How → SystemCall
  look_up : ℕ → List ℕ → ℕ → ℕ → SystemCall
  open_path : ℕ → List ℕ → ℕ → ℕ → ℕ → SystemCall
  opens : ℕ → List ℕ → ℕ → ℕ → SystemCall
  opens_object : ℕ → ℕ → ℕ → SystemCall
  stats : ℕ → SystemCall
  stats_name : ℕ → List ℕ → SystemCall
  stats_file_system : ℕ → SystemCall
  reads_status : ℕ → SystemCall
  reads_entries : ℕ → SystemCall
  reads_link : ℕ → SystemCall
  reads_object_link : ℕ → ℕ → SystemCall
  reads_thread : ℕ → SystemCall
  closes : ℕ → SystemCall
  asks_open : ℕ → SystemCall
  copies_above : ℕ → SystemCall
  makes_directory : ℕ → List ℕ → ℕ → SystemCall
  makes_node : ℕ → List ℕ → ℕ → ℕ → SystemCall
  makes_link : ℕ → List ℕ → List ℕ → SystemCall
  links : ℕ → ℕ → ℕ → List ℕ → SystemCall
  removes : ℕ → List ℕ → Bool → SystemCall
  renames : ℕ → List ℕ → ℕ → List ℕ → ℕ → SystemCall
  changes_mode : ℕ → ℕ → ℕ → SystemCall
  changes_owner : ℕ → ℕ → ℕ → SystemCall
  changes_times : ℕ → SystemCall
  attribute_at : ℕ → ℕ → SystemCall
  attribute : ℕ → SystemCall
  no_attribute : SystemCall
  new_proc : SystemCall
  configures : ℕ → Bool → SystemCall
  mounts : ℕ → SystemCall
  copies_proc : SystemCall
  waits : ℕ → SystemCall
  claims : Bool → SystemCall
  keeps : ℕ → ℕ → ℕ → ℕ → Bool → SystemCall
  releases : SystemCall
  knows : Bool → SystemCall
  by_steps : List ℕ → List ℕ → SystemCall

abbrev pub asked_of : Question → SystemCall
asked_of (OpenName dir name how) = open_name dir name.now how
asked_of (OpenSame dir how) = open_same dir how
asked_of (OpenAbove dir how) = open_above dir how
asked_of (LookUp dir path flags resolve) = look_up dir path.now flags resolve
asked_of (OpenPath dir path flags mode resolve) = open_path dir path.now flags mode resolve
asked_of (Open dir path flags mode) = opens dir path.now flags mode
asked_of (OpenObject proc fd flags) = opens_object proc fd flags
asked_of (Stat fd) = stats fd
asked_of (StatName dir name) = stats_name dir name.now
asked_of (FileSystem fd) = stats_file_system fd
asked_of (Status fd) = reads_status fd
asked_of (ReadEntries fd) = reads_entries fd
asked_of (ReadLink fd) = reads_link fd
asked_of (ReadObjectLink proc fd) = reads_object_link proc fd
asked_of (ReadThread proc) = reads_thread proc
asked_of (Close fd) = closes fd
asked_of (IsOpen fd) = asks_open fd
asked_of (CopyAbove fd) = copies_above fd
asked_of (MakeDirectory dir name mode) = makes_directory dir name.now mode
asked_of (MakeNode dir name mode device) = makes_node dir name.now mode device
asked_of (MakeLink dir name text) = makes_link dir name.now text.now
asked_of (Link proc fd dir name) = links proc fd dir name.now
asked_of (Remove dir name directory) = removes dir name.now directory
asked_of (Rename from name to other flags) = renames from name.now to other.now flags
asked_of (ChangeMode proc fd mode) = changes_mode proc fd mode
asked_of (ChangeOwner fd user group) = changes_owner fd user group
asked_of (ChangeTimes fd) = changes_times fd
asked_of (AttributeAt proc fd) = attribute_at proc fd
asked_of (Attribute fd) = attribute fd
asked_of NoAttribute = no_attribute
asked_of NewProc = new_proc
asked_of (Configure fd restricts) = configures fd restricts
asked_of (Mount fd) = mounts fd
asked_of CopyProc = copies_proc
asked_of (Wait time) = waits time
asked_of (Claim handed_in) = claims handed_in
asked_of (Keep fd device inode mount handed_in) = keeps fd device inode mount handed_in
asked_of Release = releases
asked_of (Know known) = knows known
asked_of (BySteps first second) = by_steps first.now second.now

abbrev pub O_PATH : ℕ
O_PATH = 2097152

-- it changes nothing, and opens nothing for use
abbrev pub is_look : SystemCall → Bool
is_look (open_name dir name how) = true
is_look (open_same dir how) = true
is_look (open_above dir how) = true
is_look (look_up dir path flags resolve) = true
is_look (stats fd) = true
is_look (stats_name dir name) = true
is_look (stats_file_system fd) = true
is_look (reads_entries fd) = true
is_look (reads_link fd) = true
is_look (reads_object_link proc fd) = true
is_look (reads_thread proc) = true
is_look copies_proc = true
-- open(2): O_PATH only names the object
is_look (opens dir path flags mode) = bit_and flags O_PATH == O_PATH
is_look _ = false

-- signal(7): a signal came before anything was seen
abbrev pub again : SystemCall → Answer → Bool
again q a = is_look q && (a.error == EINTR)

-- ---- protocols

-- what code may ask for, and what answers that; and after which answer the same is asked again
pub record Protocol : Type 1 where
  pub Asked : Type 0
  pub Gave : Type 0
  pub again : Asked → Gave → Bool

abbrev pub protocol : {Q A : Type 0} → (Q → A → Bool) → Protocol
protocol {Q} {A} again = record { Asked = Q; Gave = A; again = again }

abbrev pub system_calls : Protocol
system_calls = protocol again

-- ---- dialogues

-- the end; or a question, and what comes behind its answer
pub data DialogueOf (P : Protocol) (E : Type 0) : Type 0 where
  ends : E → DialogueOf P E
  asks : P.Asked → (P.Gave → DialogueOf P E) → DialogueOf P E

-- one that asks for system calls
abbrev pub Dialogue : Type 0 → Type 0
Dialogue E = DialogueOf system_calls E

-- what it comes to by these answers, and those that are left; or the question that is due
pub data RanOf (P : Protocol) (E : Type 0) : Type 0 where
  came : E → List P.Gave → RanOf P E
  due : P.Asked → RanOf P E

abbrev pub Ran : Type 0 → Type 0
Ran E = RanOf system_calls E

-- what is left behind an answer
abbrev pub behind : {P : Protocol} {E : Type 0} → P.Asked → (P.Gave → DialogueOf P E) → P.Gave → DialogueOf P E
behind {P} q after a = if P.again q a then asks q after else after a

unfoldable pub ran : {P : Protocol} {E : Type 0} → DialogueOf P E → List P.Gave → RanOf P E
ran (ends e) answers = came e answers
ran (asks q after) [] = due q
ran (asks q after) (a ∷ answers) = ran (behind q after a) answers

-- what code has come to, by how its value and its question are seen
abbrev pub ran_by_of : (P : Protocol) {E Q T : Type 0} → (T → E) → (Q → P.Asked) → Result T Q → List P.Gave → RanOf P E
ran_by_of P see asked (Ok value) left = came (see value) left
ran_by_of P see asked (Err question) left = due (asked question)

abbrev pub ran_by : {E Q T : Type 0} → (T → E) → (Q → SystemCall) → Result T Q → List Answer → Ran E
ran_by see asked r left = ran_by_of system_calls see asked r left

-- one question
unfoldable pub asking : (P : Protocol) → P.Asked → DialogueOf P P.Gave
asking P q = asks q (λ a. ends a)

-- one system call
abbrev pub calling : SystemCall → Dialogue Answer
calling q = asking system_calls q

-- one dialogue, and then another one by what it has come to
unfoldable pub and_then : {P : Protocol} {E F : Type 0} → DialogueOf P E → (E → DialogueOf P F) → DialogueOf P F
and_then (ends e) f = f e
and_then (asks q after) f = asks q (λ a. and_then (after a) f)

abbrev pub going : {P : Protocol} {E F : Type 0} → RanOf P E → (E → DialogueOf P F) → RanOf P F
going (came e left) f = ran (f e) left
going (due q) f = due q

-- ---- conversations

-- what was asked, and what that gave
pub record ExchangeOf (P : Protocol) : Type 0 where
  pub asked : P.Asked
  pub answer : P.Gave

-- a system call that was made, and what it gave
abbrev pub Exchange : Type 0
Exchange = ExchangeOf system_calls

-- These exchanges may come, one after another: what is due is asked. What is left of the dialogue has End.
unfoldable pub Talks : {P : Protocol} {E : Type 0} → DialogueOf P E → List (ExchangeOf P) → (DialogueOf P E → Type 0)
    → Type 0
Talks s [] End = End s
Talks (ends e) (x ∷ xs) End = ⊥
Talks (asks q after) (x ∷ xs) End = (x.asked ≡ q) × Talks (behind q after x.answer) xs End

-- these exchanges are a whole conversation, and it has come to this
abbrev pub Whole : {P : Protocol} {E : Type 0} → DialogueOf P E → List (ExchangeOf P) → E → Type 0
Whole s es e = Talks s es (λ rest. rest ≡ ends e)

-- ---- who drives it

abbrev pub answers_of : {P : Protocol} → List (ExchangeOf P) → List P.Gave
answers_of [] = []
answers_of (x ∷ xs) = x.answer ∷ answers_of xs

-- what is due is asked, by those answers and by one more each time
abbrev pub IsDriven : {P : Protocol} {E : Type 0} → DialogueOf P E → List P.Gave → List (ExchangeOf P) → Type 0
IsDriven s before [] = Unit {0}
IsDriven s before (x ∷ xs) = (ran s before ≡ due x.asked) × IsDriven s (before ++ x.answer ∷ []) xs

-- except for what was asked again
abbrev pub without_signals : {P : Protocol} → List (ExchangeOf P) → List (ExchangeOf P)
without_signals [] = []
without_signals {P} (x ∷ xs) = if P.again x.asked x.answer then without_signals xs else x ∷ without_signals xs
