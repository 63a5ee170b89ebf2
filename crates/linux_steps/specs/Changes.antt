-- A step that changes an entry, by one system call: how the step ends by what that gives; and what the answer says of
-- the tree as the system call finds it, each premise with its manual page. By these the step table answers so to the
-- step in that tree. An error for another reason, as EACCES, ENOSPC or EROFS, ends a step as not made.
use Rattle.std.specs.Prelude.{◌≡◌, ◌≢◌, ◌⊎◌, ◌<◌, ◌==◌, ◌&&◌, not, nat_lt, ℕ, List, length, Bool, true, false, if◌then◌else◌, Some, None}
use Rattle.path_text.specs.declared.errno.Errno.TheVariants.{NotFound, Exists, IsDir, NotDir, NotEmpty, TooLong}
use Rattle.path_text.specs.Text.{text_fault}
use Rattle.system_calls.specs.Errors.{ENOENT, EEXIST, ENOTDIR, EISDIR, ENAMETOOLONG, ENOTEMPTY}
use Rattle.tree_model.specs.declared.answer.Answer.TheVariants as answers
use Rattle.tree_model.specs.declared.inode.Inode.{Inode}
use Rattle.tree_model.specs.declared.step.Mode.{Mode}
use Rattle.tree_model.specs.declared.step.Mode.TheVariants.{Plain, NoReplace, Exchange}
use Rattle.tree_model.specs.declared.step.StepOf.TheVariants.{MakeDir, MakeFile, MakeLink, RemoveFile, RemoveDir, Rename}
use Rattle.tree_model.specs.State.{State, child, has_entries, is_dir, is_gone, is_within}
use Rattle.tree_model.specs.Steps.{held, outcome}
use Rattle.tree_model.specs.StepWith.{StepWith}
use Rattle.linux_steps.specs.declared.ended.Ended.{Ended}
use Rattle.linux_steps.specs.declared.ended.Ended.TheVariants.{Opened, Text, Done, Refused, Unmade}

-- ---- how it ends

-- mkdirat(2), mknodat(2), symlinkat(2), openat(2) with O_CREAT and O_EXCL
abbrev pub not_made : ℕ → Ended
not_made error =
    if error == ENOENT then Refused NotFound else if error == EEXIST then Refused Exists else Unmade error

-- renameat2(2)
abbrev pub not_renamed : Mode → ℕ → Ended
not_renamed Plain error =
    if error == ENOENT then Refused NotFound
    else if error == ENOTDIR then Refused NotDir
    else if error == EISDIR then Refused IsDir
    else if error == ENOTEMPTY then Refused NotEmpty else Unmade error
not_renamed NoReplace error =
    if error == ENOENT then Refused NotFound else if error == EEXIST then Refused Exists else Unmade error
not_renamed Exchange error = if error == ENOENT then Refused NotFound else Unmade error

-- By an error. The step table refuses the step by no others; a link's text is too long past 4,095 bytes.
abbrev pub not_changed : StepWith ℕ → ℕ → Ended
not_changed (MakeDir h name) error = not_made error
not_changed (MakeFile h name) error = not_made error
not_changed (MakeLink h name text) error =
    if (error == ENAMETOOLONG) && nat_lt 4095 (length text) then Refused TooLong else not_made error
-- unlinkat(2)
not_changed (RemoveFile h name) error =
    if error == ENOENT then Refused NotFound else if error == EISDIR then Refused IsDir else Unmade error
-- unlinkat(2), AT_REMOVEDIR
not_changed (RemoveDir h name) error =
    if error == ENOENT then Refused NotFound
    else if error == ENOTDIR then Refused NotDir
    else if error == ENOTEMPTY then Refused NotEmpty else Unmade error
not_changed (Rename h name k new mode) error = not_renamed mode error
not_changed step error = Unmade error

-- SECOND_NAME: an object that is there gets another one (linkat(2)). Then EEXIST alone is the new entry's.
abbrev pub change_ended : StepWith ℕ → Bool → ℕ → Ended
change_ended step second_name error =
    if error == 0 then Done
    else if second_name && not (error == EEXIST) then Unmade error else not_changed step error

-- ---- what the call finds

-- the handle is open on a directory
pub record IsIn (s : State) (actor h : ℕ) : Type 0 where
  pub node : ℕ
  pub is_open : held s actor h ≡ Some node
  pub directory : is_dir s.nodes node ≡ true

-- the entry's node, and whether it is a directory
pub record HasEntry (nodes : List Inode) (d : ℕ) (name : List ℕ) (directory : Bool) : Type 0 where
  pub node : ℕ
  pub entry : child nodes d name ≡ Some node
  pub is : is_dir nodes node ≡ directory

-- a directory's entry; whether that has entries
pub record HasDirectory (nodes : List Inode) (d : ℕ) (name : List ℕ) (full : Bool) : Type 0 where
  pub entry : HasEntry nodes d name true
  pub holds : has_entries nodes entry.node ≡ full

abbrev pub HasNoEntry : List Inode → ℕ → List ℕ → Type 0
HasNoEntry nodes d name = child nodes d name ≡ None

-- the directory of a rename's old entry with its name, and those of the new one
pub record Both : Type 0 where
  pub d : ℕ
  pub name : List ℕ
  pub e : ℕ
  pub new : List ℕ

-- ENOENT: there is no old entry, or the new directory was removed
abbrev pub IsMissing : List Inode → Both → Type 0
IsMissing nodes b = HasNoEntry nodes b.d b.name ⊎ (is_gone nodes b.e ≡ true)

-- Else both are there. And the new directory isn't the old entry's object, nor below it (EINVAL).
pub record MayMove (nodes : List Inode) (b : Both) : Type 0 where
  pub old : ℕ
  pub is_old : child nodes b.d b.name ≡ Some old
  pub there : is_gone nodes b.e ≡ false
  pub outside : is_within nodes old b.e ≡ false

-- the new entry is there, too
pub record HasBoth (nodes : List Inode) (b : Both) : Type 0 where
  pub moves : MayMove nodes b
  pub object : ℕ
  pub is_new : child nodes b.e b.new ≡ Some object

-- whether the old entry's object, and the new one's, is a directory
abbrev pub AreDirectories : {nodes : List Inode} {b : Both} → HasBoth nodes b → Bool → Bool → Type 0
AreDirectories {nodes} {b} both old object =
    (is_dir nodes both.moves.old ≡ old) × (is_dir nodes both.object ≡ object)

-- the new entry's object has entries, or none
abbrev pub IsFull : {nodes : List Inode} {b : Both} → HasBoth nodes b → Bool → Type 0
IsFull {nodes} {b} both full = has_entries nodes both.object ≡ full

-- rename(2): a directory takes the place of an empty one alone, and anything else that of no directory; and if both are
-- one, nothing changes
abbrev pub MayReplace : {nodes : List Inode} {b : Both} → HasBoth nodes b → Type 0
MayReplace both =
    (both.moves.old ≡ both.object)
    ⊎ (AreDirectories both false false ⊎ (AreDirectories both true true × IsFull both false))

-- ---- what the answers say

-- mkdirat(2), mknodat(2), symlinkat(2), openat(2) with O_CREAT and O_EXCL: where it is made there was no entry, in a
-- directory that is there, and there are never 2^48 nodes (the model's limit); EEXIST: there was one; ENOENT: the
-- directory was removed
pub record MakeSays (nodes : List Inode) (d : ℕ) (name : List ℕ) (error : ℕ) : Type 0 where
  pub few : length nodes < 281474976710656
  pub made : error ≡ 0 → (is_gone nodes d ≡ false) × HasNoEntry nodes d name
  pub exists : error ≡ EEXIST → (is_gone nodes d ≡ false) × ((directory : Bool) × HasEntry nodes d name directory)
  pub missing : error ≡ ENOENT → is_gone nodes d ≡ true

-- unlinkat(2): where it is removed it was no directory; EISDIR: it was one; ENOENT: there was no entry
pub record RemovalSays (nodes : List Inode) (d : ℕ) (name : List ℕ) (error : ℕ) : Type 0 where
  pub removed : error ≡ 0 → HasEntry nodes d name false
  pub directory : error ≡ EISDIR → HasEntry nodes d name true
  pub missing : error ≡ ENOENT → HasNoEntry nodes d name

-- unlinkat(2), AT_REMOVEDIR: where it is removed it was an empty directory; ENOTEMPTY: one that has entries; ENOTDIR:
-- it was none; ENOENT: there was no entry
pub record DirectoryRemovalSays (nodes : List Inode) (d : ℕ) (name : List ℕ) (error : ℕ) : Type 0 where
  pub removed : error ≡ 0 → HasDirectory nodes d name false
  pub full : error ≡ ENOTEMPTY → HasDirectory nodes d name true
  pub other : error ≡ ENOTDIR → HasEntry nodes d name false
  pub missing : error ≡ ENOENT → HasNoEntry nodes d name

-- without flags
pub record PlainSays (nodes : List Inode) (b : Both) (error : ℕ) : Type 0 where
  pub renamed : error ≡ 0 → (MayMove nodes b × HasNoEntry nodes b.e b.new)
      ⊎ ((both : HasBoth nodes b) × MayReplace both)
  pub missing : error ≡ ENOENT → IsMissing nodes b
  pub other : error ≡ ENOTDIR → (both : HasBoth nodes b) × AreDirectories both true false
  pub directory : error ≡ EISDIR → (both : HasBoth nodes b) × AreDirectories both false true
  pub full : error ≡ ENOTEMPTY → (both : HasBoth nodes b) × (both.moves.old ≢ both.object)
      × (is_dir nodes both.object ≡ true) × IsFull both true

-- RENAME_NOREPLACE; the old entry is looked up first
pub record NoReplaceSays (nodes : List Inode) (b : Both) (error : ℕ) : Type 0 where
  pub renamed : error ≡ 0 → MayMove nodes b × HasNoEntry nodes b.e b.new
  pub missing : error ≡ ENOENT → IsMissing nodes b
  pub exists : error ≡ EEXIST → (old object : ℕ) × (child nodes b.d b.name ≡ Some old)
      × (child nodes b.e b.new ≡ Some object) × (is_gone nodes b.e ≡ false)

-- RENAME_EXCHANGE; neither directory is the other entry's object, nor below it
pub record ExchangeSays (nodes : List Inode) (b : Both) (error : ℕ) : Type 0 where
  pub renamed : error ≡ 0 → (both : HasBoth nodes b) × (is_within nodes both.object b.d ≡ false)
  pub missing : error ≡ ENOENT → IsMissing nodes b ⊎ HasNoEntry nodes b.e b.new

abbrev pub RenameSays : List Inode → Both → Mode → ℕ → Type 0
RenameSays nodes b Plain error = PlainSays nodes b error
RenameSays nodes b NoReplace error = NoReplaceSays nodes b error
RenameSays nodes b Exchange error = ExchangeSays nodes b error

-- The state as the one system call of a change finds it, and what the call gives: 0 or an error. Of what is no
-- directory the errors are others (ENOTDIR). A link's text is one of a path.
abbrev pub ChangeSays : State → ℕ → StepWith ℕ → ℕ → Type 0
ChangeSays s actor (MakeDir h name) error = (d : IsIn s actor h) × MakeSays s.nodes d.node name error
ChangeSays s actor (MakeFile h name) error = (d : IsIn s actor h) × MakeSays s.nodes d.node name error
ChangeSays s actor (MakeLink h name text) error =
    (d : IsIn s actor h) × (text_fault text ≡ None) × MakeSays s.nodes d.node name error
ChangeSays s actor (RemoveFile h name) error = (d : IsIn s actor h) × RemovalSays s.nodes d.node name error
ChangeSays s actor (RemoveDir h name) error = (d : IsIn s actor h) × DirectoryRemovalSays s.nodes d.node name error
ChangeSays s actor (Rename h name k new mode) error =
    (d : IsIn s actor h) × (e : IsIn s actor k)
    × RenameSays s.nodes (record { d = d.node; name = name; e = e.node; new = new }) mode error
ChangeSays s actor step error = ⊥

-- ---- what it comes to

-- What is no directory is renamed onto a directory with entries: by ENOTEMPTY Linux refuses it, if that is above, and
-- the step table by EISDIR.
pub record IsOntoFull (s : State) (actor h k : ℕ) (name new : List ℕ) : Type 0 where
  pub d : IsIn s actor h
  pub e : IsIn s actor k
  pub both : HasBoth s.nodes (record { d = d.node; name = name; e = e.node; new = new })
  pub are : AreDirectories both false true
  pub full : IsFull both true

abbrev pub IsExcepted : State → ℕ → StepWith ℕ → Type 0
IsExcepted s actor (Rename h name k new Plain) = IsOntoFull s actor h k name new
IsExcepted s actor step = ⊥

-- where the change is made, the step table makes it in that tree; and where the step is refused, the step table refuses
-- it there by that error, but in that one case
abbrev pub ChangeStood : State → ℕ → StepWith ℕ → Ended → Type 0
ChangeStood s actor step Done = (outcome s actor step).answer ≡ answers.Done
ChangeStood s actor step (Refused error) =
    ((outcome s actor step).answer ≡ answers.Refused error) ⊎ ((error ≡ NotEmpty) × IsExcepted s actor step)
ChangeStood s actor step (Unmade error) = Unit {0}
ChangeStood s actor step (Opened fd kind) = ⊥
ChangeStood s actor step (Text length) = ⊥

abbrev pub ChangesStood : Type 0
ChangesStood = (s : State) (actor : ℕ) (step : StepWith ℕ) (second_name : Bool) (error : ℕ)
    → ChangeSays s actor step error → ChangeStood s actor step (change_ended step second_name error)
