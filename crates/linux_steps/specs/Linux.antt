-- What an answer of Linux says of the tree and of the call's descriptors, at its moment: premises, each with the
-- manual page that it is from.
use Rattle.std.specs.Prelude.{◌≡◌, ◌≢◌, ◌⊎◌, ◌==◌, ◌||◌, ℕ, suc, List, [], ◌∷◌, Bool, true, false, Option, Some, None}
use Rattle.system_calls.specs.Errors.{ENOENT, EINTR}
use Rattle.tree_model.specs.declared.inode.Inode.{Inode}
use Rattle.tree_model.specs.declared.inode.Object.{Object}
use Rattle.tree_model.specs.declared.inode.Object.TheVariants as object
use Rattle.tree_model.specs.State.{child, is_gone, object_at, parent}
use Rattle.tree_model.specs.Steps.{kind_of}
use Rattle.dialogue.specs.Dialogue.{Exchange, SystemCall, closes, copies_proc, look_up, open_above, open_name, open_same, opens, reads_entries, reads_link, reads_object_link, reads_thread, stats, stats_file_system, stats_name}
use Rattle.dialogue.specs.declared.calls.Answer.{Answer}
use Rattle.dialogue.specs.declared.calls.How.{How}
use Rattle.linux_steps.specs.Steps.{keeps_links, kind_by_mode}

-- The tree moment by moment, and the node on which each of the call's descriptors is open then: those that it was
-- handed, and those that it has opened. (What else the program has open isn't spoken of.) The call's n-th system call,
-- counted from 1, finds the tree of the moment n; the moment 0 is before the first.
pub record Linux : Type 0 where
  pub nodes : ℕ → List Inode
  pub on : ℕ → ℕ → Option ℕ
  -- whether a directory is on a file system that keeps the links of a removed one
  pub layered : ℕ → Bool
  -- the text that readlinkat(2) wrote
  pub text : ℕ → List ℕ
  -- whether a file system always says its type, and a directory that is read whether it is there
  pub asks : Bool

abbrev pub IsGone : Linux → ℕ → ℕ → Type 0
IsGone x n d = is_gone (x.nodes n) d ≡ true

abbrev pub IsThere : Linux → ℕ → ℕ → Type 0
IsThere x n d = is_gone (x.nodes n) d ≡ false

abbrev pub IsDirectory : Linux → ℕ → ℕ → Type 0
IsDirectory x n d = object_at (x.nodes n) d ≡ Some object.Dir

-- what others do between two moments leaves these
pub record IsLinux (x : Linux) : Type 0 where
  -- inode(7): an object is one of its kind for good
  pub stays : (n y : ℕ) (what : Object) → object_at (x.nodes n) y ≡ Some what
      → object_at (x.nodes (suc n)) y ≡ Some what
  -- rmdir(2): a directory that was removed stays so
  pub gone : (n d : ℕ) → IsDirectory x n d → IsGone x n d → IsGone x (suc n) d

-- ---- descriptors

-- a system call leaves each descriptor where it is
abbrev pub Same : Linux → ℕ → Type 0
Same x n = (fd : ℕ) → x.on (suc n) fd ≡ x.on n fd

-- so of the node on which this descriptor is open
abbrev pub OnOpen : Linux → ℕ → ℕ → (ℕ → Type 0) → Type 0
OnOpen x n fd Is = (y : ℕ) → x.on n fd ≡ Some y → Is y

-- openat2(2): a number that was free is open on the object that was found; O_DIRECTORY opens a directory alone
pub record Opens (x : Linux) (n fd : ℕ) (how : How) (Finds : ℕ → Type 0) : Type 0 where
  pub node : ℕ
  pub what : Object
  pub free : x.on n fd ≡ None
  pub is_on : x.on (suc n) fd ≡ Some node
  pub others : (other : ℕ) → other ≢ fd → x.on (suc n) other ≡ x.on n other
  pub is : object_at (x.nodes (suc n)) node ≡ Some what
  pub directory : how.directory ≡ true → what ≡ object.Dir
  pub finds : Finds node

pub record OpenSays (x : Linux) (n : ℕ) (how : How) (a : Answer) (Finds : ℕ → Type 0) (Misses : Type 0) : Type 0 where
  pub opened : a.error ≡ 0 → Opens x n a.value how Finds
  pub failed : a.error ≢ 0 → Same x n
  pub missing : a.error ≡ ENOENT → Misses

-- a system call that looks at what is open
pub record Looks (x : Linux) (n fd : ℕ) (Tells : ℕ → Type 0) : Type 0 where
  pub same : Same x n
  pub tells : OnOpen x n fd Tells

-- close(2), whatever it gives
pub record Closes (x : Linux) (n fd : ℕ) : Type 0 where
  pub closed : x.on (suc n) fd ≡ None
  pub others : (other : ℕ) → other ≢ fd → x.on (suc n) other ≡ x.on n other

-- ---- the tree

-- openat2(2), O_NOFOLLOW: of what is no directory the errors are others (ENOTDIR)
abbrev pub IsEntry : Linux → ℕ → List ℕ → Option ℕ → ℕ → Type 0
IsEntry x n name node d = IsDirectory x n d × (child (x.nodes n) d name ≡ node)

-- `..` is the directory above; of a removed directory the one that it last stood in
abbrev pub IsAbove : Linux → ℕ → ℕ → ℕ → Type 0
IsAbove x n node d = IsDirectory x n d × (IsGone x n d ⊎ (parent (x.nodes n) d ≡ Some node))

-- stat(2), rmdir(2): the kind is the object's. A removed directory has no link, but on such a file system, and in
-- sysfs, where the kernel itself removes directories; one that has none is removed.
pub record StatSays (x : Linux) (n y : ℕ) (a : Answer) : Type 0 where
  pub what : Object
  pub is : object_at (x.nodes n) y ≡ Some what
  pub kind : kind_by_mode a.mode ≡ kind_of what
  pub none : what ≡ object.Dir → a.links ≡ 0 → IsGone x n y
  pub some : what ≡ object.Dir → a.links ≢ 0 → (x.layered y ≡ true) ⊎ IsThere x n y

-- getdents64(2): ENOENT is a removed directory's; of one that is there something is read
pub record ReadSays (x : Linux) (n d error : ℕ) : Type 0 where
  pub gone : error ≡ ENOENT → IsGone x n d
  pub there : error ≡ 0 → IsThere x n d

-- ---- each answer

abbrev pub Says : Linux → ℕ → SystemCall → Answer → Type 0
Says x n (open_name dir name how) a =
    OpenSays x n how a (λ y. how.no_follow ≡ true → OnOpen x n dir (IsEntry x (suc n) name (Some y)))
    (how.no_follow ≡ true → OnOpen x n dir (IsEntry x (suc n) name None))
-- open(2): of a directory that is to be read ENOENT says that it was removed
Says x n (open_same dir how) a =
    OpenSays x n how a (λ y. x.on n dir ≡ Some y) (how.path ≡ false → OnOpen x n dir (IsGone x (suc n)))
Says x n (open_above dir how) a =
    OpenSays x n how a (λ y. OnOpen x n dir (IsAbove x (suc n) y)) (OnOpen x n dir (IsDirectory x (suc n)))
Says x n (stats fd) a = Looks x n fd (λ y. a.error ≡ 0 → StatSays x (suc n) y a)
-- statfs(2): the type of the file system
Says x n (stats_file_system fd) a =
    Looks x n fd (λ y. a.error ≡ 0 → keeps_links a.file_system ≡ false → x.layered y ≡ false)
Says x n (reads_entries fd) a = Looks x n fd (λ d. ReadSays x (suc n) d a.error)
-- readlinkat(2) with an empty path: the text of the link itself
Says x n (reads_link fd) a =
    Looks x n fd (λ y. a.error ≡ 0 → object_at (x.nodes (suc n)) y ≡ Some (object.Link (x.text (suc n))))
Says x n (closes fd) a = Closes x n fd
-- of these no step asks; what fails opens nothing
Says x n (look_up dir path flags resolve) a = a.error ≢ 0 → Same x n
Says x n (opens dir path flags mode) a = a.error ≢ 0 → Same x n
Says x n copies_proc a = a.error ≢ 0 → Same x n
Says x n (stats_name dir name) a = Same x n
Says x n (reads_object_link proc fd) a = Same x n
Says x n (reads_thread proc) a = Same x n
Says x n _ a = Unit {0}

-- a file system says its type, and a directory that is read whether it is there
abbrev pub is_told : SystemCall → ℕ → Bool
is_told (open_same dir how) error = how.path || ((error == 0) || ((error == EINTR) || (error == ENOENT)))
is_told (stats_file_system fd) error = (error == 0) || (error == EINTR)
is_told (reads_entries fd) error = (error == 0) || ((error == EINTR) || (error == ENOENT))
is_told _ error = true

abbrev pub IsTold : Linux → SystemCall → Answer → Type 0
IsTold x q a = x.asks ≡ true → is_told q a.error ≡ true

-- each answer says what is said of it, one moment after another
abbrev pub AreAnswers : Linux → ℕ → List Exchange → Type 0
AreAnswers x n [] = Unit {0}
AreAnswers x n (e ∷ es) = Says x n e.asked e.answer × IsTold x e.asked e.answer × AreAnswers x (suc n) es

abbrev pub moment_behind : ℕ → List Exchange → ℕ
moment_behind n [] = n
moment_behind n (e ∷ es) = moment_behind (suc n) es
