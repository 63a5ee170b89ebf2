-- What changes a directory's entries, as functions of the nodes alone: the refusal, or the nodes after it.
-- mkdir(2), open(2) with O_CREAT and O_EXCL, symlink(2), unlink(2), rmdir(2), rename(2), renameat2(2).
use Rattle.std.specs.Prelude.{ℕ, List, [], ◌∷◌, ◌++◌, ◌==◌, ◌&&◌, Bool, not, if◌then◌else◌, nat_le, length, Option, Some, None, is_some, Result, Ok, Err}
use Rattle.path_text.specs.declared.errno.Errno.{Errno}
use Rattle.path_text.specs.declared.errno.Errno.TheVariants.{NotFound, Exists, NotDir, IsDir, Invalid, TooMany, NotEmpty}
use Rattle.path_text.specs.Text.{text_fault}
use Rattle.tree_model.specs.declared.inode.Inode.{Inode}
use Rattle.tree_model.specs.declared.inode.Object.{Object}
use Rattle.tree_model.specs.declared.inode.Object.TheVariants.{Link}
use Rattle.tree_model.specs.declared.step.Mode.{Mode}
use Rattle.tree_model.specs.declared.step.Mode.TheVariants.{Plain, NoReplace, Exchange}
use Rattle.tree_model.specs.declared.tree.TheConstants.{NUMBERS_MAX}
use Rattle.tree_model.specs.State.{child, is_dir, is_gone, is_within, has_entries, put_at}

-- the refusal where the test holds
abbrev pub refuse_if : {A : Type 0} → Bool → A → A → A
refuse_if test refusal otherwise = if test then refusal else otherwise

-- the refusal where there is no value
abbrev pub with_some : {A B : Type 0} → Option A → B → (A → B) → B
with_some None refusal otherwise = refusal
with_some (Some x) refusal otherwise = otherwise x

-- the fault where there is one
abbrev pub refuse_by : {A : Type 0} → Option Errno → Result A Errno → Result A Errno
refuse_by None otherwise = otherwise
refuse_by (Some fault) otherwise = Err fault

-- a new node at an entry that wasn't there
abbrev pub makes : List Inode → ℕ → List ℕ → Object → Result (List Inode) Errno
makes nodes d n object =
    refuse_if (not (is_dir nodes d)) (Err NotDir)
    (refuse_if (is_gone nodes d) (Err NotFound)
    (refuse_if (is_some (child nodes d n)) (Err Exists)
    (refuse_if (nat_le NUMBERS_MAX (length nodes)) (Err TooMany)
    (Ok (nodes ++ record { object = object; place = Some (record { parent = d; name = n }) } ∷ [])))))

-- a new link, whose text is one of a path
abbrev pub makes_link : List Inode → ℕ → List ℕ → List ℕ → Result (List Inode) Errno
makes_link nodes d n text = refuse_by (text_fault text) (makes nodes d n (Link text))

-- the entry of what is no directory goes
abbrev pub removes_file : List Inode → ℕ → List ℕ → Result (List Inode) Errno
removes_file nodes d n =
    refuse_if (not (is_dir nodes d)) (Err NotDir)
    (with_some (child nodes d n) (Err NotFound) (λ c.
    refuse_if (is_dir nodes c) (Err IsDir)
    (Ok (put_at nodes c None))))

-- the entry of an empty directory goes
abbrev pub removes_dir : List Inode → ℕ → List ℕ → Result (List Inode) Errno
removes_dir nodes d n =
    refuse_if (not (is_dir nodes d)) (Err NotDir)
    (with_some (child nodes d n) (Err NotFound) (λ c.
    refuse_if (not (is_dir nodes c)) (Err NotDir)
    (refuse_if (has_entries nodes c) (Err NotEmpty)
    (Ok (put_at nodes c None)))))

-- c gets an entry of its own; it can't go into itself
abbrev pub moves : List Inode → ℕ → ℕ → List ℕ → Result (List Inode) Errno
moves nodes c d n =
    refuse_if (is_within nodes c d) (Err Invalid)
    (Ok (put_at nodes c (Some (record { parent = d; name = n }))))

-- why c can't take the place of e: a directory takes only that of an empty one, anything else only that of no
-- directory
abbrev pub replace_fault : List Inode → ℕ → ℕ → Option Errno
replace_fault nodes c e =
    if is_dir nodes c && not (is_dir nodes e) then Some NotDir
    else (if not (is_dir nodes c) && is_dir nodes e then Some IsDir
    else (if is_dir nodes e && has_entries nodes e then Some NotEmpty else None))

-- c takes the entry of e, which has none then
abbrev pub replaces : List Inode → ℕ → ℕ → List ℕ → ℕ → Result (List Inode) Errno
replaces nodes c d n e =
    refuse_if (is_within nodes c d) (Err Invalid)
    (refuse_by (replace_fault nodes c e)
    (Ok (put_at (put_at nodes e None) c (Some (record { parent = d; name = n })))))

-- c, at name n of d, and e, at name m of f, change places; neither can go into itself
abbrev pub exchanges : List Inode → ℕ → ℕ → List ℕ → ℕ → ℕ → List ℕ → Result (List Inode) Errno
exchanges nodes c d n e f m =
    refuse_if (is_within nodes c f) (Err Invalid)
    (refuse_if (is_within nodes e d) (Err Invalid)
    (Ok (put_at (put_at nodes c (Some (record { parent = f; name = m }))) e (Some (record { parent = d; name = n })))))

-- c, at name n of d, is renamed to name m of f, where the entry is e if it is there; onto itself nothing changes
abbrev pub renames_child : List Inode → ℕ → ℕ → List ℕ → ℕ → List ℕ → Mode → Option ℕ → Result (List Inode) Errno
renames_child nodes c d n f m Plain None = moves nodes c f m
renames_child nodes c d n f m Plain (Some e) = if c == e then Ok nodes else replaces nodes c f m e
renames_child nodes c d n f m NoReplace None = moves nodes c f m
renames_child nodes c d n f m NoReplace (Some e) = Err Exists
renames_child nodes c d n f m Exchange None = Err NotFound
renames_child nodes c d n f m Exchange (Some e) = if c == e then Ok nodes else exchanges nodes c d n e f m

-- the entry of name n of d is renamed to name m of f
abbrev pub renames : List Inode → ℕ → List ℕ → ℕ → List ℕ → Mode → Result (List Inode) Errno
renames nodes d n f m mode =
    refuse_if (not (is_dir nodes d)) (Err NotDir)
    (refuse_if (not (is_dir nodes f)) (Err NotDir)
    (with_some (child nodes d n) (Err NotFound) (λ c.
    refuse_if (is_gone nodes f) (Err NotFound)
    (renames_child nodes c d n f m mode (child nodes f m)))))
