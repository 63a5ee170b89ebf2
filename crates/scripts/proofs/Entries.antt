-- What the tree of a script is, from what was read and built of its entries.
use Rattle.std.proofs.Common.{◌≡◌, ◌≢◌, ℕ, ◌<◌, ◌≤◌, Bool, true, false, List, [], ◌∷◌, length, refl, sym, ap, ◌∙◌, inl, inr, arith, eq-eqb, rules}
use Rattle.std.specs.Prelude.{◌⊎◌, ◌==◌, if◌then◌else◌, nat_lt, Result, Ok, Err}
use Rattle.std.proofs.lemmas.Bool.{eqb-true}
use Rattle.serde_json.specs.declared.value.Value.{Value}
use Rattle.serde_json.specs.View.{items_view}
use Rattle.path_text.specs.declared.errno.Errno.{Errno}
use Rattle.path_text.specs.declared.errno.Errno.TheVariants as errno
use Rattle.tree_model.specs.declared.inode.Inode.{Inode}
use Rattle.tree_model.specs.Entries.{refuse_if}
use Rattle.tree_list.specs.declared.build.BuildFault.{BuildFault}
use Rattle.tree_list.specs.declared.build.Entry.{Entry}
use Rattle.tree_list.specs.Build.{built, IsFaultOf as IsBuildFaultOf}
use Rattle.scripts.specs.declared.fault.Cause.TheVariants.{Shape, Refused}
use Rattle.scripts.specs.declared.fault.ScriptFault.{ScriptFault}
use Rattle.scripts.specs.declared.fault.ScriptFault.TheVariants.{TooManyEntries, TreeEntry}
use Rattle.scripts.specs.declared.tree.TheConstants.{ENTRIES_MAX}
use Rattle.scripts.specs.Fault.{IsFaultOf}
use Rattle.scripts.specs.Checks.{count_of}
use Rattle.scripts.specs.Tree.{entries_of, tree_built, tree_of, told_by}

pub count_of-items_view : (vs : List Value) → count_of (items_view vs) ≡ length vs
count_of-items_view [] = refl
count_of-items_view (v ∷ vs) = let rest = count_of-items_view vs in omega (arith, rest)

is_over : (a b : ℕ) (t : Bool) → nat_lt a b ≡ t → a < b → nat_lt a b ≡ true
is_over a b true e over = e
is_over a b false e over = search rules

pub is_within : (a b : ℕ) (t : Bool) → nat_lt a b ≡ t → b ≤ a → nat_lt a b ≡ false
is_within a b true e within = search rules
is_within a b false e within = e

pub too_many : (vs : List Value) → ENTRIES_MAX < length vs → tree_of (items_view vs) ≡ Err TooManyEntries
too_many vs over =
    let counted : nat_lt ENTRIES_MAX (count_of (items_view vs)) ≡ true =
    ap (nat_lt ENTRIES_MAX) (count_of-items_view vs) ∙ is_over ENTRIES_MAX (length vs) (nat_lt ENTRIES_MAX (length vs)) refl over in
    ap (λ (t : Bool). refuse_if t (Err TooManyEntries) (tree_built (built (entries_of (items_view vs))) (length (entries_of (items_view vs))) (count_of (items_view vs)))) counted

-- the entries of good shape were read of few enough values, and building them gave this
pub record IsRead (vs : List Value) (entries : List Entry) (gave : Result (List Inode) BuildFault) : Type 0 where
  pub few : length vs ≤ ENTRIES_MAX
  pub shaped : entries ≡ entries_of (items_view vs)
  pub built : built entries ≡ gave

tree_read : (vs : List Value) (entries : List Entry) (gave : Result (List Inode) BuildFault) → IsRead vs entries gave
    → tree_of (items_view vs) ≡ tree_built gave (length entries) (length vs)
tree_read vs entries gave r =
    let counted : nat_lt ENTRIES_MAX (count_of (items_view vs)) ≡ false =
    ap (nat_lt ENTRIES_MAX) (count_of-items_view vs) ∙ is_within ENTRIES_MAX (length vs) (nat_lt ENTRIES_MAX (length vs)) refl r.few in
    ap (λ (t : Bool). refuse_if t (Err TooManyEntries) (tree_built (built (entries_of (items_view vs))) (length (entries_of (items_view vs))) (count_of (items_view vs)))) counted
    ∙ ap (λ (n : ℕ). tree_built (built (entries_of (items_view vs))) (length (entries_of (items_view vs))) n) (count_of-items_view vs)
    ∙ ap (λ (es : List Entry). tree_built (built es) (length es) (length vs)) (sym r.shaped)
    ∙ ap (λ (g : Result (List Inode) BuildFault). tree_built g (length entries) (length vs)) r.built

pub tree_whole : (vs : List Value) (entries : List Entry) (nodes : List Inode) → IsRead vs entries (Ok nodes)
    → length entries ≡ length vs → tree_of (items_view vs) ≡ Ok nodes
tree_whole vs entries nodes r same =
    tree_read vs entries (Ok nodes) r
    ∙ ap (λ (t : Bool). if t then Ok nodes else Err (TreeEntry (length entries) Shape)) (eq-eqb (length entries) (length vs) same)

pub unequal : (a b : ℕ) (t : Bool) → (a == b) ≡ t → a ≢ b → (a == b) ≡ false
unequal a b true e apart = absurd (apart (eqb-true a b e))
unequal a b false e apart = e

pub tree_misshaped : (vs : List Value) (entries : List Entry) (nodes : List Inode) → IsRead vs entries (Ok nodes)
    → length entries ≢ length vs → tree_of (items_view vs) ≡ Err (TreeEntry (length entries) Shape)
tree_misshaped vs entries nodes r apart =
    tree_read vs entries (Ok nodes) r
    ∙ ap (λ (t : Bool). if t then Ok nodes else Err (TreeEntry (length entries) Shape)) (unequal (length entries) (length vs) (length entries == length vs) refl apart)

tells : (said : Result (List Inode) ScriptFault) (cause : Errno) (k : ℕ) → (said ≡ Err (TreeEntry k (Refused cause))) ⊎ (cause ≡ errno.NoMemory) → IsFaultOf said (told_by cause k)
tells said errno.NoMemory k h = tt
tells said other k (inl e) = e
tells said other k (inr e) = cc (e)

pub tree_refused : (vs : List Value) (entries : List Entry) (fault : BuildFault) → length vs ≤ ENTRIES_MAX → entries ≡ entries_of (items_view vs)
    → IsBuildFaultOf entries fault → IsFaultOf (tree_of (items_view vs)) (told_by fault.cause fault.at)
tree_refused vs entries fault few entries_are (inl e) =
    tells _ fault.cause fault.at (inl (tree_read vs entries (Err fault) (record { few = few; shaped = entries_are; built = e })))
tree_refused vs entries fault few entries_are (inr m) = tells _ fault.cause fault.at (inr m.0)
