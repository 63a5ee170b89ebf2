-- What an operation means changes the entries of a tree in one of the ways that the step table knows, or nothing.
use Rattle.std.proofs.Common.{◌≡◌, ℕ, List, Bool, true, false, ◌||◌, if◌then◌else◌, None, Result, Ok, Err, refl, sym, ap, subst}
use Rattle.path_text.specs.declared.errno.Errno.{Errno}
use Rattle.path_text.specs.declared.errno.Errno.TheVariants.{NotDir, Invalid}
use Rattle.path_text.specs.declared.path.Rule.{Rule}
use Rattle.path_text.specs.declared.path.Rule.TheVariants.{Drop, Refuse}
use Rattle.tree_model.specs.declared.answer.Answer.{Answer}
use Rattle.tree_model.specs.declared.answer.Answer.TheVariants as answer
use Rattle.tree_model.specs.declared.inode.Inode.{Inode}
use Rattle.tree_model.specs.StepWith.{StepWith}
use Rattle.path_text.specs.Reading.{Reading}
use Rattle.path_text.specs.Text.{text_fault, reading_of}
use Rattle.tree_model.specs.State.{State, is_dir}
use Rattle.tree_model.specs.Entries.{refuse_by}
use Rattle.tree_model.specs.Steps.{Outcome, outcome}
use Rattle.tree_model.specs.StepLaws.{only_tells}
use Rattle.tree_model.proofs.Changed.{Changed, kept, IfDone, MakeDir-changed, MakeFile-changed, MakeLink-changed, RemoveFile-changed, RemoveDir-changed, Rename-changed, Changed-tree, Changed-grows, Changed-by_one}
use Rattle.tree_model.proofs.Outcomes.{Does, refuses as refuses_it, tells as only_tells_it, opens_on, closes as closes_it, changes_to, does}
use Rattle.tree_model.proofs.Refusals.{refuse_by-both}
use Rattle.tree_model.proofs.StepLaws.{telling_changes_nothing}
use Rattle.step_resolver.specs.Meaning.{Ground}
use Rattle.step_resolver.specs.Deepest.{reading_deepest}
use Rattle.bulk_ops.specs.MakeAllQuiet.{MakeMeant, refuses, gives, make_means}
use Rattle.bulk_ops.specs.RemoveAllQuiet.{cleared, cleared_rows}
use Rattle.root_ops.specs.declared.op.Op.{Op}
use Rattle.root_ops.specs.declared.op.Op.TheVariants.{Resolve, ResolveNoFollow, ReadLink, CreateFile, CreateDir, CreateLink, RemoveFile, RemoveDir, Rename, MkdirAll, RemoveAll, Single, Release}
use Rattle.root_ops.specs.Meaning.{Caller, Told, counts, fails, Whole, and_then, directory_of, entry_of, changed_at, no_directory, tells, changes, told_by, made, makes_along, clears, unless_error, steps, op_means}
use Rattle.root_ops.specs.MeaningLaws.{OperationsKeepTrees, OperationsKeepNodes, ErrorsChangeNothing}
use Rattle.root_ops.specs.Order.{is_single}
use Rattle.root_ops.specs.StepCount.{is_bulk}
use Rattle.root_ops.proofs.Quiet.BulkTrees.{IsGrown, grown_same, nodes_of, makes_grown, clears_grown}

onward_done : {A : Type 0} (P : List Inode → Type 0) (first : Result A Errno) (onward : A → Result (List Inode) Errno) → ((x : A) → IfDone P (onward x))
    → IfDone P (and_then first onward)
onward_done P (Ok x) onward each = each x
onward_done P (Err error) onward each = tt

module _ (c : Caller) where
  abbrev IsChange : Whole → Type 0
  IsChange whole = Changed c.tree.nodes whole.nodes

  tells_is : {A : Type 0} (reply : A → Told) (result : Result A Errno) → IsChange (tells c reply result)
  tells_is reply (Ok value) = kept
  tells_is reply (Err error) = kept

  changes_is : (result : Result (List Inode) Errno) → IfDone (Changed c.tree.nodes) result → IsChange (changes c result)
  changes_is (Ok nodes) changed = changed
  changes_is (Err error) changed = kept

  at_entry : (text : List ℕ) (rule : Rule) (change : ℕ → List ℕ → Result (List Inode) Errno)
      → ((d : ℕ) (n : List ℕ) → IfDone (Changed c.tree.nodes) (change d n)) → IsChange (changes c (changed_at c text rule change))
  at_entry text rule change each = changes_is (changed_at c text rule change)
      (onward_done (Changed c.tree.nodes) (entry_of text rule) _ (λ split. onward_done (Changed c.tree.nodes) (directory_of c split.dir) _ (λ d. each d split.name)))

  step_is : {step : StepWith ℕ} {o : Outcome} → Does c.tree c.actor step o → Changed c.tree.nodes o.after.nodes
  step_is (refuses_it error) = kept
  step_is (only_tells_it answer e) = kept
  step_is (opens_on x what e1 e2 e3) = kept
  step_is (closes_it h x e) = kept
  step_is (changes_to nodes e changed) = changed

  single_is : (step : StepWith ℕ) (allowed : Bool) → IsChange (if allowed then steps (outcome c.tree c.actor step) else record { reply = fails Invalid; nodes = c.tree.nodes })
  single_is step true = step_is (does c.tree c.actor step)
  single_is step false = kept

  op_changes : (op : Op) → is_bulk op ≡ false → IsChange (op_means c op)
  op_changes (Resolve text) single = tells_is _ _
  op_changes (ResolveNoFollow text) single = tells_is _ _
  op_changes (ReadLink text) single = tells_is _ _
  op_changes (CreateFile text) single = at_entry text Refuse _ (MakeFile-changed c.tree.nodes)
  op_changes (CreateDir text) single = at_entry text Drop _ (MakeDir-changed c.tree.nodes)
  op_changes (CreateLink text target) single = at_entry text Refuse _ (λ d n. MakeLink-changed c.tree.nodes d n target)
  op_changes (RemoveFile text) single = at_entry text Refuse _ (RemoveFile-changed c.tree.nodes)
  op_changes (RemoveDir text) single = at_entry text Drop _ (RemoveDir-changed c.tree.nodes)
  op_changes (Rename old new mode) single = changes_is _
      (onward_done (Changed c.tree.nodes) (entry_of old Drop) _ (λ from. onward_done (Changed c.tree.nodes) (entry_of new Drop) _ (λ to.
      onward_done (Changed c.tree.nodes) (directory_of c from.dir) _ (λ d. onward_done (Changed c.tree.nodes) (directory_of c to.dir) _ (λ f.
      refuse_by-both (IfDone (Changed c.tree.nodes)) (if from.slash || to.slash then no_directory c.tree.nodes d from.name else None) _ (λ error. tt)
      (λ e. Rename-changed c.tree.nodes d from.name f to.name mode))))))
  op_changes (MkdirAll text) single = cc (single)
  op_changes (RemoveAll text) single = cc (single)
  op_changes (Single step) single = single_is step (is_single step)
  op_changes (Release standing) single = kept

  -- ---- errors

  tells_same : {A : Type 0} (reply : A → Told) (result : Result A Errno) → (tells c reply result).nodes ≡ c.tree.nodes
  tells_same reply (Ok value) = refl
  tells_same reply (Err error) = refl

  changes_same : (result : Result (List Inode) Errno) (error : Errno) → (changes c result).reply ≡ fails error → (changes c result).nodes ≡ c.tree.nodes
  changes_same (Ok nodes) error is = cc (is)
  changes_same (Err cause) error is = refl

  error_tells : (told : Answer) (error : Errno) → told_by told ≡ fails error → only_tells told ≡ true
  error_tells (answer.Opened h x kind) error is = cc (is)
  error_tells (answer.Text text) error is = refl
  error_tells (answer.Names names) error is = refl
  error_tells answer.NotBelow error is = refl
  error_tells (answer.Listed names) error is = refl
  error_tells answer.Done error is = cc (is)
  error_tells (answer.Refused cause) error is = refl

  single_same : (step : StepWith ℕ) (allowed : Bool) (error : Errno)
      → (if allowed then steps (outcome c.tree c.actor step) else record { reply = fails Invalid; nodes = c.tree.nodes }).reply ≡ fails error
      → (if allowed then steps (outcome c.tree c.actor step) else record { reply = fails Invalid; nodes = c.tree.nodes }).nodes ≡ c.tree.nodes
  single_same step true error is = ap (λ (s : State). s.nodes) (telling_changes_nothing c.tree c.actor step (error_tells (outcome c.tree c.actor step).answer error is))
  single_same step false error is = refl

  unless_same : {A : Type 0} (result : Result A Errno) (onward : A → Whole) (error : Errno) → ((x : A) → (onward x).reply ≡ fails error → (onward x).nodes ≡ c.tree.nodes)
      → (unless_error c result onward).reply ≡ fails error → (unless_error c result onward).nodes ≡ c.tree.nodes
  unless_same (Ok x) onward error each is = each x is
  unless_same (Err cause) onward error each is = refl

  made_same : (meant : MakeMeant) (error : Errno) → (made c meant).reply ≡ fails error → (made c meant).nodes ≡ c.tree.nodes
  made_same (refuses cause) error is = refl
  made_same (gives x nodes) error is = cc (is)

  abbrev clears_if : List ℕ → ℕ → Bool → Whole
  clears_if target d b =
      if b then record { reply = counts (cleared_rows c.tree.nodes d target); nodes = cleared c.tree.nodes d target }
      else record { reply = fails NotDir; nodes = c.tree.nodes }

  clears_same : (target : List ℕ) (d : ℕ) (error : Errno) → (clears c target d).reply ≡ fails error → (clears c target d).nodes ≡ c.tree.nodes
  clears_same target d error = on (is_dir c.tree.nodes d)
    where
      on : (b : Bool) → (clears_if target d b).reply ≡ fails error → (clears_if target d b).nodes ≡ c.tree.nodes
      on true is = cc (is)
      on false is = refl

-- ---- all of them

whole_grown : {A : Type 0} (c : Caller) (result : Result A Errno) (onward : A → Whole) → ((x : A) → IsGrown c.tree.nodes (onward x).nodes)
    → IsGrown c.tree.nodes (unless_error c result onward).nodes
whole_grown c (Ok x) onward each = each x
whole_grown c (Err error) onward each = grown_same c.tree.nodes

made_nodes : (c : Caller) (meant : MakeMeant) → (made c meant).nodes ≡ nodes_of c.tree.nodes meant
made_nodes c (refuses error) = refl
made_nodes c (gives x nodes) = refl

along_grown : (c : Caller) (path : Reading) → IsGrown c.tree.nodes (makes_along c path).nodes
along_grown c path =
    let g : Ground = record { nodes = c.tree.nodes; root = c.root; flags = c.below.flags } in
    subst (IsGrown c.tree.nodes) (sym (made_nodes c (make_means c.tree.nodes (reading_deepest g path)))) (makes_grown g path)

in_directory_grown : (c : Caller) (target : List ℕ) (d : ℕ) (b : Bool) → IsGrown c.tree.nodes (clears_if c target d b).nodes
in_directory_grown c target d true = clears_grown c.tree.nodes d target
in_directory_grown c target d false = grown_same c.tree.nodes

bulk_grown : (c : Caller) (op : Op) → is_bulk op ≡ true → IsGrown c.tree.nodes (op_means c op).nodes
bulk_grown c (MkdirAll text) bulk = whole_grown c (refuse_by (text_fault text) (Ok (reading_of text))) _ (λ path. along_grown c path)
bulk_grown c (RemoveAll text) bulk =
    whole_grown c (entry_of text Drop) _ (λ split. whole_grown c (directory_of c split.dir) _ (λ d. in_directory_grown c split.name d (is_dir c.tree.nodes d)))
bulk_grown c op bulk = cc (bulk)

op_grown : (c : Caller) (op : Op) (b : Bool) → is_bulk op ≡ b → IsGrown c.tree.nodes (op_means c op).nodes
op_grown c op true bulk = bulk_grown c op bulk
op_grown c op false single = record { tree = λ is. Changed-tree is (op_changes c op single); objects = (Changed-grows (op_changes c op single)).objects }

pub operations_keep_trees : OperationsKeepTrees
operations_keep_trees c op is = (op_grown c op (is_bulk op) refl).tree is

pub operations_keep_nodes : OperationsKeepNodes
operations_keep_nodes c op = ((op_grown c op (is_bulk op) refl).objects, λ single. Changed-by_one (op_changes c op single))

pub errors_change_nothing : ErrorsChangeNothing
errors_change_nothing c (Resolve text) error is = tells_same c _ _
errors_change_nothing c (ResolveNoFollow text) error is = tells_same c _ _
errors_change_nothing c (ReadLink text) error is = tells_same c _ _
errors_change_nothing c (CreateFile text) error is = changes_same c _ error is
errors_change_nothing c (CreateDir text) error is = changes_same c _ error is
errors_change_nothing c (CreateLink text target) error is = changes_same c _ error is
errors_change_nothing c (RemoveFile text) error is = changes_same c _ error is
errors_change_nothing c (RemoveDir text) error is = changes_same c _ error is
errors_change_nothing c (Rename old new mode) error is = changes_same c _ error is
errors_change_nothing c (MkdirAll text) error is = unless_same c (refuse_by (text_fault text) (Ok (reading_of text))) _ error (λ path e. made_same c (make_means c.tree.nodes (reading_deepest (record { nodes = c.tree.nodes; root = c.root; flags = c.below.flags }) path)) error e) is
errors_change_nothing c (RemoveAll text) error is = unless_same c (entry_of text Drop) _ error
    (λ split e. unless_same c (directory_of c split.dir) _ error (λ d q. clears_same c split.name d error q) e) is
errors_change_nothing c (Single step) error is = single_same c step (is_single step) error is
errors_change_nothing c (Release standing) error is = refl
