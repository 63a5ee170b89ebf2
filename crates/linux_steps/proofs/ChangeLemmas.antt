-- A change was made, or refused, as the step table has it in the tree that its one system call finds.
use Rattle.std.proofs.Common.{◌≡◌, ◌<◌, inl, ℕ, List, Bool, true, false, if◌then◌else◌, not, length, Some, None, refl, ap, ◌∙◌, arith}
use Rattle.std.specs.Prelude.{◌==◌, ◌&&◌, nat_le, nat_lt}
use Rattle.std.proofs.lemmas.Bool.{eqb-true, leb-true, ltb-true, false_from_ne_true}
use Rattle.path_text.specs.declared.errno.Errno.{Errno}
use Rattle.path_text.specs.declared.errno.Errno.TheVariants.{NotFound, BadHandle, Exists, IsDir, NotDir, NotEmpty, TooLong}
use Rattle.path_text.specs.declared.path.TheConstants.{TEXT_MAX}
use Rattle.path_text.specs.Text.{text_fault}
use Rattle.path_text.proofs.TextLemmas.{is_short}
use Rattle.system_calls.specs.Errors.{ENOENT, EEXIST, ENOTDIR, EISDIR, ENAMETOOLONG, ENOTEMPTY}
use Rattle.tree_model.specs.declared.answer.Answer.TheVariants as answers
use Rattle.tree_model.specs.declared.inode.Object.{Object}
use Rattle.tree_model.specs.declared.inode.Object.TheVariants as object
use Rattle.tree_model.specs.declared.step.StepOf.TheVariants.{MakeDir, MakeFile, MakeLink, RemoveFile, RemoveDir}
use Rattle.tree_model.specs.declared.tree.TheConstants.{NUMBERS_MAX}
use Rattle.tree_model.specs.Entries.{refuse_by, with_some, makes, removes_dir, removes_file}
use Rattle.tree_model.specs.State.{State, child, has_entries, is_dir, is_gone}
use Rattle.tree_model.specs.Steps.{held, outcome, refused}
use Rattle.tree_model.specs.Steps as tree
use Rattle.tree_model.specs.StepWith.{StepWith}
use Rattle.linux_steps.specs.Changes.{ChangeStood, DirectoryRemovalSays, IsIn, MakeSays, RemovalSays, change_ended, not_changed, not_made}
use Rattle.linux_steps.specs.declared.ended.Ended.{Ended}
use Rattle.linux_steps.specs.declared.ended.Ended.TheVariants.{Done, Refused, Unmade}

-- ---- how a step ends

pub if_elim : (P : Ended → Type 0) (b : Bool) (x y : Ended) → (b ≡ true → P x) → (b ≡ false → P y)
    → P (if b then x else y)
if_elim P true x y h k = h refl
if_elim P false x y h k = k refl

module _ (s : State) (a : ℕ) (it : StepWith ℕ) where
  abbrev pub Stood : Ended → Type 0
  Stood end = ChangeStood s a it end

  abbrev pub Tells : answers.the_data → Type 0
  Tells answer = (outcome s a it).answer ≡ answer

  pub ended : (second : Bool) (error : ℕ) → (error ≡ 0 → Tells answers.Done) → Stood (not_changed it error)
      → Stood (change_ended it second error)
  ended second error done other =
      if_elim Stood (error == 0) Done _ (λ b. done (eqb-true error 0 b))
      (λ b. if_elim Stood (second && not (error == EEXIST)) (Unmade error) (not_changed it error) (λ c. tt) (λ c. other))

  -- refused by the error of this number
  pub refuses : (error number : ℕ) (why : Errno) (rest : Ended) → (error ≡ number → Tells (answers.Refused why))
      → Stood rest → Stood (if error == number then Refused why else rest)
  refuses error number why rest told other =
      if_elim Stood (error == number) (Refused why) rest (λ b. inl (told (eqb-true error number b))) (λ b. other)

-- ---- the step table

module _ (s : State) (d : ℕ) (name : List ℕ) (dir : is_dir s.nodes d ≡ true) where
  makes_it : (object : Object) → is_gone s.nodes d ≡ false → child s.nodes d name ≡ None
      → nat_le NUMBERS_MAX (length s.nodes) ≡ false → (tree.changes s (makes s.nodes d name object)).answer ≡ answers.Done
  makes_it object there none few = simp (dir, there, none, few)

  exists : (object : Object) (c : ℕ) → is_gone s.nodes d ≡ false → child s.nodes d name ≡ Some c
      → (tree.changes s (makes s.nodes d name object)).answer ≡ answers.Refused Exists
  exists object c there some = simp (dir, there, some)

  is_removed : (object : Object) → is_gone s.nodes d ≡ true
      → (tree.changes s (makes s.nodes d name object)).answer ≡ answers.Refused NotFound
  is_removed object gone = simp (dir, gone)

  removes_it : (c : ℕ) → child s.nodes d name ≡ Some c → is_dir s.nodes c ≡ false
      → (tree.changes s (removes_file s.nodes d name)).answer ≡ answers.Done
  removes_it c entry file = simp (dir, entry, file)

  is_a_directory : (c : ℕ) → child s.nodes d name ≡ Some c → is_dir s.nodes c ≡ true
      → (tree.changes s (removes_file s.nodes d name)).answer ≡ answers.Refused IsDir
  is_a_directory c entry it = simp (dir, entry, it)

  no_file : child s.nodes d name ≡ None → (tree.changes s (removes_file s.nodes d name)).answer ≡ answers.Refused NotFound
  no_file none = simp (dir, none)

  removes_empty : (c : ℕ) → child s.nodes d name ≡ Some c → is_dir s.nodes c ≡ true → has_entries s.nodes c ≡ false
      → (tree.changes s (removes_dir s.nodes d name)).answer ≡ answers.Done
  removes_empty c entry it empty = simp (dir, entry, it, empty)

  has_some : (c : ℕ) → child s.nodes d name ≡ Some c → is_dir s.nodes c ≡ true → has_entries s.nodes c ≡ true
      → (tree.changes s (removes_dir s.nodes d name)).answer ≡ answers.Refused NotEmpty
  has_some c entry it full = simp (dir, entry, it, full)

  is_no_directory : (c : ℕ) → child s.nodes d name ≡ Some c → is_dir s.nodes c ≡ false
      → (tree.changes s (removes_dir s.nodes d name)).answer ≡ answers.Refused NotDir
  is_no_directory c entry it = simp (dir, entry, it)

  no_directory : child s.nodes d name ≡ None
      → (tree.changes s (removes_dir s.nodes d name)).answer ≡ answers.Refused NotFound
  no_directory none = simp (dir, none)

-- ---- the steps

pub on_held : (s : State) (a h d : ℕ) (g : ℕ → tree.Outcome) → held s a h ≡ Some d
    → (with_some (held s a h) (refused s BadHandle) g).answer ≡ (g d).answer
on_held s a h d g e = ap (λ o. (with_some o (refused s BadHandle) g).answer) e

few_nodes : (count : ℕ) → count < 281474976710656 → nat_le NUMBERS_MAX count ≡ false
few_nodes count few =
    let most : NUMBERS_MAX ≡ 281474976710656 = refl in
    false_from_ne_true (nat_le NUMBERS_MAX count) (λ e. absurd (omega (arith, few, most, leb-true NUMBERS_MAX count e)))

module _ (s : State) (a h : ℕ) (name : List ℕ) (d : IsIn s a h) where
  -- of each kind of object, once the step is known to make it
  module _ (it : StepWith ℕ) (object : Object) (error : ℕ) (says : MakeSays s.nodes d.node name error)
      (same : (outcome s a it).answer ≡ (tree.changes s (makes s.nodes d.node name object)).answer) where
    was_made : error ≡ 0 → Tells s a it answers.Done
    was_made e =
        let it_is = says.made e in
        same ∙ makes_it s d.node name d.directory object it_is.0 it_is.1 (few_nodes (length s.nodes) says.few)

    was_refused : Stood s a it (not_made error)
    was_refused =
        refuses s a it error ENOENT NotFound _ (λ e. same ∙ is_removed s d.node name d.directory object (says.missing e))
        (refuses s a it error EEXIST Exists (Unmade error)
        (λ e. let some = says.exists e in
        same ∙ exists s d.node name d.directory object some.1.1.node some.0 some.1.1.entry) tt)

  pub directories : (second : Bool) (error : ℕ) → MakeSays s.nodes d.node name error
      → Stood s a (MakeDir h name) (change_ended (MakeDir h name) second error)
  directories second error says =
      let same = on_held s a h d.node (λ n. tree.changes s (makes s.nodes n name object.Dir)) d.is_open in
      ended s a (MakeDir h name) second error (was_made (MakeDir h name) object.Dir error says same)
      (was_refused (MakeDir h name) object.Dir error says same)

  pub files : (second : Bool) (error : ℕ) → MakeSays s.nodes d.node name error
      → Stood s a (MakeFile h name) (change_ended (MakeFile h name) second error)
  files second error says =
      let same = on_held s a h d.node (λ n. tree.changes s (makes s.nodes n name object.File)) d.is_open in
      ended s a (MakeFile h name) second error (was_made (MakeFile h name) object.File error says same)
      (was_refused (MakeFile h name) object.File error says same)

  pub links : (second : Bool) (error : ℕ) (text : List ℕ) → text_fault text ≡ None → MakeSays s.nodes d.node name error
      → Stood s a (MakeLink h name text) (change_ended (MakeLink h name text) second error)
  links second error text fine says =
      let it = MakeLink h name text in
      let same =
      on_held s a h d.node (λ n. tree.changes s (refuse_by (text_fault text) (makes s.nodes n name (object.Link text)))) d.is_open
      ∙ ap (λ o. (tree.changes s (refuse_by o (makes s.nodes d.node name (object.Link text)))).answer) fine in
      ended s a it second error (was_made it (object.Link text) error says same)
      (if_elim (Stood s a it) ((error == ENAMETOOLONG) && nat_lt 4095 (length text)) (Refused TooLong) (not_made error)
      (λ b. absurd (too_long (error == ENAMETOOLONG) b))
      (λ b. was_refused it (object.Link text) error says same))
    where
      too_long : (b : Bool) → (b && nat_lt 4095 (length text)) ≡ true → ⊥
      too_long true e =
          let most : TEXT_MAX ≡ 4095 = refl in
          omega (arith, most, is_short text fine, ltb-true 4095 (length text) e)
      too_long false e = absurd cc

  pub removals : (second : Bool) (error : ℕ) → RemovalSays s.nodes d.node name error
      → Stood s a (RemoveFile h name) (change_ended (RemoveFile h name) second error)
  removals second error says =
      let it = RemoveFile h name in
      let same = on_held s a h d.node (λ n. tree.changes s (removes_file s.nodes n name)) d.is_open in
      ended s a it second error
      (λ e. let entry = says.removed e in same ∙ removes_it s d.node name d.directory entry.node entry.entry entry.is)
      (refuses s a it error ENOENT NotFound _ (λ e. same ∙ no_file s d.node name d.directory (says.missing e))
      (refuses s a it error EISDIR IsDir (Unmade error)
      (λ e. let entry = says.directory e in
      same ∙ is_a_directory s d.node name d.directory entry.node entry.entry entry.is) tt))

  pub directory_removals : (second : Bool) (error : ℕ) → DirectoryRemovalSays s.nodes d.node name error
      → Stood s a (RemoveDir h name) (change_ended (RemoveDir h name) second error)
  directory_removals second error says =
      let it = RemoveDir h name in
      let same = on_held s a h d.node (λ n. tree.changes s (removes_dir s.nodes n name)) d.is_open in
      ended s a it second error
      (λ e. let found = says.removed e in
      same ∙ removes_empty s d.node name d.directory found.entry.node found.entry.entry found.entry.is found.holds)
      (refuses s a it error ENOENT NotFound _ (λ e. same ∙ no_directory s d.node name d.directory (says.missing e))
      (refuses s a it error ENOTDIR NotDir _
      (λ e. let entry = says.other e in
      same ∙ is_no_directory s d.node name d.directory entry.node entry.entry entry.is)
      (refuses s a it error ENOTEMPTY NotEmpty (Unmade error)
      (λ e. let found = says.full e in
      same ∙ has_some s d.node name d.directory found.entry.node found.entry.entry found.entry.is found.holds) tt)))
