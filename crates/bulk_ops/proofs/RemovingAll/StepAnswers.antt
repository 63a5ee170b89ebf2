-- What the steps of clearing are answered, read off the step table.
use Rattle.std.specs.Prelude.{◌≡◌, ℕ, List, Bool, true, false, not, Option, Some, None, Ok, Err, refl}
use Rattle.std.proofs.Common.{sym, ap, subst, ◌∙◌}
use Rattle.path_text.specs.declared.errno.Errno.TheVariants.{NotFound, BadHandle, NotDir, IsDir, NotEmpty}
use Rattle.tree_model.specs.declared.answer.Answer.TheVariants.{Listed, Done}
use Rattle.tree_model.specs.declared.step.StepOf.TheVariants.{List as ListNames, RemoveFile, RemoveDir}
use Rattle.tree_model.specs.State.{State, child, is_dir, has_entries, put_at, sorted_names, names_in}
use Rattle.tree_model.specs.Steps.{Outcome, refused, answered, changes, outcome, held}
use Rattle.tree_model.specs.Entries.{refuse_if, with_some}

-- the entry of that node goes
abbrev pub without : State → ℕ → Outcome
without s c = record { answer = Done; after = record { nodes = put_at s.nodes c None; handles = s.handles } }

-- what RemoveFile is answered through a handle of d
pub data FileCase (s : State) (d : ℕ) (n : List ℕ) (o : Outcome) : Type 0 where
  no_dir : is_dir s.nodes d ≡ false → o ≡ refused s NotDir → FileCase s d n o
  no_entry : child s.nodes d n ≡ None → o ≡ refused s NotFound → FileCase s d n o
  at_dir : o ≡ refused s IsDir → FileCase s d n o
  gone : (c : ℕ) → child s.nodes d n ≡ Some c → o ≡ without s c → FileCase s d n o

abbrev file_entry : State → ℕ → Bool → Outcome
file_entry s c b = changes s (refuse_if b (Err IsDir) (Ok (put_at s.nodes c None)))

abbrev file_child : State → Option ℕ → Outcome
file_child s o = changes s (with_some o (Err NotFound) (λ c. refuse_if (is_dir s.nodes c) (Err IsDir) (Ok (put_at s.nodes c None))))

abbrev file_dir : State → ℕ → List ℕ → Bool → Outcome
file_dir s d n b = changes s (refuse_if (not b) (Err NotDir) (with_some (child s.nodes d n) (Err NotFound) (λ c. refuse_if (is_dir s.nodes c) (Err IsDir) (Ok (put_at s.nodes c None)))))

pub file_case : (s : State) (a h : ℕ) (n : List ℕ) (d : ℕ) → held s a h ≡ Some d → FileCase s d n (outcome s a (RemoveFile h n))
file_case s a h n d e = subst (FileCase s d n) (sym is) (on_dir (is_dir s.nodes d) refl)
  where
    is : outcome s a (RemoveFile h n) ≡ file_dir s d n (is_dir s.nodes d)
    is = ap (λ o. with_some o (refused s BadHandle) (λ y. file_dir s y n (is_dir s.nodes y))) e

    on_entry : (c : ℕ) → child s.nodes d n ≡ Some c → (b : Bool) → is_dir s.nodes c ≡ b → FileCase s d n (file_entry s c (is_dir s.nodes c))
    on_entry c q true f = at_dir (ap (file_entry s c) f)
    on_entry c q false f = gone c q (ap (file_entry s c) f)

    on_child : (o : Option ℕ) → child s.nodes d n ≡ o → FileCase s d n (file_child s (child s.nodes d n))
    on_child None q = no_entry q (ap (file_child s) q)
    on_child (Some c) q = subst (FileCase s d n) (sym (ap (file_child s) q)) (on_entry c q (is_dir s.nodes c) refl)

    on_dir : (b : Bool) → is_dir s.nodes d ≡ b → FileCase s d n (file_dir s d n (is_dir s.nodes d))
    on_dir false f = no_dir f (ap (file_dir s d n) f)
    on_dir true f = subst (FileCase s d n) (sym (ap (file_dir s d n) f)) (on_child (child s.nodes d n) refl)

-- what RemoveDir is answered through a handle of d
pub data DirCase (s : State) (d : ℕ) (n : List ℕ) (o : Outcome) : Type 0 where
  not_in_dir : is_dir s.nodes d ≡ false → o ≡ refused s NotDir → DirCase s d n o
  no_such_entry : child s.nodes d n ≡ None → o ≡ refused s NotFound → DirCase s d n o
  at_no_dir : o ≡ refused s NotDir → DirCase s d n o
  not_empty : o ≡ refused s NotEmpty → DirCase s d n o
  dir_gone : (c : ℕ) → child s.nodes d n ≡ Some c → o ≡ without s c → DirCase s d n o

abbrev dir_full : State → ℕ → Bool → Outcome
dir_full s c b = changes s (refuse_if b (Err NotEmpty) (Ok (put_at s.nodes c None)))

abbrev dir_entry : State → ℕ → Bool → Outcome
dir_entry s c b = changes s (refuse_if (not b) (Err NotDir) (refuse_if (has_entries s.nodes c) (Err NotEmpty) (Ok (put_at s.nodes c None))))

abbrev dir_child : State → Option ℕ → Outcome
dir_child s o = changes s (with_some o (Err NotFound) (λ c. refuse_if (not (is_dir s.nodes c)) (Err NotDir) (refuse_if (has_entries s.nodes c) (Err NotEmpty) (Ok (put_at s.nodes c None)))))

abbrev dir_dir : State → ℕ → List ℕ → Bool → Outcome
dir_dir s d n b = changes s (refuse_if (not b) (Err NotDir) (with_some (child s.nodes d n) (Err NotFound) (λ c. refuse_if (not (is_dir s.nodes c)) (Err NotDir) (refuse_if (has_entries s.nodes c) (Err NotEmpty) (Ok (put_at s.nodes c None))))))

pub dir_case : (s : State) (a h : ℕ) (n : List ℕ) (d : ℕ) → held s a h ≡ Some d → DirCase s d n (outcome s a (RemoveDir h n))
dir_case s a h n d e = subst (DirCase s d n) (sym is) (on_dir (is_dir s.nodes d) refl)
  where
    is : outcome s a (RemoveDir h n) ≡ dir_dir s d n (is_dir s.nodes d)
    is = ap (λ o. with_some o (refused s BadHandle) (λ y. dir_dir s y n (is_dir s.nodes y))) e

    on_full : (c : ℕ) → child s.nodes d n ≡ Some c → (b : Bool) → has_entries s.nodes c ≡ b → DirCase s d n (dir_full s c (has_entries s.nodes c))
    on_full c q true f = not_empty (ap (dir_full s c) f)
    on_full c q false f = dir_gone c q (ap (dir_full s c) f)

    on_entry : (c : ℕ) → child s.nodes d n ≡ Some c → (b : Bool) → is_dir s.nodes c ≡ b → DirCase s d n (dir_entry s c (is_dir s.nodes c))
    on_entry c q false f = at_no_dir (ap (dir_entry s c) f)
    on_entry c q true f = subst (DirCase s d n) (sym (ap (dir_entry s c) f)) (on_full c q (has_entries s.nodes c) refl)

    on_child : (o : Option ℕ) → child s.nodes d n ≡ o → DirCase s d n (dir_child s (child s.nodes d n))
    on_child None q = no_such_entry q (ap (dir_child s) q)
    on_child (Some c) q = subst (DirCase s d n) (sym (ap (dir_child s) q)) (on_entry c q (is_dir s.nodes c) refl)

    on_dir : (b : Bool) → is_dir s.nodes d ≡ b → DirCase s d n (dir_dir s d n (is_dir s.nodes d))
    on_dir false f = not_in_dir f (ap (dir_dir s d n) f)
    on_dir true f = subst (DirCase s d n) (sym (ap (dir_dir s d n) f)) (on_child (child s.nodes d n) refl)

-- what List is answered through a handle of a directory
pub list_is : (s : State) (a h d : ℕ) → held s a h ≡ Some d → is_dir s.nodes d ≡ true
    → outcome s a (ListNames h) ≡ answered s (Listed (sorted_names (names_in s.nodes d)))
list_is s a h d e f =
    ap (λ o. with_some o (refused s BadHandle) (λ y. refuse_if (not (is_dir s.nodes y)) (refused s NotDir) (answered s (Listed (sorted_names (names_in s.nodes y)))))) e
    ∙ ap (λ b. refuse_if (not b) (refused s NotDir) (answered s (Listed (sorted_names (names_in s.nodes d))))) f
