-- What each step does, seen once for all laws: it is refused, tells something, opens or closes a handle, or changes the entries.
use Rattle.std.proofs.Common.{◌≡◌, ℕ, true, false, not, List, length, reverse, Option, Some, None, slice_set, Result, Ok, Err, refl}
use Rattle.path_text.specs.declared.errno.Errno.{Errno}
use Rattle.path_text.specs.declared.errno.Errno.TheVariants.{NotFound, BadHandle, NotDir, Invalid, TooMany}
use Rattle.tree_model.specs.declared.answer.Answer.{Answer}
use Rattle.tree_model.specs.declared.answer.Answer.TheVariants.{Opened, Text, Names, NotBelow, Listed, Done}
use Rattle.tree_model.specs.declared.inode.Inode.{Inode}
use Rattle.tree_model.specs.declared.inode.Object.{Object}
use Rattle.tree_model.specs.declared.inode.Object.TheVariants as object
use Rattle.tree_model.specs.StepWith.{StepWith}
use Rattle.tree_model.specs.declared.step.StepOf.TheVariants.{Open, Dup, Parent, ReadLink, NameBelow, List as ListNames, Close, MakeDir, MakeFile, MakeLink, RemoveFile, RemoveDir, Rename}
use Rattle.tree_model.specs.State.{State, object_at, child, parent, is_dir, names_below, names_in, sorted_names}
use Rattle.tree_model.specs.Entries.{makes, makes_link, removes_file, removes_dir, renames}
use Rattle.tree_model.specs.Steps.{Outcome, refused, answered, kind_of, held, is_full, with_handle, opens, reads, shows, changes, on_handle, outcome}
use Rattle.tree_model.specs.StepLaws.{only_tells, is_on_entries}
use Rattle.tree_model.proofs.Refusals.{refuse_if-both, with_some-both}
use Rattle.tree_model.proofs.Changed.{Changed, IfDone, MakeDir-changed, MakeFile-changed, MakeLink-changed, RemoveFile-changed, RemoveDir-changed, Rename-changed}

pub data Does (s : State) (a : ℕ) : StepWith ℕ → Outcome → Type 0 where
  refuses : {step : StepWith ℕ} (error : Errno) → Does s a step (refused s error)
  tells : {step : StepWith ℕ} (answer : Answer) → only_tells answer ≡ true → Does s a step (answered s answer)
  opens_on : {step : StepWith ℕ} (x : ℕ) (what : Object)
      → is_on_entries step ≡ false → is_full s a ≡ false → object_at s.nodes x ≡ Some what
      → Does s a step (record { answer = Opened (length s.handles) x (kind_of what); after = with_handle s a x })
  closes : (h x : ℕ) → held s a h ≡ Some x
      → Does s a (Close h) (record { answer = Done; after = record { nodes = s.nodes; handles = slice_set s.handles h None } })
  changes_to : {step : StepWith ℕ} (nodes : List Inode) → is_on_entries step ≡ true → Changed s.nodes nodes
      → Does s a step (record { answer = Done; after = record { nodes = nodes; handles = s.handles } })

module _ (s : State) (a : ℕ) (step : StepWith ℕ) where
  with_handle-does : (h : ℕ) (otherwise : ℕ → Outcome) → ((x : ℕ) → held s a h ≡ Some x → Does s a step (otherwise x)) → Does s a step (on_handle s a h otherwise)
  with_handle-does h otherwise p = with_some-both (Does s a step) (held s a h) (refused s BadHandle) otherwise (refuses BadHandle) p

  opens-does : is_on_entries step ≡ false → (x : ℕ) → Does s a step (opens s a x)
  opens-does e x =
      refuse_if-both (Does s a step) (is_full s a) (refused s TooMany) _ (refuses TooMany) (λ e1.
      with_some-both (Does s a step) (object_at s.nodes x) (refused s NotFound) _ (refuses NotFound) (λ what e2.
      opens_on x what e e1 e2))

  reads-does : (o : Option Object) → Does s a step (reads s o)
  reads-does None = refuses Invalid
  reads-does (Some object.Dir) = refuses Invalid
  reads-does (Some object.File) = refuses Invalid
  reads-does (Some (object.Link text)) = tells (Text text) refl

  shows-does : (o : Option (List (List ℕ))) → Does s a step (shows s o)
  shows-does None = tells NotBelow refl
  shows-does (Some names) = tells (Names (reverse names)) refl

  changes-does : is_on_entries step ≡ true → (r : Result (List Inode) Errno) → IfDone (Changed s.nodes) r → Does s a step (changes s r)
  changes-does e (Ok nodes) p = changes_to nodes e p
  changes-does e (Err error) p = refuses error

pub does : (s : State) (a : ℕ) (step : StepWith ℕ) → Does s a step (outcome s a step)
does s a (Open h n) =
    with_handle-does s a (Open h n) h _ (λ d held_d.
    refuse_if-both (Does s a (Open h n)) (not (is_dir s.nodes d)) (refused s NotDir) _ (refuses NotDir) (λ e1.
    with_some-both (Does s a (Open h n)) (child s.nodes d n) (refused s NotFound) _ (refuses NotFound) (λ c e2.
    opens-does s a (Open h n) refl c)))
does s a (Dup h) = with_handle-does s a (Dup h) h _ (λ x held_x. opens-does s a (Dup h) refl x)
does s a (Parent h) =
    with_handle-does s a (Parent h) h _ (λ x held_x.
    refuse_if-both (Does s a (Parent h)) (not (is_dir s.nodes x)) (refused s NotDir) _ (refuses NotDir) (λ e1.
    with_some-both (Does s a (Parent h)) (parent s.nodes x) (refused s NotFound) _ (refuses NotFound) (λ d e2.
    opens-does s a (Parent h) refl d)))
does s a (ReadLink h) = with_handle-does s a (ReadLink h) h _ (λ x held_x. reads-does s a (ReadLink h) (object_at s.nodes x))
does s a (NameBelow r h) =
    with_handle-does s a (NameBelow r h) r _ (λ top held_top.
    with_handle-does s a (NameBelow r h) h _ (λ x held_x.
    shows-does s a (NameBelow r h) (names_below s.nodes top x)))
does s a (ListNames h) =
    with_handle-does s a (ListNames h) h _ (λ d held_d.
    refuse_if-both (Does s a (ListNames h)) (not (is_dir s.nodes d)) (refused s NotDir) _ (refuses NotDir) (λ e1.
    tells (Listed (sorted_names (names_in s.nodes d))) refl))
does s a (Close h) = with_handle-does s a (Close h) h _ (λ x held_x. closes h x held_x)
does s a (MakeDir h n) =
    with_handle-does s a (MakeDir h n) h _ (λ d held_d. changes-does s a (MakeDir h n) refl (makes s.nodes d n object.Dir) (MakeDir-changed s.nodes d n))
does s a (MakeFile h n) =
    with_handle-does s a (MakeFile h n) h _ (λ d held_d. changes-does s a (MakeFile h n) refl (makes s.nodes d n object.File) (MakeFile-changed s.nodes d n))
does s a (MakeLink h n text) =
    with_handle-does s a (MakeLink h n text) h _ (λ d held_d.
    changes-does s a (MakeLink h n text) refl (makes_link s.nodes d n text) (MakeLink-changed s.nodes d n text))
does s a (RemoveFile h n) =
    with_handle-does s a (RemoveFile h n) h _ (λ d held_d. changes-does s a (RemoveFile h n) refl (removes_file s.nodes d n) (RemoveFile-changed s.nodes d n))
does s a (RemoveDir h n) =
    with_handle-does s a (RemoveDir h n) h _ (λ d held_d. changes-does s a (RemoveDir h n) refl (removes_dir s.nodes d n) (RemoveDir-changed s.nodes d n))
does s a (Rename h n k m mode) =
    with_handle-does s a (Rename h n k m mode) h _ (λ d held_d.
    with_handle-does s a (Rename h n k m mode) k _ (λ f held_f.
    changes-does s a (Rename h n k m mode) refl (renames s.nodes d n f m mode) (Rename-changed s.nodes d n f m mode)))
