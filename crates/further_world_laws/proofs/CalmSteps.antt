-- No answer of the step table tells of a want of memory, and no fault of a text does.
use Rattle.std.specs.Prelude.{◌≡◌, ℕ, List, Bool, true, false, not, if◌then◌else◌, nat_lt, Option, Some, None, Result, Ok, Err, refl}
use Rattle.path_text.specs.declared.errno.Errno.{Errno}
use Rattle.path_text.specs.declared.errno.Errno.TheVariants.{NotFound, BadHandle, NotDir, TooMany, BookFull}
use Rattle.path_text.specs.declared.path.Rule.{Rule}
use Rattle.path_text.specs.Reading.{Reading}
use Rattle.path_text.specs.Split.{split_of}
use Rattle.path_text.specs.Text.{text_fault}
use Rattle.tree_model.specs.declared.answer.Answer.{Answer}
use Rattle.tree_model.specs.declared.inode.Inode.{Inode}
use Rattle.tree_model.specs.declared.inode.Object.{Object}
use Rattle.tree_model.specs.declared.inode.Object.TheVariants as object
use Rattle.tree_model.specs.StepWith.{StepWith}
use Rattle.tree_model.specs.declared.step.StepOf.TheVariants as steps
use Rattle.tree_model.specs.State.{State, object_at, child, parent, is_dir, names_below}
use Rattle.tree_model.specs.Entries.{refuse_if, with_some, renames}
use Rattle.tree_model.specs.Steps.{Outcome, refused, held, is_full, opens, reads, shows, changes, outcome}
use Rattle.step_resolver.specs.Order.{refusal_of}
use Rattle.bulk_ops.proofs.TableErrors.{AreOthers, fault_is, failure_is, text_other, split_other, renames_other}
use Rattle.root_ops.specs.declared.aim.Change.{Change}
use Rattle.root_ops.specs.declared.aim.Change.TheVariants as change
use Rattle.root_ops.specs.Acts.{change_of}
use Rattle.root_ops.proofs.ChangeErrors.{change_other}
use Rattle.race_core.specs.Book.{BookedHistory, tree_now, free_lines, lines_needed, closes_nothing}
use Rattle.race_core.specs.Turns.{unless_refused, stepped_by}
use Rattle.local_states.specs.OutOfMemory.{is_out_of_memory}

-- what holds of two holds of the one that is chosen
pub either : {T : Type 0} (P : T → Type 0) (b : Bool) (t u : T) → P t → P u → P (if b then t else u)
either P true t u one other = one
either P false t u one other = other

-- ---- errors

-- no error of the step table does
pub table_is_other : AreOthers is_out_of_memory
table_is_other = record { missing = refl; there = refl; no_dir = refl; dir = refl; invalid = refl; long = refl; full = refl }

pub text_calm : (text : List ℕ) → fault_is is_out_of_memory (text_fault text) ≡ false
text_calm text = text_other is_out_of_memory table_is_other text

pub split_calm : (path : Reading) (rule : Rule) → failure_is is_out_of_memory (split_of path rule) ≡ false
split_calm path rule = split_other is_out_of_memory table_is_other path rule

-- ---- answers

-- it is a refusal that does
abbrev pub answer_wants : Answer → Bool
answer_wants answer = is_out_of_memory (refusal_of answer)

abbrev IsCalm : Outcome → Type 0
IsCalm o = answer_wants o.answer ≡ false

module _ (s : State) where
  unless_calm : (b : Bool) (error : Errno) (others : Outcome) → is_out_of_memory error ≡ false → IsCalm others → IsCalm (refuse_if b (refused s error) others)
  unless_calm true error others calm rest = calm
  unless_calm false error others calm rest = rest

  with_calm : {A : Type 0} (o : Option A) (error : Errno) (next : A → Outcome) → is_out_of_memory error ≡ false → ((x : A) → IsCalm (next x)) → IsCalm (with_some o (refused s error) next)
  with_calm None error next calm rest = calm
  with_calm (Some x) error next calm rest = rest x

  changes_calm : (r : Result (List Inode) Errno) → failure_is is_out_of_memory r ≡ false → IsCalm (changes s r)
  changes_calm (Err error) calm = calm
  changes_calm (Ok nodes) calm = refl

  opens_calm : (a x : ℕ) → IsCalm (opens s a x)
  opens_calm a x = unless_calm (is_full s a) TooMany _ refl (with_calm (object_at s.nodes x) NotFound _ refl (λ what. refl))

  reads_calm : (what : Option Object) → IsCalm (reads s what)
  reads_calm None = refl
  reads_calm (Some object.Dir) = refl
  reads_calm (Some object.File) = refl
  reads_calm (Some (object.Link text)) = refl

  shows_calm : (names : Option (List (List ℕ))) → IsCalm (shows s names)
  shows_calm None = refl
  shows_calm (Some names) = refl

  held_calm : (a h : ℕ) (next : ℕ → Outcome) → ((x : ℕ) → IsCalm (next x)) → IsCalm (with_some (held s a h) (refused s BadHandle) next)
  held_calm a h next rest = with_calm (held s a h) BadHandle next refl rest

  change_calm : (made : Change) (d : ℕ) (n : List ℕ) → IsCalm (changes s (change_of made s.nodes d n))
  change_calm made d n =
      changes_calm (change_of made s.nodes d n)
      (change_other is_out_of_memory table_is_other s.nodes (λ full. refl) d n made)

  pub table_calm : (a : ℕ) (step : StepWith ℕ) → IsCalm (outcome s a step)
  table_calm a (steps.Open h n) =
      held_calm a h _ (λ d. unless_calm (not (is_dir s.nodes d)) NotDir _ refl (with_calm (child s.nodes d n) NotFound _ refl (λ c. opens_calm a c)))
  table_calm a (steps.Dup h) = held_calm a h _ (λ x. opens_calm a x)
  table_calm a (steps.Parent h) =
      held_calm a h _ (λ x. unless_calm (not (is_dir s.nodes x)) NotDir _ refl (with_calm (parent s.nodes x) NotFound _ refl (λ d. opens_calm a d)))
  table_calm a (steps.ReadLink h) = held_calm a h _ (λ x. reads_calm (object_at s.nodes x))
  table_calm a (steps.NameBelow r h) = held_calm a r _ (λ top. held_calm a h _ (λ x. shows_calm (names_below s.nodes top x)))
  table_calm a (steps.List h) = held_calm a h _ (λ d. unless_calm (not (is_dir s.nodes d)) NotDir _ refl refl)
  table_calm a (steps.Close h) = held_calm a h _ (λ x. refl)
  table_calm a (steps.MakeDir h n) = held_calm a h _ (λ d. change_calm change.MakeDir d n)
  table_calm a (steps.MakeFile h n) = held_calm a h _ (λ d. change_calm change.MakeFile d n)
  table_calm a (steps.MakeLink h n text) = held_calm a h _ (λ d. change_calm (change.MakeLink text) d n)
  table_calm a (steps.RemoveFile h n) = held_calm a h _ (λ d. change_calm change.RemoveFile d n)
  table_calm a (steps.RemoveDir h n) = held_calm a h _ (λ d. change_calm change.RemoveDir d n)
  table_calm a (steps.Rename h n k m mode) =
      held_calm a h _ (λ d. held_calm a k _ (λ f. changes_calm (renames s.nodes d n f m mode)
      (renames_other is_out_of_memory table_is_other s.nodes d n f m mode)))

-- ---- a step through a book

-- with memory no step is answered so
pub stepped_calm : (book : BookedHistory) (a : ℕ) (step : StepWith ℕ) → answer_wants (stepped_by true book a step).answer ≡ false
stepped_calm book a step = on (nat_lt (free_lines book) (lines_needed step)) (closes_nothing (tree_now book) a step)
  where
    on : (full shut : Bool) → answer_wants (unless_refused book a step (if full then Some BookFull else (if shut then Some BadHandle else None))).answer ≡ false
    on true shut = refl
    on false true = refl
    on false false = table_calm (tree_now book) a step
