-- Nor does a bulk call look at a handle's number.
use Rattle.std.specs.Prelude.{◌≡◌, ℕ, zero, suc, List, [], ◌∷◌, Bool, true, false, reverse, Option, Some, None, if◌then◌else◌, refl}
use Rattle.std.proofs.Common.{ap, ◌∙◌}
use Rattle.path_text.specs.declared.errno.Errno.{Errno}
use Rattle.path_text.specs.declared.errno.Errno.TheVariants.{NotFound, NoMemory, Exists, NotDir, Busy, IsDir, NotEmpty}
use Rattle.path_text.specs.Names.{same_names}
use Rattle.path_text.specs.Reading.{Reading}
use Rattle.tree_model.specs.declared.answer.Answer.{Answer}
use Rattle.tree_model.specs.declared.answer.Answer.TheVariants.{Opened, Names, Listed, Done, Refused}
use Rattle.tree_model.specs.declared.step.Kind.TheVariants as kind
use Rattle.step_resolver.specs.Asked.{AskedPart}
use Rattle.step_resolver.specs.Order.{Way, Handle, is_dir_kind, refusal_of}
use Rattle.step_resolver.specs.Order as walk
use Rattle.bulk_ops.specs.MakeAllOrder as make
use Rattle.bulk_ops.specs.RemoveAllOrder as remove
use Rattle.bulk_ops.specs.declared.remove_all.clearing.TheConstants.{CLEARING_STEPS_MAX}
use Rattle.root_ops.specs.Renumbered.{Numbering, numbers_by, step_by, answer_by, way_by, handle_by, walk_turn_by, making_by, make_turn_by, level_by, levels_by, stage_by, removing_by, remove_turn_by}
use Rattle.root_ops.proofs.Blind.Walks as walks

-- ---- MkdirAll

module _ (f : Numbering) where
  make_either : (b : Bool) (t u t' u' : make.MakeTurn) → make_turn_by f t ≡ t' → make_turn_by f u ≡ u' → make_turn_by f (if b then t else u) ≡ (if b then t' else u')
  make_either true t u t' u' e e' = e
  make_either false t u t' u' e e' = e'

  goes_down_by : (held : Handle) (names left : List (List ℕ)) → make_turn_by f (make.goes_down held names left) ≡ make.goes_down (handle_by f held) names left
  goes_down_by held names [] = refl
  goes_down_by held names (n ∷ left) = refl

  make_gives_up_by : (hs : List ℕ) (error : Errno) → make_turn_by f (make.gives_up hs error) ≡ make.gives_up (numbers_by f hs) error
  make_gives_up_by [] error = refl
  make_gives_up_by (h ∷ hs) error = refl

  begins_to_make_by : (room : Bool) (held : Handle) (names : List (List ℕ)) (rest : List AskedPart) (fault : Option Errno)
      → make_turn_by f (make.begins_to_make room held names rest fault) ≡ make.begins_to_make room (handle_by f held) names rest fault
  begins_to_make_by true held names rest (Some fault) = refl
  begins_to_make_by false held names rest (Some fault) = refl
  begins_to_make_by true held names rest None = goes_down_by held names (make.rest_names rest)
  begins_to_make_by false held names rest None = refl

  after_walk_by : (room : Bool) (turn : walk.Turn) → make_turn_by f (make.after_walk room turn) ≡ make.after_walk room (walk_turn_by f turn)
  after_walk_by room (walk.more w) = refl
  after_walk_by room (walk.found handle names) = make_either (is_dir_kind handle.kind) _ _ _ _ refl refl
  after_walk_by room (walk.partial handle names rest) = begins_to_make_by room handle names rest (make.rest_fault rest)
  after_walk_by room (walk.failed error) = refl

  pub make_begins_by : (way : Way) (path : Reading) → make_turn_by f (make.begins way path) ≡ make.begins (way_by f way) path
  make_begins_by way path = after_walk_by true (walk.begins way path) ∙ ap (make.after_walk true) (walks.begins_by f way path)

  refused_make_by : (held : Handle) (names : List (List ℕ)) (n : List ℕ) (left : List (List ℕ)) (error : Errno)
      → make_turn_by f (make.refused_make held names n left error) ≡ make.refused_make (handle_by f held) names n left error
  refused_make_by held names n left Exists = refl
  refused_make_by held names n left error = refl

  pub make_take_by : (way : Way) (room : Bool) (making : make.Making) (answer : Answer)
      → make_turn_by f (make.take way room making answer) ≡ make.take (way_by f way) room (making_by f making) (answer_by f answer)
  make_take_by way room (make.walking w) answer =
      after_walk_by room (walk.take way room w answer) ∙ ap (make.after_walk room) (walks.take_by f way room w answer)
  make_take_by way room (make.making held names n left) Done = refl
  make_take_by way room (make.making held names n left) answer = refused_make_by held names n left (refusal_of answer)
  make_take_by way room (make.opening held names n left) (Opened h x kind) = make_either (is_dir_kind kind) _ _ _ _ refl refl
  make_take_by way room (make.opening held names n left) answer = refl
  make_take_by way room (make.leaving old new names left) answer = goes_down_by new names left
  make_take_by way room (make.ending held names) (Names told) = make_either (same_names told (reverse names)) _ _ _ _ refl refl
  make_take_by way room (make.ending held names) answer = refl
  make_take_by way room (make.closing h hs error) answer = make_gives_up_by hs error

  pub make_due_by : (way : Way) (making : make.Making) → step_by f (make.due way making) ≡ make.due (way_by f way) (making_by f making)
  make_due_by way (make.walking w) = walks.due_by f way w
  make_due_by way (make.making held names n left) = refl
  make_due_by way (make.opening held names n left) = refl
  make_due_by way (make.leaving old new names left) = refl
  make_due_by way (make.ending held names) = refl
  make_due_by way (make.closing h hs error) = refl

-- ---- RemoveAll

module _ (f : Numbering) where
  dirs_by : (levels : List remove.Level) → numbers_by f (remove.dirs levels) ≡ remove.dirs (levels_by f levels)
  dirs_by [] = refl
  dirs_by (level ∷ levels) = ap (λ hs. f.handle level.dir ∷ hs) (dirs_by levels)

  closes_by : (hs : List ℕ) (end : remove.End) → remove_turn_by f (remove.closes hs end) ≡ remove.closes (numbers_by f hs) end
  closes_by [] (remove.fails error) = refl
  closes_by [] (remove.removes count) = refl
  closes_by (h ∷ hs) end = refl

  before_by : (stage : remove.Stage) (hs : List ℕ) → numbers_by f (remove.before stage hs) ≡ remove.before (stage_by f stage) (numbers_by f hs)
  before_by remove.removes_file hs = refl
  before_by remove.opens hs = refl
  before_by (remove.lists h) hs = refl
  before_by (remove.shuts h) hs = refl
  before_by (remove.leaves h) hs = refl
  before_by remove.removes_dir hs = refl

  gives_up_by : (stage : remove.Stage) (level : remove.Level) (above : List remove.Level) (error : Errno)
      → remove_turn_by f (remove.gives_up stage level above error) ≡ remove.gives_up (stage_by f stage) (level_by f level) (levels_by f above) error
  gives_up_by stage level above error =
      closes_by (remove.before stage (remove.dirs (level ∷ above))) (remove.fails error)
      ∙ ap (λ hs. remove.closes hs (remove.fails error)) (before_by stage (remove.dirs (level ∷ above)) ∙ ap (remove.before (stage_by f stage)) (dirs_by (level ∷ above)))

  is_due_by : (stage : remove.Stage) (level : remove.Level) (above : List remove.Level) (count left : ℕ)
      → remove_turn_by f (remove.is_due stage level above count left) ≡ remove.is_due (stage_by f stage) (level_by f level) (levels_by f above) count left
  is_due_by stage level above count zero = gives_up_by stage level above Busy
  is_due_by stage level above count (suc left) = refl

  next_entry_by : (d : ℕ) (others : List (List ℕ)) (above : List remove.Level) (count left : ℕ)
      → remove_turn_by f (remove.next_entry d others above count left) ≡ remove.next_entry (f.handle d) others (levels_by f above) count left
  next_entry_by d (m ∷ others) above count left = is_due_by remove.removes_file (record { dir = d; name = m; others = others }) above count left
  next_entry_by d [] (level ∷ above) count left = is_due_by (remove.leaves d) level above count left
  next_entry_by d [] [] count left = refl

  finished_by : (level : remove.Level) (above : List remove.Level) (count left : ℕ)
      → remove_turn_by f (remove.finished level above count left) ≡ remove.finished (level_by f level) (levels_by f above) count left
  finished_by level above count left = next_entry_by level.dir level.others above count left

  enters_by : (h : ℕ) (names : List (List ℕ)) (level : remove.Level) (above : List remove.Level) (count left : ℕ)
      → remove_turn_by f (remove.enters h names level above count left) ≡ remove.enters (f.handle h) names (level_by f level) (levels_by f above) count left
  enters_by h [] level above count left = is_due_by (remove.leaves h) level above count left
  enters_by h (n ∷ others) level above count left = is_due_by remove.removes_file (record { dir = h; name = n; others = others }) (level ∷ above) count left

  walked_by : (way : Way) (target : List ℕ) (turn : walk.Turn) → remove_turn_by f (remove.walked way target turn) ≡ remove.walked (way_by f way) target (walk_turn_by f turn)
  walked_by way target (walk.more w) = refl
  walked_by way target (walk.found handle names) =
      is_due_by remove.removes_file (record { dir = handle.number; name = target; others = [] }) [] 0 CLEARING_STEPS_MAX
  walked_by way target (walk.partial handle names rest) = refl
  walked_by way target (walk.failed error) = refl

  pub remove_begins_by : (way : Way) (target : List ℕ) (path : Reading) → remove_turn_by f (remove.begins way target path) ≡ remove.begins (way_by f way) target path
  remove_begins_by way target path = walked_by way target (walk.begins way path) ∙ ap (remove.walked (way_by f way) target) (walks.begins_by f way path)

  file_removed_by : (level : remove.Level) (above : List remove.Level) (count left : ℕ) (answer : Answer)
      → remove_turn_by f (remove.file_removed level above count left answer) ≡ remove.file_removed (level_by f level) (levels_by f above) count left (answer_by f answer)
  file_removed_by level above count left Done = finished_by level above (suc count) left
  file_removed_by level above count left (Refused NotFound) = finished_by level above count left
  file_removed_by level above count left (Refused IsDir) = is_due_by remove.opens level above count left
  file_removed_by level above count left answer = gives_up_by remove.removes_file level above (refusal_of answer)

  opened_by : (level : remove.Level) (above : List remove.Level) (count left : ℕ) (answer : Answer)
      → remove_turn_by f (remove.opened level above count left answer) ≡ remove.opened (level_by f level) (levels_by f above) count left (answer_by f answer)
  opened_by level above count left (Opened h x kind.Dir) = is_due_by (remove.lists h) level above count left
  opened_by level above count left (Opened h x kind.File) = is_due_by (remove.shuts h) level above count left
  opened_by level above count left (Opened h x kind.Link) = is_due_by (remove.shuts h) level above count left
  opened_by level above count left (Refused NotFound) = finished_by level above count left
  opened_by level above count left answer = gives_up_by remove.opens level above (refusal_of answer)

  listed_by : (room : Bool) (h : ℕ) (level : remove.Level) (above : List remove.Level) (count left : ℕ) (answer : Answer)
      → remove_turn_by f (remove.listed room h level above count left answer) ≡ remove.listed room (f.handle h) (level_by f level) (levels_by f above) count left (answer_by f answer)
  listed_by true h level above count left (Listed names) = enters_by h names level above count left
  listed_by false h level above count left (Listed names) = gives_up_by (remove.lists h) level above NoMemory
  listed_by true h level above count left answer = gives_up_by (remove.lists h) level above (refusal_of answer)
  listed_by false h level above count left answer = gives_up_by (remove.lists h) level above (refusal_of answer)

  dir_removed_by : (level : remove.Level) (above : List remove.Level) (count left : ℕ) (answer : Answer)
      → remove_turn_by f (remove.dir_removed level above count left answer) ≡ remove.dir_removed (level_by f level) (levels_by f above) count left (answer_by f answer)
  dir_removed_by level above count left Done = finished_by level above (suc count) left
  dir_removed_by level above count left (Refused NotFound) = finished_by level above count left
  dir_removed_by level above count left (Refused NotEmpty) = is_due_by remove.opens level above count left
  dir_removed_by level above count left (Refused NotDir) = is_due_by remove.removes_file level above count left
  dir_removed_by level above count left answer = gives_up_by remove.removes_dir level above (refusal_of answer)

  pub remove_take_by : (room : Bool) (removing : remove.Removing) (answer : Answer)
      → remove_turn_by f (remove.take room removing answer) ≡ remove.take room (removing_by f removing) (answer_by f answer)
  remove_take_by room (remove.walking way target w) answer =
      walked_by way target (walk.take way room w answer) ∙ ap (remove.walked (way_by f way) target) (walks.take_by f way room w answer)
  remove_take_by room (remove.clearing remove.removes_file level above count left) answer = file_removed_by level above count left answer
  remove_take_by room (remove.clearing remove.opens level above count left) answer = opened_by level above count left answer
  remove_take_by room (remove.clearing (remove.lists h) level above count left) answer = listed_by room h level above count left answer
  remove_take_by room (remove.clearing (remove.shuts h) level above count left) answer = is_due_by remove.removes_file level above count left
  remove_take_by room (remove.clearing (remove.leaves h) level above count left) answer = is_due_by remove.removes_dir level above count left
  remove_take_by room (remove.clearing remove.removes_dir level above count left) answer = dir_removed_by level above count left answer
  remove_take_by room (remove.closing h hs end) answer = closes_by hs end

  pub remove_due_by : (removing : remove.Removing) → step_by f (remove.due removing) ≡ remove.due (removing_by f removing)
  remove_due_by (remove.walking way target w) = walks.due_by f way w
  remove_due_by (remove.clearing remove.removes_file level above count left) = refl
  remove_due_by (remove.clearing remove.opens level above count left) = refl
  remove_due_by (remove.clearing (remove.lists h) level above count left) = refl
  remove_due_by (remove.clearing (remove.shuts h) level above count left) = refl
  remove_due_by (remove.clearing (remove.leaves h) level above count left) = refl
  remove_due_by (remove.clearing remove.removes_dir level above count left) = refl
  remove_due_by (remove.closing h hs end) = refl
