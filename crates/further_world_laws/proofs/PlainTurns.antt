-- The turns of a call beside its answers: what they end in is no step's answer, and handles are closed to fail or to act.
use Rattle.std.specs.Prelude.{◌≡◌, ℕ, List, [], ◌∷◌, Bool, true, false, if◌then◌else◌, Option, Some, None, Result, Ok, Err, refl}
use Rattle.path_text.specs.declared.errno.Errno.{Errno}
use Rattle.path_text.specs.declared.errno.Errno.TheVariants.{NotFound, NoMemory, Invalid}
use Rattle.path_text.specs.declared.path.Rule.{Rule}
use Rattle.path_text.specs.declared.path.Rule.TheVariants.{Drop, Refuse}
use Rattle.path_text.specs.declared.path.Split.{Split}
use Rattle.path_text.specs.Split.{split_of}
use Rattle.path_text.specs.Text.{text_fault, reading_of}
use Rattle.tree_model.specs.declared.step.Mode.{Mode}
use Rattle.tree_model.specs.StepWith.{StepWith}
use Rattle.handles.specs.Objects.{StandingObject}
use Rattle.walk_plan.specs.declared.goal.Goal.TheVariants.{Follow, NoFollow}
use Rattle.step_resolver.specs.Order.{Handle, found, partial, failed}
use Rattle.step_resolver.specs.Order as walk
use Rattle.step_resolver.specs.View.{way_from}
use Rattle.bulk_ops.specs.MakeAllOrder as make
use Rattle.bulk_ops.specs.RemoveAllOrder as remove
use Rattle.root_ops.specs.declared.aim.Aim.{Aim}
use Rattle.root_ops.specs.declared.aim.Aim.TheVariants.{Opens, Reads, Changes, WalksOn, Renames}
use Rattle.root_ops.specs.declared.aim.Change.{Change}
use Rattle.root_ops.specs.declared.aim.Change.TheVariants as changes
use Rattle.root_ops.specs.declared.aim.Renaming.{Renaming}
use Rattle.root_ops.specs.declared.aim.Wanted.TheVariants as wants
use Rattle.root_ops.specs.declared.below.Below.{Below}
use Rattle.root_ops.specs.declared.op.Op.{Op}
use Rattle.root_ops.specs.declared.op.Op.TheVariants.{Resolve, ResolveNoFollow, ReadLink, CreateFile, CreateDir, CreateLink, RemoveFile, RemoveDir, Rename, MkdirAll, RemoveAll, Single, Release}
use Rattle.root_ops.specs.Order.{kept, fault, stepped, gives, acts, Doing, acting, checking, closing, releasing, CallTurn, more, ends, rename_step, held_by, way_of, make_way, makes, removing_turn, reached, checked, is_single, same_owner, starts}
use Rattle.root_ops.specs.Order as call

abbrev pub IsPlainDoing : Doing → Type 0
IsPlainDoing (acting wants.Any step hs) = is_single step ≡ true
IsPlainDoing (closing h hs (gives (fault error))) = Unit {0}
IsPlainDoing (closing h hs (gives reply)) = ⊥
IsPlainDoing (closing h hs (acts wants.Any step ks)) = ⊥
IsPlainDoing doing = Unit {0}

abbrev pub IsPlain : CallTurn → Type 0
IsPlain (more doing) = IsPlainDoing doing
IsPlain (ends (stepped answer)) = ⊥
IsPlain (ends reply) = Unit {0}

-- ---- the parts of a call

given_up_plain : (hs : List ℕ) (error : Errno) → IsPlain (call.gives_up hs error)
given_up_plain [] error = tt
given_up_plain (h ∷ hs) error = tt

renames_plain : (old new : ℕ) (renaming : Renaming) → IsPlain (call.renames old new renaming)
renames_plain old new renaming = on renaming.slash
  where
    on : (b : Bool)
        → IsPlain (if b then more (checking old new renaming) else more (acting wants.Done (rename_step renaming old new) (new ∷ old ∷ [])))
    on true = tt
    on false = tt

walked_on_plain : (old : ℕ) (renaming : Renaming) (turn : walk.Turn) → IsPlain (call.walked_on old renaming turn)
walked_on_plain old renaming (walk.more w) = tt
walked_on_plain old renaming (found handle names) = renames_plain old handle.number renaming
walked_on_plain old renaming (partial handle names rest) = tt
walked_on_plain old renaming (failed error) = tt

reached_plain : (below : Below) (room : Bool) (handle : Handle) (names : List (List ℕ)) (aim : Aim)
    → IsPlain (reached below room handle names aim)
reached_plain below room handle names (Opens goal) = tt
reached_plain below room handle names Reads = tt
reached_plain below room handle names (Changes change n) = tt
reached_plain below room handle names (WalksOn path renaming) =
    walked_on_plain handle.number renaming (walk.starts (way_from below.root Follow below.flags) room path)
reached_plain below room handle names (Renames old renaming) = renames_plain old handle.number renaming

pub walked_plain : (below : Below) (room : Bool) (aim : Aim) (turn : walk.Turn) → IsPlain (call.walked below room aim turn)
walked_plain below room aim (walk.more w) = tt
walked_plain below room aim (found handle names) = reached_plain below room handle names aim
walked_plain below room aim (partial handle names rest) = given_up_plain (handle.number ∷ held_by aim) NotFound
walked_plain below room aim (failed error) = given_up_plain (held_by aim) error

pub checked_plain : (old new : ℕ) (renaming : Renaming) (child : ℕ) (is_dir : Bool)
    → IsPlain (checked old new renaming child is_dir)
checked_plain old new renaming child true = tt
checked_plain old new renaming child false = tt

pub made_plain : (turn : make.MakeTurn) → IsPlain (makes turn)
made_plain (make.more m) = tt
made_plain (make.made handle names) = tt
made_plain (make.failed error) = tt

pub cleared_plain : (turn : remove.Turn) → IsPlain (removing_turn turn)
cleared_plain (remove.more r) = tt
cleared_plain (remove.removed n) = tt
cleared_plain (remove.failed error) = tt

-- ---- a call's start

unless_plain : (why : Option Errno) (turn : CallTurn) → IsPlain turn → IsPlain (call.unless_fault why turn)
unless_plain (Some error) turn plain = tt
unless_plain None turn plain = plain

lacks_plain : (text : List ℕ) → IsPlain (call.lacks text)
lacks_plain text = unless_plain (text_fault text) (ends (fault NoMemory)) tt

single_plain : (step : StepWith ℕ) (b : Bool) → is_single step ≡ b
    → IsPlain (if b then more (acting wants.Any step []) else ends (fault Invalid))
single_plain step true e = e
single_plain step false e = tt

no_step_plain : (b : Bool) → IsPlain (if b then ends (fault NoMemory) else ends (fault Invalid))
no_step_plain true = tt
no_step_plain false = tt

let_go_plain : (standing : StandingObject) (b : Bool)
    → IsPlain (if b then more (releasing standing.handle) else ends (kept standing))
let_go_plain standing true = tt
let_go_plain standing false = tt

module _ (below : Below) where
  in_directory_plain : (change : Change) (split : Result Split Errno) → IsPlain (call.in_directory below change split)
  in_directory_plain change (Err error) = tt
  in_directory_plain change (Ok split) =
      walked_plain below true (Changes change split.name) (walk.starts (way_of below (Changes change split.name)) true split.dir)

  on_entry_plain : (rule : Rule) (change : Change) (text : List ℕ) → IsPlain (call.on_entry below rule change text)
  on_entry_plain rule change text =
      let split = split_of (reading_of text) rule in
      unless_plain (text_fault text) (call.in_directory below change split) (in_directory_plain change split)

  on_path_plain : (aim : Aim) (text : List ℕ) → IsPlain (call.on_path below aim text)
  on_path_plain aim text =
      unless_plain (text_fault text) (call.walks below aim (reading_of text))
      (walked_plain below true aim (walk.starts (way_of below aim) true (reading_of text)))

  between_plain : (mode : Mode) (old : Split) (split : Result Split Errno) → IsPlain (call.between below mode old split)
  between_plain mode old (Err error) = tt
  between_plain mode old (Ok new) =
      let aim = WalksOn new.dir (call.renaming_of old new mode) in
      walked_plain below true aim (walk.starts (way_of below aim) true old.dir)

  from_entry_plain : (mode : Mode) (new : List ℕ) (split : Result Split Errno)
      → IsPlain (call.from_entry below mode new split)
  from_entry_plain mode new (Err error) = tt
  from_entry_plain mode new (Ok old) =
      let split = split_of (reading_of new) Drop in
      unless_plain (text_fault new) (call.between below mode old split) (between_plain mode old split)

  clear_in_plain : (split : Result Split Errno) → IsPlain (call.clear_in below split)
  clear_in_plain (Err error) = tt
  clear_in_plain (Ok split) =
      cleared_plain (remove.begins (way_from below.root Follow below.flags) split.name split.dir)

  pub starts_plain : (room : Bool) (op : Op) → IsPlain (starts below room op)
  starts_plain true (Resolve path) = on_path_plain (Opens Follow) path
  starts_plain true (ResolveNoFollow path) = on_path_plain (Opens NoFollow) path
  starts_plain true (ReadLink path) = on_path_plain Reads path
  starts_plain true (CreateFile path) = on_entry_plain Refuse changes.MakeFile path
  starts_plain true (CreateDir path) = on_entry_plain Drop changes.MakeDir path
  starts_plain true (CreateLink path text) = on_entry_plain Refuse (changes.MakeLink text) path
  starts_plain true (RemoveFile path) = on_entry_plain Refuse changes.RemoveFile path
  starts_plain true (RemoveDir path) = on_entry_plain Drop changes.RemoveDir path
  starts_plain true (Rename old new mode) =
      let split = split_of (reading_of old) Drop in
      unless_plain (text_fault old) (call.from_entry below mode new split) (from_entry_plain mode new split)
  starts_plain true (MkdirAll path) =
      let turn = make.begins (make_way below) (reading_of path) in
      unless_plain (text_fault path) (makes turn) (made_plain turn)
  starts_plain true (RemoveAll path) =
      let split = split_of (reading_of path) Drop in
      unless_plain (text_fault path) (call.clear_in below split) (clear_in_plain split)
  starts_plain true (Single step) = single_plain step (is_single step) refl
  starts_plain true (Release standing) = let_go_plain standing (same_owner standing.owner below.root.owner)
  starts_plain false (Resolve path) = lacks_plain path
  starts_plain false (ResolveNoFollow path) = lacks_plain path
  starts_plain false (ReadLink path) = lacks_plain path
  starts_plain false (CreateFile path) = lacks_plain path
  starts_plain false (CreateDir path) = lacks_plain path
  starts_plain false (CreateLink path text) = lacks_plain path
  starts_plain false (RemoveFile path) = lacks_plain path
  starts_plain false (RemoveDir path) = lacks_plain path
  starts_plain false (Rename old new mode) = lacks_plain old
  starts_plain false (MkdirAll path) = lacks_plain path
  starts_plain false (RemoveAll path) = lacks_plain path
  starts_plain false (Single step) = no_step_plain (is_single step)
  starts_plain false (Release standing) = let_go_plain standing (same_owner standing.owner below.root.owner)
