-- The same of the bulk calls.
use Rattle.std.specs.Prelude.{◌≡◌, ℕ, zero, suc, ◌+◌, List, [], ◌∷◌, Bool, true, false, if◌then◌else◌, reverse, Option, Some, None, refl}
use Rattle.std.proofs.Common.{arith}
use Rattle.path_text.specs.declared.errno.Errno.{Errno}
use Rattle.path_text.specs.declared.errno.Errno.TheVariants.{NotFound, Raced, NoMemory, Busy, Exists, NotDir, IsDir, NotEmpty}
use Rattle.path_text.specs.Names.{same_names}
use Rattle.path_text.specs.Reading.{Reading}
use Rattle.tree_model.specs.declared.answer.Answer.{Answer}
use Rattle.tree_model.specs.declared.answer.Answer.TheVariants.{Opened, Names, Listed, Done, Refused}
use Rattle.tree_model.specs.declared.step.Kind.TheVariants as kinds
use Rattle.step_resolver.specs.Asked.{AskedPart}
use Rattle.step_resolver.specs.Order.{Way, Handle, is_dir_kind, refusal_of}
use Rattle.step_resolver.specs.Order as walk
use Rattle.bulk_ops.specs.declared.remove_all.clearing.TheConstants.{CLEARING_STEPS_MAX}
use Rattle.bulk_ops.specs.MakeAllOrder as make
use Rattle.bulk_ops.specs.RemoveAllOrder as remove
use Rattle.root_ops.specs.OwnHandles.{Fits, times, opened_by, closed_by}
use Rattle.root_ops.specs.Renamed.{walking_handles, making_handles}
use Rattle.root_ops.proofs.OwnHandles.OfWalks.{walk_holds, begins_holds, walk_keeps}

-- ---- MkdirAll

abbrev pub make_holds : make.MakeTurn → List ℕ
make_holds (make.more call) = making_handles call
make_holds (make.made handle names) = handle.number ∷ []
make_holds (make.failed error) = []

module _ (h : ℕ) where
  abbrev Makes : make.MakeTurn → ℕ → Type 0
  Makes turn n = times h (make_holds turn) ≡ n

  make_either : (b : Bool) (t u : make.MakeTurn) (n : ℕ) → Makes t n → Makes u n → Makes (if b then t else u) n
  make_either true t u n p q = p
  make_either false t u n p q = q

  make_given_up : (hs : List ℕ) (error : Errno) → Makes (make.gives_up hs error) (times h hs)
  make_given_up [] error = refl
  make_given_up (k ∷ hs) error = refl

  goes_down_holds : (held : Handle) (names left : List (List ℕ)) → Makes (make.goes_down held names left) (times h (held.number ∷ []))
  goes_down_holds held names [] = refl
  goes_down_holds held names (n ∷ left) = refl

  begins_to_make_holds : (room : Bool) (held : Handle) (names : List (List ℕ)) (rest : List AskedPart) (fault : Option Errno)
      → Makes (make.begins_to_make room held names rest fault) (times h (held.number ∷ []))
  begins_to_make_holds true held names rest (Some fault) = refl
  begins_to_make_holds false held names rest (Some fault) = refl
  begins_to_make_holds true held names rest None = goes_down_holds held names (make.rest_names rest)
  begins_to_make_holds false held names rest None = refl

  after_walk_holds : (room : Bool) (turn : walk.Turn) → Makes (make.after_walk room turn) (times h (walk_holds turn))
  after_walk_holds room (walk.more w) = refl
  after_walk_holds room (walk.found handle names) = make_either (is_dir_kind handle.kind) _ _ _ refl refl
  after_walk_holds room (walk.partial handle names rest) = begins_to_make_holds room handle names rest (make.rest_fault rest)
  after_walk_holds room (walk.failed error) = refl

  pub make_begins_holds : (way : Way) (path : Reading) → Makes (make.begins way path) 0
  make_begins_holds way path = let held = after_walk_holds true (walk.begins way path) in let none = begins_holds h way path in omega (arith, held, none)

  refused_make_holds : (held : Handle) (names : List (List ℕ)) (n : List ℕ) (left : List (List ℕ)) (error : Errno)
      → Makes (make.refused_make held names n left error) (times h (held.number ∷ []))
  refused_make_holds held names n left Exists = refl
  refused_make_holds held names n left error = refl

  abbrev MakeKept : Way → Bool → make.Making → Answer → Type 0
  MakeKept way room call answer =
      times h (make_holds (make.take way room call answer)) + times h (closed_by (make.due way call)) ≡ times h (making_handles call) + times h (opened_by answer)

  pub make_keeps : (way : Way) (room : Bool) (call : make.Making) (answer : Answer) → Fits (make.due way call) answer → MakeKept way room call answer
  make_keeps way room (make.walking w) answer fits =
      let held = after_walk_holds room (walk.take way room w answer) in
      let kept = walk_keeps h way room w answer fits in
      omega (arith, held, kept)
  make_keeps way room (make.making held names n left) (Opened k x kind) fits = cc (fits)
  make_keeps way room (make.making held names n left) Done fits = refl
  make_keeps way room (make.making held names n left) answer fits =
      let held' = refused_make_holds held names n left (refusal_of answer) in omega (arith, held')
  make_keeps way room (make.opening held names n left) (Opened k x kind) fits =
      let both : Makes (make.enters held names n left (record { number = k; node = x; kind = kind })) (times h (k ∷ held.number ∷ []))
      = make_either (is_dir_kind kind) (make.more (make.leaving held.number (record { number = k; node = x; kind = kind }) (n ∷ names) left))
      (make.gives_up (k ∷ held.number ∷ []) NotDir) _ (omega arith) refl in
      omega (arith, both)
  make_keeps way room (make.opening held names n left) answer fits = refl
  make_keeps way room (make.leaving old new names left) (Opened k x kind) fits = cc (fits)
  make_keeps way room (make.leaving old new names left) answer fits = let held = goes_down_holds new names left in omega (arith, held)
  make_keeps way room (make.ending held names) (Opened k x kind) fits = cc (fits)
  make_keeps way room (make.ending held names) (Names told) fits =
      let either = make_either (same_names told (reverse names)) (make.made held names) (make.gives_up (held.number ∷ []) Raced) _ refl refl in omega (arith, either)
  make_keeps way room (make.ending held names) answer fits = refl
  make_keeps way room (make.closing k hs error) (Opened j x kind) fits = cc (fits)
  make_keeps way room (make.closing k hs error) answer fits = let held = make_given_up hs error in omega (arith, held)

-- ---- RemoveAll

abbrev pub removing_holds : remove.Removing → List ℕ
removing_holds (remove.walking way target w) = walking_handles w
removing_holds (remove.clearing stage level above count left) = remove.before stage (remove.dirs (level ∷ above))
removing_holds (remove.closing k hs end) = k ∷ hs

abbrev pub remove_holds : remove.Turn → List ℕ
remove_holds (remove.more call) = removing_holds call
remove_holds (remove.removed count) = []
remove_holds (remove.failed error) = []

module _ (h : ℕ) where
  abbrev Removes : remove.Turn → ℕ → Type 0
  Removes turn n = times h (remove_holds turn) ≡ n

  ends_holds : (end : remove.End) → Removes (remove.ends end) 0
  ends_holds (remove.fails error) = refl
  ends_holds (remove.removes count) = refl

  remove_closes_holds : (hs : List ℕ) (end : remove.End) → Removes (remove.closes hs end) (times h hs)
  remove_closes_holds [] end = ends_holds end
  remove_closes_holds (k ∷ hs) end = refl

  is_due_holds : (stage : remove.Stage) (level : remove.Level) (above : List remove.Level) (count left : ℕ)
      → Removes (remove.is_due stage level above count left) (times h (remove.before stage (remove.dirs (level ∷ above))))
  is_due_holds stage level above count zero = remove_closes_holds (remove.before stage (remove.dirs (level ∷ above))) (remove.fails Busy)
  is_due_holds stage level above count (suc left) = refl

  remove_given_up : (stage : remove.Stage) (level : remove.Level) (above : List remove.Level) (error : Errno)
      → Removes (remove.gives_up stage level above error) (times h (remove.before stage (remove.dirs (level ∷ above))))
  remove_given_up stage level above error = remove_closes_holds (remove.before stage (remove.dirs (level ∷ above))) (remove.fails error)

  next_entry_holds : (d : ℕ) (others : List (List ℕ)) (above : List remove.Level) (count left : ℕ)
      → Removes (remove.next_entry d others above count left) (times h (d ∷ remove.dirs above))
  next_entry_holds d (m ∷ others) above count left = is_due_holds remove.removes_file (record { dir = d; name = m; others = others }) above count left
  next_entry_holds d [] (level ∷ above) count left = is_due_holds (remove.leaves d) level above count left
  next_entry_holds d [] [] count left = refl

  finished_holds : (level : remove.Level) (above : List remove.Level) (count left : ℕ)
      → Removes (remove.finished level above count left) (times h (level.dir ∷ remove.dirs above))
  finished_holds level above count left = next_entry_holds level.dir level.others above count left

  enters_holds : (k : ℕ) (names : List (List ℕ)) (level : remove.Level) (above : List remove.Level) (count left : ℕ)
      → Removes (remove.enters k names level above count left) (times h (k ∷ level.dir ∷ remove.dirs above))
  enters_holds k [] level above count left = is_due_holds (remove.leaves k) level above count left
  enters_holds k (n ∷ others) level above count left = is_due_holds remove.removes_file (record { dir = k; name = n; others = others }) (level ∷ above) count left

  walked_holds : (way : Way) (target : List ℕ) (turn : walk.Turn) → Removes (remove.walked way target turn) (times h (walk_holds turn))
  walked_holds way target (walk.more w) = refl
  walked_holds way target (walk.found handle names) =
      is_due_holds remove.removes_file (record { dir = handle.number; name = target; others = [] }) [] 0 CLEARING_STEPS_MAX
  walked_holds way target (walk.partial handle names rest) = refl
  walked_holds way target (walk.failed error) = refl

  pub remove_begins_holds : (way : Way) (target : List ℕ) (path : Reading) → Removes (remove.begins way target path) 0
  remove_begins_holds way target path =
      let held = walked_holds way target (walk.begins way path) in let none = begins_holds h way path in omega (arith, held, none)

  abbrev RemoveKept : Bool → remove.Removing → Answer → Type 0
  RemoveKept room call answer =
      times h (remove_holds (remove.take room call answer)) + times h (closed_by (remove.due call)) ≡ times h (removing_holds call) + times h (opened_by answer)

  pub remove_keeps : (room : Bool) (call : remove.Removing) (answer : Answer) → Fits (remove.due call) answer → RemoveKept room call answer
  remove_keeps room (remove.walking way target w) answer fits =
      let held = walked_holds way target (walk.take way room w answer) in
      let kept = walk_keeps h way room w answer fits in
      omega (arith, held, kept)
  -- a removal as what is no directory
  remove_keeps room (remove.clearing remove.removes_file level above count left) (Opened k x kind) fits = cc (fits)
  remove_keeps room (remove.clearing remove.removes_file level above count left) Done fits = let held = finished_holds level above (suc count) left in omega (arith, held)
  remove_keeps room (remove.clearing remove.removes_file level above count left) (Refused NotFound) fits = let held = finished_holds level above count left in omega (arith, held)
  remove_keeps room (remove.clearing remove.removes_file level above count left) (Refused IsDir) fits = let held = is_due_holds remove.opens level above count left in omega (arith, held)
  remove_keeps room (remove.clearing remove.removes_file level above count left) answer fits =
      let held = remove_given_up remove.removes_file level above (refusal_of answer) in omega (arith, held)
  -- an Open
  remove_keeps room (remove.clearing remove.opens level above count left) (Opened k x kinds.Dir) fits = let held = is_due_holds (remove.lists k) level above count left in omega (arith, held)
  remove_keeps room (remove.clearing remove.opens level above count left) (Opened k x kinds.File) fits = let held = is_due_holds (remove.shuts k) level above count left in omega (arith, held)
  remove_keeps room (remove.clearing remove.opens level above count left) (Opened k x kinds.Link) fits = let held = is_due_holds (remove.shuts k) level above count left in omega (arith, held)
  remove_keeps room (remove.clearing remove.opens level above count left) (Refused NotFound) fits = let held = finished_holds level above count left in omega (arith, held)
  remove_keeps room (remove.clearing remove.opens level above count left) answer fits =
      let held = remove_given_up remove.opens level above (refusal_of answer) in omega (arith, held)
  -- a List
  remove_keeps room (remove.clearing (remove.lists k) level above count left) (Opened j x kind) fits = cc (fits)
  remove_keeps true (remove.clearing (remove.lists k) level above count left) (Listed names) fits = let held = enters_holds k names level above count left in omega (arith, held)
  remove_keeps false (remove.clearing (remove.lists k) level above count left) (Listed names) fits =
      let held = remove_given_up (remove.lists k) level above NoMemory in omega (arith, held)
  remove_keeps true (remove.clearing (remove.lists k) level above count left) answer fits =
      let held = remove_given_up (remove.lists k) level above (refusal_of answer) in omega (arith, held)
  remove_keeps false (remove.clearing (remove.lists k) level above count left) answer fits =
      let held = remove_given_up (remove.lists k) level above (refusal_of answer) in omega (arith, held)
  -- a Close
  remove_keeps room (remove.clearing (remove.shuts k) level above count left) (Opened j x kind) fits = cc (fits)
  remove_keeps room (remove.clearing (remove.shuts k) level above count left) answer fits = let held = is_due_holds remove.removes_file level above count left in omega (arith, held)
  remove_keeps room (remove.clearing (remove.leaves k) level above count left) (Opened j x kind) fits = cc (fits)
  remove_keeps room (remove.clearing (remove.leaves k) level above count left) answer fits = let held = is_due_holds remove.removes_dir level above count left in omega (arith, held)
  -- a removal as a directory
  remove_keeps room (remove.clearing remove.removes_dir level above count left) (Opened k x kind) fits = cc (fits)
  remove_keeps room (remove.clearing remove.removes_dir level above count left) Done fits = let held = finished_holds level above (suc count) left in omega (arith, held)
  remove_keeps room (remove.clearing remove.removes_dir level above count left) (Refused NotFound) fits = let held = finished_holds level above count left in omega (arith, held)
  remove_keeps room (remove.clearing remove.removes_dir level above count left) (Refused NotEmpty) fits = let held = is_due_holds remove.opens level above count left in omega (arith, held)
  remove_keeps room (remove.clearing remove.removes_dir level above count left) (Refused NotDir) fits = let held = is_due_holds remove.removes_file level above count left in omega (arith, held)
  remove_keeps room (remove.clearing remove.removes_dir level above count left) answer fits =
      let held = remove_given_up remove.removes_dir level above (refusal_of answer) in omega (arith, held)
  remove_keeps room (remove.closing k hs end) (Opened j x kind) fits = cc (fits)
  remove_keeps room (remove.closing k hs end) answer fits = let held = remove_closes_holds hs end in omega (arith, held)
