-- What a call under way holds is open, each handle once, so that a Close that is due closes something.
use Rattle.std.specs.Prelude.{◌≡◌, ◌≢◌, ◌⊎◌, ℕ, List, [], ◌∷◌, ◌++◌, Bool, true, false, if◌then◌else◌, Option, Some, None, Result, Ok, Err, refl}
use Rattle.std.proofs.Common.{sym, ap, subst, ◌∙◌, inl, inr}
use Rattle.std.proofs.lemmas.Bool.{false≢true, ne_eqb}
use Rattle.path_text.specs.declared.errno.Errno.{Errno}
use Rattle.path_text.specs.declared.errno.Errno.TheVariants.{NotFound, NoMemory, BadHandle, Invalid}
use Rattle.path_text.specs.declared.path.Rule.TheVariants.{Drop, Refuse}
use Rattle.path_text.specs.declared.path.Split.{Split}
use Rattle.path_text.specs.Reading.{Reading}
use Rattle.path_text.specs.Split.{split_of}
use Rattle.path_text.specs.Text.{text_fault, reading_of}
use Rattle.tree_model.specs.declared.answer.Answer.{Answer}
use Rattle.tree_model.specs.declared.answer.Answer.TheVariants.{Opened, Text, Names, NotBelow, Listed, Done, Refused}
use Rattle.tree_model.specs.declared.step.Kind.{Kind}
use Rattle.tree_model.specs.declared.step.Mode.{Mode}
use Rattle.tree_model.specs.StepWith.{StepWith}
use Rattle.tree_model.specs.declared.step.StepOf.TheVariants as steps
use Rattle.tree_model.specs.StepLaws.{is_close_of}
use Rattle.handles.specs.Objects.{StandingObject}
use Rattle.walk_plan.specs.declared.goal.Goal.TheVariants.{Follow, NoFollow}
use Rattle.step_resolver.specs.Order.{Way, Handle, Walking, opening, reading, rising, judging, duping, ending, found, partial, failed, handles_of, is_dir_kind, begins}
use Rattle.step_resolver.specs.Order as walk
use Rattle.step_resolver.specs.View.{way_from}
use Rattle.step_resolver.proofs.Underway.WalkInvariant.{IsNotIn}
use Rattle.bulk_ops.specs.MakeAllOrder as make
use Rattle.bulk_ops.specs.RemoveAllOrder as remove
use Rattle.bulk_ops.specs.RemoveAllOrder.{removes_file, opens, lists, shuts, leaves, removes_dir, dirs}
use Rattle.root_ops.specs.declared.aim.Aim.{Aim}
use Rattle.root_ops.specs.declared.aim.Aim.TheVariants.{Opens, Reads, Changes, WalksOn, Renames}
use Rattle.root_ops.specs.declared.aim.Change.{Change}
use Rattle.root_ops.specs.declared.aim.Change.TheVariants as changes
use Rattle.root_ops.specs.declared.aim.Renaming.{Renaming}
use Rattle.root_ops.specs.declared.aim.Wanted.{Wanted}
use Rattle.root_ops.specs.declared.aim.Wanted.TheVariants as wants
use Rattle.root_ops.specs.declared.below.Below.{Below}
use Rattle.root_ops.specs.declared.op.Op.{Op}
use Rattle.root_ops.specs.declared.op.Op.TheVariants.{Resolve, ResolveNoFollow, ReadLink, CreateFile, CreateDir, CreateLink, RemoveFile, RemoveDir, Rename, MkdirAll, RemoveAll, Single, Release}
use Rattle.root_ops.specs.Order.{Reply, opened, link_text, done, count, stepped, kept, fault, After, gives, acts, Doing, walking, acting, checking, closing, making, removing, releasing, CallTurn, more, ends, change_step, rename_step, reply_to, walked_on, walked, reached, renames, held_by, way_of, make_way, makes, removing_turn, walks, unless_fault, in_directory as on_directory, clear_in, between, from_entry, renaming_of, is_single, single, releases, same_owner, starts, checked, take, due, IsUnmade}
use Rattle.root_ops.specs.Order as call
use Rattle.race_core.specs.Book.{is_close}
use Rattle.race_core.proofs.HeldOpen.{AllOpen, with_opened, with_after, held_walking, then_walking, HeldAt, walk_taken, walk_begun, walk_started, held_making, then_making, HeldMaking, make_taken, make_begun, held_removing, then_removing, HeldRemoving, removal_taken, removal_begun}

-- ---- a call

-- what a reply brings
abbrev pub opened_by_reply : Reply → List ℕ
opened_by_reply (opened handle names) = handle.number ∷ []
opened_by_reply (link_text text) = []
opened_by_reply done = []
opened_by_reply (count n) = []
opened_by_reply (stepped answer) = []
opened_by_reply (kept standing) = []
opened_by_reply (fault error) = []

brings_none : (wanted : Wanted) (answer : Answer) → opened_by_reply (reply_to wanted answer) ≡ []
brings_none wants.Done Done = refl
brings_none wants.Done answer = refl
brings_none wants.Text (Text bytes) = refl
brings_none wants.Text answer = refl
brings_none wants.Any (Refused error) = refl
brings_none wants.Any answer = refl

abbrev Follows : (ℕ → Type 0) → List ℕ → After → Type 0
Follows Open hs (gives reply) = (opened_by_reply reply ≡ []) × AllOpen Open hs
Follows Open hs (acts wanted step ks) = (is_close step ≡ false) × AllOpen Open (hs ++ ks)

-- What a call under way holds is open, and its own step closes nothing; what it is to release may be closed.
abbrev pub CallHolds : (ℕ → Type 0) → (ℕ → Type 0) → Doing → Type 0
CallHolds Open Freed (walking w aim) = AllOpen Open (held_walking w ++ held_by aim)
CallHolds Open Freed (acting wanted step hs) = (is_close step ≡ false) × AllOpen Open hs
CallHolds Open Freed (checking old new renaming) = AllOpen Open (new ∷ old ∷ [])
CallHolds Open Freed (closing h hs (gives reply)) = (opened_by_reply reply ≡ []) × AllOpen Open (h ∷ hs)
CallHolds Open Freed (closing h hs (acts wanted step ks)) = (is_close step ≡ false) × AllOpen Open (h ∷ (hs ++ ks))
CallHolds Open Freed (making m) = AllOpen Open (held_making m)
CallHolds Open Freed (removing r) = AllOpen Open (held_removing r)
CallHolds Open Freed (releasing h) = Freed h

abbrev pub TurnHolds : (ℕ → Type 0) → (ℕ → Type 0) → CallTurn → Type 0
TurnHolds Open Freed (more doing) = CallHolds Open Freed doing
TurnHolds Open Freed (ends reply) = AllOpen Open (opened_by_reply reply)

-- the same once its step was answered
abbrev Then : (ℕ → Type 0) → Doing → Answer → Type 0
Then Open (walking w aim) answer = AllOpen Open (then_walking w answer ++ held_by aim)
Then Open (acting wanted step hs) answer = AllOpen Open (with_opened answer hs)
Then Open (checking old new renaming) answer = AllOpen Open (with_opened answer (new ∷ old ∷ []))
Then Open (closing h hs after) answer = Follows Open hs after
Then Open (making m) answer = AllOpen Open (then_making m answer)
Then Open (removing r) answer = AllOpen Open (then_removing r answer)
Then Open (releasing h) answer = Unit {0}

change_closes_none : (change : Change) (d : ℕ) (n : List ℕ) → is_close (change_step change d n) ≡ false
change_closes_none changes.MakeFile d n = refl
change_closes_none changes.MakeDir d n = refl
change_closes_none (changes.MakeLink text) d n = refl
change_closes_none changes.RemoveFile d n = refl
change_closes_none changes.RemoveDir d n = refl

single_closes_none : (step : StepWith ℕ) → is_single step ≡ true → is_close step ≡ false
single_closes_none (steps.Open h n) e = refl
single_closes_none (steps.Dup h) e = refl
single_closes_none (steps.Parent h) e = refl
single_closes_none (steps.ReadLink h) e = refl
single_closes_none (steps.NameBelow r h) e = refl
single_closes_none (steps.List h) e = refl
single_closes_none (steps.Close h) e = absurd (false≢true e)
single_closes_none (steps.MakeDir h n) e = refl
single_closes_none (steps.MakeFile h n) e = refl
single_closes_none (steps.MakeLink h n text) e = refl
single_closes_none (steps.RemoveFile h n) e = refl
single_closes_none (steps.RemoveDir h n) e = refl
single_closes_none (steps.Rename h n k m mode) e = refl

module _ (Open Freed : ℕ → Type 0) (below : Below) where
  then_closes : (hs : List ℕ) (after : After) → Follows Open hs after → TurnHolds Open Freed (call.closes hs after)
  then_closes [] (gives reply) all = subst (AllOpen Open) (sym all.0) tt
  then_closes [] (acts wanted step ks) all = all
  then_closes (h ∷ hs) (gives reply) all = all
  then_closes (h ∷ hs) (acts wanted step ks) all = all

  then_gives_up : (hs : List ℕ) (error : Errno) → AllOpen Open hs → TurnHolds Open Freed (call.gives_up hs error)
  then_gives_up hs error all = then_closes hs (gives (fault error)) (refl, all)

  then_renames : (old new : ℕ) (renaming : Renaming) → AllOpen Open (new ∷ old ∷ []) → TurnHolds Open Freed (renames old new renaming)
  then_renames old new renaming all = on renaming.slash
    where
      on : (b : Bool) → TurnHolds Open Freed (if b then more (checking old new renaming) else more (acting wants.Done (rename_step renaming old new) (new ∷ old ∷ [])))
      on true = all
      on false = (refl, all)

  then_walks_on : (way : Way) (old : ℕ) (renaming : Renaming) (turn : walk.Turn) → HeldAt Open (old ∷ []) way turn → TurnHolds Open Freed (walked_on old renaming turn)
  then_walks_on way old renaming (walk.more w) all = all
  then_walks_on way old renaming (found handle names) all = then_renames old handle.number renaming all
  then_walks_on way old renaming (partial handle names rest) all = then_gives_up (handle.number ∷ old ∷ []) NotFound all
  then_walks_on way old renaming (failed error) all = then_gives_up (old ∷ []) error all

  then_reaches : (room : Bool) (handle : Handle) (names : List (List ℕ)) (aim : Aim) → AllOpen Open (handle.number ∷ held_by aim) → TurnHolds Open Freed (reached below room handle names aim)
  then_reaches room handle names (Opens goal) all = all
  then_reaches room handle names Reads all = (refl, all)
  then_reaches room handle names (Changes change n) all = (change_closes_none change handle.number n, all)
  then_reaches room handle names (WalksOn path renaming) all =
      let way = way_from below.root Follow below.flags in
      then_walks_on way handle.number renaming (walk.starts way room path)
      (walk_started Open (handle.number ∷ []) way room (begins way path) all (walk_begun Open (handle.number ∷ []) way path all))
  then_reaches room handle names (Renames old renaming) all = then_renames old handle.number renaming all

  then_walks : (way : Way) (room : Bool) (aim : Aim) (turn : walk.Turn) → HeldAt Open (held_by aim) way turn → TurnHolds Open Freed (walked below room aim turn)
  then_walks way room aim (walk.more w) all = all
  then_walks way room aim (found handle names) all = then_reaches room handle names aim all
  then_walks way room aim (partial handle names rest) all = then_gives_up (handle.number ∷ held_by aim) NotFound all
  then_walks way room aim (failed error) all = then_gives_up (held_by aim) error all

  then_checks : (old new : ℕ) (renaming : Renaming) (child : ℕ) (is_dir : Bool) → AllOpen Open (child ∷ new ∷ old ∷ []) → TurnHolds Open Freed (checked old new renaming child is_dir)
  then_checks old new renaming child true all = (refl, all)
  then_checks old new renaming child false all = (refl, all)

  then_makes : (way : Way) (turn : make.MakeTurn) → HeldMaking Open way turn → TurnHolds Open Freed (makes turn)
  then_makes way (make.more m) all = all
  then_makes way (make.made handle names) all = all
  then_makes way (make.failed error) all = tt

  then_clears : (turn : remove.Turn) → HeldRemoving Open turn → TurnHolds Open Freed (removing_turn turn)
  then_clears (remove.more r) all = all
  then_clears (remove.removed n) all = tt
  then_clears (remove.failed error) all = tt

  acted : (answer : Answer) (hs : List ℕ) → AllOpen Open (with_opened answer hs) → AllOpen Open hs
  acted (Opened h x kind) hs all = all.1.1
  acted answer hs all = all

  pub taken : (room : Bool) (doing : Doing) (answer : Answer) → Then Open doing answer → TurnHolds Open Freed (take below room doing answer)
  taken room (walking w aim) answer all =
      then_walks (way_of below aim) room aim (walk.take (way_of below aim) room w answer) (walk_taken Open (held_by aim) (way_of below aim) room w answer all)
  taken room (acting wanted step hs) answer all = then_closes hs (gives (reply_to wanted answer)) (brings_none wanted answer, acted answer hs all)
  taken room (checking old new renaming) (Opened h x kind) all = then_checks old new renaming h (is_dir_kind kind) all
  taken room (checking old new renaming) answer all = (refl, all)
  taken room (closing h hs after) answer all = then_closes hs after all
  taken room (making m) answer all = then_makes (make_way below) (make.take (make_way below) room m answer) (make_taken Open (make_way below) room m answer all)
  taken room (removing r) answer all = then_clears (remove.take room r answer) (removal_taken Open room r answer all)
  taken room (releasing h) answer all = subst (AllOpen Open) (sym (brings_none wants.Done answer)) tt

  -- ---- its start

  unless : (why : Option Errno) (turn : CallTurn) → TurnHolds Open Freed turn → TurnHolds Open Freed (unless_fault why turn)
  unless (Some error) turn all = tt
  unless None turn all = all

  begun_walk : (aim : Aim) (path : Reading) → held_by aim ≡ [] → TurnHolds Open Freed (walks below aim path)
  begun_walk aim path none =
      then_walks (way_of below aim) true aim (begins (way_of below aim) path) (walk_begun Open (held_by aim) (way_of below aim) path (subst (AllOpen Open) (sym none) tt))

  begun_change : (change : Change) (split : Result Split Errno) → TurnHolds Open Freed (on_directory below change split)
  begun_change change (Err error) = tt
  begun_change change (Ok split) = begun_walk (Changes change split.name) split.dir refl

  begun_between : (mode : Mode) (d : Split) (split : Result Split Errno) → TurnHolds Open Freed (between below mode d split)
  begun_between mode d (Err error) = tt
  begun_between mode d (Ok e) = begun_walk (WalksOn e.dir (renaming_of d e mode)) d.dir refl

  begun_rename : (mode : Mode) (text : List ℕ) (split : Result Split Errno) → TurnHolds Open Freed (from_entry below mode text split)
  begun_rename mode text (Err error) = tt
  begun_rename mode text (Ok d) = unless (text_fault text) _ (begun_between mode d (split_of (reading_of text) Drop))

  begun_clearing : (split : Result Split Errno) → TurnHolds Open Freed (clear_in below split)
  begun_clearing (Err error) = tt
  begun_clearing (Ok split) =
      let way = way_from below.root Follow below.flags in
      then_clears (remove.begins way split.name split.dir) (removal_begun Open way split.name split.dir)

  begun_single : (step : StepWith ℕ) → TurnHolds Open Freed (single step)
  begun_single step = on (is_single step) refl
    where
      on : (b : Bool) → is_single step ≡ b → TurnHolds Open Freed (if b then more (acting wants.Any step []) else ends (fault Invalid))
      on true e = (single_closes_none step e, tt)
      on false e = tt

  no_single : (b : Bool) → TurnHolds Open Freed (if b then ends (fault NoMemory) else ends (fault Invalid))
  no_single true = tt
  no_single false = tt

  begun_release : (standing : StandingObject) → (same_owner standing.owner below.root.owner ≡ true → Freed standing.handle) → TurnHolds Open Freed (releases below.root.owner standing)
  begun_release standing free = on (same_owner standing.owner below.root.owner) refl
    where
      on : (b : Bool) → same_owner standing.owner below.root.owner ≡ b → TurnHolds Open Freed (if b then more (releasing standing.handle) else ends (kept standing))
      on true e = free e
      on false e = tt

  -- what is to be released by this operation may be closed
  abbrev pub MayRelease : Op → Type 0
  MayRelease op = (standing : StandingObject) → op ≡ Release standing → same_owner standing.owner below.root.owner ≡ true → Freed standing.handle

  -- a call holds nothing yet as it starts
  pub started : (room : Bool) (op : Op) → MayRelease op → TurnHolds Open Freed (starts below room op)
  started true (Resolve path) free = unless (text_fault path) _ (begun_walk (Opens Follow) (reading_of path) refl)
  started true (ResolveNoFollow path) free = unless (text_fault path) _ (begun_walk (Opens NoFollow) (reading_of path) refl)
  started true (ReadLink path) free = unless (text_fault path) _ (begun_walk Reads (reading_of path) refl)
  started true (CreateFile path) free = unless (text_fault path) _ (begun_change _ (split_of (reading_of path) Refuse))
  started true (CreateDir path) free = unless (text_fault path) _ (begun_change _ (split_of (reading_of path) Drop))
  started true (CreateLink path text) free = unless (text_fault path) _ (begun_change _ (split_of (reading_of path) Refuse))
  started true (RemoveFile path) free = unless (text_fault path) _ (begun_change _ (split_of (reading_of path) Refuse))
  started true (RemoveDir path) free = unless (text_fault path) _ (begun_change _ (split_of (reading_of path) Drop))
  started true (Rename d n mode) free = unless (text_fault d) _ (begun_rename mode n (split_of (reading_of d) Drop))
  started true (MkdirAll path) free = unless (text_fault path) _ (then_makes (make_way below) (make.begins (make_way below) (reading_of path)) (make_begun Open (make_way below) (reading_of path)))
  started true (RemoveAll path) free = unless (text_fault path) _ (begun_clearing (split_of (reading_of path) Drop))
  started true (Single step) free = begun_single step
  started true (Release standing) free = begun_release standing (free standing refl)
  started false (Resolve path) free = unless (text_fault path) _ tt
  started false (ResolveNoFollow path) free = unless (text_fault path) _ tt
  started false (ReadLink path) free = unless (text_fault path) _ tt
  started false (CreateFile path) free = unless (text_fault path) _ tt
  started false (CreateDir path) free = unless (text_fault path) _ tt
  started false (CreateLink path text) free = unless (text_fault path) _ tt
  started false (RemoveFile path) free = unless (text_fault path) _ tt
  started false (RemoveDir path) free = unless (text_fault path) _ tt
  started false (Rename d n mode) free = unless (text_fault d) _ tt
  started false (MkdirAll path) free = unless (text_fault path) _ tt
  started false (RemoveAll path) free = unless (text_fault path) _ tt
  started false (Single step) free = no_single (is_single step)
  started false (Release standing) free = begun_release standing (free standing refl)

-- ---- steps

-- What a step leaves open: all but what it closes, and what it opened, which wasn't.
pub record Moves (Open : ℕ → Type 0) (step : StepWith ℕ) (answer : Answer) (New : ℕ → Type 0) : Type 0 where
  pub stays : (k : ℕ) → Open k → is_close_of k step ≡ false → New k
  pub is_new : (h x : ℕ) (kind : Kind) → answer ≡ Opened h x kind → New h × (Open h → ⊥)

module _ (Open New : ℕ → Type 0) (step : StepWith ℕ) (answer : Answer) (moves : Moves Open step answer New) where
  pub stay : (hs : List ℕ) → ((k : ℕ) → is_close_of k step ≡ false) → AllOpen Open hs → AllOpen New hs
  stay [] none all = tt
  stay (h ∷ hs) none all = (moves.stays h all.0 (none h), (all.1.0, stay hs none all.1.1))

  pub not_held : (h : ℕ) (hs : List ℕ) → (Open h → ⊥) → AllOpen Open hs → IsNotIn h hs
  not_held h [] none all = tt
  not_held h (k ∷ hs) none all = ((λ e. none (subst Open (sym e) all.0)), not_held h hs none all.1.1)

  with_new : (v : Answer) → answer ≡ v → (hs : List ℕ) → ((k : ℕ) → is_close_of k step ≡ false) → AllOpen Open hs → AllOpen New (with_opened v hs)
  with_new (Opened h x kind) e hs none all = ((moves.is_new h x kind e).0, (not_held h hs (moves.is_new h x kind e).1 all, stay hs none all))
  with_new (Text text) e hs none all = stay hs none all
  with_new (Names names) e hs none all = stay hs none all
  with_new NotBelow e hs none all = stay hs none all
  with_new (Listed names) e hs none all = stay hs none all
  with_new Done e hs none all = stay hs none all
  with_new (Refused error) e hs none all = stay hs none all

  made : (hs : List ℕ) → ((k : ℕ) → is_close_of k step ≡ false) → AllOpen Open hs → AllOpen New (with_opened answer hs)
  made hs none all = with_new answer refl hs none all

  pub others : (h : ℕ) (hs : List ℕ) → step ≡ steps.Close h → IsNotIn h hs → AllOpen Open hs → AllOpen New hs
  others h [] is out all = tt
  others h (k ∷ hs) is out all = (moves.stays k all.0 (ap (is_close_of k) is ∙ not_that k h (λ e. out.0 (sym e))), (all.1.0, others h hs is out.1 all.1.1))
    where
      not_that : (k h : ℕ) → k ≢ h → is_close_of k (steps.Close h) ≡ false
      not_that k h ne = ne_eqb h k (λ e. ne (sym e))

  gone : (h : ℕ) (hs : List ℕ) → step ≡ steps.Close h → AllOpen Open (h ∷ hs) → AllOpen New hs
  gone h hs is all = others h hs is all.1.0 all.1.1

opened_before : (answer : Answer) (hs fs : List ℕ) → with_opened answer hs ++ fs ≡ with_opened answer (hs ++ fs)
opened_before (Opened h x kind) hs fs = refl
opened_before (Text text) hs fs = refl
opened_before (Names names) hs fs = refl
opened_before NotBelow hs fs = refl
opened_before (Listed names) hs fs = refl
opened_before Done hs fs = refl
opened_before (Refused error) hs fs = refl

pub closes_none : (step : StepWith ℕ) → is_close step ≡ false → (k : ℕ) → is_close_of k step ≡ false
closes_none (steps.Open h n) e k = refl
closes_none (steps.Dup h) e k = refl
closes_none (steps.Parent h) e k = refl
closes_none (steps.ReadLink h) e k = refl
closes_none (steps.NameBelow r h) e k = refl
closes_none (steps.List h) e k = refl
closes_none (steps.Close h) e k = absurd (false≢true (sym e))
closes_none (steps.MakeDir h n) e k = refl
closes_none (steps.MakeFile h n) e k = refl
closes_none (steps.MakeLink h n text) e k = refl
closes_none (steps.RemoveFile h n) e k = refl
closes_none (steps.RemoveDir h n) e k = refl
closes_none (steps.Rename h n k m mode) e l = refl

module _ (Open New : ℕ → Type 0) (answer : Answer) where
  with_others : (step : StepWith ℕ) → Moves Open step answer New → (hs fs : List ℕ) → is_close step ≡ false → AllOpen Open (hs ++ fs) → AllOpen New (with_opened answer hs ++ fs)
  with_others step moves hs fs e all = subst (AllOpen New) (sym (opened_before answer hs fs)) (made Open New step answer moves (hs ++ fs) (closes_none step e) all)

  walk_moves : (way : Way) (w : Walking) (fs : List ℕ) → Moves Open (walk.due way w) answer New → AllOpen Open (held_walking w ++ fs) → AllOpen New (then_walking w answer ++ fs)
  walk_moves way (opening position own follow n rest) fs moves all = with_others _ moves (handles_of position) fs refl all
  walk_moves way (reading position link rest) fs moves all = with_others _ moves (link.number ∷ handles_of position) fs refl all
  walk_moves way (rising handle names rest) fs moves all = with_others _ moves (handle.number ∷ []) fs refl all
  walk_moves way (judging handle names rest) fs moves all = with_others _ moves (handle.number ∷ []) fs refl all
  walk_moves way (duping rest) fs moves all = with_others _ moves [] fs refl all
  walk_moves way (ending handle names rest) fs moves all = with_others _ moves (handle.number ∷ []) fs refl all
  walk_moves way (walk.closing h hs after) fs moves all = gone Open New _ answer moves h (with_after hs after ++ fs) refl all

  make_moves : (way : Way) (m : make.Making) → Moves Open (make.due way m) answer New → AllOpen Open (held_making m) → AllOpen New (then_making m answer)
  make_moves way (make.walking w) moves all = walk_moves way w [] moves all
  make_moves way (make.making held names n left) moves all = made Open New _ answer moves (held.number ∷ []) (λ k. refl) all
  make_moves way (make.opening held names n left) moves all = made Open New _ answer moves (held.number ∷ []) (λ k. refl) all
  make_moves way (make.leaving old new names left) moves all = gone Open New _ answer moves old (new.number ∷ []) refl all
  make_moves way (make.ending held names) moves all = made Open New _ answer moves (held.number ∷ []) (λ k. refl) all
  make_moves way (make.closing h hs error) moves all = gone Open New _ answer moves h hs refl all

  removal_moves : (r : remove.Removing) → Moves Open (remove.due r) answer New → AllOpen Open (held_removing r) → AllOpen New (then_removing r answer)
  removal_moves (remove.walking way target w) moves all = walk_moves way w [] moves all
  removal_moves (remove.clearing removes_file level above n left) moves all = made Open New _ answer moves (dirs (level ∷ above)) (λ k. refl) all
  removal_moves (remove.clearing opens level above n left) moves all = made Open New _ answer moves (dirs (level ∷ above)) (λ k. refl) all
  removal_moves (remove.clearing (lists h) level above n left) moves all = made Open New _ answer moves (h ∷ dirs (level ∷ above)) (λ k. refl) all
  removal_moves (remove.clearing (shuts h) level above n left) moves all = gone Open New _ answer moves h (dirs (level ∷ above)) refl all
  removal_moves (remove.clearing (leaves h) level above n left) moves all = gone Open New _ answer moves h (dirs (level ∷ above)) refl all
  removal_moves (remove.clearing removes_dir level above n left) moves all = made Open New _ answer moves (dirs (level ∷ above)) (λ k. refl) all
  removal_moves (remove.closing h hs end) moves all = gone Open New _ answer moves h hs refl all

  moved : (Freed : ℕ → Type 0) (below : Below) (doing : Doing) → Moves Open (due below doing) answer New → CallHolds Open Freed doing → Then New doing answer
  moved Freed below (walking w aim) moves all = walk_moves (way_of below aim) w (held_by aim) moves all
  moved Freed below (acting wanted step hs) moves all = made Open New step answer moves hs (closes_none step all.0) all.1
  moved Freed below (checking old new renaming) moves all = made Open New _ answer moves (new ∷ old ∷ []) (λ k. refl) all
  moved Freed below (closing h hs (gives reply)) moves all = (all.0, gone Open New _ answer moves h hs refl all.1)
  moved Freed below (closing h hs (acts wanted step ks)) moves all = (all.0, gone Open New _ answer moves h (hs ++ ks) refl all.1)
  moved Freed below (making m) moves all = make_moves (make_way below) m moves all
  moved Freed below (removing r) moves all = removal_moves r moves all
  moved Freed below (releasing h) moves all = tt

  -- a call holds what it held, but for what its step closed, and what that opened
  pub holds_on : (Freed NewFreed : ℕ → Type 0) (below : Below) (room : Bool) (doing : Doing) → Moves Open (due below doing) answer New → CallHolds Open Freed doing
      → TurnHolds New NewFreed (take below room doing answer)
  holds_on Freed NewFreed below room doing moves all = taken New NewFreed below room doing answer (moved Freed below doing moves all)

-- a step that isn't made leaves all open
pub unmoved : (Open : ℕ → Type 0) (step : StepWith ℕ) (error : Errno) → Moves Open step (Refused error) Open
unmoved Open step error = record { stays = λ k is e. is; is_new = λ h x kind e. cc (e) }

-- ---- what is due to be closed is open

module _ (Open : ℕ → Type 0) where
  walk_closes : (way : Way) (w : Walking) (fs : List ℕ) → is_close (walk.due way w) ≡ true → AllOpen Open (held_walking w ++ fs) → (h : ℕ) × ((walk.due way w ≡ steps.Close h) × Open h)
  walk_closes way (opening position own follow n rest) fs e all = absurd (false≢true e)
  walk_closes way (reading position link rest) fs e all = absurd (false≢true e)
  walk_closes way (rising handle names rest) fs e all = absurd (false≢true e)
  walk_closes way (judging handle names rest) fs e all = absurd (false≢true e)
  walk_closes way (duping rest) fs e all = absurd (false≢true e)
  walk_closes way (ending handle names rest) fs e all = absurd (false≢true e)
  walk_closes way (walk.closing h hs after) fs e all = (h, (refl, all.0))

  make_closes : (way : Way) (m : make.Making) → is_close (make.due way m) ≡ true → AllOpen Open (held_making m) → (h : ℕ) × ((make.due way m ≡ steps.Close h) × Open h)
  make_closes way (make.walking w) e all = walk_closes way w [] e all
  make_closes way (make.making held names n left) e all = absurd (false≢true e)
  make_closes way (make.opening held names n left) e all = absurd (false≢true e)
  make_closes way (make.leaving old new names left) e all = (old, (refl, all.0))
  make_closes way (make.ending held names) e all = absurd (false≢true e)
  make_closes way (make.closing h hs error) e all = (h, (refl, all.0))

  removal_closes : (r : remove.Removing) → is_close (remove.due r) ≡ true → AllOpen Open (held_removing r) → (h : ℕ) × ((remove.due r ≡ steps.Close h) × Open h)
  removal_closes (remove.walking way target w) e all = walk_closes way w [] e all
  removal_closes (remove.clearing removes_file level above n left) e all = absurd (false≢true e)
  removal_closes (remove.clearing opens level above n left) e all = absurd (false≢true e)
  removal_closes (remove.clearing (lists h) level above n left) e all = absurd (false≢true e)
  removal_closes (remove.clearing (shuts h) level above n left) e all = (h, (refl, all.0))
  removal_closes (remove.clearing (leaves h) level above n left) e all = (h, (refl, all.0))
  removal_closes (remove.clearing removes_dir level above n left) e all = absurd (false≢true e)
  removal_closes (remove.closing h hs end) e all = (h, (refl, all.0))

  -- a Close that is due is of a handle that is open, or of one that may be closed, which a Release closes
  pub closes_open : (Freed : ℕ → Type 0) (below : Below) (doing : Doing) → is_close (due below doing) ≡ true → CallHolds Open Freed doing
      → (h : ℕ) × ((due below doing ≡ steps.Close h) × ((IsUnmade below doing BadHandle × Freed h) ⊎ Open h))
  closes_open Freed below (walking w aim) e all = let c = walk_closes (way_of below aim) w (held_by aim) e all in (c.0, (c.1.0, inr c.1.1))
  closes_open Freed below (acting wanted step hs) e all = absurd (false≢true (sym all.0 ∙ e))
  closes_open Freed below (checking old new renaming) e all = absurd (false≢true e)
  closes_open Freed below (closing h hs (gives reply)) e all = (h, (refl, inr all.1.0))
  closes_open Freed below (closing h hs (acts wanted step ks)) e all = (h, (refl, inr all.1.0))
  closes_open Freed below (making m) e all = let c = make_closes (make_way below) m e all in (c.0, (c.1.0, inr c.1.1))
  closes_open Freed below (removing r) e all = let c = removal_closes r e all in (c.0, (c.1.0, inr c.1.1))
  closes_open Freed below (releasing h) e all = (h, (refl, inl (refl, all)))

-- ---- what stays open

module _ (Open New : ℕ → Type 0) (stays : (h : ℕ) → Open h → New h) where
  pub all_more : (hs : List ℕ) → AllOpen Open hs → AllOpen New hs
  all_more [] all = tt
  all_more (h ∷ hs) all = (stays h all.0, (all.1.0, all_more hs all.1.1))

  -- what a call holds stays held
  pub turn_holds_more : (Freed NewFreed : ℕ → Type 0) → ((h : ℕ) → Freed h → NewFreed h) → (turn : CallTurn) → TurnHolds Open Freed turn → TurnHolds New NewFreed turn
  turn_holds_more Freed NewFreed frees (more (walking w aim)) all = all_more (held_walking w ++ held_by aim) all
  turn_holds_more Freed NewFreed frees (more (acting wanted step hs)) all = (all.0, all_more hs all.1)
  turn_holds_more Freed NewFreed frees (more (checking old new renaming)) all = all_more (new ∷ old ∷ []) all
  turn_holds_more Freed NewFreed frees (more (closing h hs (gives reply))) all = (all.0, all_more (h ∷ hs) all.1)
  turn_holds_more Freed NewFreed frees (more (closing h hs (acts wanted step ks))) all = (all.0, all_more (h ∷ (hs ++ ks)) all.1)
  turn_holds_more Freed NewFreed frees (more (making m)) all = all_more (held_making m) all
  turn_holds_more Freed NewFreed frees (more (removing r)) all = all_more (held_removing r) all
  turn_holds_more Freed NewFreed frees (more (releasing h)) all = frees h all
  turn_holds_more Freed NewFreed frees (ends reply) all = all_more (opened_by_reply reply) all
