-- With memory for all a call comes to tell of no want of memory.
use Rattle.std.specs.Prelude.{◌≡◌, ◌&&◌, ℕ, zero, suc, List, [], ◌∷◌, Bool, true, false, reverse, Option, Some, None, Result, Ok, Err, refl}
use Rattle.path_text.specs.declared.errno.Errno.{Errno}
use Rattle.path_text.specs.declared.errno.Errno.TheVariants.{NotFound, Raced, Exists, CrossRoot, NotDir, IsDir, Invalid, Busy, TooLong, NotEmpty, Loop}
use Rattle.path_text.specs.declared.path.Rule.{Rule}
use Rattle.path_text.specs.declared.path.Rule.TheVariants.{Drop, Refuse}
use Rattle.path_text.specs.declared.path.Split.{Split}
use Rattle.path_text.specs.Names.{same_names}
use Rattle.path_text.specs.Reading.{Reading}
use Rattle.path_text.specs.Split.{split_of}
use Rattle.path_text.specs.Text.{text_fault, reading_of, parts_of, begins_with_slash}
use Rattle.tree_model.specs.declared.answer.Answer.{Answer}
use Rattle.tree_model.specs.declared.answer.Answer.TheVariants.{Opened, Text, Names, NotBelow, Listed, Done, Refused}
use Rattle.tree_model.specs.declared.step.Kind.{Kind}
use Rattle.tree_model.specs.declared.step.Kind.TheVariants as kinds
use Rattle.tree_model.specs.declared.step.Mode.{Mode}
use Rattle.walk_plan.specs.declared.goal.Goal.TheVariants.{Follow, NoFollow}
use Rattle.walk_plan.specs.Plan.{leads_out}
use Rattle.step_resolver.specs.Asked.{AskedPart, Cur, Up, Named, asked, followed, follows, is_deepest}
use Rattle.step_resolver.specs.Meaning.{LINKS_MAX, is_too_long}
use Rattle.step_resolver.specs.Order.{Way, Handle, Position, root_itself, holds, Todo, todo, After, gives, onward, judges, Walking, found, partial, failed, names_of, handles_of, is_dir_position, is_followed, is_dir_kind, refusal_of}
use Rattle.step_resolver.specs.Order as walk
use Rattle.step_resolver.specs.View.{way_from}
use Rattle.bulk_ops.specs.declared.remove_all.clearing.TheConstants.{CLEARING_STEPS_MAX}
use Rattle.bulk_ops.specs.MakeAllOrder as make
use Rattle.bulk_ops.specs.RemoveAllOrder as remove
use Rattle.bulk_ops.specs.RemoveAllOrder.{Stage, removes_file, opens, lists, shuts, leaves, removes_dir, Level, before, dirs}
use Rattle.bulk_ops.proofs.TableErrors.{fault_is, failure_is, rest_other}
use Rattle.root_ops.specs.declared.aim.Aim.{Aim}
use Rattle.root_ops.specs.declared.aim.Aim.TheVariants.{Opens, Reads, Changes, WalksOn, Renames}
use Rattle.root_ops.specs.declared.aim.Change.{Change}
use Rattle.root_ops.specs.declared.aim.Change.TheVariants as changes
use Rattle.root_ops.specs.declared.aim.Renaming.{Renaming}
use Rattle.root_ops.specs.declared.aim.Wanted.{Wanted}
use Rattle.root_ops.specs.declared.aim.Wanted.TheVariants as wants
use Rattle.root_ops.specs.declared.below.Below.{Below}
use Rattle.root_ops.specs.declared.op.Op.{Op}
use Rattle.root_ops.specs.declared.op.Op.TheVariants.{Resolve, ResolveNoFollow, ReadLink, CreateFile, CreateDir, CreateLink, RemoveFile, RemoveDir, Rename, MkdirAll, RemoveAll, Single, Release}
use Rattle.root_ops.specs.Order.{Reply, fault, kept, Doing, walking, acting, checking, closing, making, removing, releasing, CallTurn, more, ends, rename_step, reply_to, way_of, make_way, makes, removing_turn, reached, checked, is_single, same_owner, starts, take}
use Rattle.root_ops.specs.Order as call
use Rattle.local_states.specs.OutOfMemory.{is_out_of_memory, walk_out_of_memory, walk_turn_out_of_memory, making_out_of_memory, make_turn_out_of_memory, removing_out_of_memory, remove_turn_out_of_memory, reply_out_of_memory, doing_out_of_memory, turn_out_of_memory}
use Rattle.further_world_laws.proofs.CalmSteps.{either, table_is_other, text_calm, split_calm, answer_wants}

-- ---- a walk

abbrev IsCalm : walk.Turn → Type 0
IsCalm turn = walk_turn_out_of_memory turn ≡ false

given_up : (hs : List ℕ) (error : Errno) → is_out_of_memory error ≡ false → IsCalm (walk.gives_up hs error)
given_up [] error calm = calm
given_up (h ∷ hs) error calm = calm

module _ (way : Way) where
  at_the_end : (position : Position) (rest : List AskedPart) → IsCalm (walk.at_end position rest)
  at_the_end root_itself rest = refl
  at_the_end (holds handle names) rest = refl

  at_the_top : (position : Position) (stays : walk.Turn) → IsCalm stays → IsCalm (walk.at_top way position stays)
  at_the_top position stays calm = either IsCalm way.flags.beneath (walk.gives_up (handles_of position) CrossRoot) stays (given_up (handles_of position) CrossRoot refl) calm

  in_a_directory : (position : Position) (p : AskedPart) (own : Bool) (rest : Todo) (passed : walk.Turn) → IsCalm passed → IsCalm (walk.in_directory way position p own rest passed)
  in_a_directory position Cur own rest passed calm = calm
  in_a_directory root_itself Up own rest passed calm = at_the_top root_itself passed calm
  in_a_directory (holds handle []) Up own rest passed calm = at_the_top (holds handle []) passed calm
  in_a_directory (holds handle (n ∷ names)) Up own rest passed calm = refl
  in_a_directory position (Named follow n) own rest passed calm =
      either IsCalm (is_too_long n) (walk.gives_up (handles_of position) TooLong) (walk.more (walk.opening position own follow n rest)) (given_up (handles_of position) TooLong refl) refl

  at_a_part : (position : Position) (p : AskedPart) (own : Bool) (rest : Todo) (passed : walk.Turn) → IsCalm passed → IsCalm (walk.on_part way position p own rest passed)
  at_a_part position p own rest passed calm =
      either IsCalm (is_dir_position position) (walk.in_directory way position p own rest passed) (walk.gives_up (handles_of position) NotDir)
      (in_a_directory position p own rest passed calm) (given_up (handles_of position) NotDir refl)

  along_own : (position : Position) (own : List AskedPart) (b : ℕ) → IsCalm (walk.on_own way position own b)
  along_own position [] b = at_the_end position []
  along_own position (p ∷ own) b = at_a_part position p true (todo [] own b) (walk.on_own way position own b) (along_own position own b)

  along : (position : Position) (inner own : List AskedPart) (b : ℕ) → IsCalm (walk.on_parts way position inner own b)
  along position [] own b = along_own position own b
  along position (p ∷ inner) own b = at_a_part position p false (todo inner own b) (walk.on_parts way position inner own b) (along position inner own b)

  onwards : (position : Position) (rest : Todo) → IsCalm (walk.goes_on way position rest)
  onwards position (todo inner own b) = along position inner own b

  pub walk_begins : (path : Reading) → IsCalm (walk.begins way path)
  walk_begins path =
      let own = asked (follows way.goal) path.parts in
      either IsCalm (leads_out path.absolute way.flags) (failed CrossRoot) (walk.goes_on way root_itself (todo [] own LINKS_MAX)) refl (onwards root_itself (todo [] own LINKS_MAX))

  closings : (h : ℕ) (hs : List ℕ) (after : After) → walk_out_of_memory (walk.closing h hs after) ≡ false → IsCalm (walk.closes way hs after)
  closings h [] (gives error) calm = calm
  closings h (k ∷ hs) (gives error) calm = calm
  closings h [] (onward position rest) calm = onwards position rest
  closings h (k ∷ hs) (onward position rest) calm = refl
  closings h [] (judges handle names rest) calm = refl
  closings h (k ∷ hs) (judges handle names rest) calm = refl

  closes_on : (hs : List ℕ) (position : Position) (rest : Todo) → IsCalm (walk.closes way hs (onward position rest))
  closes_on [] position rest = onwards position rest
  closes_on (h ∷ hs) position rest = refl

  at_a_link : (position : Position) (link : Handle) (rest : Todo) → IsCalm (walk.follows_link way position link rest)
  at_a_link position link (todo inner own zero) = refl
  at_a_link position link (todo inner own (suc b)) =
      either IsCalm way.flags.no_links (walk.gives_up (link.number ∷ handles_of position) Loop) (walk.more (walk.reading position link (todo inner own b))) refl refl

  refused_open : (position : Position) (own follow : Bool) (n : List ℕ) (rest : Todo) (error : Errno) → is_out_of_memory error ≡ false
      → IsCalm (walk.refused_open way position own follow n rest error)
  refused_open position own follow n (todo inner rest b) NotFound calm =
      either IsCalm (is_deepest way.goal && own) (walk.at_end position (Named follow n ∷ rest)) (walk.gives_up (handles_of position) NotFound)
      (at_the_end position (Named follow n ∷ rest)) (given_up (handles_of position) NotFound refl)
  refused_open position own follow n (todo inner rest b) error calm = given_up (handles_of position) error calm

  from_link : (position : Position) (link : Handle) (absolute : Bool) (parts : List AskedPart) (rest : Todo) → IsCalm (walk.from_link way true position link absolute parts rest)
  from_link position link true parts (todo inner own b) = refl
  from_link position link false parts (todo inner own b) = refl

  read_text : (position : Position) (link : Handle) (rest : Todo) (text : List ℕ) (why : Option Errno) → fault_is is_out_of_memory why ≡ false
      → IsCalm (walk.read_text way true position link rest text why)
  read_text position link rest text (Some error) calm = calm
  read_text position link rest text None calm =
      either IsCalm (leads_out (begins_with_slash text) way.flags) (walk.gives_up (link.number ∷ handles_of position) CrossRoot)
      (walk.from_link way true position link (begins_with_slash text) (followed (parts_of text)) rest) refl
      (from_link position link (begins_with_slash text) (followed (parts_of text)) rest)

  judged : (handle : Handle) (names told : List (List ℕ)) (stands : walk.Turn) → IsCalm stands → IsCalm (walk.judged handle names told stands)
  judged handle names told stands calm = either IsCalm (same_names told (reverse names)) stands (walk.gives_up (handle.number ∷ []) Raced) calm refl

  end_of : (handle : Handle) (names : List (List ℕ)) (rest : List AskedPart) → IsCalm (walk.end_of handle names rest)
  end_of handle names [] = refl
  end_of handle names (p ∷ rest) = refl

  refused_rise : (handle : Handle) (error : Errno) → is_out_of_memory error ≡ false → IsCalm (walk.refused_rise handle error)
  refused_rise handle NotFound calm = refl
  refused_rise handle error calm = calm

  pub walk_takes : (w : Walking) (answer : Answer) → walk_out_of_memory w ≡ false → answer_wants answer ≡ false → IsCalm (walk.take way true w answer)
  walk_takes (walk.opening position own follow n rest) (Opened h x kind) calm told =
      let new : Handle = record { number = h; node = x; kind = kind } in
      either IsCalm (is_followed follow kind) (walk.follows_link way position new rest) (walk.enters way true position n new rest)
      (at_a_link position new rest) (closes_on (handles_of position) (holds new (n ∷ names_of position)) rest)
  walk_takes (walk.opening position own follow n rest) answer calm told = refused_open position own follow n rest (refusal_of answer) told
  walk_takes (walk.reading position link rest) (Text text) calm told = read_text position link rest text (text_fault text) (text_calm text)
  walk_takes (walk.reading position link rest) answer calm told = told
  walk_takes (walk.rising old names rest) (Opened h x kind) calm told = refl
  walk_takes (walk.rising old names rest) answer calm told = refused_rise old (refusal_of answer) told
  walk_takes (walk.judging new names rest) (Names said) calm told = judged new names said (walk.goes_on way (holds new names) rest) (onwards (holds new names) rest)
  walk_takes (walk.judging new names rest) NotBelow calm told = refl
  walk_takes (walk.judging new names rest) answer calm told = told
  walk_takes (walk.duping rest) (Opened h x kind) calm told = refl
  walk_takes (walk.duping rest) answer calm told = told
  walk_takes (walk.ending handle names rest) (Names said) calm told = judged handle names said (walk.end_of handle names rest) (end_of handle names rest)
  walk_takes (walk.ending handle names rest) NotBelow calm told = refl
  walk_takes (walk.ending handle names rest) answer calm told = told
  walk_takes (walk.closing h hs after) answer calm told = closings h hs after calm

-- ---- a MkdirAll

abbrev MakesCalm : make.MakeTurn → Type 0
MakesCalm turn = make_turn_out_of_memory turn ≡ false

make_given_up : (hs : List ℕ) (error : Errno) → is_out_of_memory error ≡ false → MakesCalm (make.gives_up hs error)
make_given_up [] error calm = calm
make_given_up (h ∷ hs) error calm = calm

goes_down : (held : Handle) (names left : List (List ℕ)) → MakesCalm (make.goes_down held names left)
goes_down held names [] = refl
goes_down held names (n ∷ left) = refl

begins_to_make : (held : Handle) (names : List (List ℕ)) (rest : List AskedPart) (why : Option Errno) → fault_is is_out_of_memory why ≡ false
    → MakesCalm (make.begins_to_make true held names rest why)
begins_to_make held names rest (Some error) calm = calm
begins_to_make held names rest None calm = goes_down held names (make.rest_names rest)

make_walked : (turn : walk.Turn) → IsCalm turn → MakesCalm (make.after_walk true turn)
make_walked (walk.more w) calm = calm
make_walked (found handle names) calm =
    either MakesCalm (is_dir_kind handle.kind) (make.made handle names) (make.gives_up (handle.number ∷ []) NotDir) refl refl
make_walked (partial handle names rest) calm = begins_to_make handle names rest (make.rest_fault rest) (rest_other is_out_of_memory table_is_other rest)
make_walked (failed error) calm = calm

raced_calm : (error : Errno) → is_out_of_memory error ≡ false → is_out_of_memory (make.raced_if_missing error) ≡ false
raced_calm NotFound calm = refl
raced_calm error calm = calm

refused_make : (held : Handle) (names : List (List ℕ)) (n : List ℕ) (left : List (List ℕ)) (error : Errno) → is_out_of_memory error ≡ false
    → MakesCalm (make.refused_make held names n left error)
refused_make held names n left Exists calm = refl
refused_make held names n left NotFound calm = refl
refused_make held names n left error calm = calm

make_takes : (way : Way) (m : make.Making) (answer : Answer) → making_out_of_memory m ≡ false → answer_wants answer ≡ false → MakesCalm (make.take way true m answer)
make_takes way (make.walking w) answer calm told = make_walked (walk.take way true w answer) (walk_takes way w answer calm told)
make_takes way (make.making held names n left) Done calm told = refl
make_takes way (make.making held names n left) answer calm told = refused_make held names n left (refusal_of answer) told
make_takes way (make.opening held names n left) (Opened h x kind) calm told =
    let new : Handle = record { number = h; node = x; kind = kind } in
    either MakesCalm (is_dir_kind kind) (make.more (make.leaving held.number new (n ∷ names) left)) (make.gives_up (new.number ∷ held.number ∷ []) NotDir) refl refl
make_takes way (make.opening held names n left) answer calm told = raced_calm (refusal_of answer) told
make_takes way (make.leaving old new names left) answer calm told = goes_down new names left
make_takes way (make.ending held names) (Names said) calm told =
    either MakesCalm (same_names said (reverse names)) (make.made held names) (make.gives_up (held.number ∷ []) Raced) refl refl
make_takes way (make.ending held names) NotBelow calm told = refl
make_takes way (make.ending held names) answer calm told = told
make_takes way (make.closing h hs error) answer calm told = make_given_up hs error calm

-- ---- a RemoveAll

abbrev ClearsCalm : remove.Turn → Type 0
ClearsCalm turn = remove_turn_out_of_memory turn ≡ false

clear_closes : (hs : List ℕ) (error : Errno) → is_out_of_memory error ≡ false → ClearsCalm (remove.closes hs (remove.fails error))
clear_closes [] error calm = calm
clear_closes (h ∷ hs) error calm = calm

is_due : (stage : Stage) (level : Level) (above : List Level) (count left : ℕ) → ClearsCalm (remove.is_due stage level above count left)
is_due stage level above count zero = clear_closes (before stage (dirs (level ∷ above))) Busy refl
is_due stage level above count (suc left) = refl

next_entry : (d : ℕ) (others : List (List ℕ)) (above : List Level) (count left : ℕ) → ClearsCalm (remove.next_entry d others above count left)
next_entry d (m ∷ others) above count left = is_due removes_file (record { dir = d; name = m; others = others }) above count left
next_entry d [] (level ∷ above) count left = is_due (leaves d) level above count left
next_entry d [] [] count left = refl

enters : (h : ℕ) (names : List (List ℕ)) (level : Level) (above : List Level) (count left : ℕ) → ClearsCalm (remove.enters h names level above count left)
enters h [] level above count left = is_due (leaves h) level above count left
enters h (n ∷ others) level above count left = is_due removes_file (record { dir = h; name = n; others = others }) (level ∷ above) count left

cleared_walk : (way : Way) (target : List ℕ) (turn : walk.Turn) → IsCalm turn → ClearsCalm (remove.walked way target turn)
cleared_walk way target (walk.more w) calm = calm
cleared_walk way target (found handle names) calm = is_due removes_file (record { dir = handle.number; name = target; others = [] }) [] 0 CLEARING_STEPS_MAX
cleared_walk way target (partial handle names rest) calm = refl
cleared_walk way target (failed error) calm = calm

module _ (level : Level) (above : List Level) (count left : ℕ) where
  clear_given_up : (stage : Stage) (error : Errno) → is_out_of_memory error ≡ false → ClearsCalm (remove.gives_up stage level above error)
  clear_given_up stage error calm = clear_closes (before stage (dirs (level ∷ above))) error calm

  finished : (n : ℕ) → ClearsCalm (remove.finished level above n left)
  finished n = next_entry level.dir level.others above n left

  file_removed : (answer : Answer) → answer_wants answer ≡ false → ClearsCalm (remove.file_removed level above count left answer)
  file_removed Done told = finished (suc count)
  file_removed (Refused NotFound) told = finished count
  file_removed (Refused IsDir) told = is_due opens level above count left
  file_removed answer told = clear_given_up removes_file (refusal_of answer) told

  is_opened : (h : ℕ) (kind : Kind) → ClearsCalm (remove.is_opened level above count left h kind)
  is_opened h kinds.Dir = is_due (lists h) level above count left
  is_opened h kinds.File = is_due (shuts h) level above count left
  is_opened h kinds.Link = is_due (shuts h) level above count left

  clear_opened : (answer : Answer) → answer_wants answer ≡ false → ClearsCalm (remove.opened level above count left answer)
  clear_opened (Opened h x kind) told = is_opened h kind
  clear_opened (Refused NotFound) told = finished count
  clear_opened answer told = clear_given_up opens (refusal_of answer) told

  listed : (h : ℕ) (answer : Answer) → answer_wants answer ≡ false → ClearsCalm (remove.listed true h level above count left answer)
  listed h (Listed names) told = enters h names level above count left
  listed h answer told = clear_given_up (lists h) (refusal_of answer) told

  dir_removed : (answer : Answer) → answer_wants answer ≡ false → ClearsCalm (remove.dir_removed level above count left answer)
  dir_removed Done told = finished (suc count)
  dir_removed (Refused NotFound) told = finished count
  dir_removed (Refused NotEmpty) told = is_due opens level above count left
  dir_removed (Refused NotDir) told = is_due removes_file level above count left
  dir_removed answer told = clear_given_up removes_dir (refusal_of answer) told

clear_ends : (h : ℕ) (hs : List ℕ) (end : remove.End) → removing_out_of_memory (remove.closing h hs end) ≡ false → ClearsCalm (remove.closes hs end)
clear_ends h hs (remove.fails error) calm = clear_closes hs error calm
clear_ends h [] (remove.removes count) calm = refl
clear_ends h (k ∷ hs) (remove.removes count) calm = refl

clear_takes : (r : remove.Removing) (answer : Answer) → removing_out_of_memory r ≡ false → answer_wants answer ≡ false → ClearsCalm (remove.take true r answer)
clear_takes (remove.walking way target w) answer calm told = cleared_walk way target (walk.take way true w answer) (walk_takes way w answer calm told)
clear_takes (remove.clearing removes_file level above count left) answer calm told = file_removed level above count left answer told
clear_takes (remove.clearing opens level above count left) answer calm told = clear_opened level above count left answer told
clear_takes (remove.clearing (lists h) level above count left) answer calm told = listed level above count left h answer told
clear_takes (remove.clearing (shuts h) level above count left) answer calm told = is_due removes_file level above count left
clear_takes (remove.clearing (leaves h) level above count left) answer calm told = is_due removes_dir level above count left
clear_takes (remove.clearing removes_dir level above count left) answer calm told = dir_removed level above count left answer told
clear_takes (remove.closing h hs end) answer calm told = clear_ends h hs end calm

-- ---- a call

abbrev pub TurnIsCalm : CallTurn → Type 0
TurnIsCalm turn = turn_out_of_memory turn ≡ false

replies : (wanted : Wanted) (answer : Answer) → answer_wants answer ≡ false → reply_out_of_memory (reply_to wanted answer) ≡ false
replies wants.Done Done told = refl
replies wants.Done answer told = told
replies wants.Text (Text bytes) told = refl
replies wants.Text answer told = told
replies wants.Any (Refused error) told = told
replies wants.Any answer told = refl

call_closes : (hs : List ℕ) (reply : Reply) → reply_out_of_memory reply ≡ false → TurnIsCalm (call.closes hs (call.gives reply))
call_closes [] reply calm = calm
call_closes (h ∷ hs) reply calm = calm

call_ends : (h : ℕ) (hs : List ℕ) (after : call.After) → doing_out_of_memory (closing h hs after) ≡ false → TurnIsCalm (call.closes hs after)
call_ends h hs (call.gives reply) calm = call_closes hs reply calm
call_ends h [] (call.acts wanted step ks) calm = refl
call_ends h (k ∷ hs) (call.acts wanted step ks) calm = refl

renamed : (old new : ℕ) (renaming : Renaming) → TurnIsCalm (call.renames old new renaming)
renamed old new renaming =
    either TurnIsCalm renaming.slash (more (checking old new renaming)) (more (acting wants.Done (rename_step renaming old new) (new ∷ old ∷ []))) refl refl

walked_on : (old : ℕ) (renaming : Renaming) (turn : walk.Turn) → IsCalm turn → TurnIsCalm (call.walked_on old renaming turn)
walked_on old renaming (walk.more w) calm = calm
walked_on old renaming (found handle names) calm = renamed old handle.number renaming
walked_on old renaming (partial handle names rest) calm = refl
walked_on old renaming (failed error) calm = calm

reached_calm : (below : Below) (handle : Handle) (names : List (List ℕ)) (aim : Aim) → TurnIsCalm (reached below true handle names aim)
reached_calm below handle names (Opens goal) = refl
reached_calm below handle names Reads = refl
reached_calm below handle names (Changes change n) = refl
reached_calm below handle names (WalksOn path renaming) =
    let way = way_from below.root Follow below.flags in walked_on handle.number renaming (walk.starts way true path) (walk_begins way path)
reached_calm below handle names (Renames old renaming) = renamed old handle.number renaming

walked : (below : Below) (aim : Aim) (turn : walk.Turn) → IsCalm turn → TurnIsCalm (call.walked below true aim turn)
walked below aim (walk.more w) calm = calm
walked below aim (found handle names) calm = reached_calm below handle names aim
walked below aim (partial handle names rest) calm = refl
walked below (Opens goal) (failed error) calm = calm
walked below Reads (failed error) calm = calm
walked below (Changes change n) (failed error) calm = calm
walked below (WalksOn path renaming) (failed error) calm = calm
walked below (Renames old renaming) (failed error) calm = calm

checks : (old new : ℕ) (renaming : Renaming) (child : ℕ) (is_dir : Bool) → TurnIsCalm (checked old new renaming child is_dir)
checks old new renaming child true = refl
checks old new renaming child false = refl

made : (turn : make.MakeTurn) → MakesCalm turn → TurnIsCalm (makes turn)
made (make.more m) calm = calm
made (make.made handle names) calm = refl
made (make.failed error) calm = calm

cleared : (turn : remove.Turn) → ClearsCalm turn → TurnIsCalm (removing_turn turn)
cleared (remove.more r) calm = calm
cleared (remove.removed n) calm = refl
cleared (remove.failed error) calm = calm

pub take_calm : (below : Below) (doing : Doing) (answer : Answer) → doing_out_of_memory doing ≡ false → answer_wants answer ≡ false → TurnIsCalm (take below true doing answer)
take_calm below (walking w aim) answer calm told =
    walked below aim (walk.take (way_of below aim) true w answer) (walk_takes (way_of below aim) w answer calm told)
take_calm below (acting wanted step hs) answer calm told = call_closes hs (reply_to wanted answer) (replies wanted answer told)
take_calm below (checking old new renaming) (Opened h x kind) calm told = checks old new renaming h (is_dir_kind kind)
take_calm below (checking old new renaming) answer calm told = told
take_calm below (closing h hs after) answer calm told = call_ends h hs after calm
take_calm below (making m) answer calm told = made (make.take (make_way below) true m answer) (make_takes (make_way below) m answer calm told)
take_calm below (removing r) answer calm told = cleared (remove.take true r answer) (clear_takes r answer calm told)
take_calm below (releasing h) answer calm told = replies wants.Done answer told

-- ---- its start

unless_calm : (why : Option Errno) (turn : CallTurn) → fault_is is_out_of_memory why ≡ false → TurnIsCalm turn → TurnIsCalm (call.unless_fault why turn)
unless_calm (Some error) turn calm rest = calm
unless_calm None turn calm rest = rest

module _ (below : Below) where
  begun_walk : (aim : Aim) (path : Reading) → TurnIsCalm (call.walks below aim path)
  begun_walk aim path = walked below aim (walk.starts (way_of below aim) true path) (walk_begins (way_of below aim) path)

  on_a_path : (aim : Aim) (text : List ℕ) → TurnIsCalm (call.on_path below aim text)
  on_a_path aim text = unless_calm (text_fault text) (call.walks below aim (reading_of text)) (text_calm text) (begun_walk aim (reading_of text))

  in_its_directory : (change : Change) (split : Result Split Errno) → failure_is is_out_of_memory split ≡ false → TurnIsCalm (call.in_directory below change split)
  in_its_directory change (Err error) calm = calm
  in_its_directory change (Ok split) calm = begun_walk (Changes change split.name) split.dir

  on_an_entry : (rule : Rule) (change : Change) (text : List ℕ) → TurnIsCalm (call.on_entry below rule change text)
  on_an_entry rule change text =
      unless_calm (text_fault text) (call.in_directory below change (split_of (reading_of text) rule)) (text_calm text)
      (in_its_directory change (split_of (reading_of text) rule) (split_calm (reading_of text) rule))

  between_both : (mode : Mode) (old : Split) (split : Result Split Errno) → failure_is is_out_of_memory split ≡ false → TurnIsCalm (call.between below mode old split)
  between_both mode old (Err error) calm = calm
  between_both mode old (Ok new) calm = begun_walk (WalksOn new.dir (call.renaming_of old new mode)) old.dir

  from_an_entry : (mode : Mode) (new : List ℕ) (split : Result Split Errno) → failure_is is_out_of_memory split ≡ false → TurnIsCalm (call.from_entry below mode new split)
  from_an_entry mode new (Err error) calm = calm
  from_an_entry mode new (Ok old) calm =
      unless_calm (text_fault new) (call.between below mode old (split_of (reading_of new) Drop)) (text_calm new)
      (between_both mode old (split_of (reading_of new) Drop) (split_calm (reading_of new) Drop))

  clearing_in : (split : Result Split Errno) → failure_is is_out_of_memory split ≡ false → TurnIsCalm (call.clear_in below split)
  clearing_in (Err error) calm = calm
  clearing_in (Ok split) calm =
      let way = way_from below.root Follow below.flags in
      cleared (remove.begins way split.name split.dir) (cleared_walk way split.name (walk.begins way split.dir) (walk_begins way split.dir))

  pub starts_calm : (op : Op) → TurnIsCalm (starts below true op)
  starts_calm (Resolve path) = on_a_path (Opens Follow) path
  starts_calm (ResolveNoFollow path) = on_a_path (Opens NoFollow) path
  starts_calm (ReadLink path) = on_a_path Reads path
  starts_calm (CreateFile path) = on_an_entry Refuse changes.MakeFile path
  starts_calm (CreateDir path) = on_an_entry Drop changes.MakeDir path
  starts_calm (CreateLink path text) = on_an_entry Refuse (changes.MakeLink text) path
  starts_calm (RemoveFile path) = on_an_entry Refuse changes.RemoveFile path
  starts_calm (RemoveDir path) = on_an_entry Drop changes.RemoveDir path
  starts_calm (Rename old new mode) =
      unless_calm (text_fault old) (call.from_entry below mode new (split_of (reading_of old) Drop)) (text_calm old)
      (from_an_entry mode new (split_of (reading_of old) Drop) (split_calm (reading_of old) Drop))
  starts_calm (MkdirAll path) =
      let way = make_way below in
      unless_calm (text_fault path) (makes (make.begins way (reading_of path))) (text_calm path)
      (made (make.begins way (reading_of path)) (make_walked (walk.begins way (reading_of path)) (walk_begins way (reading_of path))))
  starts_calm (RemoveAll path) =
      unless_calm (text_fault path) (call.clear_in below (split_of (reading_of path) Drop)) (text_calm path)
      (clearing_in (split_of (reading_of path) Drop) (split_calm (reading_of path) Drop))
  starts_calm (Single step) = either TurnIsCalm (is_single step) (more (acting wants.Any step [])) (ends (fault Invalid)) refl refl
  starts_calm (Release standing) =
      either TurnIsCalm (same_owner standing.owner below.root.owner) (more (releasing standing.handle)) (ends (kept standing)) refl refl
