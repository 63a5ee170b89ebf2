-- A call that found no memory closes what it holds and tells so.
use Rattle.std.specs.Prelude.{◌≡◌, ℕ, List, [], ◌∷◌, Bool, true, false, Option, Some, None, if◌then◌else◌, refl}
use Rattle.std.proofs.Common.{◌⊎◌, inl, inr, ap, ◌∙◌, subst, ⊎_elim}
use Rattle.std.proofs.lemmas.Bool.{false≢true, true≢false}
use Rattle.path_text.specs.declared.errno.Errno.{Errno}
use Rattle.path_text.specs.declared.errno.Errno.TheVariants.{NoMemory, Invalid}
use Rattle.path_text.specs.Text.{text_fault, parts_of, begins_with_slash}
use Rattle.tree_model.specs.declared.answer.Answer.{Answer}
use Rattle.tree_model.specs.declared.answer.Answer.TheVariants.{Opened, Text, Names, Listed, Done, Refused}
use Rattle.tree_model.specs.StepWith.{StepWith}
use Rattle.walk_plan.specs.Plan.{leads_out}
use Rattle.step_resolver.specs.Asked.{AskedPart, followed}
use Rattle.step_resolver.specs.Order.{Way, Handle, Position, root_itself, holds, Todo, todo, Walking, Turn, is_followed}
use Rattle.step_resolver.specs.Order as walk
use Rattle.step_resolver.specs.View.{way_from}
use Rattle.walk_plan.specs.declared.goal.Goal.TheVariants.{Follow}
use Rattle.bulk_ops.specs.MakeAllOrder as make
use Rattle.bulk_ops.specs.RemoveAllOrder as remove
use Rattle.root_ops.specs.declared.aim.Aim.{Aim}
use Rattle.root_ops.specs.declared.aim.Aim.TheVariants.{Opens, Reads, Changes, WalksOn, Renames}
use Rattle.root_ops.specs.declared.aim.Wanted.TheVariants as wants
use Rattle.root_ops.specs.declared.below.Below.{Below}
use Rattle.root_ops.specs.declared.op.Op.{Op}
use Rattle.root_ops.specs.declared.op.Op.TheVariants as ops
use Rattle.root_ops.specs.Order.{Doing, CallTurn, take, due, starts, begins}
use Rattle.root_ops.specs.Order as call
use Rattle.race_core.specs.Book.{is_close}
use Rattle.local_states.specs.OutOfMemory.{is_out_of_memory, walk_out_of_memory, walk_turn_out_of_memory, making_out_of_memory, make_turn_out_of_memory, removing_out_of_memory, remove_turn_out_of_memory, reply_out_of_memory, doing_out_of_memory, turn_out_of_memory}

-- ---- what is on its way stays so

walk_closes : (way : Way) (hs : List ℕ) (error : Errno) → walk_turn_out_of_memory (walk.closes way hs (walk.gives error)) ≡ is_out_of_memory error
walk_closes way [] error = refl
walk_closes way (h ∷ hs) error = refl

walk_stays : (way : Way) (room : Bool) (w : Walking) (answer : Answer) → walk_out_of_memory w ≡ true → walk_turn_out_of_memory (walk.take way room w answer) ≡ true
walk_stays way room (walk.closing h hs (walk.gives error)) answer e = walk_closes way hs error ∙ e
walk_stays way room (walk.closing h hs (walk.onward position rest)) answer e = absurd (false≢true e)
walk_stays way room (walk.closing h hs (walk.judges handle names rest)) answer e = absurd (false≢true e)
walk_stays way room (walk.opening position own follow n rest) answer e = absurd (false≢true e)
walk_stays way room (walk.reading position link rest) answer e = absurd (false≢true e)
walk_stays way room (walk.rising handle names rest) answer e = absurd (false≢true e)
walk_stays way room (walk.judging handle names rest) answer e = absurd (false≢true e)
walk_stays way room (walk.duping rest) answer e = absurd (false≢true e)
walk_stays way room (walk.ending handle names rest) answer e = absurd (false≢true e)

-- what a want in a walk makes of a call
made_out_of_memory : (room : Bool) (turn : Turn) → walk_turn_out_of_memory turn ≡ true → make_turn_out_of_memory (make.after_walk room turn) ≡ true
made_out_of_memory room (walk.more w) e = e
made_out_of_memory room (walk.found handle names) e = absurd (false≢true e)
made_out_of_memory room (walk.partial handle names rest) e = absurd (false≢true e)
made_out_of_memory room (walk.failed error) e = e

cleared_out_of_memory : (way : Way) (target : List ℕ) (turn : Turn) → walk_turn_out_of_memory turn ≡ true → remove_turn_out_of_memory (remove.walked way target turn) ≡ true
cleared_out_of_memory way target (walk.more w) e = e
cleared_out_of_memory way target (walk.found handle names) e = absurd (false≢true e)
cleared_out_of_memory way target (walk.partial handle names rest) e = absurd (false≢true e)
cleared_out_of_memory way target (walk.failed error) e = e

walked_out_of_memory : (below : Below) (room : Bool) (aim : Aim) (turn : Turn) → walk_turn_out_of_memory turn ≡ true → turn_out_of_memory (call.walked below room aim turn) ≡ true
walked_out_of_memory below room aim (walk.more w) e = e
walked_out_of_memory below room aim (walk.found handle names) e = absurd (false≢true e)
walked_out_of_memory below room aim (walk.partial handle names rest) e = absurd (false≢true e)
walked_out_of_memory below room (Opens goal) (walk.failed error) e = e
walked_out_of_memory below room Reads (walk.failed error) e = e
walked_out_of_memory below room (Changes change n) (walk.failed error) e = e
walked_out_of_memory below room (WalksOn path renaming) (walk.failed error) e = e
walked_out_of_memory below room (Renames old renaming) (walk.failed error) e = e

makes_out_of_memory : (turn : make.MakeTurn) → turn_out_of_memory (call.makes turn) ≡ make_turn_out_of_memory turn
makes_out_of_memory (make.more bulk) = refl
makes_out_of_memory (make.made handle names) = refl
makes_out_of_memory (make.failed error) = refl

clears_out_of_memory : (turn : remove.Turn) → turn_out_of_memory (call.removing_turn turn) ≡ remove_turn_out_of_memory turn
clears_out_of_memory (remove.more bulk) = refl
clears_out_of_memory (remove.removed n) = refl
clears_out_of_memory (remove.failed error) = refl

make_closes : (hs : List ℕ) (error : Errno) → make_turn_out_of_memory (make.gives_up hs error) ≡ is_out_of_memory error
make_closes [] error = refl
make_closes (h ∷ hs) error = refl

make_stays : (way : Way) (room : Bool) (bulk : make.Making) (answer : Answer) → making_out_of_memory bulk ≡ true → make_turn_out_of_memory (make.take way room bulk answer) ≡ true
make_stays way room (make.walking w) answer e = made_out_of_memory room _ (walk_stays way room w answer e)
make_stays way room (make.making held names n left) answer e = absurd (false≢true e)
make_stays way room (make.opening held names n left) answer e = absurd (false≢true e)
make_stays way room (make.leaving old new names left) answer e = absurd (false≢true e)
make_stays way room (make.ending held names) answer e = absurd (false≢true e)
make_stays way room (make.closing h hs error) answer e = make_closes hs error ∙ e

remove_closes : (hs : List ℕ) (error : Errno) → remove_turn_out_of_memory (remove.closes hs (remove.fails error)) ≡ is_out_of_memory error
remove_closes [] error = refl
remove_closes (h ∷ hs) error = refl

remove_stays : (room : Bool) (bulk : remove.Removing) (answer : Answer) → removing_out_of_memory bulk ≡ true → remove_turn_out_of_memory (remove.take room bulk answer) ≡ true
remove_stays room (remove.walking way target w) answer e = cleared_out_of_memory way target _ (walk_stays way room w answer e)
remove_stays room (remove.clearing stage level above count left) answer e = absurd (false≢true e)
remove_stays room (remove.closing h hs (remove.fails error)) answer e = remove_closes hs error ∙ e
remove_stays room (remove.closing h hs (remove.removes count)) answer e = absurd (false≢true e)

call_closes : (hs : List ℕ) (reply : call.Reply) → turn_out_of_memory (call.closes hs (call.gives reply)) ≡ reply_out_of_memory reply
call_closes [] reply = refl
call_closes (h ∷ hs) reply = refl

pub stays : (below : Below) (room : Bool) (doing : Doing) (answer : Answer) → doing_out_of_memory doing ≡ true → turn_out_of_memory (take below room doing answer) ≡ true
stays below room (call.walking w aim) answer e = walked_out_of_memory below room aim _ (walk_stays (call.way_of below aim) room w answer e)
stays below room (call.acting wanted step hs) answer e = absurd (false≢true e)
stays below room (call.checking old new renaming) answer e = absurd (false≢true e)
stays below room (call.closing h hs (call.gives reply)) answer e = call_closes hs reply ∙ e
stays below room (call.closing h hs (call.acts wanted step held)) answer e = absurd (false≢true e)
stays below room (call.making bulk) answer e = makes_out_of_memory _ ∙ make_stays (call.make_way below) room bulk answer e
stays below room (call.removing bulk) answer e = clears_out_of_memory _ ∙ remove_stays room bulk answer e
stays below room (call.releasing h) answer e = absurd (false≢true e)

-- ---- no room for what an answer brings

-- both turns are one, or the first wants
abbrev pub WalkTells : Turn → Turn → Type 0
WalkTells t u = (t ≡ u) ⊎ (walk_turn_out_of_memory t ≡ true)

walk_either : (b : Bool) (t t' u u' : Turn) → WalkTells t u → WalkTells t' u' → WalkTells (if b then t else t') (if b then u else u')
walk_either true t t' u u' e e' = e
walk_either false t t' u u' e e' = e'

enters_tells : (way : Way) (position : Position) (n : List ℕ) (new : Handle) (rest : Todo)
    → WalkTells (walk.enters way false position n new rest) (walk.enters way true position n new rest)
enters_tells way position n new rest = inr refl

from_link_tells : (way : Way) (position : Position) (link : Handle) (absolute : Bool) (parts : List AskedPart) (rest : Todo)
    → WalkTells (walk.from_link way false position link absolute parts rest) (walk.from_link way true position link absolute parts rest)
from_link_tells way position link true parts (todo inner own b) = inr refl
from_link_tells way position link false parts (todo inner own b) = inr refl

read_text_tells : (way : Way) (position : Position) (link : Handle) (rest : Todo) (text : List ℕ) (fault : Option Errno)
    → WalkTells (walk.read_text way false position link rest text fault) (walk.read_text way true position link rest text fault)
read_text_tells way position link rest text (Some fault) = inl refl
read_text_tells way position link rest text None =
    walk_either (leads_out (begins_with_slash text) way.flags) _ _ _ _ (inl refl)
    (from_link_tells way position link (begins_with_slash text) (followed (parts_of text)) rest)

walk_tells : (way : Way) (w : Walking) (answer : Answer) → WalkTells (walk.take way false w answer) (walk.take way true w answer)
walk_tells way (walk.opening position own follow n rest) (Opened h x kind) =
    walk_either (is_followed follow kind) _ _ _ _ (inl refl) (enters_tells way position n (record { number = h; node = x; kind = kind }) rest)
walk_tells way (walk.opening position own follow n rest) answer = inl refl
walk_tells way (walk.reading position link rest) (Text text) = read_text_tells way position link rest text (text_fault text)
walk_tells way (walk.reading position link rest) answer = inl refl
walk_tells way (walk.rising old names rest) (Opened h x kind) = inl refl
walk_tells way (walk.rising old names rest) answer = inl refl
walk_tells way (walk.judging new names rest) (Names told) = inl refl
walk_tells way (walk.judging new names rest) answer = inl refl
walk_tells way (walk.duping rest) (Opened h x kind) = inl refl
walk_tells way (walk.duping rest) answer = inl refl
walk_tells way (walk.ending handle names rest) (Names told) = inl refl
walk_tells way (walk.ending handle names rest) answer = inl refl
walk_tells way (walk.closing h hs after) answer = inl refl

abbrev pub Tells : CallTurn → CallTurn → Type 0
Tells t u = (t ≡ u) ⊎ (turn_out_of_memory t ≡ true)

-- a call's turn by a walk's
walked_room_tells : (below : Below) (aim : Aim) (turn : Turn) → Tells (call.walked below false aim turn) (call.walked below true aim turn)
walked_room_tells below aim (walk.more w) = inl refl
walked_room_tells below (Opens goal) (walk.found handle names) = inl refl
walked_room_tells below Reads (walk.found handle names) = inl refl
walked_room_tells below (Changes change n) (walk.found handle names) = inl refl
walked_room_tells below (WalksOn path renaming) (walk.found handle names) = begun (walk.begins (way_from below.root Follow below.flags) path)
  where
    begun : (turn : Turn) → Tells (call.walked_on handle.number renaming (walk.for_walk false turn)) (call.walked_on handle.number renaming (walk.for_walk true turn))
    begun (walk.more w) = inr refl
    begun (walk.found handle names) = inl refl
    begun (walk.partial handle names rest) = inl refl
    begun (walk.failed error) = inl refl
walked_room_tells below (Renames old renaming) (walk.found handle names) = inl refl
walked_room_tells below aim (walk.partial handle names rest) = inl refl
walked_room_tells below aim (walk.failed error) = inl refl

walked_tells : (below : Below) (aim : Aim) (t u : Turn) → WalkTells t u → Tells (call.walked below false aim t) (call.walked below true aim u)
walked_tells below aim t u (inl e) = subst (λ u. Tells (call.walked below false aim t) (call.walked below true aim u)) e (walked_room_tells below aim t)
walked_tells below aim t u (inr e) = inr (walked_out_of_memory below false aim t e)

abbrev pub MakeTells : make.MakeTurn → make.MakeTurn → Type 0
MakeTells t u = (t ≡ u) ⊎ (make_turn_out_of_memory t ≡ true)

begins_to_make_tells : (held : Handle) (names : List (List ℕ)) (rest : List AskedPart) (fault : Option Errno)
    → MakeTells (make.begins_to_make false held names rest fault) (make.begins_to_make true held names rest fault)
begins_to_make_tells held names rest (Some fault) = inl refl
begins_to_make_tells held names rest None = inr refl

after_walk_tells : (t u : Turn) → WalkTells t u → MakeTells (make.after_walk false t) (make.after_walk true u)
after_walk_tells t u (inr e) = inr (made_out_of_memory false t e)
after_walk_tells t u (inl e) = subst (λ u. MakeTells (make.after_walk false t) (make.after_walk true u)) e (by t)
  where
    by : (t : Turn) → MakeTells (make.after_walk false t) (make.after_walk true t)
    by (walk.more w) = inl refl
    by (walk.found handle names) = inl refl
    by (walk.partial handle names rest) = begins_to_make_tells handle names rest (make.rest_fault rest)
    by (walk.failed error) = inl refl

make_tells : (way : Way) (bulk : make.Making) (answer : Answer) → MakeTells (make.take way false bulk answer) (make.take way true bulk answer)
make_tells way (make.walking w) answer = after_walk_tells _ _ (walk_tells way w answer)
make_tells way (make.making held names n left) Done = inl refl
make_tells way (make.making held names n left) answer = inl refl
make_tells way (make.opening held names n left) (Opened h x kind) = inl refl
make_tells way (make.opening held names n left) answer = inl refl
make_tells way (make.leaving old new names left) answer = inl refl
make_tells way (make.ending held names) (Names told) = inl refl
make_tells way (make.ending held names) answer = inl refl
make_tells way (make.closing h hs error) answer = inl refl

abbrev pub RemoveTells : remove.Turn → remove.Turn → Type 0
RemoveTells t u = (t ≡ u) ⊎ (remove_turn_out_of_memory t ≡ true)

cleared_tells : (way : Way) (target : List ℕ) (t u : Turn) → WalkTells t u → RemoveTells (remove.walked way target t) (remove.walked way target u)
cleared_tells way target t u (inl e) = inl (ap (remove.walked way target) e)
cleared_tells way target t u (inr e) = inr (cleared_out_of_memory way target t e)

listed_tells : (h : ℕ) (level : remove.Level) (above : List remove.Level) (count left : ℕ) (answer : Answer)
    → RemoveTells (remove.listed false h level above count left answer) (remove.listed true h level above count left answer)
listed_tells h level above count left (Listed names) = inr refl
listed_tells h level above count left answer = inl refl

remove_tells : (bulk : remove.Removing) (answer : Answer) → RemoveTells (remove.take false bulk answer) (remove.take true bulk answer)
remove_tells (remove.walking way target w) answer = cleared_tells way target _ _ (walk_tells way w answer)
remove_tells (remove.clearing remove.removes_file level above count left) answer = inl refl
remove_tells (remove.clearing remove.opens level above count left) answer = inl refl
remove_tells (remove.clearing (remove.lists h) level above count left) answer = listed_tells h level above count left answer
remove_tells (remove.clearing (remove.shuts h) level above count left) answer = inl refl
remove_tells (remove.clearing (remove.leaves h) level above count left) answer = inl refl
remove_tells (remove.clearing remove.removes_dir level above count left) answer = inl refl
remove_tells (remove.closing h hs end) answer = inl refl

pub room_tells : (below : Below) (doing : Doing) (answer : Answer) → Tells (take below false doing answer) (take below true doing answer)
room_tells below (call.walking w aim) answer = walked_tells below aim _ _ (walk_tells (call.way_of below aim) w answer)
room_tells below (call.acting wanted step hs) answer = inl refl
room_tells below (call.checking old new renaming) (Opened h x kind) = inl refl
room_tells below (call.checking old new renaming) answer = inl refl
room_tells below (call.closing h hs after) answer = inl refl
room_tells below (call.making bulk) answer =
    ⊎_elim (λ e. inl (ap call.makes e)) (λ e. inr (makes_out_of_memory _ ∙ e)) (make_tells (call.make_way below) bulk answer)
room_tells below (call.removing bulk) answer =
    ⊎_elim (λ e. inl (ap call.removing_turn e)) (λ e. inr (clears_out_of_memory _ ∙ e)) (remove_tells bulk answer)
room_tells below (call.releasing h) answer = inl refl

-- ---- a step that isn't made for want of memory

walk_refused : (way : Way) (room : Bool) (w : Walking) → is_close (walk.due way w) ≡ false → walk_turn_out_of_memory (walk.take way room w (Refused NoMemory)) ≡ true
walk_refused way room (walk.opening root_itself own follow n (todo inner rest b)) e = refl
walk_refused way room (walk.opening (holds handle names) own follow n (todo inner rest b)) e = refl
walk_refused way room (walk.reading position link rest) e = refl
walk_refused way room (walk.rising old names rest) e = refl
walk_refused way room (walk.judging new names rest) e = refl
walk_refused way room (walk.duping rest) e = refl
walk_refused way room (walk.ending handle names rest) e = refl
walk_refused way room (walk.closing h hs after) e = absurd (true≢false e)

make_refused : (way : Way) (room : Bool) (bulk : make.Making) → is_close (make.due way bulk) ≡ false → make_turn_out_of_memory (make.take way room bulk (Refused NoMemory)) ≡ true
make_refused way room (make.walking w) e = made_out_of_memory room _ (walk_refused way room w e)
make_refused way room (make.making held names n left) e = refl
make_refused way room (make.opening held names n left) e = refl
make_refused way room (make.leaving old new names left) e = absurd (true≢false e)
make_refused way room (make.ending held names) e = refl
make_refused way room (make.closing h hs error) e = absurd (true≢false e)

remove_refused : (room : Bool) (bulk : remove.Removing) → is_close (remove.due bulk) ≡ false → remove_turn_out_of_memory (remove.take room bulk (Refused NoMemory)) ≡ true
remove_refused room (remove.walking way target w) e = cleared_out_of_memory way target _ (walk_refused way room w e)
remove_refused room (remove.clearing remove.removes_file level above count left) e = remove_closes (remove.dirs (level ∷ above)) NoMemory
remove_refused room (remove.clearing remove.opens level above count left) e = remove_closes (remove.dirs (level ∷ above)) NoMemory
remove_refused true (remove.clearing (remove.lists h) level above count left) e = refl
remove_refused false (remove.clearing (remove.lists h) level above count left) e = refl
remove_refused room (remove.clearing (remove.shuts h) level above count left) e = absurd (true≢false e)
remove_refused room (remove.clearing (remove.leaves h) level above count left) e = absurd (true≢false e)
remove_refused room (remove.clearing remove.removes_dir level above count left) e = remove_closes (remove.dirs (level ∷ above)) NoMemory
remove_refused room (remove.closing h hs end) e = absurd (true≢false e)

pub refused_tells : (below : Below) (room : Bool) (doing : Doing) → is_close (due below doing) ≡ false → turn_out_of_memory (take below room doing (Refused NoMemory)) ≡ true
refused_tells below room (call.walking w aim) e = walked_out_of_memory below room aim _ (walk_refused (call.way_of below aim) room w e)
refused_tells below room (call.acting wants.Done step hs) e = call_closes hs (call.fault NoMemory)
refused_tells below room (call.acting wants.Text step hs) e = call_closes hs (call.fault NoMemory)
refused_tells below room (call.acting wants.Any step hs) e = call_closes hs (call.fault NoMemory)
refused_tells below room (call.checking old new renaming) e = refl
refused_tells below room (call.closing h hs after) e = absurd (true≢false e)
refused_tells below room (call.making bulk) e = makes_out_of_memory _ ∙ make_refused (call.make_way below) room bulk e
refused_tells below room (call.removing bulk) e = clears_out_of_memory _ ∙ remove_refused room bulk e
refused_tells below room (call.releasing h) e = absurd (true≢false e)

-- ---- a call that begins without memory

unless_tells : (error : Option Errno) (turn : CallTurn) → Tells (call.unless_fault error (call.ends (call.fault NoMemory))) (call.unless_fault error turn)
unless_tells (Some error) turn = inl refl
unless_tells None turn = inr refl

single_tells : (step : StepWith ℕ) → Tells (if call.is_single step then call.ends (call.fault NoMemory) else call.ends (call.fault Invalid)) (call.single step)
single_tells step = by (call.is_single step)
  where
    by : (b : Bool) → Tells (if b then call.ends (call.fault NoMemory) else call.ends (call.fault Invalid))
        (if b then call.more (call.acting wants.Any step []) else call.ends (call.fault Invalid))
    by true = inr refl
    by false = inl refl

pub start_tells : (below : Below) (op : Op) → Tells (starts below false op) (starts below true op)
start_tells below (ops.Resolve path) = unless_tells (text_fault path) _
start_tells below (ops.ResolveNoFollow path) = unless_tells (text_fault path) _
start_tells below (ops.ReadLink path) = unless_tells (text_fault path) _
start_tells below (ops.CreateFile path) = unless_tells (text_fault path) _
start_tells below (ops.CreateDir path) = unless_tells (text_fault path) _
start_tells below (ops.CreateLink path text) = unless_tells (text_fault path) _
start_tells below (ops.RemoveFile path) = unless_tells (text_fault path) _
start_tells below (ops.RemoveDir path) = unless_tells (text_fault path) _
start_tells below (ops.Rename old new mode) = unless_tells (text_fault old) _
start_tells below (ops.MkdirAll path) = unless_tells (text_fault path) _
start_tells below (ops.RemoveAll path) = unless_tells (text_fault path) _
start_tells below (ops.Single step) = single_tells step
start_tells below (ops.Release standing) = inl refl
