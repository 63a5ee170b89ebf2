-- Once its walks are over a call asks no walk's last question, so that what it is told is what the history has.
use Rattle.std.specs.Prelude.{◌≡◌, ℕ, zero, suc, List, [], ◌∷◌, reverse, Bool, true, false, if◌then◌else◌, Option, Some, None, refl}
use Rattle.std.proofs.Common.{ap, ◌∙◌}
use Rattle.path_text.specs.declared.errno.Errno.{Errno}
use Rattle.path_text.specs.declared.errno.Errno.TheVariants.{NotFound, BadHandle, Raced, NoMemory, BookFull, Busy, Exists, CrossRoot, NotDir, IsDir, Invalid, TooMany, TooLong, NotEmpty, Loop}
use Rattle.path_text.specs.Names.{same_names}
use Rattle.tree_model.specs.declared.answer.Answer.{Answer}
use Rattle.tree_model.specs.declared.answer.Answer.TheVariants.{Opened, Text, Names, NotBelow, Listed, Done, Refused}
use Rattle.tree_model.specs.declared.step.Kind.TheVariants as kinds
use Rattle.step_resolver.specs.Order.{Way, Handle, Line, has_room, answer_of, is_dir_kind}
use Rattle.bulk_ops.specs.MakeAllOrder as make
use Rattle.bulk_ops.specs.RemoveAllOrder as remove
use Rattle.root_ops.specs.declared.aim.Renaming.{Renaming}
use Rattle.root_ops.specs.declared.below.Below.{Below}
use Rattle.root_ops.specs.Order.{After, gives, acts, Doing, walking, acting, checking, closing, making, removing, releasing, CallTurn, more, ends, closes, checked, reply_to, take, make_way, makes, removing_turn}
use Rattle.kernel_walks.specs.Told.{passed_by, IsTold, as_it_was, as_passed, AreTold}

-- no walk is under way, nor will be
abbrev pub IsPast : Doing → Type 0
IsPast (walking w aim) = ⊥
IsPast (making (make.walking w)) = ⊥
IsPast (removing (remove.walking way target w)) = ⊥
IsPast other = Unit {0}

abbrev pub IsPastTurn : CallTurn → Type 0
IsPastTurn (more doing) = IsPast doing
IsPastTurn (ends reply) = Unit {0}

-- it asks no such question
none_passed : (doing : Doing) → IsPast doing → passed_by doing ≡ None
none_passed (walking w aim) past = absurd past
none_passed (acting wanted step hs) past = refl
none_passed (checking old new renaming) past = refl
none_passed (closing h hs after) past = refl
none_passed (making (make.walking w)) past = absurd past
none_passed (making (make.making held names n left)) past = refl
none_passed (making (make.opening held names n left)) past = refl
none_passed (making (make.leaving old new names left)) past = refl
none_passed (making (make.ending held names)) past = refl
none_passed (making (make.closing h hs error)) past = refl
none_passed (removing (remove.walking way target w)) past = absurd past
none_passed (removing (remove.clearing stage level above count left)) past = refl
none_passed (removing (remove.closing h hs end)) past = refl
none_passed (releasing h) past = refl

-- ---- each answer leaves it so

pub closes_past : (hs : List ℕ) (after : After) → IsPastTurn (closes hs after)
closes_past [] (gives reply) = tt
closes_past [] (acts wanted step hs) = tt
closes_past (h ∷ hs) after = tt

checked_past : (old new : ℕ) (renaming : Renaming) (child : ℕ) (b : Bool) → IsPastTurn (checked old new renaming child b)
checked_past old new renaming child true = tt
checked_past old new renaming child false = tt

make_gives_up : (hs : List ℕ) (error : Errno) → IsPastTurn (makes (make.gives_up hs error))
make_gives_up [] error = tt
make_gives_up (h ∷ hs) error = tt

pub make_goes_down : (held : Handle) (names left : List (List ℕ)) → IsPastTurn (makes (make.goes_down held names left))
make_goes_down held names [] = tt
make_goes_down held names (n ∷ left) = tt

make_refused : (held : Handle) (names : List (List ℕ)) (n : List ℕ) (left : List (List ℕ)) (error : Errno) → IsPastTurn (makes (make.refused_make held names n left error))
make_refused held names n left NotFound = tt
make_refused held names n left BadHandle = tt
make_refused held names n left Raced = tt
make_refused held names n left NoMemory = tt
make_refused held names n left BookFull = tt
make_refused held names n left Busy = tt
make_refused held names n left Exists = tt
make_refused held names n left CrossRoot = tt
make_refused held names n left NotDir = tt
make_refused held names n left IsDir = tt
make_refused held names n left Invalid = tt
make_refused held names n left TooMany = tt
make_refused held names n left TooLong = tt
make_refused held names n left NotEmpty = tt
make_refused held names n left Loop = tt

make_enters : (held : Handle) (names : List (List ℕ)) (n : List ℕ) (left : List (List ℕ)) (new : Handle) (b : Bool)
    → IsPastTurn (makes (if b then make.more (make.leaving held.number new (n ∷ names) left) else make.gives_up (new.number ∷ held.number ∷ []) NotDir))
make_enters held names n left new true = tt
make_enters held names n left new false = tt

make_judged : (held : Handle) (names : List (List ℕ)) (b : Bool) → IsPastTurn (makes (if b then make.made held names else make.gives_up (held.number ∷ []) Raced))
make_judged held names true = tt
make_judged held names false = tt

make_past : (way : Way) (room : Bool) (call : make.Making) (answer : Answer) → IsPast (making call) → IsPastTurn (makes (make.take way room call answer))
make_past way room (make.walking w) answer past = absurd past
make_past way room (make.making held names n left) Done past = tt
make_past way room (make.making held names n left) (Opened h x kind) past = make_refused held names n left BadHandle
make_past way room (make.making held names n left) (Text text) past = make_refused held names n left BadHandle
make_past way room (make.making held names n left) (Names told) past = make_refused held names n left BadHandle
make_past way room (make.making held names n left) NotBelow past = make_refused held names n left BadHandle
make_past way room (make.making held names n left) (Listed listed) past = make_refused held names n left BadHandle
make_past way room (make.making held names n left) (Refused error) past = make_refused held names n left error
make_past way room (make.opening held names n left) (Opened h x kind) past = make_enters held names n left (record { number = h; node = x; kind = kind }) (is_dir_kind kind)
make_past way room (make.opening held names n left) (Text text) past = tt
make_past way room (make.opening held names n left) (Names told) past = tt
make_past way room (make.opening held names n left) NotBelow past = tt
make_past way room (make.opening held names n left) (Listed listed) past = tt
make_past way room (make.opening held names n left) Done past = tt
make_past way room (make.opening held names n left) (Refused error) past = tt
make_past way room (make.leaving old new names left) answer past = make_goes_down new names left
make_past way room (make.ending held names) (Opened h x kind) past = tt
make_past way room (make.ending held names) (Text text) past = tt
make_past way room (make.ending held names) (Names told) past = make_judged held names (same_names told (reverse names))
make_past way room (make.ending held names) NotBelow past = tt
make_past way room (make.ending held names) (Listed listed) past = tt
make_past way room (make.ending held names) Done past = tt
make_past way room (make.ending held names) (Refused error) past = tt
make_past way room (make.closing h hs error) answer past = make_gives_up hs error

remove_closes : (hs : List ℕ) (end : remove.End) → IsPastTurn (removing_turn (remove.closes hs end))
remove_closes [] (remove.fails error) = tt
remove_closes [] (remove.removes count) = tt
remove_closes (h ∷ hs) end = tt

pub remove_due : (stage : remove.Stage) (level : remove.Level) (above : List remove.Level) (count left : ℕ) → IsPastTurn (removing_turn (remove.is_due stage level above count left))
remove_due stage level above count zero = remove_closes (remove.before stage (remove.dirs (level ∷ above))) (remove.fails Busy)
remove_due stage level above count (suc left) = tt

remove_gives_up : (stage : remove.Stage) (level : remove.Level) (above : List remove.Level) (error : Errno) → IsPastTurn (removing_turn (remove.gives_up stage level above error))
remove_gives_up stage level above error = remove_closes (remove.before stage (remove.dirs (level ∷ above))) (remove.fails error)

remove_next : (d : ℕ) (others : List (List ℕ)) (above : List remove.Level) (count left : ℕ) → IsPastTurn (removing_turn (remove.next_entry d others above count left))
remove_next d (m ∷ others) above count left = remove_due remove.removes_file (record { dir = d; name = m; others = others }) above count left
remove_next d [] (level ∷ above) count left = remove_due (remove.leaves d) level above count left
remove_next d [] [] count left = tt

remove_finished : (level : remove.Level) (above : List remove.Level) (count left : ℕ) → IsPastTurn (removing_turn (remove.finished level above count left))
remove_finished level above count left = remove_next level.dir level.others above count left

remove_enters : (h : ℕ) (names : List (List ℕ)) (level : remove.Level) (above : List remove.Level) (count left : ℕ)
    → IsPastTurn (removing_turn (remove.enters h names level above count left))
remove_enters h [] level above count left = remove_due (remove.leaves h) level above count left
remove_enters h (n ∷ others) level above count left = remove_due remove.removes_file (record { dir = h; name = n; others = others }) (level ∷ above) count left

file_past : (level : remove.Level) (above : List remove.Level) (count left : ℕ) (answer : Answer) → IsPastTurn (removing_turn (remove.file_removed level above count left answer))
file_past level above count left Done = remove_finished level above (suc count) left
file_past level above count left (Opened h x kind) = remove_gives_up remove.removes_file level above BadHandle
file_past level above count left (Text text) = remove_gives_up remove.removes_file level above BadHandle
file_past level above count left (Names told) = remove_gives_up remove.removes_file level above BadHandle
file_past level above count left NotBelow = remove_gives_up remove.removes_file level above BadHandle
file_past level above count left (Listed listed) = remove_gives_up remove.removes_file level above BadHandle
file_past level above count left (Refused NotFound) = remove_finished level above count left
file_past level above count left (Refused BadHandle) = remove_gives_up remove.removes_file level above BadHandle
file_past level above count left (Refused Raced) = remove_gives_up remove.removes_file level above Raced
file_past level above count left (Refused NoMemory) = remove_gives_up remove.removes_file level above NoMemory
file_past level above count left (Refused BookFull) = remove_gives_up remove.removes_file level above BookFull
file_past level above count left (Refused Busy) = remove_gives_up remove.removes_file level above Busy
file_past level above count left (Refused Exists) = remove_gives_up remove.removes_file level above Exists
file_past level above count left (Refused CrossRoot) = remove_gives_up remove.removes_file level above CrossRoot
file_past level above count left (Refused NotDir) = remove_gives_up remove.removes_file level above NotDir
file_past level above count left (Refused IsDir) = remove_due remove.opens level above count left
file_past level above count left (Refused Invalid) = remove_gives_up remove.removes_file level above Invalid
file_past level above count left (Refused TooMany) = remove_gives_up remove.removes_file level above TooMany
file_past level above count left (Refused TooLong) = remove_gives_up remove.removes_file level above TooLong
file_past level above count left (Refused NotEmpty) = remove_gives_up remove.removes_file level above NotEmpty
file_past level above count left (Refused Loop) = remove_gives_up remove.removes_file level above Loop

opened_past : (level : remove.Level) (above : List remove.Level) (count left : ℕ) (answer : Answer) → IsPastTurn (removing_turn (remove.opened level above count left answer))
opened_past level above count left (Opened h x kinds.Dir) = remove_due (remove.lists h) level above count left
opened_past level above count left (Opened h x kinds.File) = remove_due (remove.shuts h) level above count left
opened_past level above count left (Opened h x kinds.Link) = remove_due (remove.shuts h) level above count left
opened_past level above count left (Text text) = remove_gives_up remove.opens level above BadHandle
opened_past level above count left (Names told) = remove_gives_up remove.opens level above BadHandle
opened_past level above count left NotBelow = remove_gives_up remove.opens level above BadHandle
opened_past level above count left (Listed listed) = remove_gives_up remove.opens level above BadHandle
opened_past level above count left Done = remove_gives_up remove.opens level above BadHandle
opened_past level above count left (Refused NotFound) = remove_finished level above count left
opened_past level above count left (Refused BadHandle) = remove_gives_up remove.opens level above BadHandle
opened_past level above count left (Refused Raced) = remove_gives_up remove.opens level above Raced
opened_past level above count left (Refused NoMemory) = remove_gives_up remove.opens level above NoMemory
opened_past level above count left (Refused BookFull) = remove_gives_up remove.opens level above BookFull
opened_past level above count left (Refused Busy) = remove_gives_up remove.opens level above Busy
opened_past level above count left (Refused Exists) = remove_gives_up remove.opens level above Exists
opened_past level above count left (Refused CrossRoot) = remove_gives_up remove.opens level above CrossRoot
opened_past level above count left (Refused NotDir) = remove_gives_up remove.opens level above NotDir
opened_past level above count left (Refused IsDir) = remove_gives_up remove.opens level above IsDir
opened_past level above count left (Refused Invalid) = remove_gives_up remove.opens level above Invalid
opened_past level above count left (Refused TooMany) = remove_gives_up remove.opens level above TooMany
opened_past level above count left (Refused TooLong) = remove_gives_up remove.opens level above TooLong
opened_past level above count left (Refused NotEmpty) = remove_gives_up remove.opens level above NotEmpty
opened_past level above count left (Refused Loop) = remove_gives_up remove.opens level above Loop

listed_past : (room : Bool) (h : ℕ) (level : remove.Level) (above : List remove.Level) (count left : ℕ) (answer : Answer)
    → IsPastTurn (removing_turn (remove.listed room h level above count left answer))
listed_past true h level above count left (Opened k x kind) = remove_gives_up (remove.lists h) level above BadHandle
listed_past true h level above count left (Text text) = remove_gives_up (remove.lists h) level above BadHandle
listed_past true h level above count left (Names told) = remove_gives_up (remove.lists h) level above BadHandle
listed_past true h level above count left NotBelow = remove_gives_up (remove.lists h) level above BadHandle
listed_past true h level above count left (Listed listed) = remove_enters h listed level above count left
listed_past true h level above count left Done = remove_gives_up (remove.lists h) level above BadHandle
listed_past true h level above count left (Refused error) = remove_gives_up (remove.lists h) level above error
listed_past false h level above count left (Opened k x kind) = remove_gives_up (remove.lists h) level above BadHandle
listed_past false h level above count left (Text text) = remove_gives_up (remove.lists h) level above BadHandle
listed_past false h level above count left (Names told) = remove_gives_up (remove.lists h) level above BadHandle
listed_past false h level above count left NotBelow = remove_gives_up (remove.lists h) level above BadHandle
listed_past false h level above count left (Listed listed) = remove_gives_up (remove.lists h) level above NoMemory
listed_past false h level above count left Done = remove_gives_up (remove.lists h) level above BadHandle
listed_past false h level above count left (Refused error) = remove_gives_up (remove.lists h) level above error

dir_past : (level : remove.Level) (above : List remove.Level) (count left : ℕ) (answer : Answer) → IsPastTurn (removing_turn (remove.dir_removed level above count left answer))
dir_past level above count left Done = remove_finished level above (suc count) left
dir_past level above count left (Opened h x kind) = remove_gives_up remove.removes_dir level above BadHandle
dir_past level above count left (Text text) = remove_gives_up remove.removes_dir level above BadHandle
dir_past level above count left (Names told) = remove_gives_up remove.removes_dir level above BadHandle
dir_past level above count left NotBelow = remove_gives_up remove.removes_dir level above BadHandle
dir_past level above count left (Listed listed) = remove_gives_up remove.removes_dir level above BadHandle
dir_past level above count left (Refused NotFound) = remove_finished level above count left
dir_past level above count left (Refused BadHandle) = remove_gives_up remove.removes_dir level above BadHandle
dir_past level above count left (Refused Raced) = remove_gives_up remove.removes_dir level above Raced
dir_past level above count left (Refused NoMemory) = remove_gives_up remove.removes_dir level above NoMemory
dir_past level above count left (Refused BookFull) = remove_gives_up remove.removes_dir level above BookFull
dir_past level above count left (Refused Busy) = remove_gives_up remove.removes_dir level above Busy
dir_past level above count left (Refused Exists) = remove_gives_up remove.removes_dir level above Exists
dir_past level above count left (Refused CrossRoot) = remove_gives_up remove.removes_dir level above CrossRoot
dir_past level above count left (Refused NotDir) = remove_due remove.removes_file level above count left
dir_past level above count left (Refused IsDir) = remove_gives_up remove.removes_dir level above IsDir
dir_past level above count left (Refused Invalid) = remove_gives_up remove.removes_dir level above Invalid
dir_past level above count left (Refused TooMany) = remove_gives_up remove.removes_dir level above TooMany
dir_past level above count left (Refused TooLong) = remove_gives_up remove.removes_dir level above TooLong
dir_past level above count left (Refused NotEmpty) = remove_due remove.opens level above count left
dir_past level above count left (Refused Loop) = remove_gives_up remove.removes_dir level above Loop

remove_past : (room : Bool) (call : remove.Removing) (answer : Answer) → IsPast (removing call) → IsPastTurn (removing_turn (remove.take room call answer))
remove_past room (remove.walking way target w) answer past = absurd past
remove_past room (remove.clearing remove.removes_file level above count left) answer past = file_past level above count left answer
remove_past room (remove.clearing remove.opens level above count left) answer past = opened_past level above count left answer
remove_past room (remove.clearing (remove.lists h) level above count left) answer past = listed_past room h level above count left answer
remove_past room (remove.clearing (remove.shuts h) level above count left) answer past = remove_due remove.removes_file level above count left
remove_past room (remove.clearing (remove.leaves h) level above count left) answer past = remove_due remove.removes_dir level above count left
remove_past room (remove.clearing remove.removes_dir level above count left) answer past = dir_past level above count left answer
remove_past room (remove.closing h hs end) answer past = remove_closes hs end

take_past : (below : Below) (room : Bool) (doing : Doing) (answer : Answer) → IsPast doing → IsPastTurn (take below room doing answer)
take_past below room (walking w aim) answer past = absurd past
take_past below room (acting wanted step hs) answer past = closes_past hs (gives (reply_to wanted answer))
take_past below room (checking old new renaming) (Opened h x kind) past = checked_past old new renaming h (is_dir_kind kind)
take_past below room (checking old new renaming) (Text text) past = tt
take_past below room (checking old new renaming) (Names told) past = tt
take_past below room (checking old new renaming) NotBelow past = tt
take_past below room (checking old new renaming) (Listed listed) past = tt
take_past below room (checking old new renaming) Done past = tt
take_past below room (checking old new renaming) (Refused error) past = tt
take_past below room (closing h hs after) answer past = closes_past hs after
take_past below room (making call) answer past = make_past (make_way below) room call answer past
take_past below room (removing call) answer past = remove_past room call answer past
take_past below room (releasing h) answer past = tt

-- ---- the lines

none_some : {A : Type 0} (o : Option A) (x : A) → o ≡ None → o ≡ Some x → ⊥
none_some None x n s = cc (s)
none_some (Some y) x n s = cc (n)

same_line : (doing : Doing) (told was : Line) → IsPast doing → IsTold (passed_by doing) told was → told ≡ was
same_line doing told was past (as_it_was e) = e
same_line doing told was past (as_passed step names others passed told_so was_so) = absurd (none_some (passed_by doing) names (none_passed doing past) passed)

pub past_is_told : (below : Below) (turn : CallTurn) (told was : List Line) → IsPastTurn turn → AreTold below turn told was → told ≡ was
past_is_told below turn [] [] past are = refl
past_is_told below (more doing) (line ∷ told) (other ∷ was) past are =
    ap (λ l. l ∷ told) (same_line doing line other past are.0)
    ∙ ap (λ ls. other ∷ ls) (past_is_told below (take below (has_room line) doing (answer_of line)) told was (take_past below (has_room line) doing (answer_of line) past) are.1)
past_is_told below (ends reply) (line ∷ told) (other ∷ was) past are = absurd are
past_is_told below (more doing) [] (other ∷ was) past are = absurd are
past_is_told below (ends reply) [] (other ∷ was) past are = absurd are
past_is_told below (more doing) (line ∷ told) [] past are = absurd are
past_is_told below (ends reply) (line ∷ told) [] past are = absurd are
