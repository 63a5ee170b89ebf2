-- One more answer, that of the change, ends a call.
use Rattle.std.proofs.Common.{◌≡◌, ℕ, Bool, true, false, ◌==◌, ◌&&◌, not, List, [], ◌∷◌, ◌++◌, refl, sym, ap, ◌∙◌}
use Rattle.std.specs.Prelude.{if◌then◌else◌, Result, Ok, Err}
use Rattle.system_calls.specs.Errors.{EINTR}
use Rattle.dialogue.specs.Dialogue.{Dialogue, DialogueOf, Protocol, RanOf, SystemCall, and_then, asking, asks, behind, came, due, ends, going, is_look, makes_directory, makes_link, makes_node, opens, ran, removes, renames}
use Rattle.dialogue.specs.declared.calls.Answer.{Answer}
use Rattle.dialogue.proofs.TalkLemmas.{ran_then}
use Rattle.find_proc.specs.declared.asks.Known.{Known}
use Rattle.kernel_calls.specs.Calls.{EndsNext, Ended, IsBare, change_at, change_entry, change_told, changing, ended, rename_in, rename_told, renaming, is_plain, plain_told, rename, rename_from, to_told, from_told}
use Rattle.kernel_calls.specs.Entry.{EntryAt, find_directory, leave, own_of}
use Rattle.kernel_calls.specs.Path.{At}
use Rattle.kernel_calls.specs.declared.entry.Dir.{Dir}
use Rattle.kernel_calls.specs.Change.{Changing, flags_of, is_made, is_opened, make, make_change, make_told, given, question_of, without_kind}
use Rattle.kernel_calls.specs.InProc.{by_proc, gave, gives, linking}
use Rattle.kernel_calls.specs.Flags.{MAKE_DIR, MAKE_FILE, MAKE_LINK, REMOVE_DIR, REMOVE_FILE}
use Rattle.kernel_calls.specs.Look.{Came, came_to}
use Rattle.kernel_calls.specs.declared.change.Wanted.{Wanted}
use Rattle.kernel_calls.specs.declared.look.Outcome.{Outcome}
use Rattle.kernel_calls.specs.declared.look.Outcome.TheVariants.{Value}

-- ---- dialogues

came_more : {P : Protocol} {E : Type 0} → (r e : E) (xs ys l : List P.Gave)
    → ◌≡◌ {A = RanOf P E} (came r xs) (came e l) → ◌≡◌ {A = RanOf P E} (came r (xs ++ ys)) (came e (l ++ ys))
came_more {P} {E} r e xs ys l h =
    let one : r ≡ e = cc (h) in
    let two : xs ≡ l = cc (h) in
    ap (λ v. came v (xs ++ ys)) one ∙ ap (λ zs. came e (zs ++ ys)) two

-- what comes behind the answers that were taken is left
pub ran_more : {P : Protocol} {E : Type 0} → (s : DialogueOf P E) (xs ys l : List P.Gave) (e : E)
    → ran s xs ≡ came e l → ran s (xs ++ ys) ≡ came e (l ++ ys)
unfolding ran
ran_more (ends r) xs ys l e h = came_more r e xs ys l h
ran_more (asks q after) [] ys l e h = absurd cc
ran_more (asks q after) (a ∷ xs) ys l e h = ran_more (behind q after a) xs ys l e h

-- one dialogue, and then another one
pub more_then : {P : Protocol} {E F : Type 0} → (s : DialogueOf P E) (f : E → DialogueOf P F) (xs ys l : List P.Gave)
    (e : E) → ran s xs ≡ came e l → ran (and_then s f) (xs ++ ys) ≡ ran (f e) (l ++ ys)
more_then s f xs ys l e h = ran_then s f (xs ++ ys) ∙ ap (λ r. going r f) (ran_more s xs ys l e h)

pub next_then : {E : Type 0} → (s : Dialogue E) (f : E → Dialogue Ended) (xs l : List Answer) (e : E) (fds : List ℕ)
    → ran s xs ≡ came e l → EndsNext (f e) l fds → EndsNext (and_then s f) xs fds
unfolding EndsNext
next_then s f xs l e fds h next = λ a ok.
    let end = next a ok in (end.0, more_then s f xs (a ∷ []) l e h ∙ end.1)

-- ---- the change

not_both : (x y : Bool) → (x && (y && false)) ≡ false
not_both true true = refl
not_both true false = refl
not_both false y = refl

not_opened : (w : Wanted) (step : ℕ) → w.opens ≡ false → w.gives ≡ false → is_opened w step ≡ false
not_opened w step o g =
    rw (o, g) (not_both (step == MAKE_FILE) (not w.linked))

not_look_by : (w : Wanted) (c : Changing) (flags mode : ℕ) (is_dir is_file is_link is_name is_empty : Bool)
    → is_look (if is_dir then makes_directory c.dir c.name w.mode
    else (if false then opens c.dir c.name flags mode
    else (if is_file then makes_node c.dir c.name w.mode w.device
    else (if is_link then makes_link c.dir c.name c.text
    else (if is_name then removes c.dir c.name false
    else (if is_empty then removes c.dir c.name true
    else renames c.dir c.name c.other c.text w.how)))))) ≡ false
not_look_by w c flags mode true file link name empty = refl
not_look_by w c flags mode false true link name empty = refl
not_look_by w c flags mode false false true name empty = refl
not_look_by w c flags mode false false false true empty = refl
not_look_by w c flags mode false false false false true = refl
not_look_by w c flags mode false false false false false = refl

not_look : (w : Wanted) (c : Changing) (nofollow : ℕ) → is_opened w c.step ≡ false
    → is_look (question_of w c nofollow) ≡ false
not_look w c nofollow h =
    rw (h) (not_look_by w c (flags_of w nofollow) (without_kind w.mode) (c.step == MAKE_DIR) (c.step == MAKE_FILE)
    (c.step == MAKE_LINK) (c.step == REMOVE_FILE) (c.step == REMOVE_DIR))

asked_once : (q : SystemCall) (a : Answer) (xs : List Answer) → is_look q ≡ false
    → ran (gives q) (a ∷ xs) ≡ came (gave a) xs
unfolding ran gives and_then asking
asked_once q a xs h =
    ap (λ b. ran (if b && (a.error == EINTR) then asks q (λ x. ends (gave x)) else ends (gave a)) xs) h

make_is : (k : Known) (w : Wanted) (c : Changing) → w.linked ≡ false
    → make k w c ≡ and_then (gives (question_of w c k.machine.nofollow)) (λ r. ends (came_to k r))
unfolding make
make_is k w c h =
    ap (λ b. if b && is_made c.step then by_proc k w.fd (linking c.dir c.name)
    else and_then (gives (question_of w c k.machine.nofollow)) (λ r. ends (came_to k r))) h

told : (k : Known) (w : Wanted) (c : Changing) (read : List ℕ) (a : Answer) (xs : List Answer) → IsBare w
    → w.gives ≡ false → ran (make_change k w c read) (a ∷ xs) ≡ ran (make_told w c read (came_to k (gave a))) xs
unfolding ran make_change
told k w c read a xs bare g =
    let q = question_of w c k.machine.nofollow in
    let after : Result ℕ ℕ → Dialogue (Came (Result ℕ ℕ)) = λ r. ends (came_to k r) in
    let once = asked_once q a xs (not_look w c k.machine.nofollow (not_opened w c.step bare.1 g)) in
    let made : ran (make k w c) (a ∷ xs) ≡ came (came_to k (gave a)) xs =
    ap (λ m. ran m (a ∷ xs)) (make_is k w c bare.0) ∙ ran_then (gives q) after (a ∷ xs)
    ∙ ap (λ r. going r after) once in
    ran_then (make k w c) (make_told w c read) (a ∷ xs) ∙ ap (λ r. going r (make_told w c read)) made

-- with or without an error nothing more is asked
over : (k : Known) (w : Wanted) (c : Changing) (read : List ℕ) (r : Result ℕ ℕ) → IsBare w → w.gives ≡ false
    → (x : Came Outcome) × (make_told w c read (came_to k r) ≡ ends x)
unfolding given
over k w c read (Ok value) bare g =
    (came_to k (Value 0), rw (not_opened w c.step bare.1 g, g))
over k w c read (Err error) bare g = (_, refl)

good : (k : Known) (w : Wanted) (c : Changing) (read : List ℕ) (a : Answer) (xs : List Answer) → IsBare w
    → w.gives ≡ false → a.error ≡ 0 → ran (make_change k w c read) (a ∷ xs) ≡ came (came_to k (Value 0)) xs
unfolding ran given
good k w c read a xs bare g ok =
    let is : gave a ≡ Ok a.value = ap (λ n. if n == 0 then Ok a.value else Err n) ok in
    told k w c read a xs bare g ∙ ap (λ r. ran (make_told w c read (came_to k r)) xs) is
    ∙ rw (not_opened w c.step bare.1 g, g)

nothing_left : (k : Known) (w : Wanted) (c : Changing) (read : List ℕ) (l : List Answer) (q : SystemCall) → IsBare w
    → w.gives ≡ false → ran (make_change k w c read) l ≡ due q → l ≡ []
unfolding ran
nothing_left k w c read [] q bare g h = refl
nothing_left k w c read (a ∷ xs) q bare g h =
    let end = over k w c read (gave a) bare g in
    let came_is = sym (told k w c read a xs bare g) ∙ h in
    let none : ran (ends end.0) xs ≡ due q = ap (λ s. ran s xs) (sym end.1) ∙ came_is in absurd cc

next_here : (k : Known) (w : Wanted) (c : Changing) (read : List ℕ) (l : List Answer) (q : SystemCall)
    (f : Came Outcome → Dialogue Ended) (fds : List ℕ) → IsBare w → w.gives ≡ false
    → ran (make_change k w c read) l ≡ due q
    → ran (f (came_to k (Value 0))) [] ≡ came (ended k fds (Value 0)) []
    → EndsNext (and_then (make_change k w c read) f) l fds
unfolding EndsNext
next_here k w c read l q f fds bare g h end = λ a ok.
    let none = nothing_left k w c read l q bare g h in (
      k,
      ap (λ xs. ran (and_then (make_change k w c read) f) (xs ++ a ∷ [])) none
          ∙ ran_then (make_change k w c read) f (a ∷ []) ∙ ap (λ r. going r f) (good k w c read a [] bare g ok) ∙ end,
    )

-- ---- and what is closed behind that

closed_one : (dir : Dir) (k : Known) (own : Bool) → dir.own ≡ own
    → ran (change_told dir true (came_to k (Value 0))) [] ≡ came (ended k (own_of dir) (Value 0)) []
unfolding ran leave and_then
closed_one dir k true h = rw (h)
closed_one dir k false h = rw (h)

pub next_in_entry : (k : Known) (w : Wanted) (dir : Dir) (step : ℕ) (name text read : List ℕ) (l : List Answer)
    (q : SystemCall) → IsBare w → w.gives ≡ false
    → ran (make_change k w (changing step dir.fd name text) read) l ≡ due q
    → EndsNext (and_then (make_change k w (changing step dir.fd name text) read) (change_told dir true)) l (own_of dir)
next_in_entry k w dir step name text read l q bare g h =
    next_here k w (changing step dir.fd name text) read l q (change_told dir true) (own_of dir) bare g h
    (closed_one dir k dir.own refl)

closed_both : (from to : Dir) (k : Known) (one other : Bool) → from.own ≡ one → to.own ≡ other
    → ran (rename_told from to true (came_to k (Value 0))) []
    ≡ came (ended k (own_of to ++ own_of from) (Value 0)) []
unfolding ran leave and_then
closed_both from to k true true f t = rw (f, t)
closed_both from to k true false f t = rw (f, t)
closed_both from to k false true f t = rw (f, t)
closed_both from to k false false f t = rw (f, t)

pub next_in_rename : (k : Known) (w : Wanted) (from to : Dir) (name new : List ℕ) (l : List Answer)
    (q : SystemCall) → IsBare w → w.gives ≡ false
    → ran (make_change k w (renaming from name to new) []) l ≡ due q
    → EndsNext (rename_in k w from name to new true) l (own_of to ++ own_of from)
unfolding rename_in
next_in_rename k w from to name new l q bare g h =
    next_here k w (renaming from name to new) [] l q (rename_told from to true) (own_of to ++ own_of from) bare g h
    (closed_both from to k from.own to.own refl refl)

pub next_in_change : (k k2 : Known) (at : At) (entry : EntryAt) (w : Wanted) (step : ℕ) (text read : List ℕ)
    (xs l1 l2 : List Answer) (dir : Dir) (q : SystemCall) → IsBare w → w.gives ≡ false
    → ran (is_plain k w.gives step text) xs ≡ came true l1
    → ran (find_directory k at entry.above) l1 ≡ came (came_to k2 (Ok dir)) l2
    → ran (make_change k2 w (changing step dir.fd entry.name text) read) l2 ≡ due q
    → EndsNext (change_entry k at entry w step text read true) xs (own_of dir)
unfolding change_entry
next_in_change k k2 at entry w step text read xs l1 l2 dir q bare g one two three =
    next_then (is_plain k w.gives step text) (plain_told k at entry w step text read true) xs l1 true (own_of dir) one
    (next_then (find_directory k at entry.above) (change_at entry w step text read true) l1 l2 (came_to k2 (Ok dir))
    (own_of dir) two (next_in_entry k2 w dir step entry.name text read l2 q bare g three))

pub next_in_from : (k k2 : Known) (w : Wanted) (from : Dir) (name : List ℕ) (other : At) (to : EntryAt) (is_last : Bool)
    (xs l : List Answer) (dir : Dir) (fds : List ℕ)
    → ran (find_directory k other to.above) xs ≡ came (came_to k2 (Ok dir)) l
    → EndsNext (rename_in k2 w from name dir to.name is_last) l fds
    → EndsNext (rename_from k w from name other to is_last) xs fds
unfolding rename_from
next_in_from k k2 w from name other to is_last xs l dir fds one next =
    next_then (find_directory k other to.above) (to_told w from name to.name is_last) xs l (came_to k2 (Ok dir)) fds one
    next

pub next_in_both : (k k2 : Known) (w : Wanted) (at : At) (from : EntryAt) (other : At) (to : EntryAt) (is_last : Bool)
    (xs l : List Answer) (dir : Dir) (fds : List ℕ)
    → ran (find_directory k at from.above) xs ≡ came (came_to k2 (Ok dir)) l
    → EndsNext (rename_from k2 w dir from.name other to is_last) l fds
    → EndsNext (rename k at from other to w is_last) xs fds
unfolding rename
next_in_both k k2 w at from other to is_last xs l dir fds one next =
    next_then (find_directory k at from.above) (from_told w from.name other to is_last) xs l (came_to k2 (Ok dir)) fds
    one next
