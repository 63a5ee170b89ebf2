-- Which rules the system calls of each step keep, whatever these give.
use Rattle.std.proofs.Common.{◌≡◌, ℕ, ◌+◌, List, Bool, true, false, if◌then◌else◌, not, ◌&&◌, ◌||◌, Option, Some, None, Result, Ok, Err, refl, sym, subst, arith}
use Rattle.std.specs.Prelude.{◌==◌}
use Rattle.std.proofs.lemmas.Bool.{false≢true}
use Rattle.path_text.specs.declared.errno.Errno.{Errno}
use Rattle.path_text.specs.declared.errno.Errno.TheVariants.{NotFound, Invalid}
use Rattle.system_calls.specs.Errors.{EINVAL, ENOENT, ENOTDIR}
use Rattle.dialogue.specs.Dialogue.{Dialogue, SystemCall, and_then, closes, ends, open_above, open_name, open_same, reads_entries, reads_link, stats, stats_file_system}
use Rattle.dialogue.specs.declared.calls.Answer.{Answer}
use Rattle.dialogue.proofs.HoldLemmas.{Goes, asks_then, both, choose, over, weak}
use Rattle.linux_steps.specs.Rules.{Ends, May, Seen, StepsKeepRules, ThereEnds, at_first, is_no_error, says_followed, says_ordinary, seen_by, watch}
use Rattle.linux_steps.specs.Steps.{Entry, above_missing, above_opened, above_there, any_opened, by_entries, by_entry, by_file_system, by_holder, by_kernel, by_kind, by_path, by_read, closing, directory_opened, dup_opened, dup_step, entries_opened, followed, has_followed, has_magic, is_ordinary, keeps_links, kernel_looked, look_error, missing, not_read, open_any, open_step, opening, parent_step, read_link_step, text_of, there, to_read, tried}
use Rattle.linux_steps.specs.declared.ended.Ended.TheVariants.{Text, Refused, Unmade}
use Rattle.linux_steps.specs.declared.ended.There.{There}
use Rattle.linux_steps.specs.declared.ended.There.TheVariants.{Yes, No, Unknown, Fails}
use Rattle.linux_steps.proofs.Moments.{positive}

-- ---- tests

or_left : (b c : Bool) → b ≡ true → (b || c) ≡ true
or_left true c is = refl
or_left false c is = absurd (false≢true is)

or_right : (b c : Bool) → c ≡ true → (b || c) ≡ true
or_right true c is = refl
or_right false c is = is

and_both : (b c : Bool) → b ≡ true → c ≡ true → (b && c) ≡ true
and_both true c one two = two
and_both false c one two = one

clean_by : (b c : Bool) → b ≡ false → c ≡ true → (b || not c) ≡ false
clean_by false true one two = refl
clean_by false false one two = absurd (false≢true two)
clean_by true c one two = absurd (false≢true (sym one))

is_not : (b : Bool) → b ≡ false → not b ≡ true
is_not false is = refl
is_not true is = absurd (false≢true (sym is))

if_elim : {A : Type 0} (P : A → Type 0) (b : Bool) (x y : A) → (b ≡ true → P x) → (b ≡ false → P y)
    → P (if b then x else y)
if_elim P true x y h k = h refl
if_elim P false x y h k = k refl

-- ---- one system call

-- what was said stays said
record Keeps (s t : Seen) : Type 0 where
  followed : s.followed ≡ true → t.followed ≡ true
  ordinary : s.ordinary ≡ true → t.ordinary ≡ true
  clean : s.failed ≡ false → t.failed ≡ false

keeps : (s : Seen) (q : SystemCall) (a : Answer) → is_no_error q a ≡ true → Keeps s (seen_by s q a)
keeps s q a none = record {
  followed = λ h. or_left s.followed (says_followed q a) h;
  ordinary = λ h. or_left s.ordinary (says_ordinary q a) h;
  clean = λ h. clean_by s.failed (is_no_error q a) h none;
}

abbrev Came : Seen → SystemCall → Seen → Result ℕ ℕ → Type 0
Came s q t r = (a : Answer) × (t ≡ seen_by s q a) × (r ≡ tried a)

opens : (x : Bool) (s : Seen) (q : SystemCall) → May x s q → Goes (watch x) 1 s (opening q) (Came s q)
unfolding opening
opens x s q may = asks_then 0 q may (λ a. over (a, refl, refl))

-- something is opened, or fails
opens_then : {F : Type 0} (x : Bool) (k : ℕ) (s : Seen) (q : SystemCall) (f : Result ℕ ℕ → Dialogue F)
    (Post : Seen → F → Type 0) → May x s q
    → ((a : Answer) → (a.error == 0) ≡ true → Goes (watch x) k (seen_by s q a) (f (Ok a.value)) Post)
    → ((a : Answer) → (a.error == 0) ≡ false → Goes (watch x) k (seen_by s q a) (f (Err a.error)) Post)
    → Goes (watch x) (1 + k) s (and_then (opening q) f) Post
opens_then x k s q f Post may ok err =
    both 1 k (opens x s q may)
    (λ t r came. subst (λ u. Goes (watch x) k u (f r) Post) (sym came.1)
    (subst (λ v. Goes (watch x) k (seen_by s q came.0) (f v) Post) (sym came.2)
    (if_elim (λ v. Goes (watch x) k (seen_by s q came.0) (f v) Post) (came.0.error == 0) (Ok came.0.value) (Err came.0.error)
    (ok came.0) (err came.0))))

lets_go : (x : Bool) (s : Seen) (fd : ℕ) → Goes (watch x) 1 s (closing fd) (λ t u. Keeps s t)
unfolding closing
lets_go x s fd = asks_then 0 (closes fd) tt (λ a. over (keeps s (closes fd) a refl))

closes_then : {F : Type 0} (x : Bool) (k : ℕ) (s : Seen) (fd : ℕ) (f : Unit {0} → Dialogue F) (Post : Seen → F → Type 0)
    → ((t : Seen) (u : Unit {0}) → Keeps s t → Goes (watch x) k t (f u) Post)
    → Goes (watch x) (1 + k) s (and_then (closing fd) f) Post
closes_then x k s fd f Post more = both 1 k (lets_go x s fd) more

-- ---- Open and Dup

abbrev own : Option Errno
own = Some NotFound

misses : (s : Seen) (error : ℕ) → Ends own s (missing error)
misses s error = if_elim (Ends own s) (error == ENOENT) (Refused NotFound) (Unmade error) (λ _. refl) (λ _. tt)

kinds : (x : Bool) (s : Seen) (fd : ℕ) → s.failed ≡ false → Goes (watch x) 2 s (by_kind fd) (Ends own)
unfolding by_kind
kinds x s fd clean =
    asks_then 1 (stats fd) tt
    (λ a. choose (look_error a == 0) (λ is. over ((keeps s (stats fd) a is).clean clean))
    (λ is. closes_then x 0 (seen_by s (stats fd) a) fd (λ u. ends (Unmade (look_error a))) (Ends own) (λ t u k. over tt)))

anys : (x : Bool) (s : Seen) (dir : ℕ) (name : List ℕ) → s.failed ≡ false
    → Goes (watch x) 3 s (open_any dir name x) (Ends own)
unfolding open_any
anys x s dir name clean =
    let q = open_name dir name (by_path false x) in
    opens_then x 2 s q any_opened (Ends own) (λ _. refl)
    (λ a is. kinds x (seen_by s q a) a.value ((keeps s q a (or_left (a.error == 0) _ is)).clean clean))
    (λ a is. over (misses (seen_by s q a) a.error))

open-rules : (x : Bool) (dir : ℕ) (name : List ℕ) → Goes (watch x) 4 at_first (open_step dir name x) (Ends own)
unfolding open_step
open-rules x dir name =
    let q = open_name dir name (by_path true x) in
    opens_then x 3 at_first q (directory_opened dir name x) (Ends own) (λ _. refl)
    (λ a is. over ((keeps at_first q a (or_left (a.error == 0) _ is)).clean refl))
    (λ a is. choose (a.error == ENOTDIR)
    (λ e. anys x (seen_by at_first q a) dir name ((keeps at_first q a (or_right (a.error == 0) (a.error == ENOTDIR) e)).clean refl))
    (λ e. over (misses (seen_by at_first q a) a.error)))

dup-rules : (x : Bool) (dir : ℕ) → Goes (watch x) 1 at_first (dup_step dir x) (Ends None)
unfolding dup_step
dup-rules x dir =
    let q = open_same dir (by_path true x) in
    opens_then x 0 at_first q (λ r. ends (dup_opened r)) (Ends None) (λ _. refl)
    (λ a is. over ((keeps at_first q a (or_left (a.error == 0) _ is)).clean refl)) (λ a is. over tt)

-- ---- whether a directory is there, and Parent

-- no error was passed over where the directory counts as being there
abbrev Told : Seen → There → Type 0
Told t Yes = t.failed ≡ false
Told t Unknown = t.failed ≡ false
Told t No = Unit {0}
Told t (Fails error) = Unit {0}

abbrev Tells : Seen → Seen → There → Type 0
Tells s t told = s.failed ≡ false → Told t told

entries : (x : Bool) (s : Seen) (dir : ℕ) → Goes (watch x) 3 s (by_entries dir) (Tells s)
unfolding by_entries
entries x s dir =
    let q = open_same dir to_read in
    opens_then x 2 s q entries_opened (Tells s) (λ h. absurd (false≢true h))
    (λ a is. let fd = a.value in
    let s1 = seen_by s q a in
    asks_then 1 (reads_entries fd) tt
    (λ b. let s2 = seen_by s1 (reads_entries fd) b in
    closes_then x 0 s2 fd (λ u. ends (by_read b.error)) (Tells s)
    (λ t u k. over (λ clean.
    if_elim (Told t) (b.error == 0) Yes (if b.error == ENOENT then No else Unknown)
    (λ e. k.clean ((keeps s1 (reads_entries fd) b (not_missing b.error e)).clean ((keeps s q a (or_left (a.error == 0) _ is)).clean clean)))
    (λ e. if_elim (Told t) (b.error == ENOENT) No Unknown (λ _. tt)
    (λ some. k.clean ((keeps s1 (reads_entries fd) b (is_not (b.error == ENOENT) some)).clean
    ((keeps s q a (or_left (a.error == 0) _ is)).clean clean))))))))
    (λ a is. over (λ clean.
    if_elim (Told (seen_by s q a)) (a.error == ENOENT) No Unknown (λ _. tt)
    (λ some. (keeps s q a (or_right (a.error == 0) _ (is_not (a.error == ENOENT) some))).clean clean)))
  where
    not_missing : (error : ℕ) → (error == 0) ≡ true → not (error == ENOENT) ≡ true
    not_missing error is = grind (arith, is)

file_systems : (x : Bool) (s : Seen) (dir : ℕ) → Goes (watch x) 4 s (by_file_system dir) (Tells s)
unfolding by_file_system
file_systems x s dir =
    let q = stats_file_system dir in
    asks_then 3 q tt
    (λ a. choose (not (a.error == 0)) (λ is. over (λ clean. (keeps s q a refl).clean clean))
    (λ is. choose (not (keeps_links a.file_system)) (λ type. over (λ clean. (keeps s q a refl).clean clean))
    (λ type. weak 3 (omega arith) (entries x (seen_by s q a) dir)
    (λ t told h clean. h ((keeps s q a refl).clean clean)))))

theres : (x : Bool) (s : Seen) (dir : ℕ) → Goes (watch x) 5 s (there dir) (Tells s)
unfolding there
theres x s dir =
    let q = stats dir in
    asks_then 4 q tt
    (λ a. choose (not (look_error a == 0)) (λ is. over (λ clean. tt))
    (λ is. choose (a.links == 0) (λ none. over (λ clean. tt))
    (λ some. weak 4 (omega arith) (file_systems x (seen_by s q a) dir)
    (λ t told h clean. h ((keeps s q a (positive (look_error a == 0) is)).clean clean)))))

there-rules : (t : Seen) (told : There) → Tells at_first t told → ThereEnds t told
there-rules t Yes h = h refl
there-rules t No h = tt
there-rules t Unknown h = tt
there-rules t (Fails error) h = tt

above_ends : (x : Bool) (s t : Seen) (fd : ℕ) (told : There) → s.failed ≡ false → Tells s t told
    → Goes (watch x) 1 t (above_there fd told) (Ends own)
above_ends x s t fd Yes clean h = over (h clean)
above_ends x s t fd Unknown clean h = over (h clean)
above_ends x s t fd No clean h = closes_then x 0 t fd (λ u. ends (Refused NotFound)) (Ends own) (λ r u k. over refl)
above_ends x s t fd (Fails error) clean h = closes_then x 0 t fd (λ u. ends (Unmade error)) (Ends own) (λ r u k. over tt)

above_misses : (t : Seen) (told : There) → Ends own t (above_missing told)
above_misses t Yes = tt
above_misses t No = refl
above_misses t Unknown = tt
above_misses t (Fails error) = tt

parent-rules : (x : Bool) (dir : ℕ) → Goes (watch x) 7 at_first (parent_step dir x) (Ends own)
unfolding parent_step
parent-rules x dir =
    let q = open_above dir (by_path true x) in
    opens_then x 6 at_first q (above_opened dir) (Ends own) refl
    (λ a is. let s = seen_by at_first q a in
    both 5 1 (theres x s dir) (λ t told h. above_ends x s t a.value told ((keeps at_first q a is).clean refl) h))
    (λ a is. choose (a.error == ENOENT)
    (λ e. both 5 1 (theres x (seen_by at_first q a) dir) (λ t told h. over (above_misses t told))) (λ e. over tt))

-- ---- ReadLink

abbrev own_of : Bool → Option Errno
own_of is_link = if is_link then None else Some Invalid

-- the link may be read
record IsFree (s : Seen) : Type 0 where
  followed : s.followed ≡ true
  ordinary : s.ordinary ≡ true
  clean : s.failed ≡ false

still_free : (s t : Seen) → Keeps s t → IsFree s → IsFree t
still_free s t k free = record {
  followed = k.followed free.followed;
  ordinary = k.ordinary free.ordinary;
  clean = k.clean free.clean;
}

no_link : (is_link : Bool) (s : Seen) (error : ℕ)
    → Ends (own_of is_link) s (if not is_link && (error == EINVAL) then Refused Invalid else Unmade error)
no_link true s error = tt
no_link false s error =
    if_elim (Ends (Some Invalid) s) (error == EINVAL) (Refused Invalid) (Unmade error) (λ _. refl) (λ _. tt)

texts : (x : Bool) (k : ℕ) (s : Seen) (fd : ℕ) (is_link : Bool) → IsFree s
    → Goes (watch x) (1 + k) s (text_of fd is_link) (Ends (own_of is_link))
unfolding text_of
texts x k s fd is_link free =
    let q = reads_link fd in
    asks_then k q (free.followed, free.ordinary)
    (λ a. over (if_elim (Ends (own_of is_link) (seen_by s q a)) (a.error == 0) (Text a.value) _
    (λ is. (keeps s q a is).clean free.clean) (λ is. no_link is_link (seen_by s q a) (not_read a.error))))

-- of a link whose mount has links followed
kernels : (x : Bool) (s : Seen) (fd : ℕ) (is_link : Bool) (e : Entry) → s.followed ≡ true → s.failed ≡ false
    → Goes (watch x) 3 s (by_kernel fd is_link e) (Ends (own_of is_link))
unfolding by_kernel
kernels x s fd is_link e follows clean =
    let q = open_name e.dir e.name followed in
    opens_then x 2 s q (kernel_looked fd is_link) (Ends (own_of is_link)) (λ h. absurd (false≢true h))
    (λ a is. let t = seen_by s q a in
    closes_then x 1 t a.value (λ u. text_of fd is_link) (Ends (own_of is_link))
    (λ r u k. texts x 0 r fd is_link (still_free t r k (looked a (or_left (a.error == 0) (is_ordinary a.error) is)))))
    (λ a is. choose (not (is_ordinary a.error)) (λ no. over tt)
    (λ yes. texts x 1 (seen_by s q a) fd is_link
    (looked a (or_right (a.error == 0) (is_ordinary a.error) (positive (is_ordinary a.error) yes)))))
  where
    looked : (a : Answer) → ((a.error == 0) || is_ordinary a.error) ≡ true
        → IsFree (seen_by s (open_name e.dir e.name followed) a)
    looked a is = record {
      followed = or_left s.followed false follows;
      ordinary = or_right s.ordinary ((a.error == 0) || is_ordinary a.error) is;
      clean = clean_by s.failed ((a.error == 0) || is_ordinary a.error) clean is;
    }

entry_ends : (x : Bool) (s : Seen) (fd : ℕ) (is_link : Bool) (entry : Option Entry) → s.followed ≡ true
    → s.failed ≡ false → Goes (watch x) 3 s (by_entry fd is_link entry) (Ends (own_of is_link))
entry_ends x s fd is_link None follows clean = over tt
entry_ends x s fd is_link (Some e) follows clean = kernels x s fd is_link e follows clean

holders : (x : Bool) (s : Seen) (fd : ℕ) (is_link : Bool) (entry : Option Entry) → s.followed ≡ true → s.failed ≡ false
    → Goes (watch x) 4 s (by_holder fd is_link entry) (Ends (own_of is_link))
unfolding by_holder
holders x s fd is_link entry follows clean =
    let q = stats_file_system fd in
    asks_then 3 q tt
    (λ a. let k = keeps s q a refl in
    choose ((a.error == 0) && not (has_magic a.file_system))
    (λ is. texts x 2 (seen_by s q a) fd is_link
    (record { followed = k.followed follows; ordinary = or_right s.ordinary _ is; clean = k.clean clean }))
    (λ is. entry_ends x (seen_by s q a) fd is_link entry (k.followed follows) (k.clean clean)))

link-rules : (x : Bool) (fd : ℕ) (is_link : Bool) (entry : Option Entry)
    → Goes (watch x) 5 at_first (read_link_step fd is_link entry) (Ends (own_of is_link))
unfolding read_link_step
link-rules x fd is_link entry =
    let q = stats_file_system fd in
    asks_then 4 q tt
    (λ a. choose (not (a.error == 0)) (λ is. over tt)
    (λ is. choose (not (has_followed a.flags)) (λ no. over tt)
    (λ yes. holders x (seen_by at_first q a) fd is_link entry
    (and_both (a.error == 0) (has_followed a.flags) (positive (a.error == 0) is) (positive (has_followed a.flags) yes))
    ((keeps at_first q a refl).clean refl))))

-- ---- the law

pub steps-keep-rules : StepsKeepRules
steps-keep-rules = record {
  opens = λ dir name x. (open-rules x dir name).each;
  dups = λ dir x. (dup-rules x dir).each;
  parents = λ dir x. (parent-rules x dir).each;
  links = λ fd is_link entry x. (link-rules x fd is_link entry).each;
  theres = λ dir x. (weak 5 (omega arith) (theres x at_first dir) there-rules).each;
}
