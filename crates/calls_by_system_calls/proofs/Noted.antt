-- Which exchanges a conversation of kernel_calls has, signals left out.
use Rattle.std.proofs.Common.{◌≡◌, ◌⊎◌, inl, inr, ℕ, ◌+◌, List, [], ◌∷◌, ◌++◌, Bool, true, false, not, ◌&&◌, ◌||◌, if◌then◌else◌, Result, Ok, Err, refl, sym, ap, subst, ◌∙◌, true≢false, arith}
use Rattle.std.specs.Prelude.{◌==◌, nat_lt, length, bit_or, Option, Some, None}
use Rattle.std.proofs.lemmas.Bool.{eqb-true}
use Rattle.std.proofs.lemmas.List.{append-nil, append_assoc}
use Rattle.path_text.specs.Text.{begins_with_slash, is_empty}
use Rattle.path_text.specs.declared.path.TheConstants.{TEXT_MAX}
use Rattle.system_calls.specs.Errors.{EINTR, ENOENT}
use Rattle.system_calls.specs.Objects.{kind_of}
use Rattle.system_calls.specs.OpenFlags.{O_CLOEXEC, O_PATH}
use Rattle.dialogue.specs.Dialogue.{Dialogue, Exchange, SystemCall, again, and_then, calling, closes, ends, knows, look_up, open_path, stats, Whole, without_signals}
use Rattle.dialogue.specs.Holds.{AllMay, Watch, state_after}
use Rattle.dialogue.specs.declared.calls.Answer.{Answer}
use Rattle.dialogue.proofs.HoldLemmas.{Goes, asks_then, both, choose, exchange, over, weak}
use Rattle.find_proc.specs.declared.asks.Known.{Known}
use Rattle.linux_steps.specs.Steps.{look_error}
use Rattle.kernel_walks.specs.AtOnce.{misses_at_once}
use Rattle.kernel_calls.specs.Calls.{Ended, Left, behind_of, change_entry, change_in, changing, ended, from_by, is_plain, is_steps, left, not_renamed, plain_told, rename, rename_from, rename_in, rename_to, renaming, resolve, resolve_by, with_kind}
use Rattle.kernel_calls.specs.Change.{Changing, given, is_made, made_by, make, make_by, make_change, question_of}
use Rattle.kernel_calls.specs.Entry.{EntryAt, directory_at, directory_by, find_directory, leave, own_of}
use Rattle.kernel_calls.specs.Flags.{BENEATH, MAKE_LINK, OPEN, bit, has, resolve_of}
use Rattle.kernel_calls.specs.InProc.{gives}
use Rattle.kernel_calls.specs.Look.{Came, came_to, forget, is_filtered, is_missing, look_up as looking_up, may_walk, missing_by, missing_told, opened, walk, walk_by, walk_failed}
use Rattle.kernel_calls.specs.Path.{At, place_in, text_in}
use Rattle.kernel_calls.specs.Promises.{IsReply}
use Rattle.kernel_calls.specs.declared.change.Wanted.{Wanted}
use Rattle.kernel_calls.specs.declared.entry.Dir.{Dir}
use Rattle.kernel_calls.specs.declared.look.Outcome.{Outcome}
use Rattle.kernel_calls.specs.declared.look.Outcome.TheVariants.{Value, Fails, FailsAt, Steps}

-- each exchange is noted
abbrev noted : Watch (List Exchange)
noted = record { by = λ s x. s ++ x ∷ []; May = λ s q. Unit {0} }

all_noted : (s xs : List Exchange) → state_after noted s xs ≡ s ++ xs
all_noted s [] = sym (append-nil s)
all_noted s (x ∷ xs) = all_noted (s ++ x ∷ []) xs ∙ append_assoc s (x ∷ []) xs

-- at most so many exchanges come, and they are these
abbrev pub Comes : {E : Type 0} → ℕ → Dialogue E → (List Exchange → E → Type 0) → Type 0
Comes n m Post = Goes noted n [] m Post

any_may : (s xs : List Exchange) → AllMay noted s xs
any_may s [] = tt
any_may s (x ∷ xs) = (tt, any_may (s ++ x ∷ []) xs)

-- behind others
shifted : {E : Type 0} {m : Dialogue E} {Post : List Exchange → E → Type 0} (n : ℕ) (s : List Exchange)
    → Comes n m (λ xs. Post (s ++ xs)) → Goes noted n s m Post
shifted {E} {m} {Post} n s h = record {
  each = λ es e whole.
      let r = h.each es e whole in
      record {
        few = r.few;
        fair = any_may s (without_signals es);
        ends = subst (λ xs. Post xs e)
            (ap (λ xs. s ++ xs) (all_noted [] (without_signals es)) ∙ sym (all_noted s (without_signals es))) r.ends;
      };
}

-- one part after another
parts : {E F : Type 0} {m : Dialogue E} {f : E → Dialogue F} {Mid : List Exchange → E → Type 0}
    {Post : List Exchange → F → Type 0} (n k : ℕ) → Comes n m Mid
    → ((xs : List Exchange) (e : E) → Mid xs e → Comes k (f e) (λ ys. Post (xs ++ ys)))
    → Comes (n + k) (and_then m f) Post
parts n k h g = both n k h (λ xs e mid. shifted k xs (g xs e mid))

asked_then : {F : Type 0} {f : Answer → Dialogue F} {Post : List Exchange → F → Type 0} (k : ℕ) (q : SystemCall)
    → ((a : Answer) → Comes k (f a) (λ ys. Post (exchange q a ∷ ys))) → Comes (1 + k) (and_then (calling q) f) Post
asked_then k q g = asks_then k q tt (λ a. shifted k (exchange q a ∷ []) (g a))

of_whole : {E : Type 0} {m : Dialogue E} {Post : List Exchange → E → Type 0} (n : ℕ) → Comes n m Post
    → (es : List Exchange) (e : E) → Whole m es e → Post (without_signals es) e
of_whole {E} {m} {Post} n h es e whole =
    subst (λ xs. Post xs e) (all_noted [] (without_signals es)) (h.each es e whole).ends

-- ---- a look-up

forgets : (k : Known) (error : ℕ) → Comes 1 (forget k error) (λ xs now. is_filtered error ≡ false → xs ≡ [])
unfolding forget
forgets k error =
    choose (is_filtered error)
    (λ yes. choose k.has_floor
    (λ _. asked_then 0 (knows false) (λ a. over (λ none. absurd (true≢false (sym yes ∙ none)))))
    (λ _. over (λ none. refl)))
    (λ _. over (λ none. refl))

-- it was answered by this descriptor
abbrev pub GotBy : SystemCall → List Exchange → ℕ → Type 0
GotBy q xs fd = (a : Answer) × (xs ≡ exchange q a ∷ []) × (a.error ≡ 0) × (a.value ≡ fd)

-- what is known stays; or the error is the look-up's, or 0 where the kernel may not walk the path
abbrev Got : SystemCall → Known → List Exchange → Known → Result ℕ ℕ → Type 0
Got q k xs now (Ok fd) = GotBy q xs fd × (now ≡ k)
Got q k xs now (Err error) =
    ((a : Answer) × (a.error ≡ error) × (is_filtered error ≡ false → xs ≡ exchange q a ∷ [])) ⊎ (error ≡ 0)

opens : (k : Known) (q : SystemCall) → Comes 2 (opened k q) (λ xs c. Got q k xs c.known c.value)
unfolding opened
opens k q =
    asked_then 1 q
    (λ a. choose (a.error == 0) (λ none. over ((a, refl, eqb-true a.error 0 none, refl), refl))
    (λ _. parts 1 0 (forgets k a.error)
    (λ xs now is. over (inl (a, refl, λ no. ap (λ ys. exchange q a ∷ (ys ++ [])) (is no))))))

-- the look-up that asks whether a name is missing
abbrev pub seeks_missing : At → SystemCall
seeks_missing at = look_up at.root (text_in at.slashed) O_PATH (bit_or (resolve_of at.flags) 4)

abbrev pub may_miss : At → Bool
may_miss at = misses_at_once (has at.flags BENEATH) (text_in at.slashed) (place_in at.slashed)

-- it found one missing
abbrev Missed : At → List Exchange → Bool → Type 0
Missed at xs b = b ≡ true
    → (a : Answer) × (xs ≡ exchange (seeks_missing at) a ∷ []) × (a.error ≡ ENOENT) × (may_miss at ≡ true)

missed : (k now : Known) (at : At) (xs : List Exchange) (r : Result ℕ ℕ) → may_miss at ≡ true
    → Got (seeks_missing at) k xs now r → Comes 1 (missing_by now r) (λ ys c. Missed at (xs ++ ys) c.value)
missed k now at xs (Ok fd) may h = asked_then 0 (closes fd) (λ a. over (λ yes. absurd (true≢false (sym yes))))
missed k now at xs (Err error) may (inl h) =
    over (λ yes.
    let e = eqb-true error ENOENT yes in
    (h.0, ap (λ ys. ys ++ []) (h.2 (ap is_filtered e)), h.1 ∙ e, may))
missed k now at xs (Err error) may (inr none) =
    over (λ yes. absurd (true≢false (sym yes ∙ ap (λ n. n == ENOENT) none)))

misses : (k : Known) (at : At) → Comes 3 (is_missing k at) (λ xs c. Missed at xs c.value)
unfolding is_missing
misses k at = by_case (may_miss at) refl
  where
    by_case : (b : Bool) → may_miss at ≡ b
        → Comes 3 (if not b then ends (came_to k false) else and_then (opened k (seeks_missing at)) missing_told)
        (λ xs c. Missed at xs c.value)
    by_case false may = over (λ yes. absurd (true≢false (sym yes)))
    by_case true may = parts 2 1 (opens k (seeks_missing at)) (λ xs c h. missed k c.known at xs c.value may h)

-- It failed: a signal came; or a name was missing, by two look-ups.
pub data Failed (q : SystemCall) (at : At) (xs : List Exchange) (error : ℕ) : Type 0 where
  by_signal : (a : Answer) → xs ≡ exchange q a ∷ [] → a.error ≡ EINTR → Failed q at xs error
  by_missing : (a b : Answer) → xs ≡ exchange q a ∷ exchange (seeks_missing at) b ∷ [] → a.error ≡ ENOENT
      → b.error ≡ ENOENT → may_miss at ≡ true → error ≡ ENOENT → Failed q at xs error

-- so the call ends without a change
abbrev pub Unfound : SystemCall → At → List Exchange → Outcome → Type 0
Unfound q at xs (Value value) = ⊥
Unfound q at xs (Fails error step) = Failed q at xs error
Unfound q at xs (FailsAt error step) = ⊥
Unfound q at xs Steps = Unit {0}

abbrev Walked : SystemCall → Known → At → List Exchange → Known → Result ℕ Outcome → Type 0
Walked q k at xs now (Ok fd) = GotBy q xs fd × (now ≡ k)
Walked q k at xs now (Err why) = Unfound q at xs why

missing_so : (q : SystemCall) (at : At) (a : Answer) (xs ys : List Exchange) (b : Bool) → xs ≡ exchange q a ∷ []
    → a.error ≡ ENOENT → Missed at ys b → Unfound q at (xs ++ (ys ++ [])) (if b then Fails ENOENT OPEN else Steps)
missing_so q at a xs ys true is enoent h =
    let m = h refl in
    by_missing a m.0 (ap (λ zs. zs ++ (ys ++ [])) is ∙ ap (λ zs. exchange q a ∷ (zs ++ [])) m.1) enoent m.2 m.3 refl
missing_so q at a xs ys false is enoent h = tt

walk_fails : (k now : Known) (at : At) (q : SystemCall) (xs : List Exchange) (error : ℕ) → Got q k xs now (Err error)
    → Comes 3 (walk_failed at now error) (λ ys c. Walked q k at (xs ++ ys) c.known c.value)
walk_fails k now at q xs error (inl h) =
    choose (error == EINTR)
    (λ is.
    let e = eqb-true error EINTR is in
    over (by_signal h.0 (ap (λ ys. ys ++ []) (h.2 (ap is_filtered e))) (h.1 ∙ e)))
    (λ _. choose (error == ENOENT)
    (λ is.
    let e = eqb-true error ENOENT is in
    parts 3 0 (misses now at) (λ ys c m. over (missing_so q at h.0 xs ys c.value (h.2 (ap is_filtered e)) (h.1 ∙ e) m)))
    (λ _. over tt))
walk_fails k now at q xs error (inr none) =
    choose (error == EINTR) (λ is. absurd (true≢false (sym is ∙ ap (λ n. n == EINTR) none)))
    (λ _. choose (error == ENOENT) (λ is. absurd (true≢false (sym is ∙ ap (λ n. n == ENOENT) none))) (λ _. over tt))

walked_by : (k now : Known) (at : At) (q : SystemCall) (xs : List Exchange) (r : Result ℕ ℕ) → Got q k xs now r
    → Comes 3 (walk_by at now r) (λ ys c. Walked q k at (xs ++ ys) c.known c.value)
walked_by k now at q xs (Ok fd) h = over ((h.0.0, ap (λ ys. ys ++ []) h.0.1, h.0.2, h.0.3), h.1)
walked_by k now at q xs (Err error) h = walk_fails k now at q xs error h

-- by O_PATH
abbrev pub seeks : At → List ℕ → ℕ → SystemCall
seeks at path how = look_up at.root (text_in path) how (resolve_of at.flags)

looks : (k : Known) (at : At) (how : ℕ) → has how O_PATH ≡ true
    → Comes 2 (looking_up k at how 0) (λ xs c. Got (seeks at at.slashed how) k xs c.known c.value)
unfolding looking_up
looks k at how path =
    choose (not at.looked && not (may_walk at)) (λ _. over (inr refl))
    (λ _. subst
    (λ b. Comes 2 (opened k (if b then seeks at at.slashed how
    else open_path at.root (text_in at.slashed) (bit_or how O_CLOEXEC) 0 (resolve_of at.flags)))
    (λ xs c. Got (seeks at at.slashed how) k xs c.known c.value)) (sym path)
    (opens k (seeks at at.slashed how)))

walks : (k : Known) (at : At) (how : ℕ) → has how O_PATH ≡ true
    → Comes 5 (walk k at how 0) (λ xs c. Walked (seeks at at.slashed how) k at xs c.known c.value)
unfolding walk
walks k at how path =
    parts 2 3 (looks k at how path) (λ xs c h. walked_by k c.known at (seeks at at.slashed how) xs c.value h)

-- ---- the directory of an entry

abbrev pub way : Known → ℕ
way k = bit_or O_PATH k.machine.directory

-- a slash at the beginning leads out
abbrev pub is_out : At → Bool
is_out at = has at.flags BENEATH && begins_with_slash (text_in at.slashed)

-- it is the root, without a system call; or its path was looked up
abbrev pub Directory : Known → At → Option (List ℕ) → List Exchange → Dir → Type 0
Directory k at None xs dir = (xs ≡ []) × (dir ≡ record { fd = at.root; own = false }) × (is_out at ≡ false)
Directory k at (Some path) xs dir = GotBy (seeks at path (way k)) xs dir.fd × (dir.own ≡ true)

-- or it wasn't found
abbrev pub Lacks : Known → At → Option (List ℕ) → List Exchange → Outcome → Type 0
Lacks k at None xs why = why ≡ Steps
Lacks k at (Some path) xs why = Unfound (seeks at path (way k)) (record at { slashed = path }) xs why

by_steps : (k : Known) (at : At) (above : Option (List ℕ)) (xs : List Exchange) → Lacks k at above xs Steps
by_steps k at None xs = refl
by_steps k at (Some path) xs = tt

abbrev Found : Known → At → Option (List ℕ) → List Exchange → Known → Result Dir Outcome → Type 0
Found k at above xs now (Ok dir) = Directory k at above xs dir × (now ≡ k)
Found k at above xs now (Err why) = Lacks k at above xs why

found_by : (k now : Known) (at : At) (path : List ℕ) (xs : List Exchange) (r : Result ℕ Outcome)
    → Walked (seeks at path (way k)) k (record at { slashed = path }) xs now r
    → Found k at (Some path) (xs ++ []) (directory_by now r).known (directory_by now r).value
found_by k now at path xs (Ok fd) h = (((h.0.0, ap (λ ys. ys ++ []) h.0.1, h.0.2, h.0.3), refl), h.1)
found_by k now at path xs (Err why) h =
    subst (λ ys. Unfound (seeks at path (way k)) (record at { slashed = path }) ys why) (sym (append-nil xs)) h

found_at : (k : Known) (at : At) (above : Option (List ℕ)) → has (way k) O_PATH ≡ true → is_out at ≡ false
    → Comes 5 (directory_at k at above) (λ xs c. Found k at above xs c.known c.value)
found_at k at None path inside = over ((refl, refl, inside), refl)
found_at k at (Some slashed) path inside =
    parts 5 0 (walks k (record at { slashed = slashed }) (way k) path)
    (λ xs c h. over (found_by k c.known at slashed xs c.value h))

finds : (k : Known) (at : At) (above : Option (List ℕ)) → has (way k) O_PATH ≡ true
    → Comes 5 (find_directory k at above) (λ xs c. Found k at above xs c.known c.value)
unfolding find_directory
finds k at above path =
    choose (is_out at) (λ _. over (by_steps k at above [])) (λ inside. found_at k at above path inside)

-- ---- the change

-- the outcome is that of the change's answer
abbrev pub IsOutcome : ℕ → Outcome → Type 0
IsOutcome error (Value value) = error ≡ 0
IsOutcome error (FailsAt why step) = why ≡ error
IsOutcome error other = ⊥

pub record Changed (w : Wanted) (c : Changing) (xs : List Exchange) (outcome : Outcome) : Type 0 where
  pub nofollow : ℕ
  pub answer : Answer
  pub all : xs ≡ exchange (question_of w c nofollow) answer ∷ []
  pub is : IsOutcome answer.error outcome

not_given : (k : Known) (w : Wanted) (c : Changing) (made : Option ℕ) (read : List ℕ) (error : ℕ) → w.gives ≡ false
    → error ≡ 0 → Comes 0 (given k w c made read) (λ xs o. (xs ≡ []) × IsOutcome error o.value)
unfolding given
not_given k w c made read error none done =
    choose (not w.gives) (λ _. over (refl, done)) (λ yes. absurd (true≢false (sym (ap not none) ∙ yes)))

record Answered (w : Wanted) (c : Changing) (xs : List Exchange) (r : Result ℕ ℕ) : Type 0 where
  nofollow : ℕ
  answer : Answer
  all : xs ≡ exchange (question_of w c nofollow) answer ∷ []
  is : r ≡ (if answer.error == 0 then Ok answer.value else Err answer.error)

made_so : (k : Known) (w : Wanted) (c : Changing) → w.linked ≡ false
    → Comes 1 (make k w c) (λ xs r. Answered w c xs r.value)
unfolding make gives
made_so k w c unlinked =
    choose (w.linked && is_made c.step)
    (λ yes. absurd (true≢false (sym yes ∙ ap (λ b. b && is_made c.step) unlinked)))
    (λ _. parts {Mid = Answered w c} 1 0
    (asked_then 0 (question_of w c k.machine.nofollow)
    (λ a. over (record { nofollow = k.machine.nofollow; answer = a; all = refl; is = refl })))
    (λ xs r h. over (record { nofollow = h.nofollow; answer = h.answer; all = ap (λ ys. ys ++ []) h.all; is = h.is })))

by_answer : (k : Known) (w : Wanted) (c : Changing) (read : List ℕ) (xs : List Exchange) (r : Result ℕ ℕ) (b : Bool)
    (h : Answered w c xs r) → w.gives ≡ false → h.answer.error == 0 ≡ b
    → r ≡ (if b then Ok h.answer.value else Err h.answer.error)
    → Comes 0 (make_by w c read k r) (λ ys o. Changed w c (xs ++ ys) o.value)
by_answer k w c read xs r true h none zero is =
    subst (λ x. Comes 0 (make_by w c read k x) (λ ys o. Changed w c (xs ++ ys) o.value)) (sym is)
    (weak 0 (omega arith)
    (not_given k w c (made_by w c.step h.answer.value) read h.answer.error none (eqb-true h.answer.error 0 zero))
    (λ ys o g. record {
      nofollow = h.nofollow;
      answer = h.answer;
      all = ap (λ zs. xs ++ zs) g.0 ∙ ap (λ zs. zs ++ []) h.all;
      is = g.1;
    }))
by_answer k w c read xs r false h none zero is =
    subst (λ x. Comes 0 (make_by w c read k x) (λ ys o. Changed w c (xs ++ ys) o.value)) (sym is)
    (over (record { nofollow = h.nofollow; answer = h.answer; all = ap (λ zs. zs ++ []) h.all; is = refl }))

changes : (k : Known) (w : Wanted) (c : Changing) (read : List ℕ) → w.linked ≡ false → w.gives ≡ false
    → Comes 1 (make_change k w c read) (λ xs o. Changed w c xs o.value)
unfolding make_change
changes k w c read unlinked none =
    parts 1 0 (made_so k w c unlinked)
    (λ xs r h. by_answer r.known w c read xs r.value (h.answer.error == 0) h none refl h.is)

-- ---- the directory is closed

abbrev pub Closed : Bool → ℕ → List Exchange → Type 0
Closed true fd xs = (a : Answer) × (xs ≡ exchange (closes fd) a ∷ [])
Closed false fd xs = xs ≡ []

abbrev over_so : Dialogue (Unit {0})
over_so = ends tt

leaves_by : (fd : ℕ) (b : Bool)
    → Comes 1 (if b then and_then (calling (closes fd)) (λ _. over_so) else over_so) (λ xs _. Closed b fd xs)
leaves_by fd true = asked_then 0 (closes fd) (λ a. over (a, refl))
leaves_by fd false = over refl

leaves : (dir : Dir) (is_behind : Bool)
    → Comes 1 (leave dir is_behind) (λ xs _. Closed (dir.own && not is_behind) dir.fd xs)
unfolding leave
leaves dir is_behind = leaves_by dir.fd (dir.own && not is_behind)

-- ---- in a directory

-- The directory was found; what was done there; and its close, before the call's end or behind that.
pub record Within (k : Known) (at : At) (above : Option (List ℕ))
    (Inner : Dir → List Exchange → List ℕ → Outcome → Type 0) (s : List Exchange) (fds : List ℕ)
    (outcome : Outcome) : Type 0 where
  pub dir : Dir
  pub first : List Exchange
  pub mid : List Exchange
  pub last : List Exchange
  pub all : s ≡ first ++ (mid ++ last)
  pub finds : Directory k at above first dir
  pub behind : List ℕ
  pub inner : Inner dir mid behind outcome
  pub is_last : Bool
  pub at_once : is_last ≡ false → behind ≡ []
  pub closed : Closed (dir.own && not is_last) dir.fd last
  pub closes : fds ≡ behind ++ behind_of is_last (own_of dir)

-- or it wasn't, and the call ends without a change
abbrev pub Enters : Known → At → Option (List ℕ) → (Dir → List Exchange → List ℕ → Outcome → Type 0)
    → List Exchange → List ℕ → Outcome → Type 0
Enters k at above Inner s fds outcome = (Lacks k at above s outcome × (fds ≡ [])) ⊎ Within k at above Inner s fds outcome

-- ---- an entry is made or removed

abbrev pub MakesIn : EntryAt → Wanted → ℕ → List ℕ → Dir → List Exchange → List ℕ → Outcome → Type 0
MakesIn entry w step text dir xs fds outcome =
    Changed w (changing step dir.fd entry.name text) xs outcome × (fds ≡ [])

plain : (k : Known) (gives : Bool) (step : ℕ) (text : List ℕ) → gives ≡ false
    → Comes 0 (is_plain k gives step text) (λ xs is. xs ≡ [])
unfolding is_plain
plain k gives step text none =
    choose ((step == MAKE_LINK) && (is_empty text || nat_lt TEXT_MAX (length text))) (λ _. over refl)
    (λ _. choose (not gives) (λ _. over refl) (λ yes. absurd (true≢false (sym (ap not none) ∙ yes))))

module _ (k : Known) (at : At) (entry : EntryAt) (w : Wanted) (step : ℕ) (text read : List ℕ) (is_last : Bool)
    (unlinked : w.linked ≡ false) (none : w.gives ≡ false) (path : has (way k) O_PATH ≡ true) where
  abbrev Shape : List Exchange → Ended → Type 0
  Shape s e = Enters k at entry.above (MakesIn entry w step text) s e.closes e.outcome

  changed_in : (now : Known) (xs : List Exchange) (r : Result Dir Outcome) → Found k at entry.above xs now r
      → Comes 2 (change_in entry w step text read is_last now r) (λ ys. Shape (xs ++ ys))
  changed_in now xs (Err why) h =
      over (inl (subst (λ s. Lacks k at entry.above s why) (sym (append-nil xs)) h, refl))
  changed_in now xs (Ok dir) h =
      parts 1 1 (changes now w (changing step dir.fd entry.name text) read unlinked none)
      (λ ys c changed. parts 1 0 (leaves dir is_last)
      (λ zs _ left. over
      (inr (record {
        dir = dir;
        first = xs;
        mid = ys;
        last = zs;
        all = ap (λ l. xs ++ (ys ++ l)) (append-nil zs);
        finds = h.0;
        behind = [];
        inner = (changed, refl);
        is_last = is_last;
        at_once = λ _. refl;
        closed = left;
        closes = refl;
      }))))

  pub shaped : (es : List Exchange) (e : Ended) → Whole (change_entry k at entry w step text read is_last) es e
      → Shape (without_signals es) e
  unfolding change_entry
  shaped =
      of_whole {Post = λ s (e : Ended). Shape s e} 7
      (parts 0 7 (plain k w.gives step text none)
      (λ xs is nothing. subst
      (λ s. Comes 7 (plain_told k at entry w step text read is_last is) (λ ys. Shape (s ++ ys))) (sym nothing)
      (choose (not is) (λ _. over (inl (by_steps k at entry.above [], refl)))
      (λ _. parts 5 2 (finds k at entry.above path) (λ ys c h. changed_in c.known ys c.value h)))))

-- ---- an entry is renamed

-- in the old entry's directory the new one's is entered
abbrev pub RenamesIn : Known → EntryAt → At → EntryAt → Wanted → Dir → List Exchange → List ℕ → Outcome → Type 0
RenamesIn k entry other new w from =
    Enters k other new.above
    (λ to xs fds outcome. Changed w (renaming from entry.name to new.name) xs outcome × (fds ≡ []))

both_behind : (b : Bool) (xs ys : List ℕ) → behind_of b (xs ++ ys) ≡ behind_of b xs ++ behind_of b ys
both_behind true xs ys = refl
both_behind false xs ys = refl

module _ (k : Known) (at : At) (entry : EntryAt) (other : At) (new : EntryAt) (w : Wanted) (is_last : Bool)
    (unlinked : w.linked ≡ false) (none : w.gives ≡ false) (path : has (way k) O_PATH ≡ true) where
  abbrev Ends : List Exchange → Ended → Type 0
  Ends s e = Enters k at entry.above (RenamesIn k entry other new w) s e.closes e.outcome

  unfound : (now : Known) (from : Dir) (xs ys : List Exchange) (why : Outcome) → Directory k at entry.above xs from
      → Lacks k other new.above ys why
      → Comes 1 (and_then (not_renamed from why is_last) (λ l. ends (ended now l.closes l.outcome)))
      (λ zs. Ends (xs ++ (ys ++ zs)))
  unfolding not_renamed
  unfound now from xs ys why f h =
      let last = is_last && not (is_steps why) in
      parts {Mid = λ zs (l : Left). Closed (from.own && not last) from.fd zs × (l ≡ left (behind_of last (own_of from)) why)}
      1 0 (parts 1 0 (leaves from last) (λ zs _ closed. over
      (subst (Closed (from.own && not last) from.fd) (sym (append-nil zs)) closed, refl)))
      (λ zs l is. over
      (inr (record {
        dir = from;
        first = xs;
        mid = ys;
        last = zs;
        all = ap (λ z. xs ++ (ys ++ z)) (append-nil zs);
        finds = f;
        behind = [];
        inner = inl (subst (Lacks k other new.above ys) (ap (λ (m : Left). m.outcome) (sym is.1)) h, refl);
        is_last = last;
        at_once = λ _. refl;
        closed = is.0;
        closes = ap (λ (m : Left). m.closes) is.1;
      })))

  renamed_to : (now : Known) (from : Dir) (xs ys : List Exchange) (r : Result Dir Outcome)
      → Directory k at entry.above xs from → Found k other new.above ys now r
      → Comes 3 (rename_to w from entry.name new.name is_last now r) (λ zs. Ends (xs ++ (ys ++ zs)))
  unfolding rename_in
  renamed_to now from xs ys (Err why) f h = weak 1 (omega arith) (unfound now from xs ys why f h) (λ zs e x. x)
  renamed_to now from xs ys (Ok to) f h =
      parts 1 2 (changes now w (renaming from entry.name to new.name) [] unlinked none)
      (λ zs c changed. parts 1 1 (leaves to is_last)
      (λ us _ left_new. parts 1 0 (leaves from is_last)
      (λ vs _ left_old. over
      (inr (record {
        dir = from;
        first = xs;
        mid = ys ++ (zs ++ us);
        last = vs;
        all = ap (λ l. xs ++ l) (ap (λ l. ys ++ (zs ++ (us ++ l))) (append-nil vs)
            ∙ ap (λ l. ys ++ l) (sym (append_assoc zs us vs)) ∙ sym (append_assoc ys (zs ++ us) vs));
        finds = f;
        behind = behind_of is_last (own_of to);
        inner = inr (record {
          dir = to;
          first = ys;
          mid = zs;
          last = us;
          all = refl;
          finds = h.0;
          behind = [];
          inner = (changed, refl);
          is_last = is_last;
          at_once = λ _. refl;
          closed = left_new;
          closes = refl;
        });
        is_last = is_last;
        at_once = λ no. ap (λ b. behind_of b (own_of to)) no;
        closed = left_old;
        closes = both_behind is_last (own_of to) (own_of from);
      })))))

  renamed_from : (now : Known) (xs : List Exchange) (r : Result Dir Outcome) → Found k at entry.above xs now r
      → Comes 8 (from_by w entry.name other new is_last now r) (λ ys. Ends (xs ++ ys))
  unfolding rename_from
  renamed_from now xs (Err why) h =
      over (inl (subst (λ s. Lacks k at entry.above s why) (sym (append-nil xs)) h, refl))
  renamed_from now xs (Ok from) h =
      subst (λ n. Comes 8 (from_by w entry.name other new is_last n (Ok from)) (λ ys. Ends (xs ++ ys))) (sym h.1)
      (parts 5 3 (finds k other new.above path) (λ ys c g. renamed_to c.known from xs ys c.value h.0 g))

  pub renamed : (es : List Exchange) (e : Ended) → Whole (rename k at entry other new w is_last) es e
      → Ends (without_signals es) e
  unfolding rename
  renamed =
      of_whole {Post = λ s (e : Ended). Ends s e} 13
      (parts 5 8 (finds k at entry.above path) (λ xs c h. renamed_from c.known xs c.value h))

-- ---- what a path means

abbrev pub Behind : Bool → ℕ → List Exchange → Type 0
Behind true fd xs = (a : Answer) × (xs ≡ exchange (stats fd) a ∷ [])
Behind false fd xs = xs ≡ []

-- the look-up of the whole path, and the question for the kind
pub record Opens (at : At) (how : ℕ) (asks : Bool) (s : List Exchange) (value : ℕ) : Type 0 where
  pub fd : ℕ
  pub first : List Exchange
  pub last : List Exchange
  pub all : s ≡ first ++ last
  pub got : GotBy (seeks at at.slashed how) first fd
  pub behind : Behind asks fd last
  pub is_reply : IsReply asks fd value

abbrev pub ResolveShape : At → ℕ → Bool → List Exchange → Outcome → Type 0
ResolveShape at how asks s (Value value) = Opens at how asks s value
ResolveShape at how asks s (Fails error step) = Failed (seeks at at.slashed how) at s error
ResolveShape at how asks s (FailsAt error step) = ⊥
ResolveShape at how asks s Steps = Unit {0}

-- by flags of open(2)
abbrev pub how_of : Known → Bool → Bool → ℕ
how_of k follows directory =
    bit_or (bit_or O_PATH (bit (not follows) k.machine.nofollow)) (bit directory k.machine.directory)

told_kind : (at : At) (how fd : ℕ) (xs : List Exchange) → GotBy (seeks at at.slashed how) xs fd
    → Comes 2 (with_kind fd) (λ ys. ResolveShape at how true (xs ++ ys))
unfolding with_kind
told_kind at how fd xs h =
    asked_then 1 (stats fd)
    (λ a. choose (not (look_error a == 0)) (λ _. asked_then 0 (closes fd) (λ b. over tt))
    (λ _. over (record {
      fd = fd;
      first = xs;
      last = exchange (stats fd) a ∷ [];
      all = refl;
      got = h;
      behind = (a, refl);
      is_reply = (kind_of a.mode, refl);
    })))

unfound_told : (at : At) (how : ℕ) (asks : Bool) (xs : List Exchange) (o : Outcome)
    → Unfound (seeks at at.slashed how) at xs o → ResolveShape at how asks xs o
unfound_told at how asks xs (Value value) u = absurd u
unfound_told at how asks xs (Fails error step) u = u
unfound_told at how asks xs (FailsAt error step) u = u
unfound_told at how asks xs Steps u = u

told_asked : (k now : Known) (at : At) (how : ℕ) (asks : Bool) (xs : List Exchange) (r : Result ℕ Outcome)
    → Walked (seeks at at.slashed how) k at xs now r
    → Comes 2 (resolve_by asks now r) (λ ys c. ResolveShape at how asks (xs ++ ys) c.value)
told_asked k now at how asks xs (Err why) h =
    over (subst (λ s. ResolveShape at how asks s why) (sym (append-nil xs)) (unfound_told at how asks xs why h))
told_asked k now at how true xs (Ok fd) h =
    parts 2 0 (told_kind at how fd xs h.0)
    (λ ys o is. over (subst (λ s. ResolveShape at how true (xs ++ s) o) (sym (append-nil ys)) is))
told_asked k now at how false xs (Ok fd) h =
    over (record { fd = fd; first = xs; last = []; all = refl; got = h.0; behind = refl; is_reply = refl })

pub resolved : (k : Known) (at : At) (follows directory asks : Bool) → has (how_of k follows directory) O_PATH ≡ true
    → (es : List Exchange) (c : Came Outcome) → Whole (resolve k at follows directory asks) es c
    → ResolveShape at (how_of k follows directory) asks (without_signals es) c.value
unfolding resolve
resolved k at follows directory asks path =
    let how = how_of k follows directory in
    of_whole {Post = λ s (c : Came Outcome). ResolveShape at how asks s c.value} 7
    (parts 5 2 (walks k at how path) (λ xs c h. told_asked k c.known at how asks xs c.value h))

-- ---- signals are left out

abbrev pub NoSignals : List Exchange → Type 0
NoSignals [] = Unit {0}
NoSignals (x ∷ xs) = (again x.asked x.answer ≡ false) × NoSignals xs

unsignalled : (x : Exchange) (es : List Exchange) (b : Bool) → again x.asked x.answer ≡ b
    → NoSignals (without_signals es) → NoSignals (if b then without_signals es else x ∷ without_signals es)
unsignalled x es true is rest = rest
unsignalled x es false is rest = (is, rest)

pub no_signals : (es : List Exchange) → NoSignals (without_signals es)
no_signals [] = tt
no_signals (x ∷ es) = unsignalled x es (again x.asked x.answer) refl (no_signals es)
