-- What holds behind each part of a dialogue, by what its answers say.
use Rattle.std.proofs.Common.{◌≡◌, ◌≢◌, ◌≤◌, ℕ, zero, suc, ◌+◌, ◌-◌, List, [], ◌∷◌, ◌++◌, Bool, true, false, if◌then◌else◌, not, Result, Ok, Err, refl, sym, ap, subst, ◌∙◌, arith}
use Rattle.std.specs.Prelude.{◌==◌, ◌&&◌, bit_and, Option, Some, None}
use Rattle.std.proofs.lemmas.Bool.{eqb-true, false≢true}
use Rattle.system_calls.specs.Errors.{EINTR, ENOSYS}
use Rattle.tree_model.specs.declared.inode.Object.{Object}
use Rattle.tree_model.specs.State.{object_at}
use Rattle.tree_model.specs.StepWith.{StepWith}
use Rattle.tree_model.specs.declared.answer.Answer.{Answer as StepAnswer}
use Rattle.dialogue.specs.Dialogue.{Dialogue, Exchange, SystemCall, Talks, Whole, again, and_then, asking, asks, calling, closes, ends, open_above, open_name, open_same, reads_entries, reads_link, stats, stats_file_system, copies_proc, look_up, opens, O_PATH, reads_object_link, reads_thread, stats_name}
use Rattle.dialogue.specs.declared.calls.Answer.{Answer}
use Rattle.dialogue.specs.declared.calls.How.{How}
use Rattle.dialogue.proofs.PartLemmas.{parts, same_end}
use Rattle.linux_steps.specs.Linux.{AreAnswers, IsLinux, IsTold, Linux, Looks, Opens, Same, Says, moment_behind}
use Rattle.linux_steps.specs.Promises.{Answered, OneLess, OneMore, Unchanged}
use Rattle.linux_steps.specs.Steps.{closing, look_error, opening, tried}

-- ---- rules

-- From moment m on: whatever its answers say, this holds behind it, of the moment and of what it came to.
abbrev pub Holds : {E : Type 0} → Linux → ℕ → Dialogue E → (ℕ → E → Type 0) → Type 0
Holds {E} x m s Post = (es : List Exchange) (e : E) → AreAnswers x m es → Whole s es e → Post (moment_behind m es) e

pub end : {E : Type 0} (x : Linux) (m : ℕ) (e : E) (Post : ℕ → E → Type 0) → Post m e → Holds x m (ends e) Post
unfolding Talks
end x m e Post h [] r says w = subst (Post m) (same_end e r w) h
end x m e Post h (y ∷ ys) r says w = absurd w

moment_both : (m : ℕ) (xs ys : List Exchange) → moment_behind m (xs ++ ys) ≡ moment_behind (moment_behind m xs) ys
moment_both m [] ys = refl
moment_both m (x ∷ xs) ys = moment_both (suc m) xs ys

answers_apart : (x : Linux) (m : ℕ) (xs ys : List Exchange) → AreAnswers x m (xs ++ ys)
    → AreAnswers x m xs × AreAnswers x (moment_behind m xs) ys
answers_apart x m [] ys h = (tt, h)
answers_apart x m (e ∷ xs) ys h = let k = answers_apart x (suc m) xs ys h.2 in ((h.0, h.1, k.0), k.1)

moment_on : (m : ℕ) (es : List Exchange) → m ≤ moment_behind m es
moment_on m [] = omega arith
moment_on m (e ∷ es) = let k = moment_on (suc m) es in omega (arith, k)

pub both_by : {E F : Type 0} (x : Linux) (m : ℕ) (s : Dialogue E) (f : E → Dialogue F) (Mid : ℕ → E → Type 0)
    (Post : ℕ → F → Type 0) → Holds x m s Mid
    → ((now : ℕ) (e : E) → m ≤ now → Mid now e → Holds x now (f e) Post) → Holds x m (and_then s f) Post
both_by x m s f Mid Post h k es r says w =
    let p = parts s f es r w in
    let a = answers_apart x m p.first p.second (subst (AreAnswers x m) p.all says) in
    subst (λ n. Post n r) (sym (ap (moment_behind m) p.all ∙ moment_both m p.first p.second))
    (k (moment_behind m p.first) p.value (moment_on m p.first) (h p.first p.value a.0 p.came) p.second r a.1 p.goes)

pub both : {E F : Type 0} (x : Linux) (m : ℕ) (s : Dialogue E) (f : E → Dialogue F) (Mid : ℕ → E → Type 0)
    (Post : ℕ → F → Type 0) → Holds x m s Mid → ((now : ℕ) (e : E) → Mid now e → Holds x now (f e) Post)
    → Holds x m (and_then s f) Post
both x m s f Mid Post h k = both_by x m s f Mid Post h (λ now e by mid. k now e mid)

pub choose : {E : Type 0} (x : Linux) (m : ℕ) (b : Bool) (s t : Dialogue E) (Post : ℕ → E → Type 0)
    → (b ≡ true → Holds x m s Post) → (b ≡ false → Holds x m t Post) → Holds x m (if b then s else t) Post
choose x m true s t Post h k = h refl
choose x m false s t Post h k = k refl

-- ---- one system call

-- its last answer is of the moment behind n; before came signals alone
pub record Answers (x : Linux) (m now : ℕ) (q : SystemCall) (a : Answer) : Type 0 where
  pub n : ℕ
  pub after : m ≤ n
  pub is : now ≡ suc n
  pub same : Unchanged x m n
  pub says : Says x n q a
  pub told : IsTold x q a
  pub heard : again q a ≡ false

pub not_zero : (n : ℕ) → (n == 0) ≡ false → n ≢ 0
not_zero n is same = absurd (grind (arith, is, same))

pub differs : (n k : ℕ) → (n == k) ≡ false → n ≢ k
differs n k is same = absurd (grind (arith, is, same))

pub positive : (b : Bool) → not b ≡ false → b ≡ true
positive true is = refl
positive false is = absurd (false≢true (sym is))

pub negative : (b : Bool) → not b ≡ true → b ≡ false
negative true is = absurd (false≢true is)
negative false is = refl

signal_fails : (n : ℕ) → (n == EINTR) ≡ true → n ≢ 0
signal_fails n is same = let e = eqb-true n EINTR is in absurd (omega (arith, e, same))

and_right : (b c : Bool) → (b && c) ≡ true → c ≡ true
and_right true c is = is
and_right false c is = absurd (false≢true is)

signal_same : (x : Linux) (n : ℕ) (q : SystemCall) (a : Answer) → again q a ≡ true → Says x n q a → Same x n
signal_same x n (open_name dir name how) a is says = says.failed (signal_fails a.error is)
signal_same x n (open_same dir how) a is says = says.failed (signal_fails a.error is)
signal_same x n (open_above dir how) a is says = says.failed (signal_fails a.error is)
signal_same x n (stats fd) a is says = says.same
signal_same x n (stats_file_system fd) a is says = says.same
signal_same x n (reads_entries fd) a is says = says.same
signal_same x n (reads_link fd) a is says = says.same
signal_same x n (look_up dir path flags resolve) a is says = says (signal_fails a.error is)
signal_same x n (opens dir path flags mode) a is says = says (signal_fails a.error (and_right (bit_and flags O_PATH == O_PATH) (a.error == EINTR) is))
signal_same x n copies_proc a is says = says (signal_fails a.error is)
signal_same x n (stats_name dir name) a is says = says
signal_same x n (reads_object_link proc fd) a is says = says
signal_same x n (reads_thread proc) a is says = says
signal_same x n _ a is says = absurd (false≢true is)

abbrev Calls : SystemCall → Dialogue Answer
Calls q = asks q (λ a. ends a)

last : (x : Linux) (m : ℕ) (q : SystemCall) (e a : Answer) (es : List Exchange) → again q e ≡ false → Says x m q e
    → IsTold x q e
    → Talks (ends e) es (λ rest. rest ≡ ends a) → Answers x m (moment_behind (suc m) es) q a
unfolding Talks
last x m q e a [] heard says told w =
    let same = same_end e a w in
    record {
      n = m;
      after = omega arith;
      is = refl;
      same = λ fd. refl;
      says = subst (Says x m q) same says;
      told = subst (IsTold x q) same told;
      heard = subst (λ (p : Answer). again q p ≡ false) same heard;
    }
last x m q e a (y ∷ ys) heard says told w = absurd w

by_signal : (x : Linux) (m : ℕ) (q : SystemCall) (e a : Answer) (es : List Exchange) (b : Bool) → again q e ≡ b
    → Says x m q e → IsTold x q e → Talks (if b then Calls q else ends e) es (λ rest. rest ≡ ends a)
    → (Talks (Calls q) es (λ rest. rest ≡ ends a) → Answers x (suc m) (moment_behind (suc m) es) q a)
    → Answers x m (moment_behind (suc m) es) q a
by_signal x m q e a es true is says told w more =
    let k = more w in
    let same = signal_same x m q e is says in
    record {
      n = k.n;
      after = omega (arith, k.after);
      is = k.is;
      same = λ fd. k.same fd ∙ same fd;
      says = k.says;
      told = k.told;
      heard = k.heard;
    }
by_signal x m q e a es false is says told w more = last x m q e a es is says told w

called_by : (x : Linux) (q : SystemCall) (es : List Exchange) (m : ℕ) (a : Answer) → AreAnswers x m es
    → Talks (Calls q) es (λ rest. rest ≡ ends a) → Answers x m (moment_behind m es) q a
unfolding Talks
called_by x q [] m a says w = absurd cc
called_by x q (e ∷ es) m a says w =
    by_signal x m q e.answer a es (again q e.answer) refl
    (subst (λ p. Says x m p e.answer) w.0 says.0) (subst (λ p. IsTold x p e.answer) w.0 says.1) w.1
    (called_by x q es (suc m) a says.2)

pub called : (x : Linux) (m : ℕ) (q : SystemCall) → Holds x m (calling q) (λ now a. Answers x m now q a)
unfolding asking
called x m q es a says w = called_by x q es m a says w

-- ---- descriptors

pub unchanged : (x : Linux) (m n now : ℕ) → Unchanged x m n → Unchanged x n now → Unchanged x m now
unchanged x m n now h k fd = k fd ∙ h fd

pub looked : {Tells : ℕ → Type 0} (x : Linux) (m n now fd : ℕ) → now ≡ suc n → Unchanged x m n → Looks x n fd Tells
    → Unchanged x m now
looked x m n now fd is same looks = subst (Unchanged x m) (sym is) (λ other. looks.same other ∙ same other)

pub one_more : {Finds : ℕ → Type 0} (x : Linux) (m n now fd : ℕ) (how : How) → now ≡ suc n → Unchanged x m n
    → (o : Opens x n fd how Finds) → OneMore x m now fd o.node
one_more x m n now fd how is same o =
    subst (λ k. OneMore x m k fd o.node) (sym is)
    (record { free = sym (same fd) ∙ o.free; is_on = o.is_on; others = λ other ne. o.others other ne ∙ same other })

some_none : (y : ℕ) → ◌≡◌ {A = Option ℕ} (Some y) None → ⊥
some_none y h = cc

open_by : (x : Linux) (m now other y fd node : ℕ) (b : Bool) → (other == fd) ≡ b → x.on m other ≡ Some y
    → OneMore x m now fd node → x.on now other ≡ Some y
open_by x m now other y fd node true is on o =
    absurd (some_none y (sym on ∙ ap (x.on m) (eqb-true other fd is) ∙ o.free))
open_by x m now other y fd node false is on o = o.others other (differs other fd is) ∙ on

-- what was open stays so
pub stays_open : (x : Linux) (m now other y fd node : ℕ) → x.on m other ≡ Some y → OneMore x m now fd node
    → x.on now other ≡ Some y
stays_open x m now other y fd node on o = open_by x m now other y fd node (other == fd) refl on o

-- it stays open
pub still : (x : Linux) (m n now fd node : ℕ) → OneMore x m n fd node → Unchanged x n now → OneMore x m now fd node
still x m n now fd node o same =
    record { free = o.free; is_on = same fd ∙ o.is_on; others = λ other ne. same other ∙ o.others other ne }

back_by : (x : Linux) (m n now fd node other : ℕ) (b : Bool) → (other == fd) ≡ b → OneMore x m n fd node
    → OneLess x n now fd → x.on now other ≡ x.on m other
back_by x m n now fd node other true is o c =
    let same = eqb-true other fd is in
    subst (λ k. x.on now k ≡ x.on m k) (sym same) (c.closed ∙ sym o.free)
back_by x m n now fd node other false is o c =
    c.others other (differs other fd is) ∙ o.others other (differs other fd is)

-- what was opened is closed
pub back : (x : Linux) (m n now fd node : ℕ) → OneMore x m n fd node → OneLess x n now fd → Unchanged x m now
back x m n now fd node o c other = back_by x m n now fd node other (other == fd) refl o c

pub lets_go : (x : Linux) (m fd : ℕ) → Holds x m (closing fd) (λ now u. OneLess x m now fd)
unfolding closing
lets_go x m fd =
    both x m (calling (closes fd)) (λ a. ends tt) (λ now a. Answers x m now (closes fd) a) (λ now u. OneLess x m now fd)
    (called x m (closes fd))
    (λ now a h. end x now tt (λ now u. OneLess x m now fd)
    (subst (λ k. OneLess x m k fd) (sym h.is)
    (record { by = omega (arith, h.after); closed = h.says.closed; others = λ other ne. h.says.others other ne ∙ h.same other })))

-- ---- openat2(2)

pub record Opened (x : Linux) (m now : ℕ) (q : SystemCall) (fd : ℕ) : Type 0 where
  pub answer : Answer
  pub works : answer.error ≡ 0
  pub value : answer.value ≡ fd
  pub by : Answers x m now q answer

pub record Failed (x : Linux) (m now : ℕ) (q : SystemCall) (error : ℕ) : Type 0 where
  pub answer : Answer
  pub fails : answer.error ≡ error
  pub some : error ≢ 0
  pub by : Answers x m now q answer

abbrev pub Tried : Linux → ℕ → SystemCall → ℕ → Result ℕ ℕ → Type 0
Tried x m q now (Ok fd) = Opened x m now q fd
Tried x m q now (Err error) = Failed x m now q error

tried_so : (x : Linux) (m now : ℕ) (q : SystemCall) (a : Answer) (b : Bool) → (a.error == 0) ≡ b → Answers x m now q a
    → Tried x m q now (if b then Ok a.value else Err a.error)
tried_so x m now q a true is h = record { answer = a; works = eqb-true a.error 0 is; value = refl; by = h }
tried_so x m now q a false is h = record { answer = a; fails = refl; some = not_zero a.error is; by = h }

pub tries : (x : Linux) (m : ℕ) (q : SystemCall) → Holds x m (opening q) (Tried x m q)
unfolding opening
tries x m q =
    both x m (calling q) (λ a. ends (tried a)) (λ now a. Answers x m now q a) (Tried x m q) (called x m q)
    (λ now a h. end x now (tried a) (Tried x m q) (tried_so x m now q a (a.error == 0) refl h))

-- an openat2(2) that fails leaves each descriptor
pub fails_at : (x : Linux) (m n now error : ℕ) (a : Answer) → now ≡ suc n → Unchanged x m n → a.error ≡ error
    → error ≢ 0 → (a.error ≢ 0 → Same x n) → Unchanged x m now
fails_at x m n now error a is same fails some left =
    subst (Unchanged x m) (sym is) (λ fd. left (λ none. some (sym fails ∙ none)) fd ∙ same fd)

-- ---- statx(2)

pub looks_well : (a : Answer) → look_error a ≡ 0 → a.error ≡ 0
looks_well a is = by (a.error == 0) a.has_mount refl is
  where
    by : (b c : Bool) → (a.error == 0) ≡ b → (if b && not c then ENOSYS else a.error) ≡ 0 → a.error ≡ 0
    by true c e k = eqb-true a.error 0 e
    by false c e k = k

-- ---- what stays

stays_by : (x : Linux) (n y k : ℕ) (what : Object) → IsLinux x → object_at (x.nodes n) y ≡ Some what
    → object_at (x.nodes (k + n)) y ≡ Some what
stays_by x n y zero what linux is =
    let e : n ≡ 0 + n = omega arith in
    subst (λ i. object_at (x.nodes i) y ≡ Some what) e is
stays_by x n y (suc k) what linux is =
    let e : suc (k + n) ≡ suc k + n = omega arith in
    subst (λ i. object_at (x.nodes i) y ≡ Some what) e (linux.stays (k + n) y what (stays_by x n y k what linux is))

pub stays : (x : Linux) (n now y : ℕ) (what : Object) → IsLinux x → n ≤ now → object_at (x.nodes n) y ≡ Some what
    → object_at (x.nodes now) y ≡ Some what
stays x n now y what linux by is =
    let e : (now - n) + n ≡ now = omega (arith, by) in
    subst (λ i. object_at (x.nodes i) y ≡ Some what) e (stays_by x n y (now - n) what linux is)

pub answered_later : (x : Linux) (m now last d : ℕ) (step : StepWith ℕ) (answer : StepAnswer) → now ≤ last
    → Answered x m now d step answer → Answered x m last d step answer
answered_later x m now last d step answer by (n, after, before, is) = (n, after, omega (arith, before, by), is)
