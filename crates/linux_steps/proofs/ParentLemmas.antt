-- What is opened above a directory was the directory above.
use Rattle.std.proofs.Common.{◌≡◌, ◌≢◌, ◌≤◌, ◌<◌, ◌⊎◌, inl, inr, ℕ, zero, suc, ◌+◌, ◌-◌, List, [], ◌∷◌, Bool, true, false, if◌then◌else◌, not, Result, Ok, Err, refl, sym, ap, subst, ◌∙◌, arith}
use Rattle.std.specs.Prelude.{◌==◌, ◌&&◌, ◌||◌, Option, Some, None, is_some}
use Rattle.std.specs.Option.{option_map}
use Rattle.std.proofs.lemmas.Bool.{eqb-true, false≢true}
use Rattle.std.proofs.lemmas.Option.{same_Some}
use Rattle.path_text.specs.declared.errno.Errno.TheVariants.{NotFound}
use Rattle.system_calls.specs.Errors.{EINTR, ENOENT}
use Rattle.tree_model.specs.declared.answer.Answer.TheVariants as answers
use Rattle.tree_model.specs.declared.inode.Inode.{Inode}
use Rattle.tree_model.specs.declared.inode.Place.{Place}
use Rattle.tree_model.specs.declared.inode.Object.TheVariants as object
use Rattle.tree_model.specs.declared.step.Kind.TheVariants as kind
use Rattle.tree_model.specs.declared.step.StepOf.TheVariants.{Parent}
use Rattle.tree_model.specs.State.{TOP, is_gone, object_at, parent, place_at}
use Rattle.tree_model.specs.Steps.{outcome}
use Rattle.dialogue.specs.Dialogue.{and_then, calling, ends, open_above, open_same, reads_entries, stats, stats_file_system}
use Rattle.dialogue.specs.declared.calls.Answer.{Answer}
use Rattle.linux_steps.specs.Linux.{IsAbove, IsDirectory, IsGone, IsLinux, IsThere, Linux, ReadSays, moment_behind}
use Rattle.linux_steps.specs.Promises.{Answered, At, OneLess, OneMore, ParentStood, ParentsStood, ThereStood, ThereTold, Unchanged, WasAbove}
use Rattle.linux_steps.specs.Steps.{above_missing, above_opened, above_there, by_entries, by_file_system, by_path, by_read, closing, entries_opened, file_system_told, keeps_links, links_told, look_error, opening, parent_step, there, to_read}
use Rattle.linux_steps.specs.declared.ended.Ended.TheVariants.{Opened, Refused, Unmade}
use Rattle.linux_steps.specs.declared.ended.There.{There}
use Rattle.linux_steps.specs.declared.ended.There.TheVariants.{Yes, No, Unknown, Fails}
use Rattle.linux_steps.proofs.Moments.{Answers, Failed, Holds, Tried, answered_later, back, both, both_by, called, choose, end, fails_at, lets_go, looked, looks_well, negative, not_zero, one_more, positive, stays, stays_open, still, tries, unchanged}
use Rattle.linux_steps.proofs.Moments.{Opened as HasOpened}

-- ---- what stays

gone_by : (x : Linux) (n d k : ℕ) → IsLinux x → IsDirectory x n d → IsGone x n d → IsGone x (k + n) d
gone_by x n d zero linux is gone =
    let e : n ≡ 0 + n = omega arith in
    subst (λ i. IsGone x i d) e gone
gone_by x n d (suc k) linux is gone =
    let e : suc (k + n) ≡ suc k + n = omega arith in
    let by : n ≤ k + n = omega arith in
    subst (λ i. IsGone x i d) e
    (linux.gone (k + n) d (stays x n (k + n) d object.Dir linux by is) (gone_by x n d k linux is gone))

gone_stays : (x : Linux) (n now d : ℕ) → IsLinux x → n ≤ now → IsDirectory x n d → IsGone x n d → IsGone x now d
gone_stays x n now d linux by is gone =
    let e : (now - n) + n ≡ now = omega (arith, by) in
    subst (λ i. IsGone x i d) e (gone_by x n d (now - n) linux is gone)

-- ---- whether it is there

abbrev TellsThere : Linux → ℕ → ℕ → ℕ → There → Type 0
TellsThere x m now d Yes = At IsThere x m now d
TellsThere x m now d No = At IsGone x m now d
TellsThere x m now d Unknown = x.asks ≡ false
TellsThere x m now d (Fails error) = Unit {0}

abbrev ThereSo : Linux → ℕ → ℕ → ℕ → There → Type 0
ThereSo x m now d t = (m ≤ now) × Unchanged x m now × TellsThere x m now d t

-- nobody could be asked
not_told : (asks a b c : Bool) → (asks ≡ true → (a || (b || c)) ≡ true) → a ≡ false → b ≡ false → c ≡ false
    → asks ≡ false
not_told false a b c told e1 e2 e3 = refl
not_told true false false false told e1 e2 e3 = absurd (false≢true (told refl))
not_told true true b c told e1 e2 e3 = absurd (false≢true (sym e1))
not_told true false true c told e1 e2 e3 = absurd (false≢true (sym e2))
not_told true false false true told e1 e2 e3 = absurd (false≢true (sym e3))

no_type : (asks a b : Bool) → (asks ≡ true → (a || b) ≡ true) → a ≡ false → b ≡ false → asks ≡ false
no_type false a b told e1 e2 = refl
no_type true false false told e1 e2 = absurd (false≢true (told refl))
no_type true true b told e1 e2 = absurd (false≢true (sym e1))
no_type true false true told e1 e2 = absurd (false≢true (sym e2))

not_zero_is : (n : ℕ) (b : Bool) → (n == 0) ≡ b → n ≢ 0 → b ≡ false
not_zero_is n true is some = absurd (some (eqb-true n 0 is))
not_zero_is n false is some = refl

read_so : (x : Linux) (m n now d error : ℕ) (b c : Bool) → (error == 0) ≡ b → (error == ENOENT) ≡ c → m < n → n ≤ now
    → (x.asks ≡ true → ((error == 0) || ((error == EINTR) || (error == ENOENT))) ≡ true) → (error == EINTR) ≡ false
    → ReadSays x n d error → TellsThere x m now d (if b then Yes else (if c then No else Unknown))
read_so x m n now d error true c is two after by told heard says = record { n = n; after = after; by = by; is = says.there (eqb-true error 0 is) }
read_so x m n now d error false true is two after by told heard says = record { n = n; after = after; by = by; is = says.gone (eqb-true error ENOENT two) }
read_so x m n now d error false false is two after by told heard says =
    not_told x.asks (error == 0) (error == EINTR) (error == ENOENT) told is heard two

reads : (x : Linux) (m m1 d fd : ℕ) → m ≤ m1 → OneMore x m m1 fd d
    → Holds x m1 (entries_opened (Ok fd)) (λ now t. ThereSo x m now d t)
reads x m m1 d fd before one =
    both x m1 (calling (reads_entries fd)) (λ a. and_then (closing fd) (λ u. ends (by_read a.error)))
    (λ now a. Answers x m1 now (reads_entries fd) a) (λ now t. ThereSo x m now d t) (called x m1 (reads_entries fd))
    (λ now a h. let says = h.says.tells d (h.same fd ∙ one.is_on) in
    let open_still = still x m m1 now fd d one (looked x m1 h.n now fd h.is h.same h.says) in
    both x now (closing fd) (λ u. ends (by_read a.error)) (λ last u. OneLess x now last fd)
    (λ now t. ThereSo x m now d t) (lets_go x now fd)
    (λ last u c. end x last (by_read a.error) (λ now t. ThereSo x m now d t) (
      omega (arith, before, h.is, h.after, c.by),
      back x m now last fd d open_still c,
      read_so x m (suc h.n) last d a.error (a.error == 0) (a.error == ENOENT) refl refl (omega (arith, before, h.after))
          (omega (arith, h.is, c.by)) h.told h.heard says,
    )))

entries_failed : (x : Linux) (m now dir error : ℕ) → Failed x m now (open_same dir to_read) error → Unchanged x m now
entries_failed x m now dir error h =
    fails_at x m h.by.n now error h.answer h.by.is h.by.same h.fails h.some h.by.says.failed

entries_fail : (x : Linux) (m m1 now dir d error : ℕ) (b : Bool) → (error == ENOENT) ≡ b → m ≤ m1 → Unchanged x m m1
    → x.on m dir ≡ Some d → Failed x m1 now (open_same dir to_read) error
    → ThereSo x m now d (if b then No else Unknown)
entries_fail x m m1 now dir d error true is before same on h = (
  omega (arith, before, h.by.is, h.by.after),
  unchanged x m m1 now same (entries_failed x m1 now dir error h),
  record {
    n = suc h.by.n;
    after = omega (arith, before, h.by.after);
    by = omega (arith, h.by.is);
    is = h.by.says.missing (h.fails ∙ eqb-true error ENOENT is) refl d (h.by.same dir ∙ same dir ∙ on);
  },
)
entries_fail x m m1 now dir d error false is before same on h = (
  omega (arith, before, h.by.is, h.by.after),
  unchanged x m m1 now same (entries_failed x m1 now dir error h),
  not_told x.asks (h.answer.error == 0) (h.answer.error == EINTR) (h.answer.error == ENOENT) h.by.told
      (not_zero_is h.answer.error (h.answer.error == 0) refl (λ none. h.some (sym h.fails ∙ none))) h.by.heard
      (ap (λ n. n == ENOENT) h.fails ∙ is),
)

entries_end : (x : Linux) (m m1 now dir d : ℕ) (r : Result ℕ ℕ) → m ≤ m1 → Unchanged x m m1 → x.on m dir ≡ Some d
    → Tried x m1 (open_same dir to_read) now r → Holds x now (entries_opened r) (λ now t. ThereSo x m now d t)
entries_end x m m1 now dir d (Ok fd) before same on h =
    let n = h.by.n in
    let all = unchanged x m m1 n same h.by.same in
    let o = h.by.says.opened h.works in
    let is : o.node ≡ d = same_Some o.node d (sym o.finds ∙ all dir ∙ on) in
    let one = one_more x m n now h.answer.value to_read h.by.is all o in
    reads x m now d fd (omega (arith, before, h.by.is, h.by.after))
    (subst (λ k. OneMore x m now k d) h.value (subst (λ y. OneMore x m now h.answer.value y) is one))
entries_end x m m1 now dir d (Err error) before same on h =
    end x now (if error == ENOENT then No else Unknown) (λ now t. ThereSo x m now d t)
    (entries_fail x m m1 now dir d error (error == ENOENT) refl before same on h)

by_entries_so : (x : Linux) (m m1 dir d : ℕ) → m ≤ m1 → Unchanged x m m1 → x.on m dir ≡ Some d
    → Holds x m1 (by_entries dir) (λ now t. ThereSo x m now d t)
unfolding by_entries
by_entries_so x m m1 dir d before same on =
    both x m1 (opening (open_same dir to_read)) entries_opened (Tried x m1 (open_same dir to_read))
    (λ now t. ThereSo x m now d t) (tries x m1 (open_same dir to_read))
    (λ now r h. entries_end x m m1 now dir d r before same on h)

-- of a file system that keeps no links their number is enough
other_type : (x : Linux) (m now d : ℕ) → x.layered d ≡ false → (x.layered d ≡ true) ⊎ At IsThere x m now d
    → At IsThere x m now d
other_type x m now d is (inl layers) = absurd (false≢true (sym is ∙ layers))
other_type x m now d is (inr t) = t

at_later : (x : Linux) (m m1 now d : ℕ) → m1 ≤ now → (x.layered d ≡ true) ⊎ At IsThere x m m1 d
    → (x.layered d ≡ true) ⊎ At IsThere x m now d
at_later x m m1 now d by (inl layers) = inl layers
at_later x m m1 now d by (inr t) = inr (record { n = t.n; after = t.after; by = omega (arith, t.by, by); is = t.is })

file_system_end : (x : Linux) (m m1 now dir d : ℕ) (a : Answer) → m ≤ m1 → Unchanged x m m1 → x.on m dir ≡ Some d
    → (x.layered d ≡ true) ⊎ At IsThere x m m1 d → Answers x m1 now (stats_file_system dir) a
    → Holds x now (file_system_told dir a) (λ now t. ThereSo x m now d t)
file_system_end x m m1 now dir d a before same on known h =
    let all = unchanged x m m1 now same (looked x m1 h.n now dir h.is h.same h.says) in
    let on_time : m ≤ now = omega (arith, before, h.is, h.after) in
    choose x now (not (a.error == 0)) (ends Unknown) _ (λ now t. ThereSo x m now d t)
    (λ is. end x now Unknown (λ now t. ThereSo x m now d t)
    (on_time, all, no_type x.asks (a.error == 0) (a.error == EINTR) h.told (negative (a.error == 0) is) h.heard))
    (λ is. choose x now (not (keeps_links a.file_system)) (ends Yes) (by_entries dir) (λ now t. ThereSo x m now d t)
    (λ type. end x now Yes (λ now t. ThereSo x m now d t) (
      on_time,
      all,
      other_type x m now d
          (h.says.tells d (h.same dir ∙ same dir ∙ on) (eqb-true a.error 0 (positive (a.error == 0) is)) (negative (keeps_links a.file_system) type))
          (at_later x m m1 now d (omega (arith, h.is, h.after)) known),
    ))
    (λ type. by_entries_so x m now dir d (omega (arith, before, h.is, h.after)) all on))

by_file_system_so : (x : Linux) (m m1 dir d : ℕ) → m ≤ m1 → Unchanged x m m1 → x.on m dir ≡ Some d
    → (x.layered d ≡ true) ⊎ At IsThere x m m1 d → Holds x m1 (by_file_system dir) (λ now t. ThereSo x m now d t)
unfolding by_file_system
by_file_system_so x m m1 dir d before same on known =
    both x m1 (calling (stats_file_system dir)) (file_system_told dir) (λ now a. Answers x m1 now (stats_file_system dir) a)
    (λ now t. ThereSo x m now d t) (called x m1 (stats_file_system dir))
    (λ now a h. file_system_end x m m1 now dir d a before same on known h)

there_now : (x : Linux) (m n now d : ℕ) → m < n → n ≤ now → (x.layered d ≡ true) ⊎ IsThere x n d
    → (x.layered d ≡ true) ⊎ At IsThere x m now d
there_now x m n now d after by (inl layers) = inl layers
there_now x m n now d after by (inr t) = inr (record { n = n; after = after; by = by; is = t })

links_end : (x : Linux) (m n0 now dir d : ℕ) (a : Answer) → IsLinux x → n0 ≤ m → IsDirectory x n0 d → x.on m dir ≡ Some d
    → Answers x m now (stats dir) a → Holds x now (links_told dir a) (λ now t. ThereSo x m now d t)
links_end x m n0 now dir d a linux before directory on h =
    let same = looked x m h.n now dir h.is h.same h.says in
    let on_time : m ≤ now = omega (arith, h.is, h.after) in
    let error = look_error a in
    choose x now (not (error == 0)) (ends (Fails error)) _ (λ now t. ThereSo x m now d t)
    (λ is. end x now (Fails error) (λ now t. ThereSo x m now d t) (on_time, same, tt))
    (λ is. let says = h.says.tells d (h.same dir ∙ on) (looks_well a (eqb-true error 0 (positive (error == 0) is))) in
    let dir_now = stays x n0 (suc h.n) d object.Dir linux (omega (arith, before, h.after)) directory in
    let what = same_Some says.what object.Dir (sym says.is ∙ dir_now) in
    choose x now (a.links == 0) (ends No) (by_file_system dir) (λ now t. ThereSo x m now d t)
    (λ none. end x now No (λ now t. ThereSo x m now d t) (
      on_time,
      same,
      record {
        n = suc h.n;
        after = omega (arith, h.after);
        by = omega (arith, h.is);
        is = says.none what (eqb-true a.links 0 none);
      },
    ))
    (λ some. by_file_system_so x m now dir d (omega (arith, h.is, h.after)) same on
    (there_now x m (suc h.n) now d (omega (arith, h.after)) (omega (arith, h.is)) (says.some what (not_zero a.links some)))))

there_so : (x : Linux) (m n0 dir d : ℕ) → IsLinux x → n0 ≤ m → IsDirectory x n0 d → x.on m dir ≡ Some d
    → Holds x m (there dir) (λ now t. ThereSo x m now d t)
unfolding there
there_so x m n0 dir d linux before directory on =
    both x m (calling (stats dir)) (links_told dir) (λ now a. Answers x m now (stats dir) a)
    (λ now t. ThereSo x m now d t) (called x m (stats dir))
    (λ now a h. links_end x m n0 now dir d a linux before directory on h)

told_so : (x : Linux) (m now d : ℕ) (t : There) → IsLinux x → IsDirectory x m d → TellsThere x m now d t
    → ThereTold x m now d t
told_so x m now d Yes linux directory h = h
told_so x m now d No linux directory h =
    gone_stays x h.n now d linux h.by (stays x m h.n d object.Dir linux (omega (arith, h.after)) directory) h.is
told_so x m now d Unknown linux directory h = h
told_so x m now d (Fails error) linux directory h = tt

pub there-stood : ThereStood
there-stood x m dir d es t linux directory on says w =
    let h = there_so x m m dir d linux (omega arith) directory on es t says w in
    (h.1, told_so x m (moment_behind m es) d t linux directory h.2)

-- ---- the step table

table_opens : (nodes : List Inode) (d y : ℕ) → object_at nodes d ≡ Some object.Dir → parent nodes d ≡ Some y
    → object_at nodes y ≡ Some object.Dir
    → (outcome (record { nodes = nodes; handles = Some (record { actor = 0; node = d }) ∷ [] }) 0 (Parent 0)).answer
    ≡ answers.Opened 1 y kind.Dir
table_opens nodes d y e1 e2 e3 = simp (e1, e2, e3)

table_misses : (nodes : List Inode) (d : ℕ) → object_at nodes d ≡ Some object.Dir → parent nodes d ≡ None
    → (outcome (record { nodes = nodes; handles = Some (record { actor = 0; node = d }) ∷ [] }) 0 (Parent 0)).answer
    ≡ answers.Refused NotFound
table_misses nodes d e1 e2 = simp (e1, e2)

-- a directory that is gone stands nowhere
no_place : (place : Option Place) → is_some place ≡ false → option_map (λ (p : Place). p.parent) place ≡ None
no_place None is = refl
no_place (Some p) is = absurd (false≢true (sym is))

no_parent_by : (top some : Bool) (nodes : List Inode) (d : ℕ) → (d == TOP) ≡ top → is_some (place_at nodes d) ≡ some
    → (not top && not some) ≡ true → parent nodes d ≡ None
no_parent_by true some nodes d at is g = absurd (false≢true g)
no_parent_by false true nodes d at is g = absurd (false≢true g)
no_parent_by false false nodes d at is g = rw at (no_place (place_at nodes d) is)

no_parent : (nodes : List Inode) (d : ℕ) → is_gone nodes d ≡ true → parent nodes d ≡ None
no_parent nodes d g = no_parent_by (d == TOP) (is_some (place_at nodes d)) nodes d refl refl g

-- ---- Parent

removed : (x : Linux) (m m1 n0 now d : ℕ) → IsLinux x → m ≤ m1 → n0 ≤ m1 → IsDirectory x n0 d → At IsGone x m1 now d
    → Answered x m now d (Parent 0) (answers.Refused NotFound)
removed x m m1 n0 now d linux before early directory gone =
    let n = gone.n in (
      n,
      omega (arith, before, gone.after),
      gone.by,
      table_misses (x.nodes n) d (stays x n0 n d object.Dir linux (omega (arith, early, gone.after)) directory)
          (no_parent (x.nodes n) d gone.is),
    )

led : (x : Linux) (m n now d node : ℕ) → IsLinux x → m < n → n ≤ now → IsAbove x n node d → IsDirectory x n node
    → (later : At IsThere x n now d) → Answered x m now d (Parent 0) (answers.Opened 1 node kind.Dir)
led x m n now d node linux after by (directory, inl gone) is later =
    absurd (false≢true (sym later.is ∙ gone_stays x n later.n d linux (omega (arith, later.after)) directory gone))
led x m n now d node linux after by (directory, inr above) is later =
    (n, after, by, table_opens (x.nodes n) d node directory above is)

-- the moment at which it was opened, and the moment behind that call
at_from : (x : Linux) (n m1 now d : ℕ) → n ≤ m1 → At IsThere x m1 now d → At IsThere x n now d
at_from x n m1 now d by t = record { n = t.n; after = omega (arith, by, t.after); by = t.by; is = t.is }

above_there_end : (x : Linux) (m m1 now d : ℕ) (fd : ℕ) (t : There) → IsLinux x → (a : WasAbove x m m1 d fd)
    → ThereSo x m1 now d t → Holds x now (above_there fd t) (λ now end. ParentStood x m now d end)
above_there_end x m m1 now d fd Yes linux a h =
    end x now (Opened fd kind.Dir) (λ now end. ParentStood x m now d end)
    (inl (record {
      node = a.node;
      one = still x m m1 now fd a.node a.one h.1;
      stood = led x m a.n now d a.node linux a.after (omega (arith, a.by, h.0)) a.above a.is (at_from x a.n m1 now d a.by h.2);
    }))
above_there_end x m m1 now d fd Unknown linux a h =
    end x now (Opened fd kind.Dir) (λ now end. ParentStood x m now d end)
    (inr (
      h.2,
      refl,
      record {
        node = a.node;
        one = still x m m1 now fd a.node a.one h.1;
        n = a.n;
        after = a.after;
        by = omega (arith, a.by, h.0);
        above = a.above;
        is = a.is;
      },
    ))
above_there_end x m m1 now d fd No linux a h =
    both_by x now (closing fd) (λ u. ends (Refused NotFound)) (λ last u. OneLess x now last fd)
    (λ now end. ParentStood x m now d end) (lets_go x now fd)
    (λ last u by c. end x last (Refused NotFound) (λ now end. ParentStood x m now d end) (
      back x m now last fd a.node (still x m m1 now fd a.node a.one h.1) c,
      answered_later x m now last d (Parent 0) (answers.Refused NotFound) by
          (removed x m m1 a.n now d linux (omega (arith, a.after, a.by)) a.by a.above.0 h.2),
    ))
above_there_end x m m1 now d fd (Fails error) linux a h =
    both x now (closing fd) (λ u. ends (Unmade error)) (λ last u. OneLess x now last fd)
    (λ now end. ParentStood x m now d end) (lets_go x now fd)
    (λ last u c. end x last (Unmade error) (λ now end. ParentStood x m now d end)
    (back x m now last fd a.node (still x m m1 now fd a.node a.one h.1) c))

above_missing_end : (x : Linux) (m m1 n0 now d : ℕ) (t : There) → IsLinux x → m ≤ m1 → n0 ≤ m1 → IsDirectory x n0 d
    → Unchanged x m m1 → ThereSo x m1 now d t → ParentStood x m now d (above_missing t)
above_missing_end x m m1 n0 now d No linux before early directory same h =
    (unchanged x m m1 now same h.1, removed x m m1 n0 now d linux before early directory h.2)
above_missing_end x m m1 n0 now d Yes linux before early directory same h = unchanged x m m1 now same h.1
above_missing_end x m m1 n0 now d Unknown linux before early directory same h = unchanged x m m1 now same h.1
above_missing_end x m m1 n0 now d (Fails error) linux before early directory same h = unchanged x m m1 now same h.1

above_failed : (x : Linux) (m now dir error : ℕ) (no_xdev : Bool)
    → Failed x m now (open_above dir (by_path true no_xdev)) error → Unchanged x m now
above_failed x m now dir error no_xdev h =
    fails_at x m h.by.n now error h.answer h.by.is h.by.same h.fails h.some h.by.says.failed

was_above : (x : Linux) (m now dir d fd : ℕ) (no_xdev : Bool) → x.on m dir ≡ Some d
    → HasOpened x m now (open_above dir (by_path true no_xdev)) fd → WasAbove x m now d fd
was_above x m now dir d fd no_xdev on h =
    let n = h.by.n in
    let o = h.by.says.opened h.works in
    let is = o.is ∙ ap Some (o.directory refl) in
    subst (λ k. WasAbove x m now d k) h.value
    (record {
      node = o.node;
      one = one_more x m n now h.answer.value (by_path true no_xdev) h.by.is h.by.same o;
      n = suc n;
      after = omega (arith, h.by.after);
      by = omega (arith, h.by.is);
      above = o.finds d (h.by.same dir ∙ on);
      is = is;
    })

above_end : (x : Linux) (m now dir d : ℕ) (no_xdev : Bool) (r : Result ℕ ℕ) → IsLinux x → x.on m dir ≡ Some d
    → Tried x m (open_above dir (by_path true no_xdev)) now r
    → Holds x now (above_opened dir r) (λ now end. ParentStood x m now d end)
above_end x m now dir d no_xdev (Ok fd) linux on h =
    let a = was_above x m now dir d fd no_xdev on h in
    both x now (there dir) (above_there fd) (λ last t. ThereSo x now last d t) (λ now end. ParentStood x m now d end)
    (there_so x now a.n dir d linux a.by a.above.0 (stays_open x m now dir d fd a.node on a.one))
    (λ last t k. above_there_end x m now last d fd t linux a k)
above_end x m now dir d no_xdev (Err error) linux on h =
    choose x now (error == ENOENT) (and_then (there dir) (λ t. ends (above_missing t))) (ends (Unmade error))
    (λ now end. ParentStood x m now d end)
    (λ is. let same = above_failed x m now dir error no_xdev h in
    let directory = h.by.says.missing (h.fails ∙ eqb-true error ENOENT is) d (h.by.same dir ∙ on) in
    both x now (there dir) (λ t. ends (above_missing t)) (λ last t. ThereSo x now last d t)
    (λ now end. ParentStood x m now d end)
    (there_so x now (suc h.by.n) dir d linux (omega (arith, h.by.is)) directory (same dir ∙ on))
    (λ last t k. end x last (above_missing t) (λ now end. ParentStood x m now d end)
    (above_missing_end x m now (suc h.by.n) last d t linux (omega (arith, h.by.is, h.by.after)) (omega (arith, h.by.is))
    directory same k)))
    (λ is. end x now (Unmade error) (λ now end. ParentStood x m now d end) (above_failed x m now dir error no_xdev h))

pub parents : (x : Linux) (m dir d : ℕ) (no_xdev : Bool) → IsLinux x → x.on m dir ≡ Some d
    → Holds x m (parent_step dir no_xdev) (λ now end. ParentStood x m now d end)
unfolding parent_step
parents x m dir d no_xdev linux on =
    let q = open_above dir (by_path true no_xdev) in
    both x m (opening q) (above_opened dir) (Tried x m q) (λ now end. ParentStood x m now d end)
    (tries x m q) (λ now r h. above_end x m now dir d no_xdev r linux on h)

pub parents-stood : ParentsStood
parents-stood x m dir d no_xdev es end linux on says w = parents x m dir d no_xdev linux on es end says w
