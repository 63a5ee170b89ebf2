-- What is opened at a name was there.
use Rattle.std.proofs.Common.{◌≡◌, ◌≤◌, ◌<◌, ℕ, suc, List, [], ◌∷◌, Bool, true, false, if◌then◌else◌, Result, Ok, Err, refl, sym, ap, subst, ◌∙◌, arith}
use Rattle.std.specs.Prelude.{◌==◌, Some, None}
use Rattle.std.proofs.lemmas.Bool.{eqb-true}
use Rattle.std.proofs.lemmas.Option.{same_Some}
use Rattle.path_text.specs.declared.errno.Errno.TheVariants.{NotFound}
use Rattle.system_calls.specs.Errors.{ENOENT, ENOTDIR}
use Rattle.tree_model.specs.declared.answer.Answer.TheVariants as answers
use Rattle.tree_model.specs.declared.inode.Inode.{Inode}
use Rattle.tree_model.specs.declared.inode.Object.{Object}
use Rattle.tree_model.specs.declared.inode.Object.TheVariants as object
use Rattle.tree_model.specs.declared.step.Kind.{Kind}
use Rattle.tree_model.specs.declared.step.Kind.TheVariants as kind
use Rattle.tree_model.specs.declared.step.StepOf.TheVariants.{Open}
use Rattle.tree_model.specs.State.{child, object_at}
use Rattle.tree_model.specs.Steps.{kind_of, outcome}
use Rattle.dialogue.specs.Dialogue.{calling, ends, open_name, stats}
use Rattle.dialogue.specs.declared.calls.Answer.{Answer}
use Rattle.linux_steps.specs.Linux.{IsDirectory, IsLinux, Linux}
use Rattle.linux_steps.specs.Promises.{IsFound, OneLess, OneMore, OpenStood, OpensStood, Unchanged}
use Rattle.linux_steps.specs.Steps.{any_opened, by_kind, by_path, closing, directory_opened, kind_told, look_error, missing, open_any, open_step, opening, kind_by_mode}
use Rattle.linux_steps.specs.declared.ended.Ended.TheVariants.{Opened, Refused, Unmade}
use Rattle.linux_steps.proofs.Moments.{Answers, Failed, Holds, Tried, back, both, called, choose, end, lets_go, looked, looks_well, one_more, stays, still, tries, unchanged}
use Rattle.linux_steps.proofs.Moments.{Opened as HasOpened}

-- ---- the step table

table_opens : (nodes : List Inode) (d y : ℕ) (name : List ℕ) (what : Object) → object_at nodes d ≡ Some object.Dir
    → child nodes d name ≡ Some y → object_at nodes y ≡ Some what
    → (outcome (record { nodes = nodes; handles = Some (record { actor = 0; node = d }) ∷ [] }) 0 (Open 0 name)).answer
    ≡ answers.Opened 1 y (kind_of what)
table_opens nodes d y name what e1 e2 e3 = simp (e1, e2, e3)

table_misses : (nodes : List Inode) (d : ℕ) (name : List ℕ) → object_at nodes d ≡ Some object.Dir
    → child nodes d name ≡ None
    → (outcome (record { nodes = nodes; handles = Some (record { actor = 0; node = d }) ∷ [] }) 0 (Open 0 name)).answer
    ≡ answers.Refused NotFound
table_misses nodes d name e1 e2 = simp (e1, e2)

-- ---- what is known of what was opened

record Entered (x : Linux) (m now d : ℕ) (name : List ℕ) (fd : ℕ) : Type 0 where
  node : ℕ
  what : Object
  one : OneMore x m now fd node
  n : ℕ
  after : m < n
  by : n ≤ now
  directory : IsDirectory x n d
  entry : child (x.nodes n) d name ≡ Some node
  is : object_at (x.nodes n) node ≡ Some what

found : (x : Linux) (m now d : ℕ) (name : List ℕ) (fd : ℕ) (k : Kind) (e : Entered x m now d name fd)
    → k ≡ kind_of e.what → IsFound x m now d (Open 0 name) fd k
found x m now d name fd k e is =
    record {
      node = e.node;
      one = e.one;
      stood = (
        e.n,
        e.after,
        e.by,
        table_opens (x.nodes e.n) d e.node name e.what e.directory e.entry e.is
            ∙ ap (λ j. answers.Opened 1 e.node j) (sym is),
      );
    }

enters : (x : Linux) (m m1 now dir d : ℕ) (name : List ℕ) (directory no_xdev : Bool) (fd : ℕ) → m ≤ m1 → Unchanged x m m1
    → x.on m dir ≡ Some d → HasOpened x m1 now (open_name dir name (by_path directory no_xdev)) fd
    → Entered x m now d name fd
enters x m m1 now dir d name directory no_xdev fd before same on h =
    let n = h.by.n in
    let all = unchanged x m m1 n same h.by.same in
    let o = h.by.says.opened h.works in
    let entry = o.finds refl d (all dir ∙ on) in
    subst (λ k. Entered x m now d name k) h.value
    (record {
      node = o.node;
      what = o.what;
      one = one_more x m n now h.answer.value (by_path directory no_xdev) h.by.is all o;
      n = suc n;
      after = omega (arith, before, h.by.after);
      by = omega (arith, h.by.is);
      directory = entry.0;
      entry = entry.1;
      is = o.is;
    })

enters_directory : (x : Linux) (m now dir d : ℕ) (name : List ℕ) (no_xdev : Bool) (fd : ℕ) → x.on m dir ≡ Some d
    → HasOpened x m now (open_name dir name (by_path true no_xdev)) fd → IsFound x m now d (Open 0 name) fd kind.Dir
unfolding enters
enters_directory x m now dir d name no_xdev fd on h =
    let o = h.by.says.opened h.works in
    found x m now d name fd kind.Dir (enters x m m now dir d name true no_xdev fd (omega arith) (λ k. refl) on h)
    (ap kind_of (sym (o.directory refl)))

fails_so : (x : Linux) (m now : ℕ) (dir : ℕ) (name : List ℕ) (directory no_xdev : Bool) (error : ℕ)
    → Failed x m now (open_name dir name (by_path directory no_xdev)) error → Unchanged x m now
fails_so x m now dir name directory no_xdev error h =
    subst (Unchanged x m) (sym h.by.is)
    (λ fd. h.by.says.failed (λ none. h.some (sym h.fails ∙ none)) fd ∙ h.by.same fd)

misses : (x : Linux) (m m1 now dir d : ℕ) (name : List ℕ) (directory no_xdev : Bool) (error : ℕ) (b : Bool)
    → (error == ENOENT) ≡ b → m ≤ m1 → Unchanged x m m1 → x.on m dir ≡ Some d
    → Failed x m1 now (open_name dir name (by_path directory no_xdev)) error
    → OpenStood x m now d name (if b then Refused NotFound else Unmade error)
misses x m m1 now dir d name directory no_xdev error true is before same on h =
    let n = h.by.n in
    let none = h.by.says.missing (h.fails ∙ eqb-true error ENOENT is) refl d (h.by.same dir ∙ same dir ∙ on) in (
      unchanged x m m1 now same (fails_so x m1 now dir name directory no_xdev error h),
      (suc n, omega (arith, before, h.by.after), omega (arith, h.by.is), table_misses (x.nodes (suc n)) d name none.0 none.1),
    )
misses x m m1 now dir d name directory no_xdev error false is before same on h =
    unchanged x m m1 now same (fails_so x m1 now dir name directory no_xdev error h)

-- ---- each part

moved : (x : Linux) (m m1 now d : ℕ) (name : List ℕ) (fd : ℕ) (e : Entered x m m1 d name fd)
    → OneMore x m now fd e.node → e.n ≤ now → Entered x m now d name fd
moved x m m1 now d name fd e one by =
    record {
      node = e.node;
      what = e.what;
      one = one;
      n = e.n;
      after = e.after;
      by = by;
      directory = e.directory;
      entry = e.entry;
      is = e.is;
    }

kind_ends : (x : Linux) (m m1 now d : ℕ) (name : List ℕ) (fd : ℕ) (a : Answer) (e : Entered x m m1 d name fd)
    → IsLinux x → Answers x m1 now (stats fd) a
    → Holds x now (kind_told fd a) (λ now end. OpenStood x m now d name end)
unfolding moved
kind_ends x m m1 now d name fd a e linux h =
    let same = looked x m1 h.n now fd h.is h.same h.says in
    let one = still x m m1 now fd e.node e.one same in
    choose x now (look_error a == 0) (ends (Opened fd (kind_by_mode a.mode))) _ (λ now end. OpenStood x m now d name end)
    (λ is. let s = h.says.tells e.node (h.same fd ∙ e.one.is_on) (looks_well a (eqb-true (look_error a) 0 is)) in
    let was = stays x e.n (suc h.n) e.node e.what linux (omega (arith, e.by, h.after)) e.is in
    end x now (Opened fd (kind_by_mode a.mode)) (λ now end. OpenStood x m now d name end)
    (found x m now d name fd (kind_by_mode a.mode) (moved x m m1 now d name fd e one (omega (arith, e.by, h.after, h.is)))
    (s.kind ∙ ap kind_of (same_Some s.what e.what (sym s.is ∙ was)))))
    (λ is. both x now (closing fd) (λ u. ends (Unmade (look_error a))) (λ last u. OneLess x now last fd)
    (λ now end. OpenStood x m now d name end) (lets_go x now fd)
    (λ last u c. end x last (Unmade (look_error a)) (λ now end. OpenStood x m now d name end)
    (back x m now last fd e.node one c)))

looks_at_kind : (x : Linux) (m m1 d : ℕ) (name : List ℕ) (fd : ℕ) → IsLinux x → Entered x m m1 d name fd
    → Holds x m1 (by_kind fd) (λ now end. OpenStood x m now d name end)
unfolding by_kind
looks_at_kind x m m1 d name fd linux e =
    both x m1 (calling (stats fd)) (kind_told fd) (λ now a. Answers x m1 now (stats fd) a)
    (λ now end. OpenStood x m now d name end) (called x m1 (stats fd))
    (λ now a h. kind_ends x m m1 now d name fd a e linux h)

any_ends : (x : Linux) (m m1 now dir d : ℕ) (name : List ℕ) (no_xdev : Bool) (r : Result ℕ ℕ) → IsLinux x → m ≤ m1
    → Unchanged x m m1 → x.on m dir ≡ Some d → Tried x m1 (open_name dir name (by_path false no_xdev)) now r
    → Holds x now (any_opened r) (λ now end. OpenStood x m now d name end)
any_ends x m m1 now dir d name no_xdev (Ok fd) linux before same on h =
    looks_at_kind x m now d name fd linux (enters x m m1 now dir d name false no_xdev fd before same on h)
any_ends x m m1 now dir d name no_xdev (Err error) linux before same on h =
    end x now (missing error) (λ now end. OpenStood x m now d name end)
    (misses x m m1 now dir d name false no_xdev error (error == ENOENT) refl before same on h)

opens_any : (x : Linux) (m m1 dir d : ℕ) (name : List ℕ) (no_xdev : Bool) → IsLinux x → m ≤ m1 → Unchanged x m m1
    → x.on m dir ≡ Some d → Holds x m1 (open_any dir name no_xdev) (λ now end. OpenStood x m now d name end)
unfolding open_any
opens_any x m m1 dir d name no_xdev linux before same on =
    let q = open_name dir name (by_path false no_xdev) in
    both x m1 (opening q) any_opened (Tried x m1 q) (λ now end. OpenStood x m now d name end) (tries x m1 q)
    (λ now r h. any_ends x m m1 now dir d name no_xdev r linux before same on h)

directory_ends : (x : Linux) (m now dir d : ℕ) (name : List ℕ) (no_xdev : Bool) (r : Result ℕ ℕ) → IsLinux x
    → x.on m dir ≡ Some d → Tried x m (open_name dir name (by_path true no_xdev)) now r
    → Holds x now (directory_opened dir name no_xdev r) (λ now end. OpenStood x m now d name end)
directory_ends x m now dir d name no_xdev (Ok fd) linux on h =
    end x now (Opened fd kind.Dir) (λ now end. OpenStood x m now d name end)
    (enters_directory x m now dir d name no_xdev fd on h)
directory_ends x m now dir d name no_xdev (Err error) linux on h =
    choose x now (error == ENOTDIR) (open_any dir name no_xdev) (ends (missing error)) (λ now end. OpenStood x m now d name end)
    (λ is. opens_any x m now dir d name no_xdev linux (omega (arith, h.by.is, h.by.after))
    (fails_so x m now dir name true no_xdev error h) on)
    (λ is. end x now (missing error) (λ now end. OpenStood x m now d name end)
    (misses x m m now dir d name true no_xdev error (error == ENOENT) refl (omega arith) (λ fd. refl) on h))

pub opens : (x : Linux) (m dir d : ℕ) (name : List ℕ) (no_xdev : Bool) → IsLinux x → x.on m dir ≡ Some d
    → Holds x m (open_step dir name no_xdev) (λ now end. OpenStood x m now d name end)
unfolding open_step
opens x m dir d name no_xdev linux on =
    let q = open_name dir name (by_path true no_xdev) in
    both x m (opening q) (directory_opened dir name no_xdev) (Tried x m q) (λ now end. OpenStood x m now d name end)
    (tries x m q) (λ now r h. directory_ends x m now dir d name no_xdev r linux on h)

pub opens-stood : OpensStood
opens-stood x m dir d name no_xdev es end linux on says w = opens x m dir d name no_xdev linux on es end says w
