-- A text that was read was the link's; a directory is opened once more; what is closed is closed.
use Rattle.std.proofs.Common.{◌≡◌, ◌≢◌, ◌≤◌, ℕ, suc, List, [], ◌∷◌, Bool, true, false, if◌then◌else◌, not, Result, Ok, Err, refl, sym, ap, subst, ◌∙◌, arith}
use Rattle.std.specs.Prelude.{◌==◌, ◌&&◌, Option, Some, None}
use Rattle.std.proofs.lemmas.Bool.{eqb-true}
use Rattle.std.proofs.lemmas.Option.{same_Some}
use Rattle.path_text.specs.declared.errno.Errno.TheVariants.{Invalid}
use Rattle.system_calls.specs.Errors.{EINVAL, ELOOP}
use Rattle.tree_model.specs.declared.answer.Answer.TheVariants as answers
use Rattle.tree_model.specs.declared.inode.Inode.{Inode}
use Rattle.tree_model.specs.declared.inode.Object.{Object}
use Rattle.tree_model.specs.declared.inode.Object.TheVariants as object
use Rattle.tree_model.specs.declared.step.Kind.TheVariants as kind
use Rattle.tree_model.specs.declared.step.StepOf.TheVariants.{Dup, ReadLink}
use Rattle.tree_model.specs.State.{object_at}
use Rattle.tree_model.specs.Steps.{outcome}
use Rattle.dialogue.specs.Dialogue.{calling, ends, open_name, open_same, reads_link, stats_file_system}
use Rattle.dialogue.specs.declared.calls.Answer.{Answer}
use Rattle.linux_steps.specs.Linux.{Linux}
use Rattle.linux_steps.specs.Promises.{ClosesStood, DupStood, DupsStood, LinkStood, LinksWereRead, OneLess, OneMore, Unchanged}
use Rattle.linux_steps.specs.Steps.{Entry, by_entry, by_holder, by_kernel, by_path, close_step, closing, dup_opened, dup_step, follow_told, followed, has_followed, has_magic, holder_told, is_ordinary, kernel_looked, link_text, not_ordinary, not_read, opening, read_link_step, text_of}
use Rattle.linux_steps.specs.declared.ended.Ended.TheVariants.{Text, Done, Refused, Unmade}
use Rattle.linux_steps.proofs.Moments.{Answers, Holds, Tried, back, both, called, choose, end, fails_at, lets_go, looked, one_more, tries, unchanged}

-- ---- the step table

table_reads : (nodes : List Inode) (y : ℕ) (text : List ℕ) → object_at nodes y ≡ Some (object.Link text)
    → (outcome (record { nodes = nodes; handles = Some (record { actor = 0; node = y }) ∷ [] }) 0 (ReadLink 0)).answer
    ≡ answers.Text text
table_reads nodes y text e = simp e

no_text : (nodes : List Inode) (y : ℕ) (what : Option Object) → object_at nodes y ≡ what
    → ((text : List ℕ) → what ≢ Some (object.Link text))
    → (outcome (record { nodes = nodes; handles = Some (record { actor = 0; node = y }) ∷ [] }) 0 (ReadLink 0)).answer
    ≡ answers.Refused Invalid
no_text nodes y None e none = simp e
no_text nodes y (Some object.Dir) e none = simp e
no_text nodes y (Some object.File) e none = simp e
no_text nodes y (Some (object.Link text)) e none = absurd (none text refl)

table_dups : (nodes : List Inode) (d : ℕ) → object_at nodes d ≡ Some object.Dir
    → (outcome (record { nodes = nodes; handles = Some (record { actor = 0; node = d }) ∷ [] }) 0 (Dup 0)).answer
    ≡ answers.Opened 1 d kind.Dir
table_dups nodes d e = simp e

-- ---- ReadLink

text_so : (x : Linux) (m m1 now fd y : ℕ) (is_link : Bool) (a : Answer) (b c : Bool) → (a.error == 0) ≡ b → m ≤ m1
    → Unchanged x m m1 → x.on m fd ≡ Some y → Answers x m1 now (reads_link fd) a
    → LinkStood x m now y (if b then Text a.value else (if c then Refused Invalid else Unmade (not_read a.error)))
text_so x m m1 now fd y is_link a true c is before same on h =
    let all = unchanged x m m1 now same (looked x m1 h.n now fd h.is h.same h.says) in (
      all,
      (
        suc h.n,
        omega (arith, before, h.after),
        omega (arith, h.is),
        table_reads (x.nodes (suc h.n)) y (x.text (suc h.n)) (h.says.tells y (h.same fd ∙ same fd ∙ on) (eqb-true a.error 0 is))
            ∙ ap (λ n. answers.Text (x.text n)) (sym h.is),
      ),
    )
text_so x m m1 now fd y is_link a false true is before same on h =
    let all = unchanged x m m1 now same (looked x m1 h.n now fd h.is h.same h.says) in (
      all,
      (λ none. (
        suc h.n,
        omega (arith, before, h.after),
        omega (arith, h.is),
        no_text (x.nodes (suc h.n)) y (object_at (x.nodes (suc h.n)) y) refl (none (suc h.n)),
      )),
    )
text_so x m m1 now fd y is_link a false false is before same on h =
    unchanged x m m1 now same (looked x m1 h.n now fd h.is h.same h.says)

reads_text : (x : Linux) (m m1 fd y : ℕ) (is_link : Bool) → m ≤ m1 → Unchanged x m m1 → x.on m fd ≡ Some y
    → Holds x m1 (text_of fd is_link) (λ now end. LinkStood x m now y end)
unfolding text_of
reads_text x m m1 fd y is_link before same on =
    both x m1 (calling (reads_link fd)) (λ a. ends (link_text is_link a)) (λ now a. Answers x m1 now (reads_link fd) a)
    (λ now end. LinkStood x m now y end) (called x m1 (reads_link fd))
    (λ now a h. end x now (link_text is_link a) (λ now end. LinkStood x m now y end)
    (text_so x m m1 now fd y is_link a (a.error == 0) (not is_link && (not_read a.error == EINVAL)) refl before same on h))

kernel_end : (x : Linux) (m m1 now fd y : ℕ) (is_link : Bool) (e : Entry) (r : Result ℕ ℕ) → m ≤ m1 → Unchanged x m m1
    → x.on m fd ≡ Some y → Tried x m1 (open_name e.dir e.name followed) now r
    → Holds x now (kernel_looked fd is_link r) (λ now end. LinkStood x m now y end)
kernel_end x m m1 now fd y is_link e (Ok made) before same on h =
    let o = h.by.says.opened h.works in
    let one = subst (λ k. OneMore x m1 now k o.node) h.value
    (one_more x m1 h.by.n now h.answer.value followed h.by.is h.by.same o) in
    both x now (closing made) (λ u. text_of fd is_link) (λ last u. OneLess x now last made)
    (λ now end. LinkStood x m now y end) (lets_go x now made)
    (λ last u c. reads_text x m last fd y is_link (omega (arith, before, h.by.is, h.by.after, c.by))
    (unchanged x m m1 last same (back x m1 now last made o.node one c)) on)
kernel_end x m m1 now fd y is_link e (Err error) before same on h =
    let all = unchanged x m m1 now same
    (fails_at x m1 h.by.n now error h.answer h.by.is h.by.same h.fails h.some h.by.says.failed) in
    choose x now (not (is_ordinary error)) (ends (Unmade (not_ordinary error))) (text_of fd is_link)
    (λ now end. LinkStood x m now y end)
    (λ is. end x now (Unmade (not_ordinary error)) (λ now end. LinkStood x m now y end) all)
    (λ is. reads_text x m now fd y is_link (omega (arith, before, h.by.is, h.by.after)) all on)

looks_by_kernel : (x : Linux) (m m1 fd y : ℕ) (is_link : Bool) (e : Entry) → m ≤ m1 → Unchanged x m m1
    → x.on m fd ≡ Some y → Holds x m1 (by_kernel fd is_link e) (λ now end. LinkStood x m now y end)
unfolding by_kernel
looks_by_kernel x m m1 fd y is_link e before same on =
    let q = open_name e.dir e.name followed in
    both x m1 (opening q) (kernel_looked fd is_link) (Tried x m1 q) (λ now end. LinkStood x m now y end) (tries x m1 q)
    (λ now r h. kernel_end x m m1 now fd y is_link e r before same on h)

entry_end : (x : Linux) (m m1 fd y : ℕ) (is_link : Bool) (entry : Option Entry) → m ≤ m1 → Unchanged x m m1
    → x.on m fd ≡ Some y → Holds x m1 (by_entry fd is_link entry) (λ now end. LinkStood x m now y end)
entry_end x m m1 fd y is_link None before same on =
    end x m1 (Unmade ELOOP) (λ now end. LinkStood x m now y end) same
entry_end x m m1 fd y is_link (Some e) before same on = looks_by_kernel x m m1 fd y is_link e before same on

holder_end : (x : Linux) (m m1 now fd y : ℕ) (is_link : Bool) (entry : Option Entry) (a : Answer) → m ≤ m1
    → Unchanged x m m1 → x.on m fd ≡ Some y → Answers x m1 now (stats_file_system fd) a
    → Holds x now (holder_told fd is_link entry a) (λ now end. LinkStood x m now y end)
holder_end x m m1 now fd y is_link entry a before same on h =
    let all = unchanged x m m1 now same (looked x m1 h.n now fd h.is h.same h.says) in
    let by : m ≤ now = omega (arith, before, h.is, h.after) in
    choose x now ((a.error == 0) && not (has_magic a.file_system)) (text_of fd is_link) (by_entry fd is_link entry)
    (λ now end. LinkStood x m now y end) (λ is. reads_text x m now fd y is_link by all on)
    (λ is. entry_end x m now fd y is_link entry by all on)

looks_at_holder : (x : Linux) (m m1 fd y : ℕ) (is_link : Bool) (entry : Option Entry) → m ≤ m1 → Unchanged x m m1
    → x.on m fd ≡ Some y → Holds x m1 (by_holder fd is_link entry) (λ now end. LinkStood x m now y end)
unfolding by_holder
looks_at_holder x m m1 fd y is_link entry before same on =
    both x m1 (calling (stats_file_system fd)) (holder_told fd is_link entry)
    (λ now a. Answers x m1 now (stats_file_system fd) a) (λ now end. LinkStood x m now y end)
    (called x m1 (stats_file_system fd))
    (λ now a h. holder_end x m m1 now fd y is_link entry a before same on h)

follow_end : (x : Linux) (m now fd y : ℕ) (is_link : Bool) (entry : Option Entry) (a : Answer) → x.on m fd ≡ Some y
    → Answers x m now (stats_file_system fd) a
    → Holds x now (follow_told fd is_link entry a) (λ now end. LinkStood x m now y end)
follow_end x m now fd y is_link entry a on h =
    let all = looked x m h.n now fd h.is h.same h.says in
    choose x now (not (a.error == 0)) (ends (Unmade a.error)) _ (λ now end. LinkStood x m now y end)
    (λ is. end x now (Unmade a.error) (λ now end. LinkStood x m now y end) all)
    (λ is. choose x now (not (has_followed a.flags)) (ends (Unmade ELOOP)) (by_holder fd is_link entry)
    (λ now end. LinkStood x m now y end)
    (λ not_followed. end x now (Unmade ELOOP) (λ now end. LinkStood x m now y end) all)
    (λ is_followed. looks_at_holder x m now fd y is_link entry (omega (arith, h.is, h.after)) all on))

pub links : (x : Linux) (m fd y : ℕ) (is_link : Bool) (entry : Option Entry) → x.on m fd ≡ Some y
    → Holds x m (read_link_step fd is_link entry) (λ now end. LinkStood x m now y end)
unfolding read_link_step
links x m fd y is_link entry on =
    both x m (calling (stats_file_system fd)) (follow_told fd is_link entry)
    (λ now a. Answers x m now (stats_file_system fd) a) (λ now end. LinkStood x m now y end)
    (called x m (stats_file_system fd)) (λ now a h. follow_end x m now fd y is_link entry a on h)

pub links-were-read : LinksWereRead
links-were-read x m fd y is_link entry es end on says w = links x m fd y is_link entry on es end says w

-- ---- Dup and Close

dup_end : (x : Linux) (m now dir d : ℕ) (no_xdev : Bool) (r : Result ℕ ℕ) → x.on m dir ≡ Some d
    → Tried x m (open_same dir (by_path true no_xdev)) now r → DupStood x m now d (dup_opened r)
dup_end x m now dir d no_xdev (Ok fd) on h =
    let n = h.by.n in
    let o = h.by.says.opened h.works in
    let is : o.node ≡ d = same_Some o.node d (sym o.finds ∙ h.by.same dir ∙ on) in
    let one = one_more x m n now h.answer.value (by_path true no_xdev) h.by.is h.by.same o in
    record {
      node = d;
      one = subst (λ k. OneMore x m now k d) h.value (subst (λ y. OneMore x m now h.answer.value y) is one);
      stood = (
        suc n,
        omega (arith, h.by.after),
        omega (arith, h.by.is),
        table_dups (x.nodes (suc n)) d
            (subst (λ y. object_at (x.nodes (suc n)) y ≡ Some object.Dir) is (o.is ∙ ap Some (o.directory refl))),
      );
    }
dup_end x m now dir d no_xdev (Err error) on h =
    fails_at x m h.by.n now error h.answer h.by.is h.by.same h.fails h.some h.by.says.failed

pub dups : (x : Linux) (m dir d : ℕ) (no_xdev : Bool) → x.on m dir ≡ Some d
    → Holds x m (dup_step dir no_xdev) (λ now end. DupStood x m now d end)
unfolding dup_step
dups x m dir d no_xdev on =
    let q = open_same dir (by_path true no_xdev) in
    both x m (opening q) (λ r. ends (dup_opened r)) (Tried x m q) (λ now end. DupStood x m now d end) (tries x m q)
    (λ now r h. end x now (dup_opened r) (λ now end. DupStood x m now d end) (dup_end x m now dir d no_xdev r on h))

pub dups-stood : DupsStood
dups-stood x m dir d no_xdev es end on says w = dups x m dir d no_xdev on es end says w

pub closes_so : (x : Linux) (m fd : ℕ) → Holds x m (close_step fd) (λ now end. (end ≡ Done) × OneLess x m now fd)
unfolding close_step
closes_so x m fd =
    both x m (closing fd) (λ u. ends Done) (λ now u. OneLess x m now fd) (λ now end. (end ≡ Done) × OneLess x m now fd)
    (lets_go x m fd) (λ now u c. end x now Done (λ now end. (end ≡ Done) × OneLess x m now fd) (refl, c))

pub closes-stood : ClosesStood
closes-stood x m fd es end says w = closes_so x m fd es end says w
