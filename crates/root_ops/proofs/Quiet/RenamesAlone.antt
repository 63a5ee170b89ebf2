-- A rename, where nobody else acts.
use Rattle.std.proofs.Common.{◌≡◌, ◌≢◌, ◌⊎◌, inl, inr, ℕ, List, [], ◌∷◌, length, Bool, true, false, not, ◌||◌, if◌then◌else◌, Result, Ok, Err, Option, Some, None, is_some, refl, sym, ap, ◌∙◌, subst}
use Rattle.std.proofs.lemmas.Bool.{false≢true, true≢false}
use Rattle.std.proofs.lemmas.Option.{none-some}
use Rattle.path_text.specs.declared.errno.Errno.{Errno}
use Rattle.path_text.specs.declared.errno.Errno.TheVariants.{NotFound, NoMemory, BadHandle, NotDir, TooMany}
use Rattle.path_text.specs.declared.path.Rule.TheVariants.{Drop}
use Rattle.path_text.specs.declared.path.Split.{Split as SplitPath}
use Rattle.path_text.specs.Text.{text_fault, reading_of}
use Rattle.path_text.specs.Split.{split_of}
use Rattle.tree_model.specs.declared.answer.Answer.{Answer}
use Rattle.tree_model.specs.declared.answer.Answer.TheVariants.{Opened, Refused}
use Rattle.tree_model.specs.declared.inode.Inode.{Inode}
use Rattle.tree_model.specs.declared.inode.Object.{Object}
use Rattle.tree_model.specs.declared.inode.Object.TheVariants as object
use Rattle.tree_model.specs.declared.step.Mode.{Mode}
use Rattle.tree_model.specs.StepWith.{StepWith}
use Rattle.tree_model.specs.declared.step.StepOf.TheVariants.{Open, Close, Rename}
use Rattle.tree_model.specs.State.{State, object_at, child, is_dir, is_directory}
use Rattle.tree_model.specs.Entries.{refuse_if, with_some, refuse_by, renames}
use Rattle.tree_model.specs.Steps.{Outcome, outcome, held, is_full, kind_of, refused, opens, with_handle}
use Rattle.tree_model.specs.Steps.{changes as made}
use Rattle.tree_model.specs.StepLaws.{is_on_entries}
use Rattle.tree_model.specs.Trees.{IsState}
use Rattle.tree_model.specs.History.{IsLegal, after_events}
use Rattle.tree_model.proofs.StepLaws.{nodes_are_left}
use Rattle.tree_model.proofs.PlaceLaws.{lookups_lead_to_nodes}
use Rattle.step_resolver.specs.Meaning.{resolution, reading_means}
use Rattle.step_resolver.specs.Order.{Handle, Turn, Line, answered, no_room, not_made, events_of}
use Rattle.step_resolver.specs.Order as walk
use Rattle.step_resolver.proofs.Underway.StepOutcomes.{Opening, too_many, no_object, is_opened, opening_of, with_handle-is_more, Close-is_less}
use Rattle.root_ops.specs.declared.aim.Aim.TheVariants.{WalksOn, Renames}
use Rattle.root_ops.specs.declared.aim.Renaming.{Renaming}
use Rattle.root_ops.specs.declared.aim.Wanted.TheVariants as wants
use Rattle.root_ops.specs.Meaning.{Caller, Whole, and_then, directory_of, no_directory, renamed, changes}
use Rattle.root_ops.specs.Meaning as meaning
use Rattle.root_ops.specs.Order.{Reply, more, ends, acting, checking, acts, closes, gives_up, walked, walked_on, walks, way_of, unless_fault, between, from_entry, renaming_of, rename_step, reply_to, take, LeadsTo}
use Rattle.root_ops.specs.Quiet.{Meets, MetBy, ComesTo}
use Rattle.root_ops.proofs.Quiet.WalksAlone.{HasRoot, FindsIt}
use Rattle.root_ops.proofs.Quiet.StepsAlone.{fails_alone, runs_short, widened, met_later, is_a_want, Acts, acts_alone, is_changed}
use Rattle.root_ops.proofs.Quiet.EntriesAlone.{Onward, walks_then, acts_short, faults_alone}

-- ---- what an entry is, and what Open of it is answered

-- why an entry is no directory, by its directory and what stands there
abbrev fault_by : List Inode → Bool → Option ℕ → Option Errno
fault_by nodes dir entry =
    refuse_if (not dir) (Some NotDir) (with_some entry (Some NotFound) (λ x. refuse_if (not (is_dir nodes x)) (Some NotDir) None))

abbrev tried_by : State → ℕ → Bool → Option ℕ → Outcome
tried_by t a dir entry = refuse_if (not dir) (refused t NotDir) (with_some entry (refused t NotFound) (λ x. opens t a x))

-- it was refused for what the entry is, or since no more can be opened; or it is opened
pub data Tried (t : State) (a : ℕ) (why : Option Errno) (o : Outcome) : Type 0 where
  is_refused : (error : Errno) → why ≡ Some error → o ≡ refused t error → Tried t a why o
  can_open_no_more : is_full t a ≡ true → o ≡ refused t TooMany → Tried t a why o
  opens_it : (x : ℕ) (what : Object) → why ≡ refuse_if (not (is_directory (Some what))) (Some NotDir) None
      → o ≡ record { answer = Opened (length t.handles) x (kind_of what); after = with_handle t a x } → Tried t a why o

module _ (t : State) (a : ℕ) where
  tried_at : (x : ℕ) → is_some (object_at t.nodes x) ≡ true → (o : Outcome) → Opening t a x o → Tried t a (fault_by t.nodes true (Some x)) o
  tried_at x there o (too_many full e) = can_open_no_more full e
  tried_at x there o (no_object none e) = absurd (false≢true (sym (ap is_some none) ∙ there))
  tried_at x there o (is_opened what is e) =
      opens_it x what (ap (λ ob. refuse_if (not (is_directory ob)) (Some NotDir) None) is) e

  tried : (dir : Bool) (entry : Option ℕ) → ((x : ℕ) → entry ≡ Some x → is_some (object_at t.nodes x) ≡ true)
      → Tried t a (fault_by t.nodes dir entry) (tried_by t a dir entry)
  tried false entry there = is_refused NotDir refl refl
  tried true None there = is_refused NotFound refl refl
  tried true (Some x) there = tried_at x (there x refl) (opens t a x) (opening_of t a x)

  abbrev through : Option ℕ → (ℕ → Outcome) → Outcome
  through o otherwise = with_some o (refused t BadHandle) otherwise

  -- Open of an entry
  pub entry_tried : IsState t → (h d : ℕ) (n : List ℕ) → held t a h ≡ Some d → Tried t a (no_directory t.nodes d n) (outcome t a (Open h n))
  entry_tried tree h d n e =
      subst (Tried t a (no_directory t.nodes d n)) (sym (ap (λ o. through o (λ x. tried_by t a (is_dir t.nodes x) (child t.nodes x n))) e))
      (tried (is_dir t.nodes d) (child t.nodes d n) (λ x is. (lookups_lead_to_nodes t tree).1 d n x is))

  pub rename_is : (h k d f : ℕ) (n m : List ℕ) (mode : Mode) → held t a h ≡ Some d → held t a k ≡ Some f
      → outcome t a (Rename h n k m mode) ≡ made t (renames t.nodes d n f m mode)
  rename_is h k d f n m mode e g =
      ap (λ o. through o (λ x. through (held t a k) (λ y. made t (renames t.nodes x n y m mode)))) e
      ∙ ap (λ o. through o (λ y. made t (renames t.nodes d n y m mode))) g

  -- an open handle isn't one that is opened
  pub other_handle : (h k x : ℕ) → held t a h ≡ Some x → held t a k ≡ None → h ≢ k
  other_handle h k x is fresh e = none-some x (sym fresh ∙ ap (held t a) (sym e) ∙ is)

-- ---- both directories are held

module _ (c : Caller) (ren : Renaming) (d f : ℕ) (reply : Reply) where
  abbrev result : Result (List Inode) Errno
  result = renames c.tree.nodes d ren.old f ren.new ren.mode

  -- after one more line
  one_more : (s : State) (line : Line) (lines : List Line) (whole : Whole)
      → ComesTo c (after_events s (events_of c.actor lines)) true lines whole reply → ComesTo c (after_events s (events_of c.actor lines)) true (line ∷ lines) whole reply
  one_more s line lines whole = widened c (after_events s (events_of c.actor lines)) true lines true (line ∷ lines) whole reply (met_later true line lines)

  -- both are open
  pub record Holds (t : State) (old new : ℕ) : Type 0 where
    pub nodes : t.nodes ≡ c.tree.nodes
    pub tree : IsState t
    pub is_old : held t c.actor old ≡ Some d
    pub is_new : held t c.actor new ≡ Some f

  module _ (t : State) (old new : ℕ) (nodes : t.nodes ≡ c.tree.nodes) (is_old : held t c.actor old ≡ Some d) (is_new : held t c.actor new ≡ Some f) where
    renamed_is : outcome t c.actor (rename_step ren old new) ≡ made t result
    renamed_is = rename_is t c.actor old new d f ren.old ren.new ren.mode is_old is_new
        ∙ ap (λ ns. made t (renames ns d ren.old f ren.new ren.mode)) nodes

    acted_by : (end : State) (lines : List Line) → Acts t c.actor wants.Done (rename_step ren old new) end lines reply → ComesTo c end true lines (changes c result) reply
    acted_by end lines (inl short) = inr (acts_short c t end true lines reply nodes short)
    acted_by end lines (inr acted) = inl (is_changed c t end reply nodes result
        (acted.0 ∙ ap (λ (o : Outcome). reply_to wants.Done o.answer) renamed_is) (acted.1 ∙ ap (λ (o : Outcome). o.after.nodes) renamed_is))

    renames_alone : (lines : List Line) → LeadsTo c.below (more (acting wants.Done (rename_step ren old new) (new ∷ old ∷ []))) lines (ends reply)
        → IsLegal t (events_of c.actor lines) → ComesTo c (after_events t (events_of c.actor lines)) true lines (changes c result) reply
    renames_alone lines leads legal = acted_by (after_events t (events_of c.actor lines)) lines
        (acts_alone c.below c.actor wants.Done (rename_step ren old new) (new ∷ old ∷ []) reply t lines leads legal)

  -- the entry's directory was opened, and is closed again before the rename
  module _ (t : State) (old new k x : ℕ) (holds : Holds t old new) (k_is : k ≡ length t.handles) where
    abbrev opened : State
    opened = with_handle t c.actor x

    fresh : held t c.actor k ≡ None
    fresh = ap (held t c.actor) k_is ∙ (with_handle-is_more t c.actor x).fresh

    stays_open : (h y : ℕ) → held t c.actor h ≡ Some y → held (outcome opened c.actor (Close k)).after c.actor h ≡ Some y
    stays_open h y is =
        let other : h ≢ k = other_handle t c.actor h k y is fresh in
        (Close-is_less opened c.actor k).others h other
        ∙ (with_handle-is_more t c.actor x).others h (λ e. other (e ∙ sym k_is)) ∙ is

    stays_after : (step : StepWith ℕ) → step ≡ Close k → (h y : ℕ) → held t c.actor h ≡ Some y → held (outcome opened c.actor step).after c.actor h ≡ Some y
    stays_after step is h y open_h = ap (λ st. held (outcome opened c.actor st).after c.actor h) is ∙ stays_open h y open_h

    closed_then : (step : StepWith ℕ) (lines : List Line) → step ≡ Close k
        → LeadsTo c.below (more (acting wants.Done (rename_step ren old new) (new ∷ old ∷ []))) lines (ends reply)
        → IsLegal (outcome opened c.actor step).after (events_of c.actor lines)
        → ComesTo c (after_events (outcome opened c.actor step).after (events_of c.actor lines)) true lines (changes c result) reply
    closed_then step lines is leads legal =
        renames_alone (outcome opened c.actor step).after old new
        (nodes_are_left opened c.actor step (ap is_on_entries is) ∙ holds.nodes)
        (stays_after step is old d holds.is_old) (stays_after step is new f holds.is_new) lines leads legal

    closes_then : (lines : List Line) → LeadsTo c.below (closes (k ∷ []) (acts wants.Done (rename_step ren old new) (new ∷ old ∷ []))) lines (ends reply)
        → IsLegal opened (events_of c.actor lines)
        → ComesTo c (after_events opened (events_of c.actor lines)) true lines (changes c result) reply
    closes_then [] leads legal = cc (leads)
    closes_then (answered step answer ∷ lines) leads legal =
        one_more (outcome opened c.actor step).after (answered step answer) lines (changes c result) (closed_then step lines leads.0 leads.1 legal.1)
    closes_then (no_room step answer ∷ lines) leads legal =
        one_more (outcome opened c.actor step).after (no_room step answer) lines (changes c result) (closed_then step lines leads.0 leads.1 legal.1)
    closes_then (not_made error ∷ lines) leads legal = cc (leads.0.1)

  module _ (t : State) (old new : ℕ) (holds : Holds t old new) where
    abbrev Comes : State → List Line → List Line → Option Errno → Type 0
    Comes s lines all why = ComesTo c (after_events s (events_of c.actor lines)) true all (changes c (refuse_by why result)) reply

    -- the entry was opened
    by_kind : (room : Bool) (x : ℕ) (what : Object) (line : Line) (lines : List Line)
        → LeadsTo c.below (take c.below room (checking old new ren) (Opened (length t.handles) x (kind_of what))) lines (ends reply)
        → IsLegal (with_handle t c.actor x) (events_of c.actor lines)
        → Comes (with_handle t c.actor x) lines (line ∷ lines) (refuse_if (not (is_directory (Some what))) (Some NotDir) None)
    by_kind room x object.Dir line lines leads legal =
        one_more (with_handle t c.actor x) line lines (changes c result) (closes_then t old new (length t.handles) x holds refl lines leads legal)
    by_kind room x object.File line lines leads legal =
        inl (fails_alone c (with_handle t c.actor x) holds.nodes (length t.handles ∷ new ∷ old ∷ []) NotDir lines reply leads)
    by_kind room x (object.Link text) line lines leads legal =
        inl (fails_alone c (with_handle t c.actor x) holds.nodes (length t.handles ∷ new ∷ old ∷ []) NotDir lines reply leads)

    abbrev Onwards : Bool → Line → List Line → Option Errno → Outcome → Type 0
    Onwards room line lines why o = LeadsTo c.below (take c.below room (checking old new ren) o.answer) lines (ends reply)
        → IsLegal o.after (events_of c.actor lines) → Comes o.after lines (line ∷ lines) why

    by_answer : (room : Bool) (line : Line) (lines : List Line) (why : Option Errno) (o : Outcome) → (o.answer ≡ Refused TooMany → Meets TooMany line)
        → Tried t c.actor why o → Onwards room line lines why o
    by_answer room line lines why o meets (is_refused error is e) =
        subst (λ w. Onwards room line lines w o) (sym is)
        (subst (Onwards room line lines (Some error)) (sym e)
        (λ leads legal. inl (fails_alone c t holds.nodes (new ∷ old ∷ []) error lines reply leads)))
    by_answer room line lines why o meets (can_open_no_more full e) =
        subst (Onwards room line lines why) (sym e)
        (λ leads legal. inr (runs_short c t holds.nodes (new ∷ old ∷ []) TooMany lines reply leads true (line ∷ lines)
        (inl (inl (meets (ap (λ (p : Outcome). p.answer) e)))) refl))
    by_answer room line lines why o meets (opens_it x what is e) =
        subst (λ w. Onwards room line lines w o) (sym is)
        (subst (Onwards room line lines (refuse_if (not (is_directory (Some what))) (Some NotDir) None)) (sym e) (by_kind room x what line lines))

    -- the step was made
    checked_by : (room : Bool) (step : StepWith ℕ) (answer : Answer) (line : Line) (lines : List Line) → (answer ≡ Refused TooMany → Meets TooMany line)
        → step ≡ Open old ren.old → answer ≡ (outcome t c.actor step).answer
        → LeadsTo c.below (take c.below room (checking old new ren) answer) lines (ends reply)
        → IsLegal (outcome t c.actor step).after (events_of c.actor lines)
        → Comes (outcome t c.actor step).after lines (line ∷ lines) (no_directory c.tree.nodes d ren.old)
    checked_by room step answer line lines meets is told leads legal =
        subst (λ ns. Comes (outcome t c.actor step).after lines (line ∷ lines) (no_directory ns d ren.old)) holds.nodes
        (by_answer room line lines (no_directory t.nodes d ren.old) (outcome t c.actor step) (λ e. meets (told ∙ e))
        (subst (λ st. Tried t c.actor (no_directory t.nodes d ren.old) (outcome t c.actor st)) (sym is) (entry_tried t c.actor holds.tree old d ren.old holds.is_old))
        (subst (λ an. LeadsTo c.below (take c.below room (checking old new ren) an) lines (ends reply)) told leads) legal)

    checks_alone : (lines : List Line) → LeadsTo c.below (more (checking old new ren)) lines (ends reply) → IsLegal t (events_of c.actor lines)
        → Comes t lines lines (no_directory c.tree.nodes d ren.old)
    checks_alone [] leads legal = cc (leads)
    checks_alone (answered step answer ∷ lines) leads legal =
        checked_by true step answer (answered step answer) lines (λ e. (refl, e)) leads.0 legal.0 leads.1 legal.1
    checks_alone (no_room step answer ∷ lines) leads legal =
        checked_by false step answer (no_room step answer) lines (λ e. inr (refl, e)) leads.0 legal.0 leads.1 legal.1
    checks_alone (not_made error ∷ lines) leads legal = inr (runs_short c t holds.nodes (new ∷ old ∷ []) error lines reply leads.1
        true (not_made error ∷ lines) (inl (inl refl)) (is_a_want error leads.0.0))

    pub both_held : (slash : Bool) (lines : List Line)
        → LeadsTo c.below (if slash then more (checking old new ren) else more (acting wants.Done (rename_step ren old new) (new ∷ old ∷ []))) lines (ends reply)
        → IsLegal t (events_of c.actor lines)
        → Comes t lines lines (if slash then no_directory c.tree.nodes d ren.old else None)
    both_held true lines leads legal = checks_alone lines leads legal
    both_held false lines leads legal = renames_alone t old new holds.nodes holds.is_old holds.is_new lines leads legal

-- ---- the two walks

-- with room for the first turn a want is met at a line
with_room : (room : Bool) (lines : List Line) (error : Errno) → MetBy true lines error → MetBy room lines error
with_room room lines error (inl met) = inl met
with_room room lines error (inr short) = absurd (true≢false short.0)

-- the second walk begins, or finds no memory to begin
second_begins : (c : Caller) (old : ℕ) (ren : Renaming) (room : Bool) (turn : Turn) (lines : List Line) (reply : Reply)
    → LeadsTo c.below (walked_on old ren (walk.for_walk room turn)) lines (ends reply)
    → LeadsTo c.below (walked c.below true (Renames old ren) turn) lines (ends reply) ⊎ ((room ≡ false) × LeadsTo c.below (gives_up (old ∷ []) NoMemory) lines (ends reply))
second_begins c old ren true (walk.more walking) lines reply leads = inl leads
second_begins c old ren true (walk.found handle names) lines reply leads = inl leads
second_begins c old ren true (walk.partial handle names rest) lines reply leads = inl leads
second_begins c old ren true (walk.failed error) lines reply leads = inl leads
second_begins c old ren false (walk.more walking) lines reply leads = inr (refl, leads)
second_begins c old ren false (walk.found handle names) lines reply leads = inl leads
second_begins c old ren false (walk.partial handle names rest) lines reply leads = inl leads
second_begins c old ren false (walk.failed error) lines reply leads = inl leads

module _ (c : Caller) (has : HasRoot c.tree c.actor c.below.root.handle c.root) (from to : SplitPath) (mode : Mode) (reply : Reply) where
  abbrev ren : Renaming
  ren = renaming_of from to mode

  abbrev in_both : ℕ → ℕ → Result (List Inode) Errno
  in_both d f = refuse_by (if from.slash || to.slash then no_directory c.tree.nodes d from.name else None) (renames c.tree.nodes d from.name f to.name mode)

  abbrev in_first : ℕ → Result ℕ Errno → Whole
  in_first d r = changes c (and_then r (in_both d))

  abbrev from_first : Result ℕ Errno → Whole
  from_first r = changes c (and_then r (λ d. and_then (directory_of c to.dir) (in_both d)))

  module _ (t : State) (first : Handle) (names : List (List ℕ)) (tree : IsState t) (nodes : t.nodes ≡ c.tree.nodes)
      (finds : FindsIt c.tree t c.actor c.root first names) where
    has_root : HasRoot t c.actor c.below.root.handle c.root
    has_root = record {
      tree = tree;
      root = finds.others c.below.root.handle (other_handle c.tree c.actor c.below.root.handle first.number c.root has.root finds.fresh) ∙ has.root;
      is_dir = ap (λ ns. is_dir ns c.root) nodes ∙ has.is_dir;
    }

    second_onward : Onward c t (Renames first.number ren) (in_first first.node) reply
    second_onward u second others room rest tree_u nodes_u finds_u leads legal =
        widened c (after_events u (events_of c.actor rest)) true rest room rest (in_first first.node (Ok second.node)) reply (with_room room rest)
        (both_held c ren first.node second.node reply u first.number second.number
        (record {
          nodes = nodes_u;
          tree = tree_u;
          is_old = finds_u.others first.number (other_handle t c.actor first.number second.number first.node finds.is_open finds_u.fresh) ∙ finds.is_open;
          is_new = finds_u.is_open;
        })
        (from.slash || to.slash) rest leads legal)

    second_walk : (rest : List Line) → LeadsTo c.below (walked c.below true (Renames first.number ren) (walk.begins (way_of c.below (Renames first.number ren)) to.dir)) rest (ends reply)
        → IsLegal t (events_of c.actor rest)
        → ComesTo c (after_events t (events_of c.actor rest)) true rest (in_first first.node (directory_of c to.dir)) reply
    second_walk rest leads legal =
        subst (λ ns. ComesTo c (after_events t (events_of c.actor rest)) true rest
        (in_first first.node (meaning.found (resolution (reading_means (record { nodes = ns; root = c.root; flags = c.below.flags }) to.dir true)))) reply) nodes
        (walks_then c t has_root nodes (Renames first.number ren) refl to.dir reply (in_first first.node) (λ error. refl) second_onward rest leads legal)

    first_found : (room : Bool) (rest : List Line)
        → LeadsTo c.below (walked_on first.number ren (walk.for_walk room (walk.begins (way_of c.below (Renames first.number ren)) to.dir))) rest (ends reply)
        → IsLegal t (events_of c.actor rest)
        → ComesTo c (after_events t (events_of c.actor rest)) room rest (from_first (Ok first.node)) reply
    first_found room rest leads legal = on (second_begins c first.number ren room (walk.begins (way_of c.below (Renames first.number ren)) to.dir) rest reply leads)
      where
        on : LeadsTo c.below (walked c.below true (Renames first.number ren) (walk.begins (way_of c.below (Renames first.number ren)) to.dir)) rest (ends reply)
            ⊎ ((room ≡ false) × LeadsTo c.below (gives_up (first.number ∷ []) NoMemory) rest (ends reply))
            → ComesTo c (after_events t (events_of c.actor rest)) room rest (from_first (Ok first.node)) reply
        on (inl begun) = widened c (after_events t (events_of c.actor rest)) true rest room rest (from_first (Ok first.node)) reply (with_room room rest)
            (second_walk rest begun legal)
        on (inr short) = inr (runs_short c t nodes (first.number ∷ []) NoMemory rest reply short.1 room rest (inr (short.0, refl)) refl)

  first_onward : Onward c c.tree (WalksOn to.dir ren) from_first reply
  first_onward t handle names room rest tree nodes finds leads legal = first_found t handle names tree nodes finds room rest leads legal

  pub first_walk : (lines : List Line) → LeadsTo c.below (walks c.below (WalksOn to.dir ren) from.dir) lines (ends reply) → IsLegal c.tree (events_of c.actor lines)
      → ComesTo c (after_events c.tree (events_of c.actor lines)) true lines (changes c (renamed c from to mode)) reply
  first_walk lines leads legal =
      walks_then c c.tree has refl (WalksOn to.dir ren) refl from.dir reply from_first (λ error. refl) first_onward lines leads legal

-- ---- the texts

module _ (c : Caller) (has : HasRoot c.tree c.actor c.below.root.handle c.root) (mode : Mode) where
  second_text : (from : SplitPath) (found_fault : Option Errno) (split : Result SplitPath Errno) (lines : List Line) (reply : Reply)
      → LeadsTo c.below (unless_fault found_fault (between c.below mode from split)) lines (ends reply) → IsLegal c.tree (events_of c.actor lines)
      → ComesTo c (after_events c.tree (events_of c.actor lines)) true lines (changes c (and_then (refuse_by found_fault split) (λ to. renamed c from to mode))) reply
  second_text from (Some error) split lines reply leads legal = faults_alone c has error true lines reply leads
  second_text from None (Err error) lines reply leads legal = faults_alone c has error true lines reply leads
  second_text from None (Ok to) lines reply leads legal = first_walk c has from to mode reply lines leads legal

  pub rename_alone : (new : List ℕ) (found_fault : Option Errno) (split : Result SplitPath Errno) (lines : List Line) (reply : Reply)
      → LeadsTo c.below (unless_fault found_fault (from_entry c.below mode new split)) lines (ends reply) → IsLegal c.tree (events_of c.actor lines)
      → ComesTo c (after_events c.tree (events_of c.actor lines)) true lines
      (changes c (and_then (refuse_by found_fault split) (λ from. and_then (meaning.entry_of new Drop) (λ to. renamed c from to mode)))) reply
  rename_alone new (Some error) split lines reply leads legal = faults_alone c has error true lines reply leads
  rename_alone new None (Err error) lines reply leads legal = faults_alone c has error true lines reply leads
  rename_alone new None (Ok from) lines reply leads legal = second_text from (text_fault new) (split_of (reading_of new) Drop) lines reply leads legal
