-- Calls on an object and on an entry, where nobody else acts.
use Rattle.std.proofs.Common.{◌≡◌, ◌⊎◌, inl, inr, ⊎_elim, ℕ, List, [], ◌∷◌, ◌++◌, Bool, true, false, Result, Ok, Err, Option, Some, None, refl, sym, ap, ◌∙◌, subst}
use Rattle.std.proofs.lemmas.Bool.{true≢false}
use Rattle.path_text.specs.declared.errno.Errno.{Errno}
use Rattle.path_text.specs.declared.errno.Errno.TheVariants.{NoMemory, Invalid}
use Rattle.path_text.specs.declared.path.Split.{Split as SplitPath}
use Rattle.path_text.specs.Reading.{Reading}
use Rattle.path_text.specs.Text.{reading_of}
use Rattle.tree_model.specs.declared.inode.Object.{Object}
use Rattle.tree_model.specs.declared.inode.Object.TheVariants as object
use Rattle.tree_model.specs.State.{State, Stands, object_at}
use Rattle.tree_model.specs.Entries.{refuse_by}
use Rattle.tree_model.specs.declared.step.StepOf.TheVariants.{ReadLink}
use Rattle.tree_model.specs.Steps.{outcome, reads, kind_of}
use Rattle.std.specs.Option.{option_map}
use Rattle.tree_model.specs.Steps.{changes as made}
use Rattle.tree_model.specs.Trees.{IsState}
use Rattle.tree_model.specs.History.{IsLegal, after_events}
use Rattle.walk_plan.specs.declared.goal.Goal.{Goal}
use Rattle.step_resolver.specs.Asked.{follows, is_deepest}
use Rattle.step_resolver.specs.Meaning.{Ground, resolution, resolves}
use Rattle.step_resolver.specs.Order.{Handle, Turn, more, found, partial, failed, Line, events_of}
use Rattle.step_resolver.specs.Order as walk
use Rattle.step_resolver.specs.Footprint.{is_want}
use Rattle.step_resolver.proofs.Underway.StepOutcomes.{read_is}
use Rattle.root_ops.specs.declared.aim.Aim.{Aim}
use Rattle.root_ops.specs.declared.aim.Aim.TheVariants.{Opens, Reads, Changes}
use Rattle.root_ops.specs.declared.aim.Change.{Change}
use Rattle.root_ops.specs.declared.aim.Wanted.TheVariants as wants
use Rattle.root_ops.specs.Meaning.{Caller, is_open, has_text, fails, Whole, and_then, directory_of, text_of, tells, changes}
use Rattle.root_ops.specs.Acts.{change_of}
use Rattle.root_ops.specs.Meaning as meaning
use Rattle.root_ops.specs.Order.{Reply, opened, fault, ends, reached, walking as in_walk, walked, calls, goal_of, held_by, way_of, walks, unless_fault, in_directory, change_step, reply_to, LeadsTo}
use Rattle.root_ops.specs.Quiet.{MetWant, MetBy, IsReply, IsDone, RanShort, ComesTo}
use Rattle.step_machine.proofs.Split.{runs_split}
use Rattle.step_resolver.proofs.TurnsTell.{is_machine}
use Rattle.root_ops.proofs.Within.{walk_of_call, short_met}
use Rattle.root_ops.proofs.Quiet.WalksAlone.{Parted, parted, HasRoot, FindsIt, EndsWith, found_by, Walked, walked_alone}
use Rattle.root_ops.proofs.Quiet.StepsAlone.{fails_alone, runs_short, widened, Acts, acts_alone, change_is, is_changed}

-- ---- wants of some of the lines

met_in_front : (first rest : List Line) (error : Errno) → MetWant first error → MetWant (first ++ rest) error
met_in_front [] rest error met = absurd met
met_in_front (line ∷ first) rest error (inl met) = inl met
met_in_front (line ∷ first) rest error (inr met) = inr (met_in_front first rest error met)

pub met_behind : (first rest : List Line) (error : Errno) → MetWant rest error → MetWant (first ++ rest) error
met_behind [] rest error met = met
met_behind (line ∷ first) rest error met = inr (met_behind first rest error met)

met_within : (first rest lines : List Line) (error : Errno) → lines ≡ first ++ rest → MetWant first error ⊎ MetWant rest error → MetWant lines error
met_within first rest lines error joined met = subst (λ ls. MetWant ls error) (sym joined)
    (⊎_elim (λ q. met_in_front first rest error q) (λ q. met_behind first rest error q) met)

begun_with_room : (first : List Line) → (true ≡ false) ⊎ MetWant first NoMemory → MetWant first NoMemory
begun_with_room first (inl e) = absurd (true≢false e)
begun_with_room first (inr met) = met

-- ---- a walk and what comes then

-- what is done with the object that was found, comes to this
abbrev pub Onward : Caller → State → Aim → (Result ℕ Errno → Whole) → Reply → Type 0
Onward c s aim whole reply = (t : State) (handle : Handle) (names : List (List ℕ)) (room : Bool) (rest : List Line)
    → IsState t → t.nodes ≡ c.tree.nodes → FindsIt s t c.actor c.root handle names
    → LeadsTo c.below (reached c.below room handle names aim) rest (ends reply) → IsLegal t (events_of c.actor rest)
    → ComesTo c (after_events t (events_of c.actor rest)) room rest (whole (Ok handle.node)) reply

module _ (c : Caller) (s : State) (has : HasRoot s c.actor c.below.root.handle c.root) (same : s.nodes ≡ c.tree.nodes)
    (aim : Aim) (plain : is_deepest (goal_of aim) ≡ false) (path : Reading) (reply : Reply)
    (whole : Result ℕ Errno → Whole) (failing : (error : Errno) → whole (Err error) ≡ record { reply = fails error; nodes = c.tree.nodes })
    (onward : Onward c s aim whole reply) where
  abbrev meant : Result ℕ Errno
  meant = found_by s c.root (way_of c.below aim) path

  module _ (t : State) (room : Bool) (first rest all : List Line) (tree : IsState t) (nodes : t.nodes ≡ s.nodes)
      (first_within : (error : Errno) → MetWant first error → MetBy true all error)
      (rest_within : (error : Errno) → MetBy room rest error → MetBy true all error) (legal : IsLegal t (events_of c.actor rest)) where
    abbrev last : State
    last = after_events t (events_of c.actor rest)

    at_the_end : (turn : Turn) → EndsWith s t c.actor c.root first meant turn → LeadsTo c.below (walked c.below room aim turn) rest (ends reply)
        → ComesTo c last true all (whole meant) reply
    at_the_end (more walking) comes leads = absurd comes
    at_the_end (found handle names) comes leads =
        subst (λ m. ComesTo c last true all (whole m) reply) (sym comes.1)
        (widened c last room rest true all (whole (Ok handle.node)) reply rest_within (onward t handle names room rest tree (nodes ∙ same) comes.0 leads legal))
    at_the_end (partial handle names others) comes leads = absurd comes
    at_the_end (failed error) (inl want) leads =
        inr (runs_short c t (nodes ∙ same) (held_by aim) error rest reply leads true all (first_within error want.1) want.0)
    at_the_end (failed error) (inr is) leads =
        inl (subst (λ m. IsDone c last m reply) (sym (ap whole is ∙ failing error)) (fails_alone c t (nodes ∙ same) (held_by aim) error rest reply leads))

  pub walks_then : (lines : List Line) → LeadsTo c.below (walked c.below true aim (walk.begins (way_of c.below aim) path)) lines (ends reply)
      → IsLegal s (events_of c.actor lines)
      → ComesTo c (after_events s (events_of c.actor lines)) true lines (whole (found_by s c.root (way_of c.below aim) path)) reply
  walks_then lines leads legal =
      let split = runs_split (walk.walks (way_of c.below aim)) (calls c.below) (λ r. walked c.below r aim) (λ w. in_walk w aim) (is_machine (way_of c.below aim)) (walk_of_call c.below aim)
      true (walk.begins (way_of c.below aim) path) lines (ends reply) tt leads in
      let part : Parted s c.actor split.first split.rest lines = parted s c.actor split.first split.rest lines split.joined legal in
      let t : State = after_events s (events_of c.actor split.first) in
      let w : Walked s t c.actor c.root (way_of c.below aim) path split.first split.at =
      walked_alone s c.actor c.root (way_of c.below aim) path has plain split.first split.at split.over split.led part.legal in
      subst (λ e. ComesTo c e true lines (whole (found_by s c.root (way_of c.below aim) path)) reply) part.after
      (at_the_end t split.room_there split.first split.rest lines w.tree w.nodes
      (λ error met. inl (met_within split.first split.rest lines error split.joined (inl met)))
      (λ error met. inl (met_within split.first split.rest lines error split.joined
      (⊎_elim (λ q. inr q) (λ q. inl (subst (MetWant split.first) (sym q.1) (begun_with_room split.first (⊎_elim (λ e. inl e) (λ short. inr (short_met split.first short)) (split.short q.0))))) met)))
      part.legal_rest split.at w.comes split.onward)

-- ---- the call's own step

pub acts_short : (c : Caller) (t end : State) (room : Bool) (lines : List Line) (reply : Reply) → t.nodes ≡ c.tree.nodes
    → ((error : Errno) × ((reply ≡ fault error) × (is_want error ≡ true) × (end.nodes ≡ t.nodes) × MetWant lines error)) → RanShort c end room lines reply
acts_short c t end room lines reply same short =
    record { error = short.0; is_reply = short.1.0; want = short.1.1; met = inl short.1.3; nodes = short.1.2 ∙ same }

is_read : (c : Caller) (t end : State) (reply : Reply) → t.nodes ≡ c.tree.nodes → (o : Option Object)
    → reply ≡ reply_to wants.Text (reads t o).answer → end.nodes ≡ (reads t o).after.nodes → IsDone c end (tells c has_text (text_of o)) reply
is_read c t end reply same None told after = record { is_reply = subst (IsReply c end (fails Invalid)) (sym told) refl; nodes = after ∙ same }
is_read c t end reply same (Some object.Dir) told after = record { is_reply = subst (IsReply c end (fails Invalid)) (sym told) refl; nodes = after ∙ same }
is_read c t end reply same (Some object.File) told after = record { is_reply = subst (IsReply c end (fails Invalid)) (sym told) refl; nodes = after ∙ same }
is_read c t end reply same (Some (object.Link text)) told after =
    record { is_reply = subst (IsReply c end (has_text text)) (sym told) refl; nodes = after ∙ same }

-- ---- the operations

module _ (c : Caller) (has : HasRoot c.tree c.actor c.below.root.handle c.root) where
  -- a fault of a text ends the call at once
  pub faults_alone : (error : Errno) (room : Bool) (lines : List Line) (reply : Reply) → LeadsTo c.below (ends (fault error)) lines (ends reply)
      → ComesTo c (after_events c.tree (events_of c.actor lines)) room lines (record { reply = fails error; nodes = c.tree.nodes }) reply
  faults_alone error room lines reply leads = inl (fails_alone c c.tree refl [] error lines reply leads)

  abbrev pub ground_here : Ground
  ground_here = record { nodes = c.tree.nodes; root = c.root; flags = c.below.flags }

  opens_onward : (goal : Goal) (reply : Reply) → Onward c c.tree (Opens goal) (tells c is_open) reply
  opens_onward goal reply t handle names room [] tree nodes finds leads legal =
      let told : opened handle names ≡ reply = cc (leads) in
      inl (record {
        is_reply = subst (IsReply c t (is_open handle.node)) told
            (record {
              node = refl;
              is_open = finds.is_open;
              fresh = finds.fresh;
              kind = ap (λ ns. option_map kind_of (object_at ns handle.node)) nodes ∙ finds.kind;
              stands = subst (λ ns. Stands ns c.root handle.node names) (sym nodes) finds.stands;
            });
        nodes = nodes;
      })
  opens_onward goal reply t handle names room (line ∷ rest) tree nodes finds leads legal = absurd leads

  pub opens_alone : (goal : Goal) → is_deepest goal ≡ false → (text : List ℕ) (found_fault : Option Errno) (lines : List Line) (reply : Reply)
      → LeadsTo c.below (unless_fault found_fault (walks c.below (Opens goal) (reading_of text))) lines (ends reply)
      → IsLegal c.tree (events_of c.actor lines)
      → ComesTo c (after_events c.tree (events_of c.actor lines)) true lines (tells c is_open (meaning.found (resolution (resolves ground_here text (follows goal) found_fault)))) reply
  opens_alone goal plain text (Some error) lines reply leads legal = faults_alone error true lines reply leads
  opens_alone goal plain text None lines reply leads legal =
      walks_then c c.tree has refl (Opens goal) plain (reading_of text) reply (tells c is_open) (λ error. refl) (opens_onward goal reply) lines leads legal

  abbrev pub text_here : Result ℕ Errno → Whole
  text_here r = tells c has_text (and_then r (λ x. text_of (object_at c.tree.nodes x)))

  reads_onward : (reply : Reply) → Onward c c.tree Reads text_here reply
  reads_onward reply t handle names room rest tree nodes finds leads legal =
      on (acts_alone c.below c.actor wants.Text (ReadLink handle.number) (handle.number ∷ []) reply t rest leads legal)
    where
      is : outcome t c.actor (ReadLink handle.number) ≡ reads t (object_at c.tree.nodes handle.node)
      is = read_is t c.actor handle.number handle.node finds.is_open ∙ ap (λ ns. reads t (object_at ns handle.node)) nodes

      on : Acts t c.actor wants.Text (ReadLink handle.number) (after_events t (events_of c.actor rest)) rest reply
          → ComesTo c (after_events t (events_of c.actor rest)) room rest (text_here (Ok handle.node)) reply
      on (inl short) = inr (acts_short c t (after_events t (events_of c.actor rest)) room rest reply nodes short)
      on (inr acted) = inl (is_read c t (after_events t (events_of c.actor rest)) reply nodes (object_at c.tree.nodes handle.node)
          (acted.0 ∙ ap (λ o. reply_to wants.Text o.answer) is) (acted.1 ∙ ap (λ o. o.after.nodes) is))

  pub reads_alone : (text : List ℕ) (found_fault : Option Errno) (lines : List Line) (reply : Reply)
      → LeadsTo c.below (unless_fault found_fault (walks c.below Reads (reading_of text))) lines (ends reply)
      → IsLegal c.tree (events_of c.actor lines)
      → ComesTo c (after_events c.tree (events_of c.actor lines)) true lines (text_here (meaning.found (resolution (resolves ground_here text false found_fault)))) reply
  reads_alone text (Some error) lines reply leads legal = faults_alone error true lines reply leads
  reads_alone text None lines reply leads legal =
      walks_then c c.tree has refl Reads refl (reading_of text) reply text_here (λ error. refl) (reads_onward reply) lines leads legal

  abbrev changed_here : Change → List ℕ → Result ℕ Errno → Whole
  changed_here change n r = changes c (and_then r (λ d. change_of change c.tree.nodes d n))

  changes_onward : (change : Change) (n : List ℕ) (reply : Reply) → Onward c c.tree (Changes change n) (changed_here change n) reply
  changes_onward change n reply t handle names room rest tree nodes finds leads legal =
      on (acts_alone c.below c.actor wants.Done (change_step change handle.number n) (handle.number ∷ []) reply t rest leads legal)
    where
      is : outcome t c.actor (change_step change handle.number n) ≡ made t (change_of change c.tree.nodes handle.node n)
      is = change_is t c.actor handle.number handle.node n finds.is_open change ∙ ap (λ ns. made t (change_of change ns handle.node n)) nodes

      on : Acts t c.actor wants.Done (change_step change handle.number n) (after_events t (events_of c.actor rest)) rest reply
          → ComesTo c (after_events t (events_of c.actor rest)) room rest (changed_here change n (Ok handle.node)) reply
      on (inl short) = inr (acts_short c t (after_events t (events_of c.actor rest)) room rest reply nodes short)
      on (inr acted) = inl (is_changed c t (after_events t (events_of c.actor rest)) reply nodes (change_of change c.tree.nodes handle.node n)
          (acted.0 ∙ ap (λ o. reply_to wants.Done o.answer) is) (acted.1 ∙ ap (λ o. o.after.nodes) is))

  pub changes_alone : (change : Change) (found_fault : Option Errno) (split : Result SplitPath Errno) (lines : List Line) (reply : Reply)
      → LeadsTo c.below (unless_fault found_fault (in_directory c.below change split)) lines (ends reply)
      → IsLegal c.tree (events_of c.actor lines)
      → ComesTo c (after_events c.tree (events_of c.actor lines)) true lines
      (changes c (and_then (refuse_by found_fault split) (λ at. and_then (directory_of c at.dir) (λ d. change_of change c.tree.nodes d at.name)))) reply
  changes_alone change (Some error) split lines reply leads legal = faults_alone error true lines reply leads
  changes_alone change None (Err error) lines reply leads legal = faults_alone error true lines reply leads
  changes_alone change None (Ok at) lines reply leads legal =
      walks_then c c.tree has refl (Changes change at.name) refl at.dir reply (changed_here change at.name) (λ error. refl) (changes_onward change at.name reply) lines leads legal
