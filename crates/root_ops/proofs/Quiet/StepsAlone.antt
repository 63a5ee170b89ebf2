-- A call's own step and its closings, where nobody else acts.
use Rattle.std.proofs.Common.{◌≡◌, ◌⊎◌, inl, inr, ℕ, List, [], ◌∷◌, Bool, true, Result, Ok, Err, Option, Some, refl, sym, ap, ◌∙◌, subst}
use Rattle.path_text.specs.declared.errno.Errno.{Errno}
use Rattle.path_text.specs.declared.errno.Errno.TheVariants.{BadHandle}
use Rattle.tree_model.specs.declared.answer.Answer.{Answer}
use Rattle.tree_model.specs.declared.answer.Answer.TheVariants.{Refused}
use Rattle.tree_model.specs.declared.inode.Inode.{Inode}
use Rattle.tree_model.specs.declared.inode.Object.TheVariants as object
use Rattle.tree_model.specs.StepWith.{StepWith}
use Rattle.tree_model.specs.State.{State}
use Rattle.tree_model.specs.Entries.{with_some, makes, makes_link, removes_file, removes_dir}
use Rattle.tree_model.specs.Steps.{Outcome, outcome, held, refused, changes}
use Rattle.tree_model.specs.StepLaws.{is_on_entries}
use Rattle.tree_model.specs.History.{IsLegal, after_events}
use Rattle.tree_model.proofs.StepLaws.{nodes_are_left}
use Rattle.step_resolver.specs.Order.{Line, answered, no_room, not_made, events_of, IsWant}
use Rattle.step_resolver.specs.Footprint.{is_want}
use Rattle.root_ops.specs.declared.aim.Change.{Change}
use Rattle.root_ops.specs.declared.aim.Change.TheVariants.{MakeFile, MakeDir, MakeLink, RemoveFile, RemoveDir}
use Rattle.root_ops.specs.declared.aim.Wanted.{Wanted}
use Rattle.root_ops.specs.declared.aim.Wanted.TheVariants as wants
use Rattle.root_ops.specs.declared.below.Below.{Below}
use Rattle.root_ops.specs.Meaning.{Caller, Whole, fails}
use Rattle.root_ops.specs.Acts.{change_of}
use Rattle.root_ops.specs.Meaning as meaning
use Rattle.root_ops.specs.Order.{Reply, fault, gives, acting, more, ends, closes, gives_up, change_step, reply_to, LeadsTo}
use Rattle.root_ops.specs.Quiet.{MetWant, MetBy, IsReply, IsDone, RanShort, ComesTo}

-- ---- closings

pub closes_alone : (below : Below) (a : ℕ) (hs : List ℕ) (told reply : Reply) (t : State) (lines : List Line)
    → LeadsTo below (closes hs (gives told)) lines (ends reply) → (reply ≡ told) × ((after_events t (events_of a lines)).nodes ≡ t.nodes)
closes_alone below a [] told reply t [] leads = (cc (leads), refl)
closes_alone below a [] told reply t (line ∷ lines) leads = absurd leads
closes_alone below a (h ∷ hs) told reply t [] leads = cc (leads)
closes_alone below a (h ∷ hs) told reply t (answered step answer ∷ lines) leads =
    let rest = closes_alone below a hs told reply (outcome t a step).after lines leads.1 in
    (rest.0, rest.1 ∙ nodes_are_left t a step (ap is_on_entries leads.0))
closes_alone below a (h ∷ hs) told reply t (no_room step answer ∷ lines) leads =
    let rest = closes_alone below a hs told reply (outcome t a step).after lines leads.1 in
    (rest.0, rest.1 ∙ nodes_are_left t a step (ap is_on_entries leads.0))
closes_alone below a (h ∷ hs) told reply t (not_made error ∷ lines) leads = cc (leads.0.1)

-- after the closings the call fails, and no node is changed
module _ (c : Caller) (t : State) (same : t.nodes ≡ c.tree.nodes) (hs : List ℕ) (error : Errno) (lines : List Line) (reply : Reply)
    (leads : LeadsTo c.below (gives_up hs error) lines (ends reply)) where
  abbrev end : State
  end = after_events t (events_of c.actor lines)

  closed : (reply ≡ fault error) × (end.nodes ≡ t.nodes)
  closed = closes_alone c.below c.actor hs (fault error) reply t lines leads

  pub fails_alone : IsDone c end (record { reply = fails error; nodes = c.tree.nodes }) reply
  fails_alone = record { is_reply = subst (IsReply c end (fails error)) (sym closed.0) refl; nodes = closed.1 ∙ same }

  pub runs_short : (room : Bool) (all : List Line) → MetBy room all error → is_want error ≡ true → RanShort c end room all reply
  runs_short room all met want = record { error = error; is_reply = closed.0; want = want; met = met; nodes = closed.1 ∙ same }

-- a want that was met at some of the lines was met
pub widened : (c : Caller) (last : State) (room : Bool) (lines : List Line) (room' : Bool) (lines' : List Line) (whole : Whole) (reply : Reply)
    → ((error : Errno) → MetBy room lines error → MetBy room' lines' error)
    → ComesTo c last room lines whole reply → ComesTo c last room' lines' whole reply
widened c last room lines room' lines' whole reply within (inl is) = inl is
widened c last room lines room' lines' whole reply within (inr short) =
    inr (record { error = short.error; is_reply = short.is_reply; want = short.want; met = within short.error short.met; nodes = short.nodes })

pub met_later : (room : Bool) (line : Line) (lines : List Line) (error : Errno) → MetBy room lines error → MetBy room (line ∷ lines) error
met_later room line lines error (inl met) = inl (inr met)
met_later room line lines error (inr short) = inr short

-- ---- the call's own step

-- it was refused for a want; or it was made, and its answer gives the reply
abbrev pub Acts : State → ℕ → Wanted → StepWith ℕ → State → List Line → Reply → Type 0
Acts t a wanted step end lines reply =
    ((error : Errno) × ((reply ≡ fault error) × (is_want error ≡ true) × (end.nodes ≡ t.nodes) × MetWant lines error))
    ⊎ ((reply ≡ reply_to wanted (outcome t a step).answer) × (end.nodes ≡ (outcome t a step).after.nodes))

pub refused_reply : (wanted : Wanted) (error : Errno) → reply_to wanted (Refused error) ≡ fault error
refused_reply wants.Done error = refl
refused_reply wants.Text error = refl
refused_reply wants.Any error = refl

pub is_a_want : (error : Errno) → IsWant error → is_want error ≡ true
is_a_want error (inl e) = ap is_want e
is_a_want error (inr e) = ap is_want e

module _ (below : Below) (a : ℕ) (wanted : Wanted) (step : StepWith ℕ) (hs : List ℕ) (reply : Reply) (t : State) where
  step_made : (made : StepWith ℕ) (answer : Answer) (lines all : List Line) → made ≡ step → answer ≡ (outcome t a made).answer
      → LeadsTo below (closes hs (gives (reply_to wanted answer))) lines (ends reply)
      → Acts t a wanted step (after_events (outcome t a made).after (events_of a lines)) all reply
  step_made made answer lines all same told leads =
      let rest = closes_alone below a hs (reply_to wanted answer) reply (outcome t a made).after lines leads in
      inr (
        rest.0 ∙ ap (reply_to wanted) (told ∙ ap (λ st. (outcome t a st).answer) same),
        rest.1 ∙ ap (λ st. (outcome t a st).after.nodes) same,
      )

  pub acts_alone : (lines : List Line) → LeadsTo below (more (acting wanted step hs)) lines (ends reply) → IsLegal t (events_of a lines)
      → Acts t a wanted step (after_events t (events_of a lines)) lines reply
  acts_alone [] leads legal = cc (leads)
  acts_alone (answered made answer ∷ lines) leads legal = step_made made answer lines (answered made answer ∷ lines) leads.0 legal.0 leads.1
  acts_alone (no_room made answer ∷ lines) leads legal = step_made made answer lines (no_room made answer ∷ lines) leads.0 legal.0 leads.1
  acts_alone (not_made error ∷ lines) leads legal =
      let rest = closes_alone below a hs (reply_to wanted (Refused error)) reply t lines leads.1 in
      inl (error, (rest.0 ∙ refused_reply wanted error, is_a_want error leads.0.0, rest.1, inl refl))

-- ---- changes of entries

abbrev on_directory : State → (ℕ → Result (List Inode) Errno) → Option ℕ → Outcome
on_directory t change o = with_some o (refused t BadHandle) (λ d. changes t (change d))

pub change_is : (t : State) (a h d : ℕ) (n : List ℕ) → held t a h ≡ Some d → (change : Change)
    → outcome t a (change_step change h n) ≡ changes t (change_of change t.nodes d n)
change_is t a h d n e MakeFile = ap (on_directory t (λ x. makes t.nodes x n object.File)) e
change_is t a h d n e MakeDir = ap (on_directory t (λ x. makes t.nodes x n object.Dir)) e
change_is t a h d n e (MakeLink text) = ap (on_directory t (λ x. makes_link t.nodes x n text)) e
change_is t a h d n e RemoveFile = ap (on_directory t (λ x. removes_file t.nodes x n)) e
change_is t a h d n e RemoveDir = ap (on_directory t (λ x. removes_dir t.nodes x n)) e

-- a change that was made, or refused, is what is meant
pub is_changed : (c : Caller) (t end : State) (reply : Reply) → t.nodes ≡ c.tree.nodes → (result : Result (List Inode) Errno)
    → reply ≡ reply_to wants.Done (changes t result).answer → end.nodes ≡ (changes t result).after.nodes
    → IsDone c end (meaning.changes c result) reply
is_changed c t end reply same (Ok nodes) told after =
    record { is_reply = subst (IsReply c end meaning.is_done) (sym told) tt; nodes = after }
is_changed c t end reply same (Err error) told after =
    record { is_reply = subst (IsReply c end (fails error)) (sym told) refl; nodes = after ∙ same }
