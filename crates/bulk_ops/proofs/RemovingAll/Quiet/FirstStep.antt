-- The first step of clearing is refused ENOTDIR where the walk's object is no directory, and the call fails.
use Rattle.std.specs.Prelude.{◌≡◌, ℕ, List, [], ◌∷◌, ◌++◌, false, not, Some, None, Ok, Err}
use Rattle.std.proofs.Common.{ap, subst, ◌∙◌, inl, inr}
use Rattle.path_text.specs.declared.errno.Errno.{Errno}
use Rattle.path_text.specs.declared.errno.Errno.TheVariants.{NotFound, BadHandle, NoMemory, BookFull, NotDir, IsDir}
use Rattle.tree_model.specs.declared.answer.Answer.{Answer}
use Rattle.tree_model.specs.declared.answer.Answer.TheVariants.{Refused}
use Rattle.tree_model.specs.declared.answer.Event.{Event}
use Rattle.tree_model.specs.StepWith.{StepWith}
use Rattle.tree_model.specs.declared.step.StepOf.TheVariants.{RemoveFile}
use Rattle.tree_model.specs.State.{State, child, is_dir, put_at}
use Rattle.tree_model.specs.Steps.{refused, changes, outcome, held}
use Rattle.tree_model.specs.Entries.{refuse_if, with_some}
use Rattle.tree_model.specs.History.{IsLegal}
use Rattle.step_machine.specs.Machine.{taken}
use Rattle.step_resolver.specs.Order.{Way, Line, answered, no_room, not_made, IsWant, events_of}
use Rattle.step_resolver.specs.Order as walk
use Rattle.bulk_ops.specs.RemoveAllOrder.{Level, removes_file, fails, closing, clearing, Turn, more, removed, failed, walked, file_removed, LeadsTo}

-- after the walk's lines the others lead on from what it found
pub after_walk : (way : Way) (target : List ℕ) (lines rest : List Line) (first turn : walk.Turn) (end : Turn) → walk.LeadsTo way first lines turn
    → LeadsTo (walked way target first) (lines ++ rest) end → LeadsTo (walked way target turn) rest end
after_walk way target [] rest first turn end walks leads = subst (λ t. LeadsTo (walked way target t) rest end) walks leads
after_walk way target (line ∷ lines) rest (walk.more w) turn end walks leads =
    after_walk way target lines rest (taken (walk.walks way) w line) turn end walks.1 leads.1
after_walk way target (line ∷ lines) rest (walk.found handle names) turn end walks leads = absurd walks
after_walk way target (line ∷ lines) rest (walk.partial handle names parts) turn end walks leads = absurd walks
after_walk way target (line ∷ lines) rest (walk.failed error) turn end walks leads = absurd walks

-- a call that closes and then fails removes nothing
closing_fails : (h : ℕ) (error : Errno) (lines : List Line) (count : ℕ) → LeadsTo (more (closing h [] (fails error))) lines (removed count) → ⊥
closing_fails h error lines count leads = on lines leads
  where
    over : (rest : List Line) → LeadsTo (failed error) rest (removed count) → ⊥
    over [] e = cc (e)
    over (line ∷ rest) e = absurd e

    on : (ls : List Line) → LeadsTo (more (closing h [] (fails error))) ls (removed count) → ⊥
    on [] e = cc (e)
    on (line ∷ rest) e = over rest e.1

file_refused : (s : State) (a h d : ℕ) (n : List ℕ) → held s a h ≡ Some d → is_dir s.nodes d ≡ false → outcome s a (RemoveFile h n) ≡ refused s NotDir
file_refused s a h d n there none =
    ap (λ o. with_some o (refused s BadHandle) (λ y. changes s (refuse_if (not (is_dir s.nodes y)) (Err NotDir)
    (with_some (child s.nodes y n) (Err NotFound) (λ c. refuse_if (is_dir s.nodes c) (Err IsDir) (Ok (put_at s.nodes c None))))))) there
    ∙ ap (λ b. changes s (refuse_if (not b) (Err NotDir)
    (with_some (child s.nodes d n) (Err NotFound) (λ c. refuse_if (is_dir s.nodes c) (Err IsDir) (Ok (put_at s.nodes c None)))))) none

module _ (s : State) (a h d : ℕ) (target : List ℕ) (open_there : held s a h ≡ Some d) (no_dir : is_dir s.nodes d ≡ false) (left count : ℕ) where
  abbrev level : Level
  level = record { dir = h; name = target; others = [] }

  on_answer : (answer : Answer) (rest : List Line) → answer ≡ Refused NotDir → LeadsTo (file_removed level [] 0 left answer) rest (removed count) → ⊥
  on_answer answer rest e leads = closing_fails h NotDir rest count (subst (λ v. LeadsTo (file_removed level [] 0 left v) rest (removed count)) e leads)

  told : (step : StepWith ℕ) (answer : Answer) → step ≡ RemoveFile h target → answer ≡ (outcome s a step).answer → answer ≡ Refused NotDir
  told step answer is legal = legal ∙ ap (λ v. (outcome s a v).answer) is ∙ ap (λ o. o.answer) (file_refused s a h d target open_there no_dir)

  on_want : (error : Errno) (rest : List Line) → IsWant error → LeadsTo (file_removed level [] 0 left (Refused error)) rest (removed count) → ⊥
  on_want error rest (inl e) leads = closing_fails h NoMemory rest count (subst (λ v. LeadsTo (file_removed level [] 0 left (Refused v)) rest (removed count)) e leads)
  on_want error rest (inr e) leads = closing_fails h BookFull rest count (subst (λ v. LeadsTo (file_removed level [] 0 left (Refused v)) rest (removed count)) e leads)

  -- so that no lines of it lead to a count
  pub removes_none : (lines : List Line) → LeadsTo (more (clearing removes_file level [] 0 left)) lines (removed count) → IsLegal s (events_of a lines) → ⊥
  removes_none [] leads legal = cc (leads)
  removes_none (answered step answer ∷ rest) leads legal = on_answer answer rest (told step answer leads.0 legal.0) leads.1
  removes_none (no_room step answer ∷ rest) leads legal = on_answer answer rest (told step answer leads.0 legal.0) leads.1
  removes_none (not_made error ∷ rest) leads legal = on_want error rest leads.0.0 leads.1

-- what follows equal fronts is equal
abbrev rest_of : List Event → List Event
rest_of [] = []
rest_of (event ∷ events) = events

pub same_rest : (first second others : List Event) → first ++ second ≡ first ++ others → second ≡ others
same_rest [] second others e = e
same_rest (event ∷ first) second others e = same_rest first second others (ap rest_of e)
