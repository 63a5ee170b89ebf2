-- A step that changes an entry was made at the moment of its one system call, and the tree behind that is the one that
-- the step leaves.
use Rattle.std.proofs.Common.{◌≡◌, inl, inr, ℕ, suc, false, List, Option, Some, Result, Ok, Err, refl, sym, ap, ◌∙◌, subst}
use Rattle.path_text.specs.declared.errno.Errno.{Errno}
use Rattle.path_text.specs.declared.errno.Errno.TheVariants.{BadHandle, NotEmpty}
use Rattle.tree_model.specs.declared.answer.Answer.{Answer}
use Rattle.tree_model.specs.declared.answer.Answer.TheVariants.{Done, Refused}
use Rattle.tree_model.specs.declared.inode.Inode.{Inode}
use Rattle.tree_model.specs.declared.inode.Object.TheVariants as object
use Rattle.tree_model.specs.declared.step.StepOf.TheVariants as steps
use Rattle.tree_model.specs.Entries.{makes, makes_link, removes_dir, removes_file, renames, with_some}
use Rattle.tree_model.specs.State.{State}
use Rattle.tree_model.specs.Steps.{Outcome, changes, held, on_handle, outcome, refused}
use Rattle.tree_model.specs.StepLaws.{is_close_of}
use Rattle.tree_model.specs.StepWith.{StepWith}
use Rattle.linux_steps.specs.Changes.{change_ended, ChangeStood, IsExcepted}
use Rattle.linux_steps.specs.declared.ended.Ended.{Ended}
use Rattle.linux_steps.specs.declared.ended.Ended.TheVariants as ended
use Rattle.linux_steps.proofs.RenameLemmas.{changes-stood}
use Rattle.root_ops.specs.Renumbered.{Numbering, step_by, answer_by}
use Rattle.calls_by_system_calls.specs.Linux.{Change, Linux, both_open, found_behind, state_at, with_change}
use Rattle.calls_by_system_calls.specs.Changes.{IsChange, TellsChange}
use Rattle.calls_by_system_calls.specs.Lines.{after_step, number_opened, ChangeIsMade, Descriptors}
use Rattle.calls_by_system_calls.proofs.AtMoment.{leaves, numbering}

-- ---- the same change in two trees with the same nodes

-- answered the same, and the nodes are the same after it
record SameChange (t : State) (o p : Outcome) : Type 0 where
  answer : p.answer ≡ o.answer
  after : p.after ≡ record { nodes = o.after.nodes; handles = t.handles }

same_changes : (s t : State) (r : List Inode → Result (List Inode) Errno) → t.nodes ≡ s.nodes
    → SameChange t (changes s (r s.nodes)) (changes t (r t.nodes))
same_changes s t r same =
    subst (λ q. SameChange t (changes s (r s.nodes)) (changes t q)) (sym (ap r same)) (on (r s.nodes))
  where
    on : (q : Result (List Inode) Errno) → SameChange t (changes s q) (changes t q)
    on (Err error) = record { answer = refl; after = λ i. record { nodes = same i; handles = t.handles } }
    on (Ok nodes) = record { answer = refl; after = refl }

by_handle : (s t : State) (k d : ℕ) (r : ℕ → List Inode → Result (List Inode) Errno) → t.nodes ≡ s.nodes
    → held t 0 k ≡ Some d
    → SameChange t (changes s (r d s.nodes)) (on_handle t 0 k (λ e. changes t (r e t.nodes)))
by_handle s t k d r same on =
    subst (λ (o : Option ℕ). SameChange t (changes s (r d s.nodes))
    (with_some o (refused t BadHandle) (λ e. changes t (r e t.nodes))))
    (sym on) (same_changes s t (r d) same)

by_both : (s t : State) (k d j f : ℕ) (r : ℕ → ℕ → List Inode → Result (List Inode) Errno) → t.nodes ≡ s.nodes
    → held t 0 k ≡ Some d → held t 0 j ≡ Some f
    → SameChange t (changes s (r d f s.nodes)) (on_handle t 0 k (λ e. on_handle t 0 j (λ g. changes t (r e g t.nodes))))
by_both s t k d j f r same on other =
    subst (λ (o : Option ℕ). SameChange t (changes s (r d f s.nodes))
    (with_some o (refused t BadHandle) (λ e. on_handle t 0 j (λ g. changes t (r e g t.nodes)))))
    (sym on) (by_handle s t j f (r d) same other)

-- ---- one call

-- In each tree with the nodes that the call finds, where the handles are open, the step is answered so, and leaves the
-- nodes that the call leaves.
pub record Changed (x : Linux) (nodes : ℕ → ℕ) (m calls : ℕ) (table : Descriptors) (step : StepWith ℕ)
    (answer : Answer) : Type 0 where
  pub one : calls ≡ 1
  pub tells : (t : State) (f : ℕ → ℕ) → t.nodes ≡ (found_behind x m).nodes
      → ((h d : ℕ) → table.on h ≡ Some d → held t 0 (f h) ≡ Some d)
      → ((g : ℕ → ℕ) → (outcome t 0 (step_by (numbering f nodes) step)).answer ≡ answer_by (numbering g nodes) answer)
      × ((outcome t 0 (step_by (numbering f nodes) step)).after
      ≡ record { nodes = (state_at x (suc m)).nodes; handles = t.handles })
  pub handles : (state_at x (suc m)).handles ≡ (found_behind x m).handles
  pub opens_none : (hs : List ℕ) → number_opened answer hs ≡ hs
  pub same_table : after_step nodes table step answer ≡ table
  pub by_handles : (f g : ℕ → ℕ) → ((h d : ℕ) → table.on h ≡ Some d → f h ≡ g h)
      → step_by (numbering f nodes) step ≡ step_by (numbering g nodes) step

-- ---- what the program tells

-- what was told is what the table tells
told : (s : State) (step : StepWith ℕ) (end : Ended) (answer : Answer) → ChangeStood s 0 step end
    → TellsChange end answer → (answer ≡ Refused NotEmpty → IsExcepted s 0 step → ⊥)
    → (outcome s 0 step).answer ≡ answer
told s step ended.Done Done stood tells not = stood
told s step (ended.Refused why) (Refused error) (inl is) tells not = is ∙ ap Refused (sym tells)
told s step (ended.Refused why) (Refused error) (inr o) tells not = absurd (not (ap Refused (tells ∙ o.0)) o.1)
told s step end answer stood tells not = absurd tells

data IsPlain : Answer → Type 0 where
  done : IsPlain Done
  refuses : (error : Errno) → IsPlain (Refused error)

plain : (end : Ended) (answer : Answer) → TellsChange end answer → IsPlain answer
plain ended.Done Done tells = done
plain (ended.Refused why) (Refused error) tells = refuses error
plain end answer tells = absurd tells

opens_none : {answer : Answer} → IsPlain answer → (hs : List ℕ) → number_opened answer hs ≡ hs
opens_none done hs = refl
opens_none (refuses error) hs = refl

by_no_number : {answer : Answer} → IsPlain answer → (f : Numbering) → answer ≡ answer_by f answer
by_no_number done f = refl
by_no_number (refuses error) f = refl

leaves_table : {answer : Answer} → IsPlain answer → (nodes : ℕ → ℕ) (table : Descriptors) (step : StepWith ℕ)
    → ((j : ℕ) → is_close_of j step ≡ false) → after_step nodes table step answer ≡ table
leaves_table done nodes table step other = leaves nodes table step Done other (λ h y k e. cc (e))
leaves_table (refuses error) nodes table step other = leaves nodes table step (Refused error) other (λ h y k e. cc (e))

module _ (x : Linux) (nodes : ℕ → ℕ) (m calls : ℕ) (table : Descriptors) where
  -- where a step by handles on the same directories does the same as the step of the call
  changed : (d e : ℕ) (called step : StepWith ℕ) (answer : Answer) → IsChange x m calls d e called answer
      → ((t : State) (f : ℕ → ℕ) → t.nodes ≡ (found_behind x m).nodes
      → ((h d : ℕ) → table.on h ≡ Some d → held t 0 (f h) ≡ Some d)
      → SameChange t (outcome (both_open (found_behind x m).nodes d e) 0 called)
      (outcome t 0 (step_by (numbering f nodes) step)))
      → ((j : ℕ) → is_close_of j step ≡ false)
      → ((f g : ℕ → ℕ) → ((h d : ℕ) → table.on h ≡ Some d → f h ≡ g h)
      → step_by (numbering f nodes) step ≡ step_by (numbering g nodes) step)
      → Changed x nodes m calls table step answer
  changed d e called step answer is same other by_handles =
      let found = both_open (found_behind x m).nodes d e in
      let left : (state_at x (suc m)).nodes ≡ (outcome found 0 called).after.nodes =
      ap (λ (o : Option Change). (with_change (found_behind x m) o).nodes) is.own in
      let at = told found called (change_ended called is.second_name is.error) answer
      (changes-stood found 0 called is.second_name is.error is.says) is.tells is.not_above in
      let p = plain (change_ended called is.second_name is.error) answer is.tells in
      record {
        one = is.one;
        tells = λ t f e helds.
            let it = same t f e helds in (
              (λ g. it.answer ∙ at ∙ by_no_number p (numbering g nodes)),
              it.after ∙ ap (λ (ns : List Inode). record { nodes = ns; handles = t.handles }) (sym left),
            );
        handles = ap (λ (o : Option Change). (with_change (found_behind x m) o).handles) is.own;
        opens_none = opens_none p;
        same_table = leaves_table p nodes table step other;
        by_handles = by_handles;
      }

  -- a step by one handle
  by_one : (step : ℕ → StepWith ℕ) (does : ℕ → List Inode → Result (List Inode) Errno)
      → ((f : Numbering) (h : ℕ) → step_by f (step h) ≡ step (f.handle h))
      → ((t : State) (h : ℕ) → outcome t 0 (step h) ≡ on_handle t 0 h (λ d. changes t (does d t.nodes)))
      → ((h j : ℕ) → is_close_of j (step h) ≡ false)
      → (h dir : ℕ) (answer : Answer) → table.on h ≡ Some dir → IsChange x m calls dir dir (step 0) answer
      → Changed x nodes m calls table (step h) answer
  by_one step does by is other h dir answer on made =
      let found = both_open (found_behind x m).nodes dir dir in
      changed dir dir (step 0) (step h) answer made
      (λ t f e helds.
      subst (λ o. SameChange t o (outcome t 0 (step_by (numbering f nodes) (step h)))) (sym (is found 0))
      (subst (SameChange t (changes found (does dir found.nodes)))
      (sym (ap (outcome t 0) (by (numbering f nodes) h) ∙ is t (f h)))
      (by_handle found t (f h) dir does e (helds h dir on))))
      (other h)
      (λ f g same. by (numbering f nodes) h ∙ ap step (same h dir on) ∙ sym (by (numbering g nodes) h))

  pub changed_at_call : (step : StepWith ℕ) (answer : Answer) → ChangeIsMade x m table calls step answer
      → Changed x nodes m calls table step answer
  changed_at_call (steps.MakeDir h name) answer made =
      by_one (λ i. steps.MakeDir i name) (λ d ns. makes ns d name object.Dir) (λ f i. refl) (λ t i. refl) (λ i j. refl)
      h made.0 answer made.1 made.2
  changed_at_call (steps.MakeFile h name) answer made =
      by_one (λ i. steps.MakeFile i name) (λ d ns. makes ns d name object.File) (λ f i. refl) (λ t i. refl)
      (λ i j. refl) h made.0 answer made.1 made.2
  changed_at_call (steps.MakeLink h name text) answer made =
      by_one (λ i. steps.MakeLink i name text) (λ d ns. makes_link ns d name text) (λ f i. refl) (λ t i. refl)
      (λ i j. refl) h made.0 answer made.1 made.2
  changed_at_call (steps.RemoveFile h name) answer made =
      by_one (λ i. steps.RemoveFile i name) (λ d ns. removes_file ns d name) (λ f i. refl) (λ t i. refl) (λ i j. refl)
      h made.0 answer made.1 made.2
  changed_at_call (steps.RemoveDir h name) answer made =
      by_one (λ i. steps.RemoveDir i name) (λ d ns. removes_dir ns d name) (λ f i. refl) (λ t i. refl) (λ i j. refl)
      h made.0 answer made.1 made.2
  changed_at_call (steps.Rename h name k new mode) answer made =
      changed made.0 made.1 (steps.Rename 0 name 1 new mode) (steps.Rename h name k new mode) answer made.4
      (λ t f e helds. by_both (both_open (found_behind x m).nodes made.0 made.1) t (f h) made.0 (f k) made.1
      (λ d g ns. renames ns d name g new mode) e (helds h made.0 made.2) (helds k made.1 made.3))
      (λ j. refl) (λ f g same i. steps.Rename (same h made.0 made.2 i) name (same k made.1 made.3 i) new mode)
  changed_at_call step answer made = absurd made
