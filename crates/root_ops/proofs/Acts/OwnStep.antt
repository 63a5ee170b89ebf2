-- A call's own step and its closings, while others act: the own event that the step is, and what its answer comes of.
use Rattle.std.specs.Prelude.{◌≡◌, ◌≢◌, ℕ, zero, suc, ◌≤◌, ◌⊎◌, List, [], ◌∷◌, true, false, Option, Some, None, Result, Ok, Err, refl}
use Rattle.std.proofs.Common.{sym, ap, subst, ◌∙◌, inl, inr, arith}
use Rattle.std.proofs.lemmas.Bool.{false≢true}
use Rattle.path_text.specs.declared.errno.Errno.{Errno}
use Rattle.path_text.specs.declared.errno.Errno.TheVariants.{Invalid}
use Rattle.tree_model.specs.declared.answer.Answer.{Answer}
use Rattle.tree_model.specs.declared.answer.Answer.TheVariants.{Refused}
use Rattle.tree_model.specs.declared.inode.Inode.{Inode}
use Rattle.tree_model.specs.declared.inode.Object.{Object}
use Rattle.tree_model.specs.declared.inode.Object.TheVariants as object
use Rattle.tree_model.specs.StepWith.{StepWith}
use Rattle.tree_model.specs.declared.step.StepOf.TheVariants as steps
use Rattle.tree_model.specs.State.{State, object_at}
use Rattle.tree_model.specs.Steps.{Outcome, changes, reads}
use Rattle.tree_model.specs.StepLaws.{is_on_entries}
use Rattle.tree_model.proofs.StepLaws.{nodes_are_left}
use Rattle.step_resolver.specs.Failures.{TellsWant}
use Rattle.step_resolver.specs.Order.{Handle, Line, answered, no_room, not_made, IsWant}
use Rattle.step_resolver.specs.WalkHistory.{WalkInHistory, state_at, timeline}
use Rattle.step_resolver.proofs.Underway.StepOutcomes.{read_is}
use Rattle.step_resolver.proofs.Underway.WalkInvariant.{StepAt, held_at}
use Rattle.step_resolver.proofs.Underway.LegalHistory.{AloneAt, HappensAlone}
use Rattle.bulk_ops.specs.RemoveAllTells.{LeavesEntries, AllLeaveEntries}
use Rattle.root_ops.specs.declared.aim.Change.{Change}
use Rattle.root_ops.specs.declared.aim.Wanted.{Wanted}
use Rattle.root_ops.specs.declared.aim.Wanted.TheVariants as wants
use Rattle.root_ops.specs.declared.below.Below.{Below}
use Rattle.root_ops.specs.Acts.{change_of, ChangesOnce, ChangeRefused, ReadsText, ReadRefused}
use Rattle.root_ops.specs.Meaning.{text_of}
use Rattle.root_ops.specs.Order.{Reply, link_text, done, fault, gives, acting, more, ends, closes, reply_to, change_step, LeadsTo}
use Rattle.root_ops.proofs.Handles.AfterWalks.{same_reply}
use Rattle.root_ops.proofs.Quiet.StepsAlone.{change_is, refused_reply}

-- before, at, or after a moment
pub data Side (k t : ℕ) : Type 0 where
  is_before : suc k ≤ t → Side k t
  is_at : k ≡ t → Side k t
  is_after : suc t ≤ k → Side k t

one_up : (k t : ℕ) → Side k t → Side (suc k) (suc t)
one_up k t (is_before le) = is_before (omega arith)
one_up k t (is_at e) = is_at (ap suc e)
one_up k t (is_after le) = is_after (omega arith)

pub side : (k t : ℕ) → Side k t
side zero zero = is_at refl
side zero (suc t) = is_before (omega arith)
side (suc k) zero = is_after (omega arith)
side (suc k) (suc t) = one_up k t (side k t)

module _ (w : WalkInHistory) where
  -- each own event from moment m on leaves all entries
  abbrev pub LeavesFrom : ℕ → Type 0
  LeavesFrom m = (t : ℕ) → m ≤ t → (timeline w).is_own t ≡ true → LeavesEntries w t

  pub all_leave : LeavesFrom 0 → AllLeaveEntries w
  all_leave leaves t own = leaves t (omega arith) own

  -- so do those from m on, but for one at t
  pub but_one : (m t : ℕ) (step : StepWith ℕ) (answer : Answer) → AloneAt w m t step answer → LeavesFrom (suc t) → (k : ℕ) → m ≤ k → k ≢ t → (timeline w).is_own k ≡ true → LeavesEntries w k
  but_one m t step answer made later k le other own = on (side k t)
    where
      on : Side k t → LeavesEntries w k
      on (is_before less) = absurd (false≢true (sym (made.alone.none k le less) ∙ own))
      on (is_at e) = absurd (other e)
      on (is_after past) = later k past own

  pub and_one : (m t : ℕ) (step : StepWith ℕ) (answer : Answer) → AloneAt w m t step answer → LeavesEntries w t → LeavesFrom (suc t) → LeavesFrom m
  and_one m t step answer made here later k le own = on (side k t)
    where
      on : Side k t → LeavesEntries w k
      on (is_before less) = absurd (false≢true (sym (made.alone.none k le less) ∙ own))
      on (is_at e) = subst (LeavesEntries w) (sym e) here
      on (is_after past) = later k past own

  pub leaves_by : (m t : ℕ) (step : StepWith ℕ) (answer : Answer) → StepAt w m t step answer → is_on_entries step ≡ false → LeavesEntries w t
  leaves_by m t step answer made e = ap (λ (s : State). s.nodes) made.after ∙ nodes_are_left (state_at w t) w.actor step e

  module _ (below : Below) (reply : Reply) where
    -- ---- closings

    -- after these the reply is the one that was to come, and the entries are left
    pub record Shuts (m : ℕ) (told : Reply) : Type 0 where
      pub same : told ≡ reply
      pub leaves : LeavesFrom m

    shut_one : (m t : ℕ) (step : StepWith ℕ) (answer : Answer) (told : Reply) → AloneAt w m t step answer → is_on_entries step ≡ false → Shuts (suc t) told → Shuts m told
    shut_one m t step answer told made e later =
        record { same = later.same; leaves = and_one m t step answer made (leaves_by m t step answer made.made e) later.leaves }

    pub shut : (lines : List Line) (hs : List ℕ) (told : Reply) (m : ℕ) → HappensAlone w m lines → LeadsTo below (closes hs (gives told)) lines (ends reply) → Shuts m told
    shut [] [] told m happens leads =
        record { same = same_reply told reply leads; leaves = λ t le own. absurd (false≢true (sym (happens.alone t le) ∙ own)) }
    shut (line ∷ lines) [] told m happens leads = absurd leads
    shut [] (h ∷ hs) told m happens leads = cc (leads)
    shut (answered step answer ∷ lines) (h ∷ hs) told m happens leads =
        shut_one m happens.0 step answer told happens.1.0 (ap is_on_entries leads.0) (shut lines hs told (suc happens.0) happens.1.1 leads.1)
    shut (no_room step answer ∷ lines) (h ∷ hs) told m happens leads =
        shut_one m happens.0 step answer told happens.1.0 (ap is_on_entries leads.0) (shut lines hs told (suc happens.0) happens.1.1 leads.1)
    shut (not_made error ∷ lines) (h ∷ hs) told m happens leads = cc (leads.0.1)

    -- ---- the step

    -- it wasn't made for a want; or it is an own event, whose answer gives the reply
    pub data Acted (m : ℕ) (wanted : Wanted) (step : StepWith ℕ) (lines : List Line) : Type 0 where
      step_unmade : (error : Errno) → fault error ≡ reply → IsWant error → TellsWant error lines → LeavesFrom m → Acted m wanted step lines
      step_made : (t : ℕ) (answer : Answer) → AloneAt w m t step answer → reply_to wanted answer ≡ reply → LeavesFrom (suc t) → Acted m wanted step lines

    made_so : (m t : ℕ) (wanted : Wanted) (step made : StepWith ℕ) (answer : Answer) (lines all : List Line) (hs : List ℕ) → AloneAt w m t made answer → made ≡ step
        → HappensAlone w (suc t) lines → LeadsTo below (closes hs (gives (reply_to wanted answer))) lines (ends reply) → Acted m wanted step all
    made_so m t wanted step made answer lines all hs alone same happens leads =
        let over = shut lines hs (reply_to wanted answer) (suc t) happens leads in
        step_made t answer (subst (λ (s : StepWith ℕ). AloneAt w m t s answer) same alone) over.same over.leaves

    pub acted : (lines : List Line) (m : ℕ) (wanted : Wanted) (step : StepWith ℕ) (hs : List ℕ) → HappensAlone w m lines
        → LeadsTo below (more (acting wanted step hs)) lines (ends reply) → Acted m wanted step lines
    acted [] m wanted step hs happens leads = cc (leads)
    acted (answered made answer ∷ lines) m wanted step hs happens leads =
        made_so m happens.0 wanted step made answer lines (answered made answer ∷ lines) hs happens.1.0 leads.0 happens.1.1 leads.1
    acted (no_room made answer ∷ lines) m wanted step hs happens leads =
        made_so m happens.0 wanted step made answer lines (no_room made answer ∷ lines) hs happens.1.0 leads.0 happens.1.1 leads.1
    acted (not_made error ∷ lines) m wanted step hs happens leads =
        let over = shut lines hs (reply_to wanted (Refused error)) m happens leads.1 in
        step_unmade error (sym (refused_reply wanted error) ∙ over.same) leads.0.0 (inl refl) over.leaves

  -- ---- a change of an entry

  abbrev pub ChangeEnds : Change → Handle → List ℕ → List Line → Reply → Type 0
  ChangeEnds change dir name lines done = ChangesOnce w change dir name
  ChangeEnds change dir name lines (fault error) = (ChangeRefused w change dir name error ⊎ ((IsWant error) × TellsWant error lines)) × AllLeaveEntries w
  ChangeEnds change dir name lines other = ⊥

  module _ (below : Below) (reply : Reply) (change : Change) (dir : Handle) (name : List ℕ) (lines : List Line) (is_held : held_at w 0 dir.number ≡ Some dir.node) where
    by_result : (t : ℕ) (answer : Answer) → AloneAt w 0 t (change_step change dir.number name) answer → LeavesFrom (suc t)
        → (result : Result (List Inode) Errno) → change_of change (state_at w t).nodes dir.node name ≡ result
        → answer ≡ (changes (state_at w t) result).answer → state_at w (suc t) ≡ (changes (state_at w t) result).after
        → ChangeEnds change dir name lines (reply_to wants.Done answer)
    by_result t answer alone later (Ok nodes) e told after =
        subst (λ (a : Answer). ChangeEnds change dir name lines (reply_to wants.Done a)) (sym told) (record {
          when = t;
          event = alone.made.event ∙ ap (λ (a : Answer). Some (record { actor = w.actor; step = change_step change dir.number name; answer = a })) told;
          is_open = alone.made.kept dir.number ∙ is_held;
          made = e ∙ ap (λ (ns : List Inode). Ok ns) (sym (ap (λ (s : State). s.nodes) after));
          others = λ k other own. but_one 0 t (change_step change dir.number name) answer alone later k (omega arith) other own;
        })
    by_result t answer alone later (Err error) e told after =
        subst (λ (a : Answer). ChangeEnds change dir name lines (reply_to wants.Done a)) (sym told) (
          inl (record {
            when = t;
            event = alone.made.event ∙ ap (λ (a : Answer). Some (record { actor = w.actor; step = change_step change dir.number name; answer = a })) told;
            is_open = alone.made.kept dir.number ∙ is_held;
            refused = e;
          }),
          all_leave (and_one 0 t (change_step change dir.number name) answer alone (ap (λ (s : State). s.nodes) after) later),
        )

    pub change_ends : Acted below reply 0 wants.Done (change_step change dir.number name) lines → ChangeEnds change dir name lines reply
    change_ends (step_unmade error same want tells leaves) = subst (ChangeEnds change dir name lines) same (inr (want, tells), all_leave leaves)
    change_ends (step_made t answer alone same later) =
        let is = change_is (state_at w t) w.actor dir.number dir.node name (alone.made.kept dir.number ∙ is_held) change in
        subst (ChangeEnds change dir name lines) same
        (by_result t answer alone later (change_of change (state_at w t).nodes dir.node name) refl
        (alone.made.told ∙ ap (λ (o : Outcome). o.answer) is) (alone.made.after ∙ ap (λ (o : Outcome). o.after) is))

  -- ---- read link

  abbrev pub ReadEnds : Handle → List Line → Reply → Type 0
  ReadEnds link lines (link_text text) = ReadsText w link text × AllLeaveEntries w
  ReadEnds link lines (fault error) = (ReadRefused w link error ⊎ ((IsWant error) × TellsWant error lines)) × AllLeaveEntries w
  ReadEnds link lines other = ⊥

  module _ (below : Below) (reply : Reply) (link : Handle) (lines : List Line) (is_held : held_at w 0 link.number ≡ Some link.node) where
    module _ (t : ℕ) (answer : Answer) (alone : AloneAt w 0 t (steps.ReadLink link.number) answer) (later : LeavesFrom (suc t)) where
      read_leaves_all : AllLeaveEntries w
      read_leaves_all = all_leave (and_one 0 t (steps.ReadLink link.number) answer alone (leaves_by 0 t (steps.ReadLink link.number) answer alone.made refl) later)

      read_refused : (error : Errno) → text_of (object_at (state_at w t).nodes link.node) ≡ Err error → answer ≡ Refused error → ReadEnds link lines (reply_to wants.Text answer)
      read_refused error e told =
          subst (λ (a : Answer). ReadEnds link lines (reply_to wants.Text a)) (sym told) (
            inl (record {
              when = t;
              event = alone.made.event ∙ ap (λ (a : Answer). Some (record { actor = w.actor; step = steps.ReadLink link.number; answer = a })) told;
              is_open = alone.made.kept link.number ∙ is_held;
              no_text = e;
            }),
            read_leaves_all,
          )

      by_object : (o : Option Object) → object_at (state_at w t).nodes link.node ≡ o → answer ≡ (reads (state_at w t) o).answer → ReadEnds link lines (reply_to wants.Text answer)
      by_object None e told = read_refused Invalid (ap text_of e) told
      by_object (Some object.Dir) e told = read_refused Invalid (ap text_of e) told
      by_object (Some object.File) e told = read_refused Invalid (ap text_of e) told
      by_object (Some (object.Link text)) e told =
          subst (λ (a : Answer). ReadEnds link lines (reply_to wants.Text a)) (sym told) (
            record {
              when = t;
              event = alone.made.event ∙ ap (λ (a : Answer). Some (record { actor = w.actor; step = steps.ReadLink link.number; answer = a })) told;
              is_open = alone.made.kept link.number ∙ is_held;
              has_text = ap text_of e;
            },
            read_leaves_all,
          )

    pub read_ends : Acted below reply 0 wants.Text (steps.ReadLink link.number) lines → ReadEnds link lines reply
    read_ends (step_unmade error same want tells leaves) = subst (ReadEnds link lines) same (inr (want, tells), all_leave leaves)
    read_ends (step_made t answer alone same later) =
        subst (ReadEnds link lines) same
        (by_object t answer alone later (object_at (state_at w t).nodes link.node) refl
        (alone.made.told ∙ ap (λ (o : Outcome). o.answer) (read_is (state_at w t) w.actor link.number link.node (alone.made.kept link.number ∙ is_held))))
