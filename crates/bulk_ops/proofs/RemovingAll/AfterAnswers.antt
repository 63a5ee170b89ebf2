-- What each answer makes of a call that clears.
use Rattle.std.specs.Prelude.{◌≡◌, ℕ, suc, ◌+◌, ◌≤◌, ◌⊎◌, List, [], ◌∷◌, Bool, true, false, length, slice_get, Option, Some, None, is_some, refl}
use Rattle.std.proofs.Common.{sym, ap, subst, ◌∙◌, inl, inr, le_refl, le_trans}
use Rattle.std.proofs.Math.Nat.{le-suc}
use Rattle.std.proofs.lemmas.Bool.{false≢true}
use Rattle.path_text.specs.declared.errno.Errno.{Errno}
use Rattle.path_text.specs.declared.errno.Errno.TheVariants.{NotFound, NotDir, IsDir, NotEmpty, TooMany, NoMemory, BookFull}
use Rattle.tree_model.specs.declared.answer.Answer.{Answer}
use Rattle.tree_model.specs.declared.answer.Answer.TheVariants.{Opened, Listed, Done, Refused}
use Rattle.tree_model.specs.declared.inode.Object.{Object}
use Rattle.tree_model.specs.declared.inode.Object.TheVariants as object
use Rattle.tree_model.specs.StepWith.{StepWith}
use Rattle.tree_model.specs.declared.step.StepOf.TheVariants.{Open, List as ListNames, Close, RemoveFile, RemoveDir}
use Rattle.tree_model.specs.State.{child, object_at, is_dir, is_directory, put_at, sorted_names, names_in}
use Rattle.tree_model.specs.Steps.{Outcome, outcome, refused, node_held, opens, kind_of}
use Rattle.tree_model.proofs.StepLaws.{nodes_are_left}
use Rattle.tree_model.proofs.PlaceLaws.{lookups_lead_to_nodes}
use Rattle.step_resolver.specs.Order.{Line, not_made, IsWant, is_close}
use Rattle.step_resolver.specs.WalkHistory.{WalkInHistory, state_at, timeline}
use Rattle.step_resolver.specs.Failures.{TellsWant}
use Rattle.step_resolver.proofs.Underway.StepOutcomes.{IsMore, IsLess, Close-is_less, OpenCase, open_case, Opening, too_many, no_object, is_opened, opening_of}
use Rattle.step_resolver.proofs.Underway.StepOutcomes as step_is
use Rattle.step_resolver.proofs.Underway.WalkInvariant.{Lived, StepAt, held_at, IsNotIn, dir_at}
use Rattle.step_resolver.proofs.Underway.HandlesHeld.{kept_on, more_on}
use Rattle.step_resolver.proofs.Underway.LegalHistory.{AloneAt, not_below}
use Rattle.bulk_ops.specs.RemoveAllOrder.{Level, Stage, removes_file, lists, shuts, leaves, removes_dir, End, fails, removes, clearing, dirs, before, closes, is_due, gives_up, next_entry, finished, file_removed, opened, listed, dir_removed, take, due_at}
use Rattle.bulk_ops.specs.RemoveAllOrder as order
use Rattle.bulk_ops.specs.RemoveAllTells.{under, removals, one_more_if, is_removal, TakesAway, LeavesEntries, IsOn, ClosesAt, AllClose, TellsFault}
use Rattle.bulk_ops.proofs.RemovingAll.StepAnswers.{without, FileCase, no_dir, no_entry, at_dir, gone, file_case, DirCase, not_in_dir, no_such_entry, at_no_dir, not_empty, dir_gone, dir_case, list_is}
use Rattle.bulk_ops.proofs.RemovingAll.Underway.{Holds, holds_kept, holds_more, holds_less, same_all, same_but, Inner, inner_moved, IsAt, at_moved, new_is_out, Spot, spot, TookAway, up_to, IsAtStage, Tally, wants_of_rest, tally_next, LastSoFar, Clears, Ends, Good, closes_good, due_good}

-- the entry of that name in d was missing, or it was taken away
abbrev Ended : WalkInHistory → ℕ → ℕ → List ℕ → Type 0
Ended c t d n = (child ((timeline c).nodes_at t) d n ≡ None)
    ⊎ ((entry : ℕ) × ((child ((timeline c).nodes_at t) d n ≡ Some entry) × ((timeline c).nodes_at (suc t) ≡ put_at ((timeline c).nodes_at t) entry None)))

later : {c : WalkInHistory} {now t : ℕ} {step : StepWith ℕ} {answer : Answer} → StepAt c now t step answer → now ≤ suc t
later {t = t} is = le_trans is.at.later (le-suc t)

module _ {c : WalkInHistory} (lived : Lived c) (dir : ℕ) (target : List ℕ) (b : ℕ → Option ℕ) where
  -- the entry under way is cleared by the event at t
  finished_good : (now t : ℕ) (lines : List Line) (level : Level) (above : List Level) (count left : ℕ) (step : StepWith ℕ) (answer : Answer)
      → StepAt c now t step answer → (at : IsAt c dir target now level above) → IsOn level.dir level.name step
      → Ended c t (spot c dir target now level above at).node level.name → ((h : ℕ) → held_at c (suc t) h ≡ held_at c now h)
      → Holds c b now (dirs (level ∷ above)) → Tally c dir target (suc t) lines count left
      → Good c dir target b (suc t) lines (finished level above count left)
  finished_good now t lines level [] count left step answer is at on ended kept holds tally =
      subst (λ os. Good c dir target b (suc t) lines (next_entry level.dir os [] count left)) (sym at.none) (record {
        counted = tally.counted;
        holds = holds_kept kept holds;
        took = tally.took;
        last = record {
          when = t;
          own = is.at.own;
          handle = level.dir;
          is_open = is.kept level.dir ∙ at.is_open;
          step = step;
          answer = answer;
          event = is.event;
          on = subst (λ n. IsOn level.dir n step) at.name on;
          ended = subst (λ n. Ended c t dir n) at.name ended;
          since = λ k le own past. absurd (not_below k (le_trans le past));
        };
      })
  finished_good now t lines level (u ∷ us) count left step answer is at on ended kept holds tally = on_others level.others
    where
      moved : IsAt c dir target (suc t) level (u ∷ us)
      moved = at_moved c dir target now (suc t) level (u ∷ us) (later is) (same_all c now (suc t) (dirs (level ∷ u ∷ us)) kept) at

      on_others : (os : List (List ℕ)) → Good c dir target b (suc t) lines (next_entry level.dir os (u ∷ us) count left)
      on_others (m ∷ os) = due_good c dir target b (suc t) lines removes_file (record { dir = level.dir; name = m; others = os }) (u ∷ us) count left
          (record { at = moved; stage_at = tt; holds = holds_kept kept holds; tally = tally })
      on_others [] = due_good c dir target b (suc t) lines (leaves level.dir) u us count left
          (record { at = moved.1.1; stage_at = moved.1.0; holds = holds_kept kept holds; tally = tally })

  -- a step on the entry under way, through the handle of its directory
  module _ (now t : ℕ) (line : Line) (lines : List Line) (level : Level) (above : List Level) (count left : ℕ) (step : StepWith ℕ) (answer : Answer)
      (at : IsAt c dir target now level above) (holds : Holds c b now (dirs (level ∷ above))) (tally : Tally c dir target now (line ∷ lines) count (suc left))
      (is : AloneAt c now t step answer) (on : IsOn level.dir level.name step) (quiet : (error : Errno) → is_removal step (Refused error) ≡ false)
      (e : removals (line ∷ lines) ≡ one_more_if (is_removal step answer) (removals lines)) where
    abbrev sp : Spot c dir target now level
    sp = spot c dir target now level above at

    abbrev told : Outcome → Type 0
    told o = outcome (state_at c t) c.actor step ≡ o

    open_then : held_at c t level.dir ≡ Some sp.node
    open_then = is.made.kept level.dir ∙ sp.is_open

    answer_is : (o : Outcome) → told o → answer ≡ o.answer
    answer_is o q = is.made.told ∙ ap (λ r. r.answer) q

    -- a refusal leaves all
    still : (error : Errno) → told (refused (state_at c t) error) → (h : ℕ) → held_at c (suc t) h ≡ held_at c now h
    still error q = kept_on is.made (ap (λ r. r.after) q)

    same_entries : (error : Errno) → told (refused (state_at c t) error) → LeavesEntries c t
    same_entries error q = ap (λ s. s.nodes) (is.made.after ∙ ap (λ r. r.after) q)

    refused_tally : (error : Errno) → told (refused (state_at c t) error) → Tally c dir target (suc t) lines count left
    refused_tally error q = tally_next false tally
        (e ∙ ap (λ v. one_more_if (is_removal step v) (removals lines)) (answer_is (refused (state_at c t) error) q) ∙ ap (λ r. one_more_if r (removals lines)) (quiet error))
        is.alone (inl (same_entries error q))

    refused_at : (error : Errno) → told (refused (state_at c t) error) → IsAt c dir target (suc t) level above
    refused_at error q = at_moved c dir target now (suc t) level above (later is.made) (same_all c now (suc t) (dirs (level ∷ above)) (still error q)) at

    -- the call is given up
    refused_fails : (stage : Stage) (error : Errno) → before stage (dirs (level ∷ above)) ≡ dirs (level ∷ above) → told (refused (state_at c t) error) → TellsFault c dir error
        → Good c dir target b (suc t) lines (gives_up stage level above error)
    refused_fails stage error none q fault =
        closes_good c dir target b (suc t) lines (before stage (dirs (level ∷ above))) (fails error)
        (record { cause = λ close. fault; holds = subst (Holds c b (suc t)) (sym none) (holds_kept (still error q) holds); took = (refused_tally error q).took })

    -- it goes on with the same entry
    refused_due : (stage : Stage) (error : Errno) → before stage (dirs (level ∷ above)) ≡ dirs (level ∷ above) → IsAtStage c dir target (suc t) stage level above
        → told (refused (state_at c t) error) → Good c dir target b (suc t) lines (is_due stage level above count left)
    refused_due stage error none stage_at q =
        due_good c dir target b (suc t) lines stage level above count left
        (record { at = refused_at error q; stage_at = stage_at; holds = subst (Holds c b (suc t)) (sym none) (holds_kept (still error q) holds); tally = refused_tally error q })

    -- the entry wasn't there
    missing_good : child ((timeline c).nodes_at t) sp.node level.name ≡ None → told (refused (state_at c t) NotFound)
        → Good c dir target b (suc t) lines (finished level above count left)
    missing_good none q =
        finished_good now t lines level above count left step answer is.made at on (inl none) (still NotFound q) holds (refused_tally NotFound q)

    -- only the directory of the walk can be none
    not_dir : is_dir (state_at c t).nodes sp.node ≡ false → TellsFault c dir NotDir
    not_dir f =
        let none : is_directory ((timeline c).object_of sp.node) ≡ false = sym (dir_at lived t level.dir sp.node open_then) ∙ f in
        subst (λ x. is_directory ((timeline c).object_of x) ≡ false) (sp.outer none) none

    -- the entry was taken away
    gone_good : is_removal step Done ≡ true → (entry : ℕ) → child ((timeline c).nodes_at t) sp.node level.name ≡ Some entry → told (without (state_at c t) entry)
        → Good c dir target b (suc t) lines (finished level above (suc count) left)
    gone_good done entry there q =
        finished_good now t lines level above (suc count) left step answer is.made at on (inr (entry, (there, gone_then))) kept holds
        (tally_next true tally
        (e ∙ ap (λ v. one_more_if (is_removal step v) (removals lines)) (answer_is (without (state_at c t) entry) q) ∙ ap (λ r. one_more_if r (removals lines)) done)
        is.alone (inr (record {
          names = sp.names;
          inner = sp.node;
          since = now;
          way = sp.way;
          at = is.made.at;
          name = level.name;
          below = sp.below;
          step = step;
          event = is.made.event ∙ ap (λ v. Some (record { actor = c.actor; step = step; answer = v })) (answer_is (without (state_at c t) entry) q);
          is_removal = done;
          entry = entry;
          child = there;
          gone = gone_then;
        })))
      where
        gone_then : (timeline c).nodes_at (suc t) ≡ put_at ((timeline c).nodes_at t) entry None
        gone_then = ap (λ s. s.nodes) (is.made.after ∙ ap (λ r. r.after) q)

        kept : (h : ℕ) → held_at c (suc t) h ≡ held_at c now h
        kept h = ap (λ hs. node_held c.actor (slice_get hs h)) (ap (λ s. s.handles) (is.made.after ∙ ap (λ r. r.after) q)) ∙ is.made.kept h

  -- ---- each stage

  module _ (now t : ℕ) (line : Line) (lines : List Line) (level : Level) (above : List Level) (count left : ℕ) (answer : Answer) where
    -- what an answer to RemoveFile makes of it
    pub file_good : Clears c dir target b now (line ∷ lines) removes_file level above count (suc left) → AloneAt c now t (RemoveFile level.dir level.name) answer
        → removals (line ∷ lines) ≡ one_more_if (is_removal (RemoveFile level.dir level.name) answer) (removals lines)
        → Good c dir target b (suc t) lines (file_removed level above count left answer)
    file_good g is e = on (file_case (state_at c t) c.actor level.dir level.name (spot c dir target now level above g.at).node (is.made.kept level.dir ∙ (spot c dir target now level above g.at).is_open))
      where
        to : (v : Answer) → answer ≡ v → Good c dir target b (suc t) lines (file_removed level above count left v)
            → Good c dir target b (suc t) lines (file_removed level above count left answer)
        to v q good = subst (λ a. Good c dir target b (suc t) lines (file_removed level above count left a)) (sym q) good

        on : FileCase (state_at c t) (spot c dir target now level above g.at).node level.name (outcome (state_at c t) c.actor (RemoveFile level.dir level.name))
            → Good c dir target b (suc t) lines (file_removed level above count left answer)
        on (no_dir f q) = to (Refused NotDir) (is.made.told ∙ ap (λ r. r.answer) q)
            (refused_fails now t line lines level above count left (RemoveFile level.dir level.name) answer g.at g.holds g.tally is (inl refl) (λ error. refl) e removes_file NotDir refl q
            (not_dir now t line lines level above count left (RemoveFile level.dir level.name) answer g.at g.holds g.tally is (inl refl) (λ error. refl) e f))
        on (no_entry f q) = to (Refused NotFound) (is.made.told ∙ ap (λ r. r.answer) q)
            (missing_good now t line lines level above count left (RemoveFile level.dir level.name) answer g.at g.holds g.tally is (inl refl) (λ error. refl) e f q)
        on (at_dir q) = to (Refused IsDir) (is.made.told ∙ ap (λ r. r.answer) q)
            (refused_due now t line lines level above count left (RemoveFile level.dir level.name) answer g.at g.holds g.tally is (inl refl) (λ error. refl) e order.opens IsDir refl tt q)
        on (gone entry f q) = to Done (is.made.told ∙ ap (λ r. r.answer) q)
            (gone_good now t line lines level above count left (RemoveFile level.dir level.name) answer g.at g.holds g.tally is (inl refl) (λ error. refl) e refl entry f q)

    -- and one to RemoveDir
    pub dir_good : Clears c dir target b now (line ∷ lines) removes_dir level above count (suc left) → AloneAt c now t (RemoveDir level.dir level.name) answer
        → removals (line ∷ lines) ≡ one_more_if (is_removal (RemoveDir level.dir level.name) answer) (removals lines)
        → Good c dir target b (suc t) lines (dir_removed level above count left answer)
    dir_good g is e = on (dir_case (state_at c t) c.actor level.dir level.name (spot c dir target now level above g.at).node (is.made.kept level.dir ∙ (spot c dir target now level above g.at).is_open))
      where
        to : (v : Answer) → answer ≡ v → Good c dir target b (suc t) lines (dir_removed level above count left v)
            → Good c dir target b (suc t) lines (dir_removed level above count left answer)
        to v q good = subst (λ a. Good c dir target b (suc t) lines (dir_removed level above count left a)) (sym q) good

        on : DirCase (state_at c t) (spot c dir target now level above g.at).node level.name (outcome (state_at c t) c.actor (RemoveDir level.dir level.name))
            → Good c dir target b (suc t) lines (dir_removed level above count left answer)
        on (not_in_dir f q) = to (Refused NotDir) (is.made.told ∙ ap (λ r. r.answer) q)
            (refused_due now t line lines level above count left (RemoveDir level.dir level.name) answer g.at g.holds g.tally is (inr (inr refl)) (λ error. refl) e removes_file NotDir refl tt q)
        on (no_such_entry f q) = to (Refused NotFound) (is.made.told ∙ ap (λ r. r.answer) q)
            (missing_good now t line lines level above count left (RemoveDir level.dir level.name) answer g.at g.holds g.tally is (inr (inr refl)) (λ error. refl) e f q)
        on (at_no_dir q) = to (Refused NotDir) (is.made.told ∙ ap (λ r. r.answer) q)
            (refused_due now t line lines level above count left (RemoveDir level.dir level.name) answer g.at g.holds g.tally is (inr (inr refl)) (λ error. refl) e removes_file NotDir refl tt q)
        on (not_empty q) = to (Refused NotEmpty) (is.made.told ∙ ap (λ r. r.answer) q)
            (refused_due now t line lines level above count left (RemoveDir level.dir level.name) answer g.at g.holds g.tally is (inr (inr refl)) (λ error. refl) e order.opens NotEmpty refl tt q)
        on (dir_gone entry f q) = to Done (is.made.told ∙ ap (λ r. r.answer) q)
            (gone_good now t line lines level above count left (RemoveDir level.dir level.name) answer g.at g.holds g.tally is (inr (inr refl)) (λ error. refl) e refl entry f q)

    -- what is opened by the name under way is closed again where it is no directory, and else listed
    child_good : (g : Clears c dir target b now (line ∷ lines) order.opens level above count (suc left)) → AloneAt c now t (Open level.dir level.name) answer
        → (x : ℕ) (what : Object) → child ((timeline c).nodes_at t) (spot c dir target now level above g.at).node level.name ≡ Some x
        → object_at (state_at c t).nodes x ≡ Some what → (h : ℕ) → IsMore (state_at c t) c.actor (state_at c (suc t)) h x
        → Tally c dir target (suc t) lines count left → Good c dir target b (suc t) lines (order.is_opened level above count left h (kind_of what))
    child_good g is x what there z h new tally = on what refl
      where
        at_then : IsAt c dir target t level above
        at_then = at_moved c dir target now t level above is.made.at.later (same_all c now t (dirs (level ∷ above)) is.made.kept) g.at

        out : IsNotIn h (dirs (level ∷ above))
        out = new_is_out c dir target t level above h new.fresh at_then

        at_now : IsAt c dir target (suc t) level above
        at_now = at_moved c dir target t (suc t) level above (le-suc t) (same_but c t (suc t) h (dirs (level ∷ above)) out new.others) at_then

        holds_now : Holds c b (suc t) (h ∷ dirs (level ∷ above))
        holds_now = holds_more (holds_kept is.made.kept g.holds) new

        directory : what ≡ object.Dir → is_directory ((timeline c).object_of x) ≡ true
        directory q = ap is_directory (lived.objects t x what z) ∙ ap (λ w. is_directory (Some w)) q

        on : (o : Object) → what ≡ o → Good c dir target b (suc t) lines (order.is_opened level above count left h (kind_of o))
        on object.Dir q = due_good c dir target b (suc t) lines (lists h) level above count left (record {
          at = at_now;
          stage_at = (
            record {
              node = x;
              name = level.name;
              names = (spot c dir target now level above g.at).names;
              way = under level.name t x (suc t) (spot c dir target now level above g.at).way is.made.at there (directory q) (le_refl (suc t));
              below = (spot c dir target now level above g.at).below;
              is_open = new.is_open;
              is_dir = directory q;
            },
            out,
          );
          holds = holds_now;
          tally = tally;
        })
        on object.File q = due_good c dir target b (suc t) lines (shuts h) level above count left (record { at = at_now; stage_at = out; holds = holds_now; tally = tally })
        on (object.Link text) q = due_good c dir target b (suc t) lines (shuts h) level above count left (record { at = at_now; stage_at = out; holds = holds_now; tally = tally })

    -- and one to Open
    pub open_good : Clears c dir target b now (line ∷ lines) order.opens level above count (suc left) → AloneAt c now t (Open level.dir level.name) answer
        → removals (line ∷ lines) ≡ one_more_if (is_removal (Open level.dir level.name) answer) (removals lines)
        → Good c dir target b (suc t) lines (opened level above count left answer)
    open_good g is e = on (open_case (state_at c t) c.actor level.dir level.name (spot c dir target now level above g.at).node open_then)
      where
        open_then : held_at c t level.dir ≡ Some (spot c dir target now level above g.at).node
        open_then = is.made.kept level.dir ∙ (spot c dir target now level above g.at).is_open

        to : (v : Answer) → answer ≡ v → Good c dir target b (suc t) lines (opened level above count left v)
            → Good c dir target b (suc t) lines (opened level above count left answer)
        to v q good = subst (λ a. Good c dir target b (suc t) lines (opened level above count left a)) (sym q) good

        on_opening : (x : ℕ) → child (state_at c t).nodes (spot c dir target now level above g.at).node level.name ≡ Some x
            → outcome (state_at c t) c.actor (Open level.dir level.name) ≡ opens (state_at c t) c.actor x → Opening (state_at c t) c.actor x (opens (state_at c t) c.actor x)
            → Good c dir target b (suc t) lines (opened level above count left answer)
        on_opening x there q (too_many full p) = to (Refused TooMany) (is.made.told ∙ ap (λ r. r.answer) (q ∙ p))
            (refused_fails now t line lines level above count left (Open level.dir level.name) answer g.at g.holds g.tally is (inr (inl refl)) (λ error. refl) e order.opens TooMany refl (q ∙ p)
            (record {
              when = t;
              step = Open level.dir level.name;
              event = is.made.event ∙ ap (λ v. Some (record { actor = c.actor; step = Open level.dir level.name; answer = v })) (is.made.told ∙ ap (λ r. r.answer) (q ∙ p));
              full = full;
            }))
        on_opening x there q (no_object z p) =
            absurd (false≢true (sym (ap is_some z) ∙ (lookups_lead_to_nodes (state_at c t) (lived.states t)).1 _ level.name x there))
        on_opening x there q (is_opened what z p) =
            let made = q ∙ p in
            let answer_is : answer ≡ Opened (length (state_at c t).handles) x (kind_of what) = is.made.told ∙ ap (λ r. r.answer) made in
            to (Opened (length (state_at c t).handles) x (kind_of what)) answer_is
            (child_good g is x what there z (length (state_at c t).handles) (more_on is.made x (ap (λ r. r.after) made))
            (tally_next false g.tally (e ∙ ap (λ v. one_more_if (is_removal (Open level.dir level.name) v) (removals lines)) answer_is) is.alone
            (inl (ap (λ s. s.nodes) (is.made.after ∙ ap (λ r. r.after) made)))))

        on : OpenCase (state_at c t) c.actor (spot c dir target now level above g.at).node level.name (outcome (state_at c t) c.actor (Open level.dir level.name))
            → Good c dir target b (suc t) lines (opened level above count left answer)
        on (step_is.no_dir f q) = to (Refused NotDir) (is.made.told ∙ ap (λ r. r.answer) q)
            (refused_fails now t line lines level above count left (Open level.dir level.name) answer g.at g.holds g.tally is (inr (inl refl)) (λ error. refl) e order.opens NotDir refl q
            (not_dir now t line lines level above count left (Open level.dir level.name) answer g.at g.holds g.tally is (inr (inl refl)) (λ error. refl) e f))
        on (step_is.no_child f q) = to (Refused NotFound) (is.made.told ∙ ap (λ r. r.answer) q)
            (missing_good now t line lines level above count left (Open level.dir level.name) answer g.at g.holds g.tally is (inr (inl refl)) (λ error. refl) e f q)
        on (step_is.at_child x there q) = on_opening x there q (opening_of (state_at c t) c.actor x)

    -- and one to List
    pub list_good : (room : Bool) → (room ≡ false → TellsWant NoMemory c.lines) → (h : ℕ) → Clears c dir target b now (line ∷ lines) (lists h) level above count (suc left)
        → AloneAt c now t (ListNames h) answer → removals (line ∷ lines) ≡ one_more_if (is_removal (ListNames h) answer) (removals lines)
        → Good c dir target b (suc t) lines (listed room h level above count left answer)
    list_good room want h g is e =
        subst (λ v. Good c dir target b (suc t) lines (listed room h level above count left v)) (sym answer_is)
        (on room want (sorted_names (names_in (state_at c t).nodes g.stage_at.0.node)))
      where
        open_then : held_at c t h ≡ Some g.stage_at.0.node
        open_then = is.made.kept h ∙ g.stage_at.0.is_open

        made : outcome (state_at c t) c.actor (ListNames h) ≡ record { answer = Listed (sorted_names (names_in (state_at c t).nodes g.stage_at.0.node)); after = state_at c t }
        made = list_is (state_at c t) c.actor h g.stage_at.0.node open_then (dir_at lived t h g.stage_at.0.node open_then ∙ g.stage_at.0.is_dir)

        answer_is : answer ≡ Listed (sorted_names (names_in (state_at c t).nodes g.stage_at.0.node))
        answer_is = is.made.told ∙ ap (λ r. r.answer) made

        kept : (k : ℕ) → held_at c (suc t) k ≡ held_at c now k
        kept = kept_on is.made (ap (λ r. r.after) made)

        tally : Tally c dir target (suc t) lines count left
        tally = tally_next false g.tally (e ∙ ap (λ v. one_more_if (is_removal (ListNames h) v) (removals lines)) answer_is) is.alone
            (inl (ap (λ s. s.nodes) (is.made.after ∙ ap (λ r. r.after) made)))

        at_now : IsAt c dir target (suc t) level above
        at_now = at_moved c dir target now (suc t) level above (later is.made) (same_all c now (suc t) (dirs (level ∷ above)) kept) g.at

        inner_now : Inner c dir target (suc t) h
        inner_now = inner_moved (later is.made) (kept h) g.stage_at.0

        on : (roomy : Bool) → (roomy ≡ false → TellsWant NoMemory c.lines) → (names : List (List ℕ)) → Good c dir target b (suc t) lines (listed roomy h level above count left (Listed names))
        on true w [] = due_good c dir target b (suc t) lines (leaves h) level above count left
            (record { at = at_now; stage_at = g.stage_at.1; holds = holds_kept kept g.holds; tally = tally })
        on true w (n ∷ os) = due_good c dir target b (suc t) lines removes_file (record { dir = h; name = n; others = os }) (level ∷ above) count left
            (record { at = (inner_now, (g.stage_at.1, at_now)); stage_at = tt; holds = holds_kept kept g.holds; tally = tally })
        on false w names = closes_good c dir target b (suc t) lines (h ∷ dirs (level ∷ above)) (fails NoMemory)
            (record { cause = λ close. w refl; holds = holds_kept kept g.holds; took = tally.took })

    -- what a Close of what was opened by the name under way comes to
    pub close_good : (stage next : Stage) (h : ℕ) → before stage (dirs (level ∷ above)) ≡ h ∷ dirs (level ∷ above) → before next (dirs (level ∷ above)) ≡ dirs (level ∷ above)
        → IsAtStage c dir target (suc t) next level above → IsNotIn h (dirs (level ∷ above)) → Clears c dir target b now (line ∷ lines) stage level above count (suc left)
        → AloneAt c now t (Close h) answer → removals (line ∷ lines) ≡ removals lines → Good c dir target b (suc t) lines (is_due next level above count left)
    close_good stage next h closed none stage_at out g is e = due_good c dir target b (suc t) lines next level above count left (record {
      at = at_moved c dir target t (suc t) level above (le-suc t) (same_but c t (suc t) h (dirs (level ∷ above)) out less.others)
          (at_moved c dir target now t level above is.made.at.later (same_all c now t (dirs (level ∷ above)) is.made.kept) g.at);
      stage_at = stage_at;
      holds = subst (Holds c b (suc t)) (sym none) (holds_less (subst (Holds c b t) closed (holds_kept is.made.kept g.holds)) less);
      tally = tally_next false g.tally e is.alone (inl (ap (λ s. s.nodes) is.made.after ∙ nodes_are_left (state_at c t) c.actor (Close h) refl));
    })
      where
        less : IsLess (state_at c t) c.actor (state_at c (suc t)) h
        less = subst (λ s. IsLess (state_at c t) c.actor s h) (sym is.made.after) (Close-is_less (state_at c t) c.actor h)

  -- what a Close at the end comes to
  pub closing_good : (now t : ℕ) (line : Line) (lines : List Line) (h : ℕ) (hs : List ℕ) (end : End) (answer : Answer) → Ends c dir target b now (line ∷ lines) (h ∷ hs) end
      → AloneAt c now t (Close h) answer → removals (line ∷ lines) ≡ removals lines → (AllClose lines → AllClose (line ∷ lines)) → Good c dir target b (suc t) lines (closes hs end)
  closing_good now t line lines h hs end answer is at e close = closes_good c dir target b (suc t) lines hs end (on end is)
    where
      less : IsLess (state_at c t) c.actor (state_at c (suc t)) h
      less = subst (λ s. IsLess (state_at c t) c.actor s h) (sym at.made.after) (Close-is_less (state_at c t) c.actor h)

      took : TookAway c dir target now → TookAway c dir target (suc t)
      took so_far = record {
        each = up_to (λ k. LeavesEntries c k ⊎ TakesAway c dir target k) at.alone so_far.each
            (inl (ap (λ s. s.nodes) at.made.after ∙ nodes_are_left (state_at c t) c.actor (Close h) refl));
      }

      last : LastSoFar c dir target now → LastSoFar c dir target (suc t)
      last l = record {
        when = l.when;
        own = l.own;
        handle = l.handle;
        is_open = l.is_open;
        step = l.step;
        answer = l.answer;
        event = l.event;
        on = l.on;
        ended = l.ended;
        since = up_to (λ k. suc l.when ≤ k → ClosesAt c k) at.alone l.since (λ past. (h, (answer, at.made.event)));
      }

      on : (kind : End) → Ends c dir target b now (line ∷ lines) (h ∷ hs) kind → Ends c dir target b (suc t) lines hs kind
      on (fails error) f = record { cause = λ all. f.cause (close all); holds = holds_less (holds_kept at.made.kept f.holds) less; took = took f.took }
      on (removes count) f = record { counted = f.counted ∙ ap (λ n. count + n) e; holds = holds_less (holds_kept at.made.kept f.holds) less; took = took f.took; last = last f.last }

  -- a step that isn't made
  pub not_made_good : (now : ℕ) (lines : List Line) (error : Errno) → IsWant error → (stage : Stage) (level : Level) (above : List Level) (count left : ℕ) → is_close (due_at stage level) ≡ false
      → Clears c dir target b now (not_made error ∷ lines) stage level above count (suc left)
      → Good c dir target b now lines (take true (clearing stage level above count left) (Refused error))
  not_made_good now lines error want stage level above count left unclosed g =
      on want stage unclosed g.holds
    where
      wanted : TellsWant error c.lines
      wanted = wants_of_rest error c.lines g.tally.made (subst (TellsWant error) (sym g.tally.rest) (inl refl))

      fails_with : (cause : Errno) → error ≡ cause → (k : Stage) → (TellsWant cause c.lines → TellsFault c dir cause) → Holds c b now (before k (dirs (level ∷ above)))
          → Good c dir target b now lines (gives_up k level above cause)
      fails_with cause q k to_fault holds = closes_good c dir target b now lines (before k (dirs (level ∷ above))) (fails cause)
          (record { cause = λ close. to_fault (subst (λ x. TellsWant x c.lines) q wanted); holds = holds; took = g.tally.took })

      memory : (k : Stage) → is_close (due_at k level) ≡ false → error ≡ NoMemory → Holds c b now (before k (dirs (level ∷ above)))
          → Good c dir target b now lines (take true (clearing k level above count left) (Refused NoMemory))
      memory removes_file o q holds = fails_with NoMemory q removes_file (λ w. w) holds
      memory order.opens o q holds = fails_with NoMemory q order.opens (λ w. w) holds
      memory (lists h) o q holds = fails_with NoMemory q (lists h) (λ w. w) holds
      memory (shuts h) o q holds = cc (o)
      memory (leaves h) o q holds = cc (o)
      memory removes_dir o q holds = fails_with NoMemory q removes_dir (λ w. w) holds

      room : (k : Stage) → is_close (due_at k level) ≡ false → error ≡ BookFull → Holds c b now (before k (dirs (level ∷ above)))
          → Good c dir target b now lines (take true (clearing k level above count left) (Refused BookFull))
      room removes_file o q holds = fails_with BookFull q removes_file (λ w. w) holds
      room order.opens o q holds = fails_with BookFull q order.opens (λ w. w) holds
      room (lists h) o q holds = fails_with BookFull q (lists h) (λ w. w) holds
      room (shuts h) o q holds = cc (o)
      room (leaves h) o q holds = cc (o)
      room removes_dir o q holds = fails_with BookFull q removes_dir (λ w. w) holds

      on : IsWant error → (k : Stage) → is_close (due_at k level) ≡ false → Holds c b now (before k (dirs (level ∷ above)))
          → Good c dir target b now lines (take true (clearing k level above count left) (Refused error))
      on (inl q) k o holds = subst (λ x. Good c dir target b now lines (take true (clearing k level above count left) (Refused x))) (sym q) (memory k o q holds)
      on (inr q) k o holds = subst (λ x. Good c dir target b now lines (take true (clearing k level above count left) (Refused x))) (sym q) (room k o q holds)
