-- What removals that are answered Done do to the nodes, and how many they are.
use Rattle.std.specs.Prelude.{◌≡◌, ℕ, suc, ◌+◌, List, [], ◌∷◌, ◌++◌, true, not, length, slice_get, Option, Some, None, Ok, Err, refl}
use Rattle.std.proofs.Common.{ap, ◌∙◌, arith}
use Rattle.std.proofs.lemmas.Bool.{false≢true}
use Rattle.path_text.specs.declared.errno.Errno.{Errno}
use Rattle.path_text.specs.declared.errno.Errno.TheVariants.{NotFound, BadHandle, NotDir, IsDir, NotEmpty}
use Rattle.tree_model.specs.declared.answer.Answer.{Answer}
use Rattle.tree_model.specs.declared.answer.Answer.TheVariants.{Opened, Text, Names, NotBelow, Listed, Done, Refused}
use Rattle.tree_model.specs.declared.answer.Event.{Event}
use Rattle.tree_model.specs.StepWith.{StepWith}
use Rattle.tree_model.specs.declared.step.StepOf.TheVariants.{Open, Dup, Parent, ReadLink, NameBelow, List as ListNames, Close, MakeDir, MakeFile, MakeLink, RemoveFile, RemoveDir, Rename}
use Rattle.tree_model.specs.State.{State, child, is_dir, has_entries, put_at}
use Rattle.tree_model.specs.Steps.{Outcome, refused, changes, outcome, held}
use Rattle.tree_model.specs.Entries.{refuse_if, with_some}
use Rattle.step_resolver.specs.Order.{Line, answered, no_room, not_made, events_of}
use Rattle.bulk_ops.specs.RemoveAllTells.{removals, one_more_if, is_removal}
use Rattle.bulk_ops.proofs.RemovingAll.StepAnswers.{FileCase, no_dir, no_entry, at_dir, gone, file_case, DirCase, not_in_dir, no_such_entry, at_no_dir, not_empty, dir_gone, dir_case}
use Rattle.bulk_ops.proofs.RemovingAll.Quiet.Gone.{one_more_add}

-- ---- one removal

-- the outcome takes an entry away
pub record Takes (s : State) (o : Outcome) : Type 0 where
  pub dir : ℕ
  pub name : List ℕ
  pub entry : ℕ
  pub child : child s.nodes dir name ≡ Some entry
  pub after : o.after.nodes ≡ put_at s.nodes entry None

not_refused : (s : State) (o : Outcome) (error : Errno) → Done ≡ o.answer → o ≡ refused s error → ⊥
not_refused s o error done e = on (done ∙ ap (λ v. v.answer) e)
  where
    on : Done ≡ Refused error → ⊥
    on q = cc (q)

file_takes : (s : State) (a h : ℕ) (n : List ℕ) → Done ≡ (outcome s a (RemoveFile h n)).answer → Takes s (outcome s a (RemoveFile h n))
file_takes s a h n done = on (held s a h) refl
  where
    by : (d : ℕ) (o : Outcome) → Done ≡ o.answer → FileCase s d n o → Takes s o
    by d o q (no_dir f e) = absurd (not_refused s o NotDir q e)
    by d o q (no_entry f e) = absurd (not_refused s o NotFound q e)
    by d o q (at_dir e) = absurd (not_refused s o IsDir q e)
    by d o q (gone x f e) = record { dir = d; name = n; entry = x; child = f; after = ap (λ v. v.after.nodes) e }

    on : (o : Option ℕ) → held s a h ≡ o → Takes s (outcome s a (RemoveFile h n))
    on None q = absurd (not_refused s (outcome s a (RemoveFile h n)) BadHandle done
        (ap (λ o. with_some o (refused s BadHandle) (λ y. changes s (refuse_if (not (is_dir s.nodes y)) (Err NotDir)
        (with_some (child s.nodes y n) (Err NotFound) (λ c. refuse_if (is_dir s.nodes c) (Err IsDir) (Ok (put_at s.nodes c None))))))) q))
    on (Some d) q = by d (outcome s a (RemoveFile h n)) done (file_case s a h n d q)

dir_takes : (s : State) (a h : ℕ) (n : List ℕ) → Done ≡ (outcome s a (RemoveDir h n)).answer → Takes s (outcome s a (RemoveDir h n))
dir_takes s a h n done = on (held s a h) refl
  where
    by : (d : ℕ) (o : Outcome) → Done ≡ o.answer → DirCase s d n o → Takes s o
    by d o q (not_in_dir f e) = absurd (not_refused s o NotDir q e)
    by d o q (no_such_entry f e) = absurd (not_refused s o NotFound q e)
    by d o q (at_no_dir e) = absurd (not_refused s o NotDir q e)
    by d o q (not_empty e) = absurd (not_refused s o NotEmpty q e)
    by d o q (dir_gone x f e) = record { dir = d; name = n; entry = x; child = f; after = ap (λ v. v.after.nodes) e }

    on : (o : Option ℕ) → held s a h ≡ o → Takes s (outcome s a (RemoveDir h n))
    on None q = absurd (not_refused s (outcome s a (RemoveDir h n)) BadHandle done
        (ap (λ o. with_some o (refused s BadHandle) (λ y. changes s (refuse_if (not (is_dir s.nodes y)) (Err NotDir)
        (with_some (child s.nodes y n) (Err NotFound) (λ c. refuse_if (not (is_dir s.nodes c)) (Err NotDir)
        (refuse_if (has_entries s.nodes c) (Err NotEmpty) (Ok (put_at s.nodes c None)))))))) q))
    on (Some d) q = by d (outcome s a (RemoveDir h n)) done (dir_case s a h n d q)

file_done : (h : ℕ) (n : List ℕ) (answer : Answer) → is_removal (RemoveFile h n) answer ≡ true → Done ≡ answer
file_done h n (Opened k x kind) r = absurd (false≢true r)
file_done h n (Text text) r = absurd (false≢true r)
file_done h n (Names names) r = absurd (false≢true r)
file_done h n NotBelow r = absurd (false≢true r)
file_done h n (Listed names) r = absurd (false≢true r)
file_done h n Done r = refl
file_done h n (Refused error) r = absurd (false≢true r)

dir_done : (h : ℕ) (n : List ℕ) (answer : Answer) → is_removal (RemoveDir h n) answer ≡ true → Done ≡ answer
dir_done h n (Opened k x kind) r = absurd (false≢true r)
dir_done h n (Text text) r = absurd (false≢true r)
dir_done h n (Names names) r = absurd (false≢true r)
dir_done h n NotBelow r = absurd (false≢true r)
dir_done h n (Listed names) r = absurd (false≢true r)
dir_done h n Done r = refl
dir_done h n (Refused error) r = absurd (false≢true r)

-- a removal that is answered Done takes an entry away
pub removal_takes : (s : State) (a : ℕ) (step : StepWith ℕ) (answer : Answer) → is_removal step answer ≡ true → answer ≡ (outcome s a step).answer
    → Takes s (outcome s a step)
removal_takes s a (RemoveFile h n) answer r e = file_takes s a h n (file_done h n answer r ∙ e)
removal_takes s a (RemoveDir h n) answer r e = dir_takes s a h n (dir_done h n answer r ∙ e)
removal_takes s a (Open h n) answer r e = absurd (false≢true r)
removal_takes s a (Dup h) answer r e = absurd (false≢true r)
removal_takes s a (Parent h) answer r e = absurd (false≢true r)
removal_takes s a (ReadLink h) answer r e = absurd (false≢true r)
removal_takes s a (NameBelow k h) answer r e = absurd (false≢true r)
removal_takes s a (ListNames h) answer r e = absurd (false≢true r)
removal_takes s a (Close h) answer r e = absurd (false≢true r)
removal_takes s a (MakeDir h n) answer r e = absurd (false≢true r)
removal_takes s a (MakeFile h n) answer r e = absurd (false≢true r)
removal_takes s a (MakeLink h n text) answer r e = absurd (false≢true r)
removal_takes s a (Rename h n k m mode) answer r e = absurd (false≢true r)

-- ---- their number

abbrev pub removal_events : List Event → ℕ
removal_events [] = 0
removal_events (event ∷ events) = one_more_if (is_removal event.step event.answer) (removal_events events)

pub removals-events : (a : ℕ) (lines : List Line) → removals lines ≡ removal_events (events_of a lines)
removals-events a [] = refl
removals-events a (answered step answer ∷ lines) = ap (one_more_if (is_removal step answer)) (removals-events a lines)
removals-events a (no_room step answer ∷ lines) = ap (one_more_if (is_removal step answer)) (removals-events a lines)
removals-events a (not_made error ∷ lines) = removals-events a lines

pub removal_events-append : (xs ys : List Event) → removal_events (xs ++ ys) ≡ removal_events xs + removal_events ys
removal_events-append [] ys = omega arith
removal_events-append (event ∷ xs) ys =
    one_more_add (is_removal event.step event.answer) (removal_events xs) (removal_events ys) (removal_events (xs ++ ys)) (removal_events-append xs ys)

-- what falls by one at each removal, and by none at each other event
pub falls : (f : ℕ → ℕ) (events : List Event)
    → ((t : ℕ) (event : Event) → slice_get events t ≡ Some event → f t ≡ one_more_if (is_removal event.step event.answer) (f (suc t)))
    → f 0 ≡ removal_events events + f (length events)
falls f [] each = omega arith
falls f (event ∷ events) each =
    each 0 event refl
    ∙ one_more_add (is_removal event.step event.answer) (removal_events events) (f (suc (length events))) (f 1)
    (falls (λ t. f (suc t)) events (λ t v e. each (suc t) v e))
