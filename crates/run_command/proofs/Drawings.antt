-- What is drawn of a script: its tree is read a second time, its roots are granted there, and the picture is one of its run.
use Rattle.std.proofs.Common.{◌≡◌, ◌≢◌, ℕ, List, [], length, sym, ap, ◌∙◌, subst, arith}
use Rattle.std.specs.Prelude.{Option, Some, Result, Ok, Err, MatchResult, IfOk, IfErr, IsErrAnd}
use Rattle.std.proofs.lemmas.List.{length-map}
use Rattle.drawings.specs.declared.picture.Closes.{Closes}
use Rattle.drawings.specs.declared.picture.PictureFault.{PictureFault}
use Rattle.drawings.specs.declared.picture.PictureFault.TheVariants as picture_fault
use Rattle.drawings.specs.Calls.{calls_of}
use Rattle.drawings.specs.Picture.{Drawn, drawn_of, IsLong, IsPictureFault}
use Rattle.race_core.specs.declared.plan.ActorPlan.{ActorPlan}
use Rattle.race_core.specs.declared.report.Outcome.{Outcome}
use Rattle.race_core.specs.Opening.{granted}
use Rattle.tree_model.specs.declared.answer.Event.{Event}
use Rattle.tree_model.specs.declared.inode.OpenHandle.{OpenHandle}
use Rattle.tree_model.specs.State.{State}
use Rattle.run_command.specs.declared.drawing.DrawFault.{DrawFault}
use Rattle.run_command.specs.declared.drawing.Style.{Style}
use Rattle.run_command.specs.Drawing.{drawn, form_text, opened_by, told_of}
use Rattle.run_command.specs.Drawing.{IsDrawingOf, IsNoDrawing, IsRunFrom, IsUndrawn, IsWellFormed}
use Rattle.run_command.specs.Replay.{IsRunOf}
use Rattle.scripts.specs.Writing.{tree_of}
use Rattle.scripts.specs.Scenario.{Said, IsPlayable}

-- ---- the roots

-- the roots are granted on the tree of what is said, in which nobody has a handle yet
pub granted_so : (said_tree tree t : State) (said_plans plans : List ActorPlan) → tree ≡ said_tree → said_tree.handles ≡ [] → plans ≡ said_plans
    → opened_by (granted tree 0 plans) ≡ Some t → opened_by (granted (record { nodes = said_tree.nodes; handles = [] }) 0 said_plans) ≡ Some t
granted_so said_tree tree t said_plans plans same none are h =
    ap (λ (hs : List (Option OpenHandle)). opened_by (granted (record { nodes = said_tree.nodes; handles = hs }) 0 said_plans)) (sym none)
    ∙ ap (λ (s : State). opened_by (granted s 0 said_plans)) (sym same) ∙ ap (λ (ps : List ActorPlan). opened_by (granted tree 0 ps)) (sym are) ∙ h

-- ---- the picture

-- the tree in which the roots were granted again is the one that the run went from
pub opening : (said : Said) (t tree : State) (events : List Event) (replies : List (List Outcome)) (run : IsRunOf said tree events replies)
    → opened_by (granted (tree_of said) 0 said.plans) ≡ Some t → t ≡ run.opened.roots.tree
opening said t tree events replies run h =
    let are : Some t ≡ Some run.opened.roots.tree = sym h ∙ ap opened_by run.opened.are_granted in cc (are)

-- the picture made of it is the run's
pub made : (closes : Closes) (said : Said) (t tree : State) (calls : List (List (List ℕ))) (events : List Event)
    (replies : List (List Outcome)) (ran : IsRunFrom t said tree events replies)
    → calls ≡ calls_of said.plans → drawn_of closes t calls events replies ≡ drawn closes said tree events replies ran.0
made closes said t tree calls events replies ran are =
    ap (λ (s : State). drawn_of closes s calls events replies) ran.1
    ∙ ap (λ (cs : List (List (List ℕ))). drawn_of closes ran.0.opened.roots.tree cs events replies) are

-- a picture's fault is told so
pub undrawn_so : (events : List Event) (picture : Drawn) (fault : PictureFault) (made : Result (List ℕ) DrawFault)
    → (fault ≢ picture_fault.NoMemory → IsPictureFault events picture fault)
    → IsErrAnd made (λ told. told ≡ told_of fault)
    → IfErr made (IsUndrawn events picture)
undrawn_so events picture fault (Ok text) why is = tt
undrawn_so events picture fault (Err told) why is = (fault, (is, why))

-- where it isn't drawn, it is told why
pub is_no_drawing : (closes : Closes) (said : Said) (t tree : State) (calls : List (List (List ℕ)))
    (events : List Event) (replies : List (List Outcome)) (told : DrawFault) → IsPlayable said
    → IsRunFrom t said tree events replies → calls ≡ calls_of said.plans
    → IsUndrawn events (drawn_of closes t calls events replies) told → IsNoDrawing closes said told
is_no_drawing closes said t tree calls events replies told playable ran are undrawn =
    subst (IsNoDrawing closes said) (sym undrawn.1.0) (by undrawn.0 undrawn.1.1)
  where
    counted : length calls ≡ length said.plans
    counted = ap length are ∙ length-map said.plans _

    by : (fault : PictureFault)
        → (fault ≢ picture_fault.NoMemory → IsPictureFault events (drawn_of closes t calls events replies) fault)
        → IsNoDrawing closes said (told_of fault)
    by picture_fault.Actors why = let some = playable.some in let over = why (λ e. cc (e)) in omega (arith, counted, some, over)
    by picture_fault.Lines why =
        record {
          tree = tree;
          events = events;
          replies = replies;
          run = ran.0;
          over = subst (IsLong events) (made closes said t tree calls events replies ran are) (why (λ e. cc (e))).2;
        }
    by picture_fault.NoMemory why = tt

pub is_drawn : (style : Style) (said : Said) (t tree : State) (calls : List (List (List ℕ))) (events : List Event)
    (replies : List (List Outcome)) (drawing : Result (List ℕ) DrawFault) → IsPlayable said
    → IsRunFrom t said tree events replies → calls ≡ calls_of said.plans
    → IfOk drawing (λ text. text ≡ form_text style.form (drawn_of style.closes t calls events replies))
    → IfOk drawing (IsWellFormed style.form)
    → IfErr drawing (IsUndrawn events (drawn_of style.closes t calls events replies))
    → MatchResult drawing (IsDrawingOf style said) (IsNoDrawing style.closes said)
is_drawn style said t tree calls events replies (Ok text) playable ran are told well_formed undrawn =
    record {
      tree = tree;
      events = events;
      replies = replies;
      run = ran.0;
      is = told ∙ ap (form_text style.form) (made style.closes said t tree calls events replies ran are);
      well_formed = well_formed;
    }
is_drawn style said t tree calls events replies (Err fault) playable ran are told well_formed undrawn =
    is_no_drawing style.closes said t tree calls events replies fault playable ran are undrawn
