-- Where no other changes an entry that a walk's path reads, its end is what the path means in the tree as the window begins.
use Rattle.std.proofs.Common.{◌≡◌, ℕ, zero, suc, List, [], ◌∷◌, length, slice_get, Option, Some, None, refl, sym, ap, subst, ◌∙◌, eq-eqb, le_refl}
use Rattle.tree_model.specs.declared.answer.Event.{Event}
use Rattle.tree_model.specs.State.{child, Stands}
use Rattle.tree_model.specs.declared.inode.Place.{Place}
use Rattle.step_resolver.specs.Order.{Turn, more, found, partial, failed, begins, LeadsTo}
use Rattle.step_resolver.specs.WalkHistory.{WalkInHistory, begin_of, state_at, IsWalkInHistory}
use Rattle.step_resolver.specs.Footprint.{AllLeftAlone}
use Rattle.step_resolver.specs.Headline.{EveryWalk, Tells}
use Rattle.step_resolver.specs.FootprintLaws.{WalksMean, IsQuiet, StandsThere, QuietWalksMean}
use Rattle.step_resolver.proofs.Underway.LegalHistory.{begins_as_tree, lived, last_moment}
use Rattle.step_resolver.proofs.Ends.EveryWalk.{tree_laws, walks_tell}
use Rattle.step_resolver.proofs.Ends.EntriesLeftAlone.{own_tells, next_moment, past_the_end, steady, root_is_no_child}
use Rattle.step_resolver.proofs.Underway.OwnSteps.{only_tell, own_events_leave_nodes}
use Rattle.step_resolver.proofs.Ends.TrailsAndMeaning.{Fits}
use Rattle.step_resolver.proofs.Ends.WholeMeaning.{setting, tells_meaning}
use Rattle.step_resolver.proofs.Ends.DeepestMeaning.{tells_deepest}

module _ (w : WalkInHistory) (end : Turn) (is : IsWalkInHistory w) (leads : LeadsTo w.way (begins w.way w.path) w.lines end) where
  no_root_below : (d : ℕ) (names : List (List ℕ)) (n : List ℕ) → Stands (begin_of w).nodes w.root d names → child (begin_of w).nodes d n ≡ Some w.root → ⊥
  no_root_below d names n = root_is_no_child tree_laws.one_way (begin_of w).nodes (begins_as_tree tree_laws w is).tree w.root d names n

  fits : Fits (setting w)
  fits = record {
    objects = λ x object e. (lived tree_laws w is).objects 0 x object e;
    first = refl;
    top_free = λ t. ((lived tree_laws w is).states t).tree.top_is_free;
    steady = λ e alone t. steady tree_laws.nodes w (only_tell w end is leads) e alone t;
    no_root_below = no_root_below;
    root_dir = is.root_is_dir;
  }

  same_nodes : IsQuiet w → (t : ℕ) → (state_at w t).nodes ≡ (begin_of w).nodes
  same_nodes quiet zero = refl
  same_nodes quiet (suc t) = on (slice_get w.window t) refl ∙ same_nodes quiet t
    where
      on : (o : Option Event) → slice_get w.window t ≡ o → (state_at w (suc t)).nodes ≡ (state_at w t).nodes
      on None q = ap (λ s. s.nodes) (past_the_end (begin_of w) w.window t q)
      on (Some event) q = ap (λ s. s.nodes) (next_moment (begin_of w) w.window t event q)
          ∙ tree_laws.nodes (state_at w t) event.actor event.step (own_tells w.actor w.window (only_tell w end is leads) t event q (eq-eqb event.actor w.actor (quiet t event q)))

pub walks_mean : WalksMean
walks_mean w end is leads =
    let told = walks_tell w end is leads in
    (tells_meaning (fits w end is leads) end leads told, tells_deepest (fits w end is leads) end leads told)

-- the headline, whole
pub every_walk : EveryWalk
every_walk w end is leads =
    let means = walks_mean w end is leads in
    record { tells = walks_tell w end is leads; means = means.0; leaves = own_events_leave_nodes w end is leads; deepest = means.1 }

-- where no other acts, each entry is left alone
quiet_alone : (w : WalkInHistory) → IsQuiet w → (entries : List Place) → AllLeftAlone w entries
quiet_alone w quiet [] = tt
quiet_alone w quiet (e ∷ entries) = (record { same = λ t event q ne. absurd (ne (quiet t event q)) }, quiet_alone w quiet entries)

stands_there : (w : WalkInHistory) (end : Turn) → ((t : ℕ) → (state_at w t).nodes ≡ (begin_of w).nodes) → Tells w end → StandsThere w end
stands_there w (more walk) same tells = tt
stands_there w (found handle names) same tells =
    subst (λ nodes. Stands nodes w.root handle.node names) (same tells.when)
    (subst (λ x. Stands (state_at w tells.when).nodes w.root x names) tells.node
    (subst (λ ns. Stands (state_at w tells.when).nodes w.root tells.to.node ns) tells.passed tells.stood.stands))
stands_there w (partial handle names rest) same tells =
    subst (λ nodes. Stands nodes w.root handle.node names) (same tells.when)
    (subst (λ x. Stands (state_at w tells.when).nodes w.root x names) tells.node
    (subst (λ ns. Stands (state_at w tells.when).nodes w.root tells.to.node ns) tells.passed tells.stood.stands))
stands_there w (failed error) same tells = tt

pub quiet_walks_mean : QuietWalksMean
quiet_walks_mean w end is leads ended quiet other =
    let means = walks_mean w end is leads in record {
      nodes = ap (λ s. s.nodes) (sym (last_moment (begin_of w) w.window (length w.window) (le_refl (length w.window))))
          ∙ same_nodes w end is leads quiet (length w.window);
      names = stands_there w end (same_nodes w end is leads quiet) (walks_tell w end is leads);
      means = λ plain. means.0 ended plain other (quiet_alone w quiet _);
      deepest = λ deep. means.1 ended deep other (quiet_alone w quiet _);
    }
