-- A place that was found was so at a moment.
use Rattle.std.proofs.Common.{◌≡◌, ⊎_elim, ℕ, zero, suc, ◌+◌, ◌<◌, Bool, true, if◌then◌else◌, List, [], ◌∷◌, length, Option, Some, None, reverse, refl, sym, ap, ◌∙◌, subst, arith}
use Rattle.std.proofs.lemmas.Bool.{eq-eqb, false≢true}
use Rattle.std.specs.Option.{option_and_then, option_map}
use Rattle.path_text.specs.Print.{names_read}
use Rattle.tree_model.specs.declared.answer.Answer.{Answer}
use Rattle.tree_model.specs.declared.answer.Answer.TheVariants.{Names}
use Rattle.tree_model.specs.declared.inode.Inode.{Inode}
use Rattle.tree_model.specs.State.{State, is_gone, names_below, names_within, place_at}
use Rattle.tree_model.specs.Steps.{shows}
use Rattle.step_resolver.proofs.Underway.AfterParent.{names_same}
use Rattle.find_place.specs.Moments.{PlacesStood, StaysGone}
use Rattle.find_place.proofs.MomentLemmas.{places-stood}
use Rattle.calls_by_system_calls.specs.Linux.{Linux, state_at}
use Rattle.calls_by_system_calls.specs.Places.{are_names, AskedPlacesStood, IsTheRoot, place_world, PlaceIsAsked, PlaceIsFound, PlaceIsTold}
use Rattle.calls_by_system_calls.proofs.Moments.{gone_next, longer_later}

shown : (s : State) (o told : Option (List (List ℕ))) (names : List (List ℕ)) → told ≡ Some names → are_names o told ≡ true
    → (shows s o).answer ≡ Names names
shown s None told names e is = absurd (false≢true is)
shown s (Some below) None names e is = absurd (false≢true is)
shown s (Some below) (Some told) names e is =
    let same : told ≡ reverse below = names_same told (reverse below) is in
    let read : told ≡ names = cc (e) in
    ap Names (sym same ∙ read)

stays_gone : (x : Linux) (m top node : ℕ) (passed : ℕ → List ℕ → Bool) (root object : ℕ → List ℕ)
    → node < length (state_at x m).nodes → StaysGone (place_world x m top node passed root object)
stays_gone x m top node passed root object within n gone =
    let same : suc (m + suc n) ≡ m + suc (n + 1) = omega arith in
    subst (λ (i : ℕ). is_gone (state_at x i).nodes node ≡ true) same
    (gone_next x (m + suc n) node (longer_later x m (suc n) node within) gone)

pub asked_place_stood : PlacesStood → (x : Linux) (m calls top node : ℕ) (answer : Answer) → node < length (state_at x m).nodes
    → PlaceIsAsked x m calls top node answer → PlaceIsTold x m calls top node answer
asked_place_stood stood x m calls top node answer within asked =
    let w = place_world x m top node asked.passed asked.root asked.object in
    let found = stood w asked.facts asked.exchanges asked.place
    (stays_gone x m top node asked.passed asked.root asked.object within) asked.says asked.texts asked.is in
    let before : found.0 < calls = omega (arith, found.1, asked.all) in
    let s = state_at x (m + suc found.0) in
    record {
      n = suc found.0;
      by = omega (arith, before);
      stood = asked.tells ∙ sym (⊎_elim
          (λ is. shown s (names_below s.nodes top node) (names_read asked.place) asked.names asked.reads is)
          (λ gone. absurd (false≢true (sym (asked.seen gone.0 found.0 before) ∙ gone.2))) found.2);
    }

pub asked_places_stood : PlacesStood → AskedPlacesStood
asked_places_stood stood x m calls top node answer linux within asked =
    asked_place_stood stood x m calls top node answer within asked

-- ---- the root's own place

below_itself : (parents : ℕ) (nodes : List Inode) (r : ℕ) → names_within parents nodes r r ≡ Some []
below_itself zero nodes r = ap (λ (b : Bool). if b then Some [] else None) (eq-eqb r r refl)
below_itself (suc parents) nodes r =
    ap (λ (b : Bool). if b then Some []
    else option_and_then (λ place. option_map (λ names. place.name ∷ names) (names_within parents nodes r place.parent))
    (place_at nodes r)) (eq-eqb r r refl)

root_stood : (x : Linux) (m calls top node : ℕ) (answer : Answer) → IsTheRoot top node answer
    → PlaceIsTold x m calls top node answer
root_stood x m calls top node answer is = record {
  n = 0;
  by = omega arith;
  stood =
      let s = state_at x (m + 0) in
      is.1 ∙ sym (ap (λ y. (shows s (names_below s.nodes top y)).answer) is.0
      ∙ ap (λ o. (shows s o).answer) (below_itself (length s.nodes) s.nodes top));
}

pub place_stood : (x : Linux) (m calls top node : ℕ) (answer : Answer) → node < length (state_at x m).nodes
    → PlaceIsFound x m calls top node answer → PlaceIsTold x m calls top node answer
place_stood x m calls top node answer within found =
    ⊎_elim (root_stood x m calls top node answer)
    (λ other. ⊎_elim (asked_place_stood places-stood x m calls top node answer within) (λ told. told) other) found
