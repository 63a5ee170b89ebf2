-- From the plan of a walk to the order of its steps: what the next part asks for.
use Rattle.std.specs.Prelude.{◌≡◌, ◌≢◌, ◌<◌, ℕ, ◌-◌, List, [], ◌∷◌, ◌++◌, Bool, true, false, not, ◌||◌, ◌&&◌, length, take, reverse, Option, Some, None, IsSome, if◌then◌else◌, refl}
use Rattle.std.proofs.Common.{sym, ap, subst, ◌∙◌, arith, length-append}
use Rattle.std.proofs.lemmas.List.{reverse-reverse}
use Rattle.std.proofs.Math.Seq.{take-append_seam}
use Rattle.std.proofs.lemmas.Option.{same_Some}
use Rattle.std.proofs.lemmas.Grind.{reverse_onto}
use Rattle.std.proofs.lemmas.Bool.{not-false as not_false, not-true as not_true}
use Rattle.std.proofs.lemmas.Bool.Decides.{nat_tests}
use Rattle.std.proofs.Math.Bool.{or-true}
use Rattle.path_text.specs.declared.flags.Flags.{Flags}
use Rattle.path_text.specs.declared.errno.Errno.TheVariants.{NotDir, CrossRoot, TooLong}
use Rattle.path_text.specs.declared.name.TheConstants.{NAME_MAX}
use Rattle.path_text.specs.declared.part.Part.{Part}
use Rattle.path_text.specs.declared.part.Part.TheVariants as part
use Rattle.handles.specs.Objects.{ReachedObject}
use Rattle.walk_plan.specs.declared.goal.Goal.{Goal}
use Rattle.walk_plan.specs.Plan.{PlanState, next_part, first_part, after_first, own_after_next, is_own, is_last, is_single, stayed, went_up, comes_from_own, CanStay, most_parts_left}
use Rattle.walk_plan.proofs.PlanLemmas.{stayed_lowers}
use Rattle.walk_plan.specs.Plan as plan
use Rattle.step_resolver.specs.Asked.{Up, ask, asked, followed, follows}
use Rattle.step_resolver.specs.Meaning.{is_too_long}
use Rattle.step_resolver.specs.Order.{Way, Position, root_itself, holds, Todo, todo, Turn, more, opening, rising, names_of, handles_of, is_dir_position, gives_up, at_end, in_directory, on_part, on_own, on_parts, goes_on}
use Rattle.step_resolver.specs.declared.walk.Root.{Root}
use Rattle.step_resolver.specs.View.{way_of, handle_of, place_of, numbers_of, is_directory_at, own_to_come, todo_of, stays, stays_at, SameCourse, IsPlace}

-- ---- places

pub handles_at : (place : Option ReachedObject) (names : List (List ℕ)) → handles_of (place_of place names) ≡ numbers_of place
handles_at None names = refl
handles_at (Some held) names = refl

pub directory_at : (place : Option ReachedObject) (names : List (List ℕ)) → is_dir_position (place_of place names) ≡ is_directory_at place
directory_at None names = refl
directory_at (Some held) names = refl

pub names_at : (place : Option ReachedObject) (names : List (List ℕ)) → IsPlace names place → names_of (place_of place names) ≡ reverse names
names_at None names e = sym (ap reverse e)
names_at (Some held) names e = refl

-- ---- the next part

-- the first of the caller's own parts is followed as the caller says where it is the last
pub ask_own : (follow : Bool) (q : Part) (own : List Part) → asked follow (q ∷ own) ≡ ask (follow || not (is_single (q ∷ own))) q ∷ asked follow own
ask_own true q [] = refl
ask_own false q [] = refl
ask_own true q (r ∷ own) = refl
ask_own false q (r ∷ own) = refl

-- whether a link at the next part is followed, where that is a name
abbrev pub follows_next : PlanState → Bool
follows_next p = follows p.goal || not (is_own p && is_last p)

module _ (way : Way) (position : Position) (b : ℕ) (goal : Goal) where
  own_first : (q : Part) (own : List Part)
      → on_own way position (asked (follows goal) (q ∷ own)) b
      ≡ on_part way position (ask (follows goal || not (is_single (q ∷ own))) q) true (todo [] (asked (follows goal) own) b) (on_own way position (asked (follows goal) own) b)
  own_first q own = rw (ask_own (follows goal) q own) refl

  inner_first : (q : Part) (inner own : List Part)
      → on_parts way position (followed (q ∷ inner)) (asked (follows goal) own) b
      ≡ on_part way position (ask (follows goal || true) q) false (todo (followed inner) (asked (follows goal) own) b) (on_parts way position (followed inner) (asked (follows goal) own) b)
  inner_first q inner own = rw (or-true (follows goal)) refl

pub on_next : (way : Way) (position : Position) (p : PlanState) (q : Part) → next_part p ≡ Some q
    → goes_on way position (todo_of p) ≡ on_part way position (ask (follows_next p) q) (is_own p) (todo_of (stayed p)) (goes_on way position (todo_of (stayed p)))
on_next way position p q e = on_lists p.inner p.own e where
  Asks : List Part → List Part → Part → Type 0
  Asks inner own q =
      on_parts way position (followed inner) (asked (follows p.goal) own) p.links_left
      ≡ on_part way position (ask (follows p.goal || not (comes_from_own inner own && is_single (inner ++ own))) q) (comes_from_own inner own)
      (todo (followed (after_first inner)) (asked (follows p.goal) (own_after_next inner own)) p.links_left)
      (on_parts way position (followed (after_first inner)) (asked (follows p.goal) (own_after_next inner own)) p.links_left)

  on_lists : (inner own : List Part) → first_part (inner ++ own) ≡ Some q → Asks inner own q
  on_lists [] [] e = cc (e)
  on_lists [] (r ∷ own) e = subst (Asks [] (r ∷ own)) (same_Some r q e) (own_first way position p.links_left p.goal r own)
  on_lists (r ∷ inner) own e = subst (Asks (r ∷ inner) own) (same_Some r q e) (inner_first way position p.links_left p.goal r inner own)

-- with no next part, nothing is to come
pub none_left : (p : PlanState) → next_part p ≡ None → (p.inner ≡ []) × (p.own ≡ [])
none_left p e = on_lists p.inner p.own e where
  on_lists : (inner own : List Part) → first_part (inner ++ own) ≡ None → (inner ≡ []) × (own ≡ [])
  on_lists [] [] e = (refl, refl)
  on_lists [] (r ∷ own) e = cc (e)
  on_lists (r ∷ inner) own e = cc (e)

pub on_end : (way : Way) (position : Position) (p : PlanState) → next_part p ≡ None → goes_on way position (todo_of p) ≡ at_end position (own_to_come p)
on_end way position p e = let none = none_left p e in rw (none.0, none.1) refl

pub on_no_directory : (root : Root) (place : Option ReachedObject) (p : PlanState) → IsSome (next_part p) → is_directory_at place ≡ false
    → goes_on (way_of root p) (place_of place p.names) (todo_of p) ≡ gives_up (numbers_of place) NotDir
on_no_directory root place p some other = by_part (next_part p) refl some where
  by_part : (next : Option Part) → next_part p ≡ next → IsSome next → goes_on (way_of root p) (place_of place p.names) (todo_of p) ≡ gives_up (numbers_of place) NotDir
  by_part None e some = cc (some)
  by_part (Some q) e some =
      rw (on_next (way_of root p) (place_of place p.names) p q e, directory_at place p.names, other, handles_at place p.names) refl

-- ---- at a part that needs no step

in_the_root : (way : Way) (position : Position) (own : Bool) (rest : Todo) (passed : Turn) → way.flags.beneath ≡ false → names_of position ≡ []
    → in_directory way position Up own rest passed ≡ passed
in_the_root way root_itself own rest passed free e = rw free refl
in_the_root way (holds handle []) own rest passed free e = rw free refl
in_the_root way (holds handle (n ∷ names)) own rest passed free e = cc (e)

pub stay_here : (way : Way) (position : Position) (p : PlanState) → way.flags ≡ p.flags → is_dir_position position ≡ true → names_of position ≡ reverse p.names
    → stays p ≡ true → goes_on way position (todo_of (stayed p)) ≡ goes_on way position (todo_of p)
stay_here way position p flags dir names here = by_part (next_part p) p.names refl refl here where
  by_part : (next : Option Part) (ns : List (List ℕ)) → next_part p ≡ next → p.names ≡ ns → stays_at next ns p.flags ≡ true
      → goes_on way position (todo_of (stayed p)) ≡ goes_on way position (todo_of p)
  by_part None ns e f here = cc (here)
  by_part (Some part.Cur) ns e f here = sym (rw (on_next way position p part.Cur e, dir) refl)
  by_part (Some part.Up) [] e f here =
      let free : way.flags.beneath ≡ false = ap (λ (w : Flags). w.beneath) flags ∙ not_true p.flags.beneath here in
      let top : names_of position ≡ [] = names ∙ ap reverse f in
      sym (rw (on_next way position p part.Up e, dir) (in_the_root way position (is_own p) (todo_of (stayed p)) (goes_on way position (todo_of (stayed p))) free top))
  by_part (Some part.Up) (n ∷ ns) e f here = cc (here)
  by_part (Some (part.Named n)) ns e f here = cc (here)

-- the walk stays only at `.`, and at `..` where no name was passed
pub can_stay : (p : PlanState) → stays p ≡ true → CanStay (next_part p) p.names
can_stay p here = by_part (next_part p) p.names here where
  by_part : (next : Option Part) (ns : List (List ℕ)) → stays_at next ns p.flags ≡ true → CanStay next ns
  by_part None ns here = cc (here)
  by_part (Some part.Cur) ns here = tt
  by_part (Some part.Up) [] here = refl
  by_part (Some part.Up) (n ∷ ns) here = cc (here)
  by_part (Some (part.Named n)) ns here = cc (here)

-- ---- all parts at which the walk stays

pub same_course : (p : PlanState) → SameCourse p p
same_course p = record { names = refl; goal = refl; flags = refl; same = λ way position flags dir names. refl }

pub same_course_stayed : (p q : PlanState) → SameCourse p q → stays q ≡ true → SameCourse p (stayed q)
same_course_stayed p q so_far here = record {
  names = so_far.names;
  goal = so_far.goal;
  flags = so_far.flags;
  same = λ way position flags dir names.
      stay_here way position q (flags ∙ sym so_far.flags) dir (names ∙ ap reverse (sym so_far.names)) here ∙ so_far.same way position flags dir names;
}

pub stayed_shorter : (p : PlanState) → stays p ≡ true → most_parts_left (stayed p) < most_parts_left p
stayed_shorter p here = stayed_lowers p (is_some (next_part p) p.names here) where
  is_some : (next : Option Part) (ns : List (List ℕ)) → stays_at next ns p.flags ≡ true → IsSome next
  is_some None ns here = cc (here)
  is_some (Some q) ns here = refl

-- ---- at a part that needs a step

-- `..` where nothing may lead out
pub rise_crosses : (root : Root) (p : PlanState) (place : Option ReachedObject) → next_part p ≡ Some part.Up → p.names ≡ [] → stays p ≡ false → is_directory_at place ≡ true
    → goes_on (way_of root p) (place_of place p.names) (todo_of p) ≡ gives_up (numbers_of place) CrossRoot
rise_crosses root p place e none moves dir =
    let closed : p.flags.beneath ≡ true = not_false p.flags.beneath (subst (λ (ns : List (List ℕ)). stays_at (Some part.Up) ns p.flags ≡ false) none (subst (λ (next : Option Part). stays_at next p.names p.flags ≡ false) e moves)) in
    rw (on_next (way_of root p) (place_of place p.names) p part.Up e, directory_at place p.names, dir, none) (out place closed) where
      out : (place : Option ReachedObject) → p.flags.beneath ≡ true
          → in_directory (way_of root p) (place_of place []) Up (is_own p) (todo_of (stayed p)) (goes_on (way_of root p) (place_of place []) (todo_of (stayed p))) ≡ gives_up (numbers_of place) CrossRoot
      out None closed = rw closed refl
      out (Some held) closed = rw closed refl

-- the names less the last, the other way round
front_of : (names : List (List ℕ)) (n : List ℕ) (ns : List (List ℕ)) → names ≡ reverse ns ++ n ∷ [] → reverse (take (length names - 1) names) ≡ ns
front_of names n ns e =
    let count : length (reverse ns ++ n ∷ []) - 1 ≡ length (reverse ns) = omega (arith, length-append (reverse ns) (n ∷ [])) in
    rw (e, count, take-append_seam (reverse ns) (n ∷ []), reverse-reverse ns) refl

pub rises : (root : Root) (p : PlanState) (held : ReachedObject) → next_part p ≡ Some part.Up → p.names ≢ [] → is_directory_at (Some held) ≡ true
    → more (rising (handle_of held) (reverse (went_up p).names) (todo_of (went_up p))) ≡ goes_on (way_of root p) (place_of (Some held) p.names) (todo_of p)
rises root p held e some dir =
    sym (rw (on_next (way_of root p) (place_of (Some held) p.names) p part.Up e, dir) (up (reverse p.names) refl)) where
      Rises : List (List ℕ) → Type 0
      Rises ns =
          in_directory (way_of root p) (holds (handle_of held) ns) Up (is_own p) (todo_of (stayed p)) (goes_on (way_of root p) (holds (handle_of held) ns) (todo_of (stayed p)))
          ≡ more (rising (handle_of held) (reverse (went_up p).names) (todo_of (stayed p)))

      up : (ns : List (List ℕ)) → reverse p.names ≡ ns → Rises ns
      up [] r = absurd (some (sym (reverse-reverse p.names) ∙ ap reverse r))
      up (n ∷ ns) r = ap (λ (ms : List (List ℕ)). more (rising (handle_of held) ms (todo_of (stayed p))))
          (sym (front_of p.names n ns (sym (reverse-reverse p.names) ∙ ap reverse r ∙ reverse_onto ns n [])))

-- a name
pub at_name : (way : Way) (position : Position) (p : PlanState) (n : List ℕ) → next_part p ≡ Some (part.Named n) → is_dir_position position ≡ true
    → goes_on way position (todo_of p) ≡ (if is_too_long n then gives_up (handles_of position) TooLong else more (opening position (is_own p) (plan.follows_next_link p) n (todo_of (stayed p))))
at_name way position p n e dir =
    let follow : plan.follows_next_link p ≡ follows_next p = ap (λ (next : Option Part). plan.is_name next && follows_next p) e in
    rw (on_next way position p (part.Named n) e, dir, follow) refl

-- a name that is too long
pub at_long_name : (root : Root) (place : Option ReachedObject) (p : PlanState) (n : List ℕ) → next_part p ≡ Some (part.Named n) → is_directory_at place ≡ true → NAME_MAX < length n
    → goes_on (way_of root p) (place_of place p.names) (todo_of p) ≡ gives_up (numbers_of place) TooLong
at_long_name root place p n e dir long =
    let too_long : is_too_long n ≡ true = grind (arith, nat_tests) in
    rw (at_name (way_of root p) (place_of place p.names) p n e (directory_at place p.names ∙ dir), too_long, handles_at place p.names) refl

-- the loop over the parts at which the walk stays
pub ruleset staying = (same_course, same_course_stayed, can_stay, stayed_shorter)

-- what the next part asks for
pub ruleset next_parts = (on_end, none_left, on_no_directory, at_name, at_long_name, directory_at, names_at)
