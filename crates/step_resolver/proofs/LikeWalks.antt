-- Walks that are the same but for the numbers of their handles: by what they hold, and what their plans have to do.
use Rattle.std.specs.Prelude.{◌≡◌, ◌≤◌, ◌↔◌, length, ℕ, ◌-◌, List, [], ◌∷◌, ◌++◌, Bool, true, false, not, ◌||◌, ◌&&◌, map, Option, Some, None, IsSome, IsTrue, refl}
use Rattle.std.proofs.Common.{sym, ap, subst, ◌∙◌, arith}
use Rattle.std.proofs.Math.Bool.{or-true, or-false}
use Rattle.path_text.specs.declared.name.TheConstants.{NAME_MAX}
use Rattle.path_text.specs.declared.part.Part.{Part}
use Rattle.path_text.specs.declared.part.Part.TheVariants as part
use Rattle.handles.specs.Objects.{ReachedObject}
use Rattle.walk_plan.specs.Plan.{PlanState, next_part, first_part, after_first, own_after_next, is_own, is_single, is_name, IsNameAnd, stayed, comes_from_own, follows_next_link}
use Rattle.walk_plan.specs.Same.{last_part, follows_last, SameOwn, SameToCome}
use Rattle.step_resolver.specs.Asked.{AskedPart, Cur, Up, Named, ask, asked, followed, follows}
use Rattle.step_resolver.specs.Like.{LikeHeld, LikePlaces, LikeOnward, LikeAfters}
use Rattle.step_resolver.specs.Order.{Todo, todo}
use Rattle.step_resolver.specs.Renamed.{LikeWalks}
use Rattle.step_resolver.specs.View.{own_to_come, todo_of, name_in, walking_of, IsAtName, MayFollow}
use Rattle.step_resolver.specs.declared.pending.AfterClose.TheVariants.{Onward, Judges}
use Rattle.step_resolver.specs.declared.pending.Pending.TheVariants.{Opening, Reading, Rising, Judging, Duping, Ending}
use Rattle.step_resolver.proofs.WalkParts.{ask_own}

-- what says the same as one of two that say the same says the same as the other
pub as_told : (A B C : Type 0) → A ↔ B → B ↔ C → A ↔ C
as_told A B C ab bc = ((λ a. bc.0 (ab.0 a)), (λ c. ab.1 (bc.1 c)))

-- ---- parts, by what is asked of them

abbrev part_of : AskedPart → Part
part_of Cur = part.Cur
part_of Up = part.Up
part_of (Named follow n) = part.Named n

part_asked : (follow : Bool) (p : Part) → part_of (ask follow p) ≡ p
part_asked follow part.Cur = refl
part_asked follow part.Up = refl
part_asked follow (part.Named n) = refl

parts_followed : (ps : List Part) → map part_of (followed ps) ≡ ps
parts_followed [] = refl
parts_followed (p ∷ ps) = ap (λ q. q ∷ map part_of (followed ps)) (part_asked true p) ∙ ap (λ qs. p ∷ qs) (parts_followed ps)

parts_asked : (follow : Bool) (ps : List Part) → map part_of (asked follow ps) ≡ ps
parts_asked follow [] = refl
parts_asked follow (p ∷ []) = ap (λ q. q ∷ []) (part_asked follow p)
parts_asked follow (p ∷ q ∷ ps) =
    ap (λ r. r ∷ map part_of (asked follow (q ∷ ps))) (part_asked true p) ∙ ap (λ rs. p ∷ rs) (parts_asked follow (q ∷ ps))

-- a link at the very last part is followed, or that part is no name
abbrev last_followed : List AskedPart → Bool
last_followed [] = true
last_followed (Cur ∷ []) = true
last_followed (Up ∷ []) = true
last_followed (Named follow n ∷ []) = follow
last_followed (p ∷ q ∷ ps) = last_followed (q ∷ ps)

asked_last : (follow : Bool) (ps : List Part) → last_followed (asked follow ps) ≡ (follow || not (is_name (last_part ps)))
asked_last follow [] = sym (or-true follow)
asked_last follow (part.Cur ∷ []) = sym (or-true follow)
asked_last follow (part.Up ∷ []) = sym (or-true follow)
asked_last follow (part.Named n ∷ []) = sym (or-false follow)
asked_last follow (p ∷ q ∷ []) = asked_last follow (q ∷ [])
asked_last follow (p ∷ q ∷ r ∷ ps) = asked_last follow (q ∷ r ∷ ps)

asked_as : (follow other : Bool) (ps : List Part) → (follow || not (is_name (last_part ps))) ≡ (other || not (is_name (last_part ps))) → asked follow ps ≡ asked other ps
asked_as follow other [] same = refl
asked_as follow other (part.Cur ∷ []) same = refl
asked_as follow other (part.Up ∷ []) same = refl
asked_as follow other (part.Named n ∷ []) same = ap (λ (b : Bool). Named b n ∷ []) (sym (or-false follow) ∙ (same ∙ or-false other))
asked_as follow other (p ∷ q ∷ ps) same = ap (λ (rest : List AskedPart). ask true p ∷ rest) (asked_as follow other (q ∷ ps) same)

-- ---- plans

own_asked : (p q : PlanState) → SameOwn p q → own_to_come p ≡ own_to_come q
own_asked p q same =
    let last : follows_last p.goal q.own ≡ follows_last q.goal q.own = subst (λ (own : List Part). follows_last p.goal own ≡ follows_last q.goal q.own) same.0 same.1 in
    ap (asked (follows p.goal)) same.0 ∙ asked_as (follows p.goal) (follows q.goal) q.own last

asked_own : (p q : PlanState) → own_to_come p ≡ own_to_come q → SameOwn p q
asked_own p q same = (
  sym (parts_asked (follows p.goal) p.own) ∙ (ap (map part_of) same ∙ parts_asked (follows q.goal) q.own),
  sym (asked_last (follows p.goal) p.own) ∙ (ap last_followed same ∙ asked_last (follows q.goal) q.own),
)

to_come : (p q : PlanState) → SameToCome p q → todo_of p ≡ todo_of q
to_come p q same = cc (ap followed same.0, own_asked p q same.1, same.2)

come_to : (p q : PlanState) → todo_of p ≡ todo_of q → SameToCome p q
come_to p q same =
    let inner : followed p.inner ≡ followed q.inner = cc in
    let own : own_to_come p ≡ own_to_come q = cc in
    let left : p.links_left ≡ q.links_left = cc in
    (sym (parts_followed p.inner) ∙ (ap (map part_of) inner ∙ parts_followed q.inner), asked_own p q own, left)

-- ---- the next part, which is a name

-- the name comes before what is to come after it, which has none of links' texts where the name is the caller's own
abbrev before : Bool → Bool → List ℕ → Todo → Todo
before true follow n (todo inner own b) = todo inner (Named follow n ∷ own) b
before false follow n (todo inner own b) = todo (Named follow n ∷ inner) own b

next_asked : (inner own : List Part) (f : Bool) (b : ℕ) → IsTrue (is_name (first_part (inner ++ own)))
    → before (comes_from_own inner own) (is_name (first_part (inner ++ own)) && (f || not (comes_from_own inner own && is_single (inner ++ own))))
    (name_in (first_part (inner ++ own))) (todo (followed (after_first inner)) (asked f (own_after_next inner own)) b)
    ≡ todo (followed inner) (asked f own) b
next_asked [] [] f b named = cc
next_asked [] (part.Cur ∷ own) f b named = cc
next_asked [] (part.Up ∷ own) f b named = cc
next_asked [] (part.Named n ∷ own) f b named = ap (λ (parts : List AskedPart). todo [] parts b) (sym (ask_own f (part.Named n) own))
next_asked (part.Cur ∷ inner) own f b named = cc
next_asked (part.Up ∷ inner) own f b named = cc
next_asked (part.Named n ∷ inner) own f b named = ap (λ (follow : Bool). todo (Named follow n ∷ followed inner) (asked f own) b) (or-true f)

before_alike : (o p f g : Bool) (n m : List ℕ) (inner own others rest : List AskedPart) (b c : ℕ)
    → (o ≡ true → inner ≡ []) → (p ≡ true → others ≡ [])
    → before o f n (todo inner own b) ≡ before p g m (todo others rest c)
    → (o ≡ p) × (f ≡ g) × (n ≡ m) × (todo inner own b ≡ todo others rest c)
before_alike true true f g n m inner own others rest b c none nothing same = (cc, cc, cc, cc)
before_alike true false f g n m inner own others rest b c none nothing same = let e = none refl in cc
before_alike false true f g n m inner own others rest b c none nothing same = let e = nothing refl in cc
before_alike false false f g n m inner own others rest b c none nothing same = (cc, cc, cc, cc)

alone_in_links : (inner own : List Part) → comes_from_own inner own ≡ true → followed (after_first inner) ≡ []
alone_in_links [] own e = refl
alone_in_links (p ∷ inner) own e = cc

is_named : (next : Option Part) (P : List ℕ → Type 0) → IsNameAnd next P → IsTrue (is_name next)
is_named None P h = absurd h
is_named (Some part.Cur) P h = absurd h
is_named (Some part.Up) P h = absurd h
is_named (Some (part.Named n)) P h = refl

named_at : (p : PlanState) → IsAtName p → IsTrue (is_name (next_part p))
named_at p h = is_named (next_part p) (λ n. length n ≤ NAME_MAX) h

-- ---- walks

pub like_opening : (p q : PlanState) (place other : Option ReachedObject) → IsAtName p → IsAtName q
    → LikeOnward p place q other ↔ LikeWalks (walking_of p place Opening) (walking_of q other Opening)
like_opening p q place other at_name others_at_name =
    let first = next_asked p.inner p.own (follows p.goal) p.links_left (named_at p at_name) in
    let second = next_asked q.inner q.own (follows q.goal) q.links_left (named_at q others_at_name) in (
      (λ like. let alike = before_alike (is_own p) (is_own q) (follows_next_link p) (follows_next_link q) (name_in (next_part p)) (name_in (next_part q))
          (followed (after_first p.inner)) (asked (follows p.goal) (own_after_next p.inner p.own)) (followed (after_first q.inner)) (asked (follows q.goal) (own_after_next q.inner q.own))
          p.links_left q.links_left (alone_in_links p.inner p.own) (alone_in_links q.inner q.own)
          (first ∙ (to_come p q like.1 ∙ sym second)) in
          cc (like.0, alike.0, alike.1, alike.2, alike.3)),
      (λ same. let position : LikePlaces p place q other = cc same in
          let own : is_own p ≡ is_own q = cc same in
          let follow : follows_next_link p ≡ follows_next_link q = cc same in
          let name : name_in (next_part p) ≡ name_in (next_part q) = cc same in
          let rest : todo_of (stayed p) ≡ todo_of (stayed q) = cc same in
          (position, come_to p q (sym first ∙ (cc (own, follow, name, rest) ∙ second)))),
    )

pub like_reading : (p q : PlanState) (place other : Option ReachedObject) (link others_link : ReachedObject) → MayFollow p → MayFollow q
    → (LikePlaces p place q other × LikeHeld link others_link × SameToCome (stayed p) (stayed q)) ↔ LikeWalks (walking_of p place (Reading link)) (walking_of q other (Reading others_link))
like_reading p q place other link others_link may others_may = (
  (λ like. let rest = to_come (stayed p) (stayed q) like.2 in
      let left : p.links_left - 1 ≡ q.links_left - 1 = ap (λ (n : ℕ). n - 1) like.2.2 in
      cc (like.0, like.1, rest, left)),
  (λ same. let position : LikePlaces p place q other = cc same in
      let held : LikeHeld link others_link = cc same in
      let inner : followed (after_first p.inner) ≡ followed (after_first q.inner) = cc same in
      let own : own_to_come (stayed p) ≡ own_to_come (stayed q) = cc same in
      let less : p.links_left - 1 ≡ q.links_left - 1 = cc same in
      let left : p.links_left ≡ q.links_left = omega (arith, may.left, others_may.left) in
      (position, held, come_to (stayed p) (stayed q) (cc (inner, own, left)))),
)

pub like_rising : (p q : PlanState) (place other : Option ReachedObject) → IsSome place → IsSome other
    → LikeOnward p place q other ↔ LikeWalks (walking_of p place Rising) (walking_of q other Rising)
like_rising p q None other some others_some = cc
like_rising p q (Some held) None some others_some = cc
like_rising p q (Some held) (Some h) some others_some = (
  (λ like. let rest = to_come p q like.1 in cc (like.0, rest)),
  (λ same. (cc same, come_to p q (cc same))),
)

pub like_judging : (p q : PlanState) (place other : Option ReachedObject) → IsSome place → IsSome other
    → LikeOnward p place q other ↔ LikeWalks (walking_of p place Judging) (walking_of q other Judging)
like_judging p q None other some others_some = cc
like_judging p q (Some held) None some others_some = cc
like_judging p q (Some held) (Some h) some others_some = (
  (λ like. let rest = to_come p q like.1 in cc (like.0, rest)),
  (λ same. (cc same, come_to p q (cc same))),
)

pub like_duping : (p q : PlanState) (place other : Option ReachedObject)
    → SameOwn p q ↔ LikeWalks (walking_of p place Duping) (walking_of q other Duping)
like_duping p q place other = ((λ like. let rest = own_asked p q like in cc rest), (λ same. asked_own p q (cc same)))

pub like_ending : (p q : PlanState) (place other : Option ReachedObject) → IsSome place → IsSome other
    → (LikePlaces p place q other × SameOwn p q) ↔ LikeWalks (walking_of p place Ending) (walking_of q other Ending)
like_ending p q None other some others_some = cc
like_ending p q (Some held) None some others_some = cc
like_ending p q (Some held) (Some h) some others_some = (
  (λ like. let rest = own_asked p q like.1 in cc (like.0, rest)),
  (λ same. (cc same, asked_own p q (cc same))),
)

-- ---- what comes after closings

pub like_onward : (p q : PlanState) (place other : Option ReachedObject)
    → LikeOnward p place q other ↔ LikeAfters p place Onward q other Onward
like_onward p q place other = (
  (λ like. let rest = to_come p q like.1 in cc (like.0, rest)),
  (λ same. let position : LikePlaces p place q other = cc same in (position, come_to p q (cc same))),
)

pub like_judges : (p q : PlanState) (place other : Option ReachedObject) → IsSome place → IsSome other
    → LikeOnward p place q other ↔ LikeAfters p place Judges q other Judges
like_judges p q None other some others_some = cc
like_judges p q (Some held) None some others_some = cc
like_judges p q (Some held) (Some h) some others_some = (
  (λ like. let rest = to_come p q like.1 in cc (like.0, rest)),
  (λ same. (cc same, come_to p q (cc same))),
)
