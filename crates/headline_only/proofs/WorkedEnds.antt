-- The worked histories, computed, and why their ends are refused.
use Rattle.std.proofs.Common.{◌≡◌, ℕ, zero, suc, ◌≤◌, true, List, [], ◌∷◌, length, Option, Some, None, slice_get, refl, sym, ap, ◌∙◌, subst, arith}
use Rattle.std.specs.Prelude.{codes}
use Rattle.std.proofs.lemmas.Bool.{false≢true}
use Rattle.std.proofs.lemmas.Option.{none-some, same_Some}
use Rattle.path_text.specs.declared.errno.Errno.TheVariants.{NotFound}
use Rattle.tree_model.specs.declared.answer.Event.{Event}
use Rattle.tree_model.specs.declared.inode.Inode.{Inode}
use Rattle.tree_model.specs.declared.inode.Object.TheVariants.{Dir, Link}
use Rattle.tree_model.specs.declared.inode.Place.{Place}
use Rattle.tree_model.specs.State.{Stands, place_at, child, parent}
use Rattle.tree_model.proofs.TreeTests.{IsState-from_test}
use Rattle.step_resolver.specs.Asked.{AskedPart, Up, Named}
use Rattle.step_resolver.specs.Trail.{Spot, Trail, all, stay, top, climb, down, through, before, into}
use Rattle.step_resolver.specs.Order.{Line, Turn, found, failed, begins, LeadsTo}
use Rattle.step_resolver.specs.WalkHistory.{WalkInHistory, IsWalkInHistory, timeline}
use Rattle.step_resolver.specs.Footprint.{IsLeftAlone}
use Rattle.step_resolver.specs.Headline.{Headline, Opens}
use Rattle.step_resolver.specs.WorkedPaths.{ROOT}
use Rattle.step_resolver.specs.WorkedRace.{WALKER}
use Rattle.step_resolver.proofs.Ends.WalksMean.{every_walk}
use Rattle.headline_only.specs.WorkedEnds.{opening, A, B, dir_at, told, IsRefused, lines_to_a, another_object, skipped_check, several_moments, remembered_handle, entry_made, found_late, found_end, FoundIsWorked, WrongEndsAreRefused}

-- ---- whichever lines the events are of

abbrev with_lines : WalkInHistory → List Line → WalkInHistory
with_lines w lines = record w { lines = lines }

refused_by : (w : WalkInHistory) (end : Turn) → IsWalkInHistory w → ((lines : List Line) → Headline (with_lines w lines) end → ⊥) → IsRefused w end
refused_by w end is never = record {
  is_history = is;
  refused = λ tells. never tells.lines (tells.tells (with_lines w tells.lines) (record {
    tree = is.tree;
    legal_before = is.legal_before;
    legal = is.legal;
    own = tells.booked;
    root = is.root;
    root_is_dir = is.root_is_dir;
  }) refl refl refl);
}

-- ---- another object

object_is : IsWalkInHistory another_object
object_is = record {
  tree = IsState-from_test opening refl;
  legal_before = tt;
  legal = (refl, (refl, (refl, (refl, tt))));
  own = refl;
  root = refl;
  root_is_dir = refl;
}

walkers : (t : ℕ) (event : Event) → slice_get (told lines_to_a) t ≡ Some event → event.actor ≡ WALKER
walkers zero event e = sym (ap (λ v. v.actor) (same_Some _ event e))
walkers (suc zero) event e = sym (ap (λ v. v.actor) (same_Some _ event e))
walkers (suc (suc zero)) event e = sym (ap (λ v. v.actor) (same_Some _ event e))
walkers (suc (suc (suc zero))) event e = sym (ap (λ v. v.actor) (same_Some _ event e))
walkers (suc (suc (suc (suc t)))) event e = absurd (none-some event e)

alone : (lines : List Line) (place : Place) → IsLeftAlone (with_lines another_object lines) place
alone lines place = record { same = λ t event e other. absurd (other (walkers t event e)) }

object_refused : (lines : List Line) → Headline (with_lines another_object lines) (found (dir_at 4 2) (A ∷ [])) → ⊥
object_refused lines h =
    let two_is_three : 2 ≡ 3 = h.means tt refl refl (alone lines _, (alone lines _, tt)) in
    omega (arith, two_is_three)

-- ---- a check that is skipped

check_is : IsWalkInHistory skipped_check
check_is = record {
  tree = IsState-from_test opening refl;
  legal_before = tt;
  legal = (refl, (refl, (refl, (refl, (refl, (refl, tt))))));
  own = refl;
  root = refl;
  root_is_dir = refl;
}

-- where /secret stands it isn't /c/a
not_in_root : (nodes : List Inode) → place_at nodes 9 ≡ Some (record { parent = 0; name = codes "secret" }) → Stands nodes ROOT 9 (A ∷ []) → ⊥
not_in_root nodes is stands =
    let names : length (codes "secret") ≡ length A = ap (λ (place : Place). length place.name) (same_Some _ _ (sym is ∙ stands.1.1.0)) in
    omega (arith, names)

abbrev check_nodes : List Line → ℕ → List Inode
check_nodes lines t = (timeline (with_lines skipped_check lines)).nodes_at t

check_astray : (lines : List Line) (t : ℕ) → (timeline (with_lines skipped_check lines)).is_own t ≡ true
    → Stands (check_nodes lines t) ROOT 9 (A ∷ []) → ⊥
check_astray lines zero own stands = not_in_root (check_nodes lines 0) refl stands
check_astray lines (suc zero) own stands = not_in_root (check_nodes lines 1) refl stands
check_astray lines (suc (suc zero)) own stands = not_in_root (check_nodes lines 2) refl stands
check_astray lines (suc (suc (suc zero))) own stands = absurd (false≢true own)
check_astray lines (suc (suc (suc (suc zero)))) own stands = not_in_root (check_nodes lines 4) refl stands
check_astray lines (suc (suc (suc (suc (suc zero))))) own stands = not_in_root (check_nodes lines 5) refl stands
check_astray lines (suc (suc (suc (suc (suc (suc t)))))) own stands = absurd (false≢true own)

-- what is opened stood there at an own event
stood_so : (w : WalkInHistory) (number node : ℕ) (names : List (List ℕ)) → ((t : ℕ) → (timeline w).is_own t ≡ true → Stands ((timeline w).nodes_at t) w.root node names → ⊥)
    → Opens w (dir_at number node) names → ⊥
stood_so w number node names astray opens =
    let at_names = subst (λ ns. Stands ((timeline w).nodes_at opens.when) w.root opens.to.node ns) opens.passed opens.stood.stands in
    astray opens.when opens.stood.at.own (subst (λ x. Stands ((timeline w).nodes_at opens.when) w.root x names) opens.node at_names)

-- ---- a check of several moments

moments_are : IsWalkInHistory several_moments
moments_are = record {
  tree = IsState-from_test opening refl;
  legal_before = (refl, tt);
  legal = (refl, (refl, (refl, (refl, (refl, (refl, (refl, (refl, (refl, (refl, (refl, tt)))))))))));
  own = refl;
  root = refl;
  root_is_dir = refl;
}

-- where b is in /secret, or in a while that is out of /c, it doesn't stand at /c/a/b
b_apart : (nodes : List Inode) → place_at nodes 3 ≡ Some (record { parent = 9; name = B }) → place_at nodes 9 ≡ Some (record { parent = 0; name = codes "secret" })
    → Stands nodes ROOT 3 (B ∷ A ∷ []) → ⊥
b_apart nodes b secret stands =
    let in_secret : 9 ≡ stands.1.0 = ap (λ (place : Place). place.parent) (same_Some _ _ (sym b ∙ stands.1.1.0)) in
    let above = subst (λ d. Stands nodes ROOT d (A ∷ [])) (sym in_secret) stands.1.1.1 in
    not_in_root nodes secret above

a_apart : (nodes : List Inode) → place_at nodes 3 ≡ Some (record { parent = 2; name = B }) → place_at nodes 2 ≡ Some (record { parent = 9; name = A })
    → Stands nodes ROOT 3 (B ∷ A ∷ []) → ⊥
a_apart nodes b a stands =
    let in_a : 2 ≡ stands.1.0 = ap (λ (place : Place). place.parent) (same_Some _ _ (sym b ∙ stands.1.1.0)) in
    let above = subst (λ d. Stands nodes ROOT d (A ∷ [])) (sym in_a) stands.1.1.1 in
    let in_secret : 9 ≡ above.1.0 = ap (λ (place : Place). place.parent) (same_Some _ _ (sym a ∙ above.1.1.0)) in
    let in_root : above.1.0 ≡ 1 = above.1.1.1 in
    omega (arith, in_secret, in_root)

abbrev moments_nodes : List Line → ℕ → List Inode
moments_nodes lines t = (timeline (with_lines several_moments lines)).nodes_at t

moments_astray : (lines : List Line) (t : ℕ) → (timeline (with_lines several_moments lines)).is_own t ≡ true
    → Stands (moments_nodes lines t) ROOT 3 (B ∷ A ∷ []) → ⊥
moments_astray lines zero own stands = b_apart (moments_nodes lines 0) refl refl stands
moments_astray lines (suc zero) own stands = absurd (false≢true own)
moments_astray lines (suc (suc zero)) own stands = absurd (false≢true own)
moments_astray lines (suc (suc (suc zero))) own stands = a_apart (moments_nodes lines 3) refl refl stands
moments_astray lines (suc (suc (suc (suc zero)))) own stands = a_apart (moments_nodes lines 4) refl refl stands
moments_astray lines (suc (suc (suc (suc (suc zero))))) own stands = absurd (false≢true own)
moments_astray lines (suc (suc (suc (suc (suc (suc zero)))))) own stands = absurd (false≢true own)
moments_astray lines (suc (suc (suc (suc (suc (suc (suc zero))))))) own stands = b_apart (moments_nodes lines 7) refl refl stands
moments_astray lines (suc (suc (suc (suc (suc (suc (suc (suc zero)))))))) own stands = b_apart (moments_nodes lines 8) refl refl stands
moments_astray lines (suc (suc (suc (suc (suc (suc (suc (suc (suc zero))))))))) own stands = b_apart (moments_nodes lines 9) refl refl stands
moments_astray lines (suc (suc (suc (suc (suc (suc (suc (suc (suc (suc zero)))))))))) own stands = b_apart (moments_nodes lines 10) refl refl stands
moments_astray lines (suc (suc (suc (suc (suc (suc (suc (suc (suc (suc (suc t))))))))))) own stands = absurd (false≢true own)

-- ---- an entry that is made

entry_is : IsWalkInHistory entry_made
entry_is = record {
  tree = IsState-from_test opening refl;
  legal_before = tt;
  legal = (refl, (refl, tt));
  own = refl;
  root = refl;
  root_is_dir = refl;
}

entry_refused : (lines : List Line) → Headline (with_lines entry_made lines) (failed NotFound) → ⊥
entry_refused lines h = let same : Some 11 ≡ None = ap (λ nodes. child nodes ROOT (codes "x")) (h.leaves 1 refl) in none-some 11 (sym same)

-- ---- the right end

found_is : IsWalkInHistory found_late
found_is = record {
  tree = IsState-from_test opening refl;
  legal_before = (refl, tt);
  legal = (refl, (refl, (refl, (refl, (refl, tt)))));
  own = refl;
  root = refl;
  root_is_dir = refl;
}

found_ends : LeadsTo found_late.way (begins found_late.way found_late.path) found_late.lines found_end
found_ends = (refl, (refl, (refl, (refl, refl))))

pub found_is_worked : FoundIsWorked
found_is_worked = record { walked = found_is; ends = found_ends; headline = every_walk found_late found_end found_is found_ends }

-- ---- a remembered handle

remembered_is : IsWalkInHistory remembered_handle
remembered_is = record {
  tree = IsState-from_test opening refl;
  legal_before = tt;
  legal = (refl, (refl, (refl, (refl, (refl, tt)))));
  own = refl;
  root = refl;
  root_is_dir = refl;
}

module _ (lines : List Line) where
  abbrev w : WalkInHistory
  w = with_lines remembered_handle lines

  abbrev kept_nodes : ℕ → List Inode
  kept_nodes t = (timeline w).nodes_at t

  -- where b is in /secret, and /secret isn't /c/a
  kept_astray : (t : ℕ) → (timeline w).is_own t ≡ true → Stands ((timeline w).nodes_at t) ROOT 9 (A ∷ []) → ⊥
  kept_astray zero own stands = not_in_root (kept_nodes 0) refl stands
  kept_astray (suc zero) own stands = not_in_root (kept_nodes 1) refl stands
  kept_astray (suc (suc zero)) own stands = absurd (false≢true own)
  kept_astray (suc (suc (suc zero))) own stands = not_in_root (kept_nodes 3) refl stands
  kept_astray (suc (suc (suc (suc zero)))) own stands = not_in_root (kept_nodes 4) refl stands
  kept_astray (suc (suc (suc (suc (suc t))))) own stands = absurd (false≢true own)

  -- once b was opened, its parent is /secret
  parent_is : (t : ℕ) → (timeline w).is_own t ≡ true → 2 ≤ t → parent ((timeline w).nodes_at t) 3 ≡ Some 9
  parent_is zero own le = absurd (omega (arith, le))
  parent_is (suc zero) own le = absurd (omega (arith, le))
  parent_is (suc (suc zero)) own le = absurd (false≢true own)
  parent_is (suc (suc (suc zero))) own le = refl
  parent_is (suc (suc (suc (suc zero)))) own le = refl
  parent_is (suc (suc (suc (suc (suc t))))) own le = absurd (false≢true own)

  -- b is in a where it is anywhere below it, and a in /c
  b_is : (t c : ℕ) → (timeline w).is_own t ≡ true → child ((timeline w).nodes_at t) 2 B ≡ Some c → c ≡ 3
  b_is zero c own e = sym (same_Some 3 c e)
  b_is (suc zero) c own e = sym (same_Some 3 c e)
  b_is (suc (suc zero)) c own e = absurd (false≢true own)
  b_is (suc (suc (suc zero))) c own e = absurd (none-some c e)
  b_is (suc (suc (suc (suc zero)))) c own e = absurd (none-some c e)
  b_is (suc (suc (suc (suc (suc t))))) c own e = absurd (false≢true own)

  a_is : (t c : ℕ) → (timeline w).is_own t ≡ true → child ((timeline w).nodes_at t) ROOT A ≡ Some c → c ≡ 2
  a_is zero c own e = sym (same_Some 2 c e)
  a_is (suc zero) c own e = sym (same_Some 2 c e)
  a_is (suc (suc zero)) c own e = absurd (false≢true own)
  a_is (suc (suc (suc zero))) c own e = sym (same_Some 2 c e)
  a_is (suc (suc (suc (suc zero)))) c own e = sym (same_Some 2 c e)
  a_is (suc (suc (suc (suc (suc t))))) c own e = absurd (false≢true own)

  -- neither is a link
  no_link : (x : ℕ) (text : List ℕ) → (timeline w).object_of x ≡ Some Dir → (timeline w).object_of x ≡ Some (Link text) → ⊥
  no_link x text is_dir is_link = let same : Dir ≡ Link text = same_Some Dir (Link text) (sym is_dir ∙ is_link) in cc (same)

  -- up from b, at the names b and a, no trail leads
  up_from : {ps : List AskedPart} {s z : Spot} {next : Option AskedPart} → Trail (timeline w) ps s z next → ps ≡ Up ∷ [] → next ≡ None
      → s.node ≡ 3 → s.names ≡ B ∷ A ∷ [] → 2 ≤ s.moment → ⊥
  up_from (all m le) e none node names late = cc (e)
  up_from (stay dir rest) e none node names late = cc (e)
  up_from (top is rest) e none node names late = let no_names : [] ≡ B ∷ A ∷ [] = sym is.names ∙ names in cc (no_names)
  up_from (climb t u x above is rest) e none node names late =
      let there : parent ((timeline w).nodes_at t) 3 ≡ Some x = subst (λ y. parent ((timeline w).nodes_at t) y ≡ Some x) node is.parent in
      let in_secret : 9 ≡ x = same_Some 9 x (sym (parent_is t is.at.own (omega (arith, late, is.at.later))) ∙ there) in
      let same : is.name ∷ above ≡ B ∷ A ∷ [] = sym is.passed ∙ names in
      let above_is : above ≡ A ∷ [] = cc (same) in
      let stands = subst (λ y. Stands ((timeline w).nodes_at u) ROOT y above) (sym in_secret) is.stands in
      kept_astray u is.checked.own (subst (Stands ((timeline w).nodes_at u) ROOT 9) above_is stands)
  up_from (down t c is entered rest) e none node names late = cc (e)
  up_from (through t text b mid is sub rest) e none node names late = cc (e)
  up_from (before m le) e none node names late = cc (none)
  up_from (into t text b is sub) e none node names late = cc (none)

  down_b : {ps : List AskedPart} {s z : Spot} {next : Option AskedPart} → Trail (timeline w) ps s z next → ps ≡ Named true B ∷ Up ∷ [] → next ≡ None
      → s.node ≡ 2 → s.names ≡ A ∷ [] → 1 ≤ s.moment → ⊥
  down_b (all m le) e none node names late = cc (e)
  down_b (stay dir rest) e none node names late = cc (e)
  down_b (top is rest) e none node names late = cc (e)
  down_b (climb t u x above is rest) e none node names late = cc (e)
  down_b {s = s} (down {n = n} {ps = ps} t c is entered rest) e none node names late =
      let name_is : n ≡ B = cc (e) in
      let rest_is : ps ≡ Up ∷ [] = cc (e) in
      let at_two : child ((timeline w).nodes_at t) 2 n ≡ Some c = subst (λ y. child ((timeline w).nodes_at t) y n ≡ Some c) node is.child in
      let there : child ((timeline w).nodes_at t) 2 B ≡ Some c = subst (λ m. child ((timeline w).nodes_at t) 2 m ≡ Some c) name_is at_two in
      up_from rest rest_is none (b_is t c is.at.own there) (ap (λ m. m ∷ s.names) name_is ∙ ap (λ ns. B ∷ ns) names) (omega (arith, late, is.at.later))
  down_b {s = s} (through {n = n} t text b mid is sub rest) e none node names late =
      let name_is : n ≡ B = cc (e) in
      let at_two : child ((timeline w).nodes_at t) 2 n ≡ Some is.link = subst (λ y. child ((timeline w).nodes_at t) y n ≡ Some is.link) node is.child.child in
      let there : child ((timeline w).nodes_at t) 2 B ≡ Some is.link = subst (λ m. child ((timeline w).nodes_at t) 2 m ≡ Some is.link) name_is at_two in
      no_link 3 text refl (subst (λ y. (timeline w).object_of y ≡ Some (Link text)) (b_is t is.link is.child.at.own there) is.is_link)
  down_b (before m le) e none node names late = cc (none)
  down_b (into t text b is sub) e none node names late = cc (none)

  down_a : {ps : List AskedPart} {s z : Spot} {next : Option AskedPart} → Trail (timeline w) ps s z next → ps ≡ Named true A ∷ Named true B ∷ Up ∷ [] → next ≡ None
      → s.node ≡ ROOT → s.names ≡ [] → ⊥
  down_a (all m le) e none node names = cc (e)
  down_a (stay dir rest) e none node names = cc (e)
  down_a (top is rest) e none node names = cc (e)
  down_a (climb t u x above is rest) e none node names = cc (e)
  down_a {s = s} (down {n = n} {ps = ps} t c is entered rest) e none node names =
      let name_is : n ≡ A = cc (e) in
      let rest_is : ps ≡ Named true B ∷ Up ∷ [] = cc (e) in
      let at_root : child ((timeline w).nodes_at t) ROOT n ≡ Some c = subst (λ y. child ((timeline w).nodes_at t) y n ≡ Some c) node is.child in
      let there : child ((timeline w).nodes_at t) ROOT A ≡ Some c = subst (λ m. child ((timeline w).nodes_at t) ROOT m ≡ Some c) name_is at_root in
      down_b rest rest_is none (a_is t c is.at.own there) (ap (λ m. m ∷ s.names) name_is ∙ ap (λ ns. A ∷ ns) names) (omega arith)
  down_a {s = s} (through {n = n} t text b mid is sub rest) e none node names =
      let name_is : n ≡ A = cc (e) in
      let at_root : child ((timeline w).nodes_at t) ROOT n ≡ Some is.link = subst (λ y. child ((timeline w).nodes_at t) y n ≡ Some is.link) node is.child.child in
      let there : child ((timeline w).nodes_at t) ROOT A ≡ Some is.link = subst (λ m. child ((timeline w).nodes_at t) ROOT m ≡ Some is.link) name_is at_root in
      no_link 2 text refl (subst (λ y. (timeline w).object_of y ≡ Some (Link text)) (a_is t is.link is.child.at.own there) is.is_link)
  down_a (before m le) e none node names = cc (none)
  down_a (into t text b is sub) e none node names = cc (none)

  remembered_refused : Headline w (found (dir_at 4 2) (A ∷ [])) → ⊥
  remembered_refused h = down_a h.tells.trail refl refl refl refl

-- ---- all of them

pub wrong_ends_are_refused : WrongEndsAreRefused
wrong_ends_are_refused = record {
  object = refused_by another_object (found (dir_at 4 2) (A ∷ [])) object_is object_refused;
  check = refused_by skipped_check (found (dir_at 6 9) (A ∷ [])) check_is
      (λ lines h. stood_so (with_lines skipped_check lines) 6 9 (A ∷ []) (check_astray lines) h.tells);
  moments = refused_by several_moments (found (dir_at 5 3) (B ∷ A ∷ [])) moments_are
      (λ lines h. stood_so (with_lines several_moments lines) 5 3 (B ∷ A ∷ []) (moments_astray lines) h.tells);
  remembered = refused_by remembered_handle (found (dir_at 4 2) (A ∷ [])) remembered_is remembered_refused;
  entry = refused_by entry_made (failed NotFound) entry_is entry_refused;
}
