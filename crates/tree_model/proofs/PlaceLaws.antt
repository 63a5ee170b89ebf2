-- What is found where in a tree, and what List and NameBelow tell of it.
use Rattle.std.proofs.Common.{◌≡◌, ◌≢◌, ℕ, zero, suc, ◌<◌, Bool, true, false, not, ◌==◌, ◌&&◌, cond, List, [], ◌∷◌, length, reverse, Option, Some, None, is_some, slice_get, refl, sym, ap, ◌∙◌, subst, eqb-true, arith}
use Rattle.std.specs.Cmp.Lexicographic.{slice_cmp}
use Rattle.std.specs.List.{Contains, cons_option}
use Rattle.std.specs.List.Sorted.{IsSorted, IsPermutation, IsStrictlySortedBy}
use Rattle.std.specs.Option.{option_map}
use Rattle.std.specs.Ordering.{nat_cmp}
use Rattle.std.proofs.lemmas.Bool.{false≢true, or_from, and_right, false_from_ne_true}
use Rattle.std.proofs.lemmas.List.{reverse-reverse}
use Rattle.std.proofs.lemmas.List.Sorted.{IsPermutation-sym, Contains-permutation}
use Rattle.std.proofs.lemmas.Option.{none-some, same_Some}
use Rattle.path_text.specs.declared.errno.Errno.TheVariants.{NotFound, BadHandle, NotDir, TooMany}
use Rattle.tree_model.specs.declared.answer.Answer.TheVariants.{Opened, Names, NotBelow, Listed, Refused}
use Rattle.tree_model.specs.declared.inode.Inode.{Inode}
use Rattle.tree_model.specs.declared.inode.Object.{Object}
use Rattle.tree_model.specs.declared.inode.Place.{Place}
use Rattle.tree_model.specs.declared.step.StepOf.TheVariants.{NameBelow, List as ListNames}
use Rattle.tree_model.specs.State.{State, TOP, object_at, place_at, child, parent, is_directory, is_dir, is_gone, has_entries, name_in, names_in, sorted_names, Stands, names_below}
use Rattle.tree_model.specs.Entries.{refuse_if, with_some}
use Rattle.tree_model.specs.Steps.{Outcome, refused, answered, held, is_full, kind_of, with_handle, opens, shows, on_handle, outcome}
use Rattle.tree_model.specs.PlaceLaws.{ChildStandsAtEntry, GoneNodesAreEmpty, EntriesStand, GoneNodesAreParentless, LookupsLeadToNodes, NotFoundIsMissing, StandsAtOneWay, NamesBelowAreStanding, NameBelowIsStanding, ListedAreEntries, ListedOnce}
use Rattle.tree_model.specs.Trees.{Rooted, IsTree, IsState, top, below}
use Rattle.tree_model.proofs.Places.{place_at-within}
use Rattle.tree_model.proofs.Children.{entry, place_at-child, child-entry}
use Rattle.tree_model.proofs.Hanging.{Rooted-parent}
use Rattle.tree_model.proofs.Listing.{IsSorted-sorted_names, IsPermutation-sorted_names, IsStrictlySorted-sorted_names, child-from_names_in, names_in-from_child}
use Rattle.tree_model.proofs.Standing.{Stands-names_below, names_below-Stands, Stands-unique}
use Rattle.tree_model.proofs.StepLaws.{held-is}

-- ---- entries

pub child_stands_at_entry : ChildStandsAtEntry
child_stands_at_entry nodes t d n c = ((λ e. place_at-child nodes d n c e), (λ p. child-entry nodes t d n c p))

Rooted-is_gone : {nodes : List Inode} {d : ℕ} → Rooted nodes d → is_gone nodes d ≡ true → ⊥
Rooted-is_gone {nodes} top e = false≢true e
Rooted-is_gone {nodes} {d} (below place p r) e = false≢true (sym (and_right (not (d == TOP)) (not (is_some (place_at nodes d))) (ap (λ o. not (is_some o)) p)) ∙ e)

-- a directory without entries has none to tell
has_entries-nobody : (nodes : List Inode) (d : ℕ) → ((x : ℕ) (place : Place) → place_at nodes x ≡ Some place → place.parent ≢ d)
    → (has_entries nodes d ≡ false) × (names_in nodes d ≡ [])
has_entries-nobody [] d nobody = (refl, refl)
has_entries-nobody (inode ∷ nodes) d nobody = by inode.place refl (has_entries-nobody nodes d (λ x. nobody (suc x)))
  where
    by : (o : Option Place) → inode.place ≡ o → (has_entries nodes d ≡ false) × (names_in nodes d ≡ [])
        → (has_entries (inode ∷ nodes) d ≡ false) × (names_in (inode ∷ nodes) d ≡ [])
    by None e rest = (
      or_from (is_some (name_in d inode.place)) (has_entries nodes d) (ap (λ o. is_some (name_in d o)) e) rest.0,
      ap (λ o. cons_option (name_in d o) (names_in nodes d)) e ∙ rest.1,
    )
    by (Some place) e rest =
        let away : (place.parent == d) ≡ false = false_from_ne_true (place.parent == d) (λ q. nobody 0 place e (eqb-true place.parent d q)) in
        let none : name_in d inode.place ≡ None = ap (name_in d) e ∙ ap (λ b. cond b (Some place.name) None) away in (
          or_from (is_some (name_in d inode.place)) (has_entries nodes d) (ap is_some none) rest.0,
          ap (λ o. cons_option o (names_in nodes d)) none ∙ rest.1,
        )

pub gone_nodes_are_empty : GoneNodesAreEmpty
gone_nodes_are_empty nodes t d gone =
    let nobody : (x : ℕ) (place : Place) → place_at nodes x ≡ Some place → place.parent ≢ d =
    λ x place p. λ q. Rooted-is_gone (subst (Rooted nodes) q (Rooted-parent nodes t x place p)) gone in
    let none = has_entries-nobody nodes d nobody in
    (none.0, none.1, λ n. by n nobody (child nodes d n) refl)
  where
    by : (n : List ℕ) → ((x : ℕ) (place : Place) → place_at nodes x ≡ Some place → place.parent ≢ d) → (o : Option ℕ) → child nodes d n ≡ o → child nodes d n ≡ None
    by n nobody None e = e
    by n nobody (Some c) e = absurd (nobody c (entry d n) (place_at-child nodes d n c e) refl)

-- ---- what stands leads up

pub Rooted-stands : {nodes : List Inode} {x : ℕ} → Rooted nodes x → is_gone nodes x ≡ false
Rooted-stands {nodes} {x} r = false_from_ne_true (is_gone nodes x) (λ gone. Rooted-is_gone r gone)

no_parent : (nodes : List Inode) (x : ℕ) → parent nodes x ≡ None → is_gone nodes x ≡ true
no_parent nodes x e = by (x == TOP) (place_at nodes x) e
  where
    by : (b : Bool) (o : Option Place) → cond b (Some TOP) (option_map (λ place. place.parent) o) ≡ None → (not b && not (is_some o)) ≡ true
    by true o e = absurd (none-some TOP (sym e))
    by false None e = refl
    by false (Some place) e = absurd (none-some place.parent (sym e))

gone-no_parent : (nodes : List Inode) (x : ℕ) → is_gone nodes x ≡ true → parent nodes x ≡ None
gone-no_parent nodes x e = by (x == TOP) (place_at nodes x) e
  where
    by : (b : Bool) (o : Option Place) → (not b && not (is_some o)) ≡ true → cond b (Some TOP) (option_map (λ place. place.parent) o) ≡ None
    by true o e = absurd (false≢true e)
    by false None e = refl
    by false (Some place) e = absurd (false≢true e)

parent_stands : (nodes : List Inode) → IsTree nodes → (x d : ℕ) → parent nodes x ≡ Some d → is_gone nodes d ≡ false
parent_stands nodes t x d e = by (x == TOP) (place_at nodes x) refl e
  where
    by : (b : Bool) (o : Option Place) → place_at nodes x ≡ o → cond b (Some TOP) (option_map (λ place. place.parent) o) ≡ Some d → is_gone nodes d ≡ false
    by true o p e = ap (is_gone nodes) (sym (same_Some TOP d e))
    by false None p e = absurd (none-some d e)
    by false (Some place) p e = ap (is_gone nodes) (sym (same_Some place.parent d e)) ∙ Rooted-stands (Rooted-parent nodes t x place p)

pub gone_nodes_are_parentless : GoneNodesAreParentless
gone_nodes_are_parentless nodes t x =
    (((λ e. no_parent nodes x e), (λ e. gone-no_parent nodes x e)), (λ d e. parent_stands nodes t x d e))

-- a node that stands at an entry isn't the top
standing-parent : (nodes : List Inode) → IsTree nodes → (x : ℕ) (place : Place) → place_at nodes x ≡ Some place → parent nodes x ≡ Some place.parent
standing-parent nodes t x place p = by (x == TOP) refl
  where
    by : (b : Bool) → (x == TOP) ≡ b → cond b (Some TOP) (option_map (λ there. there.parent) (place_at nodes x)) ≡ Some place.parent
    by true q = absurd (none-some place (sym t.top_is_free ∙ ap (place_at nodes) (sym (eqb-true x TOP q)) ∙ p))
    by false q = ap (option_map (λ there. there.parent)) p

pub entries_stand : EntriesStand
entries_stand nodes t d n c e =
    let p = place_at-child nodes d n c e in (
      Rooted-stands (Rooted-parent nodes t c (entry d n) p),
      Rooted-stands (t.rooted c (entry d n) p),
      standing-parent nodes t c (entry d n) p,
    )

-- ---- what is looked up is there

object_at-is_some : (nodes : List Inode) (x : ℕ) → x < length nodes → is_some (object_at nodes x) ≡ true
object_at-is_some [] x h = absurd (omega arith)
object_at-is_some (inode ∷ nodes) zero h = refl
object_at-is_some (inode ∷ nodes) (suc x) h = object_at-is_some nodes x (omega arith)

held_is_node : (s : State) → IsState s → (a h x : ℕ) → held s a h ≡ Some x → is_some (object_at s.nodes x) ≡ true
held_is_node s t a h x e =
    object_at-is_some s.nodes x (t.handles h (record { actor = a; node = x }) (held-is a (slice_get s.handles h) x e))

child_is_node : (s : State) (d : ℕ) (n : List ℕ) (c : ℕ) → child s.nodes d n ≡ Some c → is_some (object_at s.nodes c) ≡ true
child_is_node s d n c e = object_at-is_some s.nodes c (place_at-within s.nodes c (entry d n) (place_at-child s.nodes d n c e))

parent_is_directory : (s : State) → IsState s → (x d : ℕ) → parent s.nodes x ≡ Some d → is_dir s.nodes d ≡ true
parent_is_directory s t x d e = by (x == TOP) (place_at s.nodes x) refl e
  where
    by : (b : Bool) (o : Option Place) → place_at s.nodes x ≡ o → cond b (Some TOP) (option_map (λ place. place.parent) o) ≡ Some d → is_dir s.nodes d ≡ true
    by true o p e = ap (is_dir s.nodes) (sym (same_Some TOP d e)) ∙ ap is_directory t.tree.top_is_dir
    by false None p e = absurd (none-some d e)
    by false (Some place) p e = ap (is_dir s.nodes) (sym (same_Some place.parent d e)) ∙ t.tree.parents_are_dirs x place p

pub lookups_lead_to_nodes : LookupsLeadToNodes
lookups_lead_to_nodes s t =
    ((λ a h x e. held_is_node s t a h x e), (λ d n c e. child_is_node s d n c e), (λ x d e. parent_is_directory s t x d e))

is_dir-is_some : (o : Option Object) → is_directory o ≡ true → is_some o ≡ true
is_dir-is_some None e = absurd (false≢true e)
is_dir-is_some (Some object) e = refl

-- what is there isn't refused as missing
opens_present : (s : State) (a x : ℕ) → is_some (object_at s.nodes x) ≡ true → (opens s a x).answer ≢ Refused NotFound
opens_present s a x there = by (is_full s a) (object_at s.nodes x) there
  where
    by : (full : Bool) (o : Option Object) → is_some o ≡ true
        → (refuse_if full (refused s TooMany) (with_some o (refused s NotFound) (λ what. record { answer = Opened (length s.handles) x (kind_of what); after = with_handle s a x }))).answer
        ≢ Refused NotFound
    by true o there e = cc (e)
    by false None there e = false≢true there
    by false (Some what) there e = cc (e)

-- with an open handle the step goes on
on_held : (s : State) (a h x : ℕ) (otherwise : ℕ → Outcome) → held s a h ≡ Some x → on_handle s a h otherwise ≡ otherwise x
on_held s a h x otherwise e = ap (λ o. with_some o (refused s BadHandle) otherwise) e

missing_entry : (s : State) (a : ℕ) (dir : Bool) (o : Option ℕ) → ((c : ℕ) → o ≡ Some c → is_some (object_at s.nodes c) ≡ true)
    → (refuse_if (not dir) (refused s NotDir) (with_some o (refused s NotFound) (λ c. opens s a c))).answer ≡ Refused NotFound → o ≡ None
missing_entry s a false o there e = cc (e)
missing_entry s a true None there e = refl
missing_entry s a true (Some c) there e = absurd (opens_present s a c (there c refl) e)

-- how Open and Parent go on from a node
abbrev opens_child : State → ℕ → List ℕ → ℕ → Outcome
opens_child s a n d = refuse_if (not (is_dir s.nodes d)) (refused s NotDir) (with_some (child s.nodes d n) (refused s NotFound) (λ c. opens s a c))

abbrev opens_parent : State → ℕ → ℕ → Outcome
opens_parent s a x = refuse_if (not (is_dir s.nodes x)) (refused s NotDir) (with_some (parent s.nodes x) (refused s NotFound) (λ d. opens s a d))

pub not_found_is_missing : NotFoundIsMissing
not_found_is_missing s t a h x e = (
  (λ q. opens_present s a x (held_is_node s t a h x e) (sym (ap (λ o. o.answer) (on_held s a h x (opens s a) e)) ∙ q)),
  (λ n q. missing_entry s a (is_dir s.nodes x) (child s.nodes x n) (λ c p. child_is_node s x n c p)
      (sym (ap (λ o. o.answer) (on_held s a h x (opens_child s a n) e)) ∙ q)),
  (λ q. no_parent s.nodes x (missing_entry s a (is_dir s.nodes x) (parent s.nodes x)
      (λ d p. is_dir-is_some (object_at s.nodes d) (parent_is_directory s t x d p))
      (sym (ap (λ o. o.answer) (on_held s a h x (opens_parent s a) e)) ∙ q))),
)

-- ---- NameBelow

pub stands_at_one_way : StandsAtOneWay
stands_at_one_way = Stands-unique

names_below-none : (nodes : List Inode) (r x : ℕ) → ((names : List (List ℕ)) → Stands nodes r x names → ⊥) → names_below nodes r x ≡ None
names_below-none nodes r x nowhere = by (names_below nodes r x) refl
  where
    by : (o : Option (List (List ℕ))) → names_below nodes r x ≡ o → names_below nodes r x ≡ None
    by None e = e
    by (Some names) e = absurd (nowhere names (Stands-names_below nodes r x names e))

pub names_below_are_standing : NamesBelowAreStanding
names_below_are_standing nodes t r x = (
  (λ names. ((λ e. Stands-names_below nodes r x names e), (λ h. names_below-Stands nodes t r x names h))),
  ((λ e names h. none-some names (sym e ∙ names_below-Stands nodes t r x names h)), (λ nowhere. names_below-none nodes r x nowhere)),
)

pub below_is : (s : State) (a r h y x : ℕ) → held s a r ≡ Some y → held s a h ≡ Some x → outcome s a (NameBelow r h) ≡ shows s (names_below s.nodes y x)
below_is s a r h y x e e' =
    on_held s a r y (λ y. on_handle s a h (λ x. shows s (names_below s.nodes y x))) e
    ∙ on_held s a h x (λ x. shows s (names_below s.nodes y x)) e'

names_shown : (s : State) (o : Option (List (List ℕ))) (names : List (List ℕ)) → (shows s o).answer ≡ Names names → o ≡ Some (reverse names)
names_shown s None names e = cc (e)
names_shown s (Some ns) names e =
    let same : reverse ns ≡ names = cc (e) in
    ap Some (sym (reverse-reverse ns) ∙ ap reverse same)

none_shown : (s : State) (o : Option (List (List ℕ))) → (shows s o).answer ≡ NotBelow → o ≡ None
none_shown s None e = refl
none_shown s (Some ns) e = cc (e)

pub name_below_is_standing : NameBelowIsStanding
name_below_is_standing s t a r h y x e e' =
    let is : (outcome s a (NameBelow r h)).answer ≡ (shows s (names_below s.nodes y x)).answer = ap (λ o. o.answer) (below_is s a r h y x e e') in (
      (λ names. (
        (λ q. Stands-names_below s.nodes y x (reverse names) (names_shown s (names_below s.nodes y x) names (sym is ∙ q))),
        (λ st. is ∙ ap (λ o. (shows s o).answer) (names_below-Stands s.nodes t.tree y x (reverse names) st) ∙ ap Names (reverse-reverse names)),
      )),
      (
        (λ q names st. none-some names (sym (none_shown s (names_below s.nodes y x) (sym is ∙ q)) ∙ names_below-Stands s.nodes t.tree y x names st)),
        (λ nowhere. is ∙ ap (λ o. (shows s o).answer) (names_below-none s.nodes y x nowhere)),
      ),
    )

-- ---- List

listed_names : (s : State) (a h d : ℕ) (names : List (List ℕ)) → held s a h ≡ Some d → (outcome s a (ListNames h)).answer ≡ Listed names
    → sorted_names (names_in s.nodes d) ≡ names
listed_names s a h d names e q = by (is_dir s.nodes d) (sym (ap (λ o. o.answer) (on_held s a h d lists e)) ∙ q)
  where
    lists : ℕ → Outcome
    lists d = refuse_if (not (is_dir s.nodes d)) (refused s NotDir) (answered s (Listed (sorted_names (names_in s.nodes d))))

    by : (b : Bool) → (refuse_if (not b) (refused s NotDir) (answered s (Listed (sorted_names (names_in s.nodes d))))).answer ≡ Listed names
        → sorted_names (names_in s.nodes d) ≡ names
    by true q = cc (q)
    by false q = cc (q)

pub listed_are_entries : ListedAreEntries
listed_are_entries s a h d names e q =
    let same = listed_names s a h d names e q in
    let moved = IsPermutation-sorted_names (names_in s.nodes d) in (
      subst (IsSorted (slice_cmp nat_cmp)) same (IsSorted-sorted_names (names_in s.nodes d)),
      subst (IsPermutation (names_in s.nodes d)) same moved,
      λ n. (
        (λ c. child-from_names_in s.nodes d n
            (Contains-permutation (sorted_names (names_in s.nodes d)) (names_in s.nodes d) n (IsPermutation-sym _ _ moved)
            (subst (λ l. Contains l n) (sym same) c))),
        (λ c. subst (λ l. Contains l n) same
            (Contains-permutation (names_in s.nodes d) (sorted_names (names_in s.nodes d)) n moved (names_in-from_child s.nodes d n c))),
      ),
    )

pub listed_once : ListedOnce
listed_once s t a h d names e q =
    subst (IsStrictlySortedBy (slice_cmp nat_cmp)) (listed_names s a h d names e q) (IsStrictlySorted-sorted_names s.nodes d t.tree.apart)
