-- What holds of the places of the nodes in a tree: statements of laws.
use Rattle.std.specs.Prelude.{◌≡◌, ◌≢◌, ◌↔◌, ℕ, List, [], true, false, Some, None, is_some, reverse}
use Rattle.std.specs.List.{Contains}
use Rattle.std.specs.List.Sorted.{IsSorted, IsStrictlySortedBy, IsPermutation}
use Rattle.std.specs.Ordering.{nat_cmp}
use Rattle.std.specs.Cmp.Lexicographic.{slice_cmp}
use Rattle.path_text.specs.declared.errno.Errno.TheVariants.{NotFound}
use Rattle.tree_model.specs.declared.answer.Answer.TheVariants.{Names, NotBelow, Listed, Refused}
use Rattle.tree_model.specs.declared.inode.Inode.{Inode}
use Rattle.tree_model.specs.declared.step.StepOf.TheVariants.{Open, Dup, Parent, NameBelow, List as ListNames}
use Rattle.tree_model.specs.State.{State, object_at, place_at, child, parent, is_dir, is_gone, has_entries, Stands, names_below, names_in}
use Rattle.tree_model.specs.Steps.{outcome, held}
use Rattle.tree_model.specs.Trees.{IsTree, IsState}

-- the child at an entry is the one node that stands there
abbrev pub ChildStandsAtEntry : Type 0
ChildStandsAtEntry = (nodes : List Inode) → IsTree nodes → (d : ℕ) (n : List ℕ) (c : ℕ)
    → (child nodes d n ≡ Some c) ↔ (place_at nodes c ≡ Some (record { parent = d; name = n }))

-- a node that is gone has no entries
abbrev pub GoneNodesAreEmpty : Type 0
GoneNodesAreEmpty = (nodes : List Inode) → IsTree nodes → (d : ℕ) → is_gone nodes d ≡ true
    → (has_entries nodes d ≡ false) × (names_in nodes d ≡ []) × ((n : List ℕ) → child nodes d n ≡ None)

-- so the directory of an entry is not gone, and what stands there is not gone either and leads up to that directory
abbrev pub EntriesStand : Type 0
EntriesStand = (nodes : List Inode) → IsTree nodes → (d : ℕ) (n : List ℕ) (c : ℕ) → child nodes d n ≡ Some c
    → (is_gone nodes d ≡ false) × (is_gone nodes c ≡ false) × (parent nodes c ≡ Some d)

-- what has no parent is gone, and what is gone has none; a parent is not gone
abbrev pub GoneNodesAreParentless : Type 0
GoneNodesAreParentless = (nodes : List Inode) → IsTree nodes → (x : ℕ)
    → ((parent nodes x ≡ None) ↔ (is_gone nodes x ≡ true))
    × ((d : ℕ) → parent nodes x ≡ Some d → is_gone nodes d ≡ false)

-- whatever a handle, an entry or a way up leads to is a node, and what has entries or a node below it is a directory
abbrev pub LookupsLeadToNodes : Type 0
LookupsLeadToNodes = (s : State) → IsState s
    → ((a h x : ℕ) → held s a h ≡ Some x → is_some (object_at s.nodes x) ≡ true)
    × ((d : ℕ) (n : List ℕ) (c : ℕ) → child s.nodes d n ≡ Some c → is_some (object_at s.nodes c) ≡ true)
    × ((x d : ℕ) → parent s.nodes x ≡ Some d → is_dir s.nodes d ≡ true)

-- so opening what is there is never refused NotFound: Dup never is, Open only where there is no child, Parent only
-- where the node is gone
abbrev pub NotFoundIsMissing : Type 0
NotFoundIsMissing = (s : State) → IsState s → (a h x : ℕ) → held s a h ≡ Some x
    → ((outcome s a (Dup h)).answer ≢ Refused NotFound)
    × ((n : List ℕ) → (outcome s a (Open h n)).answer ≡ Refused NotFound → child s.nodes x n ≡ None)
    × ((outcome s a (Parent h)).answer ≡ Refused NotFound → is_gone s.nodes x ≡ true)

-- a node stands below another at one list of names
abbrev pub StandsAtOneWay : Type 0
StandsAtOneWay = (nodes : List Inode) (r x : ℕ) (names others : List (List ℕ)) → Stands nodes r x names
    → Stands nodes r x others → names ≡ others

-- NameBelow's names are those at which the node stands, and there are none where it stands at none
abbrev pub NamesBelowAreStanding : Type 0
NamesBelowAreStanding = (nodes : List Inode) → IsTree nodes → (r x : ℕ)
    → ((names : List (List ℕ)) → (names_below nodes r x ≡ Some names) ↔ Stands nodes r x names)
    × ((names_below nodes r x ≡ None) ↔ ((names : List (List ℕ)) → ¬ Stands nodes r x names))

-- the same of the step's answer, whose names are the outermost first
abbrev pub NameBelowIsStanding : Type 0
NameBelowIsStanding = (s : State) → IsState s → (a r h top x : ℕ) → held s a r ≡ Some top → held s a h ≡ Some x
    → ((names : List (List ℕ))
    → ((outcome s a (NameBelow r h)).answer ≡ Names names) ↔ Stands s.nodes top x (reverse names))
    × (((outcome s a (NameBelow r h)).answer ≡ NotBelow) ↔ ((names : List (List ℕ)) → ¬ Stands s.nodes top x names))

-- List's names are in order, and they are the names of the directory's entries
abbrev pub ListedAreEntries : Type 0
ListedAreEntries = (s : State) (a h d : ℕ) (names : List (List ℕ)) → held s a h ≡ Some d
    → (outcome s a (ListNames h)).answer ≡ Listed names
    → IsSorted (slice_cmp nat_cmp) names
    × IsPermutation (names_in s.nodes d) names
    × ((n : List ℕ) → Contains names n ↔ (is_some (child s.nodes d n) ≡ true))

-- in a tree no name is listed twice
abbrev pub ListedOnce : Type 0
ListedOnce = (s : State) → IsState s → (a h d : ℕ) (names : List (List ℕ)) → held s a h ≡ Some d
    → (outcome s a (ListNames h)).answer ≡ Listed names
    → IsStrictlySortedBy (slice_cmp nat_cmp) names
