-- The worked paths, computed.
use Rattle.std.specs.Prelude.{◌≡◌, ℕ, List, [], ◌∷◌, true, false, Some, codes, refl}
use Rattle.std.proofs.Common.{le_refl}
use Rattle.tree_model.specs.BaseTree.{base_nodes}
use Rattle.tree_model.specs.State.{child, object_at, is_directory}
use Rattle.step_resolver.specs.Meaning.{is_too_long}
use Rattle.step_resolver.specs.Trail.{Timeline, all, down, through, IsChildAt, quiet}
use Rattle.step_resolver.specs.WorkedPaths.{ROOT, plain, here, NamesAreWorked, LinksAreWorked, BudgetIsWorked, SlashesAreWorked, LengthsAreWorked, BeneathIsWorked, NoLinksAreWorked, TrailIsWorked}

pub names_are_worked : NamesAreWorked
names_are_worked = record { names = refl; empty = refl; slash = refl; with_nul = refl; up_at_root = refl }

pub links_are_worked : LinksAreWorked
links_are_worked =
    record { absolute = refl; up_after_link = refl; relative = refl; looping = refl; not_followed = refl; slash_follows = refl; dangling = refl }

pub budget_is_worked : BudgetIsWorked
budget_is_worked = record { forty = refl; forty_one = refl; five_times_eight = refl; and_one = refl }

pub slashes_are_worked : SlashesAreWorked
slashes_are_worked = record { file_slash = refl; file_here = refl; file_up = refl; slashes = refl }

pub lengths_are_worked : LengthsAreWorked
lengths_are_worked = record { missing_first = refl; too_long = refl; long_enough = refl; many_slashes = refl; too_many_slashes = refl }

pub beneath_is_worked : BeneathIsWorked
beneath_is_worked = record { absolute = refl; up = refl; link = refl; up_in_link = refl; later = refl; names = refl }

pub no_links_are_worked : NoLinksAreWorked
no_links_are_worked =
    record { inner = refl; last = refl; kept = refl; slash = refl; names = refl; both_link = refl; both_absolute = refl }

-- ---- the trail over `abs/f`

abbrev still : Timeline
still = quiet base_nodes ROOT plain

into_child : (x c : ℕ) (n : List ℕ) (names : List (List ℕ)) (links t : ℕ) → is_directory (object_at base_nodes x) ≡ true → is_too_long n ≡ false
    → child base_nodes x n ≡ Some c → IsChildAt still (here x names links t) n t c
into_child x c n passed links t dir short is = record { dir = dir; short = short; at = record { own = refl; later = le_refl t }; child = is }

pub trail_is_worked : TrailIsWorked
trail_is_worked = through 0 (codes "/a/b") 39 (here 3 (codes "b" ∷ codes "a" ∷ []) 39 3)
    (record { link = 5; child = into_child 1 5 (codes "abs") [] 40 0 refl refl refl; is_link = refl; links = refl; allowed = refl; within = refl })
    (down 1 2 (into_child 1 2 (codes "a") [] 39 1 refl refl refl) refl
    (down 2 3 (into_child 2 3 (codes "b") (codes "a" ∷ []) 39 2 refl refl refl) refl (all 3 (le_refl 3))))
    (down 3 4 (into_child 3 4 (codes "f") (codes "b" ∷ codes "a" ∷ []) 39 3 refl refl refl) refl (all 4 (le_refl 4)))
