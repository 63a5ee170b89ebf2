-- What a sort of names gives: they are in order, and the same, and no other list is.
use Rattle.std.proofs.Common.{◌≡◌, ℕ, List, Equal, ◌∙◌, ap}
use Rattle.std.specs.Cmp.Lexicographic.{slice_cmp, nat_list_cmp_total, bytes_decides, texts_ties}
use Rattle.std.specs.List.Sorted.{IsSorted, IsPermutation}
use Rattle.std.specs.Ordering.{nat_cmp, is_eq}
use Rattle.tree_model.specs.State.{sorted_names}
use Rattle.tree_model.proofs.Sorting.{sorted_by-only}

-- names that tie are one
ties_are_one : (n m : List ℕ) → slice_cmp nat_cmp n m ≡ Equal → n ≡ m
ties_are_one n m e = (bytes_decides n m).0 (texts_ties n m ∙ ap is_eq e)

pub sorted_names_from_sort : (names sorted : List (List ℕ)) → IsPermutation names sorted → IsSorted (slice_cmp nat_cmp) sorted → sorted ≡ sorted_names names
sorted_names_from_sort names sorted moved up = sorted_by-only (slice_cmp nat_cmp) nat_list_cmp_total ties_are_one names sorted moved up
