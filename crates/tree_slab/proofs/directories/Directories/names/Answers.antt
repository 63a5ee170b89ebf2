use Rattle.std.proofs.Common.{[], sym, subst}
use Rattle.std.specs.List.Sorted.{IsStrictlySortedBy}
use Rattle.std.specs.Cmp.Lexicographic.{slice_cmp}
use Rattle.std.specs.Ordering.{nat_cmp}
use Rattle.tree_slab.proofs.directories.Directories.names.Goals as goal

nothing : IsStrictlySortedBy (slice_cmp nat_cmp) []
unfolding IsStrictlySortedBy
nothing = tt

pub returns-in-None-clause-sorted : goal.returns-in-None-clause-sorted
returns-in-None-clause-sorted c = subst (λ names. IsStrictlySortedBy (slice_cmp nat_cmp) names) (sym c.new.ensures) nothing
