-- What the test of two lists of names says where they are equal, and where they aren't.
use Rattle.std.proofs.Common.{◌≡◌, ◌≢◌, ℕ, true, false, List}
use Rattle.std.proofs.lemmas.Bool.{false_from_ne_true}
use Rattle.std.specs.Cmp.Lexicographic.{pointwise_decides, bytes_decides}
use Rattle.path_text.specs.Names.{same_names}

pub same_where_equal : (xs ys : List (List ℕ)) → xs ≡ ys → same_names xs ys ≡ true
same_where_equal xs ys e = (pointwise_decides bytes_decides xs ys).1 e

pub other_where_not : (xs ys : List (List ℕ)) → xs ≢ ys → same_names xs ys ≡ false
other_where_not xs ys ne =
    false_from_ne_true (same_names xs ys) (λ t. ne ((pointwise_decides bytes_decides xs ys).0 t))
