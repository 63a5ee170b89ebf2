-- A path below a root.
use Rattle.std.specs.Prelude.{ℕ, List, Bool, if◌then◌else◌, drop}
use Rattle.path_text.specs.Text.{begins_with_slash}
use Rattle.kernel_calls.specs.declared.look.Below.{Below}

-- a root, flags of inroot.h, and a path with a slash before it; and whether the first answer is that of its look-up
pub record At : Type 0 where
  pub root : ℕ
  pub flags : ℕ
  pub slashed : List ℕ
  pub looked : Bool

abbrev pub at_of : Below → At
at_of b = record { root = b.root; flags = b.flags; slashed = b.path.slashed.now; looked = b.looked }

-- the path as the caller has it
abbrev pub text_in : List ℕ → List ℕ
text_in slashed = drop 1 slashed

-- a slash, and what stands behind it
abbrev pub place_in : List ℕ → List ℕ
place_in slashed = if begins_with_slash (text_in slashed) then text_in slashed else slashed
