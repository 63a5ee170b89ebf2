-- Some of a list's parts, in any order.
use Rattle.std.specs.Prelude.{◌≡◌, ◌&&◌, ℕ, List, Bool, true}
use Rattle.std.specs.Borrow.{Bor}
use Rattle.std.specs.List.{list_any}
use Rattle.outcome_text.specs.declared.part.Part.{Part}
use Rattle.outcome_text.specs.Merge.{go_along, has_lists}

-- Where one of these passes a test, a part does.
abbrev pub AreSome : List Part → List (Bor Part) → Type 0
AreSome parts some = (test : Part → Bool) → list_any (λ part. test part.now) some ≡ true → list_any test parts ≡ true

-- the part has lists, and goes along with these turns
abbrev pub holds_some : List ℕ → Part → Bool
holds_some turns part = has_lists part && go_along part.begin.items turns
