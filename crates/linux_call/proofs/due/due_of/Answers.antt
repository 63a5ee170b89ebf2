use Rattle.std.proofs.Common.{◌≡◌, ℕ, List, false, refl}
use Rattle.std.specs.Borrow.{Bor}
use Rattle.dialogue.specs.Dialogue.{asked_of}
use Rattle.dialogue.specs.declared.calls.Question.{Question}
use Rattle.dialogue.specs.declared.calls.Question.TheVariants.{LookUp, OpenPath}
use Rattle.linux_call.specs.Due.{is_path_call}
use Rattle.linux_call.proofs.due.due_of.Goals as goal

is_other : (q : Question) → ((a : ℕ) (b : Bor (List ℕ)) (c d : ℕ) → q ≡ LookUp a b c d → ⊥)
    → ((a : ℕ) (b : Bor (List ℕ)) (c d e : ℕ) → q ≡ OpenPath a b c d e → ⊥) → is_path_call (asked_of q) ≡ false
is_other (LookUp a b c d) h g = absurd (h a b c d refl)
is_other (OpenPath a b c d e) h g = absurd (g a b c d e refl)
is_other q h g = refl

pub returns : goal.returns
returns c =
    let other = is_other _ c.in_default.not-LookUp c.in_default.not-OpenPath in
    record { call = c.due_of_other.ensures.call other; texts = c.due_of_other.ensures.texts other }
