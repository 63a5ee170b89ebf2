-- A change is refused EMFILE only for want of node numbers, no text is, and numbers only grow.
use Rattle.std.specs.Prelude.{◌≡◌, ℕ, zero, suc, ◌≤◌, List, [], ◌∷◌, Bool, true, false, nat_le, length, Some, Err, refl}
use Rattle.std.proofs.Common.{sym, ◌∙◌, le_refl, le_trans}
use Rattle.std.proofs.lemmas.Bool.{false≢true, leb-true}
use Rattle.path_text.specs.declared.errno.Errno.{Errno}
use Rattle.path_text.specs.declared.errno.Errno.TheVariants.{TooMany}
use Rattle.path_text.specs.declared.path.Rule.{Rule}
use Rattle.path_text.specs.Reading.{Reading}
use Rattle.path_text.specs.Split.{split_of}
use Rattle.path_text.specs.Text.{text_fault}
use Rattle.tree_model.specs.declared.answer.Event.{Event}
use Rattle.tree_model.specs.declared.inode.Inode.{Inode}
use Rattle.tree_model.specs.declared.step.Mode.{Mode}
use Rattle.tree_model.specs.declared.tree.TheConstants.{NUMBERS_MAX}
use Rattle.tree_model.specs.State.{State}
use Rattle.tree_model.specs.Entries.{renames}
use Rattle.tree_model.specs.History.{after_event, after_events, tree_at}
use Rattle.tree_model.proofs.StepLaws.{numbers_grow}
use Rattle.step_resolver.specs.Asked.{AskedPart}
use Rattle.bulk_ops.specs.MakeAllOrder.{rest_fault}
use Rattle.bulk_ops.proofs.TableErrors.{AreOthers, no_fault, no_failure, text_other, split_other, rest_other, renames_other}
use Rattle.root_ops.specs.declared.aim.Change.{Change}
use Rattle.root_ops.specs.Acts.{change_of}
use Rattle.root_ops.proofs.ChangeErrors.{change_other}

abbrev many : Errno → Bool
many TooMany = true
many _ = false

not_many : AreOthers many
not_many = record { missing = refl; there = refl; no_dir = refl; dir = refl; invalid = refl; long = refl; full = refl }

pub text_is_other : (text : List ℕ) → text_fault text ≡ Some TooMany → ⊥
text_is_other text e = no_fault many (text_fault text) TooMany (text_other many not_many text) refl e

pub split_is_other : (path : Reading) (rule : Rule) → split_of path rule ≡ Err TooMany → ⊥
split_is_other path rule e = no_failure many (split_of path rule) TooMany (split_other many not_many path rule) refl e

pub rest_is_other : (rest : List AskedPart) → rest_fault rest ≡ Some TooMany → ⊥
rest_is_other rest e = no_fault many (rest_fault rest) TooMany (rest_other many not_many rest) refl e

pub change_numbers : (nodes : List Inode) (d : ℕ) (n : List ℕ) (change : Change)
    → change_of change nodes d n ≡ Err TooMany
    → NUMBERS_MAX ≤ length nodes
change_numbers nodes d n change e = on (nat_le NUMBERS_MAX (length nodes)) refl
  where
    on : (b : Bool) → nat_le NUMBERS_MAX (length nodes) ≡ b → NUMBERS_MAX ≤ length nodes
    on true full = leb-true NUMBERS_MAX (length nodes) full
    on false few =
        absurd (no_failure many (change_of change nodes d n) TooMany
        (change_other many not_many nodes (λ full. absurd (false≢true (sym few ∙ full))) d n change) refl e)

pub rename_is_other : (nodes : List Inode) (d : ℕ) (n : List ℕ) (f : ℕ) (m : List ℕ) (mode : Mode)
    → renames nodes d n f m mode ≡ Err TooMany → ⊥
rename_is_other nodes d n f m mode e =
    no_failure many (renames nodes d n f m mode) TooMany (renames_other many not_many nodes d n f m mode) refl e

-- ---- numbers only grow

pub grows : (s : State) (events : List Event) (t : ℕ)
    → (length (tree_at s events t).nodes ≤ length (after_events s events).nodes) × (length (tree_at s events t).handles ≤ length (after_events s events).handles)
grows s [] zero = (le_refl (length s.nodes), le_refl (length s.handles))
grows s [] (suc t) = (le_refl (length s.nodes), le_refl (length s.handles))
grows s (event ∷ events) zero =
    let one = numbers_grow s event.actor event.step in
    let later = grows (after_event s event) events zero in
    (le_trans one.0 later.0, le_trans one.1 later.1)
grows s (event ∷ events) (suc t) = grows (after_event s event) events t
