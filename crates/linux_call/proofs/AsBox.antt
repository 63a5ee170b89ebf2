-- What is kept, and its parts, own what a box at the same types owns.
use mir.Syntax.{impl, tnil, dnil}
use mathlib.Core.List.{[]}
use Rattle.std.specs.Prelude.{◌≡◌, Option, Some, None, IsSome, refl}
use Rattle.std.proofs.Common.{sym, true≢false}
use denote.Signature.{Slot, plain}
use Rattle.std_alloc.proofs.BoxSteps.Form.{Bx}
use Rattle.std_heap.specs.contracts.Global as Heap
use Rattle.std_heap.specs.contracts.GlobalAllocator.TheImpl.{ghosts, dict}
use Rattle.std_heap.proofs.Global.TheLaws as heap
use Rattle.linux_call.specs.contracts.by_steps.state.Steps as Held
use Rattle.linux_call.proofs.by_steps.state.Steps.TheLaws as held
use Rattle.linux_call.specs.contracts.kept.parts.Parts as Parts
use Rattle.linux_call.specs.contracts.kept.Kept as Kept

abbrev pub E : Bx
E = record { row = Held.the_row; laws = held.the_row_laws; al = record { row = Heap.the_row; laws = heap.the_row_laws; g = ghosts; d = dict; drops = impl [] tnil dnil } }

abbrev pub FromParts : Slot 0
FromParts = plain (λ _. Parts.the_row Held.the_row Heap.the_row ghosts)

abbrev pub FromGlobal : Slot 0
FromGlobal = plain (λ _. Heap.the_row)

abbrev pub FromKept : Slot 0
FromKept = plain (λ _. Kept.the_row)

-- what is held, where something is
pub held_by : {X : Type 0} (o : Option X) → IsSome o → (x : X) × (o ≡ Some x)
held_by (Some x) some_held = (x, refl)
held_by None some_held = absurd (true≢false (sym some_held))
