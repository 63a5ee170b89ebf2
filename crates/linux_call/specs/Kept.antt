-- What a `Kept` owns: nothing, or what a box of the call owns.
use base.Fml.{Fml, ftrue}
use base.Stored.{Coded}
use denote.RawPtr.{Ptr}
use Rattle.std.specs.Prelude.{Option, Some, None}
use Rattle.std.specs.Coded.{coded_option}
use Rattle.std.specs.Box.Ownership.{box_owns}
use Rattle.std.specs.Global.{Global}
use Rattle.std_heap.specs.contracts.GlobalAllocator.TheImpl.{ghosts}
use Rattle.linux_call.specs.contracts.by_steps.state.Steps.{the_row}

abbrev pub kept_owns : Global → Ptr → Option the_row.Denot → Fml
kept_owns alloc at None = ftrue
kept_owns alloc at (Some held) = box_owns (ghosts.dealloc_token alloc) the_row at held

abbrev pub held_coded : Coded (Option the_row.Denot)
held_coded = coded_option the_row.coded
