-- How it ends that a text of what a script says is written: a run of its world comes to it, or to a fault.
use Rattle.std.specs.Prelude.{⊤, ◌≡◌, ◌≢◌, ◌<◌, ℕ, List, [], length, Option, Result, Err, IsOkAnd}
use Rattle.std.specs.Io.KnownBytes.{Appends}
use Rattle.tree_model.specs.State.{State}
use Rattle.scripts.specs.declared.fault.RunFault.{RunFault}
use Rattle.scripts.specs.declared.fault.RunFault.TheVariants.{Script, ReadFailed, WriteFailed, NoMemory, BookFull}
use Rattle.scripts.specs.declared.fault.ScriptFault.{ScriptFault}
use Rattle.scripts.specs.Fault.{check_of}
use Rattle.scripts.specs.Scenario.{Said}

-- the tree of a script, in which nobody has a handle yet
abbrev pub tree_of : Said → State
tree_of said = record { nodes = said.nodes; handles = [] }

-- the book has no line for each actor's root
abbrev pub HasFewLines : Said → Type 0
HasFewLines said = said.lines < length said.plans

-- why a script whose checks have passed has no report
abbrev pub IsNoRun : Said → RunFault → Type 0
IsNoRun said NoMemory = ⊤
IsNoRun said BookFull = HasFewLines said
IsNoRun said (Script fault) = ⊥
IsNoRun said ReadFailed = ⊥
IsNoRun said WriteFailed = ⊥

-- a fault of writing a text of what is said is the script's; or its book is too small; or a growth was refused;
-- or a write of such a text, which isn't empty
abbrev pub IsWritingFaultOf : (Said → List ℕ → Type 0) → Result Said ScriptFault → RunFault → Type 0
IsWritingFaultOf IsText said (Script fault) = said ≡ Err (check_of fault)
IsWritingFaultOf IsText said ReadFailed = ⊥
IsWritingFaultOf IsText said WriteFailed = IsOkAnd said (λ s. (text : List ℕ) × IsText s text × (text ≢ []))
IsWritingFaultOf IsText said NoMemory = ⊤
IsWritingFaultOf IsText said BookFull = IsOkAnd said HasFewLines

-- such a text of what is said was written, and nothing else
abbrev pub Wrote : (Said → List ℕ → Type 0) → Result Said ScriptFault → Option (List ℕ) → Option (List ℕ) → Type 0
Wrote IsText said old new = IsOkAnd said (λ s. (text : List ℕ) × IsText s text × Appends old new text)
