-- What `inroot walk` writes, as a function of what it reads, of the path and of the restrictions.
use Rattle.std.specs.Prelude.{◌≡◌, ◌≢◌, ℕ, List, [], reverse, Option, Result, Ok, Err, MatchResult, IsOkAnd, IfErr, true, ⊤}
use Rattle.std.specs.Io.KnownBytes.{Appends, Keeps}
use Rattle.serde_json.specs.Data.{Data}
use Rattle.path_text.specs.declared.flags.Flags.{Flags}
use Rattle.tree_model.specs.declared.inode.Inode.{Inode}
use Rattle.tree_model.specs.State.{object_at, names_below}
use Rattle.tree_model.specs.Steps.{kind_of}
use Rattle.step_resolver.specs.Meaning.{Meant, object, fails, resolved}
use Rattle.tree_model.specs.Entries.{with_some}
use Rattle.scripts.specs.declared.fault.RunFault.{RunFault}
use Rattle.scripts.specs.declared.fault.RunFault.TheVariants.{Script, ReadFailed, WriteFailed, NoMemory, BookFull}
use Rattle.scripts.specs.declared.fault.ScriptFault.{ScriptFault}
use Rattle.scripts.specs.Fault.{check_of}
use Rattle.event_log.specs.Output.{opened_line, fault_line}
use Rattle.scripts.specs.Input.{data_of}
use Rattle.scripts.specs.Script.{rooted_tree_of}
use Rattle.scripts.specs.Checks.{then_with}

-- the line of the object x: what it is, its node, and the names at which it stands below the root
abbrev pub object_line : List Inode → ℕ → ℕ → List ℕ
object_line nodes r x =
    with_some (object_at nodes x) [] (λ what.
    with_some (names_below nodes r x) [] (λ names. opened_line (kind_of what) x (reverse names)))

-- the line of what a path means: its object, or its error
abbrev pub line_of : List Inode → ℕ → Meant → List ℕ
line_of nodes r (object x b reads) = object_line nodes r x
line_of nodes r (fails error reads) = fault_line error

-- the line for a script's data and a path text, which is resolved below the first actor's root with these restrictions
abbrev pub line_for : Data → List ℕ → Flags → Result (List ℕ) ScriptFault
line_for d text flags =
    then_with (rooted_tree_of d)
    (λ tree. Ok (line_of tree.nodes tree.root (resolved tree.nodes tree.root text true flags)))

-- what is written for a script's bytes, or the first check of the script that fails
abbrev pub written_for : List ℕ → List ℕ → Flags → Result (List ℕ) ScriptFault
written_for input text flags = then_with (data_of input) (λ d. line_for d text flags)

-- a run's fault is the script's; or a growth was refused; or a write, where there is something to write
abbrev pub IsRunFaultOf : Result (List ℕ) ScriptFault → RunFault → Type 0
IsRunFaultOf said (Script fault) = said ≡ Err (check_of fault)
IsRunFaultOf said ReadFailed = ⊥
IsRunFaultOf said WriteFailed = IsOkAnd said (λ text. text ≢ [])
IsRunFaultOf said NoMemory = ⊤
IsRunFaultOf said BookFull = ⊥

-- The run wrote what there is to write, and nothing else; or it failed as it should, and but for a writer that failed
-- nothing was written.
abbrev pub IsRun : {T : Type 0} → Result (List ℕ) ScriptFault → Option (List ℕ) → Option (List ℕ)
    → Result T RunFault → Type 0
IsRun said old new result = MatchResult result
    (λ _. IsOkAnd said (λ text. Appends old new text))
    (λ fault. IsRunFaultOf said fault × (fault ≢ WriteFailed → Keeps old new))

-- where the script is refused, nothing is written
abbrev pub WritesNothingIfRefused : Result (List ℕ) ScriptFault → Option (List ℕ) → Option (List ℕ) → Type 0
WritesNothingIfRefused said old new = IfErr said (λ _. Keeps old new)
