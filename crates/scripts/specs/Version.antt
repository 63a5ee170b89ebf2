-- The version of a script, over the data that its JSON text is: what each command looks at first.
use Rattle.std.specs.Prelude.{◌==◌, if◌then◌else◌, codes, Option, Some, None, is_none, option_and_then, Result, Ok, Err}
use Rattle.serde_json.specs.Data.{Data}
use Rattle.serde_json.specs.Find.{get, as_number, as_u64, as_object}
use Rattle.tree_model.specs.Entries.{with_some, refuse_if}
use Rattle.scripts.specs.declared.calls.Version.{Version}
use Rattle.scripts.specs.declared.calls.Version.TheVariants.{One, Two}
use Rattle.scripts.specs.declared.fault.ScriptFault.{ScriptFault}
use Rattle.scripts.specs.declared.fault.ScriptFault.TheVariants.{NotObject, Version as NoVersion}

-- the version, if it is one that can be read
abbrev pub version_in : Data → Option Version
version_in d = with_some (option_and_then as_u64 (option_and_then as_number (get (codes "version") d))) None
    (λ n. if n == 1 then Some One else (if n == 2 then Some Two else None))

-- the version of an object, or what is told otherwise
abbrev pub version_of : Data → Result Version ScriptFault
version_of d =
    refuse_if (is_none (as_object d)) (Err NotObject) (with_some (version_in d) (Err NoVersion) (λ version. Ok version))
