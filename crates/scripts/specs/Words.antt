-- The words of a script that stand for what is to be done.
use Rattle.std.specs.Prelude.{ℕ, List, if◌then◌else◌, Option, Some, None, codes}
use Rattle.path_text.specs.Name.{same_bytes}
use Rattle.tree_model.specs.declared.step.Mode.{Mode}
use Rattle.tree_model.specs.declared.step.Mode.TheVariants as mode
use Rattle.scripts.specs.declared.words.OpName.{OpName}
use Rattle.scripts.specs.declared.words.OpName.TheVariants as op_name
use Rattle.scripts.specs.declared.words.StepName.{StepName}
use Rattle.scripts.specs.declared.words.StepName.TheVariants as step_name

-- the operation that a call's `op` asks for
abbrev pub op_name_of : List ℕ → Option OpName
op_name_of word =
    if same_bytes word (codes "resolve") then Some op_name.Resolve
    else (if same_bytes word (codes "resolve_nofollow") then Some op_name.ResolveNoFollow
    else (if same_bytes word (codes "mkdir_all") then Some op_name.MkdirAll
    else (if same_bytes word (codes "read_link") then Some op_name.ReadLink
    else (if same_bytes word (codes "create_file") then Some op_name.CreateFile
    else (if same_bytes word (codes "create_dir") then Some op_name.CreateDir
    else (if same_bytes word (codes "create_link") then Some op_name.CreateLink
    else (if same_bytes word (codes "remove_file") then Some op_name.RemoveFile
    else (if same_bytes word (codes "remove_dir") then Some op_name.RemoveDir
    else (if same_bytes word (codes "remove_all") then Some op_name.RemoveAll
    else (if same_bytes word (codes "rename") then Some op_name.Rename
    else None))))))))))

-- what the `step` of a single step asks for
abbrev pub step_name_of : List ℕ → Option StepName
step_name_of word =
    if same_bytes word (codes "read_link") then Some step_name.ReadLink
    else (if same_bytes word (codes "list") then Some step_name.List
    else (if same_bytes word (codes "below") then Some step_name.Below
    else (if same_bytes word (codes "make_dir") then Some step_name.MakeDir
    else (if same_bytes word (codes "make_file") then Some step_name.MakeFile
    else (if same_bytes word (codes "make_link") then Some step_name.MakeLink
    else (if same_bytes word (codes "remove_file") then Some step_name.RemoveFile
    else (if same_bytes word (codes "remove_dir") then Some step_name.RemoveDir
    else (if same_bytes word (codes "rename") then Some step_name.Rename
    else None))))))))

-- how a rename treats an entry that is there already
abbrev pub mode_of : List ℕ → Option Mode
mode_of word =
    if same_bytes word (codes "plain") then Some mode.Plain
    else (if same_bytes word (codes "noreplace") then Some mode.NoReplace
    else (if same_bytes word (codes "exchange") then Some mode.Exchange
    else None))
