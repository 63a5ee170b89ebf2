-- The keys that a script's objects may have (inroot-script(5)), over the data that they are.
use Rattle.std.specs.Prelude.{ℕ, ◌||◌, List, Bool, false, not, if◌then◌else◌, Option, Some, None, option_map, codes}
use Rattle.serde_json.specs.Data.{Data, Members, no_members, member}
use Rattle.serde_json.specs.Find.{as_object}
use Rattle.path_text.specs.Name.{same_bytes}
use Rattle.tree_model.specs.Entries.{with_some}
use Rattle.scripts.specs.declared.keys.Keys.{Keys}
use Rattle.scripts.specs.declared.keys.Keys.TheVariants.{Script, Actor, Opening, OnPath, CreateLink, Rename, Release, Looking, OnName, MakeLink, RenameStep}
use Rattle.scripts.specs.declared.words.OpName.{OpName}
use Rattle.scripts.specs.declared.words.OpName.TheVariants as op_name
use Rattle.scripts.specs.declared.words.StepName.{StepName}
use Rattle.scripts.specs.declared.words.StepName.TheVariants as step_name
use Rattle.scripts.specs.Fields.{text_in}
use Rattle.scripts.specs.Steps.{step_name_in}
use Rattle.scripts.specs.Words.{op_name_of}

-- the restrictions of an operation
abbrev pub is_restriction : List ℕ → Bool
is_restriction key = same_bytes key (codes "beneath") || same_bytes key (codes "no_links")

-- the keys of every step
abbrev pub is_step_key : List ℕ → Bool
is_step_key key = same_bytes key (codes "op") || same_bytes key (codes "step") || same_bytes key (codes "on")

abbrev pub is_key : Keys → List ℕ → Bool
is_key Script key =
    same_bytes key (codes "version") || same_bytes key (codes "tree") || same_bytes key (codes "actors")
    || same_bytes key (codes "schedule")
    || same_bytes key (codes "lines")
is_key Actor key = same_bytes key (codes "root") || same_bytes key (codes "calls")
is_key Opening key = same_bytes key (codes "op") || same_bytes key (codes "path") || same_bytes key (codes "as")
    || is_restriction key
is_key OnPath key = same_bytes key (codes "op") || same_bytes key (codes "path") || is_restriction key
is_key CreateLink key = same_bytes key (codes "op") || same_bytes key (codes "path")
    || same_bytes key (codes "text") || is_restriction key
is_key Rename key =
    same_bytes key (codes "op") || same_bytes key (codes "from") || same_bytes key (codes "to")
    || same_bytes key (codes "mode") || is_restriction key
is_key Release key = same_bytes key (codes "op") || same_bytes key (codes "on")
is_key Looking key = is_step_key key
is_key OnName key = is_step_key key || same_bytes key (codes "name")
is_key MakeLink key = is_step_key key || same_bytes key (codes "name") || same_bytes key (codes "text")
is_key RenameStep key =
    is_step_key key || same_bytes key (codes "name") || same_bytes key (codes "to") || same_bytes key (codes "new")
    || same_bytes key (codes "mode")

-- a key of these members isn't of that kind
abbrev pub has_other : Keys → Members → Bool
has_other keys no_members = false
has_other keys (member key d ms) = not (is_key keys key) || has_other keys ms

-- an object has a key that one of that kind may not have
abbrev pub has_other_key : Keys → Data → Bool
has_other_key keys d = with_some (as_object d) false (has_other keys)

abbrev pub keys_of_op : OpName → Keys
keys_of_op op_name.Resolve = Opening
keys_of_op op_name.ResolveNoFollow = Opening
keys_of_op op_name.MkdirAll = Opening
keys_of_op op_name.CreateLink = CreateLink
keys_of_op op_name.Rename = Rename
keys_of_op _ = OnPath

abbrev pub keys_of_step : StepName → Keys
keys_of_step step_name.ReadLink = Looking
keys_of_step step_name.List = Looking
keys_of_step step_name.Below = Looking
keys_of_step step_name.MakeLink = MakeLink
keys_of_step step_name.Rename = RenameStep
keys_of_step _ = OnName

-- what a call is by what it asks for, if that is something
abbrev pub keys_of_call : Data → Option Keys
keys_of_call d =
    with_some (text_in (codes "op") d) None (λ word.
    if same_bytes word (codes "step") then option_map keys_of_step (step_name_in d)
    else (if same_bytes word (codes "release") then Some Release
    else option_map keys_of_op (op_name_of word)))
