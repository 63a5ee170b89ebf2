-- What is wrong with a call that is refused, over the data that it is: the first of its fields that is
-- (inroot-script(5)).
use Rattle.std.specs.Prelude.{ℕ, ◌||◌, List, Bool, not, if◌then◌else◌, Option, Some, None, is_some, codes}
use Rattle.std.specs.Option.{option_or}
use Rattle.serde_json.specs.Data.{Data}
use Rattle.serde_json.specs.Find.{get, as_str}
use Rattle.path_text.specs.Name.{same_bytes, is_name}
use Rattle.tree_model.specs.Entries.{with_some}
use Rattle.scripts.specs.declared.call_fault.CallFault.{CallFault}
use Rattle.scripts.specs.declared.call_fault.CallFault.TheVariants.{Missing, Shape, Unknown, NotGiven, Taken, ReleasesRoot}
use Rattle.scripts.specs.declared.call_fault.Field.{Field}
use Rattle.scripts.specs.declared.call_fault.Field.TheVariants as field
use Rattle.scripts.specs.declared.calls.Version.{Version}
use Rattle.scripts.specs.declared.calls.Version.TheVariants.{One, Two}
use Rattle.scripts.specs.declared.labels.Label.{Label}
use Rattle.scripts.specs.declared.words.OpName.{OpName}
use Rattle.scripts.specs.declared.words.OpName.TheVariants as op_name
use Rattle.scripts.specs.declared.words.StepName.{StepName}
use Rattle.scripts.specs.declared.words.StepName.TheVariants as step_name
use Rattle.scripts.specs.Fields.{text_in, mode_in, flag_in}
use Rattle.scripts.specs.Labels.{takes_label, has_good_label}
use Rattle.scripts.specs.Steps.{step_name_in, ref_in, released_in}
use Rattle.scripts.specs.Words.{op_name_of}

abbrev pub key_of : Field → List ℕ
key_of field.Op = codes "op"
key_of field.Path = codes "path"
key_of field.Text = codes "text"
key_of field.From = codes "from"
key_of field.To = codes "to"
key_of field.Mode = codes "mode"
key_of field.Beneath = codes "beneath"
key_of field.NoLinks = codes "no_links"
key_of field.As = codes "as"
key_of field.On = codes "on"
key_of field.Step = codes "step"
key_of field.Name = codes "name"
key_of field.New = codes "new"

-- the fault, unless it is good
abbrev pub unless : Bool → CallFault → Option CallFault
unless good fault = if good then None else Some fault

-- a field that has to be there, and to fit
abbrev pub needs : (Data → Bool) → Field → Data → Option CallFault
needs fits f d = with_some (get (key_of f) d) (Some (Missing f)) (λ value. unless (fits value) (Shape f))

abbrev pub text_fault : Field → Data → Option CallFault
text_fault f d = needs (λ value. is_some (as_str value)) f d

abbrev pub name_fault : Field → Data → Option CallFault
name_fault f d = needs
    (λ value. is_some (with_some (as_str value) None (λ text. if is_name text then Some text else None))) f d

abbrev pub mode_fault : Data → Option CallFault
mode_fault d = unless (is_some (mode_in d)) (Shape field.Mode)

abbrev pub flag_fault : Field → Data → Option CallFault
flag_fault f d = unless (is_some (flag_in (key_of f) d)) (Shape f)

-- version 1 doesn't look at restrictions
abbrev pub flags_fault : Version → Data → Option CallFault
flags_fault One d = None
flags_fault Two d = option_or (flag_fault field.Beneath d) (flag_fault field.NoLinks d)

-- the label that call k gives, where it may give one
abbrev pub label_fault : List Label → ℕ → OpName → Data → Option CallFault
label_fault labels k name d =
    if not (takes_label name) || has_good_label labels k d then None
    else Some (with_some (text_in (codes "as") d) (Shape field.As) (λ text. Taken))

-- a field that names what a call before call k opened, or the root
abbrev pub ref_fault : List Label → ℕ → Field → Data → Option CallFault
ref_fault labels k f d = option_or (text_fault f d) (unless (is_some (ref_in labels k (key_of f) d)) (NotGiven f))

-- the texts of an operation, and how it renames
abbrev pub fields_fault : OpName → Data → Option CallFault
fields_fault op_name.CreateLink d = option_or (text_fault field.Path d) (text_fault field.Text d)
fields_fault op_name.Rename d = option_or (option_or (text_fault field.From d) (text_fault field.To d)) (mode_fault d)
fields_fault name d = text_fault field.Path d

abbrev pub request_fault : Version → List Label → ℕ → OpName → Data → Option CallFault
request_fault version labels k name d =
    option_or (option_or (fields_fault name d) (flags_fault version d)) (label_fault labels k name d)

-- the fields of a step, beside what it is on
abbrev pub step_fields_fault : StepName → List Label → ℕ → Data → Option CallFault
step_fields_fault step_name.ReadLink labels k d = None
step_fields_fault step_name.List labels k d = None
step_fields_fault step_name.Below labels k d = None
step_fields_fault step_name.MakeLink labels k d = option_or (name_fault field.Name d) (text_fault field.Text d)
step_fields_fault step_name.Rename labels k d =
    option_or (option_or (option_or (name_fault field.Name d) (ref_fault labels k field.To d))
    (name_fault field.New d)) (mode_fault d)
step_fields_fault name labels k d = name_fault field.Name d

abbrev pub step_fault : List Label → ℕ → Data → Option CallFault
step_fault labels k d =
    option_or (text_fault field.Step d)
    (with_some (step_name_in d) (Some (Unknown field.Step))
    (λ name. option_or (ref_fault labels k field.On d) (step_fields_fault name labels k d)))

abbrev pub release_fault : List Label → ℕ → Data → Option CallFault
release_fault labels k d =
    option_or (ref_fault labels k field.On d) (unless (is_some (released_in labels k d)) ReleasesRoot)

-- a call that has this word for what it asks for
abbrev pub word_fault : Version → List Label → ℕ → List ℕ → Data → Option CallFault
word_fault version labels k word d =
    if same_bytes word (codes "step") then step_fault labels k d
    else (if same_bytes word (codes "release") then release_fault labels k d
    else with_some (op_name_of word) (Some (Unknown field.Op)) (λ name. request_fault version labels k name d))

-- what is wrong with call k of an actor whose calls give these labels
abbrev pub fault_in_call : Version → List Label → ℕ → Data → Option CallFault
fault_in_call version labels k d =
    with_some (text_in (codes "op") d) (text_fault field.Op d) (λ word. word_fault version labels k word d)
