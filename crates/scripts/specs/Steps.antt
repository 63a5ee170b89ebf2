-- The single steps of a script, over the data that it is.
use Rattle.std.specs.Prelude.{ℕ, List, Option, Some, None, option_and_then, option_map, codes}
use Rattle.serde_json.specs.Data.{Data}
use Rattle.tree_model.specs.Entries.{with_some}
use Rattle.tree_model.specs.StepWith.{StepWith}
use Rattle.tree_model.specs.declared.step.StepOf.TheVariants as steps
use Rattle.scripts.specs.declared.labels.Label.{Label}
use Rattle.race_core.specs.declared.plan.Ref.{Ref}
use Rattle.race_core.specs.declared.plan.Ref.TheVariants.{Root, Call}
use Rattle.scripts.specs.declared.words.StepName.{StepName}
use Rattle.scripts.specs.declared.words.StepName.TheVariants.{ReadLink, List as ListNames, Below, MakeDir, MakeFile, MakeLink, RemoveFile, RemoveDir, Rename}
use Rattle.scripts.specs.Fields.{text_in, name_in, mode_in}
use Rattle.scripts.specs.Labels.{ref_of}
use Rattle.scripts.specs.Words.{step_name_of}

abbrev pub step_name_in : Data → Option StepName
step_name_in d = option_and_then step_name_of (text_in (codes "step") d)

-- what the text under a key names in call k
abbrev pub ref_in : List Label → ℕ → List ℕ → Data → Option Ref
ref_in labels k key d = option_and_then (ref_of labels k) (text_in key d)

-- the step of that name on what `on` names, in call k, with its fields
abbrev pub step_on : StepName → List Label → ℕ → Ref → Data → Option (StepWith Ref)
step_on ReadLink labels k on d = Some (steps.ReadLink on)
step_on ListNames labels k on d = Some (steps.List on)
step_on Below labels k on d = Some (steps.NameBelow Root on)
step_on MakeDir labels k on d = option_map (steps.MakeDir on) (name_in (codes "name") d)
step_on MakeFile labels k on d = option_map (steps.MakeFile on) (name_in (codes "name") d)
step_on MakeLink labels k on d =
    with_some (name_in (codes "name") d) None (λ name.
    with_some (text_in (codes "text") d) None (λ text.
    Some (steps.MakeLink on name text)))
step_on RemoveFile labels k on d = option_map (steps.RemoveFile on) (name_in (codes "name") d)
step_on RemoveDir labels k on d = option_map (steps.RemoveDir on) (name_in (codes "name") d)
step_on Rename labels k on d =
    with_some (name_in (codes "name") d) None (λ name.
    with_some (ref_in labels k (codes "to") d) None (λ to.
    with_some (name_in (codes "new") d) None (λ new.
    with_some (mode_in d) None (λ mode.
    Some (steps.Rename on name to new mode)))))

-- the step that call k says
abbrev pub step_of : List Label → ℕ → Data → Option (StepWith Ref)
step_of labels k d =
    with_some (step_name_in d) None (λ name.
    with_some (ref_in labels k (codes "on") d) None (λ on.
    step_on name labels k on d))

abbrev pub released_by : Ref → Option ℕ
released_by Root = None
released_by (Call number) = Some number

-- the call whose opened object call k releases
abbrev pub released_in : List Label → ℕ → Data → Option ℕ
released_in labels k d = option_and_then released_by (ref_in labels k (codes "on") d)
