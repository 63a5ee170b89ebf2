-- The labels of an actor's calls, over the data that a script is.
use Rattle.std.specs.Prelude.{ℕ, ◌+◌, ◌==◌, ◌&&◌, List, [], ◌∷◌, Bool, true, false, not, if◌then◌else◌, nat_lt, Option, Some, None, option_and_then, codes}
use Rattle.serde_json.specs.Data.{Data, Items, no_items, item}
use Rattle.serde_json.specs.Find.{get, as_str}
use Rattle.path_text.specs.Name.{same_bytes}
use Rattle.tree_model.specs.Entries.{with_some}
use Rattle.scripts.specs.declared.labels.Label.{Label}
use Rattle.race_core.specs.declared.plan.Ref.{Ref}
use Rattle.race_core.specs.declared.plan.Ref.TheVariants.{Root, Call}
use Rattle.scripts.specs.declared.words.OpName.{OpName}
use Rattle.scripts.specs.declared.words.OpName.TheVariants as op_name
use Rattle.scripts.specs.Fields.{text_in}
use Rattle.scripts.specs.Words.{op_name_of}

-- whether what such an operation opens may have a label
abbrev pub takes_label : OpName → Bool
takes_label op_name.Resolve = true
takes_label op_name.ResolveNoFollow = true
takes_label op_name.MkdirAll = true
takes_label _ = false

abbrev pub op_in : Data → Option OpName
op_in d = option_and_then op_name_of (text_in (codes "op") d)

-- the label that a call gives to what it opens
abbrev pub label_of : Data → Option (List ℕ)
label_of d = with_some (op_in d) None (λ op. if takes_label op then text_in (codes "as") d else None)

abbrev pub label_then : ℕ → Option (List ℕ) → List Label → List Label
label_then k None labels = labels
label_then k (Some text) labels = record { text = text; call = k } ∷ labels

-- the labels that the calls from number k on give
abbrev pub labels_from : ℕ → Items → List Label
labels_from k no_items = []
labels_from k (item d ds) = label_then k (label_of d) (labels_from (k + 1) ds)

-- the first call that gives a label
abbrev pub giver_of : List Label → List ℕ → Option ℕ
giver_of [] text = None
giver_of (label ∷ labels) text = if same_bytes label.text text then Some label.call else giver_of labels text

-- call k gives no label, or one that isn't the root's and that no call before it gives
abbrev pub has_good_label : List Label → ℕ → Data → Bool
has_good_label labels k d =
    with_some (get (codes "as") d) true (λ label.
    with_some (as_str label) false (λ text.
    not (same_bytes text (codes "root")) && with_some (giver_of labels text) false (λ giver. giver == k)))

-- what a text names in call k: the actor's root, or what the call opened that gives that label, which comes before k
abbrev pub ref_of : List Label → ℕ → List ℕ → Option Ref
ref_of labels k text =
    if same_bytes text (codes "root") then Some Root
    else with_some (giver_of labels text) None (λ giver. if nat_lt giver k then Some (Call giver) else None)
