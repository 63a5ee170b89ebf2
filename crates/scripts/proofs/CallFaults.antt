-- Of each call that is refused a fault is told, and of no other.
use Rattle.std.proofs.Common.{◌≡◌, ℕ, List, Bool, true, false, not, ◌||◌, ◌&&◌, refl, ap, ◌∙◌}
use Rattle.std.specs.Prelude.{Option, Some, None, is_some, is_none, option_map, option_and_then, if◌then◌else◌, codes}
use Rattle.std.specs.Option.{option_or}
use Rattle.serde_json.specs.Data.{Data}
use Rattle.serde_json.specs.Find.{get, as_str}
use Rattle.path_text.specs.Name.{same_bytes, is_name}
use Rattle.root_ops.specs.declared.op.Op.{Op}
use Rattle.root_ops.specs.declared.op.Op.TheVariants as op
use Rattle.root_ops.specs.declared.op.Request.{Request}
use Rattle.race_core.specs.declared.plan.Planned.TheVariants as planned
use Rattle.race_core.specs.declared.plan.Ref.{Ref}
use Rattle.tree_model.specs.Entries.{with_some, refuse_if}
use Rattle.tree_model.specs.declared.step.Mode.{Mode}
use Rattle.tree_model.specs.StepWith.{StepWith}
use Rattle.tree_model.specs.declared.step.StepOf.TheVariants as steps
use Rattle.scripts.specs.declared.call_fault.CallFault.{CallFault}
use Rattle.scripts.specs.declared.call_fault.CallFault.TheVariants.{Missing, Shape, Unknown, NotGiven, Taken, ReleasesRoot}
use Rattle.scripts.specs.declared.call_fault.Field.{Field}
use Rattle.scripts.specs.declared.call_fault.Field.TheVariants as field
use Rattle.scripts.specs.declared.calls.Version.{Version}
use Rattle.scripts.specs.declared.calls.Version.TheVariants.{One, Two}
use Rattle.scripts.specs.declared.labels.Label.{Label}
use Rattle.scripts.specs.declared.words.OpName.{OpName}
use Rattle.scripts.specs.declared.words.OpName.TheVariants as op_name
use Rattle.scripts.specs.declared.words.StepName.{StepName}
use Rattle.scripts.specs.declared.words.StepName.TheVariants as step_name
use Rattle.scripts.specs.CallFaultLaws.{EachRefusalIsTold}
use Rattle.scripts.specs.CallFaults.{key_of, unless, text_fault, name_fault, mode_fault, flag_fault, flags_fault, label_fault, ref_fault, fields_fault, request_fault, step_fields_fault, step_fault, release_fault, word_fault}
use Rattle.scripts.specs.Calls.{flags_in, op_of, request_of}
use Rattle.scripts.specs.Fields.{text_in, name_in, mode_in, flag_in}
use Rattle.scripts.specs.Labels.{takes_label, has_good_label, ref_of}
use Rattle.scripts.specs.Steps.{ref_in, step_on, step_of, released_by, released_in}
use Rattle.scripts.specs.Words.{op_name_of, step_name_of}

-- ---- what is refused, and what is told of it

-- a fault is told exactly where nothing is said
abbrev Tells : {A : Type 0} → Option A → Option CallFault → Type 0
Tells said fault = is_some fault ≡ is_none said

or_told : (e g : Option CallFault) → is_some (option_or e g) ≡ is_some e || is_some g
or_told None g = refl
or_told (Some x) g = refl

or_assoc : (a b c : Option CallFault) → option_or (option_or a b) c ≡ option_or a (option_or b c)
or_assoc None b c = refl
or_assoc (Some x) b c = refl

or_assoc_more : (a b c d : Option CallFault) → option_or (option_or (option_or a b) c) d ≡ option_or a (option_or b (option_or c d))
or_assoc_more None b c d = or_assoc b c d
or_assoc_more (Some x) b c d = refl

both : {A B : Type 0} (o : Option A) (f : A → Option B) (e g : Option CallFault) → Tells o e → ((x : A) → Tells (f x) g) → Tells (with_some o None f) (option_or e g)
both None f e g first second = or_told e g ∙ ap (λ b. b || is_some g) first
both (Some x) f e g first second = or_told e g ∙ ap (λ b. b || is_some g) first ∙ second x

mapped : {A B : Type 0} (h : A → B) (o : Option A) (e : Option CallFault) → Tells o e → Tells (option_map h o) e
mapped h None e told = told
mapped h (Some x) e told = told

done : {A B : Type 0} (h : A → B) (o : Option A) (e : Option CallFault) → Tells o e → Tells (with_some o None (λ x. Some (h x))) e
done h None e told = told
done h (Some x) e told = told

told_unless : {A : Type 0} (o : Option A) (fault : CallFault) → Tells o (unless (is_some o) fault)
told_unless None fault = refl
told_unless (Some x) fault = refl

then_told : {A B : Type 0} (o : Option A) (h : A → Option B) (e : Option CallFault) (fault : CallFault) → Tells o e
    → Tells (option_and_then h o) (option_or e (unless (is_some (option_and_then h o)) fault))
then_told None h e fault told = or_told e (Some fault) ∙ ap (λ b. b || true) told
then_told (Some x) h e fault told = or_told e (unless (is_some (h x)) fault) ∙ ap (λ b. b || is_some (unless (is_some (h x)) fault)) told ∙ told_unless (h x) fault

chosen : {B C : Type 0} (o : Option B) (f : B → Option C) (g : B → Option CallFault) (fault : CallFault) → ((b : B) → Tells (f b) (g b))
    → Tells (with_some o None f) (with_some o (Some fault) g)
chosen None f g fault each = refl
chosen (Some b) f g fault each = each b

named : {A B C : Type 0} (o : Option A) (h : A → Option B) (f : B → Option C) (g : B → Option CallFault) (e : Option CallFault) (fault : CallFault) → Tells o e
    → ((b : B) → Tells (f b) (g b)) → Tells (with_some (option_and_then h o) None f) (option_or e (with_some (option_and_then h o) (Some fault) g))
named None h f g e fault told each = or_told e (Some fault) ∙ ap (λ b. b || true) told
named (Some x) h f g e fault told each =
    or_told e (with_some (h x) (Some fault) g) ∙ ap (λ b. b || is_some (with_some (h x) (Some fault) g)) told ∙ chosen (h x) f g fault each

asked : {A C : Type 0} (o : Option A) (f : A → Option C) (g : A → Option CallFault) (e : Option CallFault) → Tells o e → ((x : A) → Tells (f x) (g x))
    → Tells (with_some o None f) (with_some o e g)
asked None f g e told each = told
asked (Some x) f g e told each = each x

-- ---- fields

text_by : (f : Field) (o : Option Data) → Tells (option_and_then as_str o) (with_some o (Some (Missing f)) (λ value. unless (is_some (as_str value)) (Shape f)))
text_by f None = refl
text_by f (Some value) = told_unless (as_str value) (Shape f)

text_told : (f : Field) (d : Data) → Tells (text_in (key_of f) d) (text_fault f d)
text_told f d = text_by f (get (key_of f) d)

abbrev named_text : Option (List ℕ) → Option (List ℕ)
named_text o = with_some o None (λ text. if is_name text then Some text else None)

name_by : (f : Field) (o : Option Data) → Tells (named_text (option_and_then as_str o)) (with_some o (Some (Missing f)) (λ value. unless (is_some (named_text (as_str value))) (Shape f)))
name_by f None = refl
name_by f (Some value) = told_unless (named_text (as_str value)) (Shape f)

name_told : (f : Field) (d : Data) → Tells (name_in (key_of f) d) (name_fault f d)
name_told f d = name_by f (get (key_of f) d)

mode_told : (d : Data) → Tells (mode_in d) (mode_fault d)
mode_told d = told_unless (mode_in d) (Shape field.Mode)

flag_told : (f : Field) (d : Data) → Tells (flag_in (key_of f) d) (flag_fault f d)
flag_told f d = told_unless (flag_in (key_of f) d) (Shape f)

flags_told : (version : Version) (d : Data) → Tells (flags_in version d) (flags_fault version d)
flags_told One d = refl
flags_told Two d =
    both (flag_in (codes "beneath") d) (λ beneath. with_some (flag_in (codes "no_links") d) None (λ no_links. Some (record { beneath = beneath; no_links = no_links })))
    (flag_fault field.Beneath d) (flag_fault field.NoLinks d) (flag_told field.Beneath d)
    (λ beneath. done (λ no_links. record { beneath = beneath; no_links = no_links }) (flag_in (codes "no_links") d) (flag_fault field.NoLinks d) (flag_told field.NoLinks d))

fields_told : (name : OpName) (d : Data) → Tells (op_of name d) (fields_fault name d)
fields_told op_name.Resolve d = mapped op.Resolve (text_in (codes "path") d) (text_fault field.Path d) (text_told field.Path d)
fields_told op_name.ResolveNoFollow d = mapped op.ResolveNoFollow (text_in (codes "path") d) (text_fault field.Path d) (text_told field.Path d)
fields_told op_name.MkdirAll d = mapped op.MkdirAll (text_in (codes "path") d) (text_fault field.Path d) (text_told field.Path d)
fields_told op_name.ReadLink d = mapped op.ReadLink (text_in (codes "path") d) (text_fault field.Path d) (text_told field.Path d)
fields_told op_name.CreateFile d = mapped op.CreateFile (text_in (codes "path") d) (text_fault field.Path d) (text_told field.Path d)
fields_told op_name.CreateDir d = mapped op.CreateDir (text_in (codes "path") d) (text_fault field.Path d) (text_told field.Path d)
fields_told op_name.RemoveFile d = mapped op.RemoveFile (text_in (codes "path") d) (text_fault field.Path d) (text_told field.Path d)
fields_told op_name.RemoveDir d = mapped op.RemoveDir (text_in (codes "path") d) (text_fault field.Path d) (text_told field.Path d)
fields_told op_name.RemoveAll d = mapped op.RemoveAll (text_in (codes "path") d) (text_fault field.Path d) (text_told field.Path d)
fields_told op_name.CreateLink d =
    both (text_in (codes "path") d) (λ path. with_some (text_in (codes "text") d) None (λ text. Some (op.CreateLink path text))) (text_fault field.Path d) (text_fault field.Text d)
    (text_told field.Path d) (λ path. done (op.CreateLink path) (text_in (codes "text") d) (text_fault field.Text d) (text_told field.Text d))
fields_told op_name.Rename d =
    ap is_some (or_assoc (text_fault field.From d) (text_fault field.To d) (mode_fault d))
    ∙ both (text_in (codes "from") d) (λ from. with_some (text_in (codes "to") d) None (λ to. with_some (mode_in d) None (λ mode. Some (op.Rename from to mode))))
    (text_fault field.From d) (option_or (text_fault field.To d) (mode_fault d)) (text_told field.From d)
    (λ from. both (text_in (codes "to") d) (λ to. with_some (mode_in d) None (λ mode. Some (op.Rename from to mode))) (text_fault field.To d) (mode_fault d) (text_told field.To d)
    (λ to. done (op.Rename from to) (mode_in d) (mode_fault d) (mode_told d)))

label_by : (takes good : Bool) (request : Request) (fault : CallFault)
    → is_some (if not takes || good then None else Some fault) ≡ is_none (refuse_if (takes && not good) None (Some request))
label_by false false request fault = refl
label_by false true request fault = refl
label_by true false request fault = refl
label_by true true request fault = refl

request_told : (version : Version) (labels : List Label) (k : ℕ) (name : OpName) (d : Data) → Tells (request_of version labels k name d) (request_fault version labels k name d)
request_told version labels k name d =
    ap is_some (or_assoc (fields_fault name d) (flags_fault version d) (label_fault labels k name d))
    ∙ both (op_of name d)
    (λ o. with_some (flags_in version d) None (λ flags. refuse_if (takes_label name && not (has_good_label labels k d)) None (Some (record { op = o; flags = flags }))))
    (fields_fault name d) (option_or (flags_fault version d) (label_fault labels k name d)) (fields_told name d)
    (λ o. both (flags_in version d) (λ flags. refuse_if (takes_label name && not (has_good_label labels k d)) None (Some (record { op = o; flags = flags })))
    (flags_fault version d) (label_fault labels k name d) (flags_told version d)
    (λ flags. label_by (takes_label name) (has_good_label labels k d) (record { op = o; flags = flags }) (with_some (text_in (codes "as") d) (Shape field.As) (λ text. Taken))))

-- ---- steps and releases

module _ (labels : List Label) (k : ℕ) (d : Data) where
  ref_told : (f : Field) → Tells (ref_in labels k (key_of f) d) (ref_fault labels k f d)
  ref_told f = then_told (text_in (key_of f) d) (ref_of labels k) (text_fault f d) (NotGiven f) (text_told f d)

  release_told : Tells (released_in labels k d) (release_fault labels k d)
  release_told = then_told (ref_in labels k (codes "on") d) released_by (ref_fault labels k field.On d) ReleasesRoot (ref_told field.On)

  abbrev renamed : Ref → List ℕ → Ref → List ℕ → Option (StepWith Ref)
  renamed on name to new = with_some (mode_in d) None (λ mode. Some (steps.Rename on name to new mode))

  on_told : (name : StepName) (on : Ref) → Tells (step_on name labels k on d) (step_fields_fault name labels k d)
  on_told step_name.ReadLink on = refl
  on_told step_name.List on = refl
  on_told step_name.Below on = refl
  on_told step_name.MakeDir on = mapped (steps.MakeDir on) (name_in (codes "name") d) (name_fault field.Name d) (name_told field.Name d)
  on_told step_name.MakeFile on = mapped (steps.MakeFile on) (name_in (codes "name") d) (name_fault field.Name d) (name_told field.Name d)
  on_told step_name.RemoveFile on = mapped (steps.RemoveFile on) (name_in (codes "name") d) (name_fault field.Name d) (name_told field.Name d)
  on_told step_name.RemoveDir on = mapped (steps.RemoveDir on) (name_in (codes "name") d) (name_fault field.Name d) (name_told field.Name d)
  on_told step_name.MakeLink on =
      both (name_in (codes "name") d) (λ name. with_some (text_in (codes "text") d) None (λ text. Some (steps.MakeLink on name text))) (name_fault field.Name d) (text_fault field.Text d)
      (name_told field.Name d) (λ name. done (steps.MakeLink on name) (text_in (codes "text") d) (text_fault field.Text d) (text_told field.Text d))
  on_told step_name.Rename on =
      ap is_some (or_assoc_more (name_fault field.Name d) (ref_fault labels k field.To d) (name_fault field.New d) (mode_fault d))
      ∙ both (name_in (codes "name") d) (λ name. with_some (ref_in labels k (codes "to") d) None (λ to. with_some (name_in (codes "new") d) None (λ new. renamed on name to new)))
      (name_fault field.Name d) (option_or (ref_fault labels k field.To d) (option_or (name_fault field.New d) (mode_fault d))) (name_told field.Name d)
      (λ name. both (ref_in labels k (codes "to") d) (λ to. with_some (name_in (codes "new") d) None (λ new. renamed on name to new))
      (ref_fault labels k field.To d) (option_or (name_fault field.New d) (mode_fault d)) (ref_told field.To)
      (λ to. both (name_in (codes "new") d) (λ new. renamed on name to new) (name_fault field.New d) (mode_fault d) (name_told field.New d)
      (λ new. done (λ mode. steps.Rename on name to new mode) (mode_in d) (mode_fault d) (mode_told d))))

  step_told : Tells (step_of labels k d) (step_fault labels k d)
  step_told =
      named (text_in (codes "step") d) step_name_of (λ name. with_some (ref_in labels k (codes "on") d) None (λ on. step_on name labels k on d))
      (λ name. option_or (ref_fault labels k field.On d) (step_fields_fault name labels k d)) (text_fault field.Step d) (Unknown field.Step) (text_told field.Step d)
      (λ name. both (ref_in labels k (codes "on") d) (λ on. step_on name labels k on d) (ref_fault labels k field.On d) (step_fields_fault name labels k d)
      (ref_told field.On) (on_told name))

  -- ---- calls

  word_by : (version : Version) (step release : Bool) (o : Option OpName)
      → Tells
      (if step then option_map planned.Single (step_of labels k d)
      else (if release then option_map planned.Release (released_in labels k d)
      else with_some o None (λ name. option_map planned.Call (request_of version labels k name d))))
      (if step then step_fault labels k d
      else (if release then release_fault labels k d
      else with_some o (Some (Unknown field.Op)) (λ name. request_fault version labels k name d)))
  word_by version true release o = mapped planned.Single (step_of labels k d) (step_fault labels k d) step_told
  word_by version false true o = mapped planned.Release (released_in labels k d) (release_fault labels k d) release_told
  word_by version false false o =
      chosen o (λ name. option_map planned.Call (request_of version labels k name d)) (λ name. request_fault version labels k name d) (Unknown field.Op)
      (λ name. mapped planned.Call (request_of version labels k name d) (request_fault version labels k name d) (request_told version labels k name d))

pub refusals_told : EachRefusalIsTold
refusals_told version labels k d =
    asked (text_in (codes "op") d)
    (λ word. if same_bytes word (codes "step") then option_map planned.Single (step_of labels k d)
    else (if same_bytes word (codes "release") then option_map planned.Release (released_in labels k d)
    else with_some (op_name_of word) None (λ name. option_map planned.Call (request_of version labels k name d))))
    (λ word. word_fault version labels k word d) (text_fault field.Op d) (text_told field.Op d)
    (λ word. word_by labels k d version (same_bytes word (codes "step")) (same_bytes word (codes "release")) (op_name_of word))
