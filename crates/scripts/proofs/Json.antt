-- Whether bytes are a JSON text, from what reading them gave.
use Rattle.std.proofs.Common.{◌≡◌, ℕ, Bool, true, false, List, refl, ap, ◌∙◌}
use Rattle.std.specs.Prelude.{Option, Some, None, Result, Ok, Err, if◌then◌else◌}
use Rattle.std.specs.Str.{IsUtf8, is_utf8}
use Rattle.std.proofs.lemmas.Str.{is_utf8-from_IsUtf8, IsUtf8-from_is_utf8}
use Rattle.serde_json.specs.Data.{Data}
use Rattle.serde_json.specs.Read.{read}
use Rattle.tree_model.specs.Entries.{with_some}
use Rattle.scripts.specs.declared.fault.ScriptFault.{ScriptFault}
use Rattle.scripts.specs.declared.fault.ScriptFault.TheVariants.{NotJson, TooDeep}
use Rattle.scripts.specs.Fault.{SOMEWHERE}
use Rattle.scripts.specs.Input.{json_of, data_of}
use Rattle.scripts.specs.Nesting.{is_too_deep}

json_where : (bs : List ℕ) (d : Data) → IsUtf8 bs → read bs ≡ Some d → json_of bs ≡ Some d
json_where bs d utf8 is = ap (λ (b : Bool). if b then read bs else None) (is_utf8-from_IsUtf8 bs utf8) ∙ is

tested : (bs : List ℕ) (b : Bool) → is_utf8 bs ≡ b → (IsUtf8 bs → read bs ≡ None) → (if b then read bs else None) ≡ None
tested bs true e refused = refused (IsUtf8-from_is_utf8 bs e)
tested bs false e refused = refl

no_json_where : (bs : List ℕ) → (IsUtf8 bs → read bs ≡ None) → json_of bs ≡ None
no_json_where bs refused = tested bs (is_utf8 bs) refl refused

abbrev found : Bool → Option Data → Result Data ScriptFault
found deep o = if deep then Err TooDeep else with_some o (Err (NotJson SOMEWHERE)) (λ d. Ok d)

pub data_where : (bs : List ℕ) (d : Data) → is_too_deep bs ≡ false → IsUtf8 bs → read bs ≡ Some d → data_of bs ≡ Ok d
data_where bs d shallow utf8 is = ap (λ deep. found deep (json_of bs)) shallow ∙ ap (found false) (json_where bs d utf8 is)

pub no_data_where : (bs : List ℕ) → is_too_deep bs ≡ false → (IsUtf8 bs → read bs ≡ None)
    → data_of bs ≡ Err (NotJson SOMEWHERE)
no_data_where bs shallow refused =
    ap (λ deep. found deep (json_of bs)) shallow ∙ ap (found false) (no_json_where bs refused)
