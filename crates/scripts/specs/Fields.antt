-- What a key of an object has, over the data that a script is.
use Rattle.std.specs.Prelude.{⊤, ◌≡◌, ℕ, List, Bool, false, if◌then◌else◌, Option, Some, None, option_and_then, Result, Ok, Err, codes}
use Rattle.serde_json.specs.Data.{Data, Items}
use Rattle.serde_json.specs.Find.{get, as_str, as_bool, as_array}
use Rattle.path_text.specs.Name.{is_name}
use Rattle.tree_model.specs.Entries.{with_some}
use Rattle.tree_model.specs.declared.step.Mode.{Mode}
use Rattle.tree_model.specs.declared.step.Mode.TheVariants.{Plain}
use Rattle.scripts.specs.declared.fields.FieldFault.{FieldFault}
use Rattle.scripts.specs.declared.fields.FieldFault.TheVariants.{Shape, NoMemory}
use Rattle.scripts.specs.Words.{mode_of}

abbrev pub text_in : List ℕ → Data → Option (List ℕ)
text_in key d = option_and_then as_str (get key d)

abbrev pub list_in : List ℕ → Data → Option Items
list_in key d = option_and_then as_array (get key d)

-- the text under a key, if it is a valid name
abbrev pub name_in : List ℕ → Data → Option (List ℕ)
name_in key d = with_some (text_in key d) None (λ text. if is_name text then Some text else None)

-- what stands under a key that may be missing, and what stands for it there
abbrev pub perhaps : {A : Type 0} → Option Data → A → (Data → Option A) → Option A
perhaps None missing read = Some missing
perhaps (Some d) missing read = read d

abbrev pub mode_in : Data → Option Mode
mode_in d = perhaps (get (codes "mode") d) Plain (λ mode. option_and_then mode_of (as_str mode))

abbrev pub flag_in : List ℕ → Data → Option Bool
flag_in key d = perhaps (get key d) false as_bool

-- what is said was read; or nothing is said, or there was no memory
abbrev pub IsReadAs : {A : Type 0} → Option A → Result A FieldFault → Type 0
IsReadAs said (Ok x) = said ≡ Some x
IsReadAs said (Err Shape) = said ≡ None
IsReadAs said (Err NoMemory) = ⊤
