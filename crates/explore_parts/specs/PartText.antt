-- A part as a line of JSON.
use Rattle.std.specs.Prelude.{ℕ, List, ◌++◌, Bool, if◌then◌else◌, codes, decimal, Option, Some, None}
use Rattle.report_text.specs.Report.{numbered}
use Rattle.outcome_text.specs.declared.part.Part.{Part}
use Rattle.outcome_text.specs.declared.property.Property.{Property}
use Rattle.outcome_text.specs.declared.survey.Told.{Told}
use Rattle.explore_parts.specs.declared.asked.Asked.{Asked}
use Rattle.report_text.specs.Json.{text_words, comma_words}
use Rattle.explore_parts.specs.Lists.{numbers_words, lists_words}
use Rattle.explore_parts.specs.Seal.{sealed}
use Rattle.outcome_text.specs.Property.{rule_word}
use Rattle.outcome_text.specs.Survey.{block_of}

abbrev pub cuts_words : Option ℕ → List ℕ
cuts_words None = codes "null"
cuts_words (Some cuts) = decimal cuts

abbrev pub flag_words : Bool → List ℕ
flag_words flag = if flag then codes "true" else codes "false"

abbrev pub property_words : ℕ → Property → List ℕ
property_words at property = comma_words at ++ text_words (rule_word property.rule ++ property.text)

abbrev pub properties_words : List Property → List ℕ
properties_words properties = codes "[" ++ (numbered property_words 0 properties ++ codes "]")

-- ---- what is asked of all schedules, whatever turns they begin with

-- the script with that digest, and who is named
unfoldable pub subject_words : List ℕ → Asked → List ℕ
subject_words script asked =
    codes "{\"script\":" ++ (text_words script ++ (codes ",\"actors\":" ++ numbers_words asked.named.items))

unfoldable pub scope_words : Asked → List ℕ
scope_words asked =
    codes ",\"cuts\":" ++ (cuts_words asked.limits.scope.cuts
    ++ (codes ",\"outside\":" ++ flag_words asked.outside))

unfoldable pub wanted_words : Asked → List ℕ
wanted_words asked = codes ",\"properties\":" ++ (properties_words asked.properties.items ++ codes "}")

unfoldable pub question_words : List ℕ → Asked → List ℕ
question_words script asked = subject_words script asked ++ (scope_words asked ++ wanted_words asked)

-- ---- an outcome, by its place

unfoldable pub count_words : Told → List ℕ
count_words told =
    (codes "{\"schedules\":" ++ decimal told.lists)
    ++ ((codes ",\"cuts\":" ++ decimal told.cuts) ++ (codes ",\"changes\":" ++ decimal told.changes))

unfoldable pub texts_words : Told → List ℕ
texts_words told =
    codes ",\"block\":" ++ (text_words (block_of told)
    ++ (codes ",\"look\":" ++ (text_words told.look ++ (codes ",\"lines\":" ++ text_words told.lines))))

unfoldable pub told_words : ℕ → Told → List ℕ
told_words at told =
    comma_words at ++ (count_words told
    ++ (codes ",\"least\":" ++ (numbers_words told.turns.items ++ (texts_words told ++ codes "}"))))

abbrev pub outcomes_words : List Told → List ℕ
outcomes_words all = codes "[" ++ (numbered told_words 0 all ++ codes "]")

-- ---- a part: an object of JSON, but for its end

unfoldable pub turns_words : Part → List ℕ
turns_words part =
    codes ",\"begin\":" ++ (numbers_words part.begin.items ++ (codes ",\"might\":" ++ lists_words part.might.items))

unfoldable pub found_words : Part → List ℕ
found_words part =
    (codes ",\"schedules\":" ++ decimal part.lists)
    ++ ((codes ",\"turns\":" ++ decimal part.turns) ++ (codes ",\"outcomes\":" ++ outcomes_words part.all.items))

unfoldable pub part_words : List ℕ → Asked → Part → List ℕ
part_words script asked part =
    codes "{\"part of\":" ++ (question_words script asked ++ (turns_words part ++ found_words part))

-- its line, which ends with its digest
abbrev pub part_line : List ℕ → Asked → Part → List ℕ
part_line script asked part = sealed (part_words script asked part) ++ codes "\n"
