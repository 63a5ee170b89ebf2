-- Conditions: only the schedules whose report has the line of each one count.
use Rattle.std.specs.Prelude.{ℕ, List, [], ◌++◌, ◌&&◌, Bool, not, filter, if◌then◌else◌, codes, Option}
use Rattle.std.specs.List.{flat_map, list_all, list_any}
use Rattle.outcome_text.specs.declared.property.Property.{Property}
use Rattle.outcome_text.specs.declared.survey.Told.{Told}
use Rattle.outcome_text.specs.Counts.{count_words}
use Rattle.outcome_text.specs.Property.{is_condition, rule_word}
use Rattle.outcome_text.specs.Survey.{breaks, lists_where, outcome_text, all_hold}

-- the outcome's report has the line, if that is a condition's
abbrev pub is_met : Told → Property → Bool
is_met told property = not (is_condition property && breaks property told)

-- its report has the line of each condition
abbrev pub counts : List Property → Told → Bool
counts properties told = list_all (is_met told) properties

-- the outcomes that count
abbrev pub counted : List Property → List Told → List Told
counted properties all = filter (counts properties) all

-- how many lists count: all of them where there is no condition
abbrev pub lists_counted : ℕ → List Property → List Told → ℕ
lists_counted lists properties all =
    if list_any is_condition properties then lists_where (counts properties) all else lists

-- how many lists come to a report with the line
abbrev pub lists_having : List Told → Property → ℕ
lists_having all property = lists_where (λ told. not (breaks property told)) all

-- of a condition `when TEXT = N of M`: N of all M lists come to a report with its line
unfoldable pub condition_text : ℕ → List Told → Property → List ℕ
condition_text lists all property =
    if is_condition property
    then (rule_word property.rule
    ++ (property.text ++ (codes " = " ++ (count_words (lists_having all property)
    ++ (codes " of " ++ (count_words lists ++ codes "\n"))))))
    else []

abbrev pub conditions_text : ℕ → List Told → List Property → List ℕ
conditions_text lists all properties = flat_map (condition_text lists all) properties

-- ---- the whole

-- The text of the outcomes that count; how many of all lists come to the line of each condition stands before the
-- properties.
abbrev pub told_text : ℕ → Option ℕ → ℕ → List Told → List Property → List ℕ
told_text lists states longest all properties =
    outcome_text (lists_counted lists properties all) states longest (counted properties all)
    (conditions_text lists all properties) properties

-- no outcome that counts breaks a property, and where there is a condition some outcome counts
abbrev pub told_holds : List Told → List Property → Bool
told_holds all properties = all_hold (counted properties all) properties
