-- The text of what a search found.
use Rattle.std.specs.Prelude.{ℕ, List, [], ◌∷◌, ◌++◌, Bool, not, length, min, nat_lt, sum_by, take, find, if◌then◌else◌, is_none, codes, decimal, Option, Some, None}
use Rattle.std.specs.List.{flat_map, list_all, list_any}
use Rattle.path_text.specs.Name.{same_bytes}
use Rattle.report_text.specs.Report.{numbered}
use Rattle.outcome_text.specs.declared.property.Property.{Property}
use Rattle.outcome_text.specs.declared.counts.TheConstants.{COUNT_MAX}
use Rattle.outcome_text.specs.declared.survey.Told.{Told}
use Rattle.outcome_text.specs.Counts.{count_words}
use Rattle.outcome_text.specs.Property.{fails, is_condition, rule_word}

-- ---- blocks: outcomes that look the same are one

-- what is printed of an outcome: so many bytes of its look, and the rest
abbrev pub block_of : Told → List ℕ
block_of told = take told.same told.look ++ told.rest

-- of the two that is the same
abbrev pub looks_like : Told → Told → Bool
looks_like told other = same_bytes other.look told.look

-- none of these looks like it
abbrev pub is_new : List Told → Told → Bool
is_new earlier told = not (list_any (looks_like told) earlier)

-- those that look like none before them, where `earlier` comes before all
abbrev pub new_among : List Told → List Told → List Told
new_among earlier [] = []
new_among earlier (told ∷ others) =
    (if is_new earlier told then told ∷ [] else []) ++ new_among (earlier ++ told ∷ []) others

abbrev pub new_ones : List Told → List Told
new_ones all = new_among [] all

-- how many lists come to what passes, up to the bound
abbrev pub lists_where : (Told → Bool) → List Told → ℕ
lists_where test all = min (sum_by (λ told. if test told then told.lists else 0) all) COUNT_MAX

abbrev pub lists_to : List Told → Told → ℕ
lists_to all told = lists_where (looks_like told) all

-- ` cuts C schedule S`
unfoldable pub witness_words : Told → List ℕ
witness_words told = (codes " cuts " ++ decimal told.cuts) ++ (codes " schedule " ++ (told.schedule ++ codes "\n"))

-- a block by its number, of so many lists: `outcome K schedules N cuts C schedule S`, and its lines
unfoldable pub block_words : ℕ → ℕ → Told → List ℕ
block_words k lists told =
    (codes "outcome " ++ decimal k)
    ++ ((codes " schedules " ++ count_words lists) ++ (witness_words told ++ block_of told))

abbrev pub block_text : List Told → ℕ → Told → List ℕ
block_text all k told = block_words k (lists_to all told) told

abbrev pub blocks_text : List Told → List ℕ
blocks_text all = numbered (block_text all) 0 (new_ones all)

-- each block behind its line; an outcome without a line has none
abbrev pub woven : List (Option (List ℕ)) → List Told → List ℕ
woven [] all = []
woven (head ∷ heads) [] = []
woven (None ∷ heads) (told ∷ all) = woven heads all
woven (Some head ∷ heads) (told ∷ all) = (head ++ block_of told) ++ woven heads all

-- ---- properties

abbrev pub breaks : Property → Told → Bool
breaks property told = fails property told.lines

abbrev pub lists_breaking : List Told → Property → ℕ
lists_breaking all property = lists_where (breaks property) all

-- it holds; or so many lists break it, of which this is the least
abbrev pub status_words : List Told → Property → Option Told → List ℕ
status_words all property None = codes "holds\n"
status_words all property (Some told) =
    (codes "fails " ++ count_words (lists_breaking all property)) ++ witness_words told

-- its line; a condition has its own
abbrev pub property_text : List Told → Property → List ℕ
property_text all property =
    if is_condition property then []
    else (rule_word property.rule
    ++ (property.text ++ (codes " = " ++ status_words all property (find (breaks property) all))))

abbrev pub properties_text : List Told → List Property → List ℕ
properties_text all properties = flat_map (property_text all) properties

-- no outcome breaks it; or, of a condition, there is some outcome
abbrev pub holds : List Told → Property → Bool
holds all property =
    if is_condition property then nat_lt 0 (length all) else is_none (find (breaks property) all)

abbrev pub all_hold : List Told → List Property → Bool
all_hold all properties = list_all (holds all) properties

-- ---- the whole

-- by how many worlds they were found, if by a search
abbrev pub states_words : Option ℕ → List ℕ
states_words None = []
states_words (Some states) = codes "\nstates " ++ decimal states

-- how many lists there are, by how many worlds, how many turns the longest has, how many outcomes look different
abbrev pub numbers_text : ℕ → Option ℕ → ℕ → ℕ → List ℕ
numbers_text lists states longest outcomes =
    (codes "schedules " ++ count_words lists)
    ++ (states_words states ++ ((codes "\nturns " ++ decimal longest)
    ++ ((codes "\noutcomes " ++ decimal outcomes) ++ codes "\n")))

-- these, then a block for each that looks new, then the lines of conditions, then each property
abbrev pub outcome_text : ℕ → Option ℕ → ℕ → List Told → List ℕ → List Property → List ℕ
outcome_text lists states longest all conditions properties =
    numbers_text lists states longest (length (new_ones all))
    ++ (blocks_text all ++ (conditions ++ properties_text all properties))
