-- Properties of reports: a line that no report may have, or that every report must have; and conditions, a line that a
-- report must have so that it counts.
use Rattle.std.specs.Prelude.{ℕ, ◌-◌, ◌==◌, ◌||◌, ◌&&◌, not, List, Bool, true, false, length, slice_get, nat_eq, nat_le, codes, Option, Some, None}
use Rattle.std.specs.List.{list_any, list_all, slice_split, starts_with}
use Rattle.path_text.specs.Name.{same_bytes}
use Rattle.event_log.specs.Words.{BLANK}
use Rattle.outcome_text.specs.declared.property.Property.{Property}
use Rattle.outcome_text.specs.declared.property.Rule.{Rule}
use Rattle.outcome_text.specs.declared.property.Rule.TheVariants.{When, Never, Always}

abbrev pub NEWLINE : ℕ
NEWLINE = 10

abbrev pub is_blank : Option ℕ → Bool
is_blank None = false
is_blank (Some b) = b == BLANK

-- a line is the text, or begins with the text and a blank
abbrev pub tells : List ℕ → List ℕ → Bool
tells text line = same_bytes line text || (starts_with nat_eq line text && is_blank (slice_get line (length text)))

-- one of these lines does
abbrev pub has : List ℕ → List ℕ → Bool
has text lines = list_any (tells text) (slice_split (λ b. b == NEWLINE) lines)

-- it says which reports count
abbrev pub is_when : Rule → Bool
is_when When = true
is_when Never = false
is_when Always = false

abbrev pub is_condition : Property → Bool
is_condition property = is_when property.rule

-- a report has a line that none may have, or lacks one that each must have
abbrev pub fails_by : Rule → Bool → Bool
fails_by When found = not found
fails_by Never found = found
fails_by Always found = not found

abbrev pub fails : Property → List ℕ → Bool
fails property lines = fails_by property.rule (has property.text lines)

-- ---- what a text must be to be a property's

-- a line of a reply, of an entry or of a count of handles is named by its first word; and of a count of steps
-- outside, where they are counted
abbrev pub names_a_line : Bool → List ℕ → Bool
names_a_line outside text =
    tells (codes "reply") text || tells (codes "row") text || tells (codes "held") text
    || (outside && tells (codes "outside") text)

-- its last byte is a blank, so that its last word is none
abbrev pub ends_in_blank : List ℕ → Bool
ends_in_blank text = is_blank (slice_get text (length text - 1))

-- a line has such bytes alone
abbrev pub is_printed : ℕ → Bool
is_printed b = nat_le 0x20 b && nat_le b 0x7e

abbrev pub is_property : Bool → List ℕ → Bool
is_property outside text =
    names_a_line outside text && not (ends_in_blank text) && list_all is_printed text

abbrev pub rule_word : Rule → List ℕ
rule_word When = codes "when "
rule_word Never = codes "never "
rule_word Always = codes "always "
