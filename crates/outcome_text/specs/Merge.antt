-- The outcomes of all schedules, made of those of parts of them.
use Rattle.std.specs.Prelude.{⊤, ◌≡◌, ◌||◌, ◌&&◌, not, ℕ, Bool, true, false, List, [], ◌∷◌, ◌++◌, min, max, sum_by, take, nat_eq, nat_lt, None}
use Rattle.std.specs.Global.{Vec}
use Rattle.std.specs.List.{flat_map, list_any, starts_with}
use Rattle.outcome_text.specs.declared.counts.TheConstants.{COUNT_MAX}
use Rattle.outcome_text.specs.declared.merging.MergeFault.{MergeFault}
use Rattle.outcome_text.specs.declared.merging.MergeFault.TheVariants.{Overlap, Missing, NoSchedule, NoMemory}
use Rattle.outcome_text.specs.declared.part.Part.{Part}
use Rattle.outcome_text.specs.declared.property.Property.{Property}
use Rattle.outcome_text.specs.declared.survey.Told.{Told}
use Rattle.outcome_text.specs.Order.{in_order}
use Rattle.outcome_text.specs.Conditions.{told_text, told_holds}
use Rattle.outcome_text.specs.Tellable.{any_numbered}

-- ---- parts that are all

-- one of the two begins with the other
abbrev pub go_along : List ℕ → List ℕ → Bool
go_along turns others = starts_with nat_eq turns others || starts_with nat_eq others turns

abbrev pub goes_along : Part → Part → Bool
goes_along part other = go_along part.begin.items other.begin.items

-- of no two parts one begins with the other, or as it does: so no part is there twice
abbrev pub are_apart : List Part → Bool
are_apart [] = true
are_apart (part ∷ parts) = not (list_any (goes_along part) parts) && are_apart parts

abbrev pub has_lists : Part → Bool
has_lists part = nat_lt 0 part.lists

-- a part that has lists begins with these turns, or they begin with its own
abbrev pub is_there : List Part → List ℕ → Bool
is_there parts turns = list_any (λ part. has_lists part && go_along part.begin.items turns) parts

-- none does with these turns and then that actor's
abbrev pub lacks_turn : List Part → List ℕ → ℕ → Bool
lacks_turn parts turns actor = not (is_there parts (turns ++ actor ∷ []))

-- none does with a turn at that place of a beginning by one of the actors who might have had it
abbrev pub lacks : List Part → Part → ℕ → Vec ℕ → Bool
lacks parts part at might = list_any (lacks_turn parts (take at part.begin.items)) might.items

abbrev pub has_gap : List Part → Part → Bool
has_gap parts part = any_numbered (lacks parts part) 0 part.might.items

-- Some part has lists, and for each turn of a beginning there is a part by each actor who might have had it.
pub record AreAll (parts : List Part) : Type 0 where
  pub gaps : list_any (has_gap parts) parts ≡ false
  pub some : list_any has_lists parts ≡ true

-- ---- what they make

abbrev pub all_lists : List Part → ℕ
all_lists parts = min (sum_by (λ part. part.lists) parts) COUNT_MAX

-- the most turns of any, and 0 of none
abbrev pub longest : List Part → ℕ
longest [] = 0
longest (part ∷ parts) = max part.turns (longest parts)

-- the outcomes of all parts, of each part once
abbrev pub all_of : List Part → List Told
all_of parts = flat_map (λ part. part.all.items) parts

-- the text of all outcomes of all parts in the order of their least lists, and whether no property fails
pub record IsJoined (parts : List Part) (properties : List Property) (holds : Bool) (text : List ℕ) : Type 0 where
  pub is : text ≡ told_text (all_lists parts) None (longest parts) (in_order (all_of parts)) properties
  pub judged : holds ≡ told_holds (in_order (all_of parts)) properties

-- that of parts which are apart, and are all
pub record IsWhole (parts : List Part) (properties : List Property) (holds : Bool) (text : List ℕ) : Type 0 where
  pub apart : are_apart parts ≡ true
  pub are_all : AreAll parts
  pub joined : IsJoined parts properties holds text

abbrev pub WhyNoWhole : List Part → MergeFault → Type 0
WhyNoWhole parts (Overlap one other) = are_apart parts ≡ false
WhyNoWhole parts (Missing place turn actor) = list_any (has_gap parts) parts ≡ true
WhyNoWhole parts NoSchedule = list_any has_lists parts ≡ false
WhyNoWhole parts NoMemory = ⊤
WhyNoWhole parts other = ⊥
