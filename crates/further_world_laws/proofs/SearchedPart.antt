-- What a search of the lists that begin with some turns tells is the answer for that part.
use Rattle.std.specs.Prelude.{ℕ, List, Bool, Option, refl}
use Rattle.std.proofs.Common.{◌∙◌, inr, sym, ap, subst}
use Rattle.race_core.specs.Worlds.{WorldView}
use Rattle.local_states.specs.Worlds.{after_turns}
use Rattle.explore.specs.Explored.{Scope, cuts, IsWithin, IsAsked, TellAlike, AgreeIn, ClassView, HasClass}
use Rattle.local_states.specs.Outside.{outside_of}
use Rattle.explore.specs.Promise.{IsMergedClass, IsMerged}
use Rattle.further_world_laws.specs.Parts.{Begins, IsAskedFrom, IsPartClass, part_with, IsPart, IsWholeOf, SearchesTellParts}
use Rattle.schedule_graph.proofs.Summing.{so_many_as}

module _ (w : WorldView) (part whole : Scope) (of : IsWholeOf part whole) where
  abbrev begin : List ℕ
  begin = part.begin

  asked_to : (is : List ℕ) → IsAsked w part is → IsAskedFrom w whole begin is
  asked_to is asked = (
    record {
      whole = asked.whole;
      few_cuts = subst (λ (most : Option ℕ). IsWithin most (cuts w is)) (sym of.cuts) asked.few_cuts;
      begins = subst (λ (js : List ℕ). Begins js is) (sym of.begin) (is, refl);
    },
    asked.begins,
  )

  asked_from : (is : List ℕ) → IsAskedFrom w whole begin is → IsAsked w part is
  asked_from is from = record {
    whole = from.0.whole;
    few_cuts = subst (λ (most : Option ℕ). IsWithin most (cuts w is)) of.cuts from.0.few_cuts;
    begins = from.1;
  }

  agree_to : (is js : List ℕ) → AgreeIn w part is js → AgreeIn w whole is js
  agree_to is js agree = subst (λ (told : Bool). TellAlike told (after_turns w is) (after_turns w js)) (sym of.outside) agree

  agree_from : (is js : List ℕ) → AgreeIn w whole is js → AgreeIn w part is js
  agree_from is js agree = subst (λ (told : Bool). TellAlike told (after_turns w is) (after_turns w js)) of.outside agree

  class_to : (classes : List ClassView) (is : List ℕ) → HasClass w part classes is → HasClass w whole classes is
  class_to classes is has = record { at = has.at; class = has.class; there = has.there; agrees = agree_to is has.class.least.turns has.agrees }

  part_class : (c : ClassView) → IsMergedClass w part c → IsPartClass w whole begin c
  part_class c is = record {
    ending = record {
      asked = (asked_to c.least.turns is.ending.asked).0;
      ranked = is.ending.ranked;
      report = is.ending.report;
      outside = is.ending.outside ∙ ap (λ (told : Bool). outside_of told (after_turns w c.least.turns)) (sym of.outside);
    };
    begins = (asked_to c.least.turns is.ending.asked).1;
    least = λ js from agrees. is.least js (asked_from js from) (agree_from js c.least.turns agrees);
    lists = so_many_as c.lists
        (λ js h. (asked_to js h.0, agree_to js c.least.turns h.1))
        (λ js h. (asked_from js h.0, agree_from js c.least.turns h.1)) is.lists;
  }

  searched_part : (classes : List ClassView) (lists turns : ℕ) → IsMerged w part classes lists turns → IsPart w whole (part_with begin classes lists turns)
  searched_part classes lists turns all = record {
    counted = so_many_as lists (λ js asked. asked_to js asked) (λ js from. asked_from js from) all.counted;
    longest = record {
      bounded = λ js from. all.longest.bounded js (asked_from js from);
      reached = let one = all.longest.reached in inr (one.0, (asked_to one.0 one.1.0, one.1.1));
    };
    told = λ js from. class_to classes js (all.told js (asked_from js from));
    apart = λ k l c d here there agree. all.apart k l c d here there (agree_from c.least.turns d.least.turns agree);
    each = λ k c there. part_class c (all.each k c there);
  }

pub searches_tell_parts : SearchesTellParts
searches_tell_parts w part whole classes lists turns of all = searched_part w part whole of classes lists turns all
