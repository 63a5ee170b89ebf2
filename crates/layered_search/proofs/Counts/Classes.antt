-- The classes are put together, one after another.
use Rattle.std.specs.Prelude.{◌≡◌, ◌≤◌, ◌<◌, ◌⊎◌, ℕ, suc, List, [], ◌∷◌, ◌++◌, length, drop, Some, slice_get, refl}
use Rattle.std.proofs.Common.{◌∙◌, sym, ap, subst, ⊎_elim, arith}
use Rattle.std.proofs.lemmas.Option.{same_Some, slice_get_within}
use Rattle.std.specs.Global.{Vec}
use Rattle.schedule_graph.specs.declared.count.Count.{Count}
use Rattle.schedule_graph.specs.Words.{Rank}
use Rattle.layered_search.specs.declared.found.Class.{Class}
use Rattle.layered_search.specs.declared.found.Found.{Found}
use Rattle.layered_search.specs.Concluded.{AreShort}
use Rattle.layered_search.specs.Found.{IsClassOf, AreClassesOf}
use Rattle.layered_search.proofs.Places.{get_push, length_push, front_of, none_left}

-- the class of an outcome that was found, with the least list of its count
abbrev pub class_by : {Outcome : Type 0} → Found Outcome → Count → Rank → Vec ℕ → Class Outcome
class_by one count least turns =
    record { outcome = one.outcome; least = turns; cuts = least.cuts; changes = least.changes; lists = count.words }

-- These are the first classes; what was found and the counts that are left are of the others.
pub record AreClassesTo {Outcome : Type 0} (found left : List (Found Outcome)) (counts others : List Count)
    (classes : List (Class Outcome)) : Type 0 where
  pub fits : length classes ≤ length found
  pub left_are : left ≡ drop (length classes) found
  pub others_are : others ≡ drop (length classes) counts
  pub each : (m : ℕ) (one : Found Outcome) (count : Count) (class : Class Outcome) → slice_get found m ≡ Some one
      → slice_get counts m ≡ Some count → slice_get classes m ≡ Some class → IsClassOf one count class

module _ {Outcome : Type 0} (found : List (Found Outcome)) (counts : List Count) where
  module _ (left : List (Found Outcome)) (others : List Count) (classes : List (Class Outcome))
      (so : AreClassesTo found left counts others classes) where
    pub next_short : AreShort counts → (count : Count) (others' : List Count) → others ≡ count ∷ others'
        → (least : Rank) × (count.least ≡ Some least)
    next_short short count others' f =
        short (length classes) count (front_of (length classes) counts count others' (sym f ∙ so.others_are)).0

    pub classes_more : (one : Found Outcome) (left' : List (Found Outcome)) (count : Count) (others' : List Count)
        (least own : Rank) (turns : Vec ℕ) (new : List (Class Outcome)) → left ≡ one ∷ left' → others ≡ count ∷ others'
        → count.least ≡ Some least → own ≡ least → turns.items ≡ own.turns
        → new ≡ classes ++ class_by one count own turns ∷ [] → AreClassesTo found left' counts others' new
    classes_more one left' count others' least own turns new e f counted same is_word pushed =
        subst (AreClassesTo found left' counts others') (sym pushed) (record {
          fits = omega (arith, more, within);
          left_are = here.1 ∙ ap (λ n. drop n found) (sym more);
          others_are = there.1 ∙ ap (λ n. drop n counts) (sym more);
          each = each;
        })
      where
        class : Class Outcome
        class = class_by one count own turns

        is : IsClassOf one count class
        is = record {
          outcome = refl;
          counted = counted ∙ ap (λ (r : Rank). Some r) (sym same
              ∙ ap (λ (is : List ℕ). record { cuts = own.cuts; changes = own.changes; turns = is }) (sym is_word));
          lists = refl;
        }

        here : (slice_get found (length classes) ≡ Some one) × (left' ≡ drop (suc (length classes)) found)
        here = front_of (length classes) found one left' (sym e ∙ so.left_are)

        there : (slice_get counts (length classes) ≡ Some count) × (others' ≡ drop (suc (length classes)) counts)
        there = front_of (length classes) counts count others' (sym f ∙ so.others_are)

        within : length classes < length found
        within = slice_get_within found (length classes) one here.0

        more : length (classes ++ class ∷ []) ≡ suc (length classes)
        more = length_push classes class

        each : (m : ℕ) (a : Found Outcome) (b : Count) (c : Class Outcome) → slice_get found m ≡ Some a
            → slice_get counts m ≡ Some b → slice_get (classes ++ class ∷ []) m ≡ Some c → IsClassOf a b c
        each m a b c of_found of_counts own = ⊎_elim
            (λ old. so.each m a b c of_found of_counts old)
            (λ last.
            let same_found : one ≡ a = same_Some one a (sym here.0 ∙ (ap (slice_get found) (sym last.0) ∙ of_found)) in
            let same_count : count ≡ b =
            same_Some count b (sym there.0 ∙ (ap (slice_get counts) (sym last.0) ∙ of_counts)) in
            subst (λ (x : Found Outcome). IsClassOf x b c) same_found
            (subst (λ (x : Count). IsClassOf one x c) same_count (subst (λ (x : Class Outcome). IsClassOf one count x) (sym last.1) is)))
            (get_push classes class m c own)

    pub classes_all : length counts ≡ length found → (length left ≡ 0) ⊎ (length others ≡ 0)
        → AreClassesOf found counts classes
    classes_all many none =
        let past : length found ≤ length classes = ⊎_elim
        (λ e. none_left (length classes) found (ap length (sym so.left_are) ∙ e))
        (λ e. subst (λ n. n ≤ length classes) many
        (none_left (length classes) counts (ap length (sym so.others_are) ∙ e)))
        none in
        record { many = omega (arith, past, so.fits); each = so.each }
