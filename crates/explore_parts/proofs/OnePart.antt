-- A value says one part.
use Rattle.std.proofs.Common.{◌≡◌, ◌≤◌, ℕ, suc, length, true, false, List, [], ◌∷◌, ◌++◌, drop, get_or, codes, Option, Some, None, refl, sym, ap, ◌∙◌, arith}
use Rattle.std.proofs.lemmas.Bool.{true≢false}
use Rattle.std.specs.Prelude.{IsSomeAnd, unwrap_or, option_and_then}
use Rattle.std.specs.Global.{Vec}
use Rattle.std.specs.List.{AllZip}
use Rattle.std.specs.Str.{chars}
use Rattle.serde_json.specs.Data.{Data, null, boolean, number, string, array, object, Items, no_items, item}
use Rattle.serde_json.specs.Find.{get, as_str, as_number, as_u64}
use Rattle.outcome_text.specs.declared.survey.Told.{Told}
use Rattle.outcome_text.specs.Schedule.{schedule_words}
use Rattle.outcome_text.specs.declared.property.Property.{Property}
use Rattle.outcome_text.specs.declared.property.Rule.{Rule}
use Rattle.outcome_text.specs.declared.property.Rule.TheVariants.{When, Never, Always}
use Rattle.outcome_text.specs.Property.{is_property, rule_word}
use Rattle.outcome_text.specs.Survey.{block_of}
use Rattle.explore_parts.specs.Options.{IsUnsaid}
use Rattle.explore_parts.specs.PartRead.{SaysNumber, SaysActor, SaysText, ItemsSay, SaysList, SaysActors, Under, SaysTold, SaysPart, SaysProperty, SaysProperties}
use Rattle.explore_parts.specs.ReadBack.{AreSameTold, ValuesSayOnePart}

module _ {A : Type 0} (Says : Data → A → Type 0) (R : A → A → Type 0) (one : (e : Data) (x y : A) → Says e x → Says e y → R x y) where
  items_one : (ds : Items) (xs ys : List A) → ItemsSay Says ds xs → ItemsSay Says ds ys → AllZip R xs ys
  items_one no_items [] [] h k = tt
  items_one no_items [] (y ∷ ys) h k = absurd k
  items_one no_items (x ∷ xs) ys h k = absurd h
  items_one (item d ds) [] ys h k = absurd h
  items_one (item d ds) (x ∷ xs) [] h k = absurd k
  items_one (item d ds) (x ∷ xs) (y ∷ ys) h k = (one d x y h.0 k.0, items_one ds xs ys h.1 k.1)

  pub list_one : (d : Data) (xs ys : List A) → SaysList Says d xs → SaysList Says d ys → AllZip R xs ys
  list_one null xs ys h k = absurd h
  list_one (boolean b) xs ys h k = absurd h
  list_one (number n) xs ys h k = absurd h
  list_one (string s) xs ys h k = absurd h
  list_one (array ds) xs ys h k = items_one ds xs ys h k
  list_one (object ms) xs ys h k = absurd h

  under_one : (o : Option Data) (x y : A) → IsSomeAnd o (λ e. Says e x) → IsSomeAnd o (λ e. Says e y) → R x y
  under_one None x y h k = absurd h
  under_one (Some e) x y h k = one e x y h k

pub zip_equal : {A : Type 0} (xs ys : List A) → AllZip (λ x y. x ≡ y) xs ys → xs ≡ ys
zip_equal [] [] h = refl
zip_equal [] (y ∷ ys) h = absurd h
zip_equal (x ∷ xs) [] h = absurd h
zip_equal (x ∷ xs) (y ∷ ys) h = λ i. h.0 i ∷ zip_equal xs ys h.1 i

abbrev the_number : Data → ℕ
the_number d = unwrap_or (option_and_then as_u64 (as_number d)) 0

number_one : (d : Data) (n m : ℕ) → SaysNumber d n → SaysNumber d m → n ≡ m
number_one d n m h k = ap the_number (sym h ∙ k)

actor_one : (d : Data) (n m : ℕ) → SaysActor d n → SaysActor d m → n ≡ m
actor_one d n m h k = number_one d n m h.0 k.0

actors_one : (d : Data) (v w : Vec ℕ) → SaysActors d v → SaysActors d w → v.items ≡ w.items
actors_one d v w h k = zip_equal v.items w.items (list_one SaysActor (λ x y. x ≡ y) actor_one d v.items w.items h k)

said_one : (o : Option (List ℕ)) (s t : List ℕ) → IsSomeAnd o (λ said. chars said ≡ s) → IsSomeAnd o (λ said. chars said ≡ t) → s ≡ t
said_one None s t h k = absurd h
said_one (Some said) s t h k = sym h ∙ k

text_one : (d : Data) (s t : List ℕ) → SaysText d s → SaysText d t → s ≡ t
text_one d s t h k = said_one (as_str d) s t h.0 k.0

abbrev Same : ℕ → ℕ → Type 0
Same n m = n ≡ m

abbrev SameText : List ℕ → List ℕ → Type 0
SameText s t = s ≡ t

abbrev SameActors : Vec ℕ → Vec ℕ → Type 0
SameActors v w = v.items ≡ w.items

told_one : (d : Data) (told other : Told) → SaysTold d told → SaysTold d other → AreSameTold told other
told_one d told other h k =
    let turns = under_one SaysActors SameActors actors_one _ told.turns other.turns h.least k.least in
    record {
      lists = under_one SaysNumber Same number_one _ told.lists other.lists h.lists k.lists;
      cuts = under_one SaysNumber Same number_one _ told.cuts other.cuts h.cuts k.cuts;
      changes = under_one SaysNumber Same number_one _ told.changes other.changes h.changes k.changes;
      turns = turns;
      schedule = h.scheduled ∙ ap schedule_words turns ∙ sym k.scheduled;
      block = under_one SaysText SameText text_one _ (block_of told) (block_of other) h.block k.block;
      look = under_one SaysText SameText text_one _ told.look other.look h.look k.look;
      lines = under_one SaysText SameText text_one _ told.lines other.lines h.lines k.lines;
    }

pub values_say_one_part : ValuesSayOnePart
values_say_one_part d part other h k = record {
  begin = under_one SaysActors SameActors actors_one _ part.begin other.begin h.begin k.begin;
  might = under_one (SaysList SaysActors) (AllZip SameActors) (list_one SaysActors SameActors actors_one) _ part.might.items other.might.items h.might k.might;
  lists = under_one SaysNumber Same number_one _ part.lists other.lists h.lists k.lists;
  turns = under_one SaysNumber Same number_one _ part.turns other.turns h.turns k.turns;
  all = under_one (SaysList SaysTold) (AllZip AreSameTold) (list_one SaysTold AreSameTold told_one) _ part.all.items other.all.items h.all k.all;
}

-- ---- properties

byte_one : (xs ys : List ℕ) → xs ≡ ys → get_or xs 0 0 ≡ get_or ys 0 0
byte_one xs ys e = ap (λ (bs : List ℕ). get_or bs 0 0) e

words_one : (rule other : Rule) (text more : List ℕ) → rule_word rule ++ text ≡ rule_word other ++ more → (rule ≡ other) × (text ≡ more)
words_one When When text more e = (refl, ap (λ (bs : List ℕ). drop 5 bs) e)
words_one When Never text more e = absurd (omega (arith, byte_one (rule_word When ++ text) (rule_word Never ++ more) e))
words_one When Always text more e = absurd (omega (arith, byte_one (rule_word When ++ text) (rule_word Always ++ more) e))
words_one Never When text more e = absurd (omega (arith, byte_one (rule_word Never ++ text) (rule_word When ++ more) e))
words_one Never Never text more e = (refl, ap (λ (bs : List ℕ). drop 6 bs) e)
words_one Never Always text more e = absurd (omega (arith, byte_one (rule_word Never ++ text) (rule_word Always ++ more) e))
words_one Always When text more e = absurd (omega (arith, byte_one (rule_word Always ++ text) (rule_word When ++ more) e))
words_one Always Never text more e = absurd (omega (arith, byte_one (rule_word Always ++ text) (rule_word Never ++ more) e))
words_one Always Always text more e = (refl, ap (λ (bs : List ℕ). drop 7 bs) e)

abbrev the_text : Option (List ℕ) → List ℕ
the_text said = unwrap_or said []

property_one : (d : Data) (property other : Property) → SaysProperty d property → SaysProperty d other → property ≡ other
property_one d property other h k =
    let same = words_one property.rule other.rule property.text other.text (ap the_text (sym h.0 ∙ k.0)) in
    λ i. record { rule = same.0 i; text = same.1 i }

abbrev SameProperty : Property → Property → Type 0
SameProperty property other = property ≡ other

abbrev SameProperties : List Property → List Property → Type 0
SameProperties all others = all ≡ others

listed_one : (d : Data) (all others : List Property) → SaysList SaysProperty d all → SaysList SaysProperty d others → all ≡ others
listed_one d all others h k = zip_equal all others (list_one SaysProperty SameProperty property_one d all others h k)

asked_one : (d : Data) (all others : List Property) → Under (codes "properties") (SaysList SaysProperty) d all → Under (codes "properties") (SaysList SaysProperty) d others → all ≡ others
asked_one d all others h k = under_one (SaysList SaysProperty) SameProperties listed_one (get (codes "properties") d) all others h k

-- a value says the properties of one question
pub values_say_one_question : (d : Data) (all others : List Property) → SaysProperties d all → SaysProperties d others → all ≡ others
values_say_one_question d all others h k = under_one (Under (codes "properties") (SaysList SaysProperty)) SameProperties asked_one (get (codes "part of") d) all others h k

-- a text whose rest is no property's is none
pub refused_property : (d : Data) (said : List ℕ) (rule : Rule) (text : List ℕ) → Some said ≡ as_str d → said ≡ rule_word rule ++ text → is_property true text ≡ false
    → IsUnsaid (SaysProperty d)
refused_property d said rule text is words none property h =
    let same = words_one rule property.rule text property.text (sym words ∙ ap the_text (is ∙ h.0)) in
    true≢false (sym h.1 ∙ (ap (is_property true) (sym same.1) ∙ none))

-- ---- who might have had turns

pub zip_length : {A B : Type 0} (R : A → B → Type 0) (xs : List A) (ys : List B) → AllZip R xs ys → length xs ≡ length ys
zip_length R [] [] h = refl
zip_length R [] (y ∷ ys) h = absurd h
zip_length R (x ∷ xs) [] h = absurd h
zip_length R (x ∷ xs) (y ∷ ys) h = ap suc (zip_length R xs ys h.1)

-- a value that says it of more turns than it begins with says no part
pub more_mights : (d : Data) (begin : Vec ℕ) (might : List (Vec ℕ)) → Under (codes "begin") SaysActors d begin → Under (codes "might") (SaysList SaysActors) d might
    → (length might ≤ length begin.items → ⊥) → IsUnsaid (SaysPart d)
more_mights d begin might said lists more part h =
    let turns : length begin.items ≡ length part.begin.items = ap length (under_one SaysActors SameActors actors_one _ begin part.begin said h.begin) in
    let same : length might ≡ length part.might.items =
    zip_length SameActors might part.might.items
    (under_one (SaysList SaysActors) (AllZip SameActors) (list_one SaysActors SameActors actors_one) _ might part.might.items lists h.might) in
    more (omega (arith, turns, same, h.within))
