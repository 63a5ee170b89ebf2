-- What a part's line is read as says the part.
use Rattle.std.proofs.Common.{◌≡◌, ℕ, ◌<◌, ◌≤◌, ◌^◌, true, List, [], ◌∷◌, ◌++◌, Option, Some, None, refl, sym, ap, ◌∙◌, subst, arith}
use Rattle.std.specs.Prelude.{not, ◌&&◌}
use Rattle.std.specs.List.{All, AllByRecursion, list_all}
use lib.Utf8.{low_scalar}
use Rattle.std.specs.Global.{Vec}
use Rattle.std.specs.Str.{encode_utf8_all, all_scalars}
use Rattle.std.proofs.lemmas.Bool.{and_parts, leb-true}
use Rattle.std.proofs.lemmas.List.Elements.{recursion_from_All}
use Rattle.std.proofs.lemmas.Str.{chars-encodes, encode_ascii}
use Rattle.serde_json.specs.Data.{Data, depth, items_depth}
use Rattle.serde_json.specs.Read.{read, max_depth}
use Rattle.serde_json.specs.Written.{compact_text}
use Rattle.outcome_text.specs.declared.part.Part.{Part}
use Rattle.outcome_text.specs.declared.property.Property.{Property}
use Rattle.outcome_text.specs.declared.property.Rule.{Rule}
use Rattle.outcome_text.specs.declared.property.Rule.TheVariants.{When, Never, Always}
use Rattle.outcome_text.specs.declared.survey.Told.{Told}
use Rattle.outcome_text.specs.Schedule.{schedule_words}
use Rattle.outcome_text.specs.Property.{names_a_line, ends_in_blank, is_printed, is_property, rule_word}
use Rattle.outcome_text.specs.Survey.{block_of}
use Rattle.explore_parts.specs.declared.asked.Asked.{Asked}
use Rattle.explore_parts.specs.PartRead.{SaysActor, SaysText, ItemsSay, SaysList, SaysActors, SaysTold, SaysPart, SaysProperty, SaysProperties, LineSays}
use Rattle.explore_parts.specs.PartText.{part_words}
use Rattle.explore_parts.specs.Printed.{ToldFits, PartFits, FewCuts, AskedFits}
use Rattle.explore_parts.specs.ReadBack.{LinesSayTheirParts}
use Rattle.explore_parts.specs.Seal.{sum_of, sealed}
use Rattle.explore_parts.proofs.OneLine.{IsOneLine, compact_line}
use Rattle.explore_parts.proofs.PartData.{number_data, text_data, items_from, list_data, numbers_data, cuts_data, property_data, question_data, told_data, part_data, part_same}
use Rattle.explore_parts.proofs.Settled.{settled, settled_items, HasCounts, ItemsHaveCounts, reads_back}
use Rattle.explore_parts.proofs.SumText.{quoted-sum}

-- ---- lists

module _ {A : Type 0} (f : A → Data) (P : A → Type 0) where
  items_say : (Says : Data → A → Type 0) → ((x : A) → P x → Says (settled (f x)) x) → (xs : List A)
      → AllByRecursion P xs
      → ItemsSay Says (settled_items (items_from f xs)) xs
  items_say Says each [] h = tt
  items_say Says each (x ∷ xs) h = (each x h.0, items_say Says each xs h.1)

  items_have : ((x : A) → P x → HasCounts (f x)) → (xs : List A) → AllByRecursion P xs
      → ItemsHaveCounts (items_from f xs)
  items_have each [] h = tt
  items_have each (x ∷ xs) h = (each x h.0, items_have each xs h.1)

items_shallow : {A : Type 0} (f : A → Data) (n : ℕ) → ((x : A) → depth (f x) ≤ n) → (xs : List A)
    → items_depth (items_from f xs) ≤ n
items_shallow f n each [] = omega arith
items_shallow f n each (x ∷ xs) = omega (arith, each x, items_shallow f n each xs)

-- ---- numbers and texts

abbrev IsActor : ℕ → Type 0
IsActor n = n < 2 ^ 32

abbrev IsByte : ℕ → Type 0
IsByte b = b < 2 ^ 8

says_actors : (ns : List ℕ) → All IsActor ns → SaysList SaysActor (settled (numbers_data ns)) ns
says_actors ns h = items_say number_data IsActor SaysActor (λ n l. (refl, l)) ns (recursion_from_All IsActor ns h)

have_actors : (ns : List ℕ) → All IsActor ns → HasCounts (numbers_data ns)
have_actors ns h = items_have number_data IsActor (λ n l. omega arith) ns (recursion_from_All IsActor ns h)

numbers_shallow : (ns : List ℕ) → depth (numbers_data ns) ≤ 1
numbers_shallow ns = omega (arith, items_shallow number_data 0 (λ n. omega arith) ns)

scalars_of : (bs : List ℕ) → AllByRecursion IsByte bs → all_scalars bs ≡ true
scalars_of [] h = refl
scalars_of (b ∷ bs) h = rw (low_scalar b (omega arith)) (scalars_of bs h.1)

says_text : (bs : List ℕ) → All IsByte bs → SaysText (text_data bs) bs
says_text bs h = (chars-encodes bs (scalars_of bs (recursion_from_All IsByte bs h)), h)

-- ---- properties

abbrev IsAscii : ℕ → Type 0
IsAscii b = b < 128

ascii_same : (bs : List ℕ) → AllByRecursion IsAscii bs → encode_utf8_all bs ≡ bs
ascii_same [] h = refl
ascii_same (b ∷ bs) h = λ i. encode_ascii b h.0 i ++ ascii_same bs h.1 i

printed : (bs : List ℕ) → list_all is_printed bs ≡ true → AllByRecursion IsAscii bs
printed [] h = tt
printed (b ∷ bs) h =
    let p = and_parts _ _ h in
    let q = and_parts _ _ p.0 in
    (omega (arith, leb-true b 126 q.1), printed bs p.1)

after_rule : (rule : Rule) (bs : List ℕ) → AllByRecursion IsAscii bs → AllByRecursion IsAscii (rule_word rule ++ bs)
after_rule When bs h = (omega arith, (omega arith, (omega arith, (omega arith, (omega arith, h)))))
after_rule Never bs h = (omega arith, (omega arith, (omega arith, (omega arith, (omega arith, (omega arith, h))))))
after_rule Always bs h =
    (omega arith, (omega arith, (omega arith, (omega arith, (omega arith, (omega arith, (omega arith, h)))))))

abbrev IsProperty : Property → Type 0
IsProperty property = is_property true property.text ≡ true

says_property : (property : Property) → IsProperty property → SaysProperty (property_data property) property
says_property property h =
    let bs = printed property.text
    (and_parts (names_a_line true property.text && not (ends_in_blank property.text))
    (list_all is_printed property.text) h).1 in
    (ap Some (ascii_same (rule_word property.rule ++ property.text) (after_rule property.rule property.text bs)), h)

says_properties : (all : List Property) → All IsProperty all
    → SaysList SaysProperty (settled (list_data property_data all)) all
says_properties all h =
    items_say property_data IsProperty SaysProperty says_property all (recursion_from_All IsProperty all h)

have_cuts : (cuts : Option ℕ) → FewCuts cuts → HasCounts (cuts_data cuts)
have_cuts None h = tt
have_cuts (Some cuts) h = h

have_question : (script : List ℕ) (asked : Asked) → AskedFits asked → HasCounts (question_data script asked)
have_question script asked fits = (
  tt,
  (
    have_actors asked.named.items fits.named,
    (
      have_cuts asked.limits.scope.cuts fits.cuts,
      (
        tt,
        (
          items_have property_data IsProperty (λ property h. tt) asked.properties.items
              (recursion_from_All IsProperty asked.properties.items fits.properties),
          tt,
        ),
      ),
    ),
  ),
)

cuts_shallow : (cuts : Option ℕ) → depth (cuts_data cuts) ≤ 0
cuts_shallow None = omega arith
cuts_shallow (Some cuts) = omega arith

question_shallow : (script : List ℕ) (asked : Asked) → depth (question_data script asked) ≤ 3
question_shallow script asked =
    omega (
      arith,
      numbers_shallow asked.named.items,
      cuts_shallow asked.limits.scope.cuts,
      items_shallow property_data 0 (λ property. omega arith) asked.properties.items,
    )

-- ---- outcomes

says_told : (told : Told) → ToldFits told → told.schedule ≡ schedule_words told.turns.items
    → SaysTold (settled (told_data told)) told
says_told told fits scheduled = record {
  lists = refl;
  cuts = refl;
  changes = refl;
  least = says_actors told.turns.items fits.turns;
  scheduled = scheduled;
  block = says_text (block_of told) fits.block;
  look = says_text told.look fits.look;
  lines = says_text told.lines fits.lines;
}

have_told : (told : Told) → ToldFits told → HasCounts (told_data told)
have_told told fits =
    (fits.lists, (fits.cuts, (fits.changes, (have_actors told.turns.items fits.turns, (tt, (tt, (tt, tt)))))))

told_shallow : (told : Told) → depth (told_data told) ≤ 2
told_shallow told = omega (arith, numbers_shallow told.turns.items)

-- ---- the part

module _ (script : List ℕ) (asked : Asked) (part : Part) (asks : AskedFits asked) (fits : PartFits part)
    (scheduled : All (λ told. told.schedule ≡ schedule_words told.turns.items) part.all.items) where
  abbrev body : List ℕ
  body = part_words script asked part

  abbrev written : Data
  written = part_data script asked part (sum_of body)

  abbrev IsWell : Told → Type 0
  IsWell told = ToldFits told × (told.schedule ≡ schedule_words told.turns.items)

  both : (all : List Told) → AllByRecursion ToldFits all
      → AllByRecursion (λ told. told.schedule ≡ schedule_words told.turns.items) all → AllByRecursion IsWell all
  both [] h k = tt
  both (told ∷ all) h k = ((h.0, k.0), both all h.1 k.1)

  well : AllByRecursion IsWell part.all.items
  well = both part.all.items (recursion_from_All ToldFits part.all.items fits.all)
      (recursion_from_All _ part.all.items scheduled)

  abbrev Actors : Vec ℕ → Type 0
  Actors actors = All IsActor actors.items

  mights : AllByRecursion Actors part.might.items
  mights = recursion_from_All Actors part.might.items fits.might

  have_part : HasCounts written
  have_part = (
    have_question script asked asks,
    (
      have_actors part.begin.items fits.begin,
      (
        items_have (λ actors. numbers_data actors.items) Actors
            (λ actors h. have_actors actors.items h) part.might.items mights,
        (
          fits.lists,
          (
            fits.turns,
            (items_have told_data IsWell (λ told h. have_told told h.0) part.all.items well, (tt, tt)),
          ),
        ),
      ),
    ),
  )

  part_shallow : depth written ≤ max_depth
  part_shallow =
      omega (
        arith,
        question_shallow script asked,
        numbers_shallow part.begin.items,
        items_shallow (λ (actors : Vec ℕ). numbers_data actors.items) 1
            (λ actors. numbers_shallow actors.items) part.might.items,
        items_shallow told_data 2 told_shallow part.all.items,
      )

  pub line_read : read (sealed body) ≡ Some (settled written)
  line_read = ap read (sym (part_same script asked part (sum_of body) (quoted-sum body)))
      ∙ reads_back written have_part part_shallow

  -- it is one line
  pub line_is_one : IsOneLine (sealed body)
  line_is_one = subst IsOneLine (part_same script asked part (sum_of body) (quoted-sum body))
      (compact_line written have_part)

  pub line_says : SaysPart (settled written) part
  line_says = record {
    begin = says_actors part.begin.items fits.begin;
    might = items_say (λ actors. numbers_data actors.items) Actors SaysActors
        (λ actors h. says_actors actors.items h) part.might.items mights;
    within = fits.within;
    lists = refl;
    turns = refl;
    all = items_say told_data IsWell SaysTold (λ told h. says_told told h.0 h.1) part.all.items well;
  }

  pub line_asks : SaysProperties (settled written) asked.properties.items
  line_asks = says_properties asked.properties.items asks.properties

  -- where no number is a float, the text of its question is that
  pub said_line : (question : List ℕ) × LineSays question (sealed body) part
  said_line = (
    compact_text (settled (question_data script asked)),
    record {
      sealed = (body, refl);
      value = settled written;
      is = line_read;
      asks = λ none. refl;
      says = line_says;
    },
  )

pub lines_say_their_parts : LinesSayTheirParts
lines_say_their_parts script asked part asks fits scheduled = said_line script asked part asks fits scheduled
