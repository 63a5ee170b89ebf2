-- What is merged of printed lines says the same as the survey of all lists.
use Rattle.std.specs.Prelude.{◌≡◌, ◌==◌, ℕ, Bool, true, List, [], ◌∷◌, ◌++◌, map, filter, length, zero, suc, take, drop, get_or, slice_get, codes, Option, Some, IsSomeAnd, unwrap_or, refl}
use Rattle.std.specs.Global.{Vec}
use Rattle.std.specs.List.{AllByRecursion, AllZip, flat_map, list_any, slice_split}
use Rattle.std.proofs.Common.{◌∙◌, cond, inl, inr, sym, ap, subst, arith, ⊎_elim}
use Rattle.std.proofs.lemmas.Bool.{true≢false, ne_eqb}
use Rattle.std.proofs.lemmas.List.{append_assoc}
use Rattle.std.proofs.lemmas.List.Elements.{All-from_recursion}
use Rattle.explore.specs.Explored.{ClassView}
use Rattle.explore.specs.Opened.{opened_world}
use Rattle.explore.specs.Promise as promise
use Rattle.serde_json.specs.Data.{Data}
use Rattle.serde_json.specs.Read.{read}
use Rattle.explore_parts.specs.declared.asked.Asked.{Asked}
use Rattle.explore_command.specs.Surveyed.{scope_asked}
use Rattle.explore_command.specs.Classes.{IsTold, AreTold}
use Rattle.explore_parts.specs.Merging.{FirstAsks, LinesSay, is_line, lines_in}
use Rattle.explore_command.specs.Part.{AreWhoMight, AreFarEnough, HasLists, IsNone, IsPart}
use Rattle.explore_parts.specs.PartRead.{SaysPart, SaysProperties, LineSays}
use Rattle.explore_parts.specs.PartText.{part_words, part_line}
use Rattle.explore_parts.specs.ReadBack.{AreSameTold, AreSame, AreScheduled}
use Rattle.explore_parts.specs.Seal.{sum_of, sealed}
use Rattle.explore_parts.proofs.OneLine.{first_line}
use Rattle.explore_parts.proofs.OnePart.{values_say_one_part, values_say_one_question, zip_length}
use Rattle.explore_parts.proofs.PartSaid.{line_read, line_says, line_asks, line_is_one}
use Rattle.race_core.specs.declared.plan.ActorPlan.{ActorPlan}
use Rattle.outcome_text.specs.declared.part.Part.{Part}
use Rattle.outcome_text.specs.declared.property.Property.{Property}
use Rattle.outcome_text.specs.declared.survey.Told.{Told}
use Rattle.outcome_text.specs.Merge.{has_lists, IsWhole}
use Rattle.outcome_text.specs.Schedule.{schedule_words}
use Rattle.outcome_text.specs.Telling.{IsLook}
use Rattle.tree_model.specs.State.{State}
use Rattle.scripts.specs.Writing.{tree_of}
use Rattle.merge_laws.specs.Merged.{IsPartOf, AreOfOneQuestion}
use Rattle.merge_laws.specs.Printed.{Answer, IsAnswer, MergedLinesAreTheWhole}
use Rattle.merge_laws.proofs.OfScripts.{merged_parts_of_a_script_are_the_whole}

-- ---- a part like the one that was found

module _ (named : List ℕ) (tree : State) (actors : ℕ) where
  told_like : (class : ClassView) (told other : Told) → AreSameTold told other → IsTold true named tree actors class told → IsTold true named tree actors class other
  told_like class told other same is = record {
    counted = sym same.lists ∙ is.counted;
    cut = sym same.cuts ∙ is.cut;
    changed = sym same.changes ∙ is.changed;
    least = sym same.turns ∙ is.least;
    scheduled = sym same.schedule ∙ is.scheduled;
    printed = sym same.block ∙ is.printed;
    looks = subst (λ (look : List ℕ). IsLook named tree actors class.least.replies class.least.tree class.least.outside look) same.look is.looks;
    judged_by = sym same.lines ∙ is.judged_by;
  }

  all_like : (classes : List ClassView) (all others : List Told) → AllZip AreSameTold all others → AreTold true named tree actors classes all → AreTold true named tree actors classes others
  all_like [] [] [] same are = tt
  all_like [] [] (other ∷ others) same are = absurd same
  all_like [] (told ∷ all) others same are = absurd are
  all_like (class ∷ classes) [] others same are = absurd are
  all_like (class ∷ classes) (told ∷ all) [] same are = absurd same
  all_like (class ∷ classes) (told ∷ all) (other ∷ others) same are =
      (told_like class told other same.0 are.0, all_like classes all others same.1 are.1)

  -- each outcome's schedule is that of its least list
  scheduled_of : (classes : List ClassView) (all : List Told) → AreTold true named tree actors classes all → AllByRecursion (λ told. told.schedule ≡ schedule_words told.turns.items) all
  scheduled_of [] [] are = tt
  scheduled_of [] (told ∷ all) are = absurd are
  scheduled_of (class ∷ classes) [] are = absurd are
  scheduled_of (class ∷ classes) (told ∷ all) are =
      (are.0.scheduled ∙ ap schedule_words (sym are.0.least), scheduled_of classes all are.1)

-- ---- lists that are the same place by place

abbrev SameActors : Vec ℕ → Vec ℕ → Type 0
SameActors v w = v.items ≡ w.items

zip_get : {A B : Type 0} (R : A → B → Type 0) (xs : List A) (ys : List B) → AllZip R xs ys → (at : ℕ) (y : B) → slice_get ys at ≡ Some y
    → (x : A) × ((slice_get xs at ≡ Some x) × R x y)
zip_get R xs [] h at y found = absurd (cc)
zip_get R [] (z ∷ ys) h at y found = absurd h
zip_get R (x ∷ xs) (z ∷ ys) h zero y found = (x, (refl, subst (λ b. R x b) (ap (λ o. unwrap_or o z) found) h.0))
zip_get R (x ∷ xs) (z ∷ ys) h (suc at) y found = zip_get R xs ys h.1 at y found

none_like : (all others : List Told) → AllZip AreSameTold all others → all ≡ [] → others ≡ []
none_like [] [] same e = refl
none_like [] (other ∷ others) same e = absurd same
none_like (told ∷ all) [] same e = refl
none_like (told ∷ all) (other ∷ others) same e = cc

module _ (own : Asked) (tree : State) (plans : List ActorPlan) (lines : ℕ) (part : Part) where
  part_like : (other : Part) → AreSame part other → IsPart own tree plans lines part → IsPart own tree plans lines other
  part_like other same is = record {
    of_these = is.of_these;
    begin = sym same.begin ∙ is.begin;
    told = ⊎_elim (λ has. inl (lists has)) (λ none. inr (nothing none)) is.told;
    might = λ at actors found.
        let there = zip_get SameActors part.might.items other.might.items same.might at actors found in
        subst (λ (might : List ℕ). AreWhoMight (opened_world tree plans lines) (scope_asked own) (length plans) (take at own.limits.scope.begin.items) might) there.1.1
        (is.might at there.0 there.1.0);
    far = subst (λ (turns : ℕ). AreFarEnough (opened_world tree plans lines) (scope_asked own) own.limits.scope.begin.items turns)
        (zip_length SameActors part.might.items other.might.items same.might) is.far;
  }
    where
      lists : HasLists own tree plans lines part → HasLists own tree plans lines other
      lists has = record {
        classes = has.classes;
        explored = subst (λ (turns : ℕ). promise.IsMerged (opened_world tree plans lines) (scope_asked own) has.classes other.lists turns) same.turns
            (subst (λ (many : ℕ). promise.IsMerged (opened_world tree plans lines) (scope_asked own) has.classes many part.turns) same.lists has.explored);
        told = all_like own.named.items tree (length plans) has.classes part.all.items other.all.items same.all has.told;
      }

      nothing : IsNone own tree plans lines part → IsNone own tree plans lines other
      nothing none = (
        none.0,
        record {
          lists = sym same.lists ∙ none.1.lists;
          turns = sym same.turns ∙ none.1.turns;
          all = none_like part.all.items other.all.items same.all none.1.all;
        },
      )

  part_scheduled : IsPart own tree plans lines part → AreScheduled part.all.items
  part_scheduled is = All-from_recursion (λ (told : Told). told.schedule ≡ schedule_words told.turns.items) part.all.items
      (⊎_elim (λ has. scheduled_of own.named.items tree (length plans) has.classes part.all.items has.told)
      (λ none. subst (λ (all : List Told). AllByRecursion (λ told. told.schedule ≡ schedule_words told.turns.items) all) (sym none.1.all) tt) is.told)

-- ---- the lines of what was printed

some_line : (b : ℕ) (bs : List ℕ) → is_line (b ∷ bs) ≡ true
some_line b bs = rw (ne_eqb (length (b ∷ bs)) 0 (λ e. omega arith))

-- the lines of a script with that digest
abbrev printed : List ℕ → List Answer → List ℕ
printed sum answers = flat_map (λ answer. part_line sum answer.asked answer.part) answers

module _ (script : List ℕ) (asked : Asked) (tree : State) (plans : List ActorPlan) (lines : ℕ) where
  abbrev Is : Answer → Type 0
  Is answer = IsAnswer asked tree plans lines answer

  abbrev line : Answer → List ℕ
  line answer = sealed (part_words script answer.asked answer.part)

  scheduled : (answer : Answer) → Is answer → AreScheduled answer.part.all.items
  scheduled answer is = part_scheduled answer.asked tree plans lines answer.part is.is

  abbrev is_break : ℕ → Bool
  is_break b = b == 10

  split_all : (answers : List Answer) → AllByRecursion Is answers → slice_split is_break (printed script answers) ≡ map line answers ++ ([] ∷ [])
  split_all [] h = refl
  split_all (answer ∷ answers) h =
      ap (slice_split is_break) (append_assoc (line answer) (codes "\n") (printed script answers))
      ∙ first_line (line answer) (printed script answers) (line_is_one script answer.asked answer.part h.0.asks h.0.fits (scheduled answer h.0))
      ∙ ap (λ (ls : List (List ℕ)). line answer ∷ ls) (split_all answers h.1)

  some_bytes : (answer : Answer) → is_line (line answer) ≡ true
  unfolding part_words
  some_bytes answer = some_line (get_or (line answer) 0 0) (drop 1 (line answer))

  kept_all : (answers : List Answer) → filter is_line (map line answers ++ ([] ∷ [])) ≡ map line answers
  kept_all [] = refl
  kept_all (answer ∷ answers) =
      ap (λ (b : Bool). cond b (line answer ∷ filter is_line (map line answers ++ ([] ∷ []))) (filter is_line (map line answers ++ ([] ∷ [])))) (some_bytes answer)
      ∙ ap (λ (ls : List (List ℕ)). line answer ∷ ls) (kept_all answers)

  lines_same : (answers : List Answer) → AllByRecursion Is answers → lines_in (printed script answers) ≡ map line answers
  lines_same answers h = ap (λ (ls : List (List ℕ)). filter is_line ls) (split_all answers h) ∙ kept_all answers

  -- ---- what is read of them

  abbrev the_value : Data → Option Data → Data
  the_value d o = unwrap_or o d

  same_part : (answer : Answer) → Is answer → (question : List ℕ) (other : Part) → LineSays question (line answer) other → AreSame answer.part other
  same_part answer is question other says =
      let found = line_read script answer.asked answer.part is.asks is.fits (scheduled answer is) in
      let value = ap (the_value says.value) (sym found ∙ says.is) in
      values_say_one_part says.value answer.part other
      (subst (λ (d : Data). SaysPart d answer.part) value (line_says script answer.asked answer.part is.asks is.fits (scheduled answer is))) says.says

  parts_like : (question : List ℕ) (answers : List Answer) (parts : List Part) → AllByRecursion Is answers → AllZip (LineSays question) (map line answers) parts
      → AreOfOneQuestion asked tree plans lines parts
  parts_like question [] [] h say part among = absurd among
  parts_like question [] (first ∷ parts) h say part among = absurd say
  parts_like question (answer ∷ answers) [] h say part among = absurd say
  parts_like question (answer ∷ answers) (first ∷ parts) h say part among =
      let same = same_part answer h.0 question first say.0 in
      let own : IsPartOf asked tree plans lines first = (answer.asked, (h.0.question, part_like answer.asked tree plans lines answer.part first same h.0.is)) in
      ⊎_elim (λ e. subst (λ (p : Part). IsPartOf asked tree plans lines p) (sym e) own) (λ later. parts_like question answers parts h.1 say.1 part later) among

  asks_of : (d : Data) (o : Option Data) (properties : List Property) → o ≡ Some d → IsSomeAnd o (λ value. SaysProperties value properties) → SaysProperties d properties
  asks_of d o properties e says = subst (λ (x : Option Data). IsSomeAnd x (λ value. SaysProperties value properties)) e says

  both_ask : (o : Option Data) (d : Data) (properties own : List Property) → o ≡ Some d → IsSomeAnd o (λ value. SaysProperties value properties) → SaysProperties d own
      → properties ≡ own
  both_ask o d properties own e says asks = values_say_one_question d properties own (asks_of d o properties e says) asks

  same_properties : (answer : Answer) → Is answer → (properties : List Property) → IsSomeAnd (read (line answer)) (λ value. SaysProperties value properties)
      → properties ≡ asked.properties.items
  same_properties answer is properties says =
      both_ask (read (line answer)) _ properties answer.asked.properties.items (line_read script answer.asked answer.part is.asks is.fits (scheduled answer is)) says
      (line_asks script answer.asked answer.part is.asks is.fits (scheduled answer is))
      ∙ is.properties

  first_asks : (answers : List Answer) (parts : List Part) (properties : List Property) (question : List ℕ) → AllByRecursion Is answers
      → AllZip (LineSays question) (map line answers) parts → FirstAsks (map line answers) properties → list_any has_lists parts ≡ true → properties ≡ asked.properties.items
  first_asks [] [] properties question h say asks some = absurd (true≢false (sym some))
  first_asks [] (part ∷ parts) properties question h say asks some = absurd say
  first_asks (answer ∷ answers) parts properties question h say asks some = same_properties answer h.0 properties asks

pub merged_lines_are_the_whole : MergedLinesAreTheWhole
merged_lines_are_the_whole order script said asked answers holds answer whole text says are survey merged =
    let tree = tree_of said in
    let sum = sum_of script in
    let say : LinesSay merged.question merged.properties (map (λ (a : Answer). sealed (part_words sum a.asked a.part)) answers) merged.parts =
    subst (λ (ls : List (List ℕ)). LinesSay merged.question merged.properties ls merged.parts) (lines_same sum asked tree said.plans said.lines answers are) merged.say in
    let own : merged.properties ≡ asked.properties.items =
    first_asks sum asked tree said.plans said.lines answers merged.parts merged.properties merged.question are say.0 say.1 merged.whole.are_all.some in
    merged_parts_of_a_script_are_the_whole order script said asked merged.parts holds answer whole text says
    (parts_like sum asked tree said.plans said.lines merged.question answers merged.parts are say.0) survey
    (subst (λ (properties : List Property). IsWhole merged.parts properties answer text) own merged.whole)
