-- The value that a part's line is written of, its members in the order in which they are written.
use Rattle.std.proofs.Common.{◌≡◌, ℕ, zero, suc, Bool, true, false, List, [], ◌∷◌, ◌++◌, codes, decimal, Option, Some, None, refl, ap, ◌∙◌, arith, append_assoc}
use Rattle.std.proofs.lemmas.Bool.{ne_eqb}
use Rattle.std.specs.Str.{encode_utf8_all}
use Rattle.json.specs.Print.{quoted, escape_byte}
use Rattle.serde_json.specs.Data.{unsigned, Data, null, boolean, number, string, array, object, Items, no_items, item, no_members, member}
use Rattle.serde_json.specs.Written.{comma_if, compact_text, items_text}
use Rattle.report_text.specs.Report.{numbered}
use Rattle.outcome_text.specs.declared.part.Part.{Part}
use Rattle.outcome_text.specs.declared.property.Property.{Property}
use Rattle.outcome_text.specs.declared.survey.Told.{Told}
use Rattle.outcome_text.specs.Property.{rule_word}
use Rattle.outcome_text.specs.Survey.{block_of}
use Rattle.explore_parts.specs.declared.asked.Asked.{Asked}
use Rattle.report_text.specs.Json.{text_words, comma_words}
use Rattle.explore_parts.specs.Lists.{numbers_words, lists_words}
use Rattle.explore_parts.specs.PartText.{cuts_words, flag_words, subject_words, scope_words, wanted_words, question_words, count_words, texts_words, told_words, outcomes_words, turns_words, found_words, part_words}
use Rattle.explore_parts.specs.Seal.{with_sum}

abbrev pub number_data : ℕ → Data
number_data n = number (unsigned n)

abbrev pub text_data : List ℕ → Data
text_data text = string (encode_utf8_all text)

abbrev pub items_from : {A : Type 0} → (A → Data) → List A → Items
items_from f [] = no_items
items_from f (x ∷ xs) = item (f x) (items_from f xs)

abbrev pub list_data : {A : Type 0} → (A → Data) → List A → Data
list_data f xs = array (items_from f xs)

abbrev pub numbers_data : List ℕ → Data
numbers_data = list_data number_data

abbrev pub cuts_data : Option ℕ → Data
cuts_data None = null
cuts_data (Some cuts) = number_data cuts

abbrev pub property_data : Property → Data
property_data property = text_data (rule_word property.rule ++ property.text)

abbrev pub question_data : List ℕ → Asked → Data
question_data script asked =
    object (member (codes "script") (text_data script)
    (member (codes "actors") (numbers_data asked.named.items)
    (member (codes "cuts") (cuts_data asked.limits.scope.cuts)
    (member (codes "outside") (boolean asked.outside)
    (member (codes "properties") (list_data property_data asked.properties.items) no_members)))))

abbrev pub told_data : Told → Data
told_data told =
    object (member (codes "schedules") (number_data told.lists)
    (member (codes "cuts") (number_data told.cuts)
    (member (codes "changes") (number_data told.changes)
    (member (codes "least") (numbers_data told.turns.items)
    (member (codes "block") (text_data (block_of told))
    (member (codes "look") (text_data told.look)
    (member (codes "lines") (text_data told.lines) no_members)))))))

-- with that digest
abbrev pub part_data : List ℕ → Asked → Part → List ℕ → Data
part_data script asked part sum =
    object (member (codes "part of") (question_data script asked)
    (member (codes "begin") (numbers_data part.begin.items)
    (member (codes "might") (list_data (λ actors. numbers_data actors.items) part.might.items)
    (member (codes "schedules") (number_data part.lists)
    (member (codes "turns") (number_data part.turns)
    (member (codes "outcomes") (list_data told_data part.all.items)
    (member (codes "sum") (string sum) no_members)))))))

-- ---- its text

-- something comes before
abbrev later : ℕ → Bool
later zero = false
later (suc k) = true

comma_same : (k : ℕ) → comma_if (later k) ≡ comma_words k
comma_same zero = refl
comma_same (suc k) = rw (ne_eqb (suc k) 0 (λ e. omega arith))

regroup : (a b c d : List ℕ) → a ++ (b ++ (c ++ d)) ≡ ((a ++ b) ++ c) ++ d
regroup a b c d = simp append_assoc

items_same : {A : Type 0} (f : A → Data) (words : A → List ℕ) → ((x : A) → compact_text (f x) ≡ words x) → (k : ℕ) (xs : List A)
    → items_text (later k) (items_from f xs) ≡ numbered (λ at x. comma_words at ++ words x) k xs ++ codes "]"
items_same f words same zero [] = refl
items_same f words same (suc k) [] = refl
items_same f words same k (x ∷ xs) =
    (λ i. comma_same k i ++ (same x i ++ items_same f words same (suc k) xs i))
    ∙ regroup (comma_words k) (words x) (numbered (λ at y. comma_words at ++ words y) (suc k) xs) (codes "]")

list_same : {A : Type 0} (f : A → Data) (words : A → List ℕ) → ((x : A) → compact_text (f x) ≡ words x) → (xs : List A)
    → compact_text (list_data f xs) ≡ codes "[" ++ (numbered (λ at x. comma_words at ++ words x) 0 xs ++ codes "]")
list_same f words same xs = ap (λ s. 91 ∷ s) (items_same f words same 0 xs)

numbers_same : (ns : List ℕ) → compact_text (numbers_data ns) ≡ numbers_words ns
numbers_same ns = list_same number_data decimal (λ n. refl) ns

cuts_same : (cuts : Option ℕ) → compact_text (cuts_data cuts) ≡ cuts_words cuts
cuts_same None = refl
cuts_same (Some cuts) = refl

flag_same : (flag : Bool) → compact_text (boolean flag) ≡ flag_words flag
flag_same true = refl
flag_same false = refl

question_same : (script : List ℕ) (asked : Asked) → compact_text (question_data script asked) ≡ question_words script asked
unfolding escape_byte subject_words scope_words wanted_words question_words
question_same script asked =
    (λ i. codes "{\"script\":" ++ (text_words script ++ (codes ",\"actors\":" ++ (numbers_same asked.named.items i ++ (codes ",\"cuts\":" ++ (cuts_same asked.limits.scope.cuts i
    ++ (codes ",\"outside\":" ++ (flag_same asked.outside i ++ (codes ",\"properties\":"
    ++ (list_same property_data (λ property. text_words (rule_word property.rule ++ property.text)) (λ property. refl) asked.properties.items i ++ codes "}"))))))))))
    ∙ simp append_assoc

-- an outcome's object
abbrev told_object : Told → List ℕ
told_object told =
    count_words told ++ (codes ",\"least\":" ++ (numbers_words told.turns.items ++ (texts_words told ++ codes "}")))

regroup_told : (a b c d e f g h i j k l m n o : List ℕ)
    → a ++ (b ++ (c ++ (d ++ (e ++ (f ++ (g ++ (h ++ (i ++ (j ++ (k ++ (l ++ (m ++ (n ++ o)))))))))))))
    ≡ ((a ++ b) ++ ((c ++ d) ++ (e ++ f))) ++ (g ++ (h ++ ((i ++ (j ++ (k ++ (l ++ (m ++ n))))) ++ o)))
regroup_told a b c d e f g h i j k l m n o = simp append_assoc

told_same : (told : Told) → compact_text (told_data told) ≡ told_object told
unfolding escape_byte count_words texts_words
told_same told =
    (λ i. codes "{\"schedules\":" ++ (decimal told.lists ++ (codes ",\"cuts\":" ++ (decimal told.cuts ++ (codes ",\"changes\":" ++ (decimal told.changes
    ++ (codes ",\"least\":" ++ (numbers_same told.turns.items i ++ (codes ",\"block\":" ++ (text_words (block_of told) ++ (codes ",\"look\":" ++ (text_words told.look
    ++ (codes ",\"lines\":" ++ (text_words told.lines ++ codes "}"))))))))))))))
    ∙ regroup_told (codes "{\"schedules\":") (decimal told.lists) (codes ",\"cuts\":") (decimal told.cuts) (codes ",\"changes\":") (decimal told.changes)
    (codes ",\"least\":") (numbers_words told.turns.items) (codes ",\"block\":") (text_words (block_of told)) (codes ",\"look\":") (text_words told.look)
    (codes ",\"lines\":") (text_words told.lines) (codes "}")

outcomes_same : (all : List Told) → compact_text (list_data told_data all) ≡ outcomes_words all
unfolding told_words
outcomes_same all = list_same told_data told_object told_same all

regroup_part : (a b c d e f g h i j k l m : List ℕ)
    → a ++ (b ++ (c ++ (d ++ (e ++ (f ++ (g ++ (h ++ (i ++ (j ++ (k ++ (l ++ m)))))))))))
    ≡ (a ++ (b ++ ((c ++ (d ++ (e ++ f))) ++ ((g ++ h) ++ ((i ++ j) ++ (k ++ l)))))) ++ m
regroup_part a b c d e f g h i j k l m = simp append_assoc

sum_same : (sum : List ℕ) → quoted sum ≡ codes "\"" ++ (sum ++ codes "\"") → codes ",\"sum\":" ++ (quoted sum ++ codes "}") ≡ codes ",\"sum\":\"" ++ (sum ++ codes "\"}")
sum_same sum plain =
    ap (λ (s : List ℕ). codes ",\"sum\":" ++ (s ++ codes "}")) plain ∙ ap (λ (s : List ℕ). codes ",\"sum\":\"" ++ s) (append_assoc sum (codes "\"") (codes "}"))

pub part_same : (script : List ℕ) (asked : Asked) (part : Part) (sum : List ℕ) → quoted sum ≡ codes "\"" ++ (sum ++ codes "\"")
    → compact_text (part_data script asked part sum) ≡ with_sum (part_words script asked part) sum
unfolding escape_byte turns_words found_words part_words
part_same script asked part sum plain =
    (λ i. codes "{\"part of\":" ++ (question_same script asked i ++ (codes ",\"begin\":" ++ (numbers_same part.begin.items i
    ++ (codes ",\"might\":" ++ (list_same (λ actors. numbers_data actors.items) (λ actors. numbers_words actors.items) (λ actors. numbers_same actors.items) part.might.items i
    ++ (codes ",\"schedules\":" ++ (decimal part.lists ++ (codes ",\"turns\":" ++ (decimal part.turns ++ (codes ",\"outcomes\":" ++ (outcomes_same part.all.items i
    ++ sum_same sum plain i))))))))))))
    ∙ regroup_part (codes "{\"part of\":") (question_words script asked) (codes ",\"begin\":") (numbers_words part.begin.items) (codes ",\"might\":") (lists_words part.might.items)
    (codes ",\"schedules\":") (decimal part.lists) (codes ",\"turns\":") (decimal part.turns) (codes ",\"outcomes\":") (outcomes_words part.all.items)
    (codes ",\"sum\":\"" ++ (sum ++ codes "\"}"))
