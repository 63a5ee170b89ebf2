-- A list of names, written one after another.
use Rattle.std.proofs.Common.{◌≡◌, ℕ, List, [], ◌∷◌, ◌++◌, length, map, drop, ◌+◌, sym, ap, ◌∙◌}
use Rattle.std.specs.Prelude.{Result, Ok, Err, Some, slice_get, codes, decimal}
use Rattle.std.proofs.lemmas.List.{append_assoc, append-nil, at_drop_more}
use Rattle.std.proofs.lemmas.Option.{slice_get_within, get_or_from_slice_get}
use Rattle.tree_model.specs.declared.answer.Answer.{Answer}
use Rattle.tree_model.specs.declared.answer.Answer.TheVariants.{Listed}
use Rattle.event_log.specs.Output.{escaped, Gains}
use Rattle.event_log.specs.Words.{BLANK, line_of, after_blanks, answer_words}

-- a word is followed by each other one after a blank
line_with : (word : List ℕ) (words : List (List ℕ)) → line_of (word ∷ words) ≡ word ++ after_blanks words
line_with word [] = sym (append-nil word)
line_with word (next ∷ words) = ap (λ rest. word ++ BLANK ∷ rest) (line_with next words)

abbrev pub names_after_blanks : List (List ℕ) → List ℕ
names_after_blanks names = after_blanks (map escaped names)

-- one more name is written
pub names_more : (names : List (List ℕ)) (at : ℕ) (name start before blank after : List ℕ) → slice_get names at ≡ Some name → blank ≡ before ++ BLANK ∷ [] → after ≡ blank ++ escaped name
    → before ++ names_after_blanks (drop at names) ≡ start ++ names_after_blanks names → after ++ names_after_blanks (drop (at + 1) names) ≡ start ++ names_after_blanks names
names_more names at name start before blank after found is_blank is_after h =
    let rest = names_after_blanks (drop (at + 1) names) in
    let one : names_after_blanks (drop at names) ≡ BLANK ∷ (escaped name ++ rest) =
    at_drop_more names_after_blanks names at name (slice_get_within names at name found) ∙ ap (λ n. BLANK ∷ (escaped n ++ rest)) (get_or_from_slice_get names at name name found) in
    ap (λ bs. bs ++ rest) (is_after ∙ ap (λ bs. bs ++ escaped name) is_blank)
    ∙ append_assoc (before ++ BLANK ∷ []) (escaped name) rest ∙ append_assoc before (BLANK ∷ []) (escaped name ++ rest) ∙ ap (λ bs. before ++ bs) (sym one) ∙ h

-- the word, the number and the names after blanks are the line
pub listed_line : {T E : Type 0} (old headed new : List ℕ) (count : ℕ) (names : List (List ℕ)) (answer : Answer) (result : Result T E) → answer ≡ Listed names → count ≡ length names
    → headed ≡ old ++ (codes "listed " ++ decimal count)
    → Gains headed new (names_after_blanks names) result → Gains old new (line_of (answer_words answer)) result
listed_line old headed new count names answer (Ok x) is_answer is_count is_headed gains =
    let rest = names_after_blanks names in
    gains
    ∙ ap (λ bs. bs ++ rest) is_headed ∙ append_assoc old (codes "listed " ++ decimal count) rest
    ∙ ap (λ bs. old ++ (codes "listed " ++ bs)) (sym (line_with (decimal count) (map escaped names)))
    ∙ ap (λ n. old ++ line_of (codes "listed" ∷ decimal n ∷ map escaped names)) is_count
    ∙ ap (λ a. old ++ line_of (answer_words a)) (sym is_answer)
listed_line old headed new count names answer (Err e) is_answer is_count is_headed gains = tt
