-- Names that are written one by one, where they lie.
use Rattle.std.proofs.Common.{◌≡◌, ℕ, zero, suc, ◌+◌, ◌-◌, ◌<◌, List, [], ◌∷◌, ◌++◌, map, refl, sym, ap, ◌∙◌, arith}
use Rattle.std.specs.Prelude.{Option, Some, None, slice_get, IfSome, IsErr, Result, Ok, Err, codes, decimal}
use Rattle.std.proofs.lemmas.List.{append_assoc}
use Rattle.std.proofs.lemmas.Grind.{flat_map-append}
use Rattle.path_text.specs.Print.{printed, after_slashes}
use Rattle.tree_model.specs.declared.answer.Answer.{Answer}
use Rattle.tree_model.specs.declared.answer.Answer.TheVariants.{Listed}
use Rattle.tree_model.specs.declared.answer.Event.{Event}
use Rattle.event_log.specs.Output.{escaped, escaped_byte, Gains}
use Rattle.event_log.specs.Words.{after_blanks, line_of, step_words, answer_words, event_words}
use Rattle.event_log.proofs.Lines.{listed_line}
use Rattle.event_log.specs.Printed.{names_after}
use Rattle.event_log.specs.Shapes.{first_piece, after_piece, pieces_read}
use Rattle.event_log.proofs.Pieces.{length_pieces}

-- one more name is written
pub piece_written : (count at : ℕ) (mark bytes rest old before marked after : List ℕ) → at < count → marked ≡ before ++ mark → after ≡ marked ++ escaped (first_piece rest)
    → before ++ names_after mark (pieces_read (count - at) rest) ≡ old ++ names_after mark (pieces_read count bytes)
    → after ++ names_after mark (pieces_read (count - (at + 1)) (after_piece rest)) ≡ old ++ names_after mark (pieces_read count bytes)
piece_written count at mark bytes rest old before marked after within is_marked is_after h =
    let more : count - at ≡ suc (count - (at + 1)) = omega arith in
    let name = escaped (first_piece rest) in
    let left = names_after mark (pieces_read (count - (at + 1)) (after_piece rest)) in
    ap (λ bs. bs ++ left) (is_after ∙ ap (λ bs. bs ++ name) is_marked)
    ∙ append_assoc (before ++ mark) name left ∙ append_assoc before mark (name ++ left)
    ∙ ap (λ n. before ++ names_after mark (pieces_read n rest)) (sym more) ∙ h

-- names after slashes are a path
slashed : (names : List (List ℕ)) → names_after (codes "/") names ≡ escaped (after_slashes names)
slashed [] = refl
slashed (name ∷ names) =
    ap (λ bs. codes "/" ++ (escaped name ++ bs)) (slashed names)
    ∙ ap (λ bs. codes "/" ++ bs) (sym (flat_map-append escaped_byte name (after_slashes names)))

pub path_of_some : (count : ℕ) (bytes : List ℕ) → (count ≡ 0 → ⊥) → names_after (codes "/") (pieces_read count bytes) ≡ escaped (printed (pieces_read count bytes))
path_of_some zero bytes some = absurd (some refl)
path_of_some (suc count) bytes some = slashed (pieces_read (suc count) bytes)

blanks : (names : List (List ℕ)) → names_after (codes " ") names ≡ after_blanks (map escaped names)
blanks [] = refl
blanks (name ∷ names) = ap (λ bs. codes " " ++ (escaped name ++ bs)) (blanks names)

-- the head and the names after blanks are the line
pub listed_in_place : {T E : Type 0} (old headed new bytes : List ℕ) (count : ℕ) (answer : Answer) (result : Result T E) → answer ≡ Listed (pieces_read count bytes)
    → headed ≡ old ++ (codes "listed " ++ decimal count)
    → Gains headed new (names_after (codes " ") (pieces_read count bytes)) result → Gains old new (line_of (answer_words answer)) result
listed_in_place old headed new bytes count answer result is_answer is_headed gains =
    listed_line old headed new count (pieces_read count bytes) answer result is_answer (sym (length_pieces count bytes)) is_headed (rw (← blanks (pieces_read count bytes)) gains)

-- ---- an event

-- the step, the sign and the answer are its words
pub event_written : {T E : Type 0} (events : List Event) (at : ℕ) (event : Event) (old stepped parted new : List ℕ) (result : Result T E) → slice_get events at ≡ Some event
    → stepped ≡ old ++ line_of (step_words event.step) → parted ≡ stepped ++ codes " = " → Gains parted new (line_of (answer_words event.answer)) result
    → IfSome (slice_get events at) (λ e. Gains old new (event_words e) result)
event_written events at event old stepped parted new (Ok x) found is_stepped is_parted gains =
    let step = line_of (step_words event.step) in
    let answer = line_of (answer_words event.answer) in
    let whole : new ≡ old ++ event_words event =
    gains ∙ ap (λ bs. bs ++ answer) (is_parted ∙ ap (λ bs. bs ++ codes " = ") is_stepped)
    ∙ append_assoc (old ++ step) (codes " = ") answer ∙ append_assoc old step (codes " = " ++ answer) in
    rw found whole
event_written events at event old stepped parted new (Err e) found is_stepped is_parted gains = rw found tt

-- nothing is said where room was refused
pub nothing_said : {X T E : Type 0} (found : Option X) (added : X → List ℕ) (old new : List ℕ) (result : Result T E) → IsErr result → IfSome found (λ x. Gains old new (added x) result)
nothing_said None added old new result h = tt
nothing_said (Some x) added old new (Ok y) h = absurd (cc)
nothing_said (Some x) added old new (Err e) h = tt
