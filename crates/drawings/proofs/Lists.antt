-- Lists that are gone through from the front, with what is left of them.
use Rattle.std.proofs.Common.{◌≡◌, true, ℕ, suc, ◌+◌, ◌-◌, ◌<◌, List, [], ◌∷◌, ◌++◌, length, take, drop, sym, ap, ◌∙◌, add-one, arith}
use Rattle.std.specs.Prelude.{Some, Result, Ok, Err, OnOk, slice_get, nat_lt, if◌then◌else◌, codes}
use Rattle.std.specs.List.{flat_map}
use Rattle.std.proofs.lemmas.List.{append_assoc}
use Rattle.report_text.proofs.AddedLines.{next_left}
use Rattle.report_text.specs.Report.{numbered}
use Rattle.tree_model.specs.declared.answer.Event.{Event}
use Rattle.tree_model.specs.History.{after_event}
use Rattle.tree_model.specs.State.{State}
use Rattle.event_log.specs.Output.{escaped, Gains}
use Rattle.drawings.specs.declared.picture.Closes.{Closes}
use Rattle.drawings.specs.declared.picture.Line.{Line}
use Rattle.drawings.specs.Cells.{row_end, pieces}
use Rattle.drawings.specs.Events.{spaced}
use Rattle.drawings.specs.Picture.{moment_lines, lines_from}

-- what holds anyway holds where there is a value
pub on_ok : {T E P : Type 0} (r : Result T E) → P → OnOk r P
on_ok (Ok x) h = h
on_ok (Err e) h = tt

-- a text grew twice
pub two_more : {T E : Type 0} (old one new a b : List ℕ) (result : Result T E) → one ≡ old ++ a → Gains one new b result → Gains old new (a ++ b) result
two_more old one new a b (Ok x) is_one gains = gains ∙ ap (λ bs. bs ++ b) is_one ∙ append_assoc old a b
two_more old one new a b (Err e) is_one gains = tt

-- a text grew three times
pub three_more : {T E : Type 0} (old one two new a b c : List ℕ) (result : Result T E) → one ≡ old ++ a → two ≡ one ++ b → Gains two new c result → Gains old new (a ++ (b ++ c)) result
three_more old one two new a b c (Ok x) is_one is_two gains =
    gains ∙ ap (λ bs. bs ++ c) (is_two ∙ ap (λ bs. bs ++ b) is_one ∙ append_assoc old a b)
    ∙ append_assoc old (a ++ b) c ∙ ap (λ bs. old ++ bs) (append_assoc a b c)
three_more old one two new a b c (Err e) is_one is_two gains = tt

-- one more name is written
pub name_more : (names : List (List ℕ)) (at : ℕ) (name before blank after whole : List ℕ) → slice_get names at ≡ Some name → blank ≡ before ++ codes " " → after ≡ blank ++ escaped name
    → before ++ flat_map spaced (drop at names) ≡ whole → after ++ flat_map spaced (drop (at + 1) names) ≡ whole
name_more names at name before blank after whole found is_blank is_after h =
    let rest = flat_map spaced (drop (suc at) names) in
    ap (λ n. after ++ flat_map spaced (drop n names)) (add-one at)
    ∙ ap (λ bs. bs ++ rest) (is_after ∙ ap (λ bs. bs ++ escaped name) is_blank ∙ append_assoc before (codes " ") (escaped name))
    ∙ append_assoc before (spaced name) rest
    ∙ ap (λ left. before ++ flat_map spaced left) (sym (next_left names at name found)) ∙ h

-- the lines of one more event are added
pub moment_more : (closes : Closes) (actors : ℕ) (opening s t : State) (events : List Event) (at : ℕ) (event : Event) (before after whole : List Line)
    → slice_get events at ≡ Some event → t ≡ after_event s event → after ≡ before ++ moment_lines closes actors opening s at event
    → before ++ lines_from closes actors opening s at (drop at events) ≡ whole → after ++ lines_from closes actors opening t (at + 1) (drop (at + 1) events) ≡ whole
moment_more closes actors opening s t events at event before after whole found led is_after h =
    let rest = lines_from closes actors opening (after_event s event) (suc at) (drop (suc at) events) in
    ap (λ n. after ++ lines_from closes actors opening t n (drop n events)) (add-one at)
    ∙ ap (λ u. after ++ lines_from closes actors opening u (suc at) (drop (suc at) events)) led
    ∙ ap (λ lines. lines ++ rest) is_after ∙ append_assoc before (moment_lines closes actors opening s at event) rest
    ∙ ap (λ left. before ++ lines_from closes actors opening s at left) (sym (next_left events at event found)) ∙ h

-- one more row of a text is written
pub row_more : (row : ℕ → List ℕ → List ℕ) (width most at end : ℕ) (rest next before after whole : List ℕ) → at < most → nat_lt 0 (length rest) ≡ true → end ≡ row_end width rest → next ≡ drop end rest
    → after ≡ before ++ row at (take end rest) → before ++ numbered row at (pieces (most - at) width rest) ≡ whole
    → after ++ numbered row (at + 1) (pieces (most - (at + 1)) width next) ≡ whole
row_more row width most at end rest next before after whole within some is_end is_next is_after h =
    let left = most - (at + 1) in
    let split : pieces (suc left) width rest ≡ take (row_end width rest) rest ∷ pieces left width (drop (row_end width rest) rest) =
    ap (λ t. if t then take (row_end width rest) rest ∷ pieces left width (drop (row_end width rest) rest) else []) some in
    let turns : most - at ≡ suc left = omega (arith, within) in
    let piece = take end rest in
    let others = pieces left width (drop end rest) in
    let parts : pieces (most - at) width rest ≡ piece ∷ others =
    ap (λ n. pieces n width rest) turns ∙ split ∙ ap (λ n. take n rest ∷ pieces left width (drop n rest)) (sym is_end) in
    ap (λ n. after ++ numbered row n (pieces left width next)) (add-one at)
    ∙ ap (λ bs. after ++ numbered row (suc at) (pieces left width bs)) is_next
    ∙ ap (λ bs. bs ++ numbered row (suc at) others) is_after ∙ append_assoc before (row at piece) (numbered row (suc at) others)
    ∙ ap (λ ps. before ++ numbered row at ps) (sym parts) ∙ h
