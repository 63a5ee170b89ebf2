-- How wide the lines of the text form are, and that the rows of a text have all of it.
use Rattle.std.proofs.Common.{◌≡◌, Bool, true, false, ℕ, zero, suc, ◌+◌, ◌-◌, ◌*◌, ◌<◌, ◌≤◌, List, [], ◌∷◌, ◌++◌, length, take, drop, replicate, refl, sym, ap, ◌∙◌, arith}
use Rattle.std.specs.Prelude.{All, nat_le, nat_lt, if◌then◌else◌, codes}
use Rattle.std.specs.List.{flat_map}
use Rattle.std.proofs.lemmas.Bool.Decides.{nat_tests}
use Rattle.std.proofs.lemmas.List.{length-append, length-replicate, length-take-le, length-drop, take-append-drop}
use Rattle.std.proofs.lemmas.List.Elements.{All-cons, All-nil}
use Rattle.std.proofs.lemmas.Fmt.{length-decimal-le}
use Rattle.event_log.specs.Words.{BLANK}
use Rattle.drawings.specs.declared.look.Colours.TheVariants.{Off}
use Rattle.drawings.specs.declared.look.Legend.TheVariants as legend
use Rattle.drawings.specs.declared.picture.Tone.{Tone}
use Rattle.drawings.specs.declared.text.TheConstants.{MARK_COLUMNS}
use Rattle.drawings.specs.Cells.{cut, fitted, to_right, is_blank, last_blank, row_end, pieces}
use Rattle.drawings.specs.DrawingLaws.{RowsFit, NothingIsCut, PiecesFit, MarksFit, HeadingFits, LegendFits}
use Rattle.drawings.specs.Text.{cell_width, cell, cells, row}

-- a fitted text takes its width
length_fitted : (width : ℕ) (text : List ℕ) → 0 < width → length (fitted width text) ≡ width
length_fitted width text h = by (nat_le (length text) width) refl
  where
    by : (t : Bool) → nat_le (length text) width ≡ t
        → length ((if t then text else take (width - 1) text ++ codes "~") ++ replicate (width - length text) BLANK) ≡ width
    by true e =
        let fits : length text ≤ width = grind (arith, nat_tests) in
        omega (arith, length-append text (replicate (width - length text) BLANK), length-replicate (width - length text) BLANK)
    by false e =
        let wide : width < length text = grind (arith, nat_tests) in
        let taken : length (take (width - 1) text) ≡ width - 1 = length-take-le (width - 1) text (omega arith) in
        omega (
          arith,
          length-append (take (width - 1) text ++ codes "~") (replicate (width - length text) BLANK),
          length-append (take (width - 1) text) (codes "~"),
          length-replicate (width - length text) BLANK,
        )

-- each cell takes its width, and 3 columns before it
length_cells : (actors width : ℕ) (tone : ℕ → Tone) (shown : ℕ → List ℕ) → 0 < width → length (cells actors width Off tone shown) ≡ actors * (width + 3)
length_cells zero width tone shown h = omega arith
length_cells (suc actor) width tone shown h =
    omega (
      arith,
      length_cells actor width tone shown h,
      length_fitted width (shown actor) h,
      length-append (cells actor width Off tone shown) (cell width Off (tone actor) (shown actor)),
      length-append (codes " | ") (fitted width (shown actor) ++ []),
      length-append (fitted width (shown actor)) [],
    )

length_mark : (mark : List ℕ) → length mark ≤ MARK_COLUMNS → length (to_right MARK_COLUMNS mark) ≡ MARK_COLUMNS
length_mark mark h =
    omega (arith, length-append (replicate (MARK_COLUMNS - length mark) BLANK) mark, length-replicate (MARK_COLUMNS - length mark) BLANK)

-- a line takes the mark, the cells, the last bar and the newline
length_row : (actors columns : ℕ) (mark : List ℕ) (tone : ℕ → Tone) (shown : ℕ → List ℕ) → 0 < cell_width actors columns → length mark ≤ MARK_COLUMNS
    → length (row actors columns Off mark tone shown) ≡ 9 + actors * (cell_width actors columns + 3)
length_row actors columns mark tone shown some h =
    let all = cells actors (cell_width actors columns) Off tone shown in
    omega (
      arith,
      length_mark mark h,
      length_cells actors (cell_width actors columns) tone shown some,
      length-append (to_right MARK_COLUMNS mark) (all ++ codes " |\n"),
      length-append all (codes " |\n"),
    )

pub rows_fit : RowsFit
rows_fit zero some few columns enough mark h tone shown = absurd (omega (arith, some))
rows_fit (suc zero) some few columns enough mark h tone shown = omega (arith, enough, length_row 1 columns mark tone shown (omega (arith, enough)) h)
rows_fit (suc (suc zero)) some few columns enough mark h tone shown = omega (arith, enough, length_row 2 columns mark tone shown (omega (arith, enough)) h)
rows_fit (suc (suc (suc zero))) some few columns enough mark h tone shown = omega (arith, enough, length_row 3 columns mark tone shown (omega (arith, enough)) h)
rows_fit (suc (suc (suc (suc zero)))) some few columns enough mark h tone shown = omega (arith, enough, length_row 4 columns mark tone shown (omega (arith, enough)) h)
rows_fit (suc (suc (suc (suc (suc more))))) some few columns enough mark h tone shown = absurd (omega (arith, few))

pub marks_fit : MarksFit
marks_fit moment small = length-decimal-le 6 moment (omega arith) small (omega arith)

-- a text that is cut is no wider than that
length_cut : (width : ℕ) (text : List ℕ) → 0 < width → length (cut width text) ≤ width
length_cut width text h = by (nat_le (length text) width) refl
  where
    by : (t : Bool) → nat_le (length text) width ≡ t → length (if t then text else take (width - 1) text ++ codes "~") ≤ width
    by true e = let fits : length text ≤ width = grind (arith, nat_tests) in fits
    by false e =
        let wide : width < length text = grind (arith, nat_tests) in
        let taken : length (take (width - 1) text) ≡ width - 1 = length-take-le (width - 1) text (omega arith) in
        omega (arith, length-append (take (width - 1) text) (codes "~"))

-- ---- the rows of a text

last_blank_some : (none : ℕ) → 0 < none → (text : List ℕ) (at : ℕ) → 0 < last_blank none text at
last_blank_some none some text zero = some
last_blank_some none some text (suc at) = by (is_blank text (suc at)) (last_blank_some none some text at)
  where
    by : (t : Bool) → 0 < last_blank none text at → 0 < (if t then suc at else last_blank none text at)
    by true before = omega arith
    by false before = before

last_blank_within : (none : ℕ) (text : List ℕ) (at : ℕ) → at ≤ none → last_blank none text at ≤ none
last_blank_within none text zero h = omega arith
last_blank_within none text (suc at) h = by (is_blank text (suc at)) (last_blank_within none text at (omega (arith, h)))
  where
    by : (t : Bool) → last_blank none text at ≤ none → (if t then suc at else last_blank none text at) ≤ none
    by true before = h
    by false before = before

-- a row has something of a text that has something
pub row_end_some : (width : ℕ) → 0 < width → (text : List ℕ) → 0 < length text → 0 < row_end width text
row_end_some width some text more = by (nat_le (length text) width)
  where
    by : (t : Bool) → 0 < (if t then length text else last_blank width text width)
    by true = more
    by false = last_blank_some width some text width

row_end_fits : (width : ℕ) (text : List ℕ) → row_end width text ≤ width
row_end_fits width text = by (nat_le (length text) width) refl
  where
    by : (t : Bool) → nat_le (length text) width ≡ t → (if t then length text else last_blank width text width) ≤ width
    by true e = let fits : length text ≤ width = grind (arith, nat_tests) in fits
    by false e = last_blank_within width text width (omega arith)

row_end_within : (width : ℕ) (text : List ℕ) → row_end width text ≤ length text
row_end_within width text = by (nat_le (length text) width) refl
  where
    by : (t : Bool) → nat_le (length text) width ≡ t → (if t then length text else last_blank width text width) ≤ length text
    by true e = omega arith
    by false e =
        let wide : width < length text = grind (arith, nat_tests) in
        omega (arith, wide, last_blank_within width text width (omega arith))

pub pieces_fit : PiecesFit
pieces_fit width zero text = All-nil (λ piece. length piece ≤ width)
pieces_fit width (suc most) text = by (nat_lt 0 (length text)) (pieces_fit width most (drop (row_end width text) text))
  where
    P : List ℕ → Type 0
    P piece = length piece ≤ width

    others : List (List ℕ)
    others = pieces most width (drop (row_end width text) text)

    by : (t : Bool) → All P others → All P (if t then take (row_end width text) text ∷ others else [])
    by true fit =
        let taken : length (take (row_end width text) text) ≡ row_end width text = length-take-le (row_end width text) text (row_end_within width text) in
        All-cons P (take (row_end width text) text) others (omega (arith, taken, row_end_fits width text)) fit
    by false fit = All-nil P

empty_text : (text : List ℕ) → length text ≤ 0 → text ≡ []
empty_text [] h = refl
empty_text (b ∷ bs) h = absurd (omega (arith, h))

-- as many rows as bytes are enough
whole_pieces : (width : ℕ) → 0 < width → (most : ℕ) (text : List ℕ) → length text ≤ most → flat_map (λ piece. piece) (pieces most width text) ≡ text
whole_pieces width some zero [] few = refl
whole_pieces width some zero (b ∷ bs) few = absurd (omega (arith, few))
whole_pieces width some (suc most) text few = by (nat_lt 0 (length text)) refl (whole_pieces width some most (drop (row_end width text) text))
  where
    end : ℕ
    end = row_end width text

    others : List (List ℕ)
    others = pieces most width (drop end text)

    by : (t : Bool) → nat_lt 0 (length text) ≡ t → (length (drop end text) ≤ most → flat_map (λ piece. piece) others ≡ drop end text)
        → flat_map (λ piece. piece) (if t then take end text ∷ others else []) ≡ text
    by true e whole =
        let some_text : 0 < length text = grind (arith, nat_tests) in
        let more : 0 < end = row_end_some width some text some_text in
        let shorter : length (drop end text) ≡ length text - end = length-drop end text in
        ap (λ rest. take end text ++ rest) (whole (omega (arith, few, more, shorter))) ∙ take-append-drop end text
    by false e whole =
        let none : length text ≤ 0 = grind (arith, nat_tests) in
        sym (empty_text text none)

pub nothing_is_cut : NothingIsCut
nothing_is_cut width some text = whole_pieces width some (length text) text (omega arith)

pub heading_fits : HeadingFits
heading_fits columns enough head =
    omega (
      arith,
      length_cut columns head.text (omega (arith, enough)),
      length-append (cut columns head.text) (codes "\n"),
    )

pub legend_fits : LegendFits
legend_fits legend.Off = omega arith
legend_fits legend.NoCloses = omega arith
