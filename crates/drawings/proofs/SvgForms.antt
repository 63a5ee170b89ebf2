-- A picture in SVG, element by element.
use Rattle.std.proofs.Common.{◌≡◌, Bool, true, false, ℕ, zero, suc, ◌+◌, ◌-◌, ◌*◌, ◌%◌, ◌^◌, ◌<◌, ◌≤◌, List, [], ◌∷◌, ◌++◌, length, take, refl, append_assoc, append-nil, arith, rules}
use Rattle.std.specs.Prelude.{All, Option, Some, None, IfSome, ◌==◌, ◌&&◌, not, nat_lt, nat_le, is_some, if◌then◌else◌, codes, decimal}
use Rattle.std.specs.List.{list_all, list_any}
use Rattle.path_text.specs.Name.{same_bytes}
use Rattle.std.proofs.lemmas.Bool.Decides.{nat_tests}
use Rattle.std.proofs.lemmas.Fmt.{decimal_by_steps}
use Rattle.std.proofs.lemmas.List.Elements.{All-head, All-tail, All-cons, All-take, All-append}
use Rattle.report_text.specs.Report.{numbered}
use Rattle.drawings.specs.declared.picture.Head.{Head}
use Rattle.drawings.specs.declared.picture.Line.{Line}
use Rattle.drawings.specs.declared.picture.TheConstants.{ACTORS_MAX, LINES_MAX}
use Rattle.drawings.specs.declared.picture.Tone.{Tone}
use Rattle.drawings.specs.declared.picture.Tone.TheVariants.{Plain, Good, Failed, Bad}
use Rattle.drawings.specs.declared.svg.TheConstants.{SHOWN_MAX, HEAD_MAX}
use Rattle.drawings.specs.Cells.{cut, mark_of, actor_name}
use Rattle.drawings.specs.DrawingLaws.{AreBytes, IsLine, SvgIsWellFormed}
use Rattle.drawings.specs.Picture.{line_count}
use Rattle.drawings.specs.Svg.{xml_text, text_at, column_x, names_y, heading_y, line_y, life_line, svg_dot, dot_if, svg_place, svg_heading, svg_column, svg_columns, svg_line, heading_width, wider, widest, svg_width, svg_head, about}
use Rattle.drawings.specs.Xml.{IsPlain, IsXmlText, IsAttributes, IsContent, is_name, attribute, element_text}
use Rattle.drawings.specs.Xml.IsXmlText.{done as all_told, plain, amp, lt, gt, quot, apos}
use Rattle.drawings.specs.Xml.IsAttributes.{none, more}
use Rattle.drawings.specs.Xml.IsContent.{done, shown, line_end, element, empty}
use Rattle.drawings.proofs.XmlTexts.{digit_byte, plain_byte, xml_text_is_plain}

-- ---- texts

-- two texts, one after the other
join : {a b : List ℕ} → IsXmlText a → IsXmlText b → IsXmlText (a ++ b)
join all_told h = h
join (plain b bs p t) h = plain b _ p (join t h)
join (amp bs t) h = amp _ (join t h)
join (lt bs t) h = lt _ (join t h)
join (gt bs t) h = gt _ (join t h)
join (quot bs t) h = quot _ (join t h)
join (apos bs t) h = apos _ (join t h)

digits : (n : ℕ) → n < 2 ^ 64 → IsXmlText (decimal n)
digits = decimal_by_steps (λ n ds. IsXmlText ds) (λ n h. plain (48 + n) [] (digit_byte (48 + n) (omega arith) (omega arith)) all_told)
    (λ n ds h t. join t (plain (48 + n % 10) [] (digit_byte (48 + n % 10) (omega arith) (omega arith)) all_told))

abbrev is_plain : ℕ → Bool
is_plain b = nat_le 0x20 b && nat_le b 0x7e && not (b == 0x26) && not (b == 0x3c) && not (b == 0x3e) && not (b == 0x22) && not (b == 0x27)

plain_byte_of : (b : ℕ) → is_plain b ≡ true → IsPlain b
plain_byte_of b h =
    let from : 0x20 ≤ b = grind (arith, nat_tests) in
    let to : b ≤ 0x7e = grind (arith, nat_tests) in
    plain_byte b from to (grind (arith, nat_tests)) (grind (arith, nat_tests)) (grind (arith, nat_tests)) (grind (arith, nat_tests)) (grind (arith, nat_tests))

-- a constant text
plain_text : (bs : List ℕ) → list_all is_plain bs ≡ true → IsXmlText bs
plain_text [] h = all_told
plain_text (b ∷ bs) h = plain b bs (plain_byte_of b (grind (arith))) (plain_text bs (grind (arith)))

-- a text that is cut is of bytes too
cut_is_bytes : (width : ℕ) (text : List ℕ) → AreBytes text → AreBytes (cut width text)
cut_is_bytes width text h = by (nat_le (length text) width)
  where
    by : (t : Bool) → AreBytes (if t then text else take (width - 1) text ++ codes "~")
    by true = h
    by false =
        let P : ℕ → Type 0 = λ b. b < 256 in
        All-append P (take (width - 1) text) (codes "~") (All-take P (width - 1) text h) (search rules)

-- ---- elements

-- two attributes whose values are numbers, and then others
numbers_then : (first second : List ℕ) (x y : ℕ) → is_name first ≡ true → is_name second ≡ true → x < 2 ^ 64 → y < 2 ^ 64
    → (names : List (List ℕ)) (others : List ℕ) → list_any (same_bytes second) names ≡ false → list_any (same_bytes first) (second ∷ names) ≡ false → IsAttributes names others
    → IsAttributes (first ∷ second ∷ names) (attribute first (decimal x) (attribute second (decimal y) others))
numbers_then first second x y is_first is_second small_x small_y names others apart_second apart_first h =
    more (second ∷ names) first (decimal x) _ is_first apart_first (digits x small_x) (more names second (decimal y) others is_second apart_second (digits y small_y) h)

place_then : (x y : ℕ) → x < 2 ^ 64 → y < 2 ^ 64 → (names : List (List ℕ)) (others : List ℕ) → list_any (same_bytes (codes "y")) names ≡ false
    → list_any (same_bytes (codes "x")) (codes "y" ∷ names) ≡ false → IsAttributes names others
    → IsAttributes (codes "x" ∷ codes "y" ∷ names) (attribute (codes "x") (decimal x) (attribute (codes "y") (decimal y) others))
place_then x y = numbers_then (codes "x") (codes "y") x y refl refl

coloured : (value : List ℕ) → list_all is_plain value ≡ true → IsAttributes (codes "fill" ∷ []) (attribute (codes "fill") value [])
coloured value h = more [] (codes "fill") value [] refl refl (plain_text value h) none

-- an element with a text in it, and a line's end behind it
line_of_text : (names : List (List ℕ)) (attributes text others : List ℕ) → IsAttributes names attributes → AreBytes text → IsContent others
    → IsContent (element_text (codes "text") attributes (xml_text text ++ []) ++ (0xa ∷ others))
line_of_text names attributes text others are bytes h =
    element names (codes "text") attributes (xml_text text ++ []) (0xa ∷ others) refl are (shown (xml_text text) [] (xml_text_is_plain text bytes) done) (line_end others h)

text_then : (x y : ℕ) (tone : Tone) (text others : List ℕ) → x < 2 ^ 64 → y < 2 ^ 64 → AreBytes text → IsContent others → IsContent (text_at x y tone text ++ others)
unfolding text_at
text_then x y Plain text others small_x small_y bytes h =
    simp append_assoc (simp append_assoc at (line_of_text _ _ text others (place_then x y small_x small_y [] [] refl refl none) bytes h))
text_then x y Good text others small_x small_y bytes h =
    simp append_assoc (simp append_assoc at (line_of_text _ _ text others (place_then x y small_x small_y _ _ refl refl (coloured (codes "#1a7f37") refl)) bytes h))
text_then x y Failed text others small_x small_y bytes h =
    simp append_assoc (simp append_assoc at (line_of_text _ _ text others (place_then x y small_x small_y _ _ refl refl (coloured (codes "#9a6700") refl)) bytes h))
text_then x y Bad text others small_x small_y bytes h =
    simp append_assoc (simp append_assoc at (line_of_text _ _ text others (place_then x y small_x small_y _ _ refl refl (coloured (codes "#c0182b") refl)) bytes h))

dot_then : (x y : ℕ) (others : List ℕ) → x < 2 ^ 64 → y < 2 ^ 64 → IsContent others → IsContent (svg_dot x y ++ others)
unfolding svg_dot
dot_then x y others small_x small_y h =
    let place = numbers_then (codes "cx") (codes "cy") x y refl refl small_x small_y [] [] refl refl none in
    simp append_assoc (simp append_assoc at (empty _ (codes "circle") _ (0xa ∷ others) refl (more _ (codes "r") (codes "4") _ refl refl (plain_text (codes "4") refl) place) (line_end others h)))

life_line_then : (x start end : ℕ) (others : List ℕ) → x < 2 ^ 64 → start < 2 ^ 64 → end < 2 ^ 64 → IsContent others → IsContent (life_line x start end ++ others)
unfolding life_line
life_line_then x start end others small_x small_start small_end h =
    let way : IsXmlText (codes "M" ++ (decimal x ++ (codes " " ++ (decimal start ++ (codes "V" ++ decimal end))))) =
    join (plain_text (codes "M") refl) (join (digits x small_x) (join (plain_text (codes " ") refl) (join (digits start small_start) (join (plain_text (codes "V") refl) (digits end small_end))))) in
    let attributes = more (codes "d" ∷ []) (codes "stroke") (codes "#8a93a5") _ refl refl (plain_text (codes "#8a93a5") refl) (more [] (codes "d") _ [] refl refl way none) in
    simp append_assoc (simp append_assoc at (empty _ (codes "path") _ (0xa ∷ others) refl attributes (line_end others h)))

-- ---- the picture

one_byte : (b : ℕ) → b < 256 → AreBytes (b ∷ [])
one_byte b h = All-cons (λ b. b < 256) b [] h (search rules)

decimal_is_bytes : (n : ℕ) → n < 2 ^ 64 → AreBytes (decimal n)
decimal_is_bytes =
    let P : ℕ → Type 0 = λ b. b < 256 in
    decimal_by_steps (λ n ds. AreBytes ds) (λ n h. one_byte (48 + n) (omega arith))
    (λ n ds h told. All-append P ds ((48 + n % 10) ∷ []) told (one_byte (48 + n % 10) (omega arith)))

mark_is_bytes : (moment : Option ℕ) → IfSome moment (λ moment. moment < 2 ^ 64) → AreBytes (mark_of moment)
mark_is_bytes None h = search rules
mark_is_bytes (Some moment) h = decimal_is_bytes moment h

name_is_bytes : (actor : ℕ) → actor < 2 ^ 64 → AreBytes (actor_name actor)
name_is_bytes actor h = All-append (λ b. b < 256) (codes "actor ") (decimal actor) (search rules) (decimal_is_bytes actor h)

headings_then : (at : ℕ) (heads : List Head) (others : List ℕ) → at + length heads ≤ LINES_MAX → All (λ (head : Head). AreBytes head.text) heads → IsContent others
    → IsContent (numbered svg_heading at heads ++ others)
headings_then at [] others few bytes h = h
headings_then at (head ∷ heads) others few bytes h =
    let P : Head → Type 0 = λ head. AreBytes head.text in
    let rest = numbered svg_heading (suc at) heads in
    rw (append_assoc (svg_heading at head) rest others)
    (text_then 8 (heading_y at) head.tone (cut HEAD_MAX head.text) (rest ++ others) (omega arith) (omega arith) (cut_is_bytes HEAD_MAX head.text (All-head P head heads bytes))
    (headings_then (suc at) heads others (omega arith) (All-tail P head heads bytes) h))

column_then : (heads end actor : ℕ) (others : List ℕ) → heads ≤ LINES_MAX → end < 2 ^ 64 → actor < ACTORS_MAX → IsContent others → IsContent (svg_column heads end actor ++ others)
column_then heads end actor others few small one h =
    rw (append_assoc (text_at (column_x actor) (names_y heads) Plain (actor_name actor)) (life_line (column_x actor + 8) (names_y heads + 11) end) others)
    (text_then (column_x actor) (names_y heads) Plain (actor_name actor) _ (omega arith) (omega arith) (name_is_bytes actor (omega arith))
    (life_line_then (column_x actor + 8) (names_y heads + 11) end others (omega arith) (omega arith) small h))

columns_then : (heads end actors : ℕ) (others : List ℕ) → heads ≤ LINES_MAX → end < 2 ^ 64 → actors ≤ ACTORS_MAX → IsContent others → IsContent (svg_columns heads end actors ++ others)
columns_then heads end zero others few small all h = h
columns_then heads end (suc actor) others few small all h =
    rw (append_assoc (svg_columns heads end actor) (svg_column heads end actor) others)
    (columns_then heads end actor (svg_column heads end actor ++ others) few small (omega arith) (column_then heads end actor others few small (omega arith) h))

dot_if_then : (dotted : Bool) (x y : ℕ) (others : List ℕ) → x < 2 ^ 64 → y < 2 ^ 64 → IsContent others → IsContent (dot_if dotted x y ++ others)
dot_if_then true x y others small_x small_y h = dot_then x y others small_x small_y h
dot_if_then false x y others small_x small_y h = h

step_then : (actors y : ℕ) (line : Line) (others : List ℕ) → actors ≤ ACTORS_MAX → y < 2 ^ 64 → AreBytes line.text → IsContent others → IsContent (svg_place actors y line ++ others)
step_then actors y line others few small bytes h = by (nat_lt line.actor actors) refl
  where
    dot : List ℕ
    dot = dot_if (is_some line.moment) (column_x line.actor + 8) (y - 5)

    told : List ℕ
    told = text_at (column_x line.actor + 26) y line.tone (cut SHOWN_MAX line.text)

    by : (t : Bool) → nat_lt line.actor actors ≡ t → IsContent ((if t then dot ++ told else []) ++ others)
    by true e =
        let there : line.actor < actors = grind (arith, nat_tests) in
        rw (append_assoc dot told others)
        (dot_if_then (is_some line.moment) (column_x line.actor + 8) (y - 5) (told ++ others) (omega arith) (omega arith)
        (text_then (column_x line.actor + 26) y line.tone (cut SHOWN_MAX line.text) others (omega arith) small (cut_is_bytes SHOWN_MAX line.text bytes) h))
    by false e = h

line_then : (actors at : ℕ) (line : Line) (others : List ℕ) → actors ≤ ACTORS_MAX → at < LINES_MAX → AreBytes line.text → IfSome line.moment (λ moment. moment < 2 ^ 64) → IsContent others
    → IsContent (svg_line actors at line ++ others)
line_then actors at line others few one bytes moment h =
    rw (append_assoc (text_at 8 (line_y at) Plain (mark_of line.moment)) (svg_place actors (line_y at) line) others)
    (text_then 8 (line_y at) Plain (mark_of line.moment) (svg_place actors (line_y at) line ++ others) (omega arith) (omega arith) (mark_is_bytes line.moment moment)
    (step_then actors (line_y at) line others few (omega arith) bytes h))

lines_then : (actors heads at : ℕ) (lines : List Line) (others : List ℕ) → actors ≤ ACTORS_MAX → heads + (at + length lines) ≤ LINES_MAX
    → All IsLine lines → IsContent others
    → IsContent (numbered (λ at line. svg_line actors (heads + at) line) at lines ++ others)
lines_then actors heads at [] others few short are h = h
lines_then actors heads at (line ∷ lines) others few short are h =
    let is : IsLine line = All-head IsLine line lines are in
    let rest = numbered (λ at line. svg_line actors (heads + at) line) (suc at) lines in
    rw (append_assoc (svg_line actors (heads + at) line) rest others)
    (line_then actors (heads + at) line (rest ++ others) few (omega arith) is.bytes is.moment
    (lines_then actors heads (suc at) lines others few (omega arith) (All-tail IsLine line lines are) h))

-- ---- the opening tag and what is said of the picture

small_heading : (head : Head) → heading_width head ≤ 8016
small_heading head = by (nat_le (length head.text) HEAD_MAX) refl
  where
    by : (t : Bool) → nat_le (length head.text) HEAD_MAX ≡ t → 16 + 8 * (if t then length head.text else HEAD_MAX) ≤ 8016
    by true e = let fits : length head.text ≤ HEAD_MAX = grind (arith, nat_tests) in omega (arith, fits)
    by false e = omega arith

small_wider : (width other : ℕ) → width ≤ 8016 → other ≤ 8016 → wider width other ≤ 8016
small_wider width other h g = by (nat_lt width other)
  where
    by : (t : Bool) → (if t then other else width) ≤ 8016
    by true = g
    by false = h

small_widest : (width : ℕ) (heads : List Head) → width ≤ 8016 → widest width heads ≤ 8016
small_widest width [] h = h
small_widest width (head ∷ heads) h = small_widest (wider width (heading_width head)) heads (small_wider width (heading_width head) h (small_heading head))

-- an element of constant text, and a line's end behind it
told_then : (name text others : List ℕ) → is_name name ≡ true → list_all is_plain text ≡ true → IsContent others
    → IsContent (element_text name [] (text ++ []) ++ (0xa ∷ others))
told_then name text others is_one plain_one h =
    element [] name [] (text ++ []) (0xa ∷ others) is_one none (shown text [] (plain_text text plain_one) done) (line_end others h)

about_then : (others : List ℕ) → IsContent others → IsContent (about ++ others)
unfolding about
about_then others h =
    simp append_assoc (told_then (codes "title") (codes "A run of calls below a root") _ refl refl
    (told_then (codes "desc") (codes "A column for each actor, and a line for each step at its moment. Red: what is outside of the root is opened or held, or a check says no. Green: a check says yes, or a call did what it was to do. Brown: a call failed. Where a moment is missing, an actor closed a handle.") _ refl refl
    (told_then (codes "style") (codes "text{white-space:pre}") others refl refl h)))

pub svg_is_well_formed : SvgIsWellFormed
unfolding svg_head
svg_is_well_formed picture can bytes =
    let heads = length picture.heads in
    let end = line_y (line_count picture) in
    let width = svg_width picture in
    let narrow : width ≤ 8016 = small_widest (48 + 494 * picture.actors) picture.heads (omega (arith, can.few)) in
    let short : line_count picture ≤ LINES_MAX = can.short in
    let small : end < 2 ^ 64 = omega arith in
    let size = numbers_then (codes "width") (codes "height") width end refl refl (omega (arith, narrow)) small [] [] refl refl none in
    let box : IsXmlText (codes "0 0 " ++ (decimal width ++ (codes " " ++ decimal end))) =
    join (plain_text (codes "0 0 ") refl) (join (digits width (omega (arith, narrow))) (join (plain_text (codes " ") refl) (digits end small))) in
    let boxed = more _ (codes "viewBox") _ _ refl refl box size in
    let sized = more _ (codes "font-size") (codes "13") _ refl refl (plain_text (codes "13") refl) boxed in
    let faced = more _ (codes "font-family") (codes "monospace") _ refl refl (plain_text (codes "monospace") refl) sized in
    let styled = more _ (codes "style") (codes "background:white") _ refl refl (plain_text (codes "background:white") refl) faced in
    let spaced = more _ (codes "xml:space") (codes "preserve") _ refl refl (plain_text (codes "preserve") refl) styled in
    let told = lines_then picture.actors heads 0 picture.lines [] can.few (omega arith) bytes.lines done in
    let columns = columns_then heads end picture.actors _ (omega arith) small can.few told in
    record {
      names = _;
      attributes = _;
      content = _;
      is_named = refl;
      has_attributes = more _ (codes "xmlns") (codes "http://www.w3.org/2000/svg") _ refl refl (plain_text (codes "http://www.w3.org/2000/svg") refl) spaced;
      has_content = line_end _ (about_then _ (headings_then 0 picture.heads _ (omega arith) bytes.heads columns));
      is = simp (append_assoc, append-nil);
    }
