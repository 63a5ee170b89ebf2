-- A picture as SVG (Scalable Vector Graphics 1.1, W3C).
use Rattle.std.specs.Prelude.{Bool, ℕ, zero, suc, ◌+◌, ◌-◌, ◌*◌, ◌==◌, List, [], ◌∷◌, ◌++◌, length, nat_le, nat_lt, if◌then◌else◌, is_some, codes, decimal}
use Rattle.std.specs.List.{flat_map}
use Rattle.event_log.specs.Output.{escaped_byte}
use Rattle.report_text.specs.Report.{numbered}
use Rattle.drawings.specs.declared.picture.Head.{Head}
use Rattle.drawings.specs.declared.picture.Line.{Line}
use Rattle.drawings.specs.declared.picture.Tone.{Tone}
use Rattle.drawings.specs.declared.picture.Tone.TheVariants.{Plain, Good, Failed, Bad}
use Rattle.drawings.specs.declared.svg.TheConstants.{SHOWN_MAX, HEAD_MAX}
use Rattle.drawings.specs.Cells.{cut, mark_of, actor_name}
use Rattle.drawings.specs.Picture.{Drawn, line_count}

-- What XML takes for markup is an entity (XML 1.0, section 4.6); a blank and a backslash stand for themselves, and
-- any other byte for what it is escaped as.
abbrev pub xml_byte : ℕ → List ℕ
xml_byte b =
    if b == 0x26 then codes "&amp;" else (
    if b == 0x3c then codes "&lt;" else (
    if b == 0x3e then codes "&gt;" else (
    if b == 0x22 then codes "&quot;" else (
    if b == 0x27 then codes "&apos;" else (
    if b == 0x20 then codes " " else (
    if b == 0x5c then codes "\\" else escaped_byte b))))))

abbrev pub xml_text : List ℕ → List ℕ
xml_text bs = flat_map xml_byte bs

-- two numbers, with a text before each, and a last text
abbrev pub tag : List ℕ → ℕ → List ℕ → ℕ → List ℕ → List ℕ
tag first x second y last = first ++ (decimal x ++ (second ++ (decimal y ++ last)))

-- what ends the opening tag of a text: what is well is green, what failed is brown, and what stands outside is red
abbrev pub tone_end : Tone → List ℕ
tone_end Plain = codes "'>"
tone_end Good = codes "' fill='#1a7f37'>"
tone_end Failed = codes "' fill='#9a6700'>"
tone_end Bad = codes "' fill='#c0182b'>"

-- a text that begins at a place
unfoldable pub text_at : ℕ → ℕ → Tone → List ℕ → List ℕ
text_at x y tone text =
    tag (codes "<text x='") x (codes "' y='") y (tone_end tone) ++ (xml_text text ++ codes "</text>\n")

-- where the column of an actor begins
abbrev pub column_x : ℕ → ℕ
column_x actor = 56 + 494 * actor

-- where the names of the columns stand, below so many lines of a heading, and where the text of a line of the
-- heading does
abbrev pub names_y : ℕ → ℕ
names_y heads = 33 + 22 * heads

abbrev pub heading_y : ℕ → ℕ
heading_y at = 22 + 22 * at

-- where the text of a line stands, those of the heading counted too
abbrev pub line_y : ℕ → ℕ
line_y at = 66 + 22 * at

-- a line of the heading by its place
abbrev pub svg_heading : ℕ → Head → List ℕ
svg_heading at head = text_at 8 (heading_y at) head.tone (cut HEAD_MAX head.text)

abbrev pub svg_headings : List Head → List ℕ
svg_headings heads = numbered svg_heading 0 heads

-- a line down from below the columns' names
unfoldable pub life_line : ℕ → ℕ → ℕ → List ℕ
life_line x start end =
    tag (codes "<path stroke='#8a93a5' d='M") x (codes " ") start (codes "V") ++ (decimal end ++ codes "'/>\n")

-- an actor's name, and its life line down to the end
abbrev pub svg_column : ℕ → ℕ → ℕ → List ℕ
svg_column heads end actor =
    text_at (column_x actor) (names_y heads) Plain (actor_name actor)
    ++ life_line (column_x actor + 8) (names_y heads + 11) end

-- those of the actors below that number
abbrev pub svg_columns : ℕ → ℕ → ℕ → List ℕ
svg_columns heads end zero = []
svg_columns heads end (suc actor) = svg_columns heads end actor ++ svg_column heads end actor

-- a dot on a life line
unfoldable pub svg_dot : ℕ → ℕ → List ℕ
svg_dot x y = tag (codes "<circle r='4' cx='") x (codes "' cy='") y (codes "'/>\n")

-- a dot for what has a moment
abbrev pub dot_if : Bool → ℕ → ℕ → List ℕ
dot_if dotted x y = if dotted then svg_dot x y else []

-- the dot and the text in the column of a line's actor, where it has one
abbrev pub svg_place : ℕ → ℕ → Line → List ℕ
svg_place actors y line =
    if nat_lt line.actor actors
    then dot_if (is_some line.moment) (column_x line.actor + 8) (y - 5)
    ++ text_at (column_x line.actor + 26) y line.tone (cut SHOWN_MAX line.text)
    else []

-- a line by its place in the picture
abbrev pub svg_line : ℕ → ℕ → Line → List ℕ
svg_line actors at line = text_at 8 (line_y at) Plain (mark_of line.moment) ++ svg_place actors (line_y at) line

-- the lines below so many of the heading
abbrev pub svg_lines : ℕ → ℕ → List Line → List ℕ
svg_lines actors heads lines = numbered (λ at line. svg_line actors (heads + at) line) 0 lines

-- a line of the heading has a margin, and 8 for each byte
abbrev pub heading_width : Head → ℕ
heading_width head = 16 + 8 * (if nat_le (length head.text) HEAD_MAX then length head.text else HEAD_MAX)

abbrev pub wider : ℕ → ℕ → ℕ
wider width other = if nat_lt width other then other else width

-- the widest of a width and the lines of the heading
abbrev pub widest : ℕ → List Head → ℕ
widest width [] = width
widest width (head ∷ heads) = widest (wider width (heading_width head)) heads

-- the columns of the actors, or the heading where that is wider
abbrev pub svg_width : Drawn → ℕ
svg_width picture = widest (48 + 494 * picture.actors) picture.heads

-- the opening tag; blanks at the beginning of a text count
unfoldable pub svg_head : ℕ → ℕ → List ℕ
svg_head width height =
    tag (codes "<svg xmlns='http://www.w3.org/2000/svg' xml:space='preserve' style='background:white' font-family='monospace' font-size='13' viewBox='0 0 ") width (codes " ") height
    (codes "' width='")
    ++ tag [] width (codes "' height='") height (codes "'>\n")

-- what the picture is, what its colours say, and that blanks count for browsers, which read no xml:space above
unfoldable pub about : List ℕ
about =
    codes "<title>A run of calls below a root</title>\n"
    ++ (codes "<desc>A column for each actor, and a line for each step at its moment. Red: what is outside of the root is opened or held, or a check says no. Green: a check says yes, or a call did what it was to do. Brown: a call failed. Where a moment is missing, an actor closed a handle.</desc>\n"
    ++ codes "<style>text{white-space:pre}</style>\n")

abbrev pub svg_of : Drawn → List ℕ
svg_of picture =
    let heads = length picture.heads in
    let end = line_y (line_count picture) in
    svg_head (svg_width picture) end ++ (about ++ (svg_headings picture.heads ++ (svg_columns heads end picture.actors
    ++ (svg_lines picture.actors heads picture.lines ++ codes "</svg>\n"))))
