-- A picture as text: its heading, and a table with rows for each line and a column for each actor.
use Rattle.std.specs.Prelude.{ℕ, zero, suc, ◌-◌, ◌/◌, ◌==◌, List, [], ◌∷◌, ◌++◌, length, if◌then◌else◌, Option, codes}
use Rattle.std.specs.List.{flat_map}
use Rattle.report_text.specs.Report.{numbered}
use Rattle.drawings.specs.declared.look.Colours.{Colours}
use Rattle.drawings.specs.declared.look.Colours.TheVariants.{Off, On}
use Rattle.drawings.specs.declared.look.Legend.{Legend}
use Rattle.drawings.specs.declared.look.Legend.TheVariants as legend
use Rattle.drawings.specs.declared.look.Look.{Look}
use Rattle.drawings.specs.declared.picture.Head.{Head}
use Rattle.drawings.specs.declared.picture.Line.{Line}
use Rattle.drawings.specs.declared.picture.Tone.{Tone}
use Rattle.drawings.specs.declared.picture.Tone.TheVariants.{Plain, Good, Failed, Bad}
use Rattle.drawings.specs.declared.text.TheConstants.{MARK_COLUMNS}
use Rattle.drawings.specs.Cells.{cut, fitted, to_right, pieces, mark_of, actor_name}
use Rattle.drawings.specs.Picture.{Drawn}

-- the mark and the last bar take 8 columns, and the bar before a cell 3
abbrev pub cell_width : ℕ → ℕ → ℕ
cell_width actors columns = (columns - 8) / actors - 3

-- Select Graphic Rendition (ECMA-48, 8.3.117): green, yellow and red
abbrev pub tone_begin : Colours → Tone → List ℕ
tone_begin Off tone = []
tone_begin On Plain = []
tone_begin On Good = 0x1b ∷ codes "[32m"
tone_begin On Failed = 0x1b ∷ codes "[33m"
tone_begin On Bad = 0x1b ∷ codes "[31m"

abbrev pub tone_end : Colours → Tone → List ℕ
tone_end Off tone = []
tone_end On Plain = []
tone_end On Good = 0x1b ∷ codes "[0m"
tone_end On Failed = 0x1b ∷ codes "[0m"
tone_end On Bad = 0x1b ∷ codes "[0m"

-- a bar, and a text in its colour
abbrev pub cell : ℕ → Colours → Tone → List ℕ → List ℕ
cell width colours tone text =
    codes " | " ++ (tone_begin colours tone ++ (fitted width text ++ tone_end colours tone))

-- the cells of the actors below that number
abbrev pub cells : ℕ → ℕ → Colours → (ℕ → Tone) → (ℕ → List ℕ) → List ℕ
cells zero width colours tone shown = []
cells (suc actor) width colours tone shown =
    cells actor width colours tone shown ++ cell width colours (tone actor) (shown actor)

-- a mark, and what is shown of each actor
abbrev pub row : ℕ → ℕ → Colours → List ℕ → (ℕ → Tone) → (ℕ → List ℕ) → List ℕ
row actors columns colours mark tone shown =
    to_right MARK_COLUMNS mark ++ (cells actors (cell_width actors columns) colours tone shown ++ codes " |\n")

-- the names of the columns
abbrev pub no_tone : ℕ → Tone
no_tone actor = Plain

abbrev pub head_row : ℕ → ℕ → List ℕ
head_row actors columns = row actors columns Off [] no_tone actor_name

-- a piece of a line's text in the column of its actor
abbrev pub shown : Line → List ℕ → ℕ → List ℕ
shown line piece actor = if actor == line.actor then piece else []

abbrev pub tone_shown : Line → ℕ → Tone
tone_shown line actor = if actor == line.actor then line.tone else Plain

-- a line's moment, in the first of its rows
abbrev pub mark_at : Option ℕ → ℕ → List ℕ
mark_at moment at = if at == 0 then mark_of moment else []

abbrev pub line_row : ℕ → ℕ → Colours → Line → ℕ → List ℕ → List ℕ
line_row actors columns colours line at piece =
    row actors columns colours (mark_at line.moment at) (tone_shown line) (shown line piece)

-- the rows of a line, of which each has a byte of its text at least
abbrev pub line_rows : ℕ → ℕ → Colours → Line → List ℕ
line_rows actors columns colours line =
    numbered (line_row actors columns colours line) 0
    (pieces (length line.text) (cell_width actors columns) line.text)

-- a line of the heading
abbrev pub heading_row : ℕ → Colours → Head → List ℕ
heading_row columns colours head =
    tone_begin colours head.tone ++ (cut columns head.text ++ (tone_end colours head.tone ++ codes "\n"))

-- what is said below the heading
abbrev pub legend_text : Legend → List ℕ
legend_text legend.Off = []
legend_text legend.NoCloses = codes "closes are left out (--all shows them)\n"

abbrev pub table : ℕ → Colours → Drawn → List ℕ
table columns colours picture =
    head_row picture.actors columns ++ flat_map (line_rows picture.actors columns colours) picture.lines

-- an empty line stands between the heading and the table
abbrev pub text_of : Look → Drawn → List ℕ
text_of look picture =
    flat_map (heading_row look.columns.count look.colours) picture.heads
    ++ (legend_text look.legend ++ (codes "\n" ++ table look.columns.count look.colours picture))
