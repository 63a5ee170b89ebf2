-- What holds of drawings: statements of laws.
use Rattle.std.specs.Prelude.{◌≡◌, ◌<◌, ◌≤◌, ◌+◌, ◌^◌, ℕ, Some, IfSome, List, length, All, codes}
use Rattle.std.specs.List.{flat_map}
use Rattle.drawings.specs.declared.picture.TheConstants.{ACTORS_MAX}
use Rattle.drawings.specs.declared.picture.Head.{Head}
use Rattle.drawings.specs.declared.picture.Line.{Line}
use Rattle.drawings.specs.declared.look.Colours.TheVariants.{Off}
use Rattle.drawings.specs.declared.look.Legend.{Legend}
use Rattle.drawings.specs.declared.look.TheConstants.{COLUMNS_MIN}
use Rattle.drawings.specs.declared.text.TheConstants.{MARK_COLUMNS}
use Rattle.drawings.specs.declared.picture.Tone.{Tone}
use Rattle.drawings.specs.Cells.{pieces, mark_of}
use Rattle.drawings.specs.Picture.{Drawn, CanBeDrawn}
use Rattle.drawings.specs.Svg.{xml_text, svg_of}
use Rattle.drawings.specs.Text.{row, heading_row, legend_text}
use Rattle.drawings.specs.Xml.{IsXmlText, IsDocument}

abbrev pub AreBytes : List ℕ → Type 0
AreBytes bs = All (λ b. b < 256) bs

-- whatever bytes are to be shown, what stands for them is plain text
abbrev pub XmlTextIsPlain : Type 0
XmlTextIsPlain = (bs : List ℕ) → AreBytes bs → IsXmlText (xml_text bs)

-- a line's text is of bytes, and its moment of 64 bits
pub record IsLine (line : Line) : Type 0 where
  pub bytes : AreBytes line.text
  pub moment : IfSome line.moment (λ moment. moment < 2 ^ 64)

-- a picture is of such lines, its heading too
pub record IsOfBytes (picture : Drawn) : Type 0 where
  pub heads : All (λ (head : Head). AreBytes head.text) picture.heads
  pub lines : All IsLine picture.lines

-- whatever a picture shows, as SVG it is one well-formed element of that name
abbrev pub SvgIsWellFormed : Type 0
SvgIsWellFormed = (picture : Drawn) → CanBeDrawn picture → IsOfBytes picture
    → IsDocument (codes "svg") (svg_of picture)

-- a moment below a million has room at the beginning of a line
abbrev pub MarksFit : Type 0
MarksFit = (moment : ℕ) → moment < 10 ^ 6 → length (mark_of (Some moment)) ≤ MARK_COLUMNS

-- no line of the table is wider than the columns that there are, whatever is shown; one byte more is the newline, and
-- without colours there is nothing else
abbrev pub RowsFit : Type 0
RowsFit = (actors : ℕ) → 0 < actors → actors ≤ ACTORS_MAX → (columns : ℕ) → COLUMNS_MIN ≤ columns
    → (mark : List ℕ) → length mark ≤ MARK_COLUMNS → (tone : ℕ → Tone) (shown : ℕ → List ℕ)
    → length (row actors columns Off mark tone shown) ≤ columns + 1

-- the rows of a text have all of it, in order, and each has room in its cell, so that none is cut
abbrev pub NothingIsCut : Type 0
NothingIsCut = (width : ℕ) → 0 < width → (text : List ℕ)
    → flat_map (λ piece. piece) (pieces (length text) width text) ≡ text

abbrev pub PiecesFit : Type 0
PiecesFit = (width most : ℕ) (text : List ℕ)
    → All (λ piece. length piece ≤ width) (pieces most width text)

-- no line of the heading is wider, either
abbrev pub HeadingFits : Type 0
HeadingFits = (columns : ℕ) → COLUMNS_MIN ≤ columns → (head : Head)
    → length (heading_row columns Off head) ≤ columns + 1

-- nor is what is said below it
abbrev pub LegendFits : Type 0
LegendFits = (legend : Legend) → length (legend_text legend) ≤ COLUMNS_MIN + 1
