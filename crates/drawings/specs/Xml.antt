-- What is well formed in XML (Extensible Markup Language 1.0, fifth edition, W3C), of the forms that a picture has:
-- elements, attributes in apostrophes, and text.
use Rattle.std.specs.Prelude.{◌≡◌, ◌≢◌, ◌≤◌, ◌==◌, ◌&&◌, ◌||◌, Bool, true, false, ℕ, List, [], ◌∷◌, ◌++◌, nat_le, codes}
use Rattle.std.specs.List.{list_all, list_any}
use Rattle.path_text.specs.Name.{same_bytes}

-- a printed byte or a blank, and none that XML takes for markup: & < > " '
pub record IsPlain (b : ℕ) : Type 0 where
  pub from : 0x20 ≤ b
  pub to : b ≤ 0x7e
  pub no_ampersand : b ≢ 0x26
  pub no_less : b ≢ 0x3c
  pub no_greater : b ≢ 0x3e
  pub no_quotation : b ≢ 0x22
  pub no_apostrophe : b ≢ 0x27

-- a text of plain bytes and of the five entities (section 4.6)
pub data IsXmlText : List ℕ → Type 0 where
  done : IsXmlText []
  plain : (b : ℕ) (bs : List ℕ) → IsPlain b → IsXmlText bs → IsXmlText (b ∷ bs)
  amp : (bs : List ℕ) → IsXmlText bs → IsXmlText (codes "&amp;" ++ bs)
  lt : (bs : List ℕ) → IsXmlText bs → IsXmlText (codes "&lt;" ++ bs)
  gt : (bs : List ℕ) → IsXmlText bs → IsXmlText (codes "&gt;" ++ bs)
  quot : (bs : List ℕ) → IsXmlText bs → IsXmlText (codes "&quot;" ++ bs)
  apos : (bs : List ℕ) → IsXmlText bs → IsXmlText (codes "&apos;" ++ bs)

-- ---- names (section 2.3), of ASCII alone

-- a letter, a colon or an underscore
abbrev pub begins_name : ℕ → Bool
begins_name b = (nat_le 0x41 b && nat_le b 0x5a) || (nat_le 0x61 b && nat_le b 0x7a) || b == 0x3a || b == 0x5f

-- or a digit, a hyphen or a full stop
abbrev pub goes_on_in_name : ℕ → Bool
goes_on_in_name b = begins_name b || (nat_le 0x30 b && nat_le b 0x39) || b == 0x2d || b == 0x2e

abbrev pub is_name : List ℕ → Bool
is_name [] = false
is_name (b ∷ bs) = begins_name b && list_all goes_on_in_name bs

-- ---- elements (section 3)

-- an attribute, and then others
abbrev pub attribute : List ℕ → List ℕ → List ℕ → List ℕ
attribute name value others = codes " " ++ (name ++ (codes "='" ++ (value ++ (codes "'" ++ others))))

-- attributes of these names; no name stands twice (section 3.1)
pub data IsAttributes : List (List ℕ) → List ℕ → Type 0 where
  none : IsAttributes [] []
  more : (names : List (List ℕ)) (name value others : List ℕ) → is_name name ≡ true
      → list_any (same_bytes name) names ≡ false → IsXmlText value → IsAttributes names others
      → IsAttributes (name ∷ names) (attribute name value others)

-- an element with what it holds, which its own name closes
abbrev pub element_text : List ℕ → List ℕ → List ℕ → List ℕ
element_text name attributes content =
    codes "<" ++ (name ++ (attributes ++ (codes ">" ++ (content ++ (codes "</" ++ (name ++ codes ">"))))))

-- an element that holds nothing
abbrev pub empty_element_text : List ℕ → List ℕ → List ℕ
empty_element_text name attributes = codes "<" ++ (name ++ (attributes ++ codes "/>"))

-- what an element holds: text, line ends and elements
pub data IsContent : List ℕ → Type 0 where
  done : IsContent []
  shown : (told others : List ℕ) → IsXmlText told → IsContent others → IsContent (told ++ others)
  line_end : (others : List ℕ) → IsContent others → IsContent (0xa ∷ others)
  element : (names : List (List ℕ)) (name attributes content others : List ℕ) → is_name name ≡ true
      → IsAttributes names attributes → IsContent content → IsContent others
      → IsContent (element_text name attributes content ++ others)
  empty : (names : List (List ℕ)) (name attributes others : List ℕ) → is_name name ≡ true
      → IsAttributes names attributes → IsContent others
      → IsContent (empty_element_text name attributes ++ others)

-- a document: one element of that name, and a line end (section 2.1)
pub record IsDocument (name : List ℕ) (bs : List ℕ) : Type 0 where
  pub names : List (List ℕ)
  pub attributes : List ℕ
  pub content : List ℕ
  pub is_named : is_name name ≡ true
  pub has_attributes : IsAttributes names attributes
  pub has_content : IsContent content
  pub is : bs ≡ element_text name attributes content ++ codes "\n"
