-- What stands for a byte in a text of XML.
use Rattle.std.proofs.Common.{◌≡◌, ◌≢◌, Bool, true, false, ℕ, ◌+◌, ◌/◌, ◌%◌, ◌<◌, ◌≤◌, List, [], ◌∷◌, ◌++◌, refl, arith}
use Rattle.std.specs.Prelude.{◌==◌, ◌&&◌, not, nat_lt, nat_le, if◌then◌else◌, codes}
use Rattle.std.proofs.lemmas.Bool.{eqb-false}
use Rattle.std.proofs.lemmas.Bool.Decides.{nat_tests}
use Rattle.std.proofs.lemmas.List.Elements.{All-head, All-tail}
use Rattle.event_log.specs.Output.{hex_digit, escaped_byte}
use Rattle.drawings.specs.DrawingLaws.{XmlTextIsPlain}
use Rattle.drawings.specs.Svg.{xml_byte, xml_text}
use Rattle.drawings.specs.Xml.{IsPlain, IsXmlText}
use Rattle.drawings.specs.Xml.IsXmlText.{done, plain, amp, lt, gt, quot, apos}

-- a byte from 0x21 to 0x7e, which is none of the five
pub plain_byte : (b : ℕ) → 0x20 ≤ b → b ≤ 0x7e → b ≢ 0x26 → b ≢ 0x3c → b ≢ 0x3e → b ≢ 0x22 → b ≢ 0x27 → IsPlain b
plain_byte b from to no_ampersand no_less no_greater no_quotation no_apostrophe =
    record { from = from; to = to; no_ampersand = no_ampersand; no_less = no_less; no_greater = no_greater; no_quotation = no_quotation; no_apostrophe = no_apostrophe }

-- a byte that is far from the five
word_byte : (b : ℕ) → 0x3e < b → b ≤ 0x7e → IsPlain b
word_byte b from to = plain_byte b (omega arith) to (omega arith) (omega arith) (omega arith) (omega arith) (omega arith)

pub digit_byte : (b : ℕ) → 0x30 ≤ b → b < 0x3a → IsPlain b
digit_byte b from to = plain_byte b (omega arith) (omega arith) (omega arith) (omega arith) (omega arith) (omega arith) (omega arith)

hex_is_plain : (v : ℕ) → v < 16 → IsPlain (hex_digit v)
hex_is_plain v h = by (nat_lt v 10) refl
  where
    by : (t : Bool) → nat_lt v 10 ≡ t → IsPlain (if t then 48 + v else 87 + v)
    by true e = digit_byte (48 + v) (omega arith) (grind (arith, nat_tests))
    by false e = word_byte (87 + v) (grind (arith, nat_tests)) (omega arith)

-- a byte that is escaped, or stands for itself
escaped_then : (b : ℕ) → b < 256 → b ≢ 0x26 → b ≢ 0x3c → b ≢ 0x3e → b ≢ 0x22 → b ≢ 0x27 → (rest : List ℕ) → IsXmlText rest → IsXmlText (escaped_byte b ++ rest)
escaped_then b small no_ampersand no_less no_greater no_quotation no_apostrophe rest h = by (nat_le 0x21 b && nat_le b 0x7e && not (b == 0x5c)) refl
  where
    by : (t : Bool) → (nat_le 0x21 b && nat_le b 0x7e && not (b == 0x5c)) ≡ t
        → IsXmlText ((if t then b ∷ [] else codes "\\x" ++ hex_digit (b / 16) ∷ hex_digit (b % 16) ∷ []) ++ rest)
    by true e =
        let from : 0x21 ≤ b = grind (arith, nat_tests) in
        let to : b ≤ 0x7e = grind (arith, nat_tests) in
        plain b rest (plain_byte b (omega arith) to no_ampersand no_less no_greater no_quotation no_apostrophe) h
    by false e =
        plain 0x5c _ (word_byte 0x5c (omega arith) (omega arith)) (plain 0x78 _ (word_byte 0x78 (omega arith) (omega arith))
        (plain (hex_digit (b / 16)) _ (hex_is_plain (b / 16) (omega arith)) (plain (hex_digit (b % 16)) _ (hex_is_plain (b % 16) (omega arith)) h)))

-- what stands for a byte, and then a text
byte_then : (b : ℕ) → b < 256 → (rest : List ℕ) → IsXmlText rest → IsXmlText (xml_byte b ++ rest)
byte_then b small rest h = by_amp (b == 0x26) refl
  where
    escaped : Bool → List ℕ
    escaped t = if t then codes "\\" else escaped_byte b

    blank : Bool → List ℕ
    blank t = if t then codes " " else escaped (b == 0x5c)

    apostrophe : Bool → List ℕ
    apostrophe t = if t then codes "&apos;" else blank (b == 0x20)

    quotation : Bool → List ℕ
    quotation t = if t then codes "&quot;" else apostrophe (b == 0x27)

    greater : Bool → List ℕ
    greater t = if t then codes "&gt;" else quotation (b == 0x22)

    less : Bool → List ℕ
    less t = if t then codes "&lt;" else greater (b == 0x3e)

    by_backslash : (t : Bool) → (b == 0x5c) ≡ t → b ≢ 0x26 → b ≢ 0x3c → b ≢ 0x3e → b ≢ 0x22 → b ≢ 0x27 → IsXmlText (escaped t ++ rest)
    by_backslash true e a l g q p = plain 0x5c rest (word_byte 0x5c (omega arith) (omega arith)) h
    by_backslash false e a l g q p = escaped_then b small a l g q p rest h

    by_blank : (t : Bool) → (b == 0x20) ≡ t → b ≢ 0x26 → b ≢ 0x3c → b ≢ 0x3e → b ≢ 0x22 → b ≢ 0x27 → IsXmlText (blank t ++ rest)
    by_blank true e a l g q p = plain 0x20 rest (plain_byte 0x20 (omega arith) (omega arith) (omega arith) (omega arith) (omega arith) (omega arith) (omega arith)) h
    by_blank false e a l g q p = by_backslash (b == 0x5c) refl a l g q p

    by_apostrophe : (t : Bool) → (b == 0x27) ≡ t → b ≢ 0x26 → b ≢ 0x3c → b ≢ 0x3e → b ≢ 0x22 → IsXmlText (apostrophe t ++ rest)
    by_apostrophe true e a l g q = apos rest h
    by_apostrophe false e a l g q = by_blank (b == 0x20) refl a l g q (eqb-false b 0x27 e)

    by_quotation : (t : Bool) → (b == 0x22) ≡ t → b ≢ 0x26 → b ≢ 0x3c → b ≢ 0x3e → IsXmlText (quotation t ++ rest)
    by_quotation true e a l g = quot rest h
    by_quotation false e a l g = by_apostrophe (b == 0x27) refl a l g (eqb-false b 0x22 e)

    by_greater : (t : Bool) → (b == 0x3e) ≡ t → b ≢ 0x26 → b ≢ 0x3c → IsXmlText (greater t ++ rest)
    by_greater true e a l = gt rest h
    by_greater false e a l = by_quotation (b == 0x22) refl a l (eqb-false b 0x3e e)

    by_less : (t : Bool) → (b == 0x3c) ≡ t → b ≢ 0x26 → IsXmlText (less t ++ rest)
    by_less true e a = lt rest h
    by_less false e a = by_greater (b == 0x3e) refl a (eqb-false b 0x3c e)

    by_amp : (t : Bool) → (b == 0x26) ≡ t → IsXmlText ((if t then codes "&amp;" else less (b == 0x3c)) ++ rest)
    by_amp true e = amp rest h
    by_amp false e = by_less (b == 0x3c) refl (eqb-false b 0x26 e)

pub xml_text_is_plain : XmlTextIsPlain
xml_text_is_plain [] small = done
xml_text_is_plain (b ∷ bs) small =
    let P : ℕ → Type 0 = λ x. x < 256 in
    byte_then b (All-head P b bs small) (xml_text bs) (xml_text_is_plain bs (All-tail P b bs small))
