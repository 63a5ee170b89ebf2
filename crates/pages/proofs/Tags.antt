-- What stands for a byte in a page begins no tag.
use Rattle.std.proofs.Common.{◌≡◌, Bool, true, false, ℕ, [], ◌∷◌, refl, arith}
use Rattle.std.specs.Prelude.{◌==◌, if◌then◌else◌, codes, All}
use Rattle.std.proofs.lemmas.Bool.{eqb-false}
use Rattle.std.proofs.lemmas.List.Elements.{All-nil, All-cons, All-append, All-from_recursion}
use Rattle.pages.specs.Page.{html_byte, html_text, script_byte, script_text}
use Rattle.pages.specs.PageLaws.{BeginsNoTag, TextOpensNoTag, DataOpensNoTag}

-- a byte that stands for itself
itself : (b : ℕ) → (b == 0x3c) ≡ false → All BeginsNoTag (b ∷ [])
itself b e = All-cons BeginsNoTag b [] (eqb-false b 0x3c e) (All-nil BeginsNoTag)

ampersand : All BeginsNoTag (codes "&amp;")
ampersand = All-from_recursion BeginsNoTag (codes "&amp;") (omega arith, (omega arith, (omega arith, (omega arith, (omega arith, tt)))))

less : All BeginsNoTag (codes "&lt;")
less = All-from_recursion BeginsNoTag (codes "&lt;") (omega arith, (omega arith, (omega arith, (omega arith, tt))))

less_in_data : All BeginsNoTag (codes "\\u003c")
less_in_data = All-from_recursion BeginsNoTag (codes "\\u003c") (omega arith, (omega arith, (omega arith, (omega arith, (omega arith, (omega arith, tt))))))

html_byte_opens : (b : ℕ) → All BeginsNoTag (html_byte b)
html_byte_opens b = by_ampersand (b == 0x26)
  where
    by_less : (t : Bool) → (b == 0x3c) ≡ t → All BeginsNoTag (if t then codes "&lt;" else b ∷ [])
    by_less true e = less
    by_less false e = itself b e

    by_ampersand : (t : Bool) → All BeginsNoTag (if t then codes "&amp;" else if b == 0x3c then codes "&lt;" else b ∷ [])
    by_ampersand true = ampersand
    by_ampersand false = by_less (b == 0x3c) refl

script_byte_opens : (b : ℕ) → All BeginsNoTag (script_byte b)
script_byte_opens b = by (b == 0x3c) refl
  where
    by : (t : Bool) → (b == 0x3c) ≡ t → All BeginsNoTag (if t then codes "\\u003c" else b ∷ [])
    by true e = less_in_data
    by false e = itself b e

pub text_opens_no_tag : TextOpensNoTag
text_opens_no_tag [] = All-nil BeginsNoTag
text_opens_no_tag (b ∷ bs) = All-append BeginsNoTag (html_byte b) (html_text bs) (html_byte_opens b) (text_opens_no_tag bs)

pub data_opens_no_tag : DataOpensNoTag
data_opens_no_tag [] = All-nil BeginsNoTag
data_opens_no_tag (b ∷ bs) = All-append BeginsNoTag (script_byte b) (script_text bs) (script_byte_opens b) (data_opens_no_tag bs)
