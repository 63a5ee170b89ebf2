-- Bytes as they are written, and which bytes they were.
use Rattle.std.proofs.Common.{◌≡◌, Bool, true, false, ℕ, ◌+◌, ◌/◌, ◌%◌, ◌<◌, ◌≤◌, List, [], ◌∷◌, ◌++◌, refl, sym, arith}
use Rattle.std.specs.Prelude.{◌==◌, ◌&&◌, not, nat_lt, nat_le, if◌then◌else◌, codes, All}
use Rattle.std.proofs.lemmas.Bool.{eq-eqb}
use Rattle.std.proofs.lemmas.Bool.Decides.{nat_tests}
use Rattle.std.proofs.lemmas.List.Elements.{All-head, All-tail, All-cons, All-nil, All-append}
use Rattle.event_log.specs.EscapeLaws.{IsPrinted, EscapedIsPrinted, EscapedTellsApart}
use Rattle.event_log.specs.Output.{hex_digit, escaped_byte, escaped}

-- the byte stands for itself
abbrev stands : ℕ → Bool
stands b = nat_le 0x21 b && nat_le b 0x7e && not (b == 0x5c)

-- what is written for a byte, by whether it stands for itself
abbrev written : Bool → ℕ → List ℕ
written t b = if t then b ∷ [] else codes "\\x" ++ hex_digit (b / 16) ∷ hex_digit (b % 16) ∷ []

-- ---- printed bytes

hex_is_printed : (v : ℕ) → v < 16 → IsPrinted (hex_digit v)
hex_is_printed v h = by (nat_lt v 10) refl
  where
    by : (t : Bool) → nat_lt v 10 ≡ t → IsPrinted (if t then 48 + v else 87 + v)
    by true e = let small : v < 10 = grind (arith, nat_tests) in (omega arith, omega arith)
    by false e = (omega arith, omega arith)

byte_is_printed : (b : ℕ) → b < 256 → All IsPrinted (escaped_byte b)
byte_is_printed b small = by (stands b) refl
  where
    by : (t : Bool) → stands b ≡ t → All IsPrinted (written t b)
    by true e =
        let from : 0x21 ≤ b = grind (arith, nat_tests) in
        let to : b ≤ 0x7e = grind (arith, nat_tests) in
        All-cons IsPrinted b [] (from, to) (All-nil IsPrinted)
    by false e =
        let high = hex_digit (b / 16) in
        let low = hex_digit (b % 16) in
        All-cons IsPrinted 0x5c (0x78 ∷ high ∷ low ∷ []) (omega arith, omega arith)
        (All-cons IsPrinted 0x78 (high ∷ low ∷ []) (omega arith, omega arith)
        (All-cons IsPrinted high (low ∷ []) (hex_is_printed (b / 16) (omega arith))
        (All-cons IsPrinted low [] (hex_is_printed (b % 16) (omega arith)) (All-nil IsPrinted))))

pub escaped_is_printed : EscapedIsPrinted
escaped_is_printed [] small = All-nil IsPrinted
escaped_is_printed (b ∷ bs) small =
    let P : ℕ → Type 0 = λ x. x < 256 in
    All-append IsPrinted (escaped_byte b) (escaped bs) (byte_is_printed b (All-head P b bs small)) (escaped_is_printed bs (All-tail P b bs small))

-- ---- which bytes they were

hex_is_one : (v w : ℕ) → v < 16 → w < 16 → hex_digit v ≡ hex_digit w → v ≡ w
hex_is_one v w hv hw = by (nat_lt v 10) (nat_lt w 10) refl refl
  where
    by : (t u : Bool) → nat_lt v 10 ≡ t → nat_lt w 10 ≡ u → (if t then 48 + v else 87 + v) ≡ (if u then 48 + w else 87 + w) → v ≡ w
    by true true e f same = omega arith
    by true false e f same = let small : v < 10 = grind (arith, nat_tests) in absurd (omega arith)
    by false true e f same = let small : w < 10 = grind (arith, nat_tests) in absurd (omega arith)
    by false false e f same = omega arith

no_backslash : (b : ℕ) → stands b ≡ true → b ≡ 0x5c → ⊥
no_backslash b e is =
    let t : (b == 0x5c) ≡ true = eq-eqb b 0x5c is in
    grind (arith, nat_tests)

-- a byte and the rest, by whether each of the two stands for itself
cut_by : (t u : Bool) (b c : ℕ) (bs cs : List ℕ) → stands b ≡ t → stands c ≡ u → b < 256 → c < 256 → written t b ++ bs ≡ written u c ++ cs → (b ≡ c) × (bs ≡ cs)
cut_by true true b c bs cs e f sb sc same = (cc, cc)
cut_by true false b c bs cs e f sb sc same = absurd (no_backslash b e (cc))
cut_by false true b c bs cs e f sb sc same = absurd (no_backslash c f (cc))
cut_by false false b c bs cs e f sb sc same =
    let high : b / 16 ≡ c / 16 = hex_is_one (b / 16) (c / 16) (omega arith) (omega arith) (cc) in
    let low : b % 16 ≡ c % 16 = hex_is_one (b % 16) (c % 16) (omega arith) (omega arith) (cc) in
    (omega arith, cc)

something : (t : Bool) (b : ℕ) (bs : List ℕ) → [] ≡ written t b ++ bs → ⊥
something true b bs e = absurd (cc)
something false b bs e = absurd (cc)

pub escaped_tells_apart : EscapedTellsApart
escaped_tells_apart [] [] small others same = refl
escaped_tells_apart [] (c ∷ cs) small others same = absurd (something (stands c) c (escaped cs) same)
escaped_tells_apart (b ∷ bs) [] small others same = absurd (something (stands b) b (escaped bs) (sym same))
escaped_tells_apart (b ∷ bs) (c ∷ cs) small others same =
    let P : ℕ → Type 0 = λ x. x < 256 in
    let cut = cut_by (stands b) (stands c) b c (escaped bs) (escaped cs) refl refl (All-head P b bs small) (All-head P c cs others) same in
    let rest : bs ≡ cs = escaped_tells_apart bs cs (All-tail P b bs small) (All-tail P c cs others) cut.1 in
    let first : b ≡ c = cut.0 in
    cc
