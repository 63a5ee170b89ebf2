-- The text of a value has no newline in it.
use Rattle.std.proofs.Common.{◌≡◌, ℕ, zero, suc, ◌<◌, ◌==◌, ◌&&◌, Bool, true, false, List, [], ◌∷◌, ◌++◌, decimal, refl, sym, ap, ◌∙◌, subst, arith, inl, inr}
use Rattle.std.specs.Prelude.{not}
use Rattle.std.specs.List.{AllByRecursion, slice_split}
use Rattle.std.specs.Char.{digit_value}
use Rattle.std.specs.Str.Parse.{AllDigits}
use Rattle.std.proofs.lemmas.Bool.{and_parts, cases_eq, cases_lt, ne_eqb, not-true}
use Rattle.std.proofs.lemmas.Fmt.{decimal_is_IsNumeral}
use Rattle.std.proofs.lemmas.List.Splits.{slice_split-cons_yes, slice_split-cons_no}
use Rattle.std.specs.List.{onto_first}
use Rattle.json.specs.Print.{escape_byte, escape, quoted}
use Rattle.json.proofs.Printed.Strings.{escape_byte_plain}
use Rattle.serde_json.specs.Data.{Num, unsigned, negative, float, Data, null, boolean, number, string, array, object, Items, no_items, item, Members, no_members, member}
use Rattle.serde_json.specs.Written.{comma_if, compact_text, items_text, members_text, number_text}
use Rattle.explore_parts.proofs.Settled.{IsCount, HasCounts, ItemsHaveCounts, MembersHaveCounts}

abbrev is_break : ℕ → Bool
is_break b = b == 10

abbrev pub IsOneLine : List ℕ → Type 0
IsOneLine bs = AllByRecursion (λ b. is_break b ≡ false) bs

joined : (bs cs : List ℕ) → IsOneLine bs → IsOneLine cs → IsOneLine (bs ++ cs)
joined [] cs h k = k
joined (b ∷ bs) cs h k = (h.0, joined bs cs h.1 k)

-- ---- texts

abbrev are_no_breaks : List ℕ → Bool
are_no_breaks [] = true
are_no_breaks (b ∷ bs) = not (is_break b) && are_no_breaks bs

from_test : (bs : List ℕ) → are_no_breaks bs ≡ true → IsOneLine bs
from_test [] h = tt
from_test (b ∷ bs) h = let p = and_parts _ _ h in (not-true _ p.0, from_test bs p.1)

abbrev escapes_below : ℕ → Bool
escapes_below zero = true
escapes_below (suc n) = are_no_breaks (escape_byte n) && escapes_below n

escape_below : (n : ℕ) → escapes_below n ≡ true → (x : ℕ) → x < n → IsOneLine (escape_byte x)
escape_below zero e x h = absurd (omega arith)
escape_below (suc n) e x h =
    let p = and_parts _ _ e in
    elim (cases_eq x n) [ inl same ↦ subst (λ (y : ℕ). IsOneLine (escape_byte y)) (sym same) (from_test (escape_byte n) p.0) | inr other ↦ escape_below n p.1 x (omega arith) ]

first_are : escapes_below 128 ≡ true
unfolding escape_byte
first_are = refl

one_byte : (x : ℕ) → IsOneLine (escape_byte x)
one_byte x = elim (cases_lt x 128) [
  | inl small ↦ escape_below 128 first_are x small
  | inr big ↦ subst IsOneLine (sym (escape_byte_plain x (λ e. omega arith) (λ e. omega arith) (omega arith))) (ne_eqb x 10 (λ e. omega arith), tt)
]

escaped : (bs : List ℕ) → IsOneLine (escape bs)
escaped [] = tt
escaped (b ∷ bs) = joined (escape_byte b) (escape bs) (one_byte b) (escaped bs)

in_quotes : (bs : List ℕ) → IsOneLine (quoted bs)
in_quotes bs = (refl, joined (escape bs) (34 ∷ []) (escaped bs) (refl, tt))

-- ---- numbers

not_break : (d : ℕ) → digit_value d < 10 → d ≡ 10 → ⊥
not_break d h e = grind arith

of_digits : (ds : List ℕ) → AllDigits 10 ds → IsOneLine ds
of_digits [] h = tt
of_digits (d ∷ ds) h = (ne_eqb d 10 (not_break d h.0), of_digits ds h.1)

of_number : (n : Num) → IsCount n → IsOneLine (number_text n)
of_number (unsigned n) h = of_digits (decimal n) (decimal_is_IsNumeral n h).0.1
of_number (negative z) h = absurd h
of_number (float x) h = absurd h

-- ---- the whole

comma : (later : Bool) → IsOneLine (comma_if later)
comma true = (refl, tt)
comma false = tt

mutual
  pub compact_line : (d : Data) → HasCounts d → IsOneLine (compact_text d)
  compact_line null h = from_test (compact_text null) refl
  compact_line (boolean true) h = from_test (compact_text (boolean true)) refl
  compact_line (boolean false) h = from_test (compact_text (boolean false)) refl
  compact_line (number n) h = of_number n h
  compact_line (string s) h = in_quotes s
  compact_line (array ds) h = (refl, items_line false ds h)
  compact_line (object ms) h = (refl, members_line false ms h)

  items_line : (later : Bool) (ds : Items) → ItemsHaveCounts ds → IsOneLine (items_text later ds)
  items_line later no_items h = (refl, tt)
  items_line later (item d ds) h =
      joined (comma_if later) (compact_text d ++ items_text true ds) (comma later) (joined (compact_text d) (items_text true ds) (compact_line d h.0) (items_line true ds h.1))

  members_line : (later : Bool) (ms : Members) → MembersHaveCounts ms → IsOneLine (members_text later ms)
  members_line later no_members h = (refl, tt)
  members_line later (member k d ms) h =
      joined (comma_if later) (quoted k ++ 58 ∷ (compact_text d ++ members_text true ms)) (comma later)
      (joined (quoted k) (58 ∷ (compact_text d ++ members_text true ms)) (in_quotes k)
      (refl, joined (compact_text d) (members_text true ms) (compact_line d h.0) (members_line true ms h.1)))

-- ---- lines of a text

-- a line that ends with a newline is the first of the text's
pub first_line : (line rest : List ℕ) → IsOneLine line → slice_split is_break (line ++ 10 ∷ rest) ≡ line ∷ slice_split is_break rest
first_line [] rest h = slice_split-cons_yes is_break 10 rest refl
first_line (b ∷ line) rest h =
    slice_split-cons_no is_break b (line ++ 10 ∷ rest) h.0 ∙ ap (onto_first b) (first_line line rest h.1)
