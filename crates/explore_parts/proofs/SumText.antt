-- The digits of a digest stand for themselves between quotes.
use Rattle.std.proofs.Common.{◌≡◌, ℕ, zero, suc, ◌<◌, ◌/◌, ◌%◌, ◌&&◌, ◌==◌, Bool, true, List, [], ◌∷◌, ◌++◌, get_or, refl, ap, arith, inl, inr}
use Rattle.std.specs.Prelude.{not, nat_le, codes}
use Rattle.std.specs.Int.{byte_at, bytes_high_first}
use Rattle.std.specs.List.{AllByRecursion}
use Rattle.std.proofs.lemmas.Bool.{and_parts, cases_eq, leb-true, eqb-false, not-true}
use Rattle.hex.specs.Hex.{lower_digits, encode_with}
use Rattle.json.specs.Print.{escape_byte, escape, quoted}
use Rattle.json.proofs.Printed.Strings.{escape_byte_plain}
use Rattle.sha2.specs.Sha256.{digest_bytes, sha256}
use Rattle.explore_parts.specs.Seal.{sum_of}

abbrev digit : ℕ → ℕ
digit d = get_or lower_digits d 0

-- it stands for itself
abbrev is_plain : ℕ → Bool
is_plain x = nat_le 32 x && (not (x == 34) && not (x == 92))

abbrev digits_below : ℕ → Bool
digits_below zero = true
digits_below (suc n) = is_plain (digit n) && digits_below n

below : (n : ℕ) → digits_below n ≡ true → (d : ℕ) → d < n → is_plain (digit d) ≡ true
below zero h d l = absurd (omega arith)
below (suc n) h d l =
    let p = and_parts _ _ h in
    elim (cases_eq d n) [ inl same ↦ rw same p.0 | inr other ↦ below n p.1 d (omega arith) ]

escaped_digit : (d : ℕ) → d < 16 → escape_byte (digit d) ≡ digit d ∷ []
escaped_digit d l =
    let p = and_parts _ _ (below 16 refl d l) in
    let q = and_parts _ _ p.1 in
    escape_byte_plain (digit d) (eqb-false _ _ (not-true _ q.0)) (eqb-false _ _ (not-true _ q.1)) (leb-true 32 _ p.0)

abbrev IsByte : ℕ → Type 0
IsByte b = b < 256

encoded : (bs : List ℕ) → AllByRecursion IsByte bs → escape (encode_with lower_digits bs) ≡ encode_with lower_digits bs
unfolding encode_with
encoded [] h = refl
encoded (b ∷ bs) h =
    let high = escaped_digit (b / 16) (omega arith) in
    let low = escaped_digit (b % 16) (omega arith) in
    λ i. high i ++ (low i ++ encoded bs h.1 i)

remainder : (n : ℕ) → n % 256 < 256
remainder n = omega arith

byte_small : (k n : ℕ) → byte_at k n < 256
byte_small zero n = remainder n
byte_small (suc k) n = remainder _

high_bytes : (k n : ℕ) → AllByRecursion IsByte (bytes_high_first k n)
high_bytes zero n = tt
high_bytes (suc k) n = (byte_small k n, high_bytes k n)

both : (bs cs : List ℕ) → AllByRecursion IsByte bs → AllByRecursion IsByte cs → AllByRecursion IsByte (bs ++ cs)
both [] cs h k = k
both (b ∷ bs) cs h k = (h.0, both bs cs h.1 k)

digest : (h : List ℕ) (n : ℕ) → AllByRecursion IsByte (digest_bytes h n)
unfolding digest_bytes
digest h zero = tt
digest h (suc n) = both (digest_bytes h n) _ (digest h n) (high_bytes 4 (get_or h n 0))

pub quoted-sum : (bytes : List ℕ) → quoted (sum_of bytes) ≡ codes "\"" ++ (sum_of bytes ++ codes "\"")
unfolding sha256
quoted-sum bytes = ap (λ s. 34 ∷ (s ++ 34 ∷ [])) (encoded (sha256 bytes) (digest _ 8))
