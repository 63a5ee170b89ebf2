-- How many tries there are.
use Rattle.std.proofs.Common.{◌≡◌, ◌<◌, ◌≤◌, ◌-◌, ◌*◌, ◌^◌, ℕ, suc, ◌⊎◌, inl, inr, ap, sym, subst, arith}
use Rattle.std.proofs.lemmas.Bool.{cases_lt}
use Rattle.std.proofs.Math.Nat.{mul-le-mul_left, pow-suc}
use Rattle.std.proofs.lemmas.Nat.{pow_below}
use Rattle.open_partial.specs.Seen.{AreFew}

-- so many tries, and so many pieces that lie between: each try but the first halves these
pub record Room (pieces tries gap : ℕ) : Type 0 where
  pub short : pieces ≤ 1 → tries ≤ 1
  pub product : 2 ≤ pieces → 2 ^ tries * (gap - 1) ≤ 2 * (pieces - 1)
  pub few : 2 ≤ pieces → 2 ^ tries ≤ 4 * (pieces - 1)

-- half of what lay between is left
pub halved : (pieces tries gap left : ℕ) → Room pieces tries gap → 2 ≤ pieces → 2 ≤ gap → 2 * (left - 1) ≤ gap - 1
    → Room pieces (suc tries) left
halved pieces tries gap left room more some less =
    let up = mul-le-mul_left (2 ^ tries) less in
    let one : 2 ^ tries * 1 ≤ 2 ^ tries * (gap - 1) = mul-le-mul_left (2 ^ tries) (omega (arith, some)) in
    let product = room.product more in
    let power : 2 ^ suc tries ≡ 2 ^ tries * 2 = pow-suc 2 tries in
    record {
      short = λ small. absurd (omega (arith, small, more));
      product = λ _. subst (λ p. p * (left - 1) ≤ 2 * (pieces - 1)) (sym power) (grind (arith, up, product));
      few = λ _. omega (arith, one, product, power);
    }

-- behind the first try
pub first_room : (pieces gap : ℕ) → gap ≤ pieces → Room pieces 1 gap
first_room pieces gap fits =
    record { short = λ _. omega arith; product = λ more. omega (arith, fits, more); few = λ more. omega (arith, more) }

-- ---- a path of 4,095 bytes

fourteen : (n : ℕ) → n ≡ 14 → 2 ^ n ≡ 16384
fourteen n is = ap (λ k. 2 ^ k) is

within : (n : ℕ) → 2 ^ n ≤ 16376 → n ≤ 13
within n few = elim (cases_lt 13 n) [
  | inl more ↦ elim (cases_lt 14 n) [
    | inl above ↦ absurd (omega (arith, few, pow_below 14 n above))
    | inr is ↦ absurd (omega (arith, few, fourteen n (omega (arith, more, is))))
  ]
  | inr at_most ↦ at_most
]

are_few : (pieces tries : ℕ) → (pieces ≤ 1 → tries ≤ 2) → (2 ≤ pieces → 2 ^ tries ≤ 8 * (pieces - 1))
    → AreFew pieces tries
are_few pieces tries short long =
    record { short = short; long = long; number = λ few. by_case few (cases_lt 1 pieces) }
  where
    by_case : pieces ≤ 2048 → (1 < pieces) ⊎ (pieces ≤ 1) → tries ≤ 13
    by_case few (inl more) = let all = long more in within tries (omega (arith, all, few))
    by_case few (inr small) = let two = short small in omega (arith, two)

pub first_few : (pieces : ℕ) → AreFew pieces 1
first_few pieces = are_few pieces 1 (λ _. omega arith) (λ more. omega (arith, more))

-- one try more
pub next_few : (pieces tries gap : ℕ) → Room pieces tries gap → AreFew pieces (suc tries)
next_few pieces tries gap room =
    let power : 2 ^ suc tries ≡ 2 ^ tries * 2 = pow-suc 2 tries in
    are_few pieces (suc tries) (λ small. let one = room.short small in omega (arith, one))
    (λ more. let few = room.few more in omega (arith, few, power))
