-- A line that carries a digest of itself: the SHA-256 of all its bytes before the digest.
use Rattle.std.specs.Prelude.{◌≡◌, ◌≢◌, ℕ, List, ◌++◌, length, codes}
use Rattle.hex.specs.Hex.{encode_lower}
use Rattle.sha2.specs.Sha256.{sha256}
use Rattle.explore_parts.specs.declared.seal.SealFault.{SealFault}
use Rattle.explore_parts.specs.declared.seal.SealFault.TheVariants.{NoSum, Spoilt, NoMemory}

-- 64 digits
abbrev pub sum_of : List ℕ → List ℕ
sum_of bytes = encode_lower (sha256 bytes)

-- the end of an object of JSON, with a digest
abbrev pub with_sum : List ℕ → List ℕ → List ℕ
with_sum body sum = body ++ (codes ",\"sum\":\"" ++ (sum ++ codes "\"}"))

abbrev pub sealed : List ℕ → List ℕ
sealed body = with_sum body (sum_of body)

-- a line that ends with 64 digits which aren't its digest
pub record IsSpoilt (line : List ℕ) : Type 0 where
  pub body : List ℕ
  pub sum : List ℕ
  pub ends_so : line ≡ with_sum body sum
  pub long : length sum ≡ 64
  pub other : sum ≢ sum_of body

-- a line that doesn't end so
abbrev pub HasNoSum : List ℕ → Type 0
HasNoSum line = (body sum : List ℕ) → length sum ≡ 64 → line ≡ with_sum body sum → ⊥

-- it ends with its own digest
abbrev pub IsSealed : List ℕ → Type 0
IsSealed line = (body : List ℕ) × (line ≡ sealed body)

abbrev pub WhyNotSealed : List ℕ → SealFault → Type 0
WhyNotSealed line NoSum = HasNoSum line
WhyNotSealed line Spoilt = IsSpoilt line
WhyNotSealed line NoMemory = Unit {0}
