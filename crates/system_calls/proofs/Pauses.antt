-- The pause after each try, where it doubles and where it doesn't any more.
use Rattle.std.proofs.Common.{◌≡◌, ℕ, ◌-◌, ◌*◌, ◌%◌, ◌^◌, ◌≤◌, ◌<◌, min, nat_lt, sym, ◌∙◌, arith}
use Rattle.std.proofs.Math.Nat.{pow-le-pow_right}
use Rattle.std.proofs.lemmas.Bool.{cond-false, le-ltb}
use Rattle.system_calls.specs.Tries.{pause_after}

pause_later : (tries : ℕ) → 8 ≤ tries → pause_after tries ≡ min (10000 * 2 ^ (tries - 8)) 1000000
pause_later tries h = cond-false (nat_lt tries 8) 0 (min (10000 * 2 ^ (tries - 8)) 1000000) (le-ltb tries 8 h)

doubled : (times : ℕ) → times ≤ 6 → 10000 * 2 ^ times % 4294967296 ≡ min (10000 * 2 ^ times) 1000000
doubled times few = let small : 2 ^ times ≤ 64 = pow-le-pow_right (omega arith) few in omega (arith, small)

grown : (times : ℕ) → 7 ≤ times → 1000000 ≡ min (10000 * 2 ^ times) 1000000
grown times many = let large : 128 ≤ 2 ^ times = pow-le-pow_right (omega arith) many in omega (arith, large)

pub pause_after-doubled : (tries : ℕ) → 8 ≤ tries → tries - 8 ≤ 6 → 10000 * 2 ^ (tries - 8) % 4294967296 ≡ pause_after tries
pause_after-doubled tries later few = doubled (tries - 8) few ∙ sym (pause_later tries later)

pub pause_after-grown : (tries : ℕ) → 8 ≤ tries → 6 < tries - 8 → 1000000 ≡ pause_after tries
pause_after-grown tries later many = grown (tries - 8) many ∙ sym (pause_later tries later)
