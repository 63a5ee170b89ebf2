-- What records tell, one after another.
use Rattle.std.proofs.Common.{◌≡◌, ◌≤◌, ◌<◌, ◌+◌, ◌-◌, ℕ, zero, suc, List, [], ◌∷◌, Bool, true, false, not, length, take, drop, refl, ap, sym, subst, ◌∙◌, arith, Option, Some}
use Rattle.std.specs.Prelude.{if◌then◌else◌}
use Rattle.std.proofs.lemmas.List.{drop-drop, length-drop, take_rest}
use Rattle.std.proofs.Math.Seq.{drop-nil}
use Rattle.system_calls.specs.Listing.{is_entry, name_told, size_told, HEAD_SIZE}
use Rattle.system_calls.specs.Entries.{is_told_name, told_behind, told_in, type_told, with_record, IsBehind, Told}
use Rattle.system_calls.specs.Entries.Told.{entry, fault}

behind_is : (first : ℕ) (bytes : List ℕ) → told_behind first bytes ≡ told_in (drop first bytes)
behind_is first [] = sym (ap told_in (drop-nil first))
behind_is zero (b ∷ bytes) = refl
behind_is (suc first) (b ∷ bytes) = behind_is first bytes

-- the first record, and then those behind it
told_first : (bytes : List ℕ) (name : Option (List ℕ)) → 0 < length bytes → name_told bytes ≡ name
    → 0 < size_told bytes
    → told_in bytes ≡ with_record name (type_told bytes) (told_in (drop (size_told bytes) bytes))
told_first [] name some is size = absurd (omega (arith, some))
told_first (b ∷ bytes) name some is size =
    let one : suc (size_told (b ∷ bytes) - 1) ≡ size_told (b ∷ bytes) = omega (arith, size) in
    ap (λ n. with_record n (type_told (b ∷ bytes)) (told_behind (size_told (b ∷ bytes) - 1) bytes)) is
    ∙ ap (with_record name (type_told (b ∷ bytes))) (behind_is (size_told (b ∷ bytes) - 1) bytes)
    ∙ ap (λ k. with_record name (type_told (b ∷ bytes)) (told_in (drop k (b ∷ bytes)))) one

-- the last bytes of the last bytes
behind_more : (bytes rest : List ℕ) (size : ℕ) → IsBehind bytes rest → size ≤ length rest
    → IsBehind bytes (drop size rest)
behind_more bytes rest size behind few =
    let shorter : length (drop size rest) ≡ length rest - size = length-drop size rest in
    let sum : (length bytes - length rest) + size ≡ length bytes - length (drop size rest) =
    omega (arith, shorter, behind.0, few) in (
      omega (arith, shorter, behind.0),
      ap (drop size) behind.1 ∙ drop-drop size (length bytes - length rest) bytes ∙ ap (λ k. drop k bytes) sum,
    )

-- ---- one record more

-- what is behind a record, as a slice
rest_of : (rest behind : List ℕ) (size : ℕ) → behind ≡ take (length rest - size) (drop size rest) → drop size rest ≡ behind
rest_of rest behind size is = sym (is ∙ take_rest rest size)

by_entry : (name : List ℕ) (type : ℕ) (others : List Told) (is told : Bool) → is_entry name ≡ is → is_told_name name ≡ told
    → with_record (Some name) type others
    ≡ (if not is then others else (if told then entry name type ∷ others else fault ∷ []))
by_entry name type others is told i t =
    ap (λ b. if not b then others else (if is_told_name name then entry name type ∷ others else fault ∷ [])) i
    ∙ ap (λ b. if not is then others else (if b then entry name type ∷ others else fault ∷ [])) t

pub told_entry : (records rest name behind : List ℕ) (size : ℕ) → told_in records ≡ told_in rest → IsBehind records rest
    → size ≡ size_told rest → HEAD_SIZE < size → size ≤ length rest → name_told rest ≡ Some name → is_entry name ≡ true
    → is_told_name name ≡ true → behind ≡ take (length rest - size) (drop size rest)
    → (told_in records ≡ entry name (type_told rest) ∷ told_in behind) × IsBehind records behind
told_entry records rest name behind size same is_rest is long few told an_entry a_name slice =
    let next = rest_of rest behind size slice in (
      same ∙ told_first rest (Some name) (omega (arith, long, few)) told (omega (arith, is, long))
          ∙ ap (λ k. with_record (Some name) (type_told rest) (told_in (drop k rest))) (sym is)
          ∙ ap (λ l. with_record (Some name) (type_told rest) (told_in l)) next
          ∙ by_entry name (type_told rest) (told_in behind) true true an_entry a_name,
      subst (IsBehind records) next (behind_more records rest size is_rest few),
    )

pub told_passed : (records rest name behind : List ℕ) (size : ℕ) → told_in records ≡ told_in rest → IsBehind records rest
    → size ≡ size_told rest → HEAD_SIZE < size → size ≤ length rest → name_told rest ≡ Some name → is_entry name ≡ false
    → behind ≡ take (length rest - size) (drop size rest)
    → (told_in records ≡ told_in behind) × IsBehind records behind
told_passed records rest name behind size same is_rest is long few told none slice =
    let next = rest_of rest behind size slice in (
      same ∙ told_first rest (Some name) (omega (arith, long, few)) told (omega (arith, is, long))
          ∙ ap (λ k. with_record (Some name) (type_told rest) (told_in (drop k rest))) (sym is)
          ∙ ap (λ l. with_record (Some name) (type_told rest) (told_in l)) next
          ∙ by_entry name (type_told rest) (told_in behind) false (is_told_name name) none refl,
      subst (IsBehind records) next (behind_more records rest size is_rest few),
    )
