-- Lists of handles, place by place: what the comparison of two handle tables goes through.
use Rattle.std.specs.Prelude.{◌≡◌, ◌<◌, ◌≤◌, ℕ, ◌+◌, List, length, slice_get, Some, refl}
use Rattle.std.proofs.Common.{sym, ap, ◌∙◌, subst, ⊎_elim, arith, get_or}
use Rattle.std.proofs.lemmas.Option.{same_Some, slice_get_within, slice_get_read}
use Rattle.layered_search.proofs.Places.{at_or_below}
use Rattle.local_states.specs.HandleTables.{AreGivenAs, AreGivenPairs}
use Rattle.local_states.specs.Paired.{AreAt, IsApartBefore}

pub at_places : (hs ks : List ℕ) (i h k : ℕ) → i < length hs → i < length ks → h ≡ get_or hs i h → k ≡ get_or ks i k
    → AreAt hs ks i h k
at_places hs ks i h k lt lt' p q =
    record { here = slice_get_read hs (length hs) i h refl lt p; there = slice_get_read ks (length ks) i k refl lt' q }

-- what holds of each pair before that place
abbrev pub PairedBefore : ℕ → ℕ → List ℕ → List ℕ → ℕ → Type 0
PairedBefore given others hs ks n = (at h k : ℕ) → at < n → AreAt hs ks at h k
    → AreGivenAs given others h k × IsApartBefore hs ks h k at

pub paired_more : (given others : ℕ) (hs ks : List ℕ) (n h k : ℕ) → PairedBefore given others hs ks n
    → AreAt hs ks n h k → AreGivenAs given others h k → IsApartBefore hs ks h k n
    → PairedBefore given others hs ks (n + 1)
paired_more given others hs ks n h k before are alike apart at i j lt those =
    ⊎_elim (λ below. before at i j below those) here (at_or_below at n lt)
  where
    here : at ≡ n → AreGivenAs given others i j × IsApartBefore hs ks i j at
    here e =
        let p : h ≡ i = same_Some _ _ (sym are.here ∙ (ap (λ m. slice_get hs m) (sym e) ∙ those.here)) in
        let q : k ≡ j = same_Some _ _ (sym are.there ∙ (ap (λ m. slice_get ks m) (sym e) ∙ those.there)) in
        let Both : ℕ → ℕ → ℕ → Type 0 = λ m a b. AreGivenAs given others a b × IsApartBefore hs ks a b m in
        subst (λ m. Both m i j) (sym e) (subst (λ b. Both n i b) q (subst (λ a. Both n a k) p (alike, apart)))

pub paired_all : (given others : ℕ) (hs ks : List ℕ) (n : ℕ) → length hs ≤ n → PairedBefore given others hs ks n
    → AreGivenPairs given others hs ks
paired_all given others hs ks n over before = record {
  given = λ at h k are. (before at h k (within at h are.here) are).0;
  apart = λ at h k are. (before at h k (within at h are.here) are).1;
}
  where
    within : (at h : ℕ) → slice_get hs at ≡ Some h → at < n
    within at h e = let lt : at < length hs = slice_get_within hs at h e in omega arith
