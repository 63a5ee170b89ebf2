-- What exchanges do to a number, and back.
use Rattle.std.specs.Prelude.{◌≡◌, ◌<◌, ◌≤◌, ◌+◌, ◌++◌, ℕ, length, List, [], ◌∷◌, refl}
use Rattle.std.proofs.Common.{◌⊎◌, ◌∙◌, inr, sym, ap, arith, take, get_or, ⊎_elim, ◌-◌}
use Rattle.std.proofs.lemmas.List.{take_more}
use Rattle.std.proofs.lemmas.Bool.Decides.{nat_tests}
use Rattle.node_numbering.specs.declared.exchange.Exchange.{Exchange}
use Rattle.node_numbering.specs.Exchanges.{exchanged, after_all, before_all, AreWithin}

exchanged_twice : (a b x : ℕ) → exchanged a b (exchanged a b x) ≡ x
exchanged_twice a b x = grind (arith, nat_tests)

pub back_again : (es : List Exchange) (x : ℕ) → before_all es (after_all es x) ≡ x
back_again [] x = refl
back_again (e ∷ es) x = ap (exchanged e.one e.other) (back_again es (exchanged e.one e.other x)) ∙ exchanged_twice e.one e.other x

pub there_again : (es : List Exchange) (x : ℕ) → after_all es (before_all es x) ≡ x
there_again [] x = refl
there_again (e ∷ es) x = ap (after_all es) (exchanged_twice e.one e.other (before_all es x)) ∙ there_again es x

stays : (a b x n m : ℕ) → (n ≤ a) × (a < m) → (n ≤ b) × (b < m) → (x < n) ⊎ (m ≤ x) → exchanged a b x ≡ x
stays a b x n m one other outside = grind (arith, nat_tests)

-- a number outside stays
pub stays_outside : (n m : ℕ) (es : List Exchange) (x : ℕ) → AreWithin n m es → (x < n) ⊎ (m ≤ x) → after_all es x ≡ x
stays_outside n m [] x within outside = refl
stays_outside n m (e ∷ es) x within outside =
    ap (after_all es) (stays e.one e.other x n m within.0 within.1.0 outside) ∙ stays_outside n m es x within.1.1 outside

-- a number inside was inside
pub was_below : (n m : ℕ) (es : List Exchange) (x : ℕ) → AreWithin n m es → x < m → before_all es x < m
was_below n m es x within below =
    ⊎_elim (λ lt. lt) (λ past. absurd (no (sym (stays_outside n m es (before_all es x) within (inr past)) ∙ there_again es x) past)) (either (before_all es x))
  where
    either : (y : ℕ) → (y < m) ⊎ (m ≤ y)
    either y = grind arith

    no : before_all es x ≡ x → m ≤ before_all es x → ⊥
    no same past = omega (arith, below)

pub within_more : (n m : ℕ) (es : List Exchange) (e : Exchange) → AreWithin n m es → (n ≤ e.one) × (e.one < m) → (n ≤ e.other) × (e.other < m) → AreWithin n m (es ++ e ∷ [])
within_more n m [] e within one other = (one, (other, tt))
within_more n m (d ∷ es) e within one other = (within.0, (within.1.0, within_more n m es e within.1.1 one other))

-- the last exchange is the first one that is taken back
pub before_last : (es : List Exchange) (e : Exchange) (x : ℕ) → before_all (es ++ e ∷ []) x ≡ before_all es (exchanged e.one e.other x)
before_last [] e x = refl
before_last (d ∷ es) e x = ap (exchanged d.one d.other) (before_last es e x)

-- and what is left of them comes to the same
pub taken_back : (es : List Exchange) (left : ℕ) (e : Exchange) (x y : ℕ) → 0 < left → left ≤ length es → e ≡ get_or es (left - 1) e
    → y ≡ exchanged e.one e.other x → before_all (take (left - 1) es) y ≡ before_all (take left es) x
taken_back es left e x y some within is came =
    let k = left - 1 in
    let more : k + 1 ≡ left = omega arith in
    let whole : take left es ≡ take k es ++ e ∷ [] =
    ap (λ (n : ℕ). take n es) (sym more) ∙ take_more es k e (omega arith) ∙ ap (λ (d : Exchange). take k es ++ d ∷ []) (sym is) in
    ap (before_all (take k es)) came ∙ sym (before_last (take k es) e x) ∙ ap (λ (ds : List Exchange). before_all ds x) (sym whole)

pub from_zero : (n m : ℕ) (es : List Exchange) → AreWithin n m es → AreWithin 0 m es
from_zero n m [] within = tt
from_zero n m (e ∷ es) within = ((omega arith, within.0.1), ((omega arith, within.1.0.1), from_zero n m es within.1.1))
