-- Lists of turns are in one order: of two different ones just one is at most the other.
use Rattle.std.specs.Prelude.{◌≡◌, ◌<◌, ℕ, List, [], ◌∷◌, Bool, true, refl}
use Rattle.std.proofs.Common.{⊎_elim, arith}
use Rattle.std.proofs.lemmas.Bool.{false≢true}
use Rattle.schedule_graph.proofs.Ranks.{less_cases}
use Rattle.explore.specs.Explored.{is_less_or, is_not_after, Rank, is_at_most}

never_both : (m n : ℕ) → m < n → n < m → ⊥
never_both m n lt gt = omega arith

never_less : (m n : ℕ) → m < n → n ≡ m → ⊥
never_less m n lt e = omega arith

less_both : (m n : ℕ) (b c : Bool) → is_less_or m n b ≡ true → is_less_or n m c ≡ true → (m ≡ n) × ((b ≡ true) × (c ≡ true))
less_both m n b c e f =
    ⊎_elim
    (λ lt. ⊎_elim (λ gt. absurd (never_both m n lt gt)) (λ q. absurd (never_less m n lt q.0)) (less_cases n m c f))
    (λ p. ⊎_elim (λ gt. absurd (never_less n m gt p.0)) (λ q. (p.0, (p.1, q.1))) (less_cases n m c f))
    (less_cases m n b e)

not_after_both : (is js : List ℕ) → is_not_after is js ≡ true → is_not_after js is ≡ true → is ≡ js
not_after_both [] [] e f = refl
not_after_both [] (j ∷ js) e f = absurd (false≢true f)
not_after_both (i ∷ is) [] e f = absurd (false≢true e)
not_after_both (i ∷ is) (j ∷ js) e f =
    let both = less_both i j (is_not_after is js) (is_not_after js is) e f in
    let rest : is ≡ js = not_after_both is js both.1.0 both.1.1 in
    λ k. both.0 k ∷ rest k

pub ranks_both : (a b : Rank) → is_at_most a b ≡ true → is_at_most b a ≡ true → a.turns ≡ b.turns
ranks_both a b e f =
    let cuts = less_both a.cuts b.cuts (is_less_or a.changes b.changes (is_not_after a.turns b.turns))
    (is_less_or b.changes a.changes (is_not_after b.turns a.turns)) e f in
    let changes = less_both a.changes b.changes (is_not_after a.turns b.turns) (is_not_after b.turns a.turns) cuts.1.0 cuts.1.1 in
    not_after_both a.turns b.turns changes.1.0 changes.1.1
