-- The numbers that texts say, read one after another.
use Rattle.std.proofs.Common.{◌≡◌, ℕ, ◌+◌, ◌<◌, ◌≤◌, Bor, List, [], ◌∷◌, ◌++◌, length, drop, get_or, subst}
use Rattle.std.specs.Prelude.{◌≢◌, ◌^◌, Option, Some, None, MatchOption, decimal}
use Rattle.std.proofs.lemmas.List.{append-nil, drop_more, drop_all}
use Rattle.explore_parts.specs.Options.{AllSay}
use Rattle.outcome_text.specs.Asked.{texts_in}

-- what was read so far and what the texts left say are what all say
pub record IsSaidSoFar (texts left : List (List ℕ)) (all : List ℕ) : Type 0 where
  pub onward : (rest : List ℕ) → AllSay left rest → AllSay texts (all ++ rest)
  pub back : (numbers : List ℕ) → AllSay texts numbers → (rest : List ℕ) × AllSay left rest

-- where a text says none, the whole says none
none_said : (texts : List (List ℕ)) (text : List ℕ) (left : List (List ℕ)) (all : List ℕ) → ((n : ℕ) → n < 2 ^ 32 → text ≢ decimal n)
    → IsSaidSoFar texts (text ∷ left) all → (numbers : List ℕ) → AllSay texts numbers → ⊥
none_said texts text left all none so_far numbers says = let r = so_far.back numbers says in by r.0 r.1
  where
    by : (rest : List ℕ) → AllSay (text ∷ left) rest → ⊥
    by [] says = absurd says
    by (first ∷ more) says = none first says.0.0 says.0.1

-- the same of a list of texts, of which some were read
pub none_there : (texts : List (Bor (List ℕ))) (i : ℕ) (d : Bor (List ℕ)) (all : List ℕ) (said : Option ℕ) → i < length texts
    → MatchOption said ((n : ℕ) → n < 2 ^ 32 → (get_or texts i d).now ≢ decimal n) (λ n. (get_or texts i d).now ≡ decimal n) → said ≡ None
    → IsSaidSoFar (texts_in texts) (texts_in (drop i texts)) all → (numbers : List ℕ) → AllSay (texts_in texts) numbers → ⊥
none_there texts i d all None within none is so_far =
    none_said (texts_in texts) (get_or texts i d).now (texts_in (drop (i + 1) texts)) all none
    (subst (λ (left : List (Bor (List ℕ))). IsSaidSoFar (texts_in texts) (texts_in left) all) (drop_more texts i d within) so_far)
none_there texts i d all (Some one) within says is so_far = absurd (cc (is))

pub all_there : (texts : List (Bor (List ℕ))) (i : ℕ) (all : List ℕ) → length texts ≤ i → IsSaidSoFar (texts_in texts) (texts_in (drop i texts)) all
    → AllSay (texts_in texts) all
all_there texts i all over so_far =
    let none_left : IsSaidSoFar (texts_in texts) [] all = subst (λ (left : List (Bor (List ℕ))). IsSaidSoFar (texts_in texts) (texts_in left) all) (drop_all i texts over) so_far in
    subst (λ (numbers : List ℕ). AllSay (texts_in texts) numbers) (append-nil all) (none_left.onward [] tt)
