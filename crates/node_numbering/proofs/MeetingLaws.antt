-- How numbers are given, one node after another.
use Rattle.std.proofs.Common.{◌≡◌, ◌==◌, ℕ, zero, suc, ◌+◌, ◌-◌, ◌<◌, ◌≤◌, ◌++◌, Bool, true, false, List, [], ◌∷◌, refl, sym, ap, ◌∙◌, subst, arith}
use Rattle.std.specs.Option.{option_map_or}
use Rattle.std.specs.Prelude.{not, if◌then◌else◌, Option, Some, None}
use Rattle.std.proofs.lemmas.Bool.{true≢false, false≢true}
use Rattle.race_core.specs.declared.report.Outcome.{Outcome}
use Rattle.tree_model.specs.declared.inode.Inode.{Inode}
use Rattle.node_numbering.specs.declared.exchange.Exchange.{Exchange}
use Rattle.node_numbering.specs.Meeting.{found, exchange_to, numbered_on}

module _ (named : List ℕ) (nodes : List Inode) (replies : List (List Outcome)) where
  -- no more numbers are given where none is met
  pub stops : (left next : ℕ) (es : List Exchange) → found named nodes replies es next ≡ None
      → numbered_on named nodes replies left next es ≡ es
  stops zero next es e = refl
  stops (suc left) next es e =
      ap (λ (o : Option ℕ). option_map_or (λ y. numbered_on named nodes replies left (suc next) (es ++ exchange_to next y)) o es) e

  -- the node that is met gets its number
  goes_on : (left next y : ℕ) (es : List Exchange) → found named nodes replies es next ≡ Some y
      → numbered_on named nodes replies (suc left) next es ≡ numbered_on named nodes replies left (suc next) (es ++ exchange_to next y)
  goes_on left next y es e =
      ap (λ (o : Option ℕ). option_map_or (λ z. numbered_on named nodes replies left (suc next) (es ++ exchange_to next z)) o es) e

  pub goes : (many next y : ℕ) (es more : List Exchange) → next < many → found named nodes replies es next ≡ Some y
      → more ≡ es ++ exchange_to next y
      → numbered_on named nodes replies (many - next) next es ≡ numbered_on named nodes replies (many - (next + 1)) (next + 1) more
  goes many next y es more lt e is =
      let one : many - next ≡ suc (many - (next + 1)) = omega arith in
      let after : suc next ≡ next + 1 = omega arith in
      ap (λ (n : ℕ). numbered_on named nodes replies n next es) one
      ∙ goes_on (many - (next + 1)) next y es e
      ∙ ap (λ (n : ℕ). numbered_on named nodes replies (many - (next + 1)) n (es ++ exchange_to next y)) after
      ∙ ap (λ (ds : List Exchange). numbered_on named nodes replies (many - (next + 1)) (next + 1) ds) (sym is)

  pub ends : (many next : ℕ) (es : List Exchange) → many ≤ next → numbered_on named nodes replies (many - next) next es ≡ es
  ends many next es le =
      let none : many - next ≡ 0 = omega arith in
      ap (λ (n : ℕ). numbered_on named nodes replies n next es) none

  -- the search began with these exchanges and that number
  pub found_there : (es ds : List Exchange) (next n : ℕ) (o : Option ℕ) → ds ≡ es → n ≡ next → o ≡ found named nodes replies ds n
      → found named nodes replies es next ≡ o
  found_there es ds next n o e f g =
      ap (λ (cs : List Exchange). found named nodes replies cs next) (sym e) ∙ (ap (λ (k : ℕ). found named nodes replies ds k) (sym f) ∙ sym g)

is_false : (b : Bool) → true ≡ not b → b ≡ false
is_false true e = absurd (true≢false e)
is_false false e = refl

is_true : (b : Bool) → false ≡ not b → b ≡ true
is_true true e = refl
is_true false e = absurd (false≢true e)

-- the exchange that was added, or that there was no need of one
pub gives : (next one other : ℕ) → one ≡ next → true ≡ not (one == other) → record { one = one; other = other } ∷ [] ≡ exchange_to next other
gives next one other e ne =
    subst (λ (n : ℕ). record { one = one; other = other } ∷ [] ≡ exchange_to n other) e
    (sym (ap (λ (b : Bool). if b then [] else record { one = one; other = other } ∷ []) (is_false (one == other) ne)))

pub keeps : (next one other : ℕ) → one ≡ next → false ≡ not (one == other) → [] ≡ exchange_to next other
keeps next one other e eq =
    subst (λ (n : ℕ). [] ≡ exchange_to n other) e
    (sym (ap (λ (b : Bool). if b then [] else record { one = one; other = other } ∷ []) (is_true (one == other) eq)))
