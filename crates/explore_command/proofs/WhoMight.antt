-- Who might have a turn, told of one actor more, and of one turn more; and beginnings up to a turn that can't be taken.
use Rattle.std.specs.Prelude.{◌≡◌, ◌⊎◌, ◌+◌, ◌++◌, ℕ, zero, suc, List, [], ◌∷◌, false, length, take, slice_get, Some, refl}
use Rattle.std.specs.Global.{Vec}
use Rattle.std.proofs.Common.{inl, inr, sym, ap, subst, ⊎_elim, below_more}
use Rattle.std.proofs.lemmas.Option.{same_Some, none-some}
use Rattle.local_states.specs.Worlds.{after_turns}
use Rattle.explore.specs.Explored.{Scope, IsWithin, cuts}
use Rattle.race_core.specs.Worlds.{WorldView, is_busy_at}
use Rattle.schedule_graph.specs.Counted.{IsAmong}
use Rattle.explore_command.specs.Part.{IsBarredAt, IsBarred, AreWhoMight, AreEachWhoMight}

-- ---- one actor more

pub one_more : (w : WorldView) (scope : Scope) (actor : ℕ) (turns might more : List ℕ) → AreWhoMight w scope actor turns might
    → ((other : ℕ) → IsAmong other might → IsAmong other more) → IsAmong actor more ⊎ IsBarred w scope (turns ++ actor ∷ [])
    → AreWhoMight w scope (actor + 1) turns more
one_more w scope actor turns might more each stay last =
    below_more (λ (other : ℕ). IsAmong other more ⊎ IsBarred w scope (turns ++ other ∷ [])) actor
    (λ other lt. ⊎_elim (λ among. inl (stay other among)) (λ barred. inr barred) (each other lt)) last

-- ---- one turn more

-- what holds of each, by its place, and of one more at the end
at_each : (P : ℕ → List ℕ → Type 0) (all : List (Vec ℕ)) (last : Vec ℕ)
    → ((at : ℕ) (one : Vec ℕ) → slice_get all at ≡ Some one → P at one.items) → P (length all) last.items
    → (at : ℕ) (one : Vec ℕ) → slice_get (all ++ last ∷ []) at ≡ Some one → P at one.items
at_each P [] last each holds zero one there = subst (λ (v : Vec ℕ). P zero v.items) (same_Some last one there) holds
at_each P [] last each holds (suc at) one there = absurd (none-some one there)
at_each P (x ∷ xs) last each holds zero one there = each zero one there
at_each P (x ∷ xs) last each holds (suc at) one there = at_each (λ n. P (suc n)) xs last (λ n v h. each (suc n) v h) holds at one there

pub one_turn_more : (w : WorldView) (scope : Scope) (actors : ℕ) (begin : List ℕ) (all : List (Vec ℕ)) (last : Vec ℕ)
    → AreEachWhoMight w scope actors begin all → AreWhoMight w scope actors (take (length all) begin) last.items
    → AreEachWhoMight w scope actors begin (all ++ last ∷ [])
one_turn_more w scope actors begin all last each holds =
    at_each (λ (at : ℕ) (might : List ℕ). AreWhoMight w scope actors (take at begin) might) all last each holds

-- ---- up to a turn that can't be taken

there_first : (begin : List ℕ) (at actor : ℕ) → slice_get begin at ≡ Some actor → slice_get (take (suc at) begin) at ≡ Some actor
there_first [] at actor there = absurd (none-some actor there)
there_first (i ∷ is) zero actor there = there
there_first (i ∷ is) (suc at) actor there = there_first is at actor there

before_first : (begin : List ℕ) (at : ℕ) → take at (take (suc at) begin) ≡ take at begin
before_first [] zero = refl
before_first [] (suc at) = refl
before_first (i ∷ is) zero = refl
before_first (i ∷ is) (suc at) = ap (λ (js : List ℕ). i ∷ js) (before_first is at)

first_again : (begin : List ℕ) (n : ℕ) → take n (take n begin) ≡ take n begin
first_again begin zero = refl
first_again [] (suc n) = refl
first_again (i ∷ is) (suc n) = ap (λ (js : List ℕ). i ∷ js) (first_again is n)

pub barred_first : (w : WorldView) (scope : Scope) (begin : List ℕ) (at : ℕ) → IsBarredAt w scope begin at
    → IsBarred w scope (take (suc at) begin)
barred_first w scope begin at (inl idle) = (
  at,
  inl (record {
    actor = idle.actor;
    there = there_first begin at idle.actor idle.there;
    idle = subst (λ (js : List ℕ). is_busy_at (after_turns w js).seats idle.actor ≡ false) (sym (before_first begin at)) idle.idle;
  }),
)
barred_first w scope begin at (inr many) =
    (at, inr (λ few. many (subst (λ (js : List ℕ). IsWithin scope.cuts (cuts w js)) (first_again begin (suc at)) few)))
