-- Lists that begin with some turns.
use Rattle.std.specs.Prelude.{ℕ, zero, suc, List, [], ◌∷◌, ◌++◌, ◌≡◌, length, drop, slice_get, refl}
use Rattle.std.proofs.Common.{sym, ◌∙◌, subst}
use Rattle.std.proofs.lemmas.Bool.{true≢false}
use Rattle.layered_search.specs.System.{System}
use Rattle.layered_search.specs.Lists.{IsFull, AreBusy}
use Rattle.layered_search.specs.Asked.{GoAlong, IsOnly}

-- ---- as far as a list goes

pub along_none : (begin : List ℕ) → GoAlong begin []
along_none [] = tt
along_none (j ∷ js) = tt

pub along_push : (begin turns : List ℕ) (i : ℕ) → GoAlong begin turns → IsOnly (slice_get begin (length turns)) i
    → GoAlong begin (turns ++ i ∷ [])
along_push [] turns i so only = tt
along_push (j ∷ js) [] i so only = (only, along_none js)
along_push (j ∷ js) (t ∷ ts) i so only = (so.0, along_push js ts i so.1 only)

-- ---- all of them

-- the list begins with these turns, turn by turn
abbrev pub BeginsWith : List ℕ → List ℕ → Type 0
BeginsWith [] is = Unit {0}
BeginsWith (j ∷ js) [] = ⊥
BeginsWith (j ∷ js) (i ∷ is) = (i ≡ j) × BeginsWith js is

pub begins_to : (begin is : List ℕ) → BeginsWith begin is → (rest : List ℕ) × (is ≡ begin ++ rest)
begins_to [] is h = (is, refl)
begins_to (j ∷ js) [] h = absurd h
begins_to (j ∷ js) (i ∷ is) h = let rest = begins_to js is h.1 in (rest.0, (λ k. h.0 k ∷ rest.1 k))

begins_own : (begin rest : List ℕ) → BeginsWith begin (begin ++ rest)
begins_own [] rest = tt
begins_own (j ∷ js) rest = (refl, begins_own js rest)

pub begins_from : (begin is : List ℕ) → (rest : List ℕ) × (is ≡ begin ++ rest) → BeginsWith begin is
begins_from begin is h = subst (λ (js : List ℕ). BeginsWith begin js) (sym h.1) (begins_own begin h.0)

-- a full list doesn't end before them, where their turns are of actors who have something left to do
pub begins_full : {State : Type 0} (s : System State) (v : State) (begin is : List ℕ) → AreBusy s v begin
    → GoAlong begin is → IsFull s v is → BeginsWith begin is
begins_full s v [] is busy so whole = tt
begins_full s v (j ∷ js) [] busy so over = absurd (true≢false (sym busy.0 ∙ over j))
begins_full s v (j ∷ js) (i ∷ is) busy so whole =
    (so.0, begins_full s (s.turn v j) js is busy.1 so.1 (subst (λ n. IsFull s (s.turn v n) is) so.0 whole.1))

-- ---- one turn, and the rest

pub begin_first : (begin : List ℕ) (k i : ℕ) (is : List ℕ) → BeginsWith (drop k begin) (i ∷ is)
    → IsOnly (slice_get begin k) i × BeginsWith (drop (suc k) begin) is
begin_first [] zero i is begins = (tt, tt)
begin_first [] (suc k) i is begins = (tt, tt)
begin_first (j ∷ js) zero i is begins = begins
begin_first (j ∷ js) (suc k) i is begins = begin_first js k i is begins

pub along_more : (begin : List ℕ) (k i : ℕ) (is : List ℕ) → IsOnly (slice_get begin k) i
    → GoAlong (drop (suc k) begin) is → GoAlong (drop k begin) (i ∷ is)
along_more [] zero i is only so = tt
along_more [] (suc k) i is only so = tt
along_more (j ∷ js) zero i is only so = (only, so)
along_more (j ∷ js) (suc k) i is only so = along_more js k i is only so
