-- Pieces that are added one after another, and blocks behind their lines.
use Rattle.std.proofs.Common.{◌≡◌, ◌<◌, ◌+◌, ◌⊎◌, ⊎_elim, ℕ, List, [], ◌∷◌, ◌++◌, length, take, get_or, refl, sym, ap, ◌∙◌, arith}
use Rattle.std.specs.Prelude.{Option, Some, None}
use Rattle.std.proofs.lemmas.List.{append_assoc, append-nil, take_more, length-take-le}
use Rattle.outcome_text.specs.declared.survey.Told.{Told}
use Rattle.outcome_text.specs.Survey.{block_of, woven}

pub three_added : (a b c d first second third : List ℕ) → first ≡ a → second ≡ first ++ b → third ≡ second ++ c
    → third ++ d ≡ a ++ (b ++ (c ++ d))
three_added a b c d first second third is_first is_second is_third =
    ap (λ bs. bs ++ d) is_third ∙ append_assoc second c d
    ∙ ap (λ bs. bs ++ (c ++ d)) is_second ∙ append_assoc first b (c ++ d)
    ∙ ap (λ bs. bs ++ (b ++ (c ++ d))) is_first

-- one more outcome, with its line or with none
pub woven_more : (heads : List (Option (List ℕ))) (front : List Told) (head : Option (List ℕ)) (told : Told) → length heads ≡ length front
    → woven (heads ++ head ∷ []) (front ++ told ∷ []) ≡ woven heads front ++ woven (head ∷ []) (told ∷ [])
woven_more [] [] head told e = refl
woven_more [] (t ∷ front) head told e = absurd (omega (arith, e))
woven_more (h ∷ heads) [] head told e = absurd (omega (arith, e))
woven_more (None ∷ heads) (t ∷ front) head told e = woven_more heads front head told (omega (arith, e))
woven_more (Some h ∷ heads) (t ∷ front) head told e =
    ap (λ bs. (h ++ block_of t) ++ bs) (woven_more heads front head told (omega (arith, e)))
    ∙ sym (append_assoc (h ++ block_of t) (woven heads front) (woven (head ∷ []) (told ∷ [])))

-- where no outcome is left, or no line, there is no block
pub woven_over : (heads : List (Option (List ℕ))) (all : List Told) → (length all ≡ 0) ⊎ (length heads ≡ 0) → woven heads all ≡ []
woven_over [] all none = refl
woven_over (head ∷ heads) [] none = refl
woven_over (head ∷ heads) (told ∷ all) none = absurd (⊎_elim (λ e. omega (arith, e)) (λ e. omega (arith, e)) none)

-- the outcome at a place, with its line or with none
pub woven_at : (heads new : List (Option (List ℕ))) (all : List Told) (at : ℕ) (head : Option (List ℕ)) (told : Told)
    → at < length all → told ≡ get_or all at told → length heads ≡ at → new ≡ heads ++ head ∷ []
    → woven new (take (at + 1) all) ≡ woven heads (take at all) ++ woven (head ∷ []) (told ∷ [])
woven_at heads new all at head told within there many is =
    ap (λ (hs : List (Option (List ℕ))). woven hs (take (at + 1) all)) is
    ∙ ap (woven (heads ++ head ∷ [])) (take_more all at told within ∙ ap (λ (t : Told). take at all ++ t ∷ []) (sym there))
    ∙ woven_more heads (take at all) head told (many ∙ sym (length-take-le at all (omega (arith, within))))

-- the first of those that are left
pub woven_next : (done : List ℕ) (heads others : List (Option (List ℕ))) (all rest : List Told) (head : Option (List ℕ)) (told : Told) (whole : List ℕ)
    → heads ≡ head ∷ others → all ≡ told ∷ rest → done ++ woven heads all ≡ whole
    → (done ++ woven (head ∷ []) (told ∷ [])) ++ woven others rest ≡ whole
woven_next done heads others all rest head told whole first one h =
    append_assoc done (woven (head ∷ []) (told ∷ [])) (woven others rest)
    ∙ ap (λ (bs : List ℕ). done ++ bs) (by head ∙ ap (λ (hs : List (Option (List ℕ))). woven hs (told ∷ rest)) (sym first) ∙ ap (woven heads) (sym one)) ∙ h
  where
    by : (o : Option (List ℕ)) → woven (o ∷ []) (told ∷ []) ++ woven others rest ≡ woven (o ∷ others) (told ∷ rest)
    by None = refl
    by (Some line) = ap (λ (bs : List ℕ). bs ++ woven others rest) (append-nil (line ++ block_of told))
