-- Walks whose handles get their numbers from a list, one by one.
use Rattle.std.specs.Prelude.{◌≡◌, ℕ, List, [], ◌∷◌, ◌++◌, refl}
use Rattle.std.proofs.Common.{sym, ap, ◌∙◌}
use Rattle.step_resolver.specs.Order.{Handle, Position, root_itself, holds, After, gives, onward, judges, Walking, opening, reading, rising, judging, duping, ending, closing}
use Rattle.step_resolver.specs.Renamed.{numbers_by, walk_after_by, walking_by, walk_after_handles, walking_handles, LikeWalksAgree}

-- ---- the numbers of a list: the first, and the others

abbrev first_of_all : List ℕ → ℕ
first_of_all [] = 0
first_of_all (n ∷ ns) = n

abbrev others_of : List ℕ → List ℕ
others_of [] = []
others_of (n ∷ ns) = ns

-- as many of the numbers as there are handles, and those after them
abbrev as_many : List ℕ → List ℕ → List ℕ
as_many [] ns = []
as_many (h ∷ hs) ns = first_of_all ns ∷ as_many hs (others_of ns)

abbrev after_as_many : List ℕ → List ℕ → List ℕ
after_as_many [] ns = ns
after_as_many (h ∷ hs) ns = after_as_many hs (others_of ns)

as_many_by : (f g : ℕ → ℕ) (hs rest : List ℕ) → as_many (numbers_by g hs) (numbers_by f (hs ++ rest)) ≡ numbers_by f hs
as_many_by f g [] rest = refl
as_many_by f g (h ∷ hs) rest = ap (λ ns. f h ∷ ns) (as_many_by f g hs rest)

after_as_many_by : (f g : ℕ → ℕ) (hs rest : List ℕ) → after_as_many (numbers_by g hs) (numbers_by f (hs ++ rest)) ≡ numbers_by f rest
after_as_many_by f g [] rest = refl
after_as_many_by f g (h ∷ hs) rest = after_as_many_by f g hs rest

-- ---- walks with the numbers of a list

abbrev handle_with : Handle → List ℕ → Handle
handle_with handle ns = record handle { number = first_of_all ns }

abbrev position_with : Position → List ℕ → Position
position_with root_itself ns = root_itself
position_with (holds handle names) ns = holds (handle_with handle ns) names

-- what is left of the numbers after those of a place
abbrev after_position : Position → List ℕ → List ℕ
after_position root_itself ns = ns
after_position (holds handle names) ns = others_of ns

abbrev after_with : After → List ℕ → After
after_with (gives error) ns = gives error
after_with (onward position rest) ns = onward (position_with position ns) rest
after_with (judges handle names rest) ns = judges (handle_with handle ns) names rest

abbrev walking_with : Walking → List ℕ → Walking
walking_with (opening position own follow n rest) ns = opening (position_with position ns) own follow n rest
walking_with (reading position link rest) ns = reading (position_with position ns) (handle_with link (after_position position ns)) rest
walking_with (rising handle names rest) ns = rising (handle_with handle ns) names rest
walking_with (judging handle names rest) ns = judging (handle_with handle ns) names rest
walking_with (duping rest) ns = duping rest
walking_with (ending handle names rest) ns = ending (handle_with handle ns) names rest
walking_with (closing h hs after) ns = closing (first_of_all ns) (as_many hs (others_of ns)) (after_with after (after_as_many hs (others_of ns)))

after_with_by : (f g : ℕ → ℕ) (after : After) → after_with (walk_after_by g after) (numbers_by f (walk_after_handles after)) ≡ walk_after_by f after
after_with_by f g (gives error) = refl
after_with_by f g (onward root_itself rest) = refl
after_with_by f g (onward (holds handle names) rest) = refl
after_with_by f g (judges handle names rest) = refl

-- the numbers of its own handles, whichever stood there before
walking_with_by : (f g : ℕ → ℕ) (w : Walking) → walking_with (walking_by g w) (numbers_by f (walking_handles w)) ≡ walking_by f w
walking_with_by f g (opening root_itself own follow n rest) = refl
walking_with_by f g (opening (holds handle names) own follow n rest) = refl
walking_with_by f g (reading root_itself link rest) = refl
walking_with_by f g (reading (holds handle names) link rest) = refl
walking_with_by f g (rising handle names rest) = refl
walking_with_by f g (judging handle names rest) = refl
walking_with_by f g (duping rest) = refl
walking_with_by f g (ending handle names rest) = refl
walking_with_by f g (closing h hs after) =
    let kept = as_many_by f g hs (walk_after_handles after) in
    let left = after_as_many_by f g hs (walk_after_handles after) in
    ap (λ (ns : List ℕ). closing (f h) ns (after_with (walk_after_by g after) (after_as_many (numbers_by g hs) (numbers_by f (hs ++ walk_after_handles after))))) kept
    ∙ (ap (λ (ns : List ℕ). closing (f h) (numbers_by f hs) (after_with (walk_after_by g after) ns)) left
    ∙ ap (λ (later : After). closing (f h) (numbers_by f hs) later) (after_with_by f g after))

pub like_walks_agree : LikeWalksAgree
like_walks_agree f g w v like same =
    sym (walking_with_by f (λ h. 0) w)
    ∙ (ap (λ (x : Walking). walking_with x (numbers_by f (walking_handles w))) like
    ∙ (ap (walking_with (walking_by (λ h. 0) v)) same
    ∙ walking_with_by g (λ h. 0) v))
