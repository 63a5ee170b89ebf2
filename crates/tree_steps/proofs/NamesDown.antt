-- From what a node's parent tells of the names at which it stands to what the node tells, and to all its names.
use Rattle.std.proofs.Common.{◌≡◌, ℕ, suc, ◌+◌, ◌-◌, ◌<◌, ◌≤◌, List, [], ◌∷◌, ◌++◌, length, append_assoc, Option, Some, None, refl, ap, sym, subst, ◌∙◌, arith}
use Rattle.std.specs.Prelude.{reverse}
use Rattle.std.specs.Option.{option_map}
use Rattle.std.proofs.lemmas.Bool.{ne_eqb}
use Rattle.std.proofs.lemmas.Grind.{reverse_onto}
use Rattle.std.proofs.lemmas.Option.{same_Some}
use Rattle.tree_model.specs.declared.inode.Inode.{Inode}
use Rattle.tree_model.specs.declared.inode.Place.{Place}
use Rattle.tree_model.specs.State.{place_at, names_within, names_below}
use Rattle.tree_steps.specs.Below.{Tells}
use Rattle.tree_steps.specs.declared.below.Found.{Found}
use Rattle.tree_steps.specs.declared.below.Found.TheVariants.{Below, Apart}

-- one name more, at the end
added_last : (old : List (List ℕ)) (n : List ℕ) (rest : Option (List (List ℕ))) (new : List (List ℕ)) → option_map (λ names. old ++ reverse names) rest ≡ Some new
    → option_map (λ names. old ++ reverse names) (option_map (λ names. n ∷ names) rest) ≡ Some (new ++ n ∷ [])
added_last old n None new e = cc (e)
added_last old n (Some names) new e =
    ap Some (ap (λ rest. old ++ rest) (reverse_onto names n []) ∙ sym (append_assoc old (reverse names) (n ∷ [])) ∙ ap (λ front. front ++ n ∷ []) (same_Some (old ++ reverse names) new e))

within_up : (depth more : ℕ) (nodes : List Inode) (top x : ℕ) (place : Place) → 0 < depth → (x ≡ top → ⊥) → place_at nodes x ≡ Some place
    → names_within (depth + more) nodes top x ≡ option_map (λ names. place.name ∷ names) (names_within (depth - 1 + more) nodes top place.parent)
within_up depth more nodes top x place some apart at =
    let left : depth + more ≡ suc (depth - 1 + more) = omega arith in rw (left, ne_eqb x top apart, at) refl

pub told_below : (depth : ℕ) (nodes : List Inode) (top x : ℕ) (place : Place) (old new : List (List ℕ)) → 0 < depth → (x ≡ top → ⊥) → place_at nodes x ≡ Some place
    → (found : Found) → found ≡ Below → Tells found (depth - 1) nodes top place.parent old new → Tells Below depth nodes top x old (new ++ place.name ∷ [])
told_below depth nodes top x place old new some apart at found is told more =
    ap (option_map (λ names. old ++ reverse names)) (within_up depth more nodes top x place some apart at)
    ∙ added_last old place.name (names_within (depth - 1 + more) nodes top place.parent) new (subst (λ (f : Found). Tells f (depth - 1) nodes top place.parent old new) is told more)

pub told_apart : (depth : ℕ) (nodes : List Inode) (top x : ℕ) (place : Place) (old new : List (List ℕ)) → 0 < depth → (x ≡ top → ⊥) → place_at nodes x ≡ Some place
    → (found : Found) → found ≡ Apart → Tells found (depth - 1) nodes top place.parent old new → Tells Apart depth nodes top x old new
told_apart depth nodes top x place old new some apart at found is told more =
    within_up depth more nodes top x place some apart at
    ∙ ap (option_map (λ names. place.name ∷ names)) (subst (λ (f : Found). Tells f (depth - 1) nodes top place.parent old new) is told more)

-- ---- as far up as there are nodes

whole : (depth : ℕ) (nodes : List Inode) (top x : ℕ) → depth ≤ length nodes → names_within (depth + (length nodes - depth)) nodes top x ≡ names_below nodes top x
whole depth nodes top x within =
    let all : depth + (length nodes - depth) ≡ length nodes = omega arith in rw all refl

pub told_whole : (depth : ℕ) (nodes : List Inode) (top x : ℕ) (old new : List (List ℕ)) → depth ≤ length nodes → old ≡ []
    → (found : Found) → found ≡ Below → Tells found depth nodes top x old new → Some new ≡ option_map reverse (names_below nodes top x)
told_whole depth nodes top x old new within none found is told =
    let below = subst (λ (f : Found). Tells f depth nodes top x old new) is told in
    let from_none = subst (λ (names : List (List ℕ)). Tells Below depth nodes top x names new) none below in
    sym (from_none (length nodes - depth)) ∙ ap (option_map reverse) (whole depth nodes top x within)

pub told_none : (depth : ℕ) (nodes : List Inode) (top x : ℕ) (old new : List (List ℕ)) → depth ≤ length nodes
    → (found : Found) → found ≡ Apart → Tells found depth nodes top x old new → None ≡ option_map reverse (names_below nodes top x)
told_none depth nodes top x old new within found is told =
    let apart = subst (λ (f : Found). Tells f depth nodes top x old new) is told in
    ap (option_map reverse) (sym (apart (length nodes - depth)) ∙ whole depth nodes top x within)
