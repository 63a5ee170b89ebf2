-- Nodes that are put at the places of their numbers, one after another.
use Rattle.std.specs.Prelude.{◌≡◌, ◌<◌, ◌≤◌, ◌+◌, ◌++◌, ℕ, zero, suc, length, List, [], ◌∷◌, Some, slice_get, refl}
use Rattle.std.specs.Option.{option_map}
use Rattle.std.proofs.Common.{◌⊎◌, ◌∙◌, inr, sym, ap, arith, ⊎_elim, length-append}
use Rattle.std.proofs.lemmas.Option.{slice_get_past}
use Rattle.tree_model.specs.declared.inode.Inode.{Inode}
use Rattle.tree_model.proofs.Places.{slice_get-last}
use Rattle.node_numbering.specs.declared.exchange.Exchange.{Exchange}
use Rattle.node_numbering.specs.Exchanges.{after_all, before_all, AreWithin}
use Rattle.node_numbering.specs.Renumbered.{inode_on, AreNodesOn}
use Rattle.node_numbering.proofs.Exchanging.{back_again, stays_outside}

-- the first of the new places, as many as k, have their nodes
pub record AreMoved (es : List Exchange) (nodes : List Inode) (k : ℕ) (others : List Inode) : Type 0 where
  pub long : length others ≡ k
  pub each : (y : ℕ) → y < k → slice_get others y ≡ option_map (inode_on (after_all es)) (slice_get nodes (before_all es y))

get_front : {A : Type 0} (xs : List A) (y : A) (i : ℕ) → i < length xs → slice_get (xs ++ y ∷ []) i ≡ slice_get xs i
get_front [] y i lt = absurd (omega arith)
get_front (x ∷ xs) y zero lt = refl
get_front (x ∷ xs) y (suc i) lt = get_front xs y i (omega arith)

pub one_moved : (es : List Exchange) (nodes : List Inode) (k : ℕ) (others : List Inode) (inode : Inode)
    → slice_get nodes (before_all es k) ≡ Some inode → AreMoved es nodes k others → AreMoved es nodes (k + 1) (others ++ inode_on (after_all es) inode ∷ [])
one_moved es nodes k others inode there moved = record {
  long = length-append others (copy ∷ []) ∙ omega (arith, moved.long);
  each = λ y lt. ⊎_elim (early y) (last y) (either y lt);
}
  where
    copy : Inode
    copy = inode_on (after_all es) inode

    either : (y : ℕ) → y < k + 1 → (y < k) ⊎ (y ≡ k)
    either y lt = grind arith

    Right : ℕ → Type 0
    Right y = slice_get (others ++ copy ∷ []) y ≡ option_map (inode_on (after_all es)) (slice_get nodes (before_all es y))

    early : (y : ℕ) → y < k → Right y
    early y lt = get_front others copy y (omega (arith, moved.long)) ∙ moved.each y lt

    last : (y : ℕ) → y ≡ k → Right y
    last y here =
        ap (slice_get (others ++ copy ∷ [])) (here ∙ sym moved.long) ∙ slice_get-last others copy
        ∙ ap (option_map (inode_on (after_all es))) (sym there ∙ ap (λ z. slice_get nodes (before_all es z)) (sym here))

pub all_moved : (n : ℕ) (es : List Exchange) (nodes others : List Inode) → AreWithin n (length nodes) es
    → AreMoved es nodes (length nodes) others → AreNodesOn (after_all es) nodes others
all_moved n es nodes others within moved x = ⊎_elim inside outside (either (after_all es x))
  where
    f : ℕ → ℕ
    f = after_all es

    either : (y : ℕ) → (y < length nodes) ⊎ (length nodes ≤ y)
    either y = grind arith

    inside : f x < length nodes → slice_get others (f x) ≡ option_map (inode_on f) (slice_get nodes x)
    inside lt = moved.each (f x) lt ∙ ap (λ y. option_map (inode_on f) (slice_get nodes y)) (back_again es x)

    -- a number outside stays, and no other one comes there
    outside : length nodes ≤ f x → slice_get others (f x) ≡ option_map (inode_on f) (slice_get nodes x)
    outside past =
        let same : f x ≡ x = sym (back_again es (f x)) ∙ ap (before_all es) (stays_outside n (length nodes) es (f x) within (inr past)) ∙ back_again es x in
        slice_get_past others (f x) (omega (arith, moved.long, past))
        ∙ ap (option_map (inode_on f)) (sym (slice_get_past nodes x (omega (arith, same, past))))
