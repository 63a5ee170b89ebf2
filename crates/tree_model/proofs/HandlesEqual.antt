-- A test of two lists of handles tells whether they are equal.
use Rattle.std.proofs.Common.{◌≡◌, Bool, true, ◌==◌, ◌&&◌, List, Option, Some, None, IsTrue, ◌↔◌, refl, sym, ap, ◌∙◌, eqb-true, eq-eqb}
use Rattle.std.specs.Cmp.Lexicographic.{pointwise, pointwise_decides}
use Rattle.std.specs.Option.{option_eq}
use Rattle.std.proofs.lemmas.Bool.{false≢true, and_parts, and_from}
use Rattle.std.proofs.lemmas.Option.{none-some, same_Some}
use Rattle.tree_model.specs.declared.inode.OpenHandle.{OpenHandle}

-- the derived test
abbrev same_handle : OpenHandle → OpenHandle → Bool
same_handle h k = (h.actor == k.actor) && (h.node == k.node)

same_handle-decides : (h k : OpenHandle) → (same_handle h k ≡ true → h ≡ k) × (h ≡ k → same_handle h k ≡ true)
same_handle-decides h k = (
  (λ e. let both = and_parts (h.actor == k.actor) (h.node == k.node) e in
      λ i. record { actor = eqb-true h.actor k.actor both.0 i; node = eqb-true h.node k.node both.1 i }),
  (λ q. and_from (h.actor == k.actor) (h.node == k.node) (eq-eqb h.actor k.actor (ap (λ r. r.actor) q)) (eq-eqb h.node k.node (ap (λ r. r.node) q))),
)

option_eq-decides : (p q : Option OpenHandle) → (option_eq same_handle p q ≡ true → p ≡ q) × (p ≡ q → option_eq same_handle p q ≡ true)
option_eq-decides None None = ((λ e. refl), (λ e. refl))
option_eq-decides None (Some k) = ((λ e. absurd (false≢true e)), (λ e. absurd (none-some k e)))
option_eq-decides (Some h) None = ((λ e. absurd (false≢true e)), (λ e. absurd (none-some h (sym e))))
option_eq-decides (Some h) (Some k) =
    ((λ e. ap Some ((same_handle-decides h k).0 e)), (λ e. (same_handle-decides h k).1 (same_Some h k e)))

pub handles_decided : (tested : Bool) (xs ys : List (Option OpenHandle)) → tested ≡ pointwise (option_eq same_handle) xs ys → IsTrue tested ↔ (xs ≡ ys)
handles_decided tested xs ys e =
    let d = pointwise_decides option_eq-decides xs ys in
    ((λ t. d.0 (sym e ∙ t)), (λ q. e ∙ d.1 q))
