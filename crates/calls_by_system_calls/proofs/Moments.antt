-- From moment to moment of the tree that Linux has meanwhile.
use Rattle.std.proofs.Common.{◌≡◌, ◌≢◌, ℕ, zero, suc, ◌+◌, ◌<◌, ◌≤◌, Bool, true, List, [], ◌∷◌, ◌++◌, length, Option, Some, None, sym, ap, ◌∙◌, subst, arith}
use Rattle.std.specs.List.{AllByRecursion}
use Rattle.tree_model.specs.declared.answer.Event.{Event}
use Rattle.tree_model.specs.declared.inode.Object.{Object}
use Rattle.tree_model.specs.History.{IsLegal, after_events}
use Rattle.tree_model.specs.declared.inode.Object.TheVariants as object
use Rattle.tree_model.specs.State.{object_at, is_gone}
use Rattle.tree_model.proofs.Places.{object_at-within}
use Rattle.tree_model.proofs.HistoryLaws.{IsLegal-append, after_events-append}
use Rattle.linux_steps.specs.Linux.{IsLinux as IsMoments}
use Rattle.calls_by_system_calls.specs.Linux.{Linux, IsLinux, state_at, found_behind, meanwhile, with_change, ChangeNothing}
use Rattle.calls_by_system_calls.specs.Lines.{seen}
use Rattle.calls_by_system_calls.proofs.Trees.{gone_kept, gone_stays, nodes_grow, nodes_kept, object_kept, object_stays}

all_append : (P : Event → Type 0) (xs ys : List Event) → AllByRecursion P xs → AllByRecursion P ys → AllByRecursion P (xs ++ ys)
all_append P [] ys p q = q
all_append P (x ∷ xs) ys p q = (p.0, all_append P xs ys p.1 q)

module _ (x : Linux) where
  -- ---- calls that change nothing

  pub unchanged : (n : ℕ) → x.own (suc n) ≡ None → state_at x (suc n) ≡ found_behind x n
  unchanged n none = ap (with_change (found_behind x n)) none

  first_changes_nothing : (m n : ℕ) → ChangeNothing x m (suc n) → state_at x (suc m) ≡ found_behind x m
  first_changes_nothing m n still =
      let same : suc (m + 0) ≡ suc m = omega arith in
      unchanged m (subst (λ (i : ℕ). x.own i ≡ None) same (still 0 (omega arith)))

  pub fewer : (m n calls : ℕ) → n ≤ calls → ChangeNothing x m calls → ChangeNothing x m n
  fewer m n calls by still i less = still i (omega (arith, by, less))

  pub later : (m n rest calls : ℕ) → n + rest ≡ calls → ChangeNothing x m calls → ChangeNothing x (m + n) rest
  later m n rest calls sum still i less =
      let same : suc (m + (n + i)) ≡ suc ((m + n) + i) = omega arith in
      subst (λ (j : ℕ). x.own j ≡ None) same (still (n + i) (omega (arith, sum, less)))

  behind_first : (m n : ℕ) → ChangeNothing x m (suc n) → ChangeNothing x (suc m) n
  behind_first m n still i less =
      let same : suc (m + suc i) ≡ suc (suc m + i) = omega arith in
      subst (λ (j : ℕ). x.own j ≡ None) same (still (suc i) (omega (arith, less)))

  pub reached : (m n : ℕ) → ChangeNothing x m n → after_events (state_at x m) (meanwhile x m n) ≡ state_at x (m + n)
  reached m zero still = let same : m ≡ m + 0 = omega arith in ap (state_at x) same
  reached m (suc n) still =
      let same : suc m + n ≡ m + suc n = omega arith in
      after_events-append (state_at x m) (x.others m) (meanwhile x (suc m) n)
      ∙ ap (λ s. after_events s (meanwhile x (suc m) n)) (sym (first_changes_nothing m n still))
      ∙ reached (suc m) n (behind_first m n still) ∙ ap (state_at x) same

  module _ (linux : IsLinux x 0) where
    pub legal_meanwhile : (m n : ℕ) → ChangeNothing x m n → IsLegal (state_at x m) (meanwhile x m n)
    legal_meanwhile m zero still = tt
    legal_meanwhile m (suc n) still =
        IsLegal-append (state_at x m) (x.others m) (meanwhile x (suc m) n) (linux.legal m)
        (subst (λ s. IsLegal s (meanwhile x (suc m) n)) (first_changes_nothing m n still)
        (legal_meanwhile (suc m) n (behind_first m n still)))

    pub others_meanwhile : (m n : ℕ) → AllByRecursion (λ event. event.actor ≢ 0) (meanwhile x m n)
    others_meanwhile m zero = tt
    others_meanwhile m (suc n) =
        all_append (λ event. event.actor ≢ 0) (x.others m) (meanwhile x (suc m) n) (linux.by_others m) (others_meanwhile (suc m) n)

  -- ---- what stays

  object_next : (n y : ℕ) (what : Object) → object_at (state_at x n).nodes y ≡ Some what
      → object_at (state_at x (suc n)).nodes y ≡ Some what
  object_next n y what is =
      object_kept (found_behind x n) (x.own (suc n)) y what (object_stays (state_at x n) (x.others n) y what is)

  longer_next : (n y : ℕ) → y < length (state_at x n).nodes → y < length (state_at x (suc n)).nodes
  longer_next n y within =
      omega (arith, within, nodes_grow (state_at x n) (x.others n), nodes_kept (found_behind x n) (x.own (suc n)))

  pub gone_next : (n y : ℕ) → y < length (state_at x n).nodes → is_gone (state_at x n).nodes y ≡ true
      → is_gone (state_at x (suc n)).nodes y ≡ true
  gone_next n y within gone =
      gone_kept (found_behind x n) (x.own (suc n)) y (omega (arith, within, nodes_grow (state_at x n) (x.others n)))
      (gone_stays (state_at x n) (x.others n) y within gone)

  pub longer_later : (m n y : ℕ) → y < length (state_at x m).nodes → y < length (state_at x (m + n)).nodes
  longer_later m zero y within =
      let same : m ≡ m + 0 = omega arith in subst (λ (i : ℕ). y < length (state_at x i).nodes) same within
  longer_later m (suc n) y within =
      let same : suc (m + n) ≡ m + suc n = omega arith in
      subst (λ (i : ℕ). y < length (state_at x i).nodes) same (longer_next (m + n) y (longer_later m n y within))

  pub seen_is_linux : (asks : Bool) (on : ℕ → ℕ → Option ℕ) (layered : ℕ → Bool) (text : ℕ → List ℕ)
      → IsMoments (seen x asks on layered text)
  seen_is_linux asks on layered text = record {
    stays = object_next;
    gone = λ n d is gone. gone_next n d (object_at-within (state_at x n).nodes d object.Dir is) gone;
  }
