-- What comparing two calls to MkdirAll comes to, by the kind of the step that is due, and by the names.
use Rattle.std.specs.Prelude.{◌≡◌, ◌<◌, ◌≤◌, ℕ, List, [], ◌∷◌, ◌++◌, length, take, drop, reverse, refl}
use Rattle.std.proofs.Common.{ap, sym, ◌∙◌, arith}
use Rattle.std.proofs.lemmas.List.{take-append-drop, length-drop, length-take}
use Rattle.std.specs.Global.{Global}
use Rattle.std.specs.Prelude.{Box}
use Rattle.handles.specs.Objects.{ReachedObject}
use Rattle.step_resolver.specs.Order.{Handle}
use Rattle.step_resolver.proofs.Underway.AfterParent.{reversed_same}
use Rattle.bulk_ops.specs.MakeAllOrder.{Making, walking, making, opening, leaving, ending, closing}
use Rattle.bulk_ops.specs.MakeAllView.{IsStage, making_of, at_next, to_come}
use Rattle.bulk_ops.specs.Renamed.{handle_by, making_by, LikeMaking}
use Rattle.bulk_ops.specs.declared.make_all.Call.{Call}
use Rattle.bulk_ops.specs.declared.make_all.Chain.{Chain}
use Rattle.bulk_ops.specs.declared.make_all.Stage.{Stage}
use Rattle.bulk_ops.specs.declared.make_all.Stage.TheVariants.{Walking, Making as MakingIn, Opening, Leaving, Ending, Closing}

-- ---- names

module _ (names names' : List (List ℕ)) (done done' : ℕ) (within : done ≤ length names) (within' : done' ≤ length names') (passed : reverse (take done names) ≡ reverse (take done' names')) where
  taken_alike : take done names ≡ take done' names'
  taken_alike = reversed_same (take done names) (take done' names') passed

  pub same_count_passed : done ≡ done'
  same_count_passed = omega (arith, ap length taken_alike, length-take done names, length-take done' names')

  pub same_chain : drop done names ≡ drop done' names' → names ≡ names'
  same_chain left = sym (take-append-drop done names) ∙ (ap (λ (ns : List (List ℕ)). ns ++ drop done names) taken_alike ∙ (ap (λ (ns : List (List ℕ)). take done' names' ++ ns) left ∙ take-append-drop done' names'))

pub like_endings : (m m' : Making) (held held' : Handle) (names names' : List (List ℕ)) → m ≡ ending held (reverse names) → m' ≡ ending held' (reverse names') → handle_by (λ h. 0) held ≡ handle_by (λ h. 0) held'
    → (names ≡ names' → LikeMaking m m') × (LikeMaking m m' → names ≡ names')
like_endings m m' held held' names names' e e' same = (
  (λ q. let ends : making_by (λ h. 0) (ending held (reverse names)) ≡ making_by (λ h. 0) (ending held' (reverse names')) = cc (ap reverse q) in
      ap (making_by (λ h. 0)) e ∙ (ends ∙ sym (ap (making_by (λ h. 0)) e'))),
  (λ like. let ends : making_by (λ h. 0) (ending held (reverse names)) ≡ making_by (λ h. 0) (ending held' (reverse names')) = sym (ap (making_by (λ h. 0)) e) ∙ (like ∙ ap (making_by (λ h. 0)) e') in
      reversed_same names names' (cc)),
)

-- ---- kinds of steps

abbrev kind_of : Making → ℕ
kind_of (walking w) = 0
kind_of (making held names n left) = 1
kind_of (opening held names n left) = 2
kind_of (leaving old new names left) = 3
kind_of (ending held names) = 4
kind_of (closing h hs error) = 5

abbrev pub kind_at : Stage → ℕ
kind_at (Walking walker) = 0
kind_at (MakingIn held chain) = 1
kind_at (Opening held chain) = 2
kind_at (Leaving old new chain) = 3
kind_at (Ending held chain) = 4
kind_at (Closing first second error) = 5

kind_by : (m : Making) → kind_of (making_by (λ h. 0) m) ≡ kind_of m
kind_by (walking w) = refl
kind_by (making held names n left) = refl
kind_by (opening held names n left) = refl
kind_by (leaving old new names left) = refl
kind_by (ending held names) = refl
kind_by (closing h hs error) = refl

next_kind : (due : List ℕ → List (List ℕ) → Making) (k : ℕ) → ((n : List ℕ) (left : List (List ℕ)) → kind_of (due n left) ≡ k) → (held : Handle) (names left : List (List ℕ)) → 0 < length left
    → kind_of (at_next due held names left) ≡ k
next_kind due k is held names [] lt = absurd (omega arith)
next_kind due k is held names (n ∷ left) lt = is n left

left_there : (names : List (List ℕ)) (done : ℕ) → done < length names → 0 < length (drop done names)
left_there names done lt = omega (arith, length-drop done names)

kind_is : (call : Call) (stage : Stage) → IsStage call stage → kind_of (making_of stage) ≡ kind_at stage
kind_is call (Walking walker) is = refl
kind_is call (MakingIn held chain) is = next_kind _ 1 (λ n left. refl) _ _ (to_come chain.value) (left_there chain.value.names chain.value.done is.1)
kind_is call (Opening held chain) is = next_kind _ 2 (λ n left. refl) _ _ (to_come chain.value) (left_there chain.value.names chain.value.done is.1)
kind_is call (Leaving old new chain) is = refl
kind_is call (Ending held chain) is = refl
kind_is call (Closing first second error) is = refl

-- like calls are at the same kind of step
pub like_kinds : (call call' : Call) (stage stage' : Stage) (m m' : Making) → IsStage call stage → IsStage call' stage' → making_of stage ≡ m → making_of stage' ≡ m' → LikeMaking m m' → kind_at stage' ≡ kind_at stage
like_kinds call call' stage stage' m m' is is' e e' like =
    sym (kind_is call' stage' is') ∙ (ap kind_of e' ∙ (sym (kind_by m') ∙ (sym (ap kind_of like) ∙ (kind_by m ∙ (sym (ap kind_of e) ∙ kind_is call stage is)))))

pub is_making : (stage : Stage) → kind_at stage ≡ 1 → ((held : ReachedObject) (chain : Box Chain Global) → stage ≡ MakingIn held chain → ⊥) → ⊥
is_making (MakingIn held chain) e other = other held chain refl
is_making stage e other = omega arith

pub is_opening : (stage : Stage) → kind_at stage ≡ 2 → ((held : ReachedObject) (chain : Box Chain Global) → stage ≡ Opening held chain → ⊥) → ⊥
is_opening (Opening held chain) e other = other held chain refl
is_opening stage e other = omega arith

pub is_ending : (stage : Stage) → kind_at stage ≡ 4 → ((held : ReachedObject) (chain : Box Chain Global) → stage ≡ Ending held chain → ⊥) → ⊥
is_ending (Ending held chain) e other = other held chain refl
is_ending stage e other = omega arith
