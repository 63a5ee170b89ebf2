-- The elements of a list that were read so far, and those that are left.
use Rattle.std.proofs.Common.{◌≡◌, ℕ, ◌+◌, ◌<◌, ◌≤◌, List, [], ◌∷◌, ◌++◌, length, get_or, drop, refl, sym, ap, ◌∙◌, subst, append_assoc}
use Rattle.std.specs.Prelude.{Result, Ok, Err}
use Rattle.std.proofs.lemmas.List.{drop_all, drop_more, append-nil}
use Rattle.serde_json.specs.Data.{Data}
use Rattle.serde_json.specs.View.{view, items_view}
use Rattle.serde_json.specs.declared.value.Value.{Value}
use Rattle.scripts.specs.declared.fault.RunFault.{RunFault}
use Rattle.scripts.specs.declared.fault.RunFault.TheVariants.{Script, ReadFailed, WriteFailed, NoMemory, BookFull}
use Rattle.scripts.specs.declared.fault.ScriptFault.{ScriptFault}
use Rattle.scripts.specs.Checks.{each}
use Rattle.scripts.specs.Fault.{IsFaultOf}
use Rattle.scripts.specs.Checks.{then_with}

-- what was read of the first k elements, and what the others say, are what all say
pub record IsReadSoFar {A : Type 0} (says : ℕ → Data → Result A ScriptFault) (values : List Value) (k : ℕ) (xs : List A) : Type 0 where
  pub all : each says 0 (items_view values) ≡ then_with (each says k (items_view (drop k values))) (λ ys. Ok (xs ++ ys))

begun : {A : Type 0} (said : Result (List A) ScriptFault) → said ≡ then_with said (λ ys. Ok ([] ++ ys))
begun (Ok ys) = refl
begun (Err fault) = refl

pub begins : {A : Type 0} (says : ℕ → Data → Result A ScriptFault) (values : List Value) (xs : List A) → xs ≡ [] → IsReadSoFar says values 0 xs
begins {A = A} says values xs none = subst (λ (ys : List A). IsReadSoFar says values 0 ys) (sym none) (record { all = begun (each says 0 (items_view values)) })

left_at : (values : List Value) (k : ℕ) (v : Value) → k < length values → v ≡ get_or values k v → drop k values ≡ v ∷ drop (k + 1) values
left_at values k v within is = drop_more values k v within ∙ ap (λ (w : Value). w ∷ drop (k + 1) values) (sym is)

regrouped : {A : Type 0} (xs : List A) (x : A) (said : Result (List A) ScriptFault)
    → then_with (then_with said (λ ys. Ok (x ∷ ys))) (λ ys. Ok (xs ++ ys)) ≡ then_with said (λ ys. Ok ((xs ++ x ∷ []) ++ ys))
regrouped xs x (Ok ys) = ap (λ zs. Ok zs) (sym (append_assoc xs (x ∷ []) ys))
regrouped xs x (Err fault) = refl

pub goes_on : {A : Type 0} (says : ℕ → Data → Result A ScriptFault) (values : List Value) (k : ℕ) (xs : List A) (v : Value) (x : A) (ys : List A)
    → k < length values → v ≡ get_or values k v → says k (view v) ≡ Ok x → ys ≡ xs ++ x ∷ [] → IsReadSoFar says values k xs → IsReadSoFar says values (k + 1) ys
goes_on {A = A} says values k xs v x ys within is said more so_far = subst (λ (zs : List A). IsReadSoFar says values (k + 1) zs) (sym more) (record {
  all =
      so_far.all
      ∙ ap (λ (vs : List Value). then_with (each says k (items_view vs)) (λ zs. Ok (xs ++ zs))) (left_at values k v within is)
      ∙ ap (λ (r : Result A ScriptFault). then_with (then_with r (λ z. then_with (each says (k + 1) (items_view (drop (k + 1) values))) (λ zs. Ok (z ∷ zs)))) (λ zs. Ok (xs ++ zs))) said
      ∙ regrouped xs x (each says (k + 1) (items_view (drop (k + 1) values)));
})

pub stops : {A : Type 0} (says : ℕ → Data → Result A ScriptFault) (values : List Value) (k : ℕ) (xs : List A) (v : Value) (fault : RunFault)
    → k < length values → v ≡ get_or values k v → IsFaultOf (says k (view v)) fault → IsReadSoFar says values k xs → IsFaultOf (each says 0 (items_view values)) fault
stops {A = A} says values k xs v (Script fault) within is said so_far =
    so_far.all
    ∙ ap (λ (vs : List Value). then_with (each says k (items_view vs)) (λ zs. Ok (xs ++ zs))) (left_at values k v within is)
    ∙ ap (λ (r : Result A ScriptFault). then_with (then_with r (λ z. then_with (each says (k + 1) (items_view (drop (k + 1) values))) (λ zs. Ok (z ∷ zs)))) (λ zs. Ok (xs ++ zs))) said
stops says values k xs v ReadFailed within is said so_far = absurd said
stops says values k xs v WriteFailed within is said so_far = absurd said
stops says values k xs v NoMemory within is said so_far = tt
stops says values k xs v BookFull within is said so_far = absurd said

pub ends : {A : Type 0} (says : ℕ → Data → Result A ScriptFault) (values : List Value) (k : ℕ) (xs : List A)
    → length values ≤ k → IsReadSoFar says values k xs → each says 0 (items_view values) ≡ Ok xs
ends says values k xs over so_far =
    so_far.all
    ∙ ap (λ (vs : List Value). then_with (each says k (items_view vs)) (λ ys. Ok (xs ++ ys))) (drop_all k values over)
    ∙ ap (λ zs. Ok zs) (append-nil xs)
