-- What each step of a walk is answered, read off the step table.
use Rattle.std.specs.Prelude.{◌≡◌, ◌≢◌, ℕ, zero, suc, List, [], ◌∷◌, ◌++◌, Bool, true, false, not, length, slice_get, slice_set, Option, Some, None, refl}
use Rattle.std.proofs.Common.{sym, ap, subst, ◌∙◌, le_refl, eq-eqb}
use Rattle.std.proofs.lemmas.Option.{slice_get_past}
use Rattle.path_text.specs.declared.errno.Errno.TheVariants.{NotFound, BadHandle, NotDir, TooMany}
use Rattle.tree_model.specs.declared.answer.Answer.TheVariants.{Opened, Done}
use Rattle.tree_model.specs.declared.inode.Object.{Object}
use Rattle.tree_model.specs.declared.inode.OpenHandle.{OpenHandle}
use Rattle.tree_model.specs.declared.step.StepOf.TheVariants.{Open, Dup, Parent, ReadLink, Close}
use Rattle.tree_model.specs.State.{State, object_at, child, parent, is_dir}
use Rattle.tree_model.specs.Steps.{Outcome, refused, outcome, opens, reads, with_handle, held, node_held, is_full, kind_of}
use Rattle.tree_model.specs.Entries.{refuse_if, with_some}
use Rattle.tree_model.proofs.Places.{slice_get-last}

-- ---- handles

pub slice_get-other : {A : Type 0} (xs : List A) (y : A) (h : ℕ) → h ≢ length xs → slice_get (xs ++ y ∷ []) h ≡ slice_get xs h
slice_get-other [] y zero ne = absurd (ne refl)
slice_get-other [] y (suc h) ne = refl
slice_get-other (x ∷ xs) y zero ne = refl
slice_get-other (x ∷ xs) y (suc h) ne = slice_get-other xs y h (λ e. ne (ap suc e))

-- one handle more: it is open, it wasn't before, and the others are as they were
pub record IsMore (s : State) (a : ℕ) (new : State) (h x : ℕ) : Type 0 where
  pub is_open : held new a h ≡ Some x
  pub fresh : held s a h ≡ None
  pub others : (k : ℕ) → k ≢ h → held new a k ≡ held s a k

pub with_handle-is_more : (s : State) (a x : ℕ) → IsMore s a (with_handle s a x) (length s.handles) x
with_handle-is_more s a x = record {
  is_open = ap (node_held a) (slice_get-last s.handles (Some (record { actor = a; node = x }))) ∙ ap (λ b. refuse_if b (Some x) None) (eq-eqb a a refl);
  fresh = ap (node_held a) (slice_get_past s.handles (length s.handles) (le_refl (length s.handles)));
  others = λ k ne. ap (node_held a) (slice_get-other s.handles (Some (record { actor = a; node = x })) k ne);
}

slice_set-same : (a : ℕ) (xs : List (Option OpenHandle)) (h : ℕ) → node_held a (slice_get (slice_set xs h None) h) ≡ None
slice_set-same a [] h = refl
slice_set-same a (x ∷ xs) zero = refl
slice_set-same a (x ∷ xs) (suc h) = slice_set-same a xs h

slice_set-other : {A : Type 0} (xs : List A) (y : A) (h k : ℕ) → k ≢ h → slice_get (slice_set xs h y) k ≡ slice_get xs k
slice_set-other [] y h k ne = refl
slice_set-other (x ∷ xs) y zero zero ne = absurd (ne refl)
slice_set-other (x ∷ xs) y zero (suc k) ne = refl
slice_set-other (x ∷ xs) y (suc h) zero ne = refl
slice_set-other (x ∷ xs) y (suc h) (suc k) ne = slice_set-other xs y h k (λ e. ne (ap suc e))

-- one handle less: it isn't open, and the others are as they were
pub record IsLess (s : State) (a : ℕ) (new : State) (h : ℕ) : Type 0 where
  pub closed : held new a h ≡ None
  pub others : (k : ℕ) → k ≢ h → held new a k ≡ held s a k

pub Close-is_less : (s : State) (a h : ℕ) → IsLess s a (outcome s a (Close h)).after h
Close-is_less s a h = on (held s a h) refl
  where
    after_close : Option ℕ → State
    after_close o = (with_some o (refused s BadHandle) (λ x. record { answer = Done; after = record { nodes = s.nodes; handles = slice_set s.handles h None } })).after

    on : (o : Option ℕ) → held s a h ≡ o → IsLess s a (outcome s a (Close h)).after h
    on None e = subst (λ t. IsLess s a t h) (sym (ap after_close e)) (record { closed = e; others = λ k ne. refl })
    on (Some x) e = subst (λ t. IsLess s a t h) (sym (ap after_close e)) (record { closed = slice_set-same a s.handles h; others = λ k ne. ap (node_held a) (slice_set-other s.handles None h k ne) })

-- ---- answers

-- what opening a node is answered
pub data Opening (s : State) (a x : ℕ) (o : Outcome) : Type 0 where
  too_many : is_full s a ≡ true → o ≡ refused s TooMany → Opening s a x o
  no_object : object_at s.nodes x ≡ None → o ≡ refused s NotFound → Opening s a x o
  is_opened : (what : Object) → object_at s.nodes x ≡ Some what
      → o ≡ record { answer = Opened (length s.handles) x (kind_of what); after = with_handle s a x } → Opening s a x o

opens_it : State → ℕ → ℕ → Option Object → Outcome
opens_it s a x o = with_some o (refused s NotFound) (λ what. record { answer = Opened (length s.handles) x (kind_of what); after = with_handle s a x })

pub opening_of : (s : State) (a x : ℕ) → Opening s a x (opens s a x)
unfolding opens_it
opening_of s a x = on_full (is_full s a) refl
  where
    on_object : (o : Option Object) → object_at s.nodes x ≡ o → is_full s a ≡ false → Opening s a x (opens s a x)
    on_object None e f = no_object e (ap (λ b. refuse_if b (refused s TooMany) (opens_it s a x (object_at s.nodes x))) f ∙ ap (opens_it s a x) e)
    on_object (Some what) e f = is_opened what e (ap (λ b. refuse_if b (refused s TooMany) (opens_it s a x (object_at s.nodes x))) f ∙ ap (opens_it s a x) e)

    on_full : (b : Bool) → is_full s a ≡ b → Opening s a x (opens s a x)
    on_full true e = too_many e (ap (λ b. refuse_if b (refused s TooMany) (opens_it s a x (object_at s.nodes x))) e)
    on_full false e = on_object (object_at s.nodes x) refl e

-- what Open is answered through a handle of d
pub data OpenCase (s : State) (a d : ℕ) (n : List ℕ) (o : Outcome) : Type 0 where
  no_dir : is_dir s.nodes d ≡ false → o ≡ refused s NotDir → OpenCase s a d n o
  no_child : child s.nodes d n ≡ None → o ≡ refused s NotFound → OpenCase s a d n o
  at_child : (c : ℕ) → child s.nodes d n ≡ Some c → o ≡ opens s a c → OpenCase s a d n o

abbrev through_handle : State → Option ℕ → (ℕ → Outcome) → Outcome
through_handle s o otherwise = with_some o (refused s BadHandle) otherwise

abbrev open_child : State → ℕ → Option ℕ → Outcome
open_child s a o = with_some o (refused s NotFound) (λ c. opens s a c)

abbrev open_dir : State → ℕ → ℕ → List ℕ → Bool → Outcome
open_dir s a d n b = refuse_if (not b) (refused s NotDir) (open_child s a (child s.nodes d n))

pub open_case : (s : State) (a h : ℕ) (n : List ℕ) (d : ℕ) → held s a h ≡ Some d → OpenCase s a d n (outcome s a (Open h n))
open_case s a h n d e = subst (OpenCase s a d n) (sym is) (on_dir (is_dir s.nodes d) refl)
  where
    is : outcome s a (Open h n) ≡ open_dir s a d n (is_dir s.nodes d)
    is = ap (λ o. through_handle s o (λ y. open_dir s a y n (is_dir s.nodes y))) e

    on_child : (o : Option ℕ) → child s.nodes d n ≡ o → OpenCase s a d n (open_child s a (child s.nodes d n))
    on_child None c = no_child c (ap (open_child s a) c)
    on_child (Some x) c = at_child x c (ap (open_child s a) c)

    on_dir : (b : Bool) → is_dir s.nodes d ≡ b → OpenCase s a d n (open_dir s a d n (is_dir s.nodes d))
    on_dir false b = no_dir b (ap (open_dir s a d n) b)
    on_dir true b = subst (OpenCase s a d n) (sym (ap (open_dir s a d n) b)) (on_child (child s.nodes d n) refl)

-- what Parent is answered through a handle of x
pub data ParentCase (s : State) (a x : ℕ) (o : Outcome) : Type 0 where
  not_dir : is_dir s.nodes x ≡ false → o ≡ refused s NotDir → ParentCase s a x o
  no_parent : parent s.nodes x ≡ None → o ≡ refused s NotFound → ParentCase s a x o
  at_parent : (e : ℕ) → parent s.nodes x ≡ Some e → o ≡ opens s a e → ParentCase s a x o

abbrev open_parent : State → ℕ → ℕ → Bool → Outcome
open_parent s a x b = refuse_if (not b) (refused s NotDir) (open_child s a (parent s.nodes x))

pub parent_case : (s : State) (a h x : ℕ) → held s a h ≡ Some x → ParentCase s a x (outcome s a (Parent h))
parent_case s a h x e = subst (ParentCase s a x) (sym is) (on_dir (is_dir s.nodes x) refl)
  where
    is : outcome s a (Parent h) ≡ open_parent s a x (is_dir s.nodes x)
    is = ap (λ o. through_handle s o (λ y. open_parent s a y (is_dir s.nodes y))) e

    on_parent : (o : Option ℕ) → parent s.nodes x ≡ o → ParentCase s a x (open_child s a (parent s.nodes x))
    on_parent None c = no_parent c (ap (open_child s a) c)
    on_parent (Some y) c = at_parent y c (ap (open_child s a) c)

    on_dir : (b : Bool) → is_dir s.nodes x ≡ b → ParentCase s a x (open_parent s a x (is_dir s.nodes x))
    on_dir false b = not_dir b (ap (open_parent s a x) b)
    on_dir true b = subst (ParentCase s a x) (sym (ap (open_parent s a x) b)) (on_parent (parent s.nodes x) refl)

pub dup_is : (s : State) (a h x : ℕ) → held s a h ≡ Some x → outcome s a (Dup h) ≡ opens s a x
dup_is s a h x e = ap (λ o. through_handle s o (λ y. opens s a y)) e

pub read_is : (s : State) (a h x : ℕ) → held s a h ≡ Some x → outcome s a (ReadLink h) ≡ reads s (object_at s.nodes x)
read_is s a h x e = ap (λ o. through_handle s o (λ y. reads s (object_at s.nodes y))) e
