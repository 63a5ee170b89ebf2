-- A split at each slash, less the empty slices, yields the pieces of a text.
use Rattle.std.proofs.Common.{◌≡◌, ℕ, ◌+◌, ◌<◌, Bool, true, false, not, ◌==◌, List, [], ◌∷◌, ◌++◌, length, get_or, take, Option, Some, None, refl, ap, sym, ◌∙◌, arith, Bor}
use Rattle.std.specs.Prelude.{if◌then◌else◌, is_some, is_none}
use Rattle.std.specs.List.{list_all}
use Rattle.std.proofs.lemmas.List.{take_more, take_all}
use Rattle.std.proofs.lemmas.List.Folds.{list_all-append, list_all_at}
use Rattle.path_text.specs.declared.errno.Errno.{Errno}
use Rattle.path_text.specs.Name.{name_fault, is_name}
use Rattle.std.specs.Fn.{CalledAt}
use Rattle.std.specs.Iterator.Adapters.{filter_source, filter_callee, filter_steps}
use Rattle.std.specs.Slice.Iter.{split_rest, split_done, split_callee, split_steps}
use Rattle.std.specs.declared.iter.Filter.{Filter}
use Rattle.std.specs.declared.slice.Split.{Split}
use Rattle.std.proofs.lemmas.Iterator.{YieldsList}
use Rattle.std.proofs.lemmas.Iterator.Consumers.{YieldsList-from_filter}
use Rattle.std.proofs.lemmas.Iterator.Splits.{YieldsList-from_slice_split}
use denote.Param.Members.{Mut}
use Rattle.path_text.specs.declared.name.TheConstants.{SLASH}
use Rattle.path_text.specs.Text.{is_empty, pieces}
use Rattle.path_text.proofs.TextLemmas.{is_empty-length}

pub pieces_yielded : {F G : Type 0} {s : Filter (Split ℕ F) G} (g : Mut F (Bor ℕ × Unit {0}) Bool) (h : Mut G (Bor (Bor (List ℕ)) × Unit {0}) Bool) {f : F} {k : G} (text : List ℕ) → split_rest (filter_source s) ≡ text → split_done (filter_source s) ≡ false → split_callee (filter_source s) ≡ f → filter_callee s ≡ k
    → ((x : ℕ) (b : Bool) (q : F) → CalledAt g f x b q → (q ≡ f) × (b ≡ (x == SLASH)))
    → ((x : Bor (List ℕ)) (b : Bool) (q : G) → CalledAt h k x b q → (q ≡ k) × (b ≡ not (length x.now == 0)))
    → YieldsList (filter_steps (split_steps g) h) (λ x. x.now) s (pieces text)
pieces_yielded g h text rest done splits keeps slashes nonempty =
    YieldsList-from_filter h (λ p. not (is_empty p)) (YieldsList-from_slice_split g (λ b. b == SLASH) text rest done splits slashes) keeps
    (λ x b q c. let called = nonempty x b q c in (called.0, called.1 ∙ ap not (sym (is_empty-length x.now))))

-- ---- the pieces that are names

abbrev pub names_where : Bool → List (List ℕ) → Option (List (List ℕ))
names_where test pieces = if test then Some pieces else None

-- what the test of a piece says of it
pub refused_by : (name : List ℕ) (fault : Option Errno) → fault ≡ name_fault name → is_some fault ≡ true → is_name name ≡ false
refused_by name None e h = cc
refused_by name (Some error) e h = ap is_none (sym e)

pub accepted_by : (name : List ℕ) (fault : Option Errno) → fault ≡ name_fault name → is_some fault ≡ false → name_fault name ≡ None
accepted_by name None e h = sym e
accepted_by name (Some error) e h = cc

-- one more piece, which is a name
pub names_more : (ps : List (List ℕ)) (i j : ℕ) (p : List ℕ) (names new : List (List ℕ)) → (i < length ps) × (p ≡ get_or ps i p) → j ≡ i + 1 → names ≡ take i ps → new ≡ names ++ p ∷ [] → new ≡ take j ps
names_more ps i j p names new h count so_far pushed =
    rw (pushed, so_far, count) (sym (take_more ps i p h.0 ∙ ap (λ x. take i ps ++ x ∷ []) (sym h.1)))

pub valid_more : (names new : List (List ℕ)) (p : List ℕ) → list_all is_name names ≡ true → name_fault p ≡ None → new ≡ names ++ p ∷ [] → list_all is_name new ≡ true
valid_more names new p valid is pushed =
    ap (list_all is_name) pushed ∙ list_all-append is_name names (p ∷ []) ∙ rw (valid, is) refl

-- one that is none
pub names_refused : (ps : List (List ℕ)) (i : ℕ) (p : List ℕ) → (i < length ps) × (p ≡ get_or ps i p) → is_name p ≡ false → None ≡ names_where (list_all is_name ps) ps
names_refused ps i p h none = sym (ap (λ test. names_where test ps) (list_all_at is_name ps i p h.0 (rw (← h.1) none)))

-- all of them
pub names_all : (ps : List (List ℕ)) (i : ℕ) (names : List (List ℕ)) → names ≡ take i ps → i ≡ length ps → list_all is_name names ≡ true → Some names ≡ names_where (list_all is_name ps) ps
names_all ps i names so_far count valid =
    let all : names ≡ ps = so_far ∙ take_all i ps (omega (arith, count)) in
    ap Some all ∙ sym (ap (λ test. names_where test ps) (ap (list_all is_name) (sym all) ∙ valid))
