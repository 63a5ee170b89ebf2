-- What a granted handle changes, and what its Close takes back.
use Rattle.std.proofs.Common.{◌≡◌, ◌≢◌, ℕ, zero, suc, ◌+◌, ◌==◌, ◌<◌, ◌≤◌, Bool, true, false, List, [], ◌∷◌, ◌++◌, length, slice_get, Some, None, Ok, Err, refl, sym, ap, ◌∙◌, subst, le_refl, append_assoc, nat_lt, if◌then◌else◌, arith}
use Rattle.std.specs.Prelude.{Result, is_err, OnOk}
use Rattle.std.proofs.lemmas.Bool.{eqb-true, eqb-false, ltb-true}
use Rattle.std.proofs.lemmas.Option.{slice_get_past}
use Rattle.std.proofs.lemmas.List.{length_push}
use Rattle.path_text.specs.declared.errno.Errno.{Errno}
use Rattle.path_text.specs.declared.errno.Errno.TheVariants as errors
use Rattle.tree_model.specs.declared.step.StepOf.TheVariants.{Close}
use Rattle.tree_model.specs.Entries.{refuse_if}
use Rattle.tree_model.specs.State.{State, TOP}
use Rattle.tree_model.specs.Steps.{outcome, held, node_held, is_full, with_handle, directory_at, grants, grants_at, IsGrant}
use Rattle.tree_model.proofs.Places.{slice_get-last}
use Rattle.tree_model.proofs.StepLaws.{nodes_are_left, others_handles_stay}
use Rattle.step_resolver.proofs.Underway.StepOutcomes.{with_handle-is_more, Close-is_less, slice_get-other}
use Rattle.sessions.specs.declared.open.OpenCause.TheVariants.{TooManySessions}
use Rattle.sessions.specs.declared.open.TheConstants.{SESSIONS_MAX}
use Rattle.sessions.specs.Open.{granted, after_grant, book_cause, cause_after, opening_cause, first_sessions, IsAsItWas, TakesBack, IsOpened}
use Rattle.sessions.specs.Service.{ServiceView}
use Rattle.sessions.specs.Session.{SessionView, begun}

-- ---- one handle more

module _ (s : State) (i x : ℕ) where
  -- the others' handles, and the actor's own other ones
  pub others : (b k : ℕ) → k ≢ length s.handles → held (with_handle s i x) b k ≡ held s b k
  others b k ne = ap (node_held b) (slice_get-other s.handles (Some (record { actor = i; node = x })) k ne)

  fresh : (b : ℕ) → held s b (length s.handles) ≡ None
  fresh b = ap (node_held b) (slice_get_past s.handles (length s.handles) (le_refl (length s.handles)))

  not_theirs : (b : ℕ) → (i == b) ≡ false → held (with_handle s i x) b (length s.handles) ≡ None
  not_theirs b e = ap (node_held b) (slice_get-last s.handles (Some (record { actor = i; node = x })))
      ∙ ap (λ q. refuse_if q (Some x) None) e

  -- its Close takes it back
  module _ (t after : State) (back : IsAsItWas (with_handle s i x) t)
      (is : after ≡ (outcome t i (Close (length s.handles))).after) where
    closed_handle : (b : ℕ) → held (outcome t i (Close (length s.handles))).after b (length s.handles) ≡ None
    closed_handle b = on (i == b) refl
      where
        on : (q : Bool) → (i == b) ≡ q → held (outcome t i (Close (length s.handles))).after b (length s.handles) ≡ None
        on true e =
            subst (λ a. held (outcome t i (Close (length s.handles))).after a (length s.handles) ≡ None)
            (eqb-true i b e) (Close-is_less t i (length s.handles)).closed
        on false e = others_handles_stay t i (Close (length s.handles)) b (length s.handles)
            (λ q. eqb-false i b e (sym q)) ∙ back.1 b (length s.handles) ∙ not_theirs b e

    other_handle : (b k : ℕ) → k ≢ length s.handles
        → held (outcome t i (Close (length s.handles))).after b k ≡ held t b k
    other_handle b k ne = on (i == b) refl
      where
        on : (q : Bool) → (i == b) ≡ q → held (outcome t i (Close (length s.handles))).after b k ≡ held t b k
        on true e =
            subst (λ a. held (outcome t i (Close (length s.handles))).after a k ≡ held t a k) (eqb-true i b e)
            ((Close-is_less t i (length s.handles)).others k ne)
        on false e = others_handles_stay t i (Close (length s.handles)) b k (λ q. eqb-false i b e (sym q))

    each_handle : (b k : ℕ) → held (outcome t i (Close (length s.handles))).after b k ≡ held s b k
    each_handle b k = on (k == length s.handles) refl
      where
        on : (q : Bool) → (k == length s.handles) ≡ q
            → held (outcome t i (Close (length s.handles))).after b k ≡ held s b k
        on true e =
            subst (λ h. held (outcome t i (Close (length s.handles))).after b h ≡ held s b h)
            (sym (eqb-true k (length s.handles) e)) (closed_handle b ∙ sym (fresh b))
        on false e =
            let ne = eqb-false k (length s.handles) e in
            other_handle b k ne ∙ back.1 b k ∙ others b k ne

    pub taken_back : IsAsItWas s after
    taken_back = (
      ap (λ (u : State). u.nodes) is ∙ nodes_are_left t i (Close (length s.handles)) refl ∙ back.0,
      λ b k. ap (λ (u : State). held u b k) is ∙ each_handle b k,
    )

-- ---- a root that is granted

-- the handle that a grant opened
pub record Grants (s : State) (i : ℕ) (names : List (List ℕ)) (t : State) : Type 0 where
  pub node : ℕ
  pub directory : directory_at s.nodes TOP names ≡ Ok node
  pub is_more : t ≡ with_handle s i node

grants_so : (s t : State) (i : ℕ) (names : List (List ℕ)) → grants s i names ≡ Ok t → Grants s i names t
grants_so s t i names e = on (directory_at s.nodes TOP names) refl e
  where
    on_full : (x : ℕ) (full : Bool) → directory_at s.nodes TOP names ≡ Ok x
        → refuse_if full (Err errors.TooMany) (Ok (with_handle s i x)) ≡ Ok t → Grants s i names t
    on_full x true d e = cc (e)
    on_full x false d e = record { node = x; directory = d; is_more = cc (e) }

    on : (found : Result ℕ Errno) → directory_at s.nodes TOP names ≡ found → grants_at s i found ≡ Ok t
        → Grants s i names t
    on (Err error) d e = cc (e)
    on (Ok x) d e = on_full x (is_full s i) d e

-- a Close takes back what was granted, where all else is as it was after it
pub grant_taken_back : (s t u after : State) (i h : ℕ) (names : List (List ℕ)) → grants s i names ≡ Ok t
    → h ≡ length s.handles → IsAsItWas t u
    → after ≡ (outcome u i (Close h)).after → IsAsItWas s after
grant_taken_back s t u after i h names e same back is =
    let g = grants_so s t i names e in
    taken_back s i g.node u after (subst (λ (v : State). IsAsItWas v u) g.is_more back)
    (subst (λ k. after ≡ (outcome u i (Close k)).after) same is)

-- ---- all roots

-- the tree after the grants, from actor i on: the nodes, the handles from before, and each root's handle
pub record AllGranted (s : State) (i : ℕ) (roots : List (List (List ℕ))) (t : State) : Type 0 where
  pub nodes : t.nodes ≡ s.nodes
  pub others : (a k : ℕ) → k < length s.handles → held t a k ≡ held s a k
  pub each : (k a h : ℕ) (names : List (List ℕ)) → a ≡ i + k → h ≡ length s.handles + k → slice_get roots k ≡ Some names
      → (x : ℕ) × ((directory_at s.nodes TOP names ≡ Ok x) × (held t a h ≡ Some x))

module _ (s v t : State) (i : ℕ) (names : List (List ℕ)) (roots : List (List (List ℕ))) (g : Grants s i names v)
    (later : AllGranted v (suc i) roots t) where
  one_longer : length v.handles ≡ length s.handles + 1
  one_longer = ap (λ (u : State). length u.handles) g.is_more
      ∙ length_push s.handles (Some (record { actor = i; node = g.node }))

  first_open : held t i (length s.handles) ≡ Some g.node
  first_open =
      later.others i (length s.handles) (omega (arith, one_longer))
      ∙ ap (λ (u : State). held u i (length s.handles)) g.is_more
      ∙ (with_handle-is_more s i g.node).is_open

  older : (a k : ℕ) → k < length s.handles → held t a k ≡ held s a k
  older a k within =
      later.others a k (omega (arith, within, one_longer)) ∙ ap (λ (u : State). held u a k) g.is_more
      ∙ others s i g.node a k (λ e. absurd (omega (arith, within, e)))

  each_root : (k a h : ℕ) (ns : List (List ℕ)) → a ≡ i + k → h ≡ length s.handles + k
      → slice_get (names ∷ roots) k ≡ Some ns
      → (x : ℕ) × ((directory_at s.nodes TOP ns ≡ Ok x) × (held t a h ≡ Some x))
  each_root zero a h ns ea eh at =
      let same : names ≡ ns = cc (at) in
      let ea' : a ≡ i = omega (arith, ea) in
      let eh' : h ≡ length s.handles = omega (arith, eh) in (
        g.node,
        (
          subst (λ n. directory_at s.nodes TOP n ≡ Ok g.node) same g.directory,
          ap (λ z. held t z h) ea' ∙ ap (held t i) eh' ∙ first_open,
        ),
      )
  each_root (suc k) a h ns ea eh at =
      let found = later.each k a h ns (omega (arith, ea)) (omega (arith, eh, one_longer)) at in
      let same : v.nodes ≡ s.nodes = ap (λ (u : State). u.nodes) g.is_more in
      (found.0, (subst (λ nodes. directory_at nodes TOP ns ≡ Ok found.0) same found.1.0, found.1.1))

  after_first : AllGranted s i (names ∷ roots) t
  after_first = record { nodes = later.nodes ∙ ap (λ (u : State). u.nodes) g.is_more; others = older; each = each_root }

by_grant : (s t : State) (i : ℕ) (names : List (List ℕ)) (roots : List (List (List ℕ))) (found : Result State Errno)
    → ((v : State) → granted v (suc i) roots ≡ Ok t → AllGranted v (suc i) roots t)
    → grants s i names ≡ found → after_grant (λ v. granted v (suc i) roots) i found ≡ Ok t
    → AllGranted s i (names ∷ roots) t
by_grant s t i names roots (Err error) go g e = cc (e)
by_grant s t i names roots (Ok v) go g e = after_first s v t i names roots (grants_so s v i names g) (go v e)

none_granted : (s t : State) (i : ℕ) → s ≡ t → AllGranted s i [] t
none_granted s t i e =
    subst (λ (u : State). AllGranted s i [] u) e
    (record { nodes = refl; others = λ a k within. refl; each = λ k a h names ea eh at. cc (at) })

pub all_granted : (s t : State) (i : ℕ) (roots : List (List (List ℕ))) → granted s i roots ≡ Ok t
    → AllGranted s i roots t
all_granted s t i [] e = none_granted s t i (cc (e))
all_granted s t i (names ∷ roots) e =
    by_grant s t i names roots (grants s i names) (λ v f. all_granted v t (suc i) roots f) refl e

-- ---- the sessions

as_many : (tag i h : ℕ) (roots : List (List (List ℕ))) → length (first_sessions tag i h roots) ≡ length roots
as_many tag i h [] = refl
as_many tag i h (names ∷ roots) = ap suc (as_many tag (suc i) (suc h) roots)

session_at : (tag i h k a j : ℕ) (roots : List (List (List ℕ))) (names : List (List ℕ)) → a ≡ i + k → j ≡ h + k
    → slice_get roots k ≡ Some names
    → slice_get (first_sessions tag i h roots) k ≡ Some (begun (record { tag = tag; actor = a }) j)
session_at tag i h k a j [] names ea ej at = cc (at)
session_at tag i h zero a j (n ∷ roots) names ea ej at =
    let ea' : i ≡ a = omega (arith, ea) in
    let ej' : h ≡ j = omega (arith, ej) in
    ap (λ z. Some (begun (record { tag = tag; actor = z }) h)) ea'
    ∙ ap (λ z. Some (begun (record { tag = tag; actor = a }) z)) ej'
session_at tag i h (suc k) a j (n ∷ roots) names ea ej at =
    session_at tag (suc i) (suc h) k a j roots names (omega (arith, ea)) (omega (arith, ej)) at

pub opened_whole : (s opening : State) (tag lines : ℕ) (roots : List (List (List ℕ))) (service : ServiceView)
    (sessions : List SessionView) → granted s 0 roots ≡ Ok opening
    → sessions ≡ [] ++ first_sessions tag 0 (length s.handles) roots
    → service ≡ record { tag = tag; count = length roots; lines = lines; opening = opening }
    → IsOpened s roots tag lines service sessions
opened_whole s opening tag lines roots service sessions e all is =
    let g = all_granted s opening 0 roots e in
    subst (λ (z : ServiceView). IsOpened s roots tag lines z sessions) (sym is)
    (record {
      same_tag = refl;
      count = refl;
      same_lines = refl;
      is_granted = e;
      are_first = all;
      one_each = ap length all ∙ as_many tag 0 (length s.handles) roots;
      nodes = g.nodes;
      others = g.others;
      each = λ i names at.
          let found = g.each i i (length s.handles + i) names (omega arith) refl at in
          record {
            handle = length s.handles + i;
            node = found.0;
            is_new = ap (λ ss. slice_get ss i) all
                ∙ session_at tag 0 (length s.handles) i i (length s.handles + i) roots names (omega arith) refl at;
            directory = found.1.0;
            is_open = found.1.1;
          };
    })

-- ---- as it is opened, root by root

pub granted_here : (s t : State) (i h : ℕ) (names : List (List ℕ)) → IsGrant s t (grants s i names) (Ok h)
    → (grants s i names ≡ Ok t) × (h ≡ length s.handles)
granted_here s t i h names is = on (grants s i names) refl is
  where
    on : (found : Result State Errno) → grants s i names ≡ found → IsGrant s t found (Ok h)
        → (grants s i names ≡ Ok t) × (h ≡ length s.handles)
    on (Err e) q k = cc (k.0)
    on (Ok v) q k = (q ∙ ap (λ (u : State). Ok u) (sym k.1), k.0)

pub as_it_is : (s : State) → IsAsItWas s s
as_it_is s = (refl, λ a h. refl)

module _ (s t : State) (i a h : ℕ) (names : List (List ℕ)) (others roots : List (List (List ℕ))) (same : a ≡ i)
    (all : roots ≡ names ∷ others)
    (is : IsGrant s t (grants s a names) (Ok h)) where
  here : (grants s i names ≡ Ok t) × (h ≡ length s.handles)
  here = granted_here s t i h names (subst (λ z. IsGrant s t (grants s z names) (Ok h)) same is)

  longer : length t.handles ≡ suc (length s.handles)
  longer =
      let g = grants_so s t i names here.0 in
      omega (
        arith,
        ap (λ (u : State). length u.handles) g.is_more,
        length_push s.handles (Some (record { actor = i; node = g.node })),
      )

  pub sessions_on : (tag : ℕ) (old mid new : List SessionView)
      → mid ≡ old ++ begun (record { tag = tag; actor = a }) h ∷ []
      → new ≡ mid ++ first_sessions tag (i + 1) (length t.handles) others
      → new ≡ old ++ first_sessions tag i (length s.handles) roots
  sessions_on tag old mid new one rest =
      let next : i + 1 ≡ suc i = omega arith in
      rest ∙ ap (λ ss. ss ++ first_sessions tag (i + 1) (length t.handles) others) one
      ∙ append_assoc old (begun (record { tag = tag; actor = a }) h ∷ [])
      (first_sessions tag (i + 1) (length t.handles) others)
      ∙ ap (λ z. old ++ begun (record { tag = tag; actor = z }) h ∷ first_sessions tag (i + 1)
      (length t.handles) others) same
      ∙ ap (λ z. old ++ begun (record { tag = tag; actor = i }) z ∷ first_sessions tag (i + 1)
      (length t.handles) others) here.1
      ∙ ap (λ z. old ++ begun (record { tag = tag; actor = i }) (length s.handles) ∷ first_sessions tag z
      (length t.handles) others) next
      ∙ ap (λ z. old ++ begun (record { tag = tag; actor = i }) (length s.handles) ∷ first_sessions tag
      (suc i) z others) longer
      ∙ ap (λ rs. old ++ first_sessions tag i (length s.handles) rs) (sym all)

  pub back_on : (u after : State) → IsAsItWas t u → after ≡ (outcome u a (Close h)).after → IsAsItWas s after
  back_on u after back after_is =
      grant_taken_back s t u after i h names here.0 here.1 back
      (subst (λ z. after ≡ (outcome u z (Close h)).after) same after_is)

-- ---- all taken back, the last one first

pub none_taken_back : (old : State) → TakesBack [] old old
none_taken_back old s tag i [] e none = subst (λ (u : State). IsAsItWas s u) (cc (e)) (as_it_is s)
none_taken_back old s tag i (names ∷ roots) e none = cc (none)

pub all_taken_back : (old mid after : State) (first : SessionView) (others : List SessionView)
    → TakesBack others old mid → after ≡ (outcome mid first.owner.actor (Close first.root)).after
    → TakesBack (first ∷ others) old after
all_taken_back old mid after first others rest is s tag i [] e all = cc (all)
all_taken_back old mid after first others rest is s tag i (names ∷ roots) e all = on (grants s i names) refl e
  where
    on : (found : Result State Errno) → grants s i names ≡ found
        → after_grant (λ t. granted t (suc i) roots) i found ≡ Ok old → IsAsItWas s after
    on (Err error) g k = cc (k)
    on (Ok t) g k =
        let more = grants_so s t i names g in
        let longer : length t.handles ≡ suc (length s.handles) = omega (
          arith,
          ap (λ (u : State). length u.handles) more.is_more,
          length_push s.handles (Some (record { actor = i; node = more.node })),
        ) in
        let head : first ≡ begun (record { tag = tag; actor = i }) (length s.handles) = cc (all) in
        let tail : others ≡ first_sessions tag (suc i) (suc (length s.handles)) roots = cc (all) in
        grant_taken_back s t mid after i (length s.handles) names g refl
        (rest t tag (suc i) roots k (tail ∙ ap (λ n. first_sessions tag (suc i) n roots) (sym longer)))
        (is ∙ ap (λ (v : SessionView). (outcome mid v.owner.actor (Close v.root)).after) head)

not_less : (a b : ℕ) (q : Bool) → nat_lt a b ≡ q → b ≤ a → q ≡ false
not_less a b true e le = let less = ltb-true a b e in absurd (omega (arith, less, le))
not_less a b false e le = refl

pub opening_none : (s opening : State) (roots : List (List (List ℕ))) (lines : ℕ) → length roots ≤ SESSIONS_MAX
    → granted s 0 roots ≡ Ok opening
    → book_cause opening lines ≡ None → opening_cause s roots lines ≡ None
opening_none s opening roots lines few g none =
    ap (λ (b : Bool). if b then Some TooManySessions else cause_after (granted s 0 roots) lines)
    (not_less SESSIONS_MAX (length roots) (nat_lt SESSIONS_MAX (length roots)) refl few)
    ∙ ap (λ r. cause_after r lines) g ∙ none

-- what holds of an Ok, where it is none
pub when_ok : {X E : Type 0} (r : Result X E) (P : Type 0) → is_err r ≡ false → OnOk r P → P
when_ok (Ok x) P e p = p
when_ok (Err x) P e p = cc (e)
