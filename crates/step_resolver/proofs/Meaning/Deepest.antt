-- The deepest directory: it is exactly the caller's front and rest, and has the meaning of the whole where that means an object or fails elsewhere.
use Rattle.std.proofs.Common.{◌≡◌, ℕ, ◌&&◌, Bool, true, false, not, cond, is_none, List, [], ◌∷◌, ◌++◌, None, refl, sym, ap, ◌∙◌, subst, append_assoc}
use mathlib.Core.Path.{fun_ext}
use Rattle.std.proofs.lemmas.Bool.{false≢true, and_parts, not-true, cond-true, cond-false}
use Rattle.path_text.specs.declared.errno.Errno.{Errno}
use Rattle.path_text.specs.declared.errno.Errno.TheVariants.{NotFound, NotDir, TooLong}
use Rattle.tree_model.specs.State.{child, is_dir}
use Rattle.tree_model.specs.declared.inode.Place.{Place}
use Rattle.tree_model.proofs.TreeTests.{none_from}
use Rattle.step_resolver.specs.Asked.{AskedPart, Cur, Up, Named}
use Rattle.step_resolver.specs.Meaning.{Ground, Meant, object, fails, after_reads, and_then, is_too_long, Deeper, named, one_part, part_means, parts_mean, means, reads_of}
use Rattle.step_resolver.specs.MeaningLaws.{IsFrontAndRest, IsDeepest, DeepestIsFrontAndRest, meant_by, DeepestMeansTheSame}
use Rattle.step_resolver.specs.Deepest.{Deep, whole, up_to, none, is_missing, entries_of, deep_after, and_then_deep, deepest, deep_reads}
use Rattle.step_resolver.proofs.Meaning.PartsAndLinks.{and_then-object, deeper_at, means_by}

-- ---- one after another

pub deep_after-twice : (first second : List Place) (k : Deep) → deep_after first (deep_after second k) ≡ deep_after (first ++ second) k
deep_after-twice first second (whole d b reads) = ap (whole d b) (sym (append_assoc first second reads))
deep_after-twice first second (up_to d b rest reads) = ap (up_to d b rest) (sym (append_assoc first second reads))
deep_after-twice first second (none error reads) = ap (none error) (sym (append_assoc first second reads))

pub deep_after_nothing : (k : Deep) → deep_after [] k ≡ k
deep_after_nothing (whole d b reads) = refl
deep_after_nothing (up_to d b rest reads) = refl
deep_after_nothing (none error reads) = refl

pub and_then_deep-after_reads : (entries : List Place) (m : Meant) (onward : ℕ → ℕ → Deep)
    → and_then_deep (after_reads entries m) onward ≡ deep_after entries (and_then_deep m onward)
and_then_deep-after_reads entries (object d b reads) onward = sym (deep_after-twice entries reads (onward d b))
and_then_deep-after_reads entries (fails error reads) onward = refl

pub and_then_deep-and_then : (m : Meant) (onward : ℕ → ℕ → Meant) (further : ℕ → ℕ → Deep)
    → and_then_deep (and_then m onward) further ≡ and_then_deep m (λ e c. and_then_deep (onward e c) further)
and_then_deep-and_then (object d b reads) onward further = and_then_deep-after_reads reads (onward d b) further
and_then_deep-and_then (fails error reads) onward further = refl

pub and_then_deep-same : (m : Meant) (onward other : ℕ → ℕ → Deep) → ((e c : ℕ) → onward e c ≡ other e c) → and_then_deep m onward ≡ and_then_deep m other
and_then_deep-same m onward other h = ap (and_then_deep m) (fun_ext (λ e. fun_ext (h e)))

meant_by-deep_after : (entries : List Place) (k : Deep) → meant_by (deep_after entries k) ≡ after_reads entries (meant_by k)
meant_by-deep_after entries (whole d b reads) = refl
meant_by-deep_after entries (up_to d b rest reads) = refl
meant_by-deep_after entries (none error reads) = refl

meant_by-and_then_deep : (m : Meant) (onward : ℕ → ℕ → Deep) → meant_by (and_then_deep m onward) ≡ and_then m (λ e c. meant_by (onward e c))
meant_by-and_then_deep (object d b reads) onward = meant_by-deep_after reads (onward d b)
meant_by-and_then_deep (fails error reads) onward = refl

pub reads_of-meant_by : (k : Deep) → reads_of (meant_by k) ≡ deep_reads k
reads_of-meant_by (whole d b reads) = refl
reads_of-meant_by (up_to d b rest reads) = refl
reads_of-meant_by (none error reads) = refl

-- ---- a part that is missing

pub record Missing (g : Ground) (d : ℕ) (n : List ℕ) : Type 0 where
  pub dir : is_dir g.nodes d ≡ true
  pub short : is_too_long n ≡ false
  pub child : child g.nodes d n ≡ None

pub missing_parts : (g : Ground) (d : ℕ) (follow : Bool) (n : List ℕ) → is_missing g d (Named follow n) ≡ true → Missing g d n
missing_parts g d follow n e =
    let last = and_parts (is_dir g.nodes d && not (is_too_long n)) (is_none (child g.nodes d n)) e in
    let first = and_parts (is_dir g.nodes d) (not (is_too_long n)) last.0 in
    record { dir = first.0; short = not-true (is_too_long n) first.1; child = none_from (child g.nodes d n) last.1 }

part_means-missing : (deeper : Deeper) (g : Ground) (d : ℕ) (follow : Bool) (n : List ℕ) (b : ℕ) → Missing g d n
    → part_means deeper g d (Named follow n) b ≡ fails NotFound (record { parent = d; name = n } ∷ [])
part_means-missing deeper g d follow n b is =
    ap (λ t. cond t (one_part deeper g d (Named follow n) b) (fails NotDir [])) is.dir
    ∙ ap (λ t. cond t (fails TooLong []) (after_reads (record { parent = d; name = n } ∷ []) (named deeper g d follow b (child g.nodes d n)))) is.short
    ∙ ap (λ o. after_reads (record { parent = d; name = n } ∷ []) (named deeper g d follow b o)) is.child

pub missing_means : (deeper : Deeper) (g : Ground) (d : ℕ) (p : AskedPart) (b : ℕ) → is_missing g d p ≡ true
    → part_means deeper g d p b ≡ fails NotFound (entries_of d p)
missing_means deeper g d Cur b e = absurd (false≢true e)
missing_means deeper g d Up b e = absurd (false≢true e)
missing_means deeper g d (Named follow n) b e = part_means-missing deeper g d follow n b (missing_parts g d follow n e)

-- ---- the deepest, with the way to resolve links' texts as an argument

abbrev pub deep_by : Deeper → Ground → ℕ → List AskedPart → ℕ → Deep
deep_by deeper g d [] b = whole d b []
deep_by deeper g d (p ∷ ps) b =
    cond (is_missing g d p) (up_to d b (p ∷ ps) (entries_of d p)) (and_then_deep (part_means deeper g d p b) (λ e c. deep_by deeper g e ps c))

means_one : (nested : ℕ) (g : Ground) (d : ℕ) (p : AskedPart) (b : ℕ) → means nested g d (p ∷ []) b ≡ part_means (deeper_at nested g) g d p b
means_one nested g d p b = means_by nested g d (p ∷ []) b ∙ and_then-object (part_means (deeper_at nested g) g d p b)

pub deepest_by : (nested : ℕ) (g : Ground) (d : ℕ) (ps : List AskedPart) (b : ℕ) → deepest nested g d ps b ≡ deep_by (deeper_at nested g) g d ps b
deepest_by nested g d [] b = refl
deepest_by nested g d (p ∷ ps) b =
    ap (cond (is_missing g d p) (up_to d b (p ∷ ps) (entries_of d p)))
    (ap (λ m. and_then_deep m (λ e c. deepest nested g e ps c)) (means_one nested g d p b)
    ∙ and_then_deep-same (part_means (deeper_at nested g) g d p b) (λ e c. deepest nested g e ps c) (λ e c. deep_by (deeper_at nested g) g e ps c)
    (λ e c. deepest_by nested g e ps c))

-- a meaning that is an object
abbrev pub IsObject : Meant → Type 0
IsObject (object d b reads) = Unit {0}
IsObject (fails error reads) = ⊥

IsObject-after_reads : (entries : List Place) (m : Meant) → IsObject (after_reads entries m) → IsObject m
IsObject-after_reads entries (object d b reads) h = tt
IsObject-after_reads entries (fails error reads) h = h

-- what follows is alike where the whole is an object
and_then_deep-object : (m : Meant) (onward : ℕ → ℕ → Meant) (first other : ℕ → ℕ → Deep) → IsObject (and_then m onward)
    → ((e c : ℕ) → IsObject (onward e c) → first e c ≡ other e c) → and_then_deep m first ≡ and_then_deep m other
and_then_deep-object (object d b reads) onward first other h same = ap (deep_after reads) (same d b (IsObject-after_reads reads (onward d b) h))
and_then_deep-object (fails error reads) onward first other h same = absurd h

module _ (deeper : Deeper) (g : Ground) where
  pub deep_by-step : (p : AskedPart) (ps : List AskedPart) (d b : ℕ) → is_missing g d p ≡ false
      → deep_by deeper g d (p ∷ ps) b ≡ and_then_deep (part_means deeper g d p b) (λ e c. deep_by deeper g e ps c)
  deep_by-step p ps d b e = cond-false (is_missing g d p) (up_to d b (p ∷ ps) (entries_of d p)) _ e

  pub meant_by-deep_by : (ps : List AskedPart) (d b : ℕ) → meant_by (deep_by deeper g d ps b) ≡ parts_mean deeper g d ps b
  meant_by-deep_by [] d b = refl
  meant_by-deep_by (p ∷ ps) d b = on (is_missing g d p) refl (λ e c. meant_by-deep_by ps e c)
    where
      on : (t : Bool) → is_missing g d p ≡ t → ((e c : ℕ) → meant_by (deep_by deeper g e ps c) ≡ parts_mean deeper g e ps c)
          → meant_by (deep_by deeper g d (p ∷ ps) b) ≡ parts_mean deeper g d (p ∷ ps) b
      on true t h =
          ap meant_by (cond-true (is_missing g d p) (up_to d b (p ∷ ps) (entries_of d p)) _ t)
          ∙ sym (ap (λ m. and_then m (λ e c. parts_mean deeper g e ps c)) (missing_means deeper g d p b t))
      on false t h =
          ap meant_by (deep_by-step p ps d b t)
          ∙ meant_by-and_then_deep (part_means deeper g d p b) (λ e c. deep_by deeper g e ps c)
          ∙ ap (and_then (part_means deeper g d p b)) (fun_ext (λ e. fun_ext (h e)))

  -- over a front that means an object, it is the deepest of the rest from there
  pub deep_by-front : (front rest : List AskedPart) (d b : ℕ) → IsObject (parts_mean deeper g d front b)
      → deep_by deeper g d (front ++ rest) b ≡ and_then_deep (parts_mean deeper g d front b) (λ e c. deep_by deeper g e rest c)
  deep_by-front [] rest d b h = sym (deep_after_nothing (deep_by deeper g d rest b))
  deep_by-front (p ∷ front) rest d b h = on (is_missing g d p) refl (λ e c. deep_by-front front rest e c)
    where
      on : (t : Bool) → is_missing g d p ≡ t
          → ((e c : ℕ) → IsObject (parts_mean deeper g e front c) → deep_by deeper g e (front ++ rest) c ≡ and_then_deep (parts_mean deeper g e front c) (λ f k. deep_by deeper g f rest k))
          → deep_by deeper g d (p ∷ front ++ rest) b ≡ and_then_deep (parts_mean deeper g d (p ∷ front) b) (λ e c. deep_by deeper g e rest c)
      on true t further = absurd (subst IsObject (ap (λ m. and_then m (λ e c. parts_mean deeper g e front c)) (missing_means deeper g d p b t)) h)
      on false t further =
          deep_by-step p (front ++ rest) d b t
          ∙ and_then_deep-object (part_means deeper g d p b) (λ e c. parts_mean deeper g e front c)
          (λ e c. deep_by deeper g e (front ++ rest) c)
          (λ e c. and_then_deep (parts_mean deeper g e front c) (λ f k. deep_by deeper g f rest k)) h further
          ∙ sym (and_then_deep-and_then (part_means deeper g d p b) (λ e c. parts_mean deeper g e front c) (λ e c. deep_by deeper g e rest c))

-- ---- the laws

pub deepest_means_the_same : DeepestMeansTheSame
deepest_means_the_same nested g d ps b =
    ap meant_by (deepest_by nested g d ps b) ∙ meant_by-deep_by (deeper_at nested g) g ps d b ∙ sym (means_by nested g d ps b)

module _ (nested : ℕ) (g : Ground) where
  -- a front and a rest are where the deepest ends
  front_is_deepest : (d : ℕ) (ps : List AskedPart) (b x c : ℕ) (rest : List AskedPart) (reads : List Place)
      → IsFrontAndRest nested g d ps b x c rest reads → deepest nested g d ps b ≡ up_to x c rest reads
  front_is_deepest d ps b x c rest reads is =
      deepest_by nested g d ps b
      ∙ ap (λ qs. deep_by deeper g d qs b) is.parts
      ∙ deep_by-front deeper g is.front rest d b (subst IsObject (sym front_means) tt)
      ∙ ap (λ m. and_then_deep m (λ e k. deep_by deeper g e rest k)) front_means
      ∙ ap (λ qs. deep_after is.before (deep_by deeper g x qs c)) is.begins_with
      ∙ ap (deep_after is.before)
      (cond-true (is_missing g x (Named is.follow is.name)) (up_to x c (Named is.follow is.name ∷ is.others) (entries_of x (Named is.follow is.name))) _ is.missing)
      ∙ (λ i. up_to x c (sym is.begins_with i) (sym is.all_reads i))
    where
      deeper : Deeper
      deeper = deeper_at nested g

      front_means : parts_mean deeper g d is.front b ≡ object x c is.before
      front_means = sym (means_by nested g d is.front b) ∙ is.front_means

  -- where a deepest ends with a rest, there is a front
  abbrev HasFront : ℕ → List AskedPart → ℕ → Deep → Type 0
  HasFront d ps b (whole x c reads) = Unit {0}
  HasFront d ps b (up_to x c rest reads) = IsFrontAndRest nested g d ps b x c rest reads
  HasFront d ps b (none error reads) = Unit {0}

  has_front-missing : (d : ℕ) (p : AskedPart) (ps : List AskedPart) (b : ℕ) → is_missing g d p ≡ true
      → IsFrontAndRest nested g d (p ∷ ps) b d b (p ∷ ps) (entries_of d p)
  has_front-missing d Cur ps b e = absurd (false≢true e)
  has_front-missing d Up ps b e = absurd (false≢true e)
  has_front-missing d (Named follow n) ps b e =
      record {
        front = [];
        parts = refl;
        follow = follow;
        name = n;
        others = ps;
        begins_with = refl;
        before = [];
        front_means = means_by nested g d [] b;
        missing = e;
        all_reads = refl;
      }

  -- a part that means an object, before the front
  has_front-after : (d : ℕ) (p : AskedPart) (ps : List AskedPart) (b e c : ℕ) (reads : List Place)
      → part_means (deeper_at nested g) g d p b ≡ object e c reads → (k : Deep) → HasFront e ps c k → HasFront d (p ∷ ps) b (deep_after reads k)
  has_front-after d p ps b e c reads q (whole x k others) f = tt
  has_front-after d p ps b e c reads q (none error others) f = tt
  has_front-after d p ps b e c reads q (up_to x k rest others) f =
      record {
        front = p ∷ f.front;
        parts = ap (λ qs. p ∷ qs) f.parts;
        follow = f.follow;
        name = f.name;
        others = f.others;
        begins_with = f.begins_with;
        before = reads ++ f.before;
        front_means =
            means_by nested g d (p ∷ f.front) b
            ∙ ap (λ m. and_then m (λ i j. parts_mean (deeper_at nested g) g i f.front j)) q
            ∙ ap (after_reads reads) (sym (means_by nested g e f.front c) ∙ f.front_means);
        missing = f.missing;
        all_reads = ap (λ l. reads ++ l) f.all_reads ∙ sym (append_assoc reads f.before (entries_of x (Named f.follow f.name)));
      }

  has_front : (ps : List AskedPart) (d b : ℕ) → HasFront d ps b (deep_by (deeper_at nested g) g d ps b)
  has_front [] d b = tt
  has_front (p ∷ ps) d b = on (is_missing g d p) refl (λ e c. has_front ps e c)
    where
      onward : ℕ → ℕ → Deep
      onward e c = deep_by (deeper_at nested g) g e ps c

      after : (m : Meant) → part_means (deeper_at nested g) g d p b ≡ m → ((e c : ℕ) → HasFront e ps c (onward e c)) → HasFront d (p ∷ ps) b (and_then_deep m onward)
      after (object e c reads) q h = has_front-after d p ps b e c reads q (onward e c) (h e c)
      after (fails error reads) q h = tt

      on : (t : Bool) → is_missing g d p ≡ t → ((e c : ℕ) → HasFront e ps c (onward e c)) → HasFront d (p ∷ ps) b (deep_by (deeper_at nested g) g d (p ∷ ps) b)
      on true t h =
          subst (HasFront d (p ∷ ps) b) (sym (cond-true (is_missing g d p) (up_to d b (p ∷ ps) (entries_of d p)) _ t)) (has_front-missing d p ps b t)
      on false t h = subst (HasFront d (p ∷ ps) b) (sym (deep_by-step (deeper_at nested g) g p ps d b t)) (after (part_means (deeper_at nested g) g d p b) refl h)

-- a meaning as a deepest
abbrev as_deep : Meant → Deep
as_deep (object d b reads) = whole d b reads
as_deep (fails error reads) = none error reads

module _ (nested : ℕ) (g : Ground) (d : ℕ) (ps : List AskedPart) (b : ℕ) where
  to_deepest : (deep : Deep) → deepest nested g d ps b ≡ deep → IsDeepest nested g d ps b deep
  to_deepest (whole x c reads) e = sym (deepest_means_the_same nested g d ps b) ∙ ap meant_by e
  to_deepest (up_to x c rest reads) e = subst (HasFront nested g d ps b) (sym (deepest_by nested g d ps b) ∙ e) (has_front nested g ps d b)
  to_deepest (none error reads) e = (
    sym (deepest_means_the_same nested g d ps b) ∙ ap meant_by e,
    λ x c rest others f. let clash : none error reads ≡ up_to x c rest others = sym e ∙ front_is_deepest nested g d ps b x c rest others f in cc (clash),
  )

  is_whole : (x c : ℕ) (reads : List Place) → means nested g d ps b ≡ object x c reads → (k : Deep) → deepest nested g d ps b ≡ k → k ≡ whole x c reads
  is_whole x c reads h k e = on k (sym (ap meant_by e) ∙ deepest_means_the_same nested g d ps b ∙ h)
    where
      on : (k : Deep) → meant_by k ≡ object x c reads → k ≡ whole x c reads
      on (whole y j others) q = ap as_deep q
      on (up_to y j rest others) q = cc (q)
      on (none error others) q = cc (q)

  is_none_of : (error : Errno) (reads : List Place) → IsDeepest nested g d ps b (none error reads) → (k : Deep) → deepest nested g d ps b ≡ k → k ≡ none error reads
  is_none_of error reads h (whole y j others) e =
      let q : object y j others ≡ fails error reads = sym (ap meant_by e) ∙ deepest_means_the_same nested g d ps b ∙ h.0 in cc (q)
  is_none_of error reads h (up_to y j rest others) e = absurd (h.1 y j rest others (to_deepest (up_to y j rest others) e))
  is_none_of error reads h (none other others) e = ap as_deep (sym (ap meant_by e) ∙ deepest_means_the_same nested g d ps b ∙ h.0)

  from_deepest : (deep : Deep) → IsDeepest nested g d ps b deep → deepest nested g d ps b ≡ deep
  from_deepest (whole x c reads) h = is_whole x c reads h (deepest nested g d ps b) refl
  from_deepest (up_to x c rest reads) h = front_is_deepest nested g d ps b x c rest reads h
  from_deepest (none error reads) h = is_none_of error reads h (deepest nested g d ps b) refl

pub deepest_is_front_and_rest : DeepestIsFrontAndRest
deepest_is_front_and_rest nested g d ps b deep = (to_deepest nested g d ps b deep, from_deepest nested g d ps b deep)
