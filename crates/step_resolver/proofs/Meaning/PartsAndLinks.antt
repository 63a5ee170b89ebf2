-- Laws of the meaning of a path: parts one after another, the links left, how deep links are nested, and a link's text put before the rest.
use Rattle.std.proofs.Common.{◌≡◌, ℕ, zero, suc, ◌<◌, ◌≤◌, ◌==◌, Bool, true, false, cond, List, [], ◌∷◌, ◌++◌, Option, Some, None, refl, sym, ap, ◌∙◌, subst, append_assoc, append-nil, le_refl, le_trans, arith}
use mathlib.Core.Path.{fun_ext}
use Rattle.path_text.specs.declared.errno.Errno.TheVariants.{CrossRoot, NotDir, TooLong, Loop}
use Rattle.path_text.specs.Text.{parts_of, begins_with_slash}
use Rattle.tree_model.specs.declared.inode.Object.{Object}
use Rattle.tree_model.specs.declared.inode.Object.TheVariants.{Dir, File, Link}
use Rattle.tree_model.specs.State.{object_at, child, parent, is_dir}
use Rattle.tree_model.specs.declared.inode.Place.{Place}
use Rattle.walk_plan.specs.Plan.{leads_out}
use Rattle.step_resolver.specs.Asked.{AskedPart, Cur, Up, Named, followed}
use Rattle.step_resolver.specs.Meaning.{Ground, Meant, object, fails, after_reads, and_then, is_too_long, from_of, Deeper, link_in, child_is, named, above, one_part, part_means, parts_mean, means}
use Rattle.step_resolver.specs.MeaningLaws.{AppendedPartsMean, NestingDoesNotMatter, LinksNeverRise, IsOpenLink, LinksAreTheirTexts}

-- ---- one meaning after another

pub after_reads-twice : (first second : List Place) (m : Meant) → after_reads first (after_reads second m) ≡ after_reads (first ++ second) m
after_reads-twice first second (object d b reads) = ap (object d b) (sym (append_assoc first second reads))
after_reads-twice first second (fails error reads) = ap (fails error) (sym (append_assoc first second reads))

pub after_no_reads : (m : Meant) → after_reads [] m ≡ m
after_no_reads (object d b reads) = refl
after_no_reads (fails error reads) = refl

pub and_then-after_reads : (entries : List Place) (m : Meant) (onward : ℕ → ℕ → Meant)
    → and_then (after_reads entries m) onward ≡ after_reads entries (and_then m onward)
and_then-after_reads entries (object d b reads) onward = sym (after_reads-twice entries reads (onward d b))
and_then-after_reads entries (fails error reads) onward = refl

-- the order in which three follow one another needs no brackets
pub and_then-assoc : (m : Meant) (onward further : ℕ → ℕ → Meant)
    → and_then (and_then m onward) further ≡ and_then m (λ e c. and_then (onward e c) further)
and_then-assoc (object d b reads) onward further = and_then-after_reads reads (onward d b) further
and_then-assoc (fails error reads) onward further = refl

-- where nothing follows
pub and_then-object : (m : Meant) → and_then m (λ e c. object e c []) ≡ m
and_then-object (object d b reads) = ap (object d b) (append-nil reads)
and_then-object (fails error reads) = refl

pub and_then-same : (m : Meant) (onward other : ℕ → ℕ → Meant) → ((e c : ℕ) → onward e c ≡ other e c) → and_then m onward ≡ and_then m other
and_then-same m onward other h = ap (and_then m) (fun_ext (λ e. fun_ext (h e)))

-- ---- the links left

-- no more links are left than that
abbrev pub LeavesAtMost : ℕ → Meant → Type 0
LeavesAtMost b (object d c reads) = c ≤ b
LeavesAtMost b (fails error reads) = Unit {0}

pub LeavesAtMost-more : (b c : ℕ) → b ≤ c → (m : Meant) → LeavesAtMost b m → LeavesAtMost c m
LeavesAtMost-more b c h (object d k reads) l = le_trans l h
LeavesAtMost-more b c h (fails error reads) l = tt

pub LeavesAtMost-after_reads : (b : ℕ) (entries : List Place) (m : Meant) → LeavesAtMost b m → LeavesAtMost b (after_reads entries m)
LeavesAtMost-after_reads b entries (object d c reads) l = l
LeavesAtMost-after_reads b entries (fails error reads) l = tt

pub LeavesAtMost-and_then : (b : ℕ) (m : Meant) (onward : ℕ → ℕ → Meant) → LeavesAtMost b m
    → ((e c : ℕ) → c ≤ b → LeavesAtMost b (onward e c)) → LeavesAtMost b (and_then m onward)
LeavesAtMost-and_then b (object d c reads) onward l h = LeavesAtMost-after_reads b reads (onward d c) (h d c l)
LeavesAtMost-and_then b (fails error reads) onward l h = tt

pub LeavesAtMost-cond : (b : ℕ) (test : Bool) (m k : Meant) → LeavesAtMost b m → LeavesAtMost b k → LeavesAtMost b (cond test m k)
LeavesAtMost-cond b true m k l h = l
LeavesAtMost-cond b false m k l h = h

-- no way to resolve a link's text adds to the links left
abbrev pub Lowers : Deeper → Type 0
Lowers deeper = (e : ℕ) (qs : List AskedPart) (c : ℕ) → LeavesAtMost c (deeper e qs c)

module _ (deeper : Deeper) (lowers : Lowers deeper) (g : Ground) where
  link_in-lowers : (d : ℕ) (text : List ℕ) (b : ℕ) → LeavesAtMost b (link_in deeper g d text b)
  link_in-lowers d text zero = tt
  link_in-lowers d text (suc b) =
      LeavesAtMost-cond (suc b) g.flags.no_links _ _ tt
      (LeavesAtMost-cond (suc b) (leads_out (begins_with_slash text) g.flags) _ _ tt
      (LeavesAtMost-more b (suc b) (omega arith) (deeper (from_of g.root d text) (followed (parts_of text)) b) (lowers _ _ b)))

  child_is-lowers : (d : ℕ) (follow : Bool) (b c : ℕ) (o : Option Object) → LeavesAtMost b (child_is deeper g d follow b c o)
  child_is-lowers d true b c (Some (Link text)) = link_in-lowers d text b
  child_is-lowers d true b c (Some Dir) = le_refl b
  child_is-lowers d true b c (Some File) = le_refl b
  child_is-lowers d true b c None = le_refl b
  child_is-lowers d false b c o = le_refl b

  named-lowers : (d : ℕ) (follow : Bool) (b : ℕ) (o : Option ℕ) → LeavesAtMost b (named deeper g d follow b o)
  named-lowers d follow b None = tt
  named-lowers d follow b (Some c) = child_is-lowers d follow b c (object_at g.nodes c)

  above-lowers : (b : ℕ) (o : Option ℕ) → LeavesAtMost b (above b o)
  above-lowers b None = tt
  above-lowers b (Some e) = le_refl b

  one_part-lowers : (d : ℕ) (p : AskedPart) (b : ℕ) → LeavesAtMost b (one_part deeper g d p b)
  one_part-lowers d Cur b = le_refl b
  one_part-lowers d Up b =
      LeavesAtMost-cond b (d == g.root) _ _
      (LeavesAtMost-cond b g.flags.beneath (fails CrossRoot []) (object d b []) tt (le_refl b))
      (above-lowers b (parent g.nodes d))
  one_part-lowers d (Named follow n) b =
      LeavesAtMost-cond b (is_too_long n) _ _ tt
      (LeavesAtMost-after_reads b (record { parent = d; name = n } ∷ []) (named deeper g d follow b (child g.nodes d n))
      (named-lowers d follow b (child g.nodes d n)))

  pub part_means-lowers : (d : ℕ) (p : AskedPart) (b : ℕ) → LeavesAtMost b (part_means deeper g d p b)
  part_means-lowers d p b = LeavesAtMost-cond b (is_dir g.nodes d) _ _ (one_part-lowers d p b) tt

  pub parts_mean-lowers : (ps : List AskedPart) (d b : ℕ) → LeavesAtMost b (parts_mean deeper g d ps b)
  parts_mean-lowers [] d b = le_refl b
  parts_mean-lowers (p ∷ ps) d b =
      LeavesAtMost-and_then b (part_means deeper g d p b) (λ e c. parts_mean deeper g e ps c) (part_means-lowers d p b)
      (λ e c h. LeavesAtMost-more c b h (parts_mean deeper g e ps c) (parts_mean-lowers ps e c))

-- how the texts of links nested that deep are resolved
abbrev pub deeper_at : ℕ → Ground → Deeper
deeper_at zero g = λ e qs c. fails Loop []
deeper_at (suc nested) g = λ e qs c. means nested g e qs c

pub means_by : (nested : ℕ) (g : Ground) (d : ℕ) (ps : List AskedPart) (b : ℕ) → means nested g d ps b ≡ parts_mean (deeper_at nested g) g d ps b
means_by zero g d ps b = refl
means_by (suc nested) g d ps b = refl

mutual
  pub deeper_at-lowers : (nested : ℕ) (g : Ground) → Lowers (deeper_at nested g)
  deeper_at-lowers zero g e qs c = tt
  deeper_at-lowers (suc nested) g e qs c = means-lowers nested g e qs c

  pub means-lowers : (nested : ℕ) (g : Ground) (d : ℕ) (ps : List AskedPart) (b : ℕ) → LeavesAtMost b (means nested g d ps b)
  means-lowers zero g d ps b = parts_mean-lowers (deeper_at zero g) (λ e qs c. tt) g ps d b
  means-lowers (suc nested) g d ps b = parts_mean-lowers (deeper_at (suc nested) g) (λ e qs c. means-lowers nested g e qs c) g ps d b

pub links_never_rise : LinksNeverRise
links_never_rise nested g d ps b e c reads q = subst (LeavesAtMost b) q (means-lowers nested g d ps b)

-- ---- how deep links are nested

-- both resolve texts alike where fewer links than b are left
abbrev pub AgreeBelow : ℕ → Deeper → Deeper → Type 0
AgreeBelow b deeper other = (e : ℕ) (qs : List AskedPart) (c : ℕ) → c < b → deeper e qs c ≡ other e qs c

and_then-within : (b : ℕ) (m : Meant) (onward other : ℕ → ℕ → Meant) → LeavesAtMost b m
    → ((e c : ℕ) → c ≤ b → onward e c ≡ other e c) → and_then m onward ≡ and_then m other
and_then-within b (object d c reads) onward other l h = ap (after_reads reads) (h d c l)
and_then-within b (fails error reads) onward other l h = refl

module _ (deeper other : Deeper) (g : Ground) where
  link_in-same : (d : ℕ) (text : List ℕ) (b : ℕ) → AgreeBelow b deeper other → link_in deeper g d text b ≡ link_in other g d text b
  link_in-same d text zero h = refl
  link_in-same d text (suc b) h =
      ap (λ m. cond g.flags.no_links (fails Loop []) (cond (leads_out (begins_with_slash text) g.flags) (fails CrossRoot []) m))
      (h (from_of g.root d text) (followed (parts_of text)) b (omega arith))

  child_is-same : (d : ℕ) (follow : Bool) (b c : ℕ) (o : Option Object) → AgreeBelow b deeper other
      → child_is deeper g d follow b c o ≡ child_is other g d follow b c o
  child_is-same d true b c (Some (Link text)) h = link_in-same d text b h
  child_is-same d true b c (Some Dir) h = refl
  child_is-same d true b c (Some File) h = refl
  child_is-same d true b c None h = refl
  child_is-same d false b c o h = refl

  named-same : (d : ℕ) (follow : Bool) (b : ℕ) (o : Option ℕ) → AgreeBelow b deeper other → named deeper g d follow b o ≡ named other g d follow b o
  named-same d follow b None h = refl
  named-same d follow b (Some c) h = child_is-same d follow b c (object_at g.nodes c) h

  one_part-same : (d : ℕ) (p : AskedPart) (b : ℕ) → AgreeBelow b deeper other → one_part deeper g d p b ≡ one_part other g d p b
  one_part-same d Cur b h = refl
  one_part-same d Up b h = refl
  one_part-same d (Named follow n) b h =
      ap (λ m. cond (is_too_long n) (fails TooLong []) (after_reads (record { parent = d; name = n } ∷ []) m)) (named-same d follow b (child g.nodes d n) h)

  part_means-same : (d : ℕ) (p : AskedPart) (b : ℕ) → AgreeBelow b deeper other → part_means deeper g d p b ≡ part_means other g d p b
  part_means-same d p b h = ap (λ m. cond (is_dir g.nodes d) m (fails NotDir [])) (one_part-same d p b h)

  pub parts_mean-same : Lowers deeper → (ps : List AskedPart) (d b : ℕ) → AgreeBelow b deeper other
      → parts_mean deeper g d ps b ≡ parts_mean other g d ps b
  parts_mean-same lowers [] d b h = refl
  parts_mean-same lowers (p ∷ ps) d b h =
      and_then-within b (part_means deeper g d p b) (λ e c. parts_mean deeper g e ps c) (λ e c. parts_mean other g e ps c)
      (part_means-lowers deeper lowers g d p b)
      (λ e c le. parts_mean-same lowers ps e c (λ f qs k lt. h f qs k (omega arith)))
      ∙ ap (λ m. and_then m (λ e c. parts_mean other g e ps c)) (part_means-same d p b h)

pub nesting_does_not_matter : NestingDoesNotMatter
nesting_does_not_matter zero zero g d ps b h k = refl
nesting_does_not_matter zero (suc other) g d ps b h k =
    parts_mean-same (deeper_at zero g) (deeper_at (suc other) g) g (deeper_at-lowers zero g) ps d b (λ e qs c lt. absurd (omega arith))
nesting_does_not_matter (suc nested) zero g d ps b h k =
    parts_mean-same (deeper_at (suc nested) g) (deeper_at zero g) g (deeper_at-lowers (suc nested) g) ps d b (λ e qs c lt. absurd (omega arith))
nesting_does_not_matter (suc nested) (suc other) g d ps b h k =
    parts_mean-same (deeper_at (suc nested) g) (deeper_at (suc other) g) g (deeper_at-lowers (suc nested) g) ps d b
    (λ e qs c lt. nesting_does_not_matter nested other g e qs c (omega arith) (omega arith))

-- a link's text, where links are left for it, is resolved as other parts are
pub deeper_at-means : (nested : ℕ) (g : Ground) (e : ℕ) (qs : List AskedPart) (c : ℕ) → c < nested
    → deeper_at nested g e qs c ≡ parts_mean (deeper_at nested g) g e qs c
deeper_at-means zero g e qs c h = absurd (omega arith)
deeper_at-means (suc nested) g e qs c h = nesting_does_not_matter nested (suc nested) g e qs c (omega arith) (omega arith)

-- ---- parts one after another

pub parts_mean-append : (deeper : Deeper) (g : Ground) (ps qs : List AskedPart) (d b : ℕ)
    → parts_mean deeper g d (ps ++ qs) b ≡ and_then (parts_mean deeper g d ps b) (λ e c. parts_mean deeper g e qs c)
parts_mean-append deeper g [] qs d b = sym (after_no_reads (parts_mean deeper g d qs b))
parts_mean-append deeper g (p ∷ ps) qs d b =
    and_then-same (part_means deeper g d p b) (λ e c. parts_mean deeper g e (ps ++ qs) c)
    (λ e c. and_then (parts_mean deeper g e ps c) (λ f k. parts_mean deeper g f qs k)) (λ e c. parts_mean-append deeper g ps qs e c)
    ∙ sym (and_then-assoc (part_means deeper g d p b) (λ e c. parts_mean deeper g e ps c) (λ e c. parts_mean deeper g e qs c))

pub appended_parts_mean : AppendedPartsMean
appended_parts_mean nested g d ps qs b =
    means_by nested g d (ps ++ qs) b
    ∙ parts_mean-append (deeper_at nested g) g ps qs d b
    ∙ ap (λ m. and_then m (λ e c. parts_mean (deeper_at nested g) g e qs c)) (sym (means_by nested g d ps b))
    ∙ and_then-same (means nested g d ps b) (λ e c. parts_mean (deeper_at nested g) g e qs c) (λ e c. means nested g e qs c)
    (λ e c. sym (means_by nested g e qs c))

-- ---- a link that is followed

-- what a name means that is a link to be followed
pub part_means-link : (deeper : Deeper) (g : Ground) (d : ℕ) (n text : List ℕ) (b : ℕ) → IsOpenLink g d n text
    → part_means deeper g d (Named true n) (suc b)
    ≡ after_reads (record { parent = d; name = n } ∷ []) (deeper (from_of g.root d text) (followed (parts_of text)) b)
part_means-link deeper g d n text b is =
    ap (λ t. cond t (one_part deeper g d (Named true n) (suc b)) (fails NotDir [])) is.dir
    ∙ ap (λ t. cond t (fails TooLong []) (after_reads (record { parent = d; name = n } ∷ []) (named deeper g d true (suc b) (child g.nodes d n)))) is.short
    ∙ ap (λ o. after_reads (record { parent = d; name = n } ∷ []) (named deeper g d true (suc b) o)) is.child
    ∙ ap (λ o. after_reads (record { parent = d; name = n } ∷ []) (child_is deeper g d true (suc b) is.link o)) is.is_link
    ∙ ap (λ t. after_reads (record { parent = d; name = n } ∷ [])
    (cond t (fails Loop []) (cond (leads_out (begins_with_slash text) g.flags) (fails CrossRoot []) (deeper (from_of g.root d text) (followed (parts_of text)) b)))) is.allowed
    ∙ ap (λ t. after_reads (record { parent = d; name = n } ∷ [])
    (cond t (fails CrossRoot []) (deeper (from_of g.root d text) (followed (parts_of text)) b))) is.within

pub links_are_their_texts : LinksAreTheirTexts
links_are_their_texts nested g d n text rest b is h =
    means_by nested g d (Named true n ∷ rest) (suc b)
    ∙ ap (λ m. and_then m onward) (part_means-link deeper g d n text b is)
    ∙ ap (λ m. and_then (after_reads entries m) onward) (deeper_at-means nested g from (followed (parts_of text)) b h)
    ∙ and_then-after_reads entries (parts_mean deeper g from (followed (parts_of text)) b) onward
    ∙ ap (after_reads entries) (sym (parts_mean-append deeper g (followed (parts_of text)) rest from b) ∙ sym (means_by nested g from (followed (parts_of text) ++ rest) b))
  where
    deeper : Deeper
    deeper = deeper_at nested g

    from : ℕ
    from = from_of g.root d text

    entries : List Place
    entries = record { parent = d; name = n } ∷ []

    onward : ℕ → ℕ → Meant
    onward e c = parts_mean deeper g e rest c
