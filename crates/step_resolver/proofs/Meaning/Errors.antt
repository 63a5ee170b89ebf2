-- Which errors the parts of a path can mean.
use Rattle.std.proofs.Common.{◌≡◌, ℕ, zero, suc, ◌==◌, Bool, true, false, cond, List, [], ◌∷◌, Option, Some, None, refl, subst}
use Rattle.path_text.specs.declared.errno.Errno.TheVariants.{CrossRoot, Loop}
use Rattle.path_text.specs.Text.{parts_of, begins_with_slash}
use Rattle.tree_model.specs.declared.inode.Object.{Object}
use Rattle.tree_model.specs.declared.inode.Object.TheVariants.{Dir, File, Link}
use Rattle.tree_model.specs.State.{object_at, child, parent, is_dir}
use Rattle.tree_model.specs.declared.inode.Place.{Place}
use Rattle.walk_plan.specs.Plan.{leads_out}
use Rattle.step_resolver.specs.Asked.{AskedPart, Cur, Up, Named, followed}
use Rattle.step_resolver.specs.Meaning.{Ground, Meant, object, fails, after_reads, and_then, is_too_long, from_of, Deeper, link_in, child_is, named, above, one_part, part_means, parts_mean, means}
use Rattle.step_resolver.specs.MeaningLaws.{is_of_parts, PartsFailAsPaths}
use Rattle.step_resolver.proofs.Meaning.PartsAndLinks.{deeper_at}

-- an object, or one of those errors
abbrev FailsSo : Meant → Type 0
FailsSo (object d b reads) = Unit {0}
FailsSo (fails error reads) = is_of_parts error ≡ true

FailsSo-after_reads : (entries : List Place) (m : Meant) → FailsSo m → FailsSo (after_reads entries m)
FailsSo-after_reads entries (object d b reads) h = h
FailsSo-after_reads entries (fails error reads) h = h

FailsSo-and_then : (m : Meant) (onward : ℕ → ℕ → Meant) → FailsSo m → ((e c : ℕ) → FailsSo (onward e c)) → FailsSo (and_then m onward)
FailsSo-and_then (object d b reads) onward h further = FailsSo-after_reads reads (onward d b) (further d b)
FailsSo-and_then (fails error reads) onward h further = h

FailsSo-cond : (test : Bool) (m k : Meant) → FailsSo m → FailsSo k → FailsSo (cond test m k)
FailsSo-cond true m k h l = h
FailsSo-cond false m k h l = l

module _ (deeper : Deeper) (so : (e : ℕ) (qs : List AskedPart) (c : ℕ) → FailsSo (deeper e qs c)) (g : Ground) where
  link_in-fails : (d : ℕ) (text : List ℕ) (b : ℕ) → FailsSo (link_in deeper g d text b)
  link_in-fails d text zero = refl
  link_in-fails d text (suc b) =
      FailsSo-cond g.flags.no_links (fails Loop []) _ refl
      (FailsSo-cond (leads_out (begins_with_slash text) g.flags) (fails CrossRoot []) _ refl (so (from_of g.root d text) (followed (parts_of text)) b))

  child_is-fails : (d : ℕ) (follow : Bool) (b c : ℕ) (o : Option Object) → FailsSo (child_is deeper g d follow b c o)
  child_is-fails d true b c (Some (Link text)) = link_in-fails d text b
  child_is-fails d true b c (Some Dir) = tt
  child_is-fails d true b c (Some File) = tt
  child_is-fails d true b c None = tt
  child_is-fails d false b c o = tt

  named-fails : (d : ℕ) (follow : Bool) (b : ℕ) (o : Option ℕ) → FailsSo (named deeper g d follow b o)
  named-fails d follow b None = refl
  named-fails d follow b (Some c) = child_is-fails d follow b c (object_at g.nodes c)

  above-fails : (b : ℕ) (o : Option ℕ) → FailsSo (above b o)
  above-fails b None = refl
  above-fails b (Some e) = tt

  one_part-fails : (d : ℕ) (p : AskedPart) (b : ℕ) → FailsSo (one_part deeper g d p b)
  one_part-fails d Cur b = tt
  one_part-fails d Up b =
      FailsSo-cond (d == g.root) _ _ (FailsSo-cond g.flags.beneath (fails CrossRoot []) (object d b []) refl tt) (above-fails b (parent g.nodes d))
  one_part-fails d (Named follow n) b =
      FailsSo-cond (is_too_long n) _ _ refl
      (FailsSo-after_reads (record { parent = d; name = n } ∷ []) (named deeper g d follow b (child g.nodes d n)) (named-fails d follow b (child g.nodes d n)))

  parts_mean-fails : (ps : List AskedPart) (d b : ℕ) → FailsSo (parts_mean deeper g d ps b)
  parts_mean-fails [] d b = tt
  parts_mean-fails (p ∷ ps) d b =
      FailsSo-and_then (part_means deeper g d p b) (λ e c. parts_mean deeper g e ps c)
      (FailsSo-cond (is_dir g.nodes d) _ _ (one_part-fails d p b) refl) (λ e c. parts_mean-fails ps e c)

means-fails : (nested : ℕ) (g : Ground) (d : ℕ) (ps : List AskedPart) (b : ℕ) → FailsSo (means nested g d ps b)
means-fails zero g d ps b = parts_mean-fails (deeper_at zero g) (λ e qs c. refl) g ps d b
means-fails (suc nested) g d ps b = parts_mean-fails (deeper_at (suc nested) g) (λ e qs c. means-fails nested g e qs c) g ps d b

pub parts_fail_as_paths : PartsFailAsPaths
parts_fail_as_paths nested g d ps b error reads e = subst FailsSo e (means-fails nested g d ps b)
