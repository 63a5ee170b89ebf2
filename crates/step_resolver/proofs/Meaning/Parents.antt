-- What parts mean from the root is the root, or a node that has a parent.
use Rattle.std.specs.Prelude.{◌≡◌, ◌≢◌, ℕ, zero, suc, ◌==◌, Bool, true, false, cond, if◌then◌else◌, List, [], ◌∷◌, Option, Some, None, refl}
use Rattle.std.specs.Option.{option_map}
use Rattle.std.proofs.Common.{sym, ap, subst, ◌∙◌, inl, inr, eq-eqb}
use Rattle.std.proofs.lemmas.Option.{none-some, same_Some}
use Rattle.path_text.specs.declared.errno.Errno.TheVariants.{NotFound, CrossRoot, Loop}
use Rattle.path_text.specs.Text.{parts_of, begins_with_slash}
use Rattle.tree_model.specs.declared.inode.Inode.{Inode}
use Rattle.tree_model.specs.declared.inode.Object.{Object}
use Rattle.tree_model.specs.declared.inode.Object.TheVariants.{Dir, File, Link}
use Rattle.tree_model.specs.declared.inode.Place.{Place}
use Rattle.tree_model.specs.State.{TOP, object_at, place_at, child, parent, is_dir}
use Rattle.tree_model.specs.Trees.{IsTree, Rooted, top, below}
use Rattle.tree_model.proofs.Children.{entry, place_at-child}
use Rattle.walk_plan.specs.Plan.{leads_out}
use Rattle.step_resolver.specs.Asked.{AskedPart, Cur, Up, Named, followed}
use Rattle.step_resolver.specs.Meaning.{Ground, Meant, object, fails, after_reads, and_then, is_too_long, from_of, Deeper, link_in, child_is, named, above, above_of, one_part, part_means, parts_mean, means}
use Rattle.step_resolver.specs.MeaningLaws.{IsBelow, PartsLeadBelow, UpIsNeverMissing}
use Rattle.step_resolver.proofs.Meaning.PartsAndLinks.{deeper_at}

-- ---- in a tree

abbrev HasParent : List Inode → ℕ → Type 0
HasParent nodes x = (e : ℕ) × (parent nodes x ≡ Some e)

-- the parent, by whether the node is the top
abbrev parent_by : List Inode → ℕ → Bool → Option ℕ
parent_by nodes x b = if b then Some TOP else option_map (λ place. place.parent) (place_at nodes x)

placed_has_parent : (nodes : List Inode) (x : ℕ) (place : Place) → place_at nodes x ≡ Some place → HasParent nodes x
placed_has_parent nodes x place p = on (x == TOP) refl
  where
    on : (b : Bool) → (x == TOP) ≡ b → HasParent nodes x
    on true q = (TOP, ap (parent_by nodes x) q)
    on false q = (place.parent, ap (parent_by nodes x) q ∙ ap (option_map (λ y. y.parent)) p)

rooted_has_parent : (nodes : List Inode) {x : ℕ} → Rooted nodes x → HasParent nodes x
rooted_has_parent nodes top = (TOP, refl)
rooted_has_parent nodes (below {x = x} place p up) = placed_has_parent nodes x place p

-- above what has a place is what has a parent
above_placed : (nodes : List Inode) → IsTree nodes → {x : ℕ} → Rooted nodes x → (place : Place) → place_at nodes x ≡ Some place → HasParent nodes place.parent
above_placed nodes is top place p = absurd (none-some place (sym is.top_is_free ∙ p))
above_placed nodes is (below first q up) place p =
    subst (λ d. HasParent nodes d) (ap (λ y. y.parent) (same_Some first place (sym q ∙ p))) (rooted_has_parent nodes up)

parent_has_parent : (nodes : List Inode) → IsTree nodes → (x e : ℕ) → parent nodes x ≡ Some e → HasParent nodes e
parent_has_parent nodes is x e p = on (x == TOP) refl
  where
    on_place : (o : Option Place) → place_at nodes x ≡ o → option_map (λ place. place.parent) (place_at nodes x) ≡ Some e → HasParent nodes e
    on_place None q h = absurd (none-some e (sym (ap (option_map (λ place. place.parent)) q) ∙ h))
    on_place (Some place) q h =
        subst (λ d. HasParent nodes d) (same_Some place.parent e (sym (ap (option_map (λ y. y.parent)) q) ∙ h))
        (above_placed nodes is (is.rooted x place q) place q)

    on : (b : Bool) → (x == TOP) ≡ b → HasParent nodes e
    on true q = subst (λ d. HasParent nodes d) (same_Some TOP e (sym (ap (parent_by nodes x) q) ∙ p)) (TOP, refl)
    on false q = on_place (place_at nodes x) refl (sym (ap (parent_by nodes x) q) ∙ p)

-- ---- along a meaning

abbrev LeadsBelow : Ground → Meant → Type 0
LeadsBelow g (object d b reads) = IsBelow g d
LeadsBelow g (fails error reads) = Unit {0}

module _ (g : Ground) (is : IsTree g.nodes) where
  with_reads : (entries : List Place) (m : Meant) → LeadsBelow g m → LeadsBelow g (after_reads entries m)
  with_reads entries (object d b reads) h = h
  with_reads entries (fails error reads) h = h

  onward_below : (m : Meant) (onward : ℕ → ℕ → Meant) → LeadsBelow g m → ((e c : ℕ) → IsBelow g e → LeadsBelow g (onward e c)) → LeadsBelow g (and_then m onward)
  onward_below (object d b reads) onward h further = with_reads reads (onward d b) (further d b h)
  onward_below (fails error reads) onward h further = tt

  either : (test : Bool) (m k : Meant) → LeadsBelow g m → LeadsBelow g k → LeadsBelow g (cond test m k)
  either true m k h l = h
  either false m k h l = l

  from_below : (d : ℕ) → IsBelow g d → (b : Bool) → IsBelow g (if b then g.root else d)
  from_below d h true = inl refl
  from_below d h false = h

  above_below : (d b : ℕ) (o : Option ℕ) → parent g.nodes d ≡ o → LeadsBelow g (above b o)
  above_below d b None q = tt
  above_below d b (Some e) q = inr (parent_has_parent g.nodes is d e q)

  module _ (deeper : Deeper) (so : (e : ℕ) → IsBelow g e → (qs : List AskedPart) (c : ℕ) → LeadsBelow g (deeper e qs c)) where
    link_below : (d : ℕ) → IsBelow g d → (text : List ℕ) (b : ℕ) → LeadsBelow g (link_in deeper g d text b)
    link_below d h text zero = tt
    link_below d h text (suc b) =
        either g.flags.no_links (fails Loop []) _ tt
        (either (leads_out (begins_with_slash text) g.flags) (fails CrossRoot []) _ tt
        (so (from_of g.root d text) (from_below d h (begins_with_slash text)) (followed (parts_of text)) b))

    child_below : (d : ℕ) → IsBelow g d → (follow : Bool) (b c : ℕ) → IsBelow g c → (o : Option Object) → LeadsBelow g (child_is deeper g d follow b c o)
    child_below d h true b c below_it (Some (Link text)) = link_below d h text b
    child_below d h true b c below_it (Some Dir) = below_it
    child_below d h true b c below_it (Some File) = below_it
    child_below d h true b c below_it None = below_it
    child_below d h false b c below_it o = below_it

    named_below : (d : ℕ) → IsBelow g d → (follow : Bool) (n : List ℕ) (b : ℕ) (o : Option ℕ) → child g.nodes d n ≡ o → LeadsBelow g (named deeper g d follow b o)
    named_below d h follow n b None q = tt
    named_below d h follow n b (Some c) q =
        let p = place_at-child g.nodes d n c q in
        child_below d h follow b c (inr (placed_has_parent g.nodes c (entry d n) p)) (object_at g.nodes c)

    one_below : (d : ℕ) → IsBelow g d → (p : AskedPart) (b : ℕ) → LeadsBelow g (one_part deeper g d p b)
    one_below d h Cur b = h
    one_below d h Up b =
        either (d == g.root) _ _ (either g.flags.beneath (fails CrossRoot []) (object d b []) tt h) (above_below d b (parent g.nodes d) refl)
    one_below d h (Named follow n) b =
        either (is_too_long n) _ _ tt
        (with_reads (record { parent = d; name = n } ∷ []) (named deeper g d follow b (child g.nodes d n)) (named_below d h follow n b (child g.nodes d n) refl))

    parts_below : (ps : List AskedPart) (d b : ℕ) → IsBelow g d → LeadsBelow g (parts_mean deeper g d ps b)
    parts_below [] d b h = h
    parts_below (p ∷ ps) d b h =
        onward_below (part_means deeper g d p b) (λ e c. parts_mean deeper g e ps c)
        (either (is_dir g.nodes d) _ _ (one_below d h p b) tt) (λ e c below_it. parts_below ps e c below_it)

  means_below : (nested : ℕ) (d : ℕ) → IsBelow g d → (ps : List AskedPart) (b : ℕ) → LeadsBelow g (means nested g d ps b)
  means_below zero d h ps b = parts_below (deeper_at zero g) (λ e below_it qs c. tt) ps d b h
  means_below (suc nested) d h ps b = parts_below (deeper_at (suc nested) g) (λ e below_it qs c. means_below nested e below_it qs c) ps d b h

pub parts_lead_below : PartsLeadBelow
parts_lead_below nested g is d ps b e c reads h q = subst (LeadsBelow g) q (means_below g is nested d h ps b)

-- ---- the way up

never_missing : (g : Ground) (d b : ℕ) → IsBelow g d → above_of g d b ≢ fails NotFound []
never_missing g d b (inl at_root) q = on g.flags.beneath (sym (ap up_by (eq-eqb d g.root at_root)) ∙ q)
  where
    up_by : Bool → Meant
    up_by t = if t then (if g.flags.beneath then fails CrossRoot [] else object d b []) else above b (parent g.nodes d)

    on : (t : Bool) → (if t then fails CrossRoot [] else object d b []) ≡ fails NotFound [] → ⊥
    on true e = cc (e)
    on false e = cc (e)
never_missing g d b (inr has) q = on (d == g.root) g.flags.beneath q
  where
    on : (t u : Bool) → (if t then (if u then fails CrossRoot [] else object d b []) else above b (parent g.nodes d)) ≡ fails NotFound [] → ⊥
    on true true e = cc (e)
    on true false e = cc (e)
    on false u e = let clash : object has.0 b [] ≡ fails NotFound [] = sym (ap (above b) has.1) ∙ e in cc (clash)

pub up_is_never_missing : UpIsNeverMissing
up_is_never_missing nested g is ps b e c reads q = never_missing g e c (parts_lead_below nested g is g.root ps b e c reads (inl refl) q)
