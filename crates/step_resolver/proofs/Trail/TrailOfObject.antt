-- Where nothing changes, a trail leads to what the parts mean.
use Rattle.std.proofs.Common.{◌≡◌, ℕ, zero, suc, Bool, true, false, List, [], ◌∷◌, Option, Some, None, refl, sym, ap, subst, ◌∙◌, le_refl}
use Rattle.std.specs.Prelude.{if◌then◌else◌}
use Rattle.path_text.specs.declared.errno.Errno.TheVariants.{NotFound, CrossRoot, NotDir, TooLong, Loop}
use Rattle.path_text.specs.declared.flags.Flags.{Flags}
use Rattle.path_text.specs.Text.{parts_of, begins_with_slash}
use Rattle.tree_model.specs.declared.inode.Inode.{Inode}
use Rattle.tree_model.specs.declared.inode.Object.{Object}
use Rattle.tree_model.specs.declared.inode.Object.TheVariants.{Dir, File, Link}
use Rattle.tree_model.specs.State.{Stands, is_dir, child, object_at}
use Rattle.tree_model.specs.Trees.{IsTree}
use Rattle.tree_model.specs.declared.inode.Place.{Place}
use Rattle.tree_model.proofs.Children.{entry, place_at-child}
use Rattle.walk_plan.specs.Plan.{leads_out}
use Rattle.step_resolver.specs.Asked.{AskedPart, Cur, Up, Named, followed}
use Rattle.step_resolver.specs.Meaning.{Meant, object, fails, Deeper, after_reads, and_then, link_in, child_is, named, one_part, part_means, parts_mean, is_too_long, from_of}
use Rattle.step_resolver.specs.Trail.{Spot, Trail, all, stay, top, climb, down, through, IsChildAt, is_entered, quiet, from_text}
use Rattle.step_resolver.specs.TrailLaws.{still, IsReachedThere, QuietMeaningsAreReached}
use Rattle.step_resolver.proofs.Meaning.NodesAtEntries.{object_at-place}
use Rattle.step_resolver.proofs.Meaning.PartsAndLinks.{deeper_at, means_by}
use Rattle.step_resolver.proofs.Ends.TrailsAndMeaning.{Fits, IsWay, part_in, name_in, up_in, top_in, down_way, parent_on, stands_on}
use Rattle.step_resolver.proofs.Trail.MeaningOfTrail.{at_rest, way_of, rests}

-- ---- what a meaning that is an object says of its pieces

abbrev IsFailing : Meant → Type 0
IsFailing (object d b reads) = ⊥
IsFailing (fails error reads) = Unit {0}

abbrev node_in : Meant → ℕ
node_in (object d b reads) = d
node_in (fails error reads) = 0

abbrev links_in : Meant → ℕ
links_in (object d b reads) = b
links_in (fails error reads) = 0

no_object : (m : Meant) (x b : ℕ) (reads : List Place) → IsFailing m → m ≡ object x b reads → ⊥
no_object m x b reads failing e = subst IsFailing e failing

-- an object without what was read before it
record IsAfter (m : Meant) (x b : ℕ) : Type 0 where
  pub reads : List Place
  pub is : m ≡ object x b reads

after_is : (first : List Place) (m : Meant) (x b : ℕ) (reads : List Place) → after_reads first m ≡ object x b reads → IsAfter m x b
after_is first (object d c rs) x b reads e = record { reads = rs; is = λ i. object (ap node_in e i) (ap links_in e i) rs }
after_is first (fails error rs) x b reads e = absurd (no_object (after_reads first (fails error rs)) x b reads tt e)

-- what comes first is an object, and so is what follows from there
record IsTwo (m : Meant) (onward : ℕ → ℕ → Meant) (x b : ℕ) : Type 0 where
  pub node : ℕ
  pub links : ℕ
  pub reads : List Place
  pub first : m ≡ object node links reads
  pub second : IsAfter (onward node links) x b

two_of : (m : Meant) (onward : ℕ → ℕ → Meant) (x b : ℕ) (reads : List Place) → and_then m onward ≡ object x b reads → IsTwo m onward x b
two_of (object d c rs) onward x b reads e = record { node = d; links = c; reads = rs; first = refl; second = after_is rs (onward d c) x b reads e }
two_of (fails error rs) onward x b reads e = absurd (no_object (fails error rs) x b reads tt e)

module _ (nodes : List Inode) (r : ℕ) (flags : Flags) (is : IsTree nodes) (dir : is_dir nodes r ≡ true) where
  abbrev fits : Fits (at_rest nodes r flags)
  fits = rests nodes r flags is dir

  -- one part is passed, to a spot
  record IsPassed (p : AskedPart) (s : Spot) (x b : ℕ) : Type 0 where
    pub to : Spot
    pub node : to.node ≡ x
    pub links : to.links ≡ b
    pub stands : Stands nodes r to.node to.names
    pub onward : (ps : List AskedPart) (z : Spot) → Trail (quiet nodes r flags) ps to z None → Trail (quiet nodes r flags) (p ∷ ps) s z None

  abbrev Reaches : Deeper → Type 0
  Reaches deeper = (qs : List AskedPart) (s : Spot) (x b : ℕ) (reads : List Place) → Stands nodes r s.node s.names → deeper s.node qs s.links ≡ object x b reads
      → IsReachedThere nodes r flags qs s x b

  module _ (deeper : Deeper) (further : Reaches deeper) (s : Spot) (stands : Stands nodes r s.node s.names) (x b : ℕ) (reads : List Place)
      (in_dir : is_dir nodes s.node ≡ true) where
    way : IsWay (at_rest nodes r flags) s.node s.names
    way = way_of nodes r flags is s.node s.names stands

    up_passed : (names : List (List ℕ)) → s.names ≡ names → part_means deeper (still nodes r flags) s.node Up s.links ≡ object x b reads → IsPassed Up s x b
    up_passed [] q e = on flags.beneath refl
      where
        at_root : s.node ≡ r
        at_root = subst (λ ns. Stands nodes r s.node ns) q stands

        value : (t : Bool) → flags.beneath ≡ t → (if t then fails CrossRoot [] else object s.node s.links []) ≡ object x b reads
        value t f = sym (top_in fits deeper s.node s.links in_dir at_root ∙ ap (λ y. if y then fails CrossRoot [] else object s.node s.links []) f) ∙ e

        on : (t : Bool) → flags.beneath ≡ t → IsPassed Up s x b
        on true f = absurd (no_object (fails CrossRoot []) x b reads tt (value true f))
        on false f = record {
          to = s;
          node = ap node_in (value false f);
          links = ap links_in (value false f);
          stands = stands;
          onward = λ ps z t. top (record { dir = in_dir; root = at_root; names = q; absorbed = f }) t;
        }
    up_passed (n ∷ names) q e =
        let up : IsWay (at_rest nodes r flags) s.node (n ∷ names) = subst (IsWay (at_rest nodes r flags) s.node) q way in
        let value = sym (up_in fits deeper s.node n names s.links in_dir up) ∙ e in
        record {
          to = record { node = up.1.0; names = names; links = s.links; moment = suc (suc s.moment) };
          node = ap node_in value;
          links = ap links_in value;
          stands = stands_on fits 0 up.1.0 names up.1.1.1.1;
          onward = λ ps z t. climb s.moment (suc s.moment) up.1.0 names (record {
            dir = in_dir;
            name = n;
            passed = q;
            at = record { own = refl; later = le_refl s.moment };
            parent = parent_on fits 0 s.node n names up;
            checked = record { own = refl; later = le_refl (suc s.moment) };
            stands = stands_on fits 0 up.1.0 names up.1.1.1.1;
          }) t;
        }

    module _ (n : List ℕ) (short : is_too_long n ≡ false) (c : ℕ) (there : child nodes s.node n ≡ Some c) where
      at_child : IsChildAt (quiet nodes r flags) s n s.moment c
      at_child = record { dir = in_dir; short = short; at = record { own = refl; later = le_refl s.moment }; child = there }

      child_stands : Stands nodes r c (n ∷ s.names)
      child_stands = stands_on fits 0 c (n ∷ s.names) (down_way fits s.node c n s.names way tt there)

      entered : (follow : Bool) → is_entered follow (object_at nodes c) ≡ true → object c s.links [] ≡ object x b reads → IsPassed (Named follow n) s x b
      entered follow enters e = record {
        to = record { node = c; names = n ∷ s.names; links = s.links; moment = suc s.moment };
        node = ap node_in e;
        links = ap links_in e;
        stands = child_stands;
        onward = λ ps z t. down s.moment c at_child enters t;
      }

      start_stands : (t : Bool) → Stands nodes r (if t then r else s.node) (if t then [] else s.names)
      start_stands true = refl
      start_stands false = stands

      followed_on : (text : List ℕ) → object_at nodes c ≡ Some (Link text) → (left : ℕ) → s.links ≡ left
          → link_in deeper (still nodes r flags) s.node text left ≡ object x b reads → IsPassed (Named true n) s x b
      followed_on text l zero q e = absurd (no_object (fails Loop []) x b reads tt e)
      followed_on text l (suc left) q e = on_flag flags.no_links refl
        where
          rest_of : Bool → Meant
          rest_of t = if t then fails CrossRoot [] else deeper (from_of r s.node text) (followed (parts_of text)) left

          whole_of : Bool → Meant
          whole_of t = if t then fails Loop [] else rest_of (leads_out (begins_with_slash text) flags)

          reached : flags.no_links ≡ false → leads_out (begins_with_slash text) flags ≡ false → deeper (from_of r s.node text) (followed (parts_of text)) left ≡ object x b reads
              → IsPassed (Named true n) s x b
          reached allowed within h =
              let sub = further (followed (parts_of text)) (from_text (quiet nodes r flags) s text left (suc s.moment)) x b reads (start_stands (begins_with_slash text)) h in
              record {
                to = sub.to;
                node = sub.node;
                links = sub.links;
                stands = sub.stands;
                onward = λ ps z t. through s.moment text left sub.to
                    (record { link = c; child = at_child; is_link = l; links = q; allowed = allowed; within = within }) sub.trail t;
              }

          on_crossing : flags.no_links ≡ false → (t : Bool) → leads_out (begins_with_slash text) flags ≡ t → rest_of t ≡ object x b reads → IsPassed (Named true n) s x b
          on_crossing allowed true within h = absurd (no_object (fails CrossRoot []) x b reads tt h)
          on_crossing allowed false within h = reached allowed within h

          on_flag : (t : Bool) → flags.no_links ≡ t → IsPassed (Named true n) s x b
          on_flag true f = absurd (no_object (fails Loop []) x b reads tt (sym (ap whole_of f) ∙ e))
          on_flag false f = on_crossing f (leads_out (begins_with_slash text) flags) refl (sym (ap whole_of f) ∙ e)

      child_passed : (follow : Bool) (o : Option Object) → object_at nodes c ≡ o → child_is deeper (still nodes r flags) s.node follow s.links c o ≡ object x b reads
          → (o ≡ None → ⊥) → IsPassed (Named follow n) s x b
      child_passed follow None l e some = absurd (some refl)
      child_passed true (Some Dir) l e some = entered true (ap (is_entered true) l) e
      child_passed true (Some File) l e some = entered true (ap (is_entered true) l) e
      child_passed true (Some (Link text)) l e some = followed_on text l s.links refl e
      child_passed false (Some Dir) l e some = entered false (ap (is_entered false) l) e
      child_passed false (Some File) l e some = entered false (ap (is_entered false) l) e
      child_passed false (Some (Link text)) l e some = entered false (ap (is_entered false) l) e

  child_is_something : (d c : ℕ) (n : List ℕ) → child nodes d n ≡ Some c → object_at nodes c ≡ None → ⊥
  child_is_something d c n e none = object_at-place nodes c (entry d n) (place_at-child nodes d n c e) none

  module _ (deeper : Deeper) (further : Reaches deeper) where
    name_passed : (s : Spot) → Stands nodes r s.node s.names → (x b : ℕ) (reads : List Place) → is_dir nodes s.node ≡ true → (follow : Bool) (n : List ℕ)
        → part_means deeper (still nodes r flags) s.node (Named follow n) s.links ≡ object x b reads → IsPassed (Named follow n) s x b
    name_passed s stands x b reads in_dir follow n e = on_length (is_too_long n) refl
      where
        on_child : is_too_long n ≡ false → (o : Option ℕ) → child nodes s.node n ≡ o → IsAfter (named deeper (still nodes r flags) s.node follow s.links o) x b → IsPassed (Named follow n) s x b
        on_child short None c after = absurd (no_object (fails NotFound []) x b after.reads tt after.is)
        on_child short (Some y) c after =
            child_passed deeper further s stands x b after.reads in_dir n short y c follow (object_at nodes y) refl after.is (λ none. child_is_something s.node y n c none)

        on_length : (t : Bool) → is_too_long n ≡ t → IsPassed (Named follow n) s x b
        on_length true long = absurd (no_object (fails TooLong []) x b reads tt
            (sym (part_in fits deeper s.node (Named follow n) s.links in_dir
            ∙ ap (λ y. if y then fails TooLong [] else after_reads (record { parent = s.node; name = n } ∷ []) (named deeper (still nodes r flags) s.node follow s.links (child nodes s.node n))) long) ∙ e))
        on_length false short = on_child short (child nodes s.node n) refl
            (after_is (record { parent = s.node; name = n } ∷ []) (named deeper (still nodes r flags) s.node follow s.links (child nodes s.node n)) x b reads
            (sym (name_in fits deeper s.node follow n s.links in_dir short) ∙ e))

    part_passed : (s : Spot) → Stands nodes r s.node s.names → (x b : ℕ) (reads : List Place) → is_dir nodes s.node ≡ true → (p : AskedPart)
        → part_means deeper (still nodes r flags) s.node p s.links ≡ object x b reads → IsPassed p s x b
    part_passed s stands x b reads in_dir Cur e =
        let value = sym (part_in fits deeper s.node Cur s.links in_dir) ∙ e in
        record { to = s; node = ap node_in value; links = ap links_in value; stands = stands; onward = λ ps z t. stay in_dir t }
    part_passed s stands x b reads in_dir Up e = up_passed deeper further s stands x b reads in_dir s.names refl e
    part_passed s stands x b reads in_dir (Named follow n) e = name_passed s stands x b reads in_dir follow n e

    part_reached : (s : Spot) → Stands nodes r s.node s.names → (x b : ℕ) (reads : List Place) (p : AskedPart)
        → part_means deeper (still nodes r flags) s.node p s.links ≡ object x b reads → IsPassed p s x b
    part_reached s stands x b reads p e = on (is_dir nodes s.node) refl
      where
        on : (t : Bool) → is_dir nodes s.node ≡ t → IsPassed p s x b
        on true f = part_passed s stands x b reads f p e
        on false f = absurd (no_object (fails NotDir []) x b reads tt
            (sym (ap (λ y. if y then one_part deeper (still nodes r flags) s.node p s.links else fails NotDir []) f) ∙ e))

    parts_reached : (ps : List AskedPart) (s : Spot) (x b : ℕ) (reads : List Place) → Stands nodes r s.node s.names
        → parts_mean deeper (still nodes r flags) s.node ps s.links ≡ object x b reads → IsReachedThere nodes r flags ps s x b
    parts_reached [] s x b reads stands e = record { to = s; trail = all s.moment (le_refl s.moment); node = ap node_in e; links = ap links_in e; stands = stands }
    parts_reached (p ∷ ps) s x b reads stands e =
        let two = two_of (part_means deeper (still nodes r flags) s.node p s.links) (λ y c. parts_mean deeper (still nodes r flags) y ps c) x b reads e in
        let passed = part_reached s stands two.node two.links two.reads p two.first in
        let rest = parts_reached ps passed.to x b two.second.reads passed.stands
        ((λ i. parts_mean deeper (still nodes r flags) (passed.node i) ps (passed.links i)) ∙ two.second.is) in
        record { to = rest.to; trail = passed.onward ps rest.to rest.trail; node = rest.node; links = rest.links; stands = rest.stands }

  reaches : (nested : ℕ) → Reaches (deeper_at nested (still nodes r flags))
  reaches zero qs s x b reads stands e = absurd (no_object (fails Loop []) x b reads tt e)
  reaches (suc nested) qs s x b reads stands e =
      parts_reached (deeper_at nested (still nodes r flags)) (reaches nested) qs s x b reads stands (sym (means_by nested (still nodes r flags) s.node qs s.links) ∙ e)

pub quiet_meanings_are_reached : QuietMeaningsAreReached
quiet_meanings_are_reached nodes r flags is dir nested ps s x b reads stands e =
    parts_reached nodes r flags is dir (deeper_at nested (still nodes r flags)) (reaches nodes r flags is dir nested) ps s x b reads stands
    (sym (means_by nested (still nodes r flags) s.node ps s.links) ∙ e)
