-- Where the entries that a meaning reads are left alone, trails and stops say what the meaning says.
use Rattle.std.specs.Prelude.{◌≡◌, ◌≢◌, ℕ, zero, suc, ◌≤◌, ◌==◌, List, [], ◌∷◌, ◌++◌, Bool, true, false, if◌then◌else◌, Option, Some, None, refl}
use Rattle.std.specs.Option.{option_map}
use Rattle.std.proofs.Common.{sym, ap, subst, ◌∙◌, le_refl, le_trans, append_assoc, eqb-true, eq-eqb, not-suc-le-zero, le_of_suc-le-suc}
use Rattle.std.proofs.Math.Nat.{le-suc}
use Rattle.std.proofs.lemmas.Bool.{false≢true, false_from_ne_true}
use Rattle.std.proofs.lemmas.Option.{none-some, same_Some}
use Rattle.path_text.specs.declared.errno.Errno.{Errno}
use Rattle.path_text.specs.declared.errno.Errno.TheVariants.{NotDir, TooLong, Loop, CrossRoot}
use Rattle.path_text.specs.Text.{parts_of, begins_with_slash}
use Rattle.tree_model.specs.declared.inode.Inode.{Inode}
use Rattle.tree_model.specs.declared.inode.Object.{Object}
use Rattle.tree_model.specs.declared.inode.Object.TheVariants.{Dir, File, Link}
use Rattle.tree_model.specs.State.{TOP, object_at, place_at, child, parent, is_dir, is_directory, Stands}
use Rattle.tree_model.specs.declared.inode.Place.{Place}
use Rattle.tree_model.proofs.Children.{entry, place_at-child}
use Rattle.walk_plan.specs.Plan.{leads_out}
use Rattle.step_resolver.specs.Asked.{AskedPart, Cur, Up, Named, followed}
use Rattle.step_resolver.specs.Meaning.{Ground, Meant, object, fails, Deeper, after_reads, and_then, link_in, child_is, named, above, one_part, part_means, parts_mean, is_too_long, from_of, reads_of}
use Rattle.step_resolver.specs.Trail.{Timeline, Spot, Trail, all, before, stay, top, climb, down, through, into, IsChildAt, IsLinkAt, is_entered}
use Rattle.step_resolver.proofs.Meaning.NodesAtEntries.{object_at-place}
use Rattle.step_resolver.proofs.Meaning.PartsAndLinks.{deeper_at, means_by}

-- Where a meaning is compared with what is passed: a timeline, the nodes in which the path means something, and which entries
-- are left alone.
pub record Setting : Type 1 where
  pub timeline : Timeline
  pub nodes : List Inode
  pub IsAlone : Place → Type 0

abbrev pub ground_in : Setting → Ground
ground_in w = record { nodes = w.nodes; root = w.timeline.root; flags = w.timeline.flags }

abbrev pub AllAlone : Setting → List Place → Type 0
AllAlone w [] = Unit {0}
AllAlone w (entry ∷ entries) = w.IsAlone entry × AllAlone w entries

-- entries that are left alone are at each moment what they are in the nodes
pub record Fits (w : Setting) : Type 0 where
  pub objects : (x : ℕ) (object : Object) → object_at w.nodes x ≡ Some object → w.timeline.object_of x ≡ Some object
  pub first : w.timeline.nodes_at 0 ≡ w.nodes
  pub top_free : (t : ℕ) → place_at (w.timeline.nodes_at t) TOP ≡ None
  pub steady : (e : Place) → w.IsAlone e → (t : ℕ) → child (w.timeline.nodes_at t) e.parent e.name ≡ child w.nodes e.parent e.name
  pub no_root_below : (d : ℕ) (names : List (List ℕ)) (n : List ℕ) → Stands (w.timeline.nodes_at 0) w.timeline.root d names → child w.nodes d n ≡ Some w.timeline.root → ⊥
  pub root_dir : is_dir w.nodes w.timeline.root ≡ true

-- the way from the root to a node in the tree as the window begins, the names innermost first, by entries that are left alone
abbrev pub IsWay : Setting → ℕ → List (List ℕ) → Type 0
IsWay w x [] = x ≡ w.timeline.root
IsWay w x (n ∷ names) = (x ≢ w.timeline.root) × ((d : ℕ) × ((child w.nodes d n ≡ Some x)
    × (w.IsAlone (record { parent = d; name = n }) × IsWay w d names)))

-- ---- entries of which all are left alone

pub alone_first : (w : Setting) (xs ys : List Place) → AllAlone w (xs ++ ys) → AllAlone w xs
alone_first w [] ys a = tt
alone_first w (x ∷ xs) ys a = (a.0, alone_first w xs ys a.1)

pub alone_second : (w : Setting) (xs ys : List Place) → AllAlone w (xs ++ ys) → AllAlone w ys
alone_second w [] ys a = a
alone_second w (x ∷ xs) ys a = alone_second w xs ys a.1

alone_after : (w : Setting) (xs : List Place) (m : Meant) → AllAlone w (reads_of (after_reads xs m)) → AllAlone w (xs ++ reads_of m)
alone_after w xs (object d b reads) a = a
alone_after w xs (fails error reads) a = a

-- what comes first in a meaning
pub alone_of : (w : Setting) (m : Meant) (onward : ℕ → ℕ → Meant) → AllAlone w (reads_of (and_then m onward)) → AllAlone w (reads_of m)
alone_of w (object d b reads) onward a = alone_first w reads (reads_of (onward d b)) (alone_after w reads (onward d b) a)
alone_of w (fails error reads) onward a = a

pub alone_here : (w : Setting) (x : Place) (m : Meant) → AllAlone w (reads_of (after_reads (x ∷ []) m)) → w.IsAlone x × AllAlone w (reads_of m)
alone_here w x (object d b reads) a = (a.0, a.1)
alone_here w x (fails error reads) a = (a.0, a.1)

-- What a stop says of a meaning: where the next part fails, so does the whole.
pub record Stopped (w : Setting) (m : Meant) (z : Spot) (p : AskedPart) : Type 0 where
  pub deeper : Deeper
  pub reads : List Place
  pub alone : AllAlone w (reads_of (part_means deeper (ground_in w) z.node p z.links))
  pub failing : (error : Errno) (more : List Place) → part_means deeper (ground_in w) z.node p z.links ≡ fails error more → m ≡ fails error (reads ++ more)

-- what a trail or a stop says of a meaning
abbrev pub Says : Setting → Meant → Spot → Option AskedPart → Type 0
Says w m z None = (reads : List Place) × (m ≡ object z.node z.links reads)
Says w m z (Some p) = Stopped w m z p

pub record Followed (w : Setting) (m : Meant) (s z : Spot) (next : Option AskedPart) : Type 0 where
  pub way : IsWay w z.node z.names
  pub fewer : z.links ≤ s.links
  pub says : Says w m z next

says_after : (w : Setting) (reads : List Place) (m : Meant) (z : Spot) (next : Option AskedPart) → Says w m z next → Says w (after_reads reads m) z next
says_after w reads m z None says = (reads ++ says.0, ap (after_reads reads) says.1)
says_after w reads m z (Some p) says = record {
  deeper = says.deeper;
  reads = reads ++ says.reads;
  alone = says.alone;
  failing = λ error more e. ap (after_reads reads) (says.failing error more e) ∙ ap (fails error) (sym (append_assoc reads says.reads more));
}

module _ {w : Setting} (fits : Fits w) where
  -- ---- what is on the way

  something : (o : Option Object) → (o ≡ None → ⊥) → (what : Object) × (o ≡ Some what)
  something None e = absurd (e refl)
  something (Some what) e = (what, refl)

  not_none : (o : Option Object) → is_directory o ≡ true → o ≡ None → ⊥
  not_none o d e = false≢true (sym (ap is_directory e) ∙ d)

  pub on_way : (x : ℕ) (names : List (List ℕ)) → IsWay w x names → (what : Object) × (object_at w.nodes x ≡ Some what)
  on_way x [] way = something (object_at w.nodes x) (not_none (object_at w.nodes x) (ap (is_dir w.nodes) way ∙ fits.root_dir))
  on_way x (n ∷ names) way = something (object_at w.nodes x)
      (object_at-place w.nodes x (entry way.1.0 n) (place_at-child w.nodes way.1.0 n x way.1.1.0))

  -- what a node on the way is, at the window's beginning as for good
  pub same_object : (x : ℕ) (names : List (List ℕ)) → IsWay w x names → object_at w.nodes x ≡ w.timeline.object_of x
  same_object x names way = let o = on_way x names way in o.1 ∙ sym (fits.objects x o.0 o.1)

  pub same_dir : (x : ℕ) (names : List (List ℕ)) → IsWay w x names → is_directory (w.timeline.object_of x) ≡ true → is_dir w.nodes x ≡ true
  same_dir x names way d = ap is_directory (same_object x names way) ∙ d

  -- a node on the way stands there at each moment
  pub stands_on : (t x : ℕ) (names : List (List ℕ)) → IsWay w x names → Stands (w.timeline.nodes_at t) w.timeline.root x names
  stands_on t x [] way = way
  stands_on t x (n ∷ names) way = (
    way.0,
    (
      way.1.0,
      (
        place_at-child (w.timeline.nodes_at t) way.1.0 n x (fits.steady (record { parent = way.1.0; name = n }) way.1.1.1.0 t ∙ way.1.1.0),
        stands_on t way.1.0 names way.1.1.1.1,
      ),
    ),
  )

  -- and its parent is the one on the way
  pub parent_on : (t x : ℕ) (n : List ℕ) (names : List (List ℕ)) → (way : IsWay w x (n ∷ names)) → parent (w.timeline.nodes_at t) x ≡ Some way.1.0
  parent_on t x n names way = ap (λ b. if b then Some TOP else option_map (λ place. place.parent) (place_at (w.timeline.nodes_at t) x)) not_the_top
      ∙ ap (option_map (λ place. place.parent)) placed
    where
      placed : place_at (w.timeline.nodes_at t) x ≡ Some (entry way.1.0 n)
      placed = place_at-child (w.timeline.nodes_at t) way.1.0 n x (fits.steady (record { parent = way.1.0; name = n }) way.1.1.1.0 t ∙ way.1.1.0)

      not_the_top : (x == TOP) ≡ false
      not_the_top = false_from_ne_true (x == TOP)
          (λ e. none-some (entry way.1.0 n) (sym (fits.top_free t) ∙ ap (place_at (w.timeline.nodes_at t)) (sym (eqb-true x TOP e)) ∙ placed))

  -- a child that is entered is on the way
  pub down_way : (d c : ℕ) (n : List ℕ) (names : List (List ℕ)) → IsWay w d names → w.IsAlone (record { parent = d; name = n })
      → child w.nodes d n ≡ Some c → IsWay w c (n ∷ names)
  down_way d c n names way alone e =
      ((λ q. fits.no_root_below d names n (stands_on 0 d names way) (e ∙ ap Some q)), (d, (e, (alone, way))))

  -- ---- trails and stops

  abbrev G : Ground
  G = ground_in w

  pub part_in : (deeper : Deeper) (d : ℕ) (p : AskedPart) (b : ℕ) → is_dir w.nodes d ≡ true → part_means deeper G d p b ≡ one_part deeper G d p b
  part_in deeper d p b e = ap (λ x. if x then one_part deeper G d p b else fails NotDir []) e

  -- a short name reads its entry
  pub name_in : (deeper : Deeper) (d : ℕ) (follow : Bool) (n : List ℕ) (b : ℕ) → is_dir w.nodes d ≡ true → is_too_long n ≡ false
      → part_means deeper G d (Named follow n) b
      ≡ after_reads (record { parent = d; name = n } ∷ []) (named deeper G d follow b (child w.nodes d n))
  name_in deeper d follow n b e short = part_in deeper d (Named follow n) b e
      ∙ ap (λ x. if x then fails TooLong [] else after_reads (record { parent = d; name = n } ∷ []) (named deeper G d follow b (child w.nodes d n))) short

  pub up_in : (deeper : Deeper) (x : ℕ) (n : List ℕ) (names : List (List ℕ)) (b : ℕ) → is_dir w.nodes x ≡ true → (way : IsWay w x (n ∷ names))
      → part_means deeper G x Up b ≡ object way.1.0 b []
  up_in deeper x n names b e way = part_in deeper x Up b e
      ∙ ap (λ t. if t then (if w.timeline.flags.beneath then fails CrossRoot [] else object x b []) else above b (parent w.nodes x))
      (false_from_ne_true (x == w.timeline.root) (λ q. way.0 (eqb-true x w.timeline.root q)))
      ∙ ap (above b) (ap (λ nodes. parent nodes x) (sym fits.first) ∙ parent_on 0 x n names way)

  pub top_in : (deeper : Deeper) (x : ℕ) (b : ℕ) → is_dir w.nodes x ≡ true → x ≡ w.timeline.root
      → part_means deeper G x Up b ≡ (if w.timeline.flags.beneath then fails CrossRoot [] else object x b [])
  top_in deeper x b e q = part_in deeper x Up b e
      ∙ ap (λ t. if t then (if w.timeline.flags.beneath then fails CrossRoot [] else object x b []) else above b (parent w.nodes x)) (eq-eqb x w.timeline.root q)

  entered_is : (deeper : Deeper) (d : ℕ) (follow : Bool) (b c : ℕ) (o : Option Object) → is_entered follow o ≡ true → child_is deeper G d follow b c o ≡ object c b []
  entered_is deeper d true b c None e = refl
  entered_is deeper d true b c (Some Dir) e = refl
  entered_is deeper d true b c (Some File) e = refl
  entered_is deeper d true b c (Some (Link text)) e = cc (e)
  entered_is deeper d false b c o e = refl

  -- one part that is passed, and then the others
  passing : (n : ℕ) (s : Spot) (p : AskedPart) (ps : List AskedPart) (e c : ℕ) (reads : List Place) (z : Spot) (next : Option AskedPart)
      → part_means (deeper_at n G) G s.node p s.links ≡ object e c reads → AllAlone w (reads_of (parts_mean (deeper_at n G) G s.node (p ∷ ps) s.links))
      → (m : ℕ) (names : List (List ℕ)) → c ≤ s.links
      → (AllAlone w (reads_of (parts_mean (deeper_at n G) G e ps c))
      → Followed w (parts_mean (deeper_at n G) G e ps c) (record { node = e; names = names; links = c; moment = m }) z next)
      → Followed w (parts_mean (deeper_at n G) G s.node (p ∷ ps) s.links) s z next
  passing n s p ps e c reads z next is alone m names le rest = record {
    way = more.way;
    fewer = le_trans more.fewer le;
    says = subst (λ x. Says w x z next) (sym whole) (says_after w reads (parts_mean (deeper_at n G) G e ps c) z next more.says);
  }
    where
      whole : parts_mean (deeper_at n G) G s.node (p ∷ ps) s.links ≡ after_reads reads (parts_mean (deeper_at n G) G e ps c)
      whole = ap (λ x. and_then x (λ y k. parts_mean (deeper_at n G) G y ps k)) is

      more : Followed w (parts_mean (deeper_at n G) G e ps c) (record { node = e; names = names; links = c; moment = m }) z next
      more = rest (alone_second w reads (reads_of (parts_mean (deeper_at n G) G e ps c))
          (alone_after w reads (parts_mean (deeper_at n G) G e ps c) (subst (λ x. AllAlone w (reads_of x)) whole alone)))

  -- a name that is read: its entry is left alone, and what is found there at any moment is what the meaning finds
  record IsRead (n : ℕ) (s : Spot) (follow : Bool) (name : List ℕ) (c : ℕ) : Type 0 where
    pub alone : w.IsAlone (record { parent = s.node; name = name })
    pub way : IsWay w c (name ∷ s.names)
    pub part : part_means (deeper_at n G) G s.node (Named follow name) s.links
        ≡ after_reads (record { parent = s.node; name = name } ∷ []) (child_is (deeper_at n G) G s.node follow s.links c (w.timeline.object_of c))

  read_name : (n : ℕ) (s : Spot) (follow : Bool) (name : List ℕ) (ps : List AskedPart) (t c : ℕ) → IsChildAt w.timeline s name t c → IsWay w s.node s.names
      → AllAlone w (reads_of (parts_mean (deeper_at n G) G s.node (Named follow name ∷ ps) s.links)) → IsRead n s follow name c
  read_name n s follow name ps t c is way alone = record {
    alone = here.0;
    way = way_c;
    part = read ∙ ap (λ o. after_reads (record { parent = s.node; name = name } ∷ []) (named (deeper_at n G) G s.node follow s.links o)) found_first
        ∙ ap (λ o. after_reads (record { parent = s.node; name = name } ∷ []) (child_is (deeper_at n G) G s.node follow s.links c o)) (same_object c (name ∷ s.names) way_c);
  }
    where
      read : part_means (deeper_at n G) G s.node (Named follow name) s.links
          ≡ after_reads (record { parent = s.node; name = name } ∷ []) (named (deeper_at n G) G s.node follow s.links (child w.nodes s.node name))
      read = name_in (deeper_at n G) s.node follow name s.links (same_dir s.node s.names way is.dir) is.short

      here : w.IsAlone (record { parent = s.node; name = name })
          × AllAlone w (reads_of (named (deeper_at n G) G s.node follow s.links (child w.nodes s.node name)))
      here = alone_here w (record { parent = s.node; name = name }) (named (deeper_at n G) G s.node follow s.links (child w.nodes s.node name))
          (subst (λ m. AllAlone w (reads_of m)) read
          (alone_of w (part_means (deeper_at n G) G s.node (Named follow name) s.links) (λ e k. parts_mean (deeper_at n G) G e ps k) alone))

      found_first : child w.nodes s.node name ≡ Some c
      found_first = sym (fits.steady (record { parent = s.node; name = name }) here.0 t) ∙ is.child

      way_c : IsWay w c (name ∷ s.names)
      way_c = down_way s.node c name s.names way here.0 found_first

  -- a link that is followed: its part means what its text means
  record IsThrough (n : ℕ) (s : Spot) (name text : List ℕ) (b : ℕ) : Type 0 where
    pub fuel : ℕ
    pub enough : b ≤ fuel
    pub part : part_means (deeper_at n G) G s.node (Named true name) s.links
        ≡ after_reads (record { parent = s.node; name = name } ∷ []) (parts_mean (deeper_at fuel G) G (from_of w.timeline.root s.node text) (followed (parts_of text)) b)
    pub alone : AllAlone w (reads_of (parts_mean (deeper_at fuel G) G (from_of w.timeline.root s.node text) (followed (parts_of text)) b))

  link_is : (deeper : Deeper) (d b : ℕ) (text : List ℕ) → w.timeline.flags.no_links ≡ false → leads_out (begins_with_slash text) w.timeline.flags ≡ false
      → link_in deeper G d text (suc b) ≡ deeper (from_of w.timeline.root d text) (followed (parts_of text)) b
  link_is deeper d b text allowed within =
      ap (λ x. if x then fails Loop [] else (if leads_out (begins_with_slash text) w.timeline.flags then fails CrossRoot [] else deeper (from_of w.timeline.root d text) (followed (parts_of text)) b)) allowed
      ∙ ap (λ x. if x then fails CrossRoot [] else deeper (from_of w.timeline.root d text) (followed (parts_of text)) b) within

  read_link : (n : ℕ) (s : Spot) (name : List ℕ) (ps : List AskedPart) (t b : ℕ) (text : List ℕ) → s.links ≤ n → IsLinkAt w.timeline s name t text b → IsWay w s.node s.names
      → AllAlone w (reads_of (parts_mean (deeper_at n G) G s.node (Named true name ∷ ps) s.links)) → IsThrough n s name text b
  read_link zero s name ps t b text le is way alone = absurd (not-suc-le-zero (subst (λ k. k ≤ zero) is.links le))
  read_link (suc n) s name ps t b text le is way alone = record {
    fuel = n;
    enough = le_of_suc-le-suc (subst (λ k. k ≤ suc n) is.links le);
    part = part_is;
    alone = (alone_here w (record { parent = s.node; name = name }) (parts_mean (deeper_at n G) G (from_of w.timeline.root s.node text) (followed (parts_of text)) b)
        (subst (λ m. AllAlone w (reads_of m)) part_is
        (alone_of w (part_means (deeper_at (suc n) G) G s.node (Named true name) s.links) (λ e k. parts_mean (deeper_at (suc n) G) G e ps k) alone))).1;
  }
    where
      part_is : part_means (deeper_at (suc n) G) G s.node (Named true name) s.links
          ≡ after_reads (record { parent = s.node; name = name } ∷ []) (parts_mean (deeper_at n G) G (from_of w.timeline.root s.node text) (followed (parts_of text)) b)
      part_is = (read_name (suc n) s true name ps t is.link is.child way alone).part
          ∙ ap (λ o. after_reads (record { parent = s.node; name = name } ∷ []) (child_is (deeper_at (suc n) G) G s.node true s.links is.link o)) is.is_link
          ∙ ap (λ k. after_reads (record { parent = s.node; name = name } ∷ []) (link_in (deeper_at (suc n) G) G s.node text k)) is.links
          ∙ ap (after_reads (record { parent = s.node; name = name } ∷ []))
          (link_is (deeper_at (suc n) G) s.node b text is.allowed is.within ∙ means_by n G (from_of w.timeline.root s.node text) (followed (parts_of text)) b)

  way_from : (x : Bool) (d : ℕ) (names : List (List ℕ)) → IsWay w d names → IsWay w (if x then w.timeline.root else d) (if x then [] else names)
  way_from true d names way = refl
  way_from false d names way = way

  fewer_than : {s : Spot} {name text : List ℕ} {t b k : ℕ} → IsLinkAt w.timeline s name t text b → k ≤ b → k ≤ s.links
  fewer_than {k = k} is le = subst (λ x. k ≤ x) (sym is.links) (le_trans le (le-suc _))

  stopped_onward : (m : Meant) (z : Spot) (p : AskedPart) (onward : ℕ → ℕ → Meant) → Stopped w m z p → Stopped w (and_then m onward) z p
  stopped_onward m z p onward is = record {
    deeper = is.deeper;
    reads = is.reads;
    alone = is.alone;
    failing = λ error more e. ap (λ x. and_then x onward) (is.failing error more e);
  }

  -- what a trail or a stop passes the meaning passes
  pub follow : (n : ℕ) {ps : List AskedPart} {s z : Spot} {next : Option AskedPart} → Trail w.timeline ps s z next → s.links ≤ n → IsWay w s.node s.names
      → AllAlone w (reads_of (parts_mean (deeper_at n G) G s.node ps s.links)) → Followed w (parts_mean (deeper_at n G) G s.node ps s.links) s z next
  follow n {s = s} (all m l) le way alone = record { way = way; fewer = le_refl s.links; says = ([], refl) }
  follow n {s = s} (before {p = p} {ps = ps} m l) le way alone = record {
    way = way;
    fewer = le_refl s.links;
    says = record {
      deeper = deeper_at n G;
      reads = [];
      alone = alone_of w (part_means (deeper_at n G) G s.node p s.links) (λ e c. parts_mean (deeper_at n G) G e ps c) alone;
      failing = λ error more e. ap (λ x. and_then x (λ y k. parts_mean (deeper_at n G) G y ps k)) e;
    };
  }
  follow n {s = s} {z = z} {next = next} (stay {ps = ps} dir t) le way alone =
      passing n s Cur ps s.node s.links [] z next (part_in (deeper_at n G) s.node Cur s.links (same_dir s.node s.names way dir)) alone s.moment s.names (le_refl s.links)
      (λ a. follow n t le way a)
  follow n {s = s} {z = z} {next = next} (top {ps = ps} is t) le way alone =
      passing n s Up ps s.node s.links [] z next
      (top_in (deeper_at n G) s.node s.links (same_dir s.node s.names way is.dir) is.root ∙ ap (λ x. if x then fails CrossRoot [] else object s.node s.links []) is.absorbed)
      alone s.moment s.names (le_refl s.links) (λ a. follow n t le way a)
  follow n {s = s} {z = z} {next = next} (climb {ps = ps} t u e names is rest) le way alone =
      let up = subst (IsWay w s.node) is.passed way in
      let same : up.1.0 ≡ e = same_Some up.1.0 e (sym (parent_on t s.node is.name names up) ∙ is.parent) in
      passing n s Up ps e s.links [] z next
      (up_in (deeper_at n G) s.node is.name names s.links (same_dir s.node s.names way is.dir) up ∙ ap (λ x. object x s.links []) same)
      alone (suc u) names (le_refl s.links) (λ a. follow n rest le (subst (λ x. IsWay w x names) same up.1.1.1.1) a)
  follow n {s = s} {z = z} {next = next} (down {follow = f} {n = name} {ps = ps} t c is entered rest) le way alone =
      let read = read_name n s f name ps t c is way alone in
      passing n s (Named f name) ps c s.links (record { parent = s.node; name = name } ∷ []) z next
      (read.part ∙ ap (after_reads (record { parent = s.node; name = name } ∷ [])) (entered_is (deeper_at n G) s.node f s.links c (w.timeline.object_of c) entered))
      alone (suc t) (name ∷ s.names) (le_refl s.links) (λ a. follow n rest le read.way a)
  follow n {s = s} {z = z} {next = next} (through {n = name} {ps = ps} t text b mid is sub rest) le way alone =
      let link = read_link n s name ps t b text le is way alone in
      let inside = follow link.fuel sub link.enough (way_from (begins_with_slash text) s.node s.names way) link.alone in
      passing n s (Named true name) ps mid.node mid.links (record { parent = s.node; name = name } ∷ inside.says.0) z next
      (link.part ∙ ap (after_reads (record { parent = s.node; name = name } ∷ [])) inside.says.1)
      alone mid.moment mid.names (fewer_than is inside.fewer) (λ a. follow n rest (le_trans (fewer_than is inside.fewer) le) inside.way a)
  follow n {s = s} {z = z} (into {n = name} {p = p} {ps = ps} t text b is sub) le way alone =
      let link = read_link n s name ps t b text le is way alone in
      let inside = follow link.fuel sub link.enough (way_from (begins_with_slash text) s.node s.names way) link.alone in
      record {
        way = inside.way;
        fewer = fewer_than is inside.fewer;
        says = stopped_onward (part_means (deeper_at n G) G s.node (Named true name) s.links) z p (λ e k. parts_mean (deeper_at n G) G e ps k)
            (subst (λ m. Stopped w m z p) (sym link.part)
            (says_after w (record { parent = s.node; name = name } ∷ []) (parts_mean (deeper_at link.fuel G) G (from_of w.timeline.root s.node text) (followed (parts_of text)) b) z (Some p) inside.says));
      }
