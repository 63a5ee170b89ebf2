-- What the bulk calls mean leads from a tree to a tree.
use Rattle.std.proofs.Common.{◌≡◌, ℕ, suc, List, [], ◌∷◌, ◌++◌, ◌&&◌, Bool, true, false, not, if◌then◌else◌, length, Option, Some, None, is_some, refl, sym, ap, ◌∙◌, subst, arith, append_assoc}
use Rattle.std.proofs.lemmas.Bool.{and_parts}
use Rattle.std.proofs.lemmas.Option.{none-some}
use Rattle.path_text.specs.declared.errno.Errno.{Errno}
use Rattle.path_text.specs.declared.errno.Errno.TheVariants.{Raced, NotDir}
use Rattle.path_text.specs.Reading.{Reading}
use Rattle.tree_model.specs.declared.inode.Inode.{Inode}
use Rattle.tree_model.specs.declared.inode.Object.{Object}
use Rattle.tree_model.specs.declared.inode.Object.TheVariants.{Dir}
use Rattle.tree_model.specs.declared.inode.Place.{Place}
use Rattle.tree_model.specs.State.{TOP, object_at, place_at, child, is_dir, is_directory, is_gone, is_within, names_below}
use Rattle.tree_model.specs.Trees.{Rooted, top, below, IsTree}
use Rattle.tree_model.proofs.Changed.{Grows-append}
use Rattle.tree_model.proofs.Children.{place_at-no_child}
use Rattle.tree_model.proofs.Hanging.{Rooted-not_gone, IsTree-made}
use Rattle.tree_model.proofs.Standing.{Under-child, not_under, Stands-names_below}
use Rattle.tree_model.proofs.TreeTests.{none_from}
use Rattle.step_resolver.specs.Asked.{AskedPart}
use Rattle.step_resolver.specs.Meaning.{Ground, is_too_long}
use Rattle.step_resolver.specs.Deepest.{Deep, whole, up_to, none, reading_deepest}
use Rattle.bulk_ops.specs.MakeAllOrder.{rest_fault, rest_names}
use Rattle.bulk_ops.specs.MakeAllQuiet.{chain_of, last_of, MakeMeant, refuses, gives, make_means, rest_means}
use Rattle.bulk_ops.specs.RemoveAllQuiet.{is_at_or_below, cleared}
use Rattle.bulk_ops.proofs.MakingAlone.NewDirectories.{length-one_more, with_new, new_inode, new_is_dir, new_not_gone, new_is_empty}
use Rattle.bulk_ops.proofs.MakingAlone.WalkFirst.{IsFirst, first_of}
use Rattle.bulk_ops.proofs.RemovingAll.Quiet.Gone.{object_at-without, place_at-without}

-- a tree, in which each node is what it was
pub record IsGrown (before after : List Inode) : Type 0 where
  pub tree : IsTree before → IsTree after
  pub objects : (x : ℕ) (object : Object) → object_at before x ≡ Some object → object_at after x ≡ Some object

pub grown_same : (nodes : List Inode) → IsGrown nodes nodes
grown_same nodes = record { tree = λ t. t; objects = λ x object e. e }

-- ---- a chain of new directories

chain_tree : (nodes : List Inode) (d : ℕ) (n : List ℕ) (names : List (List ℕ)) → IsTree nodes → is_dir nodes d ≡ true → is_gone nodes d ≡ false → child nodes d n ≡ None
    → IsTree (nodes ++ chain_of (length nodes) d (n ∷ names))
chain_tree nodes d n [] t dir stands missing =
    IsTree-made nodes d n Dir t dir (Rooted-not_gone nodes t d stands) (place_at-no_child nodes d n missing) (λ text e. cc (e))
chain_tree nodes d n (m ∷ names) t dir stands missing =
    let made : IsTree (with_new nodes t d n dir) = IsTree-made nodes d n Dir t dir (Rooted-not_gone nodes t d stands) (place_at-no_child nodes d n missing) (λ text e. cc (e)) in
    let later : IsTree (with_new nodes t d n dir ++ chain_of (length (with_new nodes t d n dir)) (length nodes) (m ∷ names)) =
    chain_tree (with_new nodes t d n dir) (length nodes) m names made (ap is_directory (new_is_dir nodes t d n dir)) (new_not_gone nodes t d n dir) (new_is_empty nodes t d n dir m) in
    subst IsTree
    (ap (λ k. with_new nodes t d n dir ++ chain_of k (length nodes) (m ∷ names)) (length-one_more nodes (new_inode nodes t d n dir))
    ∙ append_assoc nodes (new_inode nodes t d n dir ∷ []) (chain_of (suc (length nodes)) (length nodes) (m ∷ names)))
    later

abbrev pub nodes_of : List Inode → MakeMeant → List Inode
nodes_of nodes (refuses error) = nodes
nodes_of nodes (gives x after) = after

rest_grown : (g : Ground) (d : ℕ) (rest : List AskedPart) (why : Option Errno) → IsFirst g d rest → IsGrown g.nodes (nodes_of g.nodes (rest_means g.nodes d why (rest_names rest)))
rest_grown g d rest (Some fault) first = grown_same g.nodes
rest_grown g d rest None first = on (is_gone g.nodes d) refl
  where
    on : (b : Bool) → is_gone g.nodes d ≡ b
        → IsGrown g.nodes (nodes_of g.nodes (if b then refuses Raced else gives (last_of (length g.nodes) d (rest_names rest)) (g.nodes ++ chain_of (length g.nodes) d (rest_names rest))))
    on true e = grown_same g.nodes
    on false e =
        let both = and_parts (is_dir g.nodes d && not (is_too_long first.name)) _ first.missing in
        let tests = none_from (child g.nodes d first.name) both.1 in
        let dir = (and_parts (is_dir g.nodes d) _ both.0).0 in
        record {
          tree = λ t. subst (λ ps. IsTree (g.nodes ++ chain_of (length g.nodes) d (rest_names ps))) (sym first.begins_with)
              (chain_tree g.nodes d first.name (rest_names first.others) t dir e tests);
          objects = (Grows-append g.nodes (chain_of (length g.nodes) d (rest_names rest))).objects;
        }

made_grown : (g : Ground) (path : Reading) (deep : Deep) → reading_deepest g path ≡ deep → IsGrown g.nodes (nodes_of g.nodes (make_means g.nodes deep))
made_grown g path (none error reads) e = grown_same g.nodes
made_grown g path (up_to d b rest reads) e = rest_grown g d rest (rest_fault rest) (first_of g path d b rest reads e)
made_grown g path (whole x b reads) e = on (is_dir g.nodes x)
  where
    on : (t : Bool) → IsGrown g.nodes (nodes_of g.nodes (if t then gives x g.nodes else refuses NotDir))
    on true = grown_same g.nodes
    on false = grown_same g.nodes

pub makes_grown : (g : Ground) (path : Reading) → IsGrown g.nodes (nodes_of g.nodes (make_means g.nodes (reading_deepest g path)))
makes_grown g path = made_grown g path (reading_deepest g path) refl

-- ---- what is left of a tree

module _ (nodes : List Inode) (d : ℕ) (target : List ℕ) where
  abbrev goes : ℕ → Bool
  goes = is_at_or_below nodes (child nodes d target)

  abbrev left : List Inode
  left = cleared nodes d target

  same_objects : (x : ℕ) → object_at left x ≡ object_at nodes x
  same_objects x = object_at-without goes 0 nodes x

  places : (x : ℕ) → place_at left x ≡ (if goes x then None else place_at nodes x)
  places x = place_at-without goes 0 nodes x x (omega arith)

  pub record Stayed (x : ℕ) (place : Place) : Type 0 where
    pub stays : goes x ≡ false
    pub stood : place_at nodes x ≡ Some place

  stayed : (x : ℕ) (place : Place) → place_at left x ≡ Some place → Stayed x place
  stayed x place e = on (goes x) refl
    where
      on : (b : Bool) → goes x ≡ b → Stayed x place
      on true q = absurd (none-some place (sym (places x ∙ ap (λ t. if t then None else place_at nodes x) q) ∙ e))
      on false q = record { stays = q; stood = sym (places x ∙ ap (λ t. if t then None else place_at nodes x) q) ∙ e }

  stays_there : (x : ℕ) (place : Place) → goes x ≡ false → place_at nodes x ≡ Some place → place_at left x ≡ Some place
  stays_there x place q e = places x ∙ ap (λ t. if t then None else place_at nodes x) q ∙ e

  module _ (t : IsTree nodes) where
    -- the directory of what stays does too
    above_stays : (x : ℕ) (place : Place) → place_at nodes x ≡ Some place → (o : Option ℕ) → is_at_or_below nodes o x ≡ false → is_at_or_below nodes o place.parent ≡ false
    above_stays x place e None q = refl
    above_stays x place e (Some r) q = on (names_below nodes r place.parent) refl
      where
        on : (o : Option (List (List ℕ))) → names_below nodes r place.parent ≡ o → is_within nodes r place.parent ≡ false
        on None w = ap is_some w
        on (Some names) w = absurd (not_under nodes t r x q (Under-child nodes r x place e (names, Stands-names_below nodes r place.parent names w)))

    still_rooted : {x : ℕ} → Rooted nodes x → goes x ≡ false → Rooted left x
    still_rooted top q = top
    still_rooted {x} (below place e up) q = below place (stays_there x place q e) (still_rooted up (above_stays x place e (child nodes d target) q))

    cleared_tree : IsTree left
    cleared_tree = record {
      top_is_dir = same_objects TOP ∙ t.top_is_dir;
      top_is_free = on (goes TOP) refl;
      parents_are_dirs = λ x place e. ap is_directory (same_objects place.parent) ∙ t.parents_are_dirs x place (stayed x place e).stood;
      rooted = λ x place e. let s = stayed x place e in still_rooted (t.rooted x place s.stood) s.stays;
      apart = λ x y place e f. t.apart x y place (stayed x place e).stood (stayed y place f).stood;
      links_have_texts = λ x text e. t.links_have_texts x text (sym (same_objects x) ∙ e);
    }
      where
        on : (b : Bool) → goes TOP ≡ b → place_at left TOP ≡ None
        on true q = places TOP ∙ ap (λ s. if s then None else place_at nodes TOP) q
        on false q = places TOP ∙ ap (λ s. if s then None else place_at nodes TOP) q ∙ t.top_is_free

  pub clears_grown : IsGrown nodes left
  clears_grown = record { tree = λ t. cleared_tree t; objects = λ x object e. same_objects x ∙ e }
