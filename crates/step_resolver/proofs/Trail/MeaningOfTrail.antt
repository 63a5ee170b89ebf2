-- Where nothing changes, a trail leads to what its parts mean.
use Rattle.std.proofs.Common.{◌≡◌, ℕ, List, [], ◌∷◌, true, refl, ◌∙◌}
use Rattle.path_text.specs.declared.flags.Flags.{Flags}
use Rattle.tree_model.specs.declared.inode.Inode.{Inode}
use Rattle.tree_model.specs.State.{Stands, is_dir}
use Rattle.tree_model.specs.Trees.{IsTree}
use Rattle.tree_model.proofs.PlaceLaws.{stands_at_one_way}
use Rattle.tree_model.specs.declared.inode.Place.{Place}
use Rattle.tree_model.proofs.Children.{child-entry}
use Rattle.step_resolver.specs.Meaning.{reads_of, parts_mean}
use Rattle.step_resolver.specs.Trail.{quiet}
use Rattle.step_resolver.specs.TrailLaws.{still, QuietTrailsMean}
use Rattle.step_resolver.proofs.Ends.EntriesLeftAlone.{root_is_no_child}
use Rattle.step_resolver.proofs.Meaning.PartsAndLinks.{deeper_at, means_by}
use Rattle.step_resolver.proofs.Ends.TrailsAndMeaning.{Setting, AllAlone, Fits, IsWay, stands_on, follow}

module _ (nodes : List Inode) (r : ℕ) (flags : Flags) where
  abbrev pub at_rest : Setting
  at_rest = record { timeline = quiet nodes r flags; nodes = nodes; IsAlone = λ e. Unit {0} }

  all_at_rest : (entries : List Place) → AllAlone at_rest entries
  all_at_rest [] = tt
  all_at_rest (entry ∷ entries) = (tt, all_at_rest entries)

  pub way_of : IsTree nodes → (x : ℕ) (names : List (List ℕ)) → Stands nodes r x names → IsWay at_rest x names
  way_of is x [] stands = stands
  way_of is x (n ∷ names) stands =
      (stands.0, (stands.1.0, (child-entry nodes is stands.1.0 n x stands.1.1.0, (tt, way_of is stands.1.0 names stands.1.1.1))))

  pub rests : IsTree nodes → is_dir nodes r ≡ true → Fits at_rest
  rests is dir = record {
    objects = λ x object e. e;
    first = refl;
    top_free = λ t. is.top_is_free;
    steady = λ e alone t. refl;
    no_root_below = λ d names n stands c. root_is_no_child stands_at_one_way nodes is r d names n stands c;
    root_dir = dir;
  }

pub quiet_trails_mean : QuietTrailsMean
quiet_trails_mean nodes r flags is dir nested ps s z le stands t =
    let fits = rests nodes r flags is dir in
    let f = follow fits nested t le (way_of nodes r flags is s.node s.names stands)
    (all_at_rest nodes r flags (reads_of (parts_mean (deeper_at nested (still nodes r flags)) (still nodes r flags) s.node ps s.links))) in
    record {
      reads = f.says.0;
      means = means_by nested (still nodes r flags) s.node ps s.links ∙ f.says.1;
      stands = stands_on fits 0 z.node z.names f.way;
    }
