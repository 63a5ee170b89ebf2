-- Bulk calls that are the same but for their handles, each of which gets one number in both, are the same with these numbers.
use Rattle.std.specs.Prelude.{◌≡◌, ℕ, List, [], ◌∷◌, ◌++◌, refl}
use Rattle.std.proofs.Common.{ap, ◌∙◌}
use Rattle.step_resolver.specs.Order.{Way, Handle}
use Rattle.bulk_ops.specs.MakeAllOrder as make
use Rattle.bulk_ops.specs.RemoveAllOrder as remove
use Rattle.bulk_ops.specs.RemoveAllOrder.{Level, Stage, removes_file, opens, lists, shuts, leaves, removes_dir}
use Rattle.bulk_ops.specs.Renamed.{numbers_by, handle_by, way_by, walking_by, level_by, levels_by, stage_by, stage_handles, levels_handles, LikeMakingAgrees, LikeRemovingAgrees}
use Rattle.step_resolver.proofs.Renumbered.{like_walks_agree}

module _ (f g : ℕ → ℕ) where
  pub handles_agree : (held held' : Handle) → handle_by (λ h. 0) held ≡ handle_by (λ h. 0) held'
      → f held.number ≡ g held'.number → handle_by f held ≡ handle_by g held'
  handles_agree held held' like same = ap (λ (x : Handle). record x { number = f held.number }) like ∙ ap (λ (n : ℕ). record held' { number = n }) same

  ways_agree : (way way' : Way) → way_by (λ h. 0) way ≡ way_by (λ h. 0) way' → f way.root ≡ g way'.root → way_by f way ≡ way_by g way'
  ways_agree way way' like same = ap (λ (x : Way). record x { root = f way.root }) like ∙ ap (λ (n : ℕ). record way' { root = n }) same

  each_level_agrees : (level level' : Level) → level_by (λ h. 0) level ≡ level_by (λ h. 0) level' → f level.dir ≡ g level'.dir → level_by f level ≡ level_by g level'
  each_level_agrees level level' like same = ap (λ (x : Level). record x { dir = f level.dir }) like ∙ ap (λ (n : ℕ). record level' { dir = n }) same

pub like_making_agrees : LikeMakingAgrees
like_making_agrees f g (make.walking w) (make.walking v) like same =
    ap make.walking (like_walks_agree f g w v (let e : walking_by (λ h. 0) w ≡ walking_by (λ h. 0) v = cc in e) same)
like_making_agrees f g (make.making held names n left) (make.making held' names' n' left') like same =
    let e : handle_by f held ≡ handle_by g held' = handles_agree f g held held' (cc) (cc) in cc
like_making_agrees f g (make.opening held names n left) (make.opening held' names' n' left') like same =
    let e : handle_by f held ≡ handle_by g held' = handles_agree f g held held' (cc) (cc) in cc
like_making_agrees f g (make.leaving old new names left) (make.leaving old' new' names' left') like same =
    let e : handle_by f new ≡ handle_by g new' = handles_agree f g new new' (cc) (cc) in cc
like_making_agrees f g (make.ending held names) (make.ending held' names') like same =
    let e : handle_by f held ≡ handle_by g held' = handles_agree f g held held' (cc) (cc) in cc
like_making_agrees f g (make.closing h hs error) (make.closing h' hs' error') like same = cc
like_making_agrees f g m n like same = cc

module _ (f g : ℕ → ℕ) where
  stages_agree : (s t : Stage) (hs is : List ℕ) → stage_by (λ h. 0) s ≡ stage_by (λ h. 0) t → numbers_by f (stage_handles s ++ hs) ≡ numbers_by g (stage_handles t ++ is)
      → (stage_by f s ≡ stage_by g t) × (numbers_by f hs ≡ numbers_by g is)
  stages_agree removes_file removes_file hs is like same = (refl, same)
  stages_agree opens opens hs is like same = (refl, same)
  stages_agree (lists h) (lists h') hs is like same = (cc, cc)
  stages_agree (shuts h) (shuts h') hs is like same = (cc, cc)
  stages_agree (leaves h) (leaves h') hs is like same = (cc, cc)
  stages_agree removes_dir removes_dir hs is like same = (refl, same)
  stages_agree s t hs is like same = (cc, cc)

  levels_agree : (levels levels' : List Level) → levels_by (λ h. 0) levels ≡ levels_by (λ h. 0) levels' → numbers_by f (levels_handles levels) ≡ numbers_by g (levels_handles levels')
      → levels_by f levels ≡ levels_by g levels'
  levels_agree [] [] like same = refl
  levels_agree [] (level' ∷ levels') like same = cc
  levels_agree (level ∷ levels) [] like same = cc
  levels_agree (level ∷ levels) (level' ∷ levels') like same =
      let first : level_by f level ≡ level_by g level' = each_level_agrees f g level level' (cc) (cc) in
      let others : levels_by f levels ≡ levels_by g levels' = levels_agree levels levels' (cc) (cc) in
      cc

pub like_removing_agrees : LikeRemovingAgrees
like_removing_agrees f g (remove.walking way target w) (remove.walking way' target' v) like same =
    let ways : way_by f way ≡ way_by g way' = ways_agree f g way way' (cc) (cc) in
    let walks : walking_by f w ≡ walking_by g v = like_walks_agree f g w v (let q : walking_by (λ h. 0) w ≡ walking_by (λ h. 0) v = cc in q) (cc) in
    cc
like_removing_agrees f g (remove.clearing stage level above count left) (remove.clearing stage' level' above' count' left') like same =
    let stages : (stage_by f stage ≡ stage_by g stage') × (numbers_by f (level.dir ∷ levels_handles above) ≡ numbers_by g (level'.dir ∷ levels_handles above')) =
    stages_agree f g stage stage' (level.dir ∷ levels_handles above) (level'.dir ∷ levels_handles above') (cc) same in
    let here : level_by f level ≡ level_by g level' = each_level_agrees f g level level' (cc) (cc) in
    let levels : levels_by f above ≡ levels_by g above' = levels_agree f g above above' (cc) (cc) in
    cc
like_removing_agrees f g (remove.closing h hs end) (remove.closing h' hs' end') like same = cc
like_removing_agrees f g r s like same = cc
