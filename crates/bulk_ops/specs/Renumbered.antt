-- Bulk calls with the numbers of their handles and nodes replaced by others; everything else stays.
use Rattle.std.specs.Prelude.{List, [], ◌∷◌}
pub use Rattle.step_resolver.specs.Renumbered.{Numbering, for_handles, numbers_by, root_by, way_by, handle_by, position_by, walk_after_by, walking_by, walk_turn_by}
use Rattle.bulk_ops.specs.MakeAllOrder as make
use Rattle.bulk_ops.specs.RemoveAllOrder as remove

abbrev pub making_by : Numbering → make.Making → make.Making
making_by f (make.walking w) = make.walking (walking_by f w)
making_by f (make.making held names n left) = make.making (handle_by f held) names n left
making_by f (make.opening held names n left) = make.opening (handle_by f held) names n left
making_by f (make.leaving old new names left) = make.leaving (f.handle old) (handle_by f new) names left
making_by f (make.ending held names) = make.ending (handle_by f held) names
making_by f (make.closing h hs error) = make.closing (f.handle h) (numbers_by f hs) error

abbrev pub make_turn_by : Numbering → make.MakeTurn → make.MakeTurn
make_turn_by f (make.more bulk) = make.more (making_by f bulk)
make_turn_by f (make.made handle names) = make.made (handle_by f handle) names
make_turn_by f (make.failed error) = make.failed error

abbrev pub level_by : Numbering → remove.Level → remove.Level
level_by f level = record level { dir = f.handle level.dir }

abbrev pub levels_by : Numbering → List remove.Level → List remove.Level
levels_by f [] = []
levels_by f (level ∷ levels) = level_by f level ∷ levels_by f levels

abbrev pub stage_by : Numbering → remove.Stage → remove.Stage
stage_by f remove.removes_file = remove.removes_file
stage_by f remove.opens = remove.opens
stage_by f (remove.lists h) = remove.lists (f.handle h)
stage_by f (remove.shuts h) = remove.shuts (f.handle h)
stage_by f (remove.leaves h) = remove.leaves (f.handle h)
stage_by f remove.removes_dir = remove.removes_dir

abbrev pub removing_by : Numbering → remove.Removing → remove.Removing
removing_by f (remove.walking way target w) = remove.walking (way_by f way) target (walking_by f w)
removing_by f (remove.clearing stage level above count left) =
    remove.clearing (stage_by f stage) (level_by f level) (levels_by f above) count left
removing_by f (remove.closing h hs end) = remove.closing (f.handle h) (numbers_by f hs) end

abbrev pub remove_turn_by : Numbering → remove.Turn → remove.Turn
remove_turn_by f (remove.more bulk) = remove.more (removing_by f bulk)
remove_turn_by f (remove.removed count) = remove.removed count
remove_turn_by f (remove.failed error) = remove.failed error
