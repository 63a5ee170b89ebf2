-- What an operation does first, as the order of steps sees it.
use Rattle.std.specs.Prelude.{◌≡◌, [], Result, Ok, Err}
use Rattle.path_text.specs.declared.errno.Errno.{Errno}
use Rattle.path_text.specs.declared.errno.Errno.TheVariants.{NoMemory}
use Rattle.walk_plan.specs.declared.goal.Goal.TheVariants.{Follow}
use Rattle.step_resolver.specs.View.{way_from}
use Rattle.bulk_ops.specs.MakeAllOrder as make
use Rattle.bulk_ops.specs.RemoveAllOrder as remove
use Rattle.root_ops.specs.declared.aim.Wanted.TheVariants.{Any}
use Rattle.root_ops.specs.declared.below.Below.{Below}
use Rattle.root_ops.specs.declared.first.First.{First}
use Rattle.root_ops.specs.declared.first.First.TheVariants.{Walks, Makes, Clears, Acts, Releases}
use Rattle.root_ops.specs.Order.{CallTurn, more, ends, fault, acting, held_by, walks, makes, make_way, removing_turn, releases}
use Rattle.root_ops.specs.TurnView.{Either}

-- the turn to which it leads, with memory or without; a release takes none
abbrev pub FirstTo : Below → Result First Errno → CallTurn → Type 0
FirstTo below (Ok (Walks aim path)) turn = Either (walks below aim path) (ends (fault NoMemory)) turn
FirstTo below (Ok (Makes path)) turn = Either (makes (make.begins (make_way below) path)) (ends (fault NoMemory)) turn
FirstTo below (Ok (Clears path name)) turn =
    Either (removing_turn (remove.begins (way_from below.root Follow below.flags) name path))
    (ends (fault NoMemory)) turn
FirstTo below (Ok (Acts step)) turn = Either (more (acting Any step [])) (ends (fault NoMemory)) turn
FirstTo below (Ok (Releases standing)) turn = turn ≡ releases below.root.owner standing
FirstTo below (Err error) turn = turn ≡ ends (fault error)

-- nothing is held before the first walk
abbrev pub IsFirst : Result First Errno → Type 0
IsFirst (Ok (Walks aim path)) = held_by aim ≡ []
IsFirst (Ok (Makes path)) = Unit {0}
IsFirst (Ok (Clears path name)) = Unit {0}
IsFirst (Ok (Acts step)) = Unit {0}
IsFirst (Ok (Releases standing)) = Unit {0}
IsFirst (Err error) = Unit {0}
