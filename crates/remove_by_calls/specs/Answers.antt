-- What a call's answer means. Errors are numbers of errno(3).
use Rattle.std.specs.Prelude.{◌==◌, Bool, ◌&&◌, ◌||◌, if◌then◌else◌, nat_lt}
use Rattle.system_calls.specs.Errors.{EBUSY, ENFILE, EMFILE}
use Rattle.remove_by_calls.specs.declared.answers.Answer.{Answer}
use Rattle.remove_by_calls.specs.declared.answers.Met.{Met}
use Rattle.remove_by_calls.specs.declared.answers.Met.TheVariants.{Gone, Deeper, Bound, Crowded, Failed}

-- The call itself says EBUSY after as many steps as it may make. The kernel says EBUSY of an entry that is in use
-- (unlink(2), rmdir(2)): then a step was not made.
abbrev pub is_bound : Answer → Bool
is_bound a = (a.error == EBUSY) && ((a.unmade == 0) && nat_lt 0 a.removed)

-- no descriptor is left for the process (EMFILE), or in the system (ENFILE; open(2)): it is crowded
abbrev pub met_of : Answer → Met
met_of a =
    if a.deeper then Deeper
    else (if a.error == 0 then Gone
    else (if is_bound a then Bound
    else (if (a.error == EMFILE) || (a.error == ENFILE) then Crowded a.error else Failed a.error)))
