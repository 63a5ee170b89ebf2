use Rattle.std.proofs.Common.{◌≡◌, ◌-◌, length, option_map}
use Rattle.command_line.specs.Position.{last_among, last_member}
use Rattle.command_line.proofs.position.last_member.Given as goal

-- it is what was found, or stands further on
abbrev pub invariant-loop : goal.invariant-loop
invariant-loop l =
    last_among (length l.fn.object - l.counter) l.fn.key (option_map (λ member. member.now) l.found) l.rest
    ≡ last_member l.fn.key l.fn.object
