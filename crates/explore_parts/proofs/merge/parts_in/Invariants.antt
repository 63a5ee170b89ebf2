use Rattle.std.proofs.Common.{map, string_bytes}
use Rattle.std.specs.Prelude.{filter}
use Rattle.explore_parts.specs.Merging.{LinesSay, is_line}
use Rattle.explore_parts.proofs.merge.parts_in.Given as goal

-- the lines so far say the parts so far
abbrev pub invariant-loop-line : goal.invariant-loop-line
invariant-loop-line l =
    LinesSay (string_bytes l.parts.question) l.parts.properties.items (filter is_line (map (λ line. line.now) l.yielded)) l.parts.parts.items
