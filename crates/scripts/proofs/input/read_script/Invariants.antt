use Rattle.std.proofs.Common.{◌≤◌, vec_len}
use Rattle.std.specs.Io.KnownBytes.{Consumes}
use Rattle.scripts.specs.declared.input.TheConstants.{SCRIPT_MAX}
use Rattle.scripts.proofs.input.read_script.Given as goal

-- what was read and what is left make what there was
abbrev pub invariant-loop : goal.invariant-loop
invariant-loop g l =
    let remaining = g.R.Read.remaining in
    record {
      consumed : Consumes (remaining l.fn.reader) (remaining l.reader) l.script.items;
      short : vec_len l.script ≤ SCRIPT_MAX;
    }
