use Rattle.std.proofs.Common.{◌≡◌, ◌++◌, ◌∷◌, [], drop}
use Rattle.std.specs.Prelude.{slice_get}
use Rattle.report_text.specs.Report.{numbered}
use Rattle.drawings.specs.Picture.{call_head, call_heads}
use Rattle.drawings.proofs.heading.add_calls.Given as goal

-- the lines so far and those that are left make the whole
abbrev pub invariant-loop-number : goal.invariant-loop-number
invariant-loop-number l =
    l.heads.items ++ numbered (λ j call. call_head call (slice_get l.outcomes j) ∷ []) l.number (drop l.number l.calls) ≡ l.fn.heads.items ++ call_heads l.outcomes l.calls
