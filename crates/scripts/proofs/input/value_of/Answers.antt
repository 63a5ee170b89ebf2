use Rattle.std.proofs.Common.{◌≡◌, ◌∙◌, sym, true}
use Rattle.scripts.proofs.Json.{data_where, no_data_where}
use Rattle.scripts.proofs.input.value_of.Goals as goal

pub returns-in-Ok-clause-ok : goal.returns-in-Ok-clause-ok
returns-in-Ok-clause-ok c =
    data_where _ _ (sym c.is_too_deep.ensures ∙ c.if-is_too_deep.false) c.in-Ok.ensures.ok.0 c.in-Ok.ensures.ok.1

pub returns-else-is_memory-clause-err : goal.returns-else-is_memory-clause-err
returns-else-is_memory-clause-err c =
    no_data_where _ (sym c.is_too_deep.ensures ∙ c.if-is_too_deep.false)
    (c.in-Err.ensures.err (λ memory. let told : c.is_memory.result ≡ true = c.is_memory.ensures.1 memory in cc (told, c.if-is_memory.false)))
