use Rattle.std.proofs.Common.{◌==◌, is_some, rules, tests}
use Rattle.std.proofs.lemmas.Iterator.Search.{any_from_yields_List}
use Rattle.std.proofs.lemmas.Iterator.Splits.{YieldsList-from_slice_split}
use Rattle.path_text.specs.declared.name.TheConstants.{SLASH}
use Rattle.path_text.specs.Name.{name_fault}
use Rattle.command_line.proofs.reason.has_no_name.Goals as goal

pub returns : goal.returns
returns c =
    any_from_yields_List (λ name. is_some (name_fault name)) _ _ c.any.result c.any.ensures.ran
    (YieldsList-from_slice_split _ (λ b. b == SLASH) c.args.names.now c.split.ensures.rest c.split.ensures.done c.split.ensures.closure (λ x b q k. search (rules, tests)))
    (λ x b q k. search (rules, tests))
