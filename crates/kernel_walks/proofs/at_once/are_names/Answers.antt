use Rattle.std.proofs.Common.{not, sym, ap, ◌∙◌}
use Rattle.kernel_walks.proofs.FitPieces.{all_named, none_has, one_has}
use Rattle.kernel_walks.proofs.at_once.are_names.Goals as goal

pub returns-then-not-has_nul : goal.returns-then-not-has_nul
returns-then-not-has_nul c =
    c.are_pieces.ensures
    ∙ none_has _ _ _ (all_named c.args.text.now) (sym c.has_nul.ensures ∙ c.if-not-has_nul.true)

pub returns-else-not-has_nul : goal.returns-else-not-has_nul
returns-else-not-has_nul c =
    ap not c.has_nul.ensures
    ∙ one_has _ _ _ (all_named c.args.text.now) (sym c.has_nul.ensures ∙ c.if-not-has_nul.false)
