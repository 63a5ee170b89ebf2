use Rattle.std.proofs.Common.{sym, ap, ◌∙◌, ◌++◌, drop}
use Rattle.std.proofs.lemmas.List.{append-nil}
use Rattle.path_text.specs.Text.{parts_of, has_final_slash}
use Rattle.path_text.proofs.TextLemmas.{is_reading}
use Rattle.path_text.proofs.path.Path.parse.Goals as goal

pub invariant_of-result : goal.invariant_of-result
invariant_of-result c =
    is_reading c.args.text.now _ _ _ (sym c.fault_of.ensures ∙ c.in_default.is)
    (c.in_ok-slash.ensures.ok ∙ ap (λ t. parts_of t ++ drop 1 c.new-parts.result) c.in_ok-from_slice.ensures
    ∙ ap (λ ps. parts_of c.args.text.now ++ drop 1 ps) c.new-parts.ensures ∙ append-nil (parts_of c.args.text.now))
    (c.in_ok-slash.ensures.slash ∙ ap has_final_slash c.in_ok-from_slice.ensures)
