use Rattle.std.proofs.Common.{◌++◌, ap, ◌∙◌}
use Rattle.command_line.specs.Entry.{shown}
use Rattle.command_line.proofs.entry.shown_of.Goals as goal

pub returns : goal.returns
returns c =
    let text = c.as_bytes.result.now in
    (text, (λ whole. c.as_bytes.ensures.value ∙ c.in-Ok.ensures.text whole, c.in_ok-add_shown.ensures ∙ ap (λ bs. bs ++ shown text) c.new-out.ensures))
