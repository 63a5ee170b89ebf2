use Rattle.std.proofs.Common.{ap, sym, ◌∙◌}
use Rattle.std.proofs.lemmas.Result.{err_from_is_err_and}
use Rattle.path_text.specs.Text.{parts_of}
use Rattle.step_resolver.specs.Asked.{asked}
use Rattle.step_resolver.specs.Meaning.{Ground, LINKS_MAX, parts_mean, resolution}
use Rattle.step_resolver.specs.Plain.{meant}
use Rattle.step_resolver.proofs.Meaning.PlainResolution.{resolution_ok, resolution_err, whole_is}
use Rattle.step_resolver.proofs.plain.resolve_whole.Goals as goal

pub returns : goal.returns
returns c =
    let g : Ground = record { nodes = c.args.nodes.now; root = c.args.root; flags = c.args.flags } in
    ap resolution (whole_is g c.args.text.now c.args.follow (sym c.fault_of.ensures ∙ c.in_default.is) (sym c.leads_out.ensures ∙ c.if-leads_out.false))
    ∙ resolution_ok (parts_mean (meant g) g g.root (asked c.args.follow (parts_of c.args.text.now)) LINKS_MAX) c.in_ok-node.field-0 (sym c.in_ok-node.ensures)

pub returns-in_err-node : goal.returns-in_err-node
returns-in_err-node c =
    let g : Ground = record { nodes = c.args.nodes.now; root = c.args.root; flags = c.args.flags } in
    let p = err_from_is_err_and c.from_residual.result c.from_residual.ensures.1 in
    rw (p.1, p.2)
    (ap resolution (whole_is g c.args.text.now c.args.follow (sym c.fault_of.ensures ∙ c.in_default.is) (sym c.leads_out.ensures ∙ c.if-leads_out.false))
    ∙ resolution_err (parts_mean (meant g) g g.root (asked c.args.follow (parts_of c.args.text.now)) LINKS_MAX) c.in_err-node.field-0.0 (sym c.in_err-node.ensures))
