use Rattle.std.proofs.Common.{◌≡◌, ◌∙◌, rules}
use Rattle.std.specs.Prelude.{Ok}
use Rattle.std.specs.Io.KnownBytes.{Appends}
use Rattle.scripts.specs.declared.turns.TurnOrder.TheVariants.{OfScript}
use Rattle.scripts.specs.Scenario.{said_by, said_for}
use Rattle.scripts.specs.Writing.{tree_of}
use Rattle.explore_command.specs.Part.{IsPart}
use Rattle.explore_parts.specs.Seal.{sum_of}
use Rattle.explore_command.proofs.PartWritten.{part_written}
use Rattle.explore_command.proofs.parts.explore_part.Goals as goal

pub returns-in-Ok-write_all : goal.returns-in-Ok-write_all
returns-in-Ok-write_all g c =
    let scenario = c.in_ok-scenario.scenario in
    let asked = c.args.asked.now in
    let script = c.args.script.now in
    let says : said_for OfScript script ≡ Ok (said_by scenario) = search rules in
    let alone : scenario.tree ≡ tree_of (said_by scenario) = (λ i. record { nodes = scenario.tree.nodes; handles = c.in_ok-scenario.ensures.none i }) in
    let is : IsPart asked c.in_ok-scenario.tree scenario.plans.items scenario.lines c.in-Ok.part = c.in-Ok.ensures.part in
    let digest : c.as_bytes.result.now ≡ sum_of script = search rules in
    let appends : Appends (g.W.Write.contents c.args.writer.now) (g.W.Write.contents c.write_all.new.self) c.in-Ok-part_text.text = search rules in
    part_written (g.W.Write.contents c.args.writer.now) (g.W.Write.contents c.write_all.new.self) script c.as_bytes.result.now c.in-Ok-part_text.text asked
    (said_by scenario) c.in_ok-scenario.tree c.in-Ok.part says (c.in_ok-scenario.ensures.same ∙ alone) is digest c.in-Ok-part_text.ensures appends
