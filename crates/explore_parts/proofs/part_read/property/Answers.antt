use Rattle.std.proofs.Common.{◌≡◌, ◌++◌, false, true, Some, rules}
use Rattle.serde_json.specs.Find.{as_str}
use Rattle.serde_json.specs.View.{view}
use Rattle.outcome_text.specs.Property.{is_property, rule_word}
use Rattle.explore_parts.proofs.OnePart.{refused_property}
use Rattle.explore_parts.proofs.part_read.property.Goals as goal

pub returns-in-None : goal.returns-in-None
returns-in-None c =
    let is : Some c.in-Some.said.now ≡ as_str (view c.args.value.now) = search rules in
    let words : c.in-Some.said.now ≡ rule_word c.in-Some-rule_of.rule ++ c.in-Some-rule_of.text.now = search rules in
    let no : is_property true c.in-Some-rule_of.text.now ≡ false = search rules in
    λ e. refused_property (view c.args.value.now) c.in-Some.said.now c.in-Some-rule_of.rule c.in-Some-rule_of.text.now is words no
