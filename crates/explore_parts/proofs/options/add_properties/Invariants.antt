use Rattle.std.proofs.Common.{◌≡◌, ◌++◌, drop}
use Rattle.explore_parts.specs.Options.{are_properties, properties_by}
use Rattle.outcome_text.specs.Asked.{texts_in}
use Rattle.explore_parts.proofs.options.add_properties.Given as goal

-- those so far are properties, and they and those that are left make the whole
abbrev pub invariant-loop-text : goal.invariant-loop-text
invariant-loop-text l = record {
  all : are_properties l.fn.outside (texts_in (drop l.text-index l.texts)) ≡ are_properties l.fn.outside (texts_in l.texts);
  added : l.properties.items ++ properties_by l.fn.rule (texts_in (drop l.text-index l.texts)) ≡ l.fn.properties.items ++ properties_by l.fn.rule (texts_in l.texts);
}
