use Rattle.std.proofs.Common.{◌≡◌, ◌++◌, ◌∷◌, [], refl, rules}
use Rattle.serde_json.specs.View.{view}
use Rattle.explore_parts.specs.PartRead.{SaysPart}
use Rattle.explore_parts.specs.Seal.{IsSealed}
use Rattle.explore_parts.proofs.Merged.{adds}
use Rattle.explore_parts.proofs.merge.add_line.Goals as goal

pub returns : goal.returns
returns c =
    let sealed : IsSealed c.args.line.now = search rules in
    let says : SaysPart (view c.in_ok-value.value) c.in_ok-part.part = search rules in
    let pushed : c.push.new.self.items ≡ c.take_question.new.parts.parts.items ++ c.in_ok-part.part ∷ [] = search rules in
    adds c.args.parts.now c.take_question.new.parts (record { parts = c.push.new.self; question = c.take_question.new.parts.question; properties = c.take_question.new.parts.properties })
    c.args.line.now (view c.in_ok-value.value) c.in_ok-part.part sealed c.in_ok-value.ensures c.in_ok-take_question.ensures says pushed refl refl
