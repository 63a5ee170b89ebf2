use Rattle.std.proofs.Common.{List, ℕ, string_bytes, subst, rules}
use Rattle.std.specs.Io.KnownBytes.{Appends}
use Rattle.outcome_text.specs.declared.property.Property.{Property}
use Rattle.outcome_text.specs.Framed.{text_of}
use Rattle.outcome_text.specs.Merge.{IsWhole}
use Rattle.explore_parts.specs.Merging.{LinesSay, lines_in}
use Rattle.explore_parts.proofs.Merged.{merged}
use Rattle.explore_parts.proofs.merge.merge_parts.Goals as goal

pub returns-in-Ok : goal.returns-in-Ok
returns-in-Ok g c =
    let parts = c.in_ok-parts.parts in
    let survey = c.in_ok-survey.survey in
    let say : LinesSay (string_bytes parts.question) parts.properties.items (lines_in c.in_ok-text.text.items) parts.parts.items =
    subst (λ (bs : List ℕ). LinesSay (string_bytes parts.question) parts.properties.items (lines_in bs) parts.parts.items) c.as_slice.ensures.value c.in_ok-parts.ensures in
    let whole : IsWhole parts.parts.items parts.properties.items survey.holds (text_of survey) =
    subst (λ (all : List Property). IsWhole parts.parts.items all survey.holds (text_of survey)) c.deref.ensures.value c.in_ok-survey.ensures in
    let appends : Appends (g.W.Write.contents c.args.writer.now) (g.W.Write.contents c.write.new.writer) (text_of survey) = search rules in
    merged (g.R.Read.remaining c.args.reader.now) (g.W.Write.contents c.args.writer.now) (g.W.Write.contents c.write.new.writer)
    c.in_ok-text.text.items parts survey.holds (text_of survey) c.in_ok-text.ensures say whole appends
