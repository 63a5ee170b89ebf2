-- What a command writes has something in it: the text of a report on some actors' run, and a picture.
use Rattle.std.proofs.Common.{◌≢◌, ℕ, zero, suc, ◌<◌, List, [], length, refl, sym, ◌∙◌, arith, ◌++◌}
use Rattle.std.specs.Prelude.{Result, Ok, Err, MatchResult, IfOk, codes}
use Rattle.race_core.specs.declared.report.Outcome.{Outcome}
use Rattle.report_text.specs.Report.{report_text, event_lines, reply_lines, row_lines, held_line, held_lines}
use Rattle.tree_model.specs.declared.answer.Event.{Event}
use Rattle.tree_model.specs.State.{State}
use Rattle.scripts.specs.declared.fault.RunFault.{RunFault}
use Rattle.run_command.specs.Replay.{IsTextOf}
use Rattle.scripts.specs.Writing.{IsNoRun}
use Rattle.scripts.specs.Scenario.{Said, IsPlayable}
use Rattle.scripts.proofs.Texts.{first_byte, tail_some, front_some}
use Rattle.std.specs.List.{flat_map}
use Rattle.drawings.specs.Picture.{Drawn, line_count}
use Rattle.drawings.specs.Svg.{line_y, svg_width, svg_head, about, svg_headings, svg_columns, svg_lines, svg_of}
use Rattle.drawings.specs.declared.look.Look.{Look}
use Rattle.drawings.specs.Text.{heading_row, legend_text, table, text_of}
use Rattle.run_command.specs.declared.drawing.Form.{Form}
use Rattle.run_command.specs.declared.drawing.Form.TheVariants.{Text, Svg}
use Rattle.run_command.specs.declared.drawing.Style.{Style}
use Rattle.run_command.specs.declared.drawing.DrawFault.{DrawFault}
use Rattle.run_command.specs.Drawing.{drawn, form_text, IsDrawingOf, IsNoDrawing}

held_some : (s : State) (n : ℕ) → 0 < n → held_lines s n ≢ []
held_some s zero some = omega (arith, some)
held_some s (suc n) some = tail_some (held_lines s n) (held_line s n) (first_byte (held_line s n) _ 104 refl)

report_some : (events : List Event) (replies : List (List Outcome)) (s : State) (actors : ℕ) → 0 < actors → report_text events replies s actors ≢ []
report_some events replies s actors some =
    tail_some (event_lines events) _ (tail_some (reply_lines replies) _ (tail_some (row_lines s.nodes) _ (held_some s actors some)))

pub texts_some : (said : Said) (made : Result (List ℕ) RunFault) → IsPlayable said → MatchResult made (IsTextOf said) (IsNoRun said) → IfOk made (λ text. text ≢ [])
texts_some said (Ok text) playable is = λ none. report_some is.events is.replies is.tree (length said.plans) playable.some (sym is.is ∙ none)
texts_some said (Err fault) playable is = tt

text_some : (look : Look) (picture : Drawn) → text_of look picture ≢ []
text_some look picture =
    let columns = look.columns.count in
    let below = table columns look.colours picture in
    tail_some (flat_map (heading_row columns look.colours) picture.heads) _ (tail_some (legend_text look.legend) (codes "\n" ++ below) (front_some (codes "\n") below (λ e. cc (e))))

svg_some : (picture : Drawn) → svg_of picture ≢ []
svg_some picture =
    let heads = length picture.heads in
    let end = line_y (line_count picture) in
    tail_some (svg_head (svg_width picture) end) _ (tail_some about _ (tail_some (svg_headings picture.heads) _
    (tail_some (svg_columns heads end picture.actors) _ (tail_some (svg_lines picture.actors heads picture.lines) (codes "</svg>\n") (λ e. cc (e))))))

drawing_some : (form : Form) (picture : Drawn) → form_text form picture ≢ []
drawing_some (Text look) picture = text_some look picture
drawing_some Svg picture = svg_some picture

pub drawings_some : (style : Style) (said : Said) (made : Result (List ℕ) DrawFault) → MatchResult made (IsDrawingOf style said) (IsNoDrawing style.closes said)
    → IfOk made (λ text. text ≢ [])
drawings_some style said (Ok text) is = λ none. drawing_some style.form (drawn style.closes said is.tree is.events is.replies is.run) (sym is.is ∙ none)
drawings_some style said (Err fault) is = tt
