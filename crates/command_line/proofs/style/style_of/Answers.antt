use Rattle.std.proofs.Common.{◌≡◌, Bool, refl, ap, ◌∙◌}
use Rattle.std.specs.Prelude.{Ok}
use Rattle.drawings.specs.declared.look.Colours.{Colours}
use Rattle.drawings.specs.declared.look.Columns.{Columns}
use Rattle.drawings.specs.declared.look.Legend.{Legend}
use Rattle.run_command.specs.declared.drawing.Form.{Form}
use Rattle.command_line.specs.declared.commands.Drawing.{Drawing}
use Rattle.command_line.specs.declared.style.Screen.{Screen}
use Rattle.command_line.specs.Style.{IsColumns, IsColours, legend_by, is_seen, form_by, IsStyle}
use Rattle.command_line.proofs.style.style_of.Goals as goal

-- the parts make a style
styled : (drawing : Drawing) (screen : Screen) (columns : Columns) (colours : Colours) (legend : Legend) (seen : Bool) (form : Form) → IsColumns drawing.width screen (Ok columns) → IsColours drawing.color screen (Ok colours)
    → seen ≡ is_seen drawing screen → legend ≡ legend_by drawing.closes seen → form ≡ form_by drawing.svg (record { columns = columns; colours = colours; legend = legend })
    → IsStyle drawing screen (Ok (record { form = form; closes = drawing.closes }))
styled drawing screen columns colours legend seen form is_columns is_colours by_seen is_legend is_form = (
  refl,
  (
    record { columns = columns; colours = colours; legend = legend },
    (
      record {
        columns = is_columns;
        colours = is_colours;
        legend = is_legend ∙ ap (legend_by drawing.closes) by_seen;
      },
      is_form,
    ),
  ),
)

pub returns : goal.returns
returns c =
    styled c.args.drawing c.args.screen c.in_ok-columns.columns c.in_ok-colours.colours c.legend_by-legend.result c.is_seen-seen.result c.form_by-form.result c.in_ok-columns.ensures c.in_ok-colours.ensures c.is_seen-seen.ensures c.legend_by-legend.ensures c.form_by-form.ensures
