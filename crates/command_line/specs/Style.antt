-- How a picture is drawn that a command line asks for.
use Rattle.std.specs.Borrow.{Bor}
use Rattle.std.specs.Prelude.{◌≡◌, ◌≤◌, ◌⊎◌, ◌&&◌, ◌||◌, ℕ, List, Bool, true, false, not, if◌then◌else◌, is_some, Option, Some, None, Result, Ok, Err, codes, decimal}
use Rattle.path_text.specs.Name.{same_bytes}
use Rattle.drawings.specs.declared.look.Colours.{Colours}
use Rattle.drawings.specs.declared.look.Colours.TheVariants as colours
use Rattle.drawings.specs.declared.look.Columns.{Columns}
use Rattle.drawings.specs.declared.look.Legend.{Legend}
use Rattle.drawings.specs.declared.look.Legend.TheVariants as legend
use Rattle.drawings.specs.declared.look.Look.{Look}
use Rattle.drawings.specs.declared.look.TheConstants.{COLUMNS, COLUMNS_MIN, COLUMNS_MAX}
use Rattle.drawings.specs.declared.picture.Closes.{Closes}
use Rattle.drawings.specs.declared.picture.Closes.TheVariants.{Shown, Hidden}
use Rattle.command_line.specs.declared.commands.Drawing.{Drawing}
use Rattle.command_line.specs.declared.ending.Fault.{Fault}
use Rattle.command_line.specs.declared.ending.Fault.TheVariants.{Width, Color}
use Rattle.command_line.specs.declared.style.Screen.{Screen}
use Rattle.command_line.specs.declared.style.TheConstants.{TERMINAL_COLUMNS}
use Rattle.run_command.specs.declared.drawing.Form.{Form}
use Rattle.run_command.specs.declared.drawing.Form.TheVariants.{Text, Svg}
use Rattle.run_command.specs.declared.drawing.Style.{Style}

-- the text says no number of columns that a picture may have
abbrev pub IsNoWidth : List ℕ → Type 0
IsNoWidth text = (n : ℕ) → COLUMNS_MIN ≤ n → n ≤ COLUMNS_MAX → text ≡ decimal n → ⊥

-- a terminal has as many columns as the text says, or 80
abbrev pub IsWide : Option (Bor (List ℕ)) → ℕ → Type 0
IsWide None n = n ≡ TERMINAL_COLUMNS
IsWide (Some text) n = (text.now ≡ decimal n) ⊎ (IsNoWidth text.now × (n ≡ TERMINAL_COLUMNS))

-- what is asked for, or the terminal's, or the usual number
abbrev pub IsWideFor : Bool → Option (Bor (List ℕ)) → ℕ → Type 0
IsWideFor true columns n = IsWide columns n
IsWideFor false columns n = n ≡ COLUMNS

abbrev pub IsColumns : Option (Bor (List ℕ)) → Screen → Result Columns Fault → Type 0
IsColumns (Some text) screen (Ok columns) = text.now ≡ decimal columns.count
IsColumns (Some text) screen (Err fault) = (fault ≡ Width) × IsNoWidth text.now
IsColumns None screen (Ok columns) = IsWideFor screen.is_terminal screen.columns columns.count
IsColumns None screen (Err fault) = ⊥

abbrev pub colours_by : List ℕ → Colours → Option Colours
colours_by word on_screen =
    if same_bytes word (codes "never") then Some colours.Off
    else (if same_bytes word (codes "auto") then Some on_screen
    else (if same_bytes word (codes "always") then Some colours.On
    else None))

-- a terminal has colours, unless the environment wants none
abbrev pub colours_on : Screen → Colours
colours_on screen = if screen.is_terminal && not screen.is_plain then colours.On else colours.Off

abbrev pub IsColours : Option (Bor (List ℕ)) → Screen → Result Colours Fault → Type 0
IsColours None screen (Ok shown) = shown ≡ colours_on screen
IsColours None screen (Err fault) = ⊥
IsColours (Some word) screen (Ok shown) = colours_by word.now (colours_on screen) ≡ Some shown
IsColours (Some word) screen (Err fault) = (fault ≡ Color) × (colours_by word.now (colours_on screen) ≡ None)

-- it is said what is left out where somebody looks
abbrev pub legend_by : Closes → Bool → Legend
legend_by Hidden true = legend.NoCloses
legend_by Hidden false = legend.Off
legend_by Shown seen = legend.Off

-- somebody looks at a terminal, and where a width is asked for
abbrev pub is_seen : Drawing → Screen → Bool
is_seen drawing screen = screen.is_terminal || is_some drawing.width

-- SVG, or a text that looks as is asked for
abbrev pub form_by : Bool → Look → Form
form_by true look = Svg
form_by false look = Text look

pub record IsLook (drawing : Drawing) (screen : Screen) (look : Look) : Type 0 where
  pub columns : IsColumns drawing.width screen (Ok look.columns)
  pub colours : IsColours drawing.color screen (Ok look.colours)
  pub legend : look.legend ≡ legend_by drawing.closes (is_seen drawing screen)

-- or an option that has another form is refused
abbrev pub IsStyle : Drawing → Screen → Result Style Fault → Type 0
IsStyle drawing screen (Ok style) =
    (style.closes ≡ drawing.closes)
    × ((look : Look) × (IsLook drawing screen look × (style.form ≡ form_by drawing.svg look)))
IsStyle drawing screen (Err fault) =
    IsColumns drawing.width screen (Err fault) ⊎ IsColours drawing.color screen (Err fault)
