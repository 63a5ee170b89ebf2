-- What a command line asks for.
use Rattle.std.specs.Borrow.{Bor}
use Rattle.std.specs.Prelude.{◌≡◌, ◌≢◌, ◌<◌, ◌≤◌, ◌⊎◌, ℕ, List, [], Bool, true, false, Option, Some, None, option_map, is_some, unwrap_or, codes}
use Rattle.std.specs.Str.Parse.{digits_value, without_leading_plus}
use Rattle.clap.specs.Matches.{found_of, first_value, has_subcommand, matched_of, one_text, raw_values, subcommand_name_of}
use Rattle.clap.specs.Simple.{subcommand_rows_of}
use Rattle.clap.specs.Walk.{rows_of}
use Rattle.clap.specs.declared.parser.matches.ArgMatches.{ArgMatches}
use Rattle.drawings.specs.declared.picture.Closes.{Closes}
use Rattle.drawings.specs.declared.picture.Closes.TheVariants.{Shown, Hidden}
use Rattle.command_line.specs.declared.commands.Drawing.{Drawing}
use Rattle.command_line.specs.declared.commands.Replaying.{Replaying}
use Rattle.command_line.specs.declared.commands.Request.{Request}
use Rattle.command_line.specs.declared.commands.Request.TheVariants as request
use Rattle.command_line.specs.declared.commands.Walking.{Walking}
use Rattle.outcome_text.specs.declared.asked.Options.{Options}
use Rattle.outcome_text.specs.Asked.{texts_in}

-- the option's value is `true` or `false`; without one it isn't set
pub record IsOption (matches : ArgMatches) (id : List ℕ) (set : Bool) : Type 0 where
  pub missing : one_text (found_of matches) id ≡ None → set ≡ false
  pub is_true : one_text (found_of matches) id ≡ Some (codes "true") → set ≡ true
  pub is_false : one_text (found_of matches) id ≡ Some (codes "false") → set ≡ false

-- the path and the restrictions that the arguments of `walk` have
pub record IsWalk (matches : ArgMatches) (walk : Walking) : Type 0 where
  pub path : first_value (found_of matches) (codes "PATH") ≡ Some walk.path.now
  pub beneath : IsOption matches (codes "beneath") walk.flags.beneath
  pub no_links : IsOption matches (codes "no-links") walk.flags.no_links

-- there is a walk exactly where there is a path
abbrev pub IsAsked : ArgMatches → Option Walking → Type 0
IsAsked matches (Some walk) = IsWalk matches walk
IsAsked matches None = first_value (found_of matches) (codes "PATH") ≡ None

-- the turns that are asked for
abbrev pub IsSchedule : ArgMatches → Option (Bor (List ℕ)) → Type 0
IsSchedule matches (Some text) = first_value (found_of matches) (codes "schedule") ≡ Some text.now
IsSchedule matches None = first_value (found_of matches) (codes "schedule") ≡ None

-- `--json` asks for JSON
pub record IsReplaying (matches : ArgMatches) (replaying : Replaying) : Type 0 where
  pub schedule : IsSchedule matches replaying.schedule
  pub form : IsOption matches (codes "json") replaying.json

-- `--all` asks for what is closed, too
abbrev pub is_all : Closes → Bool
is_all Shown = true
is_all Hidden = false

-- `--svg` asks for SVG and `--html` for a page, and the texts are those that were given
pub record IsDrawing (matches : ArgMatches) (drawing : Drawing) : Type 0 where
  pub schedule : IsSchedule matches drawing.schedule
  pub form : IsOption matches (codes "svg") drawing.svg
  pub page : IsOption matches (codes "html") drawing.html
  pub closes : IsOption matches (codes "all") (is_all drawing.closes)
  pub width : option_map (λ text. text.now) drawing.width ≡ first_value (found_of matches) (codes "width")
  pub color : option_map (λ text. text.now) drawing.color ≡ first_value (found_of matches) (codes "color")

-- the number is what the text after `--workers` says in decimal digits, and there may be so many
pub record IsWorkers (matches : ArgMatches) (workers : ℕ) : Type 0 where
  pub given : one_text (found_of matches) (codes "workers") ≢ None
  pub number : (text : List ℕ) → one_text (found_of matches) (codes "workers") ≡ Some text
      → workers ≡ digits_value 10 (without_leading_plus text)
  pub some : 0 < workers
  pub few : workers ≤ 8

-- the texts of an option, of each time that it comes
abbrev pub texts_given : ArgMatches → List ℕ → List (List ℕ)
texts_given matches id = unwrap_or (option_map raw_values (matched_of (found_of matches) id)) []

-- the texts are those that were given, and `--outside` asks for what acts outside
pub record IsExploration (matches : ArgMatches) (options : Options) : Type 0 where
  pub actors : texts_in options.actors.now ≡ texts_given matches (codes "actor")
  pub cuts : option_map (λ text. text.now) options.cuts ≡ first_value (found_of matches) (codes "cuts")
  pub begin : option_map (λ text. text.now) options.begin ≡ first_value (found_of matches) (codes "begin")
  pub states : option_map (λ text. text.now) options.states ≡ first_value (found_of matches) (codes "states")
  pub memory : option_map (λ text. text.now) options.memory ≡ first_value (found_of matches) (codes "memory")
  pub outside : IsOption matches (codes "outside") options.outside
  pub when : texts_in options.when.now ≡ texts_given matches (codes "when")
  pub never : texts_in options.never.now ≡ texts_given matches (codes "never")
  pub always : texts_in options.always.now ≡ texts_given matches (codes "always")

-- `--merge` was given, with the files that are named
abbrev pub IsMergeOf : ArgMatches → List (Bor (List ℕ)) → Type 0
IsMergeOf matches files =
    option_map raw_values (matched_of (found_of matches) (codes "merge")) ≡ Some (texts_in files)

abbrev pub IsNoMerge : ArgMatches → Type 0
IsNoMerge matches = option_map raw_values (matched_of (found_of matches) (codes "merge")) ≡ None

-- `--merge` asks for a merge, `--part` for a part, `--html` for a page, and else all is explored
abbrev pub IsExploreRequest : ArgMatches → Request → Type 0
IsExploreRequest matches (request.Merge files) = IsMergeOf matches files.now
IsExploreRequest matches (request.Part options) =
    IsNoMerge matches × IsOption matches (codes "part") true × IsExploration matches options
IsExploreRequest matches (request.ExplorePage options) =
    IsNoMerge matches × IsOption matches (codes "part") false
    × IsOption matches (codes "html") true × IsExploration matches options
IsExploreRequest matches (request.Explore options) =
    IsNoMerge matches × IsOption matches (codes "part") false
    × IsOption matches (codes "html") false × IsExploration matches options
IsExploreRequest matches other = ⊥

-- ---- the command that was named

-- These are the arguments that the named command was given: the parse entered their rows for it, each with its id
-- and values.
abbrev pub AreGiven : ArgMatches → ArgMatches → Type 0
AreGiven matches own = option_map (λ p. p.1) (subcommand_rows_of matches) ≡ Some (rows_of (found_of own))

-- the command of this name was named, and these are its own arguments
pub record AreOf (matches : ArgMatches) (name : List ℕ) (own : ArgMatches) : Type 0 where
  pub named : subcommand_name_of matches ≡ Some name
  pub given : AreGiven matches own

-- The request is that of the command that was named, with the options that it was given.
abbrev pub IsRequest : ArgMatches → Option Request → Type 0
IsRequest matches (Some (request.Walk walk)) =
    (own : ArgMatches) × (AreOf matches (codes "walk") own × IsWalk own walk)
IsRequest matches (Some (request.Replay replaying)) =
    (own : ArgMatches) × (AreOf matches (codes "replay") own × IsReplaying own replaying)
IsRequest matches (Some (request.Draw drawing)) =
    (own : ArgMatches) × (AreOf matches (codes "draw") own × IsDrawing own drawing)
IsRequest matches (Some (request.Run workers)) =
    (own : ArgMatches) × (AreOf matches (codes "run") own × IsWorkers own workers)
IsRequest matches (Some (request.Explore options)) =
    (own : ArgMatches) × (AreOf matches (codes "explore") own × IsExploreRequest own (request.Explore options))
IsRequest matches (Some (request.ExplorePage options)) =
    (own : ArgMatches) × (AreOf matches (codes "explore") own × IsExploreRequest own (request.ExplorePage options))
IsRequest matches (Some (request.Part options)) =
    (own : ArgMatches) × (AreOf matches (codes "explore") own × IsExploreRequest own (request.Part options))
IsRequest matches (Some (request.Merge files)) =
    (own : ArgMatches) × (AreOf matches (codes "explore") own × IsExploreRequest own (request.Merge files))
IsRequest matches None =
    (subcommand_name_of matches ≢ Some (codes "replay")) × (subcommand_name_of matches ≢ Some (codes "draw"))
    × (subcommand_name_of matches ≢ Some (codes "explore"))

-- the file that the arguments of a command name, if they name one
abbrev pub IsFile : ArgMatches → Option (Bor (List ℕ)) → Type 0
IsFile matches (Some text) = first_value (found_of matches) (codes "SCRIPT") ≡ Some text.now
IsFile matches None = first_value (found_of matches) (codes "SCRIPT") ≡ None

-- the script's file is that of the command that was named; where none was named, there is none
abbrev pub IsScript : ArgMatches → Option (Bor (List ℕ)) → Type 0
IsScript matches named =
    ((own : ArgMatches) × (AreGiven matches own × IsFile own named))
    ⊎ ((has_subcommand matches ≡ false) × (is_some named ≡ false))

-- whether the command that was named was given `--strict`; where none was named, it is false
abbrev pub IsStrict : ArgMatches → Bool → Type 0
IsStrict matches strict =
    ((own : ArgMatches) × (AreGiven matches own × IsOption own (codes "strict") strict))
    ⊎ ((has_subcommand matches ≡ false) × (strict ≡ false))
