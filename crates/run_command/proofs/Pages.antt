-- What is told of a run as JSON, and its page: the tree in which the roots were granted again is the one that it went from.
use Rattle.std.proofs.Common.{◌≡◌, ◌≢◌, ℕ, List, [], ◌∷◌, ◌++◌, length, sym, ap, subst, ◌∙◌}
use Rattle.std.specs.Prelude.{codes, Result, Ok, Err, MatchResult, IfOk, IfErr}
use Rattle.std.specs.List.{flat_map}
use Rattle.drawings.specs.declared.picture.Closes.{Closes}
use Rattle.drawings.specs.Calls.{calls_of}
use Rattle.drawings.specs.Picture.{Drawn, drawn_of}
use Rattle.pages.specs.declared.played.Played.{Played}
use Rattle.pages.specs.Page.{played_of, text_part, run_part, ending, page_of}
use Rattle.pages.specs.Run.{opening_part, replies_part, events_part, report_json}
use Rattle.race_core.specs.declared.report.Outcome.{Outcome}
use Rattle.report_text.specs.Report.{report_text}
use Rattle.tree_model.specs.declared.answer.Event.{Event}
use Rattle.tree_model.specs.State.{State}
use Rattle.run_command.specs.Drawing.{IsNoDrawing, IsRunFrom, IsUndrawn}
use Rattle.run_command.specs.declared.drawing.DrawFault.{DrawFault}
use Rattle.run_command.specs.declared.page.JsonFault.{JsonFault}
use Rattle.run_command.specs.declared.page.JsonFault.TheVariants as json
use Rattle.run_command.specs.Page.{IsJsonOf, IsNoJson, IsPageOf, IsUntold, run_json, run_played}
use Rattle.run_command.proofs.Drawings.{made, is_no_drawing}
use Rattle.scripts.specs.Scenario.{Said, IsPlayable}
use Rattle.scripts.specs.Writing.{IsNoRun}
use Rattle.scripts.proofs.Texts.{tail_some, front_some}
use Rattle.pages.specs.Changes.{changes_words}

told_of_run : (said : Said) (t tree : State) (events : List Event) (replies : List (List Outcome))
    (ran : IsRunFrom t said tree events replies)
    → report_json t events replies ≡ run_json said tree events replies ran.0
told_of_run said t tree events replies ran = ap (λ (s : State). report_json s events replies) ran.1

pub is_json : (said : Said) (t tree : State) (events : List Event) (replies : List (List Outcome))
    (made : Result (List ℕ) JsonFault) → IsRunFrom t said tree events replies
    → IfOk made (λ text. text ≡ report_json t events replies) → IfErr made (IsUntold events)
    → MatchResult made (IsJsonOf said) (IsNoJson said)
is_json said t tree events replies (Ok text) ran told untold =
    record {
      tree = tree;
      events = events;
      replies = replies;
      run = ran.0;
      is = told ∙ told_of_run said t tree events replies ran;
    }
is_json said t tree events replies (Err (json.Run fault)) ran told untold = subst (IsNoRun said) (sym untold) tt
is_json said t tree events replies (Err json.TooManyEvents) ran told untold =
    record { tree = tree; events = events; replies = replies; run = ran.0; over = untold }

-- so is what a page plays
pub played_so : (closes : Closes) (said : Said) (t tree : State) (calls : List (List (List ℕ))) (events : List Event)
    (replies : List (List Outcome)) (ran : IsRunFrom t said tree events replies)
    → calls ≡ calls_of said.plans → played_of closes t calls events replies ≡ run_played closes said tree events
    replies ran.0
played_so closes said t tree calls events replies ran are =
    ap (λ (bs : List ℕ). record { report = bs; picture = drawn_of closes t calls events replies })
    (told_of_run said t tree events replies ran)
    ∙ ap (λ (p : Drawn). record { report = run_json said tree events replies ran.0; picture = p })
    (made closes said t tree calls events replies ran are)

pub is_page : (closes : Closes) (said : Said) (t tree : State) (calls : List (List (List ℕ))) (events : List Event)
    (replies : List (List Outcome)) (actors : ℕ) (made : Result (List ℕ) DrawFault) → IsPlayable said
    → IsRunFrom t said tree events replies → calls ≡ calls_of said.plans → actors ≡ length said.plans
    → IfOk made (λ page. page
    ≡ page_of (report_text events replies tree actors) (played_of closes t calls events replies ∷ []))
    → IfErr made (IsUndrawn events (drawn_of closes t calls events replies))
    → MatchResult made (IsPageOf closes said) (IsNoDrawing closes said)
is_page closes said t tree calls events replies actors (Ok page) playable ran are all told undrawn =
    record {
      tree = tree;
      events = events;
      replies = replies;
      run = ran.0;
      is =
          told ∙ ap (λ (n : ℕ). page_of (report_text events replies tree n)
          (played_of closes t calls events replies ∷ [])) all
          ∙ ap (λ (p : Played). page_of (report_text events replies tree (length said.plans)) (p ∷ []))
          (played_so closes said t tree calls events replies ran are);
    }
is_page closes said t tree calls events replies actors (Err fault) playable ran are all told undrawn =
    is_no_drawing closes said t tree calls events replies fault playable ran are undrawn

-- ---- neither is empty

ending_some : ending ≢ []
unfolding ending
ending_some = λ e. cc (e)

page_some : (text : List ℕ) (runs : List Played) → page_of text runs ≢ []
unfolding page_of
page_some text runs = tail_some (text_part text) _ (tail_some (flat_map run_part runs) ending ending_some)

opening_some : (opened : State) → opening_part opened ≢ []
unfolding opening_part
opening_some opened = front_some (codes "{\"version\":1") (changes_words [] [] opened) (λ e. cc (e))

json_some : (opened : State) (events : List Event) (replies : List (List Outcome))
    → report_json opened events replies ≢ []
unfolding report_json
json_some opened events replies = front_some (opening_part opened) (replies_part replies ++ events_part opened events) (opening_some opened)

pub jsons_some : (opened : State) (events : List Event) (replies : List (List Outcome)) (made : Result
    (List ℕ) JsonFault)
    → IfOk made (λ text. text ≡ report_json opened events replies) → IfOk made (λ text. text ≢ [])
jsons_some opened events replies (Ok text) is = λ none. json_some opened events replies (sym is ∙ none)
jsons_some opened events replies (Err fault) is = tt

pub pages_some : (text : List ℕ) (runs : List Played) (made : Result (List ℕ) DrawFault)
    → IfOk made (λ page. page ≡ page_of text runs) → IfOk made (λ page. page ≢ [])
pages_some text runs (Ok page) is = λ none. page_some text runs (sym is ∙ none)
pages_some text runs (Err fault) is = tt
