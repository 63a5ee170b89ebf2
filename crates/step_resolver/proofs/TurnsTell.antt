-- The turns of a walk tell what its end tells, since its lines lead to them.
use Rattle.std.proofs.Common.{◌≡◌, [], ◌∷◌, Bool, true, false, if◌then◌else◌, Some, Ok, Err, refl, sym, ap, subst}
use Rattle.std.proofs.lemmas.Option.{none-some, same_Some}
use Rattle.path_text.specs.declared.errno.Errno.{Errno}
use Rattle.path_text.specs.declared.errno.Errno.TheVariants.{CrossRoot}
use Rattle.path_text.specs.declared.flags.Flags.{Flags}
use Rattle.path_text.specs.Reading.{Reading}
use Rattle.tree_model.specs.declared.answer.Answer.{Answer}
use Rattle.tree_model.specs.declared.answer.Answer.TheVariants.{Refused}
use Rattle.step_machine.proofs.Machines.{IsMachine}
use Rattle.step_machine.specs.Tells.{IsLineOf, EveryCallTells}
use Rattle.step_machine.proofs.Runs as machine
use Rattle.walk_plan.specs.declared.goal.Goal.{Goal}
use Rattle.walk_plan.specs.Plan.{PlanState, leads_out}
use Rattle.step_resolver.specs.declared.walk.Root.{Root}
use Rattle.step_resolver.specs.Asked.{asked, follows}
use Rattle.step_resolver.specs.Meaning.{LINKS_MAX}
use Rattle.step_resolver.specs.Order.{Way, root_itself, todo, goes_on, Walking, opening, reading, rising, judging, duping, ending, closing, Turn, more, found, partial, failed, begins, take, starts, under_way, walks, Line, LeadsTo}
use Rattle.step_resolver.specs.Headline.{WalksTell}
use Rattle.step_resolver.specs.FootprintLaws.{WalksMean}
use Rattle.step_resolver.specs.View.{way_from}
use Rattle.step_resolver.specs.TurnView.{StartsTo, TakesTo}
use Rattle.step_resolver.specs.TurnsTell.{histories, TellsTaken, TellsBegun}
use Rattle.step_resolver.proofs.FirstTurns.{first_lines_lead}
use Rattle.step_resolver.proofs.Underway.OwnSteps.{own_events_leave_nodes}

-- a refusal brings nothing that takes room
pub refusal_needs_no_room : (way : Way) (room : Bool) (walk : Walking) (error : Errno) → take way true walk (Refused error) ≡ take way room walk (Refused error)
refusal_needs_no_room way room (opening position own follow n rest) error = refl
refusal_needs_no_room way room (reading position link rest) error = refl
refusal_needs_no_room way room (rising old names rest) error = refl
refusal_needs_no_room way room (judging new names rest) error = refl
refusal_needs_no_room way room (duping rest) error = refl
refusal_needs_no_room way room (ending handle names rest) error = refl
refusal_needs_no_room way room (closing h hs after) error = refl

else_ends : (turn : Turn) (walk : Walking) → under_way turn ≡ Some walk → turn ≡ more walk
else_ends (more other) walk e = ap more (same_Some other walk e)
else_ends (found handle names) walk e = absurd (none-some walk e)
else_ends (partial handle names rest) walk e = absurd (none-some walk e)
else_ends (failed error) walk e = absurd (none-some walk e)

pub is_machine : (way : Way) → IsMachine (walks way)
is_machine way = record { goes_on = λ walk. refl; else_ends = else_ends; refusals_need_no_room = refusal_needs_no_room way }

-- the line of an answer leads to the turn that the answer makes of the walk
pub line_leads : (way : Way) (room : Bool) (walk : Walking) (answer : Answer) (turn : Turn) (line : Line)
    → turn ≡ take way room walk answer → IsLineOf (walks way) room walk answer line → LeadsTo way (more walk) (line ∷ []) turn
line_leads way room walk answer turn line taken is =
    subst (λ t. LeadsTo way (more walk) (line ∷ []) t) (sym taken) (machine.line_leads (walks way) (is_machine way) room walk answer line is)

-- what an end tells, what the path means, and what the walk leaves
every_walk_tells : WalksTell → WalksMean → (way : Way) → EveryCallTells (walks way) (histories way)
every_walk_tells tell mean way w end is leads_by =
    let leads = subst (λ (v : Way). LeadsTo v (begins v w.path) w.lines end) (sym is.1) leads_by in
    let means = mean w end is.0 leads in
    record { tells = tell w end is.0 leads; means = means.0; leaves = own_events_leave_nodes w end is.0 leads; deepest = means.1 }

pub taken_tells : WalksTell → WalksMean → (way : Way) (walk : Walking) (answer : Answer) (turn : Turn) → TakesTo way walk answer turn → TellsTaken way walk answer turn
unfolding TellsTaken
taken_tells tell mean way walk answer turn taken =
    machine.taken_tells (walks way) (is_machine way) (histories way) (every_walk_tells tell mean way) (λ next. turn ≡ next) walk answer taken.0 taken.1

pub begun_tells : WalksTell → WalksMean → (way : Way) (path : Reading) (turn : Turn) → StartsTo way path turn → TellsBegun way path turn
unfolding TellsBegun
begun_tells tell mean way path turn begun =
    machine.begun_tells (walks way) (histories way) (every_walk_tells tell mean way) (begins way path) (λ room. starts way room path)
    (λ next. turn ≡ next) begun.0 begun.1 (first_lines_lead way begun.0 path)

-- where no plan is made the path leads out, and the walk fails at once
pub refused_begins : (root : Root) (path : Reading) (goal : Goal) (flags : Flags) (plan : PlanState) (error : Errno)
    → Err error ≡ (if leads_out path.absolute flags then Err CrossRoot else Ok plan) → failed error ≡ begins (way_from root goal flags) path
refused_begins root path goal flags plan error e = refused (leads_out path.absolute flags) e
  where
    begun : Bool → Turn
    begun b = if b then failed CrossRoot else goes_on (way_from root goal flags) root_itself (todo [] (asked (follows goal) path.parts) LINKS_MAX)

    refused : (b : Bool) → Err error ≡ (if b then Err CrossRoot else Ok plan) → failed error ≡ begun b
    refused true q = cc (q)
    refused false q = cc (q)
