-- How lines lead a call on from a directory: one that was looked up, the root itself, or one that isn't there.
use Rattle.std.proofs.Common.{◌≡◌, ℕ, List, [], ◌∷◌, ◌++◌, Bool, true, false, if◌then◌else◌, refl, sym, ap, subst, ◌∙◌, reverse}
use Rattle.std.specs.Prelude.{Option}
use Rattle.std.proofs.lemmas.List.{append_assoc}
use Rattle.path_text.specs.declared.errno.Errno.{Errno}
use Rattle.path_text.specs.declared.errno.Errno.TheVariants.{CrossRoot, NotFound}
use Rattle.path_text.specs.declared.part.Part.{Part}
use Rattle.path_text.specs.declared.path.Split.{Split}
use Rattle.path_text.specs.Reading.{Reading}
use Rattle.path_text.specs.Split.{before_last}
use Rattle.path_text.specs.Text.{has_final_slash, reading_of, text_fault}
use Rattle.tree_model.specs.declared.answer.Answer.TheVariants as answers
use Rattle.tree_model.specs.declared.step.StepOf.TheVariants as steps
use Rattle.walk_plan.specs.Plan.{leads_out}
use Rattle.walk_plan.specs.declared.goal.Goal.TheVariants.{Follow}
use Rattle.step_resolver.specs.Asked.{asked, follows, is_deepest}
use Rattle.step_resolver.specs.Meaning.{LINKS_MAX}
use Rattle.step_resolver.specs.Order.{Handle, Line, Turn, answered, answer_of, duping, ending, no_room, not_made}
use Rattle.step_resolver.specs.Order as walk
use Rattle.root_ops.specs.declared.aim.Aim.{Aim}
use Rattle.root_ops.specs.declared.aim.Aim.TheVariants.{Opens}
use Rattle.root_ops.specs.declared.below.Below.{Below}
use Rattle.root_ops.specs.declared.op.Op.TheVariants.{Resolve}
use Rattle.root_ops.specs.CallHistory.{CallInHistory}
use Rattle.root_ops.specs.Order.{CallTurn, Reply, ends, fault, gives_up, goal_of, held_by, more, opened, on_path, reached, unless_fault, walked, walking, walks, way_of, LeadsTo}
use Rattle.kernel_walks.specs.AtOnce.{FailsAtOnceTell, misses_at_once}
use Rattle.kernel_walks.specs.Behind.{IsDirectoryText, asks_below}
use Rattle.kernel_walks.specs.Told.{as_it_was, as_passed, AreTold}
use Rattle.kernel_walks.proofs.Behind.{joined, told_all, told_first, walk_leads}
use Rattle.kernel_walks.proofs.LastQuestion.{resolve_looks_up}
use Rattle.kernel_walks.proofs.Parts.{judged_found}
use Rattle.kernel_walks.proofs.Slash.{without_slash_leads}
use Rattle.calls_by_system_calls.specs.SystemCalls.{Descriptors, InRoot, Misses, WalksTo, close_line}

-- Lines of a history, by what was told in their place, lead from a turn to the reply.
pub record Leads (below : Below) (turn : CallTurn) (was : List Line) (reply : Reply) : Type 0 where
  pub told : List Line
  pub leads : LeadsTo below turn told (ends reply)
  pub are : AreTold below turn told was

-- told as they are
pub as_they_are : (below : Below) (turn : CallTurn) (lines : List Line) (reply : Reply)
    → LeadsTo below turn lines (ends reply) → Leads below turn lines reply
as_they_are below turn lines reply leads =
    record { told = lines; leads = leads; are = told_all below turn (ends reply) lines leads }

onward : (below : Below) (turn mid : CallTurn) (first was : List Line) (reply : Reply) → LeadsTo below turn first mid
    → Leads below mid was reply → Leads below turn (first ++ was) reply
onward below turn mid first was reply led next = record {
  told = first ++ next.told;
  leads = joined below turn mid (ends reply) first next.told led next.leads;
  are = told_first below turn mid first next.told was led next.are;
}

-- at the question where it stands, whose answer is that the names passed lead there
at_question : (below : Below) (aim : Aim) (dir : Handle) (names others : List (List ℕ)) (was : List Line) (reply : Reply)
    → Leads below (reached below true dir names aim) was reply
    → Leads below (more (walking (ending dir names []) aim)) (asks_below below dir others ∷ was) reply
at_question below aim dir names others was reply next =
    let found = ap (walked below true aim) (judged_found (way_of below aim) dir names) in
    record {
      told = asks_below below dir (reverse names) ∷ next.told;
      leads = (refl, subst (λ t. LeadsTo below t next.told (ends reply)) (sym found) next.leads);
      are = (
        as_passed (steps.NameBelow below.root.handle dir.number) names others refl refl refl,
        subst (λ t. AreTold below t next.told was) (sym found) next.are,
      );
    }

module _ (below : Below) (aim : Aim) (follow : goal_of aim ≡ Follow) (reply : Reply) where
  -- ---- it was looked up

  pub by_path : (path : List ℕ) (split : Split) (d : Descriptors) (fd : ℕ) (own was : List Line)
      → IsDirectoryText path split → (w : WalksTo below d (Resolve path) fd own)
      → Leads below (reached below true w.object w.names aim) was reply
      → Leads below (walks below aim split.dir) (own ++ was) reply
  by_path path split d fd own was same w next =
      let way = way_of below aim in
      let looks = resolve_looks_up below (goal_of aim) path (text_fault path) w.before below.root.handle w.object w.told
      w.names
      (subst (λ g. LeadsTo below (on_path below (Opens g) path) (w.before ++ asks_below below w.object w.told ∷ [])
      (ends (opened w.object w.names))) (sym follow) w.leads) in
      let led = walk_leads below aim true (walk.begins way split.dir) w.before (ending w.object w.names [])
      (without_slash_leads way (ap is_deepest follow) (ap follows follow) w.object w.names path w.before split.dir
      same.absolute same.parts looks.led) in
      subst (λ ls. Leads below (walks below aim split.dir) ls reply)
      (sym (append_assoc w.before (asks_below below w.object w.others ∷ []) was) ∙ ap (λ ls. ls ++ was) (sym w.all))
      (onward below (walks below aim split.dir) (more (walking (ending w.object w.names []) aim)) w.before
      (asks_below below w.object w.others ∷ was) reply led (at_question below aim w.object w.names w.others was reply next))

  -- ---- it is the root itself

  -- a walk along no parts: the root's handle is doubled
  no_parts : (dir : Reading) → dir.parts ≡ [] → leads_out dir.absolute below.flags ≡ false
      → walks below aim dir ≡ more (walking (duping []) aim)
  no_parts dir parts inside =
      let way = way_of below aim in
      ap (λ t. walked below true aim (if t then walk.failed CrossRoot
      else walk.goes_on way walk.root_itself (walk.todo [] (asked (follows way.goal) dir.parts) LINKS_MAX))) inside
      ∙ ap (λ (ps : List Part). walked below true aim
      (walk.goes_on way walk.root_itself (walk.todo [] (asked (follows way.goal) ps) LINKS_MAX))) parts

  pub in_root : (dir : Reading) (inner : ℕ → List Line) (lines was : List Line) → dir.parts ≡ []
      → leads_out dir.absolute below.flags ≡ false → (root : InRoot below inner lines)
      → Leads below (reached below true root.other [] aim)
      ((inner root.other.number ++ close_line root.other.number ∷ []) ++ was) reply
      → Leads below (walks below aim dir) (lines ++ was) reply
  in_root dir inner lines was parts inside root next =
      let h = root.other in
      let dup = answered (steps.Dup below.root.handle) (answers.Opened h.number h.node h.kind) in
      let asks = at_question below aim h [] root.others
      ((inner h.number ++ close_line h.number ∷ []) ++ was) reply next in
      subst (λ t. Leads below t (lines ++ was) reply) (sym (no_parts dir parts inside))
      (subst (λ ls. Leads below (more (walking (duping []) aim)) (ls ++ was) reply) (sym root.all)
      (record { told = dup ∷ asks.told; leads = (refl, asks.leads); are = (as_it_was refl, asks.are) }))

  -- ---- one of its names is missing

  -- what leads a resolve's walk to a fault leads any other there
  fails_alike : (room : Bool) (turn : Turn) (lines : List Line) (error : Errno)
      → LeadsTo below (walked below room (Opens (goal_of aim)) turn) lines (ends (fault error))
      → LeadsTo below (walked below room aim turn) lines (gives_up (held_by aim) error)
  fails_alike room (walk.more w) [] error leads = cc (leads)
  fails_alike room (walk.more w) (answered step answer ∷ lines) error leads =
      (leads.0, fails_alike true (walk.take (way_of below aim) true w answer) lines error leads.1)
  fails_alike room (walk.more w) (no_room step answer ∷ lines) error leads =
      (leads.0, fails_alike false (walk.take (way_of below aim) false w answer) lines error leads.1)
  fails_alike room (walk.more w) (not_made why ∷ lines) error leads =
      (leads.0, fails_alike true (walk.take (way_of below aim) true w (answer_of (not_made why))) lines error leads.1)
  fails_alike room (walk.found handle names) [] error leads = cc (leads)
  fails_alike room (walk.found handle names) (line ∷ lines) error leads = absurd leads
  fails_alike room (walk.partial handle names rest) [] error leads = cc (leads)
  fails_alike room (walk.partial handle names rest) (line ∷ []) error leads =
      let same : NotFound ≡ error = cc (leads.1) in
      (leads.0, ap (gives_up (held_by aim)) same)
  fails_alike room (walk.partial handle names rest) (line ∷ next ∷ lines) error leads = absurd leads.1
  fails_alike room (walk.failed why) [] error leads =
      let same : why ≡ error = cc (leads) in
      ap (gives_up (held_by aim)) same
  fails_alike room (walk.failed why) (line ∷ lines) error leads = absurd leads

  -- the walk is that of these parts
  same_walk : (path other : Reading) → path.absolute ≡ other.absolute → path.parts ≡ other.parts
      → walks below aim path ≡ walks below aim other
  same_walk path other absolute parts =
      let way = way_of below aim in
      ap (λ t. walked below true aim (if leads_out t below.flags then walk.failed CrossRoot
      else walk.goes_on way walk.root_itself (walk.todo [] (asked (follows way.goal) path.parts) LINKS_MAX))) absolute
      ∙ ap (λ (ps : List Part). walked below true aim (if leads_out other.absolute below.flags then walk.failed CrossRoot
      else walk.goes_on way walk.root_itself (walk.todo [] (asked (follows way.goal) ps) LINKS_MAX))) parts

  pub not_there : FailsAtOnceTell → (c : CallInHistory) (path place : List ℕ) (split : Split)
      (own was : List Line) → IsDirectoryText path split → has_final_slash path ≡ false → Misses below place own
      → misses_at_once below.flags.beneath path place ≡ true → Leads below (gives_up (held_by aim) NotFound) was reply
      → Leads below (walks below aim split.dir) (own ++ was) reply
  not_there tell c path place split own was same bare m at_once next =
      let dir = reading_of path in
      let looks = record c { below = below; op = Resolve path; lines = own; room = true } in
      let led = (tell looks Follow path place m.passed m.name m.rest (refl, refl) at_once m.names refl m.all).0 in
      let walked_on = subst (λ (why : Option Errno). LeadsTo below (unless_fault why (walks below (Opens Follow) dir)) own
      (ends (fault NotFound))) same.is_path led in
      let parts = ap (λ b. if b then before_last dir.parts else dir.parts) (sym bare) ∙ same.parts in
      onward below (walks below aim split.dir) (gives_up (held_by aim) NotFound) own was reply
      (subst (λ t. LeadsTo below t own (gives_up (held_by aim) NotFound))
      (same_walk dir split.dir same.absolute parts)
      (fails_alike true (walk.begins (way_of below aim) dir) own NotFound
      (subst (λ g. LeadsTo below (walks below (Opens g) dir) own (ends (fault NotFound))) (sym follow) walked_on)))
      next
