-- A call's lines are its walk's and then those of clearing.
use Rattle.std.specs.Prelude.{◌≡◌, ℕ, List, [], ◌∷◌, ◌++◌, true, false, refl}
use Rattle.std.proofs.Common.{sym, ap, subst, append-nil, ◌∙◌}
use Rattle.path_text.specs.declared.errno.Errno.{Errno}
use Rattle.tree_model.specs.declared.answer.Answer.{Answer}
use Rattle.tree_model.specs.declared.answer.Answer.TheVariants.{Refused}
use Rattle.step_machine.specs.Machine.{HasEnded}
use Rattle.step_machine.proofs.Split.{ended_at, runs_split}
use Rattle.step_resolver.proofs.TurnsTell.{is_machine}
use Rattle.bulk_ops.proofs.Within.{walk_of_removing}
use Rattle.step_resolver.specs.Asked.{AskedPart}
use Rattle.step_resolver.specs.Order.{Way, Handle, Walking, opening, reading, rising, judging, duping, ending, closing, Line, answered, no_room, not_made}
use Rattle.step_resolver.specs.Order as walk
use Rattle.bulk_ops.specs.RemoveAllOrder.{Removing, walking, Turn, more, removed, failed, walked, under_way, calls, LeadsTo}
use Rattle.bulk_ops.specs.RemoveAllTells.{removals, one_more_if, is_removal}

-- where a walk's lines end
pub record Cut (way : Way) (target : List ℕ) (first : walk.Turn) (lines : List Line) (end : Turn) (found : walk.Turn) : Type 0 where
  pub walk_lines : List Line
  pub rest : List Line
  pub all : lines ≡ walk_lines ++ rest
  pub walks : walk.LeadsTo way first walk_lines found
  pub leads : LeadsTo (walked way target found) rest end

pub data WalkEnd (way : Way) (target : List ℕ) (first : walk.Turn) (lines : List Line) (end : Turn) : Type 0 where
  goes_on : (call : Removing) → end ≡ more call → WalkEnd way target first lines end
  walk_fails : (error : Errno) → walk.LeadsTo way first lines (walk.failed error) → end ≡ failed error → WalkEnd way target first lines end
  walk_finds : (handle : Handle) (names : List (List ℕ)) → Cut way target first lines end (walk.found handle names) → WalkEnd way target first lines end
  walk_stops : (handle : Handle) (names : List (List ℕ)) (parts : List AskedPart) → Cut way target first lines end (walk.partial handle names parts)
      → WalkEnd way target first lines end

module _ (way : Way) (target : List ℕ) where
  by_end : (first : walk.Turn) (ls rest lines : List Line) (at : walk.Turn) (end : Turn) → HasEnded (walk.under_way at) → lines ≡ ls ++ rest → walk.LeadsTo way first ls at
      → LeadsTo (walked way target at) rest end → WalkEnd way target first lines end
  by_end first ls rest lines (walk.more w) end over all walks leads = absurd over
  by_end first ls rest lines (walk.found handle names) end over all walks leads = walk_finds handle names (record { walk_lines = ls; rest = rest; all = all; walks = walks; leads = leads })
  by_end first ls rest lines (walk.partial handle names parts) end over all walks leads =
      walk_stops handle names parts (record { walk_lines = ls; rest = rest; all = all; walks = walks; leads = leads })
  by_end first ls rest lines (walk.failed error) end over all walks leads =
      let last = ended_at calls (failed error) rest end tt leads in
      walk_fails error (subst (λ (l : List Line). walk.LeadsTo way first l (walk.failed error)) (sym (all ∙ ap (λ (l : List Line). ls ++ l) last.1 ∙ append-nil ls)) walks) (sym last.0)

  ended : (lines : List Line) (first : walk.Turn) (end : Turn) → HasEnded (under_way end) → LeadsTo (walked way target first) lines end → WalkEnd way target first lines end
  ended lines first end over leads =
      let split = runs_split (walk.walks way) calls (λ room. walked way target) (walking way target) (is_machine way) (walk_of_removing way target) true first lines end over leads in
      by_end first split.first split.rest lines split.at end split.over split.joined split.led split.onward

  pub walk_end : (lines : List Line) (first : walk.Turn) (end : Turn) → LeadsTo (walked way target first) lines end → WalkEnd way target first lines end
  walk_end lines first (more call) leads = goes_on call refl
  walk_end lines first (removed count) leads = ended lines first (removed count) tt leads
  walk_end lines first (failed error) leads = ended lines first (failed error) tt leads

  -- no step of a walk takes an entry away
  none_removed : (w : Walking) (answer : Answer) → is_removal (walk.due way w) answer ≡ false
  none_removed (opening position own follow n rest) answer = refl
  none_removed (reading position link rest) answer = refl
  none_removed (rising handle names rest) answer = refl
  none_removed (judging handle names rest) answer = refl
  none_removed (duping rest) answer = refl
  none_removed (ending handle names rest) answer = refl
  none_removed (closing h hs after) answer = refl

  pub walk_removes_none : (lines rest : List Line) (first turn : walk.Turn) → walk.LeadsTo way first lines turn → removals (lines ++ rest) ≡ removals rest
  walk_removes_none [] rest first turn leads = refl
  walk_removes_none (answered step answer ∷ lines) rest (walk.more w) turn leads =
      ap (λ b. one_more_if b (removals (lines ++ rest))) (ap (λ s. is_removal s answer) leads.0 ∙ none_removed w answer)
      ∙ walk_removes_none lines rest (walk.take way true w answer) turn leads.1
  walk_removes_none (no_room step answer ∷ lines) rest (walk.more w) turn leads =
      ap (λ b. one_more_if b (removals (lines ++ rest))) (ap (λ s. is_removal s answer) leads.0 ∙ none_removed w answer)
      ∙ walk_removes_none lines rest (walk.take way false w answer) turn leads.1
  walk_removes_none (not_made error ∷ lines) rest (walk.more w) turn leads = walk_removes_none lines rest (walk.take way true w (Refused error)) turn leads.1
  walk_removes_none (line ∷ lines) rest (walk.found handle names) turn leads = absurd leads
  walk_removes_none (line ∷ lines) rest (walk.partial handle names parts) turn leads = absurd leads
  walk_removes_none (line ∷ lines) rest (walk.failed error) turn leads = absurd leads
