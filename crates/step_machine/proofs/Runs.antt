-- Runs of lines, of any machine: they join.
use Rattle.std.specs.Prelude.{◌≡◌, List, [], ◌∷◌, ◌++◌, Bool, true, false, Option, Some, None}
use Rattle.std.proofs.Common.{sym, subst, ap, ◌∙◌}
use Rattle.tree_model.specs.declared.answer.Answer.{Answer}
use Rattle.step_machine.specs.Told.{Line, answered, no_room, not_made}
use Rattle.step_machine.specs.Machine.{Machine, Fits, taken, Then, LeadsTo}
use Rattle.step_machine.proofs.Machines.{IsMachine}
use Rattle.step_machine.specs.Tells.{Histories, IsLineOf, IsTaken, lines_before, EveryCallTells, TellsTaken, TellsBegun}

module _ {T S : Type 0} (m : Machine T S) where
  -- what holds after a line, of the same call under way
  then_goes_on : (s : Option S) (line : Line) (First Next : T → Type 0) → ((turn : T) → First turn → Next turn)
      → Then m s line First → Then m s line Next
  then_goes_on None line First Next onward first = first
  then_goes_on (Some s) line First Next onward first = (first.0, onward _ first.1)

  -- lines that lead on from where others led
  pub leads_on : (lines : List Line) (turn mid : T) (others : List Line) (end : T) → LeadsTo m turn lines mid → LeadsTo m mid others end
      → LeadsTo m turn (lines ++ others) end
  leads_on [] turn mid others end first onward = subst (λ t. LeadsTo m t others end) (sym first) onward
  leads_on (line ∷ lines) turn mid others end first onward =
      then_goes_on (m.under_way turn) line (λ next. LeadsTo m next lines mid) (λ next. LeadsTo m next (lines ++ others) end)
      (λ next first'. leads_on lines next mid others end first' onward) first

  -- the line of an answer leads to the turn that the answer makes of the call
  pub line_leads : IsMachine m → (room : Bool) (s : S) (answer : Answer) (line : Line) → IsLineOf m room s answer line
      → LeadsTo m (m.more s) (line ∷ []) (m.take room s answer)
  line_leads is room s answer line told = subst (λ o. Then m o line (λ next. next ≡ m.take room s answer)) (sym (is.goes_on s)) (leads line told)
    where
      leads : (line : Line) → IsLineOf m room s answer line → Fits m s line × (taken m s line ≡ m.take room s answer)
      leads (answered step told) by = (by.1, ap (λ a. m.take true s a) by.2 ∙ ap (λ r. m.take r s answer) (sym by.0))
      leads (no_room step told) by = (by.1, ap (λ a. m.take false s a) by.2 ∙ ap (λ r. m.take r s answer) (sym by.0))
      leads (not_made error) by = (by.0, is.refusals_need_no_room room s error ∙ ap (λ a. m.take room s a) (sym by.1))

  -- the lines of a call that was led here and then told an answer lead to the turn that the answer makes of it
  pub taken_leads : IsMachine m → (begun : T) (room : Bool) (s : S) (answer : Answer) (lines : List Line) → IsTaken m begun room s answer lines
      → LeadsTo m begun lines (m.take room s answer)
  taken_leads is begun room s answer lines at =
      subst (λ (ls : List Line). LeadsTo m begun ls (m.take room s answer)) (sym at.all)
      (leads_on at.before begun (m.more s) (at.last ∷ []) (m.take room s answer) at.led_here (line_leads is room s answer at.last at.is_last))

  -- so that turns tell what ends do
  pub taken_tells : IsMachine m → (h : Histories T) → EveryCallTells m h → (IsTurn : T → Type 0) (s : S) (answer : Answer) (room : Bool)
      → IsTurn (m.take room s answer) → TellsTaken m h IsTurn s answer
  taken_tells is h every IsTurn s answer room is_turn = record {
    room = room;
    is_turn = is_turn;
    tells = λ w own at. every w (m.take room s answer) own (taken_leads is (h.begun w) room s answer (h.lines w) at);
  }

  pub begun_tells : (h : Histories T) → EveryCallTells m h → (begun : T) (starts : Bool → T) (IsTurn : T → Type 0) (room : Bool) → IsTurn (starts room)
      → LeadsTo m begun (lines_before room (m.under_way begun)) (starts room) → TellsBegun m h begun starts IsTurn
  begun_tells h every begun starts IsTurn room is_turn leads = record {
    room = room;
    is_turn = is_turn;
    tells = λ w own same lines. every w (starts room) own
        (subst (λ (t : T). LeadsTo m t (h.lines w) (starts room)) (sym same)
        (subst (λ (ls : List Line). LeadsTo m begun ls (starts room)) (sym lines) leads));
  }
