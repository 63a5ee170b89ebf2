-- A machine that runs within another: its lines, and those that lead on from where it came to.
use Rattle.std.specs.Prelude.{◌≡◌, ◌⊎◌, List, [], ◌∷◌, ◌++◌, Bool, false, Option, Some, None, refl}
use Rattle.std.proofs.Common.{inl, inr, sym, subst, ap, ◌∙◌, append-nil}
use Rattle.step_machine.specs.Told.{Line, answered, no_room, not_made, has_room, answer_of}
use Rattle.step_machine.specs.Machine.{Machine, Fits, taken, Then, LeadsTo, HasEnded}
use Rattle.step_machine.proofs.Machines.{IsMachine, IsWithin}

-- what one of the lines brought found none
abbrev pub RanShort : List Line → Type 0
RanShort [] = ⊥
RanShort (line ∷ lines) = (has_room line ≡ false) ⊎ RanShort lines

-- no lines lead on from an end
pub ended_at : {T S : Type 0} (m : Machine T S) (turn : T) (lines : List Line) (end : T) → HasEnded (m.under_way turn) → LeadsTo m turn lines end
    → (turn ≡ end) × (lines ≡ [])
ended_at m turn [] end over leads = (leads, refl)
ended_at m turn (line ∷ lines) end over leads = on (m.under_way turn) over leads
  where
    on : (s : Option _) → HasEnded s → Then m s line (λ next. LeadsTo m next lines end) → (turn ≡ end) × (line ∷ lines ≡ [])
    on None over leads = absurd leads
    on (Some s) over leads = absurd over

module _ {T S U V : Type 0} (inner : Machine T S) (outer : Machine U V) (stands : Bool → T → U) (within : S → V) where
  -- the inner machine came to its end by the first of the lines, and the outer one to this turn by the others
  pub record Split (room : Bool) (turn : T) (lines : List Line) (end : U) : Type 0 where
    pub first : List Line
    pub rest : List Line
    pub joined : lines ≡ first ++ rest
    pub at : T
    pub over : HasEnded (inner.under_way at)
    pub led : LeadsTo inner turn first at
    pub room_there : Bool
    pub short : room_there ≡ false → (room ≡ false) ⊎ RanShort first
    pub onward : LeadsTo outer (stands room_there at) rest end

  at_once : (room : Bool) (turn : T) (lines : List Line) (end : U) → LeadsTo outer (stands room turn) lines end → HasEnded (inner.under_way turn)
      → Split room turn lines end
  at_once room turn lines end leads over = record {
    first = [];
    rest = lines;
    joined = refl;
    at = turn;
    over = over;
    led = refl;
    room_there = room;
    short = λ e. inl e;
    onward = leads;
  }

  fits_within : IsWithin inner outer stands within → (s : S) (line : Line) → Fits outer (within s) line → Fits inner s line
  fits_within is s (answered step answer) fits = fits ∙ is.same_step s
  fits_within is s (no_room step answer) fits = fits ∙ is.same_step s
  fits_within is s (not_made error) fits = is.same_wants s error fits

  one_more : (room : Bool) (turn : T) (s : S) (line : Line) (lines : List Line) (end : U) → inner.under_way turn ≡ Some s → Fits inner s line
      → Split (has_room line) (taken inner s line) lines end → Split room turn (line ∷ lines) end
  one_more room turn s line lines end under fits later = record {
    first = line ∷ later.first;
    rest = later.rest;
    joined = ap (λ (ls : List Line). line ∷ ls) later.joined;
    at = later.at;
    over = later.over;
    led = subst (λ o. Then inner o line (λ next. LeadsTo inner next later.first later.at)) (sym under) (fits, later.led);
    room_there = later.room_there;
    short = λ e. inr (later.short e);
    onward = later.onward;
  }

  pub runs_split : IsMachine inner → IsWithin inner outer stands within → (room : Bool) (turn : T) (lines : List Line) (end : U)
      → HasEnded (outer.under_way end) → LeadsTo outer (stands room turn) lines end → Split room turn lines end
  runs_split machine is room turn [] end over leads = on (inner.under_way turn) refl
    where
      goes_on : (s : S) → inner.under_way turn ≡ Some s → HasEnded (Some (within s))
      goes_on s e = subst HasEnded (ap (λ t. outer.under_way (stands room t)) (machine.else_ends turn s e) ∙ is.goes_on room s)
          (subst (λ t. HasEnded (outer.under_way t)) (sym leads) over)

      on : (o : Option S) → inner.under_way turn ≡ o → Split room turn [] end
      on None e = at_once room turn [] end leads (subst HasEnded (sym e) tt)
      on (Some s) e = absurd (goes_on s e)
  runs_split machine is room turn (line ∷ lines) end over leads =
      on (λ there next onward. runs_split machine is there next lines end over onward) (inner.under_way turn) refl
    where
      on : ((there : Bool) (next : T) → LeadsTo outer (stands there next) lines end → Split there next lines end)
          → (o : Option S) → inner.under_way turn ≡ o → Split room turn (line ∷ lines) end
      on later None e = at_once room turn (line ∷ lines) end leads (subst HasEnded (sym e) tt)
      on later (Some s) e =
          let met = subst (λ o. Then outer o line (λ next. LeadsTo outer next lines end))
          (ap (λ t. outer.under_way (stands room t)) (machine.else_ends turn s e) ∙ is.goes_on room s) leads in
          one_more room turn s line lines end e (fits_within is s line met.0)
          (later (has_room line) (taken inner s line) (subst (λ next. LeadsTo outer next lines end) (is.same_turn (has_room line) s (answer_of line)) met.1))

  -- where each end of the inner machine stands for an end of the outer one, the lines are the inner one's
  pub record Led (turn : T) (lines : List Line) (end : U) : Type 0 where
    pub room_there : Bool
    pub at : T
    pub led : LeadsTo inner turn lines at
    pub is_end : stands room_there at ≡ end

  pub all_led : ((room : Bool) (turn : T) → HasEnded (inner.under_way turn) → HasEnded (outer.under_way (stands room turn)))
      → (room : Bool) (turn : T) (lines : List Line) (end : U) → Split room turn lines end → Led turn lines end
  all_led ends room turn lines end split =
      let last = ended_at outer (stands split.room_there split.at) split.rest end (ends split.room_there split.at split.over) split.onward in
      record {
        room_there = split.room_there;
        at = split.at;
        led = subst (λ (ls : List Line). LeadsTo inner turn ls split.at)
            (sym (split.joined ∙ ap (λ (ls : List Line). split.first ++ ls) last.1 ∙ append-nil split.first)) split.led;
        is_end = last.0;
      }
