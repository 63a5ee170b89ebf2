-- A walk within a call: its lines as it was told them and as the history has them, and those that lead on from its end.
use Rattle.std.specs.Prelude.{◌≡◌, ◌⊎◌, ℕ, List, [], ◌∷◌, ◌++◌, reverse, Bool, true, false, if◌then◌else◌, Some, refl}
use Rattle.std.proofs.Common.{inl, inr, sym, ap, ◌∙◌, subst}
use Rattle.path_text.specs.declared.errno.Errno.{Errno}
use Rattle.path_text.specs.declared.errno.Errno.TheVariants.{Raced}
use Rattle.tree_model.specs.declared.answer.Answer.TheVariants.{Names}
use Rattle.tree_model.specs.StepWith.{StepWith}
use Rattle.tree_model.specs.declared.step.StepOf.TheVariants.{NameBelow}
use Rattle.handles.proofs.SameNames.{same_where_equal}
use Rattle.step_machine.specs.Machine.{HasEnded, Fits, taken}
use Rattle.step_machine.proofs.Split.{RanShort}
use Rattle.step_resolver.specs.Order.{Way, Handle, Walking, opening, reading, rising, judging, duping, ending, closing, Line, answered, no_room, not_made, has_room, answer_of}
use Rattle.step_resolver.specs.Order as walk
use Rattle.bulk_ops.specs.MakeAllOrder as make
use Rattle.bulk_ops.specs.RemoveAllOrder as remove
use Rattle.root_ops.specs.declared.aim.Aim.{Aim}
use Rattle.root_ops.specs.declared.below.Below.{Below}
use Rattle.root_ops.specs.Order.{Doing, walking, making, removing, CallTurn, more, calls, due, under_way, IsUnmade, walked, way_of, make_way, makes, removing_turn, LeadsTo}
use Rattle.kernel_walks.specs.Told.{passed_in, passed_by, IsTold, as_it_was, as_passed, AreTold}
use Rattle.kernel_walks.proofs.SeenBelow.{asks}

-- a walk's turns are turns of the call, and its steps, wants and questions are the call's
pub record IsWalkOf (below : Below) (way : Way) (stands : Bool → walk.Turn → CallTurn) (within : Walking → Doing) : Type 0 where
  pub goes_on : (room : Bool) (w : Walking) → stands room (walk.more w) ≡ more (within w)
  pub same_step : (w : Walking) → due below (within w) ≡ walk.due way w
  pub same_wants : (w : Walking) (error : Errno) → IsUnmade below (within w) error → walk.IsUnmade (walk.due way w) error
  pub same_turn : (w : Walking) (line : Line) → taken (calls below) (within w) line ≡ stands (has_room line) (walk.take way (has_room line) w (answer_of line))
  pub same_names : (w : Walking) → passed_by (within w) ≡ passed_in w

-- the history has the walk's lines, or it has other names as the answer to the last of them
pub data How (way : Way) (turn at : walk.Turn) (room : Bool) (first was : List Line) : Type 0 where
  by_steps : first ≡ was → How way turn at room first was
  by_kernel : (front : List Line) (handle : Handle) (names others : List (List ℕ)) → at ≡ walk.found handle names
      → walk.LeadsTo way turn front (walk.more (ending handle names [])) → first ≡ front ++ asks way handle (reverse names) ∷ []
      → was ≡ front ++ asks way handle others ∷ [] → room ≡ true → How way turn at room first was

-- at its end a walk asks about what it holds
ending_there : (w : Walking) (names : List (List ℕ)) → passed_in w ≡ Some names → (handle : Handle) × (w ≡ ending handle names [])
ending_there (ending handle passed []) names e = let same : passed ≡ names = cc (e) in (handle, ap (λ ns. ending handle ns []) same)
ending_there (ending handle passed (p ∷ rest)) names e = cc (e)
ending_there (opening position own follow n rest) names e = cc (e)
ending_there (reading position link rest) names e = cc (e)
ending_there (rising handle passed rest) names e = cc (e)
ending_there (judging handle passed rest) names e = cc (e)
ending_there (duping rest) names e = cc (e)
ending_there (closing h hs after) names e = cc (e)

-- told the names passed, it is over
pub judged_found : (way : Way) (handle : Handle) (names : List (List ℕ)) → walk.take way true (ending handle names []) (Names (reverse names)) ≡ walk.found handle names
judged_found way handle names =
    ap (λ b. if b then walk.found handle names else walk.gives_up (handle.number ∷ []) Raced) (same_where_equal (reverse names) (reverse names) refl)

module _ (below : Below) (way : Way) (stands : Bool → walk.Turn → CallTurn) (within : Walking → Doing) (is : IsWalkOf below way stands within) where
  pub record Parts (room : Bool) (turn : walk.Turn) (told was : List Line) (end : CallTurn) : Type 0 where
    pub first : List Line
    pub first_was : List Line
    pub rest : List Line
    pub rest_was : List Line
    pub whole : told ≡ first ++ rest
    pub whole_was : was ≡ first_was ++ rest_was
    pub at : walk.Turn
    pub over : HasEnded (walk.under_way at)
    pub led : walk.LeadsTo way turn first at
    pub room_there : Bool
    pub how : How way turn at room_there first first_was
    pub short : room_there ≡ false → (room ≡ false) ⊎ RanShort first
    pub onward : LeadsTo below (stands room_there at) rest end
    pub are : AreTold below (stands room_there at) rest rest_was

  at_once : (room : Bool) (turn : walk.Turn) (told was : List Line) (end : CallTurn) → HasEnded (walk.under_way turn) → LeadsTo below (stands room turn) told end
      → AreTold below (stands room turn) told was → Parts room turn told was end
  at_once room turn told was end over leads are = record {
    first = [];
    first_was = [];
    rest = told;
    rest_was = was;
    whole = refl;
    whole_was = refl;
    at = turn;
    over = over;
    led = refl;
    room_there = room;
    how = by_steps refl;
    short = λ e. inl e;
    onward = leads;
    are = are;
  }

  fits_walk : (w : Walking) (line : Line) → Fits (calls below) (within w) line → Fits (walk.walks way) w line
  fits_walk w (answered step answer) fits = fits ∙ is.same_step w
  fits_walk w (no_room step answer) fits = fits ∙ is.same_step w
  fits_walk w (not_made error) fits = is.same_wants w error fits

  how_later : (w : Walking) (line : Line) (at : walk.Turn) (room : Bool) (first was : List Line) → Fits (walk.walks way) w line
      → How way (taken (walk.walks way) w line) at room first was → How way (walk.more w) at room (line ∷ first) (line ∷ was)
  how_later w line at room first was fits (by_steps e) = by_steps (ap (λ ls. line ∷ ls) e)
  how_later w line at room first was fits (by_kernel front handle names others e led told_so was_so with_room) =
      by_kernel (line ∷ front) handle names others e (fits, led) (ap (λ ls. line ∷ ls) told_so) (ap (λ ls. line ∷ ls) was_so) with_room

  one_more : (room : Bool) (w : Walking) (line : Line) (told was : List Line) (end : CallTurn) → Fits (walk.walks way) w line
      → Parts (has_room line) (taken (walk.walks way) w line) told was end → Parts room (walk.more w) (line ∷ told) (line ∷ was) end
  one_more room w line told was end fits later = record {
    first = line ∷ later.first;
    first_was = line ∷ later.first_was;
    rest = later.rest;
    rest_was = later.rest_was;
    whole = ap (λ ls. line ∷ ls) later.whole;
    whole_was = ap (λ ls. line ∷ ls) later.whole_was;
    at = later.at;
    over = later.over;
    led = (fits, later.led);
    room_there = later.room_there;
    how = how_later w line later.at later.room_there later.first later.first_was fits later.how;
    short = λ e. inr (later.short e);
    onward = later.onward;
    are = later.are;
  }

  -- the last question, where the history has others' names
  asked_last : (room : Bool) (w : Walking) (handle : Handle) (names others : List (List ℕ)) (step : StepWith ℕ) (told was : List Line) (end : CallTurn)
      → w ≡ ending handle names [] → step ≡ walk.due way w → LeadsTo below (stands true (walk.take way true w (Names (reverse names)))) told end
      → AreTold below (stands true (walk.take way true w (Names (reverse names)))) told was
      → Parts room (walk.more w) (answered step (Names (reverse names)) ∷ told) (answered step (Names others) ∷ was) end
  asked_last room w handle names others step told was end at_end same leads are =
      let taken_there : walk.take way true w (Names (reverse names)) ≡ walk.found handle names
      = ap (λ v. walk.take way true v (Names (reverse names))) at_end ∙ judged_found way handle names in
      let asked_so : step ≡ NameBelow way.root handle.number = same ∙ ap (walk.due way) at_end in
      record {
        first = answered step (Names (reverse names)) ∷ [];
        first_was = answered step (Names others) ∷ [];
        rest = told;
        rest_was = was;
        whole = refl;
        whole_was = refl;
        at = walk.found handle names;
        over = tt;
        led = (same, taken_there);
        room_there = true;
        how = by_kernel [] handle names others refl (ap walk.more at_end) (ap (λ s. answered s (Names (reverse names)) ∷ []) asked_so)
            (ap (λ s. answered s (Names others) ∷ []) asked_so) refl;
        short = λ e. cc (e);
        onward = subst (λ t. LeadsTo below (stands true t) told end) taken_there leads;
        are = subst (λ t. AreTold below (stands true t) told was) taken_there are;
      }

  abbrev Onward : Walking → List Line → List Line → CallTurn → Line → Type 0
  Onward w told was end line = LeadsTo below (taken (calls below) (within w) line) told end × AreTold below (taken (calls below) (within w) line) told was

  asked_so : (room : Bool) (w : Walking) (line other : Line) (told was : List Line) (end : CallTurn) (step : StepWith ℕ) (names others : List (List ℕ))
      → passed_in w ≡ Some names → line ≡ answered step (Names (reverse names)) → other ≡ answered step (Names others) → Fits (walk.walks way) w line
      → Onward w told was end line → Parts room (walk.more w) (line ∷ told) (other ∷ was) end
  asked_so room w line other told was end step names others passed told_so was_so fits onward =
      let there = ending_there w names passed in
      let on = subst (Onward w told was end) told_so onward in
      subst (λ l. Parts room (walk.more w) (l ∷ told) (other ∷ was) end) (sym told_so)
      (subst (λ l. Parts room (walk.more w) (answered step (Names (reverse names)) ∷ told) (l ∷ was) end) (sym was_so)
      (asked_last room w there.0 names others step told was end there.1 (subst (Fits (walk.walks way) w) told_so fits)
      (subst (λ t. LeadsTo below t told end) (is.same_turn w (answered step (Names (reverse names)))) on.0)
      (subst (λ t. AreTold below t told was) (is.same_turn w (answered step (Names (reverse names)))) on.1)))

  pub parts_of : (room : Bool) (turn : walk.Turn) (told was : List Line) (end : CallTurn) → HasEnded (under_way end) → LeadsTo below (stands room turn) told end
      → AreTold below (stands room turn) told was → Parts room turn told was end
  parts_of room (walk.found handle names) told was end over leads are = at_once room (walk.found handle names) told was end tt leads are
  parts_of room (walk.partial handle names rest) told was end over leads are = at_once room (walk.partial handle names rest) told was end tt leads are
  parts_of room (walk.failed error) told was end over leads are = at_once room (walk.failed error) told was end tt leads are
  parts_of room (walk.more w) [] was end over leads are =
      absurd (subst (λ t. HasEnded (under_way t)) (sym leads ∙ is.goes_on room w) over)
  parts_of room (walk.more w) (line ∷ told) [] end over leads are = absurd (subst (λ t. AreTold below t (line ∷ told) []) (is.goes_on room w) are)
  parts_of room (walk.more w) (line ∷ told) (other ∷ was) end over leads are =
      by_line (λ room' turn led told_so. parts_of room' turn told was end over led told_so)
      (subst (λ t. LeadsTo below t (line ∷ told) end) (is.goes_on room w) leads) (subst (λ t. AreTold below t (line ∷ told) (other ∷ was)) (is.goes_on room w) are)
    where
      by_told : ((room' : Bool) (turn : walk.Turn) → LeadsTo below (stands room' turn) told end → AreTold below (stands room' turn) told was → Parts room' turn told was end)
          → Fits (walk.walks way) w line → Onward w told was end line → IsTold (passed_by (within w)) line other → Parts room (walk.more w) (line ∷ told) (other ∷ was) end
      by_told later fits onward (as_it_was e) =
          subst (λ l. Parts room (walk.more w) (line ∷ told) (l ∷ was) end) e
          (one_more room w line told was end fits
          (later (has_room line) (taken (walk.walks way) w line) (subst (λ t. LeadsTo below t told end) (is.same_turn w line) onward.0)
          (subst (λ t. AreTold below t told was) (is.same_turn w line) onward.1)))
      by_told later fits onward (as_passed step names others passed told_so was_so) =
          asked_so room w line other told was end step names others (sym (is.same_names w) ∙ passed) told_so was_so fits onward

      by_line : ((room' : Bool) (turn : walk.Turn) → LeadsTo below (stands room' turn) told end → AreTold below (stands room' turn) told was → Parts room' turn told was end)
          → LeadsTo below (more (within w)) (line ∷ told) end → AreTold below (more (within w)) (line ∷ told) (other ∷ was)
          → Parts room (walk.more w) (line ∷ told) (other ∷ was) end
      by_line later leads are = by_told later (fits_walk w line leads.0) (leads.1, are.1) are.0

-- ---- the walks of calls

pub aimed_walk : (below : Below) (aim : Aim) → IsWalkOf below (way_of below aim) (λ room. walked below room aim) (λ w. walking w aim)
aimed_walk below aim = record {
  goes_on = λ room w. refl;
  same_step = λ w. refl;
  same_wants = λ w error want. want;
  same_turn = λ w line. refl;
  same_names = λ w. refl;
}

pub making_walk : (below : Below) → IsWalkOf below (make_way below) (λ room turn. makes (make.after_walk room turn)) (λ w. making (make.walking w))
making_walk below = record {
  goes_on = λ room w. refl;
  same_step = λ w. refl;
  same_wants = λ w error want. want;
  same_turn = λ w line. refl;
  same_names = λ w. refl;
}

pub removing_walk : (below : Below) (way : Way) (target : List ℕ)
    → IsWalkOf below way (λ room turn. removing_turn (remove.walked way target turn)) (λ w. removing (remove.walking way target w))
removing_walk below way target = record {
  goes_on = λ room w. refl;
  same_step = λ w. refl;
  same_wants = λ w error want. want;
  same_turn = λ w line. refl;
  same_names = λ w. refl;
}
