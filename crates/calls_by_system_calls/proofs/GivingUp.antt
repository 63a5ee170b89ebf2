-- A call that is being given up for want of memory closes what it holds, whatever it is answered, and fails.
use Rattle.std.specs.Prelude.{◌≡◌, ℕ, List, [], ◌∷◌, Bool, true, false, refl}
use Rattle.std.proofs.Common.{ap, subst, sym, true≢false}
use Rattle.path_text.specs.declared.errno.Errno.TheVariants.{NoMemory}
use Rattle.tree_model.specs.declared.answer.Answer.{Answer}
use Rattle.tree_model.specs.declared.answer.Answer.TheVariants.{Refused}
use Rattle.step_resolver.specs.Order.{Way, Walking, Todo, todo, is_close}
use Rattle.step_resolver.specs.Order as walk
use Rattle.bulk_ops.specs.MakeAllOrder as make
use Rattle.bulk_ops.specs.RemoveAllOrder as remove
use Rattle.root_ops.specs.declared.aim.Aim.{Aim}
use Rattle.root_ops.specs.declared.aim.Wanted.{Wanted}
use Rattle.root_ops.specs.declared.aim.Wanted.TheVariants as wants
use Rattle.root_ops.specs.declared.below.Below.{Below}
use Rattle.root_ops.specs.Order.{Doing, CallTurn, held_by, way_of, make_way, due, take, fault, gives}
use Rattle.root_ops.specs.Order as call
use Rattle.root_ops.proofs.Refusals.{refusal_needs_no_room}

-- The turn is one of such a call: its end, or a Close, in each kind of call.
abbrev pub GivesUp : CallTurn → Type 0
GivesUp (call.ends reply) = reply ≡ fault NoMemory
GivesUp (call.more (call.closing h hs after)) = after ≡ gives (fault NoMemory)
GivesUp (call.more (call.walking (walk.closing h hs after) aim)) = after ≡ walk.gives NoMemory
GivesUp (call.more (call.making (make.closing h hs error))) = error ≡ NoMemory
GivesUp (call.more (call.making (make.walking (walk.closing h hs after)))) = after ≡ walk.gives NoMemory
GivesUp (call.more (call.removing (remove.closing h hs end))) = end ≡ remove.fails NoMemory
GivesUp (call.more (call.removing (remove.walking way target (walk.closing h hs after)))) = after ≡ walk.gives NoMemory
GivesUp turn = ⊥

-- ---- closings

closing_all : (hs : List ℕ) → GivesUp (call.gives_up hs NoMemory)
closing_all [] = refl
closing_all (h ∷ hs) = refl

-- those of a walk, in each kind of call
in_a_walk : (below : Below) (room : Bool) (aim : Aim) (hs : List ℕ) → GivesUp (call.walked below room aim (walk.gives_up hs NoMemory))
in_a_walk below room aim [] = closing_all (held_by aim)
in_a_walk below room aim (h ∷ hs) = refl

to_make : (room : Bool) (hs : List ℕ) → GivesUp (call.makes (make.after_walk room (walk.gives_up hs NoMemory)))
to_make room [] = refl
to_make room (h ∷ hs) = refl

to_remove : (way : Way) (target : List ℕ) (hs : List ℕ) → GivesUp (call.removing_turn (remove.walked way target (walk.gives_up hs NoMemory)))
to_remove way target [] = refl
to_remove way target (h ∷ hs) = refl

making_all : (hs : List ℕ) → GivesUp (call.makes (make.gives_up hs NoMemory))
making_all [] = refl
making_all (h ∷ hs) = refl

removing_all : (hs : List ℕ) → GivesUp (call.removing_turn (remove.closes hs (remove.fails NoMemory)))
removing_all [] = refl
removing_all (h ∷ hs) = refl

walk_closing : (way : Way) (hs : List ℕ) (after : walk.After) → after ≡ walk.gives NoMemory
    → walk.gives_up hs NoMemory ≡ walk.closes way hs after
walk_closing way [] after is = ap (walk.closes way []) (sym is)
walk_closing way (h ∷ hs) after is = ap (walk.closes way (h ∷ hs)) (sym is)

-- ---- whatever a Close is answered

module _ (below : Below) (room : Bool) (answer : Answer) where
  -- what it makes of such a call
  pub goes_on : (doing : Doing) → GivesUp (call.more doing) → GivesUp (take below room doing answer)
  goes_on (call.closing h hs after) up = subst (λ a. GivesUp (call.closes hs a)) (sym up) (closing_all hs)
  goes_on (call.walking (walk.closing h hs after) aim) up =
      subst (λ t. GivesUp (call.walked below room aim t)) (walk_closing (way_of below aim) hs after up)
      (in_a_walk below room aim hs)
  goes_on (call.making (make.closing h hs error)) up =
      subst (λ e. GivesUp (call.makes (make.gives_up hs e))) (sym up) (making_all hs)
  goes_on (call.making (make.walking (walk.closing h hs after))) up =
      subst (λ t. GivesUp (call.makes (make.after_walk room t))) (walk_closing (make_way below) hs after up) (to_make room hs)
  goes_on (call.removing (remove.closing h hs end)) up =
      subst (λ e. GivesUp (call.removing_turn (remove.closes hs e))) (sym up) (removing_all hs)
  goes_on (call.removing (remove.walking way target (walk.closing h hs after))) up =
      subst (λ t. GivesUp (call.removing_turn (remove.walked way target t))) (walk_closing way hs after up)
      (to_remove way target hs)
  goes_on doing up = absurd up

-- a Close is due
pub is_due : (below : Below) (doing : Doing) → GivesUp (call.more doing) → is_close (due below doing) ≡ true
is_due below (call.closing h hs after) up = refl
is_due below (call.walking (walk.closing h hs after) aim) up = refl
is_due below (call.making (make.closing h hs error)) up = refl
is_due below (call.making (make.walking (walk.closing h hs after))) up = refl
is_due below (call.removing (remove.closing h hs end)) up = refl
is_due below (call.removing (remove.walking way target (walk.closing h hs after))) up = refl
is_due below doing up = absurd up

-- ---- a step that wasn't made

-- a walk is given up by it
record IsGivenUp (turn : walk.Turn) : Type 0 where
  held : List ℕ
  is : walk.gives_up held NoMemory ≡ turn

look_up_fails : (way : Way) (position : walk.Position) (own follow : Bool) (n : List ℕ) (rest : Todo)
    → IsGivenUp (walk.refused_open way position own follow n rest NoMemory)
look_up_fails way position own follow n (todo inner rest b) = record { held = walk.handles_of position; is = refl }

a_walk : (way : Way) (w : Walking) → is_close (walk.due way w) ≡ false → IsGivenUp (walk.take way true w (Refused NoMemory))
a_walk way (walk.opening position own follow n rest) stays = look_up_fails way position own follow n rest
a_walk way (walk.reading position link rest) stays = record { held = link.number ∷ walk.handles_of position; is = refl }
a_walk way (walk.rising old names rest) stays = record { held = old.number ∷ []; is = refl }
a_walk way (walk.judging new names rest) stays = record { held = new.number ∷ []; is = refl }
a_walk way (walk.duping rest) stays = record { held = []; is = refl }
a_walk way (walk.ending handle names rest) stays = record { held = handle.number ∷ []; is = refl }
a_walk way (walk.closing h hs after) stays = absurd (true≢false stays)

walk_given_up : (below : Below) (aim : Aim) (turn : walk.Turn) → IsGivenUp turn → GivesUp (call.walked below true aim turn)
walk_given_up below aim turn up = subst (λ t. GivesUp (call.walked below true aim t)) up.is (in_a_walk below true aim up.held)

make_given_up : (turn : walk.Turn) → IsGivenUp turn → GivesUp (call.makes (make.after_walk true turn))
make_given_up turn up = subst (λ t. GivesUp (call.makes (make.after_walk true t))) up.is (to_make true up.held)

remove_given_up : (way : Way) (target : List ℕ) (turn : walk.Turn) → IsGivenUp turn → GivesUp (call.removing_turn (remove.walked way target turn))
remove_given_up way target turn up = subst (λ t. GivesUp (call.removing_turn (remove.walked way target t))) up.is (to_remove way target up.held)

a_make : (below : Below) (m : make.Making) → is_close (make.due (make_way below) m) ≡ false
    → GivesUp (call.makes (make.take (make_way below) true m (Refused NoMemory)))
a_make below (make.walking w) stays = make_given_up (walk.take (make_way below) true w (Refused NoMemory)) (a_walk (make_way below) w stays)
a_make below (make.making held names n left) stays = making_all (held.number ∷ [])
a_make below (make.opening held names n left) stays = making_all (held.number ∷ [])
a_make below (make.leaving old new names left) stays = absurd (true≢false stays)
a_make below (make.ending held names) stays = making_all (held.number ∷ [])
a_make below (make.closing h hs error) stays = absurd (true≢false stays)

a_removal : (r : remove.Removing) → is_close (remove.due r) ≡ false → GivesUp (call.removing_turn (remove.take true r (Refused NoMemory)))
a_removal (remove.walking way target w) stays = remove_given_up way target (walk.take way true w (Refused NoMemory)) (a_walk way w stays)
a_removal (remove.clearing remove.removes_file level above count left) stays = removing_all (remove.dirs (level ∷ above))
a_removal (remove.clearing remove.opens level above count left) stays = removing_all (remove.dirs (level ∷ above))
a_removal (remove.clearing (remove.lists h) level above count left) stays = removing_all (h ∷ remove.dirs (level ∷ above))
a_removal (remove.clearing (remove.shuts h) level above count left) stays = absurd (true≢false stays)
a_removal (remove.clearing (remove.leaves h) level above count left) stays = absurd (true≢false stays)
a_removal (remove.clearing remove.removes_dir level above count left) stays = removing_all (remove.dirs (level ∷ above))
a_removal (remove.closing h hs end) stays = absurd (true≢false stays)

acted : (wanted : Wanted) (hs : List ℕ) → GivesUp (call.closes hs (gives (call.reply_to wanted (Refused NoMemory))))
acted wants.Done hs = closing_all hs
acted wants.Text hs = closing_all hs
acted wants.Any hs = closing_all hs

with_room : (below : Below) (doing : Doing) → is_close (due below doing) ≡ false → GivesUp (take below true doing (Refused NoMemory))
with_room below (call.walking w aim) stays =
    walk_given_up below aim (walk.take (way_of below aim) true w (Refused NoMemory)) (a_walk (way_of below aim) w stays)
with_room below (call.acting wanted step hs) stays = acted wanted hs
with_room below (call.checking old new renaming) stays = closing_all (new ∷ old ∷ [])
with_room below (call.closing h hs after) stays = absurd (true≢false stays)
with_room below (call.making m) stays = a_make below m stays
with_room below (call.removing r) stays = a_removal r stays
with_room below (call.releasing h) stays = absurd (true≢false stays)

pub given_up : (below : Below) (room : Bool) (doing : Doing) → is_close (due below doing) ≡ false → GivesUp (take below room doing (Refused NoMemory))
given_up below room doing stays = subst GivesUp (sym (refusal_needs_no_room below room doing NoMemory)) (with_room below doing stays)
