-- What comes of a rename: it has two walks, of each of which the kernel may see the object.
use Rattle.std.specs.Prelude.{◌≡◌, ◌⊎◌, ℕ, List, [], ◌∷◌, ◌++◌, reverse, Bool, true, false, if◌then◌else◌, refl}
use Rattle.std.proofs.Common.{sym, ap, subst, ◌∙◌, inl, inr, arith}
use Rattle.std.proofs.lemmas.Bool.{false≢true}
use Rattle.path_text.specs.declared.errno.Errno.{Errno}
use Rattle.path_text.specs.declared.path.Rule.TheVariants.{Drop}
use Rattle.path_text.specs.declared.path.Split.{Split}
use Rattle.tree_model.specs.declared.step.Mode.{Mode}
use Rattle.tree_model.specs.State.{State}
use Rattle.tree_model.specs.Steps.{held}
use Rattle.tree_model.specs.History.{IsLegal, after_events}
use Rattle.tree_model.proofs.HistoryLaws.{IsLegal-back, after_events-append}
use Rattle.walk_plan.specs.declared.goal.Goal.TheVariants.{Follow}
use Rattle.step_machine.specs.Machine.{HasEnded}
use Rattle.step_resolver.specs.Order.{Handle, Line, ending, events_of}
use Rattle.step_resolver.specs.Order as walk
use Rattle.step_resolver.specs.View.{way_from}
use Rattle.step_resolver.specs.WalkHistory.{WalkInHistory, IsWalkInHistory, begin_of, end_of}
use Rattle.step_resolver.proofs.Underway.LegalHistory.{lived}
use Rattle.step_resolver.proofs.Ends.EveryWalk.{tree_laws}
use Rattle.bulk_ops.specs.WalkFirst.{WalkedTo, after_walk, walk_part}
use Rattle.bulk_ops.proofs.WalkParts as steps
use Rattle.root_ops.specs.declared.aim.Aim.TheVariants.{WalksOn, Renames}
use Rattle.root_ops.specs.declared.aim.Renaming.{Renaming}
use Rattle.root_ops.specs.declared.aim.Wanted.TheVariants as wants
use Rattle.root_ops.specs.declared.op.Op.{Op}
use Rattle.root_ops.specs.declared.op.Op.TheVariants.{Rename}
use Rattle.root_ops.specs.Acts.{along, on_path, IsEntry}
use Rattle.root_ops.specs.CallHistory.{CallInHistory, IsCallInHistory, actor_of, HandlesAfter}
use Rattle.root_ops.specs.CallHistory as call
use Rattle.root_ops.specs.Copies.{is_release}
use Rattle.root_ops.specs.Order.{Reply, opened, link_text, done, count, stepped, kept, fault, gives, acting, CallTurn, more, ends, way_of, walking, walked, walked_on, walks, renaming_of, LeadsTo}
use Rattle.root_ops.specs.Order as order
use Rattle.root_ops.proofs.FirstSteps.{lines_few}
use Rattle.root_ops.proofs.Steps.{IsFewer}
use Rattle.root_ops.proofs.Handles.AfterWalks.{IsTailTurn, tail_ends, closes_tail}
use Rattle.root_ops.proofs.Handles.BulkHistory.{is_bulk_of}
use Rattle.root_ops.proofs.Handles.HandlesHeld.{HandlesAre, rename_leaves}
use Rattle.root_ops.proofs.Handles.HandlesHeld as handles
use Rattle.root_ops.proofs.Acts.OwnStep.{all_leave, shut}
use Rattle.root_ops.proofs.Acts.Renames.{RenameEnds, rename_ends}
use Rattle.kernel_walks.specs.SeenTo.{SeenTo, after_seen}
use Rattle.kernel_walks.specs.Tells.{SeesBoth, RenameSees, second_fails, rename_fails, Sees}
use Rattle.kernel_walks.specs.Told.{AreTold}
use Rattle.kernel_walks.proofs.Alone.{AllOwn, own_back}
use Rattle.kernel_walks.proofs.Outcome.{Outcome, all_told, some_seen, same_lines, told_alone, handles_stay, held_then}
use Rattle.kernel_walks.proofs.Parts.{How, by_steps, by_kernel, Parts, parts_of, aimed_walk}
use Rattle.kernel_walks.proofs.Past.{IsPastTurn, past_is_told}
use Rattle.kernel_walks.proofs.SeenBelow.{asks}
use Rattle.kernel_walks.proofs.SeenTo.{seen_by_kernel, seen_by_steps, happens_after, is_held, stays_held, one_more_held, after_is, ends_there}

module _ (c : CallInHistory) (reply : Reply) (is : IsCallInHistory c) (old_text new_text : List ℕ) (mode : Mode) (same : c.op ≡ Rename old_text new_text mode) (from to : Split) (old_entry : IsEntry old_text Drop from) (new_entry : IsEntry new_text Drop to) where
  abbrev a : ℕ
  a = actor_of c

  abbrev old : State
  old = call.begin_of c

  none_held : HandlesAre a old old []
  none_held = record { others = λ k out. refl; fresh = tt }

  unreleased : is_release c.op ≡ false
  unreleased = ap is_release same

  sees_so : RenameSees c old_text new_text mode reply → Sees c c.op reply
  sees_so = subst (λ (op : Op). Sees c op reply) (sym same)

  abbrev ren : Renaming
  ren = renaming_of from to mode

  abbrev first_part : WalkInHistory
  first_part = along c Follow from.dir

  first_is : IsWalkInHistory first_part
  first_is = is_bulk_of c Follow from.dir is

  abbrev RenameSo : Reply → Type 0
  RenameSo r = RenameSees c old_text new_text mode r

  renames_past : (d e : ℕ) → IsPastTurn (order.renames d e ren)
  renames_past d e = on ren.slash
    where
      on : (b : Bool) → IsPastTurn (if b then more (order.checking d e ren) else more (acting wants.Done (order.rename_step ren d e) (e ∷ d ∷ [])))
      on true = tt
      on false = tt

  renames_few : (d e : ℕ) → IsFewer c.below 6 (order.renames d e ren)
  renames_few d e = by ren.slash
    where
      by : (b : Bool) → IsFewer c.below 6 (if b then more (order.checking d e ren) else more (acting wants.Done (order.rename_step ren d e) (e ∷ d ∷ [])))
      by true = omega arith
      by false = omega arith

  renames_tail : (now : State) (d e : ℕ) → HandlesAre a old now (e ∷ d ∷ []) → IsTailTurn c.below a old now (order.renames d e ren)
  renames_tail now d e are = on ren.slash
    where
      on : (b : Bool) → IsTailTurn c.below a old now (if b then more (order.checking d e ren) else more (acting wants.Done (order.rename_step ren d e) (e ∷ d ∷ [])))
      on true = are
      on false = (rename_leaves ren d e, are)

  -- ---- the old directory was found

  module _ (dir : Handle) (names : List (List ℕ)) (first : SeenTo first_part dir names) where
    abbrev second_part : WalkInHistory
    second_part = on_path to.dir (after_seen first)

    second_is : IsWalkInHistory second_part
    second_is =
        let after = after_is first_part first_is dir names first in
        record { tree = after.tree; legal_before = after.legal_before; legal = after.legal; own = after.own; root = after.root; root_is_dir = after.root_is_dir }

    one_held : HandlesAre a old (begin_of second_part) (dir.number ∷ [])
    one_held = held_then first_part dir names first first_is old [] none_held

    -- both end in the same tree
    ends_so : end_of second_part ≡ call.end_of c
    ends_so = ends_there first_part first_is dir names first

    -- ---- and the new one

    module _ (other : Handle) (others : List (List ℕ)) (second : SeenTo second_part other others)
        (onward : LeadsTo c.below (order.renames dir.number other.number ren) second.rest (ends reply)) where
      abbrev both : SeesBoth c from to
      both = record {
        old = dir;
        old_names = names;
        first = first;
        new = other;
        new_names = others;
        second = second;
        one_more = one_more_held first_part first_is dir names first;
        two_more = one_more_held second_part second_is other others second;
        few = lines_few c.below 5 second.rest (order.renames dir.number other.number ren) (ends reply) (renames_few dir.number other.number) onward;
      }

      abbrev last_part : WalkInHistory
      last_part = after_seen second

      last_is : IsWalkInHistory last_part
      last_is = after_is second_part second_is other others second

      rename_told : (r : Reply) → RenameEnds last_part ren dir other r → RenameSo r
      rename_told done did = record { from = from; to = to; old_entry = old_entry; new_entry = new_entry; both = both; did = did }
      rename_told (fault error) why = rename_fails from to old_entry new_entry both why.0 why.1
      rename_told (opened handle ns) ends' = absurd ends'
      rename_told (link_text read) ends' = absurd ends'
      rename_told (count n) ends' = absurd ends'
      rename_told (stepped answer) ends' = absurd ends'
      rename_told (kept standing) ends' = absurd ends'

      rename_sees : RenameSo reply
      rename_sees =
          rename_told reply
          (rename_ends last_part (λ t. (lived tree_laws last_part last_is).states t) c.below reply ren dir other
          (stays_held second_part second_is other others second dir.number dir.node (is_held first_part first_is dir names first))
          (is_held second_part second_is other others second) (happens_after second_part second_is other others second) onward)

      rename_stays : HandlesAfter c reply
      rename_stays =
          handles_stay c reply (end_of last_part) unreleased (ends_there second_part second_is other others second ∙ ends_so)
          (tail_ends c.below a old second.rest second.later (begin_of last_part) (order.renames dir.number other.number ren) reply
          (renames_tail (begin_of last_part) dir.number other.number (held_then second_part other others second second_is old (dir.number ∷ []) one_held)) onward last_is.legal
          second.own_later)

    -- ---- or the second walk failed

    module _ (error : Errno) (second : WalkedTo second_part (walk.failed error)) (onward : LeadsTo c.below (order.gives_up (dir.number ∷ []) error) second.rest (ends reply)) where
      abbrev failed_part : WalkInHistory
      failed_part = after_walk second

      begins_so : begin_of failed_part ≡ end_of (walk_part second_part second.window second.lines)
      begins_so = after_events-append second_part.opening second_part.before second.window

      legal_then : IsLegal (begin_of failed_part) second.later
      legal_then = subst (λ s. IsLegal s second.later) (sym begins_so)
          (IsLegal-back (begin_of second_part) second.window second.later (subst (IsLegal (begin_of second_part)) second.windows second_is.legal))

      failed_ends : end_of failed_part ≡ end_of second_part
      failed_ends =
          ap (λ s. after_events s second.later) begins_so
          ∙ sym (after_events-append (begin_of second_part) second.window second.later) ∙ ap (after_events (begin_of second_part)) (sym second.windows)

      still_held : HandlesAre a old (begin_of failed_part) (dir.number ∷ [])
      still_held = handles.kept a old (begin_of second_part) (begin_of failed_part) (dir.number ∷ [])
          (λ h. ap (λ (s : State). held s a h) begins_so ∙ second.headline.tells.handles h) one_held

      failure_sees : RenameSo reply
      failure_sees =
          let over = shut failed_part c.below reply second.rest (dir.number ∷ []) (fault error) 0 (steps.happens_after second_part second_is (walk.failed error) second) onward in
          subst RenameSo over.same
          (second_fails from to old_entry new_entry dir names first second
          (lines_few c.below 1 second.rest (order.gives_up (dir.number ∷ []) error) (ends reply) (omega arith) onward)
          (one_more_held first_part first_is dir names first) (all_leave failed_part over.leaves))

      failure_stays : HandlesAfter c reply
      failure_stays =
          handles_stay c reply (end_of failed_part) unreleased (failed_ends ∙ ends_so)
          (tail_ends c.below a old second.rest second.later (begin_of failed_part) (order.gives_up (dir.number ∷ []) error) reply
          (closes_tail c.below a old (begin_of failed_part) (dir.number ∷ []) (gives (fault error)) tt still_held) onward legal_then second.own_later)

    -- ---- the second walk

    -- what comes of it: what the call was told is what the history has, at least where the actor acts alone
    record Second (told : List Line) : Type 0 where
      pub sees : RenameSo reply
      pub stays : HandlesAfter c reply
      pub exact : (told ≡ first.rest) ⊎ Unit {0}
      pub alone : AllOwn a first.later → told ≡ first.rest

    module _ (told : List Line) where
      abbrev SecondParts : Type 0
      SecondParts = Parts c.below (way_of c.below (Renames dir.number ren)) (λ room. walked c.below room (Renames dir.number ren)) (λ w. walking w (Renames dir.number ren))
          (aimed_walk c.below (Renames dir.number ren)) true (walk.begins (way_of c.below (Renames dir.number ren)) to.dir) told first.rest (ends reply)

      module _ (p : SecondParts) where
        second_past : (at : walk.Turn) → HasEnded (walk.under_way at) → IsPastTurn (walked c.below p.room_there (Renames dir.number ren) at)
        second_past (walk.more w) over = absurd over
        second_past (walk.found handle ns) over = renames_past dir.number handle.number
        second_past (walk.partial handle ns rest) over = tt
        second_past (walk.failed error) over = tt

        rest_same : p.rest ≡ p.rest_was
        rest_same = past_is_told c.below (walked c.below p.room_there (Renames dir.number ren) p.at) p.rest p.rest_was (second_past p.at p.over) p.are

        abbrev Onward : walk.Turn → List Line → Type 0
        Onward at lines = LeadsTo c.below (walked c.below p.room_there (Renames dir.number ren) at) lines (ends reply)

        onward_from : (at : walk.Turn) → p.at ≡ at → Onward at p.rest_was
        onward_from at e = subst (Onward at) rest_same (subst (λ t. Onward t p.rest) e p.onward)

        abbrev Led : walk.Turn → List Line → Type 0
        Led at lines = walk.LeadsTo second_part.way (walk.begins second_part.way second_part.path) lines at

        same_so : p.first ≡ p.first_was → told ≡ first.rest
        same_so e = same_lines told first.rest p.first p.first_was p.rest p.rest_was p.whole p.whole_was e rest_same

        told_by_steps : p.first ≡ p.first_was → (at : walk.Turn) → HasEnded (walk.under_way at) → p.at ≡ at → Second told
        told_by_steps e (walk.more w) over there = absurd over
        told_by_steps e (walk.found other others) over there =
            let second = seen_by_steps second_part second_is p.first_was p.rest_was p.whole_was other others
            (subst (λ ls. Led (walk.found other others) ls) e (subst (λ t. Led t p.first) there p.led)) in
            record {
              sees = rename_sees other others second (onward_from (walk.found other others) there);
              stays = rename_stays other others second (onward_from (walk.found other others) there);
              exact = inl (same_so e);
              alone = λ own. same_so e;
            }
        told_by_steps e (walk.partial other others rest) over there =
            let second = steps.walked_to second_part second_is p.first_was p.rest_was p.whole_was (walk.partial other others rest)
            (subst (λ ls. Led (walk.partial other others rest) ls) e (subst (λ t. Led t p.first) there p.led)) in
            absurd (false≢true second.headline.tells.goal)
        told_by_steps e (walk.failed error) over there =
            let second = steps.walked_to second_part second_is p.first_was p.rest_was p.whole_was (walk.failed error)
            (subst (λ ls. Led (walk.failed error) ls) e (subst (λ t. Led t p.first) there p.led)) in
            record {
              sees = failure_sees error second (onward_from (walk.failed error) there);
              stays = failure_stays error second (onward_from (walk.failed error) there);
              exact = inl (same_so e);
              alone = λ own. same_so e;
            }

        told_by_kernel : (front : List Line) (other : Handle) (others was : List (List ℕ)) → p.at ≡ walk.found other others
            → walk.LeadsTo second_part.way (walk.begins second_part.way second_part.path) front (walk.more (ending other others []))
            → p.first ≡ front ++ asks second_part.way other (reverse others) ∷ [] → p.first_was ≡ front ++ asks second_part.way other was ∷ [] → Second told
        told_by_kernel front other others was at led told_so was_so =
            let second = seen_by_kernel second_part second_is p.first_was p.rest_was p.whole_was other others p.first front was (subst (λ t. Led t p.first) at p.led) led was_so in
            record {
              sees = rename_sees other others second (onward_from (walk.found other others) at);
              stays = rename_stays other others second (onward_from (walk.found other others) at);
              exact = inr tt;
              alone = λ own. same_so (told_alone second_part second_is p.first_was p.rest_was p.whole_was p.first front other others was led told_so was_so own);
            }

        by_how : How (way_of c.below (Renames dir.number ren)) (walk.begins (way_of c.below (Renames dir.number ren)) to.dir) p.at p.room_there p.first p.first_was → Second told
        by_how (by_steps e) = told_by_steps e p.at p.over refl
        by_how (by_kernel front other others was at led told_so was_so room) = told_by_kernel front other others was at led told_so was_so

      same_walked : (turn : walk.Turn) → walked_on dir.number ren turn ≡ walked c.below true (Renames dir.number ren) turn
      same_walked (walk.more w) = refl
      same_walked (walk.found handle others) = refl
      same_walked (walk.partial handle others rest) = refl
      same_walked (walk.failed error) = refl

      abbrev begun : walk.Turn
      begun = walk.begins (way_of c.below (Renames dir.number ren)) to.dir

      with_room : LeadsTo c.below (walked_on dir.number ren begun) told (ends reply) → AreTold c.below (walked_on dir.number ren begun) told first.rest → Second told
      with_room leads are =
          let p = parts_of c.below (way_of c.below (Renames dir.number ren)) (λ room. walked c.below room (Renames dir.number ren)) (λ w. walking w (Renames dir.number ren))
          (aimed_walk c.below (Renames dir.number ren)) true begun told first.rest (ends reply) tt (subst (λ t. LeadsTo c.below t told (ends reply)) (same_walked begun) leads)
          (subst (λ t. AreTold c.below t told first.rest) (same_walked begun) are) in
          by_how p p.how

  -- ---- the first walk

  no_room_past : (d : ℕ) (turn : walk.Turn) → IsPastTurn (walked_on d ren (walk.for_walk false turn))
  no_room_past d (walk.more w) = tt
  no_room_past d (walk.found handle ns) = renames_past d handle.number
  no_room_past d (walk.partial handle ns rest) = tt
  no_room_past d (walk.failed error) = tt

  module _ (told : List Line) where
    abbrev FirstParts : Type 0
    FirstParts = Parts c.below (way_of c.below (WalksOn to.dir ren)) (λ room. walked c.below room (WalksOn to.dir ren)) (λ w. walking w (WalksOn to.dir ren))
        (aimed_walk c.below (WalksOn to.dir ren)) true (walk.begins (way_of c.below (WalksOn to.dir ren)) from.dir) told c.lines (ends reply)

    module _ (p : FirstParts) where
      abbrev FirstLed : walk.Turn → List Line → Type 0
      FirstLed at lines = walk.LeadsTo first_part.way (walk.begins first_part.way first_part.path) lines at

      abbrev Leads : Bool → walk.Turn → Type 0
      Leads room at = LeadsTo c.below (walked c.below room (WalksOn to.dir ren) at) p.rest (ends reply)

      abbrev Told : Bool → walk.Turn → Type 0
      Told room at = AreTold c.below (walked c.below room (WalksOn to.dir ren) at) p.rest p.rest_was

      all_same : p.first ≡ p.first_was → p.rest ≡ p.rest_was → told ≡ c.lines
      all_same e = same_lines told c.lines p.first p.first_was p.rest p.rest_was p.whole p.whole_was e

      past_so : p.first ≡ p.first_was → IsPastTurn (walked c.below p.room_there (WalksOn to.dir ren) p.at) → Outcome c told reply
      past_so e past = all_told (all_same e (past_is_told c.below (walked c.below p.room_there (WalksOn to.dir ren) p.at) p.rest p.rest_was past p.are))

      -- what comes after the first walk is the actor's alone, where the whole window is
      own_later : AllOwn a c.window → AllOwn a (steps.parts first_part first_is p.first_was p.rest_was p.whole_was).after
      own_later own =
          own_back a (steps.parts first_part first_is p.first_was p.rest_was p.whole_was).before (steps.parts first_part first_is p.first_was p.rest_was p.whole_was).after
          (subst (AllOwn a) (steps.parts first_part first_is p.first_was p.rest_was p.whole_was).whole own)

      by_second : (exact : (p.rest ≡ p.rest_was) ⊎ Unit {0}) → p.first ≡ p.first_was → RenameSo reply → HandlesAfter c reply
          → (AllOwn a (steps.parts first_part first_is p.first_was p.rest_was p.whole_was).after → p.rest ≡ p.rest_was) → Outcome c told reply
      by_second (inl same) e sees stays alone = all_told (all_same e same)
      by_second (inr other) e sees stays alone = some_seen (sees_so sees) stays (λ own. all_same e (alone (own_later own)))

      steps_found : p.first ≡ p.first_was → (dir : Handle) (names : List (List ℕ)) → FirstLed (walk.found dir names) p.first → Leads true (walk.found dir names)
          → Told true (walk.found dir names) → Outcome c told reply
      steps_found e dir names led leads are =
          let s = with_room dir names
          (seen_by_steps first_part first_is p.first_was p.rest_was p.whole_was dir names (subst (FirstLed (walk.found dir names)) e led)) p.rest leads are in
          by_second s.exact e s.sees s.stays s.alone

      kernel_found : (front : List Line) (dir : Handle) (names others : List (List ℕ)) → FirstLed (walk.found dir names) p.first
          → walk.LeadsTo first_part.way (walk.begins first_part.way first_part.path) front (walk.more (ending dir names []))
          → p.first ≡ front ++ asks first_part.way dir (reverse names) ∷ [] → p.first_was ≡ front ++ asks first_part.way dir others ∷ []
          → Leads true (walk.found dir names) → Told true (walk.found dir names) → Outcome c told reply
      kernel_found front dir names others led front_led told_so was_so leads are =
          let s = with_room dir names
          (seen_by_kernel first_part first_is p.first_was p.rest_was p.whole_was dir names p.first front others led front_led was_so) p.rest leads are in
          some_seen (sees_so s.sees) s.stays
          (λ own. same_lines told c.lines p.first p.first_was p.rest p.rest_was p.whole p.whole_was
          (told_alone first_part first_is p.first_was p.rest_was p.whole_was p.first front dir names others front_led told_so was_so own) (s.alone (own_later own)))

      Leads_so : (room : Bool) (at : walk.Turn) → p.room_there ≡ room → p.at ≡ at → Leads room at
      Leads_so room at with_room there = subst (λ b. Leads b at) with_room (subst (Leads p.room_there) there p.onward)

      told_so_there : (room : Bool) (at : walk.Turn) → p.room_there ≡ room → p.at ≡ at → Told room at
      told_so_there room at with_room there = subst (λ b. Told b at) with_room (subst (Told p.room_there) there p.are)

      by_steps_to : p.first ≡ p.first_was → (room : Bool) → p.room_there ≡ room → (at : walk.Turn) → HasEnded (walk.under_way at) → p.at ≡ at → Outcome c told reply
      by_steps_to e room with_room (walk.more w) over there = absurd over
      by_steps_to e true with_room (walk.found dir names) over there =
          steps_found e dir names (subst (λ t. FirstLed t p.first) there p.led) (Leads_so true (walk.found dir names) with_room there)
          (told_so_there true (walk.found dir names) with_room there)
      by_steps_to e false with_room (walk.found dir names) over there =
          past_so e (subst (λ b. IsPastTurn (walked c.below b (WalksOn to.dir ren) p.at)) (sym with_room)
          (subst (λ t. IsPastTurn (walked c.below false (WalksOn to.dir ren) t)) (sym there)
          (no_room_past dir.number (walk.begins (way_from c.below.root Follow c.below.flags) to.dir))))
      by_steps_to e room with_room (walk.partial dir names rest) over there =
          past_so e (subst (λ t. IsPastTurn (walked c.below p.room_there (WalksOn to.dir ren) t)) (sym there) tt)
      by_steps_to e room with_room (walk.failed error) over there =
          past_so e (subst (λ t. IsPastTurn (walked c.below p.room_there (WalksOn to.dir ren) t)) (sym there) tt)

      first_how : How (way_of c.below (WalksOn to.dir ren)) (walk.begins (way_of c.below (WalksOn to.dir ren)) from.dir) p.at p.room_there p.first p.first_was → Outcome c told reply
      first_how (by_steps e) = by_steps_to e p.room_there refl p.at p.over refl
      first_how (by_kernel front dir names others at led told_so was_so room) =
          kernel_found front dir names others (subst (λ t. FirstLed t p.first) at p.led) led told_so was_so (Leads_so true (walk.found dir names) room at)
          (told_so_there true (walk.found dir names) room at)

    pub renames_so : LeadsTo c.below (walks c.below (WalksOn to.dir ren) from.dir) told (ends reply) → AreTold c.below (walks c.below (WalksOn to.dir ren) from.dir) told c.lines
        → Outcome c told reply
    renames_so leads are =
        let p = parts_of c.below (way_of c.below (WalksOn to.dir ren)) (λ room. walked c.below room (WalksOn to.dir ren)) (λ w. walking w (WalksOn to.dir ren))
        (aimed_walk c.below (WalksOn to.dir ren)) true (walk.begins (way_of c.below (WalksOn to.dir ren)) from.dir) told c.lines (ends reply) tt leads are in
        first_how p p.how
