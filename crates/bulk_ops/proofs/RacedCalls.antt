-- A bulk call that failed with EAGAIN met a step of another that changes entries: were there none, what it held would stand
-- where it stood, and what it made would be there.
use Rattle.std.specs.Prelude.{◌≡◌, ℕ, zero, suc, ◌+◌, ◌-◌, ◌≤◌, ◌⊎◌, ◌==◌, ◌&&◌, List, [], ◌∷◌, ◌++◌, Bool, true, false, not, length, Option, Some, None, Ok, Err, is_some, nat_le, refl}
use Rattle.std.proofs.Common.{sym, ap, subst, ◌∙◌, inl, inr, le_trans, add-zero, append-nil, append_assoc, arith}
use Rattle.std.proofs.Math.Nat.{le-suc}
use Rattle.std.proofs.Math.Bool.{and-false}
use Rattle.std.proofs.lemmas.Bool.{false≢true}
use Rattle.std.proofs.lemmas.Option.{none-some}
use Rattle.path_text.specs.declared.errno.Errno.{Errno}
use Rattle.path_text.specs.declared.errno.Errno.TheVariants.{NotFound, Raced, Exists, NotDir, TooMany}
use Rattle.tree_model.specs.declared.inode.Inode.{Inode}
use Rattle.tree_model.specs.declared.inode.Object.TheVariants.{Dir}
use Rattle.tree_model.specs.declared.inode.Place.{Place}
use Rattle.tree_model.specs.declared.tree.TheConstants.{NUMBERS_MAX}
use Rattle.tree_model.specs.State.{TOP, Stands, place_at, child, is_dir, is_gone}
use Rattle.tree_model.specs.Entries.{refuse_if, makes}
use Rattle.tree_model.proofs.Children.{entry, place_at-child, child-entry}
use Rattle.tree_model.proofs.Places.{place_at-append}
use Rattle.tree_model.proofs.PlaceLaws.{stands_at_one_way}
use Rattle.step_resolver.specs.Changes.{changes_by_others}
use Rattle.step_resolver.specs.Trail.{Spot}
use Rattle.step_resolver.specs.Order.{IsWant}
use Rattle.step_resolver.specs.WalkHistory.{WalkInHistory, IsWalkInHistory, begin_of, timeline}
use Rattle.step_resolver.proofs.Changes.{others_leave, raced_walk_met}
use Rattle.step_resolver.proofs.Ends.EntriesLeftAlone.{root_is_no_child}
use Rattle.step_resolver.proofs.Ends.EveryWalk.{tree_laws}
use Rattle.step_resolver.proofs.Underway.LegalHistory.{lived}
use Rattle.step_resolver.proofs.Underway.WalkInvariant.{Lived}
use Rattle.bulk_ops.specs.MakeAllOrder.{rest_fault}
use Rattle.bulk_ops.specs.MakeAllOrder as make
use Rattle.bulk_ops.specs.RemoveAllOrder as remove
use Rattle.bulk_ops.specs.MakeAllTells.{OpenedDown, stays, into, DeepestAt, start_of, MakesName, Reach, not_begun, begun, Did, UnbegunCause, of_walk, no_directory, of_rest, MakingCause, for_want, full, gone, missing, not_directory, astray, Cause, TellsMakingFailed}
use Rattle.bulk_ops.specs.RemoveAllTells.{TellsGivenUp, TellsRemovalFailed}
use Rattle.bulk_ops.specs.RacedCalls.{RacedMakesNeedAChange, RacedRemovalsNeedAChange}
use Rattle.bulk_ops.specs.WalkFirst.{LeavesEntries, walk_part, TellsWalkFailed}
use Rattle.bulk_ops.proofs.MakeAllEnds.{makes_tell}
use Rattle.bulk_ops.proofs.RemovingAll.EachEnd.{every_call_tells}
use Rattle.bulk_ops.proofs.WalkParts.{same_nodes, own_within}
use Rattle.bulk_ops.proofs.TableErrors.{no_fault, rest_other, raced, raced_is_other}
use Rattle.tree_model.proofs.Standing.{Stands-append}

-- ---- nodes that are only added to

-- those are these, and maybe more
record Grown (before after : List Inode) : Type 0 where
  pub more : List Inode
  pub all : after ≡ before ++ more

grown_not : (nodes : List Inode) → Grown nodes nodes
grown_not nodes = record { more = []; all = sym (append-nil nodes) }

grown_on : {a b c : List Inode} → Grown a b → Grown b c → Grown a c
grown_on {a} {b} {c} first second = record {
  more = first.more ++ second.more;
  all = second.all ∙ ap (λ ns. ns ++ second.more) first.all ∙ append_assoc a first.more second.more;
}

grown_stands : {a b : List Inode} → Grown a b → (r x : ℕ) (names : List (List ℕ)) → Stands a r x names → Stands b r x names
grown_stands {a} grown r x names stands = subst (λ ns. Stands ns r x names) (sym grown.all) (Stands-append a grown.more r x names stands)

-- a node that has a place, or is the top, isn't gone; it stays so
placed : (nodes : List Inode) (x d : ℕ) (n : List ℕ) → place_at nodes x ≡ Some (entry d n) → is_gone nodes x ≡ false
placed nodes x d n e = ap (λ o. not (x == TOP) && not (is_some o)) e ∙ and-false (not (x == TOP))

grown_placed : {a b : List Inode} → Grown a b → (x d : ℕ) (n : List ℕ) → place_at a x ≡ Some (entry d n) → place_at b x ≡ Some (entry d n)
grown_placed {a} grown x d n e = ap (λ ns. place_at ns x) grown.all ∙ place_at-append a grown.more x (entry d n) e

grown_not_gone : {a b : List Inode} → Grown a b → (x : ℕ) → is_gone a x ≡ false → is_gone b x ≡ false
grown_not_gone {a} {b} grown x is = on (place_at a x) refl
  where
    on_top : (top : Bool) → (x == TOP) ≡ top → place_at a x ≡ None → is_gone b x ≡ false
    on_top true q e = ap (λ t. not t && not (is_some (place_at b x))) q
    on_top false q e = absurd (false≢true (sym is ∙ ap (λ t. not t && not (is_some (place_at a x))) q ∙ ap (λ o. not (is_some o)) e))

    on : (o : Option Place) → place_at a x ≡ o → is_gone b x ≡ false
    on None e = on_top (x == TOP) refl e
    on (Some place) e =
        ap (λ o. not (x == TOP) && not (is_some o)) (ap (λ ns. place_at ns x) grown.all ∙ place_at-append a grown.more x place e) ∙ and-false (not (x == TOP))

abbrev made_inode : ℕ → List ℕ → Inode
made_inode d n = record { object = Dir; place = Some (record { parent = d; name = n }) }

-- a directory that is made is one node more
makes_grow : (nodes after : List Inode) (d : ℕ) (n : List ℕ) → makes nodes d n Dir ≡ Ok after → Grown nodes after
makes_grow nodes after d n e =
    record { more = made_inode d n ∷ []; all = by (not (is_dir nodes d)) (is_gone nodes d) (is_some (child nodes d n)) (nat_le NUMBERS_MAX (length nodes)) e }
  where
    by : (a b c f : Bool) → refuse_if a (Err NotDir) (refuse_if b (Err NotFound) (refuse_if c (Err Exists) (refuse_if f (Err TooMany) (Ok (nodes ++ made_inode d n ∷ []))))) ≡ Ok after
        → after ≡ nodes ++ made_inode d n ∷ []
    by true b c f q = cc (q)
    by false true c f q = cc (q)
    by false false true f q = cc (q)
    by false false false true q = cc (q)
    by false false false false q = cc (q)

-- what stands below a root that isn't gone isn't gone
stands_not_gone : (nodes : List Inode) (r x : ℕ) (names : List (List ℕ)) → is_gone nodes r ≡ false → Stands nodes r x names → is_gone nodes x ≡ false
stands_not_gone nodes r x [] root stands = ap (is_gone nodes) stands ∙ root
stands_not_gone nodes r x (n ∷ names) root stands = placed nodes x stands.1.0 n stands.1.1.0

-- ---- a MkdirAll in whose window no other changes entries

module _ (w : WalkInHistory) (is : IsWalkInHistory w) (none : changes_by_others w.actor w.window ≡ 0) (p : DeepestAt w) (did : Did w (begun p)) where
  abbrev nodes_at : ℕ → List Inode
  nodes_at = (timeline w).nodes_at

  alive : Lived w
  alive = lived tree_laws w is

  moves : (t : ℕ) → Grown (nodes_at t) (nodes_at (suc t))
  moves t = on ((timeline w).is_own t) refl
    where
      left : nodes_at (suc t) ≡ nodes_at t → Grown (nodes_at t) (nodes_at (suc t))
      left same = record { more = []; all = same ∙ sym (append-nil (nodes_at t)) }

      own_did : LeavesEntries w t ⊎ MakesName w p t → Grown (nodes_at t) (nodes_at (suc t))
      own_did (inl same) = left same
      own_did (inr made) = makes_grow (nodes_at t) (nodes_at (suc t)) made.dir.node made.name made.makes

      on : (own : Bool) → (timeline w).is_own t ≡ own → Grown (nodes_at t) (nodes_at (suc t))
      on true q = own_did (did t q)
      on false q = left (others_leave w is none t q)

  grows_by : (m j k : ℕ) → k ≡ m + j → Grown (nodes_at m) (nodes_at k)
  grows_by m zero k e = subst (λ x. Grown (nodes_at m) (nodes_at x)) (sym (e ∙ add-zero m)) (grown_not (nodes_at m))
  grows_by m (suc j) k e =
      let next : suc (m + j) ≡ k = omega (arith, e) in
      grown_on (grows_by m j (m + j) refl) (subst (λ x. Grown (nodes_at (m + j)) (nodes_at x)) next (moves (m + j)))

  grows : (m k : ℕ) → m ≤ k → Grown (nodes_at m) (nodes_at k)
  grows m k le = grows_by m (k - m) k (omega (arith, le))

  -- what was reached stands
  stood : Stands (nodes_at (length p.walked.window)) w.root p.handle.node p.names
  stood =
      let deepest = p.walked.headline.tells in
      let part = walk_part w p.walked.window p.walked.lines in
      let within = le_trans (le-suc deepest.when) (own_within part deepest.when deepest.stood.at.own) in
      grown_stands (grows deepest.when (length p.walked.window) within) w.root p.handle.node p.names
      (subst (λ ns. Stands ns w.root p.handle.node p.names) (sym (same_nodes w is _ p.walked deepest.when within))
      (subst (λ x. Stands ((timeline part).nodes_at deepest.when) w.root x p.names) deepest.node
      (subst (λ ns. Stands ((timeline part).nodes_at deepest.when) w.root deepest.to.node ns) deepest.passed deepest.stood.stands)))

  stands : {names : List (List ℕ)} {to : Spot} → OpenedDown (timeline w) (start_of p) names to → Stands (nodes_at to.moment) w.root to.node to.names
  stands stays = stood
  stands (into {d = d} n t c down is_child dir) =
      let above = grown_stands (grows d.moment t is_child.at.later) w.root d.node d.names (stands down) in
      let here : Stands (nodes_at t) w.root c (n ∷ d.names) = (
        (λ e. root_is_no_child stands_at_one_way (nodes_at t) (alive.states t).tree w.root d.node d.names n above (is_child.child ∙ ap Some e)),
        (d.node, (place_at-child (nodes_at t) d.node n c is_child.child, above)),
      ) in
      grown_stands (moves t) w.root c (n ∷ d.names) here

  not_raced : (error : Errno) → is_gone (nodes_at 0) w.root ≡ false → MakingCause w p error → error ≡ Raced → ⊥
  not_raced error root (for_want want tells) same = other_want (subst IsWant same want)
    where
      other_want : IsWant Raced → ⊥
      other_want (inl e) = cc (e)
      other_want (inr e) = cc (e)
  not_raced error root (full t step event told limit) same = cc (same)
  not_raced error root (gone dir name h t at_name event is_gone_there) same =
      false≢true (sym (stands_not_gone (nodes_at t) w.root dir.node dir.names (grown_not_gone (grows 0 t (omega arith)) w.root root)
      (grown_stands (grows dir.moment t at_name.at.later) w.root dir.node dir.names (stands at_name.down))) ∙ is_gone_there)
  not_raced error root (missing taken) same =
      let there = place_at-child (nodes_at (suc taken.first)) taken.dir.node taken.name taken.there.entry taken.there.child in
      let still = grown_placed (grows (suc taken.first) taken.when taken.later) taken.there.entry taken.dir.node taken.name there in
      none-some taken.there.entry
      (sym taken.missing ∙ child-entry (nodes_at taken.when) (alive.states taken.when).tree taken.dir.node taken.name taken.there.entry still)
  not_raced error root (not_directory dir name t c at_name is_child other) same = cc (same)
  not_raced error root (astray passed to t all down at elsewhere) same =
      elsewhere (grown_stands (grows to.moment t at.later) w.root to.node to.names (stands down))

-- ---- each call

walk_met : (w : WalkInHistory) → IsWalkInHistory w → TellsWalkFailed w Raced → 1 ≤ changes_by_others w.actor w.window
walk_met w is failed = raced_walk_met w is failed.walked

module _ (w : WalkInHistory) (is : IsWalkInHistory w) (root : is_gone (begin_of w).nodes w.root ≡ false) where
  by_unbegun : (error : Errno) → UnbegunCause w error → error ≡ Raced → 1 ≤ changes_by_others w.actor w.window
  by_unbegun error (of_walk failed) same = walk_met w is (subst (TellsWalkFailed w) same failed)
  by_unbegun error (no_directory handle names walked other) same = cc (same)
  by_unbegun error (of_rest p e) same = absurd (no_fault raced (rest_fault p.rest) error
      (rest_other raced raced_is_other p.rest) (ap raced same) e)

  by_cause : (reach : Reach w) → Did w reach → Cause w reach Raced → 1 ≤ changes_by_others w.actor w.window
  by_cause not_begun did cause = by_unbegun Raced cause refl
  by_cause (begun p) did cause = on (changes_by_others w.actor w.window) refl
    where
      on : (count : ℕ) → changes_by_others w.actor w.window ≡ count → 1 ≤ count
      on zero q = absurd (not_raced w is q p did Raced root cause.1 refl)
      on (suc count) q = omega arith

-- by what its end tells
pub making_met : (w : WalkInHistory) → IsWalkInHistory w → is_gone (begin_of w).nodes w.root ≡ false → TellsMakingFailed w Raced → 1 ≤ changes_by_others w.actor w.window
making_met w is root tells = by_cause w is root tells.reach tells.did tells.cause

pub raced_makes_need_a_change : RacedMakesNeedAChange
raced_makes_need_a_change w is root leads = making_met w is root (makes_tell w (make.failed Raced) is leads)

pub removal_met : (w : WalkInHistory) (target : List ℕ) → IsWalkInHistory w → TellsRemovalFailed w target Raced → 1 ≤ changes_by_others w.actor w.window
removal_met w target is tells = on tells.why
  where
    on : TellsWalkFailed w Raced ⊎ TellsGivenUp w target Raced → 1 ≤ changes_by_others w.actor w.window
    on (inl failed) = walk_met w is failed
    on (inr given_up) = absurd given_up.fault

pub raced_removals_need_a_change : RacedRemovalsNeedAChange
raced_removals_need_a_change w target is shallow leads = removal_met w target is (every_call_tells w target (remove.failed Raced) is shallow leads)
