-- The same for the deepest directory: the caller's own parts one by one.
use Rattle.std.specs.Prelude.{◌≡◌, ℕ, ◌≤◌, ◌&&◌, ◌⊎◌, List, [], ◌∷◌, ◌++◌, Bool, true, false, not, if◌then◌else◌, Some, None, is_none, refl}
use Rattle.std.proofs.Common.{sym, ap, subst, ◌∙◌, le_refl, le_trans, append_assoc, append-nil, inl, inr}
use Rattle.std.proofs.lemmas.Bool.{false≢true, and_from, and_parts}
use Rattle.std.proofs.lemmas.Option.{none-some}
use Rattle.path_text.specs.declared.errno.Errno.{Errno}
use Rattle.path_text.specs.declared.errno.Errno.TheVariants.{NotFound, BadHandle, Raced, NoMemory, Busy, Exists, CrossRoot, NotDir, IsDir, Invalid, TooMany, BookFull, TooLong, NotEmpty, Loop}
use Rattle.path_text.specs.Text.{begins_with_slash}
use Rattle.tree_model.specs.declared.inode.Object.{Object}
use Rattle.tree_model.specs.State.{child, is_dir, is_directory}
use Rattle.tree_model.specs.declared.inode.Place.{Place}
use Rattle.tree_model.proofs.TreeTests.{none_from}
use Rattle.walk_plan.specs.declared.goal.Goal.{Goal}
use Rattle.walk_plan.specs.declared.goal.Goal.TheVariants.{Follow, NoFollow, Deepest}
use Rattle.walk_plan.specs.Plan.{leads_out}
use Rattle.step_resolver.specs.Asked.{AskedPart, Cur, Up, Named, asked, follows, is_deepest}
use Rattle.step_resolver.specs.Meaning.{Ground, Meant, object, fails, Deeper, after_reads, and_then, part_means, parts_mean, means, LINKS_MAX, is_too_long, reads_of}
use Rattle.step_resolver.specs.TrailLaws.{Split, passed, stopped}
use Rattle.step_resolver.specs.Trail.{Spot, Trail, all, before, stay, top, climb, down, through, into, IsLinkAt}
use Rattle.step_resolver.specs.Order.{Handle, Turn, more, found, partial, failed, root_itself, todo, begins, goes_on, LeadsTo}
use Rattle.step_resolver.specs.WalkHistory.{WalkInHistory, begin_of, timeline, parts_of_walk, start}
use Rattle.step_resolver.specs.Failures.{IsMissingAt, IsWithinLink, TellsNotFound, TellsUpFromRoot, TellsAbsoluteLink, TellsRacedUp, TellsRacedEnd, TellsRacedDeepest, TellsError}
use Rattle.step_resolver.specs.Footprint.{ground, is_for_want, is_want, IsEnd}
use Rattle.step_resolver.specs.Deepest.{Deep, whole, up_to, none, is_missing, entries_of, deep_after, and_then_deep, deepest, path_deepest, reading_deepest, deep_reads, IsMeantDeep}
use Rattle.step_resolver.specs.Headline.{Tells, MeansDeepest}
use Rattle.step_resolver.proofs.Trail.Joined.{split}
use Rattle.step_resolver.proofs.Meaning.PartsAndLinks.{deeper_at, means_by}
use Rattle.step_resolver.proofs.Meaning.Deepest.{deep_after-twice, deep_after_nothing}
use Rattle.step_resolver.proofs.Underway.WalkInvariant.{no_stop}
use Rattle.step_resolver.proofs.Ends.TrailsAndMeaning.{Setting, AllAlone, Fits, IsWay, alone_of, Followed, same_object, same_dir, stands_on, follow, alone_first, alone_second}
use Rattle.step_resolver.proofs.Ends.WholeMeaning.{setting, all_alone, missing_fails, no_dir_fails, long_fails, link_reads, loops, crossing, root_fails, name_alone, no_raced_up, only_crosses}

all_after : (w : Setting) (xs : List Place) (m : Deep) → AllAlone w (deep_reads (deep_after xs m)) → AllAlone w (xs ++ deep_reads m)
all_after w xs (whole d b reads) a = a
all_after w xs (up_to d b rest reads) a = a
all_after w xs (none error reads) a = a

alone_in : (w : Setting) (m : Meant) (onward : ℕ → ℕ → Deep) → AllAlone w (deep_reads (and_then_deep m onward)) → AllAlone w (reads_of m)
alone_in w (object d b reads) onward a = alone_first w reads (deep_reads (onward d b)) (all_after w reads (onward d b) a)
alone_in w (fails error reads) onward a = a

-- the deepest directory follows the last link
pub follows_deepest : (goal : Goal) → is_deepest goal ≡ true → follows goal ≡ true
follows_deepest Follow e = refl
follows_deepest NoFollow e = cc (e)
follows_deepest Deepest e = refl

module _ {w : WalkInHistory} (fits : Fits (setting w)) where
  abbrev G : Ground
  G = ground w

  -- what is missing has no entry, and it is a directory's short name
  missing_is : (d : ℕ) (f : Bool) (name : List ℕ) → is_missing G d (Named f name) ≡ true
      → (is_dir (begin_of w).nodes d ≡ true) × ((not (is_too_long name) ≡ true) × (child (begin_of w).nodes d name ≡ None))
  missing_is d f name e =
      let outer = and_parts (is_dir (begin_of w).nodes d && not (is_too_long name)) (is_none (child (begin_of w).nodes d name)) e in
      let inner = and_parts (is_dir (begin_of w).nodes d) (not (is_too_long name)) outer.0 in
      (inner.0, (inner.1, none_from (child (begin_of w).nodes d name) outer.1))

  -- what was there at any moment isn't missing
  not_missing : (d : ℕ) (f : Bool) (name : List ℕ) (t c : ℕ) → child ((timeline w).nodes_at t) d name ≡ Some c → AllAlone (setting w) (record { parent = d; name = name } ∷ [])
      → is_missing G d (Named f name) ≡ true → ⊥
  not_missing d f name t c e alone m =
      none-some c (sym (missing_is d f name m).1.1 ∙ sym (fits.steady (record { parent = d; name = name }) alone.0 t) ∙ e)

  deepest_step : (n d b : ℕ) (p : AskedPart) (ps : List AskedPart) → Bool → Deep
  deepest_step n d b p ps x = if x then up_to d b (p ∷ ps) (entries_of d p) else and_then_deep (means n G d (p ∷ []) b) (λ e c. deepest n G e ps c)

  -- a part that isn't missing, or whose entry would be left alone
  step_false : (n d b : ℕ) (p : AskedPart) (ps : List AskedPart) → AllAlone (setting w) (deep_reads (deepest n G d (p ∷ ps) b))
      → (AllAlone (setting w) (entries_of d p) → is_missing G d p ≡ true → ⊥)
      → deepest n G d (p ∷ ps) b ≡ and_then_deep (parts_mean (deeper_at n G) G d (p ∷ []) b) (λ e c. deepest n G e ps c)
  unfolding deepest_step
  step_false n d b p ps alone there = on (is_missing G d p) refl ∙ ap (λ m. and_then_deep m (λ e c. deepest n G e ps c)) (means_by n G d (p ∷ []) b)
    where
      on : (x : Bool) → is_missing G d p ≡ x → deepest n G d (p ∷ ps) b ≡ and_then_deep (means n G d (p ∷ []) b) (λ e c. deepest n G e ps c)
      on true e = absurd (there (subst (λ m. AllAlone (setting w) (deep_reads m)) (ap (deepest_step n d b p ps) e) alone) e)
      on false e = ap (deepest_step n d b p ps) e

  passed_is_there : (s mid : Spot) (p : AskedPart) → Trail (timeline w) (p ∷ []) s mid None → AllAlone (setting w) (entries_of s.node p) → is_missing G s.node p ≡ true → ⊥
  passed_is_there s mid Cur t alone e = false≢true e
  passed_is_there s mid Up t alone e = false≢true e
  passed_is_there s mid (Named f name) (down t c is entered rest) alone e = not_missing s.node f name t c is.child alone e
  passed_is_there s mid (Named f name) (through t text b y is sub rest) alone e = not_missing s.node f name t is.link is.child.child alone e

  record Along (n : ℕ) (s z : Spot) (front rest : List AskedPart) : Type 0 where
    pub reads : List Place
    pub is : deepest n G s.node (front ++ rest) s.links ≡ deep_after reads (deepest n G z.node rest z.links)
    pub way : IsWay (setting w) z.node z.names
    pub fewer : z.links ≤ s.links
    pub alone : AllAlone (setting w) (deep_reads (deepest n G z.node rest z.links))

  -- one of the caller's own parts that is passed
  one_own : (n : ℕ) (s mid : Spot) (p : AskedPart) (ps : List AskedPart) → Trail (timeline w) (p ∷ []) s mid None → s.links ≤ n → IsWay (setting w) s.node s.names
      → AllAlone (setting w) (deep_reads (deepest n G s.node (p ∷ ps) s.links)) → Along n s mid (p ∷ []) ps
  one_own n s mid p ps t le way alone = record {
    reads = f.says.0;
    is = is_step ∙ ap (λ m. and_then_deep m (λ e c. deepest n G e ps c)) f.says.1;
    way = f.way;
    fewer = f.fewer;
    alone = alone_second (setting w) f.says.0 (deep_reads (deepest n G mid.node ps mid.links))
        (all_after (setting w) f.says.0 (deepest n G mid.node ps mid.links)
        (subst (λ m. AllAlone (setting w) (deep_reads m)) (is_step ∙ ap (λ m. and_then_deep m (λ e c. deepest n G e ps c)) f.says.1) alone));
  }
    where
      is_step : deepest n G s.node (p ∷ ps) s.links ≡ and_then_deep (parts_mean (deeper_at n G) G s.node (p ∷ []) s.links) (λ e c. deepest n G e ps c)
      is_step = step_false n s.node s.links p ps alone (passed_is_there s mid p t)

      f : Followed (setting w) (parts_mean (deeper_at n G) G s.node (p ∷ []) s.links) s mid None
      f = follow fits n t le way
          (alone_in (setting w) (parts_mean (deeper_at n G) G s.node (p ∷ []) s.links) (λ e c. deepest n G e ps c) (subst (λ m. AllAlone (setting w) (deep_reads m)) is_step alone))

  along_more : (n : ℕ) (s mid z : Spot) (p : AskedPart) (front rest : List AskedPart) → Along n s mid (p ∷ []) (front ++ rest) → Along n mid z front rest
      → Along n s z (p ∷ front) rest
  along_more n s mid z p front rest first then_rest = record {
    reads = first.reads ++ then_rest.reads;
    is = first.is ∙ ap (deep_after first.reads) then_rest.is ∙ deep_after-twice first.reads then_rest.reads (deepest n G z.node rest z.links);
    way = then_rest.way;
    fewer = le_trans then_rest.fewer first.fewer;
    alone = then_rest.alone;
  }

  -- the caller's own parts that are passed
  along : (n : ℕ) (front rest : List AskedPart) (s z : Spot) → Trail (timeline w) front s z None → s.links ≤ n → IsWay (setting w) s.node s.names
      → AllAlone (setting w) (deep_reads (deepest n G s.node (front ++ rest) s.links)) → Along n s z front rest
  along n [] rest s z (all m l) le way alone =
      record { reads = []; is = sym (deep_after_nothing (deepest n G s.node rest s.links)); way = way; fewer = le_refl s.links; alone = alone }
  along n (p ∷ front) rest s z t le way alone =
      on (split (timeline w) (p ∷ []) front t) (λ mid v k y a. along n front rest mid z v k y a)
    where
      on : Split (timeline w) (p ∷ []) front s z None
          → ((mid : Spot) → Trail (timeline w) front mid z None → mid.links ≤ n → IsWay (setting w) mid.node mid.names
          → AllAlone (setting w) (deep_reads (deepest n G mid.node (front ++ rest) mid.links)) → Along n mid z front rest)
          → Along n s z (p ∷ front) rest
      on (passed mid u v) further =
          let first = one_own n s mid p (front ++ rest) u le way alone in
          along_more n s mid z p front rest first (further mid v (le_trans first.fewer le) first.way first.alone)
      on (stopped q e u) further = absurd (none-some q e)

  -- a stop within a link's text at one of the caller's own parts: where its next part fails, so does all
  record InLink (n : ℕ) (s z : Spot) (p : AskedPart) (ps : List AskedPart) : Type 0 where
    pub deeper : Deeper
    pub reads : List Place
    pub way : IsWay (setting w) z.node z.names
    pub alone : AllAlone (setting w) (reads_of (part_means deeper G z.node p z.links))
    pub failing : (error : Errno) (after : List Place) → part_means deeper G z.node p z.links ≡ fails error after
        → deepest n G s.node ps s.links ≡ none error (reads ++ after)

  -- a stop is before one of the caller's own parts, or within a link's text at one
  data DeepStop (n : ℕ) (s z : Spot) (p : AskedPart) (ps : List AskedPart) : Type 0 where
    at_own : (rest : List AskedPart) (reads : List Place) → deepest n G s.node ps s.links ≡ deep_after reads (deepest n G z.node (p ∷ rest) z.links)
        → IsWay (setting w) z.node z.names → AllAlone (setting w) (deep_reads (deepest n G z.node (p ∷ rest) z.links)) → DeepStop n s z p ps
    in_link : InLink n s z p ps → DeepStop n s z p ps

  deep_stop_after : (n : ℕ) (s mid z : Spot) (p q : AskedPart) (ps : List AskedPart) → Along n s mid (q ∷ []) ps → DeepStop n mid z p ps → DeepStop n s z p (q ∷ ps)
  deep_stop_after n s mid z p q ps first (at_own rest reads e way alone) =
      at_own rest (first.reads ++ reads) (first.is ∙ ap (deep_after first.reads) e ∙ deep_after-twice first.reads reads (deepest n G z.node (p ∷ rest) z.links)) way alone
  deep_stop_after n s mid z p q ps first (in_link is) = in_link (record {
    deeper = is.deeper;
    reads = first.reads ++ is.reads;
    way = is.way;
    alone = is.alone;
    failing = λ error after e. first.is ∙ ap (deep_after first.reads) (is.failing error after e) ∙ ap (none error) (sym (append_assoc first.reads is.reads after));
  })

  -- a stop within the text of the link at the next of the caller's own parts
  within_text : (n : ℕ) (s z : Spot) (name text : List ℕ) (t b : ℕ) (p : AskedPart) (ps : List AskedPart) → IsLinkAt (timeline w) s name t text b
      → Trail (timeline w) (Named true name ∷ []) s z (Some p) → s.links ≤ n → IsWay (setting w) s.node s.names
      → AllAlone (setting w) (deep_reads (deepest n G s.node (Named true name ∷ ps) s.links)) → InLink n s z p (Named true name ∷ ps)
  within_text n s z name text t b p ps is u le way alone = record {
    deeper = f.says.deeper;
    reads = f.says.reads;
    way = f.way;
    alone = f.says.alone;
    failing = λ error after e. is_step ∙ ap (λ m. and_then_deep m (λ y c. deepest n G y ps c)) (f.says.failing error after e);
  }
    where
      is_step : deepest n G s.node (Named true name ∷ ps) s.links
          ≡ and_then_deep (parts_mean (deeper_at n G) G s.node (Named true name ∷ []) s.links) (λ e c. deepest n G e ps c)
      is_step = step_false n s.node s.links (Named true name) ps alone (λ a m. not_missing s.node true name t is.link is.child.child a m)

      f : Followed (setting w) (parts_mean (deeper_at n G) G s.node (Named true name ∷ []) s.links) s z (Some p)
      f = follow fits n u le way
          (alone_in (setting w) (parts_mean (deeper_at n G) G s.node (Named true name ∷ []) s.links) (λ e c. deepest n G e ps c) (subst (λ m. AllAlone (setting w) (deep_reads m)) is_step alone))

  one_stop : (n : ℕ) (s z : Spot) (q p : AskedPart) (ps : List AskedPart) → Trail (timeline w) (q ∷ []) s z (Some p) → s.links ≤ n → IsWay (setting w) s.node s.names
      → AllAlone (setting w) (deep_reads (deepest n G s.node (q ∷ ps) s.links)) → DeepStop n s z p (q ∷ ps)
  one_stop n s z q p ps (before m l) le way alone = at_own ps [] (sym (deep_after_nothing (deepest n G s.node (q ∷ ps) s.links))) way alone
  one_stop n s z Cur p ps (stay dir t) le way alone = absurd (no_stop t)
  one_stop n s z Up p ps (top is t) le way alone = absurd (no_stop t)
  one_stop n s z Up p ps (climb t u e names is rest) le way alone = absurd (no_stop rest)
  one_stop n s z (Named f name) p ps (down t c is entered rest) le way alone = absurd (no_stop rest)
  one_stop n s z (Named f name) p ps (through t text b mid is sub rest) le way alone = absurd (no_stop rest)
  one_stop n s z (Named f name) p ps (into t text b is sub) le way alone = in_link (within_text n s z name text t b p ps is (into t text b is sub) le way alone)

  deep_stop : (n : ℕ) (ps : List AskedPart) (s z : Spot) (p : AskedPart) → Trail (timeline w) ps s z (Some p) → s.links ≤ n → IsWay (setting w) s.node s.names
      → AllAlone (setting w) (deep_reads (deepest n G s.node ps s.links)) → DeepStop n s z p ps
  deep_stop n [] s z p t le way alone = absurd (no_stop t)
  deep_stop n (q ∷ ps) s z p t le way alone = on (split (timeline w) (q ∷ []) ps t) (λ mid v k y a. deep_stop n ps mid z p v k y a)
    where
      on : Split (timeline w) (q ∷ []) ps s z (Some p)
          → ((mid : Spot) → Trail (timeline w) ps mid z (Some p) → mid.links ≤ n → IsWay (setting w) mid.node mid.names
          → AllAlone (setting w) (deep_reads (deepest n G mid.node ps mid.links)) → DeepStop n mid z p ps)
          → DeepStop n s z p (q ∷ ps)
      on (passed mid u v) further =
          let first = one_own n s mid q ps u le way alone in
          deep_stop_after n s mid z p q ps first (further mid v (le_trans first.fewer le) first.way first.alone)
      on (stopped r e u) further = one_stop n s z q p ps (subst (Trail (timeline w) (q ∷ []) s z) (sym e) u) le way alone

  -- ---- the ends

  module _ (deep : is_deepest w.way.goal ≡ true) (inside : leads_out w.path.absolute w.way.flags ≡ false) where
    abbrev D : Deep
    D = path_deepest (ground w) (parts_of_walk w)

    module _ (alone : AllAlone (setting w) (deep_reads D)) where
      in_link_fails : (z : Spot) (p : AskedPart) (error : Errno) → InLink LINKS_MAX (start w) z p (parts_of_walk w)
          → ((deeper : Deeper) → IsWay (setting w) z.node z.names → AllAlone (setting w) (reads_of (part_means deeper G z.node p z.links))
          → (more : List Place) × (part_means deeper G z.node p z.links ≡ fails error more))
          → IsMeantDeep D (failed error)
      in_link_fails z p error is fails_there =
          let e = fails_there is.deeper is.way is.alone in
          subst (λ m. IsMeantDeep m (failed error)) (sym (is.failing error e.0 e.1)) refl

      -- a stop whose next part fails, and isn't a missing one of the caller's own
      link_stop_fails : (z : Spot) (p : AskedPart) (error : Errno) → DeepStop LINKS_MAX (start w) z p (parts_of_walk w)
          → ((deeper : Deeper) → IsWay (setting w) z.node z.names → AllAlone (setting w) (reads_of (part_means deeper G z.node p z.links))
          → (more : List Place) × (part_means deeper G z.node p z.links ≡ fails error more))
          → (AllAlone (setting w) (entries_of z.node p) → is_missing G z.node p ≡ true → ⊥)
          → IsMeantDeep D (failed error)
      link_stop_fails z p error (in_link is) fails_there there = in_link_fails z p error is fails_there
      link_stop_fails z p error (at_own rest reads is way al) fails_there there =
          let step = step_false LINKS_MAX z.node z.links p rest al there in
          let e = fails_there (deeper_at LINKS_MAX G) way
          (alone_of (setting w) (part_means (deeper_at LINKS_MAX G) G z.node p z.links) (λ y c. object y c [])
          (alone_in (setting w) (parts_mean (deeper_at LINKS_MAX G) G z.node (p ∷ []) z.links) (λ y c. deepest LINKS_MAX G y rest c)
          (subst (λ m. AllAlone (setting w) (deep_reads m)) step al))) in
          subst (λ m. IsMeantDeep m (failed error))
          (sym (is ∙ ap (deep_after reads) (step ∙ ap (λ m. and_then_deep (and_then m (λ y c. object y c [])) (λ y c. deepest LINKS_MAX G y rest c)) e.1))) refl

      stop_of : (z : Spot) (p : AskedPart) → Trail (timeline w) (parts_of_walk w) (start w) z (Some p) → DeepStop LINKS_MAX (start w) z p (parts_of_walk w)
      stop_of z p t = deep_stop LINKS_MAX (parts_of_walk w) (start w) z p t (le_refl LINKS_MAX) refl alone

      way_of : {z : Spot} {p : AskedPart} {ps : List AskedPart} → DeepStop LINKS_MAX (start w) z p ps → IsWay (setting w) z.node z.names
      way_of (at_own rest reads is way al) = way
      way_of (in_link is) = is.way

      -- a missing name of a link's text
      missing_in_link : (tells : TellsNotFound w) → IsWithinLink w tells.to (Named tells.follow tells.name)
          → InLink LINKS_MAX (start w) tells.to (Named tells.follow tells.name) (parts_of_walk w)
      missing_in_link tells is = record {
        deeper = there.deeper;
        reads = a.reads ++ there.reads;
        way = there.way;
        alone = there.alone;
        failing = λ error after e. ap (path_deepest (ground w)) is.parts ∙ a.is ∙ ap (deep_after a.reads) (there.failing error after e)
            ∙ ap (none error) (sym (append_assoc a.reads there.reads after));
      }
        where
          a : Along LINKS_MAX (start w) is.mid is.front (Named true is.name ∷ is.rest)
          a = along LINKS_MAX is.front (Named true is.name ∷ is.rest) (start w) is.mid is.trail (le_refl LINKS_MAX) refl
              (subst (λ ps. AllAlone (setting w) (deep_reads (path_deepest (ground w) ps))) is.parts alone)

          there : InLink LINKS_MAX is.mid tells.to (Named tells.follow tells.name) (Named true is.name ∷ is.rest)
          there = within_text LINKS_MAX is.mid tells.to is.name is.text is.when is.left (Named tells.follow tells.name) is.rest is.link
              (into is.when is.text is.left is.link is.stop) a.fewer a.way a.alone

      no_dir_no_missing : (z : Spot) (p : AskedPart) (what : Object) → IsWay (setting w) z.node z.names → (timeline w).object_of z.node ≡ Some what → is_directory (Some what) ≡ false
          → is_missing G z.node p ≡ true → ⊥
      no_dir_no_missing z Cur what way is no_dir e = false≢true e
      no_dir_no_missing z Up what way is no_dir e = false≢true e
      no_dir_no_missing z (Named f name) what way is no_dir e =
          false≢true (sym (ap is_directory (same_object fits z.node z.names way ∙ is) ∙ no_dir) ∙ (missing_is z.node f name e).0)

      long_no_missing : (d : ℕ) (f : Bool) (name : List ℕ) → is_too_long name ≡ true → is_missing G d (Named f name) ≡ true → ⊥
      long_no_missing d f name long e = false≢true (sym (ap not long) ∙ (missing_is d f name e).1.0)

      deep_crossing : w.way.flags.beneath ≡ true → ((w.path.absolute ≡ true) × (w.lines ≡ [])) ⊎ (TellsUpFromRoot w ⊎ TellsAbsoluteLink w) → IsMeantDeep D (failed CrossRoot)
      deep_crossing beneath (inl absolute) = absurd (false≢true (sym inside ∙ and_from w.way.flags.beneath w.path.absolute beneath absolute.0))
      deep_crossing beneath (inr (inl tells)) = link_stop_fails tells.to Up CrossRoot (stop_of tells.to Up tells.stop)
          (λ deeper way al. ([], root_fails fits deeper tells.to way tells.node beneath)) (λ a e. false≢true e)
      deep_crossing beneath (inr (inr tells)) = link_stop_fails tells.to (Named true tells.name) CrossRoot (stop_of tells.to (Named true tells.name) tells.stop)
          (λ deeper way al. (
            record { parent = tells.to.node; name = tells.name } ∷ [],
            link_reads fits deeper tells.to way tells.name tells.text tells.when tells.link al
                ∙ ap (after_reads (record { parent = tells.to.node; name = tells.name } ∷ []))
                (crossing fits deeper tells.to way tells.to.links tells.left tells.text tells.links tells.allowed
                (and_from w.way.flags.beneath (begins_with_slash tells.text) beneath tells.absolute)),
          ))
          (λ a e. not_missing tells.to.node true tells.name tells.when tells.link.link tells.link.child a e)

      -- the trail over all parts, or over those before a missing one
      along_to : (front rest : List AskedPart) → parts_of_walk w ≡ front ++ rest → (z : Spot) → Trail (timeline w) front (start w) z None → Along LINKS_MAX (start w) z front rest
      along_to front rest e z t = along LINKS_MAX front rest (start w) z t (le_refl LINKS_MAX) refl
          (subst (λ ps. AllAlone (setting w) (deep_reads (path_deepest (ground w) ps))) e alone)

      deep_no_race : TellsRacedUp w ⊎ (TellsRacedEnd w ⊎ TellsRacedDeepest w) → ⊥
      deep_no_race (inl tells) =
          no_raced_up fits tells.to tells.name tells.names tells.passed (way_of (stop_of tells.to Up tells.stop)) tells.when tells.why
      deep_no_race (inr (inl tells)) = tells.astray.astray (stands_on fits tells.when tells.to.node tells.to.names
          (along_to (parts_of_walk w) [] (sym (append-nil (parts_of_walk w))) tells.to tells.trail).way)
      deep_no_race (inr (inr tells)) = tells.astray.astray (stands_on fits tells.when tells.to.node tells.to.names
          (along_to tells.front (Named tells.follow tells.name ∷ tells.rest) tells.parts tells.to tells.trail).way)

      deep_error : (error : Errno) → is_want error ≡ false → TellsError w error → IsMeantDeep D (failed error)
      deep_error NotFound e tells = in_link_fails tells.to (Named tells.follow tells.name) NotFound (missing_in_link tells (tells.within deep))
          (λ deeper way al. (
            record { parent = tells.to.node; name = tells.name } ∷ [],
            missing_fails fits deeper tells.to way tells.follow tells.name tells.when tells.short tells.missing al,
          ))
      deep_error NotDir e tells =
          let s = stop_of tells.to tells.next tells.stop in
          link_stop_fails tells.to tells.next NotDir s
          (λ deeper way al. ([], no_dir_fails fits deeper tells.to way tells.next tells.what tells.is_what tells.no_dir))
          (λ a m. no_dir_no_missing tells.to tells.next tells.what (way_of s) tells.is_what tells.no_dir m)
      deep_error TooLong e tells = link_stop_fails tells.to (Named tells.follow tells.name) TooLong (stop_of tells.to (Named tells.follow tells.name) tells.stop)
          (λ deeper way al. ([], long_fails fits deeper tells.to way tells.follow tells.name tells.dir tells.long))
          (λ a m. long_no_missing tells.to.node tells.follow tells.name tells.long m)
      deep_error Loop e tells = link_stop_fails tells.to (Named true tells.name) Loop (stop_of tells.to (Named true tells.name) tells.stop)
          (λ deeper way al. (
            record { parent = tells.to.node; name = tells.name } ∷ [],
            link_reads fits deeper tells.to way tells.name tells.text tells.when tells.link al
                ∙ ap (after_reads (record { parent = tells.to.node; name = tells.name } ∷ []))
                (loops fits deeper tells.to way tells.to.links tells.text tells.used_up),
          ))
          (λ a m. not_missing tells.to.node true tells.name tells.when tells.link.link tells.link.child a m)
      deep_error CrossRoot e tells = deep_crossing tells.beneath tells.why
      deep_error Raced e tells = absurd (deep_no_race tells)
      deep_error TooMany e tells = cc (e)
      deep_error NoMemory e tells = cc (e)
      deep_error BookFull e tells = cc (e)
      deep_error BadHandle e tells = absurd tells
      deep_error Busy e tells = absurd tells
      deep_error Exists e tells = absurd tells
      deep_error IsDir e tells = absurd tells
      deep_error Invalid e tells = absurd tells
      deep_error NotEmpty e tells = absurd tells

      -- where a missing name is read, the deepest directory ends there
      ends_at : (handle : Handle) (names : List (List ℕ)) (z : Spot) (f : Bool) (name : List ℕ) (others : List AskedPart) (t : ℕ) → handle.node ≡ z.node
          → IsWay (setting w) z.node z.names → is_too_long name ≡ false → IsMissingAt w z name t
          → AllAlone (setting w) (deep_reads (deepest LINKS_MAX G z.node (Named f name ∷ others) z.links))
          → deepest LINKS_MAX G z.node (Named f name ∷ others) z.links ≡ up_to z.node z.links (Named f name ∷ others) (record { parent = z.node; name = name } ∷ [])
      ends_at handle names z f name others t node way short is al = on (is_missing G z.node (Named f name)) refl
        where
          on : (x : Bool) → is_missing G z.node (Named f name) ≡ x
              → deepest LINKS_MAX G z.node (Named f name ∷ others) z.links ≡ up_to z.node z.links (Named f name ∷ others) (record { parent = z.node; name = name } ∷ [])
          on true e = ap (λ x. if x then up_to z.node z.links (Named f name ∷ others) (record { parent = z.node; name = name } ∷ [])
              else and_then_deep (means LINKS_MAX G z.node (Named f name ∷ []) z.links) (λ y c. deepest LINKS_MAX G y others c)) e
          on false e =
              let step = step_false LINKS_MAX z.node z.links (Named f name) others al (λ a m. false≢true (sym e ∙ m)) in
              let part_alone = alone_of (setting w) (part_means (deeper_at LINKS_MAX G) G z.node (Named f name) z.links) (λ y c. object y c [])
              (alone_in (setting w) (parts_mean (deeper_at LINKS_MAX G) G z.node (Named f name ∷ []) z.links) (λ y c. deepest LINKS_MAX G y others c)
              (subst (λ m. AllAlone (setting w) (deep_reads m)) step al)) in
              let entry_alone = name_alone fits (deeper_at LINKS_MAX G) z way f name is.dir short part_alone in
              absurd (false≢true (sym e ∙ and_from (is_dir (begin_of w).nodes z.node && not (is_too_long name)) (is_none (child (begin_of w).nodes z.node name))
              (and_from (is_dir (begin_of w).nodes z.node) (not (is_too_long name)) (same_dir fits z.node z.names way is.dir) (ap not short))
              (ap is_none (sym (fits.steady (record { parent = z.node; name = name }) entry_alone t) ∙ is.missing))))

      -- the end is the deepest directory of the path
      deep_end : (end : Turn) → is_for_want end ≡ false → Tells w end → IsEnd end → IsMeantDeep D end
      deep_end (more walk) want tells is_end = absurd is_end
      deep_end (found handle names) want tells is_end =
          let a = along_to (parts_of_walk w) [] (sym (append-nil (parts_of_walk w))) tells.to tells.trail in
          subst (λ m. IsMeantDeep m (found handle names)) (sym (ap (path_deepest (ground w)) (sym (append-nil (parts_of_walk w))) ∙ a.is)) (sym tells.node)
      deep_end (partial handle names rest) want tells is_end =
          let e = tells.parts ∙ ap (λ ps. tells.front ++ ps) tells.begins_with in
          let a = along_to tells.front (Named tells.follow tells.name ∷ tells.others) e tells.to tells.trail in
          subst (λ m. IsMeantDeep m (partial handle names rest))
          (sym (ap (path_deepest (ground w)) e ∙ a.is ∙ ap (deep_after a.reads)
          (ends_at handle names tells.to tells.follow tells.name tells.others tells.first (sym tells.node) a.way tells.short tells.missing a.alone)))
          (sym tells.node, tells.begins_with)
      deep_end (failed error) want tells is_end = deep_error error want tells.true_once

  pub tells_deepest : (end : Turn) → LeadsTo w.way (begins w.way w.path) w.lines end → Tells w end → MeansDeepest w end
  tells_deepest end leads tells is_end deep want alone = on (leads_out w.path.absolute w.way.flags) refl
    where
      parts_same : asked true w.path.parts ≡ parts_of_walk w
      parts_same = ap (λ f. asked f w.path.parts) (sym (follows_deepest w.way.goal deep))

      meaning : Bool → Deep
      meaning b = if b then none CrossRoot [] else path_deepest (ground w) (asked true w.path.parts)

      beginning : Bool → Turn
      beginning b = if b then failed CrossRoot else goes_on w.way root_itself (todo [] (parts_of_walk w) LINKS_MAX)

      on : (b : Bool) → leads_out w.path.absolute w.way.flags ≡ b → IsMeantDeep (reading_deepest (ground w) w.path) end
      on true e = subst (λ m. IsMeantDeep m end) (sym (ap meaning e))
          (subst (IsMeantDeep (none CrossRoot []))
          (only_crosses fits w.lines end (subst (λ t. LeadsTo w.way t w.lines end) (ap beginning e) leads)) refl)
      on false e =
          let same : reading_deepest (ground w) w.path ≡ path_deepest (ground w) (parts_of_walk w) = ap meaning e ∙ ap (path_deepest (ground w)) parts_same in
          subst (λ m. IsMeantDeep m end) (sym same)
          (deep_end deep e (subst (λ m. AllAlone (setting w) (deep_reads m)) same (all_alone w _ alone)) end want tells is_end)
