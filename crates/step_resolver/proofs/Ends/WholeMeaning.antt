-- Where no other changes an entry that the path reads, the end is what the path means in the tree as the window begins.
use Rattle.std.specs.Prelude.{◌≡◌, ℕ, zero, suc, ◌⊎◌, List, [], ◌∷◌, Bool, true, false, if◌then◌else◌, Option, Some, None, refl}
use Rattle.std.proofs.Common.{sym, ap, subst, ◌∙◌, le_refl, inl, inr}
use Rattle.std.proofs.lemmas.Bool.{false≢true, and_from}
use Rattle.std.proofs.lemmas.Option.{none-some, same_Some}
use Rattle.path_text.specs.declared.errno.Errno.{Errno}
use Rattle.path_text.specs.declared.errno.Errno.TheVariants.{NotFound, BadHandle, Raced, NoMemory, Busy, Exists, CrossRoot, NotDir, IsDir, Invalid, TooMany, BookFull, TooLong, NotEmpty, Loop}
use Rattle.path_text.specs.Text.{parts_of, begins_with_slash}
use Rattle.tree_model.specs.declared.inode.Object.{Object}
use Rattle.tree_model.specs.State.{child, parent, is_dir, is_directory, Stands}
use Rattle.tree_model.specs.declared.inode.Place.{Place}
use Rattle.walk_plan.specs.Plan.{leads_out}
use Rattle.step_resolver.specs.Asked.{AskedPart, Up, Named, followed, follows, is_deepest}
use Rattle.step_resolver.specs.Meaning.{Meant, object, fails, Deeper, after_reads, link_in, child_is, named, one_part, part_means, LINKS_MAX, path_means, reading_means, is_too_long, from_of, reads_of}
use Rattle.step_resolver.specs.Trail.{Spot, Trail, IsOwnFrom}
use Rattle.step_resolver.specs.Order.{Turn, more, found, partial, failed, root_itself, todo, begins, goes_on, Line, LeadsTo}
use Rattle.step_resolver.specs.WalkHistory.{WalkInHistory, begin_of, timeline, parts_of_walk, start}
use Rattle.step_resolver.specs.Failures.{IsMissingAt, IsLinkThere, TellsUpFromRoot, TellsAbsoluteLink, TellsRacedUp, TellsRacedEnd, TellsRacedDeepest, TellsError}
use Rattle.step_resolver.specs.Footprint.{ground, IsLeftAlone, AllLeftAlone, is_for_want, is_want, IsMeant, IsEnd}
use Rattle.step_resolver.specs.Headline.{Tells, Means}
use Rattle.step_resolver.proofs.Ends.TrailsAndMeaning.{Setting, AllAlone, Fits, IsWay, alone_here, Followed, same_object, same_dir, stands_on, parent_on, down_way, part_in, name_in, top_in, follow}

-- a walk's timeline, the tree as its window begins, and the entries that no other changes
abbrev pub setting : WalkInHistory → Setting
setting w = record { timeline = timeline w; nodes = (begin_of w).nodes; IsAlone = IsLeftAlone w }

pub all_alone : (w : WalkInHistory) (entries : List Place) → AllLeftAlone w entries → AllAlone (setting w) entries
all_alone w [] alone = tt
all_alone w (entry ∷ entries) alone = (alone.0, all_alone w entries alone.1)

module _ {w : WalkInHistory} (fits : Fits (setting w)) where
  -- ---- what each stop says of its next part

  module _ (deeper : Deeper) (z : Spot) (way : IsWay (setting w) z.node z.names) where
    -- the entry of a short name of a directory is left alone where all that the part reads is
    pub name_alone : (follow : Bool) (name : List ℕ) → is_directory ((timeline w).object_of z.node) ≡ true → is_too_long name ≡ false
        → AllAlone (setting w) (reads_of (part_means deeper (ground w) z.node (Named follow name) z.links)) → IsLeftAlone w (record { parent = z.node; name = name })
    name_alone follow name dir short alone =
        (alone_here (setting w) (record { parent = z.node; name = name }) (named deeper (ground w) z.node follow z.links (child (begin_of w).nodes z.node name))
        (subst (λ m. AllAlone (setting w) (reads_of m))
        (name_in fits deeper z.node follow name z.links (same_dir fits z.node z.names way dir) short) alone)).0

    -- a missing name
    pub missing_fails : (follow : Bool) (name : List ℕ) (t : ℕ) → is_too_long name ≡ false → IsMissingAt w z name t
        → AllAlone (setting w) (reads_of (part_means deeper (ground w) z.node (Named follow name) z.links))
        → part_means deeper (ground w) z.node (Named follow name) z.links ≡ fails NotFound (record { parent = z.node; name = name } ∷ [])
    missing_fails follow name t short is alone =
        name_in fits deeper z.node follow name z.links (same_dir fits z.node z.names way is.dir) short
        ∙ ap (λ o. after_reads (record { parent = z.node; name = name } ∷ []) (named deeper (ground w) z.node follow z.links o))
        (sym (fits.steady (record { parent = z.node; name = name }) (name_alone follow name is.dir short alone) t) ∙ is.missing)

    -- what is no directory
    pub no_dir_fails : (p : AskedPart) (what : Object) → (timeline w).object_of z.node ≡ Some what → is_directory (Some what) ≡ false
        → part_means deeper (ground w) z.node p z.links ≡ fails NotDir []
    no_dir_fails p what is none =
        ap (λ x. if x then one_part deeper (ground w) z.node p z.links else fails NotDir [])
        (ap is_directory (same_object fits z.node z.names way ∙ is) ∙ none)

    pub long_fails : (follow : Bool) (name : List ℕ) → is_directory ((timeline w).object_of z.node) ≡ true → is_too_long name ≡ true
        → part_means deeper (ground w) z.node (Named follow name) z.links ≡ fails TooLong []
    long_fails follow name dir long =
        part_in fits deeper z.node (Named follow name) z.links (same_dir fits z.node z.names way dir)
        ∙ ap (λ x. if x then fails TooLong [] else after_reads (record { parent = z.node; name = name } ∷ [])
        (named deeper (ground w) z.node follow z.links (child (begin_of w).nodes z.node name))) long

    -- a link to be followed
    pub link_reads : (name text : List ℕ) (t : ℕ) → IsLinkThere w z name text t
        → AllAlone (setting w) (reads_of (part_means deeper (ground w) z.node (Named true name) z.links))
        → part_means deeper (ground w) z.node (Named true name) z.links
        ≡ after_reads (record { parent = z.node; name = name } ∷ []) (link_in deeper (ground w) z.node text z.links)
    link_reads name text t is alone =
        let al = name_alone true name is.dir is.short alone in
        let there = sym (fits.steady (record { parent = z.node; name = name }) al t) ∙ is.child in
        let way_l = down_way fits z.node is.link name z.names way al there in
        name_in fits deeper z.node true name z.links (same_dir fits z.node z.names way is.dir) is.short
        ∙ ap (λ o. after_reads (record { parent = z.node; name = name } ∷ []) (named deeper (ground w) z.node true z.links o)) there
        ∙ ap (λ o. after_reads (record { parent = z.node; name = name } ∷ []) (child_is deeper (ground w) z.node true z.links is.link o))
        (same_object fits is.link (name ∷ z.names) way_l ∙ is.is_link)

    pub loops : (b : ℕ) (text : List ℕ) → (b ≡ 0) ⊎ (w.way.flags.no_links ≡ true) → link_in deeper (ground w) z.node text b ≡ fails Loop []
    loops zero text why = refl
    loops (suc b) text (inl e) = cc (e)
    loops (suc b) text (inr e) =
        ap (λ x. if x then fails Loop [] else (if leads_out (begins_with_slash text) w.way.flags then fails CrossRoot [] else deeper (from_of w.root z.node text) (followed (parts_of text)) b)) e

    -- an absolute one, under `beneath`
    pub crossing : (b left : ℕ) (text : List ℕ) → b ≡ suc left → w.way.flags.no_links ≡ false → leads_out (begins_with_slash text) w.way.flags ≡ true
        → link_in deeper (ground w) z.node text b ≡ fails CrossRoot []
    crossing zero left text e allowed crosses_it = cc (e)
    crossing (suc b) left text e allowed crosses_it =
        ap (λ x. if x then fails Loop [] else (if leads_out (begins_with_slash text) w.way.flags then fails CrossRoot [] else deeper (from_of w.root z.node text) (followed (parts_of text)) b)) allowed
        ∙ ap (λ x. if x then fails CrossRoot [] else deeper (from_of w.root z.node text) (followed (parts_of text)) b) crosses_it

    -- `..` at the root, under `beneath`
    pub root_fails : z.node ≡ w.root → w.way.flags.beneath ≡ true → part_means deeper (ground w) z.node Up z.links ≡ fails CrossRoot []
    root_fails is beneath =
        top_in fits deeper z.node z.links (ap (is_dir (begin_of w).nodes) is ∙ fits.root_dir) is
        ∙ ap (λ x. if x then fails CrossRoot [] else object z.node z.links []) beneath

  -- ---- where the names are, at each moment

  -- a `..` that moves can't go astray
  pub no_raced_up : (z : Spot) (name : List ℕ) (names : List (List ℕ)) → z.names ≡ name ∷ names → IsWay (setting w) z.node z.names → (t : ℕ)
      → (parent ((timeline w).nodes_at t) z.node ≡ None)
      ⊎ ((e : ℕ) × ((parent ((timeline w).nodes_at t) z.node ≡ Some e)
      × ((u : ℕ) × (IsOwnFrom (timeline w) (suc t) u × (Stands ((timeline w).nodes_at u) w.root e names → ⊥))))) → ⊥
  no_raced_up z name names passed way t why = on why
    where
      up : IsWay (setting w) z.node (name ∷ names)
      up = subst (IsWay (setting w) z.node) passed way

      is_parent : parent ((timeline w).nodes_at t) z.node ≡ Some up.1.0
      is_parent = parent_on fits t z.node name names up

      on : (parent ((timeline w).nodes_at t) z.node ≡ None)
          ⊎ ((e : ℕ) × ((parent ((timeline w).nodes_at t) z.node ≡ Some e)
          × ((u : ℕ) × (IsOwnFrom (timeline w) (suc t) u × (Stands ((timeline w).nodes_at u) w.root e names → ⊥))))) → ⊥
      on (inl none) = none-some up.1.0 (sym none ∙ is_parent)
      on (inr moved) = moved.1.1.1.1 (subst (λ x. Stands ((timeline w).nodes_at moved.1.1.0) w.root x names)
          (same_Some up.1.0 moved.0 (sym is_parent ∙ moved.1.0))
          (stands_on fits moved.1.1.0 up.1.0 names up.1.1.1.1))

  -- ---- the ends

  module _ (not_deep : is_deepest w.way.goal ≡ false) (inside : leads_out w.path.absolute w.way.flags ≡ false) where
    abbrev M : Meant
    M = path_means (ground w) (parts_of_walk w)

    module _ (alone : AllAlone (setting w) (reads_of M)) where
      followed_to : (z : Spot) (next : Option AskedPart) → Trail (timeline w) (parts_of_walk w) (start w) z next → Followed (setting w) M (start w) z next
      followed_to z next t = follow fits LINKS_MAX t (le_refl LINKS_MAX) refl alone

      -- the error of a stop is that of the meaning
      stop_fails : (z : Spot) (p : AskedPart) → Trail (timeline w) (parts_of_walk w) (start w) z (Some p) → (error : Errno)
          → ((deeper : Deeper) → IsWay (setting w) z.node z.names → AllAlone (setting w) (reads_of (part_means deeper (ground w) z.node p z.links))
          → (more : List Place) × (part_means deeper (ground w) z.node p z.links ≡ fails error more))
          → IsMeant M (failed error)
      stop_fails z p t error fails_there =
          let f = followed_to z (Some p) t in
          let e = fails_there f.says.deeper f.way f.says.alone in
          subst (λ m. IsMeant m (failed error)) (sym (f.says.failing error e.0 e.1)) refl

      meant_crossing : w.way.flags.beneath ≡ true → ((w.path.absolute ≡ true) × (w.lines ≡ [])) ⊎ (TellsUpFromRoot w ⊎ TellsAbsoluteLink w) → IsMeant M (failed CrossRoot)
      meant_crossing beneath (inl absolute) = absurd (false≢true (sym inside ∙ and_from w.way.flags.beneath w.path.absolute beneath absolute.0))
      meant_crossing beneath (inr (inl tells)) = stop_fails tells.to Up tells.stop CrossRoot
          (λ deeper way al. ([], root_fails deeper tells.to way tells.node beneath))
      meant_crossing beneath (inr (inr tells)) = stop_fails tells.to (Named true tells.name) tells.stop CrossRoot
          (λ deeper way al. (
            record { parent = tells.to.node; name = tells.name } ∷ [],
            link_reads deeper tells.to way tells.name tells.text tells.when tells.link al
                ∙ ap (after_reads (record { parent = tells.to.node; name = tells.name } ∷ []))
                (crossing deeper tells.to way tells.to.links tells.left tells.text tells.links tells.allowed
                (and_from w.way.flags.beneath (begins_with_slash tells.text) beneath tells.absolute)),
          ))

      no_race : TellsRacedUp w ⊎ (TellsRacedEnd w ⊎ TellsRacedDeepest w) → ⊥
      no_race (inl tells) = no_raced_up tells.to tells.name tells.names tells.passed (followed_to tells.to (Some Up) tells.stop).way tells.when tells.why
      no_race (inr (inl tells)) = tells.astray.astray
          (stands_on fits tells.when tells.to.node tells.to.names (followed_to tells.to None tells.trail).way)
      no_race (inr (inr tells)) = false≢true (sym not_deep ∙ tells.goal)

      meant_error : (error : Errno) → is_want error ≡ false → TellsError w error → IsMeant M (failed error)
      meant_error NotFound e tells = stop_fails tells.to (Named tells.follow tells.name) tells.stop NotFound
          (λ deeper way al. (record { parent = tells.to.node; name = tells.name } ∷ [], missing_fails deeper tells.to way tells.follow tells.name tells.when tells.short tells.missing al))
      meant_error NotDir e tells = stop_fails tells.to tells.next tells.stop NotDir
          (λ deeper way al. ([], no_dir_fails deeper tells.to way tells.next tells.what tells.is_what tells.no_dir))
      meant_error TooLong e tells = stop_fails tells.to (Named tells.follow tells.name) tells.stop TooLong
          (λ deeper way al. ([], long_fails deeper tells.to way tells.follow tells.name tells.dir tells.long))
      meant_error Loop e tells = stop_fails tells.to (Named true tells.name) tells.stop Loop
          (λ deeper way al. (
            record { parent = tells.to.node; name = tells.name } ∷ [],
            link_reads deeper tells.to way tells.name tells.text tells.when tells.link al
                ∙ ap (after_reads (record { parent = tells.to.node; name = tells.name } ∷ [])) (loops deeper tells.to way tells.to.links tells.text tells.used_up),
          ))
      meant_error CrossRoot e tells = meant_crossing tells.beneath tells.why
      meant_error Raced e tells = absurd (no_race tells)
      meant_error TooMany e tells = cc (e)
      meant_error NoMemory e tells = cc (e)
      meant_error BookFull e tells = cc (e)
      meant_error BadHandle e tells = absurd tells
      meant_error Busy e tells = absurd tells
      meant_error Exists e tells = absurd tells
      meant_error IsDir e tells = absurd tells
      meant_error Invalid e tells = absurd tells
      meant_error NotEmpty e tells = absurd tells

      -- the end is what the path means
      pub meant_end : (end : Turn) → is_for_want end ≡ false → Tells w end → IsEnd end → IsMeant M end
      meant_end (more walk) want tells is_end = absurd is_end
      meant_end (found handle names) want tells is_end =
          let f = followed_to tells.to None tells.trail in
          subst (λ m. IsMeant m (found handle names)) (sym f.says.1) (sym tells.node)
      meant_end (partial handle names rest) want tells is_end = absurd (false≢true (sym not_deep ∙ tells.goal))
      meant_end (failed error) want tells is_end = meant_error error want tells.true_once

  -- an absolute path under `beneath` has no other end
  pub only_crosses : (lines : List Line) (end : Turn) → LeadsTo w.way (failed CrossRoot) lines end → failed CrossRoot ≡ end
  only_crosses [] end leads = leads
  only_crosses (line ∷ lines) end leads = absurd leads

  pub tells_meaning : (end : Turn) → LeadsTo w.way (begins w.way w.path) w.lines end → Tells w end → Means w end
  tells_meaning end leads tells is_end not_deep want alone = on (leads_out w.path.absolute w.way.flags) refl
    where
      meaning : Bool → Meant
      meaning b = if b then fails CrossRoot [] else path_means (ground w) (parts_of_walk w)

      beginning : Bool → Turn
      beginning b = if b then failed CrossRoot else goes_on w.way root_itself (todo [] (parts_of_walk w) LINKS_MAX)

      on : (b : Bool) → leads_out w.path.absolute w.way.flags ≡ b → IsMeant (reading_means (ground w) w.path (follows w.way.goal)) end
      on true e = subst (λ m. IsMeant m end) (sym (ap meaning e))
          (subst (IsMeant (fails CrossRoot [])) (only_crosses w.lines end (subst (λ t. LeadsTo w.way t w.lines end) (ap beginning e) leads)) refl)
      on false e = subst (λ m. IsMeant m end) (sym (ap meaning e))
          (meant_end not_deep e (subst (λ m. AllAlone (setting w) (reads_of m)) (ap meaning e) (all_alone w _ alone)) end want tells is_end)
