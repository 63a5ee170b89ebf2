-- What each answer makes of a call keeps what is known of it.
use Rattle.std.specs.Prelude.{◌≡◌, ℕ, suc, ◌<◌, ◌≤◌, ◌⊎◌, List, [], ◌∷◌, ◌++◌, Bool, true, false, if◌then◌else◌, length, reverse, Some, None, Ok, refl}
use Rattle.std.proofs.Common.{sym, ap, subst, ◌∙◌, le_refl, le_trans, append-nil, append_assoc, inl, inr, arith}
use Rattle.std.proofs.Math.Nat.{le-suc}
use Rattle.std.proofs.lemmas.List.{reverse-append}
use Rattle.std.proofs.lemmas.Bool.{false≢true, leb-true}
use Rattle.path_text.specs.declared.errno.Errno.{Errno}
use Rattle.path_text.specs.declared.errno.Errno.TheVariants.{NotFound, Raced, Exists, NotDir, TooMany, TooLong}
use Rattle.tree_model.specs.declared.answer.Answer.{Answer}
use Rattle.tree_model.specs.declared.answer.Answer.TheVariants.{Opened, Names, NotBelow, Done, Refused}
use Rattle.tree_model.specs.declared.inode.Inode.{Inode}
use Rattle.tree_model.specs.declared.inode.Object.{Object}
use Rattle.tree_model.specs.declared.inode.Object.TheVariants.{Dir}
use Rattle.tree_model.specs.StepWith.{StepWith}
use Rattle.tree_model.specs.declared.step.StepOf.TheVariants.{Open, NameBelow, Close, MakeDir}
use Rattle.tree_model.specs.declared.tree.TheConstants.{NUMBERS_MAX}
use Rattle.tree_model.specs.State.{State, Stands, object_at, place_at, child, is_dir, is_directory, is_gone}
use Rattle.tree_model.specs.Entries.{makes}
use Rattle.tree_model.specs.Steps.{outcome, opens, kind_of}
use Rattle.tree_model.specs.Steps.{held as holding}
use Rattle.step_resolver.specs.Asked.{AskedPart, Cur, Up, Named}
use Rattle.step_resolver.specs.Meaning.{is_too_long}
use Rattle.step_resolver.specs.Trail.{down_to}
use Rattle.step_resolver.specs.Order.{Handle, holds, is_dir_kind}
use Rattle.step_resolver.specs.WalkHistory.{WalkInHistory, state_at, timeline}
use Rattle.tree_model.proofs.Children.{entry, place_at-child, child-entry}
use Rattle.tree_model.proofs.Places.{place_at-last}
use Rattle.step_resolver.proofs.Meaning.NodesAtEntries.{object_at-place}
use Rattle.step_resolver.proofs.Trail.Joined.{own_earlier}
use Rattle.step_resolver.proofs.Underway.StepOutcomes.{IsMore, IsLess, Close-is_less, Opening, too_many, no_object, is_opened, opening_of, OpenCase, no_dir, no_child, at_child, open_case}
use Rattle.step_resolver.proofs.Underway.WalkInvariant.{Lived, StepAt, held_at, HandlesAre, handles_kept, handles_more, handles_less, root_open, IsHeld, held_kept, held_less, old_is_other, dir_at}
use Rattle.step_resolver.proofs.Underway.HandleCount.{few_held}
use Rattle.step_resolver.proofs.Underway.HandlesHeld.{handles_swapped, kept_on, more_on}
use Rattle.step_resolver.proofs.Underway.LegalHistory.{TreeLaws, IsAlone}
use Rattle.step_resolver.proofs.Underway.NextPart.{a_directory, no_directory}
use Rattle.bulk_ops.specs.MakeAllOrder.{making, opening, leaving, ending, closing, MakeTurn, more, made, rest_fault, rest_names, gives_up, take, enters}
use Rattle.bulk_ops.specs.MakeAllTells.{into, AtName, Reach, not_begun, begun, MayDo, MakingCause, full, gone, missing, not_directory, astray}
use Rattle.bulk_ops.specs.WalkFirst.{event_at, LeavesEntries}
use Rattle.bulk_ops.proofs.MakeAllGood.{DidUntil, Chained, OnWay, Shown, OnWayIn, Failing, GoodCall, GoodTurn, did_further, gives_up_good, goes_down_good, chained_later, MakeCase, dir_gone, is_there, no_number, is_made, make_case, BelowCase, stands_there, stands_elsewhere, stands_nowhere, below_case, below_kept, below_nodes}

-- each name of a rest without fault is short enough
not_empty : (xs : List (List ℕ)) (n : List ℕ) (ys : List (List ℕ)) → [] ≡ xs ++ n ∷ ys → ⊥
not_empty [] n ys e = cc (e)
not_empty (x ∷ xs) n ys e = cc (e)

short_at : (rest : List AskedPart) → rest_fault rest ≡ None → (xs : List (List ℕ)) (n : List ℕ) (ys : List (List ℕ)) → rest_names rest ≡ xs ++ n ∷ ys → is_too_long n ≡ false
short_at [] whole xs n ys e = absurd (not_empty xs n ys e)
short_at (Cur ∷ rest) whole xs n ys e = short_at rest whole xs n ys e
short_at (Up ∷ rest) whole xs n ys e = cc (whole)
short_at (Named follow m ∷ rest) whole xs n ys e = on (is_too_long m) refl xs e (λ f zs g. short_at rest f zs n ys g)
  where
    too_long : None ≡ Some TooLong → is_too_long n ≡ false
    too_long f = cc (f)

    on : (b : Bool) → is_too_long m ≡ b → (xs : List (List ℕ)) → m ∷ rest_names rest ≡ xs ++ n ∷ ys
        → (rest_fault rest ≡ None → (zs : List (List ℕ)) → rest_names rest ≡ zs ++ n ∷ ys → is_too_long n ≡ false) → is_too_long n ≡ false
    on true q xs e further = too_long (sym whole ∙ ap (λ b. if b then Some TooLong else rest_fault rest) q)
    on false q [] e further = let same : m ≡ n = cc (e) in sym (ap is_too_long same) ∙ q
    on false q (x ∷ xs) e further =
        let others : rest_names rest ≡ xs ++ n ∷ ys = cc (e) in
        further (sym (ap (λ b. if b then Some TooLong else rest_fault rest) q) ∙ whole) xs others

-- the directory that is held, and that it is one at that moment
record IsDirAt (w : WalkInHistory) (t h x : ℕ) : Type 0 where
  pub is_open : held_at w t h ≡ Some x
  pub dir : is_dir (state_at w t).nodes x ≡ true

module _ {w : WalkInHistory} (lived : Lived w) (now t : ℕ) (held : Handle) (names : List (List ℕ)) (n : List ℕ) (left : List (List ℕ))
    (way : OnWay w now held names (n ∷ left) (held.number ∷ [])) (answer : Answer) (alone : IsAlone w now t) where
  abbrev c : Chained w now way.p held names (n ∷ left)
  c = way.chained

  dir_then : (step : StepWith ℕ) → StepAt w now t step answer → IsDirAt w t held.number held.node
  dir_then step is =
      let open_then : held_at w t held.number ≡ Some held.node = is.kept held.number ∙ c.is_held.is_open in
      record { is_open = open_then; dir = dir_at lived t held.number held.node open_then ∙ ap (λ x. is_directory ((timeline w).object_of x)) (sym c.node) ∙ c.dir }

  at_name : (step : StepWith ℕ) → StepAt w now t step answer → AtName w way.p c.to n t
  at_name step is = record { passed = c.passed; left = left; names = c.split; down = c.down; at = own_earlier (timeline w) c.past is.at }

  past_now : (step : StepWith ℕ) → StepAt w now t step answer → now ≤ suc t
  past_now step is = le_trans is.at.later (le-suc t)

  event_as : (step : StepWith ℕ) → StepAt w now t step answer → (v : Answer) → answer ≡ v → event_at w t step v
  event_as step is v told = is.event ∙ ap (λ u. Some (record { actor = w.actor; step = step; answer = u })) told

  -- the call fails here, where the step changed no handle
  fails_here : (error : Errno) → ((h : ℕ) → held_at w (suc t) h ≡ held_at w now h) → MayDo w (begun way.p) t → MakingCause w way.p error
      → GoodTurn w (suc t) (gives_up (held.number ∷ []) error)
  fails_here error kept did cause = record {
    reach = begun way.p;
    did = did_further (begun way.p) way.did alone did;
    cause = (c.whole, cause);
    handles = handles_kept kept way.handles;
  }

  -- ---- MakeDir

  abbrev s : State
  s = state_at w t

  module _ (room : Bool) (is : StepAt w now t (MakeDir held.number n) answer) where
    made_as : (v : Answer) → answer ≡ v → GoodTurn w (suc t) (take w.way room (making held names n left) v) → GoodTurn w (suc t) (take w.way room (making held names n left) answer)
    made_as v e g = subst (λ u. GoodTurn w (suc t) (take w.way room (making held names n left) u)) (sym e) g

    abbrev made_inode : Inode
    made_inode = record { object = Dir; place = Some (record { parent = held.node; name = n }) }

    nodes_left : (outcome s w.actor (MakeDir held.number n)).after ≡ s → LeavesEntries w t
    nodes_left same = ap (λ x. x.nodes) (is.after ∙ same)

    to_opening : ((h : ℕ) → held_at w (suc t) h ≡ held_at w now h) → MayDo w (begun way.p) t → (v : Answer) → answer ≡ v
        → (v ≡ Done) ⊎ (v ≡ Refused Exists) → (entry : ℕ) → child (state_at w (suc t)).nodes held.node n ≡ Some entry → OnWayIn w (suc t) held names n left
    to_opening kept did v told so entry child_is = record {
      way = record {
        p = way.p;
        chained = chained_later (past_now (MakeDir held.number n) is) kept c;
        handles = handles_kept kept way.handles;
        did = did_further (begun way.p) way.did alone did;
      };
      shown = record {
        first = t;
        is_now = refl;
        at = own_earlier (timeline w) c.past is.at;
        there = record {
          answer = v;
          event = event_as (MakeDir held.number n) is v told;
          told = so;
          entry = entry;
          child = ap (λ d. child (state_at w (suc t)).nodes d n) c.node ∙ child_is;
        };
      };
    }

    on_case : MakeCase s held.node n (outcome s w.actor (MakeDir held.number n)) → GoodTurn w (suc t) (take w.way room (making held names n left) answer)
    on_case (dir_gone g o) = made_as (Refused NotFound) (is.told ∙ ap (λ r. r.answer) o)
        (fails_here Raced (kept_on is (ap (λ r. r.after) o)) (inl (nodes_left (ap (λ r. r.after) o)))
        (gone c.to n held.number t (at_name (MakeDir held.number n) is)
        (event_as (MakeDir held.number n) is (Refused NotFound) (is.told ∙ ap (λ r. r.answer) o)) (ap (is_gone s.nodes) c.node ∙ g)))
    on_case (is_there x child_is o) = made_as (Refused Exists) (is.told ∙ ap (λ r. r.answer) o)
        (to_opening (kept_on is (ap (λ r. r.after) o)) (inl (nodes_left (ap (λ r. r.after) o))) (Refused Exists) (is.told ∙ ap (λ r. r.answer) o) (inr refl)
        x (ap (λ (ns : List Inode). child ns held.node n) (nodes_left (ap (λ r. r.after) o)) ∙ child_is))
    on_case (no_number many o) = made_as (Refused TooMany) (is.told ∙ ap (λ r. r.answer) o)
        (fails_here TooMany (kept_on is (ap (λ r. r.after) o)) (inl (nodes_left (ap (λ r. r.after) o)))
        (full t (MakeDir held.number n) (event_as (MakeDir held.number n) is (Refused TooMany) (is.told ∙ ap (λ r. r.answer) o)) (ap (λ r. r.answer) o)
        (inr (leb-true NUMBERS_MAX (length s.nodes) many))))
    on_case (is_made alive e o) =
        let after : (state_at w (suc t)).nodes ≡ s.nodes ++ made_inode ∷ [] = ap (λ (x : State). x.nodes)
        (is.after ∙ ap (λ r. r.after) o) in
        made_as Done (is.told ∙ ap (λ r. r.answer) o)
        (to_opening (λ h. ap (λ x. holding x w.actor h) (is.after ∙ ap (λ r. r.after) o) ∙ is.kept h)
        (inr (record {
          dir = c.to;
          name = n;
          at_name = at_name (MakeDir held.number n) is;
          makes = subst (λ x. makes s.nodes x n Dir ≡ Ok (state_at w (suc t)).nodes) (sym c.node) (e ∙ ap (λ (x : State). Ok x.nodes) (sym (is.after ∙ ap (λ r. r.after) o)));
        }))
        Done (is.told ∙ ap (λ r. r.answer) o) (inl refl) (length s.nodes)
        (child-entry (state_at w (suc t)).nodes (lived.states (suc t)).tree held.node n (length s.nodes)
        (ap (λ (ns : List Inode). place_at ns (length s.nodes)) after ∙ place_at-last s.nodes made_inode)))

    pub making_good : GoodTurn w (suc t) (take w.way room (making held names n left) answer)
    making_good =
        let dir = dir_then (MakeDir held.number n) is in
        on_case (make_case s w.actor held.number n held.node dir.is_open dir.dir)

  -- ---- Open

  module _ (room : Bool) (is : StepAt w now t (Open held.number n) answer) (shown : Shown w now held.number n c.to) where
    opened_as : (v : Answer) → answer ≡ v → GoodTurn w (suc t) (take w.way room (opening held names n left) v) → GoodTurn w (suc t) (take w.way room (opening held names n left) answer)
    opened_as v e g = subst (λ u. GoodTurn w (suc t) (take w.way room (opening held names n left) u)) (sym e) g

    same_nodes : (after : State) → (outcome s w.actor (Open held.number n)).after ≡ after → after.nodes ≡ s.nodes → LeavesEntries w t
    same_nodes after e same = ap (λ (x : State). x.nodes) (is.after ∙ e) ∙ same

    module _ (x : ℕ) (what : Object) (child_is : child s.nodes held.node n ≡ Some x) (is_what : object_at s.nodes x ≡ Some what)
        (new : IsMore s w.actor (state_at w (suc t)) (length s.handles) x) (nodes : LeavesEntries w t) where
      abbrev new_handle : Handle
      new_handle = record { number = length s.handles; node = x; kind = kind_of what }

      new_held : IsHeld w (suc t) new_handle
      new_held = record { is_open = new.is_open; what = what; is_what = lived.objects t x what is_what; kind = refl }

      handles_now : HandlesAre w (suc t) (length s.handles ∷ held.number ∷ [])
      handles_now = handles_more (handles_kept is.kept way.handles) new

      child_there : child s.nodes c.to.node n ≡ Some x
      child_there = ap (λ d. child s.nodes d n) c.node ∙ child_is

      did_now : DidUntil w (begun way.p) (suc t)
      did_now = did_further (begun way.p) way.did alone (inl nodes)

      gone_in : is_dir_kind (kind_of what) ≡ true → is_too_long n ≡ false → GoodTurn w (suc t) (more (leaving held.number new_handle (n ∷ names) left))
      gone_in dir short = (
        record {
          p = way.p;
          chained = record {
            whole = c.whole;
            passed = n ∷ c.passed;
            split = c.split ∙ sym (append_assoc (reverse c.passed) (n ∷ []) left) ∙ ap (λ (ns : List (List ℕ)). ns ++ left) (sym (reverse-append (n ∷ []) c.passed));
            to = down_to c.to x n (suc t);
            down = into n t x c.down (record { dir = c.dir; short = short; at = own_earlier (timeline w) c.past is.at; child = child_there })
                (ap is_directory (lived.objects t x what is_what) ∙ a_directory what dir);
            node = refl;
            at_names = ap (λ (ns : List (List ℕ)). n ∷ ns) c.at_names;
            names_are = ap (λ (ns : List (List ℕ)). n ∷ ns) c.names_are;
            past = le_refl (suc t);
            dir = ap is_directory (lived.objects t x what is_what) ∙ a_directory what dir;
            kind = dir;
            is_held = new_held;
          };
          handles = handles_swapped handles_now;
          did = did_now;
        },
        λ e. old_is_other (held_kept is.kept c.is_held) new (sym e),
      )

      not_in : is_dir_kind (kind_of what) ≡ false → GoodTurn w (suc t) (gives_up (length s.handles ∷ held.number ∷ []) NotDir)
      not_in other = record {
        reach = begun way.p;
        did = did_now;
        cause = (c.whole, not_directory c.to n t x (at_name (Open held.number n) is) child_there (ap is_directory (lived.objects t x what is_what) ∙ no_directory what other));
        handles = handles_now;
      }

      opened_good : is_too_long n ≡ false → GoodTurn w (suc t) (enters held names n left new_handle)
      opened_good short = on (is_dir_kind (kind_of what)) refl
        where
          after : Bool → MakeTurn
          after b = if b then more (leaving held.number new_handle (n ∷ names) left) else gives_up (length s.handles ∷ held.number ∷ []) NotDir

          on : (b : Bool) → is_dir_kind (kind_of what) ≡ b → GoodTurn w (suc t) (enters held names n left new_handle)
          on true e = subst (GoodTurn w (suc t)) (sym (ap after e)) (gone_in e short)
          on false e = subst (GoodTurn w (suc t)) (sym (ap after e)) (not_in e)

    on_opening : (x : ℕ) → child s.nodes held.node n ≡ Some x → outcome s w.actor (Open held.number n) ≡ opens s w.actor x
        → Opening s w.actor x (opens s w.actor x) → GoodTurn w (suc t) (take w.way room (opening held names n left) answer)
    on_opening x e o (too_many f q) = opened_as (Refused TooMany) (is.told ∙ ap (λ r. r.answer) (o ∙ q))
        (fails_here TooMany (kept_on is (ap (λ r. r.after) (o ∙ q))) (inl (same_nodes s (ap (λ r. r.after) (o ∙ q)) refl))
        (full t (Open held.number n) (event_as (Open held.number n) is (Refused TooMany) (is.told ∙ ap (λ r. r.answer) (o ∙ q))) (ap (λ r. r.answer) (o ∙ q)) (inl (f, few_held w t (holds held names) (handles_kept is.kept way.handles)))))
    on_opening x e o (no_object z q) =
        absurd (object_at-place s.nodes x (entry held.node n) (place_at-child s.nodes held.node n x e) z)
    on_opening x e o (is_opened what z q) = opened_as (Opened (length s.handles) x (kind_of what)) (is.told ∙ ap (λ r. r.answer) (o ∙ q))
        (opened_good x what e z (more_on is x (ap (λ r. r.after) (o ∙ q))) (same_nodes _ (ap (λ r. r.after) (o ∙ q)) refl)
        (short_at way.p.rest c.whole (reverse c.passed) n left c.split))

    since : now ≤ t → shown.first < t
    since le = let e = shown.is_now in omega (arith, e, le)

    from_now : (k : ℕ) → shown.first < k → now ≤ k
    from_now k after = let e = shown.is_now in omega (arith, e, after)

    on_open_case : OpenCase s w.actor held.node n (outcome s w.actor (Open held.number n)) → GoodTurn w (suc t) (take w.way room (opening held names n left) answer)
    on_open_case (no_dir e o) = absurd (false≢true (sym e ∙ (dir_then (Open held.number n) is).dir))
    on_open_case (no_child e o) = opened_as (Refused NotFound) (is.told ∙ ap (λ r. r.answer) o)
        (fails_here Raced (kept_on is (ap (λ r. r.after) o)) (inl (same_nodes s (ap (λ r. r.after) o) refl))
        (missing (record {
          dir = c.to;
          name = n;
          handle = held.number;
          first = shown.first;
          at_name = record { passed = c.passed; left = left; names = c.split; down = c.down; at = shown.at };
          there = shown.there;
          when = t;
          later = since (is.at.later);
          between = λ k after before. alone.none k (from_now k after) before;
          refused = event_as (Open held.number n) is (Refused NotFound) (is.told ∙ ap (λ r. r.answer) o);
          missing = ap (λ d. child s.nodes d n) c.node ∙ e;
        })))
    on_open_case (at_child x e o) = on_opening x e o (opening_of s w.actor x)

    pub opening_good : GoodTurn w (suc t) (take w.way room (opening held names n left) answer)
    opening_good = on_open_case (open_case s w.actor held.number n held.node (dir_then (Open held.number n) is).is_open)

-- ---- Close

closed_nodes : (laws : TreeLaws) {w : WalkInHistory} {now t : ℕ} {h : ℕ} {answer : Answer} → StepAt w now t (Close h) answer → LeavesEntries w t
closed_nodes laws {w} {now} {t} {h} is = ap (λ (s : State). s.nodes) is.after ∙ laws.nodes (state_at w t) w.actor (Close h) refl

closed : {w : WalkInHistory} {now t : ℕ} {h : ℕ} {answer : Answer} → StepAt w now t (Close h) answer → IsLess (state_at w t) w.actor (state_at w (suc t)) h
closed {w} {now} {t} {h} is = subst (λ s. IsLess (state_at w t) w.actor s h) (sym is.after) (Close-is_less (state_at w t) w.actor h)

module _ (laws : TreeLaws) {w : WalkInHistory} (lived : Lived w) (now t : ℕ) (answer : Answer) (alone : IsAlone w now t) where
  pub leaving_good : (room : Bool) (old : ℕ) (new : Handle) (names left : List (List ℕ)) → GoodCall w now (leaving old new names left)
      → StepAt w now t (Close old) answer → GoodTurn w (suc t) (take w.way room (leaving old new names left) answer)
  leaving_good room old new names left good is =
      let c = good.0.chained in
      goes_down_good new names left (record {
        p = good.0.p;
        chained = record {
          whole = c.whole;
          passed = c.passed;
          split = c.split;
          to = c.to;
          down = c.down;
          node = c.node;
          at_names = c.at_names;
          names_are = c.names_are;
          past = le_trans c.past (le_trans is.at.later (le-suc t));
          dir = c.dir;
          kind = c.kind;
          is_held = held_less (closed is) good.1 (held_kept is.kept c.is_held);
        };
        handles = handles_less (handles_kept is.kept good.0.handles) (closed is);
        did = did_further (begun good.0.p) good.0.did alone (inl (closed_nodes laws is));
      })

  close_did : (reach : Reach w) → LeavesEntries w t → MayDo w reach t
  close_did not_begun same = same
  close_did (begun p) same = inl same

  pub closing_good : (room : Bool) (h : ℕ) (hs : List ℕ) (error : Errno) → Failing w now error (h ∷ hs) → StepAt w now t (Close h) answer
      → GoodTurn w (suc t) (take w.way room (closing h hs error) answer)
  closing_good room h hs error failing is = gives_up_good hs error (record {
    reach = failing.reach;
    did = did_further failing.reach failing.did alone (close_did failing.reach (closed_nodes laws is));
    cause = failing.cause;
    handles = handles_less (handles_kept is.kept failing.handles) (closed is);
  })

  -- ---- the last NameBelow

  module _ (room : Bool) (held : Handle) (names : List (List ℕ)) (way : OnWay w now held names [] (held.number ∷ []))
      (is : StepAt w now t (NameBelow w.way.root held.number) answer) where
    abbrev last : Chained w now way.p held names []
    last = way.chained

    kept : (h : ℕ) → held_at w (suc t) h ≡ held_at w now h
    kept = below_kept lived now t held.number held.node names answer is (root_open lived way.handles) last.is_held.is_open

    did_all : DidUntil w (begun way.p) (suc t)
    did_all = did_further (begun way.p) way.did alone (inl (below_nodes lived now t held.number held.node names answer is (root_open lived way.handles) last.is_held.is_open))

    stands_as : (Stands (state_at w t).nodes w.root held.node names) → Stands (state_at w t).nodes w.root last.to.node last.to.names
    stands_as st = subst (λ x. Stands (state_at w t).nodes w.root x last.to.names) (sym last.node) (subst (λ ns. Stands (state_at w t).nodes w.root held.node ns) (sym last.at_names) st)

    stands_back : Stands (state_at w t).nodes w.root last.to.node last.to.names → Stands (state_at w t).nodes w.root held.node names
    stands_back st = subst (λ x. Stands (state_at w t).nodes w.root x names) last.node (subst (λ ns. Stands (state_at w t).nodes w.root last.to.node ns) last.at_names st)

    ended_made : Stands (state_at w t).nodes w.root held.node names → GoodTurn w (suc t) (made held names)
    ended_made st = record {
      p = way.p;
      did = did_all;
      last = record {
        chained = chained_later (le_trans is.at.later (le-suc t)) kept last;
        when = t;
        is_now = refl;
        stood = record { at = own_earlier (timeline w) last.past is.at; stands = stands_as st };
      };
      handles = handles_kept kept way.handles;
    }

    ended_raced : (Stands (state_at w t).nodes w.root held.node names → ⊥) → GoodTurn w (suc t) (gives_up (held.number ∷ []) Raced)
    ended_raced st = record {
      reach = begun way.p;
      did = did_all;
      cause = (last.whole, astray last.passed last.to t (last.split ∙ append-nil (reverse last.passed)) last.down (own_earlier (timeline w) last.past is.at) (λ q. st (stands_back q)));
      handles = handles_kept kept way.handles;
    }

    ended_as : (v : Answer) → answer ≡ v → GoodTurn w (suc t) (take w.way room (ending held names) v) → GoodTurn w (suc t) (take w.way room (ending held names) answer)
    ended_as v e g = subst (λ u. GoodTurn w (suc t) (take w.way room (ending held names) u)) (sym e) g

    on_below : BelowCase w t held.node names answer → GoodTurn w (suc t) (take w.way room (ending held names) answer)
    on_below (stands_there told e same st) =
        ended_as (Names told) e (subst (GoodTurn w (suc t)) (sym (ap (λ b. if b then made held names else gives_up (held.number ∷ []) Raced) same)) (ended_made st))
    on_below (stands_elsewhere told e same st) =
        ended_as (Names told) e (subst (GoodTurn w (suc t)) (sym (ap (λ b. if b then made held names else gives_up (held.number ∷ []) Raced) same)) (ended_raced st))
    on_below (stands_nowhere e st) = ended_as NotBelow e (ended_raced st)

    pub ending_good : GoodTurn w (suc t) (take w.way room (ending held names) answer)
    ending_good = on_below (below_case lived now t held.number held.node names answer is (root_open lived way.handles) last.is_held.is_open)
