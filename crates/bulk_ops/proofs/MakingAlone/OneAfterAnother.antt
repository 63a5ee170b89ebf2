-- One step after another, where nobody else acts: what is held, what was made, and what is still to be added.
use Rattle.std.proofs.Common.{◌≡◌, ◌≢◌, ◌⊎◌, inl, inr, ℕ, suc, Bool, true, false, if◌then◌else◌, List, [], ◌∷◌, ◌++◌, length, reverse, Some, None, refl, sym, ap, ◌∙◌, subst, append-nil, append_assoc}
use Rattle.std.proofs.lemmas.Bool.{false≢true, true≢false}
use Rattle.std.proofs.lemmas.Option.{none-some, same_Some}
use Rattle.path_text.specs.declared.errno.Errno.{Errno}
use Rattle.path_text.specs.declared.errno.Errno.TheVariants.{Raced, NoMemory, BookFull}
use Rattle.tree_model.specs.declared.answer.Answer.{Answer}
use Rattle.tree_model.specs.declared.answer.Answer.TheVariants.{Opened, Refused}
use Rattle.tree_model.specs.declared.inode.Inode.{Inode}
use Rattle.tree_model.specs.declared.inode.Object.{Object}
use Rattle.tree_model.specs.declared.inode.Object.TheVariants.{Dir}
use Rattle.tree_model.specs.StepWith.{StepWith}
use Rattle.tree_model.specs.declared.step.StepOf.TheVariants.{Open, NameBelow, Close, MakeDir}
use Rattle.tree_model.specs.State.{State, Stands, object_at, child, is_dir, is_directory, is_gone}
use Rattle.tree_model.specs.Steps.{Outcome, outcome, opens, shows, with_handle, kind_of}
use Rattle.tree_model.specs.Steps.{held as holding}
use Rattle.tree_model.specs.Trees.{IsState}
use Rattle.tree_model.specs.History.{IsLegal, after_events}
use Rattle.tree_model.proofs.StepsKept.{steps_keep_trees}
use Rattle.tree_model.proofs.StepLaws.{nodes_are_left}
use Rattle.tree_model.proofs.Standing.{names_below-Stands, Stands-append}
use Rattle.tree_model.proofs.PlaceLaws.{below_is}
use Rattle.handles.proofs.SameNames.{same_where_equal}
use Rattle.step_resolver.specs.Order.{Way, Handle, Line, answered, no_room, not_made, IsWant, is_close, events_of}
use Rattle.step_resolver.specs.Footprint.{is_want}
use Rattle.step_resolver.proofs.Underway.StepOutcomes.{IsMore, with_handle-is_more, IsLess, Close-is_less, Opening, too_many, no_object, is_opened, opening_of, OpenCase, no_dir, no_child, at_child, open_case}
use Rattle.bulk_ops.specs.MakeAllOrder.{Making, walking, making, opening, leaving, ending, closing, MakeTurn, more, made, failed, gives_up, goes_down, take, due, LeadsTo}
use Rattle.bulk_ops.specs.MakeAllQuiet.{chain_of, last_of, MakeMeant, refuses, gives, rest_means, IsMeantEnd, IsPartOf, MakingComesTo, IsOver}
use Rattle.bulk_ops.proofs.MakeAllGood.{MakeCase, dir_gone, is_there, no_number, is_made, make_case}
use Rattle.bulk_ops.proofs.MakingAlone.NewDirectories.{length-one_more, dir_stays, with_new, new_inode, new_is_dir, new_not_gone, new_is_found, new_is_empty, new_stands}

-- ---- what is known

-- a directory below the root is open beside the root's own handle, and nodes were only added
pub record Ready (s : State) (a : ℕ) (way : Way) (r : ℕ) (base : List Inode) (held : Handle) (names : List (List ℕ)) : Type 0 where
  pub tree : IsState s
  pub root : holding s a way.root ≡ Some r
  pub root_dir : is_dir s.nodes r ≡ true
  pub is_open : holding s a held.number ≡ Some held.node
  pub dir : is_dir s.nodes held.node ≡ true
  pub stands : Stands s.nodes r held.node names
  pub apart : held.number ≢ way.root
  pub new : List Inode
  pub grown : s.nodes ≡ base ++ new

-- a directory without entries, in which these names are still to be made
pub record Fresh (nodes : List Inode) (meant : MakeMeant) (c : ℕ) (left : List (List ℕ)) : Type 0 where
  pub empty : (m : List ℕ) → child nodes c m ≡ None
  pub not_gone : is_gone nodes c ≡ false
  pub goal : meant ≡ gives (last_of (length nodes) c left) (nodes ++ chain_of (length nodes) c left)

-- d has a directory c at that name, which was just made
pub record JustMade (nodes : List Inode) (meant : MakeMeant) (r d : ℕ) (names : List (List ℕ)) (n : List ℕ) (left : List (List ℕ)) (c : ℕ) : Type 0 where
  pub found : child nodes d n ≡ Some c
  pub dir : object_at nodes c ≡ Some Dir
  pub stands : Stands nodes r c (n ∷ names)
  pub fresh : Fresh nodes meant c left

-- the first name is missing
pub record Lacks (nodes base : List Inode) (meant : MakeMeant) (d : ℕ) (n : List ℕ) (left : List (List ℕ)) : Type 0 where
  pub missing : child nodes d n ≡ None
  pub goal : meant ≡ rest_means nodes d None (n ∷ left)
  pub none_made : is_gone nodes d ≡ true → nodes ≡ base

-- it is a want, and some of what is meant was made; or that error is meant, and nothing was made
abbrev pub Fails : List Inode → List Inode → MakeMeant → Errno → Type 0
Fails nodes base meant error = ((is_want error ≡ true) × IsPartOf base nodes meant) ⊎ ((meant ≡ refuses error) × (nodes ≡ base))

-- what is still to be added is left out
part_left : (base nodes new left : List Inode) (x : ℕ) (meant : MakeMeant) → nodes ≡ base ++ new → meant ≡ gives x (nodes ++ left) → IsPartOf base nodes meant
part_left base nodes new left x meant grown goal =
    subst (IsPartOf base nodes) (sym goal) (record { new = new; left_out = left; is_after = grown; is_whole = refl })

is_some_other : (s : State) (a h k x : ℕ) → holding s a h ≡ None → holding s a k ≡ Some x → k ≢ h
is_some_other s a h k x none some e = none-some x (sym none ∙ ap (λ j. holding s a j) (sym e) ∙ some)

module _ (a : ℕ) (way : Way) (r : ℕ) (base : List Inode) (meant : MakeMeant) where
  abbrev pub GoodCall : State → Making → Type 0
  GoodCall s (walking walker) = ⊥
  GoodCall s (making held names n left) = Ready s a way r base held names × Lacks s.nodes base meant held.node n left
  GoodCall s (opening held names n left) = Ready s a way r base held names × ((c : ℕ) × JustMade s.nodes meant r held.node names n left c)
  GoodCall s (leaving old new names left) = Ready s a way r base new names × (Fresh s.nodes meant new.node left × ((old ≢ new.number) × (old ≢ way.root)))
  GoodCall s (ending held names) = Ready s a way r base held names × (meant ≡ gives held.node s.nodes)
  GoodCall s (closing h hs error) = Fails s.nodes base meant error

  abbrev pub GoodTurn : State → MakeTurn → Type 0
  GoodTurn s (more call) = GoodCall s call
  GoodTurn s (made handle names) = (meant ≡ gives handle.node s.nodes) × Stands s.nodes r handle.node names
  GoodTurn s (failed error) = Fails s.nodes base meant error

  pub gives_up_good : (s : State) (hs : List ℕ) (error : Errno) → Fails s.nodes base meant error → GoodTurn s (gives_up hs error)
  gives_up_good s [] error fails = fails
  gives_up_good s (h ∷ hs) error fails = fails

  -- what is still to be added where the directory isn't gone
  goal_with : List Inode → ℕ → List (List ℕ) → Bool → MakeMeant
  goal_with nodes d names b = if b then refuses Raced else gives (last_of (length nodes) d names) (nodes ++ chain_of (length nodes) d names)

  goes_down_good : (s : State) (held : Handle) (names left : List (List ℕ)) → Ready s a way r base held names → Fresh s.nodes meant held.node left
      → GoodTurn s (goes_down held names left)
  unfolding goal_with
  goes_down_good s held names [] ready fresh = (ready, fresh.goal ∙ ap (gives held.node) (append-nil s.nodes))
  goes_down_good s held names (n ∷ left) ready fresh = (
    ready,
    record {
      missing = fresh.empty n;
      goal = fresh.goal ∙ sym (ap (goal_with s.nodes held.node (n ∷ left)) fresh.not_gone);
      none_made = λ g. absurd (false≢true (sym fresh.not_gone ∙ g));
    },
  )

  -- what was made so far is a part of what is meant
  lacks_part : (s : State) (held : Handle) (names : List (List ℕ)) (n : List ℕ) (left : List (List ℕ)) → Ready s a way r base held names
      → Lacks s.nodes base meant held.node n left → IsPartOf base s.nodes meant
  unfolding goal_with
  lacks_part s held names n left ready lacks = on (is_gone s.nodes held.node) refl
    where
      goal_is : (b : Bool) → is_gone s.nodes held.node ≡ b → meant ≡ goal_with s.nodes held.node (n ∷ left) b
      goal_is b e = lacks.goal ∙ ap (goal_with s.nodes held.node (n ∷ left)) e

      on : (b : Bool) → is_gone s.nodes held.node ≡ b → IsPartOf base s.nodes meant
      on true e = subst (IsPartOf base s.nodes) (sym (goal_is true e)) (lacks.none_made e)
      on false e = part_left base s.nodes ready.new (chain_of (length s.nodes) held.node (n ∷ left)) (last_of (length s.nodes) held.node (n ∷ left)) meant ready.grown (goal_is false e)

  fresh_part : (s : State) (held : Handle) (names : List (List ℕ)) (c : ℕ) (left : List (List ℕ)) → Ready s a way r base held names
      → Fresh s.nodes meant c left → IsPartOf base s.nodes meant
  fresh_part s held names c left ready fresh =
      part_left base s.nodes ready.new (chain_of (length s.nodes) c left) (last_of (length s.nodes) c left) meant ready.grown fresh.goal

  part_so_far : (s : State) (call : Making) → is_close (due way call) ≡ false → GoodCall s call → IsPartOf base s.nodes meant
  part_so_far s (walking walker) e good = absurd good
  part_so_far s (making held names n left) e good = lacks_part s held names n left good.0 good.1
  part_so_far s (opening held names n left) e good = fresh_part s held names good.1.0 left good.0 good.1.1.fresh
  part_so_far s (leaving old new names left) e good = fresh_part s new names new.node left good.0 good.1.0
  part_so_far s (ending held names) e good =
      part_left base s.nodes good.0.new [] held.node meant good.0.grown (good.1 ∙ ap (gives held.node) (sym (append-nil s.nodes)))
  part_so_far s (closing h hs error) e good = absurd (true≢false e)

  -- an outcome and what the call makes of its answer
  abbrev Onward : Bool → Making → Outcome → Type 0
  Onward room call o = IsState o.after → GoodTurn o.after (take way room call o.answer)

  -- ---- MakeDir

  module _ (s : State) (held : Handle) (names : List (List ℕ)) (n : List ℕ) (left : List (List ℕ)) (room : Bool)
      (ready : Ready s a way r base held names) (lacks : Lacks s.nodes base meant held.node n left) where
    abbrev after_new : State
    after_new = record { nodes = with_new s.nodes ready.tree.tree held.node n ready.dir; handles = s.handles }

    abbrev k : ℕ
    k = length s.nodes

    -- what was to be added is what is to be added still, after the first of it
    goal_now : is_gone s.nodes held.node ≡ false → meant ≡ gives (last_of (length after_new.nodes) k left) (after_new.nodes ++ chain_of (length after_new.nodes) k left)
    unfolding goal_with
    goal_now g =
        lacks.goal ∙ ap (goal_with s.nodes held.node (n ∷ left)) g
        ∙ ap (gives (last_of (suc k) k left)) (sym (append_assoc s.nodes (new_inode s.nodes ready.tree.tree held.node n ready.dir ∷ []) (chain_of (suc k) k left)))
        ∙ ap (λ j. gives (last_of j k left) (after_new.nodes ++ chain_of j k left)) (sym (length-one_more s.nodes (new_inode s.nodes ready.tree.tree held.node n ready.dir)))

    made_now : is_gone s.nodes held.node ≡ false → IsState after_new → GoodCall after_new (opening held names n left)
    made_now g tree = (
      record {
        tree = tree;
        root = ready.root;
        root_dir = dir_stays s.nodes _ r ready.root_dir;
        is_open = ready.is_open;
        dir = dir_stays s.nodes _ held.node ready.dir;
        stands = Stands-append s.nodes _ r held.node names ready.stands;
        apart = ready.apart;
        new = ready.new ++ new_inode s.nodes ready.tree.tree held.node n ready.dir ∷ [];
        grown = ap (λ ns. ns ++ new_inode s.nodes ready.tree.tree held.node n ready.dir ∷ []) ready.grown ∙ append_assoc base ready.new (new_inode s.nodes ready.tree.tree held.node n ready.dir ∷ []);
      },
      (
        k,
        record {
          found = new_is_found s.nodes ready.tree.tree held.node n ready.dir tree.tree;
          dir = new_is_dir s.nodes ready.tree.tree held.node n ready.dir;
          stands = new_stands s.nodes ready.tree.tree held.node n ready.dir r names ready.root_dir ready.stands;
          fresh = record {
            empty = new_is_empty s.nodes ready.tree.tree held.node n ready.dir;
            not_gone = new_not_gone s.nodes ready.tree.tree held.node n ready.dir;
            goal = goal_now g;
          };
        },
      ),
    )

    on_new : MakeCase s held.node n (outcome s a (MakeDir held.number n))
        → Onward room (making held names n left) (outcome s a (MakeDir held.number n))
    unfolding goal_with
    on_new (dir_gone g o) = subst (Onward room (making held names n left)) (sym o)
        (λ tree. inr (lacks.goal ∙ ap (goal_with s.nodes held.node (n ∷ left)) g, lacks.none_made g))
    on_new (is_there x found o) = absurd (none-some x (sym lacks.missing ∙ found))
    on_new (no_number many o) = subst (Onward room (making held names n left)) (sym o)
        (λ tree. inl (refl, lacks_part s held names n left ready lacks))
    on_new (is_made g e o) = subst (Onward room (making held names n left)) (sym o) (λ tree. made_now g tree)

    making_good : Onward room (making held names n left) (outcome s a (MakeDir held.number n))
    making_good = on_new (make_case s a held.number n held.node ready.is_open ready.dir)

  -- ---- Open

  module _ (s : State) (held : Handle) (names : List (List ℕ)) (n : List ℕ) (left : List (List ℕ)) (room : Bool)
      (ready : Ready s a way r base held names) (c : ℕ) (just : JustMade s.nodes meant r held.node names n left c) where
    abbrev new_number : ℕ
    new_number = length s.handles

    opened_now : IsState (with_handle s a c)
        → GoodCall (with_handle s a c) (leaving held.number (record { number = new_number; node = c; kind = kind_of Dir }) (n ∷ names) left)
    opened_now tree =
        let one_more : IsMore s a (with_handle s a c) new_number c = with_handle-is_more s a c in
        let root_other : way.root ≢ new_number = is_some_other s a new_number way.root r one_more.fresh ready.root in (
          record {
            tree = tree;
            root = one_more.others way.root root_other ∙ ready.root;
            root_dir = ready.root_dir;
            is_open = one_more.is_open;
            dir = ap is_directory just.dir;
            stands = just.stands;
            apart = λ e. root_other (sym e);
            new = ready.new;
            grown = ready.grown;
          },
          (just.fresh, (is_some_other s a new_number held.number held.node one_more.fresh ready.is_open, ready.apart)),
        )

    abbrev opened_as : ℕ → Object → Outcome
    opened_as x what = record { answer = Opened new_number x (kind_of what); after = with_handle s a x }

    on_opening : (x : ℕ) → x ≡ c → outcome s a (Open held.number n) ≡ opens s a x → Opening s a x (opens s a x)
        → Onward room (opening held names n left) (outcome s a (Open held.number n))
    on_opening x e o (too_many f q) = subst (Onward room (opening held names n left)) (sym (o ∙ q)) (λ tree. inl (refl, fresh_part s held names c left ready just.fresh))
    on_opening x e o (no_object z q) = absurd (none-some Dir (sym z ∙ ap (object_at s.nodes) e ∙ just.dir))
    on_opening x e o (is_opened what z q) =
        let same : what ≡ Dir = same_Some what Dir (sym z ∙ ap (object_at s.nodes) e ∙ just.dir) in
        subst (Onward room (opening held names n left)) (sym (o ∙ q ∙ ap (λ y. opened_as y what) e ∙ ap (opened_as c) same)) (λ tree. opened_now tree)

    on_open : OpenCase s a held.node n (outcome s a (Open held.number n)) → Onward room (opening held names n left) (outcome s a (Open held.number n))
    on_open (no_dir e o) = absurd (false≢true (sym e ∙ ready.dir))
    on_open (no_child e o) = absurd (none-some c (sym e ∙ just.found))
    on_open (at_child x e o) = on_opening x (same_Some x c (sym e ∙ just.found)) o (opening_of s a x)

    opening_good : Onward room (opening held names n left) (outcome s a (Open held.number n))
    opening_good = on_open (open_case s a held.number n held.node ready.is_open)

  -- ---- Close

  left_now : (s t : State) (old : ℕ) (new : Handle) (names left : List (List ℕ)) → GoodCall s (leaving old new names left)
      → IsState t → t.nodes ≡ s.nodes → IsLess s a t old → GoodTurn t (goes_down new names left)
  left_now s t old new names left (ready, (fresh, (other, not_root))) tree same less = goes_down_good t new names left
      (record {
        tree = tree;
        root = less.others way.root (λ e. not_root (sym e)) ∙ ready.root;
        root_dir = ap (λ ns. is_dir ns r) same ∙ ready.root_dir;
        is_open = less.others new.number (λ e. other (sym e)) ∙ ready.is_open;
        dir = ap (λ ns. is_dir ns new.node) same ∙ ready.dir;
        stands = subst (λ ns. Stands ns r new.node names) (sym same) ready.stands;
        apart = ready.apart;
        new = ready.new;
        grown = same ∙ ready.grown;
      })
      (subst (λ ns. Fresh ns meant new.node left) (sym same) fresh)

  -- ---- NameBelow

  ended_now : (s : State) (held : Handle) (names : List (List ℕ)) (room : Bool) → Ready s a way r base held names → meant ≡ gives held.node s.nodes
      → Onward room (ending held names) (outcome s a (NameBelow way.root held.number))
  ended_now s held names room ready goal =
      subst (Onward room (ending held names))
      (sym (below_is s a way.root held.number r held.node ready.root ready.is_open ∙ ap (shows s) (names_below-Stands s.nodes ready.tree.tree r held.node names ready.stands)))
      (λ tree. subst (GoodTurn s) (sym (ap (λ b. if b then made held names else gives_up (held.number ∷ []) Raced) (same_where_equal (reverse names) (reverse names) refl)))
      (goal, ready.stands))

  -- ---- each answer

  take_good : (s : State) (room : Bool) (call : Making) → GoodCall s call → GoodTurn (outcome s a (due way call)).after (take way room call (outcome s a (due way call)).answer)
  take_good s room (walking walker) good = absurd good
  take_good s room (making held names n left) good =
      making_good s held names n left room good.0 good.1 (steps_keep_trees s a (MakeDir held.number n) good.0.tree)
  take_good s room (opening held names n left) good =
      opening_good s held names n left room good.0 good.1.0 good.1.1 (steps_keep_trees s a (Open held.number n) good.0.tree)
  take_good s room (leaving old new names left) good =
      left_now s (outcome s a (Close old)).after old new names left good (steps_keep_trees s a (Close old) good.0.tree) (nodes_are_left s a (Close old) refl) (Close-is_less s a old)
  take_good s room (ending held names) good =
      ended_now s held names room good.0 good.1 (steps_keep_trees s a (NameBelow way.root held.number) good.0.tree)
  take_good s room (closing h hs error) good = gives_up_good (outcome s a (Close h)).after hs error
      (subst (λ ns. Fails ns base meant error) (sym (nodes_are_left s a (Close h) refl)) good)

  step_good : (s : State) (room : Bool) (call : Making) → GoodCall s call → (step : StepWith ℕ) (answer : Answer) → step ≡ due way call
      → answer ≡ (outcome s a step).answer → GoodTurn (outcome s a step).after (take way room call answer)
  step_good s room call good step answer e told =
      subst (λ v. GoodTurn (outcome s a step).after (take way room call v)) (sym told)
      (subst (λ st. GoodTurn (outcome s a st).after (take way room call (outcome s a st).answer)) (sym e) (take_good s room call good))

  -- a step that isn't made is a want
  unmade_memory : (s : State) (call : Making) → is_close (due way call) ≡ false → GoodCall s call → GoodTurn s (take way true call (Refused NoMemory))
  unmade_memory s (walking walker) e good = absurd good
  unmade_memory s (making held names n left) e good = inl (refl, part_so_far s (making held names n left) e good)
  unmade_memory s (opening held names n left) e good = inl (refl, part_so_far s (opening held names n left) e good)
  unmade_memory s (leaving old new names left) e good = absurd (true≢false e)
  unmade_memory s (ending held names) e good = inl (refl, part_so_far s (ending held names) e good)
  unmade_memory s (closing h hs error) e good = absurd (true≢false e)

  unmade_book : (s : State) (call : Making) → is_close (due way call) ≡ false → GoodCall s call → GoodTurn s (take way true call (Refused BookFull))
  unmade_book s (walking walker) e good = absurd good
  unmade_book s (making held names n left) e good = inl (refl, part_so_far s (making held names n left) e good)
  unmade_book s (opening held names n left) e good = inl (refl, part_so_far s (opening held names n left) e good)
  unmade_book s (leaving old new names left) e good = absurd (true≢false e)
  unmade_book s (ending held names) e good = inl (refl, part_so_far s (ending held names) e good)
  unmade_book s (closing h hs error) e good = absurd (true≢false e)

  unmade_good : (s : State) (error : Errno) → IsWant error → (call : Making) → is_close (due way call) ≡ false → GoodCall s call → GoodTurn s (take way true call (Refused error))
  unmade_good s error (inl e) call open_step good = subst (λ x. GoodTurn s (take way true call (Refused x))) (sym e) (unmade_memory s call open_step good)
  unmade_good s error (inr e) call open_step good = subst (λ x. GoodTurn s (take way true call (Refused x))) (sym e) (unmade_book s call open_step good)

  lines_good : (lines : List Line) (s : State) (turn end : MakeTurn) → GoodTurn s turn → LeadsTo way turn lines end → IsLegal s (events_of a lines)
      → GoodTurn (after_events s (events_of a lines)) end
  lines_good [] s turn end good leads legal = subst (GoodTurn s) leads good
  lines_good (answered step answer ∷ lines) s (more call) end good leads legal =
      lines_good lines (outcome s a step).after (take way true call answer) end (step_good s true call good step answer leads.0 legal.0) leads.1 legal.1
  lines_good (no_room step answer ∷ lines) s (more call) end good leads legal =
      lines_good lines (outcome s a step).after (take way false call answer) end (step_good s false call good step answer leads.0 legal.0) leads.1 legal.1
  lines_good (not_made error ∷ lines) s (more call) end good leads legal =
      lines_good lines s (take way true call (Refused error)) end (unmade_good s error leads.0.0 call leads.0.1 good) leads.1 legal
  lines_good (line ∷ lines) s (made handle names) end good leads legal = absurd leads
  lines_good (line ∷ lines) s (failed error) end good leads legal = absurd leads

  -- ---- the end

  end_meant : (t : State) (end : MakeTurn) → IsOver end → GoodTurn t end → MakingComesTo base t.nodes r meant end
  end_meant t (more call) over good = absurd over
  end_meant t (made handle names) over good = inl (subst (λ m. IsMeantEnd base t.nodes r m (made handle names)) (sym good.0) (refl, (refl, good.1)))
  end_meant t (failed error) over (inl short) = inr short
  end_meant t (failed error) over (inr is) = inl (subst (λ m. IsMeantEnd base t.nodes r m (failed error)) (sym is.0) (refl, is.1))

  pub makes_on : (lines : List Line) (s : State) (turn end : MakeTurn) → GoodTurn s turn → LeadsTo way turn lines end → IsLegal s (events_of a lines)
      → IsOver end → MakingComesTo base (after_events s (events_of a lines)).nodes r meant end
  makes_on lines s turn end good leads legal over = end_meant (after_events s (events_of a lines)) end over (lines_good lines s turn end good leads legal)
