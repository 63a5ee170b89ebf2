-- Handle tables that are alike are those of the same parts; what is kept of parts, once each, and one more.
use Rattle.std.specs.Prelude.{◌≡◌, ◌≤◌, ◌<◌, ℕ, ◌+◌, suc, List, [], ◌∷◌, ◌++◌, length, map, Option, Some, None, slice_get, refl}
use Rattle.std.proofs.Common.{sym, ap, ◌∙◌, subst, ⊎_elim, arith, take, get_or}
use Rattle.std.proofs.lemmas.List.{take_more}
use Rattle.std.proofs.lemmas.Option.{same_Some, none-some, slice_get_within}
use Rattle.tree_model.specs.State.{State}
use Rattle.tree_model.specs.declared.inode.OpenHandle.{OpenHandle}
use Rattle.tree_model.specs.Steps.{node_held, held, held_count}
use Rattle.layered_search.proofs.Places.{at_or_below, within_some, get_push, mapped_to, mapped_from}
use Rattle.race_core.specs.Book.{tree_now}
use Rattle.race_core.specs.declared.seat.Seat.{Seat}
use Rattle.race_core.specs.declared.report.Outcome.{Outcome}
use Rattle.race_core.specs.Renamed.{outcome_by, outcomes_by, seat_by, ledger_by, seat_handles, LikeSeats}
use Rattle.race_core.specs.WithoutOutcomes.{without_outcomes}
use Rattle.race_core.specs.Worlds.{WorldView, is_busy_in, is_busy_at, is_within_in, is_within_at}
use Rattle.local_states.specs.declared.handle_tables.HandleTable.{HandleTable}
use Rattle.local_states.specs.Distinct.{AreEachOnce, Keeps}
use Rattle.local_states.specs.HandleTables.{IsHandleTableOf, HasHandleTable, AreGivenPairs, LikeHandleTables, PartView, AreNamed, HasOutcomes, IsPartOf, AreLikeParts, ArePartsOf}
use Rattle.local_states.specs.Keys.{PartsView, AreApartParts, IsPartIn, HasMore}
use Rattle.local_states.specs.Local.{actor_of, AreNumbered, SamePart, SamePartAt}
use Rattle.local_states.proofs.Alike.Paired.{same_numbers}
use Rattle.local_states.proofs.Local.Parts.{one_actor, part_itself, part_back, part_join}
use Rattle.local_states.proofs.Local.Worlds.{parts_busy}

-- ---- mapped lists

pub same_maps : {A B : Type 0} (f g : A → B) (xs ys : List A) → length xs ≡ length ys
    → ((at : ℕ) (x y : A) → slice_get xs at ≡ Some x → slice_get ys at ≡ Some y → f x ≡ g y) → map f xs ≡ map g ys
same_maps f g [] [] many each = refl
same_maps f g [] (y ∷ ys) many each = absurd (omega (arith, many))
same_maps f g (x ∷ xs) [] many each = absurd (omega (arith, many))
same_maps f g (x ∷ xs) (y ∷ ys) many each =
    let n : length xs ≡ length ys = omega (arith, many) in
    let first : f x ≡ g y = each 0 x y refl refl in
    let rest : map f xs ≡ map g ys = same_maps f g xs ys n (λ at a b e q. each (suc at) a b e q) in
    λ i. first i ∷ rest i

-- where lists are the same as f sees them, what stands in the one stands in the other, as f sees it
pub like_there : {A B : Type 0} (f : A → B) (xs ys : List A) → map f xs ≡ map f ys → (i : ℕ) (x : A)
    → slice_get xs i ≡ Some x → (y : A) × ((slice_get ys i ≡ Some y) × (f x ≡ f y))
like_there f xs ys e i x is = mapped_from f ys i (f x) (ap (λ zs. slice_get zs i) (sym e) ∙ mapped_to f xs i x is)

-- ---- handle tables

given_onto : (n m p q : ℕ) (hs ks xs ys : List ℕ) → n ≡ p → m ≡ q → hs ≡ xs → ks ≡ ys → AreGivenPairs n m hs ks
    → AreGivenPairs p q xs ys
given_onto n m p q hs ks xs ys e f g h are =
    subst (λ z. AreGivenPairs p q xs z) h
    (subst (λ z. AreGivenPairs p q z ks) g
    (subst (λ z. AreGivenPairs p z hs ks) f (subst (λ z. AreGivenPairs z m hs ks) e are)))

pub part_of_handle_tables : (s t : State) (x y : Seat) (g h : HandleTable) → IsHandleTableOf s x g
    → IsHandleTableOf t y h → LikeSeats x y
    → LikeHandleTables g h → SamePart s t x y
part_of_handle_tables s t x y g h here there like alike =
    let actor : actor_of x ≡ actor_of y = one_actor x y like in
    let pairs = given_onto g.given h.given (length s.handles) (length t.handles) g.handles.items h.handles.items
    (seat_handles x) (seat_handles y)
    here.given there.given here.handles there.handles alike.pairs in
    let nodes : map (held s (actor_of x)) (seat_handles x) ≡ map (held t (actor_of x)) (seat_handles y) =
    sym here.nodes ∙ (alike.nodes ∙ (there.nodes ∙ ap (λ a. map (held t a) (seat_handles y)) (sym actor))) in record {
      like = like;
      pairs = λ at i j are. record {
        given = pairs.given at i j are;
        holds = same_Some _ _ (sym (mapped_to (held s (actor_of x)) (seat_handles x) at i are.here)
            ∙ (ap (λ ns. slice_get ns at) nodes ∙ mapped_to (held t (actor_of x)) (seat_handles y) at j are.there));
      };
      apart = pairs.apart;
      held_handles = sym here.held_handles
          ∙ (alike.held_handles ∙ (there.held_handles ∙ ap (λ a. held_count t a) (sym actor)));
    }

pub handle_tables_of_part : (s t : State) (x y : Seat) (g h : HandleTable) → IsHandleTableOf s x g
    → IsHandleTableOf t y h → SamePart s t x y → LikeHandleTables g h
handle_tables_of_part s t x y g h here there part =
    let actor : actor_of x ≡ actor_of y = one_actor x y part.like in
    let many : length (seat_handles x) ≡ length (seat_handles y) = same_numbers x y part.like in record {
      held_handles = here.held_handles
          ∙ (part.held_handles ∙ (ap (λ a. held_count t a) actor ∙ sym there.held_handles));
      many = ap length here.handles ∙ (many ∙ ap length (sym there.handles));
      nodes = here.nodes ∙ (same_maps (held s (actor_of x)) (held t (actor_of x)) (seat_handles x)
          (seat_handles y) many (λ at i j e q. (part.pairs at i j (record { here = e; there = q })).holds)
          ∙ (ap (λ a. map (held t a) (seat_handles y)) actor ∙ sym there.nodes));
      pairs = given_onto (length s.handles) (length t.handles) g.given h.given (seat_handles x)
          (seat_handles y) g.handles.items h.handles.items
          (sym here.given) (sym there.given) (sym here.handles) (sym there.handles)
          (record { given = λ at i j are. (part.pairs at i j are).given; apart = part.apart });
    }

nodes_are : (s : State) (x : Seat) (opened : List (Option OpenHandle)) (number : ℕ) (hs : List ℕ)
    (ns : List (Option ℕ)) → opened ≡ s.handles → number ≡ actor_of x → hs ≡ seat_handles x
    → ns ≡ map (λ h. node_held number (slice_get opened h)) hs → ns ≡ map (held s (actor_of x)) (seat_handles x)
nodes_are s x opened number hs ns o n h e =
    e ∙ (ap (λ (os : List (Option OpenHandle)). map (λ h. node_held number (slice_get os h)) hs) o
    ∙ (ap (λ (a : ℕ). map (λ h. node_held a (slice_get s.handles h)) hs) n
    ∙ ap (λ (ks : List ℕ). map (held s (actor_of x)) ks) h))

-- what was found of an actor's handles is its handle table
pub has_handle_table : (w : WorldView) (actor : ℕ) (handle_table : HandleTable) (opened : List (Option OpenHandle))
    (number : ℕ)
    (old : List ℕ) → actor < length w.seats → AreNumbered w.seats
    → opened ≡ (tree_now w.book).handles → number ≡ actor → old ≡ []
    → ((seat : Seat) → slice_get w.seats actor ≡ Some seat → handle_table.handles.items ≡ old ++ seat_handles seat)
    → handle_table.nodes.items ≡ map (λ h. node_held number (slice_get opened h)) handle_table.handles.items
    → handle_table.given ≡ length opened → handle_table.held ≡ held_count (tree_now w.book) number
    → HasHandleTable w actor handle_table
has_handle_table w actor handle_table opened number old lt numbered o n empty handles nodes given count =
    let seat = within_some w.seats actor lt in
    let is : actor_of seat.0 ≡ actor = numbered actor seat.0 seat.1 in
    let hs : handle_table.handles.items ≡ seat_handles seat.0 = handles seat.0 seat.1
    ∙ ap (λ ks. ks ++ seat_handles seat.0) empty in record {
      seat = seat.0;
      there = seat.1;
      numbered = is;
      is = record {
        handles = hs;
        nodes = nodes_are (tree_now w.book) seat.0 opened number handle_table.handles.items handle_table.nodes.items o
            (n ∙ sym is) hs nodes;
        given = given ∙ ap length o;
        held_handles = count ∙ ap (λ a. held_count (tree_now w.book) a) (n ∙ sym is);
      };
    }

-- ---- parts of worlds

pub same_of : (w v : WorldView) (a : ℕ) (g h : HandleTable) (here : HasHandleTable w a g) (there : HasHandleTable v a h)
    → LikeHandleTables g h
    → LikeSeats here.seat there.seat → SamePartAt w v a
same_of w v a g h here there alike like = record {
  here = here.seat;
  there = there.seat;
  is_here = here.there;
  is_there = there.there;
  part = part_of_handle_tables (tree_now w.book) (tree_now v.book) here.seat there.seat g h here.is there.is like alike;
}

-- the part that is the same, of the seats that hold the handle tables
part_at : (w v : WorldView) (a : ℕ) (g h : HandleTable) (here : HasHandleTable w a g) (there : HasHandleTable v a h)
    → SamePartAt w v a
    → SamePart (tree_now w.book) (tree_now v.book) here.seat there.seat
part_at w v a g h here there same =
    let x : same.here ≡ here.seat = same_Some _ _ (sym same.is_here ∙ here.there) in
    let y : same.there ≡ there.seat = same_Some _ _ (sym same.is_there ∙ there.there) in
    subst (λ z. SamePart (tree_now w.book) (tree_now v.book) here.seat z) y
    (subst (λ z. SamePart (tree_now w.book) (tree_now v.book) z same.there) x same.part)

pub seats_of : (w v : WorldView) (a : ℕ) (g h : HandleTable) (here : HasHandleTable w a g)
    (there : HasHandleTable v a h)
    → SamePartAt w v a → LikeSeats here.seat there.seat
seats_of w v a g h here there same = (part_at w v a g h here there same).like

pub handle_tables_of : (w v : WorldView) (a : ℕ) (g h : HandleTable) (here : HasHandleTable w a g)
    (there : HasHandleTable v a h) → SamePartAt w v a → LikeHandleTables g h
handle_tables_of w v a g h here there same =
    handle_tables_of_part (tree_now w.book) (tree_now v.book) here.seat there.seat g h here.is there.is
    (part_at w v a g h here there same)

pub at_back : {u v : WorldView} {i : ℕ} → SamePartAt u v i → SamePartAt v u i
at_back {u} {v} at = record {
  here = at.there;
  there = at.here;
  is_here = at.is_there;
  is_there = at.is_here;
  part = part_back (tree_now u.book) (tree_now v.book) at.here at.there at.part;
}

pub at_join : {u v o : WorldView} {i : ℕ} → SamePartAt u v i → SamePartAt v o i → SamePartAt u o i
at_join {u} {v} {o} first second =
    let one : first.there ≡ second.here = same_Some first.there second.here (sym first.is_there ∙ second.is_here) in
    record {
      here = first.here;
      there = second.there;
      is_here = first.is_here;
      is_there = second.is_there;
      part = part_join (tree_now u.book) (tree_now v.book) (tree_now o.book) first.here second.here second.there
          (subst (λ y. SamePart (tree_now u.book) (tree_now v.book) first.here y) one first.part) second.part;
    }

pub part_itself_at : (w : WorldView) (actor : ℕ) (handle_table : HandleTable) → HasHandleTable w actor handle_table
    → SamePartAt w w actor
part_itself_at w actor handle_table has = record {
  here = has.seat;
  there = has.seat;
  is_here = has.there;
  is_there = has.there;
  part = part_itself (tree_now w.book) has.seat;
}

-- ---- outcomes by their places

pub named_more : (table more : List Outcome) (places : List ℕ) (outcomes : List Outcome) → Keeps table more
    → AreNamed table places outcomes → AreNamed more places outcomes
named_more table more [] [] keeps are = are
named_more table more [] (o ∷ os) keeps are = absurd are
named_more table more (p ∷ ps) [] keeps are = absurd are
named_more table more (p ∷ ps) (o ∷ os) keeps are = (keeps p o are.0, named_more table more ps os keeps are.1)

-- one more at its place
pub named_push : (table : List Outcome) (places : List ℕ) (outcomes : List Outcome) (p : ℕ) (o : Outcome)
    → AreNamed table places outcomes → slice_get table p ≡ Some o
    → AreNamed table (places ++ p ∷ []) (outcomes ++ o ∷ [])
named_push table [] [] p o are e = (e, are)
named_push table [] (q ∷ qs) p o are e = absurd are
named_push table (p ∷ ps) [] q o are e = absurd are
named_push table (p ∷ ps) (q ∷ qs) r o are e = (are.0, named_push table ps qs r o are.1 e)

outcomes_push : (xs : List Outcome) (x : Outcome)
    → outcomes_by (λ h. 0) (xs ++ x ∷ []) ≡ outcomes_by (λ h. 0) xs ++ outcome_by (λ h. 0) x ∷ []
outcomes_push [] x = refl
outcomes_push (y ∷ ys) x = ap (λ os. outcome_by (λ h. 0) y ∷ os) (outcomes_push ys x)

-- the next of a list of outcomes, too
pub named_next : (table more : List Outcome) (places new : List ℕ) (p : ℕ) (outcomes : List Outcome) (k : ℕ)
    (o : Outcome) → k < length outcomes → o ≡ get_or outcomes k o
    → Keeps table more → AreNamed table places (outcomes_by (λ h. 0) (take k outcomes))
    → slice_get more p ≡ Some (outcome_by (λ h. 0) o) → new ≡ places ++ p ∷ []
    → AreNamed more new (outcomes_by (λ h. 0) (take (k + 1) outcomes))
named_next table more places new p outcomes k o lt is keeps are there e =
    let next : take (k + 1) outcomes ≡ take k outcomes ++ o ∷ [] = take_more outcomes k o lt
    ∙ ap (λ x. take k outcomes ++ x ∷ []) (sym is) in
    subst (λ ps. AreNamed more ps (outcomes_by (λ h. 0) (take (k + 1) outcomes))) (sym e)
    (subst (λ os. AreNamed more (places ++ p ∷ []) os)
    (sym (ap (outcomes_by (λ h. 0)) next ∙ outcomes_push (take k outcomes) o))
    (named_push more places (outcomes_by (λ h. 0) (take k outcomes)) p (outcome_by (λ h. 0) o)
    (named_more table more places _ keeps are) there))

named_same : (table : List Outcome) (places : List ℕ) (outcomes others : List Outcome) → AreNamed table places outcomes
    → AreNamed table places others → outcomes ≡ others
named_same table [] [] [] here there = refl
named_same table [] [] (q ∷ qs) here there = absurd there
named_same table [] (o ∷ os) others here there = absurd here
named_same table (p ∷ ps) [] others here there = absurd here
named_same table (p ∷ ps) (o ∷ os) [] here there = absurd there
named_same table (p ∷ ps) (o ∷ os) (q ∷ qs) here there =
    let first : o ≡ q = same_Some o q (sym here.0 ∙ there.0) in
    let rest : os ≡ qs = named_same table ps os qs here.1 there.1 in
    cc

named_once : (table : List Outcome) (places others : List ℕ) (outcomes : List Outcome) → AreEachOnce table
    → AreNamed table places outcomes → AreNamed table others outcomes → places ≡ others
named_once table [] [] [] once here there = refl
named_once table [] (q ∷ qs) [] once here there = absurd there
named_once table [] others (o ∷ os) once here there = absurd here
named_once table (p ∷ ps) others [] once here there = absurd here
named_once table (p ∷ ps) [] (o ∷ os) once here there = absurd there
named_once table (p ∷ ps) (q ∷ qs) (o ∷ os) once here there =
    let first : p ≡ q = once p q o here.0 there.0 in
    let rest : ps ≡ qs = named_once table ps qs os once here.1 there.1 in
    cc

-- ---- seats without their outcomes

like_without : (x y : Seat) → LikeSeats x y → LikeSeats (without_outcomes x) (without_outcomes y)
like_without x y like = ap (λ (s : Seat). without_outcomes s) like

like_whole : (x y : Seat) → LikeSeats (without_outcomes x) (without_outcomes y)
    → outcomes_by (λ h. 0) x.ledger.outcomes ≡ outcomes_by (λ h. 0) y.ledger.outcomes
    → LikeSeats x y
like_whole x y like same =
    ap (λ (s : Seat). record s { ledger = record s.ledger { outcomes = outcomes_by (λ h. 0) x.ledger.outcomes } }) like
    ∙ ap (λ os. record (seat_by (λ h. 0) y) { ledger = record (ledger_by (λ h. 0) y.ledger) { outcomes = os } }) same

-- ---- what is kept of a part

-- what is kept of a part that the actor has in the world
abbrev pub kept_of : WorldView → ℕ → Seat → List ℕ → HandleTable → PartView
kept_of w actor seat places handle_table = record {
  seat = without_outcomes seat;
  outcomes = places;
  handle_table = handle_table;
  busy = is_busy_at w.seats actor;
  within = is_within_at w.seats actor;
}

pub kept : (table : List Outcome) (w : WorldView) (actor : ℕ) (places : List ℕ) (handle_table : HandleTable)
    (has : HasHandleTable w actor handle_table)
    → HasOutcomes table w actor places → IsPartOf table w actor (kept_of w actor has.seat places handle_table)
kept table w actor places handle_table has are =
    record { handle_table = has; outcomes = are; seat = refl; busy = refl; within = refl }

pub part_of_more : (table more : List Outcome) (w : WorldView) (actor : ℕ) (part : PartView) → Keeps table more
    → IsPartOf table w actor part → IsPartOf more w actor part
part_of_more table more w actor part keeps is = record {
  handle_table = is.handle_table;
  outcomes = λ x e. named_more table more part.outcomes (outcomes_by (λ h. 0) x.ledger.outcomes) keeps
      (is.outcomes x e);
  seat = is.seat;
  busy = is.busy;
  within = is.within;
}

-- parts of which the same is kept are the same
pub same_kept : (table : List Outcome) (u v : WorldView) (a : ℕ) (p q : PartView) → IsPartOf table u a p
    → IsPartOf table v a q → AreLikeParts p q → SamePartAt u v a
same_kept table u v a p q here there like =
    let x = here.handle_table.seat in
    let y = there.handle_table.seat in
    let named : AreNamed table p.outcomes (outcomes_by (λ h. 0) y.ledger.outcomes) =
    subst (λ ps. AreNamed table ps (outcomes_by (λ h. 0) y.ledger.outcomes)) (sym like.outcomes)
    (there.outcomes y there.handle_table.there) in
    same_of u v a p.handle_table q.handle_table here.handle_table there.handle_table like.handle_table
    (like_whole x y (here.seat ∙ (like.seat ∙ sym there.seat))
    (named_same table p.outcomes _ _ (here.outcomes x here.handle_table.there) named))

-- and of the same parts the same is kept
pub like_kept : (table : List Outcome) (u v : WorldView) (a : ℕ) (p q : PartView) → AreEachOnce table
    → IsPartOf table u a p → IsPartOf table v a q → SamePartAt u v a → AreLikeParts p q
like_kept table u v a p q once here there same =
    let x = here.handle_table.seat in
    let y = there.handle_table.seat in
    let like : LikeSeats x y = seats_of u v a p.handle_table q.handle_table here.handle_table there.handle_table same in
    let told : outcomes_by (λ h. 0) x.ledger.outcomes ≡ outcomes_by (λ h. 0) y.ledger.outcomes =
    ap (λ (s : Seat). s.ledger.outcomes) like in
    record {
      seat = sym here.seat ∙ (like_without x y like ∙ there.seat);
      outcomes = named_once table p.outcomes q.outcomes _ once (here.outcomes x here.handle_table.there)
          (subst (λ os. AreNamed table q.outcomes os) (sym told) (there.outcomes y there.handle_table.there));
      handle_table = handle_tables_of u v a p.handle_table q.handle_table here.handle_table there.handle_table same;
    }

module _ (table : List Outcome) (w v : WorldView) (a : ℕ) (places : List ℕ) (handle_table : HandleTable)
    (part : PartView) (once : AreEachOnce table)
    (has : HasHandleTable w a handle_table) (are : HasOutcomes table w a places) (is : IsPartOf table v a part) where
  -- what is kept of another world's part is this world's
  pub mine_like : SamePartAt w v a → AreLikeParts (kept_of w a has.seat places handle_table) part
  mine_like same = like_kept table w v a (kept_of w a has.seat places handle_table) part once
      (kept table w a places handle_table has are) is same

  pub like_mine : AreLikeParts (kept_of w a has.seat places handle_table) part → SamePartAt w v a
  like_mine like = same_kept table w v a (kept_of w a has.seat places handle_table) part
      (kept table w a places handle_table has are) is like

-- two worlds of which one and the same is kept
pub one_kept : (table : List Outcome) (u v : WorldView) (a : ℕ) (p : PartView) → IsPartOf table u a p
    → IsPartOf table v a p → SamePartAt u v a
one_kept table u v a p here there =
    same_kept table u v a p p here there
    (record {
      seat = refl;
      outcomes = refl;
      handle_table = handle_tables_of u u a p.handle_table p.handle_table here.handle_table here.handle_table
          (part_itself_at u a p.handle_table here.handle_table);
    })

-- ---- parts that are kept once each

abbrev pub row_of : ℕ → List Outcome → List PartView → PartsView
row_of actor table parts = record { actor = actor; outcomes = table; parts = parts }

-- the part at that place is the same as the world's
pub part_in : (actor : ℕ) (table : List Outcome) (parts : List PartView) (k : ℕ) (part : PartView) (w o : WorldView)
    → slice_get parts k ≡ Some part → IsPartOf table o actor part → SamePartAt w o actor
    → IsPartIn (row_of actor table parts) w k
part_in actor table parts k part w o e is same = record { part = part; there = e; other = o; is = is; same = same }

-- it is in the world at that place, if it is in that whose part is kept there
pub in_by : (actor : ℕ) (table : List Outcome) (parts : List PartView) (k : ℕ) (part : PartView) (w : WorldView)
    → ArePartsOf actor table parts
    → slice_get parts k ≡ Some part → ((o : WorldView) → IsPartOf table o actor part → SamePartAt w o actor)
    → IsPartIn (row_of actor table parts) w k
in_by actor table parts k part w are e same =
    let its = are.each k part e in
    part_in actor table parts k part w its.0 e its.1 (same its.0 its.1)

pub none_below : (row : PartsView) (n : ℕ) (w : WorldView) → length row.parts ≤ n
    → ((k : ℕ) → k < n → IsPartIn row w k → ⊥) → (k : ℕ) → IsPartIn row w k → ⊥
none_below row n w all none k is = let lt : k < length row.parts = slice_get_within row.parts k is.part is.there in
    none k (omega arith) is

pub none_more : (row : PartsView) (n : ℕ) (part : PartView) (w : WorldView) → ((k : ℕ) → k < n → IsPartIn row w k → ⊥)
    → slice_get row.parts n ≡ Some part
    → ((o : WorldView) → IsPartOf row.outcomes o row.actor part → SamePartAt w o row.actor → ⊥) → (k : ℕ) → k < n + 1
    → IsPartIn row w k → ⊥
none_more row n part w none there differs k lt is =
    ⊎_elim (λ below. none k below is)
    (λ q. let one : is.part ≡ part =
    same_Some is.part part (sym is.there ∙ (ap (λ m. slice_get row.parts m) q ∙ there)) in
    differs is.other (subst (λ (p : PartView). IsPartOf row.outcomes is.other row.actor p) one is.is) is.same)
    (at_or_below k n lt)

pub none_past : (row : PartsView) (k : ℕ) (v : WorldView) → slice_get row.parts k ≡ None → IsPartIn row v k → ⊥
none_past row k v e is = none-some is.part (sym e ∙ is.there)

-- the table has grown
pub parts_on : (actor : ℕ) (table more : List Outcome) (parts : List PartView) → Keeps table more
    → ArePartsOf actor table parts → ArePartsOf actor more parts
parts_on actor table more parts keeps are = record {
  each = λ k part e. let its = are.each k part e in (its.0, part_of_more table more its.0 actor part keeps its.1);
  once = are.once;
}

parts_more : (actor : ℕ) (table : List Outcome) (parts : List PartView) (part : PartView) (w : WorldView)
    → ArePartsOf actor table parts → IsPartOf table w actor part
    → ((k : ℕ) → IsPartIn (row_of actor table parts) w k → ⊥) → ArePartsOf actor table (parts ++ part ∷ [])
parts_more actor table parts part w are is new = record {
  each = λ k one e. ⊎_elim (λ h. are.each k one h) (λ h. (w, subst (λ p. IsPartOf table w actor p) (sym h.1) is))
      (get_push parts part k one e);
  once = λ k l one other e q like.
      ⊎_elim (λ h. ⊎_elim (λ p. are.once k l one other h p like)
      (λ p. absurd (new k (before k one h (subst (λ (z : PartView). AreLikeParts one z) p.1 like))))
      (get_push parts part l other q))
      (λ h. ⊎_elim (λ p. absurd (new l (after l other p (subst (λ (z : PartView). AreLikeParts z other) h.1 like))))
      (λ p. h.0 ∙ sym p.0)
      (get_push parts part l other q))
      (get_push parts part k one e);
}
  where
    before : (k : ℕ) (one : PartView) → slice_get parts k ≡ Some one → AreLikeParts one part
        → IsPartIn (row_of actor table parts) w k
    before k one h like =
        in_by actor table parts k one w are h (λ o its. at_back (same_kept table o w actor one part its is like))

    after : (l : ℕ) (other : PartView) → slice_get parts l ≡ Some other → AreLikeParts part other
        → IsPartIn (row_of actor table parts) w l
    after l other p like =
        in_by actor table parts l other w are p (λ o its. same_kept table w o actor part other is its like)

pub parts_pushed : (actor : ℕ) (table : List Outcome) (old with_room new : List PartView) (part : PartView)
    (w : WorldView) → new ≡ with_room ++ part ∷ []
    → with_room ≡ old → ArePartsOf actor table old → IsPartOf table w actor part
    → ((k : ℕ) → IsPartIn (row_of actor table old) w k → ⊥) → ArePartsOf actor table new
parts_pushed actor table old with_room new part w e same are is none =
    subst (λ (parts : List PartView). ArePartsOf actor table parts)
    (sym (e ∙ ap (λ (parts : List PartView). parts ++ part ∷ []) same)) (parts_more actor table old part w are is none)

pub parts_apart : (actor : ℕ) (table : List Outcome) (parts : List PartView) → AreEachOnce table
    → ArePartsOf actor table parts
    → AreApartParts (row_of actor table parts)
parts_apart actor table parts once are k l v w here there same =
    are.once k l here.part there.part here.there there.there
    (like_kept table here.other there.other actor here.part there.part once here.is there.is
    (at_join (at_back here.same) (at_join same there.same)))

at_or : {A : Type 0} (xs : List A) (k : ℕ) (x y : A) → slice_get xs k ≡ Some x → slice_get xs k ≡ Some y → x ≡ y
at_or xs k x y e q = same_Some x y (sym e ∙ q)

-- whoever has the part at that place is as busy, and as much within a call, as is kept with it
pub kept_in : (row : PartsView) (k : ℕ) (part : PartView) (v : WorldView) → slice_get row.parts k ≡ Some part
    → IsPartIn row v k
    → (part.busy ≡ is_busy_at v.seats row.actor) × (part.within ≡ is_within_at v.seats row.actor)
kept_in row k part v e is =
    let one : is.part ≡ part = at_or row.parts k is.part part is.there e in
    let busy = parts_busy (tree_now v.book) (tree_now is.other.book) is.same.here is.same.there is.same.part in (
      ap (λ (p : PartView). p.busy) (sym one)
          ∙ (is.is.busy ∙ (ap is_busy_in is.same.is_there ∙ (sym busy.0 ∙ ap is_busy_in (sym is.same.is_here)))),
      ap (λ (p : PartView). p.within) (sym one)
          ∙ (is.is.within ∙ (ap is_within_in is.same.is_there ∙ (sym busy.1 ∙ ap is_within_in (sym is.same.is_here)))),
    )

-- ---- rows

pub more_itself : (row : PartsView) → HasMore row row
more_itself row = record { actor = refl; outcomes = λ k x e. e; parts = λ k x e. e }

pub more_on : (row more most : PartsView) → HasMore row more → HasMore more most → HasMore row most
more_on row more most first second = record {
  actor = second.actor ∙ first.actor;
  outcomes = λ k x e. second.outcomes k x (first.outcomes k x e);
  parts = λ k x e. second.parts k x (first.parts k x e);
}

-- the part is in the world at that place of a row that has more
pub in_more : (row more : PartsView) (v : WorldView) (at : ℕ) → HasMore row more → IsPartIn row v at
    → IsPartIn more v at
in_more row more v at has is = record {
  part = is.part;
  there = has.parts at is.part is.there;
  other = is.other;
  is = subst (λ n. IsPartOf more.outcomes is.other n is.part) (sym has.actor)
      (part_of_more row.outcomes more.outcomes is.other row.actor is.part has.outcomes is.is);
  same = subst (λ n. SamePartAt v is.other n) (sym has.actor) is.same;
}
