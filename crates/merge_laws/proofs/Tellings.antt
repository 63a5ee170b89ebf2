-- What is told of the classes of parts that make all lists.
use Rattle.std.specs.Prelude.{◌≡◌, ℕ, min, List, [], ◌∷◌, Bool, true, false, map, length, sum_by, if◌then◌else◌, refl}
use Rattle.std.proofs.Common.{◌∙◌, inl, inr, sym, ap, subst}
use Rattle.std.proofs.lemmas.Bool.{true≢false}
use Rattle.explore.specs.Explored.{Scope, IsAsked, AgreeIn, EndingView, ClassView, IsEnding, rank, is_at_most, Rank}
use Rattle.explore.proofs.Lists.Told.{agree_same, agree_turned, agree_on}
use Rattle.explore_command.specs.Classes.{IsTold}
use Rattle.race_core.specs.Worlds.{WorldView}
use Rattle.schedule_graph.specs.declared.count.TheConstants.{COUNT_CAP}
use Rattle.schedule_graph.specs.Counted.{IsAmong, EachOnce, AreSoMany}
use Rattle.schedule_graph.proofs.Summing.{so_many_as, none_capped}
use Rattle.outcome_text.specs.declared.survey.Told.{Told}
use Rattle.outcome_text.specs.InPieces.{AreAlike, AreOneBut, IsByOutcome, ArePieces}
use Rattle.outcome_text.specs.Order.{rank_of, in_order}
use Rattle.outcome_text.specs.Telling.{IsToldOf}
use Rattle.merge_laws.proofs.FirstPieces.{Before, HaveNoTies, AreOthers, IsFirstOf, IsWholeOf, first_in_order, order_sum}
use Rattle.outcome_text.proofs.Bare.{mapped_sum}
use Rattle.outcome_text.proofs.SameReports.{one_list_is_told_as_one}
use Rattle.tree_model.specs.State.{State}
use Rattle.further_world_laws.specs.Parts.{Begins, PartView, AreParts, classes_of}
use Rattle.further_world_laws.proofs.OneAnswer.{same_ending}
use Rattle.further_world_laws.proofs.OneOrder.{ranks_both}
use Rattle.further_world_laws.proofs.OnceEach.{same_many}
use Rattle.further_world_laws.proofs.PartsCounted.{LeadsTo, class_part, part_class, classes_once, class_counted, class_alone, own_class, own_among, own_least}
use Rattle.further_world_laws.proofs.PickedOnce.{mapped, unmapped, once_unmapped, one_of_each}
use Rattle.further_world_laws.proofs.Sums.{InSome, sum_many}
use Rattle.merge_laws.specs.Merged.{RepliesNameNoHandles}
use Rattle.merge_laws.proofs.ToldAlike.{told_alike}

module _ (w : WorldView) (scope : Scope) (named : List ℕ) (opening : State) (actors : ℕ) where
  -- a class, with what is told of it
  pub record Piece : Type 0 where
    pub class : ClassView
    pub told : Told
    pub ending : IsEnding w scope class.least
    pub is : IsTold true named opening actors class told

  -- the classes of parts that make all lists, with what is told of them
  pub record Telling : Type 0 where
    pub parts : List PartView
    pub are : AreParts w scope parts
    pub pieces : List Piece
    pub classes : map (λ (z : Piece). z.class) pieces ≡ classes_of parts

  rank_is : (z : Piece) → rank_of z.told ≡ rank w z.class.least.turns
  rank_is z = by z.is.cut z.is.changed z.is.least ∙ z.ending.ranked
    where
      by : z.told.cuts ≡ z.class.least.cuts → z.told.changes ≡ z.class.least.changes → z.told.turns.items ≡ z.class.least.turns
          → rank_of z.told ≡ record { cuts = z.class.least.cuts; changes = z.class.least.changes; turns = z.class.least.turns }
      by c g t = λ i. record { cuts = c i; changes = g i; turns = t i }

  before_by : (x y : Piece) → is_at_most (rank w x.class.least.turns) (rank w y.class.least.turns) ≡ true → Before (λ (z : Piece). z.told) x y
  before_by x y h =
      subst (λ (r : Rank). is_at_most r (rank_of y.told) ≡ true) (sym (rank_is x))
      (subst (λ (r : Rank). is_at_most (rank w x.class.least.turns) r ≡ true) (sym (rank_is y)) h)

  ranked_by : (x y : Piece) → Before (λ (z : Piece). z.told) x y → is_at_most (rank w x.class.least.turns) (rank w y.class.least.turns) ≡ true
  ranked_by x y h =
      subst (λ (r : Rank). is_at_most r (rank w y.class.least.turns) ≡ true) (rank_is x)
      (subst (λ (r : Rank). is_at_most (rank_of x.told) r ≡ true) (rank_is y) h)

  -- ---- of one telling

  abbrev Leads : Telling → ClassView → List ℕ → Type 0
  Leads t d js = LeadsTo w scope t.parts t.are d js

  class_among : (t : Telling) (z : Piece) → IsAmong z t.pieces → IsAmong z.class (classes_of t.parts)
  class_among t z h = subst (λ (cs : List ClassView). IsAmong z.class cs) t.classes (mapped (λ (x : Piece). x.class) z t.pieces h)

  pieces_once : (t : Telling) → EachOnce (map (λ (z : Piece). z.class) t.pieces)
  pieces_once t = subst (λ (cs : List ClassView). EachOnce cs) (sym t.classes) (classes_once w scope t.parts t.are)

  own_piece : (t : Telling) (js : List ℕ) → IsAsked w scope js → (z : Piece) × (IsAmong z t.pieces × Leads t z.class js)
  own_piece t js asked =
      let d = own_class w scope t.parts t.are js asked in
      let at = unmapped (λ (x : Piece). x.class) d.0 t.pieces (subst (λ (cs : List ClassView). IsAmong d.0 cs) (sym t.classes) (own_among w scope t.parts t.are js asked)) in
      (at.0, (at.1.0, subst (λ (c : ClassView). Leads t c js) at.1.1 d.1))

  leads_self : (t : Telling) (z : Piece) → IsAmong z t.pieces → Leads t z.class z.class.least.turns
  leads_self t z h =
      let at = class_part w scope t.parts t.are z.class (class_among t z h) in
      let is = part_class w scope t.parts t.are at.0 at.1.0 z.class at.1.1 in
      (z.ending.asked, ((at.0, (at.1.0, (at.1.1, is.begins))), agree_same w scope z.class.least.turns))

  tied : (t : Telling) (x z : Piece) → IsAmong x t.pieces → IsAmong z t.pieces → Before (λ (y : Piece). y.told) x z → Before (λ (y : Piece). y.told) z x → x.class ≡ z.class
  tied t x z h k a b =
      let turns : x.class.least.turns ≡ z.class.least.turns =
      ranks_both (rank w x.class.least.turns) (rank w z.class.least.turns) (ranked_by x z a) (ranked_by z x b) in
      class_alone w scope t.parts t.are x.class z.class z.class.least.turns (subst (λ (js : List ℕ). Leads t x.class js) turns (leads_self t x h)) (leads_self t z k)

  untied : (t : Telling) (xs : List Piece) → ((x : Piece) → IsAmong x xs → IsAmong x t.pieces) → EachOnce (map (λ (z : Piece). z.class) xs) → HaveNoTies (λ (z : Piece). z.told) xs
  untied t [] all once = tt
  untied t (x ∷ xs) all once = (
    (λ z h a b.
        once.0 (subst (λ (c : ClassView). IsAmong c (map (λ (y : Piece). y.class) xs)) (sym (tied t x z (all x (inl refl)) (all z (inr h)) a b)) (mapped (λ (y : Piece). y.class) z xs h))),
    untied t xs (λ y k. all y (inr k)) once.1,
  )

  -- ---- how many lists come to what passes

  abbrev number : (Told → Bool) → Piece → ℕ
  number test z = if test z.told then z.told.lists else 0

  abbrev Comes : Telling → (Told → Bool) → Piece → List ℕ → Type 0
  Comes t test z js = (test z.told ≡ true) × Leads t z.class js

  counts_one : (t : Telling) (test : Told → Bool) (z : Piece) → IsAmong z t.pieces → AreSoMany (Comes t test z) (number test z)
  counts_one t test z h =
      go (test z.told) refl (subst (λ (n : ℕ). AreSoMany (Leads t z.class) n) (sym z.is.counted) (class_counted w scope t.parts t.are z.class (class_among t z h)))
    where
      go : (b : Bool) → test z.told ≡ b → AreSoMany (Leads t z.class) z.told.lists → AreSoMany (Comes t test z) (if b then z.told.lists else 0)
      go true e so = so_many_as z.told.lists (λ js k. (e, k)) (λ js k. k.1) so
      go false e so = record {
        words = [];
        are_all = record { each = λ js k. absurd k; all = λ js k. absurd (true≢false (sym k.0 ∙ e)); once = tt };
        count = none_capped COUNT_CAP;
      }

  so_many : (t : Telling) (test : Told → Bool) → AreSoMany (InSome (Comes t test) t.pieces) (min (sum_by (number test) t.pieces) COUNT_CAP)
  so_many t test =
      sum_many (Comes t test) (number test) t.pieces (once_unmapped (λ (z : Piece). z.class) t.pieces (pieces_once t)) (λ z h. counts_one t test z h)
      (λ x z js h k a b. one_of_each (λ (y : Piece). y.class) x z t.pieces (pieces_once t) h k (class_alone w scope t.parts t.are x.class z.class js a.1 b.1))

  -- ---- of two tellings

  abbrev Same : Piece → Piece → Type 0
  Same x y = AgreeIn w scope x.class.least.turns y.class.least.turns

  same_turned : (x y : Piece) → Same x y → Same y x
  same_turned x y h = agree_turned w scope x.class.least.turns y.class.least.turns h

  same_on : (x y z : Piece) → Same x y → Same y z → Same x z
  same_on x y z h k = agree_on w scope x.class.least.turns y.class.least.turns z.class.least.turns h k

  same_by : (x y : Piece) (js : List ℕ) → AgreeIn w scope js x.class.least.turns → AgreeIn w scope js y.class.least.turns → Same x y
  same_by x y js h k = agree_on w scope x.class.least.turns js y.class.least.turns (agree_turned w scope js x.class.least.turns h) k

  module _ (seats : actors ≡ length w.seats) (nameless : RepliesNameNoHandles w scope) where
    alike : (x y : Piece) → Same x y → AreAlike x.told y.told
    alike x y h = told_alike true w scope named opening actors seats nameless x.class y.class x.told y.told x.ending y.ending h x.is y.is

    comes_too : (t u : Telling) (test : Told → Bool) → IsByOutcome test → (js : List ℕ) → InSome (Comes t test) t.pieces js → InSome (Comes u test) u.pieces js
    comes_too t u test by js h =
        let at = own_piece u js h.1.1.1.0 in
        (at.0, (at.1.0, (sym (by h.0.told at.0.told (alike h.0 at.0 (same_by h.0 at.0 js h.1.1.1.1.1 at.1.1.1.1))) ∙ h.1.1.0, at.1.1)))

    pub as_many : (t u : Telling) (test : Told → Bool) → IsByOutcome test
        → min (sum_by (number test) t.pieces) COUNT_CAP ≡ min (sum_by (number test) u.pieces) COUNT_CAP
    as_many t u test by =
        same_many (InSome (Comes t test) t.pieces) (InSome (Comes u test) u.pieces) (min (sum_by (number test) t.pieces) COUNT_CAP)
        (min (sum_by (number test) u.pieces) COUNT_CAP) (comes_too t u test by) (comes_too u t test by) (so_many t test) (so_many u test)

    -- ---- of the whole, all of whose lists are one part

    module _ (t u : Telling) (wide : (part : PartView) → IsAmong part u.parts → part.begin ≡ []) where
      leads_wide : (y : Piece) → IsAmong y u.pieces → (js : List ℕ) → IsAsked w scope js → AgreeIn w scope js y.class.least.turns → Leads u y.class js
      leads_wide y h js asked agree =
          let at = class_part w scope u.parts u.are y.class (class_among u y h) in
          (asked, ((at.0, (at.1.0, (at.1.1, subst (λ (begin : List ℕ). Begins begin js) (sym (wide at.0 at.1.0)) (js, refl)))), agree))

      others : (ys : List Piece) → ((y : Piece) → IsAmong y ys → IsAmong y u.pieces) → EachOnce (map (λ (z : Piece). z.class) ys)
          → AreOthers (λ (z : Piece). z.told) Same alike same_turned same_on ys
      others [] all once = tt
      others (y ∷ ys) all once = (
        (λ z h same.
            once.0
            (subst (λ (c : ClassView). IsAmong c (map (λ (x : Piece). x.class) ys))
            (sym (class_alone w scope u.parts u.are y.class z.class z.class.least.turns
            (leads_wide y (all y (inl refl)) z.class.least.turns z.ending.asked (same_turned y z same)) (leads_self u z (all z (inr h)))))
            (mapped (λ (x : Piece). x.class) z ys h))),
        others ys (λ x k. all x (inr k)) once.1,
      )

      one_but : (x y : Piece) → x.class.least.turns ≡ y.class.least.turns → AreOneBut x.told y.told
      one_but x y turns =
          let e = y.class.least in
          one_list_is_told_as_one true named opening e.tree actors x.class.lists y.class.lists e.cuts e.changes e.turns e.replies e.outside x.told y.told
          (subst (λ (d : EndingView). IsToldOf true named opening actors x.class.lists d.cuts d.changes d.turns d.replies d.tree d.outside x.told)
          (same_ending w scope x.class.least e x.ending y.ending turns) x.is)
          y.is

      whole_of : (x : Piece) → IsAmong x t.pieces → (y : Piece) × (IsAmong y u.pieces × IsWholeOf (λ (z : Piece). z.told) Same alike same_turned same_on y x)
      whole_of x h =
          let at = own_piece u x.class.least.turns x.ending.asked in
          (at.0, (at.1.0, (same_turned x at.0 at.1.1.1.1, before_by at.0 x (own_least w scope u.parts u.are at.0.class x.class.least.turns at.1.1))))

      first_of : (y : Piece) → IsAmong y u.pieces → (x : Piece) × (IsAmong x t.pieces × IsFirstOf (λ (z : Piece). z.told) Same alike same_turned same_on x y)
      first_of y h =
          let at = own_piece t y.class.least.turns y.ending.asked in
          let x = at.0 in
          let same : Same x y = same_turned y x at.1.1.1.1 in
          let before : is_at_most (rank w x.class.least.turns) (rank w y.class.least.turns) ≡ true =
          own_least w scope t.parts t.are x.class y.class.least.turns at.1.1 in
          let behind : is_at_most (rank w y.class.least.turns) (rank w x.class.least.turns) ≡ true =
          own_least w scope u.parts u.are y.class x.class.least.turns (leads_wide y h x.class.least.turns x.ending.asked same) in (
            x,
            (
              at.1.0,
              record {
                one = one_but x y (ranks_both (rank w x.class.least.turns) (rank w y.class.least.turns) before behind);
                same = same;
                before = before_by x y before;
                behind = before_by y x behind;
              },
            ),
          )

      pub are_pieces : ArePieces (in_order (map (λ (z : Piece). z.told) t.pieces)) (in_order (map (λ (z : Piece). z.told) u.pieces))
      are_pieces = record {
        first = first_in_order (λ (z : Piece). z.told) Same alike same_turned same_on t.pieces u.pieces whole_of first_of (others u.pieces (λ y k. k) (pieces_once u))
            (untied t t.pieces (λ y k. k) (pieces_once t)) (untied u u.pieces (λ y k. k) (pieces_once u));
        lists = λ test by.
            ap (λ (n : ℕ). min n COUNT_CAP) (summed test t.pieces)
            ∙ (as_many t u test by ∙ sym (ap (λ (n : ℕ). min n COUNT_CAP) (summed test u.pieces)));
      }
        where
          summed : (test : Told → Bool) (pieces : List Piece)
              → sum_by (λ (told : Told). if test told then told.lists else 0) (in_order (map (λ (z : Piece). z.told) pieces)) ≡ sum_by (number test) pieces
          summed test pieces =
              order_sum (λ (told : Told). if test told then told.lists else 0) (map (λ (z : Piece). z.told) pieces)
              ∙ mapped_sum (λ (z : Piece). z.told) (λ (told : Told). if test told then told.lists else 0) pieces
