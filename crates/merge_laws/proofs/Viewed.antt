-- Parts as they were searched, with what is told of their classes.
use Rattle.std.specs.Prelude.{◌≡◌, ◌+◌, ℕ, max, List, [], ◌∷◌, ◌++◌, true, map, length, sum_by, refl}
use Rattle.std.proofs.Common.{◌∙◌, inl, inr, sym, ap, subst, ⊎_elim}
use Rattle.std.proofs.lemmas.List.{map-append}
use Rattle.std.proofs.lemmas.List.Sums.{sum_by-cons}
use Rattle.explore.specs.Explored.{Scope, ClassView, IsEnding}
use Rattle.explore.specs.Opened.{opened_world}
use Rattle.explore_parts.specs.declared.asked.Asked.{Asked}
use Rattle.explore_command.specs.Surveyed.{scope_asked}
use Rattle.explore_command.specs.Classes.{AreTold}
use Rattle.explore_command.specs.Part as of_scene
use Rattle.race_core.specs.declared.plan.ActorPlan.{ActorPlan}
use Rattle.race_core.specs.Worlds.{WorldView}
use Rattle.schedule_graph.specs.Counted.{IsAmong}
use Rattle.outcome_text.specs.declared.part.Part.{Part}
use Rattle.outcome_text.specs.declared.survey.Told.{Told}
use Rattle.outcome_text.specs.Merge.{longest, all_of}
use Rattle.tree_model.specs.State.{State}
use Rattle.further_world_laws.specs.Parts.{PartView, part_with, IsPart, begins_of, classes_of, greatest_by}
use Rattle.further_world_laws.proofs.OnceEach.{place_of}
use Rattle.further_world_laws.proofs.SearchedPart.{searches_tell_parts}
use Rattle.merge_laws.specs.Merged.{AreOneQuestion, IsPartOf, begins_in}
use Rattle.merge_laws.proofs.Barred.{barred_part}
use Rattle.merge_laws.proofs.Tellings.{Piece}

both_same : {A : Type 0} {xs ys zs us : List A} → xs ≡ ys → zs ≡ us → xs ++ zs ≡ ys ++ us
both_same p q = λ i. p i ++ q i

sum_same : {a b c d : ℕ} → a ≡ b → c ≡ d → a + c ≡ b + d
sum_same p q = λ i. p i + q i

module _ (w : WorldView) (scope : Scope) (named : List ℕ) (opening : State) (actors : ℕ) where
  abbrev Pieces : Type 0
  Pieces = List (Piece w scope named opening actors)

  abbrev pub classes_in : Pieces → List ClassView
  classes_in pieces = map (λ (z : Piece w scope named opening actors). z.class) pieces

  abbrev pub told_in : Pieces → List Told
  told_in pieces = map (λ (z : Piece w scope named opening actors). z.told) pieces

  -- classes and what is told of them, two by two
  pub record ArePaired (classes : List ClassView) (all : List Told) : Type 0 where
    pub pieces : Pieces
    pub are_classes : classes_in pieces ≡ classes
    pub are_told : told_in pieces ≡ all

  pub paired : (classes : List ClassView) (all : List Told) → AreTold true named opening actors classes all → ((c : ClassView) → IsAmong c classes → IsEnding w scope c.least)
      → ArePaired classes all
  paired [] [] says endings = record { pieces = []; are_classes = refl; are_told = refl }
  paired [] (t ∷ all) says endings = absurd says
  paired (c ∷ classes) [] says endings = absurd says
  paired (c ∷ classes) (t ∷ all) says endings =
      let rest : ArePaired classes all = paired classes all says.1 (λ d h. endings d (inr h)) in record {
        pieces = record { class = c; told = t; ending = endings c (inl refl); is = says.0 } ∷ rest.pieces;
        are_classes = ap (λ (cs : List ClassView). c ∷ cs) rest.are_classes;
        are_told = ap (λ (ts : List Told). t ∷ ts) rest.are_told;
      }

  -- ---- a part

  pub record IsViewed (part : Part) : Type 0 where
    pub view : PartView
    pub begin : view.begin ≡ part.begin.items
    pub lists : view.lists ≡ part.lists
    pub turns : view.turns ≡ part.turns
    pub told : ArePaired view.classes part.all.items
    pub is : IsPart w scope view

  pub endings_in : (view : PartView) → IsPart w scope view → (c : ClassView) → IsAmong c view.classes → IsEnding w scope c.least
  endings_in view is c h = let at = place_of c view.classes h in (is.each at.0 c at.1).ending

  -- ---- all parts

  pub record AreViewed (parts : List Part) : Type 0 where
    pub views : List PartView
    pub begins : begins_of views ≡ begins_in parts
    pub lists : sum_by (λ v. v.lists) views ≡ sum_by (λ p. p.lists) parts
    pub turns : greatest_by (λ v. v.turns) views ≡ longest parts
    pub told : ArePaired (classes_of views) (all_of parts)
    pub each : (view : PartView) → IsAmong view views → IsPart w scope view

  paired_more : (classes others : List ClassView) (all more : List Told) → ArePaired classes all → ArePaired others more → ArePaired (classes ++ others) (all ++ more)
  paired_more classes others all more first rest = record {
    pieces = first.pieces ++ rest.pieces;
    are_classes = map-append (λ (z : Piece w scope named opening actors). z.class) first.pieces rest.pieces ∙ both_same first.are_classes rest.are_classes;
    are_told = map-append (λ (z : Piece w scope named opening actors). z.told) first.pieces rest.pieces ∙ both_same first.are_told rest.are_told;
  }

  pub viewed_all : (parts : List Part) → ((part : Part) → IsAmong part parts → IsViewed part) → AreViewed parts
  viewed_all [] viewed = record {
    views = [];
    begins = refl;
    lists = refl;
    turns = refl;
    told = record { pieces = []; are_classes = refl; are_told = refl };
    each = λ view h. absurd h;
  }
  viewed_all (part ∷ parts) viewed =
      let first : IsViewed part = viewed part (inl refl) in
      let rest : AreViewed parts = viewed_all parts (λ p h. viewed p (inr h)) in record {
        views = first.view ∷ rest.views;
        begins = λ i. first.begin i ∷ rest.begins i;
        lists = sum_by-cons (λ (v : PartView). v.lists) first.view rest.views
            ∙ (sum_same first.lists rest.lists ∙ sym (sum_by-cons (λ (p : Part). p.lists) part parts));
        turns = λ i. max (first.turns i) (rest.turns i);
        told = paired_more first.view.classes (classes_of rest.views) part.all.items (all_of parts) first.told rest.told;
        each = λ view h. ⊎_elim (λ e. subst (λ (v : PartView). IsPart w scope v) (sym e) first.is) (λ q. rest.each view q) h;
      }

-- ---- a part that a search tells

module _ (asked : Asked) (tree : State) (plans : List ActorPlan) (lines : ℕ) where
  abbrev world : WorldView
  world = opened_world tree plans lines

  abbrev pub Viewed : Part → Type 0
  Viewed part = IsViewed world (scope_asked asked) asked.named.items tree (length plans) part

  module _ (own : Asked) (part : Part) (one : AreOneQuestion own asked) (begin : part.begin.items ≡ own.limits.scope.begin.items) where
    with_lists : of_scene.HasLists own tree plans lines part → Viewed part
    with_lists has =
        let view : PartView = part_with own.limits.scope.begin.items has.classes part.lists part.turns in
        let is : IsPart world (scope_asked asked) view =
        searches_tell_parts world (scope_asked own) (scope_asked asked) has.classes part.lists part.turns one.scope has.explored in record {
          view = view;
          begin = sym begin;
          lists = refl;
          turns = refl;
          told = paired world (scope_asked asked) asked.named.items tree (length plans) has.classes part.all.items
              (subst (λ (names : List ℕ). AreTold true names tree (length plans) has.classes part.all.items) one.named has.told)
              (endings_in world (scope_asked asked) asked.named.items tree (length plans) view is);
          is = is;
        }

    without_lists : of_scene.IsNone own tree plans lines part → Viewed part
    without_lists none = record {
      view = part_with own.limits.scope.begin.items [] 0 0;
      begin = sym begin;
      lists = sym none.1.lists;
      turns = sym none.1.turns;
      told = record { pieces = []; are_classes = refl; are_told = sym none.1.all };
      is = barred_part world (scope_asked asked) (scope_asked own) own.limits.scope.begin.items one.scope.cuts none.0;
    }

  pub viewed_part : (part : Part) → IsPartOf asked tree plans lines part → Viewed part
  viewed_part part is =
      ⊎_elim (λ has. with_lists is.0 part is.1.0 is.1.1.begin has) (λ none. without_lists is.0 part is.1.0 is.1.1.begin none) is.1.1.told
