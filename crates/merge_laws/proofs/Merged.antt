-- What is joined of parts says the same as the survey of all lists.
use Rattle.std.specs.Prelude.{◌≡◌, ℕ, Bool, min, List, [], ◌∷◌, map, length, None, refl}
use Rattle.std.proofs.Common.{◌∙◌, inl, sym, ap, subst, ⊎_elim}
use Rattle.std.proofs.lemmas.List.{append-nil}
use Rattle.explore.specs.Explored.{Scope}
use Rattle.explore.specs.Opened.{opened_world}
use Rattle.explore_parts.specs.declared.asked.Asked.{Asked}
use Rattle.explore_command.specs.Surveyed.{scope_asked, IsSurvey}
use Rattle.race_core.specs.declared.plan.ActorPlan.{ActorPlan}
use Rattle.race_core.specs.Worlds.{WorldView}
use Rattle.schedule_graph.specs.declared.count.TheConstants.{COUNT_CAP}
use Rattle.schedule_graph.specs.Counted.{IsAmong, EachOnce}
use Rattle.outcome_text.specs.declared.part.Part.{Part}
use Rattle.outcome_text.specs.declared.property.Property.{Property}
use Rattle.outcome_text.specs.declared.survey.Told.{Told}
use Rattle.outcome_text.specs.Conditions.{told_text}
use Rattle.outcome_text.specs.InPieces.{ArePieces}
use Rattle.outcome_text.specs.Merge.{all_lists, longest, all_of, IsJoined}
use Rattle.outcome_text.specs.Order.{in_order}
use Rattle.outcome_text.proofs.InPieces.{pieces_tell_the_whole}
use Rattle.tree_model.specs.State.{State}
use Rattle.further_world_laws.specs.Parts.{PartView, part_with, AreParts, AreBeginnings}
use Rattle.further_world_laws.specs.Parts as worlds
use Rattle.further_world_laws.proofs.PartsJoined.{parts_make_the_whole}
use Rattle.further_world_laws.proofs.WholePart.{whole_is_a_part}
use Rattle.merge_laws.specs.Merged.{RepliesNameNoHandles, ArePartsOf, SayTheSame, MergedPartsAreTheWhole}
use Rattle.merge_laws.proofs.Judged.{HaveLines, have_lines}
use Rattle.merge_laws.proofs.Covered.{parts_without_gaps_are_all}
use Rattle.merge_laws.proofs.RepliesSayNoHandles.{replies_say_no_handles}
use Rattle.merge_laws.proofs.Tellings.{Piece, Telling, are_pieces}
use Rattle.merge_laws.proofs.Viewed.{ArePaired, AreViewed, paired, endings_in, viewed_all, viewed_part}

numbers_same : (properties : List Property) (all : List Told) {a b c d : ℕ} → a ≡ b → c ≡ d → told_text a None c all properties ≡ told_text b None d all properties
numbers_same properties all p q = λ i. told_text (p i) None (q i) all properties

module _ (asked : Asked) (tree : State) (plans : List ActorPlan) (lines : ℕ) (seats : length plans ≡ length (opened_world tree plans lines).seats)
    (nameless : RepliesNameNoHandles (opened_world tree plans lines) (scope_asked asked)) where
  abbrev world : WorldView
  world = opened_world tree plans lines

  abbrev scope : Scope
  scope = scope_asked asked

  abbrev Tells : Type 0
  Tells = Telling world scope asked.named.items tree (length plans)

  module _ (parts : List Part) (are : ArePartsOf asked tree plans lines parts) where
    viewed : AreViewed world scope asked.named.items tree (length plans) parts
    viewed = viewed_all world scope asked.named.items tree (length plans) parts (λ part h. viewed_part asked tree plans lines part (are.each part h))

    parted : AreParts world scope viewed.views
    parted = record {
      each = viewed.each;
      cover = subst (λ (begins : List (List ℕ)). AreBeginnings world scope (λ begin. IsAmong begin begins)) (sym viewed.begins) are.cover;
      once = subst (λ (begins : List (List ℕ)). EachOnce begins) (sym viewed.begins) are.once;
    }

    of_parts : Tells
    of_parts = record { parts = viewed.views; are = parted; pieces = viewed.told.pieces; classes = viewed.told.are_classes }

    module _ (holds answer : Bool) (whole text : List ℕ) (survey : IsSurvey asked tree plans lines holds whole)
        (join : IsJoined parts asked.properties.items answer text) where
      alone : AreParts world scope (part_with [] survey.classes survey.lists survey.turns ∷ [])
      alone = whole_is_a_part world scope survey.classes survey.lists survey.turns survey.explored

      lined : HaveLines asked.named.items tree (length plans) asked.properties.items survey.classes survey.telling.all
      lined = have_lines asked.named.items tree (length plans) asked.properties.items survey.classes survey.telling.all survey.telling.told

      pairs : ArePaired world scope asked.named.items tree (length plans) survey.classes lined.full
      pairs =
          paired world scope asked.named.items tree (length plans) survey.classes lined.full lined.told
          (endings_in world scope asked.named.items tree (length plans) (part_with [] survey.classes survey.lists survey.turns)
          (alone.each (part_with [] survey.classes survey.lists survey.turns) (inl refl)))

      of_whole : Tells
      of_whole = record {
        parts = part_with [] survey.classes survey.lists survey.turns ∷ [];
        are = alone;
        pieces = pairs.pieces;
        classes = pairs.are_classes ∙ sym (append-nil survey.classes);
      }

      wide : (part : PartView) → IsAmong part of_whole.parts → part.begin ≡ []
      unfolding of_whole
      wide part h = ⊎_elim (λ e. ap (λ (v : PartView). v.begin) e) (λ none. absurd none) h

      pieces : ArePieces (in_order (all_of parts)) (in_order lined.full)
      unfolding pairs of_whole viewed of_parts
      pieces =
          subst (λ (ts : List Told). ArePieces (in_order ts) (in_order lined.full)) viewed.told.are_told
          (subst (λ (ts : List Told). ArePieces (in_order (map (λ (z : Piece world scope asked.named.items tree (length plans)). z.told) of_parts.pieces)) (in_order ts)) pairs.are_told
          (are_pieces world scope asked.named.items tree (length plans) seats nameless of_parts of_whole wide))

      joined : worlds.IsJoined world scope viewed.views survey.classes survey.lists survey.turns
      joined = (parts_make_the_whole world scope viewed.views survey.classes survey.lists survey.turns parted).0 survey.explored

      lists_same : all_lists parts ≡ survey.lists
      lists_same = ap (λ (n : ℕ). min n COUNT_CAP) (sym viewed.lists) ∙ sym joined.counted

      longest_same : longest parts ≡ survey.turns
      longest_same = sym viewed.turns ∙ sym joined.longest

      said : SayTheSame asked.properties.items holds answer whole text
      said =
          let tells = pieces_tell_the_whole survey.lists None survey.turns asked.properties.items (in_order (all_of parts)) (in_order lined.full) pieces in record {
            all = in_order survey.telling.all;
            lists = survey.lists;
            states = survey.states;
            longest = survey.turns;
            whole_is = survey.telling.is;
            text_is = join.is ∙ (numbers_same asked.properties.items (in_order (all_of parts)) lists_same longest_same ∙ (tells.0 ∙ lined.text survey.lists None survey.turns));
            answers = join.judged ∙ (tells.1 ∙ (lined.holds ∙ sym survey.telling.judged));
          }

pub merged_parts_are_the_whole : MergedPartsAreTheWhole
merged_parts_are_the_whole asked tree plans lines parts holds answer whole text seats each survey merged =
    said asked tree plans lines seats (λ is asked. replies_say_no_handles tree plans lines is) parts
    (parts_without_gaps_are_all asked tree plans lines parts seats each merged.apart merged.are_all) holds answer whole text survey merged.joined
