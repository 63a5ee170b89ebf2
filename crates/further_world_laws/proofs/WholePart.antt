-- The answer for all lists is that for the part which begins with no turns.
use Rattle.std.specs.Prelude.{ℕ, List, [], refl}
use Rattle.std.proofs.Common.{inl, inr, sym, subst, ⊎_elim}
use Rattle.race_core.specs.Worlds.{WorldView}
use Rattle.schedule_graph.proofs.Summing.{so_many_as}
use Rattle.explore.specs.Explored.{Scope, ClassView}
use Rattle.explore.specs.Promise.{IsMergedClass, IsMerged}
use Rattle.further_world_laws.specs.Parts.{IsPartClass, PartView, part_with, IsPart, WholeIsAPart}

part_class : (w : WorldView) (scope : Scope) (c : ClassView) → IsMergedClass w scope c → IsPartClass w scope [] c
part_class w scope c is = record {
  ending = is.ending;
  begins = (c.least.turns, refl);
  least = λ js from agrees. is.least js from.0 agrees;
  lists = so_many_as c.lists (λ js h. ((h.0, (js, refl)), h.1)) (λ js h. (h.0.0, h.1)) is.lists;
}

whole_part : (w : WorldView) (scope : Scope) (classes : List ClassView) (lists turns : ℕ) → IsMerged w scope classes lists turns
    → IsPart w scope (part_with [] classes lists turns)
whole_part w scope classes lists turns whole = record {
  counted = so_many_as lists (λ js asked. (asked, (js, refl))) (λ js from. from.0) whole.counted;
  longest = record {
    bounded = λ js from. whole.longest.bounded js from.0;
    reached =
        let one = whole.longest.reached in
        inr (one.0, ((one.1.0, (one.0, refl)), one.1.1));
  };
  told = λ js from. whole.told js from.0;
  apart = whole.apart;
  each = λ k c there. part_class w scope c (whole.each k c there);
}

pub whole_is_a_part : WholeIsAPart
whole_is_a_part w scope classes lists turns whole = record {
  each = λ part h.
      ⊎_elim (λ e. subst (λ (p : PartView). IsPart w scope p) (sym e) (whole_part w scope classes lists turns whole)) (λ none. absurd none) h;
  cover = λ is asked. record {
    begin = [];
    chosen = inl refl;
    begins = (is, refl);
    only = λ other h begins. ⊎_elim (λ e. e) (λ none. absurd none) h;
  };
  once = ((λ none. none), tt);
}
