-- Two answers to what all schedules of a world come to are one.
use Rattle.std.specs.Prelude.{◌≡◌, ◌≤◌, ℕ, List}
use Rattle.std.proofs.Common.{◌∙◌, sym, ap, subst}
use Rattle.std.proofs.Math.Nat.{le_antisymm}
use Rattle.race_core.specs.Book.{tree_now}
use Rattle.race_core.specs.Worlds.{WorldView, ledgers_in, replies_in}
use Rattle.schedule_graph.specs.Counted.{IsAmong, EachOnce}
use Rattle.local_states.specs.Worlds.{after_turns}
use Rattle.explore.specs.Explored.{Scope, cuts, changes, Rank, rank, IsAsked, AgreeIn, EndingView, ClassView, IsEnding, HasClass, IsLongest}
use Rattle.local_states.specs.Outside.{outside_of}
use Rattle.explore.specs.Promise.{IsMergedClass, IsMerged}
use Rattle.explore.proofs.Lists.Told.{agree_same, agree_turned, agree_on}
use Rattle.further_world_laws.specs.OneAnswer.{AnswersAreOne}
use Rattle.further_world_laws.proofs.OnceEach.{permuted, same_many, among_at, place_of, once_by_places}
use Rattle.further_world_laws.proofs.OneOrder.{ranks_both}

module _ (w : WorldView) (scope : Scope) where
  -- what is told of a list follows from the list
  pub same_ending : (e d : EndingView) → IsEnding w scope e → IsEnding w scope d → e.turns ≡ d.turns → e ≡ d
  same_ending e d is are t =
      let c : e.cuts ≡ d.cuts =
      ap (λ (r : Rank). r.cuts) is.ranked ∙ (ap (λ (js : List ℕ). cuts w js) t ∙ sym (ap (λ (r : Rank). r.cuts) are.ranked)) in
      let g : e.changes ≡ d.changes =
      ap (λ (r : Rank). r.changes) is.ranked ∙ (ap (λ (js : List ℕ). changes js) t ∙ sym (ap (λ (r : Rank). r.changes) are.ranked)) in
      let tree : e.tree ≡ d.tree = is.report.is_tree ∙ (ap (λ (js : List ℕ). tree_now (after_turns w js).book) t ∙ sym are.report.is_tree) in
      let replies : e.replies ≡ d.replies =
      is.report.are_replies ∙ (ap (λ (js : List ℕ). replies_in (ledgers_in (after_turns w js).seats)) t ∙ sym are.report.are_replies) in
      let outside : e.outside ≡ d.outside =
      is.outside ∙ (ap (λ (js : List ℕ). outside_of scope.outside (after_turns w js)) t ∙ sym are.outside) in
      λ i. record {
        turns = t i;
        cuts = c i;
        changes = g i;
        tree = tree i;
        replies = replies i;
        outside = outside i;
      }

  same_class : (c d : ClassView) → IsMergedClass w scope c → IsMergedClass w scope d → AgreeIn w scope c.least.turns d.least.turns → c ≡ d
  same_class c d is are agrees =
      let back : AgreeIn w scope d.least.turns c.least.turns = agree_turned w scope c.least.turns d.least.turns agrees in
      let t : c.least.turns ≡ d.least.turns =
      ranks_both (rank w c.least.turns) (rank w d.least.turns) (is.least d.least.turns are.ending.asked back) (are.least c.least.turns is.ending.asked agrees) in
      let least : c.least ≡ d.least = same_ending c.least d.least is.ending are.ending t in
      let lists : c.lists ≡ d.lists =
      same_many (λ js. IsAsked w scope js × AgreeIn w scope js c.least.turns) (λ js. IsAsked w scope js × AgreeIn w scope js d.least.turns) c.lists d.lists
      (λ js h. (h.0, agree_on w scope js c.least.turns d.least.turns h.1 agrees))
      (λ js h. (h.0, agree_on w scope js d.least.turns c.least.turns h.1 back)) is.lists are.lists in
      λ i. record { least = least i; lists = lists i }

  -- ---- the classes of an answer

  pub classes_once : (classes : List ClassView) (lists turns : ℕ) → IsMerged w scope classes lists turns → EachOnce classes
  classes_once classes lists turns is = once_by_places classes (λ k l c e f. is.apart k l c c e f (agree_same w scope c.least.turns))

  class_there : (classes others : List ClassView) (lists turns m n : ℕ) → IsMerged w scope classes lists turns → IsMerged w scope others m n
      → (c : ClassView) → IsAmong c classes → IsAmong c others
  class_there classes others lists turns m n is are c h =
      let at = place_of c classes h in
      let class : IsMergedClass w scope c = is.each at.0 c at.1 in
      let has : HasClass w scope others c.least.turns = are.told c.least.turns class.ending.asked in
      subst (λ (x : ClassView). IsAmong x others) (sym (same_class c has.class class (are.each has.at has.class has.there) has.agrees))
      (among_at others has.at has.class has.there)

  as_long : (m n : ℕ) → IsLongest w scope m → IsLongest w scope n → m ≤ n
  as_long m n is are = subst (λ k. k ≤ n) is.reached.1.1 (are.bounded is.reached.0 is.reached.1.0)

pub answers_are_one : AnswersAreOne
answers_are_one w scope classes others lists turns m n is are = record {
  counted = same_many (IsAsked w scope) (IsAsked w scope) lists m (λ js h. h) (λ js h. h) is.counted are.counted;
  longest = le_antisymm (as_long w scope turns n is.longest are.longest) (as_long w scope n turns are.longest is.longest);
  told = permuted classes others (classes_once w scope classes lists turns is) (classes_once w scope others m n are)
      (class_there w scope classes others lists turns m n is are) (class_there w scope others classes m n lists turns are is);
}
