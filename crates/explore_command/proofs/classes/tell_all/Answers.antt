use Rattle.std.proofs.Common.{◌≡◌, ◌++◌, ◌∷◌, [], List, sym, ap, ◌∙◌, subst, rules}
use Rattle.std.proofs.lemmas.List.{append_assoc, append-nil, nil_from_length}
use Rattle.layered_search.specs.declared.found.Class.{Class}
use Rattle.local_states.specs.Worlds.{EndView}
use Rattle.explore.specs.Explored.{classes_in}
use Rattle.outcome_text.specs.declared.survey.Told.{Told}
use Rattle.explore_command.specs.Classes.{AreTold}
use Rattle.explore_command.proofs.classes.tell_all.Goals as goal

pub loop-class-init : goal.loop-class-init
loop-class-init g c more are = search rules

pub loop-class-preserved : goal.loop-class-preserved
loop-class-preserved g c more are =
    let named = c.args.named.now in
    let opening = c.args.opening.now in
    let actors = c.args.actors in
    let told = c.in_ok-tell.field-0 in
    let before = c.loop-class.all.items in
    let split : c.loop-class.class-iterator.rest.items ≡ c.in-Some.class ∷ c.next.new.self.rest.items = search rules in
    let pushed : c.push.new.self.items ≡ before ++ told ∷ [] = c.in_ok-push.ensures.items in
    subst (λ (ts : List Told). AreTold c.args.judged named opening actors (classes_in c.args.classes.items) ts)
    (sym (ap (λ (ts : List Told). ts ++ more) pushed ∙ append_assoc before (told ∷ []) more))
    (c.loop-class.invariant (told ∷ more)
    (subst (λ (cs : List (Class EndView)). AreTold c.args.judged named opening actors (classes_in cs) (told ∷ more)) (sym split) (c.in_ok-tell.ensures, are)))

pub returns : goal.returns
returns g c =
    let named = c.args.named.now in
    let opening = c.args.opening.now in
    let actors = c.args.actors in
    let left = c.loop-class.class-iterator.rest in
    let none : left.items ≡ [] = nil_from_length left.items (sym left.ok.0 ∙ c.in-None.ensures.steps.0) in
    subst (λ (ts : List Told). AreTold c.args.judged named opening actors (classes_in c.args.classes.items) ts) (append-nil c.loop-class.all.items)
    (c.loop-class.invariant [] (subst (λ (cs : List (Class EndView)). AreTold c.args.judged named opening actors (classes_in cs) []) (sym none) tt))
