use Rattle.std.proofs.Common.{List, refl, ap, subst}
use Rattle.sessions.specs.Close.{StoppedView, IsCause, IsClosable}
use Rattle.sessions.specs.Session.{SessionView}
use Rattle.sessions.proofs.Closes.{closes_book}
use Rattle.sessions.proofs.close.Stopped.close.Goals as goal

pub returns-in-Some-clause-refused : goal.returns-in-Some-clause-refused
returns-in-Some-clause-refused g c = (subst (λ (ss : List SessionView). IsCause c.args.self ss c.in-Some.cause) c.as_slice.ensures.value c.in-Some.ensures, refl, refl)

pub returns-in-None-clause-closed : goal.returns-in-None-clause-closed
returns-in-None-clause-closed g c =
    let is : IsClosable c.args.self c.args.sessions.items = subst (λ (ss : List SessionView). IsClosable c.args.self ss) c.as_slice.ensures.value c.in-None.ensures in (
      is,
      closes_book c.args.self c.args.sessions.items is (g.T.Tree.state c.into_parts-tree.result.0) c.into_parts-tree.result.1.events c.into_parts-tree.result.2 c.self.inside.book
          (ap (λ (z : StoppedView). z.book) c.self.view_is) c.into_parts-tree.ensures.tree c.into_parts-tree.ensures.events c.into_parts-tree.ensures.opening c.into_parts-tree.ensures.legal,
    )
