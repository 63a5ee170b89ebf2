use Rattle.std.proofs.Common.{◌≡◌, ◌++◌, ◌∙◌, ap, sym, subst, List, length, Ok, refl}
use Rattle.tree_model.specs.State.{State}
use Rattle.sessions.specs.Open.{first_sessions, granted}
use Rattle.sessions.specs.Session.{SessionView}
use Rattle.sessions.proofs.Opens.{opening_none, opened_whole}
use Rattle.sessions.proofs.service.Service.open.Goals as goal

pub returns-clause-opened : goal.returns-clause-opened
returns-clause-opened g c =
    let s = g.T.Tree.state c.args.tree in (
      opening_none s (g.T.Tree.state c.grant_from.new.tree) c.args.roots.now c.args.lines c.if-roots-gt-SESSIONS_MAX.false c.in_default.ensures.granted c.in_ok-book.ensures.opened.1,
      opened_whole s c.in_ok-book.opening c.args.tag c.args.lines c.args.roots.now _ c.grant_from.new.sessions.items
          (subst (λ (t : State). granted s 0 c.args.roots.now ≡ Ok t) (sym c.in_ok-book.ensures.opened.0) c.in_default.ensures.granted)
          (c.in_default.ensures.sessions ∙ ap (λ (ss : List SessionView). ss ++ first_sessions c.args.tag 0 (length s.handles) c.args.roots.now) c.new-sessions.ensures.items) refl,
    )
