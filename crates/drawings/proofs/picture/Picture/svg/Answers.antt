use Rattle.std.proofs.Common.{subst}
use Rattle.std.specs.Prelude.{All, codes}
use Rattle.drawings.specs.declared.picture.Head.{Head}
use Rattle.drawings.specs.DrawingLaws.{AreBytes, IsLine}
use Rattle.drawings.specs.Picture.{Drawn}
use Rattle.drawings.specs.Svg.{svg_of}
use Rattle.drawings.specs.Xml.{IsDocument}
use Rattle.drawings.proofs.Lists.{on_ok}
use Rattle.drawings.proofs.SvgForms.{svg_is_well_formed}
use Rattle.drawings.proofs.picture.Picture.svg.Goals as goal

pub returns-clause-xml : goal.returns-clause-xml
returns-clause-xml c =
    let picture : Drawn = record { actors = c.self.inside.actors; heads = c.self.inside.heads.items; lines = c.self.inside.lines.items } in
    let heads : All (λ (head : Head). AreBytes head.text) picture.heads =
    subst (All (λ (head : Head). AreBytes head.text)) c.deref-2.ensures.value c.in_ok-headings.ensures.bytes in
    let lines : All IsLine picture.lines = subst (All IsLine) c.deref-3.ensures.value c.in_ok-lines.ensures.bytes in
    on_ok c.text.result
    (subst (λ (p : Drawn). IsDocument (codes "svg") (svg_of p)) c.self.view_is
    (svg_is_well_formed picture c.self.invariant (record { heads = heads; lines = lines })))
