use Rattle.std.proofs.Common.{[], refl, sym}
use Rattle.std.proofs.lemmas.List.{append-nil}
use Rattle.path_text.proofs.PlacesLemmas.{one_less, cut_less, cut_done}
use Rattle.path_text.proofs.texts.before_piece.Goals as goal

pub loop-before-init : goal.loop-before-init
loop-before-init c = ([], sym (append-nil c.args.text.now), refl)

pub loop-before-smaller : goal.loop-before-smaller
loop-before-smaller c = one_less c.loop-before.rest.now c.in-Some.before.now c.in-Some.ensures.0 c.in-Some.ensures.1

pub loop-before-preserved : goal.loop-before-preserved
loop-before-preserved c =
    cut_less c.args.text.now c.loop-before.rest.now c.in-Some.before.now c.in-Some.ensures.0 c.loop-before.invariant c.in-Some.ensures.1 c.in-Some.ensures.2

pub returns : goal.returns
returns c = cut_done c.args.text.now c.loop-before.rest.now c.requires.some c.requires.last c.loop-before.invariant c.in_default.ensures
