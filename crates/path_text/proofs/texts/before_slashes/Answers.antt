use Rattle.std.proofs.Common.{[], refl, sym}
use Rattle.std.proofs.lemmas.List.{append-nil}
use Rattle.path_text.specs.declared.name.TheConstants.{SLASH}
use Rattle.path_text.proofs.PlacesLemmas.{begins_less, slash_off, one_less}
use Rattle.path_text.proofs.texts.before_slashes.Goals as goal

pub loop-before-init : goal.loop-before-init
loop-before-init c = (([], sym (append-nil c.args.text.now)), refl)

pub loop-before-smaller : goal.loop-before-smaller
loop-before-smaller c = one_less c.loop-before.rest.now c.in-Some.before.now SLASH c.in-Some.ensures

pub loop-before-preserved : goal.loop-before-preserved
loop-before-preserved c = (
  begins_less c.args.text.now c.loop-before.rest.now c.in-Some.before.now SLASH c.loop-before.invariant.0 c.in-Some.ensures,
  slash_off c.args.text.now c.loop-before.rest.now c.in-Some.before.now c.in-Some.ensures c.loop-before.invariant.1,
)

pub returns-clause-beginning : goal.returns-clause-beginning
returns-clause-beginning c = c.loop-before.invariant.0

pub returns-clause-pieces : goal.returns-clause-pieces
returns-clause-pieces c = c.loop-before.invariant.1
