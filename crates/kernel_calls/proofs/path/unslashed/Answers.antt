use Rattle.std.proofs.Common.{length, ap, subst, ◌∙◌, refl}
use Rattle.path_text.specs.Parts.{BeginsWith}
use Rattle.path_text.specs.Text.{ends_with_slash, pieces}
use Rattle.path_text.proofs.PlacesLemmas.{begins_le}
use Rattle.kernel_calls.proofs.NamedLemmas.{front_is}
use Rattle.kernel_calls.proofs.path.unslashed.Goals as goal

pub returns : goal.returns
returns c =
    let rest = c.before_slashes.result.now in
    let begins = subst (λ t. BeginsWith t rest) c.front.ensures c.before_slashes.ensures.beginning in
    let same = front_is c.args.text.now rest c.args.count (length rest) begins refl in record {
      pieces = ap pieces same ∙ c.before_slashes.ensures.pieces ∙ ap pieces c.front.ensures;
      last = ap ends_with_slash same ∙ c.before_slashes.ensures.last;
      within = begins_le _ rest begins;
    }
