use Rattle.std.proofs.Common.{◌≡◌, sym, ◌∙◌, rules}
use Rattle.std.specs.Prelude.{◌==◌, not}
use Rattle.std.specs.List.{position}
use Rattle.std.proofs.lemmas.Iterator.{YieldsList-from_slice}
use Rattle.std.proofs.lemmas.Iterator.Search.{position_from_yields_List}
use borrow.Author.Tests.{tests}
use Rattle.path_text.specs.declared.name.TheConstants.{SLASH}
use Rattle.path_text.proofs.TextLemmas.{none_at, some_at}
use Rattle.open_or_make.proofs.paths.slashes_length.Goals as goal

pub returns-in-Some-clause-exact : goal.returns-in-Some-clause-exact
returns-in-Some-clause-exact c =
    let found : c.position.result ≡ position (λ b. not (b == SLASH)) c.args.text.now =
    position_from_yields_List (λ b. not (b == SLASH)) _ _ c.position.result c.position.ensures.ran
    (YieldsList-from_slice c.args.text.now cc) (λ x b q k. search (rules, tests)) in
    some_at (λ b. not (b == SLASH)) c.args.text.now c.in-Some.at (sym c.in-Some.is ∙ found)

pub returns-in-None-clause-exact : goal.returns-in-None-clause-exact
returns-in-None-clause-exact c =
    let found : c.position.result ≡ position (λ b. not (b == SLASH)) c.args.text.now =
    position_from_yields_List (λ b. not (b == SLASH)) _ _ c.position.result c.position.ensures.ran
    (YieldsList-from_slice c.args.text.now cc) (λ x b q k. search (rules, tests)) in
    none_at (λ b. not (b == SLASH)) c.args.text.now (sym c.in-None.is ∙ found)
