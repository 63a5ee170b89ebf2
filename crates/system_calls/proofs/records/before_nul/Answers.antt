use Rattle.std.proofs.Common.{◌≡◌, ◌==◌, ap, sym, ◌∙◌, rules, take}
use Rattle.std.specs.List.{position}
use Rattle.std.specs.Option.{option_map}
use Rattle.std.proofs.lemmas.Iterator.{YieldsList-from_slice}
use Rattle.std.proofs.lemmas.Iterator.Search.{position_from_yields_List}
use borrow.Author.Tests.{tests}
use Rattle.path_text.specs.Name.{NUL}
use Rattle.system_calls.proofs.records.before_nul.Goals as goal

pub returns-in-None : goal.returns-in-None
returns-in-None c =
    let found : c.position.result ≡ position (λ b. b == NUL) c.args.bytes.now =
    position_from_yields_List (λ b. b == NUL) _ _ c.position.result c.position.ensures.ran (YieldsList-from_slice c.args.bytes.now cc) (λ x b q k. search (rules, tests)) in
    ap (option_map (λ size. take size c.args.bytes.now)) (sym c.in-None.is ∙ found)

pub returns-in-Some : goal.returns-in-Some
returns-in-Some c =
    let found : c.position.result ≡ position (λ b. b == NUL) c.args.bytes.now =
    position_from_yields_List (λ b. b == NUL) _ _ c.position.result c.position.ensures.ran (YieldsList-from_slice c.args.bytes.now cc) (λ x b q k. search (rules, tests)) in
    ap (option_map (λ size. take size c.args.bytes.now)) (sym c.in-Some.is ∙ found)
