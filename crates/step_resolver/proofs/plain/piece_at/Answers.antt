use Rattle.std.proofs.Common.{rules}
use Rattle.std.proofs.lemmas.Iterator.Consumers.{nth_from_yields_List}
use borrow.Author.Tests.{tests}
use Rattle.path_text.proofs.PiecesYielded.{pieces_yielded}
use Rattle.path_text.specs.Text.{pieces}
use Rattle.step_resolver.proofs.Meaning.PlainResolution.{found_there}
use Rattle.step_resolver.proofs.plain.piece_at.Goals as goal

pub returns : goal.returns
returns c =
    let found = nth_from_yields_List c.nth.result _ c.args.at c.nth.ensures.ran
    (pieces_yielded _ _ c.args.text.now (cc) (cc) (cc) (cc) (λ x b q k. search (rules, tests)) (λ x b q k. search (rules, tests))) in
    found_there (λ x. x.now) c.nth.result (pieces c.args.text.now) c.args.at c.unwrap_or.result c.args.text c.requires found c.unwrap_or.ensures
