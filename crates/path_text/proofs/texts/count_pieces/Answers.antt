use Rattle.std.proofs.Common.{rules}
use Rattle.std.proofs.lemmas.Iterator.Consumers.{count_from_yields_List}
use borrow.Author.Tests.{tests}
use Rattle.path_text.proofs.PiecesYielded.{pieces_yielded}
use Rattle.path_text.proofs.texts.count_pieces.Goals as goal

pub returns : goal.returns
returns c =
    count_from_yields_List _ _ c.count.ensures.ran
    (pieces_yielded _ _ c.args.text.now (cc) (cc) (cc) (cc) (λ x b q k. search (rules, tests)) (λ x b q k. search (rules, tests)))
