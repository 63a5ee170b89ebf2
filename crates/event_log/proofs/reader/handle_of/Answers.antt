use Rattle.std.proofs.lemmas.Fmt.{parse-decimal}
use Rattle.event_log.proofs.reader.handle_of.Goals as goal

pub returns-in-Ok : goal.returns-in-Ok
returns-in-Ok c = λ handle small e. cc (parse-decimal 64 handle c.args.word.now c.parse.result small small e c.parse.ensures.value.0)

pub returns-in-Err : goal.returns-in-Err
returns-in-Err c = λ handle small e. cc (parse-decimal 64 handle c.args.word.now c.parse.result small small e c.parse.ensures.value.0)
