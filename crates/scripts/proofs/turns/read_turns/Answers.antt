use Rattle.std.proofs.Common.{◌≡◌, ◌≢◌, true, map, ap, ◌∙◌, lit<}
use Rattle.std.specs.Prelude.{codes}
use Rattle.std.proofs.lemmas.Iterator.Consumers.{map_from_collect}
use Rattle.std.proofs.lemmas.Iterator.Splits.{YieldsList-from_str_split}
use Rattle.std.proofs.lemmas.Result.{IfOk-at_ok}
use Rattle.std.proofs.lemmas.Slice.Eq.{bytes_eq-Decides}
use Rattle.scripts.specs.Turns.{COMMA, pieces_of}
use Rattle.scripts.proofs.Asked.{says_by}
use Rattle.scripts.proofs.turns.read_turns.Goals as goal

pub returns : goal.returns
returns c =
    let split : map (λ piece. piece.now) c.in_ok-pieces.pieces.items ≡ pieces_of c.args.text.now =
    IfOk-at_ok _ c.in_ok-pieces.was (map_from_collect _ c.collect.ensures.ran (YieldsList-from_str_split COMMA c.args.text.now (lit< tt) c.split.ensures.text c.split.ensures.has_more c.split.ensures.pattern)) in
    let other : c.args.text.now ≢ codes "-" = λ dash.
    let equal : c.eq.result ≡ true = c.eq.ensures ∙ (bytes_eq-Decides c.args.text.now (codes "-")).1 dash in
    let no = c.if-eq.false in
    absurd (cc (equal, no)) in
    says_by (λ turns. turns.items) c.args.text.now _ c.all_turns_in.result other (ap (map (λ piece. piece.now)) c.deref.ensures.value ∙ split) c.all_turns_in.ensures
