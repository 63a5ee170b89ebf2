use Rattle.std.proofs.Common.{◌≡◌, ◌<◌, ◌-◌, ◌++◌, ◌∷◌, [], length, get_or, take, reverse, sym, ap, ◌∙◌, arith}
use Rattle.std.proofs.lemmas.List.{take_more, get_or-reverse, length-reverse}
use Rattle.std.proofs.lemmas.Option.{get_or_from_slice_get}
use Rattle.path_text.proofs.names.Names.reversed.Goals as goal

pub loop-before-preserved : goal.loop-before-preserved
loop-before-preserved c =
    let names = c.args.self.now in
    let before = c.loop-before.before in
    let within : before < length names = omega (arith, c.loop-before-test.true, c.len-before-end.ensures.count) in
    let at : c.len.result - 1 - before ≡ length names - 1 - before = ap (λ n. n - 1 - before) c.len.ensures.count in
    let name : get_or (reverse names) before [] ≡ c.get.result.now =
    get_or-reverse names before [] within ∙ sym (ap (λ n. get_or names n []) at) ∙ get_or_from_slice_get names (c.len.result - 1 - before) c.get.result.now [] c.get.ensures.same in
    c.in_ok-push_bytes.ensures.ok ∙ ap (λ turned. turned ++ c.get.result.now ∷ []) c.loop-before.invariant
    ∙ ap (λ name. take before (reverse names) ++ name ∷ []) (sym name)
    ∙ sym (take_more (reverse names) before [] (omega (arith, within, length-reverse names)))
