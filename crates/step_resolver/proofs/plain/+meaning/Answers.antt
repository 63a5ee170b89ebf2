use Rattle.std.proofs.Common.{◌≡◌, ◌<◌, ◌+◌, ◌-◌, nat_lt, length, true, false, ◌||◌, Ok, ap, sym, ◌∙◌, le_trans, arith}
use Rattle.std.proofs.lemmas.Bool.Decides.{nat_tests}
use Rattle.std.proofs.lemmas.Result.{err_from_is_err_and}
use Rattle.path_text.specs.Text.{pieces, part_of, parts_of, has_final_slash, begins_with_slash}
use Rattle.walk_plan.specs.Plan.{leads_out}
use Rattle.step_resolver.specs.Asked.{ask, asked}
use Rattle.step_resolver.specs.Meaning.{Ground, from_of, part_means, parts_mean}
use Rattle.step_resolver.specs.Plain.{arrival, meant}
use Rattle.step_resolver.proofs.Meaning.PlainResolution.{link_followed, part_arrived-lowers, piece_arrives, piece_fails}
use Rattle.step_resolver.proofs.plain.+meaning.Goals as goal

pub link_means-returns : goal.link_means-returns
link_means-returns t c =
    let g = c.args.on.now in
    let text = c.args.text.now in
    let links = c.args.here.links in
    let some : 0 < links = grind (arith, nat_tests) in
    let allowed : g.flags.no_links ≡ false = (let seen = ap (λ (h : Ground). h.flags.no_links) c.on.view_is in cc) in
    let within : leads_out (begins_with_slash text) g.flags ≡ false = (let seen = ap (λ (h : Ground). leads_out (begins_with_slash text) h.flags) c.on.view_is in cc) in
    let from : c.from_of-from.result ≡ from_of g.root c.args.here.node text =
    (let seen = ap (λ (h : Ground). from_of h.root c.args.here.node text) c.on.view_is in cc) in
    c.text_means.ensures
    ∙ ap (λ f. arrival (parts_mean (meant g) g f (asked true (parts_of text)) (links - 1))) from
    ∙ sym (ap arrival (link_followed g c.args.here.node text links some allowed within))

pub text_means-returns-in_err-here : goal.text_means-returns-in_err-here
text_means-returns-in_err-here t c =
    let p = err_from_is_err_and c.from_residual.result c.from_residual.ensures.1 in
    let is = p.1 in
    let same = p.2 in
    let g = c.args.on.now in
    let text = c.args.text.now in
    let at = c.loop-at.at in
    let here = c.loop-at.here in
    let test : c.is_followed-is_followed.result ≡ (c.args.follow || has_final_slash text || nat_lt (at + 1) (length (pieces text))) =
    c.is_followed-is_followed.ensures
    ∙ ap (λ s. c.args.follow || s || nat_lt (at + 1) c.count_pieces-count.result) c.has_final_slash-slash.ensures
    ∙ ap (λ n. c.args.follow || has_final_slash text || nat_lt (at + 1) n) c.count_pieces-count.ensures in
    let failed = piece_fails g c.args.follow (has_final_slash text) (pieces text) at c.piece_at.result.now c.piece_at.ensures here.node here.links c.in_err-here.field-0.0
    (ap (λ f. arrival (part_means (meant g) g here.node (ask f (part_of c.piece_at.result.now)) here.links)) (sym test) ∙ sym c.in_err-here.ensures) in
    let whole = c.loop-at.invariant.0 in
    cc

pub text_means-loop-at-preserved : goal.text_means-loop-at-preserved
text_means-loop-at-preserved t c =
    let g = c.args.on.now in
    let text = c.args.text.now in
    let at = c.loop-at.at in
    let here = c.loop-at.here in
    let test : c.is_followed-is_followed.result ≡ (c.args.follow || has_final_slash text || nat_lt (at + 1) (length (pieces text))) =
    c.is_followed-is_followed.ensures
    ∙ ap (λ s. c.args.follow || s || nat_lt (at + 1) c.count_pieces-count.result) c.has_final_slash-slash.ensures
    ∙ ap (λ n. c.args.follow || has_final_slash text || nat_lt (at + 1) n) c.count_pieces-count.ensures in
    let part = ask (c.args.follow || has_final_slash text || nat_lt (at + 1) (length (pieces text))) (part_of c.piece_at.result.now) in
    let arrived : arrival (part_means (meant g) g here.node part here.links) ≡ Ok c.in_ok-here.here =
    ap (λ f. arrival (part_means (meant g) g here.node (ask f (part_of c.piece_at.result.now)) here.links)) (sym test) ∙ sym c.in_ok-here.ensures in (
      sym (piece_arrives g c.args.follow (has_final_slash text) (pieces text) at c.piece_at.result.now c.piece_at.ensures here.node here.links c.in_ok-here.here arrived) ∙ c.loop-at.invariant.0,
      le_trans (part_arrived-lowers g here.node part here.links c.in_ok-here.here arrived) c.loop-at.invariant.1,
    )
