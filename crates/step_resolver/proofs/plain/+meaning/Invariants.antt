use Rattle.std.proofs.Common.{◌≡◌, ◌+◌, ◌*◌, ◌≤◌}
use Rattle.path_text.specs.Text.{pieces, parts_of, has_final_slash}
use Rattle.step_resolver.specs.Asked.{asked}
use Rattle.step_resolver.specs.Meaning.{parts_mean}
use Rattle.step_resolver.specs.Plain.{arrival, meant}
use Rattle.step_resolver.proofs.Meaning.PlainResolution.{parts_from}
use Rattle.step_resolver.proofs.plain.+meaning.Given as goal

-- each link that is followed leaves one less, and three functions call one another for it
abbrev pub decreases-link_means : goal.decreases-link_means
decreases-link_means l = 3 * l.here.links

abbrev pub decreases-piece_means : goal.decreases-piece_means
decreases-piece_means l = 3 * l.here.links + 1

abbrev pub decreases-text_means : goal.decreases-text_means
decreases-text_means l = 3 * l.links + 2

-- what the parts that are left mean from here is what all mean
abbrev pub invariant-text_means-loop-at : goal.invariant-text_means-loop-at
invariant-text_means-loop-at l =
    (arrival (parts_mean (meant l.on) l.on l.here.node (asked l.follow (parts_from (pieces l.text) (has_final_slash l.text) l.at)) l.here.links)
    ≡ arrival (parts_mean (meant l.on) l.on l.fn.from (asked l.follow (parts_of l.text)) l.links))
    × (l.here.links ≤ l.links)
