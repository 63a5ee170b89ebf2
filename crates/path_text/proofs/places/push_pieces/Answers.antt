use Rattle.std.proofs.Common.{◌<◌, ◌++◌, length, map, [], ap, sym, ◌∙◌, arith}
use Rattle.std.proofs.lemmas.Bool.Decides.{nat_tests}
use Rattle.std.proofs.lemmas.List.{append-nil}
use Rattle.path_text.specs.Parts.{parts_at}
use Rattle.path_text.specs.Text.{pieces, part_of}
use Rattle.path_text.proofs.PlacesLemmas.{begins_both, begins_le, parts_done, fewer_left, rest_whole}
use Rattle.path_text.proofs.places.push_pieces.Goals as goal

pub loop-rest-init : goal.loop-rest-init
loop-rest-init c =
    let whole = rest_whole c.args.buffer.now c.args.low in record {
      beginning = ([], sym (ap (λ bs. bs ++ []) whole ∙ append-nil _));
      parts = ap (λ bs. map part_of (pieces bs) ++ parts_at c.args.buffer.now c.args.spans.now.items) whole;
      room = rw whole c.requires.room;
      places = c.requires.places;
    }

pub push_last-rest-requires-clause-beginning : goal.push_last-rest-requires-clause-beginning
push_last-rest-requires-clause-beginning c = begins_both _ c.loop-rest.rest.now c.before_slashes.result.now c.loop-rest.invariant.beginning c.before_slashes.ensures.beginning

pub push_last-rest-requires-clause-room : goal.push_last-rest-requires-clause-room
push_last-rest-requires-clause-room c = rw (c.before_slashes.ensures.pieces) c.loop-rest.invariant.room

pub push_last-rest-requires-clause-places : goal.push_last-rest-requires-clause-places
push_last-rest-requires-clause-places c = c.loop-rest.invariant.places

pub loop-rest-smaller : goal.loop-rest-smaller
loop-rest-smaller c =
    let test = c.is_empty.ensures in
    let more = c.loop-rest-test.true in
    let some : 0 < length c.loop-rest.rest.now = grind (arith, nat_tests) in
    fewer_left (length c.push_last-rest.result.now) (length c.before_slashes.result.now) (length c.loop-rest.rest.now) c.push_last-rest.ensures.shorter
    (begins_le c.loop-rest.rest.now c.before_slashes.result.now c.before_slashes.ensures.beginning) some

pub loop-rest-preserved : goal.loop-rest-preserved
loop-rest-preserved c = record {
  beginning = c.push_last-rest.ensures.beginning;
  parts = c.push_last-rest.ensures.parts ∙ ap (λ ps. map part_of ps ++ parts_at c.args.buffer.now c.loop-rest.spans.items) c.before_slashes.ensures.pieces ∙ c.loop-rest.invariant.parts;
  room = c.push_last-rest.ensures.room;
  places = c.push_last-rest.ensures.places;
}

pub returns-clause-parts : goal.returns-clause-parts
returns-clause-parts c = parts_done c.loop-rest.rest.now _ _ c.is_empty.result c.is_empty.ensures c.loop-rest-test.false c.loop-rest.invariant.parts

pub returns-clause-places : goal.returns-clause-places
returns-clause-places c = c.loop-rest.invariant.places
