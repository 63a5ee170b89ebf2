use Rattle.std.proofs.Common.{◌+◌, length, refl}
use Rattle.path_text.proofs.PlacesLemmas.{IsPlaceOfLast, places_pushed, parts_pushed}
use Rattle.path_text.proofs.places.push_last.Goals as goal

place : (c : goal.After-push_reserved) → IsPlaceOfLast c.args.buffer.now c.args.low c.args.ended.now c.before_piece-before.result.now (record { start = c.args.low + length c.before_piece-before.result.now; end = c.args.low + length c.args.ended.now })
place c = record {
  low_within = c.requires.low;
  beginning = c.requires.beginning;
  clean = c.requires.clean;
  cut = (c.before_piece-before.ensures.piece, (c.before_piece-before.ensures.cut, c.before_piece-before.ensures.pieces));
  start = refl;
  end = refl;
}

pub returns-clause-parts : goal.returns-clause-parts
returns-clause-parts c = parts_pushed c.args.buffer.now c.args.low c.args.ended.now c.before_piece-before.result.now _ c.args.spans.now.items _ (place c) c.push_reserved.ensures.items

pub returns-clause-places : goal.returns-clause-places
returns-clause-places c = places_pushed c.args.buffer.now c.args.low c.args.ended.now c.before_piece-before.result.now _ c.args.spans.now.items _ (place c) c.push_reserved.ensures.items c.requires.places
