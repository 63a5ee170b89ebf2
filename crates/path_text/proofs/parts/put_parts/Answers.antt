use Rattle.std.proofs.Common.{ap, sym, ◌∙◌}
use Rattle.path_text.specs.Parts.{parts_at}
use Rattle.path_text.proofs.PlacesLemmas.{on_ok, places_put, parts_put}
use Rattle.path_text.proofs.parts.put_parts.Goals as goal

pub push_pieces-requires-clause-places : goal.push_pieces-requires-clause-places
push_pieces-requires-clause-places c =
    let put = on_ok c.extend_from_slice.result _ _ _ (c.extend_from_slice.ensures.succeeds c.requires.bytes) c.extend_from_slice.ensures.items in
    places_put c.args.bytes.now.items c.args.text.now c.as_slice.result.now c.args.slash c.len.result c.args.spans.now.items c.push_slash.new.spans.items
    (c.as_slice.ensures.value ∙ put) (c.len.ensures ∙ sym c.as_slice.ensures.len) c.push_slash.ensures.items c.requires.places

pub returns-clause-parts : goal.returns-clause-parts
returns-clause-parts c =
    let put = on_ok c.extend_from_slice.result _ _ _ (c.extend_from_slice.ensures.succeeds c.requires.bytes) c.extend_from_slice.ensures.items in
    ap (λ bs. parts_at bs c.push_pieces.new.spans.items) (sym c.as_slice.ensures.value)
    ∙ parts_put c.args.bytes.now.items c.args.text.now c.as_slice.result.now c.args.slash c.len.result c.len-low.result c.args.spans.now.items c.push_slash.new.spans.items c.push_pieces.new.spans.items
    (c.as_slice.ensures.value ∙ put) (c.len-low.ensures ∙ c.args.bytes.now.ok.0) c.push_slash.ensures.items c.requires.slash c.requires.places c.push_pieces.ensures.parts
