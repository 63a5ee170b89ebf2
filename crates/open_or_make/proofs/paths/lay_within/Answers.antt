use Rattle.open_or_make.proofs.PathLemmas.{lay_way, way_fits}
use Rattle.open_or_make.proofs.paths.lay_within.Goals as goal

pub lay_before-requires-clause-room : goal.lay_before-requires-clause-room
lay_before-requires-clause-room c =
    way_fits c.args.room.now c.args.text.now c.args.front c.args.at c.args.path_length c.requires.front c.requires.at
    c.requires.path c.requires.room

pub returns-clause-exact : goal.returns-clause-exact
returns-clause-exact c =
    lay_way c.args.room.now c.lay_before.new.room _ c.args.text.now c.args.front c.args.at c.args.path_length
    c.requires.front c.requires.at c.requires.path c.lay_before.ensures.exact
