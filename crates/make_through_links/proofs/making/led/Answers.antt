use Rattle.std.proofs.Common.{length, arith, ap, length-drop, length-take}
use Rattle.make_through_links.proofs.making.led.Goals as goal

-- what comes before the text ends no later than what comes behind the link begins
pub joined_length-length-requires : goal.joined_length-length-requires
joined_length-length-requires c =
    omega (
      arith,
      ap length c.front-before.ensures,
      ap length c.behind.ensures,
      length-take c.front_length.result c.args.path.now,
      length-drop c.args.at c.args.path.now,
      c.front_length.ensures.within,
      c.requires,
    )
