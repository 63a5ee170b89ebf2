-- How it is told that a search finds nothing.
use Rattle.outcome_text.specs.declared.fault.ExploreFault.{ExploreFault}
use Rattle.outcome_text.specs.declared.fault.ExploreFault.TheVariants.{Run, Search}
use Rattle.schedule_graph.specs.declared.fault.SearchFault.{SearchFault}
use Rattle.schedule_graph.specs.declared.fault.SearchFault.TheVariants.{TooManyActors, NoMemory}
use Rattle.scripts.specs.declared.fault.RunFault.TheVariants.{NoMemory as OutOfMemory}

-- a world never has more actors than it may have
abbrev pub unfound_by : SearchFault → ExploreFault
unfound_by TooManyActors = Run OutOfMemory
unfound_by NoMemory = Run OutOfMemory
unfound_by other = Search other
