-- What the plain program's functions return, in the words of the meaning.
use Rattle.std.specs.Prelude.{Result, Ok, Err}
use Rattle.path_text.specs.declared.errno.Errno.{Errno}
use Rattle.step_resolver.specs.declared.plain.Arrived.{Arrived}
use Rattle.step_resolver.specs.Meaning.{Ground, Deeper, Meant, object, fails, means}

-- a link's text with so many links left, below which links are nested no deeper than these
abbrev pub meant : Ground → Deeper
meant g d ps b = means b g d ps b

-- the object with the links left, or the error
abbrev pub arrival : Meant → Result Arrived Errno
arrival (object d b reads) = Ok (record { node = d; links = b })
arrival (fails error reads) = Err error
