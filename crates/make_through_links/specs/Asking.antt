-- What is asked for as all missing parts of a path are made: whole calls, each on a part of the path.
use Rattle.std.specs.Prelude.{ℕ, List, Bool, false}
use Rattle.dialogue.specs.Dialogue.{DialogueOf, ExchangeOf, Protocol, protocol}
use Rattle.open_or_make.specs.declared.asking.Outcome.{Outcome}
use Rattle.make_through_links.specs.declared.asking.Question.{Question}
use Rattle.make_through_links.specs.declared.asking.Question.TheVariants.{Find, Split, MakeAbove, Make, Partial, ReadLink, Create, ReadEnd, Close, Wait}

-- the questions of the code, where a path is its bytes
pub data Call : Type 0 where
  finds : List ℕ → Call
  splits : List ℕ → Call
  makes_above : List ℕ → Call
  makes : List ℕ → Call
  opens_partly : List ℕ → Call
  reads_link : List ℕ → Call
  creates : List ℕ → Call
  reads_end : List ℕ → Call
  closes : ℕ → Call
  waits : ℕ → Call

abbrev pub asked_of : Question → Call
asked_of (Find path) = finds path.now
asked_of (Split path) = splits path.now
asked_of (MakeAbove path) = makes_above path.now
asked_of (Make path) = makes path.now
asked_of (Partial path) = opens_partly path.now
asked_of (ReadLink path) = reads_link path.now
asked_of (Create path) = creates path.now
asked_of (ReadEnd path) = reads_end path.now
asked_of (Close fd) = closes fd
asked_of (Wait pause) = waits pause

-- no call is made again for a signal: each is a whole one
abbrev pub never : Call → Outcome → Bool
never q a = false

abbrev pub makings : Protocol
makings = protocol never

abbrev pub Talk : Type 0 → Type 0
Talk E = DialogueOf makings E

abbrev pub Exchange : Type 0
Exchange = ExchangeOf makings
