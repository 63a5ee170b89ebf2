-- Dialogues of the things that a call is made of.
use Rattle.std.specs.Prelude.{List, Bool, false, Result}
use Rattle.dialogue.specs.Dialogue.{DialogueOf, ExchangeOf, Protocol, RanOf, asking, protocol, ran_by_of}
use Rattle.call_course.specs.declared.things.Answer.{Answer}
use Rattle.call_course.specs.declared.things.Thing.{Thing}

-- each thing is asked for once
abbrev pub never : Thing → Answer → Bool
never q a = false

abbrev pub things : Protocol
things = protocol never

abbrev pub Course : Type 0 → Type 0
Course E = DialogueOf things E

abbrev pub Exchange : Type 0
Exchange = ExchangeOf things

abbrev pub doing : Thing → Course Answer
doing q = asking things q

-- what code has come to
abbrev pub came_to : {E : Type 0} → Result E Thing → List Answer → RanOf things E
came_to r left = ran_by_of things (λ x. x) (λ q. q) r left
