use Rattle.std.specs.Prelude.{refl}
use Rattle.std.proofs.Common.{inl}
use Rattle.step_machine.proofs.laws.worked_look_up.Goals as goal

pub returns : goal.returns
returns c = record {
  there = (refl, (refl, refl));
  missing = (refl, refl);
  no_memory_for_the_answer = (refl, (refl, refl));
  no_memory_for_the_step = ((inl refl, refl), refl);
  left_open = λ e. cc (e.1);
  goes_on_at_its_end = λ end leads. leads;
  another_step = λ end leads. cc (leads.0);
  no_close = λ end leads. cc (leads.0.1);
}
