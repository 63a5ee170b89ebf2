use Rattle.run_command.proofs.jobs.close.Goals as goal

pub returns-in-Ok : goal.returns-in-Ok
returns-in-Ok c = record {
  stopped = c.stop.result;
  is_stopped = record { tag = c.stop.ensures.tag; count = c.stop.ensures.count; lines = c.stop.ensures.lines; opening = c.stop.ensures.opening };
  closable = c.in-Ok.ensures.closed.0;
  tree = c.in-Ok.closed.tree;
  opening = c.in-Ok.closed.opening;
  closed = c.in-Ok.ensures.closed.1;
}

pub returns-in-Err : goal.returns-in-Err
returns-in-Err c = record {
  stopped = c.stop.result;
  is_stopped = record { tag = c.stop.ensures.tag; count = c.stop.ensures.count; lines = c.stop.ensures.lines; opening = c.stop.ensures.opening };
  is_cause = c.in-Err.ensures.refused.0;
}
