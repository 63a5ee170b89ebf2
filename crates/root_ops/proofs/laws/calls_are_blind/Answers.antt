use Rattle.root_ops.proofs.Blind.Calls.{calls_begin_blindly, steps_are_due_blindly, answers_are_taken_blindly}
use Rattle.root_ops.proofs.Blind.Lines.{lines_lead_blindly}
use Rattle.root_ops.proofs.laws.calls_are_blind.Goals as goal

pub returns : goal.returns
returns c = record { begins = calls_begin_blindly; due = steps_are_due_blindly; takes = answers_are_taken_blindly; leads = lines_lead_blindly }
