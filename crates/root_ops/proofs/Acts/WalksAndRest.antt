-- A part of a history that begins with a walk: the walk, and what comes after it where it found its object.
use Rattle.std.specs.Prelude.{◌≡◌, ℕ, List, Some}
use Rattle.std.proofs.Common.{◌∙◌}
use Rattle.tree_model.specs.Steps.{held}
use Rattle.step_resolver.specs.Order.{Handle, found}
use Rattle.step_resolver.specs.WalkHistory.{WalkInHistory, IsWalkInHistory, begin_of}
use Rattle.step_resolver.proofs.Underway.HandleCount.{one_more}
use Rattle.bulk_ops.specs.WalkFirst.{WalkedTo, after_walk}
use Rattle.bulk_ops.proofs.WalkParts as parts
pub use Rattle.bulk_ops.proofs.WalkParts.{walked_to, happens_after}
use Rattle.root_ops.specs.Acts.{OneMoreHeld}

module _ (w : WalkInHistory) (is : IsWalkInHistory w) (handle : Handle) (names : List (List ℕ)) (walked : WalkedTo w (found handle names)) where
  -- the handle is open
  pub is_held : held (begin_of (after_walk walked)) w.actor handle.number ≡ Some handle.node
  is_held = parts.is_held w is handle (found handle names) walked walked.headline.tells.new

  -- so is what was open before
  pub stays_held : (k x : ℕ) → held (begin_of w) w.actor k ≡ Some x → held (begin_of (after_walk walked)) w.actor k ≡ Some x
  stays_held = parts.stays_held w is handle (found handle names) walked walked.headline.tells.new

  pub one_more_held : OneMoreHeld walked
  one_more_held = one_more w.actor (begin_of w).handles (begin_of (after_walk walked)).handles handle.number
      (λ k ne. parts.there w is handle (found handle names) walked walked.headline.tells.new k ∙ walked.headline.tells.new.others k ne)

  pub after_is : IsWalkInHistory (after_walk walked)
  after_is = parts.after_is w is handle (found handle names) walked walked.headline.tells.new
