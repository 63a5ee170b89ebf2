-- Room that was got before.
use Rattle.std.specs.Prelude.{◌≡◌, ℕ, ◌≤◌, [], vec_capacity}
use Rattle.workers.specs.declared.room.Desk.{Desk}

-- nothing lies on the desk, and there is room for so many workers and for what they hand back
pub record HasRoom (desk : Desk) (workers : ℕ) : Type 0 where
  pub no_worker : desk.workers.items ≡ []
  pub no_session : desk.sessions.items ≡ []
  pub no_list : desk.lists.items ≡ []
  pub for_workers : workers ≤ vec_capacity desk.workers
  pub for_sessions : workers ≤ vec_capacity desk.sessions
  pub for_lists : workers ≤ vec_capacity desk.lists
