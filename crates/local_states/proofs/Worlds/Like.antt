-- Worlds like one another go on alike, and tell the same outcome.
use Rattle.std.specs.Prelude.{◌≡◌, ◌<◌, ℕ, Bool, false, refl}
use Rattle.std.proofs.Common.{◌∙◌, subst}
use Rattle.race_core.specs.Worlds.{WorldView, turn, is_busy_at, is_within_at}
use Rattle.local_states.specs.Worlds.{full, IsLike, same, onward}
use Rattle.local_states.specs.Local.{TellAlike}
use Rattle.local_states.specs.Outside.{outside_of}
use Rattle.local_states.proofs.Local.OutsideSame.{same_worlds_act}
use Rattle.local_states.proofs.Local.Wholes.{busy_alike, tell_alike}
use Rattle.layered_search.proofs.Places.{join}

-- ---- worlds like one another

pub like_turns : {told : Bool} {w v : WorldView} (i : ℕ) → IsLike told w v → IsLike told (turn full w i) (turn full v i)
like_turns i (same u) = same (turn full u i)
like_turns {told} i (onward w u v is like) =
    onward (turn full w i) (turn full u i) (turn full v i) (same_worlds_act told w u full i is)
    (like_turns {w = u} {v = v} i like)

pub like_trans : {told : Bool} {w u v : WorldView} → IsLike told w u → IsLike told u v → IsLike told w v
like_trans (same x) more = more
like_trans {told} {w} {u} {v} (onward a b c is like) more =
    onward a b v is (like_trans {w = b} {u = c} {v = v} like more)

pub like_busy : {told : Bool} {w v : WorldView} (i : ℕ) → IsLike told w v → is_busy_at w.seats i ≡ is_busy_at v.seats i
like_busy i (same u) = refl
like_busy i (onward w u v is like) =
    join (is_busy_at w.seats i) (is_busy_at u.seats i) (is_busy_at v.seats i) (busy_alike w u i is.parts).0
    (like_busy {w = u} {v = v} i like)

pub like_within : {told : Bool} {w v : WorldView} (i : ℕ) → IsLike told w v
    → is_within_at w.seats i ≡ is_within_at v.seats i
like_within i (same u) = refl
like_within i (onward w u v is like) =
    join (is_within_at w.seats i) (is_within_at u.seats i) (is_within_at v.seats i) (busy_alike w u i is.parts).1
    (like_within {w = u} {v = v} i like)

pub like_agree : {told : Bool} {w v : WorldView} → IsLike told w v → TellAlike told w v
like_agree (same u) = record { replies = refl; nodes = refl; held = λ a lt. refl; outside = refl }
like_agree {told} (onward w u v is like) =
    let first : TellAlike false w u = tell_alike w u is.parts in
    let rest : TellAlike told u v = like_agree {w = u} {v = v} like in record {
      replies = first.replies ∙ rest.replies;
      nodes = first.nodes ∙ rest.nodes;
      held = λ a lt. first.held a lt ∙ rest.held a (subst (λ n. a < n) is.parts.seats lt);
      outside = join (outside_of told w) (outside_of told u) (outside_of told v) is.outside rest.outside;
    }
