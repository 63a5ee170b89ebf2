-- What worlds come to: when two ends tell the same outcome.
use Rattle.std.specs.Prelude.{◌≡◌, ◌<◌, ℕ, List, [], ◌∷◌, Bool, length, map, refl}
use Rattle.std.proofs.Common.{sym, ap, ◌∙◌, subst, get_or}
use Rattle.bulk_ops.proofs.MappedLists.{same_lengths, same_at}
use Rattle.tree_model.specs.Steps.{held_count}
use Rattle.race_core.specs.declared.report.Outcome.{Outcome}
use Rattle.race_core.specs.Renamed.{outcomes_by, replies_by}
use Rattle.race_core.specs.Worlds.{WorldView, ledgers_in, replies_in}
use Rattle.local_states.specs.Local.{TellAlike}
use Rattle.local_states.specs.Worlds.{EndView, IsEndOf, SameOutcome}
use Rattle.local_states.proofs.Lists.Runs.{replies_of_seats}

-- ---- replies

pub replies_map : (f : ℕ → ℕ) (xs : List (List Outcome)) → replies_by f xs ≡ map (outcomes_by f) xs
replies_map f [] = refl
replies_map f (x ∷ xs) = ap (λ ys. outcomes_by f x ∷ ys) (replies_map f xs)

pub other_reply_lengths : (f : ℕ → ℕ) (xs ys : List (List Outcome)) → replies_by f xs ≡ replies_by f ys
    → length xs ≡ length ys
other_reply_lengths f xs ys e = same_lengths (outcomes_by f) xs ys (sym (replies_map f xs) ∙ (e ∙ replies_map f ys))

pub other_reply_at : (f : ℕ → ℕ) (xs ys : List (List Outcome)) (i : ℕ) (x y : List Outcome)
    → replies_by f xs ≡ replies_by f ys → i < length xs → x ≡ get_or xs i x → y ≡ get_or ys i y
    → outcomes_by f x ≡ outcomes_by f y
other_reply_at f xs ys i x y e lt p q =
    same_at (outcomes_by f) xs ys i x y (sym (replies_map f xs) ∙ (e ∙ replies_map f ys)) lt p q

-- ---- worlds that tell the same outcome

module _ (told : Bool) where
  -- they have as many actors
  tell_actors : (w v : WorldView) → TellAlike told w v → length w.seats ≡ length v.seats
  tell_actors w v h =
      sym (replies_of_seats w.seats)
      ∙ (other_reply_lengths (λ h. 0) (replies_in (ledgers_in w.seats)) (replies_in (ledgers_in v.seats)) h.replies
      ∙ replies_of_seats v.seats)

  pub tell_same : (w : WorldView) → TellAlike told w w
  tell_same w = record { replies = refl; nodes = refl; held = λ a lt. refl; outside = refl }

  pub tell_turned : (w v : WorldView) → TellAlike told w v → TellAlike told v w
  tell_turned w v h = record {
    replies = sym h.replies;
    nodes = sym h.nodes;
    held = λ a lt. sym (h.held a (subst (λ n. a < n) (sym (tell_actors w v h)) lt));
    outside = sym h.outside;
  }

  pub tell_on : (w u v : WorldView) → TellAlike told w u → TellAlike told u v → TellAlike told w v
  tell_on w u v h k = record {
    replies = h.replies ∙ k.replies;
    nodes = h.nodes ∙ k.nodes;
    held = λ a lt. h.held a lt ∙ k.held a (subst (λ n. a < n) (tell_actors w u h) lt);
    outside = h.outside ∙ k.outside;
  }

-- two worlds that are told of
module _ (told : Bool) (v w : WorldView) (e d : EndView) (is : IsEndOf told v e) (are : IsEndOf told w d) where
  pub worlds_tell : SameOutcome e d → TellAlike told v w
  worlds_tell h = record {
    replies = ap (replies_by (λ h. 0)) (sym is.report.are_replies)
        ∙ (h.replies ∙ ap (replies_by (λ h. 0)) are.report.are_replies);
    nodes = ap (λ s. s.nodes) (sym is.report.is_tree) ∙ (h.nodes ∙ ap (λ s. s.nodes) are.report.is_tree);
    held = λ a lt.
        ap (λ s. held_count s a) (sym is.report.is_tree)
        ∙ (h.held a (subst (λ n. a < n) many lt)
        ∙ ap (λ s. held_count s a) are.report.is_tree);
    outside = sym is.outside ∙ (h.outside ∙ are.outside);
  }
    where
      many : length v.seats ≡ length d.replies
      many = sym (replies_of_seats v.seats)
          ∙ (ap length (sym is.report.are_replies) ∙ other_reply_lengths (λ h. 0) e.replies d.replies h.replies)

  pub worlds_same : TellAlike told v w → SameOutcome e d
  worlds_same h = record {
    replies = ap (replies_by (λ h. 0)) is.report.are_replies
        ∙ (h.replies ∙ ap (replies_by (λ h. 0)) (sym are.report.are_replies));
    held = λ a lt.
        ap (λ s. held_count s a) is.report.is_tree
        ∙ (h.held a (subst (λ n. a < n) many lt)
        ∙ ap (λ s. held_count s a) (sym are.report.is_tree));
    nodes = ap (λ s. s.nodes) is.report.is_tree ∙ (h.nodes ∙ ap (λ s. s.nodes) (sym are.report.is_tree));
    outside = is.outside ∙ (h.outside ∙ sym are.outside);
  }
    where
      many : length d.replies ≡ length v.seats
      many = ap length are.report.are_replies ∙ (replies_of_seats w.seats ∙ sym (tell_actors told v w h))
