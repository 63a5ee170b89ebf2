-- Systems whose states are known whole: a state is its own key, and no two are alike.
use Rattle.std.specs.Prelude.{◌≡◌, ◌<◌, ℕ, Bool, true, false, refl}
use Rattle.std.proofs.Common.{sym, ap, ◌∙◌}
use Rattle.layered_search.specs.System.{System, IsSystem, Keys, AreKeys, Outcomes, AreOutcomes, state_after}

-- The state in which each schedule begins, and how many actors there are; the state after an actor's turn, whether an
-- actor can have one, and whether it is within a call; and what an end comes to.
pub record Plain (State Outcome : Type 0) : Type 0 where
  pub begin : State
  pub actors : ℕ
  pub turn : State → ℕ → State
  pub is_busy : State → ℕ → Bool
  pub is_within : State → ℕ → Bool
  pub outcome : State → Outcome

-- Keys are the same where the states are, and a number tells states apart.
abbrev pub keys_by : {State Memory : Type 0} → (State → ℕ) → Keys State Memory State
keys_by print_of = record {
  IsSound = λ memory. Unit {0};
  Grows = λ old new. Unit {0};
  IsKey = λ memory n v key. v ≡ key;
  AreSame = λ key other. key ≡ other;
  CountAsOne = λ key other. key ≡ other;
  print_of = print_of;
}

module _ {State Outcome : Type 0} (p : Plain State Outcome) where
  -- Only the actors have turns, and who can't have one is within no call.
  pub record IsPlain : Type 0 where
    pub few : (v : State) (i : ℕ) → p.is_busy v i ≡ true → i < p.actors
    pub idle_outside : (v : State) (i : ℕ) → p.is_busy v i ≡ false → p.is_within v i ≡ false

  -- Only one state is like a state. Ends agree where they come to the same.
  abbrev pub system_of : System State
  system_of = record {
    begin = p.begin;
    actors = p.actors;
    turn = p.turn;
    is_busy = p.is_busy;
    is_within = p.is_within;
    Alike = λ v w. v ≡ w;
    Agree = λ v w. p.outcome v ≡ p.outcome w;
    CountAsOne = λ v w. v ≡ w;
  }

  abbrev pub outcomes_of : Outcomes State Outcome
  outcomes_of = record {
    Tells = λ v outcome. outcome ≡ p.outcome v;
    AreSame = λ outcome other. outcome ≡ other;
  }

  -- ---- the laws

  pub plain_is_system : IsPlain → IsSystem system_of
  plain_is_system is = record {
    few = λ turns i busy. is.few (state_after system_of turns) i busy;
    idle_outside = λ turns i idle. is.idle_outside (state_after system_of turns) i idle;
    alike_itself = λ v. refl;
    alike_on = λ v u w one other. one ∙ other;
    alike_turns = λ v w i alike. ap (λ x. p.turn x i) alike;
    alike_busy = λ v w i alike. ap (λ x. p.is_busy x i) alike;
    alike_within = λ v w i alike. ap (λ x. p.is_within x i) alike;
    alike_agree = λ v w alike. ap p.outcome alike;
    agree_itself = λ v. refl;
    agree_back = λ v w agree. sym agree;
    agree_on = λ v u w one other. one ∙ other;
  }

  pub plain_has_keys : {Memory : Type 0} (print_of : State → ℕ)
      → AreKeys system_of (keys_by {State = State} {Memory = Memory} print_of)
  plain_has_keys print_of = record {
    grows_itself = λ memory. tt;
    grows_on = λ a b c one other. tt;
    stays = λ a b n v key grows is. is;
    same_alike = λ memory n v w key other one two same. (one ∙ same) ∙ sym two;
    same_key = λ memory n v key other is same. is ∙ same;
    same_itself = λ key. refl;
    same_counts = λ key other same. same;
    one_itself = λ key. refl;
    one_back = λ key other same. sym same;
    one_on = λ a b c one other. one ∙ other;
    one_print = λ key other same. ap print_of same;
  }

  pub plain_has_outcomes : AreOutcomes system_of outcomes_of
  plain_has_outcomes = record {
    same_agree = λ v w one other is it same. (sym is ∙ same) ∙ it;
    agree_same = λ v w one other is it agree. (is ∙ agree) ∙ sym it;
  }
