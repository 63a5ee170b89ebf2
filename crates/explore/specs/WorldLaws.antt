-- A world is a system, and its keys are those of its states: laws, by those of `local_states`.
use Rattle.std.specs.Prelude.{Bool, map}
use Rattle.std.proofs.Common.{◌∙◌, subst}
use Rattle.layered_search.specs.System.{IsSystem, AreKeys, AreOutcomes}
use Rattle.race_core.specs.Worlds.{WorldView}
use Rattle.local_states.specs.declared.keys.Own.{Own}
use Rattle.local_states.specs.Same.{IsSame}
use Rattle.local_states.specs.Worlds.{worlds, world_outcomes, same, onward}
use Rattle.local_states.proofs.Parted.Growing.{grows_same, grows_on, rows_grow, key_grows, same_but_outside_print}
use Rattle.local_states.proofs.Parted.SameKeys.{same_keys, key_again, keys_itself, keys_back, keys_on, keys_seen, few_copied}
use Rattle.local_states.proofs.Worlds.System as laws
use Rattle.explore.specs.Worlds.{world_keys}

pub worlds_are_system : (told : Bool) (w : WorldView) → IsSystem (worlds told w)
worlds_are_system told w = laws.worlds_are_system told w

pub worlds_have_outcomes : (told : Bool) (w : WorldView) → AreOutcomes (worlds told w) (world_outcomes told)
worlds_have_outcomes told w = laws.worlds_have_outcomes told w

pub worlds_have_keys : (told : Bool) (w : WorldView) → AreKeys (worlds told w) (world_keys told w)
worlds_have_keys told w = record {
  grows_itself = λ known. grows_same;
  grows_on = λ a b c first second. grows_on first second;
  stays = λ a b n v key grows is. record {
    told_is = grows.told ∙ is.told_is;
    rows = rows_grow grows is.rows;
    is = key_grows grows is.is;
    few = is.few;
  };
  same_alike = λ known n u v key other here there are.
      let again = key_again known.components w v other key (keys_back key other are) there.is in
      let is : IsSame told u v = subst (λ told. IsSame told u v) here.told_is
      (same_keys known.components w u v key here.is again here.rows) in
      onward u v v is (same v);
  same_key = λ known n v key other is are. record {
    told_is = is.told_is;
    rows = is.rows;
    is = key_again known.components w v key other are is.is;
    few = few_copied n key other (keys_back key other are) is.few;
  };
  same_itself = λ key. keys_itself key;
  same_counts = λ key other are. keys_seen (map (λ (o : Own). o.part)) key other are;
  one_itself = λ key. keys_itself key;
  one_back = λ key other are. keys_back key other are;
  one_on = λ a b c first second. keys_on a b c first second;
  one_print = λ key other are. same_but_outside_print key other are;
}
