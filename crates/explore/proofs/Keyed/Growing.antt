-- What is said by places stays so when more is met.
use Rattle.std.specs.Prelude.{◌≡◌, ℕ}
use Rattle.std.proofs.Common.{sym, subst}
use Rattle.race_core.specs.Worlds.{WorldView, turn}
use Rattle.local_states.specs.declared.keys.Effect.{Effect}
use Rattle.explore.specs.declared.turns.memo.MemoKey.{MemoKey}
use Rattle.explore.specs.declared.turns.memo.Entry.{Entry}
use Rattle.local_states.specs.Worlds.{full}
use Rattle.explore.specs.Effects.{HasGrown, IsEffectFrom, IsMemoKeyOf, IsRemembered, KnownView, IsSound}
use Rattle.local_states.specs.Keys.{ComponentsView, Grows}
use Rattle.local_states.specs.Outside.{roots_of}
pub use Rattle.local_states.proofs.Parted.Growing.{grows_same, grows_on, rows_grow, part_grows, key_grows}

pub memo_key_grows : {c d : ComponentsView} {w v : WorldView} {memo_key : MemoKey} → Grows c d → IsMemoKeyOf c w v memo_key → IsMemoKeyOf d w v memo_key
memo_key_grows {c} {d} {w} {v} {memo_key} grows is = record {
  nodes = grows.lists memo_key.nodes _ is.nodes;
  part = part_grows grows is.part;
  room = is.room;
  numbers = is.numbers;
  numbered = is.numbered;
  roots = subst (λ told. roots_of told v ≡ roots_of told w) (sym grows.told) is.roots;
}

pub effect_grows : {c d : ComponentsView} {v : WorldView} {i : ℕ} {effect : Effect} → Grows c d → IsEffectFrom c v i effect → IsEffectFrom d v i effect
effect_grows {c} {d} {v} {i} {effect} grows is = record {
  nodes = grows.lists effect.nodes _ is.nodes;
  part = part_grows grows is.part;
  grown = subst (λ told. HasGrown told i v (turn full v i) effect) (sym grows.told) is.grown;
}

pub remembered_grows : {c d : ComponentsView} {w : WorldView} {entry : Entry} → Grows c d → IsRemembered c w entry → IsRemembered d w entry
remembered_grows grows is = record { from = is.from; memo_key = memo_key_grows grows is.memo_key; effect = effect_grows grows is.effect }

-- what is known stays so where its components grow
pub sound_grows : {w : WorldView} {known : KnownView} {d : ComponentsView} → Grows known.components d → IsSound w known
    → IsSound w (record { components = d; entries = known.entries; start = known.start; are_given = known.are_given })
sound_grows grows sound = record {
  rows = rows_grow grows sound.rows;
  numbered = sound.numbered;
  start = sound.start;
  given = sound.given;
  turns = λ at entry e. remembered_grows grows (sound.turns at entry e);
}
