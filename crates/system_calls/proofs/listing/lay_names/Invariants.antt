use Rattle.std.proofs.Common.{◌≡◌, ◌++◌, length, take, drop, map}
use Rattle.path_text.specs.Print.{after_slashes}
use Rattle.system_calls.proofs.listing.lay_names.Given as goal

-- the names so far lie at the room's beginning
abbrev pub invariant-loop-name : goal.invariant-loop-name
invariant-loop-name l = record {
  used : l.used ≡ length (after_slashes (take l.name-index (map (λ name. name.now) l.names)));
  laid : l.room ≡ after_slashes (take l.name-index (map (λ name. name.now) l.names))
      ++ drop (length (after_slashes (take l.name-index (map (λ name. name.now) l.names)))) l.initial.room;
}
