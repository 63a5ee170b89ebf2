-- The race with a whole call, computed.
use Rattle.std.proofs.Common.{List, [], ◌∷◌, ◌++◌, true, false, refl, arith}
use Rattle.std.specs.Prelude.{Some, codes}
use Rattle.path_text.specs.declared.part.Part.TheVariants.{Named}
use Rattle.path_text.specs.declared.path.Split.{Split}
use Rattle.system_calls.specs.OpenFlags.{on_x86_64_large, x86_64}
use Rattle.tree_model.proofs.TreeTests.{IsState-from_test}
use Rattle.tree_model.specs.declared.answer.Answer.TheVariants.{Opened, Done}
use Rattle.tree_model.specs.declared.step.Kind.TheVariants as kind
use Rattle.tree_model.specs.declared.step.StepOf.TheVariants.{Open, Close, MakeDir}
use Rattle.dialogue.specs.Dialogue.{Talks, Whole, and_then, asking}
use Rattle.find_proc.specs.declared.asks.Known.{Known}
use Rattle.step_resolver.specs.Order.{Line, answered}
use Rattle.root_ops.specs.declared.aim.Change.TheVariants as changes
use Rattle.root_ops.specs.declared.op.Op.TheVariants.{CreateDir}
use Rattle.root_ops.specs.CallHistory.{IsCallInHistory}
use Rattle.kernel_calls.specs.Calls.{Ended, change_entry, is_plain}
use Rattle.kernel_calls.specs.Change.{given, make, make_change}
use Rattle.kernel_calls.specs.Entry.{EntryAt, find_directory, leave}
use Rattle.kernel_calls.specs.InProc.{gives}
use Rattle.kernel_calls.specs.Look.{look_up, opened, walk}
use Rattle.kernel_calls.specs.Path.{At}
use Rattle.kernel_calls.specs.declared.change.Wanted.{Wanted}
use Rattle.kernel_calls.specs.declared.look.Outcome.TheVariants.{Value}
use Rattle.calls_by_system_calls.specs.SystemCalls.{StandFor}
use Rattle.calls_by_system_calls.specs.WholeCalls.{EntryCall}
use Rattle.calls_by_system_calls.specs.WorkedRace.{race_below, race_opening}
use Rattle.calls_by_system_calls.specs.WorkedWhole.{WholeMkdirIsMade, before_move, behind_move, whole_call, whole_exchanges, whole_numbers}

abbrev known : Known
known = record {
  kept = record {
    file = record { device = 0; inode = 0; mount = 0 };
    fd = 0;
    there = false;
    handed_in = false;
    claimed = false;
  };
  machine = x86_64 0;
  has_floor = true;
}

abbrev at : At
at = record { root = 3; flags = 0; slashed = codes "/a/b/new"; looked = false }

abbrev entry : EntryAt
entry = record { above = Some (codes "/a/b"); name = codes "new" }

abbrev how : Wanted
how =
    record { device = 0; flags = 0; mode = 493; how = 0; fd = 0; linked = false; opens = false; gives = false }

abbrev end : Ended
end = record { outcome = Value 0; closes = []; known = known }

abbrev split : Split
split = record {
  dir = record { absolute = false; parts = Named (codes "a") ∷ Named (codes "b") ∷ []; slash = false };
  name = codes "new";
  slash = false;
}

whole : Whole (change_entry known at entry how 8 [] [] false) whole_exchanges end
unfolding Talks and_then asking change_entry is_plain find_directory walk look_up opened make_change make gives given leave
whole = (refl, (refl, (refl, refl)))

call : EntryCall race_below whole_numbers (CreateDir (codes "a/b/new"))
call = record {
  takes_slash = true;
  place = record {
    at = at;
    is_below = record { root = refl; beneath = refl; no_links = refl };
    entry = entry;
    divided = record {
      split = split;
      entry = (refl, refl);
      name = refl;
      above = (λ none. absurd cc, record { is_path = refl; absolute = refl; parts = refl });
    };
  };
  change = changes.MakeDir;
  is_op = (refl, (refl, refl));
  how = how;
  step = 8;
  text = [];
  asks = refl;
  unlinked = refl;
  gives = refl;
  known = known;
  is_on = (on_x86_64_large refl, refl);
  read = [];
  is_last = false;
  exchanges = whole_exchanges;
  end = end;
  whole = whole;
}

abbrev opens_both : List Line
opens_both =
    answered (Open 0 (codes "a")) (Opened 3 2 kind.Dir)
    ∷ answered (Open 3 (codes "b")) (Opened 4 3 kind.Dir)
    ∷ answered (Close 3) Done
    ∷ []

abbrev closes_it : List Line
closes_it = answered (Close 4) Done ∷ []

stand : StandFor race_below whole_numbers whole_exchanges (before_move ++ behind_move)
stand = (
  before_move,
  behind_move,
  record {
    opened = λ done is. record {
      before = opens_both;
      object = record { number = 4; node = 3; kind = kind.Dir };
      told = codes "a" ∷ codes "b" ∷ [];
      names = codes "b" ∷ codes "a" ∷ [];
      others = codes "a" ∷ codes "b" ∷ [];
      leads = (refl, (refl, (refl, (refl, refl))));
      all = refl;
      free = λ same. absurd (omega (arith, same));
      is = refl;
    };
    failed = λ wrong not_last. absurd (wrong refl);
    missed = λ place wrong. absurd cc;
  },
  (
    answered (MakeDir 4 (codes "new")) Done ∷ [],
    closes_it,
    refl,
    (closes_it, [], refl, refl, refl),
    refl,
  ),
  refl,
)

in_history : IsCallInHistory whole_call
in_history = record {
  tree = IsState-from_test race_opening refl;
  legal_before = tt;
  legal = (refl, (refl, (refl, (refl, (refl, (refl, (refl, tt)))))));
  own = refl;
  root = refl;
  root_is_dir = refl;
}

pub whole_mkdir_is_made : WholeMkdirIsMade
unfolding call
whole_mkdir_is_made = record {
  call = call;
  made = refl;
  has = record { lines = before_move ++ behind_move; stand = stand; all = refl };
  replies = refl;
  in_history = in_history;
  new = refl;
  outside = refl;
}
