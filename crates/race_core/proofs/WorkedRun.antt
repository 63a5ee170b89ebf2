-- The run, computed, and that the laws say what it comes to.
use Rattle.std.proofs.Common.{◌≡◌, ◌⊎◌, ℕ, zero, suc, Bool, true, false, Some, None, slice_get, inl, inr, refl, sym, ap, arith}
use Rattle.std.proofs.lemmas.Option.{none-some, same_Some}
use Rattle.path_text.specs.declared.errno.Errno.{Errno}
use Rattle.path_text.specs.declared.errno.Errno.TheVariants.{NoMemory}
use Rattle.tree_model.specs.declared.answer.Event.{Event}
use Rattle.tree_model.specs.declared.inode.Place.{Place}
use Rattle.tree_model.specs.StepLaws.{open_count}
use Rattle.tree_model.proofs.TreeTests.{IsState-from_test}
use Rattle.tree_model.specs.BaseTree.{base_tree}
use Rattle.step_resolver.specs.Footprint.{IsLeftAlone, is_want}
use Rattle.race_core.specs.declared.report.Outcome.{Outcome}
use Rattle.race_core.specs.declared.report.Outcome.TheVariants as outcome
use Rattle.race_core.specs.WorldCalls.{IsRun, CallMade}
use Rattle.race_core.specs.WorldLaws.{ResolveTells, WalkTells, FailsAtOnce}
use Rattle.step_resolver.specs.Order.{failed}
use Rattle.race_core.specs.OneReport.{full}
use Rattle.race_core.specs.WorkedRun.{moved, opening, ledgers, world, renamed, end, window, run, the_walk, IsOpenat2s, UndisturbedIsMeant}

is_run : IsRun run
is_run = record {
  tree = IsState-from_test base_tree refl;
  opens = record {
    few = omega arith;
    roots = record { tree = opening; ledgers = ledgers };
    are_granted = refl;
    bounded = omega arith;
    enough = let two : open_count opening ≡ 2 = refl in omega (arith, two);
    is = refl;
  };
  runs = record {
    had_memory = refl;
    within = refl;
    end = end;
    runs = record {
      middle = world;
      scheduled = refl;
      rest = (
        renamed,
        record { turns = 1; run = (full, refl); over = refl },
        (end, record { turns = 2; run = (full, (full, refl)); over = refl }, refl),
      );
    };
    over = (refl, (refl, tt));
    reports = record { is_tree = refl; are_events = refl; legal = (refl, (refl, (refl, tt))); are_replies = refl; is_kept = refl };
  };
}

-- nobody else acts in the window
walkers : (t : ℕ) (event : Event) → slice_get window t ≡ Some event → event.actor ≡ 1
walkers zero event e = sym (ap (λ v. v.actor) (same_Some _ event e))
walkers (suc zero) event e = sym (ap (λ v. v.actor) (same_Some _ event e))
walkers (suc (suc t)) event e = absurd (none-some event e)

alone : (c : CallMade) (place : Place) → IsLeftAlone (the_walk c) place
alone c place = record { same = λ t event e other. absurd (other (walkers t event e)) }

at_once : (c : CallMade) (error : Errno) → FailsAtOnce c moved error → is_want error ≡ true
at_once c error fails = on fails.why
  where
    on : (None ≡ Some error) ⊎ ((c.room ≡ false) × (error ≡ NoMemory)) → is_want error ≡ true
    on (inl e) = absurd (none-some error e)
    on (inr both) = ap is_want both.1

walk_failed : (c : CallMade) (error : Errno) → WalkTells (the_walk c) (failed error) → (b : Bool) → is_want error ≡ b → is_want error ≡ true
walk_failed c error tells true q = q
walk_failed c error tells false q = absurd (tells.headline.means tt refl q (alone c _, tt))

meant : (c : CallMade) (o : Outcome) → ResolveTells (the_walk c) c moved o → IsOpenat2s o
meant c (outcome.Opened x kind names) told = told.1.headline.means tt refl refl (alone c _, tt)
meant c (outcome.Fault error) (inl fails) = at_once c error fails
meant c (outcome.Fault error) (inr tells) = walk_failed c error tells (is_want error) refl
meant c (outcome.Text text) told = absurd told
meant c outcome.Done told = absurd told
meant c (outcome.Count n) told = absurd told
meant c (outcome.Stepped answer) told = absurd told

pub undisturbed_is_meant : UndisturbedIsMeant
undisturbed_is_meant = record { is_run = is_run; told = refl; is_window = record { whole = refl; own = refl }; meant = meant }
