-- How a call on what is at a path's end ends.
use Rattle.std.proofs.Common.{inl, inr, ℕ, [], Bool, true, false, not, Result, Ok, Err, refl, sym, subst}
use Rattle.std.specs.Prelude.{◌==◌, bit_or}
use Rattle.system_calls.specs.Objects.{kind_of}
use Rattle.system_calls.specs.OpenFlags.{O_PATH}
use Rattle.dialogue.specs.Dialogue.{closes, stats}
use Rattle.dialogue.proofs.HeldLemmas.{first_in, same}
use Rattle.dialogue.proofs.HoldLemmas.{Goes, asks_then, both, choose, over}
use Rattle.find_proc.specs.declared.asks.Known.{Known}
use Rattle.linux_steps.specs.Steps.{look_error}
use Rattle.kernel_calls.specs.Calls.{resolve, resolve_by, with_kind}
use Rattle.kernel_calls.specs.Flags.{bit}
use Rattle.kernel_calls.specs.Look.{Came}
use Rattle.kernel_calls.specs.Path.{At}
use Rattle.kernel_calls.specs.Promises.{PathEnds, PathsHold, for_path}
use Rattle.kernel_calls.specs.Seen.{May, Seen, Wish, at_first, gets, looks, watch}
use Rattle.kernel_calls.specs.declared.look.Outcome.{Outcome}
use Rattle.kernel_calls.specs.declared.look.Outcome.TheVariants.{Value, Fails, FailsAt, Steps}
use Rattle.kernel_calls.proofs.LookLemmas.{Unfound, WalkedBy, path_in, walks_so}

fails_so : (look : ℕ) (at : At) (asks : Bool) (t : Seen) (why : Outcome) → Unfound at_first t why
    → PathEnds look at asks t why
fails_so look at asks t (Value value) h = absurd h.tells
fails_so look at asks t (Fails error step) h = (h.held, h.tells.0, h.tells.1)
fails_so look at asks t (FailsAt error step) h = absurd h.tells
fails_so look at asks t Steps h = h.held

kinds : (w : Wish) (at : At) (fd : ℕ)
    → Goes (watch w) 2 (gets at_first (looks w.look at at.slashed) fd) (with_kind fd) (PathEnds w.look at true)
unfolding with_kind
kinds w at fd =
    asks_then 1 (stats fd) (inr (inl (first_in fd [])))
    (λ a. choose (not (look_error a == 0))
    (λ _. asks_then 0 (closes fd) (first_in fd []) (λ b. over (rw (same fd) refl)))
    (λ _. over (fd, refl, (kind_of a.mode, refl))))

abbrev Told : ℕ → At → Bool → Seen → Came Outcome → Type 0
Told look at asks t c = PathEnds look at asks t c.value

told_so : (w : Wish) (at : At) (now : Known) (asks : Bool) (t : Seen) (r : Result ℕ Outcome)
    → WalkedBy at_first (looks w.look at at.slashed) t r
    → Goes (watch w) 2 t (resolve_by asks now r) (Told w.look at asks)
told_so w at now false t (Ok fd) is =
    subst (λ u. Goes (watch w) 2 u (resolve_by false now (Ok fd)) (Told w.look at false)) (sym is)
    (over (fd, refl, refl))
told_so w at now true t (Ok fd) is =
    subst (λ u. Goes (watch w) 2 u (resolve_by true now (Ok fd)) (Told w.look at true)) (sym is)
    (both 2 0 (kinds w at fd) (λ v o h. over h))
told_so w at now asks t (Err why) is = over (fails_so w.look at asks t why is)

pub paths-hold : PathsHold
unfolding resolve
paths-hold k at follows directory asks =
    let w = for_path k at follows directory in
    let named = path_in (bit_or O_PATH (bit (not follows) k.machine.nofollow)) (bit directory k.machine.directory)
    (path_in O_PATH (bit (not follows) k.machine.nofollow) refl) in
    (both 5 2
    (walks_so w at_first k at at.slashed w.look named
    (refl, refl, λ q is. subst (May w at_first) (sym is) (inr (inl (refl, inl refl)))))
    (λ t c h. told_so w at c.known asks t c.value h.by)).each
