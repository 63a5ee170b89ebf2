-- What a whole call comes to, pass after pass.
use Rattle.std.proofs.Common.{◌≡◌, ◌≤◌, ℕ, ◌+◌, ◌*◌, List, refl, sym, subst, arith}
use Rattle.std.specs.Prelude.{zero, suc}
use Rattle.dialogue.proofs.HoldLemmas.{Goes, both, over}
use Rattle.open_or_make.specs.Paths.{way}
use Rattle.make_through_links.specs.Promises.{CallsHold, Ends, go_on, passes, CALLS_MAX, PASSES}
use Rattle.make_through_links.specs.Seen.{GoesOn, IsOnItsWay, Seen, Wish, at, begun, text_for, watch}
use Rattle.make_through_links.specs.declared.making.Came.{Came}
use Rattle.make_through_links.specs.declared.making.Came.TheVariants.{Given, Failed, Fails, Again, Led}
use Rattle.make_through_links.specs.declared.making.Making.{Making}
use Rattle.make_through_links.proofs.PassLemmas.{Comes, Next, pass_goes}

abbrev exchanges : ℕ → ℕ
exchanges zero = 0
exchanges (suc n) = 7 + exchanges n

-- so many calls are behind a pass that begins behind so many links and tries
begins : (w : Wish) (m : Making) (path : List ℕ) (calls : ℕ) → IsOnItsWay w m path → GoesOn w (at m path calls)
begins w m path calls h = record { way = h; closed = refl; unsaid = refl }

-- what holds of each call from its pass on, before which so many may come
abbrev HoldsFrom : Wish → ℕ → Type 0
HoldsFrom w n =
    (m : Making) (path : List ℕ) (calls : ℕ) → IsOnItsWay w m path → m.links + m.tries + n ≡ 73
    → calls + 5 ≤ 5 * (m.links + m.tries) → Goes (watch w) (exchanges n) (at m path calls) (passes w n m path) Ends

one_more : (w : Wish) (n : ℕ) → HoldsFrom w n → HoldsFrom w (suc n)
one_more w n rest m path calls h all few =
    both 7 (exchanges n) (pass_goes w (at m path calls) (calls + 5) (begins w m path calls h) (omega arith)) by_end
  where
    most : calls + 5 ≤ CALLS_MAX
    most = let tries = h.tries in let links = h.links in omega (arith, few, tries, links)

    next : (t : Seen) (now : Making) (to : List ℕ) → t ≡ at now to t.calls → t.calls ≤ calls + 5
        → Next w (m.links + m.tries) now to → Goes (watch w) (exchanges n) t (passes w n now to) Ends
    next t now to is less h_now =
        let more = h_now.more in
        subst (λ u. Goes (watch w) (exchanges n) u (passes w n now to) Ends) (sym is)
        (rest now to t.calls h_now.way (omega (arith, all, more)) (omega (arith, few, more, less)))

    by_end : (t : Seen) (c : Came) → Comes w (at m path calls) (calls + 5) t c
        → Goes (watch w) (exchanges n) t (go_on w (passes w n) m path c) Ends
    by_end t (Given fd) is =
        over (record { is = tt; said = is.0; held = is.1.1; few = omega (arith, most, is.1.0) })
    by_end t (Failed error) is =
        over (record { is = tt; said = is.0; held = is.1.1; few = omega (arith, most, is.1.0) })
    by_end t (Fails error step) is =
        over (record { is = tt; said = is.0; held = is.1.1; few = omega (arith, most, is.1.0) })
    by_end t (Again now) is = next t now path is.0 is.1.0 is.1.1
    by_end t (Led now front rest) is = next t now (way path (text_for w m) front rest) is.0 is.1.0 is.1.1

none_left : (w : Wish) → HoldsFrom w zero
none_left w m path calls h all few =
    let tries = h.tries in
    let links = h.links in
    absurd (omega (arith, all, tries, links))

passes_go : (w : Wish) (n : ℕ) → HoldsFrom w n
passes_go w zero = none_left w
passes_go w (suc n) = one_more w n (passes_go w n)

first_way : (w : Wish) → IsOnItsWay w (begun w) w.path
first_way w =
    record {
      size = refl;
      file = refl;
      follows = refl;
      may_retry = refl;
      tries = omega arith;
      links = omega arith;
      own = λ none. refl;
      leave = λ no. refl;
      fits = λ some. absurd (omega (arith, some));
    }

pub calls-hold : CallsHold
calls-hold w = (passes_go w PASSES (begun w) w.path 0 (first_way w) refl (omega arith)).each
