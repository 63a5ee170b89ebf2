-- The reply by which a call's lines end.
use Rattle.std.proofs.Common.{◌≡◌, ℕ, List, [], ◌∷◌, reverse, refl, sym, ap}
use Rattle.path_text.specs.declared.errno.Errno.{Errno}
use Rattle.handles.specs.Objects.{StandingObject}
use Rattle.step_resolver.specs.Order.{Handle, Line}
use Rattle.step_resolver.specs.TurnView.{standing_handle}
use Rattle.root_ops.specs.declared.below.Below.{Below}
use Rattle.root_ops.specs.declared.reply.Reply.{Reply as Told}
use Rattle.root_ops.specs.declared.reply.Reply.TheVariants.{Opened, Text, Done, Count, Stepped, Kept, Fault}
use Rattle.root_ops.specs.Order.{Reply, opened, count, fault, ends, LeadsTo}
use Rattle.root_ops.specs.View.{reply_view}

-- ---- a call that has ended

pub at_its_end : (below : Below) (r told : Reply) (lines : List Line) → LeadsTo below (ends r) lines (ends told) → r ≡ told
at_its_end below r told [] e = cc (e)
at_its_end below r told (line ∷ lines) e = absurd e

pub no_lines : (below : Below) (r told : Reply) (lines : List Line) → LeadsTo below (ends r) lines (ends told) → lines ≡ []
no_lines below r told [] e = refl
no_lines below r told (line ∷ lines) e = absurd e

-- ---- the reply that looks so

pub is_fault : (reply : Told) (error : Errno) → fault error ≡ reply_view reply → reply ≡ Fault error
is_fault (Opened standing) error q = cc (q)
is_fault (Text text) error q = cc (q)
is_fault Done error q = cc (q)
is_fault (Count n) error q = cc (q)
is_fault (Stepped answer) error q = cc (q)
is_fault (Kept standing) error q = cc (q)
is_fault (Fault other) error q = let same : error ≡ other = cc (q) in ap (λ x. Fault x) (sym same)

pub is_opened : (reply : Told) (handle : Handle) (names : List (List ℕ)) → opened handle names ≡ reply_view reply
    → (standing : StandingObject) × ((reply ≡ Opened standing) × ((handle ≡ standing_handle standing) × (names ≡ reverse standing.names)))
is_opened (Opened standing) handle names q = (standing, (refl, (cc (q), cc (q))))
is_opened (Text text) handle names q = cc (q)
is_opened Done handle names q = cc (q)
is_opened (Count n) handle names q = cc (q)
is_opened (Stepped answer) handle names q = cc (q)
is_opened (Kept standing) handle names q = cc (q)
is_opened (Fault other) handle names q = cc (q)

pub is_count : (reply : Told) (n : ℕ) → count n ≡ reply_view reply → reply ≡ Count n
is_count (Opened standing) n q = cc (q)
is_count (Text text) n q = cc (q)
is_count Done n q = cc (q)
is_count (Count m) n q = let same : n ≡ m = cc (q) in ap (λ x. Count x) (sym same)
is_count (Stepped answer) n q = cc (q)
is_count (Kept standing) n q = cc (q)
is_count (Fault other) n q = cc (q)
