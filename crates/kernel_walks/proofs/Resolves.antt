-- A resolve whose last question had some names as its answer: its walk saw the object below the root.
use Rattle.std.specs.Prelude.{◌≡◌, ℕ, List, [], ◌∷◌, ◌++◌, true, refl}
use Rattle.std.proofs.Common.{sym, ap, ◌∙◌, subst}
use Rattle.path_text.specs.Text.{text_fault, reading_of}
use Rattle.walk_plan.specs.declared.goal.Goal.{Goal}
use Rattle.root_ops.specs.declared.aim.Aim.TheVariants.{Opens}
use Rattle.root_ops.specs.declared.below.Below.{Below}
use Rattle.root_ops.specs.declared.op.Op.{Op}
use Rattle.root_ops.specs.declared.op.Op.TheVariants.{Resolve, ResolveNoFollow}
use Rattle.root_ops.specs.Acts.{along}
use Rattle.root_ops.specs.Order.{opened, starts, ends, on_path, LeadsTo}
use Rattle.root_ops.proofs.Handles.BulkHistory.{is_bulk_of}
use Rattle.kernel_walks.specs.Behind.{asks_below}
use Rattle.kernel_walks.specs.Resolves.{IsResolve, ResolvesSeenBelow}
use Rattle.kernel_walks.proofs.LastQuestion.{resolve_looks_up}
use Rattle.kernel_walks.proofs.SeenBelow.{seen_below}

pub starts_so : (below : Below) (op : Op) (goal : Goal) (path : List ℕ) → IsResolve op goal path → starts below true op ≡ on_path below (Opens goal) path
starts_so below (Resolve text) goal path is =
    ap (λ (g : Goal). on_path below (Opens g) text) (sym is.0) ∙ ap (on_path below (Opens goal)) is.1
starts_so below (ResolveNoFollow text) goal path is =
    ap (λ (g : Goal). on_path below (Opens g) text) (sym is.0) ∙ ap (on_path below (Opens goal)) is.1
starts_so below op goal path is = absurd is

pub resolves_seen_below : ResolvesSeenBelow
resolves_seen_below c goal path lines handle told names others is leads lines_so in_history =
    let looks = resolve_looks_up c.below goal path (text_fault path) lines c.below.root.handle handle told names
    (subst (λ turn. LeadsTo c.below turn (lines ++ asks_below c.below handle told ∷ []) (ends (opened handle names))) (starts_so c.below c.op goal path is) leads) in
    seen_below (along c goal (reading_of path)) (is_bulk_of c goal (reading_of path) in_history) lines (asks_below c.below handle others) handle names others lines_so (refl, refl) looks.led
