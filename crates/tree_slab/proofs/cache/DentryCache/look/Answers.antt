use Rattle.std.proofs.Common.{rules, ◌≡◌}
use Rattle.lru.specs.LruCache.{lru_cache, promoted}
use Rattle.tree_slab.specs.Cache.{same_entry}
use Rattle.tree_slab.proofs.Lists.{cache, looked-promoted}
use Rattle.tree_slab.proofs.cache.DentryCache.look.Goals as goal

pub returns-clause-renewed : goal.returns-clause-renewed
returns-clause-renewed c =
    let before = c.self.inside.inner in
    let after : c.get.follows.lender-at-none ≡ lru_cache (promoted (same_entry (c.args.dir, c.args.name.now)) before.entries) before.cap = search rules in
    let view : cache before.entries before.cap ≡ c.args.self.now = search rules in
    rw (after, ← view) (looked-promoted c.args.dir c.args.name.now before.cap before.entries c.len.ensures.valid.0)
