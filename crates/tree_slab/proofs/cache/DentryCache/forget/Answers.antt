use Rattle.std.proofs.Common.{rules, ◌≡◌}
use Rattle.std.specs.Map.{remove_entry}
use Rattle.lru.specs.LruCache.{lru_cache}
use Rattle.tree_slab.specs.Cache.{same_entry}
use Rattle.tree_slab.proofs.Lists.{cache, forgotten-removed}
use Rattle.tree_slab.proofs.cache.DentryCache.forget.Goals as goal

pub returns : goal.returns
returns c =
    let before = c.self.inside.inner in
    let after : c.pop.new.self ≡ lru_cache (remove_entry (same_entry (c.args.dir, c.args.name.now)) before.entries) before.cap = search rules in
    let view : cache before.entries before.cap ≡ c.args.self.now = search rules in
    rw (after, ← view) (forgotten-removed c.args.dir c.args.name.now before.cap before.entries c.len.ensures.valid.0)
