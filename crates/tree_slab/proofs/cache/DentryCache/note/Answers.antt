use Rattle.std.proofs.Common.{rules, ◌≡◌}
use Rattle.lru.specs.LruCache.{lru_cache, put_entries}
use Rattle.tree_slab.specs.Cache.{same_entry}
use Rattle.tree_slab.proofs.Lists.{cache, noted-put}
use Rattle.tree_slab.proofs.cache.DentryCache.note.Goals as goal

pub returns-clause-ok : goal.returns-clause-ok
returns-clause-ok c =
    let before = c.self.inside.inner in
    let after : c.put.new.self ≡ lru_cache (put_entries same_entry before (c.args.dir, c.args.name.now) c.args.there) before.cap = search rules in
    let view : cache before.entries before.cap ≡ c.args.self.now = search rules in
    rw (after, ← view) (noted-put before c.args.dir c.args.name.now c.args.there c.len.ensures.valid)
