use Rattle.std.proofs.Common.{◌≡◌, sym, subst, arith, length}
use Rattle.std.proofs.lemmas.Option.{slice_get_read, slice_get_within}
use Rattle.layered_search.specs.declared.found.Class.{Class}
use Rattle.local_states.specs.Worlds.{EndView}
use Rattle.race_core.specs.Worlds.{WorldView}
use Rattle.explore.specs.Told.{IsToldBy}
use Rattle.explore.proofs.Told.{told_next}
use Rattle.explore.proofs.search.tell_classes.Goals as goal

pub loop-class-preserved : goal.loop-class-preserved
loop-class-preserved g c =
    let w : WorldView = g.B.Beginnings.opening c.args.beginnings.now in
    let l = c.loop-class in
    let long : length c.args.classes.now ≡ length l.classes = sym l.auto.classes in
    told_next w c.args.outside l.class-index c.args.classes.now l.classes
    c.class-item.result c.tell_class.new.class l.invariant
    (slice_get_read l.classes (length c.args.classes.now) l.class-index c.class-item.result long c.loop-class-test.true c.class-item.is)
    (subst (λ (one : Class EndView). IsToldBy w c.args.outside one c.tell_class.new.class) (sym c.class-item.is) c.in_ok-tell_class.ensures.told)

pub returns : goal.returns
returns g c = record {
  told = record {
    many = c.loop-class.invariant.many;
    each = λ k one class here there.
        let within = slice_get_within c.args.classes.now k one here in
        let end = c.loop-class-test.false in
        c.loop-class.invariant.told k one class (omega (arith, within, end)) here there;
  };
}
