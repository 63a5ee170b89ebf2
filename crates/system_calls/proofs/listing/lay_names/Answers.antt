use Rattle.std.proofs.Common.{◌≡◌, ◌+◌, ◌++◌, [], ◌∷◌, List, ℕ, length, get_or, take, drop, ap, subst, sym, ◌∙◌, arith, length-append}
use Rattle.path_text.specs.declared.name.TheConstants.{SLASH}
use Rattle.path_text.specs.Print.{after_slashes}
use Rattle.system_calls.proofs.ListingLemmas.{laid_more, names_of, no_longer}
use Rattle.system_calls.proofs.listing.lay_names.Goals as goal
use Rattle.path_text.proofs.Lists.{put}

pub lay_name-requires : goal.lay_name-requires
lay_name-requires c =
    let at = c.loop-name.name-index in
    let name = (get_or c.args.names.now at record { ref_ptr = (0, 0); now = [] }).now in
    let more = laid_more c.args.names.now at record { ref_ptr = (0, 0); now = [] } c.loop-name-test.true in
    let text = after_slashes (take at (names_of c.args.names.now)) in
    omega (arith, ap length more, length-append text (SLASH ∷ name), no_longer (at + 1) (names_of c.args.names.now), c.loop-name.invariant.used, c.requires, c.loop-name.auto.room)

pub loop-name-preserved : goal.loop-name-preserved
loop-name-preserved c =
    let at = c.loop-name.name-index in
    let name = (get_or c.args.names.now at record { ref_ptr = (0, 0); now = [] }).now in
    let more = laid_more c.args.names.now at record { ref_ptr = (0, 0); now = [] } c.loop-name-test.true in
    let text = after_slashes (take at (names_of c.args.names.now)) in
    let one : length name + 1 ≡ length (SLASH ∷ name) = omega arith in
    record {
      used = omega (arith, ap length more, length-append text (SLASH ∷ name), c.loop-name.invariant.used);
      laid = subst (λ (l : List ℕ). c.lay_name.new.room ≡ l ++ drop (length l) c.args.room.now) (sym more)
          (put text (SLASH ∷ name) c.args.room.now c.loop-name.room c.lay_name.new.room c.loop-name.used c.loop-name.invariant.used c.loop-name.invariant.laid
          (c.lay_name.ensures ∙ ap (λ (k : ℕ). take c.loop-name.used c.loop-name.room ++ ((SLASH ∷ name) ++ drop (c.loop-name.used + k) c.loop-name.room)) one));
    }
