use Rattle.std.proofs.Common.{◌≡◌, List, ℕ, [], subst, rules}
use Rattle.std.specs.Cmp.Lexicographic.{slice_cmp}
use Rattle.std.specs.List.Sorted.{IsPermutation}
use Rattle.std.specs.Ordering.{is_lt, nat_cmp}
use Rattle.std.specs.Prelude.{Ok}
use Rattle.std.specs.declared.alloc.AllocError.{AllocError}
use Rattle.std.proofs.lemmas.Iterator.Consumers.{map_from_collect}
use Rattle.std.proofs.lemmas.List.Sorted.{IsPermutation-map}
use borrow.Author.Tests.{tests}
use Rattle.path_text.specs.Text.{pieces}
use Rattle.path_text.proofs.PiecesYielded.{pieces_yielded}
use Rattle.system_calls.proofs.ListingLemmas.{names_of, sorted_map}
use Rattle.system_calls.proofs.listing.sorted_pieces.Goals as goal

pub returns : goal.returns
returns c =
    let chain = pieces_yielded _ _ c.args.text.now (cc) (cc) (cc) (cc) (λ x b q k. search (rules, tests)) (λ x b q k. search (rules, tests)) in
    let all : names_of c.in_ok-names.names.items ≡ pieces c.args.text.now = map_from_collect {E = AllocError} (Ok c.in_ok-names.names) c.in_ok-names.ensures.ran chain in
    let after = c.sort_unstable.new.self.items in
    record {
      same = subst (λ (l : List (List ℕ)). IsPermutation l (names_of after)) all
          (IsPermutation-map (λ name. name.now) c.in_ok-names.names.items after c.sort_unstable.ensures.permutation);
      order = sorted_map (λ name. name.now) (λ x y. is_lt (slice_cmp nat_cmp x y)) record { ref_ptr = (0, 0); now = [] } after c.sort_unstable.ensures.sorted;
    }
