-- What is remembered stays true: by each call of the cache, and where an entry changes that was forgotten.
use Rattle.std.proofs.Common.{◌≡◌, ℕ, Bool, List, length, Option, Some, sym, ap, subst, ◌∙◌, ⊎_elim}
use Rattle.std.specs.Prelude.{Result, Ok, Err, OnOk, OnErr}
use Rattle.path_text.specs.declared.errno.NoMemory.{NoMemory}
use Rattle.tree_slab.specs.Cache.{Cache, found, looked, noted, forgotten}
use Rattle.tree_slab.proofs.CacheKeys.{key}
use Rattle.tree_slab.proofs.Finds.{found-looked, found-noted, found-forgotten}
use Rattle.tree_slab.specs.Cached.{IsTrueOf}
use Rattle.tree_slab.specs.Directories.{entry_in, with_entry, SetsEntry, AddsNode}
use Rattle.tree_slab.proofs.Agreement.{with_entry-cases}
use Rattle.tree_slab.proofs.Index.{Tables}

module _ (old new : Cache) (directories : Tables) (d : ℕ) (n : List ℕ) where
  pub true-looked : new ≡ looked old d n → IsTrueOf old directories → IsTrueOf new directories
  true-looked is h f m x t = h f m x (found-looked old d n f m x (ap (λ c. found c f m) (sym is) ∙ t))

  true-noted : (x : Option ℕ) → new ≡ noted old d n x → entry_in directories d n ≡ x → IsTrueOf old directories → IsTrueOf new directories
  true-noted x is there h f m y t = ⊎_elim
      (λ r. ap (λ k. entry_in directories k.0 k.1) (sym r.0) ∙ there ∙ r.1)
      (λ r. h f m y r)
      (found-noted old d n x f m y (ap (λ c. found c f m) (sym is) ∙ t))

  -- a note that finds no memory is passed over
  pub true-read : (x : Option ℕ) (result : Result (Unit {0}) NoMemory) → OnOk result (new ≡ noted old d n x) → OnErr result (new ≡ old) → entry_in directories d n ≡ x → IsTrueOf old directories → IsTrueOf new directories
  true-read x (Ok _) ok err there h = true-noted x ok there h
  true-read x (Err _) ok err there h = subst (λ c. IsTrueOf c directories) (sym err) h

  true-forgotten : new ≡ forgotten old d n → IsTrueOf old directories → IsTrueOf new directories
  true-forgotten is h f m x t = h f m x (found-forgotten old d n f m x (ap (λ c. found c f m) (sym is) ∙ t)).1

  -- an entry that was forgotten may lead elsewhere
  changed : (after : Tables) (x : Option ℕ) → new ≡ forgotten old d n → ((f : ℕ) (m : List ℕ) → entry_in after f m ≡ with_entry (entry_in directories) d n x f m) → IsTrueOf old directories → IsTrueOf new after
  changed after x is s h f m y t =
      let r = found-forgotten old d n f m y (ap (λ c. found c f m) (sym is) ∙ t) in
      s f m ∙ ⊎_elim
      (λ q. absurd (r.0 (ap (λ place. key place.parent place.name) (sym q.0))))
      (λ q. q.1 ∙ h f m y r.1)
      (with_entry-cases (entry_in directories) d n x f m)

  pub true-set : (after : Tables) (x : Option ℕ) → new ≡ forgotten old d n → SetsEntry directories after d n x → IsTrueOf old directories → IsTrueOf new after
  true-set after x is s h = changed after x is s.entries h

  same_maps : (after : Tables) → new ≡ forgotten old d n → after ≡ directories → IsTrueOf old directories → IsTrueOf new after
  same_maps after is same h = subst (IsTrueOf new) (sym same) (true-forgotten is h)

  -- the same where memory may be refused, and the maps then stay
  pub true-linked : (after : Tables) (x : ℕ) (result : Result (Unit {0}) NoMemory) → new ≡ forgotten old d n → OnOk result (SetsEntry directories after d n (Some x)) → OnErr result (after ≡ directories) → IsTrueOf old directories → IsTrueOf new after
  true-linked after x (Ok _) is ok err h = true-set after (Some x) is ok h
  true-linked after x (Err _) is ok err h = same_maps after is err h

  pub true-added : (after : Tables) (mapped : Bool) (result : Result (Unit {0}) NoMemory) → new ≡ forgotten old d n → OnOk result (AddsNode directories after d n mapped) → OnErr result (after ≡ directories) → IsTrueOf old directories → IsTrueOf new after
  true-added after mapped (Ok _) is ok err h = changed after (Some (length directories)) is ok.entries h
  true-added after mapped (Err _) is ok err h = same_maps after is err h
