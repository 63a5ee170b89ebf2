-- Worked paths on a small tree, below its directory /c: what the definitions come to. path_resolution(7); openat2(2).
use Rattle.std.specs.Prelude.{◌≡◌, ℕ, zero, suc, ◌+◌, List, [], ◌∷◌, ◌++◌, Bool, false, true, None, codes, replicate}
use Rattle.path_text.specs.declared.errno.Errno.TheVariants.{NotFound, CrossRoot, NotDir, Invalid, TooLong, Loop}
use Rattle.path_text.specs.declared.flags.Flags.{Flags}
use Rattle.path_text.specs.Text.{parts_of}
use Rattle.tree_model.specs.declared.inode.Inode.{Inode}
use Rattle.tree_model.specs.declared.inode.Object.TheVariants.{Link}
use Rattle.tree_model.specs.BaseTree.{base_nodes, standing}
use Rattle.step_resolver.specs.Asked.{asked}
use Rattle.step_resolver.specs.Meaning.{Resolution, is_object, is_error, resolution, resolved}
use Rattle.step_resolver.specs.Trail.{Spot, Trail, quiet}

-- the directory /c, below which the paths are resolved
abbrev pub ROOT : ℕ
ROOT = 1

abbrev pub plain : Flags
plain = record { beneath = false; no_links = false }

abbrev pub only_beneath : Flags
only_beneath = record { beneath = true; no_links = false }

abbrev pub no_links_followed : Flags
no_links_followed = record { beneath = false; no_links = true }

abbrev pub both : Flags
both = record { beneath = true; no_links = true }

-- k and then the two digits of a number
abbrev pub numbered : ℕ → ℕ → List ℕ
numbered tens ones = 107 ∷ (48 + tens) ∷ (48 + ones) ∷ []

-- the names k01 to k41
abbrev pub tens_below : ℕ → ℕ → List (List ℕ) → List (List ℕ)
tens_below tens zero names = names
tens_below tens (suc ones) names = tens_below tens ones (numbered tens (suc ones) ∷ names)

abbrev pub chain_names : List (List ℕ)
chain_names = (tens_below 0 9 []) ++ (numbered 1 0 ∷ tens_below 1 9 []) ++ (numbered 2 0 ∷ tens_below 2 9 [])
    ++ (numbered 3 0 ∷ tens_below 3 9 []) ++ (numbered 4 0 ∷ numbered 4 1 ∷ [])

-- links in /c, each to the name before it
abbrev pub linked : List ℕ → List (List ℕ) → List Inode
linked target [] = []
linked target (name ∷ names) = standing (Link target) 1 name ∷ linked name names

-- with links k01 to a, k02 to k01, and so on to k41
abbrev pub chain_nodes : List Inode
chain_nodes = base_nodes ++ linked (codes "a") chain_names

abbrev pub from_c : List ℕ → Bool → Flags → Resolution
from_c text follow flags = resolution (resolved base_nodes ROOT text follow flags)

abbrev pub chained : List ℕ → Resolution
chained text = resolution (resolved chain_nodes ROOT text true plain)

-- names, and the texts that are none
pub record NamesAreWorked : Type 0 where
  pub names : from_c (codes "a/b/f") true plain ≡ is_object 4
  pub empty : from_c [] true plain ≡ is_error NotFound
  pub slash : from_c (codes "/") true plain ≡ is_object 1
  pub with_nul : from_c (97 ∷ 0 ∷ []) true plain ≡ is_error Invalid
  pub up_at_root : from_c (codes "/../../a") true plain ≡ is_object 2

pub record LinksAreWorked : Type 0 where
  pub absolute : from_c (codes "abs/f") true plain ≡ is_object 4
  pub up_after_link : from_c (codes "abs/..") true plain ≡ is_object 2
  pub relative : from_c (codes "up") true plain ≡ is_object 2
  pub looping : from_c (codes "loop") true plain ≡ is_error Loop
  pub not_followed : from_c (codes "loop") false plain ≡ is_object 7
  pub slash_follows : from_c (codes "loop/") false plain ≡ is_error Loop
  pub dangling : from_c (codes "dang") true plain ≡ is_error NotFound

-- forty links at most for one path, however they are strung
pub record BudgetIsWorked : Type 0 where
  pub forty : chained (codes "k40") ≡ is_object 2
  pub forty_one : chained (codes "k41") ≡ is_error Loop
  pub five_times_eight : chained (codes "k08/../k08/../k08/../k08/../k08") ≡ is_object 2
  pub and_one : chained (codes "k08/../k08/../k08/../k08/../k08/../k01") ≡ is_error Loop

-- slashes, and what is no directory
pub record SlashesAreWorked : Type 0 where
  pub file_slash : from_c (codes "a/b/f/") true plain ≡ is_error NotDir
  pub file_here : from_c (codes "a/b/f/.") true plain ≡ is_error NotDir
  pub file_up : from_c (codes "a/b/f/..") true plain ≡ is_error NotDir
  pub slashes : from_c (codes "a//b///f") true plain ≡ is_object 4

pub record LengthsAreWorked : Type 0 where
  pub missing_first : from_c (codes "none/" ++ replicate 300 120) true plain ≡ is_error NotFound
  pub too_long : from_c (codes "a/" ++ replicate 256 120) true plain ≡ is_error TooLong
  pub long_enough : from_c (codes "a/" ++ replicate 255 120) true plain ≡ is_error NotFound
  pub many_slashes : from_c (replicate 4095 47) true plain ≡ is_object 1
  pub too_many_slashes : from_c (replicate 4096 47) true plain ≡ is_error TooLong

pub record BeneathIsWorked : Type 0 where
  pub absolute : from_c (codes "/a") true only_beneath ≡ is_error CrossRoot
  pub up : from_c (codes "..") true only_beneath ≡ is_error CrossRoot
  pub link : from_c (codes "abs/f") true only_beneath ≡ is_error CrossRoot
  pub up_in_link : from_c (codes "up") true only_beneath ≡ is_error CrossRoot
  pub later : from_c (codes "a/../..") true only_beneath ≡ is_error CrossRoot
  pub names : from_c (codes "a/b/f") true only_beneath ≡ is_object 4

pub record NoLinksAreWorked : Type 0 where
  pub inner : from_c (codes "abs/f") true no_links_followed ≡ is_error Loop
  pub last : from_c (codes "up") true no_links_followed ≡ is_error Loop
  pub kept : from_c (codes "up") false no_links_followed ≡ is_object 6
  pub slash : from_c (codes "up/") false no_links_followed ≡ is_error Loop
  pub names : from_c (codes "/../a/b") true no_links_followed ≡ is_object 3
  pub both_link : from_c (codes "abs") true both ≡ is_error Loop
  pub both_absolute : from_c (codes "/a") true both ≡ is_error CrossRoot

abbrev pub here : ℕ → List (List ℕ) → ℕ → ℕ → Spot
here x names links moment = record { node = x; names = names; links = links; moment = moment }

-- a trail over `abs/f`: through the absolute link, then down
abbrev pub TrailIsWorked : Type 0
TrailIsWorked =
    Trail (quiet base_nodes ROOT plain) (asked true (parts_of (codes "abs/f")))
    (here 1 [] 40 0) (here 4 (codes "f" ∷ codes "b" ∷ codes "a" ∷ []) 39 4) None
