-- Which errors a text, a split, the rest of a path and a step that changes entries are never refused with: all of a
-- kind that has none of those in the step table.
use Rattle.std.specs.Prelude.{◌≡◌, ℕ, ◌==◌, ◌&&◌, List, [], ◌∷◌, Bool, true, false, not, if◌then◌else◌, nat_le, nat_lt, length, Option, Some, None, is_some, Result, Ok, Err, refl}
use Rattle.std.specs.List.{list_any}
use Rattle.std.proofs.Common.{sym, ap, ◌∙◌}
use Rattle.std.proofs.lemmas.Bool.{false≢true}
use Rattle.path_text.specs.declared.errno.Errno.{Errno}
use Rattle.path_text.specs.declared.errno.Errno.TheVariants.{NotFound, Raced, Exists, NotDir, IsDir, Invalid, TooMany, TooLong, NotEmpty}
use Rattle.path_text.specs.declared.name.TheConstants.{NAME_MAX}
use Rattle.path_text.specs.declared.part.Part.{Part}
use Rattle.path_text.specs.declared.part.Part.TheVariants.{Cur, Up, Named}
use Rattle.path_text.specs.declared.path.Rule.{Rule}
use Rattle.path_text.specs.declared.path.TheConstants.{TEXT_MAX}
use Rattle.path_text.specs.Reading.{Reading}
use Rattle.path_text.specs.Split.{split_of, split_at, last_part, parts_without_slash, refuses_slash}
use Rattle.path_text.specs.Name.{NUL}
use Rattle.path_text.specs.Text.{text_fault, is_empty}
use Rattle.tree_model.specs.declared.inode.Inode.{Inode}
use Rattle.tree_model.specs.declared.inode.Object.{Object}
use Rattle.tree_model.specs.declared.inode.Object.TheVariants as object
use Rattle.tree_model.specs.declared.step.Mode.{Mode}
use Rattle.tree_model.specs.declared.step.Mode.TheVariants.{Plain, NoReplace, Exchange}
use Rattle.tree_model.specs.declared.tree.TheConstants.{NUMBERS_MAX}
use Rattle.tree_model.specs.State.{child, is_dir, is_gone, is_within, has_entries}
use Rattle.tree_model.specs.Entries.{refuse_if, with_some, refuse_by, makes, makes_link, removes_file, removes_dir, replace_fault, renames_child, renames}
use Rattle.step_resolver.specs.Asked.{AskedPart}
use Rattle.step_resolver.specs.Asked as asked
use Rattle.step_resolver.specs.Meaning.{is_too_long}
use Rattle.bulk_ops.specs.MakeAllOrder.{rest_fault}

-- none of the table's errors is of that kind, but for EMFILE where a node is made
pub record AreOthers (kind : Errno → Bool) : Type 0 where
  pub missing : kind NotFound ≡ false
  pub there : kind Exists ≡ false
  pub no_dir : kind NotDir ≡ false
  pub dir : kind IsDir ≡ false
  pub invalid : kind Invalid ≡ false
  pub long : kind TooLong ≡ false
  pub full : kind NotEmpty ≡ false

module _ (kind : Errno → Bool) where
  abbrev pub fault_is : Option Errno → Bool
  fault_is None = false
  fault_is (Some error) = kind error

  abbrev pub failure_is : {A : Type 0} → Result A Errno → Bool
  failure_is (Ok value) = false
  failure_is (Err error) = kind error

  pub no_fault : (o : Option Errno) (error : Errno) → fault_is o ≡ false → kind error ≡ true → o ≡ Some error → ⊥
  no_fault o error none is e = false≢true (sym none ∙ (ap fault_is e ∙ is))

  pub no_failure : {A : Type 0} (r : Result A Errno) (error : Errno) → failure_is r ≡ false → kind error ≡ true
      → r ≡ Err error → ⊥
  no_failure r error none is e = false≢true (sym none ∙ (ap failure_is e ∙ is))

  -- ---- one refusal after another

  fault_if : (b : Bool) (error : Errno) (rest : Option Errno) → kind error ≡ false → fault_is rest ≡ false
      → fault_is (if b then Some error else rest) ≡ false
  fault_if true error rest e f = e
  fault_if false error rest e f = f

  refused_if : {A : Type 0} (b : Bool) (error : Errno) (rest : Result A Errno) → kind error ≡ false
      → failure_is rest ≡ false
      → failure_is (refuse_if b (Err error) rest) ≡ false
  refused_if true error rest e f = e
  refused_if false error rest e f = f

  refused_by : {A : Type 0} (o : Option Errno) (rest : Result A Errno) → fault_is o ≡ false → failure_is rest ≡ false
      → failure_is (refuse_by o rest) ≡ false
  refused_by None rest e f = f
  refused_by (Some error) rest e f = e

  refused_none : {A : Type 0} (o : Option ℕ) (error : Errno) (rest : ℕ → Result A Errno) → kind error ≡ false
      → ((x : ℕ) → failure_is (rest x) ≡ false) → failure_is (with_some o (Err error) rest) ≡ false
  refused_none None error rest e f = e
  refused_none (Some x) error rest e f = f x

  module _ (others : AreOthers kind) where
    -- ---- texts

    pub text_other : (text : List ℕ) → fault_is (text_fault text) ≡ false
    text_other text =
        fault_if (is_empty text) NotFound _ others.missing (fault_if
        (list_any (λ b. b == NUL) text) Invalid _ others.invalid
        (fault_if (nat_lt TEXT_MAX (length text)) TooLong None others.long refl))

    split_at_other : (path : Reading) (rule : Rule) (last : Option Part) → failure_is (split_at path rule last) ≡ false
    split_at_other path rule (Some (Named bytes)) =
        refused_if (path.slash && refuses_slash rule) NotDir _ others.no_dir
        (refused_if (nat_lt NAME_MAX (length bytes)) TooLong _ others.long refl)
    split_at_other path rule (Some Cur) = others.invalid
    split_at_other path rule (Some Up) = others.invalid
    split_at_other path rule None = others.invalid

    pub split_other : (path : Reading) (rule : Rule) → failure_is (split_of path rule) ≡ false
    split_other path rule = split_at_other path rule (last_part (parts_without_slash path))

    pub rest_other : (rest : List AskedPart) → fault_is (rest_fault rest) ≡ false
    rest_other [] = refl
    rest_other (asked.Cur ∷ rest) = rest_other rest
    rest_other (asked.Up ∷ rest) = others.missing
    rest_other (asked.Named follow n ∷ rest) = fault_if (is_too_long n) TooLong (rest_fault rest) others.long
        (rest_other rest)

    -- ---- the step table

    module _ (nodes : List Inode) where
      numbers : (b : Bool) (after : List Inode) → (b ≡ true → kind TooMany ≡ false)
          → failure_is (refuse_if b (Err TooMany) (Ok after)) ≡ false
      numbers true after full = full refl
      numbers false after full = refl

      -- numbers are wanting only where they are used up
      pub makes_other : (nat_le NUMBERS_MAX (length nodes) ≡ true → kind TooMany ≡ false)
          → (d : ℕ) (n : List ℕ) (what : Object)
          → failure_is (makes nodes d n what) ≡ false
      makes_other full d n what =
          refused_if (not (is_dir nodes d)) NotDir _ others.no_dir
          (refused_if (is_gone nodes d) NotFound _ others.missing
          (refused_if (is_some (child nodes d n)) Exists _ others.there
          (numbers (nat_le NUMBERS_MAX (length nodes)) _ full)))

      pub makes_link_other : (nat_le NUMBERS_MAX (length nodes) ≡ true → kind TooMany ≡ false)
          → (d : ℕ) (n text : List ℕ)
          → failure_is (makes_link nodes d n text) ≡ false
      makes_link_other full d n text =
          refused_by (text_fault text) (makes nodes d n (object.Link text)) (text_other text)
          (makes_other full d n (object.Link text))

      pub removes_file_other : (d : ℕ) (n : List ℕ) → failure_is (removes_file nodes d n) ≡ false
      removes_file_other d n =
          refused_if (not (is_dir nodes d)) NotDir _ others.no_dir
          (refused_none (child nodes d n) NotFound _ others.missing (λ c.
          refused_if (is_dir nodes c) IsDir _ others.dir refl))

      pub removes_dir_other : (d : ℕ) (n : List ℕ) → failure_is (removes_dir nodes d n) ≡ false
      removes_dir_other d n =
          refused_if (not (is_dir nodes d)) NotDir _ others.no_dir
          (refused_none (child nodes d n) NotFound _ others.missing (λ c.
          refused_if (not (is_dir nodes c)) NotDir _ others.no_dir
          (refused_if (has_entries nodes c) NotEmpty _ others.full refl)))

      replace_other : (c e : ℕ) → fault_is (replace_fault nodes c e) ≡ false
      replace_other c e =
          fault_if (is_dir nodes c && not (is_dir nodes e)) NotDir _ others.no_dir
          (fault_if (not (is_dir nodes c) && is_dir nodes e) IsDir _ others.dir
          (fault_if (is_dir nodes e && has_entries nodes e) NotEmpty None others.full refl))

      onto : (b : Bool) (rest : Result (List Inode) Errno) → failure_is rest ≡ false
          → failure_is (if b then Ok nodes else rest) ≡ false
      onto true rest e = refl
      onto false rest e = e

      renames_child_other : (c d : ℕ) (n : List ℕ) (f : ℕ) (m : List ℕ) (mode : Mode) (e : Option ℕ)
          → failure_is (renames_child nodes c d n f m mode e) ≡ false
      renames_child_other c d n f m Plain None = refused_if (is_within nodes c f) Invalid _ others.invalid refl
      renames_child_other c d n f m Plain (Some e) =
          onto (c == e) _ (refused_if (is_within nodes c f) Invalid _ others.invalid
          (refused_by (replace_fault nodes c e) _ (replace_other c e) refl))
      renames_child_other c d n f m NoReplace None = refused_if (is_within nodes c f) Invalid _ others.invalid refl
      renames_child_other c d n f m NoReplace (Some e) = others.there
      renames_child_other c d n f m Exchange None = others.missing
      renames_child_other c d n f m Exchange (Some e) =
          onto (c == e) _ (refused_if (is_within nodes c f) Invalid _ others.invalid
          (refused_if (is_within nodes e d) Invalid _ others.invalid refl))

      pub renames_other : (d : ℕ) (n : List ℕ) (f : ℕ) (m : List ℕ) (mode : Mode)
          → failure_is (renames nodes d n f m mode) ≡ false
      renames_other d n f m mode =
          refused_if (not (is_dir nodes d)) NotDir _ others.no_dir
          (refused_if (not (is_dir nodes f)) NotDir _ others.no_dir
          (refused_none (child nodes d n) NotFound _ others.missing (λ c.
          refused_if (is_gone nodes f) NotFound _ others.missing
          (renames_child_other c d n f m mode (child nodes f m)))))

-- ---- EAGAIN

abbrev pub raced : Errno → Bool
raced Raced = true
raced _ = false

pub raced_is_other : AreOthers raced
raced_is_other = record { missing = refl; there = refl; no_dir = refl; dir = refl; invalid = refl; long = refl; full = refl }
