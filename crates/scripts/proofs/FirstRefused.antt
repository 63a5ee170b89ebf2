-- The entry that is told is the first that is refused.
use Rattle.std.proofs.Common.{◌≡◌, ◌≢◌, ℕ, zero, suc, ◌+◌, ◌<◌, ◌≤◌, Bool, true, false, List, [], ◌∷◌, length, refl, sym, ap, ◌∙◌, subst, arith, eq-eqb, rules}
use Rattle.std.specs.Prelude.{◌==◌, if◌then◌else◌, nat_lt, slice_get, Option, Some, None, option_and_then, Result, Ok, Err}
use Rattle.serde_json.specs.Data.{Data, Items, no_items, item}
use Rattle.serde_json.specs.Find.{get_item}
use Rattle.path_text.specs.declared.errno.Errno.{Errno}
use Rattle.tree_model.specs.declared.inode.Inode.{Inode}
use Rattle.tree_model.specs.Entries.{refuse_if}
use Rattle.tree_list.specs.declared.build.BuildFault.{BuildFault}
use Rattle.tree_list.specs.declared.build.Entry.{Entry}
use Rattle.tree_list.specs.Build.{adds, adds_all, with_added, built, top_alone}
use Rattle.scripts.specs.declared.fault.Cause.{Cause}
use Rattle.scripts.specs.declared.fault.Cause.TheVariants.{Shape, Refused}
use Rattle.scripts.specs.declared.fault.ScriptFault.{ScriptFault}
use Rattle.scripts.specs.declared.fault.ScriptFault.TheVariants.{TooManyEntries, TreeEntry}
use Rattle.scripts.specs.declared.tree.TheConstants.{ENTRIES_MAX}
use Rattle.scripts.specs.Checks.{count_of}
use Rattle.scripts.specs.Tree.{entry_of, entry_then, entries_of, tree_built, tree_of}
use Rattle.scripts.specs.TreeLaws.{AreFirst, IsRefused, IsFirstRefused, FirstRefusedIsTold}
use Rattle.scripts.proofs.Entries.{unequal, is_within}

-- what comes of the values whose first is the j-th, over these nodes
abbrev from_here : Items → ℕ → List Inode → Result (List Inode) ScriptFault
from_here items j nodes = tree_built (adds_all j nodes (entries_of items)) (j + length (entries_of items)) (j + count_of items)

-- the k-th is the first of them that is refused
record IsRefusedFrom (items : Items) (j : ℕ) (nodes : List Inode) (k : ℕ) (cause : Cause) : Type 0 where
  at : ℕ
  place : k ≡ j + at
  within : at < count_of items
  entries : List Entry
  before : AreFirst items at entries
  last : List Inode
  made : adds_all j nodes entries ≡ Ok last
  refused : IsRefused last (option_and_then entry_of (get_item at items)) cause

-- ---- short of a whole

misshaped : (nodes : List Inode) (a b : ℕ) → a ≢ b → tree_built (Ok nodes) a b ≡ Err (TreeEntry a Shape)
misshaped nodes a b apart = ap (λ (t : Bool). if t then Ok nodes else Err (TreeEntry a Shape)) (unequal a b (a == b) refl apart)

whole : (nodes : List Inode) (a : ℕ) → tree_built (Ok nodes) a a ≡ Ok nodes
whole nodes a = ap (λ (t : Bool). if t then Ok nodes else Err (TreeEntry a Shape)) (eq-eqb a a refl)

one_on : (gave : Result (List Inode) BuildFault) (j n m : ℕ) → tree_built gave (j + suc n) (j + (1 + m)) ≡ tree_built gave (suc j + n) (suc j + m)
one_on gave j n m =
    let more : j + suc n ≡ suc j + n = omega arith in
    let all : j + (1 + m) ≡ suc j + m = omega arith in
    ap (λ (a : ℕ). tree_built gave a (j + (1 + m))) more ∙ ap (λ (b : ℕ). tree_built gave (suc j + n) b) all

-- ---- what is told is refused

none_first : (items : Items) → AreFirst items 0 []
none_first items = record { count = refl; said = λ i entry q. cc (q) }

at_once : (d : Data) (ds : Items) (j : ℕ) (nodes : List Inode) (k : ℕ) (cause : Cause) (o : Option Entry) → entry_of d ≡ o → k ≡ j + 0
    → IsRefused nodes o cause → IsRefusedFrom (item d ds) j nodes k cause
at_once d ds j nodes k cause o is place refused = record {
  at = 0;
  place = place;
  within = omega arith;
  entries = [];
  before = none_first (item d ds);
  last = nodes;
  made = refl;
  refused = subst (λ (p : Option Entry). IsRefused nodes p cause) (sym is) refused;
}

after_one : (d : Data) (ds : Items) (j : ℕ) (nodes added : List Inode) (k : ℕ) (cause : Cause) (entry : Entry) → entry_of d ≡ Some entry → adds nodes entry ≡ Ok added
    → IsRefusedFrom ds (suc j) added k cause → IsRefusedFrom (item d ds) j nodes k cause
after_one d ds j nodes added k cause entry is made rest = record {
  at = suc rest.at;
  place = omega (arith, rest.place);
  within = omega (arith, rest.within);
  entries = entry ∷ rest.entries;
  before = record { count = ap suc rest.before.count; said = said };
  last = rest.last;
  made = ap (λ (r : Result (List Inode) Errno). with_added r j (λ a. adds_all (suc j) a rest.entries)) made ∙ rest.made;
  refused = rest.refused;
}
  where
    said : (i : ℕ) (other : Entry) → slice_get (entry ∷ rest.entries) i ≡ Some other → option_and_then entry_of (get_item i (item d ds)) ≡ Some other
    said zero other q = is ∙ q
    said (suc i) other q = rest.before.said i other q

told_refused : (items : Items) (j : ℕ) (nodes : List Inode) (k : ℕ) (cause : Cause) → from_here items j nodes ≡ Err (TreeEntry k cause) → IsRefusedFrom items j nodes k cause
told_refused no_items j nodes k cause e = let all = whole nodes (j + 0) in cc (e, all)
told_refused (item d ds) j nodes k cause e = by_entry (entry_of d) refl (λ added q. told_refused ds (suc j) added k cause q) e
  where
    by_added : (entry : Entry) → entry_of d ≡ Some entry → (r : Result (List Inode) Errno) → adds nodes entry ≡ r
        → ((added : List Inode) → from_here ds (suc j) added ≡ Err (TreeEntry k cause) → IsRefusedFrom ds (suc j) added k cause)
        → tree_built (with_added r j (λ added. adds_all (suc j) added (entries_of ds))) (j + suc (length (entries_of ds))) (j + (1 + count_of ds)) ≡ Err (TreeEntry k cause)
        → IsRefusedFrom (item d ds) j nodes k cause
    by_added entry is (Err error) made further q =
        let place : j ≡ k = cc (q) in
        let why : Refused error ≡ cause = cc (q) in
        at_once d ds j nodes k cause (Some entry) is (omega (arith, place)) (subst (λ (c : Cause). IsRefused nodes (Some entry) c) why made)
    by_added entry is (Ok added) made further q =
        after_one d ds j nodes added k cause entry is made
        (further added (sym (one_on (adds_all (suc j) added (entries_of ds)) j (length (entries_of ds)) (count_of ds)) ∙ q))

    by_entry : (o : Option Entry) → entry_of d ≡ o
        → ((added : List Inode) → from_here ds (suc j) added ≡ Err (TreeEntry k cause) → IsRefusedFrom ds (suc j) added k cause)
        → tree_built (adds_all j nodes (entry_then o (entries_of ds))) (j + length (entry_then o (entries_of ds))) (j + (1 + count_of ds)) ≡ Err (TreeEntry k cause)
        → IsRefusedFrom (item d ds) j nodes k cause
    by_entry None is further q =
        let told = misshaped nodes (j + 0) (j + (1 + count_of ds)) (λ same. omega (arith, same)) in
        let place : j + 0 ≡ k = cc (told, q) in
        let why : Shape ≡ cause = cc (told, q) in
        at_once d ds j nodes k cause None is (sym place) (subst (λ (c : Cause). IsRefused nodes None c) why tt)
    by_entry (Some entry) is further q = by_added entry is (adds nodes entry) refl further q

-- ---- what is refused is told

refused_here : (ds : Items) (j : ℕ) (nodes : List Inode) (o : Option Entry) (cause : Cause) → IsRefused nodes o cause
    → tree_built (adds_all j nodes (entry_then o (entries_of ds))) (j + length (entry_then o (entries_of ds))) (j + (1 + count_of ds)) ≡ Err (TreeEntry (j + 0) cause)
refused_here ds j nodes None Shape refused = misshaped nodes (j + 0) (j + (1 + count_of ds)) (λ same. omega (arith, same))
refused_here ds j nodes None (Refused error) refused = absurd refused
refused_here ds j nodes (Some entry) Shape refused = absurd refused
refused_here ds j nodes (Some entry) (Refused error) refused =
    let here : j ≡ j + 0 = omega arith in
    ap (λ (r : Result (List Inode) Errno). tree_built (with_added r j (λ added. adds_all (suc j) added (entries_of ds))) (j + suc (length (entries_of ds))) (j + (1 + count_of ds))) refused
    ∙ ap (λ (n : ℕ). Err (TreeEntry n (Refused error))) here

-- the entries before it are none, or one and others
by_entries : (d : Data) (ds : Items) (j : ℕ) (nodes : List Inode) (k : ℕ) (cause : Cause) (at : ℕ) (entries : List Entry) (last : List Inode) → k ≡ j + at → at < count_of (item d ds)
    → AreFirst (item d ds) at entries → adds_all j nodes entries ≡ Ok last → IsRefused last (option_and_then entry_of (get_item at (item d ds))) cause
    → ((added : List Inode) → IsRefusedFrom ds (suc j) added k cause → from_here ds (suc j) added ≡ Err (TreeEntry k cause))
    → from_here (item d ds) j nodes ≡ Err (TreeEntry k cause)
by_entries d ds j nodes k cause zero [] last place within before made refused further =
    let same : last ≡ nodes = cc (made) in
    refused_here ds j nodes (entry_of d) cause (subst (λ (at_last : List Inode). IsRefused at_last (entry_of d) cause) same refused)
    ∙ ap (λ (n : ℕ). Err (TreeEntry n cause)) (sym place)
by_entries d ds j nodes k cause (suc at) [] last place within before made refused further = let none = before.count in cc (none)
by_entries d ds j nodes k cause zero (entry ∷ entries) last place within before made refused further = let one = before.count in cc (one)
by_entries d ds j nodes k cause (suc at) (entry ∷ entries) last place within before made refused further =
    by_added (adds nodes entry) refl made
  where
    is : entry_of d ≡ Some entry
    is = before.said 0 entry refl

    rest : (added : List Inode) → adds_all (suc j) added entries ≡ Ok last → IsRefusedFrom ds (suc j) added k cause
    rest added on = record {
      at = at;
      place = omega (arith, place);
      within = omega (arith, within);
      entries = entries;
      before = record { count = let more = before.count in omega (arith, more); said = λ i other q. before.said (suc i) other q };
      last = last;
      made = on;
      refused = refused;
    }

    by_added : (r : Result (List Inode) Errno) → adds nodes entry ≡ r → with_added r j (λ added. adds_all (suc j) added entries) ≡ Ok last
        → from_here (item d ds) j nodes ≡ Err (TreeEntry k cause)
    by_added (Err error) e on = cc (on)
    by_added (Ok added) e on =
        ap (λ (o : Option Entry). tree_built (adds_all j nodes (entry_then o (entries_of ds))) (j + length (entry_then o (entries_of ds))) (j + (1 + count_of ds))) is
        ∙ ap (λ (r : Result (List Inode) Errno). tree_built (with_added r j (λ a. adds_all (suc j) a (entries_of ds))) (j + suc (length (entries_of ds))) (j + (1 + count_of ds))) e
        ∙ one_on (adds_all (suc j) added (entries_of ds)) j (length (entries_of ds)) (count_of ds)
        ∙ further added (rest added on)

refused_told : (items : Items) (j : ℕ) (nodes : List Inode) (k : ℕ) (cause : Cause) → IsRefusedFrom items j nodes k cause → from_here items j nodes ≡ Err (TreeEntry k cause)
refused_told no_items j nodes k cause r = let within = r.within in absurd (omega (arith, within))
refused_told (item d ds) j nodes k cause r =
    by_entries d ds j nodes k cause r.at r.entries r.last r.place r.within r.before r.made r.refused (λ added q. refused_told ds (suc j) added k cause q)

-- ---- the whole

at_start : (items : Items) → tree_built (built (entries_of items)) (length (entries_of items)) (count_of items) ≡ from_here items 0 top_alone
at_start items =
    let shaped : length (entries_of items) ≡ 0 + length (entries_of items) = omega arith in
    let all : count_of items ≡ 0 + count_of items = omega arith in
    ap (λ (a : ℕ). tree_built (built (entries_of items)) a (count_of items)) shaped
    ∙ ap (λ (b : ℕ). tree_built (built (entries_of items)) (0 + length (entries_of items)) b) all

few_enough : (a b : ℕ) (t : Bool) → nat_lt a b ≡ t → t ≡ false → b ≤ a
few_enough a b true e f = cc (f)
few_enough a b false e f = search rules

first_is_told : (items : Items) (k : ℕ) (cause : Cause) → tree_of items ≡ Err (TreeEntry k cause) → IsFirstRefused items k cause
first_is_told items k cause e = by (nat_lt ENTRIES_MAX (count_of items)) refl e
  where
    by : (t : Bool) → nat_lt ENTRIES_MAX (count_of items) ≡ t
        → refuse_if t (Err TooManyEntries) (tree_built (built (entries_of items)) (length (entries_of items)) (count_of items)) ≡ Err (TreeEntry k cause)
        → IsFirstRefused items k cause
    by true few q = cc (q)
    by false few q =
        let r = told_refused items 0 top_alone k cause (sym (at_start items) ∙ q) in
        let here : r.at ≡ k = omega (arith, r.place) in
        record {
          few = few_enough ENTRIES_MAX (count_of items) false few refl;
          within = omega (arith, r.within, here);
          entries = r.entries;
          before = subst (λ (n : ℕ). AreFirst items n r.entries) here r.before;
          nodes = r.last;
          built = r.made;
          refused = subst (λ (n : ℕ). IsRefused r.last (option_and_then entry_of (get_item n items)) cause) here r.refused;
        }

told_is_first : (items : Items) (k : ℕ) (cause : Cause) → IsFirstRefused items k cause → tree_of items ≡ Err (TreeEntry k cause)
told_is_first items k cause r =
    ap (λ (t : Bool). refuse_if t (Err TooManyEntries) (tree_built (built (entries_of items)) (length (entries_of items)) (count_of items)))
    (is_within ENTRIES_MAX (count_of items) (nat_lt ENTRIES_MAX (count_of items)) refl r.few)
    ∙ at_start items
    ∙ refused_told items 0 top_alone k cause (record {
      at = k;
      place = omega arith;
      within = r.within;
      entries = r.entries;
      before = r.before;
      last = r.nodes;
      made = r.built;
      refused = r.refused;
    })

pub first_refused_is_told : FirstRefusedIsTold
first_refused_is_told items k cause = (first_is_told items k cause, told_is_first items k cause)
