-- An entry is added in the directory to which its names but the last lead, and entries one after another.
use Rattle.std.proofs.Common.{◌≡◌, ℕ, zero, suc, take, ◌+◌, ◌-◌, ◌<◌, List, [], ◌∷◌, ◌++◌, length, get_or, drop, Option, Some, None, Result, Ok, Err, refl, sym, ap, ◌∙◌, arith}
use Rattle.std.specs.Prelude.{slice_get}
use Rattle.std.proofs.lemmas.List.{drop_more, take_more}
use Rattle.std.proofs.lemmas.Option.{slice_get-get_or, same_Some}
use Rattle.path_text.specs.declared.errno.Errno.{Errno}
use Rattle.path_text.specs.declared.errno.Errno.TheVariants.{NotFound}
use Rattle.tree_model.specs.declared.inode.Inode.{Inode}
use Rattle.tree_model.specs.declared.inode.Object.{Object}
use Rattle.tree_model.specs.State.{TOP, child}
use Rattle.tree_model.specs.Entries.{with_some, makes}
use Rattle.tree_list.specs.Build.{new_fault, object_of, node_at, way, makes_at, adds, adds_all, with_added}
use Rattle.tree_list.specs.declared.build.Entry.{Entry}
use Rattle.tree_list.specs.declared.build.BuildFault.{BuildFault}

-- the same below the node of the next name
found_below : (o : Option ℕ) (g : ℕ → Option ℕ) (f h : ℕ → Result (List Inode) Errno) → ((c : ℕ) → h c ≡ with_some (g c) (Err NotFound) f)
    → with_some o (Err NotFound) h ≡ with_some (with_some o None g) (Err NotFound) f
found_below None g f h e = refl
found_below (Some c) g f h e = e c

-- a node is made below the node to which the names but the last lead
makes_at-in : (nodes : List Inode) (x : ℕ) (names : List (List ℕ)) (last : ℕ) (n : List ℕ) (what : Object) → length names ≡ last + 1 → slice_get names last ≡ Some n
    → makes_at nodes x names what ≡ with_some (node_at nodes x (take last names)) (Err NotFound) (λ d. makes nodes d n what)
makes_at-in nodes x [] last n what count is = absurd (omega arith)
makes_at-in nodes x (m ∷ []) zero n what count is =
    let same : m ≡ n = cc (is) in
    ap (λ name. makes nodes x name what) same
makes_at-in nodes x (m ∷ []) (suc last) n what count is = absurd (omega arith)
makes_at-in nodes x (m ∷ k ∷ names) zero n what count is = absurd (omega arith)
makes_at-in nodes x (m ∷ k ∷ names) (suc last) n what count is =
    found_below (child nodes x m) (λ c. node_at nodes c (take last (k ∷ names))) (λ d. makes nodes d n what) (λ c. makes_at nodes c (k ∷ names) what)
    (λ c. makes_at-in nodes c (k ∷ names) last n what (omega arith) is)

module _ (nodes : List Inode) (entry : Entry) (last : ℕ) (n : List ℕ) (fits : new_fault entry.what ≡ None) (count : length entry.at ≡ last + 1) (is : slice_get entry.at last ≡ Some n) where
  adds-in : adds nodes entry ≡ with_some (node_at nodes TOP (way entry.at)) (Err NotFound) (λ d. makes nodes d n (object_of entry.what))
  adds-in =
      let whole : length entry.at - 1 ≡ last = omega arith in
      rw (fits, whole) (makes_at-in nodes TOP entry.at last n (object_of entry.what) count is)

  pub adds_found : (parent : ℕ) → node_at nodes TOP (way entry.at) ≡ Some parent → adds nodes entry ≡ makes nodes parent n (object_of entry.what)
  adds_found parent found = adds-in ∙ ap (λ o. with_some o (Err NotFound) (λ d. makes nodes d n (object_of entry.what))) found

  adds_in_none : node_at nodes TOP (way entry.at) ≡ None → adds nodes entry ≡ Err NotFound
  adds_in_none none = adds-in ∙ ap (λ o. with_some o (Err NotFound) (λ d. makes nodes d n (object_of entry.what))) none

pub adds_not_found : (nodes : List Inode) (entry : Entry) (last : ℕ) → new_fault entry.what ≡ None → length entry.at ≡ last + 1
    → node_at nodes TOP (way entry.at) ≡ None → adds nodes entry ≡ Err NotFound
adds_not_found nodes entry last fits count none =
    adds_in_none nodes entry last (get_or entry.at last []) fits count (slice_get-get_or entry.at last [] (omega arith)) none

-- one entry on
pub adds_all_more : (i : ℕ) (nodes added : List Inode) (entries : List Entry) (entry : Entry) → i < length entries → entry ≡ get_or entries i entry → adds nodes entry ≡ Ok added → adds_all i nodes (drop i entries) ≡ adds_all (i + 1) added (drop (i + 1) entries)
adds_all_more i nodes added entries entry more is made =
    let next : suc i ≡ i + 1 = omega arith in
    rw (drop_more entries i entry more, ← is, made, next) refl

pub adds_all_refused : (i : ℕ) (nodes : List Inode) (entries : List Entry) (entry : Entry) (cause : Errno) → i < length entries → entry ≡ get_or entries i entry → adds nodes entry ≡ Err cause → adds_all i nodes (drop i entries) ≡ Err (record { at = i; cause = cause })
adds_all_refused i nodes entries entry cause more is refused = rw (drop_more entries i entry more, ← is, refused) refl

with_added_push : (r : Result (List Inode) Errno) (k : ℕ) (first whole : List Inode → Result (List Inode) BuildFault) (mid last : List Inode) → ((a : List Inode) → first a ≡ Ok mid → whole a ≡ Ok last) → with_added r k first ≡ Ok mid → with_added r k whole ≡ Ok last
with_added_push (Ok a) k first whole mid last on all = on a all
with_added_push (Err e) k first whole mid last on all = cc

adds_all-push : (k : ℕ) (nodes mid last : List Inode) (entries : List Entry) (entry : Entry) → adds mid entry ≡ Ok last → adds_all k nodes entries ≡ Ok mid → adds_all k nodes (entries ++ entry ∷ []) ≡ Ok last
adds_all-push k nodes mid last [] entry made all =
    let same : nodes ≡ mid = cc in rw (same, made) refl
adds_all-push k nodes mid last (first ∷ entries) entry made all =
    with_added_push (adds nodes first) k _ _ mid last (λ a rest. adds_all-push (suc k) a mid last entries entry made rest) all

pub adds_all_take_more : (k i : ℕ) (nodes mid last : List Inode) (entries : List Entry) (entry : Entry) → i < length entries → entry ≡ get_or entries i entry → adds mid entry ≡ Ok last → adds_all k nodes (take i entries) ≡ Ok mid → adds_all k nodes (take (i + 1) entries) ≡ Ok last
adds_all_take_more k i nodes mid last entries entry more is made all =
    rw (take_more entries i entry more, ← is) (adds_all-push k nodes mid last (take i entries) entry made all)

-- the entry before the next
pub entry_before : (entries : List Entry) (i : ℕ) (entry before : Entry) → i < length entries → entry ≡ get_or entries i entry → slice_get entries (i + 1 - 1) ≡ Some before → entry ≡ before
entry_before entries i entry before more is there =
    let here : i + 1 - 1 ≡ i = omega arith in
    is ∙ same_Some (get_or entries i entry) before (sym (slice_get-get_or entries i entry more) ∙ (rw here at there))
