-- A change of the entries of a tree leaves a tree, with all nodes that there were.
use Rattle.std.proofs.Common.{suc, ◌≡◌, ◌≢◌, ⊎_elim, ℕ, ◌<◌, ◌≤◌, Bool, true, false, not, nat_le, ◌==◌, ◌&&◌, cond, List, [], ◌∷◌, ◌++◌, length, Option, Some, None, is_some, Result, Ok, Err, refl, sym, ap, ◌∙◌, subst, length-append, arith}
use Rattle.std.proofs.lemmas.Bool.{eqb-false, leb-false, not-false, and_left, and_right, and_cases, true≢false}
use Rattle.std.proofs.lemmas.Option.{none-some}
use Rattle.path_text.specs.declared.errno.Errno.{Errno}
use Rattle.path_text.specs.declared.errno.Errno.TheVariants.{NotFound, Exists, NotDir, IsDir, Invalid, TooMany, NotEmpty}
use Rattle.path_text.specs.Text.{text_fault}
use Rattle.tree_model.specs.declared.inode.Inode.{Inode}
use Rattle.tree_model.specs.declared.inode.Object.{Object}
use Rattle.tree_model.specs.declared.inode.Object.TheVariants.{Dir, File, Link}
use Rattle.tree_model.specs.declared.inode.Place.{Place}
use Rattle.tree_model.specs.declared.step.Mode.{Mode}
use Rattle.tree_model.specs.declared.step.Mode.TheVariants.{Plain, NoReplace, Exchange}
use Rattle.tree_model.specs.declared.tree.TheConstants.{NUMBERS_MAX}
use Rattle.tree_model.specs.State.{TOP, object_at, place_at, Stands, child, is_directory, is_dir, is_gone, is_within, has_entries, put_at}
use Rattle.tree_model.specs.Entries.{makes, makes_link, removes_file, removes_dir, moves, replace_fault, replaces, exchanges, renames_child, renames}
use Rattle.tree_model.specs.Trees.{IsTree, HasPathText}
use Rattle.tree_model.proofs.Refusals.{refuse_if-both, with_some-both, refuse_by-both}
use Rattle.tree_model.proofs.Places.{length-put_at, object_at-put_at, object_at-append, place_at-within, place_at-put_at, place_at-put_other}
use Rattle.tree_model.proofs.Children.{entry, place_at-child, place_at-no_child, no_entries}
use Rattle.tree_model.proofs.Standing.{Under, not_under, not_under_own_child}
use Rattle.tree_model.proofs.Hanging.{MayHang, IsTree-taken_out, IsTree-rehung, IsTree-made, Rooted-not_gone, Rooted-parent, stood}

-- ---- all nodes stay

-- no node is lost, and each stays what it is
pub record Grows (old new : List Inode) : Type 0 where
  pub longer : length old ≤ length new
  pub objects : (x : ℕ) (object : Object) → object_at old x ≡ Some object → object_at new x ≡ Some object

pub Grows-refl : (nodes : List Inode) → Grows nodes nodes
Grows-refl nodes = record { longer = omega arith; objects = λ x object e. e }

pub Grows-trans : {old mid new : List Inode} → Grows old mid → Grows mid new → Grows old new
Grows-trans g h = record { longer = let a = g.longer in let b = h.longer in omega arith; objects = λ x object e. h.objects x object (g.objects x object e) }

pub Grows-put_at : (nodes : List Inode) (c : ℕ) (place : Option Place) → Grows nodes (put_at nodes c place)
Grows-put_at nodes c place =
    record {
      longer = omega (arith, length-put_at nodes c place);
      objects = λ x object e. object_at-put_at nodes c place x ∙ e;
    }

pub Grows-append : (nodes more : List Inode) → Grows nodes (nodes ++ more)
Grows-append nodes more = record { longer = omega (arith, length-append nodes more); objects = λ x object e. object_at-append nodes more x object e }

-- ---- what is so where a change isn't refused

-- what the changes of the entries make of the nodes, and what they have seen before
pub data Changed (nodes : List Inode) : List Inode → Type 0 where
  kept : Changed nodes nodes
  made : (d : ℕ) (n : List ℕ) (object : Object)
      → is_dir nodes d ≡ true → is_gone nodes d ≡ false → child nodes d n ≡ None → nat_le NUMBERS_MAX (length nodes) ≡ false → HasPathText object
      → Changed nodes (nodes ++ record { object = object; place = Some (entry d n) } ∷ [])
  removed : (d : ℕ) (n : List ℕ) (c : ℕ)
      → child nodes d n ≡ Some c → (is_dir nodes c && has_entries nodes c) ≡ false
      → Changed nodes (put_at nodes c None)
  moved : (d : ℕ) (n : List ℕ) (f : ℕ) (m : List ℕ) (c : ℕ)
      → is_dir nodes f ≡ true → is_gone nodes f ≡ false → child nodes d n ≡ Some c → child nodes f m ≡ None → is_within nodes c f ≡ false
      → Changed nodes (put_at nodes c (Some (entry f m)))
  replaced : (d : ℕ) (n : List ℕ) (f : ℕ) (m : List ℕ) (c e : ℕ)
      → is_dir nodes f ≡ true → is_gone nodes f ≡ false → child nodes d n ≡ Some c → child nodes f m ≡ Some e → c ≢ e → is_within nodes c f ≡ false
      → (is_dir nodes e && has_entries nodes e) ≡ false
      → Changed nodes (put_at (put_at nodes e None) c (Some (entry f m)))
  exchanged : (d : ℕ) (n : List ℕ) (f : ℕ) (m : List ℕ) (c e : ℕ)
      → is_dir nodes d ≡ true → is_dir nodes f ≡ true → child nodes d n ≡ Some c → child nodes f m ≡ Some e → c ≢ e
      → is_within nodes c f ≡ false → is_within nodes e d ≡ false
      → Changed nodes (put_at (put_at nodes c (Some (entry f m))) e (Some (entry d n)))

-- the nodes of a change, unless it was refused
abbrev pub IfDone : (List Inode → Type 0) → Result (List Inode) Errno → Type 0
IfDone P (Ok nodes) = P nodes
IfDone P (Err error) = Unit {0}

none_from_test : (o : Option ℕ) → is_some o ≡ false → o ≡ None
none_from_test None e = refl
none_from_test (Some x) e = absurd (true≢false e)

HasPathText-Dir : HasPathText Dir
HasPathText-Dir text e = cc (e)

HasPathText-File : HasPathText File
HasPathText-File text e = cc (e)

HasPathText-Link : (text : List ℕ) → text_fault text ≡ None → HasPathText (Link text)
HasPathText-Link text fine other e = let same : text ≡ other = cc (e) in subst (λ k. text_fault k ≡ None) same fine

module _ (nodes : List Inode) where
  makes-changed : (d : ℕ) (n : List ℕ) (object : Object) → HasPathText object → IfDone (Changed nodes) (makes nodes d n object)
  makes-changed d n object fits = by (IfDone (Changed nodes)) (λ error. tt) (λ e1 e2 e3 e4. made d n object e1 e2 e3 e4 fits)
    where
      by : (P : Result (List Inode) Errno → Type 0) → ((error : Errno) → P (Err error))
          → (is_dir nodes d ≡ true → is_gone nodes d ≡ false → child nodes d n ≡ None → nat_le NUMBERS_MAX (length nodes) ≡ false → P (Ok (nodes ++ record { object = object; place = Some (entry d n) } ∷ [])))
          → P (makes nodes d n object)
      by P refusal p =
          refuse_if-both P (not (is_dir nodes d)) (Err NotDir) _ (refusal NotDir) (λ e1.
          refuse_if-both P (is_gone nodes d) (Err NotFound) _ (refusal NotFound) (λ e2.
          refuse_if-both P (is_some (child nodes d n)) (Err Exists) _ (refusal Exists) (λ e3.
          refuse_if-both P (nat_le NUMBERS_MAX (length nodes)) (Err TooMany) _ (refusal TooMany) (λ e4.
          p (not-false (is_dir nodes d) e1) e2 (none_from_test (child nodes d n) e3) e4))))

  pub MakeDir-changed : (d : ℕ) (n : List ℕ) → IfDone (Changed nodes) (makes nodes d n Dir)
  MakeDir-changed d n = makes-changed d n Dir HasPathText-Dir

  pub MakeFile-changed : (d : ℕ) (n : List ℕ) → IfDone (Changed nodes) (makes nodes d n File)
  MakeFile-changed d n = makes-changed d n File HasPathText-File

  pub MakeLink-changed : (d : ℕ) (n text : List ℕ) → IfDone (Changed nodes) (makes_link nodes d n text)
  MakeLink-changed d n text =
      refuse_by-both (IfDone (Changed nodes)) (text_fault text) (makes nodes d n (Link text)) (λ error. tt)
      (λ fine. makes-changed d n (Link text) (HasPathText-Link text fine))

  pub RemoveFile-changed : (d : ℕ) (n : List ℕ) → IfDone (Changed nodes) (removes_file nodes d n)
  RemoveFile-changed d n = by (IfDone (Changed nodes)) (λ error. tt) (λ c e1 e2. removed d n c e1 e2)
    where
      by : (P : Result (List Inode) Errno → Type 0) → ((error : Errno) → P (Err error))
          → ((c : ℕ) → child nodes d n ≡ Some c → (is_dir nodes c && has_entries nodes c) ≡ false → P (Ok (put_at nodes c None)))
          → P (removes_file nodes d n)
      by P refusal p =
          refuse_if-both P (not (is_dir nodes d)) (Err NotDir) _ (refusal NotDir) (λ e1.
          with_some-both P (child nodes d n) (Err NotFound) _ (refusal NotFound) (λ c e2.
          refuse_if-both P (is_dir nodes c) (Err IsDir) _ (refusal IsDir) (λ e3.
          p c e2 (and_left (is_dir nodes c) (has_entries nodes c) e3))))

  pub RemoveDir-changed : (d : ℕ) (n : List ℕ) → IfDone (Changed nodes) (removes_dir nodes d n)
  RemoveDir-changed d n = by (IfDone (Changed nodes)) (λ error. tt) (λ c e1 e2. removed d n c e1 e2)
    where
      by : (P : Result (List Inode) Errno → Type 0) → ((error : Errno) → P (Err error))
          → ((c : ℕ) → child nodes d n ≡ Some c → (is_dir nodes c && has_entries nodes c) ≡ false → P (Ok (put_at nodes c None)))
          → P (removes_dir nodes d n)
      by P refusal p =
          refuse_if-both P (not (is_dir nodes d)) (Err NotDir) _ (refusal NotDir) (λ e1.
          with_some-both P (child nodes d n) (Err NotFound) _ (refusal NotFound) (λ c e2.
          refuse_if-both P (not (is_dir nodes c)) (Err NotDir) _ (refusal NotDir) (λ e3.
          refuse_if-both P (has_entries nodes c) (Err NotEmpty) _ (refusal NotEmpty) (λ e4.
          p c e2 (and_right (is_dir nodes c) (has_entries nodes c) e4)))))

-- an empty directory, or none, where nothing speaks against the replacement
pub replace_fault-none : (nodes : List Inode) (c e : ℕ) → replace_fault nodes c e ≡ None → (is_dir nodes e && has_entries nodes e) ≡ false
replace_fault-none nodes c e q = by (is_dir nodes c && not (is_dir nodes e)) (not (is_dir nodes c) && is_dir nodes e) (is_dir nodes e && has_entries nodes e) q
  where
    by : (s t u : Bool) → cond s (Some NotDir) (cond t (Some IsDir) (cond u (Some NotEmpty) None)) ≡ None → u ≡ false
    by true t u q = absurd (none-some NotDir (sym q))
    by false true u q = absurd (none-some IsDir (sym q))
    by false false true q = absurd (none-some NotEmpty (sym q))
    by false false false q = refl

module _ (nodes : List Inode) (d : ℕ) (n : List ℕ) (f : ℕ) (m : List ℕ) where
  moves-changed : (c : ℕ) → is_dir nodes f ≡ true → is_gone nodes f ≡ false → child nodes d n ≡ Some c → child nodes f m ≡ None
      → IfDone (Changed nodes) (moves nodes c f m)
  moves-changed c e1 e2 e3 e4 =
      refuse_if-both (IfDone (Changed nodes)) (is_within nodes c f) (Err Invalid) (Ok (put_at nodes c (Some (entry f m)))) tt
      (λ e5. moved d n f m c e1 e2 e3 e4 e5)

  replaces-changed : (c e : ℕ) → is_dir nodes f ≡ true → is_gone nodes f ≡ false → child nodes d n ≡ Some c → child nodes f m ≡ Some e → c ≢ e
      → IfDone (Changed nodes) (replaces nodes c f m e)
  replaces-changed c e e1 e2 e3 e4 e5 = by (IfDone (Changed nodes)) (λ error. tt) (λ e6 e7. replaced d n f m c e e1 e2 e3 e4 e5 e6 e7)
    where
      by : (P : Result (List Inode) Errno → Type 0) → ((error : Errno) → P (Err error))
          → (is_within nodes c f ≡ false → (is_dir nodes e && has_entries nodes e) ≡ false → P (Ok (put_at (put_at nodes e None) c (Some (entry f m)))))
          → P (replaces nodes c f m e)
      by P refusal p =
          refuse_if-both P (is_within nodes c f) (Err Invalid) _ (refusal Invalid) (λ e6.
          refuse_by-both P (replace_fault nodes c e) _ refusal (λ e7.
          p e6 (replace_fault-none nodes c e e7)))

  exchanges-changed : (c e : ℕ) → is_dir nodes d ≡ true → is_dir nodes f ≡ true → child nodes d n ≡ Some c → child nodes f m ≡ Some e → c ≢ e
      → IfDone (Changed nodes) (exchanges nodes c d n e f m)
  exchanges-changed c e e1 e2 e3 e4 e5 = by (IfDone (Changed nodes)) (λ error. tt) (λ e6 e7. exchanged d n f m c e e1 e2 e3 e4 e5 e6 e7)
    where
      by : (P : Result (List Inode) Errno → Type 0) → ((error : Errno) → P (Err error))
          → (is_within nodes c f ≡ false → is_within nodes e d ≡ false → P (Ok (put_at (put_at nodes c (Some (entry f m))) e (Some (entry d n)))))
          → P (exchanges nodes c d n e f m)
      by P refusal p =
          refuse_if-both P (is_within nodes c f) (Err Invalid) _ (refusal Invalid) (λ e6.
          refuse_if-both P (is_within nodes e d) (Err Invalid) _ (refusal Invalid) (λ e7.
          p e6 e7))

  -- onto itself nothing changes
  or_kept : (c e : ℕ) (otherwise : Result (List Inode) Errno) → (c ≢ e → IfDone (Changed nodes) otherwise) → (b : Bool) → (c == e) ≡ b
      → IfDone (Changed nodes) (cond b (Ok nodes) otherwise)
  or_kept c e otherwise p true q = kept
  or_kept c e otherwise p false q = p (eqb-false c e q)

  renames_child-changed : (c : ℕ) → is_dir nodes d ≡ true → is_dir nodes f ≡ true → is_gone nodes f ≡ false → child nodes d n ≡ Some c
      → (mode : Mode) (o : Option ℕ) → child nodes f m ≡ o → IfDone (Changed nodes) (renames_child nodes c d n f m mode o)
  renames_child-changed c e1 e2 e3 e4 Plain None q = moves-changed c e2 e3 e4 q
  renames_child-changed c e1 e2 e3 e4 Plain (Some e) q = or_kept c e (replaces nodes c f m e) (λ ne. replaces-changed c e e2 e3 e4 q ne) (c == e) refl
  renames_child-changed c e1 e2 e3 e4 NoReplace None q = moves-changed c e2 e3 e4 q
  renames_child-changed c e1 e2 e3 e4 NoReplace (Some e) q = tt
  renames_child-changed c e1 e2 e3 e4 Exchange None q = tt
  renames_child-changed c e1 e2 e3 e4 Exchange (Some e) q = or_kept c e (exchanges nodes c d n e f m) (λ ne. exchanges-changed c e e1 e2 e4 q ne) (c == e) refl

  pub Rename-changed : (mode : Mode) → IfDone (Changed nodes) (renames nodes d n f m mode)
  Rename-changed mode =
      by (IfDone (Changed nodes)) (λ error. tt) (λ c e1 e2 e3 e4. renames_child-changed c e1 e2 e4 e3 mode (child nodes f m) refl)
    where
      by : (P : Result (List Inode) Errno → Type 0) → ((error : Errno) → P (Err error))
          → ((c : ℕ) → is_dir nodes d ≡ true → is_dir nodes f ≡ true → child nodes d n ≡ Some c → is_gone nodes f ≡ false
          → P (renames_child nodes c d n f m mode (child nodes f m)))
          → P (renames nodes d n f m mode)
      by P refusal p =
          refuse_if-both P (not (is_dir nodes d)) (Err NotDir) _ (refusal NotDir) (λ e1.
          refuse_if-both P (not (is_dir nodes f)) (Err NotDir) _ (refusal NotDir) (λ e2.
          with_some-both P (child nodes d n) (Err NotFound) _ (refusal NotFound) (λ c e3.
          refuse_if-both P (is_gone nodes f) (Err NotFound) _ (refusal NotFound) (λ e4.
          p c (not-false (is_dir nodes d) e1) (not-false (is_dir nodes f) e2) e3 e4))))

-- ---- what a change leaves

pub Changed-grows : {nodes new : List Inode} → Changed nodes new → Grows nodes new
Changed-grows {nodes} kept = Grows-refl nodes
Changed-grows {nodes} (made d n object e1 e2 e3 e4 e5) = Grows-append nodes _
Changed-grows {nodes} (removed d n c e1 e2) = Grows-put_at nodes c None
Changed-grows {nodes} (moved d n f m c e1 e2 e3 e4 e5) = Grows-put_at nodes c _
Changed-grows {nodes} (replaced d n f m c e e1 e2 e3 e4 e5 e6 e7) = Grows-trans (Grows-put_at nodes e None) (Grows-put_at (put_at nodes e None) c _)
Changed-grows {nodes} (exchanged d n f m c e e1 e2 e3 e4 e5 e6 e7) = Grows-trans (Grows-put_at nodes c _) (Grows-put_at (put_at nodes c _) e _)

-- a change brings at most one node
pub Changed-by_one : {nodes new : List Inode} → Changed nodes new → length new ≤ suc (length nodes)
Changed-by_one {nodes} kept = omega arith
Changed-by_one {nodes} (made d n object e1 e2 e3 e4 e5) =
    omega (arith, length-append nodes (record { object = object; place = Some (entry d n) } ∷ []))
Changed-by_one {nodes} (removed d n c e1 e2) = omega (arith, length-put_at nodes c None)
Changed-by_one {nodes} (moved d n f m c e1 e2 e3 e4 e5) = omega (arith, length-put_at nodes c (Some (entry f m)))
Changed-by_one {nodes} (replaced d n f m c e e1 e2 e3 e4 e5 e6 e7) =
    omega (arith, length-put_at nodes e None, length-put_at (put_at nodes e None) c (Some (entry f m)))
Changed-by_one {nodes} (exchanged d n f m c e e1 e2 e3 e4 e5 e6 e7) =
    omega (arith, length-put_at nodes c (Some (entry f m)), length-put_at (put_at nodes c (Some (entry f m))) e (Some (entry d n)))

-- no change uses up more numbers than there are
pub Changed-few : {nodes new : List Inode} → Changed nodes new → length nodes ≤ NUMBERS_MAX → length new ≤ NUMBERS_MAX
Changed-few {nodes} kept few = few
Changed-few {nodes} (made d n object e1 e2 e3 e4 e5) few =
    let room = leb-false NUMBERS_MAX (length nodes) e4 in
    omega (arith, room, length-append nodes (record { object = object; place = Some (entry d n) } ∷ []))
Changed-few {nodes} (removed d n c e1 e2) few = omega (arith, length-put_at nodes c None)
Changed-few {nodes} (moved d n f m c e1 e2 e3 e4 e5) few = omega (arith, length-put_at nodes c (Some (entry f m)))
Changed-few {nodes} (replaced d n f m c e e1 e2 e3 e4 e5 e6 e7) few =
    omega (arith, length-put_at nodes e None, length-put_at (put_at nodes e None) c (Some (entry f m)))
Changed-few {nodes} (exchanged d n f m c e e1 e2 e3 e4 e5 e6 e7) few =
    omega (arith, length-put_at nodes c (Some (entry f m)), length-put_at (put_at nodes c (Some (entry f m))) e (Some (entry d n)))

-- what is no directory, and a directory without entries, is nobody's parent
pub childless : (nodes : List Inode) → IsTree nodes → (e : ℕ) → (is_dir nodes e && has_entries nodes e) ≡ false
    → (x : ℕ) (place : Place) → place_at nodes x ≡ Some place → place.parent ≢ e
childless nodes t e q x place p =
    ⊎_elim
    (λ no_dir. λ r. true≢false (sym (t.parents_are_dirs x place p) ∙ ap (is_dir nodes) r ∙ no_dir))
    (λ empty. no_entries nodes e empty x place p)
    (and_cases (is_dir nodes e) (has_entries nodes e) q)

-- what stands somewhere isn't the top
pub not_top : (nodes : List Inode) → IsTree nodes → (c : ℕ) (place : Place) → place_at nodes c ≡ Some place → c ≢ TOP
not_top nodes t c place p q = none-some place (sym t.top_is_free ∙ ap (place_at nodes) (sym q) ∙ p)

-- one node is hung at a free entry
hung : (nodes : List Inode) → IsTree nodes → (c f : ℕ) (m : List ℕ) (place : Place) → place_at nodes c ≡ Some place
    → MayHang nodes c c (entry f m) → IsTree (put_at nodes c (Some (entry f m)))
hung nodes t c f m place p may =
    let there = place_at-put_at nodes c (Some (entry f m)) (place_at-within nodes c place p) in
    IsTree-rehung nodes (put_at nodes c (Some (entry f m))) c c (entry f m) (entry f m) t
    (record {
      objects = object_at-put_at nodes c (Some (entry f m));
      others = λ x not_c same. place_at-put_other nodes c (Some (entry f m)) x not_c;
      c_there = there;
      e_there = there;
    })
    (not_top nodes t c place p) (not_top nodes t c place p) may may (λ q. refl)

moved-tree : (nodes : List Inode) → IsTree nodes → (d : ℕ) (n : List ℕ) (f : ℕ) (m : List ℕ) (c : ℕ)
    → is_dir nodes f ≡ true → is_gone nodes f ≡ false → child nodes d n ≡ Some c → child nodes f m ≡ None → is_within nodes c f ≡ false
    → IsTree (put_at nodes c (Some (entry f m)))
moved-tree nodes t d n f m c e1 e2 e3 e4 e5 =
    hung nodes t c f m (entry d n) (place_at-child nodes d n c e3)
    (record {
      in_directory = e1;
      rooted = Rooted-not_gone nodes t f e2;
      outside_c = not_under nodes t c f e5;
      outside_e = not_under nodes t c f e5;
      entry_free = λ x not_c same. place_at-no_child nodes f m e4 x;
    })

-- what stands below c once a node is taken out stood there before
Stands-taken_out : (nodes : List Inode) (e c y : ℕ) (names : List (List ℕ)) → Stands (put_at nodes e None) c y names → Stands nodes c y names
Stands-taken_out nodes e c y [] h = h
Stands-taken_out nodes e c y (n ∷ names) h =
    (h.0, (h.1.0, ((stood nodes e y (entry h.1.0 n) h.1.1.0).1, Stands-taken_out nodes e c h.1.0 names h.1.1.1)))

replaced-tree : (nodes : List Inode) → IsTree nodes → (d : ℕ) (n : List ℕ) (f : ℕ) (m : List ℕ) (c e : ℕ)
    → is_dir nodes f ≡ true → is_gone nodes f ≡ false → child nodes d n ≡ Some c → child nodes f m ≡ Some e → c ≢ e → is_within nodes c f ≡ false
    → (is_dir nodes e && has_entries nodes e) ≡ false
    → IsTree (put_at (put_at nodes e None) c (Some (entry f m)))
replaced-tree nodes t d n f m c e e1 e2 e3 e4 e5 e6 e7 =
    let e_there = place_at-child nodes f m e e4 in
    let c_there = place_at-child nodes d n c e3 in
    let apart : f ≢ e = childless nodes t e e7 e (entry f m) e_there in
    let less = IsTree-taken_out nodes e t (childless nodes t e e7) in
    let not_gone = ap (λ o. not (f == TOP) && not (is_some o)) (place_at-put_other nodes e None f apart) ∙ e2 in
    let out : Under (put_at nodes e None) c f → ⊥ = λ u. not_under nodes t c f e6 (u.0, Stands-taken_out nodes e c f u.0 u.1) in
    hung (put_at nodes e None) less c f m (entry d n) (place_at-put_other nodes e None c e5 ∙ c_there)
    (record {
      in_directory = ap is_directory (object_at-put_at nodes e None f) ∙ e1;
      rooted = Rooted-not_gone (put_at nodes e None) less f not_gone;
      outside_c = out;
      outside_e = out;
      entry_free = λ x not_c same. λ q. let s = stood nodes e x (entry f m) q in s.0 (t.apart x e (entry f m) s.1 e_there);
    })

exchanged-tree : (nodes : List Inode) → IsTree nodes → (d : ℕ) (n : List ℕ) (f : ℕ) (m : List ℕ) (c e : ℕ)
    → is_dir nodes d ≡ true → is_dir nodes f ≡ true → child nodes d n ≡ Some c → child nodes f m ≡ Some e → c ≢ e
    → is_within nodes c f ≡ false → is_within nodes e d ≡ false
    → IsTree (put_at (put_at nodes c (Some (entry f m))) e (Some (entry d n)))
exchanged-tree nodes t d n f m c e e1 e2 e3 e4 e5 e6 e7 =
    let c_was = place_at-child nodes d n c e3 in
    let e_was = place_at-child nodes f m e e4 in
    let first = put_at nodes c (Some (entry f m)) in
    let e_in : e < length first = let h = place_at-within nodes e (entry f m) e_was in omega (arith, length-put_at nodes c (Some (entry f m))) in
    IsTree-rehung nodes (put_at first e (Some (entry d n))) c e (entry f m) (entry d n) t
    (record {
      objects = λ x. object_at-put_at first e (Some (entry d n)) x ∙ object_at-put_at nodes c (Some (entry f m)) x;
      others = λ x not_c not_e. place_at-put_other first e (Some (entry d n)) x not_e ∙ place_at-put_other nodes c (Some (entry f m)) x not_c;
      c_there = place_at-put_other first e (Some (entry d n)) c e5 ∙ place_at-put_at nodes c (Some (entry f m)) (place_at-within nodes c (entry d n) c_was);
      e_there = place_at-put_at first e (Some (entry d n)) e_in;
    })
    (not_top nodes t c (entry d n) c_was) (not_top nodes t e (entry f m) e_was)
    (record {
      in_directory = e2;
      rooted = Rooted-parent nodes t e (entry f m) e_was;
      outside_c = not_under nodes t c f e6;
      outside_e = not_under_own_child nodes t e (entry f m) e_was;
      entry_free = λ x not_c not_e. λ q. not_e (t.apart x e (entry f m) q e_was);
    })
    (record {
      in_directory = e1;
      rooted = Rooted-parent nodes t c (entry d n) c_was;
      outside_c = not_under_own_child nodes t c (entry d n) c_was;
      outside_e = not_under nodes t e d e7;
      entry_free = λ x not_c not_e. λ q. not_c (t.apart x c (entry d n) q c_was);
    })
    (λ q. t.apart c e (entry d n) c_was (e_was ∙ ap Some q))

pub Changed-tree : {nodes new : List Inode} → IsTree nodes → Changed nodes new → IsTree new
Changed-tree {nodes} t kept = t
Changed-tree {nodes} t (made d n object e1 e2 e3 e4 e5) = IsTree-made nodes d n object t e1 (Rooted-not_gone nodes t d e2) (place_at-no_child nodes d n e3) e5
Changed-tree {nodes} t (removed d n c e1 e2) = IsTree-taken_out nodes c t (childless nodes t c e2)
Changed-tree {nodes} t (moved d n f m c e1 e2 e3 e4 e5) = moved-tree nodes t d n f m c e1 e2 e3 e4 e5
Changed-tree {nodes} t (replaced d n f m c e e1 e2 e3 e4 e5 e6 e7) = replaced-tree nodes t d n f m c e e1 e2 e3 e4 e5 e6 e7
Changed-tree {nodes} t (exchanged d n f m c e e1 e2 e3 e4 e5 e6 e7) = exchanged-tree nodes t d n f m c e e1 e2 e3 e4 e5 e6 e7
