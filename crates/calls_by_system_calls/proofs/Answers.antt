-- The answer to a step is one by the nodes and by the node of its handle, but for the number of what it opens.
use Rattle.std.proofs.Common.{◌≡◌, ℕ, Bool, true, false, not, List, [], ◌∷◌, length, Option, Some, None, slice_set, refl, sym, ap, ◌∙◌}
use Rattle.path_text.specs.declared.errno.Errno.{Errno}
use Rattle.path_text.specs.declared.errno.Errno.TheVariants.{NotFound, BadHandle, NotDir, TooMany}
use Rattle.path_text.specs.Text.{text_fault}
use Rattle.tree_model.specs.declared.answer.Answer.{Answer}
use Rattle.tree_model.specs.declared.answer.Answer.TheVariants.{Opened, Listed, Done, Refused, Text}
use Rattle.tree_model.specs.declared.inode.Inode.{Inode}
use Rattle.tree_model.specs.declared.inode.Object.{Object}
use Rattle.tree_model.specs.declared.inode.Object.TheVariants as object
use Rattle.tree_model.specs.declared.step.StepOf.TheVariants.{Open, Dup, Parent, ReadLink, NameBelow, List as ListNames, Close, MakeLink}
use Rattle.tree_model.specs.Entries.{makes, makes_link, refuse_by, refuse_if, with_some}
use Rattle.tree_model.specs.declared.step.Kind.TheVariants as kind
use Rattle.tree_model.specs.State.{State, object_at, child, parent, is_dir, names_below, names_in, sorted_names}
use Rattle.tree_model.specs.Steps.{Outcome, refused, answered, changes, held, is_full, kind_of, with_handle, opens, reads, shows, outcome}

-- the nodes with one open handle
abbrev pub alone : List Inode → ℕ → State
alone nodes d = record { nodes = nodes; handles = Some (record { actor = 0; node = d }) ∷ [] }

-- ---- what is opened

abbrev found_at : List Inode → ℕ → ℕ → Answer
found_at nodes x number = with_some (object_at nodes x) (Refused NotFound) (λ what. Opened number x (kind_of what))

abbrev entered : List Inode → ℕ → Option ℕ → ℕ → Answer
entered nodes d to number =
    refuse_if (not (is_dir nodes d)) (Refused NotDir) (with_some to (Refused NotFound) (λ c. found_at nodes c number))

unfoldable pub at_number : ℕ → Answer → Answer
at_number n (Opened h x k) = Opened n x k
at_number n answer = answer

answer_if : (test : Bool) (o p : Outcome) → (refuse_if test o p).answer ≡ refuse_if test o.answer p.answer
answer_if true o p = refl
answer_if false o p = refl

answer_some : {A : Type 0} (o : Option A) (q : Outcome) (f : A → Outcome) (g : A → Answer) → ((x : A) → (f x).answer ≡ g x)
    → (with_some o q f).answer ≡ with_some o q.answer g
answer_some None q f g same = refl
answer_some (Some x) q f g same = same x

abbrev opened_as : State → ℕ → ℕ → Object → Outcome
opened_as s a x what = record { answer = Opened (length s.handles) x (kind_of what); after = with_handle s a x }

opens_is : (s : State) (a x : ℕ) → is_full s a ≡ false → (opens s a x).answer ≡ found_at s.nodes x (length s.handles)
opens_is s a x room =
    answer_if (is_full s a) (refused s TooMany) (with_some (object_at s.nodes x) (refused s NotFound) (opened_as s a x))
    ∙ ap (λ t. refuse_if t (Refused TooMany) (with_some (object_at s.nodes x) (refused s NotFound) (opened_as s a x)).answer) room
    ∙ answer_some (object_at s.nodes x) (refused s NotFound) (opened_as s a x)
    (λ what. Opened (length s.handles) x (kind_of what)) (λ what. refl)

enters_is : (s : State) (a d : ℕ) (to : Option ℕ) → is_full s a ≡ false
    → (refuse_if (not (is_dir s.nodes d)) (refused s NotDir) (with_some to (refused s NotFound) (λ c. opens s a c))).answer
    ≡ entered s.nodes d to (length s.handles)
enters_is s a d to room =
    answer_if (not (is_dir s.nodes d)) (refused s NotDir) (with_some to (refused s NotFound) (λ c. opens s a c))
    ∙ ap (refuse_if (not (is_dir s.nodes d)) (Refused NotDir))
    (answer_some to (refused s NotFound) (λ c. opens s a c) (λ c. found_at s.nodes c (length s.handles)) (λ c. opens_is s a c room))

-- an entry's, or that above
on_held : (s : State) (a h d : ℕ) (f : ℕ → Outcome) → held s a h ≡ Some d
    → (with_some (held s a h) (refused s BadHandle) f).answer ≡ (f d).answer
on_held s a h d f e = ap (λ o. (with_some o (refused s BadHandle) f).answer) e

pub open_is : (s : State) (a h d : ℕ) (n : List ℕ) → held s a h ≡ Some d → is_full s a ≡ false
    → (outcome s a (Open h n)).answer ≡ entered s.nodes d (child s.nodes d n) (length s.handles)
open_is s a h d n e room =
    on_held s a h d
    (λ d. refuse_if (not (is_dir s.nodes d)) (refused s NotDir) (with_some (child s.nodes d n) (refused s NotFound) (λ c. opens s a c))) e
    ∙ enters_is s a d (child s.nodes d n) room

pub parent_is : (s : State) (a h d : ℕ) → held s a h ≡ Some d → is_full s a ≡ false
    → (outcome s a (Parent h)).answer ≡ entered s.nodes d (parent s.nodes d) (length s.handles)
parent_is s a h d e room =
    on_held s a h d
    (λ d. refuse_if (not (is_dir s.nodes d)) (refused s NotDir) (with_some (parent s.nodes d) (refused s NotFound) (λ c. opens s a c))) e
    ∙ enters_is s a d (parent s.nodes d) room

pub dup_is : (s : State) (a h d : ℕ) → held s a h ≡ Some d → is_full s a ≡ false
    → (outcome s a (Dup h)).answer ≡ found_at s.nodes d (length s.handles)
dup_is s a h d e room = on_held s a h d (λ x. opens s a x) e ∙ opens_is s a d room

found_by : (nodes : List Inode) (x n m : ℕ) → at_number m (found_at nodes x n) ≡ found_at nodes x m
unfolding at_number
found_by nodes x n m = on (object_at nodes x)
  where
    on : (o : Option Object) → at_number m (with_some o (Refused NotFound) (λ what. Opened n x (kind_of what)))
        ≡ with_some o (Refused NotFound) (λ what. Opened m x (kind_of what))
    on None = refl
    on (Some what) = refl

pub entered_by : (nodes : List Inode) (d : ℕ) (to : Option ℕ) (n m : ℕ)
    → at_number m (entered nodes d to n) ≡ entered nodes d to m
unfolding at_number
entered_by nodes d to n m = on (not (is_dir nodes d)) to
  where
    on : (t : Bool) (o : Option ℕ)
        → at_number m (refuse_if t (Refused NotDir) (with_some o (Refused NotFound) (λ c. found_at nodes c n)))
        ≡ refuse_if t (Refused NotDir) (with_some o (Refused NotFound) (λ c. found_at nodes c m))
    on true o = refl
    on false None = refl
    on false (Some c) = found_by nodes c n m

-- in a state with these nodes a step by a handle on that node is answered as by a lone handle
pub same_open : (nodes : List Inode) (t : State) (k d : ℕ) (n : List ℕ) → t.nodes ≡ nodes → held t 0 k ≡ Some d
    → is_full t 0 ≡ false
    → (outcome t 0 (Open k n)).answer ≡ at_number (length t.handles) (outcome (alone nodes d) 0 (Open 0 n)).answer
same_open nodes t k d n same e room =
    open_is t 0 k d n e room
    ∙ ap (λ ns. entered ns d (child ns d n) (length t.handles)) same
    ∙ sym (entered_by nodes d (child nodes d n) 1 (length t.handles))
    ∙ ap (at_number (length t.handles)) (sym (open_is (alone nodes d) 0 0 d n refl refl))

pub same_parent : (nodes : List Inode) (t : State) (k d : ℕ) → t.nodes ≡ nodes → held t 0 k ≡ Some d
    → is_full t 0 ≡ false
    → (outcome t 0 (Parent k)).answer ≡ at_number (length t.handles) (outcome (alone nodes d) 0 (Parent 0)).answer
same_parent nodes t k d same e room =
    parent_is t 0 k d e room
    ∙ ap (λ ns. entered ns d (parent ns d) (length t.handles)) same
    ∙ sym (entered_by nodes d (parent nodes d) 1 (length t.handles))
    ∙ ap (at_number (length t.handles)) (sym (parent_is (alone nodes d) 0 0 d refl refl))

pub same_dup : (nodes : List Inode) (t : State) (k d : ℕ) → t.nodes ≡ nodes → held t 0 k ≡ Some d
    → is_full t 0 ≡ false
    → (outcome t 0 (Dup k)).answer ≡ at_number (length t.handles) (outcome (alone nodes d) 0 (Dup 0)).answer
same_dup nodes t k d same e room =
    dup_is t 0 k d e room
    ∙ ap (λ ns. found_at ns d (length t.handles)) same
    ∙ sym (found_by nodes d 1 (length t.handles))
    ∙ ap (at_number (length t.handles)) (sym (dup_is (alone nodes d) 0 0 d refl refl))

-- ---- what is told

reads_same : (s t : State) (o : Option Object) (n : ℕ) → (reads t o).answer ≡ at_number n (reads s o).answer
unfolding at_number
reads_same s t None n = refl
reads_same s t (Some object.Dir) n = refl
reads_same s t (Some object.File) n = refl
reads_same s t (Some (object.Link text)) n = refl

pub same_text : (nodes : List Inode) (t : State) (k d : ℕ) → t.nodes ≡ nodes → held t 0 k ≡ Some d
    → (outcome t 0 (ReadLink k)).answer ≡ at_number (length t.handles) (outcome (alone nodes d) 0 (ReadLink 0)).answer
same_text nodes t k d same e =
    on_held t 0 k d (λ x. reads t (object_at t.nodes x)) e
    ∙ ap (λ ns. (reads t (object_at ns d)).answer) same
    ∙ reads_same (alone nodes d) t (object_at nodes d) (length t.handles)

pub text_there : (nodes : List Inode) (d : ℕ) (text : List ℕ) → object_at nodes d ≡ Some (object.Link text)
    → (outcome (alone nodes d) 0 (ReadLink 0)).answer ≡ Text text
text_there nodes d text is =
    on_held (alone nodes d) 0 0 d (λ x. reads (alone nodes d) (object_at nodes x)) refl
    ∙ ap (λ o. (reads (alone nodes d) o).answer) is

shows_same : (s t : State) (o : Option (List (List ℕ))) → (shows t o).answer ≡ (shows s o).answer
shows_same s t None = refl
shows_same s t (Some names) = refl

pub same_place : (s t : State) (r k top d : ℕ) → t.nodes ≡ s.nodes → held t 0 r ≡ Some top → held t 0 k ≡ Some d
    → (outcome t 0 (NameBelow r k)).answer ≡ (shows s (names_below s.nodes top d)).answer
same_place s t r k top d same e1 e2 =
    on_held t 0 r top (λ y. with_some (held t 0 k) (refused t BadHandle) (λ x. shows t (names_below t.nodes y x))) e1
    ∙ on_held t 0 k d (λ x. shows t (names_below t.nodes top x)) e2
    ∙ ap (λ nodes. (shows t (names_below nodes top d)).answer) same
    ∙ shows_same s t (names_below s.nodes top d)

pub same_list : (s t : State) (k d : ℕ) → t.nodes ≡ s.nodes → held t 0 k ≡ Some d → is_dir s.nodes d ≡ true
    → (outcome t 0 (ListNames k)).answer ≡ Listed (sorted_names (names_in s.nodes d))
same_list s t k d same e dir =
    on_held t 0 k d (λ d. refuse_if (not (is_dir t.nodes d)) (refused t NotDir)
    (answered t (Listed (sorted_names (names_in t.nodes d))))) e
    ∙ answer_if (not (is_dir t.nodes d)) (refused t NotDir) (answered t (Listed (sorted_names (names_in t.nodes d))))
    ∙ ap (λ nodes. refuse_if (not (is_dir nodes d)) (Refused NotDir) (Listed (sorted_names (names_in nodes d)))) same
    ∙ ap (λ b. refuse_if (not b) (Refused NotDir) (Listed (sorted_names (names_in s.nodes d)))) dir

pub bad_text : (t : State) (k d : ℕ) (n text : List ℕ) (fault : Errno) → held t 0 k ≡ Some d
    → text_fault text ≡ Some fault → (outcome t 0 (MakeLink k n text)).answer ≡ Refused fault
bad_text t k d n text fault e why =
    on_held t 0 k d (λ d. changes t (makes_link t.nodes d n text)) e
    ∙ ap (λ o. (changes t (refuse_by o (makes t.nodes d n (object.Link text)))).answer) why

pub same_close : (t : State) (k d : ℕ) → held t 0 k ≡ Some d → (outcome t 0 (Close k)).answer ≡ Done
same_close t k d e =
    on_held t 0 k d (λ x. record { answer = Done; after = record { nodes = t.nodes; handles = slice_set t.handles k None } }) e

-- what was looked up with others
pub passed_name : (nodes : List Inode) (d : ℕ) (name : List ℕ) (c : ℕ) (what : Object) → is_dir nodes d ≡ true
    → child nodes d name ≡ Some c → object_at nodes c ≡ Some what
    → (outcome (alone nodes d) 0 (Open 0 name)).answer ≡ Opened 1 c (kind_of what)
passed_name nodes d name c what dir entry is =
    open_is (alone nodes d) 0 0 d name refl refl
    ∙ ap (λ o. entered nodes d o 1) entry
    ∙ ap (λ b. refuse_if (not b) (Refused NotDir) (found_at nodes c 1)) dir
    ∙ ap (λ o. with_some o (Refused NotFound) (λ what. Opened 1 c (kind_of what))) is

pub missing_name : (nodes : List Inode) (d : ℕ) (name : List ℕ) → is_dir nodes d ≡ true → child nodes d name ≡ None
    → (outcome (alone nodes d) 0 (Open 0 name)).answer ≡ Refused NotFound
missing_name nodes d name dir entry =
    open_is (alone nodes d) 0 0 d name refl refl
    ∙ ap (λ o. entered nodes d o 1) entry
    ∙ ap (λ b. refuse_if (not b) (Refused NotDir) (Refused NotFound)) dir

pub passed_up : (nodes : List Inode) (d c : ℕ) → is_dir nodes d ≡ true → parent nodes d ≡ Some c
    → object_at nodes c ≡ Some object.Dir → (outcome (alone nodes d) 0 (Parent 0)).answer ≡ Opened 1 c kind.Dir
passed_up nodes d c dir above is =
    parent_is (alone nodes d) 0 0 d refl refl
    ∙ ap (λ o. entered nodes d o 1) above
    ∙ ap (λ b. refuse_if (not b) (Refused NotDir) (found_at nodes c 1)) dir
    ∙ ap (λ o. with_some o (Refused NotFound) (λ what. Opened 1 c (kind_of what))) is
