-- What comparing two calls to RemoveAll comes to: the names that are left, the directories one by one, and how many handles.
use Rattle.std.specs.Prelude.{◌≡◌, ◌<◌, ◌+◌, ◌-◌, ℕ, suc, List, [], ◌∷◌, ◌++◌, length, map, take, drop, reverse, refl}
use Rattle.std.proofs.Common.{ap, sym, subst, ◌∙◌, append_assoc, arith, get_or}
use Rattle.std.proofs.lemmas.List.{length-drop, get_or-drop, get_or-reverse, length-reverse, reverse-reverse, take-map, take_more}
use Rattle.std.proofs.lemmas.Option.{unwrap_or-slice_get}
use Rattle.std.proofs.Math.Seq.{drop-cons, take-length}
use Rattle.bulk_ops.specs.RemoveAllOrder.{Level, dirs}
use Rattle.bulk_ops.specs.RemoveAllView.{name_at, level_of, levels_of, dirs_of}
use Rattle.bulk_ops.specs.Renamed.{numbers_by, level_by, levels_by, levels_handles}
use Rattle.bulk_ops.specs.declared.remove_all.frame.Frame.{Frame}
use Rattle.bulk_ops.proofs.MappedLists.{same_lengths, same_at, more, onto_reverse, whole}

-- ---- names from a place on

at_drop : (names : List (List ℕ)) (at k : ℕ) → name_at names (at + k) ≡ get_or (drop at names) k []
at_drop names at k = unwrap_or-slice_get names (at + k) [] ∙ sym (get_or-drop at names k [])

one_more : (names : List (List ℕ)) (at k : ℕ) → at + k < length names → take (k + 1) (drop at names) ≡ take k (drop at names) ++ name_at names (at + k) ∷ []
one_more names at k lt =
    take_more (drop at names) k [] (let within : k < length (drop at names) = omega (arith, length-drop at names) in within)
    ∙ ap (λ (n : List ℕ). take k (drop at names) ++ n ∷ []) (sym (at_drop names at k))

pub next_same : (names others : List (List ℕ)) (at place k : ℕ) → at + k < length names → place + k < length others → take k (drop at names) ≡ take k (drop place others)
    → name_at names (at + k) ≡ name_at others (place + k) → take (k + 1) (drop at names) ≡ take (k + 1) (drop place others)
next_same names others at place k lt lt' e same =
    one_more names at k lt ∙ (ap (λ (ns : List (List ℕ)). ns ++ name_at names (at + k) ∷ []) e ∙ (ap (λ (n : List ℕ). take k (drop place others) ++ n ∷ []) same ∙ sym (one_more others place k lt')))

-- ---- directories

at_and_after : (names : List (List ℕ)) (at : ℕ) → at < length names → drop at names ≡ name_at names at ∷ drop (suc at) names
at_and_after names at lt = drop-cons names at [] lt ∙ ap (λ (n : List ℕ). n ∷ drop (suc at) names) (sym (unwrap_or-slice_get names at []))

abbrev pub level_alone : Frame → Level
level_alone f = level_by (λ h. 0) (level_of f)

pub levels_alike : (f g : Frame) → drop f.at f.names ≡ drop g.at g.names → level_alone f ≡ level_alone g
levels_alike f g e =
    let heads : name_at f.names f.at ∷ drop (suc f.at) f.names ≡ name_at g.names g.at ∷ drop (suc g.at) g.names =
    sym (at_and_after f.names f.at f.under_way) ∙ (e ∙ at_and_after g.names g.at g.under_way) in
    cc

pub alike_levels : (f g : Frame) → level_alone f ≡ level_alone g → drop f.at f.names ≡ drop g.at g.names
alike_levels f g e =
    at_and_after f.names f.at f.under_way ∙ (ap (λ (l : Level). l.name ∷ l.others) e ∙ sym (at_and_after g.names g.at g.under_way))

levels_map : (levels : List Level) → levels_by (λ h. 0) levels ≡ map (level_by (λ h. 0)) levels
levels_map [] = refl
levels_map (level ∷ levels) = ap (λ (ls : List Level). level_by (λ h. 0) level ∷ ls) (levels_map levels)

each_alone : (frames : List Frame) → map (level_by (λ h. 0)) (map level_of frames) ≡ map level_alone frames
each_alone [] = refl
each_alone (f ∷ frames) = ap (λ (ls : List Level). level_alone f ∷ ls) (each_alone frames)

alone_reversed : (frames : List Frame) → levels_by (λ h. 0) (levels_of frames) ≡ reverse (map level_alone frames)
alone_reversed frames = levels_map (levels_of frames) ∙ (each_alone (reverse frames) ∙ onto_reverse level_alone frames)

frames_alike : (frames others : List Frame) → map level_alone frames ≡ map level_alone others → levels_by (λ h. 0) (levels_of frames) ≡ levels_by (λ h. 0) (levels_of others)
frames_alike frames others e = alone_reversed frames ∙ (ap reverse e ∙ sym (alone_reversed others))

alike_frames : (frames others : List Frame) → levels_by (λ h. 0) (levels_of frames) ≡ levels_by (λ h. 0) (levels_of others) → map level_alone frames ≡ map level_alone others
alike_frames frames others e =
    sym (reverse-reverse (map level_alone frames)) ∙ (ap reverse (sym (alone_reversed frames) ∙ (e ∙ alone_reversed others)) ∙ reverse-reverse (map level_alone others))

pub alike_lengths : (frames others : List Frame) → levels_by (λ h. 0) (levels_of frames) ≡ levels_by (λ h. 0) (levels_of others) → length frames ≡ length others
alike_lengths frames others e = same_lengths level_alone frames others (alike_frames frames others e)

pub alike_at : (frames others : List Frame) (i : ℕ) (f g : Frame) → levels_by (λ h. 0) (levels_of frames) ≡ levels_by (λ h. 0) (levels_of others) → i < length frames → f ≡ get_or frames i f → g ≡ get_or others i g
    → level_alone f ≡ level_alone g
alike_at frames others i f g e = same_at level_alone frames others i f g (alike_frames frames others e)

pub all_alike : (frames others : List Frame) (i : ℕ) → length frames ≡ i → length others ≡ i → map level_alone (take i frames) ≡ map level_alone (take i others)
    → levels_by (λ h. 0) (levels_of frames) ≡ levels_by (λ h. 0) (levels_of others)
all_alike frames others i p q e = frames_alike frames others (whole level_alone frames others i p q e)

-- ---- handles

pub as_many : (hs is : List ℕ) → length hs ≡ length is → numbers_by (λ h. 0) hs ≡ numbers_by (λ h. 0) is
as_many [] [] e = refl
as_many [] (i ∷ is) e = absurd (omega arith)
as_many (h ∷ hs) [] e = absurd (omega arith)
as_many (h ∷ hs) (i ∷ is) e = ap (λ (ns : List ℕ). 0 ∷ ns) (as_many hs is (omega arith))

pub same_many : (hs is : List ℕ) → numbers_by (λ h. 0) hs ≡ numbers_by (λ h. 0) is → length hs ≡ length is
same_many [] [] e = refl
same_many [] (i ∷ is) e = cc
same_many (h ∷ hs) [] e = cc
same_many (h ∷ hs) (i ∷ is) e = ap suc (same_many hs is (let q : numbers_by (λ h. 0) hs ≡ numbers_by (λ h. 0) is = cc in q))

handles_are_dirs : (levels : List Level) → levels_handles levels ≡ dirs levels
handles_are_dirs [] = refl
handles_are_dirs (level ∷ levels) = ap (λ (ns : List ℕ). level.dir ∷ ns) (handles_are_dirs levels)

-- the handle of what was opened, the directory's, and those of what is above it
pub pushed : (before opened : List ℕ) (dir : ℕ) (levels : List Level) → ((before ++ opened) ++ dir ∷ []) ++ dirs levels ≡ before ++ (opened ++ dir ∷ levels_handles levels)
pushed before opened dir levels =
    append_assoc (before ++ opened) (dir ∷ []) (dirs levels)
    ∙ (append_assoc before opened (dir ∷ dirs levels) ∙ ap (λ (hs : List ℕ). before ++ (opened ++ dir ∷ hs)) (sym (handles_are_dirs levels)))

abbrev dir_of : Frame → ℕ
dir_of f = f.dir.handle

each_dir : (frames : List Frame) → dirs (map level_of frames) ≡ map dir_of frames
each_dir [] = refl
each_dir (f ∷ frames) = ap (λ (ns : List ℕ). dir_of f ∷ ns) (each_dir frames)

taken_dirs : (frames : List Frame) (n : ℕ) → take n (dirs_of frames) ≡ map dir_of (take n (reverse frames))
taken_dirs frames n = ap (take n) (each_dir (reverse frames)) ∙ take-map dir_of n (reverse frames)

pub next_dir : (frames : List Frame) (below : ℕ) (f : Frame) → below < length frames → f ≡ get_or frames (length frames - 1 - below) f
    → take (below + 1) (dirs_of frames) ≡ take below (dirs_of frames) ++ f.dir.handle ∷ []
next_dir frames below f lt is =
    let within : below < length (reverse frames) = omega (arith, length-reverse frames) in
    taken_dirs frames (below + 1) ∙ (more dir_of (reverse frames) below f within (is ∙ sym (get_or-reverse frames below f lt)) ∙ ap (λ (ns : List ℕ). ns ++ dir_of f ∷ []) (sym (taken_dirs frames below)))

-- directories of which the first so many are copied, and that are no more, are the same from the innermost on
pub levels_copied : (copies frames : List Frame) (i : ℕ) → map level_of copies ≡ map level_of (take i frames) → i ≡ length frames → levels_of copies ≡ levels_of frames
levels_copied copies frames i same all =
    let each = same ∙ ap (map level_of) (subst (λ (n : ℕ). take n frames ≡ frames) (sym all) (take-length frames)) in
    onto_reverse level_of copies ∙ (ap reverse each ∙ sym (onto_reverse level_of frames))
