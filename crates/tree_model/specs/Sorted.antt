-- Lists put in order.
use Rattle.std.specs.Prelude.{List, [], ◌∷◌, if◌then◌else◌}
use Rattle.std.specs.Ordering.{is_lt}
use Rattle.std.specs.declared.cmp.Ordering.{Ordering}

-- an element put in order among sorted ones
abbrev pub insert_by : {A : Type 0} → (A → A → Ordering) → A → List A → List A
insert_by order x [] = x ∷ []
insert_by order x (y ∷ ys) = if is_lt (order x y) then x ∷ y ∷ ys else y ∷ insert_by order x ys

abbrev pub sorted_by : {A : Type 0} → (A → A → Ordering) → List A → List A
sorted_by order [] = []
sorted_by order (x ∷ xs) = insert_by order x (sorted_by order xs)
