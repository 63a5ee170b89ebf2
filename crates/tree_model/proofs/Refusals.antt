-- What holds of a refusal and of what follows where nothing is refused holds of both together.
use Rattle.std.proofs.Common.{◌≡◌, Bool, true, false, Option, Some, None, Result, Err, refl}
use Rattle.path_text.specs.declared.errno.Errno.{Errno}
use Rattle.tree_model.specs.Entries.{refuse_if, with_some, refuse_by}

pub refuse_if-both : {A : Type 0} (P : A → Type 0) (test : Bool) (refusal otherwise : A) → P refusal → (test ≡ false → P otherwise) → P (refuse_if test refusal otherwise)
refuse_if-both P true refusal otherwise p q = p
refuse_if-both P false refusal otherwise p q = q refl

pub with_some-both : {A B : Type 0} (P : B → Type 0) (o : Option A) (refusal : B) (otherwise : A → B) → P refusal → ((x : A) → o ≡ Some x → P (otherwise x))
    → P (with_some o refusal otherwise)
with_some-both P None refusal otherwise p q = p
with_some-both P (Some x) refusal otherwise p q = q x refl

pub refuse_by-both : {A : Type 0} (P : Result A Errno → Type 0) (fault : Option Errno) (otherwise : Result A Errno) → ((error : Errno) → P (Err error)) → (fault ≡ None → P otherwise)
    → P (refuse_by fault otherwise)
refuse_by-both P None otherwise p q = q refl
refuse_by-both P (Some error) otherwise p q = p error
