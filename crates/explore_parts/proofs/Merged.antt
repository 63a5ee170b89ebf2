-- The lines that were read so far say the parts so far.
use Rattle.std.proofs.Common.{◌≡◌, ◌≢◌, Option, Some, None, ℕ, Bool, true, false, List, [], ◌∷◌, ◌++◌, map, refl, sym, ap, ◌∙◌, subst, string_bytes}
use Rattle.std.specs.Prelude.{filter, if◌then◌else◌, IfSome, IsSomeAnd}
use Rattle.std.specs.Global.{Vec}
use Rattle.std.specs.Io.KnownBytes.{Appends}
use Rattle.std.specs.Borrow.{Bor}
use Rattle.std.specs.List.{AllZip}
use Rattle.outcome_text.specs.declared.part.Part.{Part}
use Rattle.outcome_text.specs.declared.property.Property.{Property}
use Rattle.explore_parts.specs.declared.merge.Parts.{Parts}
use Rattle.outcome_text.specs.Merge.{IsWhole}
use Rattle.serde_json.specs.Data.{Data}
use Rattle.serde_json.specs.Read.{read}
use Rattle.explore_parts.specs.Merging.{FirstAsks, LinesSay, is_line, lines_in, Asks, Adds, IsMerged}
use Rattle.explore_parts.specs.PartRead.{SaysPart, SaysProperties, SaysQuestion, LineSays}
use Rattle.explore_parts.specs.Seal.{IsSealed}

zip_push : {A B : Type 0} (R : A → B → Type 0) (xs : List A) (ys : List B) (x : A) (y : B) → AllZip R xs ys → R x y
    → AllZip R (xs ++ x ∷ []) (ys ++ y ∷ [])
zip_push R [] [] x y h k = (k, tt)
zip_push R [] (b ∷ ys) x y h k = absurd h
zip_push R (a ∷ xs) [] x y h k = absurd h
zip_push R (a ∷ xs) (b ∷ ys) x y h k = (h.0, zip_push R xs ys x y h.1 k)

some_part : (xs : List Part) (x : Part) (ys : List Part) → xs ≡ x ∷ ys → xs ≢ []
some_part xs x ys e none = cc

-- one more line, whatever was there before
pub more : (old new : Parts) (line : List ℕ) (lines : List (List ℕ)) → Adds old new line
    → LinesSay (string_bytes old.question) old.properties.items lines old.parts.items
    → LinesSay (string_bytes new.question) new.properties.items (lines ++ line ∷ []) new.parts.items
more old new line lines adds say = by lines old.parts.items refl say.0 say.1
  where
    by : (ls : List (List ℕ)) (ps : List Part) → ps ≡ old.parts.items
        → AllZip (LineSays (string_bytes old.question)) ls ps → FirstAsks ls old.properties.items
        → LinesSay (string_bytes new.question) new.properties.items (ls ++ line ∷ []) new.parts.items
    by [] [] e h k = (
      subst (λ (ps : List Part). AllZip (LineSays (string_bytes new.question)) (line ∷ []) ps)
          (ap (λ (ps : List Part). ps ++ adds.part ∷ []) e ∙ sym adds.added) (adds.says, tt),
      adds.first (sym e),
    )
    by [] (p ∷ ps) e h k = absurd h
    by (l ∷ ls) [] e h k = absurd h
    by (l ∷ ls) (p ∷ ps) e h k =
        let some = some_part old.parts.items p ps (sym e) in (
          subst (λ (qs : List Part). AllZip (LineSays (string_bytes new.question)) (l ∷ ls ++ line ∷ []) qs)
              (ap (λ (qs : List Part). qs ++ adds.part ∷ []) e ∙ sym adds.added)
              (zip_push (LineSays (string_bytes new.question)) (l ∷ ls) (p ∷ ps) line adds.part
              (subst (λ (question : List ℕ). AllZip (LineSays question) (l ∷ ls) (p ∷ ps)) (sym (adds.question some)) h)
              adds.says),
          subst (λ (properties : List Property). FirstAsks (l ∷ ls) properties) (sym (adds.properties some)) k,
        )

filter_push : (lines : List (List ℕ)) (line : List ℕ)
    → filter is_line (lines ++ line ∷ []) ≡ filter is_line lines ++ filter is_line (line ∷ [])
filter_push [] line = refl
filter_push (l ∷ ls) line = by (is_line l) (filter_push ls line)
  where
    by : (b : Bool) → filter is_line (ls ++ line ∷ []) ≡ filter is_line ls ++ filter is_line (line ∷ [])
        → (if b then l ∷ filter is_line (ls ++ line ∷ []) else filter is_line (ls ++ line ∷ []))
        ≡ (if b then l ∷ filter is_line ls else filter is_line ls) ++ filter is_line (line ∷ [])
    by true rest = ap (λ (xs : List (List ℕ)). l ∷ xs) rest
    by false rest = rest

pub kept : (lines : List (List ℕ)) (line : List ℕ) → is_line line ≡ true
    → filter is_line (lines ++ line ∷ []) ≡ filter is_line lines ++ line ∷ []
kept lines line e = filter_push lines line ∙ ap (λ (b : Bool). filter is_line lines ++ (if b then line ∷ [] else [])) e

-- the same of what a split yields
abbrev pub lines_of : List (Bor (List ℕ)) → List (List ℕ)
lines_of yielded = filter is_line (map (λ line. line.now) yielded)

mapped : (yielded : List (Bor (List ℕ))) (line : Bor (List ℕ))
    → map (λ (l : Bor (List ℕ)). l.now) (yielded ++ line ∷ []) ≡ map
    (λ (l : Bor (List ℕ)). l.now) yielded ++ line.now ∷ []
mapped [] line = refl
mapped (l ∷ ls) line = ap (λ (xs : List (List ℕ)). l.now ∷ xs) (mapped ls line)

pub one_more : (old new : Parts) (line : Bor (List ℕ)) (yielded : List (Bor (List ℕ))) → is_line line.now ≡ true
    → Adds old new line.now
    → LinesSay (string_bytes old.question) old.properties.items (lines_of yielded) old.parts.items
    → LinesSay (string_bytes new.question) new.properties.items (lines_of (yielded ++ line ∷ [])) new.parts.items
one_more old new line yielded some adds say =
    let same : lines_of (yielded ++ line ∷ []) ≡ lines_of yielded ++ line.now ∷ [] =
    ap (λ (ls : List (List ℕ)). filter is_line ls) (mapped yielded line)
    ∙ kept (map (λ (l : Bor (List ℕ)). l.now) yielded) line.now some in
    subst (λ (ls : List (List ℕ)). LinesSay (string_bytes new.question) new.properties.items ls new.parts.items)
    (sym same) (more old new line.now (lines_of yielded) adds say)

-- ---- a part more

abbrev items_in : Vec Property → List Property
items_in v = v.items

pub adds : (old asked new : Parts) (line : List ℕ) (value : Data) (part : Part) → IsSealed line → read line ≡ Some value
    → Asks old asked value → SaysPart value part
    → new.parts.items ≡ asked.parts.items ++ part ∷ [] → new.question ≡ asked.question
    → new.properties ≡ asked.properties → Adds old new line
adds old asked new line value part sealed is asks says pushed question properties = record {
  part = part;
  added = pushed ∙ ap (λ (ps : List Part). ps ++ part ∷ []) asks.same;
  says = record {
    sealed = sealed;
    value = value;
    is = is;
    asks = subst (λ (text : List ℕ). SaysQuestion value text) (ap string_bytes (sym question)) asks.asks;
    says = says;
  };
  first = λ none. subst (λ (o : Option Data). IsSomeAnd o (λ d. SaysProperties d new.properties.items)) (sym is)
      (subst (λ (all : List Property). SaysProperties value all) (ap items_in (sym properties)) (asks.first none));
  question = λ some. ap string_bytes question ∙ asks.question some;
  properties = λ some. ap items_in properties ∙ asks.properties some;
}

-- ---- the whole

pub merged : (known old new : Option (List ℕ)) (bytes : List ℕ) (parts : Parts) (holds : Bool) (text : List ℕ)
    → IfSome known (λ input. bytes ≡ input)
    → LinesSay (string_bytes parts.question) parts.properties.items (lines_in bytes) parts.parts.items
    → IsWhole parts.parts.items parts.properties.items holds text
    → Appends old new text → IfSome known (λ input. (x : List ℕ) × (IsMerged input holds x × Appends old new x))
merged None old new bytes parts holds text same say whole appends = tt
merged (Some input) old new bytes parts holds text same say whole appends = (
  text,
  (
    record {
      question = string_bytes parts.question;
      properties = parts.properties.items;
      parts = parts.parts.items;
      say = subst (λ (bs : List ℕ). LinesSay (string_bytes parts.question) parts.properties.items
          (lines_in bs) parts.parts.items) same say;
      whole = whole;
    },
    appends,
  ),
)
