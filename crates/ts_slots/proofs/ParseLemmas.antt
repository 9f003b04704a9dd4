-- The one definition whose bytes these may be.
use Rattle.std.proofs.Common.{◌≡◌, ℕ, ◌-◌, ◌≤◌, ◌&&◌, Bool, true, false, Option, Some, None, List, [], ◌∷◌, ◌++◌, length, take, drop, replicate, IsTrue, refl, sym, ap, ◌∙◌, arith, append_assoc}
use Rattle.std.proofs.lemmas.Bool.Decides.{nat_tests}
use Rattle.std.proofs.lemmas.List.{append-nil, take-append-drop}
use Rattle.ts_base.specs.Name.{is_name, is_key, name_if_any, key_if_any}
use Rattle.ts_row.specs.Row.{is_row_type, keep_rules, may_follow, bad_column}
use Rattle.ts_row.specs.declared.kind.Column.{Column}
use Rattle.ts_row.proofs.RowTypeLemmas.{keep_rules-push, bad_column-none}
use Rattle.ts_model.specs.declared.def.Def.{Def}
use Rattle.ts_model.specs.Definitions.{kind_of}
use Rattle.ts_model.specs.declared.kind.Kind.{Kind}
use Rattle.ts_slots.specs.declared.slot.Reading.TheVariants.{Bad, Empty}
use Rattle.ts_layout.specs.Slot.{column_bytes, columns_bytes, def_bytes, slot_bytes, slot_size}
use Rattle.ts_slots.specs.Reading.{IsReadingOf}
use Rattle.ts_layout.specs.Meaning.{IsDef}
use Rattle.ts_layout.proofs.CallerLemmas.{AreNamed, named_first, named_others, first_column, slot_empty, slot_filled}

-- what is two things is one
pub one : {A : Type 0} (o : Option A) (a b : A) → o ≡ Some a → o ≡ Some b → a ≡ b
one o a b first second = cc

pub none_some : {A : Type 0} {P : Type 0} (o : Option A) (a : A) → o ≡ None → o ≡ Some a → P
none_some o a none some = absurd (cc)

-- a test does not come out both ways
pub both_ways : {b : Bool} → b ≡ true → b ≡ false → ⊥
both_ways t f = let e : true ≡ false = sym t ∙ f in cc

-- a name and a key are read as they are
pub name_is : (text name : List ℕ) → text ≡ name → IsTrue (is_name name) → name_if_any text ≡ Some name
name_is text name is form = ap name_if_any is ∙ rw form refl

pub key_is : (text key : List ℕ) → text ≡ key → IsTrue (is_key key) → key_if_any text ≡ Some key
key_is text key is form = ap key_if_any is ∙ rw form refl

-- bytes that begin with those of some columns begin with those of the first
pub record Split (cs : List Column) (rest bytes : List ℕ) (count : ℕ) : Type 0 where
  pub first : Column
  pub others : List Column
  pub is : cs ≡ first ∷ others
  pub name : IsTrue (is_name first.name)
  pub names : AreNamed others
  pub fewer : length others ≡ count - 1
  pub front : take 36 bytes ≡ column_bytes first
  pub behind : drop 36 bytes ≡ columns_bytes others ++ rest

pub split : (cs : List Column) (rest bytes : List ℕ) (count : ℕ) → length cs ≡ count → (count ≡ 0 → ⊥) → AreNamed cs → bytes ≡ columns_bytes cs ++ rest → Split cs rest bytes count
split [] rest bytes count long some named is = absurd (some (sym long))
split (c ∷ cs) rest bytes count long some named is =
    let name = named_first c cs named in
    let both = first_column c cs rest bytes name is in
    record {
      first = c;
      others = cs;
      is = refl;
      name = name;
      names = named_others c cs named;
      fewer = omega arith;
      front = both.0;
      behind = both.1;
    }

-- the first columns of a row type keep its rules
keep_rules-front : (stamp : List ℕ) (xs ys : List Column) → keep_rules stamp (xs ++ ys) ≡ true → keep_rules stamp xs ≡ true
keep_rules-front stamp xs [] kept = ap (keep_rules stamp) (sym (append-nil xs)) ∙ kept
keep_rules-front stamp xs (y ∷ ys) kept =
    let more = keep_rules-front stamp (xs ++ y ∷ []) ys (ap (keep_rules stamp) (append_assoc xs (y ∷ []) ys) ∙ kept) in
    and_left (keep_rules stamp xs) (may_follow stamp xs y) (sym (keep_rules-push stamp xs y) ∙ more) where
      and_left : (a b : Bool) → (a && b) ≡ true → a ≡ true
      and_left true b both = refl
      and_left false b both = cc

-- a row type has no bad column
pub good_columns : (stamp : List ℕ) (columns : List Column) → IsTrue (is_row_type stamp columns) → bad_column stamp columns ≡ None
good_columns stamp columns is =
    let kept : keep_rules stamp columns ≡ true = grind (arith, nat_tests) in
    let some : 1 ≤ length columns = grind (arith, nat_tests) in
    bad_column-none stamp columns some
    (λ k less. keep_rules-front stamp (take k columns) (drop k columns) (ap (keep_rules stamp) (take-append-drop k columns) ∙ kept))

-- at most 32 of them
pub few_columns : (stamp : List ℕ) (columns : List Column) → IsTrue (is_row_type stamp columns) → length columns ≤ 32
few_columns stamp columns is = grind (arith, nat_tests)

-- zeros are an empty slot
pub reads_empty : (format : ℕ) (kind : Kind) (bytes : List ℕ) → length bytes ≡ slot_size kind → bytes ≡ replicate (length bytes) 0 → IsReadingOf format kind bytes Empty
reads_empty format kind bytes size zeros = zeros ∙ ap (λ n. replicate n 0) size ∙ sym (slot_empty kind)

-- an empty slot is zeros
pub not_empty : (kind : Kind) (bytes : List ℕ) → length bytes ≡ slot_size kind → (bytes ≡ replicate (length bytes) 0 → ⊥) → bytes ≡ slot_bytes kind None → ⊥
not_empty kind bytes size some same = some (same ∙ slot_empty kind ∙ ap (λ n. replicate n 0) (sym size))

-- bytes that are neither zeros nor a definition's are no slot
pub reads_bad : (format : ℕ) (kind : Kind) (bytes : List ℕ) → length bytes ≡ slot_size kind → (bytes ≡ replicate (length bytes) 0 → ⊥)
    → ((def : Def) → kind_of def ≡ kind → IsDef format def → bytes ≡ def_bytes def → ⊥) → IsReadingOf format kind bytes Bad
reads_bad format kind bytes size some other None is same = not_empty kind bytes size some same
reads_bad format kind bytes size some other (Some def) is same = other def is.0 is.1 (same ∙ slot_filled kind def)
