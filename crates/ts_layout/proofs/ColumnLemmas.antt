-- Columns in their bytes.
use Rattle.std.proofs.Common.{◌≡◌, ◌-◌, length, refl, IsTrue, arith, length-append, ℕ, List, [], ◌∷◌, ◌++◌, get_or, sym, ap, ◌∙◌, drop, take, append_assoc, replicate, length-drop}
use Rattle.std.specs.List.{list_all}
use Rattle.std.proofs.lemmas.List.{drop_at, take_at, take_all}
use Rattle.std.proofs.lemmas.Bool.Decides.{nat_tests}
use Rattle.ts_base.specs.Name.{is_name}
use Rattle.ts_row.specs.declared.kind.ColumnKind.{ColumnKind}
use Rattle.ts_row.specs.declared.kind.ColumnKind.TheVariants.{SmallInt, Integer, BigInt, Decimal, VarChar}
use Rattle.ts_row.specs.declared.kind.Column.{Column}
use Rattle.ts_row.specs.Row.{Heading}
use Rattle.ts_layout.specs.Slot.{kind_bytes, name_bytes, column_bytes, columns_bytes, padded, row_type_bytes}
use Rattle.ts_layout.specs.Meaning.{IsRowTypeDef}
use Rattle.ts_layout.proofs.FieldLemmas.{length-name_bytes, length-name, row_type_columns}

-- each column has 36 bytes
length-kind_bytes : (kind : ColumnKind) → length (kind_bytes kind) ≡ 3
length-kind_bytes SmallInt = refl
length-kind_bytes Integer = refl
length-kind_bytes BigInt = refl
length-kind_bytes (Decimal digits scale) = refl
length-kind_bytes (VarChar most) = refl

pub length-column_bytes : (c : Column) → IsTrue (is_name c.name) → length (column_bytes c) ≡ 36
length-column_bytes c form =
    omega (arith, length-append (kind_bytes c.kind) (name_bytes c.name), length-kind_bytes c.kind, length-name_bytes c.name (length-name c.name form))

-- the bytes of a column, and its type and name in them
pub column_kind : (c : Column) (bytes : List ℕ) → bytes ≡ column_bytes c → kind_bytes c.kind ≡ get_or bytes 0 0 ∷ get_or bytes 1 0 ∷ get_or bytes 2 0 ∷ []
column_kind c bytes is = kind_first c.kind (name_bytes c.name) ∙ ap (λ (l : List ℕ). get_or l 0 0 ∷ get_or l 1 0 ∷ get_or l 2 0 ∷ []) (sym is) where
  kind_first : (kind : ColumnKind) (rest : List ℕ) → kind_bytes kind ≡ get_or (kind_bytes kind ++ rest) 0 0 ∷ get_or (kind_bytes kind ++ rest) 1 0 ∷ get_or (kind_bytes kind ++ rest) 2 0 ∷ []
  kind_first SmallInt rest = refl
  kind_first Integer rest = refl
  kind_first BigInt rest = refl
  kind_first (Decimal digits scale) rest = refl
  kind_first (VarChar most) rest = refl

pub column_name : (c : Column) (bytes : List ℕ) → bytes ≡ column_bytes c → drop 3 bytes ≡ name_bytes c.name
column_name c bytes is = ap (drop 3) is ∙ drop_at (kind_bytes c.kind) (name_bytes c.name) 3 (length-kind_bytes c.kind)

-- the names of columns are names
abbrev pub AreNamed : List Column → Type 0
AreNamed cs = IsTrue (list_all (λ c. is_name c.name) cs)

pub named_first : (c : Column) (cs : List Column) → AreNamed (c ∷ cs) → IsTrue (is_name c.name)
named_first c cs named = grind (arith, nat_tests)

pub named_others : (c : Column) (cs : List Column) → AreNamed (c ∷ cs) → AreNamed cs
named_others c cs named = grind (arith, nat_tests)

-- the first column in bytes that begin with it
pub first_column : (c : Column) (cs : List Column) (rest bytes : List ℕ) → IsTrue (is_name c.name) → bytes ≡ columns_bytes (c ∷ cs) ++ rest → (take 36 bytes ≡ column_bytes c) × (drop 36 bytes ≡ columns_bytes cs ++ rest)
first_column c cs rest bytes name is =
    let whole : bytes ≡ column_bytes c ++ (columns_bytes cs ++ rest) = is ∙ append_assoc (column_bytes c) (columns_bytes cs) rest in (
      ap (take 36) whole ∙ take_at (column_bytes c) (columns_bytes cs ++ rest) 36 (length-column_bytes c name),
      ap (drop 36) whole ∙ drop_at (column_bytes c) (columns_bytes cs ++ rest) 36 (length-column_bytes c name),
    )

-- the bytes from 68 on of a row type's page
pub behind_stamp : {format : ℕ} (page name : List ℕ) (h : Heading) → IsRowTypeDef format (record { name = name; heading = h }) → page ≡ row_type_bytes name h
    → take (length page - 68) (drop 68 page) ≡ columns_bytes h.columns ++ replicate (4028 - length (columns_bytes h.columns)) 0
unfolding padded
behind_stamp page name h is bytes =
    take_all (length page - 68) (drop 68 page) (omega (arith, length-drop 68 page))
    ∙ ap (drop 68) bytes ∙ row_type_columns name h (length-name name is.name) (length-name h.stamp is.stamp)
