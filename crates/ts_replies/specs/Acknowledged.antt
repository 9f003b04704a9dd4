-- What is acknowledged, and what a stop may leave beside it.
use Rattle.std.specs.Prelude.{◌≡◌, ◌⊎◌, ℕ, ◌+◌, ◌==◌, if◌then◌else◌, List, [], ◌∷◌, ◌++◌, length, Option, Some, None}
use Rattle.std.specs.Prelude.{codes}

-- What was said, read as replies to a list of items. The catalogue, the item and what answers it are left open.

-- the line that may stand in the place of a reply for want of memory
abbrev pub memory_line : List ℕ
memory_line = codes "error 90 Memory\n"

-- what stands behind this reply, where it is said in whole
abbrev pub behind : List ℕ → List ℕ → Option (List ℕ)
behind [] said = Some said
behind (b ∷ reply) [] = None
behind (b ∷ reply) (c ∷ said) = if b == c then behind reply said else None

-- the text begins so
abbrev pub IsFront : List ℕ → List ℕ → Type 0
IsFront front text = (more : List ℕ) × (text ≡ front ++ more)

-- the replies heard: how many, the catalogue after them, the items that wait for one, and what else was said
pub record Heard (C I : Type 0) : Type 0 where
  pub count : ℕ
  pub catalogue : C
  pub waiting : List I
  pub rest : List ℕ

-- A catalogue answers an item by a reply and a new catalogue.
abbrev pub Answer : Type 0 → Type 0 → Type 0
Answer C I = C → I → List ℕ × C

-- How the items of a script are answered, and what an image means.
pub record Protocol (C I : Type 0) : Type 1 where
  pub answer : Answer C I
  -- the line that may stand in the place of the reply for want of memory, where one may
  pub stand_in : I → Option (List ℕ)
  pub means : List ℕ → C → Type 0

-- the first that is there: what stands behind the reply, with the next catalogue, or behind the memory line, with this
-- one
abbrev pub first_heard : {C : Type 0} → C → C → Option (List ℕ) → Option (List ℕ) → Option (C × List ℕ)
first_heard next cat (Some rest) memory = Some (next, rest)
first_heard next cat None (Some rest) = Some (cat, rest)
first_heard next cat None None = None

-- what stands behind this line, if there is one
abbrev pub behind_stand_in : Option (List ℕ) → List ℕ → Option (List ℕ)
behind_stand_in None said = None
behind_stand_in (Some line) said = behind line said

-- after a whole reply to the item, or the line in its place: the catalogue, and what stands behind
abbrev pub hear : {C I : Type 0} → Protocol C I → C → I → List ℕ → Option (C × List ℕ)
hear p cat item said = first_heard (p.answer cat item).1 cat (behind (p.answer cat item).0 said)
    (behind_stand_in (p.stand_in item) said)

-- one reply more
abbrev pub one_more : {C I : Type 0} → Heard C I → Heard C I
one_more h = record h { count = h.count + 1 }

-- the whole replies at the front of what was said, one item after the other
abbrev pub heard : {C I : Type 0} → Protocol C I → C → List I → List ℕ → Heard C I
heard p cat [] said = record { count = 0; catalogue = cat; waiting = []; rest = said }
heard p cat (item ∷ items) said =
    elim (hear p cat item said) [
      | Some after ↦ one_more (heard p after.0 items after.1)
      | None ↦ record { count = 0; catalogue = cat; waiting = item ∷ items; rest = said }
    ]

-- what else was said is the front of a reply that the next item may have, and nothing where there is no next item
abbrev pub CanFollow : {C I : Type 0} → Protocol C I → C → List I → List ℕ → Type 0
CanFollow p cat [] rest = rest ≡ []
CanFollow p cat (item ∷ items) rest = IsFront rest (p.answer cat item).0
    ⊎ ((line : List ℕ) × (p.stand_in item ≡ Some line) × IsFront rest line)

-- what was said is replies to the items in their order, the last of them perhaps in part
abbrev pub IsFair : {C I : Type 0} → Protocol C I → C → List I → List ℕ → Type 0
IsFair p cat items said = let h = heard p cat items said in CanFollow p h.catalogue h.waiting h.rest

-- every item has its whole reply, and this is the catalogue after them
abbrev pub AllAnswered : {C I : Type 0} → Protocol C I → C → List I → List ℕ → C → Type 0
AllAnswered p cat items said last =
    heard p cat items said ≡ record { count = length items; catalogue = last; waiting = []; rest = [] }

-- one step: the answer, or the line in its place, which changes nothing
abbrev pub IsStep : {C I : Type 0} → Protocol C I → C → I → List ℕ → C → Type 0
IsStep p cat item reply next =
    ((reply ≡ (p.answer cat item).0) × (next ≡ (p.answer cat item).1)) ⊎ ((p.stand_in item ≡ Some reply) × (next ≡ cat))

-- The replies and the memory line tell one another apart: none begins with the other, and none is empty.
pub record AreApart {C I : Type 0} (answer : Answer C I) : Type 0 where
  pub memory : (cat : C) (item : I) (x : List ℕ) → behind (answer cat item).0 (memory_line ++ x) ≡ None
  pub reply : (cat : C) (item : I) → behind memory_line (answer cat item).0 ≡ None

-- The replies and the lines in their place tell one another apart: none begins with the other, and no reply is empty.
pub record TellsApart {C I : Type 0} (p : Protocol C I) : Type 0 where
  pub line : (cat : C) (item : I) (line x : List ℕ) → p.stand_in item ≡ Some line
      → behind (p.answer cat item).0 (line ++ x) ≡ None
  pub reply : (cat : C) (item : I) (line : List ℕ) → p.stand_in item ≡ Some line → behind line (p.answer cat item).0
      ≡ None
  pub some : (cat : C) (item : I) → behind (p.answer cat item).0 [] ≡ None

-- What a stop may leave beside what was said.

-- an image keeps the catalogue, or the one after the next item
abbrev pub IsNowOrNext : {C I : Type 0} → Protocol C I → (C → Type 0) → C → List I → Type 0
IsNowOrNext p keeps cat [] = keeps cat
IsNowOrNext p keeps cat (item ∷ items) = keeps cat ⊎ keeps (p.answer cat item).1

-- what was said is fair, and the image keeps the catalogue after exactly the acknowledged items, or these and the next
pub record IsGood {C I : Type 0} (p : Protocol C I) (keeps : C → Type 0) (cat : C) (items : List I)
    (said : List ℕ) : Type 0 where
  pub fair : IsFair p cat items said
  pub kept : IsNowOrNext p keeps (heard p cat items said).catalogue (heard p cat items said).waiting

-- A moment is an image and the bytes said by then. It is good from these bytes on.
abbrev pub IsGoodMoment : {C I : Type 0} → Protocol C I → C → List I → List ℕ → List ℕ → List ℕ → Type 0
IsGoodMoment p cat items before image said =
    (gained : List ℕ) × (said ≡ before ++ gained) × IsGood p (p.means image) cat items gained
