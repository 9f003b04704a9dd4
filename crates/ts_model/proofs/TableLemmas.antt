-- What a table keeps: one slot that is filled or emptied, and memory that is taken.
use Rattle.std.proofs.Common.{◌≡◌, ℕ, zero, suc, ◌+◌, ◌-◌, ◌<◌, ◌≤◌, ◌⊎◌, append_assoc, Bool, true, false, cond, eqb, Option, Some, None, List, [], ◌∷◌, ◌++◌, length, get_or, set, replicate, inl, inr, refl, ap, sym, ◌∙◌, subst, arith, length-append, length-set, get_or-set_same, get_or-set_other, zero-add}
use Rattle.std.proofs.lemmas.Bool.{cases_lt, cases_eq, eqb-true, eq-eqb}
use Rattle.std.proofs.lemmas.List.{get_or_past, append-nil, length-replicate, replicate-append-replicate}
use Rattle.std.specs.List.{insert, remove, position}
use Rattle.std.specs.Option.{IsSome, is_none, option_eq}
use Rattle.std.proofs.lemmas.List.Quantifiers.{position-Some}
use Rattle.ts_model.proofs.OrderLemmas.{total}
use Rattle.std.specs.FinMap.{find, values, from_entries, len, len-empty, len-insert, len-entries, contains_key, insert as insert_entry}
use Rattle.ts_model.specs.Catalogue.{name_cmp}
use Rattle.ts_model.specs.declared.def.Def.{Def}
use Rattle.ts_model.specs.Definitions.{at_slot, name_of, slot_of, vacant_slot, slots_by_name, filled_from, IsTable, IsNewName}
use Rattle.ts_model.specs.Table.{Slots, padded, place_of, lower, IsIndexed, IsRoomy, AreApart}
use Rattle.ts_model.proofs.SlotLemmas.{some≢none, find-filled, find-other, find-missing, filled-padded}
use Rattle.ts_model.proofs.IndexLemmas.{index, index-find, index-slot_of, index-fill, index-clear, index-filled, index-none, index-length, find-position, unshifted}
use Rattle.ts_model.proofs.VacantLemmas.{vacant-clear, vacant-none}

pub none-in : (n i : ℕ) → at_slot {A = Def} i (replicate n None) ≡ None
none-in zero i = refl
none-in (suc n) zero = refl
none-in (suc n) (suc i) = none-in n i

at-behind : (items : List (Option Def)) (n i : ℕ) → at_slot i (items ++ replicate n None) ≡ at_slot i items
at-behind [] n i = none-in n i
at-behind (x ∷ items) n zero = refl
at-behind (x ∷ items) n (suc i) = at-behind items n i

-- the slots behind the first ones are empty
pub at-padded : (count : ℕ) (items : List (Option Def)) (i : ℕ) → at_slot i (padded count items) ≡ at_slot i items
at-padded count items i = at-behind items (count - length items) i

pub filled-within : (items : List (Option Def)) (i : ℕ) (a : Def) → at_slot i items ≡ Some a → i < length items
filled-within items i a here = elim (cases_lt i (length items)) [
  | inl low ↦ low
  | inr high ↦ absurd (some≢none a (sym here ∙ get_or_past items i None high))
]

set-behind : (items : List (Option Def)) (n i : ℕ) (x : Option Def) → i < length items → set items i x ++ replicate n None ≡ set (items ++ replicate n None) i x
set-behind [] n i x within = absurd (omega arith)
set-behind (y ∷ items) n zero x within = refl
set-behind (y ∷ items) n (suc i) x within = ap (λ (l : List (Option Def)). y ∷ l) (set-behind items n i x (omega arith))

pub padded-set : (count : ℕ) (items : List (Option Def)) (i : ℕ) (x : Option Def) → i < length items → padded count (set items i x) ≡ set (padded count items) i x
padded-set count items i x within =
    ap (λ (n : ℕ). set items i x ++ replicate (count - n) None) (length-set items i x) ∙ set-behind items (count - length items) i x within

pub padded-full : (count : ℕ) (items : List (Option Def)) → length items ≡ count → padded count items ≡ items
padded-full count items full =
    let none : count - length items ≡ 0 = omega (arith, full) in
    ap (λ (n : ℕ). items ++ replicate n None) none ∙ append-nil items

pub padded-length : (count : ℕ) (items : List (Option Def)) → length items ≤ count → length (padded count items) ≡ count
padded-length count items size =
    let sum = length-append items (replicate (count - length items) None) in
    let more = length-replicate (count - length items) (let o : Option Def = None in o) in
    omega (arith, sum, more, size)

-- more empty slots at the front's end are fewer behind it
pub padded-longer : (count : ℕ) (items : List (Option Def)) (n : ℕ) → length items + n ≤ count → padded count (items ++ replicate n None) ≡ padded count items
padded-longer count items n few =
    let none : Option Def = None in
    let size = length-append items (replicate n none) in
    let more = length-replicate n none in
    let rest : n + (count - length (items ++ replicate n none)) ≡ count - length items = omega (arith, size, more, few) in
    append_assoc items (replicate n none) (replicate (count - length (items ++ replicate n none)) none)
    ∙ ap (λ (l : List (Option Def)). items ++ l) (replicate-append-replicate n (count - length (items ++ replicate n none)) none)
    ∙ ap (λ (m : ℕ). items ++ replicate m none) rest

-- a table as its callers see it
pub padded-index : (count : ℕ) (items : List (Option Def)) → values (slots_by_name items) ≡ values (slots_by_name (padded count items))
padded-index count items = ap (λ (l : List (List ℕ × ℕ)). values (from_entries {R = name_cmp} l)) (sym (filled-padded name_of (λ slot def. slot) items 0 (count - length items)))

pub padded-table : (count : ℕ) (items : List (Option Def)) → length items ≤ count → AreApart items → IsTable name_of count (padded count items)
padded-table count items size apart = record {
  size = padded-length count items size;
  apart = λ i j a b here there same. apart i j a b (sym (at-padded count items i) ∙ here) (sym (at-padded count items j) ∙ there) same;
}

same-some : (a b : Def) → Some a ≡ Some b → a ≡ b
same-some a b e = cc

-- what stands in another slot stood there before
pub at-other : (items : List (Option Def)) (slot i : ℕ) (a : Def) → at_slot i (set items slot None) ≡ Some a → (i ≡ slot → ⊥) × (at_slot i items ≡ Some a)
at-other items slot i a here = elim (cases_eq i slot) [
  | inl same ↦
      absurd (elim (cases_lt slot (length items)) [
        | inl low ↦ some≢none a (sym here ∙ ap (λ (n : ℕ). at_slot n (set items slot None)) same ∙ get_or-set_same items slot None None low)
        | inr high ↦
            let size = length-set items slot (let o : Option Def = None in o) in
            some≢none a (sym here ∙ get_or_past (set items slot None) i None (omega (arith, size, same, high)))
      ])
  | inr other ↦ (other, sym (get_or-set_other items slot i None None other) ∙ here)
]

pub apart-clear : (items : List (Option Def)) (slot : ℕ) → AreApart items → AreApart (set items slot None)
apart-clear items slot apart i j a b here there same = apart i j a b (at-other items slot i a here).1 (at-other items slot j b there).1 same

-- no slot has a name that none is found under
pub nowhere : (count : ℕ) (items : List (Option Def)) (q : List ℕ) → slot_of q (padded count items) ≡ None → (i : ℕ) (a : Def) → at_slot i items ≡ Some a → q ≡ name_of a → ⊥
nowhere count items q none = find-missing name_of (λ slot def. slot) items 0 q (sym (index-find items q) ∙ index-slot_of count items q ∙ none)

pub slot_of-find : (table : List (Option Def)) (q : List ℕ) → find name_cmp q (filled_from name_of (λ slot def. slot) 0 table) ≡ slot_of q table
slot_of-find table q = find-position table 0 q ∙ unshifted (slot_of q table)

-- the name of no other slot is that of none once the slot is empty
pub new-name : (table : List (Option Def)) (slot : ℕ) (q : List ℕ) → AreApart table → IsNewName q slot table → slot_of q (set table slot None) ≡ None
new-name table slot q apart new =
    sym (slot_of-find (set table slot None) q) ∙ find-other name_of (λ slot def. slot) (set table slot None) 0 q (λ i a here same.
    let there = at-other table slot i a here in
    elim new [
      | inl none ↦ find-missing name_of (λ slot def. slot) table 0 q (slot_of-find table q ∙ none) i a there.1 same
      | inr only ↦
          let holder = find-filled name_of (λ slot def. slot) table 0 q slot (slot_of-find table q ∙ only) in
          there.0 (apart i holder.0 a holder.1 there.1 holder.2 (sym same ∙ holder.3) ∙ sym (holder.4 ∙ zero-add holder.0))
    ])

pub at-filled : (items : List (Option Def)) (slot i : ℕ) (a b : Def) → slot < length items → at_slot i (set items slot (Some a)) ≡ Some b → ((i ≡ slot) × (b ≡ a)) ⊎ ((i ≡ slot → ⊥) × (at_slot i items ≡ Some b))
at-filled items slot i a b within here = elim (cases_eq i slot) [
  | inl same ↦ inl (same, same-some b a (sym here ∙ ap (λ (n : ℕ). at_slot n (set items slot (Some a))) same ∙ get_or-set_same items slot (Some a) None within))
  | inr other ↦ inr (other, sym (get_or-set_other items slot i (Some a) None other) ∙ here)
]

pub apart-fill : (items : List (Option Def)) (slot : ℕ) (a : Def) → slot < length items → AreApart items → ((i : ℕ) (b : Def) → at_slot i items ≡ Some b → name_of a ≡ name_of b → ⊥) → AreApart (set items slot (Some a))
apart-fill items slot a within apart new i j b c here there same =
    elim (at-filled items slot i a b within here) [
      | inl one ↦ elim (at-filled items slot j a c within there) [
        | inl two ↦ one.0 ∙ sym two.0
        | inr two ↦ absurd (new j c two.1 (ap name_of (sym one.1) ∙ same))
      ]
      | inr one ↦ elim (at-filled items slot j a c within there) [
        | inl two ↦ absurd (new i b one.1 (sym (same ∙ ap name_of two.1)))
        | inr two ↦ apart i j b c one.1 two.1 same
      ]
    ]

-- a filled slot is emptied
pub kept-clear : (count : ℕ) (items : List (Option Def)) (order : List ℕ) (vacant : Option ℕ) (room : Bool) (slot place : ℕ) (a : Def) → IsIndexed count items order vacant room → at_slot slot items ≡ Some a → place ≡ place_of (name_of a) (index items)
    → IsIndexed count (set items slot None) (remove order place) (Some (lower vacant slot)) room
kept-clear count items order vacant room slot place a kept here at =
    let within = filled-within items slot a here in
    let size = length-set items slot (let o : Option Def = None in o) in
    let all = padded-length count items kept.size in
    record {
      most = kept.most;
      size = (let few = kept.size in omega (arith, size, few));
      apart = apart-clear items slot kept.apart;
      index = ap (remove order) at ∙ index-clear items order slot a kept.index kept.apart here;
      lowest =
          ap (λ (o : Option ℕ). Some (lower o slot)) kept.lowest
          ∙ sym (vacant-clear (padded count items) slot (let few = kept.size in omega (arith, all, few, within))) ∙ ap (vacant_slot {A = Def}) (sym (padded-set count items slot None within));
      taken = λ none. absurd (let e = ap length (kept.taken none) in omega (arith, e, within));
    }

-- an empty slot is filled
pub kept-fill : (count : ℕ) (items : List (Option Def)) (order : List ℕ) (vacant lowest : Option ℕ) (room : Bool) (slot place : ℕ) (a : Def) → IsIndexed count items order vacant room → slot < length items → at_slot slot items ≡ None → slot_of (name_of a) (padded count items) ≡ None
    → place ≡ place_of (name_of a) (index items) → lowest ≡ vacant_slot (padded count (set items slot (Some a)))
    → IsIndexed count (set items slot (Some a)) (insert order place slot) lowest room
kept-fill count items order vacant lowest room slot place a kept within empty new at low =
    let size = length-set items slot (Some a) in
    let none : find name_cmp (name_of a) (index items) ≡ None = index-slot_of count items (name_of a) ∙ new in
    record {
      most = kept.most;
      size = (let few = kept.size in omega (arith, size, few));
      apart = apart-fill items slot a within kept.apart (nowhere count items (name_of a) new);
      index = ap (λ (p : ℕ). insert order p slot) at ∙ index-fill items order slot a kept.index within empty none;
      lowest = low;
      taken = λ none. absurd (let e = ap length (kept.taken none) in omega (arith, e, within));
    }

-- empty slots come behind the first ones
pub kept-longer : (count : ℕ) (items : List (Option Def)) (order : List ℕ) (vacant : Option ℕ) (n : ℕ) → IsIndexed count items order vacant true → length items + n ≤ count
    → IsIndexed count (items ++ replicate n None) order vacant true
kept-longer count items order vacant n kept few =
    let none : Option Def = None in
    record {
      most = kept.most;
      size = omega (arith, length-append items (replicate n none), length-replicate n none, few);
      apart = λ i j a b here there same. kept.apart i j a b (sym (at-behind items n i) ∙ here) (sym (at-behind items n j) ∙ there) same;
      index = kept.index ∙ ap (λ (l : List (List ℕ × ℕ)). values (from_entries {R = name_cmp} l)) (sym (filled-padded name_of (λ slot def. slot) items 0 n));
      lowest = kept.lowest ∙ ap (vacant_slot {A = Def}) (sym (padded-longer count items n few));
      taken = λ none. absurd (cc);
    }

-- memory is taken for all slots
pub kept-roomy : (count : ℕ) (items : List (Option Def)) (order : List ℕ) (vacant : Option ℕ) (room : Bool) → IsIndexed count items order vacant room → IsIndexed count items order vacant true
kept-roomy count items order vacant room kept = record {
  most = kept.most;
  size = kept.size;
  apart = kept.apart;
  index = kept.index;
  lowest = kept.lowest;
  taken = λ none. absurd (cc);
}

-- a table with the same slots and the same index
pub kept-copied : (count : ℕ) (items made : List (Option Def)) (order sorted : List ℕ) (vacant : Option ℕ) (room : Bool) → IsIndexed count items order vacant room → made ≡ items → sorted ≡ order → IsIndexed count made sorted vacant room
kept-copied count items made order sorted vacant room is same also =
    subst (λ (l : List (Option Def)). IsIndexed count l sorted vacant room) (sym same) (subst (λ (l : List ℕ). IsIndexed count items l vacant room) (sym also) is)

-- no memory was taken yet
pub kept-new : (count : ℕ) → 0 < count → count ≤ 4096 → IsIndexed count [] [] (Some 0) false
kept-new count some most = record {
  most = most;
  size = omega arith;
  apart = λ i j a b here there same. absurd (some≢none a (sym here));
  index = sym (index-none 0);
  lowest = sym (ap (λ (n : ℕ). vacant_slot {A = Def} (replicate (count - n) None)) refl ∙ vacant-none (count - 0) (omega (arith, some)));
  taken = λ none. refl;
}

pub no-memory : (count capacity order_capacity : ℕ) → IsRoomy count false capacity order_capacity
no-memory count capacity order_capacity = record { slots = λ taken. absurd (cc); order = λ taken. absurd (cc) }

-- more memory
pub more-memory : (count : ℕ) (room : Bool) (capacity order_capacity more order_more : ℕ) → IsRoomy count room capacity order_capacity → capacity ≤ more → order_capacity ≤ order_more → IsRoomy count room more order_more
more-memory count room capacity order_capacity more order_more is grown order_grown = record {
  slots = λ taken. let enough = is.slots taken in omega (arith, enough, grown);
  order = λ taken. let enough = is.order taken in omega (arith, enough, order_grown);
}

-- what a caller knows of a table, said of what it keeps
pub record Fillable (count : ℕ) (items : List (Option Def)) (room : Bool) (slot : ℕ) (q : List ℕ) : Type 0 where
  pub taken : room ≡ true
  pub below : slot < count
  pub empty : at_slot slot items ≡ None
  pub new : slot_of q (padded count items) ≡ None

pub fillable : (t : Slots) (count : ℕ) (items : List (Option Def)) (room : Bool) (slot : ℕ) (q : List ℕ) → record { count = count; slots = padded count items; room = room } ≡ t → slot < t.count → at_slot slot t.slots ≡ None → slot_of q t.slots ≡ None → t.room ≡ true
    → Fillable count items room slot q
fillable t count items room slot q view below empty new taken = record {
  taken = ap (λ (u : Slots). u.room) view ∙ taken;
  below = (let same : count ≡ t.count = ap (λ (u : Slots). u.count) view in omega (arith, same, below));
  empty = sym (at-padded count items slot) ∙ ap (λ (u : Slots). at_slot slot u.slots) view ∙ empty;
  new = ap (λ (u : Slots). slot_of q u.slots) view ∙ new;
}

-- what is known of such a table once it has slots up to this one
pub record Long (count : ℕ) (first items : List (Option Def)) (order : List ℕ) (vacant : Option ℕ) (slot : ℕ) (q : List ℕ) : Type 0 where
  pub kept : IsIndexed count items order vacant true
  pub same : padded count items ≡ padded count first
  pub within : slot < length items
  pub empty : at_slot slot items ≡ None
  pub new : slot_of q (padded count items) ≡ None

pub long : (count : ℕ) (items longer : List (Option Def)) (order : List ℕ) (vacant : Option ℕ) (room : Bool) (slot : ℕ) (q : List ℕ) → IsIndexed count items order vacant room → Fillable count items room slot q
    → slot < length longer → longer ≡ items ++ replicate (slot + 1 - length items) None → Long count items longer order vacant slot q
long count items longer order vacant room slot q is f within same =
    let n : ℕ = slot + 1 - length items in
    let most = is.size in
    let below = f.below in
    let few : length items + n ≤ count = omega (arith, most, below) in
    record {
      kept = subst (λ (l : List (Option Def)). IsIndexed count l order vacant true) (sym same) (kept-longer count items order vacant n (kept-roomy count items order vacant room is) few);
      same = ap (padded count) same ∙ padded-longer count items n few;
      within = within;
      empty = ap (at_slot slot) same ∙ at-behind items n slot ∙ f.empty;
      new = ap (λ (l : List (Option Def)). slot_of q (padded count l)) same ∙ ap (slot_of q) (padded-longer count items n few) ∙ f.new;
    }

filled-most : (table : List (Option Def)) (first : ℕ) → length (filled_from name_of (λ slot def. slot) first table) ≤ length table
filled-most [] first = omega arith
filled-most (None ∷ table) first = let rest = filled-most table (first + 1) in omega (arith, rest)
filled-most (Some a ∷ table) first = let rest = filled-most table (first + 1) in omega (arith, rest)

-- fewer slots are filled than there are, where one is empty
filled-count : (table : List (Option Def)) (first slot : ℕ) → slot < length table → at_slot slot table ≡ None → length (filled_from name_of (λ slot def. slot) first table) < length table
filled-count [] first slot within empty = absurd (omega arith)
filled-count (None ∷ table) first slot within empty = let rest = filled-most table (first + 1) in omega (arith, rest)
filled-count (Some a ∷ table) first zero within empty = absurd (some≢none a empty)
filled-count (Some a ∷ table) first (suc slot) within empty = let rest = filled-count table (first + 1) slot (omega arith) empty in omega (arith, rest)

map-most : (es : List (List ℕ × ℕ)) → len (from_entries {R = name_cmp} es) ≤ length es
map-most [] = let none = len-empty name_cmp ℕ in omega (arith, none)
map-most (e ∷ es) =
    let rest = map-most es in
    let one = len-insert total (from_entries {R = name_cmp} es) e.0 e.1 in
    elim (contains_key (from_entries {R = name_cmp} es) e.0) as (λ (b : Bool). len (insert_entry (from_entries {R = name_cmp} es) e.0 e.1) ≡ cond b (len (from_entries {R = name_cmp} es)) (len (from_entries {R = name_cmp} es) + 1) → len (insert_entry (from_entries {R = name_cmp} es) e.0 e.1) ≤ suc (length es)) [
      | true ↦ λ h. omega (arith, h, rest)
      | false ↦ λ h. omega (arith, h, rest)
    ] one

pub index-room : (items : List (Option Def)) (order : List ℕ) (slot : ℕ) → order ≡ values (slots_by_name items) → slot < length items → at_slot slot items ≡ None → length order < length items
index-room items order slot same within empty =
    let size : length order ≡ length (index items) = ap length same ∙ index-length items in
    let most = map-most (filled_from name_of (λ slot def. slot) 0 items) in
    let is = len-entries (slots_by_name items) in
    let few = filled-count items 0 slot within empty in
    omega (arith, size, most, is, few)

some-else : (o : Option Def) → is_none o ≡ false → IsSome o
some-else None h = absurd (cc)
some-else (Some a) h = refl

-- the slots up to the lowest empty one are filled once that is
pub lowest-filled : (items : List (Option Def)) (slot : ℕ) (a : Def) → vacant_slot items ≡ Some slot → (i : ℕ) → i ≤ slot → IsSome (at_slot i (set items slot (Some a)))
lowest-filled items slot a lowest i upto =
    let there = position-Some is_none items slot None lowest in
    elim (cases_lt i slot) [
      | inl low ↦ subst (λ (x : Option Def). IsSome x) (sym (get_or-set_other items slot i (Some a) None (λ same. let no : i ≡ slot = same in absurd (omega (arith, no, low))))) (some-else (at_slot i items) (there.2 i low))
      | inr high ↦
          let same : i ≡ slot = omega arith in
          subst (λ (x : Option Def). IsSome x) (sym (ap (λ (n : ℕ). at_slot n (set items slot (Some a))) same ∙ get_or-set_same items slot (Some a) None there.0)) refl
    ]

pub lowest-filled-first : (count : ℕ) (items : List (Option Def)) (slot : ℕ) (a : Def) → slot < length items → vacant_slot (padded count items) ≡ Some slot → (i : ℕ) → i ≤ slot → IsSome (at_slot i (set items slot (Some a)))
lowest-filled-first count items slot a within lowest i upto =
    let same = ap (λ (l : List (Option Def)). at_slot i l) (sym (padded-set count items slot (Some a) within)) ∙ at-padded count (set items slot (Some a)) i in
    subst (λ (x : Option Def). IsSome x) same (lowest-filled (padded count items) slot a lowest i upto)

pub option-same : (o : Option ℕ) (n : ℕ) → option_eq eqb o (Some n) ≡ true → o ≡ Some n
option-same None n h = absurd (cc)
option-same (Some m) n h = ap (λ (k : ℕ). Some k) (eqb-true m n h)

pub option-other : (o : Option ℕ) (n : ℕ) → option_eq eqb o (Some n) ≡ false → o ≡ Some n → ⊥
option-other o n h same =
    let tie : option_eq eqb o (Some n) ≡ true = ap (λ (p : Option ℕ). option_eq eqb p (Some n)) same ∙ eq-eqb n n refl in
    absurd (cc)

-- a slot that a search gives is one of the table
pub slot-within : (p : Option Def → Bool) (table : List (Option Def)) (count slot : ℕ) → length table ≡ count → position p table ≡ Some slot → slot < count
slot-within p table count slot size found = let there = (position-Some p table slot None found).0 in omega (arith, size, there)

-- what stands in the slots of the index
pub order-filled : (count : ℕ) (items : List (Option Def)) (order : List ℕ) (k : ℕ) → order ≡ values (slots_by_name items) → k < length order → IsSome (at_slot (get_or order k 0) (padded count items))
order-filled count items order k same within =
    subst (λ (o : Option Def). IsSome o) (sym (at-padded count items (get_or order k 0))) (index-filled items order k same within)

some-in : (o : Option Def) → IsSome o → (a : Def) × (o ≡ Some a)
some-in None h = absurd (cc)
some-in (Some a) h = (a, refl)

pub order-within : (count : ℕ) (items : List (Option Def)) (order : List ℕ) (k : ℕ) → length items ≤ count → order ≡ values (slots_by_name items) → k < length order → get_or order k 0 < count
order-within count items order k size same within =
    let there = some-in (at_slot (get_or order k 0) (padded count items)) (order-filled count items order k same within) in
    let low = filled-within (padded count items) (get_or order k 0) there.0 there.1 in
    let all = padded-length count items size in
    omega (arith, low, all)
