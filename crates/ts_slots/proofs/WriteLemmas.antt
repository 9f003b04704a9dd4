-- A slot written into its page.
use Rattle.std.proofs.Common.{◌≡◌, ◌≢◌, ℕ, ◌+◌, ◌-◌, ◌*◌, ◌/◌, ◌%◌, ◌<◌, ◌≤◌, ◌==◌, Bool, true, false, nat_lt, if◌then◌else◌, Option, Some, None, Result, Ok, Err, IsTrue, IfSome, OnOk, OnErr, List, ◌++◌, length, take, drop, replicate, refl, sym, ap, subst, ◌∙◌, arith, append_assoc, length-append, length-drop, inl, inr, ◌⊎◌, lit≤}
use Rattle.std.proofs.lemmas.Bool.Decides.{nat_tests}
use Rattle.std.proofs.lemmas.Bool.{cases_lt, cases_eq}
use Rattle.std.proofs.lemmas.List.{take_at, drop_at, take-take, take-append-le, drop-drop, length-take-le}
use Rattle.std.proofs.lemmas.Slice.{between_is}
use Rattle.ts_base.specs.declared.fault.StoreFault.{StoreFault}
use Rattle.ts_page.specs.Pages.{bytes_at, Contents, EqualPages, with_page, IsLawful, IsListed, Got, Put}
use Rattle.std.specs.Prelude.{Contains}
use Rattle.std.proofs.lemmas.List.Elements.{All-contains}
use Rattle.ts_layout.proofs.CallerLemmas.{slot_empty, this_or_other, apart_by_rank, sizes, def_at-with_slot, def_at-cleared, def_at-other, page_low, page_high, slot_end}
use Rattle.ts_model.specs.declared.kind.Kind.{Kind}
use Rattle.ts_model.specs.declared.kind.Kind.TheVariants as kinds
use Rattle.ts_model.specs.declared.def.Def.{Def}
use Rattle.ts_model.specs.Definitions.{Definitions, kind_of, limit, slots, with_slot, IsDefinitions}
use Rattle.ts_layout.specs.Slot.{slot_size, slot_bytes, page_of_slot, byte_of_slot, slots_in_page, bytes_of_slots}
use Rattle.ts_layout.specs.Meaning.{def_at, bytes_of_slot, HoldsDefinitions}
use Rattle.ts_layout.specs.Changed.{with_slot_bytes}
use Rattle.ts_slots.specs.Writing.{SlotWritten}

-- bytes that were written, those below and those above them
same_bytes : (at size : ℕ) (page slot : List ℕ) → at + size ≤ length page → length slot ≡ size → bytes_at at size (take at page ++ (slot ++ drop (at + size) page)) ≡ slot
same_bytes at size page slot room wide =
    ap (take size) (drop_at (take at page) (slot ++ drop (at + size) page) at (length-take-le at page (omega arith))) ∙ take_at slot (drop (at + size) page) size wide

-- a part is what a longer front has from some byte on
part : (at size : ℕ) (page : List ℕ) → bytes_at at size page ≡ drop at (take (at + size) page)
part at size page = ap (λ (n : ℕ). take n (drop at page)) (let e : size ≡ at + size - at = omega arith in e) ∙ between_is page at (at + size)

bytes_below : (at size at' size' : ℕ) (page slot : List ℕ) → at' + size' ≤ at → at + size ≤ length page → bytes_at at' size' (take at page ++ (slot ++ drop (at + size) page)) ≡ bytes_at at' size' page
bytes_below at size at' size' page slot below room =
    let long : length (take at page) ≡ at = length-take-le at page (omega arith) in
    let within : at' + size' ≤ length (take at page) = omega arith in
    part at' size' (take at page ++ (slot ++ drop (at + size) page))
    ∙ ap (drop at') (take-append-le (at' + size') (take at page) (slot ++ drop (at + size) page) within ∙ take-take (at' + size') at page below)
    ∙ sym (part at' size' page)

drop_past : (at size : ℕ) (page slot : List ℕ) → at + size ≤ length page → length slot ≡ size → drop (at + size) (take at page ++ (slot ++ drop (at + size) page)) ≡ drop (at + size) page
drop_past at size page slot room wide =
    let long : length (take at page ++ slot) ≡ at + size = omega (arith, length-append (take at page) slot, length-take-le at page (omega arith)) in
    ap (drop (at + size)) (sym (append_assoc (take at page) slot (drop (at + size) page))) ∙ drop_at (take at page ++ slot) (drop (at + size) page) (at + size) long

drop_above : (at size from : ℕ) (page slot : List ℕ) → at + size ≤ from → at + size ≤ length page → length slot ≡ size → drop from (take at page ++ (slot ++ drop (at + size) page)) ≡ drop from page
drop_above at size from page slot above room wide =
    let more : at + size + (from - (at + size)) ≡ from = omega arith in
    let l : List ℕ = take at page ++ (slot ++ drop (at + size) page) in
    ap (λ (n : ℕ). drop n l) (sym more) ∙ sym (drop-drop (from - (at + size)) (at + size) l) ∙ ap (drop (from - (at + size))) (drop_past at size page slot room wide)
    ∙ drop-drop (from - (at + size)) (at + size) page ∙ ap (λ (n : ℕ). drop n page) more

-- two slots of one page don't overlap
pub record Apart (at size at' size' : ℕ) : Type 0 where
  pub either : (at' + size' ≤ at) ⊎ (at + size ≤ at')

apart_in : (kind : Kind) (slot slot' : ℕ) → slot < limit kind → slot' < limit kind → page_of_slot kind slot ≡ page_of_slot kind slot' → (slot' ≡ slot → ⊥) → Apart (byte_of_slot kind slot) (slot_size kind) (byte_of_slot kind slot') (slot_size kind)
apart_in kinds.RowType slot slot' is is' page other = absurd (other (omega arith))
apart_in kinds.Pattern slot slot' is is' page other = absurd (other (omega arith))
apart_in kinds.Calendar slot slot' is is' page other = absurd (other (omega arith))
apart_in kinds.Container slot slot' is is' page other =
    record { either = elim (cases_lt slot' slot) [ inl below ↦ inl (omega arith) | inr above ↦ inr (apart_above slot slot' above other) ] } where
      apart_above : (slot slot' : ℕ) → slot ≤ slot' → (slot' ≡ slot → ⊥) → 60 * slot + 60 ≤ 60 * slot'
      apart_above slot slot' above other = elim (cases_eq slot' slot) [ inl same ↦ absurd (other same) | inr differ ↦ omega arith ]
apart_in kinds.Series slot slot' is is' page other =
    record { either = elim (cases_lt (slot' % 43) (slot % 43)) [ inl below ↦ inl (omega arith) | inr above ↦ inr (apart_above slot slot' (omega arith) above other) ] } where
      apart_above : (slot slot' : ℕ) → slot / 43 ≡ slot' / 43 → slot % 43 ≤ slot' % 43 → (slot' ≡ slot → ⊥) → 94 * (slot % 43) + 94 ≤ 94 * (slot' % 43)
      apart_above slot slot' page above other = elim (cases_eq (slot' % 43) (slot % 43)) [ inl same ↦ absurd (other (omega arith)) | inr differ ↦ omega arith ]

-- the slots of a page are of one kind
kind_of_page : (kind : Kind) (slot : ℕ) → slot < limit kind → (slots_in_page (page_of_slot kind slot)).kind ≡ kind
kind_of_page kinds.RowType slot within = let rows : nat_lt (257 + slot) 321 ≡ true = grind (arith, nat_tests) in rw rows refl
kind_of_page kinds.Pattern slot within =
    let rows : nat_lt (321 + slot) 321 ≡ false = grind (arith, nat_tests) in
    let patterns : nat_lt (321 + slot) 577 ≡ true = grind (arith, nat_tests) in
    rw (rows, patterns) refl
kind_of_page kinds.Calendar slot within =
    let rows : nat_lt (577 + slot) 321 ≡ false = grind (arith, nat_tests) in
    let patterns : nat_lt (577 + slot) 577 ≡ false = grind (arith, nat_tests) in
    let calendars : nat_lt (577 + slot) 833 ≡ true = grind (arith, nat_tests) in
    rw (rows, patterns, calendars) refl
kind_of_page kinds.Container slot within = refl
kind_of_page kinds.Series slot within =
    let rows : nat_lt (834 + slot / 43) 321 ≡ false = grind (arith, nat_tests) in
    let patterns : nat_lt (834 + slot / 43) 577 ≡ false = grind (arith, nat_tests) in
    let calendars : nat_lt (834 + slot / 43) 833 ≡ false = grind (arith, nat_tests) in
    let containers : (834 + slot / 43 == 833) ≡ false = grind (arith, nat_tests) in
    rw (rows, patterns, calendars, containers) refl

slots_apart : (kind kind' : Kind) (slot slot' : ℕ) → slot < limit kind → slot' < limit kind' → page_of_slot kind slot ≡ page_of_slot kind' slot' → (kind' ≡ kind → slot' ≡ slot → ⊥) → Apart (byte_of_slot kind slot) (slot_size kind) (byte_of_slot kind' slot') (slot_size kind')
slots_apart kind kind' slot slot' is is' page other =
    let same : kind ≡ kind' = sym (kind_of_page kind slot is) ∙ ap (λ (n : ℕ). (slots_in_page n).kind) page ∙ kind_of_page kind' slot' is' in
    subst (λ (k : Kind). slot' < limit k → page_of_slot kind slot ≡ page_of_slot k slot' → (k ≡ kind → slot' ≡ slot → ⊥) → Apart (byte_of_slot kind slot) (slot_size kind) (byte_of_slot k slot') (slot_size k)) same
    (λ below page other. apart_in kind slot slot' is below page (other refl)) is' page other

-- the bytes of a slot of a page with another slot written
slot_stays : (kind kind' : Kind) (slot slot' : ℕ) (def : Option Def) (page : List ℕ) → slot < limit kind → slot' < limit kind' → page_of_slot kind slot ≡ page_of_slot kind' slot' → (kind' ≡ kind → slot' ≡ slot → ⊥)
    → byte_of_slot kind slot + slot_size kind ≤ length page → length (slot_bytes kind def) ≡ slot_size kind
    → bytes_at (byte_of_slot kind' slot') (slot_size kind') (with_slot_bytes kind slot def page) ≡ bytes_at (byte_of_slot kind' slot') (slot_size kind') page
slot_stays kind kind' slot slot' def page within within' same other room wide =
    elim (slots_apart kind kind' slot slot' within within' same other).either [
      | inl below ↦ bytes_below (byte_of_slot kind slot) (slot_size kind) (byte_of_slot kind' slot') (slot_size kind') page (slot_bytes kind def) below room
      | inr above ↦ ap (take (slot_size kind')) (drop_above (byte_of_slot kind slot) (slot_size kind) (byte_of_slot kind' slot') page (slot_bytes kind def) above room wide)
    ]

-- what is written is there
def_at-written : (kind : Kind) (slot : ℕ) (def : Option Def) (d : Definitions) → IfSome def (λ x. kind_of x ≡ kind) → slot < length (slots kind d) → def_at kind slot (with_slot kind slot def d) ≡ def
def_at-written kind slot None d is within = def_at-cleared kind slot d within
def_at-written kind slot (Some def) d is within = def_at-with_slot kind slot def d is within

-- pages of which one has other bytes
written_page : (number : ℕ) (bytes : List ℕ) (pages more : ℕ → List ℕ) → EqualPages (with_page number bytes pages) more → more number ≡ bytes
written_page number bytes pages more same = let t : (number == number) ≡ true = grind (arith, nat_tests) in same number ∙ rw t refl

other_page : (number n : ℕ) (bytes : List ℕ) (pages more : ℕ → List ℕ) → n ≢ number → EqualPages (with_page number bytes pages) more → more n ≡ pages n
other_page number n bytes pages more other same = let f : (number == n) ≡ false = grind (arith, nat_tests) in same n ∙ rw f refl

-- pages that hold definitions, with one slot written
pub hold_written : (kind : Kind) (slot : ℕ) (def : Option Def) (d : Definitions) (pages more : ℕ → List ℕ) → slot < limit kind → IfSome def (λ x. kind_of x ≡ kind) → IsDefinitions d
    → byte_of_slot kind slot + slot_size kind ≤ length (pages (page_of_slot kind slot)) → length (slot_bytes kind def) ≡ slot_size kind
    → EqualPages (with_page (page_of_slot kind slot) (with_slot_bytes kind slot def (pages (page_of_slot kind slot))) pages) more → HoldsDefinitions pages d → HoldsDefinitions more (with_slot kind slot def d)
hold_written kind slot def d pages more within kinded rules room wide same holds =
    let number : ℕ = page_of_slot kind slot in
    let bytes : List ℕ = with_slot_bytes kind slot def (pages number) in
    let here : more number ≡ bytes = written_page number bytes pages more same in
    record {
      slots = λ kind' slot' within'. elim (this_or_other kind kind' slot slot' within within') [
        | inl this ↦
            let read : bytes_of_slot kind slot more ≡ slot_bytes kind (def_at kind slot (with_slot kind slot def d)) =
            ap (bytes_at (byte_of_slot kind slot) (slot_size kind)) here ∙ same_bytes (byte_of_slot kind slot) (slot_size kind) (pages number) (slot_bytes kind def) room wide
            ∙ ap (slot_bytes kind) (sym (def_at-written kind slot def d kinded (omega (arith, within, sizes d rules kind)))) in
            subst (λ (p : Kind × ℕ). bytes_of_slot p.0 p.1 more ≡ slot_bytes p.0 (def_at p.0 p.1 (with_slot kind slot def d))) (λ i. (sym this.0 i, sym this.1 i)) read
        | inr other ↦
            let apart = apart_by_rank kind kind' slot slot' other in
            slot_kept kind kind' slot slot' def pages more within within' apart room wide same
            ∙ holds.slots kind' slot' within' ∙ ap (slot_bytes kind') (sym (def_at-other kind kind' slot slot' def d apart))
      ];
      behind = λ n low high. elim (cases_eq n number) [
        | inl this ↦
            let end : bytes_of_slots (slots_in_page n) ≡ bytes_of_slots (slots_in_page number) = ap (λ (k : ℕ). bytes_of_slots (slots_in_page k)) this in
            ap (drop (bytes_of_slots (slots_in_page n))) (ap more this ∙ here)
            ∙ drop_above (byte_of_slot kind slot) (slot_size kind) (bytes_of_slots (slots_in_page n)) (pages number) (slot_bytes kind def) (omega (arith, slot_end kind slot within, end)) room wide
            ∙ ap (λ (k : ℕ). drop (bytes_of_slots (slots_in_page n)) (pages k)) (sym this) ∙ holds.behind n low high
        | inr other ↦ ap (drop (bytes_of_slots (slots_in_page n))) (other_page number n bytes pages more other same) ∙ holds.behind n low high
      ];
    } where
      slot_kept : (kind kind' : Kind) (slot slot' : ℕ) (def : Option Def) (pages more : ℕ → List ℕ) → slot < limit kind → slot' < limit kind' → (kind' ≡ kind → slot' ≡ slot → ⊥)
          → byte_of_slot kind slot + slot_size kind ≤ length (pages (page_of_slot kind slot)) → length (slot_bytes kind def) ≡ slot_size kind
          → EqualPages (with_page (page_of_slot kind slot) (with_slot_bytes kind slot def (pages (page_of_slot kind slot))) pages) more → bytes_of_slot kind' slot' more ≡ bytes_of_slot kind' slot' pages
      slot_kept kind kind' slot slot' def pages more within within' apart room wide same =
          elim (cases_eq (page_of_slot kind' slot') (page_of_slot kind slot)) [
            | inl this ↦
                ap (λ (n : ℕ). bytes_at (byte_of_slot kind' slot') (slot_size kind') (more n)) this
                ∙ ap (bytes_at (byte_of_slot kind' slot') (slot_size kind')) (written_page (page_of_slot kind slot) _ pages more same)
                ∙ slot_stays kind kind' slot slot' def (pages (page_of_slot kind slot)) within within' (sym this) apart room wide
                ∙ ap (λ (n : ℕ). bytes_at (byte_of_slot kind' slot') (slot_size kind') (pages n)) (sym this)
            | inr other ↦ ap (bytes_at (byte_of_slot kind' slot') (slot_size kind')) (other_page (page_of_slot kind slot) (page_of_slot kind' slot') _ pages more other same)
          ]

-- the bytes of a slot are as many as it has, since the page keeps its size
pub slot_wide : (kind : Kind) (slot : ℕ) (def : Option Def) (page after : List ℕ) → length page ≡ 4096 → length after ≡ 4096 → byte_of_slot kind slot + slot_size kind ≤ 4096 → after ≡ with_slot_bytes kind slot def page → length (slot_bytes kind def) ≡ slot_size kind
slot_wide kind slot def page after long long' room is =
    let at : ℕ = byte_of_slot kind slot in
    let rest : List ℕ = drop (at + slot_size kind) page in
    omega (arith, ap length is, length-append (take at page) (slot_bytes kind def ++ rest), length-append (slot_bytes kind def) rest, length-take-le at page (omega (arith, room, long)), length-drop (at + slot_size kind) page, long, long', room)

-- each slot is in its page
pub slot_room : (kind : Kind) (slot : ℕ) → slot < limit kind → byte_of_slot kind slot + slot_size kind ≤ 4096
slot_room kinds.RowType slot within = lit≤ tt
slot_room kinds.Pattern slot within = lit≤ tt
slot_room kinds.Calendar slot within = lit≤ tt
slot_room kinds.Container slot within = omega arith
slot_room kinds.Series slot within = omega arith

-- what follows from an Ok
on_ok : {T : Type 0} (r : Result T StoreFault) (P Q : Type 0) → OnOk r P → (P → Q) → OnOk r Q
on_ok (Ok x) P Q p next = next p
on_ok (Err e) P Q p next = tt

on_err : {T : Type 0} (r : Result T StoreFault) (P Q : Type 0) → OnErr r P → (P → Q) → OnErr r Q
on_err (Ok x) P Q p next = tt
on_err (Err e) P Q p next = next p

-- the same page in place of the same one
with_page-same : (number n : ℕ) (a b : List ℕ) (pages more : ℕ → List ℕ) → a ≡ b → pages n ≡ more n → with_page number a pages n ≡ with_page number b more n
with_page-same number n a b pages more same others = λ i. (if number == n then same i else others i)

-- a slot is written over the page that was read
pub slot_written : (tells : Bool) (kind : Kind) (slot : ℕ) (def : Option Def) (result : Result Unit StoreFault) (v v' w : Contents) (before after : List ℕ) → slot < limit kind → IfSome def (λ x. kind_of x ≡ kind)
    → Got tells (page_of_slot kind slot) before (Ok tt) v v' → length before ≡ 4096 → length after ≡ 4096 → after ≡ with_slot_bytes kind slot def before → Put tells (page_of_slot kind slot) after result v' w
    → SlotWritten tells kind slot def result v w
slot_written tells kind slot def result v v' w before after within kinded got long long' is put =
    let number : ℕ = page_of_slot kind slot in
    let read : IsTrue tells → before ≡ v.page number = λ told. got.read told (inr (let low = page_low kind slot in omega (arith, low))) in
    let there : OnOk result (IsTrue tells → EqualPages (with_page number (with_slot_bytes kind slot def (v.page number)) v.page) w.page) =
    on_ok result _ _ put.put (λ putting told n.
    putting told n ∙ with_page-same number n after (with_slot_bytes kind slot def (v.page number)) v'.page v.page (is ∙ ap (with_slot_bytes kind slot def) (read told)) (got.pages told n)) in
    record {
      count = put.call.count ∙ got.call.count;
      faults = omega (arith, got.call.faults, put.call.faults);
      free = put.free ∙ got.free;
      cause = λ failed. omega (arith, got.call.faults, put.call.cause failed);
      no_fault = λ fine. put.call.no_fault fine ∙ got.call.no_fault (λ failed. cc);
      written = there;
      definitions = on_ok result _ _ there (λ same told d rules holds.
          let length' : length (v.page number) ≡ 4096 = ap length (sym (read told)) ∙ long in
          hold_written kind slot def d v.page w.page within kinded rules (omega (arith, slot_room kind slot within, length')) (slot_wide kind slot def before after long long' (slot_room kind slot within) is) (same told) holds);
      pages_stay = on_err result _ _ put.pages_stay (λ stay told n. stay told n ∙ got.pages told n);
      again = λ is. omega (arith, put.again (got.images number is), got.change_bytes);
      images = λ n is. put.images n (got.images n is);
      imaged = put.imaged;
    }

-- an empty slot, written
pub slot_cleared : (kind : Kind) (def : Option Def) (slot : List ℕ) (size : ℕ) → def ≡ None → size ≡ slot_size kind → slot ≡ replicate size 0 → slot ≡ slot_bytes kind def
slot_cleared kind def slot size none wide is = is ∙ ap (λ (n : ℕ). replicate n 0) wide ∙ sym (slot_empty kind) ∙ ap (slot_bytes kind) (sym none)

-- a definition page can't be taken
pub not_free : (tells : Bool) (c : Contents) (kind : Kind) (slot : ℕ) → slot < limit kind → IsLawful tells c → Contains c.free (page_of_slot kind slot) → ⊥
not_free tells c kind slot within lawful free =
    let listed : IsListed tells c (page_of_slot kind slot) = All-contains (IsListed tells c) c.free (page_of_slot kind slot) lawful.listed free in
    omega (arith, listed.element, page_high kind slot within)

-- nor can the first page
pub first_not_free : (tells : Bool) (c : Contents) → IsLawful tells c → Contains c.free 0 → ⊥
first_not_free tells c lawful free =
    let listed : IsListed tells c 0 = All-contains (IsListed tells c) c.free 0 lawful.listed free in
    omega (arith, listed.element)

-- the same, where the page's number is known by its value
pub slot_written_at : (tells : Bool) (kind : Kind) (slot number : ℕ) (def : Option Def) (result : Result Unit StoreFault) (v v' w : Contents) (before after : List ℕ) → number ≡ page_of_slot kind slot → slot < limit kind → IfSome def (λ x. kind_of x ≡ kind)
    → Got tells number before (Ok tt) v v' → length before ≡ 4096 → length after ≡ 4096 → after ≡ with_slot_bytes kind slot def before → Put tells number after result v' w → SlotWritten tells kind slot def result v w
slot_written_at tells kind slot number def result v v' w before after same within kinded got long long' is put =
    slot_written tells kind slot def result v v' w before after within kinded (subst (λ (n : ℕ). Got tells n before (Ok tt) v v') same got) long long' is (subst (λ (n : ℕ). Put tells n after result v' w) same put)
