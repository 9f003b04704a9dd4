-- What a call at a stamp did, by the call at the offset that the stamp addresses.
use Rattle.std.proofs.Common.{◌≡◌, ℕ, ℤ, Bool, true, false, Option, Some, None, Result, Ok, Err, IfOk, IfSome, List, refl, sym, ap, ◌∙◌, subst, arith, inl}
use Rattle.std.specs.Option.{option_map}
use Rattle.ts_base.specs.declared.refusal.Refusal.{Refusal}
use Rattle.ts_base.specs.declared.refusal.Refusal.TheVariants as refusals
use Rattle.ts_base.specs.declared.fault.StoreFault.{StoreFault}
use Rattle.ts_offset.specs.Grid.{GridPlan}
use Rattle.ts_space.specs.declared.place.Place.{Place}
use Rattle.ts_page.specs.Pages.{Contents, Answered}
use Rattle.ts_page.proofs.ReadsLemmas.{reads_none, reads_ok}
use Rattle.ts_row.specs.declared.kind.Column.{Column}
use Rattle.ts_row.specs.Row.{Row, Element}
use Rattle.ts_regular.specs.Call.{Stays, IsRowIn, IsMarked, Reads}
use Rattle.ts_regular_edits.specs.Address.{IsAddressed, ByAddress}
use Rattle.ts_regular_edits.specs.Element.{IsFoundAt, IsMarkedFrom, IsMarkedAt}

-- a call at the offset, whatever it answers
pub any_addressed : {T : Type 0} (grid : GridPlan) (stamp : ℤ) (offset : ℕ) (start : ℤ) (On : T → ℕ → ℤ → Type 0) (Off : T → Refusal → Type 0) (r : Result T StoreFault) → IsAddressed grid stamp offset start
    → IfOk r (λ t. On t offset start) → IfOk r (λ t. ByAddress grid stamp (On t) (Off t))
any_addressed grid stamp offset start On Off (Ok t) is holds = inl (record { offset = offset; start = start; is = is; holds = holds })
any_addressed grid stamp offset start On Off (Err fault) is holds = tt

-- all stays
pub same : (tells : Bool) (v : Contents) → Stays tells v v
same tells v = record { free = refl; pages = λ told number. refl }

pub answered_same : {T : Type 0} (t : T) (v : Contents) → Answered {T = T} (Ok t) v v
answered_same t v = record { count = refl; faults = omega arith; cause = λ failed. absurd (cc); no_fault = λ fine. refl }

pub reads_same : {T : Type 0} (tells : Bool) (t : T) (v : Contents) → Reads {T = T} tells (Ok t) v v
reads_same tells t v = reads_ok tells tt t v v (reads_none tells v)

-- another answer of a call that answers
pub answered_as : {S T : Type 0} (s : S) (t : T) (v w : Contents) → Answered {T = S} (Ok s) v w → Answered {T = T} (Ok t) v w
answered_as s t v w call = record { count = call.count; faults = call.faults; cause = λ failed. absurd (cc); no_fault = λ fine. call.no_fault (λ failed. cc) }

-- an element that was sought at the offset
pub found_addressed : (tells : Bool) (slot : ℕ) (columns : List Column) (grid : GridPlan) (stamp : ℤ) (offset : ℕ) (start : ℤ) (places : List Place) (v : Contents) (found : Option Row) (answer : Option Element)
    → IsAddressed grid stamp offset start → IsRowIn tells slot columns offset places v found → answer ≡ option_map (λ row. (start, row)) found → IsFoundAt tells slot columns grid stamp places v answer
found_addressed tells slot columns grid stamp offset start places v found answer is row same = inl (record {
  offset = offset;
  start = start;
  is = is;
  holds = λ told ps on. same ∙ ap (option_map (λ row. (start, row))) (row told ps on);
})

-- what holds of its row holds of it with its stamp
pub held_stamped : (P : Row → Type 0) (start : ℤ) (found : Option Row) (answer : Option Element) → answer ≡ option_map (λ row. (start, row)) found → IfSome found P → IfSome answer (λ e. P e.1)
held_stamped P start (Some row) answer same holds = subst (λ (o : Option Element). IfSome o (λ e. P e.1)) (sym same) holds
held_stamped P start None answer same holds = subst (λ (o : Option Element). IfSome o (λ e. P e.1)) (sym same) tt

-- one that was to be marked
marked_from : (tells : Bool) (slot : ℕ) (columns : List Column) (offset : ℕ) (start : ℤ) (hidden : Bool) (places : List Place) (v w : Contents) (there : Bool) (answer : Result ℤ Refusal)
    → IsMarked tells slot columns offset hidden places v w there → (there ≡ true → answer ≡ Ok start) → (there ≡ false → answer ≡ Err refusals.Missing)
    → IsMarkedFrom tells slot columns offset start hidden places v w answer
marked_from tells slot columns offset start hidden places v w true answer is given missing =
    subst (λ (r : Result ℤ Refusal). IsMarkedFrom tells slot columns offset start hidden places v w r) (sym (given refl)) (refl, is)
marked_from tells slot columns offset start hidden places v w false answer is given missing =
    subst (λ (r : Result ℤ Refusal). IsMarkedFrom tells slot columns offset start hidden places v w r) (sym (missing refl)) (refl, is)

pub marked_addressed : (tells : Bool) (slot : ℕ) (columns : List Column) (grid : GridPlan) (stamp : ℤ) (offset : ℕ) (start : ℤ) (hidden : Bool) (places : List Place) (v w : Contents) (there : Bool) (answer : Result ℤ Refusal)
    → IsAddressed grid stamp offset start → IsMarked tells slot columns offset hidden places v w there → (there ≡ true → answer ≡ Ok start) → (there ≡ false → answer ≡ Err refusals.Missing)
    → IsMarkedAt tells slot columns grid stamp hidden places v w answer
marked_addressed tells slot columns grid stamp offset start hidden places v w there answer is marked given missing = inl (record {
  offset = offset;
  start = start;
  is = is;
  holds = marked_from tells slot columns offset start hidden places v w there answer marked given missing;
})
