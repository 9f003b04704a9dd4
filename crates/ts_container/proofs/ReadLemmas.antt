-- Definition pages that are read slot by slot.
use Rattle.std.proofs.Common.{◌≡◌, ℕ, ◌+◌, ◌-◌, ◌*◌, ◌/◌, ◌<◌, ◌≤◌, Bool, true, false, MatchBool, nat_le, min, Option, List, length, take, drop, replicate, length-drop, refl, sym, ap, subst, ◌∙◌, arith, lit≤, inl, inr}
use Rattle.std.proofs.lemmas.Bool.{cases_lt, cases_eq}
use Rattle.std.proofs.lemmas.Bool.Decides.{nat_tests}
use Rattle.std.proofs.lemmas.List.{take_all, length-replicate}
use Rattle.ts_page.specs.Pages.{bytes_at, first_element_page}
use Rattle.ts_model.specs.declared.kind.Kind.{Kind}
use Rattle.ts_model.specs.declared.kind.Kind.TheVariants as kinds
use Rattle.ts_model.specs.declared.def.Def.{Def}
use Rattle.ts_model.specs.Definitions.{Definitions, limit, def_at}
use Rattle.ts_container.specs.declared.found.Broken.{Broken}
use Rattle.ts_container.specs.declared.found.Found.{Found}
use Rattle.ts_container.specs.declared.found.Found.TheVariants as found
use Rattle.ts_layout.specs.declared.place.Slots.{Slots}
use Rattle.ts_layout.specs.Slot.{slot_size, slot_bytes, slots_in_page, bytes_of_slots, page_of_slot}
use Rattle.ts_layout.specs.Meaning.{IsSlotOf, bytes_of_slot}
use Rattle.ts_layout.specs.Rank.{rank, rank_of_page}
use Rattle.ts_layout.proofs.CallerLemmas.{Stands, stands, rank_next, this_or_other}
use Rattle.ts_container.specs.Reading.{IsReadTo, AreOfVolume, AreWritten, IsWrittenAt, IsSlot, SlotRead, HasZerosBehind, IsPageOf, IsNoPageOf, PageRead}

-- how many bytes of a page are slots, as the code counts them
pub counted : (number size : ℕ) (on : Slots) → on ≡ slots_in_page number → size ≡ slot_size on.kind → bytes_of_slots (slots_in_page number) ≡ size * on.count
counted number size on is same = (λ i. bytes_of_slots (sym is i)) ∙ ap (λ (n : ℕ). n * on.count) (sym same)

-- zeros from some byte on
pub zeros_to : (x y : ℕ) (page : List ℕ) → x ≡ y → drop x page ≡ replicate (4096 - x) 0 → take (4096 - y) (drop y page) ≡ replicate (length (take (4096 - y) (drop y page))) 0
zeros_to x y page same zeros =
    let there : drop y page ≡ replicate (4096 - y) 0 = (λ i. drop (sym same i) page) ∙ zeros ∙ (λ i. replicate (4096 - same i) 0) in
    let long : length (drop y page) ≡ 4096 - y = ap length there ∙ length-replicate (4096 - y) 0 in
    let whole : take (4096 - y) (drop y page) ≡ drop y page = take_all (4096 - y) (drop y page) (omega arith) in
    whole ∙ there ∙ ap (λ (n : ℕ). replicate n 0) (sym (ap length whole ∙ long))

pub zeros_from : (x y : ℕ) (page : List ℕ) → x ≡ y → length page ≡ 4096 → take (4096 - y) (drop y page) ≡ replicate (length (take (4096 - y) (drop y page))) 0 → drop x page ≡ replicate (4096 - x) 0
zeros_from x y page same long zeros =
    let size : length (drop y page) ≡ 4096 - y = length-drop y page ∙ ap (λ (n : ℕ). n - y) long in
    let whole : take (4096 - y) (drop y page) ≡ drop y page = take_all (4096 - y) (drop y page) (omega arith) in
    (λ i. drop (same i) page) ∙ sym whole ∙ zeros ∙ ap (λ (n : ℕ). replicate n 0) (ap length whole ∙ size) ∙ (λ i. replicate (4096 - sym same i) 0)

-- the slots of a page stand there
pub stands_on : (number k : ℕ) (on : Slots) → on ≡ slots_in_page number → 257 ≤ number → number < first_element_page → k < on.count → Stands on number k
stands_on number k on is low high within =
    subst (λ (s : Slots). Stands s number k) (sym is) (stands number k low high (omega (arith, within, ap (λ (s : Slots). s.count) is)))

-- all slots of a page were read
pub ended : (number k : ℕ) (on : Slots) → on ≡ slots_in_page number → 257 ≤ number → number < first_element_page → on.count ≤ k → k ≤ on.count → rank_of_page number + k ≡ rank_of_page (number + 1)
ended number k on is low high least most = omega (arith, rank_next number low high, ap (λ (s : Slots). s.count) is, least, most)

-- slots of higher rank stand on higher pages, or on the same
pub pages_rise : (kind kind' : Kind) (slot slot' : ℕ) → slot < limit kind → slot' < limit kind' → rank kind slot ≤ rank kind' slot' → page_of_slot kind slot ≤ page_of_slot kind' slot'
pages_rise kinds.RowType kinds.RowType slot slot' within within' rise = omega (arith, within, within', rise)
pages_rise kinds.RowType kinds.Pattern slot slot' within within' rise = omega (arith, within, within', rise)
pages_rise kinds.RowType kinds.Calendar slot slot' within within' rise = omega (arith, within, within', rise)
pages_rise kinds.RowType kinds.Container slot slot' within within' rise = omega (arith, within, within', rise)
pages_rise kinds.RowType kinds.Series slot slot' within within' rise = omega (arith, within, within', rise)
pages_rise kinds.Pattern kinds.RowType slot slot' within within' rise = omega (arith, within, within', rise)
pages_rise kinds.Pattern kinds.Pattern slot slot' within within' rise = omega (arith, within, within', rise)
pages_rise kinds.Pattern kinds.Calendar slot slot' within within' rise = omega (arith, within, within', rise)
pages_rise kinds.Pattern kinds.Container slot slot' within within' rise = omega (arith, within, within', rise)
pages_rise kinds.Pattern kinds.Series slot slot' within within' rise = omega (arith, within, within', rise)
pages_rise kinds.Calendar kinds.RowType slot slot' within within' rise = omega (arith, within, within', rise)
pages_rise kinds.Calendar kinds.Pattern slot slot' within within' rise = omega (arith, within, within', rise)
pages_rise kinds.Calendar kinds.Calendar slot slot' within within' rise = omega (arith, within, within', rise)
pages_rise kinds.Calendar kinds.Container slot slot' within within' rise = omega (arith, within, within', rise)
pages_rise kinds.Calendar kinds.Series slot slot' within within' rise = omega (arith, within, within', rise)
pages_rise kinds.Container kinds.RowType slot slot' within within' rise = omega (arith, within, within', rise)
pages_rise kinds.Container kinds.Pattern slot slot' within within' rise = omega (arith, within, within', rise)
pages_rise kinds.Container kinds.Calendar slot slot' within within' rise = omega (arith, within, within', rise)
pages_rise kinds.Container kinds.Container slot slot' within within' rise = omega (arith, within, within', rise)
pages_rise kinds.Container kinds.Series slot slot' within within' rise = omega (arith, within, within', rise)
pages_rise kinds.Series kinds.RowType slot slot' within within' rise = omega (arith, within, within', rise)
pages_rise kinds.Series kinds.Pattern slot slot' within within' rise = omega (arith, within, within', rise)
pages_rise kinds.Series kinds.Calendar slot slot' within within' rise = omega (arith, within, within', rise)
pages_rise kinds.Series kinds.Container slot slot' within within' rise = omega (arith, within, within', rise)
pages_rise kinds.Series kinds.Series slot slot' within within' rise = omega (arith, within, within', rise)

-- the ranks of the slots in a page
rank_single : (number : ℕ) → number ≤ 833 → rank_of_page number ≡ number - 257
rank_single number below = let t : nat_le number 833 ≡ true = grind (arith, nat_tests) in rw t refl

rank_series : (number : ℕ) → 834 ≤ number → rank_of_page number ≡ 640 + min (43 * (number - 834)) 4096
rank_series number above = let f : nat_le number 833 ≡ false = grind (arith, nat_tests) in rw f refl

rank_low : (kind : Kind) (slot : ℕ) → slot < limit kind → rank_of_page (page_of_slot kind slot) ≤ rank kind slot
rank_low kinds.RowType slot within = omega (arith, within, rank_single (257 + slot) (omega (arith, within)))
rank_low kinds.Pattern slot within = omega (arith, within, rank_single (321 + slot) (omega (arith, within)))
rank_low kinds.Calendar slot within = omega (arith, within, rank_single (577 + slot) (omega (arith, within)))
rank_low kinds.Container slot within = omega (arith, within, rank_single 833 (lit≤ tt))
rank_low kinds.Series slot within = omega (arith, within, rank_series (834 + slot / 43) (omega arith))

rank_high : (kind : Kind) (slot : ℕ) → slot < limit kind → rank kind slot < rank_of_page (page_of_slot kind slot + 1)
rank_high kinds.RowType slot within = omega (arith, within, rank_single (257 + slot + 1) (omega (arith, within)))
rank_high kinds.Pattern slot within = omega (arith, within, rank_single (321 + slot + 1) (omega (arith, within)))
rank_high kinds.Calendar slot within = omega (arith, within, rank_single (577 + slot + 1) (omega (arith, within)))
rank_high kinds.Container slot within = omega (arith, within, rank_series 834 (lit≤ tt))
rank_high kinds.Series slot within = omega (arith, within, rank_series (834 + slot / 43 + 1) (omega arith))

-- a slot of a page is one of those that stand there
record StandsIn (on : Slots) (kind : Kind) (slot : ℕ) : Type 0 where
  k : ℕ
  within : k < on.count
  kinded : on.kind ≡ kind
  is : on.first + k ≡ slot

stands_in : (number : ℕ) (kind : Kind) (slot : ℕ) → 257 ≤ number → number < first_element_page → slot < limit kind → page_of_slot kind slot ≡ number → StandsIn (slots_in_page number) kind slot
stands_in number kind slot low high within is =
    let first : rank_of_page number ≤ rank kind slot = subst (λ (n : ℕ). rank_of_page n ≤ rank kind slot) is (rank_low kind slot within) in
    let last : rank kind slot < rank_of_page (number + 1) = subst (λ (n : ℕ). rank kind slot < rank_of_page (n + 1)) is (rank_high kind slot within) in
    let k : ℕ = rank kind slot - rank_of_page number in
    let inside : k < (slots_in_page number).count = omega (arith, first, last, rank_next number low high) in
    let at = stands number k low high inside in
    elim (this_or_other kind (slots_in_page number).kind slot ((slots_in_page number).first + k) within at.within) [
      | inl same ↦ record { k = k; within = inside; kinded = same.0; is = same.1 }
      | inr other ↦ absurd (other (omega (arith, at.rank, first)))
    ]

-- the bytes of the slot that is read, in a page
in_page : (number k : ℕ) (page : List ℕ) (pages : ℕ → List ℕ) (on : Slots) → Stands on number k → pages number ≡ page → bytes_of_slot on.kind (on.first + k) pages ≡ bytes_at (slot_size on.kind * k) (slot_size on.kind) page
in_page number k page pages on at same =
    (λ i. bytes_at (at.byte i) (slot_size on.kind) (pages (at.page i))) ∙ ap (bytes_at (slot_size on.kind * k) (slot_size on.kind)) same

-- as the code reads them
pub piece : (k size : ℕ) (page : List ℕ) (on : Slots) → size ≡ slot_size on.kind → take (size * k + size - size * k) (drop (size * k) page) ≡ bytes_at (slot_size on.kind * k) (slot_size on.kind) page
piece k size page on same =
    let width : size * k + size - size * k ≡ size = omega arith in
    ap (λ (n : ℕ). take n (drop (size * k) page)) width ∙ ap (λ (n : ℕ). take n (drop (n * k) page)) same

-- so many slots of a page were judged
abbrev pub AreSlots : ℕ → ℕ → ℕ → List ℕ → Type 0
AreSlots format number k page = (j : ℕ) → j < k → IsSlot format (slots_in_page number).kind (bytes_at (slot_size (slots_in_page number).kind * j) (slot_size (slots_in_page number).kind) page)

pub slots_more : (format number k : ℕ) (page : List ℕ) (on : Slots) → on ≡ slots_in_page number → AreSlots format number k page → IsSlot format on.kind (bytes_at (slot_size on.kind * k) (slot_size on.kind) page) → AreSlots format number (k + 1) page
slots_more format number k page on is before here j below =
    elim (cases_eq j k) [
      | inl same ↦ subst (λ (p : ℕ × Slots). IsSlot format p.1.kind (bytes_at (slot_size p.1.kind * p.0) (slot_size p.1.kind) page)) (λ i. (sym same i, is i)) here
      | inr other ↦ before j (omega (arith, below, other))
    ]

-- a page whose slots are all such
pub is_page : (format number k : ℕ) (page : List ℕ) (on : Slots) → on ≡ slots_in_page number → 257 ≤ number → number < first_element_page → on.count ≤ k → AreSlots format number k page → HasZerosBehind number page → IsPageOf format number page
is_page format number k page on is low high all slots zeros = λ pages same. record {
  slots = λ kind slot within at.
      let in' = stands_in number kind slot low high within at in
      let here = slots in'.k (let inside = in'.within in omega (arith, inside, all, ap (λ (s : Slots). s.count) is)) in
      let own = stands number in'.k low high in'.within in
      let bytes = in_page number in'.k page pages (slots_in_page number) own same in
      subst (λ (p : Kind × ℕ). (def : Option Def) × IsSlotOf format p.0 def × (bytes_of_slot p.0 p.1 pages ≡ slot_bytes p.0 def)) (λ i. (in'.kinded i, in'.is i)) (here.0, here.1, bytes ∙ here.2);
  behind = ap (drop (bytes_of_slots (slots_in_page number))) same ∙ zeros;
}

-- or one isn't
pub no_page : (format number k : ℕ) (page : List ℕ) (on : Slots) → on ≡ slots_in_page number → 257 ≤ number → number < first_element_page → k < on.count → (IsSlot format on.kind (bytes_at (slot_size on.kind * k) (slot_size on.kind) page) → ⊥) → IsNoPageOf format number page
no_page format number k page on is low high within none = λ pages same holds.
    let at = stands_on number k on is low high within in
    let held = holds.slots on.kind (on.first + k) at.within at.page in
    none (held.0, held.1, sym (in_page number k page pages on at same) ∙ held.2)

-- or something stands behind them
pub no_zeros : (format number : ℕ) (page : List ℕ) → (HasZerosBehind number page → ⊥) → IsNoPageOf format number page
no_zeros format number page some = λ pages same holds. some (ap (drop (bytes_of_slots (slots_in_page number))) (sym same) ∙ holds.behind)

-- so many slots of a page were read
pub record SoFar (format number k : ℕ) (page : List ℕ) (old now : Definitions × List Broken) : Type 0 where
  pub slots : AreSlots format number k page
  pub read : IsReadTo format (rank_of_page number + k) now.0 now.1
  pub of_volume : (pages : ℕ → List ℕ) (s : Definitions) → pages number ≡ page → AreWritten format pages s → AreOfVolume (rank_of_page number) old.0 old.1 s → AreOfVolume (rank_of_page number + k) now.0 now.1 s

pub so_far_none : (format number : ℕ) (page : List ℕ) (old : Definitions × List Broken) → IsReadTo format (rank_of_page number) old.0 old.1 → SoFar format number 0 page old old
so_far_none format number page old read =
    let same : rank_of_page number ≡ rank_of_page number + 0 = omega arith in
    record {
      slots = λ j below. absurd (omega (arith, below));
      read = subst (λ (n : ℕ). IsReadTo format n old.0 old.1) same read;
      of_volume = λ pages s is written of. subst (λ (n : ℕ). AreOfVolume n old.0 old.1 s) same of;
    }

module _ (format number k size : ℕ) (page : List ℕ) (on : Slots) (old now new : Definitions × List Broken) (is : on ≡ slots_in_page number) (low : 257 ≤ number) (high : number < first_element_page) (within : k < on.count) (same : size ≡ slot_size on.kind) (so_far : SoFar format number k page old now) where
  at : Stands on number k
  at = stands_on number k on is low high within

  -- what a volume has in the slot
  written_at : (pages : ℕ → List ℕ) (s : Definitions) → pages number ≡ page → AreWritten format pages s → IsWrittenAt format on.kind (on.first + k) (bytes_at (slot_size on.kind * k) (slot_size on.kind) page) s
  unfolding at
  written_at pages s here written = record {
    is = subst (λ (n : ℕ). IsSlotOf n on.kind (def_at on.kind (on.first + k) s)) written.of_format (written.limits.each on.kind (on.first + k) at.within);
    held = sym (in_page number k page pages on at here) ∙ written.bytes.slots on.kind (on.first + k) at.within;
    patterns = written.patterns;
  }

  of_before : (s : Definitions) → AreOfVolume (rank_of_page number + k) now.0 now.1 s → AreOfVolume (rank on.kind (on.first + k)) now.0 now.1 s
  unfolding at
  of_before s of = subst (λ (n : ℕ). AreOfVolume n now.0 now.1 s) (sym at.rank) of

  -- what is read before, by the rank of the slot
  pub read_before : IsReadTo now.0.format (rank on.kind (on.first + k)) now.0 now.1
  unfolding at
  read_before = subst (λ (p : ℕ × ℕ). IsReadTo p.0 p.1 now.0 now.1) (λ i. (sym so_far.read.read.of_format i, sym at.rank i)) so_far.read

  abbrev Read : Found → Type 0
  Read g = SlotRead now.0.format on.kind (on.first + k) (take (size * k + size - size * k) (drop (size * k) page)) now new g

  as_read : (g : Found) → Read g → SlotRead format on.kind (on.first + k) (bytes_at (slot_size on.kind * k) (slot_size on.kind) page) now new g
  as_read g read = subst (λ (p : ℕ × List ℕ). SlotRead p.0 on.kind (on.first + k) p.1 now new g) (λ i. (so_far.read.read.of_format i, piece k size page on same i)) read

  pub so_far_more : Read found.Good → SoFar format number (k + 1) page old new
  unfolding at written_at of_before as_read
  so_far_more read =
      let slot = as_read found.Good read in
      let next : rank on.kind (on.first + k) + 1 ≡ rank_of_page number + (k + 1) = omega (arith, at.rank) in
      record {
        slots = slots_more format number k page on is so_far.slots slot.0;
        read = subst (λ (n : ℕ). IsReadTo format n new.0 new.1) next slot.1;
        of_volume = λ pages s here written of. subst (λ (n : ℕ). AreOfVolume n new.0 new.1 s) next (slot.2 s (written_at pages s here written) (of_before s (so_far.of_volume pages s here written of)));
      }

  pub page_unresolved : Read found.Unresolved → PageRead format number page old new found.Unresolved
  unfolding at written_at of_before as_read
  page_unresolved read = λ pages s here written of.
      let before = so_far.of_volume pages s here written of in
      let flaw = (as_read found.Unresolved read).1 s (written_at pages s here written) (of_before s before) in
      record {
        has = record { kind = on.kind; slot = on.first + k; within = at.within; page = sym at.page; flaw = flaw };
        least = λ other unresolved. elim (cases_lt (rank unresolved.kind unresolved.slot) (rank_of_page number + k)) [
          | inl below ↦ absurd (before.resolved unresolved.kind unresolved.slot unresolved.within below unresolved.flaw)
          | inr past ↦
              let rise = pages_rise on.kind unresolved.kind (on.first + k) unresolved.slot at.within unresolved.within (omega (arith, past, at.rank)) in
              omega (arith, rise, at.page, unresolved.page)
        ];
      }

  pub page_bad : Read found.Bad → PageRead format number page old new found.Bad
  unfolding as_read
  page_bad read = no_page format number k page on is low high within (as_read found.Bad read)

-- a page whose slots were all read
pub page_read : (format number k : ℕ) (page : List ℕ) (on : Slots) (old new : Definitions × List Broken) → on ≡ slots_in_page number → 257 ≤ number → number < first_element_page → on.count ≤ k → k ≤ on.count → SoFar format number k page old new → HasZerosBehind number page
    → PageRead format number page old new found.Good
page_read format number k page on old new is low high least most so_far zeros =
    let end : rank_of_page number + k ≡ rank_of_page (number + 1) = ended number k on is low high least most in (
      is_page format number k page on is low high least so_far.slots zeros,
      subst (λ (n : ℕ). IsReadTo format n new.0 new.1) end so_far.read,
      λ pages s here written of. subst (λ (n : ℕ). AreOfVolume n new.0 new.1 s) end (so_far.of_volume pages s here written of),
    )

-- a page whose slots were all judged
pub page_judged : (format number k size : ℕ) (page : List ℕ) (on : Slots) → on ≡ slots_in_page number → 257 ≤ number → number < first_element_page → on.count ≤ k → size ≡ slot_size on.kind → length page ≡ 4096 → AreSlots format number k page → (b : Bool)
    → (b ≡ true → take (4096 - size * on.count) (drop (size * on.count) page) ≡ replicate (length (take (4096 - size * on.count) (drop (size * on.count) page))) 0)
    → (take (4096 - size * on.count) (drop (size * on.count) page) ≡ replicate (length (take (4096 - size * on.count) (drop (size * on.count) page))) 0 → b ≡ true) → MatchBool b (IsPageOf format number page) (IsNoPageOf format number page)
page_judged format number k size page on is low high all same long slots true to from =
    is_page format number k page on is low high all slots (zeros_from (bytes_of_slots (slots_in_page number)) (size * on.count) page (counted number size on is same) long (to refl))
page_judged format number k size page on is low high all same long slots false to from =
    no_zeros format number page (λ zeros. false_true (from (zeros_to (bytes_of_slots (slots_in_page number)) (size * on.count) page (counted number size on is same) zeros))) where
      false_true : false ≡ true → ⊥
      false_true is = cc
