-- Pages of which one has other bytes, and definitions in pages that stay.
use Rattle.std.proofs.Common.{◌≡◌, ◌≢◌, ℕ, ◌<◌, ◌==◌, true, false, List, drop, refl, ap, ◌∙◌, arith}
use Rattle.std.proofs.lemmas.Bool.Decides.{nat_tests}
use Rattle.ts_page.specs.Pages.{bytes_at, EqualPages, with_page, first_element_page}
use Rattle.ts_model.specs.Definitions.{Definitions}
use Rattle.ts_layout.specs.Slot.{slot_size, page_of_slot, byte_of_slot, slots_in_page, bytes_of_slots}
use Rattle.ts_layout.specs.Meaning.{HoldsDefinitions}
use Rattle.ts_layout.proofs.PlaceLemmas.{page_high}

-- pages of which one has other bytes
pub there_now : (number : ℕ) (bytes : List ℕ) (pages more : ℕ → List ℕ) → EqualPages (with_page number bytes pages) more → more number ≡ bytes
there_now number bytes pages more same = let t : (number == number) ≡ true = grind (arith, nat_tests) in same number ∙ rw t refl

pub elsewhere : (number n : ℕ) (bytes : List ℕ) (pages more : ℕ → List ℕ) → n ≢ number → EqualPages (with_page number bytes pages) more → more n ≡ pages n
elsewhere number n bytes pages more other same = let f : (number == n) ≡ false = grind (arith, nat_tests) in same n ∙ rw f refl

-- definitions in pages that stay
pub definitions_stay : (pages more : ℕ → List ℕ) (d : Definitions) → ((n : ℕ) → n < first_element_page → more n ≡ pages n) → HoldsDefinitions pages d → HoldsDefinitions more d
definitions_stay pages more d same holds = record {
  slots = λ kind slot within. ap (bytes_at (byte_of_slot kind slot) (slot_size kind)) (same (page_of_slot kind slot) (page_high kind slot within)) ∙ holds.slots kind slot within;
  behind = λ n low high. ap (drop (bytes_of_slots (slots_in_page n))) (same n high) ∙ holds.behind n low high;
}
