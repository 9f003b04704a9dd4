-- A header and zeros behind it mean the empty catalogue.
use Rattle.std.proofs.Common.{◌≡◌, ℕ, zero, suc, ◌+◌, ◌-◌, ◌*◌, ◌<◌, ◌≤◌, Bool, false, cond, Some, None, unwrap_or, List, [], length, take, drop, replicate, get_or, slice_index, refl, sym, ◌∙◌, ap, subst, arith}
use Rattle.std.specs.Option.{option_and_then}
use Rattle.std.specs.FinMap.{from_entries}
use Rattle.std.proofs.lemmas.Bool.Decides.{nat_tests}
use Rattle.std.proofs.lemmas.List.{drop-replicate, length-replicate, take-replicate, take-take}
use Rattle.ts_page.specs.Pages.{bytes_at, first_element_page}
use Rattle.ts_journal.specs.Journal.{is_open, is_region, region, records, own_page, pages, put_records}
use Rattle.ts_journal.proofs.CallerLemmas.{gate_part, same_gate, records_closed}
use Rattle.ts_model.specs.declared.kind.Kind.{Kind}
use Rattle.ts_model.specs.declared.kind.Kind.TheVariants as kinds
use Rattle.ts_model.specs.Definitions.{Definitions, RowTypeDef, PatternDef, CalendarDef, ContainerDef, SeriesDef, IsTable, IsFormat, no_definitions, with_format, limit, filled_from}
use Rattle.ts_model.proofs.PartsLemmas.{nothing-defined}
use Rattle.ts_model.specs.Catalogue.{empty_catalogue}
use Rattle.ts_layout.specs.Meaning.{IsSlotOf, Free, Layout, def_at, heading_in, HoldsDefinitions, HoldsElements, IsSound, text_of, container_of, series_of, catalogue_of, sum_of_quotas}
use Rattle.ts_layout.specs.Slot.{header_bytes, slot_size, slot_bytes, page_of_slot, byte_of_slot, slots_in_page, bytes_of_slots}
use Rattle.ts_layout.proofs.CallerLemmas.{page_low, page_high, slot_end, slot_empty, fits_page}
use Rattle.ts_volume.specs.Volume.{MeansCatalogue}

-- page number n as it stands in its place
abbrev pub page_at : ℕ → List ℕ → List ℕ
page_at n bytes = bytes_at (4096 * n) 4096 bytes

-- the bytes of a store in which nothing is: its header, and zeros behind it
pub record IsNew (format count : ℕ) (image : List ℕ) : Type 0 where
  pub size : length image ≡ 4096 * (first_element_page + count)
  pub header : page_at 0 image ≡ header_bytes format count
  pub zeros : (n : ℕ) → 1 ≤ n → n < first_element_page + count → page_at n image ≡ replicate 4096 0

-- eight zeros are no open gate
zeros_closed : is_open (replicate 8 0) ≡ false
unfolding is_open
zeros_closed = refl

-- where page 1 is zero the journal is empty
pub no_journal : (image : List ℕ) → page_at 1 image ≡ replicate 4096 0 → records image ≡ Some []
no_journal image zeros =
    let first : take 8 (region image) ≡ take 8 (replicate {A = ℕ} 8 0) = gate_part image ∙ sym (take-take 8 4096 (drop 4096 image) (omega arith)) ∙ ap (take 8) zeros ∙ take-replicate {X = ℕ} 8 4096 0 (omega arith) in
    records_closed image (same_gate (region image) (replicate 8 0) first ∙ zeros_closed)

-- and then the pages are those in their places
pub pages_own : (image : List ℕ) → records image ≡ Some [] → (n : ℕ) → pages image n ≡ own_page image n
pages_own image none n = λ j. put_records (unwrap_or (none j) []) (own_page image) n

-- pages from 257 on are none of the journal
is_outside : (n : ℕ) → 257 ≤ n → is_region n ≡ false
is_outside n low = grind (arith, nat_tests)

-- each of a list of one value
each_is : {A : Type 0} (n i : ℕ) (x : A) → get_or (replicate n x) i x ≡ x
each_is zero i x = refl
each_is (suc n) zero x = refl
each_is (suc n) (suc i) x = each_is n i x

filled_none : {A X : Type 0} (name : A → List ℕ) (value : ℕ → A → X) (first n : ℕ) → filled_from name value first (replicate n None) ≡ []
filled_none name value first zero = refl
filled_none name value first (suc n) = filled_none name value (first + 1) n

some_is_none : {A : Type 0} (x : A) → Some x ≡ None → ⊥
some_is_none x is = cc

-- slots that are all empty are a table
empty_table : {A : Type 0} (name : A → List ℕ) (count : ℕ) → IsTable name count (replicate count None)
empty_table name count = record { size = length-replicate count None; apart = λ i j a b here. absurd (some_is_none a (sym here ∙ each_is count i None)) }

-- a part of zeros
zeros_part : (b n : ℕ) → b + n ≤ 4096 → bytes_at b n (replicate 4096 0) ≡ replicate n 0
zeros_part b n within = ap (take n) (drop-replicate b 4096 0) ∙ take-replicate {X = ℕ} n (4096 - b) 0 (omega arith)

-- nothing is defined, in whatever format
abbrev nothing_in : ℕ → Definitions
nothing_in format = with_format format no_definitions

empty_at : (format : ℕ) (kind : Kind) (slot : ℕ) → def_at kind slot (nothing_in format) ≡ None
empty_at format kinds.RowType slot = nothing-defined kinds.RowType slot
empty_at format kinds.Pattern slot = nothing-defined kinds.Pattern slot
empty_at format kinds.Calendar slot = nothing-defined kinds.Calendar slot
empty_at format kinds.Container slot = nothing-defined kinds.Container slot
empty_at format kinds.Series slot = nothing-defined kinds.Series slot

-- pages of zeros hold no definitions
no_definitions_held : (format : ℕ) (at : ℕ → List ℕ) → ((n : ℕ) → 257 ≤ n → n < first_element_page → at n ≡ replicate 4096 0) → HoldsDefinitions at (nothing_in format)
no_definitions_held format at zeros = record {
  slots = λ kind slot within.
      let low = page_low kind slot in
      let high = page_high kind slot within in
      ap (bytes_at (byte_of_slot kind slot) (slot_size kind)) (zeros (page_of_slot kind slot) low high)
      ∙ zeros_part (byte_of_slot kind slot) (slot_size kind) (omega (arith, slot_end kind slot within, fits_page (page_of_slot kind slot) low high))
      ∙ sym (slot_empty kind) ∙ ap (slot_bytes kind) (sym (empty_at format kind slot));
  behind = λ number low high. ap (drop (bytes_of_slots (slots_in_page number))) (zeros number low high) ∙ drop-replicate (bytes_of_slots (slots_in_page number)) 4096 0;
}

-- nothing defined, and each element page free
abbrev pub empty_layout : ℕ → ℕ → Layout
empty_layout format count = record { definitions = nothing_in format; element_pages = replicate count Free }

empty_is_sound : (format count : ℕ) → IsFormat format → 1 ≤ count → count ≤ 65536 → IsSound (empty_layout format count)
empty_is_sound format count known some limit =
    let size : length (replicate count Free) ≡ count = length-replicate count Free in
    record {
      some = omega (arith, size);
      most = omega (arith, size);
      definitions = record {
        tables = record {
          format = known;
          row_types = empty_table (λ r. r.name) 64;
          patterns = empty_table (λ p. p.name) 256;
          calendars = empty_table (λ c. c.name) 256;
          containers = empty_table (λ c. c.name) 64;
          series = empty_table (λ s. s.key) 4096;
        };
        limits = record { each = λ kind slot within. subst (IsSlotOf format kind) (sym (empty_at format kind slot)) tt };
        references = λ kind slot def within is. absurd (some_is_none def (sym is ∙ empty_at format kind slot));
        follow = λ slot c here. absurd (some_is_none c (sym here ∙ each_is 256 slot None));
        valid = λ slot c here. absurd (some_is_none c (sym here ∙ each_is 256 slot None));
        quotas = (let none : sum_of_quotas (replicate 64 None) ≡ 0 = refl in omega (arith, none));
        origins = λ slot s here. absurd (some_is_none s (sym here ∙ each_is 4096 slot None));
      };
      sequences = λ slot h shape here lies. absurd (some_is_none h (sym here ∙ ap (option_and_then (λ s. heading_in (nothing_in format) s.container)) (each_is 4096 slot None)));
      charges = λ i c h here. absurd (some_is_none c (sym here ∙ each_is 64 i None));
    }

empty_means : (format count : ℕ) → empty_catalogue format count ≡ catalogue_of (empty_layout format count)
empty_means format count = λ j. record {
  format = format;
  pages = sym (length-replicate count Free) j;
  row_types = from_entries (sym (filled_none {A = RowTypeDef} (λ r. r.name) (λ slot r. r.heading) 0 64) j);
  patterns = from_entries (sym (filled_none {A = PatternDef} (λ p. p.name) (λ slot p. p.pattern) 0 256) j);
  calendars = from_entries (sym (filled_none {A = CalendarDef} (λ c. c.name) (λ slot c. text_of (nothing_in format) c) 0 256) j);
  containers = from_entries (sym (filled_none {A = ContainerDef} (λ c. c.name) (λ slot c. container_of (nothing_in format) c) 0 64) j);
  series = from_entries (sym (filled_none {A = SeriesDef} (λ s. s.key) (series_of (empty_layout format count)) 0 4096) j);
}

-- a new store means the empty catalogue of its format
pub new_means : (format count : ℕ) (image : List ℕ) → IsFormat format → 1 ≤ count → count ≤ 65536 → IsNew format count image → MeansCatalogue image (empty_catalogue format count)
new_means format count image known some limit new =
    let none : records image ≡ Some [] = no_journal image (new.zeros 1 (omega arith) (omega arith)) in
    let size : length (replicate count Free) ≡ count = length-replicate count Free in
    let behind : (n : ℕ) → 257 ≤ n → n < first_element_page + count → pages image n ≡ replicate 4096 0 = λ n low high. pages_own image none n ∙ own n low ∙ new.zeros n (omega arith) high in
    record {
      size = (count, some, limit, new.size);
      sound = ([], none);
      pages = (
        empty_layout format count,
        record {
          size = omega (arith, new.size, size);
          bytes = record {
            header = pages_own image none 0 ∙ new.header ∙ ap (header_bytes format) (sym size);
            definitions = no_definitions_held format (pages image) (λ n low high. behind n low (omega arith));
            elements = λ i within.
                subst (HoldsElements (nothing_in format) (pages image (first_element_page + i))) (sym (each_is count i Free))
                (ap (λ (l : List ℕ). slice_index l 0) (behind (first_element_page + i) (omega arith) (omega (arith, within, size))));
          };
          rules = empty_is_sound format count known some limit;
        },
        empty_means format count,
      );
    }
  where
    own : (n : ℕ) → 257 ≤ n → own_page image n ≡ page_at n image
    own n low = ap (λ (b : Bool). cond {A = List ℕ} b [] (page_at n image)) (is_outside n low)
