-- Layouts that are held: their free pages, and those of one series besides; and directories of which one list changes.
use Rattle.std.specs.Prelude.{IsPermutation}
use Rattle.std.proofs.Common.{◌≡◌, ◌≢◌, ℕ, ◌+◌, ◌<◌, List, [], ◌++◌, map, length, get_or, refl, ap, ◌∙◌, arith, length-set, get_or-set_other}
use Rattle.std.proofs.lemmas.List.Sorted.{IsPermutation-refl, IsPermutation-sym, IsPermutation-trans, IsPermutation-append, IsPermutation-append_comm, length_permutation}
use Rattle.ts_page.specs.Pages.{first_element_page}
use Rattle.ts_space.specs.declared.place.Place.{Place}
use Rattle.ts_space.specs.Place.{pages_of}
use Rattle.ts_space.specs.Directory.{Directory, places_of, used_of, ChangesOnly}
use Rattle.ts_model.specs.Definitions.{Definitions}
use Rattle.ts_layout.specs.Meaning.{Layout, IsSound}
use Rattle.ts_layout.specs.Surveyed.{free_from, free_pages, ListsPlaces}
use Rattle.ts_layout.specs.Chains.{AreFilled, freed}
use Rattle.ts_layout.specs.Held.{IsHeldOf}
use Rattle.ts_layout.proofs.FreeLemmas.{free_counted}
use Rattle.ts_layout.proofs.PairLemmas.{pairs_from, numbers_in, place_numbers, free_freed}

-- what is surveyed is held
pub held_layout : (l : Layout) (space : Directory) (count : ℕ) → IsSound l → AreFilled l → ListsPlaces space l → count ≡ first_element_page + length l.element_pages → IsHeldOf l.definitions space count (free_pages l) l
held_layout l space count sound filled lists size = record {
  definitions = refl;
  size = size;
  places = lists;
  free = IsPermutation-refl (free_pages l);
  rules = sound;
  filled = filled;
}

-- as many pages are free as no place has
pub free_left : (l : Layout) (space : Directory) (count : ℕ) (free : List ℕ) → IsHeldOf l.definitions space count free l → length space.lists ≡ 4096 → length free + used_of space ≡ length l.element_pages
free_left l space count free held slots =
    let all = free_counted l space held.rules.definitions.tables held.filled held.places slots in
    let many = length_permutation free (free_pages l) held.free in
    omega (arith, all, many)

-- the free pages and those of one series are free where it is freed
pub free_and_own : (d : Definitions) (space : Directory) (count : ℕ) (free : List ℕ) (l : Layout) (slot : ℕ) → IsHeldOf d space count free l → slot < 4096 → IsPermutation (free ++ pages_of (places_of slot space)) (free_from first_element_page (map (freed slot) l.element_pages))
free_and_own d space count free l slot held within =
    let all : List ℕ = free_from first_element_page (map (freed slot) l.element_pages) in
    let were : List ℕ = free_from first_element_page l.element_pages in
    let own : List ℕ = numbers_in (pairs_from slot first_element_page l.element_pages) in
    let numbers = place_numbers slot (places_of slot space) l.element_pages (held.places slot within) in
    IsPermutation-trans (free ++ pages_of (places_of slot space)) (were ++ own) all (IsPermutation-append free were (pages_of (places_of slot space)) own held.free numbers)
    (IsPermutation-trans (were ++ own) (own ++ were) all (IsPermutation-append_comm were own) (IsPermutation-sym all (own ++ were) (free_freed slot first_element_page l.element_pages)))

-- a directory of which one list changes
pub others_stay : (slot s : ℕ) (old new : Directory) → ChangesOnly slot old new → s ≢ slot → places_of s new ≡ places_of s old
others_stay slot s old new changes other = ap (λ (l : List (List Place)). get_or l s []) changes.lists ∙ get_or-set_other old.lists slot s (places_of slot new) [] other

pub slots_stay : (slot : ℕ) (old new : Directory) → ChangesOnly slot old new → length new.lists ≡ length old.lists
slots_stay slot old new changes = ap length changes.lists ∙ length-set old.lists slot (places_of slot new)
