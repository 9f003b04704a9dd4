-- There is one first bad page at most, and it is one of the pages.
use Rattle.std.proofs.Common.{◌≡◌, ℕ, ◌+◌, ◌<◌, ◌≤◌, ◌⊎◌, None, Some, List, [], ◌∷◌, length, refl, sym, ap, ◌∙◌, arith, inl, inr, lit<, lit≤}
use Rattle.ts_page.specs.Pages.{first_element_page}
use Rattle.ts_model.specs.declared.kind.Kind.{Kind}
use Rattle.ts_model.specs.declared.kind.Kind.TheVariants as kinds
use Rattle.ts_model.specs.Definitions.{limit}
use Rattle.ts_layout.specs.Slot.{page_of_slot}
use Rattle.ts_layout.proofs.CallerLemmas.{page_high, within_list}
use Rattle.ts_journal.specs.Journal.{Entry, IsVolumeSize, page_count, records, pages}
use Rattle.ts_volume.specs.FirstBad.{IsLeast, HasNone, Step, Header, Slots, Names, Rules, Grants, Elements, Overlaps, Neighbours, Charges, Finds, IsFirstIn, all_steps, IsFirstBad, IsFirstBadOf}
use Rattle.ts_volume.specs.FirstBadLaws.{ThereIsOneFirstBadPage, FirstBadPagesAreWithin}

-- a first bad page is one that some step finds
pub found_by : (F : Step → ℕ → Type 0) (steps : List Step) (page : ℕ) → IsFirstIn F steps page → (step : Step) × F step page
found_by F [] page first = absurd first
found_by F (step ∷ steps) page (inl least) = (step, least.has)
found_by F (step ∷ steps) page (inr later) = found_by F steps page later.1

one_least : (P : ℕ → Type 0) (a b : ℕ) → IsLeast P a → IsLeast P b → a ≡ b
one_least P a b first second = omega (arith, first.least b second.has, second.least a first.has)

one_first : (F : Step → ℕ → Type 0) (steps : List Step) (a b : ℕ) → IsFirstIn F steps a → IsFirstIn F steps b → a ≡ b
one_first F [] a b first second = absurd first
one_first F (step ∷ steps) a b (inl first) (inl second) = one_least (F step) a b first second
one_first F (step ∷ steps) a b (inl first) (inr second) = absurd (second.0 a first.has)
one_first F (step ∷ steps) a b (inr first) (inl second) = absurd (first.0 b second.has)
one_first F (step ∷ steps) a b (inr first) (inr second) = one_first F steps a b first.1 second.1

none_or_some : (bytes : List ℕ) (rs : List (List Entry)) → records bytes ≡ None → records bytes ≡ Some rs → ⊥
none_or_some bytes rs none some = absurd (cc (sym none ∙ some))

one_of_bytes : (bytes : List ℕ) (a b : ℕ) → IsFirstBadOf bytes a → IsFirstBadOf bytes b → a ≡ b
one_of_bytes bytes a b (inl first) (inl second) = first.1 ∙ sym second.1
one_of_bytes bytes a b (inl first) (inr second) = absurd (first.0 second.0)
one_of_bytes bytes a b (inr first) (inl second) = absurd (second.0 first.0)
one_of_bytes bytes a b (inr (size, inl first)) (inr (size', inl second)) = first.1 ∙ sym second.1
one_of_bytes bytes a b (inr (size, inl first)) (inr (size', inr second)) = absurd (none_or_some bytes second.sound.0 first.0 second.sound.1)
one_of_bytes bytes a b (inr (size, inr first)) (inr (size', inl second)) = absurd (none_or_some bytes first.sound.0 second.0 first.sound.1)
one_of_bytes bytes a b (inr (size, inr first)) (inr (size', inr second)) = one_first (Finds (page_count (length bytes)) (pages bytes)) all_steps a b first.first second.first

pub one_first_bad : ThereIsOneFirstBadPage
one_first_bad = record {
  pages = λ count pages a b. one_first (Finds count pages) all_steps a b;
  bytes = one_of_bytes;
}

-- each step finds pages of the volume
slot_within : (count number : ℕ) (kind : Kind) (slot : ℕ) → first_element_page ≤ count → slot < limit kind → number ≡ page_of_slot kind slot → number < count
slot_within count number kind slot some within is = omega (arith, some, page_high kind slot within, is)

found_within : (count : ℕ) (pages : ℕ → List ℕ) (step : Step) (number : ℕ) → first_element_page ≤ count → Finds count pages step number → number < count
found_within count pages Header number some found = let z = found.0 in omega (arith, some, z)
found_within count pages Slots number some found = let z = found.high in omega (arith, some, z)
found_within count pages Names number some found = slot_within count number found.2.kind found.2.slot some found.2.within found.2.page
found_within count pages Rules number some found = slot_within count number kinds.Calendar found.2.slot some found.2.within found.2.page
found_within count pages Grants number some (d, said, inl found) = let z = found.page in omega (arith, some, z)
found_within count pages Grants number some (d, said, inr found) = slot_within count number kinds.Series found.slot some found.within found.page
found_within count pages Elements number some found = found.2.high
found_within count pages Overlaps number some (l, said, found) =
    let within = within_list l.element_pages found.upper found.slot found.b found.second in
    let size = said.size in
    let page = found.page in
    omega (arith, within, size, page)
found_within count pages Neighbours number some (l, said, found) =
    let within = within_list l.element_pages found.at found.slot found.a found.there in
    let size = said.size in
    let page = found.page in
    omega (arith, within, size, page)
found_within count pages Charges number some found = let z = found.2.page in omega (arith, some, z)

first_within : (count : ℕ) (pages : ℕ → List ℕ) (page : ℕ) → first_element_page ≤ count → IsFirstBad count pages page → page < count
first_within count pages page some first = let found = found_by (Finds count pages) all_steps page first in found_within count pages found.0 page some found.1

volume_count : (size : ℕ) → IsVolumeSize size → 931 ≤ page_count size
volume_count size is =
    let some = is.1 in
    let bytes = is.3 in
    omega (arith, some, bytes)

bytes_within : (bytes : List ℕ) (page : ℕ) → IsVolumeSize (length bytes) → IsFirstBadOf bytes page → page < page_count (length bytes)
bytes_within bytes page size (inl first) = absurd (first.0 size)
bytes_within bytes page size (inr (is, inl first)) = let some = volume_count (length bytes) size in let one = first.1 in omega (arith, some, one)
bytes_within bytes page size (inr (is, inr first)) =
    let some = volume_count (length bytes) size in
    first_within (page_count (length bytes)) (pages bytes) page (omega (arith, some)) first.first

pub within_pages : FirstBadPagesAreWithin
within_pages = record {
  pages = first_within;
  bytes = bytes_within;
}
