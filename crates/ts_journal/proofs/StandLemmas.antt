-- What is read of a journal is what stands there.
use Rattle.std.proofs.Common.{◌≡◌, ◌⊎◌, inl, inr, ⊎_elim, ℕ, zero, suc, ◌+◌, ◌*◌, ◌^◌, ◌<◌, ◌≤◌, Bool, true, ◌&&◌, cond, leb, ltb, not, Option, Some, None, option_and_then, List, [], ◌∷◌, ◌++◌, length, take, drop, get_or, refl, ap, sym, ◌∙◌, subst, arith, length-append, length-drop, take-append-drop}
use Rattle.std.specs.Prelude.{◌==◌}
use Rattle.std.specs.Option.{option_map}
use Rattle.std.specs.Int.{from_be_bytes, to_be_bytes, w32}
use Rattle.std.proofs.lemmas.Bool.{and_parts, cases_Bool, cases_lt, leb-true, ltb-true, eqb-true, not-true}
use Rattle.std.proofs.lemmas.Nat.{be_bytes_4, from_be_bytes-to_be_bytes_4}
use Rattle.std.proofs.lemmas.Option.{none-some, same_Some}
use Rattle.std.proofs.lemmas.List.{get_or-take, get_or-drop, get_or_past, length-take, length-take-le}
use Rattle.std.proofs.Math.Seq.{take-add}
use Rattle.ts_page.specs.Pages.{bytes_at, is_region, first_element_page}
use Rattle.ts_journal.specs.declared.batch.Change.TheVariants.{Image, Free}
use Rattle.ts_journal.specs.Journal.{is_open, Entry, IsRising, IsWhole, AreWhole, IsAllowed, AreAllowed, entry_bytes, entries_bytes, AreBytes, IsRecord, record_length, entry_if_any, first_entry, entries_in, first_record, records_in, IsVolumeSize, page_count, region, records, AreRecords, AreBeforeMalformed, IsMalformed}
use Rattle.ts_journal.proofs.ParseLemmas.{entries_step, entries_none, entries_end, entries_zero, entries_read}
use Rattle.ts_journal.proofs.ImageLemmas.{closed_records, open_records, outside_region}
use Rattle.ts_journal.proofs.RecordsLemmas.{tested, either, record_whole, record_parts, records_zero}
use Rattle.ts_journal.proofs.CommitLemmas.{at_least_five, count_small, volume_long, region_length}

drop_small : (n : ℕ) (bytes : List ℕ) → AreBytes bytes → AreBytes (drop n bytes)
drop_small n bytes small i = subst (λ (b : ℕ). b < 256) (sym (get_or-drop n bytes i 0)) (small (n + i))

take_small : (n : ℕ) (bytes : List ℕ) → AreBytes bytes → AreBytes (take n bytes)
take_small n bytes small i = elim (cases_lt i n) [
  | inl below ↦ subst (λ (b : ℕ). b < 256) (sym (get_or-take n bytes i 0 below)) (small i)
  | inr past ↦ subst (λ (b : ℕ). b < 256) (sym (get_or_past (take n bytes) i 0 (omega (arith, past, length-take n bytes)))) (omega arith)
]

part_small : (at n : ℕ) (bytes : List ℕ) → AreBytes bytes → AreBytes (bytes_at at n bytes)
part_small at n bytes small = take_small n (drop at bytes) (drop_small at bytes small)

number_again : (at : ℕ) (bytes : List ℕ) → AreBytes bytes → at + 4 ≤ length bytes → to_be_bytes w32 (from_be_bytes w32 (bytes_at at 4 bytes)) ≡ bytes_at at 4 bytes
number_again at bytes small room =
    be_bytes_4 (bytes_at at 4 bytes) (from_be_bytes w32 (bytes_at at 4 bytes)) (length-take-le 4 (drop at bytes) (omega (arith, length-drop at bytes, room))) (part_small at 4 bytes small) refl

front_five : (bytes : List ℕ) → 5 ≤ length bytes → take 5 bytes ≡ get_or bytes 0 0 ∷ bytes_at 1 4 bytes
front_five [] long = absurd (omega (arith, long))
front_five (x ∷ xs) long = refl

-- an entry that was read keeps the rules, and these are its bytes
pub record EntryParts (count least : ℕ) (bytes : List ℕ) (e : Entry) : Type 0 where
  pub allowed : IsAllowed count e
  pub from : least ≤ e.0
  pub whole : IsWhole e.1
  pub same : take (length (entry_bytes e)) bytes ≡ entry_bytes e

module _ (count least : ℕ) (bytes : List ℕ) (small : AreBytes bytes) where
  abbrev number : ℕ
  number = from_be_bytes w32 (bytes_at 1 4 bytes)

  abbrev kind : ℕ
  kind = get_or bytes 0 0

  abbrev page : List ℕ
  page = take 4096 (drop 5 bytes)

  abbrev image : Entry
  image = (number, Image (record { bytes = page }))

  abbrev tests : Bool
  tests = leb least number && ltb number count && not (is_region number)

  front_is : (k : ℕ) → 5 ≤ length bytes → kind ≡ k → take 5 bytes ≡ k ∷ to_be_bytes w32 number
  front_is k long is = front_five bytes long ∙ (λ i. is i ∷ sym (number_again 1 bytes small (omega (arith, long))) i)

  below_from : tests ≡ true → (number < count) × (least ≤ number)
  below_from passes =
      let low = and_parts (leb least number && ltb number count) (not (is_region number)) passes in
      let both = and_parts (leb least number) (ltb number count) low.0 in
      (ltb-true number count both.1, leb-true least number both.0)

  outside : tests ≡ true → (number ≡ 0) ⊎ (256 < number)
  outside passes = outside_region number (not-true (is_region number) (and_parts (leb least number && ltb number count) (not (is_region number)) passes).1)

  image_parts : 5 ≤ length bytes → tests ≡ true → kind ≡ 1 → 4096 ≤ length (drop 5 bytes) → EntryParts count least bytes image
  image_parts long passes is room =
      let size : length page ≡ 4096 = length-take-le 4096 (drop 5 bytes) room in
      let own : length (entry_bytes image) ≡ 5 + 4096 = omega (arith, length-append (1 ∷ to_be_bytes w32 number) page, size) in
      record {
        allowed = record { below = (below_from passes).0; outside = outside passes; freeable = tt };
        from = (below_from passes).1;
        whole = size;
        same = ap (λ (n : ℕ). take n bytes) own ∙ take-add 5 4096 bytes ∙ ap (λ (l : List ℕ). l ++ page) (front_is 1 long is);
      }

  freed_parts : 5 ≤ length bytes → tests ≡ true → kind ≡ 2 → first_element_page ≤ number → EntryParts count least bytes (number, Free)
  freed_parts long passes is element = record {
    allowed = record { below = (below_from passes).0; outside = outside passes; freeable = element };
    from = (below_from passes).1;
    whole = tt;
    same = front_is 2 long is;
  }

  abbrev freed_only : Option Entry
  freed_only = cond ((kind == 2) && leb first_element_page number) (Some (number, Free)) None

  abbrev image_or_freed : Option Entry
  image_or_freed = cond ((kind == 1) && leb 4096 (length (drop 5 bytes))) (Some image) freed_only

  pub entry_parts : (e : Entry) → first_entry count least bytes ≡ Some e → EntryParts count least bytes e
  unfolding first_entry entry_if_any
  entry_parts e is =
      let five = tested (leb 5 (length bytes)) (cond tests image_or_freed None) e is in
      let long : 5 ≤ length bytes = leb-true 5 (length bytes) five.0 in
      let passed = tested tests image_or_freed e five.1 in
      ⊎_elim
      (λ found.
      let both = and_parts (kind == 1) (leb 4096 (length (drop 5 bytes))) found.0 in
      subst (EntryParts count least bytes) (same_Some image e found.1) (image_parts long passed.0 (eqb-true kind 1 both.0) (leb-true 4096 (length (drop 5 bytes)) both.1)))
      (λ last.
      let found = tested ((kind == 2) && leb first_element_page number) (Some (number, Free)) e last in
      let both = and_parts (kind == 2) (leb first_element_page number) found.0 in
      subst (EntryParts count least bytes) (same_Some (number, Free) e found.1) (freed_parts long passed.0 (eqb-true kind 2 both.0) (leb-true first_element_page number both.1)))
      (either ((kind == 1) && leb 4096 (length (drop 5 bytes))) (Some image) freed_only e passed.1)

-- so do entries
pub record EntriesParts (count least top : ℕ) (bytes : List ℕ) (es : List Entry) : Type 0 where
  pub rising : IsRising least top es
  pub allowed : AreAllowed count es
  pub whole : AreWhole es
  pub same : entries_bytes es ≡ bytes

entries_more : (most count least top byte : ℕ) (bytes : List ℕ) (es : List Entry) → count ≤ top → AreBytes (byte ∷ bytes)
    → ((next : ℕ) (rest : List ℕ) (fs : List Entry) → next ≤ top → AreBytes rest → entries_in most count next rest ≡ Some fs → EntriesParts count next top rest fs)
    → (o : Option Entry) → first_entry count least (byte ∷ bytes) ≡ o → entries_in (suc most) count least (byte ∷ bytes) ≡ Some es → EntriesParts count least top (byte ∷ bytes) es
entries_more most count least top byte bytes es fits small others None none is = absurd (none-some es (sym (entries_none (suc most) count least byte bytes none) ∙ is))
entries_more most count least top byte bytes es fits small others (Some e) some is = by_rest (entries_in most count (e.0 + 1) (drop (length (entry_bytes e)) (byte ∷ bytes))) refl
  where
    by_rest : (o : Option (List Entry)) → entries_in most count (e.0 + 1) (drop (length (entry_bytes e)) (byte ∷ bytes)) ≡ o → EntriesParts count least top (byte ∷ bytes) es
    by_rest None none = absurd (none-some es (sym (entries_step most count least byte bytes e some ∙ ap (option_map (λ fs. e ∷ fs)) none) ∙ is))
    by_rest (Some fs) rest =
        let n = length (entry_bytes e) in
        let es_is : e ∷ fs ≡ es = same_Some _ _ (sym (entries_step most count least byte bytes e some ∙ ap (option_map (λ gs. e ∷ gs)) rest) ∙ is) in
        let own = entry_parts count least (byte ∷ bytes) small e some in
        let tail = others (e.0 + 1) (drop n (byte ∷ bytes)) fs (omega (arith, own.allowed.below, fits)) (drop_small n (byte ∷ bytes) small) rest in
        subst (EntriesParts count least top (byte ∷ bytes)) es_is
        (record {
          rising = (own.from, tail.rising);
          allowed = (own.allowed, tail.allowed);
          whole = (own.whole, tail.whole);
          same = (λ i. sym own.same i ++ tail.same i) ∙ take-append-drop n (byte ∷ bytes);
        })

entries_stand : (most count least top : ℕ) (bytes : List ℕ) (es : List Entry) → count ≤ top → least ≤ top → AreBytes bytes → entries_in most count least bytes ≡ Some es → EntriesParts count least top bytes es
entries_stand most count least top [] es fits from small is =
    subst (EntriesParts count least top []) (same_Some _ _ (sym (entries_end most count least) ∙ is)) (record { rising = from; allowed = tt; whole = tt; same = refl })
entries_stand zero count least top (byte ∷ bytes) es fits from small is = absurd (none-some es (sym (entries_zero count least byte bytes) ∙ is))
entries_stand (suc most) count least top (byte ∷ bytes) es fits from small is =
    entries_more most count least top byte bytes es fits small (λ next rest fs low few some. entries_stand most count next top rest fs fits low few some) (first_entry count least (byte ∷ bytes)) refl is

-- bytes are read as a record exactly where it stands there
pub record_stands : (count : ℕ) (bytes : List ℕ) (es : List Entry) → count ≤ 2 ^ 32 → AreBytes bytes → first_record count bytes ≡ Some es → IsRecord count es bytes
record_stands count bytes es fits small is =
    let parts = record_parts count bytes es is in
    let n = length (entries_bytes es) in
    let inner = entries_stand n count 0 (2 ^ 32) (bytes_at 12 n bytes) es fits (omega arith) (part_small 12 n bytes small) parts.entries in
    record {
      some = λ none. omega (arith, parts.least, ap (λ (l : List Entry). length (entries_bytes l)) none);
      batch = record { rising = inner.rising; whole = inner.whole };
      allowed = inner.allowed;
      number = sym (number_again 8 bytes small (omega (arith, parts.room))) ∙ ap (to_be_bytes w32) parts.number;
      entries = sym inner.same;
      room = parts.room;
    }

pub record_is_read : (count : ℕ) (bytes : List ℕ) (es : List Entry) → count ≤ 2 ^ 32 → length bytes < 2 ^ 32 → IsRecord count es bytes → first_record count bytes ≡ Some es
record_is_read count bytes es fits short stands =
    let n = length (entries_bytes es) in
    record_whole count bytes es (record {
      number = ap (from_be_bytes w32) stands.number ∙ from_be_bytes-to_be_bytes_4 n (omega (arith, stands.room, short));
      least = at_least_five es stands.some;
      room = stands.room;
      entries = ap (entries_in n count 0) stands.entries ∙ entries_read n count 0 (2 ^ 32) es fits (omega arith) stands.batch.rising stands.allowed stands.batch.whole;
    })

-- the record behind an open gate, and then what stands behind it
open_record : (most count : ℕ) (bytes : List ℕ) (es : List Entry) → is_open bytes ≡ true → first_record count bytes ≡ Some es
    → records_in (suc most) count bytes ≡ option_map (λ qs. es ∷ qs) (records_in most count (drop (record_length es) bytes))
open_record most count bytes es opened some =
    open_records most count bytes opened ∙ ap (option_and_then (λ (fs : List Entry). option_map (λ qs. fs ∷ qs) (records_in most count (drop (record_length fs) bytes)))) some

no_record : (most count : ℕ) (bytes : List ℕ) → is_open bytes ≡ true → first_record count bytes ≡ None → records_in (suc most) count bytes ≡ None
no_record most count bytes opened none =
    open_records most count bytes opened ∙ ap (option_and_then (λ (fs : List Entry). option_map (λ qs. fs ∷ qs) (records_in most count (drop (record_length fs) bytes)))) none

-- a record has at least 17 bytes
shorter : (most count : ℕ) (bytes : List ℕ) (es : List Entry) → IsRecord count es bytes → length bytes + 8 ≤ 17 * suc most → length (drop (record_length es) bytes) + 8 ≤ 17 * most
shorter most count bytes es stands fits = omega (arith, length-drop (record_length es) bytes, at_least_five es stands.some, stands.room, fits)

module _ (count : ℕ) (fits : count ≤ 2 ^ 32) where
  open_stand : (most : ℕ) (bytes : List ℕ) (rs : List (List Entry)) → AreBytes bytes → is_open bytes ≡ true → records_in (suc most) count bytes ≡ Some rs
      → ((l : List ℕ) (qs : List (List Entry)) → AreBytes l → records_in most count l ≡ Some qs → AreRecords count qs l)
      → (o : Option (List Entry)) → first_record count bytes ≡ o → AreRecords count rs bytes
  open_stand most bytes rs small opened is tails None none = absurd (none-some rs (sym (no_record most count bytes opened none) ∙ is))
  open_stand most bytes rs small opened is tails (Some es) some = by_rest (records_in most count (drop (record_length es) bytes)) refl
    where
      by_rest : (o : Option (List (List Entry))) → records_in most count (drop (record_length es) bytes) ≡ o → AreRecords count rs bytes
      by_rest None none = absurd (none-some rs (sym (open_record most count bytes es opened some ∙ ap (option_map (λ qs. es ∷ qs)) none) ∙ is))
      by_rest (Some qs) rest =
          subst (λ (ps : List (List Entry)). AreRecords count ps bytes) (same_Some _ _ (sym (open_record most count bytes es opened some ∙ ap (option_map (λ ps. es ∷ ps)) rest) ∙ is))
          (opened, record_stands count bytes es fits small some, tails (drop (record_length es) bytes) qs (drop_small (record_length es) bytes small) rest)

  pub records_stand : (most : ℕ) (bytes : List ℕ) (rs : List (List Entry)) → AreBytes bytes → records_in most count bytes ≡ Some rs → AreRecords count rs bytes
  records_stand zero bytes rs small is = absurd (none-some rs (sym (records_zero count bytes) ∙ is))
  records_stand (suc most) bytes rs small is = ⊎_elim
      (λ opened. open_stand most bytes rs small opened is (λ l qs few some. records_stand most l qs few some) (first_record count bytes) refl)
      (λ closed. subst (λ (ps : List (List Entry)). AreRecords count ps bytes) (same_Some _ _ (sym (closed_records most count bytes closed) ∙ is)) closed)
      (cases_Bool (is_open bytes))

  pub records_are_read : (most : ℕ) (bytes : List ℕ) (rs : List (List Entry)) → length bytes < 2 ^ 32 → length bytes + 8 ≤ 17 * most → AreRecords count rs bytes → records_in most count bytes ≡ Some rs
  records_are_read zero bytes rs short enough stand = absurd (omega (arith, enough))
  records_are_read (suc most) bytes [] short enough stand = closed_records most count bytes stand
  records_are_read (suc most) bytes (es ∷ rs) short enough stand =
      open_record most count bytes es stand.0 (record_is_read count bytes es fits short stand.1)
      ∙ ap (option_map (λ qs. es ∷ qs))
      (records_are_read most (drop (record_length es) bytes) rs (omega (arith, short, length-drop (record_length es) bytes)) (shorter most count bytes es stand.1 enough) stand.2)

  abbrev Malformed : List ℕ → Type 0
  Malformed bytes = (rs : List (List Entry)) × AreBeforeMalformed count rs bytes

  open_malformed : (most : ℕ) (bytes : List ℕ) → AreBytes bytes → length bytes < 2 ^ 32 → length bytes + 8 ≤ 17 * suc most → is_open bytes ≡ true → records_in (suc most) count bytes ≡ None
      → ((l : List ℕ) → AreBytes l → length l < 2 ^ 32 → length l + 8 ≤ 17 * most → records_in most count l ≡ None → Malformed l)
      → (o : Option (List Entry)) → first_record count bytes ≡ o → Malformed bytes
  open_malformed most bytes small short enough opened is tails None none = ([], (opened, λ es stands. none-some es (sym none ∙ record_is_read count bytes es fits short stands)))
  open_malformed most bytes small short enough opened is tails (Some es) some = by_rest (records_in most count (drop (record_length es) bytes)) refl
    where
      stands : IsRecord count es bytes
      stands = record_stands count bytes es fits small some

      by_rest : (o : Option (List (List Entry))) → records_in most count (drop (record_length es) bytes) ≡ o → Malformed bytes
      by_rest None none =
          let more = tails (drop (record_length es) bytes) (drop_small (record_length es) bytes small) (omega (arith, short, length-drop (record_length es) bytes)) (shorter most count bytes es stands enough) none in
          (es ∷ more.0, (opened, stands, more.1))
      by_rest (Some qs) rest = absurd (none-some (es ∷ qs) (sym is ∙ open_record most count bytes es opened some ∙ ap (option_map (λ ps. es ∷ ps)) rest))

  pub malformed_stands : (most : ℕ) (bytes : List ℕ) → AreBytes bytes → length bytes < 2 ^ 32 → length bytes + 8 ≤ 17 * most → records_in most count bytes ≡ None → Malformed bytes
  malformed_stands zero bytes small short enough is = absurd (omega (arith, enough))
  malformed_stands (suc most) bytes small short enough is = ⊎_elim
      (λ opened. open_malformed most bytes small short enough opened is (λ l few less fewer none. malformed_stands most l few less fewer none) (first_record count bytes) refl)
      (λ closed. absurd (none-some [] (sym is ∙ closed_records most count bytes closed)))
      (cases_Bool (is_open bytes))

  none_first : (bytes : List ℕ) → AreBytes bytes → ((es : List Entry) → ¬ IsRecord count es bytes) → (o : Option (List Entry)) → first_record count bytes ≡ o → first_record count bytes ≡ None
  none_first bytes small never None none = none
  none_first bytes small never (Some es) some = absurd (never es (record_stands count bytes es fits small some))

  pub malformed_is_none : (most : ℕ) (bytes : List ℕ) (rs : List (List Entry)) → AreBytes bytes → length bytes < 2 ^ 32 → AreBeforeMalformed count rs bytes → records_in most count bytes ≡ None
  malformed_is_none zero bytes rs small short stand = records_zero count bytes
  malformed_is_none (suc most) bytes [] small short stand = no_record most count bytes stand.0 (none_first bytes small stand.1 (first_record count bytes) refl)
  malformed_is_none (suc most) bytes (es ∷ rs) small short stand =
      open_record most count bytes es stand.0 (record_is_read count bytes es fits short stand.1)
      ∙ ap (option_map (λ qs. es ∷ qs))
      (malformed_is_none most (drop (record_length es) bytes) rs (drop_small (record_length es) bytes small) (omega (arith, short, length-drop (record_length es) bytes)) stand.2)

-- the same of a volume's journal
module _ (image : List ℕ) (volume : IsVolumeSize (length image)) where
  few : page_count (length image) ≤ 2 ^ 32
  few = count_small (length image) volume

  size : length (region image) ≡ 1048576
  size = region_length image (volume_long (length image) volume)

  region_small : AreBytes image → AreBytes (region image)
  region_small small = part_small 4096 1048576 image small

  pub journal_stands : (rs : List (List Entry)) → AreBytes image → records image ≡ Some rs → AreRecords (page_count (length image)) rs (region image)
  unfolding records
  journal_stands rs small is = records_stand (page_count (length image)) few 65536 (region image) rs (region_small small) is

  pub journal_is_read : (rs : List (List Entry)) → AreRecords (page_count (length image)) rs (region image) → records image ≡ Some rs
  unfolding records
  journal_is_read rs stand = records_are_read (page_count (length image)) few 65536 (region image) rs (omega (arith, size)) (omega (arith, size)) stand

  pub journal_malformed : AreBytes image → records image ≡ None → IsMalformed image
  unfolding records
  journal_malformed small is = malformed_stands (page_count (length image)) few 65536 (region image) (region_small small) (omega (arith, size)) (omega (arith, size)) is

  pub journal_is_none : AreBytes image → IsMalformed image → records image ≡ None
  unfolding records
  journal_is_none small malformed = malformed_is_none (page_count (length image)) few 65536 (region image) malformed.0 (region_small small) (omega (arith, size)) malformed.1
