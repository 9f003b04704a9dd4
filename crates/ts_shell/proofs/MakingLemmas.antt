-- What a stop leaves while a store is made.
use Rattle.std.proofs.Common.{◌≡◌, ℕ, ◌+◌, ◌-◌, ◌*◌, ◌≤◌, Bool, IsTrue, Some, codes, List, [], ◌∷◌, ◌++◌, length, take, drop, replicate, Result, Ok, inl, inr, refl, sym, ◌∙◌, ap, subst, arith}
use Rattle.std.specs.Int.{w32, to_be_bytes}
use Rattle.std.proofs.lemmas.List.{drop-replicate, length-replicate, take-replicate, take_at}
use Rattle.ts_disk.specs.Device.{Device, Lawful, LeavesOnly, Torn, overwritten, Resized, WrittenAt, Synced}
use Rattle.ts_disk.proofs.Moments.{started, calls_on}
use Rattle.ts_disk.proofs.Ranges.{drop_further}
use Rattle.ts_disk.proofs.Replays.{Torn-overwritten}
use Rattle.ts_page.specs.Pages.{first_element_page}
use Rattle.ts_journal.specs.Journal.{page_count, records, pages}
use Rattle.ts_model.specs.Definitions.{IsFormat}
use Rattle.ts_model.specs.Catalogue.{empty_catalogue}
use Rattle.ts_layout.specs.Slot.{header_bytes}
use Rattle.ts_layout.proofs.CallerLemmas.{length-padded, same_catalogue}
use Rattle.ts_shell.specs.Making.{IsEmptyOrNone, EmptyFrom}
use Rattle.ts_shell.proofs.NewLemmas.{page_at, IsNew, no_journal, pages_own, new_means}

-- the header is a page
pub header_length : (format count : ℕ) → length (header_bytes format count) ≡ 4096
unfolding header_bytes
header_length format count = length-padded 4096 (codes "TSVOLUME" ++ (format ∷ to_be_bytes w32 count)) (omega arith)

-- what is torn before a page leaves it
page_behind : (n k : ℕ) (old new : List ℕ) → Torn 0 k old new → k ≤ 4096 * n → page_at n new ≡ page_at n old
page_behind n k old new torn behind = ap (take 4096) (drop_further (0 + k) (4096 * n) old new (omega (arith, behind)) torn.after)

-- a page of zeros
zero_page_at : (n size : ℕ) → 4096 * n + 4096 ≤ size → page_at n (replicate size 0) ≡ replicate 4096 0
zero_page_at n size room = ap (take 4096) (drop-replicate (4096 * n) size 0) ∙ take-replicate {X = ℕ} 4096 (size - 4096 * n) 0 (omega arith)

module _ (count size : ℕ) (some : 1 ≤ count) (limit : count ≤ 65536) (is : size ≡ 4096 * (first_element_page + count)) where
  -- zeros with any first page, if this is the header
  torn_new : (format : ℕ) (image : List ℕ) → Torn 0 4096 (replicate size 0) image → page_at 0 image ≡ header_bytes format count → IsNew format count image
  torn_new format image torn header = record {
    size = torn.len ∙ length-replicate size 0 ∙ is;
    header = header;
    zeros = λ n low high. page_behind n 4096 (replicate size 0) image torn (omega (arith, low)) ∙ zero_page_at n size (omega (arith, is, high));
  }

  -- the header written over zeros
  pub written_new : (format : ℕ) (header held : List ℕ) → header ≡ header_bytes format count → length header ≡ 4096 → held ≡ overwritten 0 header (replicate size 0) → IsNew format count held
  written_new format header held same whole written =
      let zeros : List ℕ = replicate size 0 in
      let long : length zeros ≡ size = length-replicate size 0 in
      let torn : Torn 0 (length header) zeros (overwritten 0 header zeros) = Torn-overwritten 0 header zeros (omega (arith, whole, long, is)) in
      let front : page_at 0 (overwritten 0 header zeros) ≡ header = take_at header (drop (0 + length header) zeros) 4096 whole in
      subst (IsNew format count) (sym written)
      (torn_new format (overwritten 0 header zeros) (subst (λ (k : ℕ). Torn 0 k zeros (overwritten 0 header zeros)) whole torn) (front ∙ same))

  -- zeros with any first page mean the empty catalogue of either format or none
  pub torn_empty : (image : List ℕ) → Torn 0 4096 (replicate size 0) image → IsEmptyOrNone count image
  torn_empty image torn cat means =
      let none : records image ≡ Some [] = no_journal image (page_behind 1 4096 (replicate size 0) image torn (omega arith) ∙ zero_page_at 1 size (omega (arith, is))) in
      let long : length image ≡ 4096 * (first_element_page + count) = torn.len ∙ length-replicate size 0 ∙ is in
      let layout = means.pages.0 in
      let laid = means.pages.1 in
      let same : length layout.element_pages ≡ count = omega (arith, laid.size, long) in
      let format = layout.definitions.format in
      let known : IsFormat format = laid.rules.definitions.tables.format in
      let header : page_at 0 image ≡ header_bytes format count = sym (pages_own image none 0) ∙ laid.bytes.header ∙ ap (header_bytes format) same in
      let empty : cat ≡ empty_catalogue format count =
      same_catalogue (page_count (length image)) (pages image) cat (empty_catalogue format count) means.pages (new_means format count image known some limit (torn_new format image torn header)).pages
      in
      elim known [
        | inl old ↦ inl (empty ∙ ap (λ (n : ℕ). empty_catalogue n count) old)
        | inr newest ↦ inr (empty ∙ ap (λ (n : ℕ). empty_catalogue n count) newest)
      ]

-- nothing, grown, is zeros
pub zeros_grown : (held grown : List ℕ) (size old : ℕ) → length held ≡ old → old ≡ 0 → grown ≡ held ++ replicate (size - old) 0 → grown ≡ replicate size 0
zeros_grown [] grown size old long empty is = is ∙ ap (λ (n : ℕ). replicate {A = ℕ} n 0) (let e : size - old ≡ size = omega (arith, empty) in e)
zeros_grown (x ∷ held) grown size old long empty is = absurd (omega (arith, long, empty))

-- an image that means the empty catalogue of either format or none, with nothing said
abbrev pub EmptyMoment : ℕ → Device → List ℕ → List ℕ → Type 0
EmptyMoment count v image said = IsEmptyOrNone count image × (said ≡ v.said)

-- from the first sync on: the bytes were zeros then, and nothing was pending
module _ {E F : Type 0} (tells : Bool) (told : IsTrue tells) (count size : ℕ) (some : 1 ≤ count) (limit : count ≤ 65536) (is : size ≡ 4096 * (first_element_page + count)) (v a b : Device) (lawful : Lawful tells v) (later : Lawful tells b) (empty : v.size ≡ 0)
    (resize : Resized {E = E} tells size (Ok tt) v a) (sync : Synced {E = F} tells (Ok tt) a b) where
  pub zeros_held : a.held ≡ replicate size 0
  zeros_held = zeros_grown v.held a.held size v.size (lawful.size told) empty (resize.grown told)

  torn_here : (image : List ℕ) → b.images image → Torn 0 4096 (replicate size 0) image
  torn_here image now =
      let same : replicate size 0 ≡ image = sym zeros_held ∙ sym (sync.durable image now) in
      subst (Torn 0 4096 (replicate size 0)) same (record { len = refl; before = refl; after = refl })

  said_same : b.said ≡ v.said
  said_same = sync.call.said ∙ resize.call.said

  pub begun : LeavesOnly b b (EmptyMoment count v)
  begun = started tells b (EmptyMoment count v) later (λ image now. (torn_empty count size some limit is image (torn_here image now), said_same))

  -- the header is written, or not
  module _ {G : Type 0} (header : List ℕ) (whole : length header ≡ 4096) (d : Device) (r : Result Unit G) (write : WrittenAt tells 0 header r b d) where
    torn_there : (image : List ℕ) → d.images image → Torn 0 4096 (replicate size 0) image
    torn_there image now =
        let from = write.crash image now in
        let same : from.0 ≡ replicate size 0 = sync.durable from.0 from.1 ∙ zeros_held in
        subst (λ (l : List ℕ). Torn 0 4096 l image) same (subst (λ (k : ℕ). Torn 0 k from.0 image) whole from.2)

    pub written : LeavesOnly b d (EmptyMoment count v)
    written = calls_on tells r b b d (EmptyMoment count v) begun write.call (λ image now. (torn_empty count size some limit is image (torn_there image now), said_same))

    pub written_synced : {H : Type 0} (f : Device) (q : Result Unit H) → Synced tells q d f → LeavesOnly b f (EmptyMoment count v)
    written_synced f q again =
        calls_on tells q b d f (EmptyMoment count v) written again.call (λ image now. (torn_empty count size some limit is image (torn_there image (again.crash image now)), write.call.said ∙ said_same))

  -- what these moments are since the first sync
  pub empty_from : (w : Device) → LeavesOnly b w (EmptyMoment count v) → EmptyFrom count (v.clock + 2) v w
  empty_from w leaves =
      let clock : b.clock ≡ v.clock + 2 = omega (arith, resize.call.tick told refl, sync.call.tick told refl) in
      record {
        later = omega (arith, clock, leaves.later);
        each = λ image said left. leaves.each image said (subst (λ (n : ℕ). w.since n image said) (sym clock) left);
      }
