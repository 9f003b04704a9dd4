-- Pages brought to their places.
use Rattle.std.proofs.Common.{◌≡◌, ◌⊎◌, inl, inr, ⊎_elim, ℕ, zero, suc, ◌+◌, ◌*◌, ◌^◌, ◌<◌, ◌≤◌, Bool, IsTrue, cond, eqb, Some, None, Result, Ok, Err, IsErr, List, [], ◌∷◌, ◌++◌, length, take, drop, replicate, get_or, refl, ap, sym, ◌∙◌, subst, arith, add-zero, length-append}
use Rattle.std.proofs.lemmas.Bool.{false≢true, cond-true, cond-false, eq-eqb, ne_eqb, cases_eq, cases_lt}
use Rattle.std.proofs.lemmas.List.{take_more, take_all, take-take}
use Rattle.ts_disk.specs.Device.{Device, Lawful, Torn, Follows, LeavesOnly, overwritten}
use Rattle.ts_disk.specs.declared.volume.Failed.{Failed}
use Rattle.ts_disk.proofs.Moments.{started, leaves_map, then_on}
use Rattle.ts_page.specs.Pages.{bytes_at}
use Rattle.ts_journal.specs.declared.batch.Change.{Change}
use Rattle.ts_journal.specs.declared.batch.Change.TheVariants.{Image, Free}
use Rattle.ts_journal.specs.Journal.{Entry, IsRising, IsWhole, IsAllowed, AreAllowed, change_of, page_count}
use Rattle.ts_journal.specs.declared.pen.Pen.{Pen}
use Rattle.ts_journal.specs.Moment.{Keeps, TornFrom, WritesWithin, Writes}
use Rattle.ts_journal.specs.Pen.{pending, Adds, Moved}
use Rattle.ts_journal.specs.Steps.{Beside, home_bytes, IsHome, AreHome, BesideFrom, WritesHome}
use Rattle.ts_journal.proofs.RangeLemmas.{outside, written_part, Torn-overwritten, overwritten-length, overwritten-none}
use Rattle.ts_journal.proofs.WriteLemmas.{keeps_refl, keeps_then, on_ok_map, rose_after}
use Rattle.ts_journal.proofs.PenLemmas.{ahead, ahead_added}
use Rattle.ts_journal.proofs.BatchLemmas.{no_entry}

pub beside_refl : (es : List Entry) (image : List ℕ) → Beside es image image
beside_refl es image = record { len = refl; region = refl; others = λ number none. refl }

pub beside_then : (es : List Entry) (a b c : List ℕ) → Beside es a b → Beside es b c → Beside es a c
beside_then es a b c first second = record {
  len = second.len ∙ first.len;
  region = second.region ∙ first.region;
  others = λ number none. second.others number none ∙ first.others number none;
}

-- an entry that is there is found
pub found : (es : List Entry) (i : ℕ) (d : Entry) → i < length es → change_of (get_or es i d).0 es ≡ None → ⊥
found [] i d within none = absurd (omega arith)
found (e ∷ es) zero d within none =
    let here : cond (eqb e.0 e.0) (Some e.1) (change_of e.0 es) ≡ Some e.1 = cond-true _ _ _ (eq-eqb e.0 e.0 refl) in absurd (cc (sym here ∙ none))
found (e ∷ es) (suc i) d within none =
    elim (cases_eq e.0 (get_or es i d).0) [
      | inl same ↦
          let here : cond (eqb e.0 (get_or es i d).0) (Some e.1) (change_of (get_or es i d).0 es) ≡ Some e.1 = cond-true _ _ _ (eq-eqb e.0 (get_or es i d).0 same) in
          absurd (cc (sym here ∙ none))
      | inr other ↦ found es i d (omega arith) (sym (cond-false _ _ _ (ne_eqb e.0 (get_or es i d).0 other)) ∙ none)
    ]

pub allowed_at : (count : ℕ) (es : List Entry) (i : ℕ) (d : Entry) → AreAllowed count es → i < length es → IsAllowed count (get_or es i d)
allowed_at count [] i d allowed within = absurd (omega arith)
allowed_at count (e ∷ es) zero d allowed within = allowed.0
allowed_at count (e ∷ es) (suc i) d allowed within = allowed_at count es i d allowed.1 (omega arith)

-- two pages that differ don't meet
apart : (a b n : ℕ) → n ≤ 4096 → (a ≡ b → ⊥) → (4096 * b + 4096 ≤ 4096 * a) ⊎ (4096 * a + n ≤ 4096 * b)
apart a b n short other = ⊎_elim (λ lower. inr (omega (arith, lower, short))) (λ higher. inl (omega (arith, higher, other))) (cases_lt a b)

-- a page below its end
pub page_room : (size number : ℕ) → number < page_count size → 4096 * number + 4096 ≤ size
page_room size number below = omega (arith, below)

pub rising_bound : (es : List Entry) (least top : ℕ) → IsRising least top es → least ≤ top
rising_bound [] least top rising = rising
rising_bound (e ∷ es) least top rising = omega (arith, rising.0, rising_bound es (e.0 + 1) top rising.1)

-- the entries before one have lower numbers
pub take_rising : (es : List Entry) (least top i : ℕ) (d : Entry) → IsRising least top es → i < length es → IsRising least (get_or es i d).0 (take i es)
take_rising [] least top i d rising within = absurd (omega arith)
take_rising (e ∷ es) least top zero d rising within = rising.0
take_rising (e ∷ es) least top (suc i) d rising within = (rising.0, take_rising es (e.0 + 1) top i d rising.1 (omega arith))

-- a write to a page leaves those of lower numbers in their places
pub home_keeps : (es : List Entry) (least number n : ℕ) (old new : List ℕ) → n ≤ 4096 → Torn (4096 * number) n old new → IsRising least number es → AreHome es old → AreHome es new
home_keeps [] least number n old new short torn rising home = tt
home_keeps (e ∷ es) least number n old new short torn rising home =
    let lower = rising_bound es (e.0 + 1) number rising.1 in (
      subst (IsHome e.1) (sym (outside (4096 * number) n (4096 * e.0) 4096 old new torn (inl (omega (arith, lower))))) home.0,
      home_keeps es (e.0 + 1) number n old new short torn rising.1 home.1,
    )

pub home_push : (es : List Entry) (e : Entry) (image : List ℕ) → AreHome es image → IsHome e.1 (bytes_at (4096 * e.0) 4096 image) → AreHome (es ++ e ∷ []) image
home_push [] e image home last = (last, tt)
home_push (f ∷ es) e image home last = (home.0, home_push es e image home.1 last)

-- what was written to a page's place brings it home
pub written_home : (change : Change) (number : ℕ) (old : List ℕ) → IsWhole change → 4096 * number + 4096 ≤ length old → IsHome change (bytes_at (4096 * number) 4096 (overwritten (4096 * number) (home_bytes change) old))
written_home (Image image) number old whole room =
    let at = 4096 * number in
    ap (λ (p : ℕ). bytes_at p 4096 (overwritten at image.bytes old)) (sym (add-zero at)) ∙ written_part at image.bytes old 0 4096 (omega (arith, room, whole)) (omega (arith, whole)) ∙ take_all 4096 image.bytes (omega (arith, whole))
written_home Free number old whole room =
    let at = 4096 * number in
    take-take 32 4096 (drop at (overwritten at (replicate 32 0) old)) (omega arith)
    ∙ ap (λ (p : ℕ). bytes_at p 32 (overwritten at (replicate 32 0) old)) (sym (add-zero at)) ∙ written_part at (replicate 32 0) old 0 32 (omega (arith, room)) (omega arith)

-- a range within pages that the entries name
pub record InPages (es : List Entry) (at n : ℕ) : Type 0 where
  pub region : (4096 + 1048576 ≤ at) ⊎ (at + n ≤ 4096)
  pub others : (number : ℕ) → change_of number es ≡ None → (4096 * number + 4096 ≤ at) ⊎ (at + n ≤ 4096 * number)

pub torn_beside : (es : List Entry) (at n : ℕ) (old new : List ℕ) → InPages es at n → Torn at n old new → Beside es old new
torn_beside es at n old new here torn = record {
  len = torn.len;
  region = outside at n 4096 1048576 old new torn here.region;
  others = λ number none. outside at n (4096 * number) 4096 old new torn (here.others number none);
}

-- before the first page
in_none : (es : List Entry) → InPages es 0 0
in_none es = record { region = inr (omega arith); others = λ number none. inr (omega arith) }

in_page : (es : List Entry) (count i n : ℕ) → AreAllowed count es → i < length es → n ≤ 4096 → InPages es (4096 * (get_or es i no_entry).0) n
in_page es count i n allowed within short =
    let rules = allowed_at count es i no_entry allowed within in record {
      region = ⊎_elim (λ first. inr (omega (arith, first, short))) (λ behind. inl (omega (arith, behind))) rules.outside;
      others = λ other none. apart (get_or es i no_entry).0 other n short (λ same. found es i no_entry within (ap (λ (k : ℕ). change_of k es) same ∙ none));
    }

-- a part of the range
in_part : (es : List Entry) (at n from m : ℕ) → at ≤ from → from + m ≤ at + n → InPages es at n → InPages es from m
in_part es at n from m low high here = record {
  region = ⊎_elim (λ behind. inl (omega (arith, behind, low))) (λ before. inr (omega (arith, before, high))) here.region;
  others = λ number none. ⊎_elim (λ behind. inl (omega (arith, behind, low))) (λ before. inr (omega (arith, before, high))) (here.others number none);
}

-- neither page that lies apart from both ranges can lie between them
between : (at n m from l : ℕ) → 1 ≤ l → (from + l ≤ at) ⊎ (at + n ≤ from) → (from + l ≤ at + n) ⊎ (at + n + m ≤ from) → (from + l ≤ at) ⊎ (at + (n + m) ≤ from)
between at n m from l some (inl behind) second = inl behind
between at n m from l some (inr before) (inl second) = absurd (omega (arith, some, before, second))
between at n m from l some (inr before) (inr second) = inr (omega (arith, second))

in_joined : (es : List Entry) (at n m : ℕ) → InPages es at n → InPages es (at + n) m → InPages es at (n + m)
in_joined es at n m first second = record {
  region = between at n m 4096 1048576 (omega arith) first.region second.region;
  others = λ number none. between at n m (4096 * number) 4096 (omega arith) (first.others number none) (second.others number none);
}

-- writes in pages that the entries name
pub record Underway (tells : Bool) (es : List Entry) (v w : Device) : Type 0 where
  pub keeps : Keeps tells v w
  pub crash : Follows (Beside es) v.images w.images
  pub moments : LeavesOnly v w (BesideFrom es v)

underway_start : (tells : Bool) (es : List Entry) (v : Device) → Lawful tells v → Underway tells es v v
underway_start tells es v lawful = record {
  keeps = keeps_refl tells v;
  crash = λ image now. (image, now, beside_refl es image);
  moments = started tells v (BesideFrom es v) lawful (λ image now. (image, now, beside_refl es image, refl));
}

underway_more : (tells : Bool) (es : List Entry) (at n : ℕ) (v w x : Device) → InPages es at n → Underway tells es v w → WritesWithin tells at n w x → Underway tells es v x
underway_more tells es at n v w x here run writes = record {
  keeps = keeps_then tells v w x run.keeps writes.keeps;
  crash = λ image now.
      let mid = writes.crash image now in
      let start = run.crash mid.0 mid.1 in
      (start.0, start.1, beside_then es start.0 mid.0 image start.2 (torn_beside es at n mid.0 image here mid.2));
  moments = then_on v w x (BesideFrom es v) run.moments
      (leaves_map w x (TornFrom at n w) (BesideFrom es v)
      (λ image said torn.
      let start = run.crash torn.0 torn.1 in
      (start.0, start.1, beside_then es start.0 torn.0 image start.2 (torn_beside es at n torn.0 image here torn.2), torn.3 ∙ run.keeps.said))
      writes.moments);
}

-- so many of the pages are in their places, or on their way there
pub record Homing (tells : Bool) (es : List Entry) (i : ℕ) (p : Pen) (v w : Device) : Type 0 where
  pub run : Underway tells es v w
  pub no_fault : w.faults ≡ v.faults
  pub pages : InPages es p.at (length (pending p))
  pub room : p.at + length (pending p) ≤ v.size
  pub home : IsTrue tells → AreHome (take i es) (ahead p w.held)

pub homing_start : (tells : Bool) (es : List Entry) (p : Pen) (v : Device) → Lawful tells v → p.at ≡ 0 → pending p ≡ [] → Homing tells es 0 p v v
homing_start tells es p v lawful place none =
    let n : length (pending p) ≡ 0 = ap length none in
    record {
      run = underway_start tells es v lawful;
      no_fault = refl;
      pages = in_part es 0 0 p.at (length (pending p)) (omega arith) (omega (arith, place, n)) (in_none es);
      room = omega (arith, place, n);
      home = λ told. tt;
    }

-- what was on its way goes to the disk
pub home_written : (tells : Bool) (es : List Entry) (i : ℕ) (p : Pen) (r : Result Unit Failed) (v w x : Device) → length es ≤ i → Homing tells es i p v w → Writes tells p.at (pending p) r w x → WritesHome tells es r v x
home_written tells es i p r v w x past so_far writes =
    let run = underway_more tells es p.at (length (pending p)) v w x so_far.pages so_far.run writes.within in
    record {
      keeps = run.keeps;
      home = on_ok_map r _ _ (λ written told.
          subst (λ (l : List Entry). AreHome l x.held) (take_all i es past) (subst (AreHome (take i es)) (sym (written told)) (so_far.home told))) writes.written;
      cause = λ err. rose_after v w x so_far.run.keeps.faults (writes.cause err);
      no_fault = λ done. writes.no_fault done ∙ so_far.no_fault;
      crash = run.crash;
      moments = run.moments;
    }

-- a failure on the way
pub home_failed : (tells : Bool) (es : List Entry) (i : ℕ) (p : Pen) (bytes : List ℕ) (e : Failed) (r : Result Unit Failed) (v w x : Device) → IsErr r → InPages es p.at (length bytes) → Homing tells es i p v w
    → Writes tells p.at bytes (Err e) w x → WritesHome tells es r v x
home_failed tells es i p bytes e (Ok done) v w x err here so_far writes = absurd (false≢true err)
home_failed tells es i p bytes e (Err f) v w x err here so_far writes =
    let run = underway_more tells es p.at (length bytes) v w x here so_far.run writes.within in
    record {
      keeps = run.keeps;
      home = tt;
      cause = λ failed. rose_after v w x so_far.run.keeps.faults (writes.cause refl);
      no_fault = λ done. absurd (false≢true done);
      crash = run.crash;
      moments = run.moments;
    }

-- the page of an entry
module _ (tells : Bool) (es : List Entry) (count : ℕ) (allowed : AreAllowed count es) (i : ℕ) (within : i < length es) where
  -- the next piece goes to its place
  pub homing_moved : (p q : Pen) (v w x : Device) → 4096 * (get_or es i no_entry).0 ≤ v.size → q.at + length (pending q) ≡ 4096 * (get_or es i no_entry).0 → Homing tells es i p v w → Moved tells p q w x
      → Homing tells es i q v x
  homing_moved p q v w x room place so_far (inl (stays, writes)) =
      subst (λ (b : Pen). Homing tells es i b v x) (sym stays)
      (record {
        run = underway_more tells es p.at 0 v w x (in_part es p.at (length (pending p)) p.at 0 (omega arith) (omega arith) so_far.pages) so_far.run writes.within;
        no_fault = writes.no_fault refl ∙ so_far.no_fault;
        pages = so_far.pages;
        room = so_far.room;
        home = λ told. subst (λ (l : List ℕ). AreHome (take i es) (ahead p l)) (sym (writes.written told ∙ overwritten-none p.at w.held)) (so_far.home told);
      })
  homing_moved p q v w x room place so_far (inr (none, writes)) =
      let n : length (pending q) ≡ 0 = ap length none in
      let at : 4096 * (get_or es i no_entry).0 ≡ q.at = omega (arith, place, n) in
      record {
        run = underway_more tells es p.at (length (pending p)) v w x so_far.pages so_far.run writes.within;
        no_fault = writes.no_fault refl ∙ so_far.no_fault;
        pages = subst (λ (k : ℕ). InPages es k (length (pending q))) at (in_page es count i (length (pending q)) allowed within (omega (arith, n)));
        room = omega (arith, place, room);
        home = λ told.
            subst (AreHome (take i es)) (sym (ap (λ (l : List ℕ). overwritten q.at l x.held) none ∙ overwritten-none q.at x.held ∙ writes.written told)) (so_far.home told);
      }

  module _ (p : Pen) (v w : Device) (bytes : List ℕ) (short : length bytes ≤ 4096) (so_far : Homing tells es i p v w) (place : p.at + length (pending p) ≡ 4096 * (get_or es i no_entry).0) where
    -- what is on its way with it
    pub in_both : InPages es p.at (length (pending p ++ bytes))
    in_both =
        subst (InPages es p.at) (sym (length-append (pending p) bytes))
        (in_joined es p.at (length (pending p)) (length bytes) so_far.pages
        (subst (λ (k : ℕ). InPages es k (length bytes)) (sym place) (in_page es count i (length bytes) allowed within short)))

    pub homing_added : (q : Pen) (x : Device) → Lawful tells w → IsRising 0 (2 ^ 32) es → 4096 * (get_or es i no_entry).0 + 4096 ≤ v.size → bytes ≡ home_bytes (get_or es i no_entry).1
        → IsWhole (get_or es i no_entry).1 → Adds tells bytes (Ok tt) p q w x → Homing tells es (i + 1) q v x
    homing_added q x lawful rising room is whole adds =
        let e = get_or es i no_entry in
        let a = adds.added in
        let keeps = so_far.run.keeps in
        let long : length a.written + length (pending q) ≡ length (pending p ++ bytes) = sym (length-append a.written (pending q)) ∙ ap length a.all in
        let both : length (pending p ++ bytes) ≡ length (pending p) + length bytes = length-append (pending p) bytes in
        record {
          run = underway_more tells es p.at (length a.written) v w x
              (in_part es p.at (length (pending p ++ bytes)) p.at (length a.written) (omega arith) (omega (arith, long)) in_both) so_far.run a.writes.within;
          no_fault = a.writes.no_fault refl ∙ so_far.no_fault;
          pages = in_part es p.at (length (pending p ++ bytes)) q.at (length (pending q)) (omega (arith, a.place)) (omega (arith, a.place, long)) in_both;
          room = omega (arith, a.place, long, both, place, room, short);
          home = λ told.
              let old = ahead p w.held in
              let size : length old ≡ w.size = overwritten-length p.at (pending p) w.held (omega (arith, lawful.size told, so_far.room, keeps.size)) ∙ lawful.size told in
              let is_new : ahead q x.held ≡ overwritten (4096 * e.0) bytes old =
              ahead_added tells bytes p q w x lawful told (omega (arith, place, room, short, keeps.size)) adds ∙ ap (λ (k : ℕ). overwritten k bytes old) place in
              let long_enough : 4096 * e.0 + 4096 ≤ length old = omega (arith, room, size, keeps.size) in
              let last : IsHome e.1 (bytes_at (4096 * e.0) 4096 (overwritten (4096 * e.0) bytes old)) =
              subst (λ (l : List ℕ). IsHome e.1 (bytes_at (4096 * e.0) 4096 (overwritten (4096 * e.0) l old))) (sym is) (written_home e.1 e.0 old whole long_enough) in
              let torn : Torn (4096 * e.0) (length bytes) old (overwritten (4096 * e.0) bytes old) = Torn-overwritten (4096 * e.0) bytes old (omega (arith, long_enough, short)) in
              let new = overwritten (4096 * e.0) bytes old in
              subst (AreHome (take (i + 1) es)) (sym is_new)
              (subst (λ (l : List Entry). AreHome l new) (sym (take_more es i no_entry within))
              (home_push (take i es) e new (home_keeps (take i es) 0 e.0 (length bytes) old new short torn (take_rising es 0 (2 ^ 32) i no_entry rising within) (so_far.home told)) last));
        }
