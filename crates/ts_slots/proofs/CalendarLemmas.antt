-- The page of a calendar: what stands before its pattern, and which pattern it has.
use Rattle.std.proofs.Common.{◌≡◌, ℕ, ◌-◌, ℤ, Option, List, ◌∷◌, ◌++◌, length, take, drop, ap, ◌∙◌, arith, append_assoc}
use borrow.Rule.Slice.PartMut.{put_mid}
use Rattle.ts_calendar.specs.Calendars.{CalendarPlan}
use Rattle.ts_cells.specs.IrregularPage.{stamp_bytes}
use Rattle.ts_layout.specs.Slot.{padded, name_bytes, part_bytes, calendar_bytes}
use Rattle.ts_slots.specs.Written.{front_bytes}
use Rattle.ts_slots.proofs.PartLemmas.{parts}

-- the front with what follows it
pub front_joined : (name : List ℕ) (start patt_start : ℤ) (rest : List ℕ) → front_bytes name start patt_start ++ rest ≡ 1 ∷ (name_bytes name ++ (stamp_bytes start ++ (stamp_bytes patt_start ++ rest)))
front_joined name start patt_start rest =
    ap (λ (l : List ℕ). 1 ∷ l)
    (append_assoc (name_bytes name) (stamp_bytes start ++ stamp_bytes patt_start) rest ∙ ap (λ (l : List ℕ). name_bytes name ++ l) (append_assoc (stamp_bytes start) (stamp_bytes patt_start) rest))

-- both written into a page
pub calendar_whole : (name : List ℕ) (c : CalendarPlan) (by : Option ℕ) (page cell rest : List ℕ) → cell ≡ front_bytes name c.start c.patt_start → rest ≡ padded 4046 (part_bytes c.pattern by)
    → length cell ≡ length (take 50 page) → length rest ≡ length (take (length (put_mid 0 50 page cell) - 50) (drop 50 (put_mid 0 50 page cell))) → length page ≡ 4096
    → put_mid 50 (length (put_mid 0 50 page cell) - 50) (put_mid 0 50 page cell) rest ≡ calendar_bytes name c by
unfolding calendar_bytes
calendar_whole name c by page cell rest first second width long size =
    parts 50 page cell rest (front_bytes name c.start c.patt_start) (padded 4046 (part_bytes c.pattern by)) first second width long (omega arith)
    ∙ front_joined name c.start c.patt_start (padded 4046 (part_bytes c.pattern by))
