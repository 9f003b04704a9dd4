-- What is printed of a calendar is read again.
use Rattle.std.proofs.Common.{◌≡◌, ℕ, List, [], ◌∷◌, ◌++◌, refl, sym, ap, ◌∙◌, append_assoc, Some, Ok, ℤ, pos, ◌+ℤ◌, ◌*ℤ◌}
use Rattle.std.specs.Prelude.{codes}
use Rattle.ts_base.specs.Moment.{IsStamp, civil_of, day_of, clock_of, read_stamp, stamp_text}
use Rattle.ts_base.proofs.RoundTrip.{read_stamp-text}
use Rattle.ts_pattern.specs.Patterns.{printed_plan}
use Rattle.ts_text.specs.Parted.{IsParted}
use Rattle.ts_text.proofs.CallerLemmas.{parted-blanks}
use Rattle.ts_pattern.specs.Spelling.{Word}
use Rattle.ts_pattern.proofs.PrintLemmas.{plan-itself, words_of, words-are, plan-parted}
use Rattle.ts_calendar.specs.declared.text.PatternPart.{PatternPart}
use Rattle.ts_calendar.specs.declared.text.PatternPart.TheVariants.{Named, Own}
use Rattle.ts_calendar.specs.declared.text.CalendarText.{CalendarText}
use Rattle.ts_calendar.specs.Calendars.{own_part, part_of_written, with_part, calendar_or_place, read_calendar, printed_part, printed_calendar, IsSoundPart, IsSound}
use Rattle.ts_calendar.specs.Spelling.{part_tokens, IsPart, IsCalendarText}
use Rattle.ts_calendar.proofs.StampLemmas.{dated}
use Rattle.ts_calendar.proofs.TextLemmas.{read}

-- a printed stamp is read
stamp-printed : (t : ℤ) → IsStamp t → read_stamp (stamp_text t) ≡ Some t
unfolding stamp_text
stamp-printed t h =
    let d = dated t h in
    let civil = civil_of (day_of t) in
    read_stamp-text civil (clock_of t) d.year_low d.valid d.clock
    ∙ ap (λ n. Some (n *ℤ pos 8_640_000_000 +ℤ pos (clock_of t))) d.number ∙ ap Some (sym d.whole)

-- a printed part is made of its tokens
record IsPrinted (part : PatternPart) : Type 0 where
  words : List Word
  is : IsPart part words
  parted : IsParted (part_tokens part words) (printed_part part)

part-printed : (part : PatternPart) → IsSoundPart part → IsPrinted part
part-printed (Named name) h = record {
  words = [];
  is = h;
  parted = (
    [],
    40 ∷ (name ++ 41 ∷ []),
    refl,
    append_assoc (codes "pattname(") name (41 ∷ []),
    ([], name ++ 41 ∷ [], refl, refl, ([], 41 ∷ [], refl, refl, ([], [], refl, refl, refl))),
  );
}
part-printed (Own p) h = record {
  words = words_of p.runs;
  is = words-are p h;
  parted = (
    [],
    40 ∷ (printed_plan p ++ 41 ∷ []),
    refl,
    append_assoc (codes "pattern(") (printed_plan p) (41 ∷ []),
    ([], printed_plan p ++ 41 ∷ [], refl, refl, plan-parted p (41 ∷ []) ((41 ∷ []) ∷ []) h ([], [], refl, refl, refl)),
  );
}

regroup : (a s b p d t : List ℕ) → a ++ s ++ b ++ p ++ d ++ t ≡ a ++ (s ++ (b ++ (p ++ (d ++ t))))
regroup a s b p d t = simp append_assoc

-- and so is a printed calendar
text-printed : (c : CalendarText) → IsSound c → IsCalendarText c (printed_calendar c)
text-printed c h =
    let s = stamp_text c.start in
    let p = stamp_text c.patt_start in
    let part = part-printed c.part h.part_is in
    let last = 32 ∷ printed_part c.part in
    let second = 41 ∷ 44 ∷ last in
    let first = 41 ∷ 44 ∷ 32 ∷ (codes "pattstart" ++ (40 ∷ (p ++ second))) in
    record {
      start_text = s;
      patt_start_text = p;
      words = part.words;
      start_is = stamp-printed c.start h.start_is;
      patt_start_is = stamp-printed c.patt_start h.patt_start_is;
      part_is = part.is;
      parted = (
        [],
        40 ∷ (s ++ first),
        refl,
        regroup (codes "startdate(") s (codes "), pattstart(") p (codes "), ") (printed_part c.part),
        (
          [],
          s ++ first,
          refl,
          refl,
          (
            [],
            first,
            refl,
            refl,
            (
              [],
              44 ∷ 32 ∷ (codes "pattstart" ++ (40 ∷ (p ++ second))),
              refl,
              refl,
              (
                [],
                32 ∷ (codes "pattstart" ++ (40 ∷ (p ++ second))),
                refl,
                refl,
                (
                  32 ∷ [],
                  40 ∷ (p ++ second),
                  refl,
                  refl,
                  (
                    [],
                    p ++ second,
                    refl,
                    refl,
                    (
                      [],
                      second,
                      refl,
                      refl,
                      (
                        [],
                        44 ∷ last,
                        refl,
                        refl,
                        (
                          [],
                          last,
                          refl,
                          refl,
                          parted-blanks (32 ∷ []) (printed_part c.part) (part_tokens c.part part.words) refl part.parted,
                        ),
                      ),
                    ),
                  ),
                ),
              ),
            ),
          ),
        ),
      );
    }

-- the part is the one of its own runs
part-itself : (part : PatternPart) → IsSoundPart part → part_of_written part ≡ Ok part
part-itself (Named name) h = refl
part-itself (Own p) h = ap own_part (plan-itself p h)

pub read-printed : (c : CalendarText) → IsSound c → read_calendar (printed_calendar c) ≡ Ok c
read-printed c h =
    ap calendar_or_place (read (printed_calendar c) c (text-printed c h))
    ∙ ap (with_part c) (part-itself c.part h.part_is)
