-- What the laws of answers say of readings: of a series between two stamps, of its ends and its offsets, of two series
-- as one, and of one against itself.
use Rattle.std.specs.Prelude.{◌≡◌, ℕ, ◌-◌, ◌≤◌, take, drop, unsigned_abs, ℤ, pos, ◌+ℤ◌, ◌≤ℤ◌, ◌<ℤ◌, false, Option, Some}
use Rattle.std.specs.Prelude.{None, Ok, Err, List, [], ◌++◌, length, AllPairs, Contains, ◌⊎◌}
use Rattle.std.specs.FinMap.{get}
use Rattle.ts_base.specs.declared.refusal.Refusal.TheVariants as refusals
use Rattle.ts_row.specs.declared.kind.Column.{Column}
use Rattle.ts_row.specs.Row.{Row, Element}
use Rattle.ts_pattern.specs.declared.junction.Junction.{Junction}
use Rattle.ts_pattern.specs.declared.junction.Junction.TheVariants.{And, Or}
use Rattle.ts_calendar.specs.Calendars.{IsLaid}
use Rattle.ts_command.specs.declared.command.Command.TheVariants as commands
use Rattle.ts_offset.specs.Grid.{IsOnStart, GridPlan, stamp_of}
use Rattle.ts_offset.specs.Shape.{IsLaidOut}
use Rattle.ts_offset.specs.declared.shape.Shape.{Shape}
use Rattle.ts_offset.specs.declared.shape.Shape.TheVariants as shapes
use Rattle.ts_entry.specs.Entry.{Entry}
use Rattle.ts_model.specs.Catalogue.{Irregular, Catalogue, Series, columns_of, shape_of}
use Rattle.ts_answer.specs.Answer.{Answered, outcome}
use Rattle.ts_answer.specs.Reply.{count_line, elements_text, entries_text}

-- an element of a series that isn't hidden stands at a stamp
pub record IsSeenAt (s : Series) (stamp : ℤ) (row : Row) : Type 0 where
  pub there : get s.elements stamp ≡ Some row
  pub seen : row.hidden ≡ false

-- an element that is seen stands at a stamp or later
pub record IsReached (s : Series) (stamp : ℤ) : Type 0 where
  pub last : ℤ
  pub row : Row
  pub at : IsSeenAt s last row
  pub until : stamp ≤ℤ last

-- where an element of a shape can stand: at each stamp, or at an on start that isn't before the origin
abbrev pub CanStand : Shape → ℤ → Type 0
CanStand shapes.Irregular stamp = Unit {0}
CanStand (shapes.Regular grid) stamp = IsOnStart grid.calendar stamp × (grid.origin ≤ℤ stamp)

-- the entries that have no element: none in an irregular series; on a grid there is an entry at each on start from the
-- origin up to an element that is seen
abbrev pub ArePadded : Shape → Series → ℤ → ℤ → List Entry → Type 0
ArePadded shapes.Irregular s from to rows = (stamp : ℤ) → ¬ Contains rows (stamp, None)
ArePadded (shapes.Regular grid) s from to rows =
    (start last : ℤ) (row : Row) → IsSeenAt s last row → CanStand (shapes.Regular grid) start → start ≤ℤ last
    → from ≤ℤ start → start ≤ℤ to
    → (o : Option Row) × Contains rows (start, o)

-- Entries are what is read of a series from one stamp to another: their stamps rise strictly and lie between the two,
-- those with an element have one that is seen, and each that is seen and lies between the two is among them. None
-- without an element stands behind the last that is seen.
pub record AreEntriesOf (s : Series) (shape : Shape) (from to : ℤ) (rows : List Entry) : Type 0 where
  pub rising : AllPairs (λ a b. a.0 <ℤ b.0) rows
  pub within : (e : Entry) → Contains rows e → (from ≤ℤ e.0) × (e.0 ≤ℤ to) × CanStand shape e.0
  pub theirs : (stamp : ℤ) (row : Row) → Contains rows (stamp, Some row) → IsSeenAt s stamp row
  pub each : (stamp : ℤ) (row : Row) → IsSeenAt s stamp row → CanStand shape stamp → from ≤ℤ stamp → stamp ≤ℤ to
      → Contains rows (stamp, Some row)
  pub padded : ArePadded shape s from to rows
  pub reached : (stamp : ℤ) → Contains rows (stamp, None) → IsReached s stamp

-- they are what a reply lists
pub record ListsEntries (s : Series) (shape : Shape) (from to : ℤ) (cat : Catalogue)
    (answered : Answered) : Type 0 where
  pub rows : List Entry
  pub are : AreEntriesOf s shape from to rows
  pub lines : answered ≡ (entries_text (columns_of cat s) rows, cat)

-- Clip lists them
abbrev pub ClipsListEntries : Type 0
ClipsListEntries =
    (cat : Catalogue) (answered : Answered) (key : List ℕ) (from to : ℤ) (s : Series) (shape : Shape)
    → get cat.series key ≡ Some s
    → shape_of cat s.kind ≡ Some shape → IsLaidOut shape → outcome (Ok (commands.Clip key from to)) cat
    ≡ Ok answered
    → ListsEntries s shape from to cat answered

-- one reply lists entries, and another says how many they are
pub record AreCounted (cat : Catalogue) (listed counted : Answered) : Type 0 where
  pub columns : List Column
  pub rows : List Entry
  pub lines : listed ≡ (entries_text columns rows, cat)
  pub count : counted ≡ (count_line (length rows), cat)

-- ClipGetCount says the number of what Clip lists, also where that is too large for a reply
pub record CountsAreOfClips : Type 0 where
  pub listed : (cat : Catalogue) (listed : Answered) (key : List ℕ) (from to : ℤ)
      → outcome (Ok (commands.Clip key from to)) cat ≡ Ok listed
      → (counted : Answered) × (outcome (Ok (commands.ClipGetCount key from to)) cat ≡ Ok counted)
      × AreCounted cat listed counted
  pub large : (cat : Catalogue) (key : List ℕ) (from to : ℤ) (rows : ℕ) → outcome (Ok (commands.Clip key from to)) cat
      ≡ Err (refusals.TooLarge rows)
      → outcome (Ok (commands.ClipGetCount key from to)) cat ≡ Ok (count_line rows, cat)

-- A reply lists the element at an end of a series, before or after which none is seen; or none, where none is seen at
-- all.
pub record ListsEnd (Before : ℤ → ℤ → Type 0) (s : Series) (cat : Catalogue) (answered : Answered) : Type 0 where
  pub rows : List Element
  pub one : length rows ≤ 1
  pub theirs : (stamp : ℤ) (row : Row) → Contains rows (stamp, row) → IsSeenAt s stamp row
  pub end : (stamp other : ℤ) (row another : Row) → Contains rows (stamp, row) → IsSeenAt s other another
      → Before stamp other
  pub none : rows ≡ [] → (stamp : ℤ) (row : Row) → ¬ IsSeenAt s stamp row
  pub lines : answered ≡ (elements_text (columns_of cat s) rows, cat)

-- GetFirstElem lists the first, GetLastElem the last
pub record EndsAreListed : Type 0 where
  pub first : (cat : Catalogue) (answered : Answered) (key : List ℕ) (s : Series) → get cat.series key ≡ Some s
      → outcome (Ok (commands.GetFirstElem key)) cat ≡ Ok answered
      → ListsEnd (λ stamp other. stamp ≤ℤ other) s cat answered
  pub last : (cat : Catalogue) (answered : Answered) (key : List ℕ) (s : Series) → get cat.series key ≡ Some s
      → outcome (Ok (commands.GetLastElem key)) cat ≡ Ok answered
      → ListsEnd (λ stamp other. other ≤ℤ stamp) s cat answered

-- A reply lists one entry, at the on start of an offset, if an element that is seen stands there or later, or else
-- none. It has the element that is seen there, if there is one.
pub record ListsOffset (grid : GridPlan) (n : ℕ) (s : Series) (cat : Catalogue) (answered : Answered) : Type 0 where
  pub rows : List Entry
  pub one : length rows ≤ 1
  pub at : (e : Entry) → Contains rows e → (stamp_of grid n ≡ Some e.0) × IsReached s e.0
  pub listed : (start : ℤ) → stamp_of grid n ≡ Some start → IsReached s start → (o : Option Row)
      × Contains rows (start, o)
  pub theirs : (stamp : ℤ) (row : Row) → Contains rows (stamp, Some row) → IsSeenAt s stamp row
  pub each : (stamp : ℤ) (row : Row) → stamp_of grid n ≡ Some stamp → IsSeenAt s stamp row
      → Contains rows (stamp, Some row)
  pub lines : answered ≡ (entries_text (columns_of cat s) rows, cat)

-- on a grid GetNthElem speaks of an offset
abbrev pub NumbersAreOffsets : Type 0
NumbersAreOffsets =
    (cat : Catalogue) (answered : Answered) (key : List ℕ) (n : ℕ) (s : Series) (grid : GridPlan) → get cat.series key
    ≡ Some s
    → shape_of cat s.kind ≡ Some (shapes.Regular grid) → IsLaid grid.calendar
    → outcome (Ok (commands.GetNthElem key (pos n))) cat ≡ Ok answered
    → ListsOffset grid n s cat answered

-- a series has an element at a stamp that isn't hidden
abbrev pub HasSeen : Series → ℤ → Type 0
HasSeen s stamp = (row : Row) × IsSeenAt s stamp row

-- both series have one, or one at least has
abbrev pub HaveSeen : Junction → Series → Series → ℤ → Type 0
HaveSeen And a b stamp = HasSeen a stamp × HasSeen b stamp
HaveSeen Or a b stamp = HasSeen a stamp ⊎ HasSeen b stamp

-- a reply lists rows of two series at exactly the stamps between two where they have elements
pub record ListsJoined (junction : Junction) (a b : Series) (from to : ℤ) (cat : Catalogue)
    (answered : Answered) : Type 0 where
  pub rows : List Element
  pub theirs : (stamp : ℤ) (row : Row) → Contains rows (stamp, row) → HaveSeen junction a b stamp × (from ≤ℤ stamp)
      × (stamp ≤ℤ to)
  pub each : (stamp : ℤ) → HaveSeen junction a b stamp → from ≤ℤ stamp → stamp ≤ℤ to → (row : Row)
      × Contains rows (stamp, row)
  pub lines : answered ≡ (elements_text (columns_of cat a ++ columns_of cat b) rows, cat)

-- one of two series at least is irregular
abbrev pub OneIsIrregular : Series → Series → Type 0
OneIsIrregular a b = (a.kind ≡ Irregular) ⊎ (b.kind ≡ Irregular)

-- Union lists the stamps where one at least has an element, Intersect those where both have
pub record JoinsAreByStamps : Type 0 where
  pub either : (cat : Catalogue) (answered : Answered) (first second : List ℕ) (from to : ℤ) (a b : Series)
      → get cat.series first ≡ Some a
      → get cat.series second ≡ Some b → OneIsIrregular a b → outcome (Ok (commands.Union first second from to)) cat
      ≡ Ok answered
      → ListsJoined Or a b from to cat answered
  pub both : (cat : Catalogue) (answered : Answered) (first second : List ℕ) (from to : ℤ) (a b : Series)
      → get cat.series first ≡ Some a
      → get cat.series second ≡ Some b → OneIsIrregular a b → outcome (Ok (commands.Intersect first second from to)) cat
      ≡ Ok answered
      → ListsJoined And a b from to cat answered

-- one reply lists elements, and another some of them
pub record IsPartOf (cat : Catalogue) (whole part : Answered) : Type 0 where
  pub columns : List Column
  pub rows : List Element
  pub fewer : List Element
  pub among : (e : Element) → Contains fewer e → Contains rows e
  pub lines : whole ≡ (elements_text columns rows, cat)
  pub part_lines : part ≡ (elements_text columns fewer, cat)

-- Intersect lists elements of those that Union lists with the same arguments, and isn't refused where that isn't
abbrev pub IntersectionsArePartOfUnions : Type 0
IntersectionsArePartOfUnions =
    (cat : Catalogue) (whole : Answered) (first second : List ℕ) (from to : ℤ)
    → outcome (Ok (commands.Union first second from to)) cat ≡ Ok whole
    → (part : Answered) × (outcome (Ok (commands.Intersect first second from to)) cat ≡ Ok part)
    × IsPartOf cat whole part

-- at a stamp a row stands that an element of a series has so many on starts earlier, or later where the number is
-- negative
pub record IsLagged (grid : GridPlan) (by : ℤ) (s : Series) (stamp : ℤ) (row : Row) : Type 0 where
  pub offset : ℕ
  pub at : stamp_of grid offset ≡ Some stamp
  pub source : ℕ
  pub lag : pos source +ℤ by ≡ pos offset
  pub stood : ℤ
  pub there : stamp_of grid source ≡ Some stood
  pub seen : IsSeenAt s stood row

-- a reply lists all rows that stand so, up to the last element, the stamps strictly rising
pub record ListsLagged (grid : GridPlan) (by : ℤ) (s : Series) (cat : Catalogue) (answered : Answered) : Type 0 where
  pub rows : List Element
  pub rising : AllPairs (λ a b. a.0 <ℤ b.0) rows
  pub theirs : (stamp : ℤ) (row : Row) → Contains rows (stamp, row) → IsLagged grid by s stamp row × IsReached s stamp
  pub each : (stamp : ℤ) (row : Row) → IsLagged grid by s stamp row → IsReached s stamp → Contains rows (stamp, row)
  pub lines : answered ≡ (elements_text (columns_of cat s) rows, cat)

-- Lag lists them
abbrev pub LagsAreByOffsets : Type 0
LagsAreByOffsets =
    (cat : Catalogue) (answered : Answered) (key : List ℕ) (by : ℤ) (s : Series) (grid : GridPlan) → get cat.series key
    ≡ Some s
    → shape_of cat s.kind ≡ Some (shapes.Regular grid) → IsLaid grid.calendar → outcome (Ok (commands.Lag key by)) cat
    ≡ Ok answered
    → ListsLagged grid by s cat answered

-- no entry stands behind this stamp, since no element that is seen does
abbrev pub NoneBehind : Series → ℤ → Type 0
NoneBehind s last = (stamp : ℤ) → HasSeen s stamp → stamp ≤ℤ last

-- no entry stands before this stamp: no element that is seen, or on a grid no on start from the origin on
abbrev pub NoneBefore : Series → Shape → ℤ → Type 0
NoneBefore s shapes.Irregular first = (stamp : ℤ) → HasSeen s stamp → first ≤ℤ stamp
NoneBefore s (shapes.Regular grid) first = first ≤ℤ grid.origin

-- one reply lists entries, and another those of them that are picked
pub record ListsPicked (pick : List Entry → List Entry) (cat : Catalogue) (whole part : Answered) : Type 0 where
  pub columns : List Column
  pub rows : List Entry
  pub lines : whole ≡ (entries_text columns rows, cat)
  pub picked : part ≡ (entries_text columns (pick rows), cat)

-- ClipCount lists the first so many of the entries that Clip lists from a stamp to the end of a series; or, where the
-- number is negative, the last so many of those that Clip lists from its beginning to the stamp
pub record CountedClipsAreParts : Type 0 where
  pub first : (cat : Catalogue) (whole : Answered) (key : List ℕ) (stamp last n : ℤ) (s : Series) (shape : Shape)
      → get cat.series key ≡ Some s
      → shape_of cat s.kind ≡ Some shape → pos 0 ≤ℤ n → NoneBehind s last
      → outcome (Ok (commands.Clip key stamp last)) cat ≡ Ok whole
      → (part : Answered) × (outcome (Ok (commands.ClipCount key stamp n)) cat ≡ Ok part)
      × ListsPicked (take (unsigned_abs n)) cat whole part
  pub last : (cat : Catalogue) (whole : Answered) (key : List ℕ) (first stamp n : ℤ) (s : Series) (shape : Shape)
      → get cat.series key ≡ Some s
      → shape_of cat s.kind ≡ Some shape → n <ℤ pos 0 → NoneBefore s shape first
      → outcome (Ok (commands.Clip key first stamp)) cat ≡ Ok whole
      → (part : Answered) × (outcome (Ok (commands.ClipCount key stamp n)) cat ≡ Ok part)
      × ListsPicked (λ rows. drop (length rows - unsigned_abs n) rows) cat whole part
