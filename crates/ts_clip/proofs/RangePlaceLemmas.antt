-- The places on whose pages the elements of a range stand.
use Rattle.std.proofs.Common.{◌≡◌, ℕ, ◌-◌, ◌≤◌, All, ℤ, IsSome, List, [], ◌++◌, take, drop, refl, sym, ap, subst, ◌∙◌, arith}
use Rattle.std.specs.Prelude.{Contains}
use Rattle.std.proofs.lemmas.List.{take-append-drop}
use Rattle.std.proofs.lemmas.List.Elements.{All-nil, All-weaker, All-contains, All-contains_itself, Contains-append_left, Contains-append_right}
use Rattle.std.proofs.lemmas.List.Sums.{sum_by-append}
use Rattle.ts_space.specs.declared.place.Place.{Place}
use Rattle.ts_space.specs.Place.{count_of}
use Rattle.ts_row.specs.declared.kind.Column.{Column}
use Rattle.ts_row.specs.Row.{Element}
use Rattle.ts_calendar.specs.Calendars.{IsLaid}
use Rattle.ts_offset.specs.Grid.{GridPlan, stamp_of}
use Rattle.ts_offset.specs.declared.shape.Shape.{Shape}
use Rattle.ts_offset.specs.declared.shape.Shape.TheVariants.{Irregular, Regular}
use Rattle.ts_regular.specs.RegularPage.{OffsetElement}
use Rattle.ts_regular.specs.Places.{all_in as all_at}
use Rattle.ts_sheets.specs.Stamped.{all_in, within_range, stamped, HaveStarts}
use Rattle.ts_sheets.specs.Places.{AreChained}
use Rattle.ts_regular_edits.specs.Range.{AreOffsetsOf}
use Rattle.ts_regular_edits.proofs.RangeLemmas.{within_stamped}
use Rattle.ts_clip.specs.Between.{AreBetween}
use Rattle.ts_clip.specs.Chain.{HaveRange}
use Rattle.ts_clip.specs.Series.{HoldRange}
use Rattle.ts_clip.proofs.ChainRangeLemmas.{chained_part}
use Rattle.ts_clip.proofs.GridAmongLemmas.{all_first, all_second, among_told, among_within}
use Rattle.ts_clip.proofs.GridWithinLemmas.{within_none}

-- some of the places, one behind the other
module _ (front some back places : List Place) (parts : places ≡ front ++ (some ++ back)) where
  part_among : All (λ place. Contains places place) some
  part_among =
      All-weaker (Contains some) (Contains places)
      (λ p within. subst (λ (l : List Place). Contains l p) (sym parts) (Contains-append_right front (some ++ back) p (Contains-append_left some back p within)))
      some (All-contains_itself some)

  part_few : count_of some ≤ count_of places
  part_few =
      omega (arith, ap count_of parts, sum_by-append (λ (p : Place). p.count) front (some ++ back), sum_by-append (λ (p : Place). p.count) some back)

-- those of an irregular series: from one index on and before another
pub chain_held : (columns : List Column) (from to : ℤ) (places some : List Place) (first stop : ℕ) → HaveRange from to places first stop → some ≡ take (stop - first) (drop first places) → HoldRange Irregular columns from to places some
chain_held columns from to places some first stop range is =
    let rest : List Place = drop first places in
    let parts : places ≡ take first places ++ (some ++ drop (stop - first) rest) =
    sym (ap (λ (l : List Place). take first places ++ (l ++ drop (stop - first) rest)) is ∙ ap (λ (l : List Place). take first places ++ l) (take-append-drop (stop - first) rest) ∙ take-append-drop first places) in
    record {
      among = part_among (take first places) some (drop (stop - first) rest) places parts;
      few = part_few (take first places) some (drop (stop - first) rest) places parts;
      all = λ slot pages es have.
          let own : List (List Element) = take (stop - first) (drop first have.chain) in
          let on = chained_part slot columns pages (stop - first) first places have.chain have.on in
          (all_in own, (own, subst (λ (l : List Place). AreChained slot columns pages l own) (sym is) on, refl), sym (range slot columns pages have.chain have.on have.is.pages) ∙ ap (within_range from to) have.all);
    }

-- those of a regular series: between two offsets
module _ (grid : GridPlan) (laid : IsLaid grid.calendar) (columns : List Column) (from to : ℤ) (lower upper : ℕ) (offsets : AreOffsetsOf grid from to lower upper) (places : List Place) where
  pub grid_held : lower ≤ upper → (some : List Place) → AreBetween columns lower upper places some → HoldRange (Regular grid) columns from to places some
  grid_held order some between = record {
    among = part_among between.front some between.back places between.parts;
    few = part_few between.front some between.back places between.parts;
    all = λ slot pages es have.
        let told = among_told columns lower upper places some between slot pages have.cells have.on in
        let starts : HaveStarts grid (all_at told.own) = own_starts (all_at told.before) (all_at told.own) (all_at told.behind) (subst (HaveStarts grid) told.parts have.starts) in (
          stamped grid (all_at told.own),
          (told.own, told.on, starts, refl),
          sym (within_stamped grid laid from to lower upper offsets (all_at told.own) starts)
              ∙ ap (stamped grid) (sym (among_within columns lower upper places some between slot pages have.cells order told))
              ∙ within_stamped grid laid from to lower upper offsets (all_at have.cells) have.starts
              ∙ ap (within_range from to) have.all,
        );
  }
    where
      own_starts : (before own behind : List OffsetElement) → HaveStarts grid (before ++ (own ++ behind)) → HaveStarts grid own
      own_starts before own behind all = all_first (λ (e : OffsetElement). IsSome (stamp_of grid e.0)) own behind (all_second (λ (e : OffsetElement). IsSome (stamp_of grid e.0)) before (own ++ behind) all)

  -- of no offsets none
  pub none_held : upper ≤ lower → HoldRange (Regular grid) columns from to places []
  none_held turned = record {
    among = All-nil (λ place. Contains places place);
    few = omega arith;
    all = λ slot pages es have. (
      [],
      ([], tt, All-nil (λ (e : OffsetElement). IsSome (stamp_of grid e.0)), refl),
      sym (ap (stamped grid) (within_none lower upper (all_at have.cells) turned)) ∙ within_stamped grid laid from to lower upper offsets (all_at have.cells) have.starts ∙ ap (within_range from to) have.all,
    );
  }

-- what is so of each place is so of those of a range
pub held_each : (shape : Shape) (columns : List Column) (from to : ℤ) (places some : List Place) → HoldRange shape columns from to places some → (P : Place → Type 0) → All P places → All P some
held_each shape columns from to places some held P each = All-weaker (Contains places) P (λ place within. All-contains P places place each within) some held.among
