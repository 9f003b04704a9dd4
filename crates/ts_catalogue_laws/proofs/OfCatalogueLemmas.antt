-- The laws of answers on catalogues.
use Rattle.std.proofs.Common.{◌≡◌, ℕ, ℤ, Option, Some, None, option_map, option_and_then, Ok, Err, List, refl, sym, ap, ◌∙◌}
use Rattle.std.specs.FinMap.{get}
use Rattle.ts_base.specs.declared.refusal.Refusal.TheVariants as refusals
use Rattle.ts_row.specs.Row.{Element}
use Rattle.ts_calendar.specs.Calendars.{CalendarPlan}
use Rattle.ts_offset.specs.Grid.{GridPlan}
use Rattle.ts_offset.specs.declared.shape.Shape.{Shape}
use Rattle.ts_offset.specs.declared.shape.Shape.TheVariants as shapes
use Rattle.ts_expr.specs.Aggregates.{read_list}
use Rattle.ts_combine.specs.Combine.{lagged}
use Rattle.ts_command.specs.declared.command.Command.TheVariants as commands
use Rattle.ts_model.specs.Catalogue.{Container, SeriesKind, Irregular, Regular, Series, Catalogue, calendar_named, shape_of}
use Rattle.ts_answer.specs.Answer.{Answered, Tried, outcome, carried_out, wanted, known, a_calendar, join_calendars, create_regular, aggregate_by, lag_series}
use Rattle.ts_answer.specs.Elements.{seen_elements}
use Rattle.ts_answer.proofs.CallerLemmas.{on_ok, wanted-there}
use Rattle.ts_answer_laws.specs.Laws.{MadeCalendarsAreValid}
use Rattle.ts_answer_laws.specs.ReadingLaws.{ClipsListEntries, NumbersAreOffsets, LagsAreByOffsets, CountedClipsAreParts}
use Rattle.ts_offset.specs.Shape.{IsLaidOut}
use Rattle.ts_answer_laws.specs.SeriesLaws.{StampsAddressIntervals, OriginsAreOnStarts, SeriesKeepTheirShapes}
use Rattle.ts_answer_laws.specs.AggregateLaws.{IntervalsAreListed}
use Rattle.ts_catalogue_laws.specs.Catalogue.{IsCatalogue}
use Rattle.ts_catalogue_laws.specs.OfCatalogues.{ReferencesAreThere, ClipsOfCatalogues, NumbersOfCatalogues, LagsOfCatalogues, CountedClipsOfCatalogues, IntervalsOfCatalogues, AddressesOfCatalogues, OriginsOfCatalogues, JoinsOfCatalogues, ShapesOfCatalogues}
use Rattle.ts_catalogue_laws.proofs.ListLemmas.{one_of}
use Rattle.ts_catalogue_laws.proofs.SameLemmas.{has_columns, quota_there}
use Rattle.ts_catalogue_laws.proofs.CommandLemmas.{came, known_is, plan_named, shape_laid}

pub references_there : ReferencesAreThere
references_there cat key s good listed =
    let h = has_columns cat good key s listed in
    let x = good.series key s listed in
    let q = quota_there cat good key s listed in
    let same : q.0 ≡ h.container = one_of (get cat.containers s.container) q.0 h.container q.1 h.listed in
    record {
      container = h.container;
      container_there = h.listed;
      quota = q.2 ∙ ap (λ (c : Container). c.quota) same;
      heading = h.heading;
      heading_there = ap (option_and_then (λ (c : Container). get cat.row_types c.row_type)) h.listed ∙ h.there;
      columns = h.are;
      shape = x.shape;
      shape_there = x.shape_there;
    }

pub clips_of : ClipsListEntries → ClipsOfCatalogues
clips_of law cat answered key from to s good listed is =
    let x = good.series key s listed in
    record { shape = x.shape; is = x.shape_there; so = law cat answered key from to s x.shape listed x.shape_there (shape_laid cat good key s listed) is }

-- a regular series lies on a grid
record HasGrid (cat : Catalogue) (s : Series) : Type 0 where
  grid : GridPlan
  is : shape_of cat s.kind ≡ Some (shapes.Regular grid)
  laid : IsLaidOut (shapes.Regular grid)

grid_of : (cat : Catalogue) (s : Series) (shape : Shape) → shape_of cat s.kind ≡ Some shape → IsLaidOut shape → ((shape ≡ shapes.Irregular) → ⊥) → HasGrid cat s
grid_of cat s shapes.Irregular is laid regular = absurd (regular refl)
grid_of cat s (shapes.Regular grid) is laid regular = record { grid = grid; is = is; laid = laid }

pub regular_shape : (cat : Catalogue) (calendar : List ℕ) (origin : ℤ) (kind : SeriesKind) (shape : Shape) → kind ≡ Regular calendar origin → shape_of cat kind ≡ Some shape → shape ≡ shapes.Irregular → ⊥
regular_shape cat calendar origin Irregular shape is lies same = absurd (let never : ⊥ = cc in never)
regular_shape cat calendar origin (Regular name start) shape is lies same = by (calendar_named cat name) (lies ∙ ap Some same) where
  by : (o : Option CalendarPlan) → option_map (λ (plan : CalendarPlan). shapes.Regular (record { calendar = plan; origin = start })) o ≡ Some shapes.Irregular → ⊥
  by None at = let never : ⊥ = cc in never
  by (Some plan) at = let never : ⊥ = cc in never

has_grid : (cat : Catalogue) (good : IsCatalogue cat) (key calendar : List ℕ) (origin : ℤ) (s : Series) → (listed : get cat.series key ≡ Some s) → s.kind ≡ Regular calendar origin → HasGrid cat s
has_grid cat good key calendar origin s listed kind =
    let x = good.series key s listed in
    grid_of cat s x.shape x.shape_there (shape_laid cat good key s listed) (regular_shape cat calendar origin s.kind x.shape kind x.shape_there)

pub numbers_of : NumbersAreOffsets → NumbersOfCatalogues
numbers_of law cat answered key calendar n origin s good listed kind is =
    let g = has_grid cat good key calendar origin s listed kind in
    record { grid = g.grid; is = g.is; so = law cat answered key n s g.grid listed g.is g.laid is }

lag_regular : (cat : Catalogue) (answered : Answered) (key : List ℕ) (by : ℤ) (s : Series) → get cat.series key ≡ Some s → outcome (Ok (commands.Lag key by)) cat ≡ Ok answered → (shape : Shape) → shape_of cat s.kind ≡ Some shape → shape ≡ shapes.Irregular → ⊥
unfolding outcome carried_out lag_series
lag_regular cat answered key by s listed is shape lies same =
    let named = sym (on_ok (wanted key cat.series) s _ (wanted-there key cat.series s listed)) ∙ is in
    let x = came (known (shape_of cat s.kind)) _ answered named in
    let rows = came (lagged x.0 by (seen_elements s.elements)) _ answered x.2 in
    let at : x.0 ≡ shapes.Irregular = one_of (shape_of cat s.kind) x.0 shape (known_is (shape_of cat s.kind) x.0 x.1) lies ∙ same in
    let wrong : Tried (List Element) = Err refusals.NotRegular in
    let refused : wrong ≡ Ok rows.0 = sym (ap (λ (y : Shape). lagged y by (seen_elements s.elements)) at) ∙ rows.1 in
    let never : ⊥ = cc in never

pub lags_of : LagsAreByOffsets → LagsOfCatalogues
lags_of law cat answered key by s good listed is =
    let x = good.series key s listed in
    let g = grid_of cat s x.shape x.shape_there (shape_laid cat good key s listed) (lag_regular cat answered key by s listed is x.shape x.shape_there) in
    record { grid = g.grid; is = g.is; so = law cat answered key by s g.grid listed g.is g.laid is }

pub counted_of : CountedClipsAreParts → CountedClipsOfCatalogues
counted_of law = record {
  first = λ cat whole key stamp last n s good listed some none is. let x = good.series key s listed in law.first cat whole key stamp last n s x.shape listed x.shape_there some none is;
  last = λ cat whole key first stamp n s good listed less none is. let x = good.series key s listed in law.last cat whole key first stamp n s x.shape listed x.shape_there less (none x.shape x.shape_there) is;
}

pub intervals_of : IntervalsAreListed → IntervalsOfCatalogues
unfolding outcome carried_out aggregate_by
intervals_of law cat answered text calendar key from to s good listed is =
    let items = came (read_list text) _ answered is in
    let plan = came (a_calendar calendar cat) _ answered items.2 in
    record {
      plan = plan.0;
      is = plan.1;
      so = law cat answered text calendar key from to s plan.0 listed (λ stamp row at. (good.series key s listed).stamps stamp row at.there) plan.1 (plan_named cat good calendar plan.0 plan.1).laid is;
    }

irregular_shape : (cat : Catalogue) (kind : SeriesKind) → kind ≡ Irregular → shape_of cat kind ≡ Some shapes.Irregular
irregular_shape cat Irregular is = refl
irregular_shape cat (Regular calendar origin) is = absurd (let never : ⊥ = cc in never)

pub addresses_of : StampsAddressIntervals → AddressesOfCatalogues
addresses_of law = record {
  any = λ cat s stamp kind. law.any cat s stamp (irregular_shape cat s.kind kind);
  grid = λ cat key calendar origin s good listed kind.
      let g = has_grid cat good key calendar origin s listed kind in
      record {
        grid = g.grid;
        is = g.is;
        so = record {
          there = λ stamp at is. law.there cat s g.grid stamp at g.is g.laid is;
          before = λ stamp is. law.before cat s g.grid stamp g.is g.laid is;
          off = λ stamp is. law.off cat s g.grid stamp g.is g.laid is;
        };
      };
}

pub origins_of : OriginsAreOnStarts → OriginsOfCatalogues
unfolding outcome carried_out create_regular
origins_of law cat answered key calendar container given good stamp is =
    let plan = came (a_calendar calendar cat) _ answered is in
    record { plan = plan.0; is = plan.1; so = law cat answered key calendar container given plan.0 plan.1 (plan_named cat good calendar plan.0 plan.1).laid stamp is }

pub joins_of : MadeCalendarsAreValid → JoinsOfCatalogues
unfolding outcome carried_out join_calendars
joins_of law = record {
  both = λ cat answered name first second good is.
      let a = came (a_calendar first cat) _ answered is in
      law.both cat answered name first second a.0 a.1 (plan_named cat good first a.0 a.1).laid is;
  either = λ cat answered name first second good is.
      let a = came (a_calendar first cat) _ answered is in
      law.either cat answered name first second a.0 a.1 (plan_named cat good first a.0 a.1).laid is;
}

pub shapes_of : SeriesKeepTheirShapes → ShapesOfCatalogues
shapes_of law cat command key s after good listed left =
    let x = good.series key s listed in
    record { shape = x.shape; is = x.shape_there; so = law cat command key s after x.shape listed left x.shape_there }
