-- Definitions without a series: they keep their rules, and the columns of every other series.
use Rattle.std.proofs.Common.{◌≡◌, ◌≢◌, ℕ, zero, suc, ◌<◌, Some, None, refl, ap, ◌∙◌, arith, get_or-set_other}
use Rattle.std.specs.Option.{option_and_then}
use Rattle.ts_model.specs.declared.kind.Kind.{Kind}
use Rattle.ts_model.specs.declared.kind.Kind.TheVariants as kinds
use Rattle.ts_model.specs.declared.def.Def.{Def}
use Rattle.ts_model.specs.declared.def.Def.TheVariants as defs
use Rattle.ts_model.specs.Definitions.{Definitions, SeriesDef, at_slot, with_slot, Refers, IsUsed}
use Rattle.ts_layout.specs.Meaning.{heading_at, heading_in, shape_of, shape_at, AreSound, HaveOrigins}
use Rattle.ts_layout.proofs.FilledLemmas.{at_cleared, table_cleared}
use Rattle.ts_layout.proofs.ReferLemmas.{shape_same, origin_same, and_then_same, limits_cleared, references_cleared}

-- the columns of every other series stay
pub heading_stays : (d : Definitions) (slot s : ℕ) → s ≢ slot → heading_at (with_slot kinds.Series slot None d) s ≡ heading_at d s
heading_stays d slot s other = ap (option_and_then (λ (x : SeriesDef). heading_in d x.container)) (get_or-set_other d.series slot s None None other)

-- and so does where its elements can stand
pub shape_stays : (d : Definitions) (slot s : ℕ) → s ≢ slot → shape_at (with_slot kinds.Series slot None d) s ≡ shape_at d s
shape_stays d slot s other =
    ap (option_and_then (λ (x : SeriesDef). shape_of (with_slot kinds.Series slot None d) x.regular)) (get_or-set_other d.series slot s None None other)
    ∙ and_then_same (λ (x : SeriesDef). shape_of (with_slot kinds.Series slot None d) x.regular) (λ (x : SeriesDef). shape_of d x.regular) (at_slot s d.series)
    (λ x here. shape_same d (with_slot kinds.Series slot None d) x.regular (λ at origin is. refl))

-- nothing refers to a series
no_row_type : kinds.RowType ≡ kinds.Series → ⊥
no_row_type same = cc

no_pattern : kinds.Pattern ≡ kinds.Series → ⊥
no_pattern same = cc

no_container : kinds.Container ≡ kinds.Series → ⊥
no_container same = cc

no_calendar : kinds.Calendar ≡ kinds.Series → ⊥
no_calendar same = cc

no_one_refers : (slot : ℕ) (def : Def) → Refers def kinds.Series slot → ⊥
no_one_refers slot (defs.RowType name kind) (k, below, is) = absurd (omega (arith, below))
no_one_refers slot (defs.Pattern name pattern) (k, below, is) = absurd (omega (arith, below))
no_one_refers slot (defs.Calendar name calendar None) (k, below, is) = absurd (omega (arith, below))
no_one_refers slot (defs.Calendar name calendar (Some at)) (zero, below, is) = no_pattern (ap (λ (t : Kind × ℕ). t.0) is)
no_one_refers slot (defs.Calendar name calendar (Some at)) (suc k, below, is) = absurd (omega (arith, below))
no_one_refers slot (defs.Container name row_type quota) (zero, below, is) = no_row_type (ap (λ (t : Kind × ℕ). t.0) is)
no_one_refers slot (defs.Container name row_type quota) (suc k, below, is) = absurd (omega (arith, below))
no_one_refers slot (defs.Series key container regular) (zero, below, is) = no_container (ap (λ (t : Kind × ℕ). t.0) is)
no_one_refers slot (defs.Series key container None) (suc k, below, is) = absurd (omega (arith, below))
no_one_refers slot (defs.Series key container (Some regular)) (suc zero, below, is) = no_calendar (ap (λ (t : Kind × ℕ). t.0) is)
no_one_refers slot (defs.Series key container (Some regular)) (suc (suc k), below, is) = absurd (omega (arith, below))

series_unused : (slot : ℕ) (d : Definitions) → IsUsed kinds.Series slot d → ⊥
series_unused slot d (user, (i, def, low, here, refers)) = no_one_refers slot def refers

origins_kept : (d : Definitions) (slot pages : ℕ) → slot < 4096 → AreSound pages d → HaveOrigins (with_slot kinds.Series slot None d)
origins_kept d slot pages small sound i s here =
    let old = (at_cleared d.series slot i s (omega (arith, small, sound.tables.series.size)) here).1 in
    origin_same d (with_slot kinds.Series slot None d) s.regular (λ at origin is. refl) (sound.origins i s old)

pub sound_kept : (d : Definitions) (slot pages : ℕ) → slot < 4096 → AreSound pages d → AreSound pages (with_slot kinds.Series slot None d)
sound_kept d slot pages small sound = record {
  tables = record {
    format = sound.tables.format;
    row_types = sound.tables.row_types;
    patterns = sound.tables.patterns;
    calendars = sound.tables.calendars;
    containers = sound.tables.containers;
    series = table_cleared (λ s. s.key) 4096 slot d.series small sound.tables.series;
  };
  limits = limits_cleared kinds.Series slot d small sound.tables sound.limits;
  references = references_cleared kinds.Series slot d small sound.tables (series_unused slot d) sound.references;
  follow = sound.follow;
  valid = sound.valid;
  quotas = sound.quotas;
  origins = origins_kept d slot pages small sound;
}
