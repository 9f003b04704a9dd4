-- The report on what was found of a volume.
use Rattle.std.proofs.Common.{◌≡◌, ℕ, ◌+◌, ◌-◌, ◌<◌, ◌≤◌, ◌^◌, List, [], ◌++◌, length, ap, sym, ◌∙◌, subst, arith, lit<}
use Rattle.std.specs.List.{flat_map}
use Rattle.std.specs.FinMap.{entries}
use Rattle.ts_space.specs.Directory.{Directory, used_of}
use Rattle.ts_model.specs.Definitions.{Definitions}
use Rattle.ts_layout.specs.Meaning.{Layout, IsSound, catalogue_of}
use Rattle.ts_layout.proofs.CallerLemmas.{free_counted}
use Rattle.ts_container.specs.KeptCharges.{AreCharges}
use Rattle.ts_container.specs.Survey.{IsSurveyOf}
use Rattle.ts_check.specs.Report.{pages_line, line_of_container, report, IsGoodReport}
use Rattle.ts_check.specs.Listed.{lines_in_order}
use Rattle.ts_check.specs.Checked.{IsKept, IsLaidIn}
use Rattle.ts_check.proofs.ReportLemmas.{lines_of_catalogue}

-- the pages in use and the free ones are few
pub kept_few : (d : Definitions) (space : Directory) (free : List ℕ) → IsKept d space free → length free + used_of space ≤ 65536
kept_few d space free kept = omega (arith, kept.1.placed.all, kept.1.most)

-- and together all
all_pages : (l : Layout) (d : Definitions) (space : Directory) (free : List ℕ) → IsKept d space free → IsSound l → IsSurveyOf d space free l → used_of space + length free ≡ length l.element_pages
all_pages l d space free kept sound found =
    let counted = free_counted l space sound.definitions.tables found.filled found.places kept.1.placed.slots in
    omega (arith, counted, ap (λ (ns : List ℕ). length ns) found.free)

pub report_said : (d : Definitions) (space : Directory) (free charges : List ℕ) (old mid out : List ℕ) (used pages : ℕ) → IsKept d space free → AreCharges charges d space → old ≡ [] → mid ≡ old ++ lines_in_order d charges
    → used ≡ used_of space → pages ≡ used + length free → out ≡ mid ++ pages_line used pages → (l : Layout) → IsSound l → IsSurveyOf d space free l → out ≡ report (catalogue_of l) (used_of space)
report_said d space free charges old mid out used pages kept charged empty lines counts all said l sound found =
    let is_charged : AreCharges charges l.definitions space = subst (λ (x : Definitions). AreCharges charges x space) found.definitions charged in
    let named = ap (λ (x : Definitions). lines_in_order x charges) found.definitions ∙ lines_of_catalogue l space charges sound found.filled found.places is_charged in
    let whole : pages ≡ length l.element_pages = all ∙ ap (λ (n : ℕ). n + length free) counts ∙ all_pages l d space free kept sound found in
    said ∙ (λ i. (lines ∙ ap (λ (t : List ℕ). t ++ lines_in_order d charges) empty ∙ named) i ++ pages_line (counts i) (whole i))

pub good_report : (held : List ℕ) (d : Definitions) (space : Directory) (free out : List ℕ) → IsKept d space free → IsLaidIn held d space free
    → ((l : Layout) → IsSound l → IsSurveyOf d space free l → out ≡ report (catalogue_of l) (used_of space)) → IsGoodReport held out
good_report held d space free out kept laid said = record {
  cat = catalogue_of laid.layout;
  used = used_of space;
  means = laid.means;
  counted = record {
    layout = laid.layout;
    laid = laid.laid;
    counted = omega (arith, free_counted laid.layout space laid.laid.rules.definitions.tables laid.found.filled laid.found.places kept.1.placed.slots);
  };
  is = said laid.layout laid.laid.rules laid.found;
}
