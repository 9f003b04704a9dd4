-- A command that changes one slot of the definitions, on pages.
use Rattle.std.proofs.Common.{◌≡◌, ℕ, ◌+◌, ◌-◌, ◌<◌, ◌≤◌, Bool, true, IsTrue, Option, Ok, IsPermutation, List, length, refl, ap, sym, ◌∙◌, subst, arith}
use Rattle.ts_command.specs.declared.command.Command.{Command}
use Rattle.ts_page.specs.Pages.{Contents, first_element_page}
use Rattle.ts_model.specs.declared.kind.Kind.{Kind}
use Rattle.ts_model.specs.declared.def.Def.{Def}
use Rattle.ts_model.specs.Definitions.{Definitions, limit, with_slot}
use Rattle.ts_model.proofs.PartsLemmas.{format-stays}
use Rattle.ts_space.specs.Directory.{Directory}
use Rattle.ts_layout.specs.Meaning.{AreOfFormat, Layout, HoldsLayout, IsSound}
use Rattle.ts_layout.specs.Slot.{page_of_slot}
use Rattle.ts_layout.specs.Changed.{with_slot_bytes, layout_with, KeepsElements}
use Rattle.ts_layout.specs.Chains.{bare}
use Rattle.ts_layout.specs.Surveyed.{free_pages}
use Rattle.ts_layout.specs.Placed.{AreKept}
use Rattle.ts_layout.proofs.CallerLemmas.{layout_written, bare_sound, bare_filled, bare_size}
use Rattle.ts_container.specs.Survey.{SlotWritten}
use Rattle.ts_answer.specs.declared.effect.Effect.TheVariants.{Slot}
use Rattle.ts_answer.specs.View.{view, IsDefinedBy, Shows, KeepsRules}
use Rattle.ts_answer.specs.CarriedOut.{CarriedOut, Comes}
use Rattle.ts_command.specs.Boundary.{is_writing}
use Rattle.ts_answer.specs.Decided.{IsDecision, FitsSlot, made_line}
use Rattle.ts_answer.proofs.CallerLemmas.{defined_by, grows_one}

-- pages with a slot written hold the layout with that definition
slot_work : (tells : Bool) (told : IsTrue tells) (kind : Kind) (slot : ℕ) (def : Option Def) (l : Layout) (v w : Contents) → slot < limit kind → IsSound l → KeepsElements (with_slot kind slot def l.definitions) l → HoldsLayout v.page l
    → SlotWritten tells kind slot def (Ok tt) v w → HoldsLayout w.page (layout_with kind slot def l)
slot_work tells told kind slot def l v w within rules headings holds written =
    layout_written kind slot (with_slot_bytes kind slot def (v.page (page_of_slot kind slot))) v.page w.page (with_slot kind slot def l.definitions) l (format-stays kind slot def l.definitions) within holds (written.written told)
    (written.definitions told l.definitions rules.definitions.tables holds.definitions) headings

-- what was decided is written into its slot, and its line is said
module _ (tells : Bool) (kind : Kind) (slot : ℕ) (def : Option Def) (command : Command) (d : Definitions) (space : Directory) (v w : Contents) (decision : IsDecision kind command (Ok (slot, def)) d v.count) (fits : FitsSlot kind slot def d)
    (written : SlotWritten tells kind slot def (Ok tt) v w) where
  -- what is in memory keeps its rules, whatever the pages hold: its definitions are those of a layout without elements
  keeps : KeepsRules (view d space v) → KeepsRules (view (with_slot kind slot def d) space w)
  keeps kept =
      let some = kept.some in
      let most = kept.most in
      let size = bare_size v.count d (omega (arith, some)) in
      let by : IsDefinedBy d v.count (bare (v.count - first_element_page) d) = record { definitions = refl; size = size; rules = bare_sound (v.count - first_element_page) d (omega (arith, some)) (omega (arith, most)) kept.sound; filled = bare_filled (v.count - first_element_page) d } in
      let now = (decision (bare (v.count - first_element_page) d) by).ok.2.kept space v.free v.count size kept in
      subst (λ (n : ℕ). AreKept (with_slot kind slot def d) space w.free n) (sym written.count) (subst (λ (ns : List ℕ). AreKept (with_slot kind slot def d) space ns v.count) (sym written.free) now)

  comes : (l : Layout) → Shows tells (view d space v) l → Comes tells command (Slot kind slot def) (made_line def) (view d space v) w l
  comes l shows =
      let kept = shows.kept in
      let decided = (decision l (defined_by kept)).ok in
      let defines = decided.2 in
      record {
        layout = layout_with kind slot def l;
        shows = record {
          kept = record {
            definitions = ap (with_slot kind slot def) kept.definitions;
            size = written.count ∙ kept.size;
            places = kept.places;
            free = subst (λ (ns : List ℕ). IsPermutation ns (free_pages l)) (sym written.free) kept.free;
            rules = defines.rules;
            filled = λ i s sheet is.
                let known = kept.filled i s sheet is in
                record {
                  heading = known.heading;
                  shape = known.shape;
                  columns = defines.headings.headings i s sheet is ∙ known.columns;
                  lies = defines.headings.shapes i s sheet is ∙ known.lies;
                  fill = known.fill;
                  of_format = subst (λ (n : ℕ). AreOfFormat n sheet.1) (sym (format-stays kind slot def l.definitions)) known.of_format;
                };
          };
          holds = λ told. slot_work tells told kind slot def l v w fits.within kept.rules defines.headings (shows.holds told) written;
        };
        comes = λ told. decided.1 ∙ ap Ok defines.comes;
      }

  pub redefined : is_writing command ≡ true → (out : List ℕ) → out ≡ made_line def → w.change_bytes ≤ v.change_bytes + 4101 → CarriedOut tells command (Ok (Slot kind slot def)) out (view d space v) w
  redefined writes out said bytes = record {
    keeps = keeps;
    done = λ told l shows. subst (λ (text : List ℕ). Comes tells command (Slot kind slot def) text (view d space v) w l) (sym said) (comes l shows);
    applies = fits;
    reads = λ reads. absurd (cc);
    stays = λ none. absurd (cc);
    stopped = tt;
    count = written.count;
    grows = let free = ap (λ (ns : List ℕ). length ns) written.free in grows_one command v w (omega (arith, bytes, free));
    no_fault = written.no_fault (λ failed. cc);
  }
