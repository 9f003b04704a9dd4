-- Marks that cover a catalogue cover it with more marks, and cover the one after a command whose series was marked.
use Rattle.std.proofs.Common.{◌≡◌, ℕ, false, Option, Some, None, is_some, Ok, List, refl, sym, ◌∙◌, subst}
use Rattle.ts_command.specs.declared.command.Command.{Command}
use Rattle.ts_model.specs.declared.kind.Kind.TheVariants as kinds
use Rattle.ts_model.specs.Catalogue.{Catalogue}
use Rattle.ts_model.specs.Definitions.{Definitions, slot_of, slots}
use Rattle.ts_layout.specs.Laws.{NamesStandInSlots}
use Rattle.ts_layout.specs.Meaning.{Layout, catalogue_of}
use Rattle.ts_answer.specs.Answer.{Answered, outcome}
use Rattle.ts_hidden.specs.Marks.{Cover, Include, IsNoted, IsNowhere}
use Rattle.ts_hidden.proofs.LawLemmas.{no_other_hides}

pub covered_more : (marks more : List (List ℕ)) (cat : Catalogue) → Include more marks → Cover marks cat → Cover more cat
covered_more marks more cat include cover key none = cover key (include key none)

pub covered_after : (marks : List (List ℕ)) (command : Command) (d : Definitions) (l : Layout) (answered : Answered) → d ≡ l.definitions → IsNoted command d marks
    → outcome (Ok command) (catalogue_of l) ≡ Ok answered → Cover marks (catalogue_of l) → Cover marks answered.1
covered_after marks command d l answered same noted is cover key none =
    no_other_hides (catalogue_of l) command answered key is (λ hides s there. let never = sym (noted key hides none l (sym same)) ∙ there in cc) (cover key none)

pub none_is : (o : Option ℕ) → is_some o ≡ false → o ≡ None
none_is None is = refl
none_is (Some slot) is = absurd (cc)

-- no slot has its key
pub nowhere : NamesStandInSlots → (key : List ℕ) (d : Definitions) → slot_of key (slots kinds.Series d) ≡ None → IsNowhere key d
nowhere names key d none l same = names.none_found kinds.Series l key (subst (λ (x : Definitions). slot_of key (slots kinds.Series x) ≡ None) (sym same) none)
