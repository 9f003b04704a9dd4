-- What is kept stays kept, whatever the pages hold, where the places of one series change, or memory was taken.
use Rattle.std.specs.Prelude.{IsPermutation}
use Rattle.std.proofs.Common.{◌≡◌, ◌≢◌, ℕ, ◌+◌, ◌-◌, ◌<◌, ◌≤◌, Some, None, List, [], ◌++◌, get_or, set, get_or-set_same, get_or-set_other, refl, sym, ap, subst, ◌∙◌, arith}
use Rattle.std.proofs.lemmas.List.{append-nil}
use Rattle.std.proofs.lemmas.List.Elements.{All-nil}
use Rattle.ts_row.specs.Row.{Heading}
use Rattle.ts_space.specs.declared.place.Place.{Place}
use Rattle.ts_page.specs.Pages.{Contents, first_element_page}
use Rattle.ts_space.specs.Place.{pages_of}
use Rattle.ts_space.specs.Directory.{Directory, places_of}
use Rattle.ts_cells.specs.IrregularPage.{page_room}
use Rattle.ts_offset.specs.declared.shape.Shape.{Shape}
use Rattle.ts_model.specs.declared.kind.Kind.TheVariants as kinds
use Rattle.ts_model.specs.Definitions.{Definitions, ContainerDef, SeriesDef, at_slot, with_slot, IsDefinitions}
use Rattle.ts_layout.specs.Sheets.{room_of}
use Rattle.ts_layout.specs.Meaning.{heading_of_container, shape_at}
use Rattle.ts_layout.specs.Charges.{container_charge, KeepQuotas}
use Rattle.ts_layout.specs.Placed.{IsPlaceIn, AreMoved, ArePlaced, AreKept}
use Rattle.ts_layout.proofs.PlacedLemmas.{placed_same, placed_moved, placed_without, places_moved}
use Rattle.ts_layout.proofs.DefinedKeptLemmas.{charges_less, same_places, series_quotas}
use Rattle.ts_layout.proofs.QuotaLemmas.{quotas_put}
use Rattle.ts_layout.proofs.NamedChargeLemmas.{columns_there}
use Rattle.ts_layout.proofs.ClearedLemmas.{sound_kept}

-- what is kept stays kept where the places of one series change: its definitions stay, or it goes with its places
pub edited_kept : (d : Definitions) (space space' : Directory) (free free' : List ℕ) (count : ℕ) → AreKept d space free count → ArePlaced d space' free' count → KeepQuotas d space' → AreKept d space' free' count
edited_kept d space space' free free' count kept placed quotas = record { some = kept.some; most = kept.most; sound = kept.sound; placed = placed; quotas = quotas }

others_stay : (space space' : Directory) (slot : ℕ) (new : List Place) → space'.lists ≡ set space.lists slot new → (t : ℕ) → t < 4096 → t ≢ slot → places_of t space' ≡ places_of t space
others_stay space space' slot new lists t low other = ap (λ (ls : List (List Place)). get_or ls t []) lists ∙ get_or-set_other space.lists slot t new [] other

pub places_kept : (d : Definitions) (space space' : Directory) (count slot : ℕ) (s : SeriesDef) (c : ContainerDef) (h : Heading) (shape : Shape) (new : List Place) (v w : Contents) → AreKept d space v.free count → slot < 4096 → at_slot slot d.series ≡ Some s → at_slot s.container d.containers ≡ Some c
    → heading_of_container d c ≡ Some h → shape_at d slot ≡ Some shape → space'.lists ≡ set space.lists slot new → AreMoved (room_of shape h.columns) (places_of slot space) new v w → container_charge d space' s.container (page_room h.columns) ≤ c.quota → AreKept d space' w.free count
places_kept d space space' count slot s c h shape new v w kept within there at heading lies lists moved paid =
    edited_kept d space space' v.free w.free count kept (places_moved d space space' count slot h shape new v w kept.placed within (columns_there d slot s c h there at heading) lies lists moved)
    (quotas_put d space space' (count - first_element_page) slot s c h kept.sound kept.quotas there at heading (others_stay space space' slot new lists) paid)

pub series_gone_kept : (d : Definitions) (space space' : Directory) (free free' : List ℕ) (count slot : ℕ) → AreKept d space free count → slot < 4096 → space'.lists ≡ set space.lists slot [] → IsPermutation (free ++ pages_of (places_of slot space)) free' → AreKept (with_slot kinds.Series slot None d) space' free' count
series_gone_kept d space space' free free' count slot kept within lists freed =
    let none : places_of slot space' ≡ [] = ap (λ (ls : List (List Place)). get_or ls slot []) lists ∙ get_or-set_same space.lists slot [] [] (omega (arith, within, kept.placed.slots)) in
    let moved : IsPermutation (free ++ pages_of (places_of slot space)) (free' ++ []) = subst (λ (l : List ℕ). IsPermutation (free ++ pages_of (places_of slot space)) l) (sym (append-nil free')) freed in
    let placed : ArePlaced d space' free' count = placed_moved d space space' count slot [] free free' kept.placed within lists moved tt (All-nil (IsPlaceIn d count slot)) in
    record {
      some = kept.some;
      most = kept.most;
      sound = sound_kept d slot (count - first_element_page) within kept.sound;
      placed = placed_without d space' free' count slot placed none;
      quotas = series_quotas d space space' slot None kept.sound.tables kept.quotas none (others_stay space space' slot [] lists);
    }

-- the same lists of places; memory that was taken plays no part
alike_quotas : (d : Definitions) (space space' : Directory) → IsDefinitions d → KeepQuotas d space → space'.lists ≡ space.lists → KeepQuotas d space'
alike_quotas d space space' rules kept lists k small c h there heading =
    let before = kept k small c h there heading in
    let less : container_charge d space' k (page_room h.columns) ≤ container_charge d space k (page_room h.columns) =
    charges_less space space' k (page_room h.columns) 0 d.series d.series refl (λ j low.
    let same = same_places space space' k (page_room h.columns) (0 + j) (at_slot j d.series) (ap (λ (ls : List (List Place)). get_or ls (0 + j) []) lists) in omega (arith, same)) in
    omega (arith, before, less)

pub kept_alike : (d d' : Definitions) (space space' : Directory) (free free' : List ℕ) (count count' : ℕ) → AreKept d space free count → d' ≡ d → space'.lists ≡ space.lists → free' ≡ free → count' ≡ count → AreKept d' space' free' count'
kept_alike d d' space space' free free' count count' kept definitions lists frees counts =
    let alike : AreKept d space' free count = record {
      some = kept.some;
      most = kept.most;
      sound = kept.sound;
      placed = placed_same d space space' free free count count kept.placed lists refl refl;
      quotas = alike_quotas d space space' kept.sound.tables kept.quotas lists;
    } in
    subst (λ (x : Definitions). AreKept x space' free' count') (sym definitions) (subst (λ (n : ℕ). AreKept d space' free' n) (sym counts) (subst (λ (ns : List ℕ). AreKept d space' ns count) (sym frees) alike))
